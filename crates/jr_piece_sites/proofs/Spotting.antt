-- The parts of a piece on its spots are those of the piece, with their spots.
use Rattle.std.proofs.Common.{◌≡◌, ℕ, zero, suc, ◌+◌, List, [], ◌∷◌, length, Option, Some, None, option_map, refl, sym, ap, ◌∙◌, arith}
use Rattle.jr_text.specs.declared.spans.Span.{Span}
use Rattle.jr_ast.specs.Tree as tree
use Rattle.jr_ast.specs.StatementTree as statement
use Rattle.jr_ast.specs.MemberTree as declared
use Rattle.jr_ast.specs.Nodes.{exps}
use Rattle.jr_cover.specs.Spots.{Spot, onto, spot_exp, spot_exps, spot_maybe, spot_stmt, spot_else, spot_stmts, spot_member, spot_modifiers, spot_params, spot_result, result_count, spot_args, args_count, exps_count}
use Rattle.jr_expr_sites.specs.Routes.{begins_by, ends_by}
use Rattle.jr_piece_sites.specs.Parts.{behind, nth, nth_behind}
use Rattle.jr_piece_sites.specs.Pieces as piece
use Rattle.jr_piece_sites.specs.Pieces.{Piece, mark_of, part_of, nth_stmt, nth_exp, exps_then, in_constructor, maybe_at, as_only, method_front, constructor_front, results, arguments, member_part, stmt_part, spotted}

-- ---- counting from a number on

pub behind_map : {X Y : Type 0} (h : X → Y) (k : ℕ) (f : ℕ → Option X) (i : ℕ) → option_map h (behind None k f i) ≡ behind None k (λ j. option_map h (f j)) i
behind_map h zero f i = refl
behind_map h (suc k) f zero = refl
behind_map h (suc k) f (suc i) = behind_map h k f i

behind_same : {X Y : Type 0} (S : ℕ → X → Y) (k : ℕ) (f : ℕ → Option Y) (g : ℕ → Option X) → ((j n : ℕ) → n ≡ k + j → f j ≡ option_map (S n) (g j)) → (i : ℕ) → behind None k f i ≡ option_map (S i) (behind None k g i)
behind_same S zero f g h i = h i i (omega arith)
behind_same S (suc k) f g h zero = refl
behind_same S (suc k) f g h (suc i) = behind_same (λ n. S (suc n)) k f g (λ j n e. h j (suc n) (omega (arith, e))) i

module _ {A : Type 0} (tells : A → ℕ → Span) where
  abbrev B : A → ℕ → ℕ
  B = begins_by tells

  abbrev E : A → ℕ → ℕ
  E = ends_by tells

  module _ (at : ℕ) (p : List ℕ) where
    -- the part of the number, in its place
    abbrev S : ℕ → Piece A → Piece Spot
    S n y = spotted tells at (onto p n) y

    exps_same : (es : tree.Exps A) (k j n : ℕ) → n ≡ k + j → nth_exp (spot_exps B E es at p k) j ≡ option_map (S n) (nth_exp es j)
    unfolding spot_exps
    exps_same tree.end k j n e = refl
    exps_same (tree.more x es) k zero n e = let h : k ≡ n = omega (arith, e) in ap (λ (q : ℕ). Some (piece.exp (spot_exp B E x at (onto p q)))) h
    exps_same (tree.more x es) k (suc j) n e = exps_same es (suc k) j n (omega (arith, e))

    stmts_same : (ss : statement.Stmts A) (k j n : ℕ) → n ≡ k + j → nth_stmt (spot_stmts B E ss at p k) j ≡ option_map (S n) (nth_stmt ss j)
    unfolding spot_stmts
    stmts_same statement.end k j n e = refl
    stmts_same (statement.more x ss) k zero n e = let h : k ≡ n = omega (arith, e) in ap (λ (q : ℕ). Some (piece.stmt (spot_stmt B E x at (onto p q)))) h
    stmts_same (statement.more x ss) k (suc j) n e = stmts_same ss (suc k) j n (omega (arith, e))

    -- one expression of the number k
    one_same : (e : tree.Exp A) (k j n : ℕ) → n ≡ k + j → nth_exp (tree.more (spot_exp B E e at (onto p k)) tree.end) j ≡ option_map (S n) (nth_exp (tree.more e tree.end) j)
    one_same x k zero n e = let h : k ≡ n = omega (arith, e) in ap (λ (q : ℕ). Some (piece.exp (spot_exp B E x at (onto p q)))) h
    one_same x k (suc j) n e = refl

    only_same : (k : ℕ) (e : tree.Exp A) (i : ℕ) → as_only k (spot_exp B E e at (onto p k)) i ≡ option_map (S i) (as_only k e i)
    only_same k e i =
        behind_map piece.exp k (nth (tree.more (spot_exp B E e at (onto p k)) tree.end)) i
        ∙ behind_same S k (nth_exp (tree.more (spot_exp B E e at (onto p k)) tree.end)) (nth_exp (tree.more e tree.end)) (one_same e k) i
        ∙ ap (option_map (S i)) (sym (behind_map piece.exp k (nth (tree.more e tree.end)) i))

    args_same : (es : tree.Exps A) (i : ℕ) → option_map piece.exp (nth_behind (spot_exps B E es at p 1) 1 i) ≡ option_map (S i) (option_map piece.exp (nth_behind es 1 i))
    args_same es i =
        behind_map piece.exp 1 (nth (spot_exps B E es at p 1)) i ∙ behind_same S 1 (nth_exp (spot_exps B E es at p 1)) (nth_exp es) (exps_same es 1) i
        ∙ ap (option_map (S i)) (sym (behind_map piece.exp 1 (nth es) i))

    -- behind a target
    more_args_same : (es : tree.Exps A) (i : ℕ) → option_map piece.exp (nth_behind (spot_exps B E es at p 2) 1 i) ≡ option_map (S (suc i)) (option_map piece.exp (nth_behind es 1 i))
    more_args_same es i =
        behind_map piece.exp 1 (nth (spot_exps B E es at p 2)) i ∙ behind_same (λ n. S (suc n)) 1 (nth_exp (spot_exps B E es at p 2)) (nth_exp es) (λ j n e. exps_same es 2 j (suc n) (omega (arith, e))) i
        ∙ ap (option_map (S (suc i))) (sym (behind_map piece.exp 1 (nth es) i))

    maybe_same : (k : ℕ) (e : Option (tree.Exp A)) (j n : ℕ) → n ≡ k + j → maybe_at 0 (spot_maybe B E e at (onto p k)) j ≡ option_map (S n) (maybe_at 0 e j)
    maybe_same k None j n e = refl
    maybe_same k (Some x) j n e = one_same x k j n e

    exps_then_same : (es : tree.Exps A) (b : statement.Stmts A) (k l j n : ℕ) → l ≡ k + length (exps es) → n ≡ k + j → exps_then (spot_exps B E es at p k) (spot_stmts B E b at p l) j ≡ option_map (S n) (exps_then es b j)
    unfolding spot_exps
    exps_then_same tree.end b k l j n d e = stmts_same b l j n (omega (arith, d, e))
    exps_then_same (tree.more x es) b k l zero n d e = let h : k ≡ n = omega (arith, e) in ap (λ (q : ℕ). Some (piece.exp (spot_exp B E x at (onto p q)))) h
    exps_then_same (tree.more x es) b k l (suc j) n d e = exps_then_same es b (suc k) l j n (omega (arith, d)) (omega (arith, e))

    in_constructor_same : (args : Option (tree.Exps A)) (b : statement.Stmts A) (k l j n : ℕ) → l ≡ k + arguments args → n ≡ k + j → in_constructor (spot_args B E args at p k) (spot_stmts B E b at p l) j ≡ option_map (S n) (in_constructor args b j)
    in_constructor_same None b k l j n d e = stmts_same b l j n (omega (arith, d, e))
    in_constructor_same (Some es) b k l j n d e = exps_then_same es b k l j n d e

  -- ---- kinds of pieces

  exp_same : (e : tree.Exp A) (b : ℕ) (p : List ℕ) (i : ℕ) → part_of (piece.exp (spot_exp B E e b p)) i ≡ option_map (S (B (mark_of (piece.exp e)) b) p i) (part_of (piece.exp e) i)
  unfolding spot_exp spot_exps
  exp_same (tree.number m n) b p i = refl
  exp_same (tree.truth m v) b p i = refl
  exp_same (tree.null m) b p i = refl
  exp_same (tree.string m s) b p i = refl
  exp_same (tree.name m w) b p i = refl
  exp_same (tree.field m e w) b p i = only_same (B m b) p 0 e i
  exp_same (tree.super_field m w) b p i = refl
  exp_same (tree.this m) b p i = refl
  exp_same (tree.class_literal m t) b p i = refl
  exp_same (tree.call m tree.no_target w es) b p i = args_same (B m b) p es i
  exp_same (tree.call m (tree.on e) w es) b p zero = refl
  exp_same (tree.call m (tree.on e) w es) b p (suc i) = more_args_same (B m b) p es i
  exp_same (tree.super_call m w es) b p i = args_same (B m b) p es i
  exp_same (tree.create m t es) b p i = args_same (B m b) p es i
  exp_same (tree.paren m e) b p i = only_same (B m b) p 0 e i
  exp_same (tree.cast m t e) b p i = only_same (B m b) p 1 e i
  exp_same (tree.unary m op e) b p i = only_same (B m b) p 0 e i
  exp_same (tree.bump m op e) b p i = only_same (B m b) p 0 e i
  exp_same (tree.binary m op l r) b p zero = refl
  exp_same (tree.binary m op l r) b p (suc zero) = refl
  exp_same (tree.binary m op l r) b p (suc (suc i)) = refl
  exp_same (tree.assign m l r) b p zero = refl
  exp_same (tree.assign m l r) b p (suc zero) = refl
  exp_same (tree.assign m l r) b p (suc (suc i)) = refl
  exp_same (tree.compound m op l r) b p zero = refl
  exp_same (tree.compound m op l r) b p (suc zero) = refl
  exp_same (tree.compound m op l r) b p (suc (suc i)) = refl

  stmt_same : (s : statement.Stmt A) (b : ℕ) (p : List ℕ) (i : ℕ) → stmt_part (spot_stmt B E s b p) i ≡ option_map (S (B (mark_of (piece.stmt s)) b) p i) (stmt_part s i)
  unfolding spot_stmt spot_else spot_stmts
  stmt_same (statement.local m f t w e) b p i = only_same (B m b) p 2 e i
  stmt_same (statement.eval m e) b p i = only_same (B m b) p 0 e i
  stmt_same (statement.branch m c s o) b p zero = refl
  stmt_same (statement.branch m c s o) b p (suc zero) = refl
  stmt_same (statement.branch m c s statement.no_else) b p (suc (suc zero)) = refl
  stmt_same (statement.branch m c s (statement.otherwise z)) b p (suc (suc zero)) = refl
  stmt_same (statement.branch m c s o) b p (suc (suc (suc i))) = refl
  stmt_same (statement.loop m c s) b p zero = refl
  stmt_same (statement.loop m c s) b p (suc zero) = refl
  stmt_same (statement.loop m c s) b p (suc (suc i)) = refl
  stmt_same (statement.return m e) b p i = maybe_same (B m b) p 0 e i i (omega arith)
  stmt_same (statement.block m body) b p i = stmts_same (B m b) p body 0 i i (omega arith)
  stmt_same (statement.sync m e body) b p zero = refl
  stmt_same (statement.sync m e body) b p (suc i) = stmts_same (B m b) p body 1 i (suc i) (omega arith)
  stmt_same (statement.empty m) b p i = refl

  -- ---- members: numbers of parts

  pub modifiers_size : (ms : List (declared.Modifier A)) (b : ℕ) (p : List ℕ) (k : ℕ) → length (spot_modifiers B E ms b p k) ≡ length ms
  modifiers_size [] b p k = refl
  modifiers_size (m ∷ ms) b p k = ap suc (modifiers_size ms b p (suc k))

  pub params_size : (ps : List (declared.Param A)) (b : ℕ) (p : List ℕ) (k : ℕ) → length (spot_params B E ps b p k) ≡ length ps
  params_size [] b p k = refl
  params_size (x ∷ ps) b p k = ap suc (params_size ps b p (suc k))

  pub result_size : (t : Option (tree.TypeName A)) (b : ℕ) (p : List ℕ) (k : ℕ) → results (spot_result B E t b p k) ≡ results t
  result_size None b p k = refl
  result_size (Some t) b p k = refl

  pub result_is : (t : Option (tree.TypeName A)) → result_count B E t ≡ results t
  result_is None = refl
  result_is (Some t) = refl

  exps_are : (es : tree.Exps A) → exps_count B E es ≡ length (exps es)
  exps_are tree.end = refl
  exps_are (tree.more e es) = ap suc (exps_are es)

  pub arguments_are : (args : Option (tree.Exps A)) → args_count B E args ≡ arguments args
  arguments_are None = refl
  arguments_are (Some es) = exps_are es

  pub method_number : (mods : List (declared.Modifier A)) (t : Option (tree.TypeName A)) (ps : List (declared.Param A)) → suc (length mods + result_count B E t) + length ps ≡ method_front mods t ps
  method_number mods t ps = let r = result_is t in omega (arith, r)

  moved : (j k : ℕ) (f : ℕ → Option (Piece Spot)) (i : ℕ) → j ≡ k → behind None j f i ≡ behind None k f i
  moved j k f i e = ap (λ (n : ℕ). behind None n f i) e

  member_same : (m : declared.Member A) (b : ℕ) (p : List ℕ) (i : ℕ) → member_part (spot_member B E m b p) i ≡ option_map (S (B (mark_of (piece.member m)) b) p i) (member_part m i)
  unfolding spot_member
  member_same (declared.field m mods t w init) b p i =
      let at = B m b in
      let k = suc (suc (length mods)) in
      let f = maybe_at 0 (spot_maybe B E init at (onto p k)) in
      let l = modifiers_size mods at p 0 in
      moved (suc (suc (length (spot_modifiers B E mods at p 0)))) k f i (ap (λ (n : ℕ). suc (suc n)) l) ∙ behind_same (S at p) k f (maybe_at 0 init) (maybe_same at p k init) i
  member_same (declared.method m mods t w ps body) b p i =
      let at = B m b in
      let k = suc (length mods + result_count B E t) + length ps in
      let f = nth_stmt (spot_stmts B E body at p k) in
      let l = modifiers_size mods at p 0 in
      let r = result_size t at p (length mods) in
      let q = params_size ps at p (suc (length mods + result_count B E t)) in
      let n = result_is t in
      moved (method_front (spot_modifiers B E mods at p 0) (spot_result B E t at p (length mods)) (spot_params B E ps at p (suc (length mods + result_count B E t)))) k f i (omega (arith, l, r, q, n))
      ∙ behind_same (S at p) k f (nth_stmt body) (stmts_same at p body k) i ∙ ap (λ (j : ℕ). option_map (S at p i) (behind None j (nth_stmt body) i)) (method_number mods t ps)
  member_same (declared.constructor m mods w ps args body) b p i =
      let at = B m b in
      let k = suc (length mods) + length ps in
      let f = in_constructor (spot_args B E args at p k) (spot_stmts B E body at p (k + args_count B E args)) in
      let l = modifiers_size mods at p 0 in
      let q = params_size ps at p (suc (length mods)) in
      let n = arguments_are args in
      moved (constructor_front (spot_modifiers B E mods at p 0) (spot_params B E ps at p (suc (length mods)))) k f i (omega (arith, l, q))
      ∙ behind_same (S at p) k f (in_constructor args body) (λ j n' e. in_constructor_same at p args body k (k + args_count B E args) j n' (ap (λ (z : ℕ). k + z) n) e) i
  member_same (declared.inner m c) b p i = refl

  pub part_same : (x : Piece A) (b : ℕ) (p : List ℕ) (i : ℕ) → part_of (spotted tells b p x) i ≡ option_map (spotted tells (B (mark_of x) b) (onto p i)) (part_of x i)
  part_same (piece.member m) b p i = member_same m b p i
  part_same (piece.stmt s) b p i = stmt_same s b p i
  part_same (piece.exp e) b p i = exp_same e b p i
