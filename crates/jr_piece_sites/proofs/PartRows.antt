-- The parts of a piece are its children that are expressions or statements, by their numbers.
use Rattle.std.proofs.Common.{◌≡◌, ℕ, zero, suc, ◌+◌, List, [], ◌∷◌, ◌++◌, length, map, Option, Some, None, option_map, refl, ap, ◌∙◌, arith}
use Rattle.std.specs.Prelude.{option_and_then}
use Rattle.std.specs.List.{slice_get}
use Rattle.std.proofs.lemmas.List.{length-map}
use Rattle.jr_ast.specs.Tree as tree
use Rattle.jr_ast.specs.StatementTree as statement
use Rattle.jr_ast.specs.MemberTree as declared
use Rattle.jr_ast.specs.Nodes as nodes
use Rattle.jr_ast.specs.Nodes.{Node, exps, stmts, maybe, exp_children, stmt_children, member_children, args_children, child_of}
use Rattle.jr_piece_sites.specs.Parts.{behind, nth_behind, only}
use Rattle.jr_piece_sites.specs.Pieces as piece
use Rattle.jr_piece_sites.specs.Pieces.{Piece, node_of, part_of, nth_stmt, nth_exp, exps_then, in_constructor, maybe_at, method_front, constructor_front, member_part}

module _ {A : Type 0} where
  abbrev pub as_piece : Node A → Option (Piece A)
  as_piece (nodes.exp e) = Some (piece.exp e)
  as_piece (nodes.stmt s) = Some (piece.stmt s)
  as_piece (nodes.unit u) = None
  as_piece (nodes.class c) = None
  as_piece (nodes.modifier m) = None
  as_piece (nodes.word w) = None
  as_piece (nodes.type t) = None
  as_piece (nodes.param p) = None
  as_piece (nodes.member m) = None

  abbrev pub found : List (Node A) → ℕ → Option (Piece A)
  found ns i = option_and_then as_piece (slice_get ns i)

  abbrev NoPieces : List (Node A) → Type 0
  NoPieces [] = Unit {0}
  NoPieces (n ∷ ns) = (as_piece n ≡ None) × NoPieces ns

  nth_found : (es : tree.Exps A) (i : ℕ) → found (exps es) i ≡ nth_exp es i
  nth_found tree.end i = refl
  nth_found (tree.more e es) zero = refl
  nth_found (tree.more e es) (suc i) = nth_found es i

  stmts_found : (ss : statement.Stmts A) (i : ℕ) → found (stmts ss) i ≡ nth_stmt ss i
  stmts_found statement.end i = refl
  stmts_found (statement.more s ss) zero = refl
  stmts_found (statement.more s ss) (suc i) = stmts_found ss i

  exps_then_found : (es : tree.Exps A) (b : statement.Stmts A) (i : ℕ) → found (exps es ++ stmts b) i ≡ exps_then es b i
  exps_then_found tree.end b i = stmts_found b i
  exps_then_found (tree.more e es) b zero = refl
  exps_then_found (tree.more e es) b (suc i) = exps_then_found es b i

  in_constructor_found : (args : Option (tree.Exps A)) (b : statement.Stmts A) (i : ℕ) → found (args_children args ++ stmts b) i ≡ in_constructor args b i
  in_constructor_found None b i = stmts_found b i
  in_constructor_found (Some es) b i = exps_then_found es b i

  maybe_found : (e : Option (tree.Exp A)) (i : ℕ) → found (maybe (option_map nodes.exp e)) i ≡ maybe_at 0 e i
  maybe_found None i = refl
  maybe_found (Some e) zero = refl
  maybe_found (Some e) (suc i) = refl

  moved : (j k : ℕ) (f : ℕ → Option (Piece A)) (i : ℕ) → j ≡ k → behind None j f i ≡ behind None k f i
  moved j k f i e = ap (λ (n : ℕ). behind None n f i) e

  past_more : (ns ms : List (Node A)) → NoPieces ns → (k : ℕ) (f : ℕ → Option (Piece A)) → ((i : ℕ) → found ms i ≡ behind None k f i) → (j : ℕ) → j ≡ length ns + k → (i : ℕ) → found (ns ++ ms) i ≡ behind None j f i
  past_more [] ms none k f h j e i = h i ∙ moved k j f i (omega (arith, e))
  past_more (n ∷ ns) ms none k f h zero e i = absurd (omega (arith, e))
  past_more (n ∷ ns) ms none k f h (suc j) e zero = none.0
  past_more (n ∷ ns) ms none k f h (suc j) e (suc i) = past_more ns ms none.1 k f h j (omega (arith, e)) i

  modifiers_none : (ms : List (declared.Modifier A)) → NoPieces (map nodes.modifier ms)
  modifiers_none [] = tt
  modifiers_none (m ∷ ms) = (refl, modifiers_none ms)

  params_none : (ps : List (declared.Param A)) → NoPieces (map nodes.param ps)
  params_none [] = tt
  params_none (p ∷ ps) = (refl, params_none ps)

  result_none : (t : Option (tree.TypeName A)) → NoPieces (maybe (option_map nodes.type t))
  result_none None = tt
  result_none (Some t) = (refl, tt)

  field_found : (mods : List (declared.Modifier A)) (t : tree.TypeName A) (w : tree.Word A) (init : Option (tree.Exp A)) (i : ℕ)
      → found (map nodes.modifier mods ++ (nodes.type t ∷ (nodes.word w ∷ maybe (option_map nodes.exp init)))) i ≡ behind None (suc (suc (length mods))) (maybe_at 0 init) i
  field_found mods t w init i =
      let l = length-map mods nodes.modifier in
      past_more (map nodes.modifier mods) (nodes.type t ∷ (nodes.word w ∷ maybe (option_map nodes.exp init))) (modifiers_none mods) 2 (maybe_at 0 init)
      (past_more (nodes.type t ∷ (nodes.word w ∷ [])) (maybe (option_map nodes.exp init)) (refl, (refl, tt)) 0 (maybe_at 0 init) (maybe_found init) 2 refl) (suc (suc (length mods))) (omega (arith, l)) i

  method_found : (mods : List (declared.Modifier A)) (t : Option (tree.TypeName A)) (w : tree.Word A) (ps : List (declared.Param A)) (body : statement.Stmts A) (i : ℕ)
      → found (map nodes.modifier mods ++ (maybe (option_map nodes.type t) ++ (nodes.word w ∷ (map nodes.param ps ++ stmts body)))) i ≡ behind None (method_front mods t ps) (nth_stmt body) i
  method_found mods t w ps body i =
      let l = length-map mods nodes.modifier in
      let q = length-map ps nodes.param in
      let f = nth_stmt body in
      let b = suc (length ps) in
      let c = length (maybe (option_map nodes.type t)) + b in
      let params = past_more (map nodes.param ps) (stmts body) (params_none ps) 0 f (stmts_found body) (length ps) (omega (arith, q)) in
      let named = past_more (nodes.word w ∷ []) (map nodes.param ps ++ stmts body) (refl, tt) (length ps) f params b (omega arith) in
      let typed = past_more (maybe (option_map nodes.type t)) (nodes.word w ∷ (map nodes.param ps ++ stmts body)) (result_none t) b f named c refl in
      past_more (map nodes.modifier mods) (maybe (option_map nodes.type t) ++ (nodes.word w ∷ (map nodes.param ps ++ stmts body))) (modifiers_none mods) c f typed (method_front mods t ps) (omega (arith, l)) i

  constructor_found : (mods : List (declared.Modifier A)) (w : tree.Word A) (ps : List (declared.Param A)) (args : Option (tree.Exps A)) (body : statement.Stmts A) (i : ℕ)
      → found (map nodes.modifier mods ++ (nodes.word w ∷ (map nodes.param ps ++ (args_children args ++ stmts body)))) i ≡ behind None (constructor_front mods ps) (in_constructor args body) i
  constructor_found mods w ps args body i =
      let l = length-map mods nodes.modifier in
      let q = length-map ps nodes.param in
      let f = in_constructor args body in
      let b = suc (length ps) in
      let params = past_more (map nodes.param ps) (args_children args ++ stmts body) (params_none ps) 0 f (in_constructor_found args body) (length ps) (omega (arith, q)) in
      let named = past_more (nodes.word w ∷ []) (map nodes.param ps ++ (args_children args ++ stmts body)) (refl, tt) (length ps) f params b (omega arith) in
      past_more (map nodes.modifier mods) (nodes.word w ∷ (map nodes.param ps ++ (args_children args ++ stmts body))) (modifiers_none mods) b f named (constructor_front mods ps) (omega (arith, l)) i

  member_is : (m : declared.Member A) (i : ℕ) → found (member_children m) i ≡ member_part m i
  unfolding member_children
  member_is (declared.field m mods t w init) i = field_found mods t w init i
  member_is (declared.method m mods t w ps body) i = method_found mods t w ps body i
  member_is (declared.constructor m mods w ps args body) i = constructor_found mods w ps args body i
  member_is (declared.inner m c) zero = refl
  member_is (declared.inner m c) (suc i) = refl

  stmt_is : (s : statement.Stmt A) (i : ℕ) → found (stmt_children s) i ≡ part_of (piece.stmt s) i
  unfolding stmt_children
  stmt_is (statement.local m f t w e) zero = refl
  stmt_is (statement.local m f t w e) (suc zero) = refl
  stmt_is (statement.local m f t w e) (suc (suc zero)) = refl
  stmt_is (statement.local m f t w e) (suc (suc (suc i))) = refl
  stmt_is (statement.eval m e) zero = refl
  stmt_is (statement.eval m e) (suc i) = refl
  stmt_is (statement.branch m c s o) zero = refl
  stmt_is (statement.branch m c s o) (suc zero) = refl
  stmt_is (statement.branch m c s statement.no_else) (suc (suc zero)) = refl
  stmt_is (statement.branch m c s (statement.otherwise z)) (suc (suc zero)) = refl
  stmt_is (statement.branch m c s statement.no_else) (suc (suc (suc i))) = refl
  stmt_is (statement.branch m c s (statement.otherwise z)) (suc (suc (suc i))) = refl
  stmt_is (statement.loop m c s) zero = refl
  stmt_is (statement.loop m c s) (suc zero) = refl
  stmt_is (statement.loop m c s) (suc (suc i)) = refl
  stmt_is (statement.return m e) i = maybe_found e i
  stmt_is (statement.block m b) i = stmts_found b i
  stmt_is (statement.sync m e b) zero = refl
  stmt_is (statement.sync m e b) (suc i) = stmts_found b i
  stmt_is (statement.empty m) i = refl

  one_is : (e : tree.Exp A) (i : ℕ) → found (nodes.exp e ∷ []) i ≡ option_map piece.exp (only 0 e i)
  one_is e zero = refl
  one_is e (suc i) = refl

  none_is : (n : Node A) → as_piece n ≡ None → (i : ℕ) → found (n ∷ []) i ≡ None
  none_is n h zero = h
  none_is n h (suc i) = refl

  -- behind a word or a type
  args_is : (n : Node A) → as_piece n ≡ None → (es : tree.Exps A) (i : ℕ) → found (n ∷ exps es) i ≡ option_map piece.exp (nth_behind es 1 i)
  args_is n h es zero = h
  args_is n h es (suc i) = nth_found es i

  exp_is : (e : tree.Exp A) (i : ℕ) → found (exp_children e) i ≡ part_of (piece.exp e) i
  unfolding exp_children
  exp_is (tree.number m n) i = refl
  exp_is (tree.truth m b) i = refl
  exp_is (tree.null m) i = refl
  exp_is (tree.string m s) i = refl
  exp_is (tree.name m w) i = none_is (nodes.word w) refl i
  exp_is (tree.field m e w) zero = refl
  exp_is (tree.field m e w) (suc zero) = refl
  exp_is (tree.field m e w) (suc (suc i)) = refl
  exp_is (tree.super_field m w) i = none_is (nodes.word w) refl i
  exp_is (tree.this m) i = refl
  exp_is (tree.class_literal m t) i = none_is (nodes.type t) refl i
  exp_is (tree.call m tree.no_target w es) i = args_is (nodes.word w) refl es i
  exp_is (tree.call m (tree.on e) w es) zero = refl
  exp_is (tree.call m (tree.on e) w es) (suc i) = args_is (nodes.word w) refl es i
  exp_is (tree.super_call m w es) i = args_is (nodes.word w) refl es i
  exp_is (tree.create m t es) i = args_is (nodes.type t) refl es i
  exp_is (tree.paren m e) i = one_is e i
  exp_is (tree.cast m t e) zero = refl
  exp_is (tree.cast m t e) (suc zero) = refl
  exp_is (tree.cast m t e) (suc (suc i)) = refl
  exp_is (tree.unary m op e) i = one_is e i
  exp_is (tree.bump m op e) i = one_is e i
  exp_is (tree.binary m op l r) zero = refl
  exp_is (tree.binary m op l r) (suc zero) = refl
  exp_is (tree.binary m op l r) (suc (suc i)) = refl
  exp_is (tree.assign m l r) zero = refl
  exp_is (tree.assign m l r) (suc zero) = refl
  exp_is (tree.assign m l r) (suc (suc i)) = refl
  exp_is (tree.compound m op l r) zero = refl
  exp_is (tree.compound m op l r) (suc zero) = refl
  exp_is (tree.compound m op l r) (suc (suc i)) = refl

  pub child_is : (x : Piece A) (i : ℕ) → option_and_then as_piece (child_of (node_of x) i) ≡ part_of x i
  child_is (piece.member m) i = member_is m i
  child_is (piece.stmt s) i = stmt_is s i
  child_is (piece.exp e) i = exp_is e i
