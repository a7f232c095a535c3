-- Paths lead from piece to piece: a node of a member is a piece of it, or has no expressions and
-- statements below.
use Rattle.std.proofs.Common.{◌≡◌, ◌⊎◌, inl, inr, ℕ, zero, suc, List, [], ◌∷◌, ◌++◌, map, length, take, drop, Option, Some, None, option_map, refl, sym, ap, subst, ◌∙◌, arith}
use Rattle.std.specs.Prelude.{option_and_then}
use Rattle.std.specs.List.{slice_get}
use Rattle.std.proofs.lemmas.Option.{none-some, same_Some}
use Rattle.jr_ast.specs.Tree as tree
use Rattle.jr_ast.specs.StatementTree as statement
use Rattle.jr_ast.specs.MemberTree as declared
use Rattle.jr_ast.specs.Nodes as nodes
use Rattle.jr_ast.specs.Nodes.{Node, node_at, exp_at, stmt_at, child_of, children_of, maybe, type_children}
use Rattle.jr_runs.specs.Keys.{Keys}
use Rattle.jr_cover.specs.Ways.{sites_of}
use Rattle.jr_cover.specs.Sites.{Known, stmts_way}
use Rattle.jr_piece_sites.specs.PartSites.{part_sites, parts_sites}
use Rattle.jr_piece_sites.specs.Pieces as piece
use Rattle.jr_piece_sites.specs.Pieces.{Piece, node_of, part_of, piece_at, IsOwner}
use Rattle.jr_piece_sites.specs.Leads.{AllStmts, IsStmt}
use Rattle.jr_piece_sites.proofs.PartRows.{as_piece, child_is}

module _ {A : Type 0} where
  -- a node below which no expression and no statement stands
  abbrev pub IsLow : Node A → Type 0
  IsLow (nodes.unit u) = ⊥
  IsLow (nodes.class c) = ⊥
  IsLow (nodes.member m) = ⊥
  IsLow (nodes.modifier m) = Unit {0}
  IsLow (nodes.word w) = Unit {0}
  IsLow (nodes.type t) = Unit {0}
  IsLow (nodes.param p) = Unit {0}
  IsLow (nodes.stmt s) = ⊥
  IsLow (nodes.exp e) = ⊥

  abbrev AllLow : List (Node A) → Type 0
  AllLow [] = Unit {0}
  AllLow (n ∷ ns) = IsLow n × AllLow ns

  got_low : (ns : List (Node A)) (i : ℕ) (n : Node A) → AllLow ns → slice_get ns i ≡ Some n → IsLow n
  got_low [] i n all e = absurd (none-some n e)
  got_low (m ∷ ns) zero n all e = subst IsLow (same_Some m n e) all.0
  got_low (m ∷ ns) (suc i) n all e = got_low ns i n all.1 e

  type_low : (t : tree.TypeName A) → AllLow (type_children t)
  type_low (tree.int m) = tt
  type_low (tree.boolean m) = tt
  type_low (tree.named m None w) = (tt, tt)
  type_low (tree.named m (Some o) w) = (tt, (tt, tt))

  children_low : (n : Node A) → IsLow n → AllLow (children_of n)
  children_low (nodes.modifier m) low = tt
  children_low (nodes.word w) low = tt
  children_low (nodes.type t) low = type_low t
  children_low (nodes.param p) low = (tt, (tt, tt))
  children_low (nodes.unit u) low = absurd low
  children_low (nodes.class c) low = absurd low
  children_low (nodes.member m) low = absurd low
  children_low (nodes.stmt s) low = absurd low
  children_low (nodes.exp e) low = absurd low

  low_path : (n : Node A) (path : List ℕ) (m : Node A) → IsLow n → node_at n path ≡ Some m → IsLow m
  unfolding node_at
  low_path n [] m low e = subst IsLow (same_Some n m e) low
  low_path n (i ∷ path) m low e = go (child_of n i) (λ c is. got_low (children_of n) i c (children_low n low) is) (λ c. low_path c path m) e
    where
      go : (o : Option (Node A)) → ((c : Node A) → o ≡ Some c → IsLow c) → ((c : Node A) → IsLow c → node_at c path ≡ Some m → IsLow m) → option_and_then (λ c. node_at c path) o ≡ Some m → IsLow m
      go None l on h = absurd (none-some m h)
      go (Some c) l on h = on c (l c refl) h

  -- ---- the children of a piece

  abbrev pub IsOwning : Piece A → Type 0
  IsOwning (piece.member m) = IsOwner m
  IsOwning (piece.stmt s) = Unit {0}
  IsOwning (piece.exp e) = Unit {0}

  -- no unit, class or member
  abbrev IsSmall : Node A → Type 0
  IsSmall (nodes.unit u) = ⊥
  IsSmall (nodes.class c) = ⊥
  IsSmall (nodes.member m) = ⊥
  IsSmall (nodes.modifier m) = Unit {0}
  IsSmall (nodes.word w) = Unit {0}
  IsSmall (nodes.type t) = Unit {0}
  IsSmall (nodes.param p) = Unit {0}
  IsSmall (nodes.stmt s) = Unit {0}
  IsSmall (nodes.exp e) = Unit {0}

  abbrev AllSmall : List (Node A) → Type 0
  AllSmall [] = Unit {0}
  AllSmall (n ∷ ns) = IsSmall n × AllSmall ns

  got_small : (ns : List (Node A)) (i : ℕ) (n : Node A) → AllSmall ns → slice_get ns i ≡ Some n → IsSmall n
  got_small [] i n all e = absurd (none-some n e)
  got_small (m ∷ ns) zero n all e = subst IsSmall (same_Some m n e) all.0
  got_small (m ∷ ns) (suc i) n all e = got_small ns i n all.1 e

  small_both : (ns ms : List (Node A)) → AllSmall ns → AllSmall ms → AllSmall (ns ++ ms)
  small_both [] ms a b = b
  small_both (n ∷ ns) ms a b = (a.0, small_both ns ms a.1 b)

  small_exps : (es : tree.Exps A) → AllSmall (nodes.exps es)
  small_exps tree.end = tt
  small_exps (tree.more e es) = (tt, small_exps es)

  small_stmts : (ss : statement.Stmts A) → AllSmall (nodes.stmts ss)
  small_stmts statement.end = tt
  small_stmts (statement.more s ss) = (tt, small_stmts ss)

  small_modifiers : (ms : List (declared.Modifier A)) → AllSmall (map nodes.modifier ms)
  small_modifiers [] = tt
  small_modifiers (m ∷ ms) = (tt, small_modifiers ms)

  small_params : (ps : List (declared.Param A)) → AllSmall (map nodes.param ps)
  small_params [] = tt
  small_params (p ∷ ps) = (tt, small_params ps)

  small_init : (e : Option (tree.Exp A)) → AllSmall (maybe (option_map nodes.exp e))
  small_init None = tt
  small_init (Some e) = (tt, tt)

  small_result : (t : Option (tree.TypeName A)) → AllSmall (maybe (option_map nodes.type t))
  small_result None = tt
  small_result (Some t) = (tt, tt)

  small_args : (args : Option (tree.Exps A)) → AllSmall (nodes.args_children args)
  small_args None = tt
  small_args (Some es) = small_exps es

  exp_small : (e : tree.Exp A) → AllSmall (nodes.exp_children e)
  unfolding nodes.exp_children
  exp_small (tree.number m n) = tt
  exp_small (tree.truth m b) = tt
  exp_small (tree.null m) = tt
  exp_small (tree.string m s) = tt
  exp_small (tree.name m w) = (tt, tt)
  exp_small (tree.field m e w) = (tt, (tt, tt))
  exp_small (tree.super_field m w) = (tt, tt)
  exp_small (tree.this m) = tt
  exp_small (tree.class_literal m t) = (tt, tt)
  exp_small (tree.call m tree.no_target w es) = (tt, small_exps es)
  exp_small (tree.call m (tree.on e) w es) = (tt, (tt, small_exps es))
  exp_small (tree.super_call m w es) = (tt, small_exps es)
  exp_small (tree.create m t es) = (tt, small_exps es)
  exp_small (tree.paren m e) = (tt, tt)
  exp_small (tree.cast m t e) = (tt, (tt, tt))
  exp_small (tree.unary m op e) = (tt, tt)
  exp_small (tree.bump m op e) = (tt, tt)
  exp_small (tree.binary m op l r) = (tt, (tt, tt))
  exp_small (tree.assign m l r) = (tt, (tt, tt))
  exp_small (tree.compound m op l r) = (tt, (tt, tt))

  stmt_small : (s : statement.Stmt A) → AllSmall (nodes.stmt_children s)
  unfolding nodes.stmt_children
  stmt_small (statement.local m f t w e) = (tt, (tt, (tt, tt)))
  stmt_small (statement.eval m e) = (tt, tt)
  stmt_small (statement.branch m c s statement.no_else) = (tt, (tt, tt))
  stmt_small (statement.branch m c s (statement.otherwise z)) = (tt, (tt, (tt, tt)))
  stmt_small (statement.loop m c s) = (tt, (tt, tt))
  stmt_small (statement.return m e) = small_init e
  stmt_small (statement.block m b) = small_stmts b
  stmt_small (statement.sync m e b) = (tt, small_stmts b)
  stmt_small (statement.empty m) = tt

  member_small : (m : declared.Member A) → IsOwner m → AllSmall (nodes.member_children m)
  unfolding nodes.member_children
  member_small (declared.field m mods t w init) own = small_both (map nodes.modifier mods) _ (small_modifiers mods) (tt, (tt, small_init init))
  member_small (declared.method m mods t w ps body) own =
      small_both (map nodes.modifier mods) _ (small_modifiers mods) (small_both (maybe (option_map nodes.type t)) _ (small_result t) (tt, small_both (map nodes.param ps) _ (small_params ps) (small_stmts body)))
  member_small (declared.constructor m mods w ps args body) own =
      small_both (map nodes.modifier mods) _ (small_modifiers mods) (tt, small_both (map nodes.param ps) _ (small_params ps) (small_both (nodes.args_children args) _ (small_args args) (small_stmts body)))
  member_small (declared.inner m c) own = absurd own

  child_small : (x : Piece A) → IsOwning x → AllSmall (children_of (node_of x))
  child_small (piece.member m) own = member_small m own
  child_small (piece.stmt s) own = stmt_small s
  child_small (piece.exp e) own = exp_small e

  -- ---- where paths lead

  -- to a piece, or to a node without any below
  abbrev Reached : Piece A → List ℕ → Node A → Type 0
  Reached x path n = IsLow n ⊎ ((y : Piece A) × (piece_at x path ≡ Some y) × (n ≡ node_of y))

  onward : (x c : Piece A) (i : ℕ) (path : List ℕ) (n : Node A) → part_of x i ≡ Some c → Reached c path n → Reached x (i ∷ path) n
  unfolding piece_at
  onward x c i path n is (inl low) = inl low
  onward x c i path n is (inr (y, at, same)) = inr (y, ap (λ (o : Option (Piece A)). option_and_then (λ z. piece_at z path) o) is ∙ at, same)

  reaches : (path : List ℕ) (x : Piece A) → IsOwning x → (n : Node A) → node_at (node_of x) path ≡ Some n → Reached x path n
  unfolding node_at piece_at
  reaches [] x own n e = inr (x, refl, sym (same_Some (node_of x) n e))
  reaches (i ∷ path) x own n e =
      go (child_of (node_of x) i) (λ c is. got_small (children_of (node_of x)) i c (child_small x own) is) (λ c is. sym (child_is x i) ∙ ap (λ (o : Option (Node A)). option_and_then as_piece o) is) (λ c own. reaches path c own n) e
    where
      go : (o : Option (Node A)) → ((c : Node A) → o ≡ Some c → IsSmall c) → ((c : Node A) → o ≡ Some c → part_of x i ≡ as_piece c) → ((c : Piece A) → IsOwning c → node_at (node_of c) path ≡ Some n → Reached c path n) → option_and_then (λ c. node_at c path) o ≡ Some n → Reached x (i ∷ path) n
      go None small part on h = absurd (none-some n h)
      go (Some (nodes.exp f)) small part on h = onward x (piece.exp f) i path n (part (nodes.exp f) refl) (on (piece.exp f) tt h)
      go (Some (nodes.stmt s)) small part on h = onward x (piece.stmt s) i path n (part (nodes.stmt s) refl) (on (piece.stmt s) tt h)
      go (Some (nodes.word w)) small part on h = inl (low_path (nodes.word w) path n tt h)
      go (Some (nodes.type t)) small part on h = inl (low_path (nodes.type t) path n tt h)
      go (Some (nodes.modifier m)) small part on h = inl (low_path (nodes.modifier m) path n tt h)
      go (Some (nodes.param p)) small part on h = inl (low_path (nodes.param p) path n tt h)
      go (Some (nodes.unit u)) small part on h = absurd (small (nodes.unit u) refl)
      go (Some (nodes.class k)) small part on h = absurd (small (nodes.class k) refl)
      go (Some (nodes.member m)) small part on h = absurd (small (nodes.member m) refl)

  abbrev back : Node A → Option (Piece A)
  back (nodes.member m) = Some (piece.member m)
  back (nodes.stmt s) = Some (piece.stmt s)
  back (nodes.exp e) = Some (piece.exp e)
  back (nodes.unit u) = None
  back (nodes.class c) = None
  back (nodes.modifier m) = None
  back (nodes.word w) = None
  back (nodes.type t) = None
  back (nodes.param p) = None

  back_is : (x : Piece A) → back (node_of x) ≡ Some x
  back_is (piece.member m) = refl
  back_is (piece.stmt s) = refl
  back_is (piece.exp e) = refl

  pub one_piece : (x y : Piece A) → node_of x ≡ node_of y → x ≡ y
  one_piece x y e = same_Some x y (sym (back_is x) ∙ ap back e ∙ back_is y)

  -- kinds of pieces

  abbrev expression : tree.Exp A → Piece A → tree.Exp A
  expression d (piece.member m) = d
  expression d (piece.stmt s) = d
  expression d (piece.exp e) = e

  pub one_exp : (d e : tree.Exp A) → piece.exp d ≡ piece.exp e → d ≡ e
  one_exp d e h = ap (expression d) h

  abbrev IsExp : Piece A → Type 0
  IsExp (piece.member m) = ⊥
  IsExp (piece.stmt s) = ⊥
  IsExp (piece.exp e) = Unit {0}

  pub no_stmt : (s : statement.Stmt A) (e : tree.Exp A) → piece.stmt s ≡ piece.exp e → ⊥
  no_stmt s e h = subst IsExp (sym h) tt

  pub no_member : (m : declared.Member A) (e : tree.Exp A) → piece.member m ≡ piece.exp e → ⊥
  no_member m e h = subst IsExp (sym h) tt

  no_low : (x : Piece A) → IsLow (node_of x) → ⊥
  no_low (piece.member m) l = l
  no_low (piece.stmt s) l = l
  no_low (piece.exp e) l = l

  pub piece_leads : (x : Piece A) → IsOwning x → (path : List ℕ) (y : Piece A) → node_at (node_of x) path ≡ Some (node_of y) → piece_at x path ≡ Some y
  piece_leads x own path y e = go (reaches path x own (node_of y) e)
    where
      go : Reached x path (node_of y) → piece_at x path ≡ Some y
      go (inl low) = absurd (no_low y low)
      go (inr (z, at, same)) = at ∙ ap (λ (c : Piece A). Some c) (sym (one_piece y z same))

  pub exp_leads : (x : Piece A) → IsOwning x → (path : List ℕ) (e : tree.Exp A) → exp_at (node_of x) path ≡ Some e → piece_at x path ≡ Some (piece.exp e)
  exp_leads x own path e h = go (node_at (node_of x) path) refl h
    where
      go : (o : Option (Node A)) → node_at (node_of x) path ≡ o → option_and_then nodes.as_exp o ≡ Some e → piece_at x path ≡ Some (piece.exp e)
      go None is k = absurd (none-some e k)
      go (Some (nodes.exp f)) is k = piece_leads x own path (piece.exp e) (is ∙ ap (λ (z : tree.Exp A). Some (nodes.exp z)) (same_Some f e k))
      go (Some (nodes.stmt s)) is k = absurd (none-some e k)
      go (Some (nodes.word w)) is k = absurd (none-some e k)
      go (Some (nodes.type t)) is k = absurd (none-some e k)
      go (Some (nodes.modifier m)) is k = absurd (none-some e k)
      go (Some (nodes.param p)) is k = absurd (none-some e k)
      go (Some (nodes.unit u)) is k = absurd (none-some e k)
      go (Some (nodes.class c)) is k = absurd (none-some e k)
      go (Some (nodes.member m)) is k = absurd (none-some e k)

  pub stmt_leads : (x : Piece A) → IsOwning x → (path : List ℕ) (s : statement.Stmt A) → stmt_at (node_of x) path ≡ Some s → piece_at x path ≡ Some (piece.stmt s)
  stmt_leads x own path s h = go (node_at (node_of x) path) refl h
    where
      go : (o : Option (Node A)) → node_at (node_of x) path ≡ o → option_and_then nodes.as_stmt o ≡ Some s → piece_at x path ≡ Some (piece.stmt s)
      go None is k = absurd (none-some s k)
      go (Some (nodes.stmt z)) is k = piece_leads x own path (piece.stmt s) (is ∙ ap (λ (y : statement.Stmt A). Some (nodes.stmt y)) (same_Some z s k))
      go (Some (nodes.exp e)) is k = absurd (none-some s k)
      go (Some (nodes.word w)) is k = absurd (none-some s k)
      go (Some (nodes.type t)) is k = absurd (none-some s k)
      go (Some (nodes.modifier m)) is k = absurd (none-some s k)
      go (Some (nodes.param p)) is k = absurd (none-some s k)
      go (Some (nodes.unit u)) is k = absurd (none-some s k)
      go (Some (nodes.class c)) is k = absurd (none-some s k)
      go (Some (nodes.member m)) is k = absurd (none-some s k)

  -- the other way round
  pub node_leads : (path : List ℕ) (x y : Piece A) → piece_at x path ≡ Some y → node_at (node_of x) path ≡ Some (node_of y)
  unfolding node_at piece_at
  node_leads [] x y e = ap (λ (o : Option (Piece A)). option_map node_of o) e
  node_leads (i ∷ path) x y e = go (child_of (node_of x) i) (sym (child_is x i)) (λ c. node_leads path c y) e
    where
      go : (o : Option (Node A)) → part_of x i ≡ option_and_then as_piece o → ((c : Piece A) → piece_at c path ≡ Some y → node_at (node_of c) path ≡ Some (node_of y)) → option_and_then (λ c. piece_at c path) (part_of x i) ≡ Some y → option_and_then (λ c. node_at c path) o ≡ Some (node_of y)
      go None is on h = absurd (none-some y (sym (ap (λ (o : Option (Piece A)). option_and_then (λ c. piece_at c path) o) is) ∙ h))
      go (Some (nodes.exp f)) is on h = on (piece.exp f) (sym (ap (λ (o : Option (Piece A)). option_and_then (λ c. piece_at c path) o) is) ∙ h)
      go (Some (nodes.stmt s)) is on h = on (piece.stmt s) (sym (ap (λ (o : Option (Piece A)). option_and_then (λ c. piece_at c path) o) is) ∙ h)
      go (Some (nodes.word w)) is on h = absurd (none-some y (sym (ap (λ (o : Option (Piece A)). option_and_then (λ c. piece_at c path) o) is) ∙ h))
      go (Some (nodes.type t)) is on h = absurd (none-some y (sym (ap (λ (o : Option (Piece A)). option_and_then (λ c. piece_at c path) o) is) ∙ h))
      go (Some (nodes.modifier m)) is on h = absurd (none-some y (sym (ap (λ (o : Option (Piece A)). option_and_then (λ c. piece_at c path) o) is) ∙ h))
      go (Some (nodes.param p)) is on h = absurd (none-some y (sym (ap (λ (o : Option (Piece A)). option_and_then (λ c. piece_at c path) o) is) ∙ h))
      go (Some (nodes.unit u)) is on h = absurd (none-some y (sym (ap (λ (o : Option (Piece A)). option_and_then (λ c. piece_at c path) o) is) ∙ h))
      go (Some (nodes.class c)) is on h = absurd (none-some y (sym (ap (λ (o : Option (Piece A)). option_and_then (λ c. piece_at c path) o) is) ∙ h))
      go (Some (nodes.member m)) is on h = absurd (none-some y (sym (ap (λ (o : Option (Piece A)). option_and_then (λ c. piece_at c path) o) is) ∙ h))

-- ---- statements among the parts

module _ {T : Type 0} where
  first_of : (cs : List T) (i n : ℕ) (y : T) (ys : List T) → take (suc n) (drop i cs) ≡ y ∷ ys → (slice_get cs i ≡ Some y) × (take n (drop (suc i) cs) ≡ ys)
  first_of [] zero n y ys e = absurd (nil-cons y ys e)
    where
      nil-cons : (y : T) (ys : List T) → [] ≡ y ∷ ys → ⊥
      nil-cons y ys h = cc
  first_of [] (suc i) n y ys e = absurd (nil-cons y ys e)
    where
      nil-cons : (y : T) (ys : List T) → [] ≡ y ∷ ys → ⊥
      nil-cons y ys h = cc
  first_of (c ∷ cs) zero n y ys e = (ap (λ (l : List T). slice_get l 0) e, ap tail e)
    where
      tail : List T → List T
      tail [] = []
      tail (z ∷ zs) = zs
  first_of (c ∷ cs) (suc i) n y ys e = first_of cs i n y ys e

module _ {A : Type 0} (x : Piece A) where
  stmt_child : (i : ℕ) (s : statement.Stmt A) → slice_get (children_of (node_of x)) i ≡ Some (nodes.stmt s) → part_of x i ≡ Some (piece.stmt s)
  stmt_child i s e = sym (child_is x i) ∙ ap (λ (o : Option (Node A)). option_and_then as_piece o) e

  pub stmts_there : (i n : ℕ) (ss : statement.Stmts A) → take n (drop i (children_of (node_of x))) ≡ nodes.stmts ss → length (nodes.stmts ss) ≡ n → AllStmts x i n
  stmts_there i zero ss e size = tt
  stmts_there i (suc n) statement.end e size = absurd (omega (arith, size))
  stmts_there i (suc n) (statement.more s ss) e size =
      let f = first_of (children_of (node_of x)) i n (nodes.stmt s) (nodes.stmts ss) e in
      (subst IsStmt (sym (stmt_child i s f.0)) tt, stmts_there (suc i) n ss f.1 (omega (arith, size)))

module _ {K : Keys} {A : Type 0} (X : Known K A) (x : Piece A) where
  pub parts_are : (i n : ℕ) (ss : statement.Stmts A) → take n (drop i (children_of (node_of x))) ≡ nodes.stmts ss → length (nodes.stmts ss) ≡ n → AllStmts x i n × (parts_sites X x i n ≡ sites_of (stmts_way X ss))
  parts_are i zero statement.end e size = (tt, refl)
  parts_are i zero (statement.more s ss) e size = absurd (omega (arith, size))
  parts_are i (suc n) statement.end e size = absurd (omega (arith, size))
  parts_are i (suc n) (statement.more s ss) e size =
      let f = first_of (children_of (node_of x)) i n (nodes.stmt s) (nodes.stmts ss) e in
      let is = stmt_child x i s f.0 in
      let more = parts_are (suc i) n ss f.1 (omega (arith, size)) in (
        (subst IsStmt (sym is) tt, more.0),
        λ j. part_sites X (is j) ++ more.1 j,
      )
