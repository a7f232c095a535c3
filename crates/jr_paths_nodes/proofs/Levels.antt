-- Which kinds of node stand under which, and how high each stands: below a low node there is none of the higher kinds.
use Rattle.std.proofs.Common.{◌≡◌, ℕ, ◌<◌, ◌≤◌, List, [], ◌∷◌, ◌++◌, map, Option, Some, None, option_map, option_and_then, refl, sym, subst, le_trans, le_refl, arith}
use Rattle.std.proofs.lemmas.Option.{none-some, same_Some}
use Rattle.jr_ast.specs.Tree as tree
use Rattle.jr_ast.specs.StatementTree as statement
use Rattle.jr_ast.specs.MemberTree as declared
use Rattle.jr_ast.specs.Nodes as pure
use Rattle.jr_ast.specs.Nodes.{Node, unit, class, modifier, word, type, param, member, stmt, exp, node_at, child_of, children_of, as_exp, as_stmt, as_member, exp_at, stmt_at, member_at}
use Rattle.jr_paths_nodes.proofs.Picks.{Each, each-nil, each-cons, each-append, each-map}
use Rattle.jr_paths_nodes.proofs.RowKinds.{each-exps, each-stmts, each-members, each-maybe, each-one, each-two, each-field, each-method, each-constructor}

module _ {A : Type 0} where
  abbrev pub level : Node A → ℕ
  level (word w) = 0
  level (modifier m) = 0
  level (type t) = 1
  level (param p) = 2
  level (exp e) = 3
  level (stmt s) = 4
  level (class c) = 5
  level (member m) = 5
  level (unit u) = 6

  -- a node of the second's kind can be a child of the first
  abbrev pub HasUnder : Node A → Node A → Type 0
  HasUnder (unit u) (word w) = Unit {0}
  HasUnder (unit u) (class c) = Unit {0}
  HasUnder (class c) (modifier m) = Unit {0}
  HasUnder (class c) (word w) = Unit {0}
  HasUnder (class c) (type t) = Unit {0}
  HasUnder (class c) (member m) = Unit {0}
  HasUnder (member m) (modifier d) = Unit {0}
  HasUnder (member m) (word w) = Unit {0}
  HasUnder (member m) (type t) = Unit {0}
  HasUnder (member m) (param p) = Unit {0}
  HasUnder (member m) (exp e) = Unit {0}
  HasUnder (member m) (stmt s) = Unit {0}
  HasUnder (member m) (class c) = Unit {0}
  HasUnder (stmt s) (type t) = Unit {0}
  HasUnder (stmt s) (word w) = Unit {0}
  HasUnder (stmt s) (exp e) = Unit {0}
  HasUnder (stmt s) (stmt x) = Unit {0}
  HasUnder (exp e) (word w) = Unit {0}
  HasUnder (exp e) (type t) = Unit {0}
  HasUnder (exp e) (exp x) = Unit {0}
  HasUnder (param p) (type t) = Unit {0}
  HasUnder (param p) (word w) = Unit {0}
  HasUnder (type t) (word w) = Unit {0}
  HasUnder n c = ⊥

  each-type : (t : tree.TypeName A) → Each (HasUnder (type t)) (pure.type_children t)
  each-type (tree.named m outer w) =
      let P = HasUnder (type (tree.named m outer w)) in
      each-append P (pure.maybe (option_map word outer)) (word w ∷ []) (each-maybe P word (λ _. tt) outer) (each-one P (word w) tt)
  each-type t = each-nil (HasUnder (type t))

  each-behind : (e : tree.Exp A) (n : Node A) (args : tree.Exps A) → HasUnder (exp e) n → Each (HasUnder (exp e)) (n ∷ pure.exps args)
  each-behind e n args h = each-cons (HasUnder (exp e)) n (pure.exps args) h (each-exps (HasUnder (exp e)) (λ _. tt) args)

  each-exp : (e : tree.Exp A) → Each (HasUnder (exp e)) (pure.exp_children e)
  unfolding pure.exp_children
  each-exp (tree.name m w) = each-one (HasUnder (exp (tree.name m w))) (word w) tt
  each-exp (tree.field m e w) = each-two (HasUnder (exp e)) (exp e) (word w) tt tt
  each-exp (tree.super_field m w) = each-one (HasUnder (exp (tree.name m w))) (word w) tt
  each-exp (tree.class_literal m t) = each-one (HasUnder (exp (tree.class_literal m t))) (type t) tt
  each-exp (tree.call m tree.no_target w args) = each-behind (tree.name m w) (word w) args tt
  each-exp (tree.call m (tree.on e) w args) = each-cons (HasUnder (exp e)) (exp e) (word w ∷ pure.exps args) tt (each-behind e (word w) args tt)
  each-exp (tree.super_call m w args) = each-behind (tree.name m w) (word w) args tt
  each-exp (tree.create m t args) = each-behind (tree.create m t args) (type t) args tt
  each-exp (tree.paren m e) = each-one (HasUnder (exp e)) (exp e) tt
  each-exp (tree.cast m t e) = each-two (HasUnder (exp e)) (type t) (exp e) tt tt
  each-exp (tree.unary m op e) = each-one (HasUnder (exp e)) (exp e) tt
  each-exp (tree.bump m op e) = each-one (HasUnder (exp e)) (exp e) tt
  each-exp (tree.binary m op e f) = each-two (HasUnder (exp e)) (exp e) (exp f) tt tt
  each-exp (tree.assign m e f) = each-two (HasUnder (exp e)) (exp e) (exp f) tt tt
  each-exp (tree.compound m op e f) = each-two (HasUnder (exp e)) (exp e) (exp f) tt tt
  each-exp e = each-nil (HasUnder (exp e))

  each-stmt : (s : statement.Stmt A) → Each (HasUnder (stmt s)) (pure.stmt_children s)
  unfolding pure.stmt_children
  each-stmt (statement.local m f t w e) =
      let P = HasUnder (stmt (statement.local m f t w e)) in
      each-cons P (type t) (word w ∷ exp e ∷ []) tt (each-two P (word w) (exp e) tt tt)
  each-stmt (statement.eval m e) = each-one (HasUnder (stmt (statement.eval m e))) (exp e) tt
  each-stmt (statement.branch m e s statement.no_else) = each-two (HasUnder (stmt s)) (exp e) (stmt s) tt tt
  each-stmt (statement.branch m e s (statement.otherwise x)) =
      each-cons (HasUnder (stmt s)) (exp e) (stmt s ∷ stmt x ∷ []) tt (each-two (HasUnder (stmt s)) (stmt s) (stmt x) tt tt)
  each-stmt (statement.loop m e s) = each-two (HasUnder (stmt s)) (exp e) (stmt s) tt tt
  each-stmt (statement.return m e) = each-maybe (HasUnder (stmt (statement.return m e))) exp (λ _. tt) e
  each-stmt (statement.block m body) = each-stmts (HasUnder (stmt (statement.block m body))) (λ _. tt) body
  each-stmt (statement.sync m e body) =
      let P = HasUnder (stmt (statement.sync m e body)) in
      each-cons P (exp e) (pure.stmts body) tt (each-stmts P (λ _. tt) body)
  each-stmt (statement.empty m) = each-nil (HasUnder (stmt (statement.empty m)))

  each-member : (m : declared.Member A) → Each (HasUnder (member m)) (pure.member_children m)
  unfolding pure.member_children
  each-member (declared.field m mods t w e) =
      each-field (HasUnder (member (declared.field m mods t w e))) (λ _. tt) (λ _. tt) (λ _. tt) (λ _. tt) mods t w e
  each-member (declared.method m mods t w ps body) =
      each-method (HasUnder (member (declared.method m mods t w ps body))) (λ _. tt) (λ _. tt) (λ _. tt) (λ _. tt) (λ _. tt) mods t w ps body
  each-member (declared.constructor m mods w ps args body) =
      each-constructor (HasUnder (member (declared.constructor m mods w ps args body))) (λ _. tt) (λ _. tt) (λ _. tt) (λ _. tt) (λ _. tt) mods w ps args body
  each-member (declared.inner m c) = each-one (HasUnder (member (declared.inner m c))) (class c) tt

  each-class : (c : declared.Class A) → Each (HasUnder (class c)) (pure.class_children c)
  unfolding pure.class_children
  each-class (declared.class m mods w t ms) =
      let P = HasUnder (class (declared.class m mods w t ms)) in
      let rest = pure.maybe (option_map type t) ++ pure.members ms in
      each-append P (map modifier mods) (word w ∷ rest) (each-map P modifier mods (λ _. tt))
      (each-cons P (word w) rest tt
      (each-append P (pure.maybe (option_map type t)) (pure.members ms) (each-maybe P type (λ _. tt) t) (each-members P (λ _. tt) ms)))

  each-unit : (u : declared.Unit A) → Each (HasUnder (unit u)) (children_of (unit u))
  each-unit u =
      let P = HasUnder (unit u) in
      each-append P (map word u.package_name) (map class u.classes) (each-map P word u.package_name (λ _. tt)) (each-map P class u.classes (λ _. tt))

  each-child : (n : Node A) → Each (HasUnder n) (children_of n)
  each-child (unit u) = each-unit u
  each-child (class c) = each-class c
  each-child (modifier m) = each-nil (HasUnder (modifier m))
  each-child (word w) = each-nil (HasUnder (word w))
  each-child (type t) = each-type t
  each-child (param p) = each-two (HasUnder (param p)) (type p.type) (word p.name) tt tt
  each-child (member m) = each-member m
  each-child (stmt s) = each-stmt s
  each-child (exp e) = each-exp e

  pub child_under : (n c : Node A) (i : ℕ) → child_of n i ≡ Some c → HasUnder n c
  child_under n c i h = each-child n i c h

  under_level : (n c : Node A) → HasUnder n c → level c ≤ level n
  under_level n (word w) h = omega arith
  under_level n (modifier m) h = omega arith
  under_level (class c) (type t) h = omega arith
  under_level (member m) (type t) h = omega arith
  under_level (stmt s) (type t) h = omega arith
  under_level (exp e) (type t) h = omega arith
  under_level (param p) (type t) h = omega arith
  under_level (member m) (param p) h = omega arith
  under_level (member m) (exp e) h = omega arith
  under_level (stmt s) (exp e) h = omega arith
  under_level (exp x) (exp e) h = omega arith
  under_level (member m) (stmt s) h = omega arith
  under_level (stmt x) (stmt s) h = omega arith
  under_level (unit u) (class c) h = omega arith
  under_level (member m) (class c) h = omega arith
  under_level (class c) (member m) h = omega arith
  under_level (unit u) (unit v) h = absurd h
  under_level n c h = absurd h

  -- no child stands higher than its parent
  pub child_level : (n c : Node A) (i : ℕ) → child_of n i ≡ Some c → level c ≤ level n
  child_level n c i h = under_level n c (child_under n c i h)

  -- nor does what stands at the end of a path
  pub reach_level : (n c : Node A) (q : List ℕ) → node_at n q ≡ Some c → level c ≤ level n
  unfolding node_at
  reach_level n c [] h = subst (λ d. level c ≤ level d) (same_Some c n (sym h)) (le_refl (level c))
  reach_level n c (i ∷ q) h = go (child_of n i) refl h (λ d. reach_level d c q)
    where
      go : (o : Option (Node A)) → child_of n i ≡ o → option_and_then (λ d. node_at d q) o ≡ Some c
          → ((d : Node A) → node_at d q ≡ Some c → level c ≤ level d) → level c ≤ level n
      go None e g below = absurd (none-some c g)
      go (Some d) e g below = le_trans (below d g) (child_level n d i e)

  pub low_exp : (n : Node A) (q : List ℕ) → level n < 3 → exp_at n q ≡ None
  low_exp n q h = go (node_at n q) refl
    where
      go : (o : Option (Node A)) → node_at n q ≡ o → option_and_then as_exp o ≡ None
      go None e = refl
      go (Some (exp x)) e = let le = reach_level n (exp x) q e in absurd (omega arith)
      go (Some c) e = refl

  pub low_stmt : (n : Node A) (q : List ℕ) → level n < 4 → stmt_at n q ≡ None
  low_stmt n q h = go (node_at n q) refl
    where
      go : (o : Option (Node A)) → node_at n q ≡ o → option_and_then as_stmt o ≡ None
      go None e = refl
      go (Some (stmt x)) e = let le = reach_level n (stmt x) q e in absurd (omega arith)
      go (Some c) e = refl

  pub low_member : (n : Node A) (q : List ℕ) → level n < 5 → member_at n q ≡ None
  low_member n q h = go (node_at n q) refl
    where
      go : (o : Option (Node A)) → node_at n q ≡ o → option_and_then as_member o ≡ None
      go None e = refl
      go (Some (member x)) e = let le = reach_level n (member x) q e in absurd (omega arith)
      go (Some c) e = refl
