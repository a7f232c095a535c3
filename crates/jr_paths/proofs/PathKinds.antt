-- Paths that pass no further member or statement: to which statement and expression they lead.
use Rattle.std.proofs.Common.{◌≡◌, ℕ, suc, List, [], ◌∷◌, take, Option, Some, None, option_and_then, refl, sym, ap, ◌∙◌, arith}
use Rattle.std.proofs.lemmas.Option.{none-some}
use Rattle.jr_ast.specs.StatementTree as statement
use Rattle.jr_ast.specs.MemberTree as declared
use Rattle.jr_ast.specs.Nodes.{Node, unit, class, modifier, word, type, param, member, stmt, exp, node_at, child_of, as_exp, as_stmt, as_member, exp_at, stmt_at}
use Rattle.jr_paths.specs.PathKinds.{NoMember, NoStmt}
use Rattle.jr_paths_nodes.proofs.Levels.{child_under, low_exp, low_stmt}
use Rattle.jr_paths_nodes.proofs.PathSplits.{class_child, unit_child}

module _ {A : Type 0} where
  pub no_member_below : (n c : Node A) (i : ℕ) (q : List ℕ) → child_of n i ≡ Some c → NoMember n (i ∷ q) → NoMember c q
  unfolding node_at
  no_member_below n c i q e none k low high =
      sym (ap (λ o. option_and_then as_member (option_and_then (λ x. node_at x (take k q)) o)) e) ∙ none (suc k) (omega arith) (omega arith)

  -- a child is no member, no statement
  not_member : (n : Node A) (m : declared.Member A) (i : ℕ) (q : List ℕ) → child_of n i ≡ Some (member m) → NoMember n (i ∷ q) → ⊥
  unfolding node_at
  not_member n m i q e none =
      none-some m (sym (none 1 (omega arith) (omega arith)) ∙ ap (λ o. option_and_then as_member (option_and_then (λ x. node_at x []) o)) e)

  not_stmt : (n : Node A) (s : statement.Stmt A) (i : ℕ) (q : List ℕ) → child_of n i ≡ Some (stmt s) → NoStmt n (i ∷ q) → ⊥
  unfolding node_at
  not_stmt n s i q e none =
      none-some s (sym (none 1 (omega arith) (omega arith)) ∙ ap (λ o. option_and_then as_stmt (option_and_then (λ x. node_at x []) o)) e)

  -- from a class no statement or expression is reached but through a member
  class_no_stmt : (d : declared.Class A) (q : List ℕ) → NoMember (class d) q → stmt_at (class d) q ≡ None
  unfolding node_at
  class_no_stmt d [] none = refl
  class_no_stmt d (i ∷ q) none = go (child_of (class d) i) refl
    where
      go : (o : Option (Node A)) → child_of (class d) i ≡ o → option_and_then as_stmt (option_and_then (λ x. node_at x q) o) ≡ None
      go None h = refl
      go (Some (member m)) h = absurd (not_member (class d) m i q h none)
      go (Some x) h = let low = class_child d x i h refl in low_stmt x q (omega arith)

  class_no_exp : (d : declared.Class A) (q : List ℕ) → NoMember (class d) q → exp_at (class d) q ≡ None
  unfolding node_at
  class_no_exp d [] none = refl
  class_no_exp d (i ∷ q) none = go (child_of (class d) i) refl
    where
      go : (o : Option (Node A)) → child_of (class d) i ≡ o → option_and_then as_exp (option_and_then (λ x. node_at x q) o) ≡ None
      go None h = refl
      go (Some (member m)) h = absurd (not_member (class d) m i q h none)
      go (Some x) h = low_exp x q (class_child d x i h refl)

  pub stmt_of_member : (m : declared.Member A) (i : ℕ) (q : List ℕ) → NoMember (member m) (i ∷ q)
      → stmt_at (member m) (i ∷ q) ≡ option_and_then (λ s. stmt_at (stmt s) q) (option_and_then as_stmt (child_of (member m) i))
  unfolding node_at
  stmt_of_member m i q none = go (child_of (member m) i) refl
    where
      go : (o : Option (Node A)) → child_of (member m) i ≡ o
          → option_and_then as_stmt (option_and_then (λ x. node_at x q) o) ≡ option_and_then (λ s. stmt_at (stmt s) q) (option_and_then as_stmt o)
      go None h = refl
      go (Some (stmt s)) h = refl
      go (Some (class d)) h = class_no_stmt d q (no_member_below (member m) (class d) i q h none)
      go (Some (member x)) h = absurd (child_under (member m) (member x) i h)
      go (Some (unit u)) h = absurd (child_under (member m) (unit u) i h)
      go (Some (word w)) h = low_stmt (word w) q (omega arith)
      go (Some (modifier d)) h = low_stmt (modifier d) q (omega arith)
      go (Some (type t)) h = low_stmt (type t) q (omega arith)
      go (Some (param p)) h = low_stmt (param p) q (omega arith)
      go (Some (exp e)) h = low_stmt (exp e) q (omega arith)

  pub exp_of_member : (m : declared.Member A) (i : ℕ) (q : List ℕ) → NoMember (member m) (i ∷ q) → NoStmt (member m) (i ∷ q)
      → exp_at (member m) (i ∷ q) ≡ option_and_then (λ e. exp_at (exp e) q) (option_and_then as_exp (child_of (member m) i))
  unfolding node_at
  exp_of_member m i q none no_stmt = go (child_of (member m) i) refl
    where
      go : (o : Option (Node A)) → child_of (member m) i ≡ o
          → option_and_then as_exp (option_and_then (λ x. node_at x q) o) ≡ option_and_then (λ e. exp_at (exp e) q) (option_and_then as_exp o)
      go None h = refl
      go (Some (exp e)) h = refl
      go (Some (stmt s)) h = absurd (not_stmt (member m) s i q h no_stmt)
      go (Some (class d)) h = class_no_exp d q (no_member_below (member m) (class d) i q h none)
      go (Some (member x)) h = absurd (child_under (member m) (member x) i h)
      go (Some (unit u)) h = absurd (child_under (member m) (unit u) i h)
      go (Some (word w)) h = low_exp (word w) q (omega arith)
      go (Some (modifier d)) h = low_exp (modifier d) q (omega arith)
      go (Some (type t)) h = low_exp (type t) q (omega arith)
      go (Some (param p)) h = low_exp (param p) q (omega arith)

  pub exp_of_stmt : (s : statement.Stmt A) (i : ℕ) (q : List ℕ) → NoStmt (stmt s) (i ∷ q)
      → exp_at (stmt s) (i ∷ q) ≡ option_and_then (λ e. exp_at (exp e) q) (option_and_then as_exp (child_of (stmt s) i))
  unfolding node_at
  exp_of_stmt s i q none = go (child_of (stmt s) i) refl
    where
      go : (o : Option (Node A)) → child_of (stmt s) i ≡ o
          → option_and_then as_exp (option_and_then (λ x. node_at x q) o) ≡ option_and_then (λ e. exp_at (exp e) q) (option_and_then as_exp o)
      go None h = refl
      go (Some (exp e)) h = refl
      go (Some (stmt x)) h = absurd (not_stmt (stmt s) x i q h none)
      go (Some (word w)) h = low_exp (word w) q (omega arith)
      go (Some (type t)) h = low_exp (type t) q (omega arith)
      go (Some (class d)) h = absurd (child_under (stmt s) (class d) i h)
      go (Some (member x)) h = absurd (child_under (stmt s) (member x) i h)
      go (Some (unit u)) h = absurd (child_under (stmt s) (unit u) i h)
      go (Some (modifier d)) h = absurd (child_under (stmt s) (modifier d) i h)
      go (Some (param p)) h = absurd (child_under (stmt s) (param p) i h)

  pub unit_no_stmt : (u : declared.Unit A) (q : List ℕ) → NoMember (unit u) q → stmt_at (unit u) q ≡ None
  unfolding node_at
  unit_no_stmt u [] none = refl
  unit_no_stmt u (i ∷ q) none = go (child_of (unit u) i) refl
    where
      go : (o : Option (Node A)) → child_of (unit u) i ≡ o → option_and_then as_stmt (option_and_then (λ x. node_at x q) o) ≡ None
      go None h = refl
      go (Some (class d)) h = class_no_stmt d q (no_member_below (unit u) (class d) i q h none)
      go (Some x) h = let low = unit_child u x i h refl in low_stmt x q (omega arith)

  pub unit_no_exp : (u : declared.Unit A) (q : List ℕ) → NoMember (unit u) q → exp_at (unit u) q ≡ None
  unfolding node_at
  unit_no_exp u [] none = refl
  unit_no_exp u (i ∷ q) none = go (child_of (unit u) i) refl
    where
      go : (o : Option (Node A)) → child_of (unit u) i ≡ o → option_and_then as_exp (option_and_then (λ x. node_at x q) o) ≡ None
      go None h = refl
      go (Some (class d)) h = class_no_exp d q (no_member_below (unit u) (class d) i q h none)
      go (Some x) h = low_exp x q (unit_child u x i h refl)
