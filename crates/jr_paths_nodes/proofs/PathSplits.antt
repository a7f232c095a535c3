-- Paths in two parts, where the first part leads to a node of a kind.
use Rattle.std.proofs.Common.{◌≡◌, ℕ, zero, suc, ◌+◌, ◌*◌, ◌<◌, List, [], ◌∷◌, ◌++◌, length, Option, Some, None, option_and_then, refl, sym, ap, ◌∙◌, arith}
use Rattle.jr_ast.specs.Tree as tree
use Rattle.jr_ast.specs.StatementTree as statement
use Rattle.jr_ast.specs.MemberTree as declared
use Rattle.jr_ast.specs.Nodes.{Node, unit, class, modifier, word, type, param, member, stmt, exp, node_at, child_of, as_exp, as_stmt, as_member, as_class, exp_at, stmt_at, member_at}
use Rattle.jr_paths_nodes.proofs.WithLaws.{at_append}
use Rattle.jr_paths_nodes.proofs.Levels.{level, child_under, reach_level, low_exp, low_stmt, low_member}

module _ {X Y : Type 0} where
  pub then_ext : (f g : X → Option Y) → ((x : X) → f x ≡ g x) → (o : Option X) → option_and_then f o ≡ option_and_then g o
  then_ext f g same None = refl
  then_ext f g same (Some x) = same x

  pub then_none : (f : X → Option Y) → ((x : X) → f x ≡ None) → (o : Option X) → option_and_then f o ≡ None
  then_none f none None = refl
  then_none f none (Some x) = none x

  pub then_then : {Z : Type 0} (f : X → Option Y) (g : Y → Option Z) (o : Option X) → option_and_then g (option_and_then f o) ≡ option_and_then (λ x. option_and_then g (f x)) o
  then_then f g None = refl
  then_then f g (Some x) = refl

module _ {A : Type 0} where
  pub exp_split : (e : tree.Exp A) (p q : List ℕ) → exp_at (exp e) (p ++ q) ≡ option_and_then (λ d. exp_at (exp d) q) (exp_at (exp e) p)
  exp_split e p q = ap (option_and_then as_exp) (at_append (exp e) p q) ∙ go (node_at (exp e) p) refl
    where
      go : (o : Option (Node A)) → node_at (exp e) p ≡ o
          → option_and_then as_exp (option_and_then (λ c. node_at c q) o) ≡ option_and_then (λ d. exp_at (exp d) q) (option_and_then as_exp o)
      go None h = refl
      go (Some (exp d)) h = refl
      go (Some (word w)) h = low_exp (word w) q (omega arith)
      go (Some (modifier m)) h = low_exp (modifier m) q (omega arith)
      go (Some (type t)) h = low_exp (type t) q (omega arith)
      go (Some (param d)) h = low_exp (param d) q (omega arith)
      go (Some c) h = let le = reach_level (exp e) c p h in absurd (omega arith)

  pub stmt_split : (s : statement.Stmt A) (p q : List ℕ) → stmt_at (stmt s) (p ++ q) ≡ option_and_then (λ d. stmt_at (stmt d) q) (stmt_at (stmt s) p)
  stmt_split s p q = ap (option_and_then as_stmt) (at_append (stmt s) p q) ∙ go (node_at (stmt s) p) refl
    where
      go : (o : Option (Node A)) → node_at (stmt s) p ≡ o
          → option_and_then as_stmt (option_and_then (λ c. node_at c q) o) ≡ option_and_then (λ d. stmt_at (stmt d) q) (option_and_then as_stmt o)
      go None h = refl
      go (Some (stmt d)) h = refl
      go (Some (word w)) h = low_stmt (word w) q (omega arith)
      go (Some (modifier m)) h = low_stmt (modifier m) q (omega arith)
      go (Some (type t)) h = low_stmt (type t) q (omega arith)
      go (Some (param d)) h = low_stmt (param d) q (omega arith)
      go (Some (exp e)) h = low_stmt (exp e) q (omega arith)
      go (Some c) h = let le = reach_level (stmt s) c p h in absurd (omega arith)

  -- a child of a class is a member or stands low
  pub class_child : (d : declared.Class A) (c : Node A) (i : ℕ) → child_of (class d) i ≡ Some c → as_member c ≡ None → level c < 3
  class_child d (word w) i h none = omega arith
  class_child d (modifier m) i h none = omega arith
  class_child d (type t) i h none = omega arith
  class_child d (member m) i h none = absurd cc
  class_child d (param p) i h none = absurd (child_under (class d) (param p) i h)
  class_child d (exp e) i h none = absurd (child_under (class d) (exp e) i h)
  class_child d (stmt s) i h none = absurd (child_under (class d) (stmt s) i h)
  class_child d (class x) i h none = absurd (child_under (class d) (class x) i h)
  class_child d (unit u) i h none = absurd (child_under (class d) (unit u) i h)

  -- a child of a member, or of a unit, is a class or stands lower
  pub member_child : (m : declared.Member A) (c : Node A) (i : ℕ) → child_of (member m) i ≡ Some c → as_class c ≡ None → level c < 5
  member_child m (class d) i h none = absurd cc
  member_child m (member x) i h none = absurd (child_under (member m) (member x) i h)
  member_child m (unit u) i h none = absurd (child_under (member m) (unit u) i h)
  member_child m (word w) i h none = omega arith
  member_child m (modifier d) i h none = omega arith
  member_child m (type t) i h none = omega arith
  member_child m (param p) i h none = omega arith
  member_child m (exp e) i h none = omega arith
  member_child m (stmt s) i h none = omega arith

  pub unit_child : (u : declared.Unit A) (c : Node A) (i : ℕ) → child_of (unit u) i ≡ Some c → as_class c ≡ None → level c < 3
  unit_child u (class d) i h none = absurd cc
  unit_child u (word w) i h none = omega arith
  unit_child u (member x) i h none = absurd (child_under (unit u) (member x) i h)
  unit_child u (unit x) i h none = absurd (child_under (unit u) (unit x) i h)
  unit_child u (modifier d) i h none = absurd (child_under (unit u) (modifier d) i h)
  unit_child u (type t) i h none = absurd (child_under (unit u) (type t) i h)
  unit_child u (param p) i h none = absurd (child_under (unit u) (param p) i h)
  unit_child u (exp e) i h none = absurd (child_under (unit u) (exp e) i h)
  unit_child u (stmt s) i h none = absurd (child_under (unit u) (stmt s) i h)

  -- the member, the class that is a child
  abbrev pub member_in : declared.Class A → ℕ → Option (declared.Member A)
  member_in c i = option_and_then as_member (child_of (class c) i)

  abbrev pub class_in : declared.Member A → ℕ → Option (declared.Class A)
  class_in m j = option_and_then as_class (child_of (member m) j)

  -- one step down towards a member
  class_step : (c : declared.Class A) (i : ℕ) (q : List ℕ) → member_at (class c) (i ∷ q) ≡ option_and_then (λ m. member_at (member m) q) (member_in c i)
  unfolding node_at
  class_step c i q = go (child_of (class c) i) refl
    where
      go : (o : Option (Node A)) → child_of (class c) i ≡ o
          → option_and_then as_member (option_and_then (λ x. node_at x q) o) ≡ option_and_then (λ m. member_at (member m) q) (option_and_then as_member o)
      go None h = refl
      go (Some (member m)) h = refl
      go (Some x) h = let low = class_child c x i h refl in low_member x q (omega arith)

  member_step : (m : declared.Member A) (j : ℕ) (q : List ℕ) → member_at (member m) (j ∷ q) ≡ option_and_then (λ d. member_at (class d) q) (class_in m j)
  unfolding node_at
  member_step m j q = go (child_of (member m) j) refl
    where
      go : (o : Option (Node A)) → child_of (member m) j ≡ o
          → option_and_then as_member (option_and_then (λ x. node_at x q) o) ≡ option_and_then (λ d. member_at (class d) q) (option_and_then as_class o)
      go None h = refl
      go (Some (class d)) h = refl
      go (Some x) h = let low = member_child m x j h refl in low_member x q (omega arith)

  two_steps : (c : declared.Class A) (i j : ℕ) (q : List ℕ)
      → member_at (class c) (i ∷ (j ∷ q)) ≡ option_and_then (λ m. option_and_then (λ d. member_at (class d) q) (class_in m j)) (member_in c i)
  two_steps c i j q =
      class_step c i (j ∷ q)
      ∙ then_ext (λ m. member_at (member m) (j ∷ q)) (λ m. option_and_then (λ d. member_at (class d) q) (class_in m j)) (λ m. member_step m j q) (member_in c i)

  -- below a class, a path of even length leads to no member
  pub class_even : (c : declared.Class A) (p : List ℕ) (k : ℕ) → length p ≡ 2 * k → member_at (class c) p ≡ None
  unfolding node_at
  class_even c [] k h = refl
  class_even c (i ∷ []) k h = absurd (omega arith)
  class_even c (i ∷ (j ∷ p)) zero h = absurd (omega arith)
  class_even c (i ∷ (j ∷ p)) (suc k) h =
      let rest : length p ≡ 2 * k = omega arith in
      two_steps c i j p
      ∙ then_none (λ m. option_and_then (λ d. member_at (class d) p) (class_in m j))
      (λ m. then_none (λ d. member_at (class d) p) (λ d. class_even d p k rest) (class_in m j)) (member_in c i)

  -- the member to which the rest of a path leads from a member
  abbrev from_member : ℕ → List ℕ → declared.Member A → Option (declared.Member A)
  from_member j q m = option_and_then (λ d. member_at (class d) q) (class_in m j)

  pub class_split : (c : declared.Class A) (p : List ℕ) (j : ℕ) (q : List ℕ) (k : ℕ) → length p ≡ 1 + 2 * k
      → member_at (class c) (p ++ (j ∷ q))
      ≡ option_and_then (λ m. option_and_then (λ d. member_at (class d) q) (option_and_then as_class (child_of (member m) j))) (member_at (class c) p)
  unfolding node_at
  class_split c [] j q k h = absurd (omega arith)
  class_split c (i ∷ []) j q k h =
      two_steps c i j q ∙ sym (ap (option_and_then (from_member j q)) (class_step c i []) ∙ then_then (λ m. member_at (member m) []) (from_member j q) (member_in c i))
  class_split c (i ∷ (l ∷ p)) j q zero h = absurd (omega arith)
  class_split c (i ∷ (l ∷ p)) j q (suc k) h =
      let rest : length p ≡ 1 + 2 * k = omega arith in
      two_steps c i l (p ++ (j ∷ q))
      ∙ then_ext (λ m. option_and_then (λ d. member_at (class d) (p ++ (j ∷ q))) (class_in m l)) (λ m. option_and_then (from_member j q) (from_member l p m))
      (λ m. then_ext (λ d. member_at (class d) (p ++ (j ∷ q))) (λ d. option_and_then (from_member j q) (member_at (class d) p)) (λ d. class_split d p j q k rest) (class_in m l)
      ∙ sym (then_then (λ d. member_at (class d) p) (from_member j q) (class_in m l)))
      (member_in c i)
      ∙ sym (ap (option_and_then (from_member j q)) (two_steps c i l p) ∙ then_then (from_member l p) (from_member j q) (member_in c i))

  pub unit_member : (u : declared.Unit A) (i : ℕ) (q : List ℕ)
      → member_at (unit u) (i ∷ q) ≡ option_and_then (λ c. member_at (class c) q) (option_and_then as_class (child_of (unit u) i))
  unfolding node_at
  unit_member u i q = go (child_of (unit u) i) refl
    where
      go : (o : Option (Node A)) → child_of (unit u) i ≡ o
          → option_and_then as_member (option_and_then (λ x. node_at x q) o) ≡ option_and_then (λ c. member_at (class c) q) (option_and_then as_class o)
      go None h = refl
      go (Some (class c)) h = refl
      go (Some x) h = let low = unit_child u x i h refl in low_member x q (omega arith)
