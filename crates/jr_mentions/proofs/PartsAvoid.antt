-- What stands within an expression that avoids the names avoids them.
use Rattle.std.proofs.Common.{◌≡◌, ℕ, zero, suc, List, [], ◌∷◌, ◌++◌, Option, Some, None, subst}
use Rattle.std.specs.Prelude.{option_and_then, slice_get}
use Rattle.jr_ast.specs.Tree as tree
use Rattle.jr_ast.specs.Nodes.{Node, unit, class, modifier, word, type, param, member, stmt, exp, exps, type_children, target_children, exp_children, children_of, child_of, node_at, as_exp, exp_at}
use Rattle.jr_mentions.specs.Avoids.{AvoidsExp, AvoidsTarget, AvoidsRow}

module _ {A : Type 0} (names : List (List ℕ)) where
  -- of the nodes that stand within expressions
  abbrev AvoidsNode : Node A → Type 0
  AvoidsNode (exp e) = AvoidsExp names e
  AvoidsNode (word w) = Unit {0}
  AvoidsNode (type t) = Unit {0}
  AvoidsNode (unit u) = ⊥
  AvoidsNode (class c) = ⊥
  AvoidsNode (modifier m) = ⊥
  AvoidsNode (param p) = ⊥
  AvoidsNode (member x) = ⊥
  AvoidsNode (stmt x) = ⊥

  abbrev AvoidNodes : List (Node A) → Type 0
  AvoidNodes [] = Unit {0}
  AvoidNodes (n ∷ ns) = AvoidsNode n × AvoidNodes ns

  abbrev AvoidsIfSome : Option (Node A) → Type 0
  AvoidsIfSome None = Unit {0}
  AvoidsIfSome (Some n) = AvoidsNode n

  in_row : (es : tree.Exps A) → AvoidsRow names es → AvoidNodes (exps es)
  unfolding AvoidsRow
  in_row tree.end a = tt
  in_row (tree.more e es) a = (a.0, in_row es a.1)

  in_target : (to : tree.Target A) (ns : List (Node A)) → AvoidsTarget names to → AvoidNodes ns
      → AvoidNodes (target_children to ++ ns)
  unfolding AvoidsTarget
  in_target tree.no_target ns a all = all
  in_target (tree.on e) ns a all = (a, all)

  in_exp : (e : tree.Exp A) → AvoidsExp names e → AvoidNodes (exp_children e)
  unfolding AvoidsExp exp_children
  in_exp (tree.number m n) a = tt
  in_exp (tree.truth m b) a = tt
  in_exp (tree.null m) a = tt
  in_exp (tree.string m s) a = tt
  in_exp (tree.name m w) a = (tt, tt)
  in_exp (tree.field m e w) a = (a.0, (tt, tt))
  in_exp (tree.super_field m w) a = (tt, tt)
  in_exp (tree.this m) a = tt
  in_exp (tree.class_literal m t) a = (tt, tt)
  in_exp (tree.call m to w args) a = in_target to (word w ∷ exps args) a.0 (tt, in_row args a.2)
  in_exp (tree.super_call m w args) a = (tt, in_row args a.1)
  in_exp (tree.create m t args) a = (tt, in_row args a)
  in_exp (tree.paren m e) a = (a, tt)
  in_exp (tree.cast m t e) a = (tt, (a, tt))
  in_exp (tree.unary m o e) a = (a, tt)
  in_exp (tree.bump m o e) a = (a, tt)
  in_exp (tree.binary m o l r) a = (a.0, (a.1, tt))
  in_exp (tree.assign m l r) a = (a.0, (a.1, tt))
  in_exp (tree.compound m o l r) a = (a.0, (a.1, tt))

  in_type : (t : tree.TypeName A) → AvoidNodes (type_children t)
  in_type (tree.int m) = tt
  in_type (tree.boolean m) = tt
  in_type (tree.named m None w) = (tt, tt)
  in_type (tree.named m (Some o) w) = (tt, (tt, tt))

  in_node : (n : Node A) → AvoidsNode n → AvoidNodes (children_of n)
  in_node (exp e) a = in_exp e a
  in_node (word w) a = tt
  in_node (type t) a = in_type t
  in_node (unit u) a = absurd a
  in_node (class c) a = absurd a
  in_node (modifier m) a = absurd a
  in_node (param p) a = absurd a
  in_node (member x) a = absurd a
  in_node (stmt x) a = absurd a

  at_number : (ns : List (Node A)) → AvoidNodes ns → (i : ℕ) → AvoidsIfSome (slice_get ns i)
  at_number [] all i = tt
  at_number (n ∷ ns) all zero = all.0
  at_number (n ∷ ns) all (suc i) = at_number ns all.1 i

  and_then : (f : Node A → Option (Node A)) → ((n : Node A) → AvoidsNode n → AvoidsIfSome (f n))
      → (o : Option (Node A)) → AvoidsIfSome o → AvoidsIfSome (option_and_then f o)
  and_then f go None a = tt
  and_then f go (Some n) a = go n a

  at_path : (path : List ℕ) (n : Node A) → AvoidsNode n → AvoidsIfSome (node_at n path)
  unfolding node_at
  at_path [] n a = a
  at_path (i ∷ is) n a = and_then (λ c. node_at c is) (λ c h. at_path is c h) (child_of n i)
      (at_number (children_of n) (in_node n a) i)

  as_found : (o : Option (Node A)) → AvoidsIfSome o → (x : tree.Exp A)
      → option_and_then as_exp o ≡ Some x → AvoidsExp names x
  as_found None a x is = absurd cc
  as_found (Some (exp e)) a x is = let same : e ≡ x = cc in subst (λ y. AvoidsExp names y) same a
  as_found (Some (word w)) a x is = absurd cc
  as_found (Some (type t)) a x is = absurd cc
  as_found (Some (unit u)) a x is = absurd a
  as_found (Some (class c)) a x is = absurd a
  as_found (Some (modifier m)) a x is = absurd a
  as_found (Some (param p)) a x is = absurd a
  as_found (Some (member y)) a x is = absurd a
  as_found (Some (stmt y)) a x is = absurd a

  -- what a path leads to
  pub part_avoids : (e : tree.Exp A) → AvoidsExp names e → (path : List ℕ) (x : tree.Exp A)
      → exp_at (exp e) path ≡ Some x → AvoidsExp names x
  part_avoids e a path x is = as_found (node_at (exp e) path) (at_path path (exp e) a) x is
