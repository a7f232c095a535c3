-- One step down a path.
use Rattle.std.proofs.Common.{◌≡◌, ℕ, ◌+◌, ◌<◌, ◌≤◌, List, length, get_or, drop, Some, None, option_and_then, sym, ap, ◌∙◌, add-one, drop-cons}
use Rattle.std.proofs.lemmas.List.{at_drop_all}
use Rattle.jr_ast.specs.Nodes.{Node, node_at, child_of}

module _ {A : Type 0} where
  -- what is left of the path at i begins with the step at i
  pub step_down : (n : Node A) (path : List ℕ) (i : ℕ) → i < length path
      → node_at n (drop i path) ≡ option_and_then (λ c. node_at c (drop (i + 1) path)) (child_of n (get_or path i 0))
  unfolding node_at
  step_down n path i h = rw (add-one, drop-cons path i 0)

  pub step_to : (n c : Node A) (path : List ℕ) (i : ℕ) → i < length path → Some c ≡ child_of n (get_or path i 0) → node_at c (drop (i + 1) path) ≡ node_at n (drop i path)
  step_to n c path i h e = ap (option_and_then (λ (d : Node A). node_at d (drop (i + 1) path))) e ∙ sym (step_down n path i h)

  pub step_off : (n : Node A) (path : List ℕ) (i : ℕ) → i < length path → None ≡ child_of n (get_or path i 0) → None ≡ node_at n (drop i path)
  step_off n path i h e = ap (option_and_then (λ (d : Node A). node_at d (drop (i + 1) path))) e ∙ sym (step_down n path i h)

  pub step_end : (n : Node A) (path : List ℕ) (i : ℕ) → length path ≤ i → Some n ≡ node_at n (drop i path)
  unfolding node_at
  step_end n path i h = sym (at_drop_all (node_at n) path i h)
