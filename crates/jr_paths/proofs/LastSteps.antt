-- The last place of a kind on a path, as a walk down the path finds it.
use Rattle.std.proofs.Common.{◌≡◌, ℕ, zero, suc, ◌+◌, ◌<◌, ◌≤◌, Bool, true, false, ◌⊎◌, inl, inr, List, [], ◌∷◌, length, take, drop, get_or, Option, Some, None, option_and_then, refl, sym, ap, subst, ◌∙◌, arith, add-one}
use Rattle.std.proofs.Math.Nat.{eq-or-lt_of_le}
use Rattle.std.proofs.Math.Seq.{take-suc}
use Rattle.std.proofs.lemmas.List.{take-take, take-append-drop}
use Rattle.std.specs.Option.{IsSome, is_some}
use Rattle.jr_ast.specs.Nodes.{Node, node_at, child_of}
use Rattle.jr_paths.specs.PathKinds.{IsLast}
use Rattle.jr_paths_nodes.proofs.WithLaws.{at_append}

near_or_far : (k i : ℕ) → (k ≤ i) ⊎ (i < k)
near_or_far zero i = inl (omega arith)
near_or_far (suc k) zero = inr (omega arith)
near_or_far (suc k) (suc i) = next (near_or_far k i)
  where
    next : (k ≤ i) ⊎ (i < k) → (suc k ≤ suc i) ⊎ (suc i < suc k)
    next (inl h) = inl (omega (h, arith))
    next (inr h) = inr (omega (h, arith))

module _ {X : Type 0} (at : List ℕ → Option X) (steps : List ℕ) where
  pub last_start : IsLast at steps 0 0
  last_start = (omega arith, λ h. absurd (omega (h, arith)), λ k h j. absurd (omega (h, j, arith)))

  pub last_kept : (i last : ℕ) → IsLast at steps i last → at (take (i + 1) steps) ≡ None → IsLast at steps (i + 1) last
  last_kept i last h none = (omega (h.0, arith), h.1, λ k low high. beyond k low (eq-or-lt_of_le high))
    where
      beyond : (k : ℕ) → last < k → (k ≡ i + 1) ⊎ (k < i + 1) → at (take k steps) ≡ None
      beyond k low (inl same) = subst (λ j. at (take j steps) ≡ None) (sym same) none
      beyond k low (inr near) = h.2 k low (omega (near, arith))

  pub last_next : (i : ℕ) → IsSome (at (take (i + 1) steps)) → IsLast at steps (i + 1) (i + 1)
  last_next i some = (omega arith, λ h. some, λ k low high. absurd (omega (low, high, arith)))

  pub last_ends : (i last : ℕ) → i ≤ length steps → IsLast at steps i last → ((k : ℕ) → i < k → at (take k steps) ≡ None) → IsLast at steps (length steps) last
  last_ends i last within h none = (omega (h.0, within, arith), h.1, λ k low high. beyond k low (near_or_far k i))
    where
      beyond : (k : ℕ) → last < k → (k ≤ i) ⊎ (i < k) → at (take k steps) ≡ None
      beyond k low (inl near) = h.2 k low near
      beyond k low (inr far) = none k far

  -- the step to a node of the kind, or to another
  pub last_step : (i last now : ℕ) (test : Bool) → test ≡ is_some (at (take (i + 1) steps)) → IsLast at steps i last
      → ((test ≡ true) × (now ≡ i + 1)) ⊎ ((test ≡ false) × (now ≡ last)) → IsLast at steps (i + 1) now
  last_step i last now test is h (inl (yes_it_is, same)) = subst (IsLast at steps (i + 1)) (sym same) (last_next i (sym is ∙ yes_it_is))
  last_step i last now test is h (inr (no_it_isnt, same)) = subst (IsLast at steps (i + 1)) (sym same) (last_kept i last h (none_is (at (take (i + 1) steps)) (sym is ∙ no_it_isnt)))
    where
      none_is : (o : Option X) → is_some o ≡ false → o ≡ None
      none_is None e = refl
      none_is (Some x) e = absurd (cc e)

  pub last_whole : (i last : ℕ) → i ≤ length steps → length steps ≤ i → IsLast at steps i last → IsLast at steps (length steps) last
  last_whole i last low high h = let same : i ≡ length steps = omega (low, high, arith) in subst (λ n. IsLast at steps n last) same h

module _ {A : Type 0} (u : Node A) (steps : List ℕ) where
  pub step_node : (n : Node A) (i : ℕ) → node_at u (take i steps) ≡ Some n → i < length steps → node_at u (take (i + 1) steps) ≡ child_of n (get_or steps i 0)
  unfolding node_at
  step_node n i at low =
      ap (λ j. node_at u (take j steps)) (add-one i) ∙ ap (node_at u) (take-suc steps i 0 low) ∙ at_append u (take i steps) (get_or steps i 0 ∷ [])
      ∙ ap (option_and_then (λ c. node_at c (get_or steps i 0 ∷ []))) at ∙ some_again (child_of n (get_or steps i 0))
    where
      some_again : (o : Option (Node A)) → option_and_then (λ c. Some c) o ≡ o
      some_again None = refl
      some_again (Some c) = refl

  pub none_beyond : (i : ℕ) → node_at u (take (i + 1) steps) ≡ None → (k : ℕ) → i < k → node_at u (take k steps) ≡ None
  none_beyond i none k far =
      let front = take (i + 1) (take k steps) in
      ap (node_at u) (sym (take-append-drop (i + 1) (take k steps))) ∙ at_append u front (drop (i + 1) (take k steps))
      ∙ ap (option_and_then (λ c. node_at c (drop (i + 1) (take k steps)))) (ap (node_at u) (take-take (i + 1) k steps (omega (far, arith))) ∙ none)
