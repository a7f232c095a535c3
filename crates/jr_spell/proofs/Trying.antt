-- Forms are tried one after the other.
use Rattle.std.proofs.Common.{◌≡◌, ℕ, ◌+◌, ◌<◌, List, Some, sym, ap, subst, ◌∙◌, length, get_or, arith, inl, inr}
use Rattle.std.specs.Prelude.{slice_get, ◌⊎◌}
use Rattle.std.proofs.lemmas.Option.{slice_get-get_or}

module _ {X : Type 0} (P : X → Type 0) (xs : List X) where
  -- none of those below a number has the property
  abbrev pub NoneBelow : ℕ → Type 0
  NoneBelow n = (i : ℕ) (x : X) → i < n → slice_get xs i ≡ Some x → P x → ⊥

  split : (a b : ℕ) → a < b + 1 → (a < b) ⊎ (a ≡ b)
  split a b h = grind arith

  pub one_more : (n : ℕ) (d : X) → n < length xs → NoneBelow n → (P (get_or xs n d) → ⊥) → NoneBelow (n + 1)
  one_more n d below before here i x less at = by (split i n less)
    where
      by : ((i < n) ⊎ (i ≡ n)) → P x → ⊥
      by (inl l) = before i x l at
      by (inr is) =
          let e : Some (get_or xs n d) ≡ Some x = sym (slice_get-get_or xs n d below) ∙ ap (slice_get xs) (sym is) ∙ at in
          let same : get_or xs n d ≡ x = cc in
          subst (λ y. P y → ⊥) same here
