-- The file of a name, among those of a program.
use Rattle.std.proofs.Common.{◌≡◌, ℕ, ◌+◌, ◌<◌, List, Option, Some, None, length, refl, sym, ap, subst, ◌∙◌, inl, inr, arith}
use Rattle.std.specs.Prelude.{slice_get, option_map, nat_lt}
use Rattle.std.proofs.lemmas.Bool.{cases_Bool, ltb-true, ltb-false}
use Rattle.std.proofs.lemmas.Option.{slice_get_within}
use Rattle.jr_text.specs.declared.spans.Span.{Span}
use Rattle.jr_bind.specs.Programs.{File, Program}
use Rattle.jr_rename.specs.Steps.{HasName}

some_same : (x y : List ℕ) → Some x ≡ Some y → x ≡ y
some_same x y e = cc

module _ (p : Program Span) (name : List ℕ) where
  pub within : (n : ℕ) → HasName p name n → n < length p.files
  within n h = slice_get_within p.files n h.of h.stands

  -- the name of the file of a number
  module _ (n : ℕ) (told : List ℕ) (is : option_map (λ (f : File Span). f.name) (slice_get p.files n) ≡ Some told) where
    pub has : told ≡ name → HasName p name n
    has same = by (slice_get p.files n) refl is
      where
        by : (o : Option (File Span)) → slice_get p.files n ≡ o → option_map (λ (f : File Span). f.name) o ≡ Some told → HasName p name n
        by None e h = absurd cc
        by (Some f) e h = let t : f.name ≡ told = cc in record { of = f; stands = e; named = t ∙ same }

    pub told_is : HasName p name n → told ≡ name
    told_is h = let e : Some h.of.name ≡ Some told = sym (ap (option_map (λ (f : File Span). f.name)) h.stands) ∙ is in some_same told h.of.name (sym e) ∙ h.named

  -- one more that hasn't it
  pub none_next : (n : ℕ) → ((m : ℕ) → m < n → HasName p name m → ⊥) → (HasName p name n → ⊥) → (m : ℕ) → m < n + 1 → HasName p name m → ⊥
  none_next n before here m k h =
      elim (cases_Bool (nat_lt m n)) [
        | inl e ↦ before m (ltb-true m n e) h
        | inr e ↦ (let same : m ≡ n = omega (arith, k, ltb-false m n e) in here (subst (HasName p name) same h))
      ]
