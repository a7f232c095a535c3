-- Texts that are too long, one by itself or all together.
use Rattle.std.specs.Prelude.{◌≡◌, ℕ, ◌<◌, ◌≤◌, ◌⊎◌, List, length, slice_get, Some, All}
use Rattle.jr_text.specs.Texts.{text_limit}
use Rattle.jr_sources.specs.Sources.{total_of, total_limit}

-- no text has more bytes than a text may
abbrev pub AreWithin : List (List ℕ) → Type 0
AreWithin texts = All (λ (t : List ℕ). length t ≤ text_limit) texts

-- the first text that has more has so many
pub record IsFirstTooLong (texts : List (List ℕ)) (len : ℕ) : Type 0 where
  pub number : ℕ
  pub text : List ℕ
  pub stands : slice_get texts number ≡ Some text
  pub beyond : text_limit < length text
  pub told : len ≡ length text
  pub first : (i : ℕ) (other : List ℕ) → i < number → slice_get texts i ≡ Some other
      → length other ≤ text_limit

-- or else they have so many together, which are more than all texts may have
pub record TogetherTooLong (texts : List (List ℕ)) (len : ℕ) : Type 0 where
  pub within : AreWithin texts
  pub beyond : total_limit < total_of texts
  pub told : len ≡ total_of texts

abbrev pub AreTooLong : List (List ℕ) → ℕ → Type 0
AreTooLong texts len = IsFirstTooLong texts len ⊎ TogetherTooLong texts len
