-- A row gets the bits of another, word by word. Both rows stand in the same list; where they are one,
-- nothing changes.
use Rattle.std.proofs.Common.{◌≡◌, ◌⊎◌, ◌<◌, ℕ, ◌+◌, ◌*◌, ◌/◌, ◌%◌, List, length, get_or, ap, inl, inr, arith}
use Rattle.std.specs.Int.{bit_at}
use Rattle.std.proofs.lemmas.Bool.{cases_eq}
use Rattle.std.proofs.lemmas.Nat.{same_from_place}
use Rattle.jr_flow.specs.Rows.{Has, added, Merges}
use Rattle.jr_flow.proofs.Words.{word_has, has_word, added_keeps, added_has, added_only}

pub merges_none : (width from to : ℕ) (words : List ℕ) → Merges width from to 0 words words
merges_none width from to words = record {
  has = λ c lt h. absurd (omega arith);
  kept = λ a c h. h;
  only = λ a c lt h. inl h;
}

pub merges_more : (width from to k : ℕ) (first words : List ℕ) → k < width → to * width + k < length words → Merges width from to k first words
    → Merges width from to (k + 1) first (added words (to * width + k) (get_or words (from * width + k) 0))
merges_more width from to k first words inside within m = record {
  has = λ c lt h. has_next c lt h (cases_eq (c / 64) k);
  kept = λ a c h. keeps a c (m.kept a c h);
  only = λ a c lt h. only_next a c lt (added_only words width (to * width + k) (get_or words (from * width + k) 0) within a c h);
}
  where
    keeps : (a c : ℕ) → Has words width a c → Has (added words (to * width + k) (get_or words (from * width + k) 0)) width a c
    keeps = added_keeps words width (to * width + k) (get_or words (from * width + k) 0) within

    has_next : (c : ℕ) → c / 64 < k + 1 → Has first width from c → ((c / 64 ≡ k) ⊎ (c / 64 ≡ k → ⊥))
        → Has (added words (to * width + k) (get_or words (from * width + k) 0)) width to c
    has_next c lt h (inl is) =
        added_has words width (to * width + k) (get_or words (from * width + k) 0) within to c (ap (λ j. to * width + j) is) (has_word words width from k c is (m.kept from c h))
    has_next c lt h (inr ne) = keeps to c (m.has c (omega arith) h)

    one_of : (c : ℕ) → (Has first width from c ⊎ ((from ≡ to) × Has first width from c)) → Has first width from c
    one_of c (inl h) = h
    one_of c (inr h) = h.1

    only_next : (a c : ℕ) → c / 64 < width
        → (Has words width a c ⊎ ((a * width + c / 64 ≡ to * width + k) × (bit_at (get_or words (from * width + k) 0) (c % 64) ≡ 1)))
        → Has first width a c ⊎ ((a ≡ to) × Has first width from c)
    only_next a c lt (inl old) = m.only a c lt old
    only_next a c lt (inr (at, bit)) =
        let same = same_from_place a (c / 64) to k width lt inside at in
        inr (same.0, one_of c (m.only from c lt (word_has words width from k c same.1 bit)))
