-- Bytes of blanks, which are their own characters; bytes by their places; where a list is parted in
-- two ways.
use Rattle.std.proofs.Common.{◌≡◌, ◌⊎◌, inl, inr, ℕ, suc, zero, ◌+◌, ◌-◌, ◌<◌, ◌≤◌, ◌==◌, ◌||◌, Bool, true, false, List, [], ◌∷◌, ◌++◌, length, get_or, take, drop, refl, sym, ap, ◌∙◌, subst, arith}
use Rattle.std.specs.Prelude.{encode_utf8_all, slice_range}
use Rattle.std.specs.Char.{encode_utf8}
use Rattle.std.specs.Str.{IsUtf8, IsAscii, chars}
use Rattle.std.proofs.lemmas.Bool.{cases_lt, and_parts, and_from, both_ways, or_from, or_left, ne_eqb}
use Rattle.std.proofs.lemmas.List.{get_or-drop, length-drop}
use Rattle.std.proofs.lemmas.Str.{encodes-chars, encode_ascii, char_from_byte, IsUtf8-from_ascii, chars-IsAscii, encodes-IsAscii}
use Rattle.jr_lex.specs.Characters.{is_blank, is_line_end, all_pass, first_passes}
use Rattle.jr_rewrite.specs.Woven.{ends_in, is_indent}
use Rattle.jr_rewrite.proofs.LastBytes.{OfAscii, indent_ascii, line_end_ascii, some_encoded}

-- ---- lists

-- what is parted in two ways: the first part of one way is no longer than that of the other
pub parted : (f r y w : List ℕ) → f ++ r ≡ y ++ w → ((t : List ℕ) × (y ≡ f ++ t) × (r ≡ t ++ w)) ⊎ ((x : ℕ) × (t : List ℕ) × (f ≡ y ++ x ∷ t) × (w ≡ (x ∷ t) ++ r))
parted [] r y w e = inl (y, refl, e)
parted (x ∷ f) r [] w e = inr (x, f, refl, sym e)
parted (x ∷ f) r (z ∷ y) w e =
    let head : x ≡ z = cc in
    let tail : f ++ r ≡ y ++ w = cc in
    elim (parted f r y w tail) [
      | inl h ↦ inl (h.0, (λ i. sym head i ∷ h.1 i), h.2)
      | inr h ↦ inr (h.0, h.1, (λ i. head i ∷ h.2 i), h.3)
    ]

pub pass_parts : (p : ℕ → Bool) (xs ys : List ℕ) → all_pass p (xs ++ ys) ≡ true → (all_pass p xs ≡ true) × (all_pass p ys ≡ true)
pass_parts p [] ys h = (refl, h)
pass_parts p (x ∷ xs) ys h =
    let a = and_parts (p x) (all_pass p (xs ++ ys)) h in
    let b = pass_parts p xs ys a.1 in
    (and_from (p x) (all_pass p xs) a.0 b.0, b.1)

-- what begins a list of which the first part passes, and is no longer than that
pub pass_front : (p : ℕ → Bool) (gap z a r : List ℕ) → gap ++ z ≡ a ++ r → length a ≤ length gap → all_pass p gap ≡ true → all_pass p a ≡ true
pass_front p gap z [] r e l h = refl
pass_front p [] z (x ∷ a) r e l h = absurd (omega (arith, l))
pass_front p (g ∷ gap) z (x ∷ a) r e l h =
    let head : g ≡ x = cc in
    let tail : gap ++ z ≡ a ++ r = cc in
    let parts = and_parts (p g) (all_pass p gap) h in
    and_from (p x) (all_pass p a) (subst (λ n. p n ≡ true) head parts.0) (pass_front p gap z a r tail (omega (arith, l)) parts.1)

-- the same of a list of which so many pass
pub pass_take : (p : ℕ → Bool) (a r : List ℕ) (n : ℕ) → length a ≤ n → all_pass p (take n (a ++ r)) ≡ true → all_pass p a ≡ true
pass_take p [] r n l h = refl
pass_take p (x ∷ a) r zero l h = absurd (omega (arith, l))
pass_take p (x ∷ a) r (suc n) l h =
    let parts = and_parts (p x) (all_pass p (take n (a ++ r))) h in
    and_from (p x) (all_pass p a) parts.0 (pass_take p a r n (omega (arith, l)) parts.1)

-- ---- blanks

pub blank_ascii : OfAscii is_blank
blank_ascii n h =
    or_from ((n == 32) || (n == 9) || (n == 12)) (is_line_end n) (or_from ((n == 32) || (n == 9)) (n == 12) (indent_ascii n h) (form_feed n h)) (line_end_ascii n h)
  where
    form_feed : (n : ℕ) → 128 ≤ n → (n == 12) ≡ false
    form_feed n h = ne_eqb n 12 (λ e. absurd (omega (arith, h, e)))

is_low : (n : ℕ) → is_blank n ≡ true → n < 128
is_low n h = elim (cases_lt n 128) [ inl low ↦ low | inr high ↦ absurd (both_ways (is_blank n) (blank_ascii n high) h) ]

all_ascii : (bs : List ℕ) → all_pass is_blank bs ≡ true → IsAscii bs
all_ascii [] h i = omega arith
all_ascii (b ∷ bs) h zero = is_low b (and_parts (is_blank b) (all_pass is_blank bs) h).0
all_ascii (b ∷ bs) h (suc i) = all_ascii bs (and_parts (is_blank b) (all_pass is_blank bs) h).1 i

pub blank_text : (bs : List ℕ) → all_pass is_blank bs ≡ true → IsUtf8 bs
blank_text bs h = IsUtf8-from_ascii bs (all_ascii bs h)

pub blank_chars : (bs : List ℕ) → all_pass is_blank bs ≡ true → chars bs ≡ bs
blank_chars bs h = chars-IsAscii bs (all_ascii bs h)

-- what has blanks for its characters has them for its bytes
pub blank_bytes : (text : List ℕ) → IsUtf8 text → all_pass is_blank (chars text) ≡ true → all_pass is_blank text ≡ true
blank_bytes text u h = subst (λ t. all_pass is_blank t ≡ true) (sym (encodes-IsAscii (chars text) (all_ascii (chars text) h)) ∙ encodes-chars text u) h

pub indent_blank : (bs : List ℕ) → all_pass is_indent bs ≡ true → all_pass is_blank bs ≡ true
indent_blank [] h = refl
indent_blank (b ∷ bs) h =
    let parts = and_parts (is_indent b) (all_pass is_indent bs) h in
    and_from (is_blank b) (all_pass is_blank bs) (or_left ((b == 32) || (b == 9) || (b == 12)) (is_line_end b) (or_left (is_indent b) (b == 12) parts.0)) (indent_blank bs parts.1)

-- ---- the first byte

module _ (p : ℕ → Bool) (ascii : OfAscii p) where
  first_one : (c : ℕ) (cs : List ℕ) → first_passes p (encode_utf8 c ++ encode_utf8_all cs) ≡ p c
  first_one c cs = elim (cases_lt c 128) [
    | inl low ↦ ap (λ t. first_passes p (t ++ encode_utf8_all cs)) (encode_ascii c low)
    | inr high ↦ by_bytes (encode_utf8_all (c ∷ cs)) refl (some_encoded c cs) high
  ]
    where
      by_bytes : (bs : List ℕ) → bs ≡ encode_utf8 c ++ encode_utf8_all cs → (encode_utf8_all (c ∷ cs) ≡ [] → ⊥) → 128 ≤ c → first_passes p bs ≡ p c
      by_bytes [] e some high = absurd (some (sym e))
      by_bytes (b ∷ bs) e some high = elim (cases_lt b 128) [
        | inl small ↦ absurd (let same : c ≡ b = char_from_byte (b ∷ bs) (encode_utf8_all cs) c e small (omega arith) in omega (arith, same, small, high))
        | inr large ↦ ascii b large ∙ sym (ascii c high)
      ]

  first_encoded : (cs : List ℕ) → first_passes p (encode_utf8_all cs) ≡ first_passes p cs
  first_encoded [] = refl
  first_encoded (c ∷ cs) = first_one c cs

  pub first_chars : (text : List ℕ) → IsUtf8 text → first_passes p text ≡ first_passes p (chars text)
  first_chars text u = sym (ap (first_passes p) (encodes-chars text u)) ∙ first_encoded (chars text)

-- ---- bytes by their places

pass_first : (p : ℕ → Bool) (bs : List ℕ) (n : ℕ) → ((k : ℕ) → k < n → p (get_or bs k 0) ≡ true) → n ≤ length bs → all_pass p (take n bs) ≡ true
pass_first p bs zero each le = refl
pass_first p [] (suc n) each le = absurd (omega (arith, le))
pass_first p (b ∷ bs) (suc n) each le =
    and_from (p b) (all_pass p (take n bs)) (each 0 (omega arith)) (pass_first p bs n (λ k l. each (suc k) (omega (arith, l))) (omega (arith, le)))

-- where each byte from one place to another passes, the part does
pub pass_slice : (p : ℕ → Bool) (bs : List ℕ) (from to : ℕ) → from ≤ to → to ≤ length bs → ((k : ℕ) → from ≤ k → k < to → p (get_or bs k 0) ≡ true) → all_pass p (slice_range bs from to) ≡ true
pass_slice p bs from to le within each =
    pass_first p (drop from bs) (to - from) (λ k l. ap p (get_or-drop from bs k 0) ∙ each (from + k) (omega arith) (omega (arith, l, le))) (omega (arith, length-drop from bs, le, within))

-- the byte in front of a place
pub ends_there : (p : ℕ → Bool) (bs : List ℕ) (n : ℕ) → n < length bs → ends_in p (take (suc n) bs) ≡ p (get_or bs n 0)
ends_there p [] n l = absurd (omega (arith, l))
ends_there p (b ∷ bs) zero l = refl
ends_there p (b ∷ []) (suc n) l = absurd (omega (arith, l))
ends_there p (b ∷ c ∷ bs) (suc n) l = ends_there p (c ∷ bs) n (omega (arith, l))
