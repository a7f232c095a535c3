-- Where a string can be cut between its quotes.
use Rattle.std.proofs.Common.{◌≡◌, ℕ, ◌+◌, ◌-◌, ◌<◌, ◌≤◌, List, [], ◌∷◌, ◌++◌, length, take, drop, get_or, sym, ap, subst, ◌∙◌, refl, arith, add-one, length-append, length-take, length-drop, get_or-take, get_or-drop}
use Rattle.std.proofs.lemmas.Str.{IsUtf8-between, encodes-chars, encodes-append, encode_ascii, IsCharBoundary-after_ascii, IsCharBoundary-before_ascii}
use Rattle.std.specs.Str.{IsUtf8, IsCharBoundary, chars}
use lib.Utf8.{encodes, encode}
use Rattle.jr_text.specs.declared.spans.Span.{Span}
use Rattle.jr_text.specs.Spans.{CanCut, part_of}
use Rattle.jr_lex.specs.Strings.{IsString}

-- bytes between two quotes
record Quoted (bytes : List ℕ) : Type 0 where
  pub first : get_or bytes 0 0 ≡ 34
  pub last : get_or bytes (length bytes - 1) 0 ≡ 34
  pub two : 2 ≤ length bytes

last_is : (inner : List ℕ) → get_or (inner ++ (34 ∷ [])) (length inner) 0 ≡ 34
last_is [] = refl
last_is (b ∷ inner) = last_is inner

quoted : (inner : List ℕ) → Quoted (34 ∷ (inner ++ (34 ∷ [])))
quoted inner =
    let n = length-append inner (34 ∷ []) in
    let at : length (34 ∷ (inner ++ (34 ∷ []))) - 1 ≡ length inner + 1 = omega (arith, n) in
    record {
      first = refl;
      last = ap (λ (k : ℕ). get_or (34 ∷ (inner ++ (34 ∷ []))) k 0) (at ∙ add-one (length inner)) ∙ last_is inner;
      two = omega (arith, n);
    }

string_quoted : (bytes : List ℕ) → IsUtf8 bytes → IsString (chars bytes) → Quoted bytes
string_quoted bytes u s =
    let e : encodes (chars bytes) ≡ 34 ∷ (encodes s.content ++ (34 ∷ [])) = ap encodes s.quotes ∙ ap (λ (x : List ℕ). x ++ encodes (s.content ++ (34 ∷ []))) (encode_ascii 34 (omega arith)) ∙ ap (λ (x : List ℕ). 34 ∷ x) (encodes-append s.content (34 ∷ []) ∙ ap (λ (x : List ℕ). encodes s.content ++ (x ++ [])) (encode_ascii 34 (omega arith))) in
    subst Quoted (sym e ∙ encodes-chars bytes u) (quoted (encodes s.content))

part_length : (bytes : List ℕ) (s : Span) → CanCut bytes s → length (part_of bytes s) ≡ s.to - s.from
part_length bytes s c = simp (length-take, length-drop) (omega (arith, c.within, c.ordered))

part_at : (bytes : List ℕ) (s : Span) → CanCut bytes s → (k : ℕ) → k < length (part_of bytes s) → get_or (part_of bytes s) k 0 ≡ get_or bytes (s.from + k) 0
part_at bytes s c k h =
    let l : k < s.to - s.from = omega (arith, part_length bytes s c) in
    rw (get_or-take, get_or-drop)

pub cut_inside : (bytes : List ℕ) (s : Span) → IsUtf8 bytes → CanCut bytes s → IsString (chars (part_of bytes s)) → (s.from + 2 ≤ s.to) × IsCharBoundary bytes (s.from + 1) × IsCharBoundary bytes (s.to - 1)
cut_inside bytes s u c t =
    let part = part_of bytes s in
    let q = string_quoted part (IsUtf8-between bytes s.from s.to u c.ordered c.start c.stop) t in
    let n : length part ≡ s.to - s.from = part_length bytes s c in
    let first : get_or bytes s.from 0 ≡ 34 = ap (λ (k : ℕ). get_or bytes k 0) (omega arith) ∙ sym (part_at bytes s c 0 (omega (arith, q.two))) ∙ q.first in
    let last : get_or bytes (s.to - 1) 0 ≡ 34 =
    ap (λ (k : ℕ). get_or bytes k 0) (omega (arith, q.two)) ∙ sym (part_at bytes s c (length part - 1) (omega (arith, q.two))) ∙ q.last in (
      omega (arith, q.two, n),
      IsCharBoundary-after_ascii bytes s.from u (omega (arith, q.two, c.within)) (omega (arith, first)),
      IsCharBoundary-before_ascii bytes (s.to - 1) (omega (arith, q.two, c.within)) (omega (arith, last)),
    )
