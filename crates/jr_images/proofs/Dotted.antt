-- The words of a class's name as it is written: alone, and behind the name of another.
use Rattle.std.proofs.Common.{◌≡◌, ℕ, suc, ◌+◌, List, [], ◌∷◌, ◌++◌, Some, None, Bool, true, false, cond, refl, sym, ap, ◌∙◌, length, arith, take, drop}
use Rattle.std.specs.List.{position_or_len, before_first, after_first}
use Rattle.std.specs.Prelude.{not}
use Rattle.std.proofs.lemmas.Bool.{lt-ltb, le-ltb}
use Rattle.std.proofs.lemmas.List.{length-append}
use Rattle.std.proofs.Math.Seq.{take-append_seam, drop-append-add}
use Rattle.jr_spell.specs.Binds.{is_dot, has_dot, front_word, last_word}
use Rattle.jr_images.specs.Spelling.{dotted}

-- no byte of it is a dot
abbrev pub IsWhole : List ℕ → Type 0
IsWhole text = position_or_len is_dot text ≡ length text

no_dot : (text : List ℕ) → IsWhole text → has_dot text ≡ false
no_dot text none = le-ltb (position_or_len is_dot text) (length text) (omega (arith, none))

pub whole_front : (text : List ℕ) → IsWhole text → front_word text ≡ None
whole_front text none = ap (λ b. cond b (Some (before_first is_dot text)) None) (no_dot text none)

pub whole_last : (text : List ℕ) → IsWhole text → last_word text ≡ text
whole_last text none = ap (λ b. cond b (after_first is_dot text) text) (no_dot text none)

position : (o k : List ℕ) → IsWhole o → position_or_len is_dot (o ++ (46 ∷ k)) ≡ length o
position [] k none = refl
position (x ∷ o) k none = by (is_dot x) refl (λ h. position o k h)
  where
    by : (b : Bool) → is_dot x ≡ b → (IsWhole o → position_or_len is_dot (o ++ (46 ∷ k)) ≡ length o) → position_or_len is_dot ((x ∷ o) ++ (46 ∷ k)) ≡ length (x ∷ o)
    by true e go = let p : 0 ≡ suc (length o) = sym (ap (λ b. cond (not b) (1 + position_or_len is_dot o) 0) e) ∙ none in absurd (omega (arith, p))
    by false e go = let p : 1 + position_or_len is_dot o ≡ suc (length o) = sym (ap (λ b. cond (not b) (1 + position_or_len is_dot o) 0) e) ∙ none in
        let q : position_or_len is_dot o ≡ length o = omega (arith, p) in
        let r : position_or_len is_dot (o ++ (46 ∷ k)) ≡ length o = go q in
        ap (λ b. cond (not b) (1 + position_or_len is_dot (o ++ (46 ∷ k))) 0) e ∙ omega (arith, r)

a_dot : (o k : List ℕ) → IsWhole o → has_dot (o ++ (46 ∷ k)) ≡ true
a_dot o k none = lt-ltb (position_or_len is_dot (o ++ (46 ∷ k))) (length (o ++ (46 ∷ k))) (let p = position o k none in let q = length-append o (46 ∷ k) in omega (arith, p, q))

pub dotted_front : (o k : List ℕ) → IsWhole o → front_word (dotted o k) ≡ Some o
dotted_front o k none = ap (λ b. cond b (Some (before_first is_dot (o ++ (46 ∷ k)))) None) (a_dot o k none)
    ∙ ap (λ n. Some (take n (o ++ (46 ∷ k)))) (position o k none) ∙ ap Some (take-append_seam o (46 ∷ k))

pub dotted_last : (o k : List ℕ) → IsWhole o → last_word (dotted o k) ≡ k
dotted_last o k none = ap (λ b. cond b (after_first is_dot (o ++ (46 ∷ k))) (o ++ (46 ∷ k))) (a_dot o k none)
    ∙ ap (λ n. drop (n + 1) (o ++ (46 ∷ k))) (position o k none) ∙ drop-append-add o (46 ∷ k) 1
