-- How numbers start.
use Rattle.std.proofs.Common.{◌≡◌, ℕ, zero, suc, ◌+◌, ◌-◌, ◌/◌, ◌%◌, ◌<◌, ◌≤◌, ◌==◌, ◌⊎◌, Bool, true, false, cond, List, [], ◌∷◌, ◌++◌, Some, refl, sym, ap, ◌∙◌, inl, inr, arith}
use Rattle.std.specs.Prelude.{nat_lt, unwrap_or, codes}
use Rattle.std.specs.Fmt.{digit_glyph, digits_onto, digits, decimal}
use Rattle.std.proofs.lemmas.Bool.{cases_Bool, ne_eqb, lt-ltb, cond-true, cond-false}
use Rattle.jr_ast.specs.Tree.{Exp, number, truth, null, string, name, field, super_field, this, class_literal, call, super_call, create, paren, cast, unary, bump, binary, assign, compound}
use Rattle.jr_print.specs.ExpressionText.{printed_dot}
use Rattle.jr_print.specs.Starts.{IsSign, starts}

-- the first is a digit
abbrev StartsDigit : List ℕ → Type 0
StartsDigit [] = ⊥
StartsDigit (c ∷ cs) = 48 ≤ c

glyph : (n : ℕ) → 48 ≤ digit_glyph false (n % 10)
glyph n = elim (nat_lt (n % 10) 10) as (λ b. 48 ≤ cond b (48 + n % 10) (87 + n % 10)) [ true ↦ omega arith | false ↦ omega arith ]

onto : (k n : ℕ) (acc : List ℕ) → StartsDigit acc → StartsDigit (digits_onto k 10 false n acc)
onto zero n acc h = h
onto (suc k) n acc h =
    elim (n / 10 == 0) as (λ b. StartsDigit (cond b (digit_glyph false (n % 10) ∷ acc) (digits_onto k 10 false (n / 10) (digit_glyph false (n % 10) ∷ acc)))) [
      | true ↦ glyph n
      | false ↦ onto k (n / 10) (digit_glyph false (n % 10) ∷ acc) (glyph n)
    ]

first : (n : ℕ) → StartsDigit (decimal n)
unfolding digits
first n =
    elim (n / 10 == 0) as (λ b. StartsDigit (cond b (digit_glyph false (n % 10) ∷ []) (digits_onto 63 10 false (n / 10) (digit_glyph false (n % 10) ∷ [])))) [
      | true ↦ glyph n
      | false ↦ onto 63 (n / 10) (digit_glyph false (n % 10) ∷ []) (glyph n)
    ]

no_sign : (sign : ℕ) (cs : List ℕ) → IsSign sign → StartsDigit cs → Some false ≡ starts sign cs
no_sign sign [] is h = absurd h
no_sign sign (c ∷ cs) is h =
    elim is [
      | inl plus ↦ sym (ap Some (ne_eqb c sign (λ e. absurd (omega arith))))
      | inr minus ↦ sym (ap Some (ne_eqb c sign (λ e. absurd (omega arith))))
    ]

-- a number starts with no sign
pub number_starts : (sign n : ℕ) → IsSign sign → Some false ≡ starts sign (decimal n)
number_starts sign n is = no_sign sign (decimal n) is (first n)

-- what is no sign
pub no_first : (sign c : ℕ) → IsSign sign → (c == 43) ≡ false → (c == 45) ≡ false → Some false ≡ Some (c == sign)
no_first sign c is plus minus =
    elim is [
      | inl e ↦ sym (ap (λ s. Some (c == s)) e ∙ ap Some plus)
      | inr e ↦ sym (ap (λ s. Some (c == s)) e ∙ ap Some minus)
    ]

-- a text that may be empty, and what is behind it
pub starts_on : (sign : ℕ) (text rest : List ℕ) (b : Bool) → Some b ≡ starts sign rest → Some (unwrap_or (starts sign text) b) ≡ starts sign (text ++ rest)
starts_on sign [] rest b h = h
starts_on sign (c ∷ cs) rest b h = refl

pub starts_before : (sign : ℕ) (text middle rest : List ℕ) (b : Bool) → Some b ≡ starts sign (middle ++ rest) → Some (unwrap_or (starts sign text) b) ≡ starts sign (text ++ middle ++ rest)
starts_before sign [] middle rest b h = h
starts_before sign (c ∷ cs) middle rest b h = refl

pub dot_starts : {A : Type 0} (sign : ℕ) (e : Exp A) (rest : List ℕ) → IsSign sign → Some false ≡ starts sign (printed_dot e ++ rest)
dot_starts sign (number _ _) rest is = no_first sign 32 is refl refl
dot_starts sign (truth _ _) rest is = no_first sign 46 is refl refl
dot_starts sign (null _) rest is = no_first sign 46 is refl refl
dot_starts sign (string _ _) rest is = no_first sign 46 is refl refl
dot_starts sign (name _ _) rest is = no_first sign 46 is refl refl
dot_starts sign (field _ _ _) rest is = no_first sign 46 is refl refl
dot_starts sign (super_field _ _) rest is = no_first sign 46 is refl refl
dot_starts sign (this _) rest is = no_first sign 46 is refl refl
dot_starts sign (class_literal _ _) rest is = no_first sign 46 is refl refl
dot_starts sign (call _ _ _ _) rest is = no_first sign 46 is refl refl
dot_starts sign (super_call _ _ _) rest is = no_first sign 46 is refl refl
dot_starts sign (create _ _ _) rest is = no_first sign 46 is refl refl
dot_starts sign (paren _ _) rest is = no_first sign 46 is refl refl
dot_starts sign (cast _ _ _) rest is = no_first sign 46 is refl refl
dot_starts sign (unary _ _ _) rest is = no_first sign 46 is refl refl
dot_starts sign (bump _ _ _) rest is = no_first sign 46 is refl refl
dot_starts sign (binary _ _ _ _) rest is = no_first sign 46 is refl refl
dot_starts sign (assign _ _ _) rest is = no_first sign 46 is refl refl
dot_starts sign (compound _ _ _ _) rest is = no_first sign 46 is refl refl
