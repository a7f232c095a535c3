-- Whether a word is among modifiers: P asks it of pure ones, test of one word.
use Rattle.std.proofs.Common.{◌≡◌, ℕ, ◌+◌, ◌<◌, ◌≤◌, List, [], ◌∷◌, length, drop, get_or, map, Bool, true, false, sym, ap, ◌∙◌}
use Rattle.std.proofs.lemmas.List.{drop_all}
use Rattle.std.specs.Prelude.{◌||◌}
use Rattle.jr_ast.specs.declared.operators.ModWord.{ModWord}
use Rattle.jr_ast.specs.declared.parts.Modifier.{Modifier}
use Rattle.jr_ast.specs.MemberTree as declared
use Rattle.jr_ast.specs.View.{modifier_of}
use Rattle.jr_bind_expr.proofs.Steps.{left_is}

module _ {A : Type 0} (P : List (declared.Modifier A) → Bool) (test : ModWord → Bool) (head : (m : declared.Modifier A) (ms : List (declared.Modifier A)) → P (m ∷ ms) ≡ (test m.word || P ms)) (none : P [] ≡ false) (xs : List (Modifier A)) (i : ℕ) where
  abbrev pub left : ℕ → Bool
  left n = P (map modifier_of (drop n xs))

  module _ (x : Modifier A) (lt : i < length xs) (is : x ≡ get_or xs i x) where
    step : left i ≡ (test x.word || left (i + 1))
    step = ap (λ (ys : List (Modifier A)). P (map modifier_of ys)) (left_is xs i x lt is) ∙ head (modifier_of x) (map modifier_of (drop (i + 1) xs))

    pub word_here : test x.word ≡ true → true ≡ left i
    word_here h = sym (step ∙ ap (λ (b : Bool). b || left (i + 1)) h)

    pub word_behind : test x.word ≡ false → left (i + 1) ≡ left i
    word_behind h = sym (step ∙ ap (λ (b : Bool). b || left (i + 1)) h)

  pub no_word : length xs ≤ i → false ≡ left i
  no_word past = sym (ap (λ (ys : List (Modifier A)). P (map modifier_of ys)) (drop_all i xs past) ∙ none)
