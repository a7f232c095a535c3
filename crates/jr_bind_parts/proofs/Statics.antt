-- Whether a word `static` is among modifiers.
use Rattle.std.proofs.Common.{◌≡◌, ℕ, ◌+◌, ◌<◌, ◌≤◌, List, [], ◌∷◌, length, drop, get_or, map, Bool, true, false, refl, sym, ap, ◌∙◌}
use Rattle.std.proofs.lemmas.List.{drop_all}
use Rattle.std.specs.Prelude.{◌||◌}
use Rattle.jr_ast.specs.declared.parts.Modifier.{Modifier}
use Rattle.jr_ast.specs.View.{modifier_of}
use Rattle.jr_table.specs.Entries.{is_static_word}
use Rattle.jr_table.specs.HeadRules.{is_static_member}
use Rattle.jr_bind_expr.proofs.Steps.{left_is}

pub map_count : {X Y : Type 0} (f : X → Y) (xs : List X) → length xs ≡ length (map f xs)
map_count f [] = refl
map_count f (x ∷ xs) = let e = map_count f xs in cc

module _ {A : Type 0} (B : A → ℕ → ℕ) (xs : List (Modifier A)) (i : ℕ) where
  abbrev pub left : ℕ → Bool
  left n = is_static_member B (map modifier_of (drop n xs))

  module _ (x : Modifier A) (lt : i < length xs) (is : x ≡ get_or xs i x) where
    step : left i ≡ (is_static_word x.word || left (i + 1))
    step = ap (λ ys. is_static_member B (map modifier_of ys)) (left_is xs i x lt is)

    pub static_here : is_static_word x.word ≡ true → true ≡ left i
    static_here h = sym (step ∙ ap (λ b. b || left (i + 1)) h)

    pub static_behind : is_static_word x.word ≡ false → left (i + 1) ≡ left i
    static_behind h = sym (step ∙ ap (λ b. b || left (i + 1)) h)

  pub no_static : length xs ≤ i → false ≡ left i
  no_static past = sym (ap (λ ys. is_static_member B (map modifier_of ys)) (drop_all i xs past))
