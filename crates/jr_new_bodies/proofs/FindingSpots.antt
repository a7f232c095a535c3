-- The first spot of a span in a slice.
use Rattle.std.proofs.Common.{◌≡◌, ℕ, ◌+◌, ◌<◌, ◌≤◌, List, ◌∷◌, length, get_or, map, drop, Bool, true, false, Some, None, ap, ◌∙◌}
use Rattle.std.proofs.lemmas.List.{drop_all, drop_more}
use Rattle.std.specs.Prelude.{if◌then◌else◌}
use Rattle.jr_text.specs.declared.spans.Span.{Span}
use Rattle.jr_new_bodies.specs.declared.spots.PartSpot as raw
use Rattle.jr_new_bodies.specs.SpotView.{part_of}
use Rattle.jr_new_bodies.specs.Spotting.{same_span, find_part}

module _ (at : Span) (xs : List raw.PartSpot) (i : ℕ) (d : raw.PartSpot) (lt : i < length xs) where
  left : map part_of (drop i xs) ≡ part_of (get_or xs i d) ∷ map part_of (drop (i + 1) xs)
  left = ap (map part_of) (drop_more xs i d lt)

  pub found_here : same_span (get_or xs i d).at at ≡ true → find_part at (map part_of (drop i xs)) ≡ Some (part_of (get_or xs i d))
  found_here same = ap (find_part at) left ∙ ap (λ (b : Bool). if b then Some (part_of (get_or xs i d)) else find_part at (map part_of (drop (i + 1) xs))) same

  pub found_later : same_span (get_or xs i d).at at ≡ false → find_part at (map part_of (drop i xs)) ≡ find_part at (map part_of (drop (i + 1) xs))
  found_later other = ap (find_part at) left ∙ ap (λ (b : Bool). if b then Some (part_of (get_or xs i d)) else find_part at (map part_of (drop (i + 1) xs))) other

pub found_nowhere : (at : Span) (xs : List raw.PartSpot) (i : ℕ) → length xs ≤ i → find_part at (map part_of (drop i xs)) ≡ None
found_nowhere at xs i past = ap (λ (ys : List raw.PartSpot). find_part at (map part_of ys)) (drop_all i xs past)
