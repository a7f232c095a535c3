-- How far a machine comes that reads one thing at a time.
use Rattle.std.specs.Prelude.{
  ℕ,
  suc,
  List,
  [],
  ◌∷◌,
  Option,
  Some,
  None,
  option_map,
  option_and_then,
}

-- the longest up to here, or one further on
abbrev pub best : {T : Type 0} → Option T → Option ℕ → Option ℕ
best e (Some n) = Some (suc n)
best (Some e) None = Some 0
best None None = None

abbrev pub one_more : Option ℕ → ℕ
one_more (Some n) = suc n
one_more None = 0

module _ (S I T : Type 0) (step : S → I → Option S) (whole : S → Option T) where
  abbrev pub run : S → List I → Option S
  run s [] = Some s
  run s (i ∷ is) = option_and_then (λ (next : S). run next is) (step s i)

  -- how many the longest that is whole takes
  abbrev pub longest : S → List I → Option ℕ
  longest s [] = best (whole s) None
  longest s (i ∷ is) = best (whole s) (option_and_then (λ (next : S). longest next is) (step s i))

  -- how many can be read
  abbrev pub stop_of : S → List I → ℕ
  stop_of s [] = 0
  stop_of s (i ∷ is) = one_more (option_map (λ (next : S). stop_of next is) (step s i))
