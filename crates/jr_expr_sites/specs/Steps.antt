-- A way as a row of steps, each behind its parts, as a walk over a tree meets them; those that have
-- a site stand in evaluation order.
use Rattle.std.specs.Prelude.{ℕ, zero, suc, List, [], ◌∷◌, ◌++◌}
use Rattle.jr_cover.specs.Ways as way
use Rattle.jr_cover.specs.Ways.{Way}
use Rattle.jr_way_graph.specs.declared.shapes.Shape.{Shape}
use Rattle.jr_way_graph.specs.declared.shapes.Shape.TheVariants as shape

pub data Step (S : Type 0) : Type 0 where
  pass : Step S
  site : (of : S) → Step S
  -- of a loop, or the entry of a monitor
  opens : (of : S) → Step S
  row : Step S
  fork : Step S
  leave : Step S
  turns : Step S
  -- the exit of a monitor
  closes : (of : S) → Step S

abbrev pub steps_of : {S : Type 0} → Way S → List (Step S)
steps_of way.pass = pass ∷ []
steps_of (way.one s) = site s ∷ []
steps_of (way.row a b) = steps_of a ++ (steps_of b ++ row ∷ [])
steps_of (way.fork a b) = steps_of a ++ (steps_of b ++ fork ∷ [])
steps_of way.leave = leave ∷ []
steps_of (way.turns s c b) = opens s ∷ (steps_of c ++ (steps_of b ++ turns ∷ []))
steps_of (way.inside e b x) = opens e ∷ (steps_of b ++ closes x ∷ [])

-- so many
abbrev pub rows : {S : Type 0} → ℕ → List (Step S)
rows zero = []
rows (suc n) = row ∷ rows n

abbrev pub with_site : {S : Type 0} → Step S → List S → List S
with_site pass l = l
with_site (site s) l = s ∷ l
with_site (opens s) l = s ∷ l
with_site row l = l
with_site fork l = l
with_site leave l = l
with_site turns l = l
with_site (closes s) l = s ∷ l

-- the sites of a row of steps, in its order
abbrev pub sites_in : {S : Type 0} → List (Step S) → List S
sites_in [] = []
sites_in (t ∷ ts) = with_site t (sites_in ts)

abbrev pub shape_of : {S : Type 0} → Step S → Shape
shape_of pass = shape.Pass
shape_of (site s) = shape.Site
shape_of (opens s) = shape.Opens
shape_of row = shape.Row
shape_of fork = shape.Fork
shape_of leave = shape.Leave
shape_of turns = shape.Turns
shape_of (closes s) = shape.Closes
