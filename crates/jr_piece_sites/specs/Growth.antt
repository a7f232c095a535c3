-- How many sites a walk over what stands in front of a part has put.
use Rattle.std.specs.Prelude.{◌≡◌, ℕ, ◌+◌, length}
use Rattle.jr_expr_sites.specs.Steps.{sites_in}
use Rattle.jr_expr_sites.specs.StepView.{steps_in}
use Rattle.jr_expr_sites.specs.KnownFacts.{Given, Others}
use Rattle.jr_expr_sites.specs.Routes.{Steps}

abbrev pub count : Given → Steps → ℕ
count g steps = length (sites_in (steps_in g.member steps))

-- so many more, whatever else is known
abbrev pub Grows : Given → (Others → ℕ) → (old new : Steps) → Type 0
Grows g n old new = (o : Others) → count g new ≡ count g old + n o

-- so many more, where what else is known is so
abbrev pub GrowsSo : Given → (IsSo : Others → Type 0) → (Others → ℕ) → (old new : Steps) → Type 0
GrowsSo g IsSo n old new = (o : Others) → IsSo o → count g new ≡ count g old + n o

-- the same, and the number of the next local
pub record GrownTo (g : Given) (IsSo : Others → Type 0) (n : Others → ℕ) (next k : ℕ)
    (old new : Steps) : Type 0 where
  pub number : k ≡ next
  pub grown : GrowsSo g IsSo n old new
