-- What is asked of two tables, that casts fail in both alike: what is assignable has assignable
-- images, and the images of types that the table knows are assignable only where these are.
use Rattle.std.specs.Prelude.{List}
use Rattle.jr_table.specs.Keys.{Ty}
use Rattle.jr_table.specs.Rows.{Row}
use Rattle.jr_table.specs.Keyed.{IsAssignable}
use Rattle.jr_image_code.specs.KnownPlaces.{IsKnown}

pub record CastsAgree (old new : List Row) (to : Ty → Ty) : Type 0 where
  pub forth : (t u : Ty) → IsAssignable old t u → IsAssignable new (to t) (to u)
  pub back : (t u : Ty) → IsKnown old t → IsKnown old u → IsAssignable new (to t) (to u)
      → IsAssignable old t u
