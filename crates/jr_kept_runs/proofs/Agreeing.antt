-- What is asked of two tables holds for a rename's.
use Rattle.std.proofs.Common.{List}
use Rattle.jr_table.specs.Keys.{ClassKey, MethodKey}
use Rattle.jr_table.specs.Decls.{Decl}
use Rattle.jr_table.specs.Rows.{Row}
use Rattle.jr_table.specs.Conditions.{AreRows}
use Rattle.jr_images.specs.Families.{AreRenamed}
use Rattle.jr_images.specs.Images.{Renaming}
use Rattle.jr_images.specs.Regions.{images_of}
use Rattle.jr_plan.specs.Reasons.{ChangesDispatch}
use Rattle.jr_images.specs.RenameLaws.{IsFair}
use Rattle.jr_dispatch.proofs.ImageEntries.{alike}
use Rattle.jr_dispatch.proofs.KeptDispatch.{to_image}
use Rattle.jr_kept_runs.specs.TablesAgree.{TablesAgree}
use Rattle.jr_kept_runs.proofs.TwiceTo.{stays_once}
use Rattle.jr_kept_runs.proofs.Dispatched.{back}

pub agree : (rows : List Row) (d : Decl) (g : Renaming) → AreRows rows → IsFair rows g → AreRenamed rows d g.decls → ((k : ClassKey) (m : MethodKey) → ChangesDispatch rows (images_of rows g) k m → ⊥) → TablesAgree rows g
agree rows d g are fair renamed none = record {
  old = are;
  new = fair.are;
  once = stays_once rows d g renamed;
  string = fair.string;
  class = fair.class;
  parents = (alike g rows are fair.are).parents;
  forth = λ of m was h. to_image rows g are fair.are none of m was h;
  back = λ of m now i j x y h. back rows g are fair.are of m now i j x y h;
}
