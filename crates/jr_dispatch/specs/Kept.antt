-- What a renaming keeps of dispatch, as a statement.
use Rattle.std.specs.Prelude.{List}
use Rattle.jr_table.specs.Keys.{ClassKey, MethodKey}
use Rattle.jr_table.specs.Rows.{Row}
use Rattle.jr_table.specs.Conditions.{AreRows}
use Rattle.jr_table.specs.Keyed.{DispatchesTo}
use Rattle.jr_images.specs.Images.{Renaming, class_to, method_to, rows_to}
use Rattle.jr_images.specs.Regions.{images_of}
use Rattle.jr_plan.specs.Reasons.{ChangesDispatch}

-- Where it changes no dispatch, a method that is dispatched on an object of a class to another has
-- an image that is dispatched, on an object of the class's image, to the image of that one
-- (JLS 15.12.4.4).
abbrev pub DispatchIsKept : Type 0
DispatchIsKept = (rows : List Row) (g : Renaming) → AreRows rows → AreRows (rows_to g rows)
    → ((k : ClassKey) (m : MethodKey) → ChangesDispatch rows (images_of rows g) k m → ⊥)
    → (of : ClassKey) (m was : MethodKey) → DispatchesTo rows of m was
    → DispatchesTo (rows_to g rows) (class_to g of) (method_to g m) (method_to g was)
