-- The pure key of a class, and the pure type, that Rust values stand for.
use Rattle.jr_table.specs.declared.classes.ClassKey as raw_class
use Rattle.jr_table.specs.declared.types.Ty as raw_ty
use Rattle.jr_table.specs.declared.types.Ty.TheVariants as shown
use Rattle.jr_table.specs.Keys.{ClassKey, Ty, int, boolean, void, null, class}

abbrev pub class_key_of : raw_class.ClassKey → ClassKey
class_key_of k = record { outer = k.outer; name = k.name }

abbrev pub ty_of : raw_ty.Ty → Ty
ty_of shown.Int = int
ty_of shown.Boolean = boolean
ty_of shown.Void = void
ty_of shown.Null = null
ty_of (shown.Class k) = class (class_key_of k)
