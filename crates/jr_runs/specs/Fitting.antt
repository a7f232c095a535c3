-- Which values fit a type, and which are instances of a class.
use Rattle.std.specs.Prelude.{Bool, true, false, Option, Some, None}
use Rattle.jr_runs.specs.Keys.{Keys}
use Rattle.jr_runs.specs.Values.{Value, int, truth, null, text, class_object, object, Ty, int_type}
use Rattle.jr_runs.specs.Values.{boolean_type, reference, is_int}
use Rattle.jr_runs.specs.Rows.{Rows}

-- the class of a reference's object; null and what is no reference have none
abbrev pub class_of : {K : Keys} → Rows K → Value K → Option K.class
class_of R (int n) = None
class_of R (truth b) = None
class_of R null = None
class_of R (text t) = Some R.text_class
class_of R (class_object c) = Some R.class_class
class_of R (object n c) = Some c

abbrev pub has_class : {K : Keys} → Rows K → K.class → Option K.class → Bool
has_class R c None = false
has_class R c (Some d) = R.is_subclass d c

-- an object of the class or of a subclass (JLS 15.16)
abbrev pub is_instance : {K : Keys} → Rows K → K.class → Value K → Bool
is_instance R c v = has_class R c (class_of R v)

-- a number of 32 bits, a boolean, or null or an instance (JLS 4.1)
abbrev pub fits : {K : Keys} → Rows K → Ty K → Value K → Bool
fits R int_type (int z) = is_int z
fits R int_type (truth b) = false
fits R int_type null = false
fits R int_type (text t) = false
fits R int_type (class_object c) = false
fits R int_type (object n c) = false
fits R boolean_type (int z) = false
fits R boolean_type (truth b) = true
fits R boolean_type null = false
fits R boolean_type (text t) = false
fits R boolean_type (class_object c) = false
fits R boolean_type (object n c) = false
fits R (reference c) (int z) = false
fits R (reference c) (truth b) = false
fits R (reference c) null = true
fits R (reference c) (text t) = R.is_subclass R.text_class c
fits R (reference c) (class_object d) = R.is_subclass R.class_class c
fits R (reference c) (object n d) = R.is_subclass d c

abbrev pub is_truth : {K : Keys} → Value K → Bool
is_truth (int z) = false
is_truth (truth b) = true
is_truth null = false
is_truth (text t) = false
is_truth (class_object c) = false
is_truth (object n c) = false

-- an object of just this class
abbrev pub is_new : {K : Keys} → Rows K → K.class → Value K → Bool
is_new R c (int z) = false
is_new R c (truth b) = false
is_new R c null = false
is_new R c (text t) = false
is_new R c (class_object d) = false
is_new R c (object n d) = R.same_class d c
