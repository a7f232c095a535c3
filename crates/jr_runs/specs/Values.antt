-- Values, and the types of fields, parameters, locals and results (JLS 4.1 to 4.3).
use Rattle.std.specs.Prelude.{ℕ, Bool, true, false, ◌&&◌, List, ℤ, pos, negsuc, nat_eq, nat_lt}
use Rattle.std.specs.Prelude.{bytes_eq}
use Rattle.std.specs.Ordering.{int_eq}
use Rattle.jr_runs.specs.Keys.{Keys}

pub data Value (K : Keys) : Type 0 where
  int : (number : ℤ) → Value K
  truth : (bool : Bool) → Value K
  null : Value K
  -- a string literal's object: its characters, as bytes of UTF-8. Literals of the same characters
  -- are one object (JLS 3.10.5).
  text : (bytes : List ℕ) → Value K
  -- the Class object of a class (JLS 15.8.2)
  class_object : (of : K.class) → Value K
  -- an object is a number with a class
  object : (number : ℕ) (class : K.class) → Value K

-- the types of the language; a method without a result has none
pub data Ty (K : Keys) : Type 0 where
  int_type : Ty K
  boolean_type : Ty K
  reference : (class : K.class) → Ty K

-- an `int` has 32 bits: from -2147483648 to 2147483647 (JLS 4.2.1)
abbrev pub is_int : ℤ → Bool
is_int (pos n) = nat_lt n 2147483648
is_int (negsuc n) = nat_lt n 2147483648

-- Are they one value? same_class: are these one class?
abbrev pub same_value : {K : Keys} → (K.class → K.class → Bool) → Value K → Value K → Bool
same_value same_class (int a) (int b) = int_eq a b
same_value same_class (int a) (truth b) = false
same_value same_class (int a) null = false
same_value same_class (int a) (text t) = false
same_value same_class (int a) (class_object c) = false
same_value same_class (int a) (object n c) = false
same_value same_class (truth true) (truth b) = b
same_value same_class (truth false) (truth true) = false
same_value same_class (truth false) (truth false) = true
same_value same_class (truth a) (int b) = false
same_value same_class (truth a) null = false
same_value same_class (truth a) (text t) = false
same_value same_class (truth a) (class_object c) = false
same_value same_class (truth a) (object n c) = false
same_value same_class null null = true
same_value same_class null (int b) = false
same_value same_class null (truth b) = false
same_value same_class null (text t) = false
same_value same_class null (class_object c) = false
same_value same_class null (object n c) = false
same_value same_class (text s) (text t) = bytes_eq s t
same_value same_class (text s) (int b) = false
same_value same_class (text s) (truth b) = false
same_value same_class (text s) null = false
same_value same_class (text s) (class_object c) = false
same_value same_class (text s) (object n c) = false
same_value same_class (class_object c) (class_object d) = same_class c d
same_value same_class (class_object c) (int b) = false
same_value same_class (class_object c) (truth b) = false
same_value same_class (class_object c) null = false
same_value same_class (class_object c) (text t) = false
same_value same_class (class_object c) (object n d) = false
same_value same_class (object n c) (object m d) = nat_eq n m && same_class c d
same_value same_class (object n c) (int b) = false
same_value same_class (object n c) (truth b) = false
same_value same_class (object n c) null = false
same_value same_class (object n c) (text t) = false
same_value same_class (object n c) (class_object d) = false
