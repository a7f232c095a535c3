-- What runs need of a program's declarations, short of bodies. Whoever has the table of a program
-- supplies it.
use Rattle.std.specs.Prelude.{Bool, List, Option}
use Rattle.jr_runs.specs.Keys.{Keys}
use Rattle.jr_runs.specs.Values.{Ty}
use Rattle.jr_runs.specs.Actions.{FieldKind}

pub record Rows (K : Keys) : Type 0 where
  -- are these one class?
  pub same_class : K.class → K.class → Bool
  -- the first is the second, or extends a subclass of it (JLS 8.1.4)
  pub is_subclass : K.class → K.class → Bool
  -- String and Class
  pub text_class : K.class
  pub class_class : K.class
  pub field_kind : K.field → FieldKind
  pub field_type : K.field → Ty K
  -- The method that an object of the class runs for a method that isn't private: the nearest
  -- instance method of its name and parameter types that isn't private, from the class upwards (JLS
  -- 15.12.4.4). For other methods and classes there is none.
  pub dispatch : K.class → K.method → Option K.method
  pub has_method : K.method → Bool
  -- the class of an instance method; a static one has none
  pub owner : K.method → Option K.class
  pub params : K.method → List (Ty K)
  pub result : K.method → Option (Ty K)
  pub has_constructor : K.constructor → Bool
  pub constructor_class : K.constructor → K.class
  pub constructor_params : K.constructor → List (Ty K)
