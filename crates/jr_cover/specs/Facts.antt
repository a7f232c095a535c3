-- What binding says of one member, by the marks of its nodes. Whoever binds supplies it.
use Rattle.std.specs.Prelude.{ℕ, Bool, Option}
use Rattle.jr_runs.specs.Keys.{Keys}

-- what a name or field is bound to
pub data Variable (K : Keys) : Type 0 where
  is_local : (number : ℕ) → Variable K
  is_static_field : (field : K.field) → Variable K
  is_instance_field : (field : K.field) → Variable K

pub data Called (K : Keys) : Type 0 where
  is_static_method : (method : K.method) → Called K
  is_instance_method : (method : K.method) → Called K

pub record Created (K : Keys) : Type 0 where
  pub class : K.class
  pub constructor : K.constructor

-- A: marks. A reference goes by its word's mark, `new` by the expression's, a class literal or cast
-- by its type's.
pub record Facts (K : Keys) (A : Type 0) : Type 0 where
  -- the places of a node's first and last byte
  pub first : A → K.place
  pub last : A → K.place
  pub variable : A → Option (Variable K)
  pub called : A → Option (Called K)
  pub created : A → Option (Created K)
  pub class : A → Option K.class
  -- May the cast fail: is its operand's type not assignable to the class (JLS 5.5.1)? By the mark
  -- of the cast.
  pub is_checked : A → Bool
  -- the number of a declared parameter or local, by its word's mark
  pub number : A → ℕ
