-- When new declarations are old ones under other keys, and how dispatch is kept.
use Rattle.std.specs.Prelude.{◌≡◌, Some, None, option_map, IsTrue}
use Rattle.jr_runs.specs.Keys.{Keys}
use Rattle.jr_runs.specs.Rows.{Rows}
use Rattle.jr_runs.specs.KeyMaps.{KeyMap, type_image}

-- classes and fields; of methods nothing
pub record SameDeclarations {K : Keys} (r : KeyMap K) (old new : Rows K) : Type 0 where
  pub same_class : (c d : K.class) → new.same_class (r.class c) (r.class d) ≡ old.same_class c d
  pub is_subclass : (c d : K.class) → new.is_subclass (r.class c) (r.class d) ≡ old.is_subclass c d
  pub text_class : new.text_class ≡ r.class old.text_class
  pub class_class : new.class_class ≡ r.class old.class_class
  pub field_kind : (f : K.field) → new.field_kind (r.field f) ≡ old.field_kind f
  pub field_type : (f : K.field) → new.field_type (r.field f) ≡ type_image r (old.field_type f)

-- Dispatch of each declared method finds the image of what it found, in every class.
pub record SameDispatch {K : Keys} (r : KeyMap K) (old new : Rows K) : Type 0 where
  pub dispatch : (c : K.class) (m : K.method) → IsTrue (old.has_method m)
      → new.dispatch (r.class c) (r.method m) ≡ option_map r.method (old.dispatch c m)
  -- what dispatch finds is declared
  pub found : (c : K.class) (m found : K.method) → IsTrue (old.has_method m)
      → old.dispatch c m ≡ Some found
      → IsTrue (old.has_method found)

-- The same where a method may be called. What dispatch found its image finds; where it found
-- nothing, in the method's class or below (JLS 15.12.4.4), it finds nothing. In other classes it
-- may find more: a method that was pulled up is found in the siblings of its old class.
pub record DispatchKept {K : Keys} (r : KeyMap K) (old new : Rows K) : Type 0 where
  pub some : (c : K.class) (m k : K.method) → IsTrue (old.has_method m) → old.dispatch c m ≡ Some k
      → new.dispatch (r.class c) (r.method m) ≡ Some (r.method k)
  pub none : (c owner : K.class) (m : K.method) → IsTrue (old.has_method m)
      → old.dispatch c m ≡ None → old.owner m ≡ Some owner → IsTrue (old.is_subclass c owner)
      → new.dispatch (r.class c) (r.method m) ≡ None
