-- Elements at places.
use Rattle.std.specs.Prelude.{Option, Some, None, Bool, false}

abbrev pub passes_at : {X : Type 0} → (X → Bool) → Option X → Bool
passes_at test None = false
passes_at test (Some x) = test x
