-- What a statement asks of an expression that it begins with.
use Rattle.std.specs.Prelude.{Bool, true, false, [], Option, None}
use Rattle.jr_ast.specs.Tree.{TypeName, Exp, name}
use Rattle.jr_pexpr.specs.Machine.{State, have, name_type}

-- what was read, as a type
abbrev pub type_read : {A : Type 0} → State A → Option (TypeName A)
type_read (have [] e) = name_type e
type_read _ = None

abbrev pub is_simple : {A : Type 0} → Exp A → Bool
is_simple (name m w) = true
is_simple _ = false
