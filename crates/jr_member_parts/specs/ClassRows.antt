-- The rows of what stands in a class's body, and a row that comes behind them (JLS 8.1.6).
use Rattle.std.specs.Prelude.{ℕ, Bool, false, ◌||◌, List, [], ◌∷◌, Option, Some, None, if◌then◌else◌}
use Rattle.std.specs.List.{list_any}
use Rattle.jr_table.specs.Keys.{ClassKey}
use Rattle.jr_table.specs.Decls.{Decl, class_decl, field_decl, method_decl, constructor_decl, local_decl}
use Rattle.jr_table.specs.SameKeys.{same_name, same_class}
use Rattle.jr_table.specs.Rows.{Row}
use Rattle.jr_table.specs.Entries.{class_of_member}

-- a class of this outer class is a member of the class that has this outer class and name
abbrev pub is_inside : (outer : Option (List ℕ)) → (name : List ℕ) → Option (List ℕ) → Bool
is_inside (Some o) name of = false
is_inside None name None = false
is_inside None name (Some o) = same_name o name

-- a member class of the class
abbrev pub is_member_class : (of k : ClassKey) → Bool
is_member_class of k = is_inside of.outer of.name k.outer

abbrev pub class_of_decl : Decl → ClassKey
class_of_decl (class_decl k) = k
class_of_decl (field_decl k) = k.class
class_of_decl (method_decl k) = k.class
class_of_decl (constructor_decl k) = k.class
class_of_decl (local_decl k) = class_of_member k.member

-- the row is that of the class, or of something in its body, member classes included
abbrev pub is_in_body : ClassKey → Row → Bool
is_in_body of r = same_class (class_of_decl r.decl) of || is_member_class of (class_of_decl r.decl)

-- behind the last row that passes the test
abbrev pub put_behind : (Row → Bool) → Row → List Row → List Row
put_behind test r [] = []
put_behind test r (x ∷ xs) = if list_any test xs then x ∷ put_behind test r xs
    else (if test x then x ∷ r ∷ xs else x ∷ xs)
