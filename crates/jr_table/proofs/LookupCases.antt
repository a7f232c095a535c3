-- What names find in the sample program. What is expected is what the Java Language Specification and `javac` say of its
-- text.
use Rattle.std.proofs.Common.{◌≡◌, ℕ, List, [], ◌∷◌, Option, Some, None, Bool, true, false, refl}
use Rattle.std.specs.Prelude.{codes}
use Rattle.jr_table.specs.Keys.{ClassKey, Ty, int, null, class}
use Rattle.jr_table.specs.Decls.{Decl, LocalKey, class_decl, local_decl, head}
use Rattle.jr_table.specs.Rows.{Row}
use Rattle.jr_table.specs.Found.{Found, one, nothing, many, not_accessible, from_static}
use Rattle.jr_table.specs.Prelude.{top_key}
use Rattle.jr_table.specs.Scope.{Scope, ScopeLocal, last_named}
use Rattle.jr_table.specs.Lookup.{find_variable, find_type_named, find_type_of, find_field_in, find_method_named, find_method_of, find_ctor_of, shown}
use Rattle.jr_table.specs.Entries.{number_of, entries_of}
use Rattle.jr_table.specs.Chains.{chain_of}
use Rattle.jr_table.specs.Looking.{own_row, nearest, member}
use Rattle.jr_table.specs.Access.{is_accessible, lacks_object}
use Rattle.jr_table.specs.Fields.{find_field, find_field_of, find_member_type}
use Rattle.jr_table.specs.TypeNames.{find_type}
use Rattle.jr_table.specs.Calls.{assignable, as_specific, is_named, is_ctor, methods_named, ctors_in, choose_at, find_method, find_ctor, find_call}
use Rattle.jr_table.specs.LookupSample.{a, o, d, q, m, t, c, h, k, field_of, method_of, ctor_of, lookup_rows}

-- a place of the class, in a static context or not
abbrev at : ClassKey → Bool → Scope
at of is_static = record { class = of; is_static = is_static; locals = [] }

abbrev local : ℕ → LocalKey
local n = record { member = head a; number = n }

-- a place of C that sees these locals
abbrev among : List ScopeLocal → Scope
among locals = record { class = c; is_static = false; locals = locals }

-- a simple name as a variable (JLS 6.4.1)
variables :
    -- the innermost class inherits the field and lookup stops there, though O has one too
    (find_variable lookup_rows (at c false) (codes "f") ≡ one (field_of a (codes "f"))) ×
    -- O's static field, from a member class
    (find_variable lookup_rows (at c false) (codes "x") ≡ one (field_of o (codes "x"))) ×
    -- O's instance field, from a member class
    (find_variable lookup_rows (at c false) (codes "y") ≡ from_static (field_of o (codes "y"))) ×
    -- a private field isn't inherited
    (find_variable lookup_rows (at c false) (codes "p") ≡ nothing) ×
    -- a private field of the class around
    (find_variable lookup_rows (at c false) (codes "s") ≡ one (field_of o (codes "s"))) ×
    -- a private field of the superclass, in another top-level class
    (find_variable lookup_rows (at d false) (codes "s") ≡ nothing) ×
    (find_variable lookup_rows (at d false) (codes "y") ≡ one (field_of o (codes "y"))) ×
    -- in a static context
    (find_variable lookup_rows (at c true) (codes "w") ≡ from_static (field_of c (codes "w"))) ×
    (find_variable lookup_rows (at c true) (codes "sf") ≡ one (field_of a (codes "sf"))) ×
    (find_variable lookup_rows (at a false) (codes "w") ≡ nothing)
unfolding find_variable find_type_named find_type_of find_field_in find_method_named find_method_of find_ctor_of shown last_named number_of entries_of chain_of own_row nearest member is_accessible lacks_object find_field find_field_of find_member_type find_type assignable as_specific is_named is_ctor methods_named ctors_in choose_at find_method find_ctor find_call
variables = (refl, refl, refl, refl, refl, refl, refl, refl, refl, refl)

-- the field of a class (JLS 15.11.1, 6.6.1)
fields :
    (find_field_in lookup_rows (at q false) c (codes "f") ≡ one (field_of a (codes "f"))) ×
    -- private, from another top-level class and from the same
    (find_field_in lookup_rows (at a false) o (codes "s") ≡ not_accessible (field_of o (codes "s"))) ×
    (find_field_in lookup_rows (at c false) o (codes "s") ≡ one (field_of o (codes "s"))) ×
    (find_field_in lookup_rows (at o false) h (codes "h") ≡ one (field_of h (codes "h"))) ×
    (find_field_in lookup_rows (at d false) h (codes "h") ≡ not_accessible (field_of h (codes "h"))) ×
    -- a private field isn't a subclass's
    (find_field_in lookup_rows (at a false) q (codes "p") ≡ nothing) ×
    (find_field_in lookup_rows (at a false) (top_key (codes "Z")) (codes "f") ≡ nothing)
unfolding find_variable find_type_named find_type_of find_field_in find_method_named find_method_of find_ctor_of shown last_named number_of entries_of chain_of own_row nearest member is_accessible lacks_object find_field find_field_of find_member_type find_type assignable as_specific is_named is_ctor methods_named ctors_in choose_at find_method find_ctor find_call
fields = (refl, refl, refl, refl, refl, refl, refl)

-- a name as a type (JLS 6.5.5)
types :
    -- an inherited member type; one of the class around; a top-level class; the prelude's
    (find_type_named lookup_rows (at c false) (codes "T") ≡ one (class_decl t)) ×
    (find_type_named lookup_rows (at c false) (codes "K") ≡ one (class_decl k)) ×
    (find_type_named lookup_rows (at c false) (codes "A") ≡ one (class_decl a)) ×
    (find_type_named lookup_rows (at c false) (codes "String") ≡ one (class_decl (top_key (codes "String")))) ×
    (find_type_named lookup_rows (at c false) (codes "Z") ≡ nothing) ×
    (find_type_named lookup_rows (at d false) (codes "K") ≡ one (class_decl k)) ×
    -- a private one isn't inherited
    (find_type_named lookup_rows (at d false) (codes "H") ≡ nothing) ×
    (find_type_named lookup_rows (at o false) (codes "H") ≡ one (class_decl h)) ×
    -- a class that has no row sees top-level classes alone
    (find_type_named lookup_rows (at (top_key (codes "Z")) false) (codes "A") ≡ one (class_decl a)) ×
    -- through a subclass
    (find_type_of lookup_rows (at a false) d (codes "K") ≡ one (class_decl k)) ×
    (find_type_of lookup_rows (at a false) o (codes "H") ≡ not_accessible (class_decl h)) ×
    (find_type_of lookup_rows (at k false) o (codes "H") ≡ one (class_decl h)) ×
    (find_type_of lookup_rows (at d false) d (codes "H") ≡ nothing)
unfolding find_variable find_type_named find_type_of find_field_in find_method_named find_method_of find_ctor_of shown last_named number_of entries_of chain_of own_row nearest member is_accessible lacks_object find_field find_field_of find_member_type find_type assignable as_specific is_named is_ctor methods_named ctors_in choose_at find_method find_ctor find_call
types = (refl, refl, refl, refl, refl, refl, refl, refl, refl, refl, refl, refl, refl)

-- a call without a target (JLS 15.12.1, 15.12.3)
calls :
    (find_method_named lookup_rows (at c false) (codes "m") ([]) ≡ one (method_of a (codes "m") ([]))) ×
    -- C has a method m, so O's isn't looked at, though it alone fits
    (find_method_named lookup_rows (at c false) (codes "m") (int ∷ []) ≡ nothing) ×
    (find_method_named lookup_rows (at c false) (codes "g") ([]) ≡ one (method_of o (codes "g") ([]))) ×
    -- an instance method of the class around
    (find_method_named lookup_rows (at c false) (codes "n") ([]) ≡ from_static (method_of o (codes "n") ([]))) ×
    -- in a static context
    (find_method_named lookup_rows (at c true) (codes "m") ([]) ≡ from_static (method_of a (codes "m") ([]))) ×
    (find_method_named lookup_rows (at c true) (codes "g") ([]) ≡ one (method_of o (codes "g") ([]))) ×
    (find_method_named lookup_rows (at c false) (codes "zz") ([]) ≡ nothing) ×
    -- a private method isn't inherited
    (find_method_named lookup_rows (at c false) (codes "q") ([]) ≡ nothing) ×
    -- several without an object: none is chosen
    (find_method_named lookup_rows (at m true) (codes "c") (class q ∷ class q ∷ []) ≡ many (method_of m (codes "c") (class a ∷ class q ∷ [])) (method_of m (codes "c") (class q ∷ class a ∷ [])))
unfolding find_variable find_type_named find_type_of find_field_in find_method_named find_method_of find_ctor_of shown last_named number_of entries_of chain_of own_row nearest member is_accessible lacks_object find_field find_field_of find_member_type find_type assignable as_specific is_named is_ctor methods_named ctors_in choose_at find_method find_ctor find_call
calls = (refl, refl, refl, refl, refl, refl, refl, refl, refl)

-- a call on a class or an expression (JLS 15.12.2)
methods :
    -- the more specific of two
    (find_method_of lookup_rows (at a false) m (codes "b") (null ∷ []) ≡ one (method_of m (codes "b") (class q ∷ []))) ×
    (find_method_of lookup_rows (at a false) m (codes "b") (class q ∷ []) ≡ one (method_of m (codes "b") (class q ∷ []))) ×
    (find_method_of lookup_rows (at a false) m (codes "b") (class a ∷ []) ≡ one (method_of m (codes "b") (class a ∷ []))) ×
    -- of three none is more specific than each other
    (find_method_of lookup_rows (at a false) m (codes "c") (class q ∷ class q ∷ []) ≡ many (method_of m (codes "c") (class a ∷ class q ∷ [])) (method_of m (codes "c") (class q ∷ class a ∷ []))) ×
    (find_method_of lookup_rows (at a false) m (codes "c") (class a ∷ class q ∷ []) ≡ one (method_of m (codes "c") (class a ∷ class q ∷ []))) ×
    -- null isn't assignable to int; arity
    (find_method_of lookup_rows (at a false) m (codes "d") (null ∷ []) ≡ nothing) ×
    (find_method_of lookup_rows (at a false) m (codes "d") (int ∷ []) ≡ one (method_of m (codes "d") (int ∷ []))) ×
    (find_method_of lookup_rows (at a false) m (codes "d") (int ∷ int ∷ []) ≡ nothing) ×
    -- the private one is more specific, but not accessible
    (find_method_of lookup_rows (at a false) m (codes "e") (class q ∷ []) ≡ one (method_of m (codes "e") (class a ∷ []))) ×
    (find_method_of lookup_rows (at m false) m (codes "e") (class q ∷ []) ≡ one (method_of m (codes "e") (class q ∷ []))) ×
    (find_method_of lookup_rows (at a false) m (codes "h") (int ∷ []) ≡ not_accessible (method_of m (codes "h") (int ∷ []))) ×
    (find_method_of lookup_rows (at a false) m (codes "h") (null ∷ []) ≡ nothing) ×
    (find_method_of lookup_rows (at m false) q (codes "m") ([]) ≡ one (method_of a (codes "m") ([]))) ×
    (find_method_of lookup_rows (at m false) q (codes "q") ([]) ≡ nothing) ×
    (find_method_of lookup_rows (at q false) a (codes "q") ([]) ≡ not_accessible (method_of a (codes "q") ([])))
unfolding find_variable find_type_named find_type_of find_field_in find_method_named find_method_of find_ctor_of shown last_named number_of entries_of chain_of own_row nearest member is_accessible lacks_object find_field find_field_of find_member_type find_type assignable as_specific is_named is_ctor methods_named ctors_in choose_at find_method find_ctor find_call
methods = (refl, refl, refl, refl, refl, refl, refl, refl, refl, refl, refl, refl, refl, refl, refl)

-- a creation (JLS 15.9.3)
constructors :
    (find_ctor_of lookup_rows (at a false) a ([]) ≡ one (ctor_of a [])) ×
    (find_ctor_of lookup_rows (at a false) a (int ∷ []) ≡ nothing) ×
    -- private
    (find_ctor_of lookup_rows (at c false) h (int ∷ []) ≡ one (ctor_of h (int ∷ []))) ×
    (find_ctor_of lookup_rows (at a false) h (int ∷ []) ≡ not_accessible (ctor_of h (int ∷ []))) ×
    (find_ctor_of lookup_rows (at c false) h (null ∷ []) ≡ nothing) ×
    -- the prelude's
    (find_ctor_of lookup_rows (at a false) (top_key (codes "Thread")) ([]) ≡ one (ctor_of (top_key (codes "Thread")) [])) ×
    (find_ctor_of lookup_rows (at a false) (top_key (codes "String")) ([]) ≡ nothing)
unfolding find_variable find_type_named find_type_of find_field_in find_method_named find_method_of find_ctor_of shown last_named number_of entries_of chain_of own_row nearest member is_accessible lacks_object find_field find_field_of find_member_type find_type assignable as_specific is_named is_ctor methods_named ctors_in choose_at find_method find_ctor find_call
constructors = (refl, refl, refl, refl, refl, refl, refl)

-- a local or parameter before any field; the last of a name
locals :
    (find_variable lookup_rows (among (record { name = codes "f"; key = local 0 } ∷ record { name = codes "x"; key = local 1 } ∷ [])) (codes "f") ≡ one (local_decl (local 0))) ×
    (find_variable lookup_rows (among (record { name = codes "f"; key = local 0 } ∷ record { name = codes "f"; key = local 1 } ∷ [])) (codes "f") ≡ one (local_decl (local 1))) ×
    (find_variable lookup_rows (among (record { name = codes "g"; key = local 0 } ∷ [])) (codes "f") ≡ one (field_of a (codes "f")))
unfolding find_variable find_type_named find_type_of find_field_in find_method_named find_method_of find_ctor_of shown last_named number_of entries_of chain_of own_row nearest member is_accessible lacks_object find_field find_field_of find_member_type find_type assignable as_specific is_named is_ctor methods_named ctors_in choose_at find_method find_ctor find_call
locals = (refl, refl, refl)
