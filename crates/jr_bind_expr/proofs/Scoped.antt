-- Variables by simple names.
use Rattle.std.proofs.Common.{◌≡◌, ℕ, List, length, Option, Some, None, sym, ap, ◌∙◌}
use Rattle.std.specs.Prelude.{unwrap_or}
use Rattle.jr_table.specs.Keys.{ClassKey}
use Rattle.jr_table.specs.Decls.{LocalKey, local_decl, class_decl}
use Rattle.jr_table.specs.Rows.{Row}
use Rattle.jr_table.specs.Entries.{number_of, class_number, entries_of}
use Rattle.jr_table.specs.Found.{one}
use Rattle.jr_table.specs.Fields.{find_field}
use Rattle.jr_table.specs.Scope.{Scope, last_named}
use Rattle.jr_table.specs.Lookup.{shown, local_or, find_variable}
use Rattle.jr_table.specs.Entries.{class_of_member}
use Rattle.jr_table.specs.Context.{scope_of}
use Rattle.jr_bind_expr.specs.declared.places.Place.{Place}
use Rattle.jr_bind_expr.specs.Places.{context_of, member_of, Knows}

pub class_is : (rows : List Row) (k : ClassKey) (j : ℕ) → number_of rows (class_decl k) ≡ Some j → class_number rows k ≡ j
class_is rows k j h = ap (λ (o : Option ℕ). unwrap_or o (length rows)) h

pub finds_local : (rows : List Row) (s : Scope) (name : List ℕ) (k : LocalKey) → last_named name s.locals ≡ Some k → one (local_decl k) ≡ find_variable rows s name
unfolding find_variable
finds_local rows s name k h = sym (ap (local_or rows (find_field (entries_of rows) (class_number rows s.class) s.is_static name)) h)

pub finds_field : (rows : List Row) (s : Scope) (name : List ℕ) (class : ℕ) → last_named name s.locals ≡ None → class_number rows s.class ≡ class → shown rows (find_field (entries_of rows) class s.is_static name) ≡ find_variable rows s name
unfolding find_variable
finds_field rows s name class h is = (λ i. shown rows (find_field (entries_of rows) (sym is i) s.is_static name)) ∙ sym (ap (local_or rows (find_field (entries_of rows) (class_number rows s.class) s.is_static name)) h)

-- the class of a place
pub place_class : (rows : List Row) (p : Place) → Knows rows p → class_number rows (scope_of (context_of p)).class ≡ p.class
unfolding context_of
place_class rows p knows = class_is rows (class_of_member (member_of p)) p.class knows.class
