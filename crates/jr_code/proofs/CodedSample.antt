-- A small program for cases of resolved code:
--     class A { int f; static int sf; void m() {} static void s() {} }
--     class Q extends A { int h = 1; void m() {} }
-- A node's mark is the place of its first byte; its last one is a hundred bytes behind.
use Rattle.std.proofs.Common.{◌≡◌, ℕ, ◌+◌, ◌<◌, ◌^◌, List, [], ◌∷◌, ◌++◌, length, None, false, refl, arith}
use Rattle.std.specs.Prelude.{codes}
use Rattle.jr_ast.specs.declared.operators.ModWord.TheVariants as word
use Rattle.jr_table.specs.Keys.{FieldKey, MethodKey, CtorKey}
use Rattle.jr_table.specs.Decls.{MemberKey, method}
use Rattle.jr_table.specs.Rows.{Row}
use Rattle.jr_table.specs.Prelude.{prelude_rows, object_key}
use Rattle.jr_table.specs.Entries.{number_of, entries_of}
use Rattle.jr_table.specs.Conditions.{AreRows}
use Rattle.jr_table.specs.LookupLaws.{KeysAreFound, EachHasOne}
use Rattle.jr_table.specs.Context.{Context}
use Rattle.jr_table.specs.LookupSample.{a, q, class_at, field_at, method_at, ctor_at}
use Rattle.jr_table.proofs.LookupLaws.{keys_found, one_answers}
use Rattle.jr_runs.specs.Core as core
use Rattle.jr_code.specs.RunKeys.{RunKeys, Place}
use Rattle.jr_code.proofs.TestedRows.{are_rows}

abbrev pub own_rows : List Row
own_rows =
    class_at [] a object_key
    ∷ ctor_at [] a []
    ∷ field_at [] a (codes "f")
    ∷ field_at (word.Static ∷ []) a (codes "sf")
    ∷ method_at [] a (codes "m") []
    ∷ method_at (word.Static ∷ []) a (codes "s") []
    ∷ class_at [] q a
    ∷ ctor_at [] q []
    ∷ field_at [] q (codes "h")
    ∷ method_at [] q (codes "m") []
    ∷ []

abbrev pub rows : List Row
rows = prelude_rows ++ own_rows

few : length rows < 2 ^ 32
few = let count : length rows ≡ 18 = refl in omega (arith, count)

pub are : AreRows rows
unfolding number_of entries_of
are = are_rows own_rows rows refl refl refl refl few

pub found : KeysAreFound rows
found = keys_found rows are

pub each : EachHasOne rows
each = one_answers rows are

-- declarations
abbrev pub f_key : FieldKey
f_key = record { class = a; name = codes "f" }

abbrev pub sf_key : FieldKey
sf_key = record { class = a; name = codes "sf" }

abbrev pub h_key : FieldKey
h_key = record { class = q; name = codes "h" }

abbrev pub a_m : MethodKey
a_m = record { class = a; name = codes "m"; params = [] }

abbrev pub a_s : MethodKey
a_s = record { class = a; name = codes "s"; params = [] }

abbrev pub q_m : MethodKey
q_m = record { class = q; name = codes "m"; params = [] }

abbrev pub a_new : CtorKey
a_new = record { class = a; params = [] }

abbrev pub q_new : CtorKey
q_new = record { class = q; params = [] }

-- at a place of Q's method
abbrev pub in_m : Context
in_m = record { member = method q_m; is_static = false; locals = []; own = None }

abbrev pub at_in : MemberKey → ℕ → Place
at_in k at = record { member = k; at = at }

abbrev pub here : ℕ → Place
here at = at_in (method q_m) at

abbrev pub last_of : ℕ → ℕ → ℕ
last_of m base = m + 100

abbrev pub listed : List (core.Stmt RunKeys) → core.Stmts RunKeys
listed [] = core.Stmts.end
listed (s ∷ ss) = core.Stmts.more s (listed ss)
