-- A program and the one that a renaming makes of it have the same runs.
use Rattle.std.proofs.Common.{List, IsTrue}
use Rattle.jr_runs.specs.Core as core
use Rattle.jr_runs.specs.Rows as core_rows
use Rattle.jr_runs.specs.Images.{MethodTo, CodeTo, NoSpot}
use Rattle.jr_runs.specs.Alike.{AlikeExactly}
use Rattle.jr_runs.proofs.Renaming.{renamed_programs_are_alike}
use Rattle.jr_table.specs.Keys.{MethodKey, CtorKey}
use Rattle.jr_table.specs.Rows.{Row}
use Rattle.jr_images.specs.Images.{Renaming, rows_to}
use Rattle.jr_code.specs.RunKeys.{RunKeys}
use Rattle.jr_code.specs.RunRows.{AreRunRows}
use Rattle.jr_image_code.specs.KeysIn.{AreDeclared}
use Rattle.jr_kept_runs.specs.KeysTo.{keys_to}
use Rattle.jr_code.specs.Exchanged.{exchanged}
use Rattle.jr_kept_runs.specs.TablesAgree.{TablesAgree}
use Rattle.jr_kept_runs.proofs.SameTables.{undoes, same_rows}

-- what has a row is declared
pub declared : (rows : List Row) (R : core_rows.Rows RunKeys) → AreRunRows rows R → AreDeclared rows R
declared rows R are = record { method = λ k j i. (are.has_method k).1 (j, i); constructor = λ k j i. (are.has_constructor k).1 (j, i) }

-- where each method and constructor is the image of the old one
pub runs_kept : (rows : List Row) (g : Renaming) → TablesAgree rows g → (P Q : core.Program RunKeys) → AreRunRows rows P.rows → AreRunRows (rows_to g rows) Q.rows
    → ((m : MethodKey) → IsTrue (P.rows.has_method m) → MethodTo (exchanged (keys_to g) rows) P.rows NoSpot (P.method m) (Q.method ((exchanged (keys_to g) rows).method m)))
    → ((k : CtorKey) → IsTrue (P.rows.has_constructor k) → CodeTo (exchanged (keys_to g) rows) P.rows NoSpot (P.constructor k) (Q.constructor ((exchanged (keys_to g) rows).constructor k)))
    → AlikeExactly (exchanged (keys_to g) rows) P Q
runs_kept rows g agree P Q old new methods constructors =
    renamed_programs_are_alike (exchanged (keys_to g) rows) (exchanged (keys_to g) rows) (undoes rows g agree) (undoes rows g agree) P Q (record { rows = same_rows rows g agree P.rows Q.rows old new; methods = methods; constructors = constructors })
