use Rattle.std.proofs.Common.{◌≡◌, ◌++◌, List, map, sym, ap, subst, arith}
use Rattle.std.proofs.lemmas.Result.{err_from_is_err_and}
use Rattle.jr_ast.specs.View.{unit_of}
use Rattle.jr_table.specs.declared.kinds.DeclKind.TheVariants as kind
use Rattle.jr_table.specs.Faults.{IsClean}
use Rattle.jr_table.specs.Prelude.{prelude_rows}
use Rattle.jr_table.specs.ProgramRows.{AreProgramRows}
use Rattle.jr_table.specs.Rows.{Row}
use Rattle.jr_build.specs.declared.faults.BuildFault.TheVariants as fault
use Rattle.jr_build.specs.Builds.{IsCleanBelow, IsFoundFault}
use Rattle.jr_build_rows.specs.ExactRows.{rows_of_declarations}
use Rattle.jr_build_hierarchy.specs.HierarchyView.{hierarchy_of}
use Rattle.jr_build_declared.specs.Packages.{lines_of}
use Rattle.jr_build_declared.specs.DeclaredView.{declaration_of}
use Rattle.jr_build.proofs.Cleaning.{all_clean, err_clean, err_rows, err_fault, on_ok_any, if_ok_is, if_err_is}
use Rattle.jr_build.proofs.builds.clean_table.Goals as goal

pub hierarchy-requires-clause-unique : goal.hierarchy-requires-clause-unique
hierarchy-requires-clause-unique g c =
    let below = c.in_ok-no_name_fault.ensures.clean in
    record {
      unreserved = λ p has. below kind.PreludeName p (omega arith) has;
      once = λ p has. below kind.TwiceClass p (omega arith) has;
    }

pub table_of-requires : goal.table_of-requires
table_of-requires g c =
    let pk = lines_of c.args.words.now (map unit_of c.args.units.now) in
    let ss = map declaration_of c.args.declarations.now in
    let h = hierarchy_of c.in_ok-h.h in
    let b8 = c.in_ok-no_type_fault.ensures.clean pk c.in_ok-no_name_fault.ensures.clean in
    let b11 = c.in_ok-no_declaration_fault.ensures.clean pk b8 in
    c.clean_rows_are_sound.ensures.meet pk ss h c.in_ok-h.ensures c.requires.headed (all_clean pk ss b11)

pub returns-in_err-no_declaration_fault-clause-fault : goal.returns-in_err-no_declaration_fault-clause-fault
returns-in_err-no_declaration_fault-clause-fault g c =
    let pk = lines_of c.args.words.now (map unit_of c.args.units.now) in
    let ss = map declaration_of c.args.declarations.now in
    let b8 = c.in_ok-no_type_fault.ensures.clean pk c.in_ok-no_name_fault.ensures.clean in
    let p = err_from_is_err_and c.from_residual-in_err-no_declaration_fault.result
    c.from_residual-in_err-no_declaration_fault.ensures.1 in
    err_fault c.from_residual-in_err-no_declaration_fault.result (IsFoundFault pk ss) _ p.0 p.1 p.2
    (c.in_err-no_declaration_fault.ensures.fault pk b8)

pub returns-in_err-no_type_fault-clause-fault : goal.returns-in_err-no_type_fault-clause-fault
returns-in_err-no_type_fault-clause-fault g c =
    let pk = lines_of c.args.words.now (map unit_of c.args.units.now) in
    let ss = map declaration_of c.args.declarations.now in
    let p = err_from_is_err_and c.from_residual-in_err-no_type_fault.result
    c.from_residual-in_err-no_type_fault.ensures.1 in
    err_fault c.from_residual-in_err-no_type_fault.result (IsFoundFault pk ss) _ p.0 p.1 p.2
    (c.in_err-no_type_fault.ensures.fault pk c.in_ok-no_name_fault.ensures.clean)

pub returns : goal.returns
returns g c =
    let pk = lines_of c.args.words.now (map unit_of c.args.units.now) in
    let ss = map declaration_of c.args.declarations.now in
    let h = hierarchy_of c.in_ok-h.h in
    let b8 = c.in_ok-no_type_fault.ensures.clean pk c.in_ok-no_name_fault.ensures.clean in
    let b11 = c.in_ok-no_declaration_fault.ensures.clean pk b8 in
    let clean = all_clean pk ss b11 in
    let rows = c.clean_rows_are_sound.ensures.rows pk ss h c.in_ok-h.ensures c.requires.headed clean in
    record {
      clean = on_ok_any c.table_of.result (IsClean pk ss) clean;
      rows = if_ok_is c.table_of.result (λ t. t ≡ prelude_rows ++ rows_of_declarations h ss) (AreProgramRows ss)
          (λ t e. subst (AreProgramRows ss) (sym e) rows) c.table_of.ensures.ok;
      only = if_ok_is c.table_of.result (λ t. t ≡ prelude_rows ++ rows_of_declarations h ss) (λ t. (rs : List Row) → AreProgramRows ss rs → rs ≡ t)
          (λ t e rs are. c.clean_rows_are_sound.ensures.only ss h c.in_ok-h.ensures rs t are (subst (AreProgramRows ss) (sym e) rows)) c.table_of.ensures.ok;
      fault = if_err_is c.table_of.result (λ e. e ≡ fault.Memory) (IsFoundFault pk ss)
          (λ e is. subst (IsFoundFault pk ss) (sym is) tt) c.table_of.ensures.memory;
    }
