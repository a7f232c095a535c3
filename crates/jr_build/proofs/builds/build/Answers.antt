use Rattle.std.proofs.Common.{◌≡◌, List, map, sym, ap, subst, ◌∙◌}
use Rattle.std.specs.Prelude.{OnOk, IfOk, IfErr}
use Rattle.jr_ast.specs.View.{unit_of}
use Rattle.jr_table.specs.Faults.{IsClean}
use Rattle.jr_table.specs.ProgramRows.{AreProgramRows}
use Rattle.jr_table.specs.Rows.{Row}
use Rattle.jr_table.specs.DeclaredItems.{declarations_of}
use Rattle.jr_build.specs.Builds.{IsFoundFault}
use Rattle.jr_build_declared.specs.Fitting.{begins_by}
use Rattle.jr_build_rows.specs.Heads.{AreHeaded}
use Rattle.jr_build_declared.specs.Packages.{lines_of}
use Rattle.jr_build_declared.specs.DeclaredView.{declaration_of}
use Rattle.jr_build.proofs.builds.build.Goals as goal

pub clean_table-requires-clause-headed : goal.clean_table-requires-clause-headed
clean_table-requires-clause-headed g c =
    let B = begins_by g.A.Mark.span_from in
    let us = map unit_of c.args.units.now in
    let same = ap (map declaration_of) c.deref.ensures.value ∙ c.in_ok-declarations.ensures in
    subst AreHeaded (sym same) (c.declarations_are_headed.ensures B us c.requires.heads)

pub returns : goal.returns
returns g c =
    let B = begins_by g.A.Mark.span_from in
    let us = map unit_of c.args.units.now in
    let pk = lines_of c.args.words.now us in
    let same = ap (map declaration_of) c.deref.ensures.value ∙ c.in_ok-declarations.ensures in
    record {
      clean = subst (λ ss. OnOk c.clean_table.result (IsClean pk ss)) same c.clean_table.ensures.clean;
      rows = subst (λ ss. IfOk c.clean_table.result (AreProgramRows ss)) same c.clean_table.ensures.rows;
      only = subst (λ ss. IfOk c.clean_table.result (λ t. (rs : List Row) → AreProgramRows ss rs → rs ≡ t)) same c.clean_table.ensures.only;
      fault = subst (λ ss. IfErr c.clean_table.result (IsFoundFault pk ss)) same c.clean_table.ensures.fault;
    }
