use Rattle.std.proofs.Common.{map, sym, ap, subst}
use Rattle.std.proofs.lemmas.List.{take_all}
use Rattle.jr_build_hierarchy.specs.HierarchyView.{hierarchy_of}
use Rattle.jr_build_declared.specs.DeclarationFaults.{IsLeastAt}
use Rattle.jr_build_declared.specs.DeclaredView.{declaration_key_of, param_declaration_of}
use Rattle.jr_build_rows.specs.TypeFaults.{AnyNothing}
use Rattle.jr_build_rows.proofs.TypeFaultLaws.{any_more}
use Rattle.jr_build_rows.proofs.type_faults.any_nothing_at.Goals as goal

pub loop-param-init : goal.loop-param-init
loop-param-init c = λ at (w, writes, m). writes

pub loop-param-preserved : goal.loop-param-preserved
loop-param-preserved c = subst (IsLeastAt _) (sym c.lesser_of-least.ensures)
    (any_more (hierarchy_of c.args.h.now) (declaration_key_of c.args.of.now) c.args.params.now
    c.loop-param.param-index _ c.loop-param.least c.nothing_at.result c.loop-param-test.true
    c.loop-param.invariant c.nothing_at.ensures)

pub returns : goal.returns
returns c = subst (λ ps. IsLeastAt (AnyNothing (hierarchy_of c.args.h.now) (declaration_key_of c.args.of.now)
    (map param_declaration_of ps)) c.loop-param.least)
    (take_all c.loop-param.param-index c.args.params.now c.loop-param-test.false)
    c.loop-param.invariant
