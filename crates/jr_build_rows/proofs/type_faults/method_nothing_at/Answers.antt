use Rattle.std.proofs.Common.{map, sym, ap, subst}
use Rattle.jr_build_hierarchy.specs.HierarchyView.{hierarchy_of}
use Rattle.jr_build_declared.specs.DeclarationFaults.{IsLeastAt}
use Rattle.jr_build_declared.specs.DeclaredView.{declaration_key_of, param_declaration_of, method_declaration_of}
use Rattle.jr_build_rows.specs.TypeFaults.{AnyNothing, NothingAt}
use Rattle.jr_table.specs.DeclaredItems.{method_item}
use Rattle.jr_build_rows.proofs.TypeFaultLaws.{of_method}
use Rattle.jr_build_rows.proofs.type_faults.method_nothing_at.Goals as goal

pub returns : goal.returns
returns c =
    let h = hierarchy_of c.args.h.now in
    let m = c.args.method.now in
    subst (IsLeastAt (NothingAt h (method_item (method_declaration_of m)))) (sym c.lesser_of.ensures)
    (of_method h (method_declaration_of m) c.maybe_nothing_at-in_result.result c.any_nothing_at-in_params.result
    c.maybe_nothing_at-in_result.ensures
    (subst (λ ps. IsLeastAt (AnyNothing h (declaration_key_of m.of) (map param_declaration_of ps)) c.any_nothing_at-in_params.result)
    c.deref.ensures.value c.any_nothing_at-in_params.ensures))
