use Rattle.std.proofs.Common.{map, sym, ap, subst}
use Rattle.jr_build_hierarchy.specs.HierarchyView.{hierarchy_of}
use Rattle.jr_build_declared.specs.DeclarationFaults.{IsLeastAt}
use Rattle.jr_build_declared.specs.DeclaredView.{declaration_key_of, param_declaration_of, field_declaration_of, ctor_declaration_of, item_of}
use Rattle.jr_build_rows.specs.TypeFaults.{AnyNothing, NothingAt}
use Rattle.jr_build_rows.proofs.TypeFaultLaws.{of_field, of_ctor}
use Rattle.jr_build_rows.proofs.type_faults.item_nothing_at.Goals as goal

pub returns-in-Field : goal.returns-in-Field
returns-in-Field c =
    let h = hierarchy_of c.args.h.now in
    subst (λ x. IsLeastAt (NothingAt h (item_of x)) c.nothing_at.result) (sym c.in-Field.is)
    (of_field h (field_declaration_of c.in-Field.field) c.nothing_at.result c.nothing_at.ensures)

pub returns-in-Method : goal.returns-in-Method
returns-in-Method c = subst (λ x. IsLeastAt (NothingAt (hierarchy_of c.args.h.now) (item_of x))
    c.method_nothing_at.result) (sym c.in-Method.is) c.method_nothing_at.ensures

pub returns-in-Ctor : goal.returns-in-Ctor
returns-in-Ctor c =
    let h = hierarchy_of c.args.h.now in
    subst (λ x. IsLeastAt (NothingAt h (item_of x)) c.any_nothing_at.result) (sym c.in-Ctor.is)
    (of_ctor h (ctor_declaration_of c.in-Ctor.ctor) c.any_nothing_at.result
    (subst (λ ps. IsLeastAt (AnyNothing h (declaration_key_of c.in-Ctor.ctor.of) (map param_declaration_of ps))
    c.any_nothing_at.result) c.deref.ensures.value c.any_nothing_at.ensures))
