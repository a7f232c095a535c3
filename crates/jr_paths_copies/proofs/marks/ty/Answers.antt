use Rattle.std.proofs.Common.{ap, sym, ◌∙◌, None, Some}
use Rattle.jr_ast.specs.declared.parts.TypeKind.TheVariants.{Named}
use Rattle.jr_ast.specs.Tree as tree
use Rattle.jr_ast.specs.View.{type_kind}
use Rattle.jr_ast.specs.Remarked as maps
use Rattle.jr_paths_copies.proofs.Marking.{mark_agrees}
use Rattle.jr_paths_copies.proofs.marks.ty.Goals as goal

pub returns-in-Int : goal.returns-in-Int
returns-in-Int g c = λ h k agree.
    ap tree.int (mark_agrees agree c.mark_by.ensures) ∙ sym (ap (λ d. maps.map_type k (type_kind c.args.ty.now.mark d)) c.in-Int.is)

pub returns-in-Boolean : goal.returns-in-Boolean
returns-in-Boolean g c = λ h k agree.
    ap tree.boolean (mark_agrees agree c.mark_by-in-Boolean.ensures) ∙ sym (ap (λ d. maps.map_type k (type_kind c.args.ty.now.mark d)) c.in-Boolean.is)

pub returns-in-None : goal.returns-in-None
returns-in-None g c = λ h k agree.
    let name = c.in_ok-name-in-Named.ensures h k agree in
    let mark = mark_agrees agree c.mark_by-in-None.ensures in
    (λ i. tree.named (mark i) None (name i))
    ∙ sym (ap (λ d. maps.map_type k (type_kind c.args.ty.now.mark d)) (c.in-Named.is ∙ ap (λ o. Named o c.in-Named.name) c.in-None.is))

pub returns-in_ok-outer-in-Some : goal.returns-in_ok-outer-in-Some
returns-in_ok-outer-in-Some g c = λ h k agree.
    let name = c.in_ok-name-in-Named.ensures h k agree in
    let outer = c.in_ok-outer-in-Some.ensures h k agree in
    let mark = mark_agrees agree c.mark_by-in-Some.ensures in
    (λ i. tree.named (mark i) (Some (outer i)) (name i))
    ∙ sym (ap (λ d. maps.map_type k (type_kind c.args.ty.now.mark d)) (c.in-Named.is ∙ ap (λ o. Named o c.in-Named.name) c.in-Some.is))
