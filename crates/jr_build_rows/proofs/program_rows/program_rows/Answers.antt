use Rattle.std.proofs.Common.{◌≡◌, ◌++◌, ◌∙◌, map, ap, refl}
use Rattle.jr_table.specs.RowView.{row_of}
use Rattle.jr_build_rows.specs.ExactRows.{rows_of_item, rows_of_declarations}
use Rattle.jr_build_hierarchy.specs.HierarchyView.{hierarchy_of}
use Rattle.jr_build_declared.specs.DeclaredView.{declaration_of, item_of}
use Rattle.jr_build_declared.proofs.DeclarationLists as lists
use Rattle.jr_build_rows.proofs.program_rows.program_rows.Goals as goal

pub loop-declaration-init : goal.loop-declaration-init
loop-declaration-init c = ap (λ rows. rows ++ rows_of_declarations (hierarchy_of c.args.h.now) (map declaration_of c.args.declarations.now))
    (ap (map row_of) c.reserve.ensures.items ∙ c.in_ok-rows.ensures)

pub loop-declaration-preserved : goal.loop-declaration-preserved
loop-declaration-preserved c =
    let h = hierarchy_of c.args.h.now in
    lists.one_more (λ xs. rows_of_declarations h (map declaration_of xs)) (λ x. rows_of_item h (item_of x.item))
    (λ x xs. refl) _ _ _ c.args.declarations.now c.loop-declaration.declaration-index c.declaration-item.result
    c.loop-declaration-test.true c.declaration-item.is c.in_ok-push_item.ensures c.loop-declaration.invariant

pub returns : goal.returns
returns c =
    let h = hierarchy_of c.args.h.now in
    lists.none_left (λ xs. rows_of_declarations h (map declaration_of xs)) (λ x. rows_of_item h (item_of x.item))
    (λ x xs. refl) _ _ c.args.declarations.now c.loop-declaration.declaration-index c.loop-declaration-test.false refl c.loop-declaration.invariant
