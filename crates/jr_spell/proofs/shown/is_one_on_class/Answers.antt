use Rattle.std.proofs.Common.{◌≡◌, ◌↔◌, IsTrue, sym, subst}
use Rattle.jr_table.specs.KeyView.{decl_of}
use Rattle.jr_table.specs.Found.{one}
use Rattle.std.specs.Prelude.{◌&&◌, not}
use Rattle.jr_table.specs.Lookup.{shown}
use Rattle.jr_table.specs.Context.{IsInstanceDecl}
use Rattle.jr_spell.proofs.Deciding.{never}
use Rattle.jr_spell.proofs.Founds.{nothing_shown, many_shown, closed_shown, static_shown}
use Rattle.jr_spell.proofs.StaticWords.{class_is}
use Rattle.jr_spell.proofs.shown.is_one_on_class.Goals as goal

pub returns-in-One : goal.returns-in-One
unfolding shown
returns-in-One c =
    let rows = c.args.table.now in
    let d = decl_of c.args.target.now in
    subst (λ a. IsTrue (c.declares.result && not c.is_instance.result) ↔ ((shown rows a ≡ one d) × (IsInstanceDecl rows d → ⊥))) (sym c.in-One.is)
    (class_is rows c.in-One.number d c.keeps_rows.ensures c.declares.result c.is_instance.result c.declares.ensures c.is_instance.ensures)

pub returns-in-Nothing : goal.returns-in-Nothing
returns-in-Nothing c =
    let d = decl_of c.args.target.now in
    let no = subst (λ a. shown c.args.table.now a ≡ one d → ⊥) (sym c.in-Nothing.is) (nothing_shown c.args.table.now d) in
    never (λ x. no x.0)

pub returns-in-Many : goal.returns-in-Many
returns-in-Many c =
    let d = decl_of c.args.target.now in
    let no = subst (λ a. shown c.args.table.now a ≡ one d → ⊥) (sym c.in-Many.is) (many_shown c.args.table.now d c.in-Many.field-0 c.in-Many.field-1) in
    never (λ x. no x.0)

pub returns-in-NotAccessible : goal.returns-in-NotAccessible
returns-in-NotAccessible c =
    let d = decl_of c.args.target.now in
    let no = subst (λ a. shown c.args.table.now a ≡ one d → ⊥) (sym c.in-NotAccessible.is) (closed_shown c.args.table.now d c.in-NotAccessible.field-0) in
    never (λ x. no x.0)

pub returns-in-FromStatic : goal.returns-in-FromStatic
returns-in-FromStatic c =
    let d = decl_of c.args.target.now in
    let no = subst (λ a. shown c.args.table.now a ≡ one d → ⊥) (sym c.in-FromStatic.is) (static_shown c.args.table.now d c.in-FromStatic.field-0) in
    never (λ x. no x.0)
