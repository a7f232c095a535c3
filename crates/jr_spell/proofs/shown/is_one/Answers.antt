use Rattle.std.proofs.Common.{◌≡◌, ◌↔◌, IsTrue, sym, subst}
use Rattle.jr_table.specs.KeyView.{decl_of}
use Rattle.jr_table.specs.Found.{one}
use Rattle.jr_table.specs.Lookup.{shown}
use Rattle.jr_spell.proofs.Deciding.{never}
use Rattle.jr_spell.proofs.Founds.{nothing_shown, many_shown, closed_shown, static_shown}
use Rattle.jr_spell.proofs.shown.is_one.Goals as goal

pub returns-in-One : goal.returns-in-One
unfolding shown
returns-in-One c = subst (λ a. IsTrue c.declares.result ↔ (shown c.args.table.now a ≡ one (decl_of c.args.target.now))) (sym c.in-One.is) c.declares.ensures

pub returns-in-Nothing : goal.returns-in-Nothing
returns-in-Nothing c =
    let d = decl_of c.args.target.now in
    never (subst (λ a. shown c.args.table.now a ≡ one d → ⊥) (sym c.in-Nothing.is) (nothing_shown c.args.table.now d))

pub returns-in-Many : goal.returns-in-Many
returns-in-Many c =
    let d = decl_of c.args.target.now in
    never (subst (λ a. shown c.args.table.now a ≡ one d → ⊥) (sym c.in-Many.is) (many_shown c.args.table.now d c.in-Many.field-0 c.in-Many.field-1))

pub returns-in-NotAccessible : goal.returns-in-NotAccessible
returns-in-NotAccessible c =
    let d = decl_of c.args.target.now in
    never (subst (λ a. shown c.args.table.now a ≡ one d → ⊥) (sym c.in-NotAccessible.is) (closed_shown c.args.table.now d c.in-NotAccessible.field-0))

pub returns-in-FromStatic : goal.returns-in-FromStatic
returns-in-FromStatic c =
    let d = decl_of c.args.target.now in
    never (subst (λ a. shown c.args.table.now a ≡ one d → ⊥) (sym c.in-FromStatic.is) (static_shown c.args.table.now d c.in-FromStatic.field-0))
