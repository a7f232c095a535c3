use Rattle.std.proofs.Common.{◌≡◌, true, refl, sym, subst}
use Rattle.std.specs.Prelude.{◌↔◌, ◌||◌, IsTrue}
use Rattle.jr_table.specs.declared.answers.Answer.{Answer}
use Rattle.jr_table.specs.Found.{nothing}
use Rattle.jr_table.specs.Lookup.{shown}
use Rattle.jr_new_words.proofs.Nothings.{along_iff, one_nothing, private_nothing, static_nothing, many_nothing, none_nothing}
use Rattle.jr_new_words.proofs.class_words.is_nothing.Goals as goal

pub returns-in-Nothing : goal.returns-in-Nothing
returns-in-Nothing c =
    let rows = c.args.table.now in
    subst (λ (a : Answer). IsTrue true ↔ (shown rows a ≡ nothing)) (sym c.in-Nothing.is) (λ t. none_nothing rows, λ e. refl)

pub returns-in-One : goal.returns-in-One
returns-in-One c =
    let rows = c.args.table.now in
    subst (λ (a : Answer). IsTrue c.lacks_row.result ↔ (shown rows a ≡ nothing)) (sym c.in-One.is) (along_iff c.lacks_row.ensures (one_nothing rows c.in-One.number))

pub returns-in-Many : goal.returns-in-Many
returns-in-Many c =
    let rows = c.args.table.now in
    subst (λ (a : Answer). IsTrue (c.lacks_row-in-Many.result || c.lacks_row-in-Many-2.result) ↔ (shown rows a ≡ nothing)) (sym c.in-Many.is)
    (many_nothing rows c.in-Many.first c.in-Many.second c.lacks_row-in-Many.result c.lacks_row-in-Many-2.result c.lacks_row-in-Many.ensures c.lacks_row-in-Many-2.ensures)

pub returns-in-NotAccessible : goal.returns-in-NotAccessible
returns-in-NotAccessible c =
    let rows = c.args.table.now in
    subst (λ (a : Answer). IsTrue c.lacks_row-in-NotAccessible.result ↔ (shown rows a ≡ nothing)) (sym c.in-NotAccessible.is) (along_iff c.lacks_row-in-NotAccessible.ensures (private_nothing rows c.in-NotAccessible.number))

pub returns-in-FromStatic : goal.returns-in-FromStatic
returns-in-FromStatic c =
    let rows = c.args.table.now in
    subst (λ (a : Answer). IsTrue c.lacks_row-in-FromStatic.result ↔ (shown rows a ≡ nothing)) (sym c.in-FromStatic.is) (along_iff c.lacks_row-in-FromStatic.ensures (static_nothing rows c.in-FromStatic.number))
