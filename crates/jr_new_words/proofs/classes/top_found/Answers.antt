use Rattle.std.proofs.Common.{sym, subst, ◌∙◌}
use Rattle.jr_table.specs.Entries.{top_class}
use Rattle.jr_table.specs.Found.{one}
use Rattle.jr_table.specs.HeadRules.{TopFinds}
use Rattle.jr_new_words.proofs.TopFounds.{a_top, no_top}
use Rattle.jr_new_words.proofs.classes.top_found.Goals as goal

pub returns-in-None : goal.returns-in-None
returns-in-None c = no_top c.args.table.now c.keeps_rows.ensures c.args.name.now c.in-None.ensures

pub returns-in_ok-name-in-Some : goal.returns-in_ok-name-in-Some
returns-in_ok-name-in-Some c =
    let rows = c.args.table.now in
    let name = c.args.name.now in
    subst (λ n. TopFinds rows name (one (top_class n))) (sym (c.in_ok-name-in-Some.ensures ∙ c.as_str.ensures)) (a_top rows name c.in-Some.field-0 c.in-Some.ensures)
