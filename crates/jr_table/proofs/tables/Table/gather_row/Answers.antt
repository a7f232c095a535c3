use Rattle.std.proofs.Common.{◌≡◌, ◌||◌, ◌++◌, ◌∷◌, [], Some, not, cond, sym, ap, ◌∙◌}
use Rattle.std.specs.Prelude.{slice_get, option_map, ◌==◌}
use Rattle.jr_table.specs.declared.entries.Sort.TheVariants as sort
use Rattle.jr_table.specs.Entries.{entries_of}
use Rattle.jr_table.specs.Looking.{same_kinds}
use Rattle.jr_table.specs.Gathering.{is_met}
use Rattle.jr_table.proofs.Testing.{sort_is}
use Rattle.jr_table.proofs.GatherLaws.{takes_row}
use Rattle.jr_table.proofs.tables.Table.gather_row.Goals as goal

pub returns : goal.returns
returns c = λ name.
    let es = entries_of c.args.self.now in
    let e = c.in-Some.entry.now in
    let old = c.args.gathering.now in
    let stands : slice_get es c.args.number ≡ Some e = sym c.entry.ensures ∙ ap (option_map (λ e. e.now)) c.in-Some.is in
    takes_row c.args.self.now c.keeps_rows.ensures name c.args.class c.args.at c.args.number e stands (sort_is e.sort sort.Method (sym c.is_method.ensures ∙ c.if-not-is_method.false))
    (is_met old.met) (is_met c.add.new.self.met) old.numbers.items c.add.new.self.numbers.items (ap (is_met old.met) (sym c.as_slice.ensures) ∙ sym c.has.ensures ∙ c.if-has.false)
    (λ ps. c.in_ok-add.ensures.met ps ∙ ap (λ q. same_kinds ps q || is_met old.met ps) c.as_slice-2.ensures)
    (c.in_ok-add.ensures.numbers ∙ ap (λ b. old.numbers.items ++ cond ((c.args.class == c.args.at) || not b) (c.args.number ∷ []) []) c.is_private.ensures)
