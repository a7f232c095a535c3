use Rattle.std.proofs.Common.{map, sym, ap, subst, ◌∙◌}
use Rattle.jr_text.specs.declared.spans.Span.{Span}
use Rattle.jr_ast.specs.View.{unit_of}
use Rattle.jr_bind.specs.Programs.{Program}
use Rattle.jr_program_laws.specs.FileParts.{begins}
use Rattle.jr_sources.specs.Analysed.{AreLexed}
use Rattle.jr_sources.specs.Sources.{texts_of}
use Rattle.jr_sources.specs.Whole.{IsProgramOf}
use Rattle.jr_sources.proofs.FirstErrors.{none_err}
use Rattle.jr_sources.proofs.MembersFew.{bounds_few}
use Rattle.jr_sources.proofs.WholeProgram.{are_whole, kept_units, kept_lexed, program_is}
use Rattle.jr_sources.proofs.whole.Whole.new.Goals as goal

pub of-requires : goal.of-requires
of-requires c =
    let ss = c.args.sources.now in
    let a = c.args.analysis.now in
    let is = c.requires.analysis in
    let valid = c.total-total.ensures.valid in
    let units = kept_units c.text_has_one_reading.ensures ss c.args.readings.now c.requires.readings is.units is.words is.program.read ∙ ap (map unit_of) (sym c.as_slice.ensures.value) in
    let lexed = subst (AreLexed (texts_of ss)) (sym c.as_slice-tokens.ensures.value) (kept_lexed c.text_has_one_reading.ensures ss c.args.readings.now c.requires.readings is.units is.words is.program.read) in
    let law = c.members_are_written.ensures begins is.units a.table c.keeps_rows.ensures is.rows in
    let few = bounds_few c.items_are_placed.ensures.items c.items_are_placed.ensures.last ss a is valid c.total-total.ensures.within in
    are_whole ss a is valid c.keeps_rows.ensures c.one_answer.ensures.items law (none_err ss a is c.requires.sound) (map unit_of c.as_slice.result.now) units c.as_slice-tokens.result.now lexed few

pub returns-clause-program : goal.returns-clause-program
returns-clause-program c =
    let ss = c.args.sources.now in
    let a = c.args.analysis.now in
    let is = c.requires.analysis in
    let valid = c.total-total.ensures.valid in
    let units = kept_units c.text_has_one_reading.ensures ss c.args.readings.now c.requires.readings is.units is.words is.program.read ∙ ap (map unit_of) (sym c.as_slice.ensures.value) in
    let lexed = subst (AreLexed (texts_of ss)) (sym c.as_slice-tokens.ensures.value) (kept_lexed c.text_has_one_reading.ensures ss c.args.readings.now c.requires.readings is.units is.words is.program.read) in
    let law = c.members_are_written.ensures begins is.units a.table c.keeps_rows.ensures is.rows in
    let few = bounds_few c.items_are_placed.ensures.items c.items_are_placed.ensures.last ss a is valid c.total-total.ensures.within in
    let whole = are_whole ss a is valid c.keeps_rows.ensures c.one_answer.ensures.items law (none_err ss a is c.requires.sound) (map unit_of c.as_slice.result.now) units c.as_slice-tokens.result.now lexed few in
    subst (IsProgramOf ss) (sym c.of.ensures) (program_is ss a is (map unit_of c.as_slice.result.now) units whole.program)

pub returns-clause-rows : goal.returns-clause-rows
returns-clause-rows c = ap (λ (p : Program Span). p.rows) c.of.ensures
