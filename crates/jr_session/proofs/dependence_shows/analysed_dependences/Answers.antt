use Rattle.std.proofs.Common.{◌≡◌, ◌≤◌, length, map, sym, ap, subst, ◌∙◌, arith}
use Rattle.std.proofs.lemmas.Result.{IfOk-weaker}
use Rattle.jr_ast.specs.View.{unit_of}
use Rattle.jr_members.specs.PartView.{written_of}
use Rattle.jr_members.specs.WrittenMembers.{written_members}
use Rattle.jr_program.specs.Members.{EachOf, AreEachBound}
use Rattle.jr_program_laws.specs.FileParts.{begins}
use Rattle.jr_dependence_lines.specs.MemberLines.{CanShow, in_file}
use Rattle.jr_dependence_lines.specs.Tallies.{IsShown}
use Rattle.jr_sources.specs.Sources.{texts_of}
use Rattle.jr_sources.proofs.AllRead.{element}
use Rattle.jr_sources.proofs.Analysing.{lexed_count}
use Rattle.jr_sources.proofs.PartsFit.{units_gathered}
use Rattle.jr_sources.proofs.SourceLaws.{length-texts}
use Rattle.jr_sources.proofs.WholeProgram.{kept_units}
use Rattle.jr_session.specs.Shows.{shown_limit}
use Rattle.jr_session.proofs.DependenceShows.{own_members, shown_is}
use Rattle.jr_session.proofs.ShownMembers.{written_can}
use Rattle.jr_session.proofs.dependence_shows.analysed_dependences.Goals as goal

pub written_members-requires-clause-few : goal.written_members-requires-clause-few
written_members-requires-clause-few c =
    let n = c.requires.readings.units in
    let m = length-texts c.args.sources.now in
    let few : length c.args.sources.now ≤ 256 = c.requires.valid.few in
    let units = ap length c.as_slice.ensures.value in
    omega (arith, n, m, few, units)

pub written_members-requires-clause-fits : goal.written_members-requires-clause-fits
written_members-requires-clause-fits c = units_gathered begins (map unit_of c.as_slice.result.now)

pub dependence_lines-shown-requires-clause-bound : goal.dependence_lines-shown-requires-clause-bound
dependence_lines-shown-requires-clause-bound c =
    let a = c.args.analysis.now in
    let is = c.requires.analysis in
    let units = kept_units c.text_has_one_reading.ensures c.args.sources.now c.args.readings.now c.requires.readings is.units is.words is.program.read ∙ ap (map unit_of) (sym c.as_slice.ensures.value) in
    let written : map written_of c.deref.result.now ≡ written_members begins a.table is.units =
    ap (map written_of) c.deref.ensures.value ∙ c.in_ok-written.ensures ∙ ap (written_members begins a.table) (sym units) in
    (is.tokens, subst (λ ms. AreEachBound a.table is.tokens (map written_of c.deref.result.now) ms) (sym c.as_slice-bounds.ensures.value) (subst (λ ws. AreEachBound a.table is.tokens ws a.members.items) (sym written) is.each))

pub dependence_lines-shown-requires-clause-can : goal.dependence_lines-shown-requires-clause-can
dependence_lines-shown-requires-clause-can c =
    let a = c.args.analysis.now in
    let is = c.requires.analysis in
    let units = kept_units c.text_has_one_reading.ensures c.args.sources.now c.args.readings.now c.requires.readings is.units is.words is.program.read ∙ ap (map unit_of) (sym c.as_slice.ensures.value) in
    let written : map written_of c.deref.result.now ≡ written_members begins a.table is.units =
    ap (map written_of) c.deref.ensures.value ∙ c.in_ok-written.ensures ∙ ap (written_members begins a.table) (sym units) in
    subst (EachOf CanShow) (sym written) (written_can is.units a.table (written_members begins a.table is.units) (c.members_are_written.ensures begins is.units a.table c.keeps_rows.ensures is.rows))

pub returns : goal.returns
returns c =
    let ss = c.args.sources.now in
    let a = c.args.analysis.now in
    let is = c.requires.analysis in
    let number = c.args.number in
    let units = kept_units c.text_has_one_reading.ensures ss c.args.readings.now c.requires.readings is.units is.words is.program.read ∙ ap (map unit_of) (sym c.as_slice.ensures.value) in
    let written : map written_of c.deref.result.now ≡ written_members begins a.table is.units =
    ap (map written_of) c.deref.ensures.value ∙ c.in_ok-written.ensures ∙ ap (written_members begins a.table) (sym units) in
    let each = subst (λ ms. AreEachBound a.table is.tokens (map written_of c.deref.result.now) ms) (sym c.as_slice-bounds.ensures.value) (subst (λ ws. AreEachBound a.table is.tokens ws a.members.items) (sym written) is.each) in
    let lt = c.requires.number in
    let m = length-texts ss in
    let k = lexed_count (texts_of ss) is.tokens is.lexed in
    let text = element (texts_of ss) number (omega (arith, lt, m)) in
    let items = element is.tokens number (omega (arith, lt, m, k)) in
    let members = own_members ss a is number text.0 items.0 text.1 items.1 in
    IfOk-weaker c.dependence_lines-shown.result _ _
    (λ x h. shown_is ss number c.args.before a.table items.0 (in_file number (written_members begins a.table is.units)) members x (subst (λ ws. IsShown a.table items.0 c.args.before shown_limit (in_file number ws) x) written h))
    (c.dependence_lines-shown.ensures is.tokens items.0 each items.1)
