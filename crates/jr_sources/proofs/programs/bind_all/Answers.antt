use Rattle.std.proofs.Common.{◌≡◌, ◌≤◌, ℕ, List, length, map, ap, ◌∙◌, arith}
use Rattle.std.proofs.lemmas.List.{length-map}
use Rattle.jr_ast.specs.View.{unit_of}
use Rattle.jr_members.specs.PartView.{written_of}
use Rattle.jr_sources.proofs.Analysing.{counts}
use Rattle.jr_sources.proofs.Binding.{counted, can_bind, analysis}
use Rattle.jr_sources.proofs.PartsFit.{units_gathered}
use Rattle.jr_sources.proofs.Rebinding.{rebinding}
use Rattle.jr_sources.proofs.programs.bind_all.Goals as goal

pub written_members-requires-clause-few : goal.written_members-requires-clause-few
written_members-requires-clause-few g c =
    let n = (counts c.args.sources.now (map unit_of c.args.files.now.units.now) c.args.files.now.words.now c.requires.read).0 in
    let m = length-map c.args.files.now.units.now unit_of in
    let few : length c.args.sources.now ≤ 256 = c.requires.valid.few in
    omega (arith, n, m, few)

pub written_members-requires-clause-fits : goal.written_members-requires-clause-fits
written_members-requires-clause-fits g c = units_gathered _ (map unit_of c.args.files.now.units.now)

pub bind_written-bound-requires-clause-each : goal.bind_written-bound-requires-clause-each
bind_written-bound-requires-clause-each g c =
    let ws = map written_of c.as_slice.result.now in
    let written = ap (map written_of) c.as_slice.ensures.value ∙ c.in-Ok.ensures in
    can_bind c.text_has_one_reading.ensures c.one_answer.ensures.items c.parts_are_placed.ensures.parts c.parts_are_placed.ensures.supers c.one_is_bound.ensures c.members_are_written.ensures
    c.args.sources.now (map unit_of c.args.files.now.units.now) c.args.files.now.words.now c.requires.read c.args.files.now.tokens.now c.requires.lexed c.args.table c.requires.table c.keeps_rows.ensures ws written

pub bind_written-bound-requires-clause-earlier : goal.bind_written-bound-requires-clause-earlier
bind_written-bound-requires-clause-earlier g c =
    let written = ap (map written_of) c.as_slice.ensures.value ∙ c.in-Ok.ensures in
    λ e h. rebinding c.text_has_one_reading.ensures c.one_answer.ensures.items c.args.sources.now (map unit_of c.args.files.now.units.now) c.args.files.now.words.now c.requires.read c.args.files.now.tokens.now c.requires.lexed
    c.args.table (map written_of c.as_slice.result.now) written e (c.requires.earlier e h)

pub returns-in-Err-clause-cost : goal.returns-in-Err-clause-cost
returns-in-Err-clause-cost g c =
    let ws = map written_of c.as_slice.result.now in
    let written = ap (map written_of) c.as_slice.ensures.value ∙ c.in-Ok.ensures in
    counted c.text_has_one_reading.ensures c.args.sources.now (map unit_of c.args.files.now.units.now) c.args.files.now.words.now c.requires.read c.args.table c.requires.table ws written
    _ (length-map c.as_slice.result.now written_of) c.args.steps.now c.bind_written-bound.new.steps c.bind_written-bound.ensures.least c.bind_written-bound.ensures.most

pub returns-in-Ok-bound-clause-cost : goal.returns-in-Ok-bound-clause-cost
returns-in-Ok-bound-clause-cost g c =
    let ws = map written_of c.as_slice.result.now in
    let written = ap (map written_of) c.as_slice.ensures.value ∙ c.in-Ok.ensures in
    counted c.text_has_one_reading.ensures c.args.sources.now (map unit_of c.args.files.now.units.now) c.args.files.now.words.now c.requires.read c.args.table c.requires.table ws written
    _ (length-map c.as_slice.result.now written_of) c.args.steps.now c.bind_written-bound.new.steps c.bind_written-bound.ensures.least c.bind_written-bound.ensures.most

pub returns-in-Ok-bound-clause-analysed : goal.returns-in-Ok-bound-clause-analysed
returns-in-Ok-bound-clause-analysed g c =
    let ws = map written_of c.as_slice.result.now in
    let written = ap (map written_of) c.as_slice.ensures.value ∙ c.in-Ok.ensures in
    analysis c.text_has_one_reading.ensures c.one_answer.ensures.items c.parts_are_placed.ensures.parts c.parts_are_placed.ensures.supers c.one_is_bound.ensures c.members_are_written.ensures
    c.args.sources.now (map unit_of c.args.files.now.units.now) c.args.files.now.words.now c.requires.read c.args.files.now.tokens.now c.requires.lexed (record { table = c.args.table; members = c.in-Ok-bound.made.0 })
    c.requires.table c.keeps_rows.ensures ws written c.in-Ok-bound.ensures.known c.in-Ok-bound.ensures.each c.in-Ok-bound.ensures.order

pub returns-in-Ok-bound-clause-left : goal.returns-in-Ok-bound-clause-left
returns-in-Ok-bound-clause-left g c = c.in-Ok-bound.ensures.back
