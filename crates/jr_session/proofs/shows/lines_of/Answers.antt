use Rattle.std.proofs.Common.{◌≡◌, List, length, refl, sym, ap, subst, ◌∙◌, arith}
use Rattle.std.specs.Prelude.{slice_get}
use Rattle.std.proofs.lemmas.Option.{slice_get_read}
use Rattle.std.proofs.lemmas.Result.{IfOk-weaker}
use Rattle.jr_lex.specs.declared.items.Item.{Item}
use Rattle.jr_program.specs.Members.{AnyOf, MemberRefers, AreInFileOrder}
use Rattle.jr_sources.specs.Sources.{texts_of}
use Rattle.jr_sources.proofs.Analysing.{lexed_each}
use Rattle.jr_sources.proofs.WholeProgram.{kept_tokens}
use Rattle.jr_session.proofs.ShownLines.{own_members, own_refers, lines_of_text}
use Rattle.jr_sources.proofs.SourceLaws.{length-texts}
use Rattle.jr_session.proofs.shows.lines_of.Goals as goal

pub index-tokens-requires : goal.index-tokens-requires
index-tokens-requires c =
    let n = c.requires.readings.tokens in
    let m = length-texts c.args.sources.now in
    let lt = c.requires.number in
    omega (arith, n, m, lt)

pub file_lines-requires-clause-lexes : goal.file_lines-requires-clause-lexes
file_lines-requires-clause-lexes c =
    let is = c.requires.kept c.in-Some.analysis c.in-Some.is in
    let n = c.requires.readings.tokens in
    let m = length-texts c.args.sources.now in
    let lt = c.requires.number in
    let same = kept_tokens c.text_has_one_reading.ensures c.one_answer.ensures.items c.args.sources.now c.args.readings.now c.requires.readings c.in-Some.analysis is in
    let tokens = slice_get_read c.args.readings.now.tokens.items (length c.args.readings.now.tokens.items) c.args.number c.index-tokens.result.now refl (omega (arith, n, m, lt)) c.index-tokens.ensures in
    lexed_each (texts_of c.args.sources.now) is.tokens is.lexed c.args.number c.text.result.now c.index-tokens.result.now c.text.ensures
    (ap (λ (xs : List (List Item)). slice_get xs c.args.number) same ∙ tokens)

pub members_of_file-members-requires : goal.members_of_file-members-requires
members_of_file-members-requires c =
    let is = c.requires.kept c.in-Some.analysis c.in-Some.is in
    subst AreInFileOrder (sym c.as_slice.ensures.value) is.order

-- the members that are walked are those of the file
pub file_lines-requires-clause-once : goal.file_lines-requires-clause-once
file_lines-requires-clause-once c = λ at d e g h.
    let is = c.requires.kept c.in-Some.analysis c.in-Some.is in
    let own : c.members_of_file-members.result.now ≡ own_members c.args.number c.in-Some.analysis.members.items = c.members_of_file-members.ensures ∙ ap (own_members c.args.number) c.as_slice.ensures.value in
    is.once c.args.number at d e ((own_refers c.args.number at d c.in-Some.analysis.members.items).0 (subst (AnyOf (MemberRefers c.args.number at d)) own g))
    ((own_refers c.args.number at e c.in-Some.analysis.members.items).0 (subst (AnyOf (MemberRefers c.args.number at e)) own h))

pub returns : goal.returns
returns c =
    let is = c.requires.kept c.in-Some.analysis c.in-Some.is in
    let n = c.requires.readings.tokens in
    let m = length-texts c.args.sources.now in
    let lt = c.requires.number in
    let same = kept_tokens c.text_has_one_reading.ensures c.one_answer.ensures.items c.args.sources.now c.args.readings.now c.requires.readings c.in-Some.analysis is in
    let tokens = slice_get_read c.args.readings.now.tokens.items (length c.args.readings.now.tokens.items) c.args.number c.index-tokens.result.now refl (omega (arith, n, m, lt)) c.index-tokens.ensures in
    let own : c.members_of_file-members.result.now ≡ own_members c.args.number c.in-Some.analysis.members.items = c.members_of_file-members.ensures ∙ ap (own_members c.args.number) c.as_slice.ensures.value in
    IfOk-weaker c.file_lines.result _ _ (λ lines h. lines_of_text c.args.sources.now c.in-Some.analysis is c.args.number c.text.result.now c.index-tokens.result.now c.members_of_file-members.result.now c.text.ensures (ap (λ (xs : List (List Item)). slice_get xs c.args.number) same ∙ tokens) own lines.items h) c.file_lines.ensures
