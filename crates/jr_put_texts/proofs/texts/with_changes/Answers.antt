use Rattle.std.proofs.Common.{◌≡◌, ◌+◌, ◌++◌, [], ◌∷◌, drop, string_bytes}
use Rattle.std.proofs.lemmas.List.{drop_all}
use Rattle.jr_text.specs.Spans.{part_of}
use Rattle.jr_rewrite.specs.ChangeView.{change_of, changes_of}
use Rattle.jr_put_texts.proofs.Pieces.{Putting, begins, gap_cut, more, rest_cut, ends, changes_left, span_of}
use Rattle.jr_put_texts.proofs.texts.with_changes.Goals as goal

pub loop-change-init : goal.loop-change-init
loop-change-init c = begins c.args.text.now c.args.piece (changes_of c.args.changes.now) _ c.requires.cut c.requires.fit c.requires.within c.new-made.ensures.bytes

pub part-requires : goal.part-requires
part-requires c =
    let rest = changes_of (drop (c.loop-change.change-index + 1) c.args.changes.now) in
    let here : Putting c.args.text.now c.args.piece (changes_of c.args.changes.now) (change_of c.change-item.result ∷ rest) (string_bytes c.loop-change.made) c.loop-change.at = rw (changes_left c.args.changes.now c.loop-change.change-index c.change-item.result c.loop-change-test.true c.change-item.is) at c.loop-change.invariant in
    gap_cut c.args.text.now c.args.piece (changes_of c.args.changes.now) (change_of c.change-item.result) rest (string_bytes c.loop-change.made) c.loop-change.at c.requires.cut here

pub loop-change-preserved : goal.loop-change-preserved
loop-change-preserved c =
    let rest = changes_of (drop (c.loop-change.change-index + 1) c.args.changes.now) in
    let here : Putting c.args.text.now c.args.piece (changes_of c.args.changes.now) (change_of c.change-item.result ∷ rest) (string_bytes c.loop-change.made) c.loop-change.at = rw (changes_left c.args.changes.now c.loop-change.change-index c.change-item.result c.loop-change-test.true c.change-item.is) at c.loop-change.invariant in
    let gap : string_bytes c.push_str.new.self ≡ string_bytes c.loop-change.made ++ c.part.result.now = c.in_ok-push_str.ensures.bytes in
    let text : string_bytes c.push_str-in-loop-change.new.self ≡ string_bytes c.push_str.new.self ++ c.as_str.result.now = c.in_ok-push_str-2.ensures.bytes in
    let both : string_bytes c.push_str-in-loop-change.new.self ≡ (string_bytes c.loop-change.made ++ part_of c.args.text.now (span_of c.loop-change.at c.change-item.result.span.from)) ++ string_bytes c.change-item.result.text = cc (c.part.ensures, c.as_str.ensures.value, gap, text) in
    more c.args.text.now c.args.piece (changes_of c.args.changes.now) (change_of c.change-item.result) rest (string_bytes c.loop-change.made) _ c.loop-change.at here both

pub part-requires-2 : goal.part-requires-2
part-requires-2 c =
    let done : Putting c.args.text.now c.args.piece (changes_of c.args.changes.now) [] (string_bytes c.loop-change.made) c.loop-change.at = rw (drop_all c.loop-change.change-index c.args.changes.now c.loop-change-test.false) at c.loop-change.invariant in
    rest_cut c.args.text.now c.args.piece (changes_of c.args.changes.now) (string_bytes c.loop-change.made) c.loop-change.at c.requires.cut done

pub returns : goal.returns
returns c =
    let done : Putting c.args.text.now c.args.piece (changes_of c.args.changes.now) [] (string_bytes c.loop-change.made) c.loop-change.at = rw (drop_all c.loop-change.change-index c.args.changes.now c.loop-change-test.false) at c.loop-change.invariant in
    let rest : string_bytes c.push_str-2.new.self ≡ string_bytes c.loop-change.made ++ c.part-2.result.now = c.in_ok-push_str-3.ensures.bytes in
    let all = ends c.args.text.now c.args.piece (changes_of c.args.changes.now) (string_bytes c.loop-change.made) c.loop-change.at done in
    cc (rest, c.part-2.ensures, all)
