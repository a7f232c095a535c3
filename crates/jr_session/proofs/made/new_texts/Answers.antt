use Rattle.std.proofs.Common.{◌≡◌, ℕ, ◌<◌, ◌≤◌, ◌+◌, List, [], length, sym, subst, ◌∙◌, arith}
use Rattle.jr_text.specs.Texts.{text_limit}
use Rattle.jr_sources.specs.Sources.{texts_of, file_limit}
use Rattle.jr_session.specs.declared.changes.Change.{Change}
use Rattle.jr_session.specs.Lengths.{AreTooLong}
use Rattle.jr_session.specs.Making.{AreMadeUntil}
use Rattle.jr_session.specs.NewTexts.{with_edits}
use Rattle.jr_session.proofs.Making.{fit_count, none_made, next_made, made_too_long, small_until, all_made, all_named, all_files, all_within, all_together, together_too_long}
use Rattle.jr_session.proofs.made.new_texts.Goals as goal

pub loop-number-init : goal.loop-number-init
loop-number-init c =
    subst (λ (cs : List Change). AreMadeUntil c.args.sources.now c.args.edits.now 0 cs c.new-names.result.items 0) (sym c.new-changes.ensures.items)
    (subst (λ (ns : List (List ℕ)). AreMadeUntil c.args.sources.now c.args.edits.now 0 [] ns 0) (sym c.new-names.ensures.items) (none_made c.args.sources.now c.args.edits.now))

pub overflow_add-total : goal.overflow_add-total
overflow_add-total c =
    let few : length c.args.sources.now ≤ file_limit = c.count-number-end.ensures.valid.few in
    let below : c.loop-number.number < c.count-number-end.result = c.loop-number-test.true in
    let n : c.count-number-end.result ≡ length c.args.sources.now = c.count-number-end.ensures.count in
    let small : length c.in-Ok.text ≤ text_limit = c.in-Ok.ensures.within in
    let bound = small_until c.args.sources.now c.args.edits.now c.loop-number.number c.loop-number.changes.items c.loop-number.names.items c.loop-number.total c.loop-number.invariant (omega (arith, below, n)) few in
    let l : c.from-total.result ≡ length c.in-Ok.text = c.from-total.ensures ∙ c.len.ensures.len in
    omega arith

pub returns-in-Err-TooLong : goal.returns-in-Err-TooLong
returns-in-Err-TooLong c =
    let k = c.in-Err-TooLong.ensures.fault c.in-Err-TooLong.len c.in-Err-TooLong.field-0-is in
    subst (AreTooLong (texts_of (with_edits c.args.sources.now c.args.edits.now))) (sym c.in-Err-TooLong.len-is)
    (made_too_long c.args.sources.now c.args.edits.now c.loop-number.number c.loop-number.changes.items c.loop-number.names.items c.loop-number.total c.loop-number.invariant k.0 k.1 c.in-Err-TooLong.len k.2 k.3)

pub loop-number-preserved : goal.loop-number-preserved
loop-number-preserved c =
    let below : c.loop-number.number < c.count-number-end.result = c.loop-number-test.true in
    let n : c.count-number-end.result ≡ length c.args.sources.now = c.count-number-end.ensures.count in
    let m = fit_count c.args.sources.now c.args.edits.now c.requires in
    subst (λ (k : ℕ). AreMadeUntil c.args.sources.now c.args.edits.now (c.loop-number.number + 1) c.push_change.new.changes.items c.push_change.new.names.items (c.loop-number.total + k)) (sym (c.from-total.ensures ∙ c.len.ensures.len))
    (next_made c.args.sources.now c.args.edits.now c.loop-number.number c.loop-number.changes.items c.loop-number.names.items c.loop-number.total c.loop-number.invariant c.in-Ok.text c.in-Ok.ensures.ok c.push_change.new.changes.items c.push_change.new.names.items (omega (arith, below, n, m)) c.in-Ok.ensures.within c.in_ok-push_change-in-Ok.ensures)

pub returns-then-total-gt-MAX_TOTAL_LEN : goal.returns-then-total-gt-MAX_TOTAL_LEN
returns-then-total-gt-MAX_TOTAL_LEN c =
    let over = c.loop-number-test.false in
    let within = c.loop-number.auto.number-end in
    let n : c.count-number-end.result ≡ length c.args.sources.now = c.count-number-end.ensures.count in
    let h = c.if-total-gt-MAX_TOTAL_LEN.true in
    together_too_long c.args.sources.now c.args.edits.now c.loop-number.number c.loop-number.changes.items c.loop-number.names.items c.loop-number.total c.loop-number.invariant (omega (arith, over, within, n)) c.requires (omega (arith, h))

pub returns : goal.returns
returns c =
    let over = c.loop-number-test.false in
    let within = c.loop-number.auto.number-end in
    let n : c.count-number-end.result ≡ length c.args.sources.now = c.count-number-end.ensures.count in
    let end : c.loop-number.number ≡ length c.args.sources.now = omega (arith, over, within, n) in
    let h = c.if-total-gt-MAX_TOTAL_LEN.false in
    let t = all_together c.args.sources.now c.args.edits.now c.loop-number.number c.loop-number.changes.items c.loop-number.names.items c.loop-number.total c.loop-number.invariant end c.requires in (
      all_made c.args.sources.now c.args.edits.now c.loop-number.number c.loop-number.changes.items c.loop-number.names.items c.loop-number.total c.loop-number.invariant end c.requires,
      all_named c.args.sources.now c.args.edits.now c.loop-number.number c.loop-number.changes.items c.loop-number.names.items c.loop-number.total c.loop-number.invariant end c.requires,
      all_files c.args.sources.now c.args.edits.now c.loop-number.number c.loop-number.changes.items c.loop-number.names.items c.loop-number.total c.loop-number.invariant end c.requires,
      all_within c.args.sources.now c.args.edits.now c.loop-number.number c.loop-number.changes.items c.loop-number.names.items c.loop-number.total c.loop-number.invariant end c.requires,
      omega (arith, t, h),
    )
