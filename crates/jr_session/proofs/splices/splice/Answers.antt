use Rattle.std.proofs.Common.{◌≡◌, ◌≤◌, ◌+◌, ◌-◌, ℕ, List, length, sym, subst, arith, inl, inr}
use Rattle.jr_text.specs.Splices.{replaced}
use Rattle.jr_text.specs.Texts.{text_limit}
use Rattle.jr_sources.specs.Sources.{texts_of, with_text}
use Rattle.jr_session.specs.Splicing.{WouldBeTooLong}
use Rattle.jr_session.specs.Lengths.{AreTooLong}
use Rattle.jr_session.proofs.LengthLaws.{old_counted, total_with, within_with, first_too_long, total_small}
use Rattle.jr_session.proofs.splices.splice.Goals as goal

pub overflow_sub-len : goal.overflow_sub-len
overflow_sub-len c =
    let a = old_counted c.args.sources.now c.args.number c.text-old.result.now c.in-Ok.new c.text-old.ensures in
    let b = c.total-total.ensures.total in
    let d = c.from.ensures in
    let e = c.len.ensures.len in
    omega arith

pub overflow_add-len : goal.overflow_add-len
overflow_add-len c =
    let a = total_small c.args.sources.now c.total-total.ensures.valid.few c.total-total.ensures.within in
    let b = c.total-total.ensures.total in
    let d = c.from-in-Ok.ensures in
    let e = c.len-in-Ok.ensures.len in
    let f : length c.in-Ok.new ≤ text_limit = c.in-Ok.ensures.within in
    omega arith

pub returns-then-len-gt-MAX_TOTAL_LEN-clause-ok : goal.returns-then-len-gt-MAX_TOTAL_LEN-clause-ok
returns-then-len-gt-MAX_TOTAL_LEN-clause-ok c =
    let new : c.in-Ok.new ≡ replaced c.text-old.result.now c.args.span c.args.text.now = c.in-Ok.ensures.ok in
    let a = total_with c.args.sources.now c.args.number c.text-old.result.now c.in-Ok.new c.text-old.ensures in
    let s = old_counted c.args.sources.now c.args.number c.text-old.result.now c.in-Ok.new c.text-old.ensures in
    let b = c.total-total.ensures.total in
    let d = c.from-in-Ok.ensures in
    let e = c.len-in-Ok.ensures.len in
    let f = c.from.ensures in
    let g = c.len.ensures.len in
    let h = c.if-len-gt-MAX_TOTAL_LEN.true in
    let beyond : AreTooLong (texts_of (with_text c.args.sources.now c.args.number c.in-Ok.new)) (c.total-total.result - c.from.result + c.from-in-Ok.result) = inr (record {
      within = within_with c.args.sources.now c.args.number c.text-old.result.now c.in-Ok.new c.text-old.ensures c.total-total.ensures.within c.in-Ok.ensures.within;
      beyond = omega arith;
      told = omega arith;
    }) in
    record {
      old = c.text-old.result.now;
      has = c.text-old.ensures;
      cut = c.can_cut.ensures.0 c.if-not-can_cut.false;
      beyond = subst (λ (t : List ℕ). AreTooLong (texts_of (with_text c.args.sources.now c.args.number t)) (c.total-total.result - c.from.result + c.from-in-Ok.result)) new beyond;
    }

pub returns-else-len-gt-MAX_TOTAL_LEN-clause-ok : goal.returns-else-len-gt-MAX_TOTAL_LEN-clause-ok
returns-else-len-gt-MAX_TOTAL_LEN-clause-ok c =
    let new : c.in-Ok.new ≡ replaced c.text-old.result.now c.args.span c.args.text.now = c.in-Ok.ensures.ok in
    record {
      old = c.text-old.result.now;
      has = c.text-old.ensures;
      cut = c.can_cut.ensures.0 c.if-not-can_cut.false;
      is = new;
      within = within_with c.args.sources.now c.args.number c.text-old.result.now c.in-Ok.new c.text-old.ensures c.total-total.ensures.within c.in-Ok.ensures.within;
      together =
          let a = total_with c.args.sources.now c.args.number c.text-old.result.now c.in-Ok.new c.text-old.ensures in
          let s = old_counted c.args.sources.now c.args.number c.text-old.result.now c.in-Ok.new c.text-old.ensures in
          let b = c.total-total.ensures.total in
          let d = c.from-in-Ok.ensures in
          let e = c.len-in-Ok.ensures.len in
          let f = c.from.ensures in
          let g = c.len.ensures.len in
          let h = c.if-len-gt-MAX_TOTAL_LEN.false in
          omega arith;
    }

pub returns-in-Err-TooLong-clause-ok : goal.returns-in-Err-TooLong-clause-ok
returns-in-Err-TooLong-clause-ok c =
    let k = c.in-Err-TooLong.ensures.fault c.in-Err-TooLong.len c.in-Err-TooLong.field-0-is in
    subst (WouldBeTooLong c.args.sources.now c.args.number c.args.span c.args.text.now) (sym c.in-Err-TooLong.len-is)
    (record {
      old = c.text-old.result.now;
      has = c.text-old.ensures;
      cut = c.can_cut.ensures.0 c.if-not-can_cut.false;
      beyond = inl (first_too_long c.args.sources.now c.args.number c.text-old.result.now (replaced c.text-old.result.now c.args.span c.args.text.now) c.text-old.ensures c.in-Err-TooLong.len c.total-total.ensures.within k.0 k.1);
    })
