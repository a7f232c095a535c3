use Rattle.std.proofs.Common.{◌≡◌, ◌+◌, ◌*◌, ◌<◌, ◌≤◌, ℕ, List, length, take, subst, sym, ap, ◌∙◌, arith}
use Rattle.std.specs.List.{All}
use Rattle.jr_text.specs.Texts.{text_limit}
use Rattle.jr_sources.specs.Sources.{texts_of, total_of, file_limit}
use Rattle.jr_sources.proofs.SourceLaws.{length-texts}
use Rattle.jr_sources.proofs.Totals.{CountedTo, none_counted, one_more, all_counted}
use Rattle.jr_sources.proofs.sources.Sources.total.Goals as goal

pub loop-number-init : goal.loop-number-init
loop-number-init c = none_counted (texts_of c.args.self.now)

pub loop-number-preserved : goal.loop-number-preserved
loop-number-preserved c =
    subst (λ (n : ℕ). CountedTo (texts_of c.args.self.now) (c.loop-number.number + 1) (c.loop-number.total + n)) (sym (c.from-total.ensures ∙ c.len.ensures.len))
    (one_more (texts_of c.args.self.now) c.loop-number.number c.loop-number.total c.text.result.now c.text.ensures c.len.ensures.valid.within c.loop-number.invariant)

pub overflow_add-total : goal.overflow_add-total
overflow_add-total c =
    let few : length c.args.self.now ≤ file_limit = c.count-number-end.ensures.valid.few in
    let small : length c.text.result.now ≤ text_limit = c.len.ensures.valid.within in
    let bound : c.loop-number.total ≤ c.loop-number.number * text_limit = c.loop-number.invariant.bound in
    let below : c.loop-number.number < c.count-number-end.result = c.loop-number-test.true in
    let n : c.count-number-end.result ≡ length c.args.self.now = c.count-number-end.ensures.count in
    let l : c.from-total.result ≡ length c.text.result.now = c.from-total.ensures ∙ c.len.ensures.len in
    omega arith

pub returns : goal.returns
returns c =
    let n : length (texts_of c.args.self.now) ≤ c.loop-number.number =
    let a = c.count-number-end.ensures.count in
    let b = c.loop-number-test.false in
    let l = length-texts c.args.self.now in
    omega arith in
    let all = all_counted (texts_of c.args.self.now) c.loop-number.number c.loop-number.total n c.loop-number.invariant in
    record { total = all.0; within = all.1; valid = c.count-number-end.ensures.valid }
