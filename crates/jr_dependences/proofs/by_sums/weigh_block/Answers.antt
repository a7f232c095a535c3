use Rattle.std.proofs.Common.{◌≡◌, ◌+◌, ◌*◌, ◌<◌, ◌≤◌, length, refl, sym, ◌∙◌, arith}
use Rattle.std.proofs.lemmas.Option.{IfSome_then}
use Rattle.jr_dependences.proofs.SumLaws.{many_past, many_more, word_empty, word_full}
use Rattle.jr_dependences.proofs.by_sums.weigh_block.Goals as goal

pub returns-then-is_empty : goal.returns-then-is_empty
returns-then-is_empty c g each s h =
    many_past g c.args.first each c.args.reach.now c.args.sums.now s (64 * c.args.block) 64 c.args.total
    (word_empty c.args.reach.now c.args.first c.args.block c.word-word.result c.word-word.ensures c.if-is_empty.true) h

pub returns-then-is_full : goal.returns-then-is_full
returns-then-is_full c g each s h =
    let count = s.summed.are.count in
    let within = c.requires.block in
    IfSome_then c.sum.result c.sum.ensures
    (λ n is. many_more g c.args.first each c.args.reach.now c.args.sums.now s (64 * c.args.block) 64 c.args.total _ n (omega (arith, count, within))
    (word_full c.args.reach.now c.args.first c.args.block c.word-word.result (64 * c.args.block + 63) c.word-word.ensures (c.is_full.ensures.word c.if-is_full.true) refl (c.is_full.ensures.last c.if-is_full.true))
    c.in_ok-more.ensures is h)

pub returns : goal.returns
returns c g each s h = c.weigh_each.ensures g each s h
