use Rattle.std.proofs.Common.{◌+◌, ◌++◌, ◌∷◌, [], sym, ap, subst, ◌∙◌, arith}
use Rattle.std.specs.Prelude.{slice_index}
use Rattle.std.proofs.lemmas.Option.{slice_get-get_or}
use Rattle.jr_dependences.proofs.SumLaws.{sums_begin, sums_more, sums_all}
use Rattle.jr_dependences.proofs.summing.sums_of.Goals as goal

pub push_next-requires : goal.push_next-requires
push_next-requires c = c.requires.other _ (slice_get-get_or c.args.sites.now c.args.first _ c.requires.first)

pub loop-second-init : goal.loop-second-init
loop-second-init c = sums_begin _ c.args.sites.now c.args.each c.args.lens.now _ (c.in_ok-push.ensures.items ∙ ap (λ l. l ++ 0 ∷ []) c.in_ok-sums.ensures.items)

pub loop-second-preserved : goal.loop-second-preserved
loop-second-preserved c =
    let n = c.loop-second.second in
    sums_more _ c.args.sites.now c.args.each c.args.lens.now n c.loop-second.total c.in_ok-total.total c.in_ok-more.more c.loop-second.sums.items _ _ (slice_get-get_or c.args.sites.now n _ c.loop-second-test.true) c.in_ok-more.ensures
    c.in_ok-total.ensures.next c.in_ok-total.ensures.puts c.loop-second.invariant

pub returns : goal.returns
returns c =
    sums_all _ c.args.sites.now c.args.each c.args.lens.now c.args.first c.loop-second.second c.loop-second.total c.loop-second.sums.items
    (slice_get-get_or c.args.sites.now c.args.first _ c.requires.first) (c.requires.other _ (slice_get-get_or c.args.sites.now c.args.first _ c.requires.first))
    (omega (arith, c.loop-second-test.false)) c.loop-second.invariant
