use Rattle.jr_dependences.proofs.SumLaws.{one_more_kept}
use Rattle.jr_dependences.proofs.summing.keep.Goals as goal

pub returns : goal.returns
returns c = λ sites lens are more. one_more_kept sites lens c.args.kept.now.items _ _ c.in_ok-push.ensures.items are more
