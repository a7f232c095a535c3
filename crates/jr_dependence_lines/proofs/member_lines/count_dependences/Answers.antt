use Rattle.std.proofs.lemmas.Result.{on_ok_weaker}
use Rattle.jr_dependence_lines.specs.Tallies.{all_told}
use Rattle.jr_dependence_lines.proofs.member_lines.count_dependences.Goals as goal

pub returns : goal.returns
returns c =
    let w = c.in_ok-bytes.ensures in
    on_ok_weaker c.count.result (λ put. (w.0, w.1, put (all_told c.args.texts.now.head.now c.args.texts.now.places.now w.0) w.2)) c.count.ensures
