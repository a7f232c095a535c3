use Rattle.std.proofs.Common.{◌≡◌, ◌<◌, ◌+◌, sym, ap, subst, ◌∙◌, arith}
use Rattle.std.specs.Prelude.{slice_index}
use Rattle.std.specs.List.{sum_by}
use Rattle.std.proofs.lemmas.Option.{slice_get_within}
use Rattle.jr_dependences.specs.Depends.{DependsIn}
use Rattle.jr_dependences.specs.Kinds.{told, all_weights}
use Rattle.jr_dependences.specs.Listed.{IsOn, IsUpTo, IsBetween}
use Rattle.jr_dependences.specs.Numbers.{SameNumber}
use Rattle.jr_dependences.specs.Weights.{weight, Weighs}
use Rattle.jr_dependences.proofs.Asking.{up_to_before, up_to_more}
use Rattle.jr_dependences.proofs.Telling.{told_listed, told_sum, weighs_none, weighs_then, weighs_same}
use Rattle.jr_dependences.proofs.weighing.weigh_seconds.Goals as goal

pub loop-second-init : goal.loop-second-init
loop-second-init c edges known = weighs_none (DependsIn SameNumber SameNumber c.args.sites.now edges) c.args.each c.args.seconds.now (IsUpTo c.args.first 0) (λ x q p. let low : x.second < 0 = q.1 in omega arith)

pub loop-second-preserved : goal.loop-second-preserved
loop-second-preserved c edges known =
    let H = DependsIn SameNumber SameNumber c.args.sites.now edges in
    let first = c.args.first in
    let second = c.loop-second.second in
    let each = c.args.each in
    let seconds = c.args.seconds.now in
    let kinds = c.kinds_between-kinds.result in
    let weighs : sum_by (weight each seconds) (told kinds first second) ≡ all_weights kinds (each + slice_index seconds second) = told_sum each seconds first second kinds in
    let more : c.in_ok-more.more ≡ each + slice_index seconds second = c.in_ok-more.ensures in
    subst (λ n. Weighs (IsUpTo first (second + 1)) H each seconds n) (sym (c.in_ok-total.ensures ∙ ap (λ n. c.loop-second.total + all_weights kinds n) more))
    (weighs_then H each seconds (IsUpTo first second) (IsBetween first second) (IsUpTo first (second + 1)) c.loop-second.total (all_weights kinds (each + slice_index seconds second)) (told kinds first second)
    (c.loop-second.invariant edges known) (told_listed H first second kinds (c.kinds_between-kinds.ensures edges known)) (sym weighs) (up_to_before first second) (λ x h. up_to_more first second x))

pub returns : goal.returns
returns c edges known =
    let le = c.loop-second-test.false in
    weighs_same (DependsIn SameNumber SameNumber c.args.sites.now edges) c.args.each c.args.seconds.now (IsUpTo c.args.first c.loop-second.second) (IsOn c.args.first) c.loop-second.total
    (λ x h. (λ p. p.0, λ p. (p, omega (arith, le, slice_get_within c.args.sites.now x.second h.1 h.3)))) (c.loop-second.invariant edges known)
