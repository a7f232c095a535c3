use Rattle.std.proofs.Common.{◌<◌, ◌+◌, List, sym, subst, arith}
use Rattle.std.proofs.lemmas.Option.{slice_get_within}
use Rattle.jr_dependences.specs.declared.dependence.Dependence.{Dependence}
use Rattle.jr_dependences.specs.Depends.{DependsIn}
use Rattle.jr_dependences.specs.Kinds.{told}
use Rattle.jr_dependences.specs.Listed.{IsOn, IsUpTo, IsBetween, Adds}
use Rattle.jr_dependences.specs.Numbers.{SameNumber}
use Rattle.jr_dependences.proofs.Adding.{adds_none, adds_same, adds_then}
use Rattle.jr_dependences.proofs.Asking.{up_to_before, up_to_more}
use Rattle.jr_dependences.proofs.Telling.{told_listed, adds_listed}
use Rattle.jr_dependences.proofs.listing.push_seconds.Goals as goal

pub loop-second-init : goal.loop-second-init
loop-second-init c edges known = adds_none (DependsIn SameNumber SameNumber c.args.sites.now edges) (IsUpTo c.args.first 0) c.args.list.now.items (λ x q p. let low : x.second < 0 = q.1 in omega arith)

pub loop-second-preserved : goal.loop-second-preserved
loop-second-preserved c edges known =
    let H = DependsIn SameNumber SameNumber c.args.sites.now edges in
    let first = c.args.first in
    let second = c.loop-second.second in
    let kinds = c.kinds_between-kinds.result in
    let more = adds_listed (IsBetween first second) H c.loop-second.list.items (told kinds first second) (told_listed H first second kinds (c.kinds_between-kinds.ensures edges known)) in
    adds_then H (IsUpTo first second) (IsBetween first second) (IsUpTo first (second + 1)) c.args.list.now.items c.loop-second.list.items c.push_kinds.new.list.items (c.loop-second.invariant edges known)
    (subst (λ (l : List Dependence). Adds (IsBetween first second) H c.loop-second.list.items l) (sym c.in_ok-push_kinds.ensures) more) (up_to_before first second) (λ x h. up_to_more first second x)

pub returns : goal.returns
returns c edges known =
    let le = c.loop-second-test.false in
    adds_same (DependsIn SameNumber SameNumber c.args.sites.now edges) (IsUpTo c.args.first c.loop-second.second) (IsOn c.args.first) c.args.list.now.items c.loop-second.list.items
    (λ x h. (λ p. p.0, λ p. (p, omega (arith, le, slice_get_within c.args.sites.now x.second h.1 h.3)))) (c.loop-second.invariant edges known)
