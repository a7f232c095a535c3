use Rattle.std.proofs.Common.{sym, ◌∙◌}
use Rattle.std.proofs.lemmas.Bool.{iff_false}
use Rattle.std.proofs.lemmas.Option.{slice_get-get_or}
use Rattle.jr_dependences.specs.Kinds.{has}
use Rattle.jr_dependences.specs.Numbers.{SameNumber}
use Rattle.jr_dependences.proofs.Leading.{never_apart, depends_is}
use Rattle.jr_dependences.proofs.Sorting.{never, given_other}
use Rattle.jr_dependences.proofs.pairs.kinds_between.Goals as goal

pub returns-then-not-comes : goal.returns-then-not-comes
returns-then-not-comes c edges known kind =
    (λ e. absurd (never kind (sym (λ i. has (c.in_no_way.ensures i) kind) ∙ e)), λ h. absurd (never_apart SameNumber SameNumber c.args.sites.now edges c.args.first c.args.reach.now c.args.flow.now known c.args.second (iff_false c.comes.ensures c.if-not-comes.true) kind h))

pub returns-then-is_local : goal.returns-then-is_local
returns-then-is_local c edges known kind =
    depends_is SameNumber SameNumber c.args.sites.now edges c.args.first c.args.reach.now _ (slice_get-get_or c.args.sites.now c.args.first _ c.requires.first) c.args.second c.args.flow.now _
    (slice_get-get_or c.args.sites.now c.args.second _ c.requires.second) known (c.comes.ensures.0 c.if-not-comes.false) kind _ (c.kinds_of_local.ensures kind)

pub returns-else-is_local : goal.returns-else-is_local
returns-else-is_local c edges known kind =
    let other = sym c.is_local.ensures ∙ c.if-is_local.false in
    depends_is SameNumber SameNumber c.args.sites.now edges c.args.first c.args.reach.now _ (slice_get-get_or c.args.sites.now c.args.first _ c.requires.first) c.args.second c.args.flow.now _
    (slice_get-get_or c.args.sites.now c.args.second _ c.requires.second) known (c.comes.ensures.0 c.if-not-comes.false) kind _
    (given_other SameNumber SameNumber _ _ other c.args.flow.now c.args.second kind _ (c.kinds_of_other.ensures kind))
