use Rattle.std.proofs.Common.{sym, ◌∙◌, refl, arith, below_more, true≢false}
use Rattle.std.proofs.lemmas.List.{length-map}
use Rattle.jr_script.proofs.NameLaws.{other_text, Contains-text}
use Rattle.jr_script.proofs.members.is_among.Goals as goal

pub returns-then-eq : goal.returns-then-eq
returns-then-eq c = (λ t. Contains-text c.args.names.now c.loop-other.other-index _ c.args.name.now c.loop-other-test.true (sym c.eq.ensures ∙ c.if-eq.true), λ h. refl)

pub loop-other-preserved : goal.loop-other-preserved
loop-other-preserved c =
    below_more _ _ c.loop-other.invariant (other_text c.args.names.now c.loop-other.other-index _ c.args.name.now c.loop-other-test.true (sym c.eq.ensures ∙ c.if-eq.false))

pub returns : goal.returns
returns c = (
  λ t. absurd (true≢false (sym t)),
  λ h. absurd (c.loop-other.invariant h.0 (omega (arith, h.1, c.loop-other-test.false, length-map c.args.names.now (λ n. n.now))) h.2),
)
