use Rattle.std.proofs.Common.{refl, sym, subst, ◌∙◌}
use Rattle.std.specs.Prelude.{List, IsTrue}
use Rattle.std.proofs.lemmas.Bool.{false≢true}
use Rattle.std.proofs.lemmas.List.{take_all}
use Rattle.std.proofs.lemmas.List.Elements.{All-more, All-get_or}
use Rattle.jr_sites.specs.declared.sites.PlacedSite.{PlacedSite}
use Rattle.jr_effect.specs.Plain.{IsPlain, is_read}
use Rattle.jr_effect.proofs.plain.is_plain.Goals as goal

pub loop-site-preserved : goal.loop-site-preserved
loop-site-preserved c =
    let here : IsTrue (is_read c.site-item.result) = sym c.is_read.ensures ∙ c.if-not-is_read.false in
    All-more (λ s. IsTrue (is_read s)) c.args.sites.now c.loop-site.site-index c.site-item.result c.loop-site-test.true c.loop-site.invariant
    (subst (λ (s : PlacedSite). IsTrue (is_read s)) c.site-item.is here)

pub returns-then-not-is_read : goal.returns-then-not-is_read
returns-then-not-is_read c = (
  λ e. absurd (false≢true e),
  λ h.
      let at = All-get_or (λ s. IsTrue (is_read s)) c.args.sites.now c.loop-site.site-index c.site-item.result c.loop-site-test.true h in
      let here : IsTrue (is_read c.site-item.result) = subst (λ (s : PlacedSite). IsTrue (is_read s)) (sym c.site-item.is) at in
      absurd (false≢true (sym c.if-not-is_read.true ∙ c.is_read.ensures ∙ here)),
)

pub returns : goal.returns
returns c = (
  λ e. subst (λ (l : List PlacedSite). IsPlain l) (take_all c.loop-site.site-index c.args.sites.now c.loop-site-test.false) c.loop-site.invariant,
  λ h. refl,
)
