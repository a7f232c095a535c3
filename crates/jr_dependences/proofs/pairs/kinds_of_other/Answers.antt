use Rattle.std.proofs.Common.{subst, sym, ◌∙◌}
use Rattle.std.specs.Prelude.{IsTrue, ◌↔◌, ◌||◌}
use Rattle.jr_sync.specs.declared.sites.DepKind.{DepKind}
use Rattle.jr_sync.specs.Relations.{Related}
use Rattle.jr_dependences.specs.declared.pairs.Kinds.{Kinds}
use Rattle.jr_dependences.specs.Kinds.{has}
use Rattle.jr_dependences.specs.Numbers.{SameNumber}
use Rattle.jr_dependences.proofs.Sorting.{beside_local, beside_wild, of_accesses}
use Rattle.jr_dependences.proofs.pairs.kinds_of_other.Goals as goal

pub returns-then-is_local : goal.returns-then-is_local
returns-then-is_local c =
    subst (λ (k : Kinds). (kind : DepKind) → (IsTrue (has k kind) ↔ Related SameNumber SameNumber kind c.args.before.now c.args.behind.now)) (sym c.in_no_way.ensures)
    (beside_local SameNumber SameNumber c.args.before.now c.args.behind.now c.requires (sym c.is_local.ensures ∙ c.if-is_local.true))

pub returns-then-is_ordered : goal.returns-then-is_ordered
returns-then-is_ordered c =
    subst (λ (k : Kinds). (kind : DepKind) → (IsTrue (has k kind) ↔ Related SameNumber SameNumber kind c.args.before.now c.args.behind.now)) (sym c.in_order.ensures)
    (beside_wild SameNumber SameNumber c.args.before.now c.args.behind.now c.requires (sym c.is_local.ensures ∙ c.if-is_local.false)
    ((λ i. sym c.is_wild.ensures i || sym c.is_wild-2.ensures i) ∙ c.if-is_ordered.true))

pub returns : goal.returns
returns c =
    of_accesses SameNumber SameNumber c.args.before.now c.args.behind.now c.requires ((λ i. sym c.is_wild.ensures i || sym c.is_wild-2.ensures i) ∙ c.if-is_ordered.false) _ _ c.related.ensures c.related-2.ensures
