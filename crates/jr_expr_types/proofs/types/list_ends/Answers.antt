use Rattle.std.proofs.Common.{◌-◌, ℕ, map, ap, sym, refl, ◌∙◌, append-nil}
use Rattle.jr_expr_types.specs.SlotView.{shape_of}
use Rattle.jr_expr_types.specs.Slots.{skip}
use Rattle.jr_expr_types.specs.PartEnds.{skips}
use Rattle.jr_expr_types.proofs.Listed.{listed_more, listed_all, keeps_front}
use Rattle.jr_expr_types.proofs.types.list_ends.Goals as goal

pub loop-listed-init : goal.loop-listed-init
unfolding skips skip
loop-listed-init c = record { listed = sym (append-nil c.args.ends.now.items); left = refl }

pub loop-listed-preserved : goal.loop-listed-preserved
loop-listed-preserved c =
    let h = listed_more (map shape_of c.args.slots.now) c.loop-listed._listed c.args.end c.loop-listed.left c.saturating_sub-left.result c.args.ends.now.items c.loop-listed.ends.items c.push.new.self.items c.loop-listed.invariant.listed c.loop-listed.invariant.left c.in_ok-push.ensures.items (c.saturating_sub-left.ensures ∙ ap (λ (n : ℕ). c.loop-listed.left - n) c.last_size.ensures) in
    record { listed = h.0; left = h.1 }

pub returns-in_err-push-clause-kept : goal.returns-in_err-push-clause-kept
returns-in_err-push-clause-kept c =
    keeps_front c.args.ends.now.items _ c.push.new.self.items (c.in_err-push.ensures.items ∙ c.loop-listed.invariant.listed)

pub returns-clause-kept : goal.returns-clause-kept
returns-clause-kept c = keeps_front c.args.ends.now.items _ c.loop-listed.ends.items c.loop-listed.invariant.listed

pub returns-clause-listed : goal.returns-clause-listed
returns-clause-listed c = listed_all (map shape_of c.args.slots.now) c.args.count c.loop-listed._listed c.args.end c.args.ends.now.items c.loop-listed.ends.items c.loop-listed-test.false c.loop-listed.auto._listed-end c.loop-listed.invariant.listed
