use Rattle.std.proofs.Common.{None, Some, sym, ap, ◌∙◌}
use Rattle.std.specs.Prelude.{option_map}
use Rattle.jr_expr_types.specs.SlotView.{shape_of}
use Rattle.jr_expr_types.specs.Slots.{size_of}
use Rattle.jr_expr_types.proofs.Listed.{last_shown}
use Rattle.jr_expr_types.proofs.types.last_size.Goals as goal

pub returns-in-None : goal.returns-in-None
returns-in-None c =
    ap size_of (last_shown shape_of c.args.slots.now c.args.end None (ap (option_map (λ s. s.now)) (sym c.in-None.is) ∙ c.last.ensures))

pub returns-in-Some : goal.returns-in-Some
returns-in-Some c =
    ap size_of (last_shown shape_of c.args.slots.now c.args.end (Some c.in-Some.slot.now) (ap (option_map (λ s. s.now)) (sym c.in-Some.is) ∙ c.last.ensures))
