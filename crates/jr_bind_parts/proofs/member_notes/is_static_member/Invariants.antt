use Rattle.std.proofs.Common.{◌≡◌, ℕ, map, drop}
use Rattle.jr_ast.specs.View.{modifier_of}
use Rattle.jr_table.specs.HeadRules.{is_static_member}
use Rattle.jr_bind_parts.proofs.member_notes.is_static_member.Given as goal

abbrev pub invariant-loop-modifier : goal.invariant-loop-modifier
invariant-loop-modifier g l =
    is_static_member (λ (m : g.row.A.Denot) (b : ℕ). (g.A.Mark.span_from m b).from) (map modifier_of (drop l.modifier-index l.modifiers))
    ≡ is_static_member (λ (m : g.row.A.Denot) (b : ℕ). (g.A.Mark.span_from m b).from) (map modifier_of l.modifiers)
