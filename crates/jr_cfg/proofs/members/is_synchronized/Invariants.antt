use Rattle.std.proofs.Common.{◌≡◌, map, drop}
use Rattle.jr_ast.specs.View.{modifier_of}
use Rattle.jr_runs.specs.MemberTranslation.{is_synchronized}
use Rattle.jr_cfg.proofs.members.is_synchronized.Given as goal

abbrev pub invariant-loop-modifier : goal.invariant-loop-modifier
invariant-loop-modifier g l = is_synchronized (map modifier_of (drop l.modifier-index l.modifiers)) ≡ is_synchronized (map modifier_of l.modifiers)
