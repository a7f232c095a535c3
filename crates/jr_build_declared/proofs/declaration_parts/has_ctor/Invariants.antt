use Rattle.std.proofs.Common.{◌≡◌, drop}
use Rattle.jr_ast.specs.View.{members_of}
use Rattle.jr_table.specs.DeclaredItems.{writes_ctor}
use Rattle.jr_build_declared.specs.Fitting.{begins_by}
use Rattle.jr_build_declared.proofs.declaration_parts.has_ctor.Given as goal

-- a constructor is among those that are left, if one is among all
abbrev pub invariant-loop-member : goal.invariant-loop-member
invariant-loop-member g l = writes_ctor (begins_by g.A.Mark.span_from) (members_of (drop l.member-index l.members)) ≡ writes_ctor (begins_by g.A.Mark.span_from) (members_of l.members)
