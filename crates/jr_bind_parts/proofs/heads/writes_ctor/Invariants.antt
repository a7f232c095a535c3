use Rattle.std.proofs.Common.{◌≡◌, drop}
use Rattle.jr_ast.specs.View.{members_of}
use Rattle.jr_table.specs.DeclaredItems.{writes_ctor}
use Rattle.jr_bind_parts.proofs.heads.writes_ctor.Given as goal

abbrev pub invariant-loop-member : goal.invariant-loop-member
invariant-loop-member g l =
    writes_ctor (λ m b. (g.A.Mark.span_from m b).from) (members_of (drop l.member-index l.members)) ≡ writes_ctor (λ m b. (g.A.Mark.span_from m b).from) (members_of l.members)
