use Rattle.std.proofs.Common.{◌≡◌, sym, ap, ◌∙◌}
use Rattle.jr_text.specs.declared.spans.Span.{Span}
use Rattle.jr_ast.specs.MemberTree as syntax
use Rattle.jr_table.specs.Errors.{Part, class_part, member_part}
use Rattle.jr_members.specs.PartView.{part_of}
use Rattle.jr_local_uses.proofs.plain.member_in.Goals as goal

is_head : (c : syntax.Class Span) (m : syntax.Member Span) → (let q : Part Span = class_part c in q ≡ member_part m) → ⊥
is_head c m e = cc

pub unreachable-requires : goal.unreachable-requires
unreachable-requires c = is_head _ c.requires.0 (sym (ap part_of c.in-Head.is) ∙ c.requires.1)
