use Rattle.std.proofs.Common.{◌≡◌, refl, sym, ap}
use denote.Hole.Carrier.{out}
use Rattle.jr_text.specs.declared.spans.Span.{Span}
use Rattle.jr_ast.specs.declared.members.Class.{Class, Class', out-Class}
use Rattle.jr_ast.specs.Marks.{class_mark}
use Rattle.jr_ast.specs.View.{class_of, member_kind, member_row}
use Rattle.jr_program.proofs.bounds.class_byte.Goals as goal

-- the mark of a class is that of its pure tree
class_mark_is : (x : Class Span) → class_mark (class_of x) ≡ (out-Class Span x).mark
unfolding class_of member_kind member_row out-Class out
class_mark_is (Class' m mods i t shape row) = refl

pub returns : goal.returns
returns c = sym (ap (λ (m : Span). m.from) (class_mark_is c.args.class.now))
