use Rattle.std.proofs.Common.{sym, ap, subst, ◌∙◌}
use Rattle.jr_ast.specs.Marks.{class_mark}
use Rattle.jr_ast.proofs.Rows.{class_of-out}
use Rattle.jr_members.specs.Fitting.{begins_by}
use Rattle.jr_bind.proofs.binding.class_byte.Goals as goal

pub span-requires : goal.span-requires
span-requires g c = subst (λ d. g.A.Mark.fits_at (class_mark d) c.args.base) (class_of-out _ c.args.class.now) c.requires

pub returns : goal.returns
returns g c = ap (λ s. s.from) c.span.ensures ∙ sym (ap (λ d. begins_by g.A.Mark.span_from (class_mark d) c.args.base) (class_of-out _ c.args.class.now))
