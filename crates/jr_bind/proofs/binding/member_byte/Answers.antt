use Rattle.std.proofs.Common.{sym, ap, subst, ◌∙◌}
use Rattle.jr_ast.proofs.Rows.{member_mark_is}
use Rattle.jr_members.specs.Fitting.{begins_by}
use Rattle.jr_bind.proofs.binding.member_byte.Goals as goal

pub span-requires : goal.span-requires
span-requires g c = subst (λ m. g.A.Mark.fits_at m c.args.base) (member_mark_is c.args.member.now) c.requires

pub returns : goal.returns
returns g c = ap (λ s. s.from) c.span.ensures ∙ sym (ap (λ m. begins_by g.A.Mark.span_from m c.args.base) (member_mark_is c.args.member.now))
