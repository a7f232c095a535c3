use Rattle.std.proofs.Common.{sym, ap, subst, ◌∙◌}
use Rattle.jr_table.specs.Errors.{part_mark}
use Rattle.jr_members.specs.Fitting.{begins_by}
use Rattle.jr_members.specs.PartView.{part_of}
use Rattle.jr_bind.proofs.binding.first_byte.Goals as goal

pub class_byte-requires : goal.class_byte-requires
class_byte-requires g c = subst (λ p. g.A.Mark.fits_at (part_mark (part_of p)) c.args.base) c.in-Head.is c.requires

pub member_byte-requires : goal.member_byte-requires
member_byte-requires g c = subst (λ p. g.A.Mark.fits_at (part_mark (part_of p)) c.args.base) c.in-Member.is c.requires

pub returns-in-Head : goal.returns-in-Head
returns-in-Head g c = c.class_byte.ensures ∙ sym (ap (λ p. begins_by g.A.Mark.span_from (part_mark (part_of p)) c.args.base) c.in-Head.is)

pub returns-in-Member : goal.returns-in-Member
returns-in-Member g c = c.member_byte.ensures ∙ sym (ap (λ p. begins_by g.A.Mark.span_from (part_mark (part_of p)) c.args.base) c.in-Member.is)
