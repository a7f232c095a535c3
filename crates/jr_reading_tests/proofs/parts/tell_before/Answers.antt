use Rattle.std.proofs.Common.{ℕ, List, subst}
use Rattle.jr_ast.specs.View.{member_of}
use Rattle.jr_table.specs.Errors.{member_part}
use Rattle.jr_dependence_lines.proofs.SpansFit.{sites_fit}
use Rattle.jr_program_laws.specs.FileParts.{begins}
use Rattle.jr_sources.proofs.PartsFit.{whole_fits}
use Rattle.jr_piece_sites.specs.Leads.{Leads}
use Rattle.jr_reading_tests.proofs.parts.tell_before.Goals as goal

pub sites_before-count-requires : goal.sites_before-count-requires
sites_before-count-requires g c = record {
  fits = sites_fit c.args.method.now.base (member_of c.args.method.now.of.now) (whole_fits begins c.args.method.now.base (member_part (member_of c.args.method.now.of.now)));
  at = subst (λ (q : List ℕ). Leads (member_of c.args.method.now.of.now) q) c.both-whole.ensures (c.leads.ensures c.if-leads.true);
}
