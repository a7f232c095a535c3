use Rattle.jr_ast.specs.View.{member_of}
use Rattle.jr_table.specs.Errors.{member_part}
use Rattle.jr_dependence_lines.proofs.SpansFit.{sites_fit}
use Rattle.jr_program_laws.specs.FileParts.{begins}
use Rattle.jr_sources.proofs.PartsFit.{whole_fits}
use Rattle.jr_reading_tests.proofs.parts.tell_parts.Goals as goal

pub footprint_of-sites-requires : goal.footprint_of-sites-requires
footprint_of-sites-requires g c = record {
  fits = sites_fit c.args.method.now.base (member_of c.args.method.now.of.now) (whole_fits begins c.args.method.now.base (member_part (member_of c.args.method.now.of.now)));
  at = c.has_parts.ensures c.if-has_parts.true;
}
