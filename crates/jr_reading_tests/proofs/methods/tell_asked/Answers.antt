use Rattle.jr_ast.specs.View.{member_of}
use Rattle.jr_table.specs.Errors.{member_part}
use Rattle.jr_dependence_lines.proofs.SpansFit.{sites_fit}
use Rattle.jr_program_laws.specs.FileParts.{begins}
use Rattle.jr_sources.proofs.PartsFit.{whole_fits}
use Rattle.jr_reading_tests.proofs.methods.tell_asked.Goals as goal

pub member_graph-made-requires : goal.member_graph-made-requires
member_graph-made-requires g c = record {
  fits = sites_fit c.args.method.now.base (member_of c.args.method.now.of.now) (whole_fits begins c.args.method.now.base (member_part (member_of c.args.method.now.of.now)));
  key = c.is_method.ensures.key c.if-not-is_method.false _;
}

pub tell_part-requires : goal.tell_part-requires
tell_part-requires g c = record { owner = c.is_method.ensures.owner c.if-not-is_method.false }
