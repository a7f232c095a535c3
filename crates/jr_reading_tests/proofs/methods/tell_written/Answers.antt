use Rattle.jr_ast.specs.View.{member_of}
use Rattle.jr_table.specs.Errors.{member_part}
use Rattle.jr_dependence_lines.proofs.SpansFit.{sites_fit}
use Rattle.jr_program_laws.specs.FileParts.{begins}
use Rattle.jr_sources.proofs.PartsFit.{whole_fits}
use Rattle.jr_reading_tests.proofs.methods.tell_written.Goals as goal

pub own_flags-requires : goal.own_flags-requires
own_flags-requires g c = record { fits = sites_fit c.args.written.now.base (member_of c.in-Member.of.now) (whole_fits begins c.args.written.now.base (member_part (member_of c.in-Member.of.now))) }
