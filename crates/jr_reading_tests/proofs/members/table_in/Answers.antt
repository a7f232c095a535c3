use Rattle.std.proofs.Common.{map}
use Rattle.jr_ast.specs.View.{unit_of}
use Rattle.jr_sources.proofs.Spans.{units_fit}
use Rattle.jr_reading_tests.proofs.members.table_in.Goals as goal

pub build-requires-clause-fits : goal.build-requires-clause-fits
build-requires-clause-fits g c = units_fit _ (map unit_of c.args.units.now)
