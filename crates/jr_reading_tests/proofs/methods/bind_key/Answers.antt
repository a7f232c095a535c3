use Rattle.std.proofs.Common.{map}
use Rattle.jr_ast.specs.View.{unit_of}
use Rattle.jr_sources.proofs.PartsFit.{units_gathered}
use Rattle.jr_reading_tests.proofs.methods.bind_key.Goals as goal

pub bind_member-requires-clause-fits : goal.bind_member-requires-clause-fits
bind_member-requires-clause-fits g c = units_gathered _ (map unit_of c.args.units.now)
