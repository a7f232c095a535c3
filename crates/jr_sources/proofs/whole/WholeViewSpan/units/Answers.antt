use Rattle.std.proofs.Common.{◌≡◌, map, sym, ap, ◌∙◌}
use Rattle.jr_ast.specs.View.{unit_of}
use Rattle.jr_bind.specs.Programs.{units_of}
use Rattle.jr_sources.specs.WholeView.{whole_of}
use Rattle.jr_sources.proofs.WholeProgram.{units_files}
use Rattle.jr_sources.proofs.whole.WholeViewSpan.units.Goals as goal

pub returns : goal.returns
returns c = sym (units_files c.self.inside.sources.now (map unit_of c.self.inside.units.now) c.self.invariant.many) ∙ ap (λ w. units_of (whole_of w)) c.self.view_is
