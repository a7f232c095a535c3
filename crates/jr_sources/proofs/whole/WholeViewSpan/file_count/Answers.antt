use Rattle.std.proofs.Common.{◌≡◌, map, length, sym, ap, ◌∙◌}
use Rattle.jr_ast.specs.View.{unit_of}
use Rattle.jr_sources.specs.Whole.{files_of}
use Rattle.jr_sources.proofs.WholeProgram.{length-files}
use Rattle.jr_sources.proofs.whole.WholeViewSpan.file_count.Goals as goal

pub returns : goal.returns
returns c = c.count.ensures.count ∙ sym (length-files c.self.inside.sources.now (map unit_of c.self.inside.units.now) c.self.invariant.many) ∙ ap (λ w. length (files_of w.0 (map unit_of w.1.0))) c.self.view_is
