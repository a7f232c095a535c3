use Rattle.std.proofs.Common.{◌≡◌, ◌++◌, map, drop}
use Rattle.jr_lines.specs.Lines.{line_text}
use Rattle.jr_lines.specs.LineView.{lines_of}
use Rattle.jr_lines.proofs.line_texts.texts_of.Given as goal

abbrev pub invariant-loop-line : goal.invariant-loop-line
invariant-loop-line l = l.texts.items ++ map line_text (lines_of (drop l.line-index l.lines)) ≡ map line_text (lines_of l.lines)
