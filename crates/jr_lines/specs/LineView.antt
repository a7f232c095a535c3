-- Lines as contracts see them.
use Rattle.std.specs.Prelude.{ℕ, ◌+◌, List, map}
use Rattle.jr_table.specs.KeyView.{decl_of}
use Rattle.jr_lines.specs.declared.lines.Byte.{Byte}
use Rattle.jr_lines.specs.declared.lines.Line as raw
use Rattle.jr_lines.specs.declared.lines.Line.TheVariants as line
use Rattle.jr_lines.specs.Lines.{Line, reference, broken}

abbrev pub place_of : Byte → ℕ
place_of at = at.start + at.offset

abbrev pub line_of : raw.Line → Line
line_of (line.Reference at name decl) = reference (place_of at) name.now (decl_of decl.now)
line_of (line.Broken at rule) = broken (place_of at) rule

abbrev pub lines_of : List raw.Line → List Line
lines_of ls = map line_of ls
