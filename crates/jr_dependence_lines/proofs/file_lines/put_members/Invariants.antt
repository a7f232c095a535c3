use Rattle.std.proofs.Common.{◌≡◌, List, map, take}
use Rattle.std.specs.Prelude.{slice_get, Some}
use Rattle.jr_lex.specs.declared.items.Item.{Item}
use Rattle.jr_members.specs.PartView.{written_of}
use Rattle.jr_program.specs.Members.{AreEachBound}
use Rattle.jr_dependence_lines.specs.Lines.{Line, texts_of}
use Rattle.jr_dependence_lines.specs.MemberLines.{HaveLines, in_file}
use Rattle.jr_dependence_lines.specs.Tallies.{Puts}
use Rattle.jr_dependence_lines.proofs.file_lines.put_members.Given as goal

abbrev pub invariant-loop-number : goal.invariant-loop-number
invariant-loop-number l = (files : List (List Item)) (items : List Item) → AreEachBound l.table files (map written_of l.written) l.bounds → slice_get files l.file ≡ Some items
    → (lines : List Line) × HaveLines l.table items (in_file l.file (take l.number (map written_of l.written))) lines × Puts l.initial.tally l.tally (texts_of lines)
