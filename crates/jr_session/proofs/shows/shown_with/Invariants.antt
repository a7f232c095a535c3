use Rattle.std.proofs.Common.{◌≡◌, ◌+◌, take}
use Rattle.jr_lines.specs.Lines.{bytes_of}
use Rattle.jr_session.proofs.shows.shown_with.Given as goal

abbrev pub invariant-loop-line : goal.invariant-loop-line
invariant-loop-line l = l.len ≡ l.shown + bytes_of (take l.line-index l.lines)
