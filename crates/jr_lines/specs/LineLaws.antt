-- What holds of each list of lines.
use Rattle.std.specs.Prelude.{◌≡◌, ◌↔◌, List}
use Rattle.jr_lines.specs.Lines.{Line, AreInOrder, Among}

abbrev pub OneInOrder : Type 0
OneInOrder = (xs ys : List Line) → AreInOrder xs → AreInOrder ys
    → ((l : Line) → Among xs l ↔ Among ys l) → xs ≡ ys
