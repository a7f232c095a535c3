use Rattle.std.proofs.Common.{◌≡◌, List, [], map, take}
use Rattle.jr_ast.specs.Tree as tree
use Rattle.jr_cover.specs.Spots.{Spot}
use Rattle.jr_never_null.specs.Flags.{flags_behind}
use Rattle.jr_expr_sites.specs.KnownFacts.{known_of}
use Rattle.jr_expr_sites.specs.StepView.{given}
use Rattle.jr_member_graphs.specs.FlagRows.{marked, behind_nones, AreSpotted}
use Rattle.jr_member_graphs.specs.NotesView.{begin_of}
use Rattle.jr_member_graphs.specs.OwnFlags.{no_others}
use Rattle.jr_member_graphs.proofs.flags.local_flags.Given as goal

abbrev pub invariant-loop-begin : goal.invariant-loop-begin
invariant-loop-begin g l = (es : List (tree.Exp Spot)) → AreSpotted g.A.Mark.span_from (map begin_of l.begins) es
    → l.flags.items ≡ flags_behind (known_of (given g.F.Facts.decls g.F.Facts.types l.here) no_others).facts (marked l.marks) [] (behind_nones l.params (take l.begin-index es))
