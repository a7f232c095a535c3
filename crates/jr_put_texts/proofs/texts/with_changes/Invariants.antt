use Rattle.std.proofs.Common.{drop, string_bytes}
use Rattle.jr_rewrite.specs.ChangeView.{changes_of}
use Rattle.jr_put_texts.proofs.Pieces.{Putting}
use Rattle.jr_put_texts.proofs.texts.with_changes.Given as goal

abbrev pub invariant-loop-change : goal.invariant-loop-change
invariant-loop-change l = Putting l.text l.piece (changes_of l.changes) (changes_of (drop l.change-index l.changes)) (string_bytes l.made) l.at
