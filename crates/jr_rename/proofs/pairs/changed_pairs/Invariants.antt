use Rattle.std.proofs.Common.{◌≡◌, take}
use Rattle.jr_new_words.specs.Scopes.{rows_in, renaming_in}
use Rattle.jr_images.specs.Renames.{pairs_of}
use Rattle.jr_rename.specs.Pairs.{pairs_view}
use Rattle.jr_rename.proofs.pairs.changed_pairs.Given as goal

abbrev pub invariant-loop-number : goal.invariant-loop-number
invariant-loop-number l = pairs_view l.pairs.items ≡ pairs_of (take l.number (rows_in l.programs)) (renaming_in l.programs)
