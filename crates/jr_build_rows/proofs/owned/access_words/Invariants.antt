use Rattle.std.proofs.Common.{◌≡◌, ◌++◌, drop, filter}
use Rattle.jr_table.specs.ProgramRows.{is_access}
use Rattle.jr_build_rows.proofs.owned.access_words.Given as goal

-- the words so far, with those that are left, are all
abbrev pub invariant-loop-word : goal.invariant-loop-word
invariant-loop-word l = l.access.items ++ filter is_access (drop l.word-index l.words)
    ≡ filter is_access l.words
