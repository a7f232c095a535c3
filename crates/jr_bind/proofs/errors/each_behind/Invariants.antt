use Rattle.std.proofs.Common.{◌≡◌, ◌++◌, map, drop}
use Rattle.jr_table.specs.ErrorLists.{drop_repeats}
use Rattle.jr_bind.specs.ErrorView.{error_of}
use Rattle.jr_bind.proofs.errors.each_behind.Given as goal

abbrev pub invariant-loop-error : goal.invariant-loop-error
invariant-loop-error l =
    map error_of l.kept.items ++ drop_repeats (error_of l.last) (map error_of (drop l.error-index l.rest))
    ≡ drop_repeats (error_of l.fn.first) (map error_of l.fn.rest)
