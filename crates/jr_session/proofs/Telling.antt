-- The places that refusals tell.
use Rattle.std.proofs.Common.{◌<◌, ℕ}
use Rattle.jr_names.specs.Refusals.{Refusal, no_such_file, bad_place, bad_name, source_error, bad_target, prelude_method, conditional, has_return, two_results, many_targets, may_be_null, recursive, assigned, clash, override_changed, lost_binding, would_not_compile, lost_dependence, bad_span, too_long, nothing_to_undo, nothing_to_redo, report_full, too_many_sites}

-- each place that the refusal tells is in one of so many files
abbrev pub TellsIn : ℕ → Refusal → Type 0
TellsIn n (no_such_file name) = Unit {0}
TellsIn n (bad_place file at) = Unit {0}
TellsIn n (bad_name name) = Unit {0}
TellsIn n (source_error file at kind) = Unit {0}
TellsIn n (bad_target at need) = at.file < n
TellsIn n (prelude_method method) = Unit {0}
TellsIn n (conditional at) = at.file < n
TellsIn n (has_return at) = at.file < n
TellsIn n (two_results first second) = Unit {0}
TellsIn n (many_targets call method) = call.file < n
TellsIn n (may_be_null at) = at.file < n
TellsIn n (recursive call) = call.file < n
TellsIn n (assigned local at) = at.file < n
TellsIn n (clash with) = Unit {0}
TellsIn n (override_changed class method) = Unit {0}
TellsIn n (lost_binding reference declaration found) = reference.file < n
TellsIn n (would_not_compile at rule) = at.file < n
TellsIn n (lost_dependence kind first second) = (first.place.file < n) × (second.place.file < n)
TellsIn n (bad_span from to) = Unit {0}
TellsIn n (too_long len) = Unit {0}
TellsIn n nothing_to_undo = Unit {0}
TellsIn n nothing_to_redo = Unit {0}
TellsIn n (report_full len) = Unit {0}
TellsIn n (too_many_sites member count) = Unit {0}
