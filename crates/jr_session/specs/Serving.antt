-- Which steps a session answers, and which of its refusals want no memory.
use Rattle.jr_names.specs.declared.steps.Step.{Step}
use Rattle.jr_names.specs.declared.steps.Step.TheVariants as step
use Rattle.jr_names.specs.Refusals.{
  Refusal,
  no_such_file,
  bad_place,
  bad_name,
  source_error,
  bad_target,
  prelude_method,
  conditional,
  has_return,
  two_results,
  many_targets,
  may_be_null,
  recursive,
  assigned,
  clash,
  override_changed,
  lost_binding,
  would_not_compile,
  lost_dependence,
  bad_span,
  too_long,
  nothing_to_undo,
  nothing_to_redo,
  report_full,
  too_many_sites,
}

-- the steps that are answered; a script names no others
abbrev pub IsServed : Step → Type 0
IsServed (step.Edit file from to text) = Unit {0}
IsServed (step.Show file of) = Unit {0}
IsServed step.Undo = Unit {0}
IsServed step.Redo = Unit {0}
IsServed (step.Rename file at new) = Unit {0}
IsServed (step.ExtractLocal file from to new) = Unit {0}
IsServed (step.ExtractMethod file from to new) = ⊥
IsServed (step.InlineLocal file at) = ⊥
IsServed (step.InlineMethod file at) = ⊥
IsServed (step.PullUp file at) = ⊥
IsServed (step.MoveStatic file at class) = ⊥
IsServed (step.MoveInstance file at class new) = ⊥

-- it is told also where there is no memory
abbrev pub WantsNoMemory : Refusal → Type 0
WantsNoMemory (bad_span from to) = Unit {0}
WantsNoMemory nothing_to_undo = Unit {0}
WantsNoMemory nothing_to_redo = Unit {0}
WantsNoMemory (no_such_file name) = ⊥
WantsNoMemory (bad_place file at) = ⊥
WantsNoMemory (bad_name name) = ⊥
WantsNoMemory (source_error file at kind) = ⊥
WantsNoMemory (bad_target at need) = ⊥
WantsNoMemory (prelude_method method) = ⊥
WantsNoMemory (conditional at) = ⊥
WantsNoMemory (has_return at) = ⊥
WantsNoMemory (two_results first second) = ⊥
WantsNoMemory (many_targets call method) = ⊥
WantsNoMemory (may_be_null at) = ⊥
WantsNoMemory (recursive call) = ⊥
WantsNoMemory (assigned local at) = ⊥
WantsNoMemory (clash with) = ⊥
WantsNoMemory (override_changed class method) = ⊥
WantsNoMemory (lost_binding reference declaration found) = ⊥
WantsNoMemory (would_not_compile at rule) = ⊥
WantsNoMemory (lost_dependence kind first second) = ⊥
WantsNoMemory (too_long len) = ⊥
WantsNoMemory (report_full len) = ⊥
WantsNoMemory (too_many_sites member count) = ⊥
