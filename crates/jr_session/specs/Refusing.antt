-- Why steps are refused: for each refusal where it applies, and which comes first. A refusal of a
-- step that isn't here yet gets its row here.
use Rattle.std.specs.Prelude.{◌≡◌, ℕ, ◌+◌, ◌*◌, ◌<◌, ◌≤◌, List, [], Bool, true, false}
use Rattle.jr_text.specs.declared.spans.Span.{Span}
use Rattle.jr_text.specs.Spans.{CanCut}
use Rattle.jr_text.specs.Splices.{replaced}
use Rattle.jr_table.specs.Decls.{MemberKey}
use Rattle.jr_names.specs.declared.steps.Step.{Step}
use Rattle.jr_names.specs.declared.steps.Step.TheVariants as step
use Rattle.jr_names.specs.declared.steps.What.{What}
use Rattle.jr_names.specs.declared.steps.What.TheVariants as what
use Rattle.jr_names.specs.Refusals.{
  Refusal,
  no_such_file,
  bad_place,
  bad_name,
  source_error,
  bad_target,
  prelude_method,
  conditional,
  has_return,
  two_results,
  many_targets,
  may_be_null,
  recursive,
  assigned,
  clash,
  override_changed,
  lost_binding,
  would_not_compile,
  lost_dependence,
  bad_span,
  too_long,
  nothing_to_undo,
  nothing_to_redo,
  report_full,
  too_many_sites,
}
use Rattle.jr_names.specs.RefusalNames.{refusal_number}
use Rattle.jr_sources.specs.Sources.{IsFile, LacksFile, texts_of, with_text}
use Rattle.jr_session.specs.States.{State}
use Rattle.jr_session.specs.Lengths.{AreTooLong}
use Rattle.jr_session.specs.Asked.{asks_of}
use Rattle.jr_session.specs.Refactored.{RefusesRefactoring}
use Rattle.jr_session.specs.Requests.{Asks, refactors, nothing}
use Rattle.jr_sources.specs.FirstFault.{IsFirstFaultOf}
use Rattle.jr_lines.specs.Lines.{bytes_of}
use Rattle.jr_session.specs.Dependences.{IsLargeMember}
use Rattle.jr_session.specs.Shows.{AreShownTexts, shown_limit}

-- ---- steps

-- the step is of the file of this name
abbrev pub IsOfFile : Step → List ℕ → Type 0
IsOfFile (step.Edit file from to text) name = name ≡ file
IsOfFile (step.Rename file at new) name = name ≡ file
IsOfFile (step.ExtractLocal file from to new) name = name ≡ file
IsOfFile (step.ExtractMethod file from to new) name = name ≡ file
IsOfFile (step.InlineLocal file at) name = name ≡ file
IsOfFile (step.InlineMethod file at) name = name ≡ file
IsOfFile (step.PullUp file at) name = name ≡ file
IsOfFile (step.MoveStatic file at class) name = name ≡ file
IsOfFile (step.MoveInstance file at class new) name = name ≡ file
IsOfFile (step.Show file of) name = name ≡ file
IsOfFile step.Undo name = ⊥
IsOfFile step.Redo name = ⊥

-- the step is answered from a program, which the sources have to be
abbrev pub NeedsProgram : Step → Type 0
NeedsProgram (step.Show file of) = Unit {0}
NeedsProgram (step.Rename file at new) = Unit {0}
NeedsProgram (step.ExtractLocal file from to new) = Unit {0}
NeedsProgram (step.Edit file from to text) = ⊥
NeedsProgram step.Undo = ⊥
NeedsProgram step.Redo = ⊥
NeedsProgram _ = ⊥

abbrev pub IsShow : Step → Type 0
IsShow (step.Show file of) = Unit {0}
IsShow (step.Edit file from to text) = ⊥
IsShow step.Undo = ⊥
IsShow step.Redo = ⊥
IsShow _ = ⊥

-- the step is an edit of this file, whose text is this
pub record IsEdit (s : State) (of : Step) (number : ℕ) (old : List ℕ) (span : Span)
    (text : List ℕ) : Type 0 where
  pub file : List ℕ
  pub is : of ≡ step.Edit file span.from span.to text
  pub stands : IsFile s.files number file old

-- an edit's span that can't be cut out of the file
pub record CutsBadly (s : State) (of : Step) (from to : ℕ) : Type 0 where
  pub number : ℕ
  pub old : List ℕ
  pub text : List ℕ
  pub edit : IsEdit s of number old (record { from = from; to = to }) text
  pub cannot : CanCut old (record { from = from; to = to }) → ⊥

-- the texts of all files that an edit would make
pub record WouldMake (s : State) (of : Step) (texts : List (List ℕ)) : Type 0 where
  pub number : ℕ
  pub old : List ℕ
  pub span : Span
  pub text : List ℕ
  pub edit : IsEdit s of number old span text
  pub makes : texts ≡ texts_of (with_text s.files number (replaced old span text))

-- the step shows this of the file of the number
pub record IsShowOf (s : State) (of : Step) (shown : What) (number : ℕ) : Type 0 where
  pub file : List ℕ
  pub is : of ≡ step.Show file shown
  pub text : List ℕ
  pub stands : IsFile s.files number file text

-- the lines that a show gives
pub record WouldShow (s : State) (of : Step) (lines : List (List ℕ)) : Type 0 where
  pub shown : What
  pub number : ℕ
  pub shows : IsShowOf s of shown number
  pub lines_are : AreShownTexts s.files number shown lines

-- a show of dependences meets a member with so many sites, which are too many: the first
pub record MeetsLarge (s : State) (of : Step) (member : MemberKey) (count : ℕ) : Type 0 where
  pub number : ℕ
  pub shows : IsShowOf s of what.Dependences number
  pub large : IsLargeMember s.files number member count

-- ---- the table of refusals

abbrev pub Applies : State → Step → Refusal → Type 0
Applies s of (no_such_file name) = IsOfFile of name × LacksFile s.files name
Applies s of (source_error file at kind) = IsShow of × IsFirstFaultOf s.files file at kind
Applies s of (bad_span from to) = CutsBadly s of from to
Applies s of (too_long len) =
    (texts : List (List ℕ)) × WouldMake s of texts × AreTooLong texts len
Applies s of nothing_to_undo = (of ≡ step.Undo) × (s.undo ≡ [])
Applies s of nothing_to_redo = (of ≡ step.Redo) × (s.redo ≡ [])
Applies s of (report_full len) = (lines : List (List ℕ)) × WouldShow s of lines
    × (shown_limit < s.shown + bytes_of lines) × (len ≡ s.shown + bytes_of lines)
Applies s of (too_many_sites member count) = MeetsLarge s of member count
-- those of refactorings
Applies s of (bad_place file at) = ⊥
Applies s of (bad_name name) = ⊥
Applies s of (bad_target at need) = ⊥
Applies s of (prelude_method method) = ⊥
Applies s of (conditional at) = ⊥
Applies s of (has_return at) = ⊥
Applies s of (two_results first second) = ⊥
Applies s of (many_targets call method) = ⊥
Applies s of (may_be_null at) = ⊥
Applies s of (recursive call) = ⊥
Applies s of (assigned local at) = ⊥
Applies s of (clash with) = ⊥
Applies s of (override_changed class method) = ⊥
Applies s of (lost_binding reference declaration found) = ⊥
Applies s of (would_not_compile at rule) = ⊥
Applies s of (lost_dependence kind first second) = ⊥

-- ---- the first

abbrev pub is_edit : Step → Bool
is_edit (step.Edit file from to text) = true
is_edit _ = false

-- In the order of their numbers, but that a refactoring's new texts are measured before they are
-- read, directly behind 16, and that sites are counted before lines, directly behind 4.
abbrev pub rank_of : Step → Refusal → ℕ
rank_of of (too_long len) = of_length (is_edit of)
  where
    of_length : Bool → ℕ
    of_length true = 40
    of_length false = 33
rank_of of (too_many_sites member count) = 9
rank_of of r = 2 * refusal_number r

pub record IsFirstRefusal (s : State) (of : Step) (r : Refusal) : Type 0 where
  pub applies : Applies s of r
  pub first : (q : Refusal) → Applies s of q → rank_of of r ≤ rank_of of q

-- The step is refused for this reason: the first of those that apply. Those of a refactoring are
-- told in their order, each with what was found before it.
abbrev pub RefusesBy : Asks → State → Step → Refusal → Type 0
RefusesBy (refactors ask) s of r = RefusesRefactoring s ask r
RefusesBy nothing s of r = IsFirstRefusal s of r

abbrev pub Refuses : State → Step → Refusal → Type 0
Refuses s of r = RefusesBy (asks_of of) s of r

-- nothing refuses the step
abbrev pub IsGranted : State → Step → Type 0
IsGranted s of = (r : Refusal) → Applies s of r → ⊥

-- what a refactoring does says that nothing refuses it
abbrev pub GrantsBy : Asks → State → Step → Type 0
GrantsBy (refactors ask) s of = Unit {0}
GrantsBy nothing s of = IsGranted s of

abbrev pub Grants : State → Step → Type 0
Grants s of = GrantsBy (asks_of of) s of
