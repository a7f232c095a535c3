-- What a step promises beside what it does: a refactoring that a session accepts keeps the program.
use Rattle.std.specs.Prelude.{◌≡◌, ℕ, ◌<◌, List, [], ◌∷◌, map, length, Some, slice_get}
use Rattle.jr_text.specs.declared.spans.Span.{Span}
use Rattle.jr_text.specs.Edits.{Entry, AreEdits, FitsIn}
use Rattle.jr_text.specs.Splices.{splice, IsUntouched, moved_to}
use Rattle.jr_ast.specs.MemberTree.{Unit as UnitTree}
use Rattle.jr_table.specs.Keys.{ClassKey, FieldKey, MethodKey}
use Rattle.jr_table.specs.Decls.{Decl}
use Rattle.jr_table.specs.Errors.{IsSound}
use Rattle.jr_table.specs.Keyed.{DispatchesTo}
use Rattle.jr_names.specs.declared.steps.Step.{Step}
use Rattle.jr_names.specs.declared.steps.Step.TheVariants as step
use Rattle.jr_names.specs.Refusals.{Refusal}
use Rattle.jr_names.specs.Replies.{Reply, refused, undone}
use Rattle.jr_bind.specs.Programs.{Program, units_of}
use Rattle.jr_program_laws.specs.FileParts.{begins}
use Rattle.jr_runs.specs.Core as core
use Rattle.jr_runs.specs.FirstValues.{First}
use Rattle.jr_runs.specs.Typing.{WellTyped}
use Rattle.jr_code.specs.RunKeys.{RunKeys}
use Rattle.jr_rewrite.specs.Rewritten.{Rewritten}
use Rattle.jr_plan.specs.Reasons.{IsPlanned}
use Rattle.jr_rename_laws.specs.ImageLaws.{without_marks}
use Rattle.jr_image_code.specs.KeysIn.{keys_by}
use Rattle.jr_kept_runs.specs.KeepsRuns.{AreCode, AreFirsts, KeepsFirstValues}
use Rattle.jr_kept_runs.specs.Laws.{sources_of}
use Rattle.jr_sources.specs.Sources.{Source, texts_of}
use Rattle.jr_sources.specs.Whole.{IsProgramOf}
use Rattle.jr_session.specs.Asked.{asks_of}
use Rattle.jr_session.specs.Refactored.{IsAsked}
use Rattle.jr_session.specs.Requests.{Request, images_by, Asks, refactors, nothing}
use Rattle.jr_session.specs.States.{State}
use Rattle.jr_session.specs.Stepping.{Steps}

-- the step is done
abbrev pub IsDone : Reply → Type 0
IsDone reply = (r : Refusal) → reply ≡ refused r → ⊥

-- The file has the same name. Its new text is the old one spliced by edits that fit it, and each
-- byte that lies in no span of them is there again, moved by the growth of those before it.
pub record IsSpliced (old new : Source) (edits : List Entry) : Type 0 where
  pub name : new.name ≡ old.name
  pub text : new.text ≡ splice old.text edits
  pub are : AreEdits edits
  pub fits : FitsIn old.text edits
  pub stay : (k : ℕ) → k < length old.text → IsUntouched edits k
      → slice_get new.text (moved_to edits k) ≡ slice_get old.text k

-- Behind a step from s to t an undoing has this reply, and leaves u: it isn't refused, and gives
-- back every byte of every file, and what could be undone before; what it takes away can be redone.
pub record IsTakenBack (s t : State) (reply : Reply) (u : State) : Type 0 where
  pub told : reply ≡ undone
  pub files : u.files ≡ s.files
  pub undo : u.undo ≡ s.undo
  pub redo : u.redo ≡ texts_of t.files ∷ []
  pub shown : u.shown ≡ s.shown

-- The program is a resolved one, as runs see it, and just one; this one is well typed, so calls in
-- its runs are made on receivers of the class and arguments of the types. Its static fields begin
-- with something, and each with one thing.
pub record HasOneCode (p : Program Span) : Type 0 where
  pub code : core.Program RunKeys
  pub is : AreCode (sources_of p) code
  pub one : (other : core.Program RunKeys) → AreCode (sources_of p) other → code ≡ other
  pub typed : WellTyped code
  pub first : FieldKey → First RunKeys
  pub firsts : AreFirsts (sources_of p) code first
  pub one_first : (other : FieldKey → First RunKeys) → AreFirsts (sources_of p) code other
      → (k : FieldKey) → first k ≡ other k

-- The sources `s.files` are the program p, for which the refactoring is planned, and the sources
-- `t.files` are the program q: read, bound and sound from scratch.
pub record KeepsProgram (s : State) (ask : Request) (t : State) : Type 0 where
  pub p : Program Span
  pub before : IsProgramOf s.files p
  pub q : Program Span
  pub behind : IsProgramOf t.files q
  -- no member of q breaks a rule of the language
  pub sound : IsSound begins q.rows q.super_at (units_of q)
  pub number : ℕ
  pub text : List ℕ
  pub asked : IsAsked s ask number text
  pub edits : List (List Entry)
  pub renaming : List (Decl × Decl)
  pub respelled : ℕ
  pub plan : IsPlanned p (ask.refactoring p text number) edits renaming respelled
  -- the new texts read as the planned trees, which are q's but for where their nodes stand
  pub trees : map without_marks (units_of q)
      ≡ map (λ (o : Rewritten (UnitTree Span)). without_marks o.tree) plan.becomes.files
  -- q's own rows, made of its own trees, are those that the refactoring states
  pub rows : q.rows ≡ (images_by ask p text number plan.found).rows
  -- Dispatch in q is the image of dispatch in p: for each method and each class on whose objects it
  -- is dispatched, its own and those below (JLS 15.12.4.4).
  pub dispatch : (of : ClassKey) (m was : MethodKey) → DispatchesTo p.rows of m was
      → DispatchesTo q.rows ((images_by ask p text number plan.found).class_to of)
      ((images_by ask p text number plan.found).method_to m)
      ((images_by ask p text number plan.found).method_to was)
  -- each static field begins in q with the image of what it began with in p
  pub first_values : KeepsFirstValues (keys_by (images_by ask p text number plan.found))
      (sources_of p) (sources_of q)
  -- what the refactoring promises besides: of references, of places, of runs and histories
  pub own : ask.Keeps p text number plan.found plan.becomes.files edits renaming q
  -- each of the two is a resolved program, just one, and has first values
  pub code_before : HasOneCode p
  pub code_behind : HasOneCode q
  -- each file is spliced by its edits, and there are no others
  pub count : length t.files ≡ length s.files
  pub texts : (i : ℕ) (old : Source) → slice_get s.files i ≡ Some old
      → (source : Source) × (e : List Entry) × (slice_get t.files i ≡ Some source)
      × (slice_get edits i ≡ Some e) × IsSpliced old source e
  -- an undoing right behind the step isn't refused, and all is as it was
  pub back : (answer : Reply) (u : State) → Steps t step.Undo answer u → IsTakenBack s t answer u

-- of a refactoring that isn't refused, that it keeps the program; of another step, no more than
-- `Steps`
abbrev pub PromisesBy : Asks → State → Reply → State → Type 0
PromisesBy (refactors ask) s reply t = IsDone reply → KeepsProgram s ask t
PromisesBy nothing s reply t = Unit {0}

abbrev pub Promises : State → Step → Reply → State → Type 0
Promises s of reply t = PromisesBy (asks_of of) s reply t

-- what a step does is what it promises
abbrev pub StepsKeepPrograms : Type 0
StepsKeepPrograms = (s t : State) (of : Step) (reply : Reply) → Steps s of reply t
    → Promises s of reply t
