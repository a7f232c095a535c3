-- What a rename in a file gives: a session that has the one file takes the one step.
use Rattle.std.specs.Prelude.{◌≡◌, ℕ, ◌≤◌, ◌⊎◌, List, [], ◌∷◌, Option, Bool, true, false}
use Rattle.jr_shelf.specs.Shelf.{Files}
use Rattle.jr_shelf.specs.Sink.{PutAll, PutInPart}
use Rattle.jr_names.specs.declared.steps.Step.TheVariants as step
use Rattle.jr_names.specs.Refusals.{Refusal}
use Rattle.jr_names.specs.Replies.{Reply, refused}
use Rattle.jr_sources.specs.Sources.{Source, IsFile}
use Rattle.jr_session.specs.Asked as asked
use Rattle.jr_session.specs.Promises.{KeepsProgram}
use Rattle.jr_session.specs.States.{State, begun}
use Rattle.jr_session.specs.Stepping.{Steps}
use Rattle.jr_files.specs.Sources.{IsSource}
use Rattle.jr_top.specs.declared.statuses.Status.{Status}
use Rattle.jr_top.specs.declared.statuses.Status.TheVariants as status
use Rattle.jr_top.specs.Lines.{refusal_line}
use Rattle.jr_top.specs.Scripts.{IsRefusal}

-- the session that begins with the file alone
abbrev pub opened : (file source : List ℕ) → State
opened file source = begun (record { name = file; text = source } ∷ [])

-- It takes the step, with a reply that is no refusal, and this is the text of its file behind it: a
-- program again, in which each reference is bound to the image of what it was bound to.
pub record IsGranted (file source : List ℕ) (at : ℕ) (name output : List ℕ) : Type 0 where
  pub reply : Reply
  pub after : State
  pub steps : Steps (opened file source) (step.Rename file at name) reply after
  pub granted : ¬ IsRefusal reply
  pub keeps : KeepsProgram (opened file source) (asked.rename file at name) after
  pub text : IsFile after.files 0 file output

-- it refuses the step, and this is the refusal's line
pub record IsRefusalLine (file source : List ℕ) (at : ℕ) (name output : List ℕ) : Type 0 where
  pub refusal : Refusal
  pub after : State
  pub steps : Steps (opened file source) (step.Rename file at name) (refused refusal) after
  pub line : output ≡ refusal_line (file ∷ []) refusal

-- the new text of the file's source
pub record IsNewText (files : Option Files) (file : List ℕ) (at : ℕ) (name output : List ℕ) : Type 0
  where
    pub source : List ℕ
    pub is_source : IsSource files file source
    pub grants : IsGranted file source at name output

-- the line of the refusal to make one
pub record IsNoNewText (files : Option Files) (file : List ℕ) (at : ℕ) (name output : List ℕ) : Type
    0 where
  pub source : List ℕ
  pub is_source : IsSource files file source
  pub line : IsRefusalLine file source at name output

-- ---- for private clauses

-- what is put for the reply, and whether it is a refusal
abbrev pub IsPutFor : State → List ℕ → Reply → Bool → List ℕ → Type 0
IsPutFor s file reply true output =
    (refusal : Refusal) × (reply ≡ refused refusal) × (output ≡ refusal_line (file ∷ []) refusal)
IsPutFor s file reply false output = (¬ IsRefusal reply) × IsFile s.files 0 file output

abbrev pub IsAnswered : (file source : List ℕ) → ℕ → List ℕ → Bool → List ℕ → Type 0
IsAnswered file source at name true output = IsRefusalLine file source at name output
IsAnswered file source at name false output = IsGranted file source at name output

-- a run that came to put an output ended by this status: it is all put, or the sink failed and took
-- a prefix of it
abbrev pub EndsPut : Bool → List ℕ → Status → (taken taken' : Option (List ℕ))
    → (faults faults' : ℕ) → Type 0
EndsPut is_refusal output status.Done taken taken' faults faults' =
    (is_refusal ≡ false) × PutAll taken taken' faults faults' output
EndsPut is_refusal output status.Refused taken taken' faults faults' =
    (is_refusal ≡ true) × PutAll taken taken' faults faults' output
EndsPut is_refusal output (status.WriteFault stored) taken taken' faults faults' =
    (stored ≡ 0) × (faults ≤ faults') × PutInPart taken taken' faults faults' output
EndsPut is_refusal output _ taken taken' faults faults' = ⊥

-- a run that had the source ended by this status
abbrev pub EndsAnswered : (file source : List ℕ) → ℕ → List ℕ → Status
    → (taken taken' : Option (List ℕ)) → (faults faults' : ℕ) → Type 0
EndsAnswered file source at name status.Done taken taken' faults faults' =
    (output : List ℕ) × IsGranted file source at name output
    × PutAll taken taken' faults faults' output
EndsAnswered file source at name status.Refused taken taken' faults faults' =
    (output : List ℕ) × IsRefusalLine file source at name output
    × PutAll taken taken' faults faults' output
EndsAnswered file source at name (status.WriteFault stored) taken taken' faults faults' =
    (output : List ℕ)
    × (IsGranted file source at name output ⊎ IsRefusalLine file source at name output)
    × (stored ≡ 0) × (faults ≤ faults') × PutInPart taken taken' faults faults' output
EndsAnswered file source at name status.NoMemory taken taken' faults faults' = faults' ≡ faults
EndsAnswered file source at name _ taken taken' faults faults' = ⊥
