-- What a script makes of files.
use Rattle.std.specs.Prelude.{
  ◌≡◌,
  ◌≢◌,
  ℕ,
  ◌⊎◌,
  List,
  [],
  ◌∷◌,
  ◌++◌,
  map,
  codes,
  Option,
  None,
  Some,
  Any,
}
use Rattle.std.specs.List.{AllByRecursion}
use Rattle.jr_shelf.specs.Shelf.{Files, Holds}
use Rattle.jr_names.specs.declared.steps.Step.{Step}
use Rattle.jr_names.specs.Replies.{Reply, edited, refactored, shown, undone, redone, refused}
use Rattle.jr_script.specs.Scripts.{IsScript}
use Rattle.jr_script.specs.Reports.{report_text}
use Rattle.jr_sources.specs.Sources.{Source}
use Rattle.jr_session.specs.Promises.{Promises}
use Rattle.jr_session.specs.States.{State, begun}
use Rattle.jr_session.specs.Stepping.{Steps}
use Rattle.jr_words.specs.Words.{Operand}
use Rattle.jr_files.specs.Sources.{AreFetched}
use Rattle.jr_files.specs.Storing.{Store}
use Rattle.jr_top.specs.Outputs.{Output}

-- ---- steps and replies

-- The session takes the steps one after another, each with its reply. Each accepted rename leaves
-- a program again, in which each reference is bound to the image of what it was bound to.
abbrev pub Follow : State → List Step → List Reply → State → Type 0
Follow s [] [] t = t ≡ s
Follow s [] (reply ∷ replies) t = ⊥
Follow s (step ∷ steps) [] t = ⊥
Follow s (step ∷ steps) (reply ∷ replies) t =
    (between : State) × Steps s step reply between × Promises s step reply between
    × Follow between steps replies t

abbrev pub IsRefusal : Reply → Type 0
IsRefusal edited = ⊥
IsRefusal (refactored files respelled) = ⊥
IsRefusal (shown lines) = ⊥
IsRefusal undone = ⊥
IsRefusal redone = ⊥
IsRefusal (refused refusal) = Unit {0}

abbrev pub HasNoRefusal : List Reply → Type 0
HasNoRefusal replies = AllByRecursion (λ reply. ¬ IsRefusal reply) replies

abbrev pub HasRefusal : List Reply → Type 0
HasRefusal [] = ⊥
HasRefusal (reply ∷ replies) = IsRefusal reply ⊎ HasRefusal replies

-- ---- what is read

-- the steps of the script that the file holds, where it is known what is held
pub record HoldsScript (files : Option Files) (file : List ℕ) (steps : List Step) : Type 0 where
  pub bytes : List ℕ
  pub held : Holds files file bytes
  pub is_script : IsScript bytes steps

-- the operands' names with their texts
abbrev pub sources_from : List Operand → List (List ℕ) → List Source
sources_from [] texts = []
sources_from (o ∷ os) [] = []
sources_from (o ∷ os) (t ∷ ts) = record { name = o.text; text = t } ∷ sources_from os ts

-- all that a run reads: a script of these steps, and files of these texts
pub record Reads (files : Option Files) (script : Operand) (operands : List Operand)
    (steps : List Step) (texts : List (List ℕ)) : Type 0 where
  pub of_script : HoldsScript files script.text steps
  pub fetched : AreFetched files operands texts

-- ---- what is written

-- the name under which a file is stored: its own, or that name in the folder
abbrev pub stored_name : Option (List ℕ) → List ℕ → List ℕ
stored_name None name = name
stored_name (Some dir) name = dir ++ codes "/" ++ name

-- the files whose text at the end differs from the text that was read, in order
abbrev pub AreStores : Option (List ℕ) → List Source → List Source → List Store → Type 0
AreStores out [] [] stores = stores ≡ []
AreStores out [] (t ∷ ts) stores = ⊥
AreStores out (s ∷ ss) [] stores = ⊥
AreStores out (s ∷ ss) (t ∷ ts) stores =
    ((t.text ≡ s.text) × AreStores out ss ts stores)
    ⊎ ((t.text ≢ s.text) × (rest : List Store)
    × (stores ≡ record { name = stored_name out s.name; text = t.text } ∷ rest)
    × AreStores out ss ts rest)

-- the output of a run over what is held, and the replies of its steps
pub record IsRunOutput (files : Option Files) (out : Option (List ℕ)) (script : Operand)
    (operands : List Operand) (replies : List Reply) (output : Output) : Type 0 where
  pub steps : List Step
  pub texts : List (List ℕ)
  pub reads : Reads files script operands steps texts
  pub after : State
  pub follow : Follow (begun (sources_from operands texts)) steps replies after
  pub stores : AreStores out (sources_from operands texts) after.files output.stores
  pub report : output.report ≡ report_text (map (λ (o : Operand). o.text) operands) replies
