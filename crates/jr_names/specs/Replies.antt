-- What a session answers, and what a refactoring plans, as contracts see them.
use Rattle.std.specs.Prelude.{ℕ, List, Option}
use Rattle.jr_text.specs.Edits.{Entry}
use Rattle.jr_table.specs.Decls.{Decl}
use Rattle.jr_names.specs.Sites.{DepPair}
use Rattle.jr_names.specs.Refusals.{Refusal}

pub data Reply : Type 0 where
  edited : Reply
  refactored : (files : List (List ℕ)) (respelled : ℕ) → Reply
  shown : (lines : List (List ℕ)) → Reply
  undone : Reply
  redone : Reply
  refused : (refusal : Refusal) → Reply

pub data Outcome : Type 0 where
  planned : (edits : List (List Entry)) (renaming : List (Decl × Decl)) (respelled : ℕ)
      (lost : Option DepPair) → Outcome
  not_planned : (refusal : Refusal) → Outcome
