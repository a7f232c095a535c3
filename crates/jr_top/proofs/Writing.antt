-- What was written of a run's output.
use Rattle.std.proofs.Common.{◌≡◌, ◌∙◌, ◌<◌, ◌+◌, ◌^◌, ◌⊎◌, ℕ, suc, ap, arith, inl, inr, refl, sym, subst, List, ◌∷◌, length, map, Option, OnSome}
use Rattle.std.proofs.lemmas.List.{length-map}
use Rattle.jr_shelf.specs.Counts.{RoseBy}
use Rattle.jr_shelf.specs.Shelf.{Files}
use Rattle.jr_shelf.specs.Sink.{with_bytes}
use Rattle.jr_names.specs.declared.steps.Step.{Step}
use Rattle.jr_names.specs.Replies.{Reply}
use Rattle.jr_script.specs.Reports.{report_text}
use Rattle.jr_session.specs.States.{State, begun}
use Rattle.jr_words.specs.declared.words.Operand as raw
use Rattle.jr_words.specs.Asked.{operand_of}
use Rattle.jr_words.specs.Words.{Operand, run}
use Rattle.jr_files.specs.Fetching.{Served}
use Rattle.jr_files.specs.Storing.{with_stores}
use Rattle.jr_top.specs.Ends.{IsBegun}
use Rattle.jr_top.specs.Outputs.{FailedInReport, FailedInStores, Output, WroteAll, WroteInPart}
use Rattle.jr_top.specs.OutputView.{text_of}
use Rattle.jr_top.specs.Scripts.{AreStores, Follow, IsRunOutput, sources_from}
use Rattle.jr_top.proofs.Changed.{same_names}
use Rattle.jr_files.proofs.Counting.{rose_sum}

-- the output of a run that has begun
pub run_output : (files : Option Files) (out : Option (List ℕ)) (script : Operand) (operands : List raw.Operand) (steps : List Step) (session after : State) (read : List (List ℕ)) (replies : List Reply) (output : Output)
    → IsBegun files script (map operand_of operands) steps session read → Follow session steps replies after → AreStores out (sources_from (map operand_of operands) read) after.files output.stores
    → output.report ≡ report_text (map text_of operands) replies → IsRunOutput files out script (map operand_of operands) replies output
run_output files out script operands steps session after read replies output is_begun follow stores report = record {
  steps = steps;
  texts = read;
  reads = is_begun.reads;
  after = after;
  follow = subst (λ (s : State). Follow s steps replies after) is_begun.begins follow;
  stores = stores;
  report = report ∙ ap (λ names. report_text names replies) (same_names operands);
}

count : (served served' served'' : ℕ) (n m k l : ℕ) → served'' < 2 ^ 64 → RoseBy n served served' → RoseBy m served' served'' → n ≡ k → m ≡ l → RoseBy (k + l) served served''
count served served' served'' n m k l fits one two first second = subst (λ a. RoseBy (a + l) served served'') first (subst (λ b. RoseBy (n + b) served served'') second (rose_sum n m served served' served'' fits one two))

sizes : (operands : List raw.Operand) (script : Operand) → 1 + length operands ≡ length (script ∷ map operand_of operands)
sizes operands script = let same = length-map operands operand_of in omega (arith, same)

module _ {files mid files' : Option Files} {missed missed' : Option (List ℕ)} {faults faults' served served' served'' : ℕ} where
  -- all of it
  pub all_written : (out : Option (List ℕ)) (script : Operand) (operands : List raw.Operand) (Is : Output → Type 0) (output : Output) (m : ℕ) (taken taken' : Option (List ℕ)) → served'' < 2 ^ 64
      → Served (1 + length operands) files mid missed missed' faults faults' served served' → RoseBy m served' served'' → m ≡ length output.stores → Is output → files' ≡ with_stores mid output.stores
      → taken' ≡ with_bytes taken output.report → WroteAll (run out script (map operand_of operands)) Is files files' served served'' taken taken'
  all_written out script operands Is output m taken taken' fits before more many is stored took = record {
    output = output;
    is_output = is;
    stored = stored ∙ ap (λ f. with_stores f output.stores) before.keeps;
    took = took;
    count = count served served' served'' (1 + length operands) m (length (script ∷ map operand_of operands)) (length output.stores) fits before.count more (sizes operands script) many;
  }

  -- a part
  pub part_written : (out : Option (List ℕ)) (script : Operand) (operands : List raw.Operand) (Is : Output → Type 0) (output : Output) (stored faults'' : ℕ) (taken taken' : Option (List ℕ)) (put_faults put_faults' : ℕ) → served'' < 2 ^ 64
      → Served (1 + length operands) files mid missed missed' faults faults' served served' → RoseBy stored served' served'' → Is output
      → (FailedInStores output.stores stored mid files' faults' faults'' taken taken' put_faults put_faults' ⊎ FailedInReport output stored mid files' faults' faults'' taken taken' put_faults put_faults')
      → WroteInPart (run out script (map operand_of operands)) Is stored files files' served served'' faults faults'' taken taken' put_faults put_faults'
  part_written out script operands Is output stored faults'' taken taken' put_faults put_faults' fits before more is part = record {
    output = output;
    is_output = is;
    part = subst (λ f. FailedInStores output.stores stored f files' faults faults'' taken taken' put_faults put_faults' ⊎ FailedInReport output stored f files' faults faults'' taken taken' put_faults put_faults') before.keeps
        (subst (λ x. FailedInStores output.stores stored mid files' x faults'' taken taken' put_faults put_faults' ⊎ FailedInReport output stored mid files' x faults'' taken taken' put_faults put_faults') before.faults_stay part);
    count = count served served' served'' (1 + length operands) stored (length (script ∷ map operand_of operands)) stored fits before.count more (sizes operands script) refl;
  }
