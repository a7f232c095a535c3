use Rattle.std.proofs.Common.{◌≡◌, ◌<◌, ◌^◌, arith, inl, inr, length, map, refl, subst, sym}
use Rattle.std.proofs.lemmas.List.{length-map}
use Rattle.jr_words.specs.Asked.{IsWordsFault, command_of, operand_of}
use Rattle.jr_words.specs.Words.{Mean, rename, run, texts_of}
use Rattle.jr_top.specs.OutputView.{dir_of}
use Rattle.jr_top.specs.declared.statuses.Status.TheVariants.{Usage, NoMemory}
use Rattle.jr_top.proofs.RanClauses.{ran_nothing}
use Rattle.jr_top.proofs.WordPlaces.{few_files}
use Rattle.jr_top.proofs.runs.run_words.Goals as goal

pub run_script-requires-clause-count : goal.run_script-requires-clause-count
run_script-requires-clause-count g c =
    let mean = subst (λ k. Mean (texts_of c.args.words.now) (command_of k)) c.in-Ok-Run.field-0-is c.in-Ok-Run.ensures.ok in
    let few = few_files (texts_of c.args.words.now) (dir_of c.in-Ok-Run.out) (operand_of c.in-Ok-Run.script) (map operand_of c.in-Ok-Run.files.items) mean in
    let same = length-map c.in-Ok-Run.files.items operand_of in
    subst (λ xs. length xs < 2 ^ 32) (sym c.as_slice.ensures.value) (omega (arith, few, same))

pub returns-in-Err-Usage-clause-ran : goal.returns-in-Err-Usage-clause-ran
returns-in-Err-Usage-clause-ran g c = ran_nothing (texts_of c.args.words.now) Usage (inl (refl, subst (IsWordsFault (texts_of c.args.words.now)) c.in-Err-Usage.field-0-is c.in-Err-Usage.ensures.fault))

pub returns-in-Err-Memory-clause-ran : goal.returns-in-Err-Memory-clause-ran
returns-in-Err-Memory-clause-ran g c = ran_nothing (texts_of c.args.words.now) NoMemory (inr (refl, subst (IsWordsFault (texts_of c.args.words.now)) c.in-Err-Memory.field-0-is c.in-Err-Memory.ensures.fault))

pub returns-in-Ok-Rename-clause-ran : goal.returns-in-Ok-Rename-clause-ran
returns-in-Ok-Rename-clause-ran g c =
    let mean = subst (λ k. Mean (texts_of c.args.words.now) (command_of k)) c.in-Ok-Rename.field-0-is c.in-Ok-Rename.ensures.ok in
    inr (rename c.in-Ok-Rename.file.now c.in-Ok-Rename.at c.in-Ok-Rename.name.now, mean, c.rename_file.ensures.comes)

pub returns-in-Ok-Rename-clause-unread : goal.returns-in-Ok-Rename-clause-unread
returns-in-Ok-Rename-clause-unread g c = λ none.
    let mean = subst (λ k. Mean (texts_of c.args.words.now) (command_of k)) c.in-Ok-Rename.field-0-is c.in-Ok-Rename.ensures.ok in
    absurd (none (rename c.in-Ok-Rename.file.now c.in-Ok-Rename.at c.in-Ok-Rename.name.now) mean)

pub returns-in-Ok-Run-clause-ran : goal.returns-in-Ok-Run-clause-ran
returns-in-Ok-Run-clause-ran g c =
    let mean = subst (λ k. Mean (texts_of c.args.words.now) (command_of k)) c.in-Ok-Run.field-0-is c.in-Ok-Run.ensures.ok in
    let command = run (dir_of c.in-Ok-Run.out) (operand_of c.in-Ok-Run.script) (map operand_of c.as_slice.result.now) in
    let mean_now = subst (λ xs. Mean (texts_of c.args.words.now) (run (dir_of c.in-Ok-Run.out) (operand_of c.in-Ok-Run.script) (map operand_of xs))) (sym c.as_slice.ensures.value) mean in
    inr (command, mean_now, c.run_script.ensures.comes)

pub returns-in-Ok-Run-clause-unread : goal.returns-in-Ok-Run-clause-unread
returns-in-Ok-Run-clause-unread g c = λ none.
    let mean = subst (λ k. Mean (texts_of c.args.words.now) (command_of k)) c.in-Ok-Run.field-0-is c.in-Ok-Run.ensures.ok in
    absurd (none (run (dir_of c.in-Ok-Run.out) (operand_of c.in-Ok-Run.script) (map operand_of c.in-Ok-Run.files.items)) mean)
