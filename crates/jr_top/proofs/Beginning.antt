-- The session with which a run begins, and what it gives.
use Rattle.std.proofs.Common.{◌≡◌, ◌∙◌, ◌<◌, ◌≤◌, ◌^◌, ℕ, ap, arith, refl, sym, subst, List, [], ◌∷◌, length, map, Option, String, Vec, All, string_bytes}
use Rattle.std.specs.List.{AllZip}
use Rattle.std.proofs.lemmas.List.{length-map}
use Rattle.jr_shelf.specs.Shelf.{Files}
use Rattle.jr_names.specs.declared.steps.Step.{Step}
use Rattle.jr_names.specs.Replies.{Reply}
use Rattle.jr_script.specs.Reports.{AreRepliesIn}
use Rattle.jr_sources.specs.Sources.{Source, names_of}
use Rattle.jr_sources.specs.SourceView.{sources_of}
use Rattle.jr_session.specs.States.{State, begun}
use Rattle.jr_session.specs.Serving.{IsServed}
use Rattle.jr_words.specs.declared.words.Operand as raw
use Rattle.jr_words.specs.Asked.{operand_of}
use Rattle.jr_words.specs.Words.{Operand}
use Rattle.jr_files.specs.Sources.{AreFetched, AreSources, IsSource}
use Rattle.jr_files.specs.declared.fetches.Fetched.{Fetched}
use Rattle.jr_files.specs.Storing.{Store}
use Rattle.jr_files.specs.Views.{AreOf, texts_of}
use Rattle.jr_top.specs.Ends.{IsBegun}
use Rattle.jr_top.specs.OutputView.{text_of}
use Rattle.jr_top.specs.Scripts.{AreStores, Follow, HoldsScript, sources_from}
use Rattle.jr_top.proofs.Changed.{few_stores, same_names, sources_length, sources_names}
use Rattle.jr_top.proofs.Following.{names_stay, replies_in}
use Rattle.jr_top.proofs.Served.{all_served}

first_same : (a b : List ℕ) (xs ys : List (List ℕ)) → a ∷ xs ≡ b ∷ ys → a ≡ b
first_same a b xs ys e = cc

rest_same : (a b : List ℕ) (xs ys : List (List ℕ)) → a ∷ xs ≡ b ∷ ys → xs ≡ ys
rest_same a b xs ys e = cc

-- the sources that were fetched are those of the session
pub sources_are : {Y : Type 0} (fetched : List (String Y × List ℕ)) (operands : List Operand) → map (λ s. string_bytes s.0) fetched ≡ map (λ (o : Operand). o.text) operands
    → sources_of fetched ≡ sources_from operands (map (λ s. s.1) fetched)
sources_are [] [] names = refl
sources_are [] (o ∷ os) names = let e = ap length names in absurd (omega (arith, e))
sources_are (f ∷ fs) [] names = let e = ap length names in absurd (omega (arith, e))
sources_are (f ∷ fs) (o ∷ os) names =
    let one : string_bytes f.0 ≡ o.text = first_same _ _ _ _ names in
    let rest = sources_are fs os (rest_same _ _ _ _ names) in
    λ i. record { name = one i; text = f.1 } ∷ rest i

pub texts_length : (files : Option Files) (operands : List Operand) (texts : List (List ℕ)) → AreSources files operands texts → length texts ≡ length operands
texts_length files [] [] all = refl
texts_length files [] (t ∷ ts) all = absurd all
texts_length files (o ∷ os) [] all = absurd all
texts_length files (o ∷ os) (t ∷ ts) all = let rest = texts_length files os ts all.1 in omega (arith, rest)

pub has_begun : (files files' : Option Files) → files' ≡ files → (script : Operand) (operands : List Operand) (steps : List Step) (session : State) (fetched : Fetched) → HoldsScript files script.text steps
    → AreFetched files' operands (texts_of fetched) → AreOf operands fetched → session ≡ begun (sources_of fetched.sources.items) → IsBegun files script operands steps session (map (λ b. b.items) fetched.bytes.items)
has_begun files files' same script operands steps session fetched holds are of begins =
    subst (λ read. IsBegun files script operands steps session read) (sym of.bytes) (record {
      reads = record { of_script = holds; fetched = subst (λ f. AreFetched f operands (texts_of fetched)) same are };
      begins = begins ∙ ap begun (sources_are fetched.sources.items operands of.names);
    })

-- ---- what holds once a run has begun

module _ {files : Option Files} {script : Operand} (operands : List raw.Operand) {steps : List Step} {session : State} {read : List (List ℕ)}
    (is_begun : IsBegun files script (map operand_of operands) steps session read) where
  pub steps_served : All IsServed steps
  steps_served = all_served _ steps is_begun.reads.of_script.is_script.means

  pub read_count : length read ≡ length operands
  read_count = texts_length files (map operand_of operands) read is_begun.reads.fetched.sources ∙ length-map operands operand_of

  names_first : names_of session.files ≡ map text_of operands
  names_first =
      ap (λ (s : State). names_of s.files) is_begun.begins
      ∙ sources_names (map operand_of operands) read (texts_length files (map operand_of operands) read is_begun.reads.fetched.sources) ∙ sym (same_names operands)

  pub names_now : (replies : List Reply) (after : State) → Follow session steps replies after → names_of after.files ≡ map text_of operands
  names_now replies after follow = names_stay session steps replies after follow ∙ names_first

  pub places_now : (replies : List Reply) (after : State) → Follow session steps replies after → AreRepliesIn (map text_of operands) replies
  places_now replies after follow = replies_in (map text_of operands) session steps replies after names_first follow

  pub few_now : (out : Option (List ℕ)) (news : List Source) (stores : List Store) → AreStores out (sources_from (map operand_of operands) read) news stores → length stores < 2 ^ 32
  few_now out news stores are =
      let some = few_stores out (sources_from (map operand_of operands) read) news stores are in
      let all = sources_length (map operand_of operands) read (texts_length files (map operand_of operands) read is_begun.reads.fetched.sources) in
      let few = is_begun.reads.fetched.few in
      omega (arith, some, all, few)
