-- What is held has one fault at most, and none where it is a script and sources.
use Rattle.std.proofs.Common.{◌≡◌, ◌≢◌, ◌∙◌, ◌<◌, ◌≤◌, ◌+◌, ℕ, refl, sym, ap, arith, subst, List, [], ◌∷◌, ◌++◌, length, take, Option, None, Some, IsSomeAnd, sum_by}
use Rattle.std.specs.List.{AllZip}
use Rattle.std.specs.FinMap as map
use Rattle.std.specs.Str.{IsUtf8, IsValidUpTo}
use Rattle.std.proofs.Math.Seq.{take-length}
use Rattle.std.proofs.lemmas.List.Sums.{sum_by-append, sum_by-cons}
use Rattle.jr_shelf.specs.Shelf.{Files, Holds}
use Rattle.jr_text.specs.Texts.{IsText, text_limit}
use Rattle.jr_names.specs.declared.steps.Step.{Step}
use Rattle.jr_script.specs.declared.faults.ScriptFault.{ScriptFault}
use Rattle.jr_script.specs.declared.faults.ScriptFault.TheVariants as script_fault
use Rattle.jr_script.specs.ScriptFaults.{IsScriptFault}
use Rattle.jr_script.specs.ScriptLaws.{ScriptHasNoFault}
use Rattle.jr_words.specs.Words.{Operand}
use Rattle.jr_files.specs.declared.faults.SourceFault.{SourceFault}
use Rattle.jr_files.specs.declared.faults.SourceFault.TheVariants.{TooMany, TooLong, NotUtf8, TotalTooLong}
use Rattle.jr_files.specs.Sources.{AreFetched, AreSources, HasFault, HoldsFault, HoldsNoText, HoldsSome, IsBadSource, IsFirstBad, IsSource, total_of, total_limit}
use Rattle.jr_top.specs.Scripts.{HoldsScript}

-- what isn't UTF-8 to its end is no text
no_text : (bytes : List ℕ) (valid : ℕ) → IsValidUpTo bytes valid → IsText bytes → ⊥
no_text bytes valid invalid text = invalid.longest (length bytes) invalid.short (subst (λ front. IsUtf8 front) (sym (take-length bytes)) text.utf8)

-- a text that is within all limits has no fault
no_fault : (before : ℕ) (bytes : List ℕ) (fault : SourceFault) → IsText bytes → before + length bytes ≤ total_limit → HasFault before bytes fault → ⊥
no_fault before bytes TooLong text within fault = let small = text.within in omega (arith, small, fault)
no_fault before bytes (NotUtf8 valid) text within fault = no_text bytes valid fault.1 text
no_fault before bytes (TotalTooLong len) text within fault = let told = fault.1 in let beyond = fault.2 in omega (arith, told, beyond, within)
no_fault before bytes (TooMany count) text within fault = fault

-- where a name holds a text that is within all limits, no fault is held there
pub holds_no_fault : (held : Files) (name bytes : List ℕ) (before : ℕ) (fault : SourceFault) → map.get held name ≡ Some bytes → IsText bytes → before + length bytes ≤ total_limit
    → HoldsFault before (Some held) name fault → ⊥
holds_no_fault held name bytes before fault is text within has =
    no_fault before bytes fault text within (subst (λ (o : Option (List ℕ)). IsSomeAnd o (λ b. HasFault before b fault)) is has)

-- ---- scripts

pub script_not_bad : ScriptHasNoFault → (held : Files) (name : List ℕ) (steps : List Step) (fault : ScriptFault) → HoldsScript (Some held) name steps → fault ≢ script_fault.Memory
    → HoldsSome (Some held) name (λ bytes. IsScriptFault bytes fault) → ⊥
script_not_bad law held name steps fault script real has =
    real (law script.bytes steps fault script.is_script (subst (λ (o : Option (List ℕ)). IsSomeAnd o (λ b. IsScriptFault b fault)) script.held has))

-- ---- sources

one_text : (held : Files) (name a b : List ℕ) → Holds (Some held) name a → Holds (Some held) name b → a ≡ b
one_text held name a b p q = let same : Some a ≡ Some b = sym p ∙ q in cc

one_texts : (held : Files) (operands : List Operand) (texts others : List (List ℕ)) → AreSources (Some held) operands texts → AreSources (Some held) operands others → texts ≡ others
one_texts held [] [] [] p q = refl
one_texts held [] [] (t ∷ ts) p q = absurd q
one_texts held [] (t ∷ ts) others p q = absurd p
one_texts held (o ∷ os) [] others p q = absurd p
one_texts held (o ∷ os) (t ∷ ts) [] p q = absurd q
one_texts held (o ∷ os) (t ∷ ts) (u ∷ us) p q = λ i. one_text held o.text t u p.0.held q.0.held i ∷ one_texts held os ts us p.1 q.1 i

-- the texts of operands, where one stands between others
record Parted (files : Option Files) (front : List Operand) (operand : Operand) (texts : List (List ℕ)) : Type 0 where
  pub before : List (List ℕ)
  pub text : List ℕ
  pub behind : List (List ℕ)
  pub split : texts ≡ before ++ text ∷ behind
  pub sources : AreSources files front before
  pub source : IsSource files operand.text text

parted : (files : Option Files) (front : List Operand) (operand : Operand) (back : List Operand) (texts : List (List ℕ)) → AreSources files (front ++ operand ∷ back) texts → Parted files front operand texts
parted files [] operand back [] all = absurd all
parted files [] operand back (t ∷ ts) all = record { before = []; text = t; behind = ts; split = refl; sources = tt; source = all.0 }
parted files (f ∷ fs) operand back [] all = absurd all
parted files (f ∷ fs) operand back (t ∷ ts) all =
    let rest = parted files fs operand back ts all.1 in
    record {
      before = t ∷ rest.before;
      text = rest.text;
      behind = rest.behind;
      split = ap (λ (us : List (List ℕ)). t ∷ us) rest.split;
      sources = (all.0, rest.sources);
      source = rest.source;
    }

first_not_bad : (held : Files) (operands : List Operand) (texts : List (List ℕ)) (word : ℕ) (fault : SourceFault) → AreFetched (Some held) operands texts → IsFirstBad (Some held) operands word fault → ⊥
first_not_bad held operands texts word fault fetched bad =
    let part = parted (Some held) bad.front bad.operand bad.back texts (subst (λ (os : List Operand). AreSources (Some held) os texts) bad.split fetched.sources) in
    let same : part.before ≡ bad.texts = one_texts held bad.front part.before bad.texts part.sources bad.sources in
    let size : List ℕ → ℕ = λ t. length t in
    let all : total_of texts ≡ total_of part.before + total_of (part.text ∷ part.behind) = ap total_of part.split ∙ sum_by-append (λ (t : List ℕ). length t) part.before (part.text ∷ part.behind) in
    let some : total_of (part.text ∷ part.behind) ≡ length part.text + total_of part.behind = sum_by-cons (λ (t : List ℕ). length t) part.text part.behind in
    let limit = fetched.within in
    let within : total_of part.before + length part.text ≤ total_limit = omega (arith, all, some, limit) in
    holds_no_fault held bad.operand.text part.text (total_of bad.texts) fault part.source.held part.source.text (subst (λ (ts : List (List ℕ)). total_of ts + length part.text ≤ total_limit) same within) bad.has

pub sources_not_bad : (held : Files) (operands : List Operand) (texts : List (List ℕ)) (word : ℕ) (fault : SourceFault) → AreFetched (Some held) operands texts → IsBadSource (Some held) operands word fault → ⊥
sources_not_bad held operands texts word (TooMany count) fetched bad = let few = fetched.few in let beyond = bad.beyond in omega (arith, few, beyond)
sources_not_bad held operands texts word TooLong fetched bad = first_not_bad held operands texts word TooLong fetched bad
sources_not_bad held operands texts word (NotUtf8 valid) fetched bad = first_not_bad held operands texts word (NotUtf8 valid) fetched bad
sources_not_bad held operands texts word (TotalTooLong len) fetched bad = first_not_bad held operands texts word (TotalTooLong len) fetched bad

-- ---- one file

-- bytes with a fault of one file are no text
pub faulty_no_text : (held : Files) (name : List ℕ) (fault : SourceFault) → HoldsFault 0 (Some held) name fault → HoldsNoText (Some held) name
faulty_no_text held name fault has = of (map.get held name) has
  where
    of : (o : Option (List ℕ)) → IsSomeAnd o (λ b. HasFault 0 b fault) → IsSomeAnd o (λ b. IsText b → ⊥)
    of None h = h
    of (Some bytes) h = λ text. let small = text.within in no_fault 0 bytes fault text (omega (arith, small)) h
