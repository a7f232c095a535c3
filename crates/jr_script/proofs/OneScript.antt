-- Bytes have one answer at most beside want of memory.
use Rattle.std.proofs.Common.{◌≡◌, ℕ, ◌⊎◌, inl, inr, List, [], ◌∷◌, ◌++◌, length, Some, None, refl, sym, ap, ◌∙◌, subst, arith}
use Rattle.std.specs.List.{AllZip}
use Rattle.std.proofs.lemmas.Option.{same_Some}
use Rattle.std.proofs.lemmas.List.Elements.{recursion_from_All}
use Rattle.serde_json.specs.Data.{Data, array}
use Rattle.serde_json.specs.Find.{as_array}
use Rattle.serde_json.specs.View.{items_of}
use Rattle.jr_names.specs.declared.steps.Step.{Step}
use Rattle.jr_script.specs.declared.faults.ScriptFault.{ScriptFault}
use Rattle.jr_script.specs.declared.faults.ScriptFault.TheVariants.{TooLong, NotJson, NotAList, TooMany, NotAScript, Memory}
use Rattle.jr_script.specs.Steps.{Means}
use Rattle.jr_script.specs.StepFaults.{IsBad}
use Rattle.jr_script.specs.Scripts.{HasValue}
use Rattle.jr_script.specs.ScriptFaults.{IsFirstBad}
use Rattle.jr_script.specs.ScriptLaws.{MeansOneList, ScriptHasNoFault, HasOneFault}
use Rattle.jr_script.proofs.OneStep.{one_step, no_fault, one_member, one_first}

one_value : (bytes : List ℕ) (d e : Data) → HasValue bytes d → HasValue bytes e → d ≡ e
one_value bytes d e h g = same_Some d e (sym h.1 ∙ g.1)

same_items : (xs ys : List Data) → items_of xs ≡ items_of ys → xs ≡ ys
same_items [] [] e = refl
same_items [] (y ∷ ys) e = absurd (cc)
same_items (x ∷ xs) [] e = absurd (cc)
same_items (x ∷ xs) (y ∷ ys) e =
    let first : x ≡ y = cc in
    let rest : items_of xs ≡ items_of ys = cc in
    let later = same_items xs ys rest in
    cc

one_elements : (bytes : List ℕ) (xs ys : List Data) → HasValue bytes (array (items_of xs)) → HasValue bytes (array (items_of ys)) → xs ≡ ys
one_elements bytes xs ys h g =
    let arrays : array (items_of xs) ≡ array (items_of ys) = one_value bytes (array (items_of xs)) (array (items_of ys)) h g in
    let items : items_of xs ≡ items_of ys = cc in
    same_items xs ys items

no_list : (bytes : List ℕ) (xs : List Data) (d : Data) → HasValue bytes (array (items_of xs)) → HasValue bytes d → as_array d ≡ None → ⊥
no_list bytes xs d h g none =
    let some : as_array d ≡ Some (items_of xs) = ap as_array (one_value bytes d (array (items_of xs)) g h) in
    absurd (cc)

abbrev IsSomeStep : Data → Type 0
IsSomeStep d = (s : Step) × Means d s

not_step : (d : Data) (member : List ℕ) → IsBad d member → ¬ IsSomeStep d
not_step d member bad h = no_fault d h.0 member h.1 bad

same_steps : (ds : List Data) (ss ts : List Step) → AllZip Means ds ss → AllZip Means ds ts → ss ≡ ts
same_steps [] [] [] h g = refl
same_steps [] [] (t ∷ ts) h g = absurd g
same_steps [] (s ∷ ss) ts h g = absurd h
same_steps (d ∷ ds) [] ts h g = absurd h
same_steps (d ∷ ds) (s ∷ ss) [] h g = absurd g
same_steps (d ∷ ds) (s ∷ ss) (t ∷ ts) h g =
    let first = one_step d s t h.0 g.0 in
    let rest = same_steps ds ss ts h.1 g.1 in
    cc

none_bad : (front : List Data) (d : Data) (back : List Data) (ss : List Step) → AllZip Means (front ++ d ∷ back) ss → IsSomeStep d
none_bad [] d back [] h = absurd h
none_bad [] d back (s ∷ ss) h = (s, h.0)
none_bad (x ∷ front) d back [] h = absurd h
none_bad (x ∷ front) d back (s ∷ ss) h = none_bad front d back ss h.1

pub means_one_list : MeansOneList
means_one_list bytes steps others h g =
    let same : h.elements ≡ g.elements = one_elements bytes h.elements g.elements h.value g.value in
    same_steps g.elements steps others (subst (λ ds. AllZip Means ds steps) same h.means) g.means

pub script_has_no_fault : ScriptHasNoFault
script_has_no_fault bytes steps TooLong h f = let within = h.within in absurd (omega arith)
script_has_no_fault bytes steps NotJson h f = absurd (f.1 (array (items_of h.elements)) h.value)
script_has_no_fault bytes steps NotAList h f = absurd (no_list bytes h.elements f.1.0 h.value f.1.1 f.1.2)
script_has_no_fault bytes steps (TooMany count) h f =
    let same : h.elements ≡ f.1.0 = one_elements bytes h.elements f.1.0 h.value f.1.1 in
    let long : length h.elements ≡ length f.1.0 = ap length same in
    let few = h.few in
    let many = f.1.2 in
    absurd (omega arith)
script_has_no_fault bytes steps (NotAScript step member) h f =
    let first = f.1.3 in
    let same : h.elements ≡ first.front ++ first.element ∷ first.back = one_elements bytes h.elements f.1.0 h.value f.1.1 ∙ first.split in
    absurd (not_step first.element member first.bad (none_bad first.front first.element first.back steps (subst (λ ds. AllZip Means ds steps) same h.means)))
script_has_no_fault bytes steps Memory h f = refl

-- of two faults beside want of memory
one_bad : (elements : List Data) (k l : ℕ) (m n : List ℕ) → IsFirstBad elements k m → IsFirstBad elements l n → (k ≡ l) × (m ≡ n)
one_bad elements k l m n f g =
    let split = sym f.split ∙ g.split in
    let one = one_first IsSomeStep f.front f.back f.element g.front g.back g.element (recursion_from_All IsSomeStep f.front f.steps) (not_step f.element m f.bad) (recursion_from_All IsSomeStep g.front g.steps) (not_step g.element n g.bad) split in
    (f.count ∙ (ap length one.0 ∙ sym g.count), one_member g.element m n (subst (λ d. IsBad d m) one.1 f.bad) g.bad)

abbrev Either : ScriptFault → ScriptFault → Type 0
Either f g = (f ≡ Memory) ⊎ ((g ≡ Memory) ⊎ (f ≡ g))

pub has_one_fault : HasOneFault
has_one_fault bytes Memory g p q = inl refl
has_one_fault bytes f Memory p q = inr (inl refl)
has_one_fault bytes TooLong TooLong p q = inr (inr refl)
has_one_fault bytes TooLong NotJson p q = let within = q.0 in absurd (omega arith)
has_one_fault bytes TooLong NotAList p q = let within = q.0 in absurd (omega arith)
has_one_fault bytes TooLong (TooMany count) p q = let within = q.0 in absurd (omega arith)
has_one_fault bytes TooLong (NotAScript step member) p q = let within = q.0 in absurd (omega arith)
has_one_fault bytes NotJson TooLong p q = let within = p.0 in absurd (omega arith)
has_one_fault bytes NotJson NotJson p q = inr (inr refl)
has_one_fault bytes NotJson NotAList p q = absurd (p.1 q.1.0 q.1.1)
has_one_fault bytes NotJson (TooMany count) p q = absurd (p.1 (array (items_of q.1.0)) q.1.1)
has_one_fault bytes NotJson (NotAScript step member) p q = absurd (p.1 (array (items_of q.1.0)) q.1.1)
has_one_fault bytes NotAList TooLong p q = let within = p.0 in absurd (omega arith)
has_one_fault bytes NotAList NotJson p q = absurd (q.1 p.1.0 p.1.1)
has_one_fault bytes NotAList NotAList p q = inr (inr refl)
has_one_fault bytes NotAList (TooMany count) p q = absurd (no_list bytes q.1.0 p.1.0 q.1.1 p.1.1 p.1.2)
has_one_fault bytes NotAList (NotAScript step member) p q = absurd (no_list bytes q.1.0 p.1.0 q.1.1 p.1.1 p.1.2)
has_one_fault bytes (TooMany count) TooLong p q = let within = p.0 in absurd (omega arith)
has_one_fault bytes (TooMany count) NotJson p q = absurd (q.1 (array (items_of p.1.0)) p.1.1)
has_one_fault bytes (TooMany count) NotAList p q = absurd (no_list bytes p.1.0 q.1.0 p.1.1 q.1.1 q.1.2)
has_one_fault bytes (TooMany count) (TooMany other) p q =
    let same = p.1.3 ∙ (ap length (one_elements bytes p.1.0 q.1.0 p.1.1 q.1.1) ∙ sym q.1.3) in
    inr (inr (ap TooMany same))
has_one_fault bytes (TooMany count) (NotAScript step member) p q =
    let long = ap length (one_elements bytes p.1.0 q.1.0 p.1.1 q.1.1) in
    let many = p.1.2 in
    let few = q.1.2 in
    absurd (omega arith)
has_one_fault bytes (NotAScript step member) TooLong p q = let within = p.0 in absurd (omega arith)
has_one_fault bytes (NotAScript step member) NotJson p q = absurd (q.1 (array (items_of p.1.0)) p.1.1)
has_one_fault bytes (NotAScript step member) NotAList p q = absurd (no_list bytes p.1.0 q.1.0 p.1.1 q.1.1 q.1.2)
has_one_fault bytes (NotAScript step member) (TooMany count) p q =
    let long = ap length (one_elements bytes p.1.0 q.1.0 p.1.1 q.1.1) in
    let few = p.1.2 in
    let many = q.1.2 in
    absurd (omega arith)
has_one_fault bytes (NotAScript step member) (NotAScript step' member') p q =
    let same : p.1.0 ≡ q.1.0 = one_elements bytes p.1.0 q.1.0 p.1.1 q.1.1 in
    let one = one_bad q.1.0 step step' member member' (subst (λ ds. IsFirstBad ds step member) same p.1.3) q.1.3 in
    inr (inr (ap (λ k. NotAScript k member) one.0 ∙ ap (NotAScript step') one.1))
