-- The elements of a list, as a loop goes along them.
use Rattle.std.proofs.Common.{◌≡◌, ℕ, suc, ◌+◌, ◌<◌, List, [], ◌∷◌, ◌++◌, length, get_or, take, drop, map, sym, ap, ◌∙◌, subst, refl}
use Rattle.std.specs.List.{AllZip, AllByRecursion}
use Rattle.std.proofs.lemmas.List.{map_more, map-append, drop_more, take-append-drop}
use Rattle.std.proofs.lemmas.List.Elements.{All-from_recursion}
use Rattle.serde_json.specs.Data.{Data}
use Rattle.serde_json.specs.View.{view}
use Rattle.serde_json.specs.declared.value.Value.{Value}
use Rattle.jr_names.specs.declared.steps.Step.{Step}
use Rattle.jr_script.specs.Steps.{Means}
use Rattle.jr_script.specs.StepFaults.{IsBad}
use Rattle.jr_script.specs.ScriptFaults.{IsFirstBad}

pub length-AllZip : (ds : List Data) (steps : List Step) → AllZip Means ds steps → length ds ≡ length steps
length-AllZip [] [] h = refl
length-AllZip [] (s ∷ steps) h = absurd h
length-AllZip (d ∷ ds) [] h = absurd h
length-AllZip (d ∷ ds) (s ∷ steps) h = ap suc (length-AllZip ds steps h.1)

AllZip-push : (ds : List Data) (steps : List Step) (d : Data) (s : Step) → AllZip Means ds steps → Means d s → AllZip Means (ds ++ d ∷ []) (steps ++ s ∷ [])
AllZip-push [] [] d s h m = (m, tt)
AllZip-push [] (t ∷ steps) d s h m = absurd h
AllZip-push (e ∷ ds) [] d s h m = absurd h
AllZip-push (e ∷ ds) (t ∷ steps) d s h m = (h.0, AllZip-push ds steps d s h.1 m)

each_means : (ds : List Data) (steps : List Step) → AllZip Means ds steps → AllByRecursion (λ d. (s : Step) × Means d s) ds
each_means [] steps h = tt
each_means (d ∷ ds) [] h = absurd h
each_means (d ∷ ds) (s ∷ steps) h = ((s, h.0), each_means ds steps h.1)

pub means_more : (elements : List Value) (i : ℕ) (x : Value) (steps : List Step) (s : Step) → i < length elements → x ≡ get_or elements i x → AllZip Means (map view (take i elements)) steps → Means (view x) s
    → AllZip Means (map view (take (i + 1) elements)) (steps ++ s ∷ [])
means_more elements i x steps s l e h m =
    let more : map view (take (i + 1) elements) ≡ map view (take i elements) ++ view x ∷ [] = map_more view elements i x l ∙ ap (λ y. map view (take i elements) ++ view y ∷ []) (sym e) in
    subst (λ ds. AllZip Means ds (steps ++ s ∷ [])) (sym more) (AllZip-push (map view (take i elements)) steps (view x) s h m)

pub first_bad : (elements : List Value) (i : ℕ) (x : Value) (steps : List Step) (member : List ℕ) → i < length elements → x ≡ get_or elements i x → AllZip Means (map view (take i elements)) steps → IsBad (view x) member
    → IsFirstBad (map view elements) (length steps) member
first_bad elements i x steps member l e h bad =
    let front : List Data = map view (take i elements) in
    let left : drop i elements ≡ x ∷ drop (i + 1) elements = drop_more elements i x l ∙ ap (λ y. y ∷ drop (i + 1) elements) (sym e) in
    let split : map view elements ≡ front ++ view x ∷ map view (drop (i + 1) elements) =
    ap (map view) (sym (take-append-drop i elements) ∙ ap (λ ys. take i elements ++ ys) left) ∙ map-append view (take i elements) (x ∷ drop (i + 1) elements) in
    record {
      front = front;
      element = view x;
      back = map view (drop (i + 1) elements);
      split = split;
      count = sym (length-AllZip front steps h);
      steps = All-from_recursion (λ d. (s : Step) × Means d s) front (each_means front steps h);
      bad = bad;
    }
