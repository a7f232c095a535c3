-- An undoing right behind a refactoring.
use Rattle.std.proofs.Common.{◌≡◌, ℕ, List, [], ◌∷◌, ◌++◌, refl, sym, ap, ◌∙◌}
use Rattle.jr_text.specs.Edits.{Entry}
use Rattle.jr_names.specs.declared.steps.Step.TheVariants as step
use Rattle.jr_names.specs.declared.steps.What.{What}
use Rattle.jr_names.specs.Replies.{Reply, edited, refactored, shown, undone, redone, refused}
use Rattle.jr_sources.specs.Sources.{Source, names_of, texts_of}
use Rattle.jr_session.specs.NewTexts.{with_edits}
use Rattle.jr_session.specs.Refactored.{Refactors}
use Rattle.jr_session.specs.Requests.{Request}
use Rattle.jr_session.specs.States.{State, IsUndone}
use Rattle.jr_session.specs.Stepping.{Steps}
use Rattle.jr_session.specs.Promises.{IsTakenBack}
use Rattle.jr_session.proofs.RefusalCases.{undo_refusals, undo_no_edit}

-- ---- lists

last_there : {X : Type 0} (xs : List X) (x : X) → xs ++ x ∷ [] ≡ [] → ⊥
last_there [] x e = cc
last_there (y ∷ xs) x e = cc

tail_of : {X : Type 0} (x y : X) (xs ys : List X) → x ∷ xs ≡ y ∷ ys → xs ≡ ys
tail_of x y xs ys e = let p : xs ≡ ys = cc in p

head_of : {X : Type 0} (x y : X) (xs ys : List X) → x ∷ xs ≡ y ∷ ys → x ≡ y
head_of x y xs ys e = let p : x ≡ y = cc in p

last_same : {X : Type 0} (xs ys : List X) (x y : X) → xs ++ x ∷ [] ≡ ys ++ y ∷ [] → (xs ≡ ys) × (x ≡ y)
last_same [] [] x y e = (refl, head_of x y [] [] e)
last_same [] (z ∷ ys) x y e = absurd (last_there ys y (sym (tail_of x z [] (ys ++ y ∷ []) e)))
last_same (w ∷ xs) [] x y e = absurd (last_there xs x (tail_of w y (xs ++ x ∷ []) [] e))
last_same (w ∷ xs) (z ∷ ys) x y e =
    let first = head_of w z (xs ++ x ∷ []) (ys ++ y ∷ []) e in
    let rest = last_same xs ys x y (tail_of w z (xs ++ x ∷ []) (ys ++ y ∷ []) e) in
    ((λ i. first i ∷ rest.0 i), rest.1)

-- ---- files

names_with : (ss : List Source) (es : List (List Entry)) → names_of (with_edits ss es) ≡ names_of ss
names_with [] es = refl
names_with (s ∷ ss) [] = refl
names_with (s ∷ ss) (e ∷ es) = ap (λ (ns : List (List ℕ)). s.name ∷ ns) (names_with ss es)

same_sources : (ss ts : List Source) → names_of ss ≡ names_of ts → texts_of ss ≡ texts_of ts → ss ≡ ts
same_sources [] [] n t = refl
same_sources [] (y ∷ ts) n t = absurd cc
same_sources (x ∷ ss) [] n t = absurd cc
same_sources (x ∷ ss) (y ∷ ts) n t =
    let name = head_of x.name y.name (names_of ss) (names_of ts) n in
    let text = head_of x.text y.text (texts_of ss) (texts_of ts) t in
    let rest = same_sources ss ts (tail_of x.name y.name (names_of ss) (names_of ts) n) (tail_of x.text y.text (texts_of ss) (texts_of ts) t) in
    λ i. record { name = name i; text = text i } ∷ rest i

-- ---- the undoing

undo_no_show : (file : List ℕ) (of : What) → step.Undo ≡ step.Show file of → ⊥
undo_no_show file of e = cc

undo_no_redo : step.Undo ≡ step.Redo → ⊥
undo_no_redo e = cc

module _ (s t : State) (ask : Request) (names : List (List ℕ)) (n : ℕ) (is : Refactors s ask names n t) where
  undo_is : t.undo ≡ s.undo ++ texts_of s.files ∷ []
  undo_is = ap (λ (x : State). x.undo) is.becomes

  files_are : t.files ≡ with_edits s.files is.edits
  files_are = ap (λ (x : State). x.files) is.becomes

  back : (u : State) → IsUndone t u → IsTakenBack s t undone u
  back u h =
      let last = last_same h.front s.undo h.texts (texts_of s.files) (sym h.had ∙ undo_is) in
      let named : names_of u.files ≡ names_of s.files = h.names ∙ ap names_of files_are ∙ names_with s.files is.edits in
      let redo : t.redo ≡ [] = ap (λ (x : State). x.redo) is.becomes in
      record {
        told = refl;
        files = same_sources u.files s.files named (h.back ∙ last.1);
        undo = h.undo ∙ last.0;
        redo = h.redo ∙ ap (λ (ts : List (List (List ℕ))). ts ++ texts_of t.files ∷ []) redo;
        shown = h.shown ∙ ap (λ (x : State). x.shown) is.becomes;
      }

  pub undone_after : (u : State) (answer : Reply) → Steps t step.Undo answer u → IsTakenBack s t answer u
  undone_after u edited h = absurd (undo_no_edit h.1.edit.file h.1.text h.1.span.from h.1.span.to h.1.edit.is)
  undone_after u (refactored names n) h = absurd h.1
  undone_after u (shown lines) h = absurd (undo_no_show h.1.shows.shows.file h.1.shows.shown h.1.shows.shows.is)
  undone_after u undone h = back u h.1.1
  undone_after u redone h = absurd (undo_no_redo h.1.0)
  undone_after u (refused r) h = absurd (last_there s.undo (texts_of s.files) (sym undo_is ∙ (undo_refusals t r h.0.applies).1))
