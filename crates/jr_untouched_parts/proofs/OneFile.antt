-- Where one file of a program has an effect, the edits, the count and the losses of all are its own.
use Rattle.std.proofs.Common.{◌≡◌, ◌≢◌, ℕ, zero, suc, ◌+◌, List, [], ◌∷◌, ◌++◌, length, map, Some, refl, sym, ap, subst, ◌∙◌, arith}
use Rattle.std.specs.Prelude.{slice_get, sum_by, fold}
use Rattle.std.proofs.lemmas.List.{append-nil}
use Rattle.jr_text.specs.declared.spans.Span.{Span}
use Rattle.jr_text.specs.Edits.{Entry}
use Rattle.jr_ast.specs.MemberTree as syntax
use Rattle.jr_rewrite.specs.Respellings.{Change, Loss}
use Rattle.jr_rewrite.specs.Rewritten.{Rewritten}
use Rattle.jr_rewrite.specs.Edited.{entries_of}
use Rattle.jr_rewrite.specs.Spots.{Spotted}
use Rattle.jr_rewrite.specs.Rewrites.{Choosing}
use Rattle.jr_table.specs.DeclaredItems.{DeclaredItem}
use Rattle.jr_new_bodies.specs.Effects.{Effect, no_effect, effect_of}
use Rattle.jr_plan.specs.Transforms.{Lost, TransformsFiles, edits_of, kept_lost, kept_from}

-- what comes of a file
abbrev NewFile : Type 0
NewFile = Rewritten (syntax.Unit Span)

-- nothing of it, and nothing but of the file of the number
abbrev AreUntouched : List NewFile → Type 0
AreUntouched os = (i : ℕ) (o : NewFile) → slice_get os i ≡ Some o → effect_of o ≡ no_effect

abbrev pub OnlyAt : List NewFile → ℕ → Type 0
OnlyAt os n = (i : ℕ) (o : NewFile) → (i ≡ n → ⊥) → slice_get os i ≡ Some o → effect_of o ≡ no_effect

same_file : (x y : NewFile) → Some x ≡ Some y → x ≡ y
same_file x y e = cc

-- behind the file there is nothing, nor is it in front of it
behind : (x : NewFile) (os : List NewFile) → OnlyAt (x ∷ os) 0 → AreUntouched os
behind x os only i o at = only (suc i) o (λ e. absurd cc) at

in_front : (x : NewFile) (os : List NewFile) (n : ℕ) → OnlyAt (x ∷ os) (suc n) → effect_of x ≡ no_effect
in_front x os n only = only 0 x (λ e. absurd cc) refl

later : (x : NewFile) (os : List NewFile) (n : ℕ) → OnlyAt (x ∷ os) (suc n) → OnlyAt os n
later x os n only i o apart at = only (suc i) o (λ e. apart (less i n e)) at
  where
    less : (i n : ℕ) → suc i ≡ suc n → i ≡ n
    less i n e = cc

-- ---- references that are respelled

count_none : (x : NewFile) → effect_of x ≡ no_effect → x.respelled ≡ 0
count_none x e = ap (λ (f : Effect). f.respelled) e

sum_none : (a : ℕ) (os : List NewFile) → AreUntouched os → fold (λ (n : ℕ) (o : NewFile). n + o.respelled) a os ≡ a
sum_none a [] none = refl
sum_none a (o ∷ os) none =
    let rest = sum_none (a + o.respelled) os (λ i x at. none (suc i) x at) in
    let zero_is = count_none o (none 0 o refl) in
    omega (arith, rest, zero_is)

sum_one : (a : ℕ) (os : List NewFile) (n : ℕ) (own : NewFile) → slice_get os n ≡ Some own → OnlyAt os n → fold (λ (m : ℕ) (o : NewFile). m + o.respelled) a os ≡ a + own.respelled
sum_one a [] n own at only = absurd cc
sum_one a (x ∷ os) zero own at only = sum_none (a + x.respelled) os (behind x os only) ∙ ap (λ (o : NewFile). a + o.respelled) (same_file x own at)
sum_one a (x ∷ os) (suc n) own at only =
    let rest = sum_one (a + x.respelled) os n own at (later x os n only) in
    let zero_is = count_none x (in_front x os n only) in
    omega (arith, rest, zero_is)

pub respelled_there : (os : List NewFile) (n : ℕ) (own : NewFile) → slice_get os n ≡ Some own → OnlyAt os n → sum_by (λ (o : NewFile). o.respelled) os ≡ own.respelled
respelled_there os n own at only = let e = sum_one 0 os n own at only in omega (arith, e)

-- ---- references that are lost

lose_none : (m : ℕ) (x : NewFile) → effect_of x ≡ no_effect → kept_lost m x.losses ≡ []
lose_none m x e = ap (λ (f : Effect). kept_lost m f.losses) e

kept_none : (m : ℕ) (os : List NewFile) → AreUntouched os → kept_from m os ≡ []
kept_none m [] none = refl
kept_none m (o ∷ os) none = λ i. lose_none m o (none 0 o refl) i ++ kept_none (suc m) os (λ j x at. none (suc j) x at) i

kept_one : (m : ℕ) (os : List NewFile) (n : ℕ) (own : NewFile) → slice_get os n ≡ Some own → OnlyAt os n → kept_from m os ≡ kept_lost (m + n) own.losses
kept_one m [] n own at only = absurd cc
kept_one m (x ∷ os) zero own at only =
    ap (λ (ls : List Lost). kept_lost m x.losses ++ ls) (kept_none (suc m) os (behind x os only)) ∙ append-nil (kept_lost m x.losses)
    ∙ ap (λ (o : NewFile). kept_lost m o.losses) (same_file x own at) ∙ ap (λ (k : ℕ). kept_lost k own.losses) (here m)
  where
    here : (m : ℕ) → m ≡ m + 0
    here m = omega arith
kept_one m (x ∷ os) (suc n) own at only =
    ap (λ (ls : List Lost). ls ++ kept_from (suc m) os) (lose_none m x (in_front x os n only)) ∙ kept_one (suc m) os n own at (later x os n only) ∙ ap (λ (k : ℕ). kept_lost k own.losses) (there m n)
  where
    there : (m n : ℕ) → suc m + n ≡ m + suc n
    there m n = omega arith

pub lost_there : (os : List NewFile) (n : ℕ) (own : NewFile) → slice_get os n ≡ Some own → OnlyAt os n → kept_from 0 os ≡ kept_lost n own.losses
lost_there os n own at only = kept_one 0 os n own at only ∙ ap (λ (k : ℕ). kept_lost k own.losses) (plus n)
  where
    plus : (n : ℕ) → 0 + n ≡ n
    plus n = omega arith

-- ---- edits

edits_none : (x : NewFile) → effect_of x ≡ no_effect → entries_of x.changes ≡ []
edits_none x e = ap (λ (f : Effect). entries_of f.changes) e

same_list : (x y : List Entry) → Some x ≡ Some y → x ≡ y
same_list x y e = cc

all_none : (all : List (List Entry)) (os : List NewFile) → length all ≡ length os → ((i : ℕ) (es : List Entry) → slice_get all i ≡ Some es → es ≡ []) → AreUntouched os → all ≡ edits_of os
all_none [] [] many each none = refl
all_none [] (o ∷ os) many each none = absurd (omega (arith, many))
all_none (es ∷ all) [] many each none = absurd (omega (arith, many))
all_none (es ∷ all) (o ∷ os) many each none =
    let first : es ≡ entries_of o.changes = each 0 es refl ∙ sym (edits_none o (none 0 o refl)) in
    let rest = all_none all os (omega (arith, many)) (λ i fs at. each (suc i) fs at) (λ i x at. none (suc i) x at) in
    λ i. first i ∷ rest i

pub edits_there : (all : List (List Entry)) (os : List NewFile) (n : ℕ) (own : NewFile) → length all ≡ length os → slice_get all n ≡ Some (entries_of own.changes)
    → ((i : ℕ) (es : List Entry) → (i ≡ n → ⊥) → slice_get all i ≡ Some es → es ≡ []) → slice_get os n ≡ Some own → OnlyAt os n → all ≡ edits_of os
edits_there [] os n own many its each at only = absurd cc
edits_there (es ∷ all) [] n own many its each at only = absurd (omega (arith, many))
edits_there (es ∷ all) (x ∷ os) zero own many its each at only =
    let first : es ≡ entries_of x.changes = same_list es (entries_of own.changes) its ∙ ap (λ (o : NewFile). entries_of o.changes) (sym (same_file x own at)) in
    let rest = all_none all os (omega (arith, many)) (λ i fs k. each (suc i) fs (λ e. absurd cc) k) (behind x os only) in
    λ i. first i ∷ rest i
edits_there (es ∷ all) (x ∷ os) (suc n) own many its each at only =
    let first : es ≡ entries_of x.changes = each 0 es (λ e. absurd cc) refl ∙ sym (edits_none x (in_front x os n only)) in
    let rest = edits_there all os n own (omega (arith, many)) its (λ i fs apart k. each (suc i) fs (λ e. apart (less i n e)) k) at (later x os n only) in
    λ i. first i ∷ rest i
  where
    less : (i n : ℕ) → suc i ≡ suc n → i ≡ n
    less i n e = cc

-- ---- files

pub as_many : (C : Choosing Span) (ds : List DeclaredItem) (us : List (syntax.Unit Span)) (spots : ℕ → Spotted Span) (os : List NewFile) → TransformsFiles C ds spots us os → length os ≡ length us
as_many C ds [] spots os is = ap (λ (l : List NewFile). length l) is
as_many C ds (u ∷ us) spots os (o, ps, one, rest, is) = ap (λ (l : List NewFile). length l) is ∙ ap suc (as_many C ds us (λ n. spots (suc n)) ps rest)
