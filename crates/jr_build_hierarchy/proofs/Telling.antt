-- One superclass more is known: what was known holds on, and fewer aren't known.
use Rattle.std.proofs.Common.{◌≡◌, ◌≢◌, ℕ, zero, suc, ◌+◌, ◌<◌, ◌≤◌, List, [], ◌∷◌, length, Option, Some, None, Bool, true, false, refl, sym, ap, subst, ◌∙◌, inl, inr, arith}
use Rattle.std.specs.Prelude.{slice_get, slice_set, option_and_then, is_some, ◌⊎◌}
use Rattle.jr_index.specs.Parents.{next, AreWithin, ComesEarly}
use Rattle.jr_table.specs.Keys.{ClassKey}
use Rattle.jr_table.specs.Prelude.{top_key}
use Rattle.jr_table.specs.DeclaredItems.{DeclaredClass, Item, class_item, field_item, method_item, ctor_item, DeclaredItem}
use Rattle.jr_table.specs.Faults.{At}
use Rattle.jr_table.specs.Resolving.{TopParent}
use Rattle.jr_build_hierarchy.specs.Hierarchies.{Hierarchy, key_at, parent_at, parent_of_item, first_told, tells, with_parent, unknown}
use Rattle.jr_build_hierarchy.specs.Superclasses.{HasClasses, KnowsTops, IsParentAt, HasParent, IsSettled}
use Rattle.jr_build_hierarchy.proofs.ClassNumbers.{inside}
use Rattle.jr_build_hierarchy.proofs.MemberTypes.{below}
use Rattle.jr_build_hierarchy.proofs.Settling.{told_parent}

-- writes
next_other : (ps : List (Option ℕ)) (i j : ℕ) (o : Option ℕ) → (j ≡ i → ⊥) → next (slice_set ps i o) j ≡ next ps j
next_other [] i j o n = refl
next_other (x ∷ xs) zero zero o n = absurd (n refl)
next_other (x ∷ xs) zero (suc j) o n = refl
next_other (x ∷ xs) (suc i) zero o n = refl
next_other (x ∷ xs) (suc i) (suc j) o n = next_other xs i j o (λ e. n (ap suc e))

next_same : (ps : List (Option ℕ)) (i : ℕ) (o : Option ℕ) → i < length ps → next (slice_set ps i o) i ≡ o
next_same [] i o lt = absurd (omega arith)
next_same (x ∷ xs) zero o lt = refl
next_same (x ∷ xs) (suc i) o lt = next_same xs i o (omega (arith, lt))

same_size : (ps : List (Option ℕ)) (i : ℕ) (o : Option ℕ) → length (slice_set ps i o) ≡ length ps
same_size [] i o = refl
same_size (x ∷ xs) zero o = refl
same_size (x ∷ xs) (suc i) o = ap suc (same_size xs i o)

fewer : (ps : List (Option ℕ)) (i p : ℕ) → i < length ps → next ps i ≡ None → unknown (slice_set ps i (Some p)) < unknown ps
fewer [] i p lt e = absurd (omega arith)
fewer (None ∷ xs) zero p lt e = omega arith
fewer (Some x ∷ xs) zero p lt e = absurd cc
fewer (None ∷ xs) (suc i) p lt e = let l = fewer xs i p (omega (arith, lt)) e in omega (arith, l)
fewer (Some x ∷ xs) (suc i) p lt e = fewer xs i p (omega (arith, lt)) e

-- what is told
pub is_told : (h : Hierarchy) (j : ℕ) (item : Item) (p : ℕ) → tells h j item ≡ Some p → (parent_at h j ≡ None) × (parent_of_item h item ≡ Some p)
is_told h j item p e = by (parent_at h j) refl e
  where
    by : (o : Option ℕ) → parent_at h j ≡ o → first_told o (parent_of_item h item) ≡ Some p → (parent_at h j ≡ None) × (parent_of_item h item ≡ Some p)
    by None f e = (f, e)
    by (Some q) f e = absurd cc

pub not_told : (h : Hierarchy) (j : ℕ) (item : Item) → tells h j item ≡ None → parent_at h j ≡ None → parent_of_item h item ≡ None
not_told h j item e f = ap (λ o. first_told o (parent_of_item h item)) (sym f) ∙ e

module _ (declarations : List DeclaredItem) (early : (parents : List (Option ℕ)) (n : ℕ) → AreWithin parents n → ComesEarly parents n) where
  order : (a b : ℕ) → (a ≡ b) ⊎ (a ≡ b → ⊥)
  order a b = grind arith

  -- another superclass
  module _ (h : Hierarchy) (knows : KnowsTops declarations h) (j p : ℕ) (none : parent_at h j ≡ None) (is : IsParentAt declarations h j p) where
    h' : Hierarchy
    h' = record h { parents = slice_set h.parents j (Some p) }

    inside_list : j < length h.parents
    inside_list = let l = below declarations h early knows j is.class is.is_class in let s = knows.size in omega (arith, l, s)

    with_one : KnowsTops declarations (with_parent h j (Some p))
    unfolding h'
    with_one = record {
      classes = record { unique = knows.classes.unique; keys = knows.classes.keys; privates = knows.classes.privates; inner = knows.classes.inner; finds = knows.classes.finds };
      size = same_size h.parents j (Some p) ∙ knows.size;
      each = λ i q e. each i q e (order i j);
      tops = λ i name q e t. tops i (knows.tops i name q e t) (order i j);
    }
      where
        again : (i q : ℕ) → IsParentAt declarations h i q → IsParentAt declarations (with_parent h j (Some p)) i q
        again i q a = record { class = a.class; parent = a.parent; is_class = a.is_class; is_parent = a.is_parent; extends = a.extends }

        each : (i q : ℕ) → next (slice_set h.parents j (Some p)) i ≡ Some q → ((i ≡ j) ⊎ (i ≡ j → ⊥)) → IsParentAt declarations (with_parent h j (Some p)) i q
        each i q e (inr other) = again i q (knows.each i q (sym (next_other h.parents j i (Some p) other) ∙ e))
        each i q e (inl same) =
            let mine : p ≡ q = inside _ _ (sym (next_same h.parents j (Some p) inside_list) ∙ ap (next (slice_set h.parents j (Some p))) (sym same) ∙ e) in
            again i q (subst (λ x. IsParentAt declarations h x q) (sym same) (subst (IsParentAt declarations h j) mine is))

        tops : (i : ℕ) {q : ClassKey} → HasParent h i q → ((i ≡ j) ⊎ (i ≡ j → ⊥)) → HasParent (with_parent h j (Some p)) i q
        tops i a (inr other) = record { number = a.number; known = next_other h.parents j i (Some p) other ∙ a.known; is = a.is }
        tops i a (inl same) = let k = a.known in let n = ap (parent_at h) same ∙ none in absurd cc

    fewer_unknown : unknown (with_parent h j (Some p)).parents < unknown h.parents
    fewer_unknown = fewer h.parents j p inside_list none

  module _ (h : Hierarchy) (knows : KnowsTops declarations h) (j file : ℕ) where
    parent_told : (item : Item) (p : ℕ) → At declarations j file item → parent_of_item h item ≡ Some p → IsParentAt declarations h j p
    parent_told (class_item c) p at e = told_parent declarations h early knows j file c p at e
    parent_told (field_item f) p at e = absurd cc
    parent_told (method_item m) p at e = absurd cc
    parent_told (ctor_item c) p at e = absurd cc

    pub holds_on : (item : Item) → At declarations j file item → KnowsTops declarations (with_parent h j (tells h j item))
    holds_on item at = by (tells h j item) refl
      where
        by : (o : Option ℕ) → tells h j item ≡ o → KnowsTops declarations (with_parent h j o)
        by None e = knows
        by (Some p) e = let t = is_told h j item p e in with_one h knows j p t.0 (parent_told item p at t.1)

    pub count_falls : (item : Item) → At declarations j file item → is_some (tells h j item) ≡ true → unknown (with_parent h j (tells h j item)).parents < unknown h.parents
    count_falls item at some = by (tells h j item) refl some
      where
        by : (o : Option ℕ) → tells h j item ≡ o → is_some o ≡ true → unknown (with_parent h j o).parents < unknown h.parents
        by None e some = absurd cc
        by (Some p) e some = let t = is_told h j item p e in fewer_unknown h knows j p t.0 (parent_told item p at t.1)

    pub stays : (item : Item) → is_some (tells h j item) ≡ false → (with_parent h j (tells h j item) ≡ h) × (tells h j item ≡ None)
    stays item none = by (tells h j item) refl none
      where
        by : (o : Option ℕ) → tells h j item ≡ o → is_some o ≡ false → (with_parent h j o ≡ h) × (tells h j item ≡ None)
        by None e none = (refl, e)
        by (Some p) e none = absurd cc
