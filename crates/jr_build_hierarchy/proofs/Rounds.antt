-- One look at each class, and what a round leaves.
use Rattle.std.proofs.Common.{◌≡◌, ℕ, suc, ◌+◌, ◌<◌, ◌≤◌, List, [], ◌∷◌, length, Option, Some, None, Bool, true, false, refl, sym, ap, subst, ◌∙◌, inl, inr, arith}
use Rattle.std.specs.Prelude.{slice_get, is_some, ◌⊎◌, ◌||◌}
use Rattle.std.proofs.lemmas.Option.{slice_get_within}
use Rattle.jr_table.specs.DeclaredItems.{DeclaredClass, Item, class_item, DeclaredItem}
use Rattle.jr_table.specs.Faults.{At}
use Rattle.jr_build_hierarchy.specs.Hierarchies.{Hierarchy, class_keys, declaration_keys, prelude_classes, parent_at, parent_of_item, tells, with_parent, unknown}
use Rattle.jr_build_hierarchy.specs.Superclasses.{KnowsTops, IsSettled}
use Rattle.jr_build_hierarchy.proofs.ClassNumbers.{one_declaration}
use Rattle.jr_build_hierarchy.proofs.HierarchyLaws.{comes_early}
use Rattle.jr_build_hierarchy.proofs.Telling.{holds_on, count_falls, stays, not_told}

-- nothing more can be told of the classes among the first n declarations
abbrev pub IsSettledBelow : List DeclaredItem → Hierarchy → ℕ → Type 0
IsSettledBelow declarations h n = (j file : ℕ) (c : DeclaredClass) → j < n → At declarations j file (class_item c) → parent_at h j ≡ None → parent_of_item h (class_item c) ≡ None

many : (declarations : List DeclaredItem) → length declarations ≤ length (class_keys declarations)
many [] = omega arith
many (s ∷ ss) = let l = many ss in omega (arith, l)

module _ (declarations : List DeclaredItem) where
  pub in_reach : (h : Hierarchy) → KnowsTops declarations h → (n : ℕ) → n < length declarations → n < length h.parents
  in_reach h knows n lt = let s = knows.size in let k = ap length knows.classes.keys in let m = many declarations in omega (arith, s, k, m, lt)

  pub none_settled : (h : Hierarchy) → IsSettledBelow declarations h 0
  none_settled h = λ j file c lt at none. absurd (omega (arith, lt))

  pub all_settled : (h : Hierarchy) (n : ℕ) → length declarations ≤ n → IsSettledBelow declarations h n → IsSettled declarations h
  all_settled h n past settled = λ j file c outer at some none. settled j file c (let l = slice_get_within declarations j _ at.stands in omega (arith, l, past)) at none

  -- declaration n is looked at
  module _ (old new first : Hierarchy) (n file : ℕ) (item : Item) (found told : Bool) (at : At declarations n file item) (is : new ≡ with_parent old n (tells old n item)) (answers : told ≡ is_some (tells old n item)) (knows : KnowsTops declarations old) where
    pub still_knows : KnowsTops declarations new
    still_knows = subst (KnowsTops declarations) (sym is) (holds_on declarations comes_early old knows n file item at)

    untold : (b c : Bool) → (b || c) ≡ false → (b ≡ false) × (c ≡ false)
    untold true c e = absurd cc
    untold false c e = (refl, e)

    same : told ≡ false → (new ≡ old) × (tells old n item ≡ None)
    same e = let s = stays declarations comes_early old knows n file item (sym answers ∙ e) in (is ∙ s.0, s.1)

    pub not_more : ((found ≡ false) → old ≡ first) → (found || told) ≡ false → new ≡ first
    not_more so_far e = let u = untold found told e in (same u.1).0 ∙ so_far u.0

    split : (m k : ℕ) → m < k + 1 → (m < k) ⊎ (m ≡ k)
    split m k h = grind arith

    pub one_settled : ((found ≡ false) → IsSettledBelow declarations old n) → (found || told) ≡ false → IsSettledBelow declarations new (n + 1)
    one_settled so_far e =
        let u = untold found told e in
        let s = same u.1 in
        subst (λ h. IsSettledBelow declarations h (n + 1)) (sym s.0) (λ j f c lt stands none. by j f c stands none (split j n lt) (so_far u.0) s.1)
      where
        by : (j f : ℕ) (c : DeclaredClass) → At declarations j f (class_item c) → parent_at old j ≡ None → ((j < n) ⊎ (j ≡ n)) → IsSettledBelow declarations old n → tells old n item ≡ None → parent_of_item old (class_item c) ≡ None
        by j f c stands none (inl l) below none_told = below j f c l stands none
        by j f c stands none (inr e) below none_told =
            let one = one_declaration declarations n f file (class_item c) item (ap (slice_get declarations) (sym e) ∙ stands.stands) at.stands in
            ap (parent_of_item old) one.1 ∙ not_told old n item none_told (ap (parent_at old) (sym e) ∙ none)

    pub one_fewer : ((found ≡ false) → old ≡ first) → ((found ≡ true) → unknown old.parents < unknown first.parents) → (found || told) ≡ true → unknown new.parents < unknown first.parents
    one_fewer so_far fewer e = by found refl told refl e
      where
        falls : told ≡ true → unknown new.parents < unknown old.parents
        falls t = subst (λ (h : Hierarchy). unknown h.parents < unknown old.parents) (sym is) (count_falls declarations comes_early old knows n file item at (sym answers ∙ t))

        by : (b : Bool) → found ≡ b → (d : Bool) → told ≡ d → (b || d) ≡ true → unknown new.parents < unknown first.parents
        by true f true t e = let l = fewer f in let m = falls t in omega (arith, l, m)
        by true f false t e = subst (λ (h : Hierarchy). unknown h.parents < unknown first.parents) (sym (same t).0) (fewer f)
        by false f true t e = subst (λ (h : Hierarchy). unknown new.parents < unknown h.parents) (so_far f) (falls t)
        by false f false t e = absurd cc
