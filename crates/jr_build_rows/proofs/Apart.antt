-- Rows that declare different things.
use Rattle.std.proofs.Common.{◌≡◌, ℕ, zero, suc, List, [], ◌∷◌, ◌++◌, Option, Some, None, Bool, true, false, refl, sym, ap, subst, ◌∙◌, inl, inr}
use Rattle.std.specs.Prelude.{slice_get, ◌⊎◌, ◌&&◌, not, codes}
use Rattle.jr_table.specs.Decls.{Decl}
use Rattle.jr_table.specs.Rows.{Row}
use Rattle.jr_table.specs.Entries.{IsRowOf, class_of}
use Rattle.jr_table.specs.SameDecls.{same_decl, decl_decides}
use Rattle.jr_table.specs.Prelude.{prelude_rows}
use Rattle.jr_table.specs.Resolving.{IsPreludeClass}
use Rattle.jr_build_declared.proofs.Earliest.{inside}

-- one of the rows
abbrev pub In : List Row → Row → Type 0
In [] x = ⊥
In (y ∷ ys) x = (y ≡ x) ⊎ In ys x

pub in_left : (xs ys : List Row) (x : Row) → In xs x → In (xs ++ ys) x
in_left [] ys x h = absurd h
in_left (y ∷ xs) ys x (inl e) = inl e
in_left (y ∷ xs) ys x (inr h) = inr (in_left xs ys x h)

pub in_right : (xs ys : List Row) (x : Row) → In ys x → In (xs ++ ys) x
in_right [] ys x h = h
in_right (y ∷ xs) ys x h = inr (in_right xs ys x h)

pub in_either : (xs ys : List Row) (x : Row) → In (xs ++ ys) x → In xs x ⊎ In ys x
in_either [] ys x h = inr h
in_either (y ∷ xs) ys x (inl e) = inl (inl e)
in_either (y ∷ xs) ys x (inr h) = elim (in_either xs ys x h) [ inl l ↦ inl (inr l) | inr r ↦ inr r ]

pub stands_in : (rows : List Row) (i : ℕ) (r : Row) → slice_get rows i ≡ Some r → In rows r
stands_in [] i r e = absurd cc
stands_in (x ∷ xs) zero r e = inl (inside x r e)
stands_in (x ∷ xs) (suc i) r e = inr (stands_in xs i r e)

pub in_stands : (rows : List Row) (r : Row) → In rows r → (i : ℕ) × (slice_get rows i ≡ Some r)
in_stands [] r h = absurd h
in_stands (x ∷ xs) r (inl e) = (0, ap Some e)
in_stands (x ∷ xs) r (inr h) = let p = in_stands xs r h in (suc p.0, p.1)

-- no two declare the same
abbrev pub Apart : List Row → Type 0
Apart [] = Unit {0}
Apart (r ∷ rs) = ((x : Row) → In rs x → r.decl ≡ x.decl → ⊥) × Apart rs

pub one_each : (rows : List Row) → Apart rows → (d : Decl) (i j : ℕ) → IsRowOf rows d i → IsRowOf rows d j → i ≡ j
one_each [] apart d i j x y = absurd (let e = x.stands in cc)
one_each (r ∷ rs) apart d zero zero x y = refl
one_each (r ∷ rs) apart d zero (suc j) x y =
    absurd (apart.0 y.row (stands_in rs j y.row y.stands) (ap (λ (z : Row). z.decl) (inside r x.row x.stands) ∙ x.declares ∙ sym y.declares))
one_each (r ∷ rs) apart d (suc i) zero x y =
    absurd (apart.0 x.row (stands_in rs i x.row x.stands) (ap (λ (z : Row). z.decl) (inside r y.row y.stands) ∙ y.declares ∙ sym x.declares))
one_each (r ∷ rs) apart d (suc i) (suc j) x y = ap suc (one_each rs apart.1 d i j
    (record { row = x.row; stands = x.stands; declares = x.declares }) (record { row = y.row; stands = y.stands; declares = y.declares }))

pub apart_join : (xs ys : List Row) → Apart xs → Apart ys → ((x y : Row) → In xs x → In ys y → x.decl ≡ y.decl → ⊥) → Apart (xs ++ ys)
apart_join [] ys a b cross = b
apart_join (x ∷ xs) ys a b cross = (
  (λ y h e. elim (in_either xs ys y h) [ inl l ↦ a.0 y l e | inr r ↦ cross x y (inl refl) r e ]),
  apart_join xs ys a.1 b (λ u v h k. cross u v (inr h) k),
)

-- by a test
none_same : Decl → List Row → Bool
none_same d [] = true
none_same d (x ∷ xs) = not (same_decl d x.decl) && none_same d xs

apart_test : List Row → Bool
apart_test [] = true
apart_test (r ∷ rs) = none_same r.decl rs && apart_test rs

both : (a b : Bool) → (a && b) ≡ true → (a ≡ true) × (b ≡ true)
both true b e = (refl, e)
both false b e = absurd cc

not_true : (b : Bool) → not b ≡ true → b ≡ false
not_true true e = absurd cc
not_true false e = refl

none_is_same : (d : Decl) (rows : List Row) → none_same d rows ≡ true → (x : Row) → In rows x → d ≡ x.decl → ⊥
unfolding none_same
none_is_same d [] t x h e = h
none_is_same d (y ∷ ys) t x (inl s) e =
    let p = not_true (same_decl d y.decl) (both (not (same_decl d y.decl)) (none_same d ys) t).0 in
    let q = (decl_decides d y.decl).1 (e ∙ sym (ap (λ (z : Row). z.decl) s)) in cc
none_is_same d (y ∷ ys) t x (inr h) e = none_is_same d ys (both (not (same_decl d y.decl)) (none_same d ys) t).1 x h e

apart_by_test : (rows : List Row) → apart_test rows ≡ true → Apart rows
unfolding apart_test
apart_by_test [] t = tt
apart_by_test (r ∷ rs) t = let p = both (none_same r.decl rs) (apart_test rs) t in (none_is_same r.decl rs p.0, apart_by_test rs p.1)

pub prelude_apart : Apart prelude_rows
unfolding apart_test none_same
prelude_apart = apart_by_test prelude_rows refl

-- the prelude's rows are of its classes
pub prelude_names : (x : Row) → In prelude_rows x → IsPreludeClass (class_of x.decl).name
prelude_names x (inl e) = subst (λ (r : Row). IsPreludeClass (class_of r.decl).name) e (inl refl)
prelude_names x (inr (inl e)) = subst (λ (r : Row). IsPreludeClass (class_of r.decl).name) e (inl refl)
prelude_names x (inr (inr (inl e))) = subst (λ (r : Row). IsPreludeClass (class_of r.decl).name) e (inr (inl refl))
prelude_names x (inr (inr (inr (inl e)))) = subst (λ (r : Row). IsPreludeClass (class_of r.decl).name) e (inr (inr (inl refl)))
prelude_names x (inr (inr (inr (inr (inl e))))) = subst (λ (r : Row). IsPreludeClass (class_of r.decl).name) e (inr (inr (inr refl)))
prelude_names x (inr (inr (inr (inr (inr (inl e)))))) = subst (λ (r : Row). IsPreludeClass (class_of r.decl).name) e (inr (inr (inr refl)))
prelude_names x (inr (inr (inr (inr (inr (inr (inl e))))))) = subst (λ (r : Row). IsPreludeClass (class_of r.decl).name) e (inr (inr (inr refl)))
prelude_names x (inr (inr (inr (inr (inr (inr (inr (inl e)))))))) = subst (λ (r : Row). IsPreludeClass (class_of r.decl).name) e (inr (inr (inr refl)))
prelude_names x (inr (inr (inr (inr (inr (inr (inr (inr z)))))))) = absurd z
