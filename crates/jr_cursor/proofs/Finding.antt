-- What is found, by one property or by another.
use Rattle.std.proofs.Common.{◌≡◌, ℕ, zero, suc, ◌+◌, ◌-◌, ◌<◌, List, [], ◌∷◌, Option, Some, None, Bool, true, false, length, refl, sym, ap, subst, ◌∙◌, inl, inr, arith}
use Rattle.std.specs.Prelude.{◌⊎◌, ◌++◌, slice_get, nat_lt, if◌then◌else◌}
use Rattle.std.proofs.lemmas.Bool.{ltb-true, ltb-false}
use Rattle.std.proofs.lemmas.Option.{none-some, same_Some}
use Rattle.jr_table.specs.Decls.{LocalKey, Decl, local_decl}
use Rattle.jr_table.specs.Rows.{Row}
use Rattle.jr_table.specs.Prelude.{prelude_rows}
use Rattle.jr_table.specs.Conditions.{AreRows}
use Rattle.jr_bind.specs.Bounds.{Reference, decl_in}
use Rattle.jr_images.specs.Targets.{IsOfPrelude}
use Rattle.jr_cursor.specs.Names.{Finds, bound_there}

-- ---- answers

-- one property in place of another: each that has the first has the second, and where one has the
-- second and is none of the prelude's, one has the first
pub finds_to : (rows : List Row) (P Q : Decl → Type 0) (o : Option Decl) → ((d : Decl) → P d → Q d)
    → ((d : Decl) → Q d → (IsOfPrelude rows d → ⊥) → (e : Decl) × P e × (IsOfPrelude rows e → ⊥))
    → Finds rows P o → Finds rows Q o
finds_to rows P Q None to back h = λ d q own. let r = back d q own in h r.0 r.1 r.2
finds_to rows P Q (Some d) to back h = (to d h.0, h.1)

-- the first of two, where nothing is found of the other
pub finds_more : (rows : List Row) (P Q : Decl → Type 0) (a o : Option Decl) → a ≡ None → Finds rows P a → Finds rows Q o → Finds rows (λ d. P d ⊎ Q d) o
finds_more rows P Q None None e f g = λ d h own. elim h [ inl p ↦ f d p own | inr q ↦ g d q own ]
finds_more rows P Q None (Some d) e f g = (inr g.0, g.1)
finds_more rows P Q (Some x) o e f g = absurd cc

pub finds_first : (rows : List Row) (P Q : Decl → Type 0) (a : Option Decl) (d : Decl) → a ≡ Some d → Finds rows P a → Finds rows (λ d. P d ⊎ Q d) (Some d)
finds_first rows P Q None d e f = absurd cc
finds_first rows P Q (Some x) d e f = let same = same_Some x d e in (inl (subst P same f.0), subst (λ y. IsOfPrelude rows y → ⊥) same f.1)

-- ---- no local is of the prelude

front : (n : ℕ) (xs ys : List Row) → n < length xs → slice_get (xs ++ ys) n ≡ slice_get xs n
front n [] ys lt = absurd (omega (arith, lt))
front zero (x ∷ xs) ys lt = refl
front (suc n) (x ∷ xs) ys lt = front n xs ys (omega (arith, lt))

prelude_declares : (n : ℕ) (r : Row) → slice_get prelude_rows n ≡ Some r → (k : LocalKey) → r.decl ≡ local_decl k → ⊥
prelude_declares zero r e k is = let s = ap (λ (x : Row). x.decl) (same_Some _ r e) in let t = s ∙ is in absurd cc
prelude_declares (suc zero) r e k is = let s = ap (λ (x : Row). x.decl) (same_Some _ r e) in let t = s ∙ is in absurd cc
prelude_declares (suc (suc zero)) r e k is = let s = ap (λ (x : Row). x.decl) (same_Some _ r e) in let t = s ∙ is in absurd cc
prelude_declares (suc (suc (suc zero))) r e k is = let s = ap (λ (x : Row). x.decl) (same_Some _ r e) in let t = s ∙ is in absurd cc
prelude_declares (suc (suc (suc (suc zero)))) r e k is = let s = ap (λ (x : Row). x.decl) (same_Some _ r e) in let t = s ∙ is in absurd cc
prelude_declares (suc (suc (suc (suc (suc zero))))) r e k is = let s = ap (λ (x : Row). x.decl) (same_Some _ r e) in let t = s ∙ is in absurd cc
prelude_declares (suc (suc (suc (suc (suc (suc zero)))))) r e k is = let s = ap (λ (x : Row). x.decl) (same_Some _ r e) in let t = s ∙ is in absurd cc
prelude_declares (suc (suc (suc (suc (suc (suc (suc zero))))))) r e k is = let s = ap (λ (x : Row). x.decl) (same_Some _ r e) in let t = s ∙ is in absurd cc
prelude_declares (suc (suc (suc (suc (suc (suc (suc (suc n)))))))) r e k is = absurd (none-some r e)

pub local_foreign : (rows : List Row) → AreRows rows → (k : LocalKey) → IsOfPrelude rows (local_decl k) → ⊥
local_foreign rows fit k h =
    let row = h.2 in
    let lt = h.1 in
    let there = sym (front h.0 prelude_rows fit.own lt) ∙ sym (ap (λ (rs : List Row). slice_get rs h.0) fit.prelude) ∙ row.stands in
    prelude_declares h.0 row.row there k row.declares

-- ---- what is bound there, by its place in a member

pub bound_within : (at from : ℕ) (rs : List Reference) (d : Decl) → bound_there at from rs ≡ Some d → (n : ℕ) × (from + n ≡ at) × (decl_in rs n ≡ Some d)
bound_within at from rs d e = by (nat_lt at from) refl e
  where
    by : (b : Bool) → nat_lt at from ≡ b → (if b then None else decl_in rs (at - from)) ≡ Some d → (n : ℕ) × (from + n ≡ at) × (decl_in rs n ≡ Some d)
    by true is h = absurd (none-some d h)
    by false is h = let le = ltb-false at from is in (at - from, omega (arith, le), h)

pub within_bound : (at from n : ℕ) (rs : List Reference) (d : Decl) → from + n ≡ at → decl_in rs n ≡ Some d → bound_there at from rs ≡ Some d
within_bound at from n rs d is e = by (nat_lt at from) refl
  where
    by : (b : Bool) → nat_lt at from ≡ b → (if b then None else decl_in rs (at - from)) ≡ Some d
    by true less = let lt = ltb-true at from less in absurd (omega (arith, lt, is))
    by false less = let m : n ≡ at - from = omega (arith, is) in subst (λ (k : ℕ). decl_in rs k ≡ Some d) m e
