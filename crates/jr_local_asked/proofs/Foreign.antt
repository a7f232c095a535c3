-- No local is of the prelude. (`jr_cursor: proofs/Finding` has the same, which it doesn't export.)
use Rattle.std.proofs.Common.{◌≡◌, ℕ, zero, suc, ◌<◌, Some, List, [], ◌∷◌, length, refl, sym, ap, ◌∙◌, arith}
use Rattle.std.specs.Prelude.{◌++◌, slice_get}
use Rattle.std.proofs.lemmas.Option.{none-some, same_Some}
use Rattle.jr_table.specs.Decls.{LocalKey, local_decl}
use Rattle.jr_table.specs.Rows.{Row}
use Rattle.jr_table.specs.Prelude.{prelude_rows}
use Rattle.jr_table.specs.Conditions.{AreRows}
use Rattle.jr_images.specs.Targets.{IsOfPrelude}

front : (n : ℕ) (xs ys : List Row) → n < length xs → slice_get (xs ++ ys) n ≡ slice_get xs n
front n [] ys lt = absurd (omega (arith, lt))
front zero (x ∷ xs) ys lt = refl
front (suc n) (x ∷ xs) ys lt = front n xs ys (omega (arith, lt))

prelude_declares : (n : ℕ) (r : Row) → slice_get prelude_rows n ≡ Some r → (k : LocalKey) → r.decl ≡ local_decl k → ⊥
prelude_declares zero r e k is = let s = ap (λ (x : Row). x.decl) (same_Some _ r e) in let t = s ∙ is in absurd cc
prelude_declares (suc zero) r e k is = let s = ap (λ (x : Row). x.decl) (same_Some _ r e) in let t = s ∙ is in absurd cc
prelude_declares (suc (suc zero)) r e k is = let s = ap (λ (x : Row). x.decl) (same_Some _ r e) in let t = s ∙ is in absurd cc
prelude_declares (suc (suc (suc zero))) r e k is = let s = ap (λ (x : Row). x.decl) (same_Some _ r e) in let t = s ∙ is in absurd cc
prelude_declares (suc (suc (suc (suc zero)))) r e k is = let s = ap (λ (x : Row). x.decl) (same_Some _ r e) in let t = s ∙ is in absurd cc
prelude_declares (suc (suc (suc (suc (suc zero))))) r e k is = let s = ap (λ (x : Row). x.decl) (same_Some _ r e) in let t = s ∙ is in absurd cc
prelude_declares (suc (suc (suc (suc (suc (suc zero)))))) r e k is = let s = ap (λ (x : Row). x.decl) (same_Some _ r e) in let t = s ∙ is in absurd cc
prelude_declares (suc (suc (suc (suc (suc (suc (suc zero))))))) r e k is = let s = ap (λ (x : Row). x.decl) (same_Some _ r e) in let t = s ∙ is in absurd cc
prelude_declares (suc (suc (suc (suc (suc (suc (suc (suc n)))))))) r e k is = absurd (none-some r e)

pub local_foreign : (rows : List Row) → AreRows rows → (k : LocalKey) → IsOfPrelude rows (local_decl k) → ⊥
local_foreign rows fit k h =
    let row = h.2 in
    let lt = h.1 in
    let there = sym (front h.0 prelude_rows fit.own lt) ∙ sym (ap (λ (rs : List Row). slice_get rs h.0) fit.prelude) ∙ row.stands in
    prelude_declares h.0 row.row there k row.declares
