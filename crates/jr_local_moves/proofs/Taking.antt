-- Sites and places are taken out of a footprint one behind the other.
use Rattle.std.proofs.Common.{◌≡◌, List, [], ◌∷◌, ◌++◌, length, map, refl, ap, sym, ◌∙◌, append_assoc, arith}

module _ {X Y : Type 0} (f : X → Y) where
  -- what is taken, with what is left, is all
  abbrev pub IsTaken : (all : List X) → (taken : List Y) → (rest : List X) → Type 0
  IsTaken all taken rest = taken ++ map f rest ≡ map f all

  pub one_taken : (all : List X) (old new : List Y) (x : X) (rest left : List X) → rest ≡ x ∷ left → new ≡ old ++ f x ∷ [] → IsTaken all old rest → IsTaken all new left
  one_taken all old new x rest left is put h = ap (λ ys. ys ++ map f left) put ∙ append_assoc old (f x ∷ []) (map f left) ∙ ap (λ xs. old ++ map f xs) (sym is) ∙ h

  none_left : (xs : List X) → length xs ≡ 0 → xs ≡ []
  none_left [] e = refl
  none_left (x ∷ xs) e = absurd (omega (arith, e))

  plain : (ys : List Y) → ys ++ [] ≡ ys
  plain [] = refl
  plain (y ∷ ys) = ap (λ zs. y ∷ zs) (plain ys)

  pub all_taken : (all : List X) (taken : List Y) (rest : List X) → length rest ≡ 0 → IsTaken all taken rest → taken ≡ map f all
  all_taken all taken rest none h = sym (ap (λ xs. taken ++ map f xs) (none_left rest none) ∙ plain taken) ∙ h
