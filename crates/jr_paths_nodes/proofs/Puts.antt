-- A list that is made of parts, in which what stands at a number is replaced.
use Rattle.std.proofs.Common.{◌≡◌, ℕ, zero, suc, ◌+◌, List, [], ◌∷◌, ◌++◌, length, map, Some, refl, sym, ap, ◌∙◌, subst, add-zero, arith}
use Rattle.std.specs.List.{slice_get, slice_set}
use Rattle.std.proofs.lemmas.List.{length-map}
use Rattle.std.proofs.lemmas.Option.{none-some, same_Some}
use Rattle.jr_paths_nodes.specs.With.{get_from}
use Rattle.jr_paths_nodes.proofs.Picks.{Lacks, each-map, past_one, past_part, in_front_from}

-- the list in which x stands at this number, where the first has the number `first`
abbrev pub set_from : {X : Type 0} → (first : ℕ) → List X → ℕ → X → List X
set_from zero xs i x = slice_set xs i x
set_from (suc first) xs zero x = xs
set_from (suc first) xs (suc i) x = set_from first xs i x

module _ {X : Type 0} where
  -- where c stands at the number i of xs, whose first has the number a, ys is xs with x there
  pub record Put (a : ℕ) (xs : List X) (i : ℕ) (c x : X) (ys : List X) : Type 0 where
    pub put : get_from a xs i ≡ Some c → ys ≡ set_from a xs i x

  pub set_from-nil : (a i : ℕ) (x : X) → set_from a [] i x ≡ []
  set_from-nil zero i x = refl
  set_from-nil (suc a) zero x = refl
  set_from-nil (suc a) (suc i) x = set_from-nil a i x

  set_past_one : (a : ℕ) (y : X) (xs : List X) (i : ℕ) (c x : X) → (y ≡ c → ⊥) → get_from a (y ∷ xs) i ≡ Some c → y ∷ set_from (suc a) xs i x ≡ set_from a (y ∷ xs) i x
  set_past_one zero y xs zero c x other h = absurd (other (same_Some y c h))
  set_past_one zero y xs (suc i) c x other h = refl
  set_past_one (suc a) y xs zero c x other h = refl
  set_past_one (suc a) y xs (suc i) c x other h = set_past_one a y xs i c x other h

  set_past_part : (a : ℕ) (L xs : List X) (i : ℕ) (c x : X) → Lacks L c → get_from a (L ++ xs) i ≡ Some c
      → L ++ set_from (a + length L) xs i x ≡ set_from a (L ++ xs) i x
  set_past_part a [] xs i c x lacks h = ap (λ k. set_from k xs i x) (add-zero a)
  set_past_part a (y ∷ L) xs i c x lacks h =
      let e : a + suc (length L) ≡ suc a + length L = omega arith in
      let other = lacks zero y refl in
      ap (λ k. y ∷ (L ++ set_from k xs i x)) e
      ∙ ap (λ l. y ∷ l) (set_past_part (suc a) L xs i c x (λ k. lacks (suc k)) (past_one a y (L ++ xs) i c other h))
      ∙ set_past_one a y (L ++ xs) i c x other h

  set_in_front : (L xs : List X) (i : ℕ) (c x : X) → Lacks xs c → slice_get (L ++ xs) i ≡ Some c → slice_set L i x ++ xs ≡ slice_set (L ++ xs) i x
  set_in_front [] xs i c x lacks h = absurd (lacks i c h refl)
  set_in_front (y ∷ L) xs zero c x lacks h = refl
  set_in_front (y ∷ L) xs (suc i) c x lacks h = ap (λ l. y ∷ l) (set_in_front L xs i c x lacks h)

  set_in_front_from : (a : ℕ) (L xs : List X) (i : ℕ) (c x : X) → Lacks xs c → get_from a (L ++ xs) i ≡ Some c → set_from a L i x ++ xs ≡ set_from a (L ++ xs) i x
  set_in_front_from zero L xs i c x lacks h = set_in_front L xs i c x lacks h
  set_in_front_from (suc a) L xs zero c x lacks h = refl
  set_in_front_from (suc a) L xs (suc i) c x lacks h = set_in_front_from a L xs i c x lacks h

  lacks_from : (a : ℕ) (xs : List X) (i : ℕ) (c : X) → Lacks xs c → get_from a xs i ≡ Some c → ⊥
  lacks_from zero xs i c lacks h = lacks i c h refl
  lacks_from (suc a) xs zero c lacks h = none-some c h
  lacks_from (suc a) xs (suc i) c lacks h = lacks_from a xs i c lacks h

  -- always so; nowhere so
  pub put_always : {a : ℕ} {xs : List X} {i : ℕ} {c x : X} {ys : List X} → ys ≡ set_from a xs i x → Put a xs i c x ys
  put_always e = record { put = λ _. e }

  pub put_none : {a : ℕ} {xs : List X} {i : ℕ} {c x : X} {ys : List X} → Lacks xs c → Put a xs i c x ys
  put_none {a} {xs} {i} {c} lacks = record { put = λ h. absurd (lacks_from a xs i c lacks h) }

  -- behind an item, behind a part, in front of a part
  pub put_one : {a : ℕ} {xs : List X} {i : ℕ} {c x : X} {ys : List X} (y : X) → (y ≡ c → ⊥) → Put (suc a) xs i c x ys → Put a (y ∷ xs) i c x (y ∷ ys)
  put_one {a} {xs} {i} {c} {x} y other p =
      record { put = λ h. ap (λ l. y ∷ l) (p.put (past_one a y xs i c other h)) ∙ set_past_one a y xs i c x other h }

  pub put_part : {a : ℕ} {xs : List X} {i : ℕ} {c x : X} {ys : List X} (L : List X) → Lacks L c → Put (a + length L) xs i c x ys → Put a (L ++ xs) i c x (L ++ ys)
  put_part {a} {xs} {i} {c} {x} L lacks p =
      record { put = λ h. ap (λ l. L ++ l) (p.put (past_part a L xs i c lacks h)) ∙ set_past_part a L xs i c x lacks h }

  pub put_front : {a : ℕ} {i : ℕ} {c x : X} {L ys : List X} (xs : List X) → Lacks xs c → Put a L i c x ys → Put a (L ++ xs) i c x (ys ++ xs)
  put_front {a} {i} {c} {x} {L} xs lacks p =
      record { put = λ h. ap (λ l. l ++ xs) (p.put (in_front_from a L xs i c lacks h)) ∙ set_in_front_from a L xs i c x lacks h }

  pub put_at : {a b : ℕ} {xs : List X} {i : ℕ} {c x : X} {ys : List X} → a ≡ b → Put a xs i c x ys → Put b xs i c x ys
  put_at {xs = xs} {i = i} {c = c} {x = x} {ys = ys} e p = subst (λ k. Put k xs i c x ys) e p

  pub put_map : {Y : Type 0} {a : ℕ} {xs : List X} {i : ℕ} {c x : X} {ys : List X} (f : Y → X) (all : List Y) → ((y : Y) → f y ≡ c → ⊥)
      → Put (a + length all) xs i c x ys → Put a (map f all ++ xs) i c x (map f all ++ ys)
  put_map {a = a} {xs = xs} {i = i} {c = c} {x = x} {ys = ys} f all other p =
      put_part (map f all) (each-map (λ y. y ≡ c → ⊥) f all other) (subst (λ k. Put (a + k) xs i c x ys) (sym (length-map all f)) p)
