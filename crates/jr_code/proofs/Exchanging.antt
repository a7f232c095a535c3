-- An exchange undoes itself, if images differ and are their own images.
use Rattle.std.proofs.Common.{◌≡◌, List, [], ◌∷◌, Option, Some, None, Bool, true, false, ◌↔◌, refl, sym, ap, subst, ◌∙◌, inl, inr}
use Rattle.std.specs.Prelude.{◌⊎◌, cond, unwrap_or}
use Rattle.jr_runs.specs.Images.{Among}
use Rattle.jr_code.specs.Exchanged.{first, or_image, exchange}

-- what is found passes the test and is among them
found_passes : {X : Type 0} (test : X → Bool) (xs : List X) (x : X) → first test xs ≡ Some x → (test x ≡ true) × Among x xs
unfolding first
found_passes test [] x e = absurd cc
found_passes test (y ∷ ys) x e = by (test y) refl (λ h. found_passes test ys x h) e
  where
    by : (b : Bool) → test y ≡ b → (first test ys ≡ Some x → (test x ≡ true) × Among x ys) → cond b (Some y) (first test ys) ≡ Some x → (test x ≡ true) × ((x ≡ y) ⊎ Among x ys)
    by true is later h = let same : y ≡ x = cc in (subst (λ z. test z ≡ true) same is, inl (sym same))
    by false is later h = let rest = later h in (rest.0, inr rest.1)

-- where nothing is found nothing passes
none_passes : {X : Type 0} (test : X → Bool) (xs : List X) → first test xs ≡ None → (x : X) → Among x xs → test x ≡ true → ⊥
unfolding first
none_passes test [] e x among passes = absurd among
none_passes test (y ∷ ys) e x among passes = by (test y) refl (λ h later. none_passes test ys h x later passes) e among
  where
    by : (b : Bool) → test y ≡ b → (first test ys ≡ None → Among x ys → ⊥) → cond b (Some y) (first test ys) ≡ None → ((x ≡ y) ⊎ Among x ys) → ⊥
    by true is rest h there = absurd cc
    by false is rest h (inl same) = let p : true ≡ false = sym passes ∙ ap test same ∙ is in cc
    by false is rest h (inr later) = rest h later

module _ {X : Type 0} (same : X → X → Bool) (decides : (a b : X) → (same a b ≡ true) ↔ (a ≡ b)) (to : X → X) (xs : List X)
    (injective : (a b : X) → Among a xs → Among b xs → to a ≡ to b → a ≡ b) (twice : (a : X) → Among a xs → to (to a) ≡ to a) where
  swap : X → X
  swap k = exchange same to xs k

  -- of a declared key
  pub image : (k : X) → Among k xs → exchange same to xs k ≡ to k
  image k among = by (first (λ x. same x k) xs) refl
    where
      by : (o : Option X) → first (λ x. same x k) xs ≡ o → or_image to k o (first (λ x. same (to x) k) xs) ≡ to k
      by (Some x) is = refl
      by None is = absurd (none_passes (λ x. same x k) xs is k among ((decides k k).1 refl))

  -- of a key that is no declared one, but the image of one
  behind : (k x : X) → (Among k xs → ⊥) → Among x xs → to x ≡ k → exchange same to xs k ≡ x
  behind k x not among is = by (first (λ y. same y k) xs) refl
    where
      back : (o : Option X) → first (λ y. same (to y) k) xs ≡ o → unwrap_or o k ≡ x
      back (Some y) h = let p = found_passes (λ z. same (to z) k) xs y h in injective y x p.1 among ((decides (to y) k).0 p.0 ∙ sym is)
      back None h = absurd (none_passes (λ z. same (to z) k) xs h x among ((decides (to x) k).1 is))

      by : (o : Option X) → first (λ y. same y k) xs ≡ o → or_image to k o (first (λ y. same (to y) k) xs) ≡ x
      by (Some y) h = let p = found_passes (λ z. same z k) xs y h in absurd (not (subst (λ z. Among z xs) ((decides y k).0 p.0) p.1))
      by None h = back (first (λ y. same (to y) k) xs) refl

  -- of another
  stays : (k : X) → (Among k xs → ⊥) → ((x : X) → Among x xs → to x ≡ k → ⊥) → exchange same to xs k ≡ k
  stays k not never = by (first (λ y. same y k) xs) refl
    where
      back : (o : Option X) → first (λ y. same (to y) k) xs ≡ o → unwrap_or o k ≡ k
      back (Some y) h = let p = found_passes (λ z. same (to z) k) xs y h in absurd (never y p.1 ((decides (to y) k).0 p.0))
      back None h = refl

      by : (o : Option X) → first (λ y. same y k) xs ≡ o → or_image to k o (first (λ y. same (to y) k) xs) ≡ k
      by (Some y) h = let p = found_passes (λ z. same z k) xs y h in absurd (not (subst (λ z. Among z xs) ((decides y k).0 p.0) p.1))
      by None h = back (first (λ y. same (to y) k) xs) refl

  -- it is among them or not
  pub among_or : (k : X) → Among k xs ⊎ (Among k xs → ⊥)
  among_or k = by (first (λ x. same x k) xs) refl
    where
      by : (o : Option X) → first (λ x. same x k) xs ≡ o → Among k xs ⊎ (Among k xs → ⊥)
      by (Some x) is = let p = found_passes (λ z. same z k) xs x is in inl (subst (λ z. Among z xs) ((decides x k).0 p.0) p.1)
      by None is = inr (λ among. none_passes (λ z. same z k) xs is k among ((decides k k).1 refl))

  image_or : (k : X) → ((x : X) × Among x xs × (to x ≡ k)) ⊎ ((x : X) → Among x xs → to x ≡ k → ⊥)
  image_or k = by (first (λ x. same (to x) k) xs) refl
    where
      by : (o : Option X) → first (λ x. same (to x) k) xs ≡ o → ((x : X) × Among x xs × (to x ≡ k)) ⊎ ((x : X) → Among x xs → to x ≡ k → ⊥)
      by (Some x) is = let p = found_passes (λ z. same (to z) k) xs x is in inl (x, p.1, (decides (to x) k).0 p.0)
      by None is = inr (λ x among e. none_passes (λ z. same (to z) k) xs is x among ((decides (to x) k).1 e))

  pub undone : (k : X) → exchange same to xs (exchange same to xs k) ≡ k
  undone k = by (among_or k)
    where
      -- a declared key: its image is declared only if it is the key itself
      there : Among k xs → (Among (to k) xs ⊎ (Among (to k) xs → ⊥)) → exchange same to xs (to k) ≡ k
      there among (inl again) = image (to k) again ∙ twice k among ∙ injective (to k) k again among (twice k among)
      there among (inr not) = behind (to k) k not among refl

      else_back : (Among k xs → ⊥) → (((x : X) × Among x xs × (to x ≡ k)) ⊎ ((x : X) → Among x xs → to x ≡ k → ⊥)) → exchange same to xs (exchange same to xs k) ≡ k
      else_back not (inl (x, among, is)) = ap (exchange same to xs) (behind k x not among is) ∙ image x among ∙ is
      else_back not (inr never) = ap (exchange same to xs) (stays k not never) ∙ stays k not never

      by : (Among k xs ⊎ (Among k xs → ⊥)) → exchange same to xs (exchange same to xs k) ≡ k
      by (inl among) = ap (exchange same to xs) (image k among) ∙ there among (among_or (to k))
      by (inr not) = else_back not (image_or k)
