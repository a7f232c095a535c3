-- Copies one behind the other: two lists of the same copies are one.
use Rattle.std.proofs.Common.{◌≡◌, ◌⊎◌, inl, inr, ℕ, zero, suc, ◌<◌, List, [], ◌∷◌, map, Option, Some, None, option_map, refl, sym, ap, ◌∙◌, subst, arith}
use Rattle.std.specs.Prelude.{Contains, slice_get}
use Rattle.std.proofs.lemmas.Option.{none-some, same_Some, slice_get-get_or, slice_get-map}
use Rattle.jr_text.specs.declared.spans.Span.{Span}
use Rattle.jr_local.specs.Inlined.{Copy, AreRising}

-- ---- one of a list

abbrev pub Holds : List Copy → Copy → Type 0
Holds [] c = ⊥
Holds (x ∷ xs) c = (x ≡ c) ⊎ Holds xs c

nothing_stands : {X : Type 0} (n : ℕ) (x : X) → (let none : List X = [] in slice_get none n ≡ Some x) → ⊥
nothing_stands n x e = cc

pub holds_at : (xs : List Copy) (n : ℕ) (c : Copy) → slice_get xs n ≡ Some c → Holds xs c
holds_at [] n c e = absurd (nothing_stands n c e)
holds_at (x ∷ xs) zero c e = inl (same_Some x c e)
holds_at (x ∷ xs) (suc n) c e = inr (holds_at xs n c e)

pub at_holds : (xs : List Copy) (c : Copy) → Holds xs c → (n : ℕ) × (slice_get xs n ≡ Some c)
at_holds [] c h = absurd h
at_holds (x ∷ xs) c (inl e) = (0, ap (λ (y : Copy). Some y) e)
at_holds (x ∷ xs) c (inr h) = let r = at_holds xs c h in (suc r.0, r.1)

pub contained : (xs : List Copy) (c : Copy) → Contains xs c → Holds xs c
contained xs c h = holds_at xs h.0 c (slice_get-get_or xs h.0 c h.1 ∙ ap (λ (x : Copy). Some x) h.2)

-- a copy of the read
pub of_read : (xs : List Copy) (r : Span) → Contains (map (λ (c : Copy). c.read) xs) r → (c : Copy) × Holds xs c × (c.read ≡ r)
of_read xs r h = by (slice_get xs h.0) refl
  where
    there : slice_get (map (λ (c : Copy). c.read) xs) h.0 ≡ Some r
    there = slice_get-get_or (map (λ (c : Copy). c.read) xs) h.0 r h.1 ∙ ap (λ (x : Span). Some x) h.2

    by : (o : Option Copy) → slice_get xs h.0 ≡ o → (c : Copy) × Holds xs c × (c.read ≡ r)
    by None e = absurd (none-some r (sym (slice_get-map (λ (c : Copy). c.read) xs h.0 ∙ ap (option_map (λ (c : Copy). c.read)) e) ∙ there))
    by (Some c) e = (c, holds_at xs h.0 c e, same_Some c.read r (sym (slice_get-map (λ (x : Copy). x.read) xs h.0 ∙ ap (option_map (λ (x : Copy). x.read)) e) ∙ there))

-- ---- one behind the other

behind : (x : Copy) (xs : List Copy) → AreRising (x ∷ xs) → AreRising xs
behind x [] r = tt
behind x (y ∷ xs) r = r.1

first_least : (x : Copy) (xs : List Copy) → AreRising (x ∷ xs) → (c : Copy) → Holds xs c → x.read.from < c.read.from
first_least x [] r c h = absurd h
first_least x (y ∷ xs) r c (inl e) = subst (λ (z : Copy). x.read.from < z.read.from) e r.0
first_least x (y ∷ xs) r c (inr h) = let next = first_least y xs r.1 c h in let own = r.0 in omega (arith, next, own)

pub one_of_read : (xs : List Copy) → AreRising xs → (c d : Copy) → Holds xs c → Holds xs d → c.read ≡ d.read → c ≡ d
one_of_read [] r c d h i same = absurd h
one_of_read (x ∷ xs) r c d (inl h) (inl i) same = sym h ∙ i
one_of_read (x ∷ xs) r c d (inl h) (inr i) same =
    let less = first_least x xs r d i in
    let e : x.read.from ≡ d.read.from = ap (λ (z : Copy). z.read.from) h ∙ ap (λ (z : Span). z.from) same in
    absurd (omega (arith, less, e))
one_of_read (x ∷ xs) r c d (inr h) (inl i) same =
    let less = first_least x xs r c h in
    let e : x.read.from ≡ c.read.from = ap (λ (z : Copy). z.read.from) i ∙ ap (λ (z : Span). z.from) (sym same) in
    absurd (omega (arith, less, e))
one_of_read (x ∷ xs) r c d (inr h) (inr i) same = one_of_read xs (behind x xs r) c d h i same

-- ---- so two lists are one

one_head : (x y : Copy) (xs ys : List Copy) → AreRising (x ∷ xs) → AreRising (y ∷ ys) → Holds (y ∷ ys) x → Holds (x ∷ xs) y → x ≡ y
one_head x y xs ys r s (inl e) i = sym e
one_head x y xs ys r s (inr h) (inl e) = e
one_head x y xs ys r s (inr h) (inr i) = let a = first_least y ys s x h in let b = first_least x xs r y i in absurd (omega (arith, a, b))

tail_holds : (x y : Copy) (xs ys : List Copy) → AreRising (x ∷ xs) → x ≡ y → (c : Copy) → Holds xs c → Holds (y ∷ ys) c → Holds ys c
tail_holds x y xs ys r same c h (inl e) =
    let less = first_least x xs r c h in
    let at : x.read.from ≡ c.read.from = ap (λ (z : Copy). z.read.from) (same ∙ e) in
    absurd (omega (arith, less, at))
tail_holds x y xs ys r same c h (inr i) = i

pub one_list : (xs ys : List Copy) → AreRising xs → AreRising ys → ((c : Copy) → Holds xs c → Holds ys c) → ((c : Copy) → Holds ys c → Holds xs c) → xs ≡ ys
one_list [] [] r s to from = refl
one_list [] (y ∷ ys) r s to from = absurd (from y (inl refl))
one_list (x ∷ xs) [] r s to from = absurd (to x (inl refl))
one_list (x ∷ xs) (y ∷ ys) r s to from =
    let head = one_head x y xs ys r s (to x (inl refl)) (from y (inl refl)) in
    let rest = one_list xs ys (behind x xs r) (behind y ys s) (λ c h. tail_holds x y xs ys r head c h (to c (inr h))) (λ c h. tail_holds y x ys xs s (sym head) c h (from c (inr h))) in
    λ i. head i ∷ rest i
