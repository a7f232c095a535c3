-- Two lists in order that have the same lines are one.
use Rattle.std.proofs.Common.{◌≡◌, ℕ, ◌<◌, List, [], ◌∷◌, refl, sym, ap, subst, ◌∙◌, arith, inl, inr}
use Rattle.std.specs.Prelude.{◌⊎◌, ◌↔◌}
use Rattle.jr_lines.specs.Lines.{Line, line_at, line_rank, ComesBefore, AreInOrder, Among}

before_trans : (k l m : Line) → ComesBefore k l → ComesBefore l m → ComesBefore k m
before_trans k l m (inl a) (inl b) = inl (omega (arith, a, b))
before_trans k l m (inl a) (inr b) = let x = b.0 in inl (omega (arith, a, x))
before_trans k l m (inr a) (inl b) = let x = a.0 in inl (omega (arith, x, b))
before_trans k l m (inr a) (inr b) = let x = a.1 in let y = b.1 in inr (a.0 ∙ b.0, omega (arith, x, y))

not_before : (l : Line) → ComesBefore l l → ⊥
not_before l (inl a) = omega (arith, a)
not_before l (inr a) = let x = a.1 in omega (arith, x)

-- each is before all that stand behind it
abbrev AllBefore : List Line → Type 0
AllBefore [] = Unit {0}
AllBefore (l ∷ ls) = ((m : Line) → Among ls m → ComesBefore l m) × AllBefore ls

all_before : (ls : List Line) → AreInOrder ls → AllBefore ls
all_before [] h = tt
all_before (l ∷ []) h = (λ m i. absurd i, tt)
all_before (l ∷ m ∷ ls) h = from (all_before (m ∷ ls) h.1)
  where
    from : AllBefore (m ∷ ls) → AllBefore (l ∷ m ∷ ls)
    from rest = (each, rest)
      where
        each : (n : Line) → Among (m ∷ ls) n → ComesBefore l n
        each n (inl i) = subst (ComesBefore l) i h.0
        each n (inr i) = before_trans l m n h.0 (rest.0 n i)

one_list : (xs ys : List Line) → AllBefore xs → AllBefore ys → ((l : Line) → Among xs l ↔ Among ys l) → xs ≡ ys
one_list [] [] f g same = refl
one_list [] (y ∷ ys) f g same = absurd ((same y).1 (inl refl))
one_list (x ∷ xs) [] f g same = absurd ((same x).0 (inl refl))
one_list (x ∷ xs) (y ∷ ys) f g same = join first (one_list xs ys f.1 g.1 (λ e. (down first e, up first e)))
  where
    join : x ≡ y → xs ≡ ys → x ∷ xs ≡ y ∷ ys
    join a b = λ i. a i ∷ b i

    meet : ((y ≡ x) ⊎ Among ys x) → ((x ≡ y) ⊎ Among xs y) → x ≡ y
    meet (inl a) h = sym a
    meet (inr a) (inl b) = b
    meet (inr a) (inr b) = absurd (not_before x (before_trans x y x (f.0 y b) (g.0 x a)))

    first : x ≡ y
    first = meet ((same x).0 (inl refl)) ((same y).1 (inl refl))

    down : x ≡ y → (e : Line) → Among xs e → Among ys e
    down a e i = by ((same e).0 (inr i))
      where
        by : ((y ≡ e) ⊎ Among ys e) → Among ys e
        by (inl b) = absurd (not_before x (subst (ComesBefore x) (sym (a ∙ b)) (f.0 e i)))
        by (inr b) = b

    up : x ≡ y → (e : Line) → Among ys e → Among xs e
    up a e i = by ((same e).1 (inr i))
      where
        by : ((x ≡ e) ⊎ Among xs e) → Among xs e
        by (inl b) = absurd (not_before y (subst (ComesBefore y) (sym (sym a ∙ b)) (g.0 e i)))
        by (inr b) = b

pub only_list : (xs ys : List Line) → AreInOrder xs → AreInOrder ys → ((l : Line) → Among xs l ↔ Among ys l) → xs ≡ ys
only_list xs ys f g same = one_list xs ys (all_before xs f) (all_before ys g) same
