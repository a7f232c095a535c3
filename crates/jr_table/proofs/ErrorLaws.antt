-- Errors of a log: they are told in order, each once, and no others.
use Rattle.std.proofs.Common.{◌≡◌, ℕ, zero, suc, ◌+◌, ◌-◌, ◌<◌, ◌≤◌, List, [], ◌∷◌, ◌++◌, Bool, true, false, refl, sym, ap, subst, ◌∙◌, arith, inl, inr}
use Rattle.std.proofs.lemmas.Bool.{ltb-true, ltb-false}
use Rattle.std.proofs.lemmas.List.Sorted.{Contains-permutation, IsPermutation-sym}
use Rattle.std.specs.List.{Contains}
use Rattle.std.specs.List.Sorted.{IsPermutation, IsNonDecreasingBy}
use Rattle.std.specs.Prelude.{◌⊎◌, ◌↔◌, nat_lt, if◌then◌else◌}
use Rattle.jr_table.specs.Errors.{Error, ComesBefore, AreInOrder, Among, AreErrors}
use Rattle.jr_table.specs.Notes.{Note, refers, breaks, Has}
use Rattle.jr_table.specs.ErrorLists.{error_of, errors_in, comes_before, same_error, order_number, insert_error, sort_errors, drop_repeats, each_once, errors_of_log}
use Rattle.jr_table.proofs.RowTypes.{chain}
use Rattle.jr_table.proofs.ErrorOrder.{rank_small, before_iff, same_iff, before_trans, not_before, IsUpTo, up_to_trans, before_up_to, up_to_not}
use Rattle.jr_table.specs.declared.rules.Rule.{Rule}

-- each is before all that stand behind it; each is up to them
abbrev AllBefore : List Error → Type 0
AllBefore [] = Unit {0}
AllBefore (e ∷ es) = ((f : Error) → Among es f → ComesBefore e f) × AllBefore es

abbrev AllUpTo : List Error → Type 0
AllUpTo [] = Unit {0}
AllUpTo (e ∷ es) = ((f : Error) → Among es f → IsUpTo e f) × AllUpTo es

all_before : (es : List Error) → AreInOrder es → AllBefore es
all_before [] h = tt
all_before (e ∷ []) h = (λ f i. absurd i, tt)
all_before (e ∷ f ∷ es) h = from (all_before (f ∷ es) h.1)
  where
    from : AllBefore (f ∷ es) → AllBefore (e ∷ f ∷ es)
    from rest = (each, rest)
      where
        each : (g : Error) → Among (f ∷ es) g → ComesBefore e g
        each g (inl i) = subst (ComesBefore e) i h.0
        each g (inr i) = before_trans e f g h.0 (rest.0 g i)

in_order : (es : List Error) → AllBefore es → AreInOrder es
in_order [] h = tt
in_order (e ∷ []) h = tt
in_order (e ∷ f ∷ es) h = (h.0 f (inl refl), in_order (f ∷ es) h.1)

-- an error of a list stands at some place

among_contains : (es : List Error) (e : Error) → Among es e → Contains es e
among_contains [] e i = absurd i
among_contains (x ∷ xs) e (inl i) = (0, omega arith, i)
among_contains (x ∷ xs) e (inr i) = let c = among_contains xs e i in (suc c.0, let lt = c.1 in omega (arith, lt), c.2)

contains_among : (es : List Error) (e : Error) → Contains es e → Among es e
contains_among [] e (k, lt, is) = absurd (omega (arith, lt))
contains_among (x ∷ xs) e (zero, lt, is) = inl is
contains_among (x ∷ xs) e (suc k, lt, is) = inr (contains_among xs e (k, omega (arith, lt), is))

-- one walk: what is kept

same_members : (e f : Error) → e ≡ f → (g : Error) (P : Type 0) → ((e ≡ g) ⊎ P) ↔ ((e ≡ g) ⊎ ((f ≡ g) ⊎ P))
same_members e f same g P = (to, back)
  where
    to : ((e ≡ g) ⊎ P) → (e ≡ g) ⊎ ((f ≡ g) ⊎ P)
    to (inl i) = inl i
    to (inr p) = inr (inr p)

    back : ((e ≡ g) ⊎ ((f ≡ g) ⊎ P)) → (e ≡ g) ⊎ P
    back (inl i) = inl i
    back (inr (inl i)) = inl (same ∙ i)
    back (inr (inr p)) = inr p

right_iff : {P Q R : Type 0} → (Q ↔ R) → (P ⊎ Q) ↔ (P ⊎ R)
right_iff {P} {Q} {R} f = (to, back)
  where
    to : (P ⊎ Q) → P ⊎ R
    to (inl p) = inl p
    to (inr q) = inr (f.0 q)

    back : (P ⊎ R) → P ⊎ Q
    back (inl p) = inl p
    back (inr r) = inr (f.1 r)

repeats_members : (e : Error) (es : List Error) (g : Error) → Among (drop_repeats e es) g ↔ ((e ≡ g) ⊎ Among es g)
repeats_members e [] g = (λ h. h, λ h. h)
repeats_members e (x ∷ xs) g = of (same_error e x) refl (repeats_members e xs g) (repeats_members x xs g)
  where
    of : (b : Bool) → same_error e x ≡ b → (Among (drop_repeats e xs) g ↔ ((e ≡ g) ⊎ Among xs g)) → (Among (drop_repeats x xs) g ↔ ((x ≡ g) ⊎ Among xs g))
        → Among (if b then drop_repeats e xs else e ∷ drop_repeats x xs) g ↔ ((e ≡ g) ⊎ ((x ≡ g) ⊎ Among xs g))
    of true is here next = chain here (same_members e x ((same_iff e x).0 is) g (Among xs g))
    of false is here next = right_iff next

repeats_order : (e : Error) (es : List Error) → AllUpTo (e ∷ es) → AllBefore (drop_repeats e es)
repeats_order e [] h = (λ f i. absurd i, tt)
repeats_order e (x ∷ xs) h = of (same_error e x) refl (repeats_order e xs) (repeats_order x xs)
  where
    apart : (same_error e x ≡ false) → IsUpTo e x → ComesBefore e x
    apart is (inl i) = let t = (same_iff e x).1 i in absurd cc
    apart is (inr b) = b

    each : ComesBefore e x → (f : Error) → ((x ≡ f) ⊎ Among xs f) → ComesBefore e f
    each b f (inl i) = subst (ComesBefore e) i b
    each b f (inr i) = before_up_to e x f b (h.1.0 f i)

    of : (b : Bool) → same_error e x ≡ b → (AllUpTo (e ∷ xs) → AllBefore (drop_repeats e xs)) → (AllUpTo (x ∷ xs) → AllBefore (drop_repeats x xs)) → AllBefore (if b then drop_repeats e xs else e ∷ drop_repeats x xs)
    of true is here next = here (λ f i. h.0 f (inr i), h.1.1)
    of false is here next = (λ f i. each (apart is (h.0 x (inl refl))) f ((repeats_members x xs f).0 i), next h.1)

pub once_members : (es : List Error) (g : Error) → Among (each_once es) g ↔ Among es g
once_members [] g = (λ h. h, λ h. h)
once_members (e ∷ es) g = repeats_members e es g

once_before : (es : List Error) → AllUpTo es → AllBefore (each_once es)
once_before [] h = tt
once_before (e ∷ es) h = repeats_order e es h

-- the sort

insert_members : (e : Error) (es : List Error) (g : Error) → Among (insert_error e es) g ↔ ((e ≡ g) ⊎ Among es g)
insert_members e [] g = (λ h. h, λ h. h)
insert_members e (x ∷ xs) g = of (comes_before x e) (insert_members e xs g)
  where
    swapped : ((x ≡ g) ⊎ ((e ≡ g) ⊎ Among xs g)) ↔ ((e ≡ g) ⊎ ((x ≡ g) ⊎ Among xs g))
    swapped = (to, back)
      where
        to : ((x ≡ g) ⊎ ((e ≡ g) ⊎ Among xs g)) → (e ≡ g) ⊎ ((x ≡ g) ⊎ Among xs g)
        to (inl i) = inr (inl i)
        to (inr (inl i)) = inl i
        to (inr (inr i)) = inr (inr i)

        back : ((e ≡ g) ⊎ ((x ≡ g) ⊎ Among xs g)) → (x ≡ g) ⊎ ((e ≡ g) ⊎ Among xs g)
        back (inl i) = inr (inl i)
        back (inr (inl i)) = inl i
        back (inr (inr i)) = inr (inr i)

    of : (b : Bool) → (Among (insert_error e xs) g ↔ ((e ≡ g) ⊎ Among xs g)) → Among (if b then x ∷ insert_error e xs else e ∷ x ∷ xs) g ↔ ((e ≡ g) ⊎ ((x ≡ g) ⊎ Among xs g))
    of true again = chain (right_iff again) swapped
    of false again = (λ h. h, λ h. h)

insert_order : (e : Error) (es : List Error) → AllUpTo es → AllUpTo (insert_error e es)
insert_order e [] h = (λ f i. absurd i, tt)
insert_order e (x ∷ xs) h = of (comes_before x e) refl (insert_order e xs h.1)
  where
    before : ComesBefore x e → (f : Error) → ((e ≡ f) ⊎ Among xs f) → IsUpTo x f
    before b f (inl i) = inr (subst (ComesBefore x) i b)
    before b f (inr i) = h.0 f i

    after : IsUpTo e x → (f : Error) → ((x ≡ f) ⊎ Among xs f) → IsUpTo e f
    after b f (inl i) = subst (IsUpTo e) i b
    after b f (inr i) = up_to_trans e x f b (h.0 f i)

    of : (b : Bool) → comes_before x e ≡ b → AllUpTo (insert_error e xs) → AllUpTo (if b then x ∷ insert_error e xs else e ∷ x ∷ xs)
    of true is again = (λ f i. before ((before_iff x e).0 is) f ((insert_members e xs f).0 i), again)
    of false is again = (λ f i. after (up_to_not e x (λ b. let t = (before_iff x e).1 b in absurd cc)) f i, h)

sort_members : (es : List Error) (g : Error) → Among (sort_errors es) g ↔ Among es g
sort_members [] g = (λ h. h, λ h. h)
sort_members (e ∷ es) g = chain (insert_members e (sort_errors es) g) (right_iff (sort_members es g))

sort_order : (es : List Error) → AllUpTo (sort_errors es)
sort_order [] = tt
sort_order (e ∷ es) = insert_order e (sort_errors es) (sort_order es)

-- the errors of a log

error_iff : (start at : ℕ) (r : Rule) (e : Error) (P : Type 0) (rest : List Error) → (Among rest e ↔ P) → Among (error_of start (breaks at r) ++ rest) e ↔ ((breaks at r ≡ breaks (start + e.at) e.rule) ⊎ P)
error_iff start at r e P rest is = of (nat_lt at start) refl
  where
    none : at < start → (breaks at r ≡ breaks (start + e.at) e.rule) → ⊥
    none lt h = let i : at ≡ start + e.at = cc in omega (arith, lt, i)

    error : Error
    error = record { at = at - start; rule = r }

    to : start ≤ at → error ≡ e → breaks at r ≡ breaks (start + e.at) e.rule
    to le h = let a : at - start ≡ e.at = ap (λ (x : Error). x.at) h in let i : at ≡ start + e.at = omega (arith, le, a) in let q : r ≡ e.rule = ap (λ (x : Error). x.rule) h in λ j. breaks (i j) (q j)

    back : breaks at r ≡ breaks (start + e.at) e.rule → error ≡ e
    back h = let i : at ≡ start + e.at = cc in let a : at - start ≡ e.at = omega (arith, i) in let q : r ≡ e.rule = cc in λ j. record { at = a j; rule = q j }

    left : start ≤ at → (error ≡ e) ⊎ Among rest e → (breaks at r ≡ breaks (start + e.at) e.rule) ⊎ P
    left le (inl h) = inl (to le h)
    left le (inr h) = inr (is.0 h)

    right : (breaks at r ≡ breaks (start + e.at) e.rule) ⊎ P → (error ≡ e) ⊎ Among rest e
    right (inl h) = inl (back h)
    right (inr p) = inr (is.1 p)

    past : at < start → (breaks at r ≡ breaks (start + e.at) e.rule) ⊎ P → Among rest e
    past lt (inl h) = absurd (none lt h)
    past lt (inr p) = is.1 p

    of : (b : Bool) → nat_lt at start ≡ b → Among ((if b then [] else error ∷ []) ++ rest) e ↔ ((breaks at r ≡ breaks (start + e.at) e.rule) ⊎ P)
    of true lt = (λ h. inr (is.0 h), past (ltb-true at start lt))
    of false le = (left (ltb-false at start le), right)

log_members : (start : ℕ) (ns : List Note) (e : Error) → Among (errors_in start ns) e ↔ Has ns (breaks (start + e.at) e.rule)
log_members start [] e = (λ h. h, λ h. h)
log_members start (refers at d ∷ ns) e = chain (log_members start ns e) (λ h. inr h, back)
  where
    back : ((refers at d ≡ breaks (start + e.at) e.rule) ⊎ Has ns (breaks (start + e.at) e.rule)) → Has ns (breaks (start + e.at) e.rule)
    back (inl i) = absurd cc
    back (inr h) = h
log_members start (breaks at r ∷ ns) e = error_iff start at r e (Has ns (breaks (start + e.at) e.rule)) (errors_in start ns) (log_members start ns e)

pub log_errors : (start : ℕ) (ns : List Note) → AreErrors (λ e. Has ns (breaks (start + e.at) e.rule)) (errors_of_log start ns)
unfolding errors_of_log
log_errors start ns = record {
  in_order = in_order (each_once (sort_errors (errors_in start ns))) (once_before (sort_errors (errors_in start ns)) (sort_order (errors_in start ns)));
  exact = λ e. chain (once_members (sort_errors (errors_in start ns)) e) (chain (sort_members (errors_in start ns) e) (log_members start ns e));
}

-- two lists in order that have the same errors are one

one_list : (xs ys : List Error) → AllBefore xs → AllBefore ys → ((e : Error) → Among xs e ↔ Among ys e) → xs ≡ ys
one_list [] [] f g same = refl
one_list [] (y ∷ ys) f g same = absurd ((same y).1 (inl refl))
one_list (x ∷ xs) [] f g same = absurd ((same x).0 (inl refl))
one_list (x ∷ xs) (y ∷ ys) f g same = join first (one_list xs ys f.1 g.1 (λ e. (down first e, up first e)))
  where
    join : x ≡ y → xs ≡ ys → x ∷ xs ≡ y ∷ ys
    join a b = λ i. a i ∷ b i

    meet : ((y ≡ x) ⊎ Among ys x) → ((x ≡ y) ⊎ Among xs y) → x ≡ y
    meet (inl a) h = sym a
    meet (inr a) (inl b) = b
    meet (inr a) (inr b) = absurd (not_before x (before_trans x y x (f.0 y b) (g.0 x a)))

    first : x ≡ y
    first = meet ((same x).0 (inl refl)) ((same y).1 (inl refl))

    down : x ≡ y → (e : Error) → Among xs e → Among ys e
    down a e i = by ((same e).0 (inr i))
      where
        by : ((y ≡ e) ⊎ Among ys e) → Among ys e
        by (inl b) = absurd (not_before x (subst (ComesBefore x) (sym (a ∙ b)) (f.0 e i)))
        by (inr b) = b

    up : x ≡ y → (e : Error) → Among ys e → Among xs e
    up a e i = by ((same e).1 (inr i))
      where
        by : ((x ≡ e) ⊎ Among xs e) → Among xs e
        by (inl b) = absurd (not_before y (subst (ComesBefore y) (sym (sym a ∙ b)) (g.0 e i)))
        by (inr b) = b

pub only_list : (xs ys : List Error) → AreInOrder xs → AreInOrder ys → ((e : Error) → Among xs e ↔ Among ys e) → xs ≡ ys
only_list xs ys f g same = one_list xs ys (all_before xs f) (all_before ys g) same

-- what a sort by number and the walk make

number_order : (e f : Error) → order_number e ≤ order_number f → IsUpTo e f
number_order e f le = up_to_not e f none
  where
    none : ComesBefore f e → ⊥
    none (inl lt) = let a = rank_small e.rule in let b = rank_small f.rule in omega (arith, le, lt, a, b)
    none (inr (same, lt)) = omega (arith, le, same, lt)

each_up_to : (e : Error) (es : List Error) → IsNonDecreasingBy order_number (e ∷ es) → (f : Error) → Among es f → IsUpTo e f
each_up_to e es h f i = number_order e f (by (among_contains es f i))
  where
    by : Contains es f → order_number e ≤ order_number f
    by (k, lt, is) = subst (λ x. order_number e ≤ order_number x) is (h 0 (suc k) f (omega arith) (omega (arith, lt)))

numbers_order : (es : List Error) → IsNonDecreasingBy order_number es → AllUpTo es
numbers_order [] h = tt
numbers_order (e ∷ es) h = (each_up_to e es h, numbers_order es (λ i j d le lt. h (suc i) (suc j) d (omega (arith, le)) (omega (arith, lt))))

pub computed_errors : (start : ℕ) (ns : List Note) (es : List Error) → IsPermutation (errors_in start ns) es → IsNonDecreasingBy order_number es → each_once es ≡ errors_of_log start ns
unfolding errors_of_log
computed_errors start ns es p h = one_list (each_once es) (each_once (sort_errors (errors_in start ns))) (once_before es (numbers_order es h)) (once_before (sort_errors (errors_in start ns)) (sort_order (errors_in start ns)))
    (λ e. chain (once_members es e) (chain (moved e) (chain (back (sort_members (errors_in start ns) e)) (back (once_members (sort_errors (errors_in start ns)) e)))))
  where
    back : {P Q : Type 0} → (P ↔ Q) → Q ↔ P
    back f = (f.1, f.0)

    moved : (e : Error) → Among es e ↔ Among (errors_in start ns) e
    moved e = (
      λ i. contains_among (errors_in start ns) e (Contains-permutation es (errors_in start ns) e (IsPermutation-sym (errors_in start ns) es p) (among_contains es e i)),
      λ i. contains_among es e (Contains-permutation (errors_in start ns) es e p (among_contains (errors_in start ns) e i)),
    )
