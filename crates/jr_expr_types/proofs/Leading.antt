-- In the slots of a tree a path leads to the type of its node.
use Rattle.std.proofs.Common.{◌≡◌, ℕ, zero, suc, ◌+◌, ◌-◌, ◌<◌, ◌≤◌, List, [], ◌∷◌, ◌++◌, length, Option, Some, None, Bool, true, false, refl, sym, ap, subst, ◌∙◌, inl, inr, arith}
use Rattle.std.specs.Prelude.{slice_get, option_and_then, nat_lt, ◌==◌, ◌⊎◌, if◌then◌else◌}
use Rattle.std.proofs.lemmas.Bool.{eqb-true, eq-eqb, ltb-true, ltb-false}
use Rattle.std.proofs.lemmas.List.{append_assoc, append-nil}
use Rattle.jr_table.specs.Keys.{Ty}
use Rattle.jr_expr_types.specs.Slots.{Slot, last_slot, size_of, skip, part_end, find, find_type}
use Rattle.jr_expr_types.specs.Trees.{Tree, node, Parts, none, put, count, part_at, type_of, parts_of, type_at, flat, flats, PathsLeadToTypes}

length-join : {X : Type 0} (xs ys : List X) → length (xs ++ ys) ≡ length xs + length ys
length-join [] ys = let e : 0 + length ys ≡ length ys = omega arith in sym e
length-join (x ∷ xs) ys = let e = length-join xs ys in omega (arith, e)

get_there : {X : Type 0} (xs : List X) (x : X) (rest : List X) → slice_get (xs ++ x ∷ rest) (length xs) ≡ Some x
get_there [] x rest = refl
get_there (y ∷ xs) x rest = get_there xs x rest

-- the own slot of a tree that ends there
abbrev own : Tree → Slot
own (node t ps) = record { size = suc (length (flats ps)); count = count ps; type = t }

size_is : (t : Tree) → (own t).size ≡ length (flat t)
unfolding flat flats
size_is (node t ps) = let e = length-join (flats ps) ((own (node t ps)) ∷ []) in omega (arith, e)

-- trees in a list of slots: what stands in front, and what stands behind
record Ends (slots : List Slot) (here : List Slot) (end : ℕ) : Type 0 where
  front : List Slot
  rest : List Slot
  is : slots ≡ front ++ (here ++ rest)
  end_is : end ≡ length front + length here

own_slot : (slots : List Slot) (t : Tree) (end : ℕ) → Ends slots (flat t) end → last_slot slots end ≡ Some (own t)
unfolding flat flats
own_slot slots (node t ps) end h =
    let xs = h.front ++ flats ps in
    let s = own (node t ps) in
    let m = length-join (flats ps) (s ∷ []) in
    let n = length-join h.front (flats ps) in
    let f = h.end_is in
    let e : end ≡ suc (length xs) = omega (arith, m, n, f) in
    let shape : slots ≡ xs ++ s ∷ h.rest = h.is ∙ ap (λ ys. h.front ++ ys) (append_assoc (flats ps) (s ∷ []) h.rest) ∙ sym (append_assoc h.front (flats ps) (s ∷ h.rest)) in
    ap (last_slot slots) e ∙ ap (λ ys. slice_get ys (length xs)) shape ∙ get_there xs s h.rest

parts_end : (slots : List Slot) (t : Tree) (end : ℕ) → Ends slots (flat t) end → Ends slots (flats (parts_of t)) (end - 1)
unfolding flat flats
parts_end slots (node t ps) end h =
    let s = own (node t ps) in
    let m = length-join (flats ps) (s ∷ []) in
    let f = h.end_is in
    record {
      front = h.front;
      rest = s ∷ h.rest;
      is = h.is ∙ ap (λ ys. h.front ++ ys) (append_assoc (flats ps) (s ∷ []) h.rest);
      end_is = omega (arith, m, f);
    }

before_last : (slots : List Slot) (ps : Parts) (t : Tree) (end : ℕ) → Ends slots (flats (put ps t)) end → Ends slots (flat t) end
unfolding flats
before_last slots ps t end h =
    let m = length-join (flats ps) (flat t) in
    let n = length-join h.front (flats ps) in
    let f = h.end_is in
    record {
      front = h.front ++ flats ps;
      rest = h.rest;
      is = h.is ∙ ap (λ ys. h.front ++ ys) (append_assoc (flats ps) (flat t) h.rest) ∙ sym (append_assoc h.front (flats ps) (flat t ++ h.rest));
      end_is = omega (arith, m, n, f);
    }

without_last : (slots : List Slot) (ps : Parts) (t : Tree) (end : ℕ) → Ends slots (flats (put ps t)) end → Ends slots (flats ps) (end - length (flat t))
unfolding flats
without_last slots ps t end h =
    let m = length-join (flats ps) (flat t) in
    let f = h.end_is in
    record {
      front = h.front;
      rest = flat t ++ h.rest;
      is = h.is ∙ ap (λ ys. h.front ++ ys) (append_assoc (flats ps) (flat t) h.rest);
      end_is = omega (arith, m, f);
    }

-- the part of a number, and where it ends
record Part (slots : List Slot) (ps : Parts) (i : ℕ) (end : ℕ) : Type 0 where
  tree : Tree
  is : part_at ps i ≡ Some tree
  there : Ends slots (flat tree) end

pub neither : (a b : ℕ) (x : Bool) → (a == b) ≡ x → (a ≡ b → ⊥) → x ≡ false
neither a b true is h = absurd (h (eqb-true a b is))
neither a b false is h = refl

at_most : (i n : ℕ) → i < suc n → (i < n) ⊎ (i ≡ n)
at_most i n lt = grind arith

less : (i n : ℕ) → i < suc n → (i ≡ n → ⊥) → i < n
less i n lt differ = elim (at_most i n lt) [
  | inl l ↦ l
  | inr e ↦ absurd (differ e)
]

last_part : (slots : List Slot) (ps : Parts) (t : Tree) (i end : ℕ) (b : Bool) → (i == count ps) ≡ b → i < suc (count ps) → Ends slots (flats (put ps t)) end
    → (i < count ps → Part slots ps i (skip slots (count ps - 1 - i) (end - length (flat t)))) → Part slots (put ps t) i (skip slots (suc (count ps) - 1 - i) end)
unfolding skip
last_part slots ps t i end true e lt h more =
    let same : i ≡ count ps = eqb-true i (count ps) e in
    let zero_is : suc (count ps) - 1 - i ≡ 0 = omega (arith, same) in
    record {
      tree = t;
      is = ap (λ b. if b then Some t else part_at ps i) e;
      there = subst (λ n. Ends slots (flat t) (skip slots n end)) (sym zero_is) (before_last slots ps t end h);
    }
last_part slots ps t i end false e lt h more =
    let differ : i ≡ count ps → ⊥ = λ f. (let g = eq-eqb i (count ps) f in absurd cc) in
    let l : i < count ps = less i (count ps) lt differ in
    let one_more : suc (count ps) - 1 - i ≡ suc (count ps - 1 - i) = omega (arith, l) in
    let r = more l in
    let size : size_of (last_slot slots end) ≡ length (flat t) = ap size_of (own_slot slots t end (before_last slots ps t end h)) ∙ size_is t in
    record {
      tree = r.tree;
      is = ap (λ b. if b then Some t else part_at ps i) e ∙ r.is;
      there = subst (λ n. Ends slots (flat r.tree) (skip slots n end)) (sym one_more)
          (subst (λ n. Ends slots (flat r.tree) (skip slots (count ps - 1 - i) (end - n))) (sym size) r.there);
    }

skipped : (slots : List Slot) (ps : Parts) (i end : ℕ) → i < count ps → Ends slots (flats ps) end → Part slots ps i (skip slots (count ps - 1 - i) end)
skipped slots none i end lt h = absurd (omega (arith, lt))
skipped slots (put ps t) i end lt h = last_part slots ps t i end (i == count ps) refl lt h (λ l. skipped slots ps i (end - length (flat t)) l (without_last slots ps t end h))

pub none_there : (ps : Parts) (i : ℕ) → count ps ≤ i → part_at ps i ≡ None
none_there none i le = refl
none_there (put ps t) i le = ap (λ b. if b then Some t else part_at ps i) (neither i (count ps) (i == count ps) refl (λ e. omega (arith, le, e))) ∙ none_there ps i (omega (arith, le))

led : (slots : List Slot) (t : Tree) (end i : ℕ) (is : List ℕ) (b : Bool) → nat_lt i (count (parts_of t)) ≡ b → Ends slots (flat t) end → ((c : Tree) (e : ℕ) → Ends slots (flat c) e → find slots e is ≡ type_at c is)
    → option_and_then (λ e. find slots e is) (if b then Some (skip slots (count (parts_of t) - 1 - i) (end - 1)) else None) ≡ option_and_then (λ c. type_at c is) (part_at (parts_of t) i)
led slots t end i is true e h more =
    let p = skipped slots (parts_of t) i (end - 1) (ltb-true i (count (parts_of t)) e) (parts_end slots t end h) in
    more p.tree (skip slots (count (parts_of t) - 1 - i) (end - 1)) p.there ∙ sym (ap (option_and_then (λ c. type_at c is)) p.is)
led slots t end i is false e h more = sym (ap (option_and_then (λ c. type_at c is)) (none_there (parts_of t) i (ltb-false i (count (parts_of t)) e)))

typed : (t : Tree) → (own t).type ≡ type_of t
typed (node t ps) = refl

counted : (t : Tree) → (own t).count ≡ count (parts_of t)
counted (node t ps) = refl

leads : (path : List ℕ) (slots : List Slot) (t : Tree) (end : ℕ) → Ends slots (flat t) end → find slots end path ≡ type_at t path
unfolding find type_at
leads [] slots t end h = ap (option_and_then (λ (s : Slot). s.type)) (own_slot slots t end h) ∙ typed t
leads (i ∷ is) slots t end h =
    ap (λ s. option_and_then (λ e. find slots e is) (part_end slots s i end)) (own_slot slots t end h)
    ∙ ap (λ n. option_and_then (λ e. find slots e is) (if nat_lt i n then Some (skip slots (n - 1 - i) (end - 1)) else None)) (counted t)
    ∙ led slots t end i is (nat_lt i (count (parts_of t))) refl h (λ c e k. leads is slots c e k)

pub lead : PathsLeadToTypes
unfolding find_type
lead t path = leads path (flat t) t (length (flat t)) (record { front = []; rest = []; is = sym (append-nil (flat t)); end_is = omega arith })
