-- One round of a walk over the rows.
use Rattle.std.proofs.Common.{◌≡◌, ℕ, zero, suc, ◌+◌, ◌<◌, ◌≤◌, List, [], ◌∷◌, ◌++◌, Some, map, length, get_or, refl, sym, ap, subst, ◌∙◌, inl, inr, arith}
use Rattle.std.specs.Prelude.{◌⊎◌, ◌↔◌, slice_get}
use Rattle.std.proofs.lemmas.Option.{slice_get_within}
use Rattle.jr_table.specs.declared.decls.Decl as raw
use Rattle.jr_table.specs.declared.entries.Kind.{Kind}
use Rattle.jr_table.specs.declared.entries.Entry.{Entry}
use Rattle.jr_table.specs.Decls.{Decl}
use Rattle.jr_table.specs.Rows.{Row}
use Rattle.jr_table.specs.Entries.{IsRowOf, entries_of}
use Rattle.jr_table.specs.Chains.{In}
use Rattle.jr_table.specs.KeyView.{decl_of}
use Rattle.jr_table.proofs.RowLaws.{as_many}
use Rattle.jr_table.proofs.Ascending.{in_left, in_right, in_either}
use Rattle.jr_images.specs.Families.{Among}
use Rattle.jr_dispatch.specs.Highest.{IsBelow, HasBelow}
use Rattle.jr_dispatch.specs.Changes.{IsFirst, IsParted, ArePartedClasses, IsLowClass, ChangesAt}

-- a number below the next
pub below_next : (a b : ℕ) → a < b + 1 → (a < b) ⊎ (a ≡ b)
below_next a b h = grind arith

-- ---- declarations

pub among_left : (xs ys : List Decl) (e : Decl) → Among xs e → Among (xs ++ ys) e
among_left [] ys e h = absurd h
among_left (x ∷ xs) ys e (inl s) = inl s
among_left (x ∷ xs) ys e (inr h) = inr (among_left xs ys e h)

pub among_right : (xs ys : List Decl) (e : Decl) → Among ys e → Among (xs ++ ys) e
among_right [] ys e h = h
among_right (x ∷ xs) ys e h = inr (among_right xs ys e h)

pub among_either : (xs ys : List Decl) (e : Decl) → Among (xs ++ ys) e → Among xs e ⊎ Among ys e
among_either [] ys e h = inr h
among_either (x ∷ xs) ys e (inl s) = inl (inl s)
among_either (x ∷ xs) ys e (inr h) = of (among_either xs ys e h)
  where
    of : (Among xs e ⊎ Among ys e) → Among (x ∷ xs) e ⊎ Among ys e
    of (inl k) = inl (inr k)
    of (inr k) = inr k

map_more : (xs : List raw.Decl) (x : raw.Decl) → map decl_of (xs ++ x ∷ []) ≡ map decl_of xs ++ decl_of x ∷ []
map_more [] x = refl
map_more (y ∷ xs) x = ap (λ (ds : List Decl). decl_of y ∷ ds) (map_more xs x)

module _ (rows : List Row) (name : List ℕ) (params : List Kind) (top n : ℕ) where
  abbrev pub Here : Decl → Type 0
  Here e = IsBelow (entries_of rows) name params top n × IsRowOf rows e n

  pub none_more : (xs : List Decl) → ((e : Decl) → Here e → ⊥) → (e : Decl) → Among xs e ↔ (Among xs e ⊎ Here e)
  none_more xs none e = (λ h. inl h, back)
    where
      back : (Among xs e ⊎ Here e) → Among xs e
      back (inl h) = h
      back (inr h) = absurd (none e h)

  pub one_pushed : (xs ys : List raw.Decl) (x : raw.Decl) (r : Row) → ys ≡ xs ++ x ∷ [] → decl_of x ≡ r.decl → slice_get rows n ≡ Some r → IsBelow (entries_of rows) name params top n
      → (e : Decl) → Among (map decl_of ys) e ↔ (Among (map decl_of xs) e ⊎ Here e)
  one_pushed xs ys x r e is at b d = (λ h. to (among_either (map decl_of xs) (decl_of x ∷ []) d (subst (λ (ds : List Decl). Among ds d) all h)), λ h. subst (λ (ds : List Decl). Among ds d) (sym all) (back h))
    where
      all : map decl_of ys ≡ map decl_of xs ++ decl_of x ∷ []
      all = ap (map decl_of) e ∙ map_more xs x

      to : (Among (map decl_of xs) d ⊎ Among (decl_of x ∷ []) d) → Among (map decl_of xs) d ⊎ Here d
      to (inl h) = inl h
      to (inr (inl s)) = inr (b, record { row = r; stands = at; declares = sym is ∙ s })
      to (inr (inr h)) = absurd h

      same : (q : IsRowOf rows d n) → q.row ≡ r
      same q = let z : Some q.row ≡ Some r = sym q.stands ∙ at in cc

      back : (Among (map decl_of xs) d ⊎ Here d) → Among (map decl_of xs ++ decl_of x ∷ []) d
      back (inl h) = among_left (map decl_of xs) (decl_of x ∷ []) d h
      back (inr (c, q)) = among_right (map decl_of xs) (decl_of x ∷ []) d (inl (is ∙ ap (λ (z : Row). z.decl) (sym (same q)) ∙ q.declares))

  pub round : (xs ys : List Decl) → ((e : Decl) → Among xs e ↔ HasBelow rows name params top n e) → ((e : Decl) → Among ys e ↔ (Among xs e ⊎ Here e))
      → (e : Decl) → Among ys e ↔ HasBelow rows name params top (n + 1) e
  round xs ys h k e = (λ a. to ((k e).0 a), λ b. (k e).1 (back b (below_next b.number n b.before)))
    where
      to : (Among xs e ⊎ Here e) → HasBelow rows name params top (n + 1) e
      to (inl a) = let b = (h e).0 a in let l = b.before in record { number = b.number; before = omega (arith, l); is_below = b.is_below; row = b.row }
      to (inr (b, r)) = record { number = n; before = omega arith; is_below = b; row = r }

      back : (b : HasBelow rows name params top (n + 1) e) → ((b.number < n) ⊎ (b.number ≡ n)) → Among xs e ⊎ Here e
      back b (inl l) = inl ((h e).1 (record { number = b.number; before = l; is_below = b.is_below; row = b.row }))
      back b (inr s) = inr (subst (IsBelow (entries_of rows) name params top) s b.is_below, subst (IsRowOf rows e) s b.row)

pub none_yet : (rows : List Row) (name : List ℕ) (params : List Kind) (top : ℕ) (e : Decl) → Among [] e ↔ HasBelow rows name params top 0 e
none_yet rows name params top e = (λ h. absurd h, λ b. let l = b.before in absurd (omega (arith, l)))

-- ---- the first that has a property

pub first_at : (P : ℕ → Type 0) (n : ℕ) → P n → ((i : ℕ) → i < n → P i → ⊥) → IsFirst P n
first_at P n p none = record { has = p; first = λ i q. of i q (least i) }
  where
    least : (i : ℕ) → (n ≤ i) ⊎ (i < n)
    least i = grind arith

    of : (i : ℕ) → P i → ((n ≤ i) ⊎ (i < n)) → n ≤ i
    of i q (inl l) = l
    of i q (inr l) = absurd (none i l q)

pub none_next : (P : ℕ → Type 0) (n : ℕ) → ((i : ℕ) → i < n → P i → ⊥) → (P n → ⊥) → (i : ℕ) → i < n + 1 → P i → ⊥
none_next P n none last i l p = of (below_next i n l)
  where
    of : ((i < n) ⊎ (i ≡ n)) → ⊥
    of (inl k) = none i k p
    of (inr s) = last (subst P s p)

-- what has an entry is a number of a row
pub has_row : (rows : List Row) (j : ℕ) (e : Entry) → slice_get (entries_of rows) j ≡ Some e → j < length rows
has_row rows j e h = subst (λ (n : ℕ). j < n) (as_many rows) (slice_get_within (entries_of rows) j e h)

pub low_within : (rows : List Row) (lows : List ℕ) (c : ℕ) → IsLowClass (entries_of rows) lows c → c < length rows
low_within rows lows c h = has_row rows c h.is_class.row h.is_class.stands

pub change_within : (rows : List Row) (new : List Entry) (c j : ℕ) → ChangesAt (entries_of rows) new c j → j < length rows
change_within rows new c j h = has_row rows j h.names.before.declared.row h.names.before.declared.stands

-- ---- numbers

-- a number behind others
pub in_more : (xs ys : List ℕ) (x : ℕ) → ys ≡ xs ++ x ∷ [] → (j : ℕ) → In ys j ↔ (In xs j ⊎ (x ≡ j))
in_more xs ys x e j = (λ h. to (in_either xs (x ∷ []) j (subst (λ (l : List ℕ). In l j) e h)), λ h. subst (λ (l : List ℕ). In l j) (sym e) (back h))
  where
    to : (In xs j ⊎ In (x ∷ []) j) → In xs j ⊎ (x ≡ j)
    to (inl h) = inl h
    to (inr (inl s)) = inr s
    to (inr (inr h)) = absurd h

    back : (In xs j ⊎ (x ≡ j)) → In (xs ++ x ∷ []) j
    back (inl h) = in_left xs (x ∷ []) j h
    back (inr s) = in_right xs (x ∷ []) j (inl s)

-- the classes of methods that are parted, of the first n rows
abbrev pub ArePartedBefore : (old new : List Entry) → (n : ℕ) → List ℕ → Type 0
ArePartedBefore old new n lows = (c : ℕ) → In lows c ↔ ((j : ℕ) × (j < n) × IsParted old new c j)

pub parted_round : (old new : List Entry) (n : ℕ) (xs ys : List ℕ) → ArePartedBefore old new n xs → ((c : ℕ) → In ys c ↔ (In xs c ⊎ IsParted old new c n)) → ArePartedBefore old new (n + 1) ys
parted_round old new n xs ys h k c = (λ i. to ((k c).0 i), λ p. (k c).1 (back p (below_next p.0 n p.1)))
  where
    to : (In xs c ⊎ IsParted old new c n) → (j : ℕ) × (j < n + 1) × IsParted old new c j
    to (inl i) = let p = (h c).0 i in let l = p.1 in (p.0, omega (arith, l), p.2)
    to (inr p) = (n, omega arith, p)

    back : (p : (j : ℕ) × (j < n + 1) × IsParted old new c j) → ((p.0 < n) ⊎ (p.0 ≡ n)) → In xs c ⊎ IsParted old new c n
    back p (inl l) = inl ((h c).1 (p.0, l, p.2))
    back p (inr s) = inr (subst (IsParted old new c) s p.2)

-- no row is before the first
pub none_parted : (old new : List Entry) → ArePartedBefore old new 0 []
none_parted old new c = (λ h. absurd h, λ p. let l = p.1 in absurd (omega (arith, l)))

-- every row is before the end
pub all_parted : (rows : List Row) (new : List Entry) (xs : List ℕ) → ArePartedBefore (entries_of rows) new (length rows) xs → ArePartedClasses (entries_of rows) new xs
all_parted rows new xs h c = (λ i. let p = (h c).0 i in (p.0, p.2), λ p. (h c).1 (p.0, has_row rows p.0 p.1.names.before.declared.row p.1.names.before.declared.stands, p.1))

-- ---- items of a list of numbers

pub item_at : (xs : List ℕ) (i z : ℕ) → i < length xs → slice_get xs i ≡ Some (get_or xs i z)
item_at [] i z l = absurd (omega (arith, l))
item_at (x ∷ xs) zero z l = refl
item_at (x ∷ xs) (suc i) z l = item_at xs i z (omega (arith, l))

pub place_in : (xs : List ℕ) (i x : ℕ) → slice_get xs i ≡ Some x → In xs x
place_in [] i x e = absurd cc
place_in (y ∷ xs) zero x e = let z : y ≡ x = cc in inl z
place_in (y ∷ xs) (suc i) x e = inr (place_in xs i x e)

pub in_place : (xs : List ℕ) (x : ℕ) → In xs x → (i : ℕ) × (slice_get xs i ≡ Some x)
in_place [] x h = absurd h
in_place (y ∷ xs) x (inl e) = (0, ap Some e)
in_place (y ∷ xs) x (inr h) = let p = in_place xs x h in (suc p.0, p.1)
