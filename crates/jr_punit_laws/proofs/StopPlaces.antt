-- Each stop has one place in a text.
use Rattle.std.proofs.Common.{◌≡◌, ℕ, zero, suc, ◌≤◌, List, [], ◌∷◌, length, take, refl, sym, ap, arith}
use Rattle.std.specs.Prelude.{slice_get, MatchOption}
use Rattle.jr_text.specs.declared.spans.Span.{Span}
use Rattle.jr_lex.specs.declared.items.ItemKind.{ItemKind}
use Rattle.jr_lex.specs.declared.items.ItemKind.TheVariants.{Token as TokenItem, Blank, Comment}
use Rattle.jr_lex.specs.declared.items.Item.{Item}
use Rattle.jr_grammar.specs.Tokens.{Token, token_of_kind, tokens_of, placed_of}
use Rattle.jr_punit_laws.specs.StopPlaces.{IsTokenItem, byte_of, item_of, StopsHavePlaces, StopsHaveOnePlace}

-- a place in a text of that size
record At (size : ℕ) (bytes : List ℕ) (items : List Item) (n byte k : ℕ) : Type 0 where
  within : k ≤ length items
  before : tokens_of bytes (take k items) ≡ take n (tokens_of bytes items)
  there : MatchOption (slice_get items k) (byte ≡ size) (λ i. IsTokenItem i.kind × (i.span.from ≡ byte))

abbrev item : ItemKind → Span → Item
item k s = record { kind = k; span = s }

take_nothing : (n : ℕ) → [] ≡ take n (tokens_of [] [])
take_nothing zero = refl
take_nothing (suc n) = refl

abbrev Found : ℕ → List ℕ → List Item → ℕ → Type 0
Found size bytes items n = At size bytes items n (byte_of size (placed_of bytes items) n) (item_of items n)

front : (size : ℕ) (bytes : List ℕ) (is : List Item) (k : ItemKind) (s : Span) (n : ℕ) → ((m : ℕ) → m ≤ length (tokens_of bytes is) → Found size bytes is m) → n ≤ length (tokens_of bytes (item k s ∷ is)) → Found size bytes (item k s ∷ is) n
front size bytes is (TokenItem t) s zero f h = record { within = omega arith; before = refl; there = (tt, refl) }
front size bytes is (TokenItem t) s (suc n) f h = let r = f n (omega arith) in record { within = omega (arith, r.within); before = ap (λ (ts : List Token). token_of_kind bytes s t ∷ ts) r.before; there = r.there }
front size bytes is Blank s n f h = let r = f n h in record { within = omega (arith, r.within); before = r.before; there = r.there }
front size bytes is Comment s n f h = let r = f n h in record { within = omega (arith, r.within); before = r.before; there = r.there }

found : (size : ℕ) (bytes : List ℕ) (items : List Item) (n : ℕ) → n ≤ length (tokens_of bytes items) → Found size bytes items n
found size bytes [] n h = record { within = omega arith; before = take_nothing n; there = refl }
found size bytes (i ∷ is) n h = front size bytes is i.kind i.span n (λ m k. found size bytes is m k) h

pub stops_have_places : StopsHavePlaces
stops_have_places bytes items n h = let r = found (length bytes) bytes items n h in record { within = r.within; before = r.before; there = r.there }

-- ---- no other place

abbrev Same : ℕ → List ℕ → List Item → ℕ → ℕ → ℕ → Type 0
Same size bytes items n byte k = (byte ≡ byte_of size (placed_of bytes items) n) × (k ≡ item_of items n)

one_front : (size : ℕ) (bytes : List ℕ) (is : List Item) (k : ItemKind) (s : Span) (n byte j : ℕ) → ((m b i : ℕ) → At size bytes is m b i → Same size bytes is m b i) → At size bytes (item k s ∷ is) n byte j
    → Same size bytes (item k s ∷ is) n byte j
one_front size bytes is (TokenItem t) s zero byte zero f h = (sym h.there.1, refl)
one_front size bytes is (TokenItem t) s zero byte (suc j) f h = absurd (grind (arith, h.before))
one_front size bytes is (TokenItem t) s (suc n) byte zero f h = absurd (grind (arith, h.before))
one_front size bytes is (TokenItem t) s (suc n) byte (suc j) f h =
    let e : tokens_of bytes (take j is) ≡ take n (tokens_of bytes is) = grind (arith, h.before) in
    let r = f n byte j (record { within = omega (arith, h.within); before = e; there = h.there }) in
    (r.0, ap suc r.1)
one_front size bytes is Blank s n byte zero f h = absurd h.there.0
one_front size bytes is Blank s n byte (suc j) f h = let r = f n byte j (record { within = omega (arith, h.within); before = h.before; there = h.there }) in (r.0, ap suc r.1)
one_front size bytes is Comment s n byte zero f h = absurd h.there.0
one_front size bytes is Comment s n byte (suc j) f h = let r = f n byte j (record { within = omega (arith, h.within); before = h.before; there = h.there }) in (r.0, ap suc r.1)

one_place : (size : ℕ) (bytes : List ℕ) (items : List Item) (n byte k : ℕ) → At size bytes items n byte k → Same size bytes items n byte k
one_place size bytes [] n byte zero h = (h.there, refl)
one_place size bytes [] n byte (suc k) h = absurd (omega (arith, h.within))
one_place size bytes (i ∷ is) n byte k h = one_front size bytes is i.kind i.span n byte k (λ m b j g. one_place size bytes is m b j g) h

pub stops_have_one_place : StopsHaveOnePlace
stops_have_one_place bytes items n byte k h s = one_place (length bytes) bytes items n byte k (record { within = s.within; before = s.before; there = s.there })
