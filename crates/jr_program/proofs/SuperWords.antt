-- The places of the words `super`: in text order, and no others.
use Rattle.std.proofs.Common.{◌≡◌, ℕ, zero, suc, ◌+◌, ◌<◌, ◌≤◌, List, [], ◌∷◌, length, get_or, map, Bool, true, false, cond, refl, sym, ap, subst, ◌∙◌, arith, inl, inr}
use Rattle.std.specs.Prelude.{◌⊎◌, ◌↔◌, IsTrue, slice_get, Option, Some, None, filter, nat_lt, IfSome, IfNone, MatchOption}
use Rattle.std.specs.List.{Contains, All}
use Rattle.std.specs.List.Sorted.{IsNonDecreasingBy, IsPartitionPoint}
use Rattle.std.proofs.lemmas.List.Kept.{IsNonDecreasingBy-filter}
use Rattle.std.proofs.lemmas.Bool.{ltb-true, ltb-false}
use Rattle.std.proofs.lemmas.Option.{slice_get-get_or, slice_get_within, get_or_from_slice_get}
use Rattle.jr_text.specs.declared.spans.Span.{Span}
use Rattle.jr_lex.specs.declared.items.Item.{Item}
use Rattle.jr_lex.specs.declared.items.ItemKind.{ItemKind}
use Rattle.jr_lex.specs.declared.items.ItemKind.TheVariants as item
use Rattle.jr_lex.specs.declared.items.TokenKind.TheVariants as token
use Rattle.jr_lex.specs.declared.items.Keyword.{Keyword}
use Rattle.jr_lex.specs.declared.items.Keyword.TheVariants as keyword
use Rattle.jr_program_laws.specs.FileParts.{IsSuperAt}
use Rattle.jr_program.specs.Tokens.{is_super_word, is_super_kind, is_super, super_places, IsWordFrom, BeginsSuper, IsSuperFrom}

abbrev the_word : ItemKind
the_word = item.Token (token.Keyword keyword.Super)

word_is : (k : Keyword) → is_super_word k ≡ true → k ≡ keyword.Super
word_is keyword.Super h = refl
word_is _ h = absurd cc

kind_is : (k : ItemKind) → is_super_kind k ≡ true → k ≡ the_word
kind_is (item.Token (token.Keyword k)) h = ap (λ w. item.Token (token.Keyword w)) (word_is k h)
kind_is (item.Token token.Word) h = absurd cc
kind_is (item.Token (token.Int n)) h = absurd cc
kind_is (item.Token token.Text) h = absurd cc
kind_is (item.Token (token.Mark s)) h = absurd cc
kind_is item.Blank h = absurd cc
kind_is item.Comment h = absurd cc

-- ---- one item more

pub word_more : (x : Item) (xs : List Item) → is_super x ≡ true → super_places (x ∷ xs) ≡ x.span.from ∷ super_places xs
word_more x xs h = ap (λ (b : Bool). map (λ (i : Item). i.span.from) (cond b (x ∷ filter is_super xs) (filter is_super xs))) h

pub other_more : (x : Item) (xs : List Item) → is_super x ≡ false → super_places (x ∷ xs) ≡ super_places xs
other_more x xs h = ap (λ (b : Bool). map (λ (i : Item). i.span.from) (cond b (x ∷ filter is_super xs) (filter is_super xs))) h

-- ---- what they are

-- a place of the list is that of a word, and the other way round
abbrev Stands : List Item → (ps : List ℕ) → (k d : ℕ) → Type 0
Stands items ps k d = (n : ℕ) × (i : Item) × (slice_get items n ≡ Some i) × (i.kind ≡ the_word) × (i.span.from ≡ get_or ps k d)

further : (x : Item) (xs : List Item) (ps : List ℕ) (k d : ℕ) → Stands xs ps k d → Stands (x ∷ xs) ps k d
further x xs ps k d r = (suc r.0, r.1, r.2, r.3, r.4)

there : (items : List Item) (k d : ℕ) → k < length (super_places items) → Stands items (super_places items) k d
there [] k d lt = absurd (omega (arith, lt))
there (x ∷ xs) k d lt = by (is_super x) refl (there xs)
  where
    first : is_super x ≡ true → ((k d : ℕ) → k < length (super_places xs) → Stands xs (super_places xs) k d) → (k : ℕ) → k < length (x.span.from ∷ super_places xs) → Stands (x ∷ xs) (x.span.from ∷ super_places xs) k d
    first h f zero small = (0, x, refl, kind_is x.kind h, refl)
    first h f (suc k) small = let r = f k d (omega (arith, small)) in (suc r.0, r.1, r.2, r.3, r.4)

    by : (b : Bool) → is_super x ≡ b → ((k d : ℕ) → k < length (super_places xs) → Stands xs (super_places xs) k d) → Stands (x ∷ xs) (super_places (x ∷ xs)) k d
    by true h f = subst (λ ps. Stands (x ∷ xs) ps k d) (sym (word_more x xs h)) (first h f k (subst (λ ps. k < length ps) (word_more x xs h) lt))
    by false h f = subst (λ ps. Stands (x ∷ xs) ps k d) (sym (other_more x xs h)) (further x xs (super_places xs) k d (f k d (subst (λ ps. k < length ps) (other_more x xs h) lt)))

abbrev Listed : (ps : List ℕ) → (from : ℕ) → Type 0
Listed ps from = (k : ℕ) × (k < length ps) × ((d : ℕ) → get_or ps k d ≡ from)

later_on : (p : ℕ) (ps : List ℕ) (from : ℕ) → Listed ps from → Listed (p ∷ ps) from
later_on p ps from r = let lt = r.1 in (suc r.0, omega (arith, lt), r.2)

among : (items : List Item) (n : ℕ) (i : Item) → slice_get items n ≡ Some i → i.kind ≡ the_word → Listed (super_places items) i.span.from
among [] n i e w = absurd cc
among (x ∷ xs) zero i e w =
    let is : x ≡ i = cc in
    let h : is_super x ≡ true = ap is_super is ∙ ap is_super_kind w in
    subst (λ ps. Listed ps i.span.from) (sym (word_more x xs h)) (0, omega arith, λ d. ap (λ (j : Item). j.span.from) is)
among (x ∷ xs) (suc n) i e w = by (is_super x) refl (among xs n i e w)
  where
    by : (b : Bool) → is_super x ≡ b → Listed (super_places xs) i.span.from → Listed (super_places (x ∷ xs)) i.span.from
    by true h r = subst (λ ps. Listed ps i.span.from) (sym (word_more x xs h)) (later_on x.span.from (super_places xs) i.span.from r)
    by false h r = subst (λ ps. Listed ps i.span.from) (sym (other_more x xs h)) r

get_or_same : (ps : List ℕ) (k c d : ℕ) → k < length ps → get_or ps k c ≡ get_or ps k d
get_or_same [] k c d lt = absurd (omega (arith, lt))
get_or_same (p ∷ ps) zero c d lt = refl
get_or_same (p ∷ ps) (suc k) c d lt = get_or_same ps k c d (omega (arith, lt))

places_of_map : (xs : List Item) → IsNonDecreasingBy (λ (i : Item). i.span.from) xs → IsNonDecreasingBy (λ (n : ℕ). n) (map (λ (i : Item). i.span.from) xs)
places_of_map xs h = λ i j d le lt. go xs h i j d le lt
  where
    none : Item
    none = record { kind = item.Blank; span = record { from = 0; to = 0 } }

    at : (xs : List Item) (i d : ℕ) → i < length xs → get_or (map (λ (x : Item). x.span.from) xs) i d ≡ (get_or xs i none).span.from
    at [] i d lt = absurd (omega (arith, lt))
    at (x ∷ xs) zero d lt = refl
    at (x ∷ xs) (suc i) d lt = at xs i d (omega (arith, lt))

    size : (xs : List Item) → length (map (λ (x : Item). x.span.from) xs) ≡ length xs
    size [] = refl
    size (x ∷ xs) = ap suc (size xs)

    go : (xs : List Item) → IsNonDecreasingBy (λ (i : Item). i.span.from) xs → IsNonDecreasingBy (λ (n : ℕ). n) (map (λ (i : Item). i.span.from) xs)
    go xs h i j d le lt =
        let small : j < length xs = subst (λ n. j < n) (size xs) lt in
        let a = at xs i d (omega (arith, le, small)) in
        let b = at xs j d small in
        let c = h i j none le small in
        omega (arith, a, b, c)

pub rising : (items : List Item) → IsNonDecreasingBy (λ (i : Item). i.span.from) items → IsNonDecreasingBy (λ (n : ℕ). n) (super_places items)
rising items h = places_of_map (filter is_super items) (IsNonDecreasingBy-filter (λ (i : Item). i.span.from) is_super items h)

-- ---- the first in a span

module _ (items : List Item) (span : Span) where
  pub super_found : (at : ℕ) → Contains (super_places items) at → span.from ≤ at → at < span.to → All (λ other. span.from ≤ other → at ≤ other) (super_places items) → IsSuperAt items span at
  super_found at has from to first =
      let r = there items has.0 at has.1 in
      record {
        there = record { number = r.0; token = r.1; stands = r.2; is = r.3; place = r.4 ∙ has.2 };
        within = (from, to);
        first = λ other h le.
            let k = among items h.number h.token h.stands h.is in
            let is : get_or (super_places items) k.0 0 ≡ other = k.2 0 ∙ h.place in
            subst (λ n. at ≤ n) is (first k.0 0 k.1 (subst (λ n. span.from ≤ n) (sym is) le));
      }

  pub super_lacks : All (λ other. span.from ≤ other → span.to ≤ other) (super_places items) → (at : ℕ) → IsSuperAt items span at → ⊥
  super_lacks none at h =
      let k = among items h.there.number h.there.token h.there.stands h.there.is in
      let is : get_or (super_places items) k.0 0 ≡ at = k.2 0 ∙ h.there.place in
      let to = h.within.1 in
      let past = none k.0 0 k.1 (subst (λ n. span.from ≤ n) (sym is) h.within.0) in
      omega (arith, past, to, is)

-- ---- what a search by a bound finds

module _ (places : List ℕ) (from i : ℕ) (sorted : IsNonDecreasingBy (λ (n : ℕ). n) places) (parts : IsPartitionPoint (λ n. nat_lt n from ≡ true) (λ n. nat_lt n from ≡ false) places i) where
  pub here_first : (at : ℕ) → i < length places → at ≡ get_or places i at → All (λ other. from ≤ other → at ≤ other) places
  here_first at lt is k d small le =
      let low : k < i → ⊥ = λ l. let below = ltb-true (get_or places k d) from (parts.0 k d (omega arith) l) in omega (arith, below, le) in
      let up = sorted i k at (omega (arith, low)) small in
      let same = get_or_same places k d at small in
      omega (arith, up, is, same)

  pub here_past : (at : ℕ) → i < length places → at ≡ get_or places i at → from ≤ at
  here_past at lt is = let past = ltb-false (get_or places i at) from (parts.1 i at (omega arith) lt) in omega (arith, past, is)

  pub none_past : (to : ℕ) → length places ≤ i → All (λ other. from ≤ other → to ≤ other) places
  none_past to end k d small le = let below = ltb-true (get_or places k d) from (parts.0 k d (omega arith) (omega (arith, small, end))) in absurd (omega (arith, below, le))

  pub all_past : (at to : ℕ) → i < length places → at ≡ get_or places i at → to ≤ at → All (λ other. from ≤ other → to ≤ other) places
  all_past at to lt is past k d small le = let up = here_first at lt is k d small le in omega (arith, up, past)

-- what the search says of the words
pub super_answer : (items : List Item) (span : Span) (places : List ℕ) (r : Option ℕ) → places ≡ super_places items → IfSome r (Contains places) → IfSome r (λ at. (span.from ≤ at) × (at < span.to))
    → IfSome r (λ at. All (λ other. span.from ≤ other → at ≤ other) places) → IfNone r (All (λ other. span.from ≤ other → span.to ≤ other) places)
    → MatchOption r ((at : ℕ) → IsSuperAt items span at → ⊥) (IsSuperAt items span)
super_answer items span places None e a b c d = super_lacks items span (subst (All (λ other. span.from ≤ other → span.to ≤ other)) e d)
super_answer items span places (Some at) e a b c d = super_found items span at (subst (λ ps. Contains ps at) e a) b.0 b.1 (subst (All (λ other. span.from ≤ other → at ≤ other)) e c)

-- ---- what a search from the front finds

module _ (items : List Item) (from : ℕ) where
  abbrev pub NoneTo : ℕ → Type 0
  NoneTo to = (n : ℕ) (x : Item) → n < to → slice_get items n ≡ Some x → IsWordFrom x from → ⊥

  -- the item of the number is one, and none before it
  pub super_here : IsNonDecreasingBy (λ (i : Item). i.span.from) items → (k : ℕ) (d : Item) → k < length items → NoneTo k → IsWordFrom (get_or items k d) from → IsSuperFrom items from (get_or items k d).span.from
  super_here sorted k d small none is = record {
    there = record { number = k; token = get_or items k d; stands = slice_get-get_or items k d small; is = kind_is (get_or items k d).kind is.0; place = refl };
    behind = is.1;
    first = λ other h le. by other h le (order h.number k);
  }
    where
      order : (a b : ℕ) → (a < b) ⊎ (b ≤ a)
      order a b = grind arith

      later : (other : ℕ) (h : BeginsSuper items other) → k ≤ h.number → (get_or items k d).span.from ≤ other
      later other h up =
          let within = slice_get_within items h.number h.token h.stands in
          let rise = sorted k h.number d up within in
          let place = ap (λ (i : Item). i.span.from) (get_or_from_slice_get items h.number h.token d h.stands) ∙ h.place in
          omega (arith, rise, place)

      by : (other : ℕ) (h : BeginsSuper items other) → from ≤ other → (h.number < k) ⊎ (k ≤ h.number) → (get_or items k d).span.from ≤ other
      by other h le (inl lt) = absurd (none h.number h.token lt h.stands (ap is_super_kind h.is, subst (λ n. from ≤ n) (sym h.place) le))
      by other h le (inr up) = later other h up

  -- it is none, by a test
  pub super_behind : (k : ℕ) (d : Item) (b : Bool) → NoneTo k → (IsTrue b ↔ IsWordFrom (get_or items k d) from) → b ≡ false → NoneTo (k + 1)
  super_behind k d b none tells isnt n x lt stands is = by (order n k)
    where
      order : (a b : ℕ) → (a < b) ⊎ (b ≤ a)
      order a b = grind arith

      apart : false ≡ true → ⊥
      apart e = absurd cc

      by : (n < k) ⊎ (k ≤ n) → ⊥
      by (inl before) = none n x before stands is
      by (inr up) =
          let same : k ≡ n = omega (arith, lt, up) in
          apart (sym isnt ∙ tells.1 (subst (λ (i : Item). IsWordFrom i from) (sym (subst (λ m. get_or items m d ≡ x) (sym same) (get_or_from_slice_get items n x d stands))) is))

  pub super_nowhere : (k : ℕ) → length items ≤ k → NoneTo k → (at : ℕ) → BeginsSuper items at → from ≤ at → ⊥
  super_nowhere k all none at h le = let within = slice_get_within items h.number h.token h.stands in none h.number h.token (omega (arith, within, all)) h.stands (ap is_super_kind h.is, subst (λ n. from ≤ n) (sym h.place) le)
