-- Items stand in order, so that one at most begins at a place.
use Rattle.std.proofs.Common.{◌≡◌, ℕ, zero, suc, ◌+◌, ◌-◌, ◌<◌, ◌≤◌, List, [], ◌∷◌, ◌++◌, length, take, drop, get_or, Some, false, refl, sym, ap, subst, ◌∙◌, arith, inl, inr}
use Rattle.std.specs.Prelude.{◌⊎◌, slice_get, fold, Result, Ok, Err}
use Rattle.std.specs.Ordering.{nat_cmp, is_lt, ordering_index}
use Rattle.std.specs.declared.cmp.Ordering.TheVariants.{Less, Equal, Greater}
use Rattle.std.specs.List.Sorted.{IsSortedBy, IsNonDecreasingBy, IsBinarySearchResult, IsSearchInRange}
use Rattle.std.proofs.Math.Seq.{split_at}
use Rattle.std.proofs.lemmas.Cmp.{nat_cmp_total}
use Rattle.std.proofs.lemmas.List.{take_more}
use Rattle.std.proofs.lemmas.List.Sums.{fold-append}
use Rattle.std.proofs.lemmas.List.Sorted.{searchable_from_sorted, IsNonDecreasingBy-from_all_adjacent}
use Rattle.std.proofs.lemmas.Option.{get_or_from_slice_get, slice_get-get_or, slice_get_within, same_Some}
use Rattle.jr_lex.specs.declared.items.Item.{Item}
use Rattle.jr_lex.specs.Lexes.{Lexes}
use Rattle.jr_lex.specs.Places.{IsPlaced, ItemsPlaced, end_of}
use Rattle.jr_lex.specs.declared.items.ItemKind.{ItemKind}
use Rattle.jr_lex.specs.declared.items.ItemKind.TheVariants as item
use Rattle.jr_lex.specs.declared.items.TokenKind.{TokenKind}
use Rattle.jr_text.specs.Spans.{part_of}
use Rattle.jr_program.specs.Tokens.{IsTokenText}
use Rattle.jr_program.proofs.Comparing.{less, equal, greater, not_less}

abbrev pub from_of : Item → ℕ
from_of i = i.span.from

module _ (bytes : List ℕ) (items : List Item) (law : ItemsPlaced) (lexes : Lexes bytes items) where
  placed : (i : ℕ) (d : Item) → i < length items → IsPlaced bytes (get_or items i d) × ((get_or items i d).span.from ≡ end_of (take i items))
  placed i d lt = law bytes (take i items) (get_or items i d) (drop (suc i) items) (subst (Lexes bytes) (split_at items i d lt) lexes)

  pub is_placed : (i : ℕ) (d : Item) → i < length items → IsPlaced bytes (get_or items i d)
  is_placed i d lt = (placed i d lt).0

  end_more : (i : ℕ) (d : Item) → i < length items → end_of (take (i + 1) items) ≡ (get_or items i d).span.to
  end_more i d lt = ap end_of (take_more items i d lt) ∙ fold-append (λ (n : ℕ) (x : Item). x.span.to) 0 (take i items) (get_or items i d ∷ [])

  next : (i : ℕ) (d : Item) → i + 1 < length items → from_of (get_or items i d) < from_of (get_or items (i + 1) d)
  next i d lt =
      let some = (is_placed i d (omega (arith, lt))).some in
      let to = end_more i d (omega (arith, lt)) in
      let from = (placed (i + 1) d lt).1 in
      omega (arith, some, to, from)

  -- each begins before all behind it
  later : (k i : ℕ) (d : Item) → i + suc k < length items → from_of (get_or items i d) < from_of (get_or items (i + suc k) d)
  later zero i d lt = next i d lt
  later (suc k) i d lt =
      let one = later k i d (omega (arith, lt)) in
      let e : i + suc k + 1 ≡ i + suc (suc k) = omega arith in
      let two = subst (λ n. from_of (get_or items (i + suc k) d) < from_of (get_or items n d)) e (next (i + suc k) d (omega (arith, lt))) in
      omega (arith, one, two)

  before : (i j : ℕ) (d : Item) → i < j → j < length items → from_of (get_or items i d) < from_of (get_or items j d)
  before i j d lt end = by (j - suc i) (omega (arith, lt))
    where
      by : (k : ℕ) → i + suc k ≡ j → from_of (get_or items i d) < from_of (get_or items j d)
      by k e = subst (λ n. from_of (get_or items i d) < from_of (get_or items n d)) e (later k i d (omega (arith, e, end)))

  pub one_place : (i j : ℕ) (d : Item) → i < length items → j < length items → from_of (get_or items i d) ≡ from_of (get_or items j d) → i ≡ j
  one_place i j d lt lt' e = by (order i j)
    where
      order : (a b : ℕ) → ((a < b) ⊎ (b < a)) ⊎ (a ≡ b)
      order a b = grind arith

      by : (((i < j) ⊎ (j < i)) ⊎ (i ≡ j)) → i ≡ j
      by (inl (inl a)) = let l = before i j d a lt' in absurd (omega (arith, l, e))
      by (inl (inr a)) = let l = before j i d a lt in absurd (omega (arith, l, e))
      by (inr a) = a

  sorted : IsSortedBy (λ a b. is_lt (nat_cmp (from_of a) (from_of b))) items
  sorted k d low high = let lt = next k d high in not_less (from_of (get_or items k d)) (from_of (get_or items (k + 1) d)) (omega (arith, lt))

  pub ascending : IsNonDecreasingBy from_of items
  ascending = IsNonDecreasingBy-from_all_adjacent from_of items (λ k d lt. let l = next k d lt in omega (arith, l))

  -- what a search by place asks
  pub searchable : (at : ℕ) → IsNonDecreasingBy (λ y. ordering_index (nat_cmp (from_of y) at)) items
  searchable at = searchable_from_sorted nat_cmp_total from_of items at sorted

  -- what the search finds
  pub found : (at n : ℕ) (r : Result ℕ ℕ) → r ≡ Ok n → IsSearchInRange r (length items) → IsBinarySearchResult (λ y. nat_cmp (from_of y) at) items r
      → (n < length items) × ((d : Item) → from_of (get_or items n d) ≡ at)
  found at n r e range h =
      let holds = subst (λ x. IsBinarySearchResult (λ y. nat_cmp (from_of y) at) items x) e h in
      (subst (λ x. IsSearchInRange x (length items)) e range, λ d. equal (from_of (get_or items n d)) at (holds d))

  pub lacking : (at i : ℕ) (name : List ℕ) (r : Result ℕ ℕ) → r ≡ Err i → IsBinarySearchResult (λ y. nat_cmp (from_of y) at) items r → IsTokenText bytes items at name → ⊥
  lacking at i name r e h t =
      let parts = subst (λ x. IsBinarySearchResult (λ y. nat_cmp (from_of y) at) items x) e h (searchable at) in
      let within : t.number < length items = slice_get_within items t.number t.token t.stands in
      let place : from_of (get_or items t.number t.token) ≡ at = ap from_of (get_or_from_slice_get items t.number t.token t.token t.stands) ∙ t.place in
      let low : t.number < i → ⊥ = λ lt. let l = less (from_of (get_or items t.number t.token)) at (parts.0 t.number t.token (omega arith) lt) in omega (arith, l, place) in
      let high : i ≤ t.number → ⊥ = λ le. let l = greater (from_of (get_or items t.number t.token)) at (parts.1 t.number t.token le within) in omega (arith, l, place) in
      omega (arith, low, high)

  -- an item that is no token
  pub no_token : (at n : ℕ) (d : Item) (k : ItemKind) (name : List ℕ) → n < length items → from_of (get_or items n d) ≡ at → (get_or items n d).kind ≡ k → ((t : TokenKind) → k ≡ item.Token t → ⊥)
      → IsTokenText bytes items at name → ⊥
  no_token at n d k name lt place is none t =
      let within : t.number < length items = slice_get_within items t.number t.token t.stands in
      let there : get_or items t.number d ≡ t.token = get_or_from_slice_get items t.number t.token d t.stands in
      let same : n ≡ t.number = one_place n t.number d lt within (place ∙ sym t.place ∙ sym (ap from_of there)) in
      let kind : (get_or items n d).kind ≡ t.token.kind = ap (λ i. (get_or items i d).kind) same ∙ ap (λ (x : Item). x.kind) there in
      none t.kind (sym is ∙ kind ∙ t.is)

  pub token_text : (at n : ℕ) (d : Item) (k : TokenKind) (name : List ℕ) → n < length items → from_of (get_or items n d) ≡ at → (get_or items n d).kind ≡ item.Token k → name ≡ part_of bytes (get_or items n d).span
      → IsTokenText bytes items at name
  token_text at n d k name lt place is bytes_are = record { number = n; token = get_or items n d; kind = k; stands = slice_get-get_or items n d lt; is = is; place = place; bytes = bytes_are }
