-- Items stand in order by where they begin, and by where they end, so that one at most begins, or
-- ends, at a place, and a search by halves finds it.
use Rattle.std.proofs.Common.{◌≡◌, ℕ, zero, suc, ◌+◌, ◌<◌, ◌≤◌, List, [], ◌∷◌, ◌++◌, length, get_or, Bool, true, false, refl, sym, ap, subst, ◌∙◌, arith, append_assoc, inl, inr}
use Rattle.std.specs.Prelude.{Option, None, nat_eq, nat_lt, if◌then◌else◌, ◌⊎◌}
use Rattle.std.specs.List.Sorted.{IsNonDecreasingBy, IsPartitionPoint}
use Rattle.std.proofs.lemmas.Bool.{eq-eqb, ne_eqb, ltb-true, ltb-false}
use Rattle.std.proofs.lemmas.List.{get_or_read}
use Rattle.std.proofs.lemmas.List.Sums.{fold-append}
use Rattle.std.proofs.lemmas.List.Sorted.{IsNonDecreasingBy-from_all_adjacent}
use Rattle.jr_lex.specs.declared.items.Item.{Item}
use Rattle.jr_lex.specs.declared.items.TokenKind.{TokenKind}
use Rattle.jr_lex.specs.Lexes.{Lexes}
use Rattle.jr_lex.specs.Places.{ItemsPlaced, end_of}
use Rattle.jr_moved_texts.specs.Spaces.{token_in, ending_at, beginning_at}

abbrev pub from_of : Item → ℕ
from_of i = i.span.from

abbrev pub to_of : Item → ℕ
to_of i = i.span.to

-- each key reaches the number at least, and lies above the one in front of it
abbrev pub Rises : (Item → ℕ) → (low : ℕ) → List Item → Type 0
Rises key low [] = Unit {0}
Rises key low (x ∷ xs) = (low ≤ key x) × Rises key (suc (key x)) xs

-- the token whose key is the number
abbrev pub found_at : (Item → ℕ) → (at : ℕ) → List Item → Option TokenKind
found_at key at [] = None
found_at key at (x ∷ xs) = if nat_eq (key x) at then token_in x.kind else found_at key at xs

pub ending_is : (at : ℕ) (items : List Item) → ending_at at items ≡ found_at to_of at items
ending_is at [] = refl
ending_is at (x ∷ xs) = ap (λ t. if nat_eq x.span.to at then token_in x.kind else t) (ending_is at xs)

pub beginning_is : (at : ℕ) (items : List Item) → beginning_at at items ≡ found_at from_of at items
beginning_is at [] = refl
beginning_is at (x ∷ xs) = ap (λ t. if nat_eq x.span.from at then token_in x.kind else t) (beginning_is at xs)

module _ (bytes : List ℕ) (law : ItemsPlaced) where
  end_behind : (front : List Item) (x : Item) → end_of (front ++ x ∷ []) ≡ x.span.to
  end_behind front x = fold-append (λ (n : ℕ) (y : Item). y.span.to) 0 front (x ∷ [])

  behind : (front : List Item) (x : Item) (xs : List Item) → Lexes bytes (front ++ x ∷ xs) → Lexes bytes ((front ++ x ∷ []) ++ xs)
  behind front x xs l = subst (Lexes bytes) (sym (append_assoc front (x ∷ []) xs)) l

  pub rises_from : (front items : List Item) (low : ℕ) → Lexes bytes (front ++ items) → low ≤ end_of front → Rises from_of low items
  rises_from front [] low l le = tt
  rises_from front (x ∷ xs) low l le =
      let p = law bytes front x xs l in
      let from = p.1 in
      let some = p.0.some in
      let end = end_behind front x in
      (omega (arith, le, from), rises_from (front ++ x ∷ []) xs (suc x.span.from) (behind front x xs l) (omega (arith, some, end)))

  pub rises_to : (front items : List Item) (low : ℕ) → Lexes bytes (front ++ items) → low ≤ suc (end_of front) → Rises to_of low items
  rises_to front [] low l le = tt
  rises_to front (x ∷ xs) low l le =
      let p = law bytes front x xs l in
      let from = p.1 in
      let some = p.0.some in
      let end = end_behind front x in
      (omega (arith, le, from, some), rises_to (front ++ x ∷ []) xs (suc x.span.to) (behind front x xs l) (omega (arith, end)))

module _ (key : Item → ℕ) where
  above : (items : List Item) (low n : ℕ) (d : Item) → Rises key low items → n < length items → low ≤ key (get_or items n d)
  above [] low n d r lt = absurd (omega (arith, lt))
  above (x ∷ xs) low zero d r lt = r.0
  above (x ∷ xs) low (suc n) d r lt =
      let le = r.0 in
      let up = above xs (suc (key x)) n d r.1 (omega (arith, lt)) in
      omega (arith, le, up)

  adjacent : (items : List Item) (low k : ℕ) (d : Item) → Rises key low items → suc k < length items → key (get_or items k d) < key (get_or items (suc k) d)
  adjacent [] low k d r lt = absurd (omega (arith, lt))
  adjacent (x ∷ xs) low zero d r lt = above xs (suc (key x)) zero d r.1 (omega (arith, lt))
  adjacent (x ∷ xs) low (suc k) d r lt = adjacent xs (suc (key x)) k d r.1 (omega (arith, lt))

  pub ascending : (items : List Item) (low : ℕ) → Rises key low items → IsNonDecreasingBy key items
  ascending items low r = IsNonDecreasingBy-from_all_adjacent key items (λ k d high.
      let one : k + 1 ≡ suc k = omega arith in
      let l = adjacent items low k d r (omega (arith, high)) in
      let same : key (get_or items (k + 1) d) ≡ key (get_or items (suc k) d) = ap (λ n. key (get_or items n d)) one in
      omega (arith, l, same))

  pub is_found : (items : List Item) (low n at : ℕ) (d : Item) → Rises key low items → n < length items → key (get_or items n d) ≡ at → found_at key at items ≡ token_in (get_or items n d).kind
  is_found [] low n at d r lt e = absurd (omega (arith, lt))
  is_found (x ∷ xs) low zero at d r lt e = ap (λ (b : Bool). if b then token_in x.kind else found_at key at xs) (eq-eqb (key x) at e)
  is_found (x ∷ xs) low (suc n) at d r lt e =
      let up = above xs (suc (key x)) n d r.1 (omega (arith, lt)) in
      ap (λ (b : Bool). if b then token_in x.kind else found_at key at xs) (ne_eqb (key x) at (λ same. omega (arith, up, e, same)))
      ∙ is_found xs (suc (key x)) n at d r.1 (omega (arith, lt)) e

  pub is_lacking : (items : List Item) (at : ℕ) → ((n : ℕ) (d : Item) → n < length items → key (get_or items n d) ≡ at → ⊥) → found_at key at items ≡ None
  is_lacking [] at none = refl
  is_lacking (x ∷ xs) at none =
      ap (λ (b : Bool). if b then token_in x.kind else found_at key at xs) (ne_eqb (key x) at (λ same. none zero x (omega arith) same))
      ∙ is_lacking xs at (λ n d lt e. none (suc n) d (omega (arith, lt)) e)

  before : (items : List Item) (low i n : ℕ) (d : Item) → Rises key low items → i < n → n < length items → key (get_or items i d) < key (get_or items n d)
  before [] low i n d r lt within = absurd (omega (arith, within))
  before (x ∷ xs) low i zero d r lt within = absurd (omega (arith, lt))
  before (x ∷ xs) low zero (suc n) d r lt within = above xs (suc (key x)) n d r.1 (omega (arith, within))
  before (x ∷ xs) low (suc i) (suc n) d r lt within = before xs (suc (key x)) i n d r.1 (omega (arith, lt)) (omega (arith, within))

  -- where those end whose keys are less
  module _ (items : List Item) (low at i : ℕ) (rises : Rises key low items) (parts : IsPartitionPoint (λ x. nat_lt (key x) at ≡ true) (λ x. nat_lt (key x) at ≡ false) items i) where
    pub none_behind : length items ≤ i → found_at key at items ≡ None
    none_behind end = is_lacking items at (λ n d lt e.
        let l = ltb-true (key (get_or items n d)) at (parts.0 n d (omega arith) (omega (arith, lt, end))) in
        omega (arith, l, e))

    pub none_there : (x : Item) → i < length items → x ≡ get_or items i x → (key x ≡ at → ⊥) → found_at key at items ≡ None
    none_there x lt is other = is_lacking items at (λ n d within e. by n d within e (order n i))
      where
        order : (a b : ℕ) → ((a < b) ⊎ (b < a)) ⊎ (a ≡ b)
        order a b = grind arith

        by : (n : ℕ) (d : Item) → n < length items → key (get_or items n d) ≡ at → (((n < i) ⊎ (i < n)) ⊎ (n ≡ i)) → ⊥
        by n d within e (inl (inl small)) =
            let l = ltb-true (key (get_or items n d)) at (parts.0 n d (omega arith) small) in
            omega (arith, l, e)
        by n d within e (inl (inr great)) =
            let reaches = ltb-false (key (get_or items i d)) at (parts.1 i d (omega arith) lt) in
            let more = before items low i n d rises great within in
            omega (arith, reaches, more, e)
        by n d within e (inr same) =
            let there : x ≡ get_or items i d = get_or_read items i x lt is d in
            other (ap key there ∙ ap (λ k. key (get_or items k d)) (sym same) ∙ e)
