-- A walk over the rows of one class and one name.
use Rattle.std.proofs.Common.{◌≡◌, ℕ, suc, ◌<◌, ◌≤◌, ◌-◌, List, map, length, Option, Some, None, Bool, true, false, refl, sym, ap, subst, ◌∙◌, inl, inr, arith}
use Rattle.std.specs.Prelude.{slice_get, option_map, ◌⊎◌}
use Rattle.std.specs.Str.{bytes_eq}
use Rattle.std.specs.Cmp.Lexicographic.{bytes_decides}
use Rattle.std.proofs.lemmas.Option.{slice_get_within}
use Rattle.jr_index.specs.declared.linked.Linked.{Linked}
use Rattle.jr_index.specs.Linked.{is_owner, is_at, NoneBetween, PassesAt, IsFirstFrom, first_of, next_of, AreLinkedFrom}
use Rattle.jr_table.specs.Firsts.{first_that}
use Rattle.jr_table.proofs.FirstLaws.{first_at, first_past, get-map}
use Rattle.jr_table.proofs.Testing.{and_both}
use Rattle.jr_table.proofs.ClassLaws.{owner_is}
use Rattle.jr_table.proofs.Walking.{from_map}

-- how many numbers are left behind the next one
abbrev pub left : {X : Type 0} → List X → Option ℕ → ℕ
left xs None = 0
left xs (Some j) = length xs - j

-- The next of the elements that go by the name, and nothing that is looked for before it.
pub record Walked {X : Type 0} (named test : X → Bool) (xs : List X) (o : Option ℕ) : Type 0 where
  pub from : ℕ
  pub next : IsFirstFrom named xs from o
  pub none : NoneBetween test xs 0 from

module _ {X : Type 0} (named test : X → Bool) (xs : List X) where
  pub walk_starts : (o : Option ℕ) → IsFirstFrom named xs 0 o → Walked named test xs o
  walk_starts o first = record { from = 0; next = first; none = λ k x le lt at. absurd (omega (arith, lt)) }

  module _ (implied : (x : X) → test x ≡ true → named x ≡ true) where
    unnamed : (x : X) → named x ≡ false → test x ≡ false
    unnamed x f = by (test x) refl
      where
        by : (b : Bool) → test x ≡ b → b ≡ false
        by false e = refl
        by true e = let t = implied x e in absurd cc

    either : (a b : ℕ) → (a < b) ⊎ (b ≤ a)
    either a b = grind arith

    -- nothing before the next one
    before : (from j : ℕ) → NoneBetween test xs 0 from → NoneBetween named xs from j → NoneBetween test xs 0 j
    before from j none next k x le lt at = by (either k from)
      where
        by : ((k < from) ⊎ (from ≤ k)) → test x ≡ false
        by (inl l) = none k x le l at
        by (inr l) = unnamed x (next k x l lt at)

    pub walk_finds : (j : ℕ) (x : X) → Walked named test xs (Some j) → slice_get xs j ≡ Some x → test x ≡ true → first_that test xs ≡ Some j
    walk_finds j x w at h = first_at test xs j x at h (λ k y lt here. before w.from j w.none w.next.2 k y (omega arith) lt here)

    pub walk_ends : Walked named test xs None → first_that test xs ≡ None
    walk_ends w = first_past test xs (λ k y at. before w.from (length xs) w.none w.next k y (omega arith) (slice_get_within xs k y at) at)

    pub walk_goes_on : (j : ℕ) (x : X) (o : Option ℕ) → Walked named test xs (Some j) → slice_get xs j ≡ Some x → test x ≡ false → IsFirstFrom named xs (suc j) o → Walked named test xs o
    walk_goes_on j x o w at h next = record { from = suc j; next = next; none = none }
      where
        last : (k : ℕ) → k < suc j → (k < j) ⊎ (j ≡ k)
        last k lt = grind arith

        none : NoneBetween test xs 0 (suc j)
        none k y le lt here = by (last k lt)
          where
            by : ((k < j) ⊎ (j ≡ k)) → test y ≡ false
            by (inl l) = before w.from j w.none w.next.2 k y le l here
            by (inr e) = let s : Some x ≡ Some y = sym at ∙ ap (slice_get xs) e ∙ here in let same : x ≡ y = cc in ap test (sym same) ∙ h

  pub next_within : (i j : ℕ) → IsFirstFrom named xs i (Some j) → j < length xs
  next_within i j first = slice_get_within xs j first.1.element first.1.stands

  pub fewer_left : (i j : ℕ) (o : Option ℕ) → IsFirstFrom named xs i (Some j) → IsFirstFrom named xs (suc j) o → left xs o < left xs (Some j)
  fewer_left i j None first next = let lt = next_within i j first in omega (arith, lt)
  fewer_left i j (Some k) first next = let lt = next_within i j first in let le = next.0 in omega (arith, lt, le)

-- The next element of the same name is linked.
module _ {X : Type 0} (place : X → Option ℕ × List ℕ) (xs : List X) (most : ℕ) (members : Linked) (linked : AreLinkedFrom (map place xs) most 0 members) (c : ℕ) (q : List ℕ) where
  pub first_named : IsFirstFrom (λ x. is_at c q (place x)) xs 0 (first_of members c q)
  first_named = from_map place xs (is_at c q) 0 (first_of members c q) (linked.firsts c q)

  pub next_named : (j : ℕ) → PassesAt (λ x. is_at c q (place x)) xs j → IsFirstFrom (λ x. is_at c q (place x)) xs (suc j) (next_of members j)
  next_named j p =
      let b = and_both (is_owner (place p.element).0 c) (bytes_eq (place p.element).1 q) p.passes in
      let next = linked.nexts j c (place p.element) (omega arith) (get-map place xs j ∙ ap (option_map place) p.stands) (owner_is (place p.element).0 c b.0) in
      from_map place xs (is_at c q) (suc j) (next_of members j)
      (subst (λ n. IsFirstFrom (is_at c n) (map place xs) (suc j) (next_of members j)) ((bytes_decides (place p.element).1 q).0 b.1) next)
