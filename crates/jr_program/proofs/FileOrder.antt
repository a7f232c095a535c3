-- Members in file order: as their list grows, and those of one file.
use Rattle.std.proofs.Common.{◌≡◌, ℕ, zero, suc, ◌+◌, ◌-◌, ◌<◌, ◌≤◌, List, [], ◌∷◌, ◌++◌, length, take, drop, get_or, map, Bool, true, false, refl, sym, ap, subst, ◌∙◌, arith, inl, inr, eq-eqb}
use Rattle.std.specs.Prelude.{◌==◌, nat_lt, nat_le, filter}
use Rattle.std.specs.List.{All, AllWithin}
use Rattle.std.specs.List.Sorted.{IsPartitionPoint}
use Rattle.std.proofs.lemmas.Bool.{ltb-true, ltb-false, leb-true, leb-false, cond-true, cond-false, eqb-true}
use Rattle.std.proofs.lemmas.List.{get_or_default, get_or-map, length-map}
use Rattle.std.proofs.lemmas.List.Elements.{All-push}
use Rattle.std.proofs.lemmas.List.Sorted.{IsNonDecreasingBy-push}
use Rattle.jr_text.specs.declared.spans.Span.{Span}
use Rattle.jr_members.specs.WrittenMembers.{WrittenMember}
use Rattle.jr_program.specs.declared.bounds.MemberBound.{MemberBound}
use Rattle.jr_program.specs.Members.{AreInFileOrder, AreWrittenInOrder}
use Rattle.jr_program.specs.Binding.{GrowsBy}

-- ---- as the list grows

-- no member is of a later file than a written one from this number on
abbrev pub AreNoLater : List (WrittenMember Span) → (i : ℕ) → List MemberBound → Type 0
AreNoLater ws i bounds = (j : ℕ) (d : WrittenMember Span) → i ≤ j → j < length ws → All (λ (b : MemberBound). b.file ≤ (get_or ws j d).file) bounds

abbrev pub StayInOrder : List (WrittenMember Span) → (i : ℕ) → List MemberBound → Type 0
StayInOrder ws i bounds = AreWrittenInOrder ws → AreInFileOrder bounds × AreNoLater ws i bounds

grows : (ws : List (WrittenMember Span)) (i : ℕ) (w : WrittenMember Span) (old new : List MemberBound) → i < length ws → get_or ws i w ≡ w → GrowsBy w.file old new → StayInOrder ws i old → StayInOrder ws (i + 1) new
grows ws i w old new lt is (inl e) h up =
    let o = h up in
    subst (λ (bs : List MemberBound). AreInFileOrder bs × AreNoLater ws (i + 1) bs) (sym e) (o.0, λ j d le. o.1 j d (omega (arith, le)))
grows ws i w old new lt is (inr (b, f, e)) h up =
    let o = h up in
    let here : All (λ (x : MemberBound). x.file ≤ b.file) old = subst (λ (n : ℕ). All (λ (x : MemberBound). x.file ≤ n) old) (ap (λ (v : WrittenMember Span). v.file) is ∙ sym f) (o.1 i w (omega arith) lt) in
    let order : AreInFileOrder (old ++ b ∷ []) = IsNonDecreasingBy-push (λ (x : MemberBound). x.file) old b o.0 (λ d some. here (length old - 1) d (omega (arith, some))) in
    let behind : AreNoLater ws (i + 1) (old ++ b ∷ []) = λ j d le less.
    All-push (λ (x : MemberBound). x.file ≤ (get_or ws j d).file) old b (o.1 j d (omega (arith, le)) less)
    (subst (λ (n : ℕ). n ≤ (get_or ws j d).file) (ap (λ (v : WrittenMember Span). v.file) (get_or_default ws i d w lt ∙ is) ∙ sym f) (up i j d (omega (arith, le)) less)) in
    subst (λ (bs : List MemberBound). AreInFileOrder bs × AreNoLater ws (i + 1) bs) (sym e) (order, behind)

-- the same as members are gone through
pub order_grows : {A : Type 0} (f : A → WrittenMember Span) (xs : List A) (i : ℕ) (x : A) (old new : List MemberBound) → i < length xs → x ≡ get_or xs i x → GrowsBy (f x).file old new → StayInOrder (map f xs) i old → StayInOrder (map f xs) (i + 1) new
order_grows f xs i x old new lt is g h =
    let n = length-map xs f in
    grows (map f xs) i (f x) old new (omega (arith, lt, n)) (get_or-map f xs i x (f x) lt ∙ ap f (sym is)) g h

-- ---- the members of a file

module _ (file : ℕ) where
  abbrev Of : MemberBound → Bool
  Of b = b.file == file

  abbrev Below : MemberBound → Type 0
  Below b = nat_lt b.file file ≡ true

  abbrev NotBelow : MemberBound → Type 0
  NotBelow b = nat_lt b.file file ≡ false

  abbrev pub UpTo : MemberBound → Type 0
  UpTo b = nat_le b.file file ≡ true

  abbrev pub Beyond : MemberBound → Type 0
  Beyond b = nat_le b.file file ≡ false

  unlike : (n : ℕ) → (n ≡ file → ⊥) → (b : Bool) → (n == file) ≡ b → b ≡ false
  unlike n f true e = absurd (f (eqb-true n file e))
  unlike n f false e = refl

  other : (b : MemberBound) → (b.file ≡ file → ⊥) → Of b ≡ false
  other b f = unlike b.file f (Of b) refl

  below : (b : MemberBound) → Below b → Of b ≡ false
  below b h = let lt = ltb-true b.file file h in other b (λ e. omega (arith, lt, e))

  beyond : (b : MemberBound) → Beyond b → Of b ≡ false
  beyond b h = let lt = leb-false b.file file h in other b (λ e. omega (arith, lt, e))

  own : (b : MemberBound) → NotBelow b → UpTo b → Of b ≡ true
  own b h k =
      let low = ltb-false b.file file h in
      let high = leb-true b.file file k in
      eq-eqb b.file file (omega (arith, low, high))

  left_out : (x : MemberBound) (xs : List MemberBound) → Of x ≡ false → filter Of (x ∷ xs) ≡ filter Of xs
  left_out x xs e = cond-false (Of x) (x ∷ filter Of xs) (filter Of xs) e

  taken : (x : MemberBound) (xs : List MemberBound) → Of x ≡ true → filter Of (x ∷ xs) ≡ x ∷ filter Of xs
  taken x xs e = cond-true (Of x) (x ∷ filter Of xs) (filter Of xs) e

  none_left : (xs : List MemberBound) → AllWithin Beyond xs 0 (length xs) → filter Of xs ≡ []
  none_left [] h = refl
  none_left (x ∷ xs) h = left_out x xs (beyond x (h 0 x (omega arith) (omega arith))) ∙ none_left xs (λ k d le lt. h (suc k) d (omega arith) (omega (arith, lt)))

  -- what isn't of an earlier file
  in_front : (xs : List MemberBound) (k : ℕ) → AllWithin NotBelow xs 0 (length xs) → IsPartitionPoint UpTo Beyond xs k → filter Of xs ≡ take k xs
  in_front [] zero h p = refl
  in_front [] (suc k) h p = refl
  in_front (x ∷ xs) zero h p = none_left (x ∷ xs) p.1
  in_front (x ∷ xs) (suc k) h p =
      taken x xs (own x (h 0 x (omega arith) (omega arith)) (p.0 0 x (omega arith) (omega arith)))
      ∙ ap (λ ys. x ∷ ys) (in_front xs k (λ j d le lt. h (suc j) d (omega arith) (omega (arith, lt))) (λ j d le lt. p.0 (suc j) d (omega arith) (omega (arith, lt)), λ j d le lt. p.1 (suc j) d (omega (arith, le)) (omega (arith, lt))))

  pub own_members : (xs : List MemberBound) (i k : ℕ) → IsPartitionPoint Below NotBelow xs i → IsPartitionPoint UpTo Beyond (drop i xs) k → filter Of xs ≡ take k (drop i xs)
  own_members xs zero k h p = in_front xs k h.1 p
  own_members [] (suc i) k h p = in_front [] k (λ j d le lt. absurd (omega (arith, lt))) p
  own_members (x ∷ xs) (suc i) k h p =
      left_out x xs (below x (h.0 0 x (omega arith) (omega arith)))
      ∙ own_members xs i k (λ j d le lt. h.0 (suc j) d (omega arith) (omega (arith, lt)), λ j d le lt. h.1 (suc j) d (omega (arith, le)) (omega (arith, lt))) p
