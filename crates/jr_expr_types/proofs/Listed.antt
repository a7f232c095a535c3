-- The ends of parts are listed: what a list has, and that it stays.
use Rattle.std.proofs.Common.{◌≡◌, ℕ, zero, suc, ◌+◌, ◌-◌, ◌<◌, ◌≤◌, List, [], ◌∷◌, ◌++◌, length, map, drop, Option, Some, None, refl, sym, ap, subst, ◌∙◌, inl, inr, arith}
use Rattle.std.specs.Prelude.{slice_get, option_map, ◌⊎◌}
use Rattle.std.proofs.lemmas.Option.{slice_get-map, slice_get_within}
use Rattle.jr_expr_types.specs.declared.types.Slot as raw
use Rattle.jr_expr_types.specs.SlotView.{shape_of}
use Rattle.jr_expr_types.specs.Slots.{Slot, last_slot, size_of, skip}
use Rattle.jr_expr_types.specs.PartEnds.{skips, AreListed, Keeps}

-- ---- lists

get_left : {X : Type 0} (xs ys : List X) (n : ℕ) → n < length xs → slice_get (xs ++ ys) n ≡ slice_get xs n
get_left [] ys n lt = absurd (omega (arith, lt))
get_left (x ∷ xs) ys zero lt = refl
get_left (x ∷ xs) ys (suc n) lt = get_left xs ys n (omega (arith, lt))

get_right : {X : Type 0} (xs ys : List X) (n : ℕ) → slice_get (xs ++ ys) (length xs + n) ≡ slice_get ys n
get_right [] ys n = let e : 0 + n ≡ n = omega arith in ap (slice_get ys) e
get_right (x ∷ xs) ys n =
    let e : suc (length xs) + n ≡ suc (length xs + n) = omega arith in
    ap (slice_get (x ∷ (xs ++ ys))) e ∙ get_right xs ys n

pub get_behind : {X : Type 0} (xs : List X) (n k : ℕ) → slice_get (drop n xs) k ≡ slice_get xs (n + k)
get_behind xs zero k = let e : 0 + k ≡ k = omega arith in sym (ap (slice_get xs) e)
get_behind [] (suc n) k = let e : suc n + k ≡ suc (n + k) = omega arith in sym (ap (slice_get []) e)
get_behind (x ∷ xs) (suc n) k = let e : suc n + k ≡ suc (n + k) = omega arith in get_behind xs n k ∙ sym (ap (slice_get (x ∷ xs)) e)

map_join : {X Y : Type 0} (f : X → Y) (xs ys : List X) → map f (xs ++ ys) ≡ map f xs ++ map f ys
map_join f [] ys = refl
map_join f (x ∷ xs) ys = ap (λ l. f x ∷ l) (map_join f xs ys)

map_count : {X Y : Type 0} (f : X → Y) (xs : List X) → length (map f xs) ≡ length xs
map_count f [] = refl
map_count f (x ∷ xs) = ap suc (map_count f xs)

pub keeps_join : (xs ys : List ℕ) → Keeps xs (xs ++ ys)
keeps_join xs ys k x e = get_left xs ys k (slice_get_within xs k x e) ∙ e

pub keeps_front : (old more new : List ℕ) → new ≡ old ++ more → Keeps old new
keeps_front old more new is k x e = ap (λ l. slice_get l k) is ∙ keeps_join old more k x e

pub keeps_all : (xs ys : List ℕ) → ys ≡ xs → Keeps xs ys
keeps_all xs ys same k x e = ap (λ l. slice_get l k) same ∙ e

-- ---- slots as they are shown

pub last_shown : (f : raw.Slot → Slot) (slots : List raw.Slot) (end : ℕ) (o : Option raw.Slot) → o ≡ last_slot slots end → option_map f o ≡ last_slot (map f slots) end
last_shown f slots zero o is = ap (option_map f) is
last_shown f slots (suc n) o is = ap (option_map f) is ∙ sym (slice_get-map f slots n)

-- ---- ends one by one

module _ (xs : List Slot) where
  past : (end : ℕ) → ℕ
  past end = end - size_of (last_slot xs end)

  pub skips_more : (n end : ℕ) → skips xs (suc n) end ≡ skips xs n end ++ skip xs n end ∷ []
  unfolding skips skip
  skips_more zero end = refl
  skips_more (suc n) end = ap (λ l. end ∷ l) (skips_more n (end - size_of (last_slot xs end)))

  pub skip_more : (n end : ℕ) → skip xs (suc n) end ≡ skip xs n end - size_of (last_slot xs (skip xs n end))
  unfolding skip
  skip_more zero end = refl
  skip_more (suc n) end = skip_more n (end - size_of (last_slot xs end))

  skips_at : (count end k : ℕ) → k < count → slice_get (skips xs count end) k ≡ Some (skip xs k end)
  unfolding skips skip
  skips_at zero end k lt = absurd (omega (arith, lt))
  skips_at (suc n) end zero lt = refl
  skips_at (suc n) end (suc k) lt = skips_at n (end - size_of (last_slot xs end)) k (omega (arith, lt))

  -- one turn: what is listed, and what is left
  pub listed_more : (i end left next : ℕ) (old now new : List ℕ) → now ≡ old ++ skips xs i end → left ≡ skip xs i end → new ≡ now ++ left ∷ [] → next ≡ left - size_of (last_slot xs left) → (new ≡ old ++ skips xs (i + 1) end) × (next ≡ skip xs (i + 1) end)
  listed_more i end left next old now new listed is put down =
      let e : suc i ≡ i + 1 = omega arith in (
        put ∙ (λ j. listed j ++ is j ∷ []) ∙ join old (skips xs i end) (skip xs i end ∷ []) ∙ ap (λ l. old ++ l) (sym (skips_more i end) ∙ ap (λ n. skips xs n end) e),
        down ∙ ap (λ n. n - size_of (last_slot xs n)) is ∙ sym (skip_more i end) ∙ ap (λ n. skip xs n end) e,
      )
    where
      join : {X : Type 0} (a b c : List X) → (a ++ b) ++ c ≡ a ++ (b ++ c)
      join [] b c = refl
      join (x ∷ a) b c = ap (λ l. x ∷ l) (join a b c)

  pub listed_all : (count i end : ℕ) (old new : List ℕ) → count ≤ i → i ≤ count → new ≡ old ++ skips xs i end → new ≡ old ++ skips xs count end
  listed_all count i end old new ge le is = let e : i ≡ count = omega (arith, ge, le) in is ∙ ap (λ n. old ++ skips xs n end) e

module _ {X : Type 0} (xs ys : List X) where
  pub last_stays : (end : ℕ) → end ≤ length xs → last_slot (xs ++ ys) end ≡ last_slot xs end
  last_stays zero le = refl
  last_stays (suc n) le = get_left xs ys n (omega (arith, le))

module _ (xs ys : List Slot) where
  skip_stays : (count end : ℕ) → end ≤ length xs → skip (xs ++ ys) count end ≡ skip xs count end
  unfolding skip
  skip_stays zero end le = refl
  skip_stays (suc n) end le =
      ap (λ o. skip (xs ++ ys) n (end - size_of o)) (last_stays xs ys end le) ∙ skip_stays n (end - size_of (last_slot xs end)) (omega (arith, le))

-- ---- what is kept

pub which : (a b : ℕ) → (a < b) ⊎ (b ≤ a)
which a zero = inr (omega arith)
which zero (suc b) = inl (omega arith)
which (suc a) (suc b) = elim (which a b) [
  | inl l ↦ inl (omega (arith, l))
  | inr l ↦ inr (omega (arith, l))
]

of_some : {X : Type 0} → X → Option X → X
of_some x None = x
of_some x (Some z) = z

some_is : {X : Type 0} (x y : X) → Some x ≡ Some y → x ≡ y
unfolding of_some
some_is x y e = ap (of_some x) e

pub none_listed : AreListed [] []
none_listed n s e = absurd (is_none n e)
  where
    is_none : (k : ℕ) → slice_get {X = raw.Slot} [] k ≡ Some s → ⊥
    is_none k e = let l = slice_get_within [] k s e in omega (arith, l)

-- more ends are listed, and the slots stay
pub still_listed : (slots new : List raw.Slot) (ends next : List ℕ) → new ≡ slots → AreListed slots ends → Keeps ends next → AreListed new next
still_listed slots new ends next same are keeps = subst (λ (l : List raw.Slot). AreListed l next) (sym same)
    (λ n s e many k within. keeps (s.listed + k) _ (are n s e many k within))

module _ (slots : List raw.Slot) (ends next : List ℕ) (s : raw.Slot) (are : AreListed slots ends) (keeps : Keeps ends next) (at : s.listed ≡ length ends) (listed : 16 < s.count → next ≡ ends ++ skips (map shape_of slots) s.count (length slots)) where
  shown : (k n : ℕ) → n ≤ length slots → skip (map shape_of slots) k n ≡ skip (map shape_of (slots ++ s ∷ [])) k n
  shown k n le = let m = map_count shape_of slots in
      sym (ap (λ l. skip l k n) (map_join shape_of slots (s ∷ [])) ∙ skip_stays (map shape_of slots) (shape_of s ∷ []) k n (omega (arith, le, m)))

  old : (n : ℕ) (z : raw.Slot) → n < length slots → slice_get (slots ++ s ∷ []) n ≡ Some z → 16 < z.count → (k : ℕ) → k < z.count → slice_get next (z.listed + k) ≡ Some (skip (map shape_of (slots ++ s ∷ [])) k n)
  old n z lt e many k within =
      keeps (z.listed + k) _ (are n z (sym (get_left slots (s ∷ []) n lt) ∙ e) many k within) ∙ ap Some (shown k n (omega (arith, lt)))

  own : (z : raw.Slot) → z ≡ s → 16 < z.count → (k : ℕ) → k < z.count → slice_get next (z.listed + k) ≡ Some (skip (map shape_of (slots ++ s ∷ [])) k (length slots))
  own z same many k within =
      let many_of : 16 < s.count = subst (λ (u : raw.Slot). 16 < u.count) same many in
      let within_of : k < s.count = subst (λ (u : raw.Slot). k < u.count) same within in
      (λ i. slice_get (listed many_of i) (ap (λ (u : raw.Slot). u.listed) same i + k))
      ∙ ap (λ n. slice_get (ends ++ skips (map shape_of slots) s.count (length slots)) (n + k)) at
      ∙ get_right ends (skips (map shape_of slots) s.count (length slots)) k
      ∙ skips_at (map shape_of slots) s.count (length slots) k within_of
      ∙ ap Some (shown k (length slots) (omega arith))

  behind : (n m : ℕ) (z : raw.Slot) → length slots + m ≡ n → slice_get (s ∷ []) m ≡ Some z → 16 < z.count → (k : ℕ) → k < z.count → slice_get next (z.listed + k) ≡ Some (skip (map shape_of (slots ++ s ∷ [])) k n)
  behind n zero z d e many k within =
      let f : length slots ≡ n = omega (arith, d) in
      own z (sym (some_is s z e)) many k within ∙ ap (λ j. Some (skip (map shape_of (slots ++ s ∷ [])) k j)) f
  behind n (suc m) z d e many k within = absurd (let l = slice_get_within (s ∷ []) (suc m) z e in omega (arith, l))

  last : (n : ℕ) (z : raw.Slot) → length slots ≤ n → slice_get (slots ++ s ∷ []) n ≡ Some z → 16 < z.count → (k : ℕ) → k < z.count → slice_get next (z.listed + k) ≡ Some (skip (map shape_of (slots ++ s ∷ [])) k n)
  last n z ge e =
      let d : length slots + (n - length slots) ≡ n = omega (arith, ge) in
      behind n (n - length slots) z d (sym (get_right slots (s ∷ []) (n - length slots)) ∙ ap (slice_get (slots ++ s ∷ [])) d ∙ e)

  pub one_more : AreListed (slots ++ s ∷ []) next
  one_more n z e many k within = elim (which n (length slots)) [
    | inl lt ↦ old n z lt e many k within
    | inr ge ↦ last n z ge e many k within
  ]

-- a node is put behind slots for which room was made
pub pushed : (slots room new : List raw.Slot) (ends next : List ℕ) (s : raw.Slot) → room ≡ slots → new ≡ room ++ s ∷ [] → AreListed slots ends → Keeps ends next → s.listed ≡ length ends → (16 < s.count → next ≡ ends ++ skips (map shape_of slots) s.count (length slots)) → AreListed new next
pushed slots room new ends next s made put are keeps at listed =
    subst (λ (l : List raw.Slot). AreListed l next) (sym (put ∙ ap (λ l. l ++ s ∷ []) made)) (one_more slots ends next s are keeps at listed)
