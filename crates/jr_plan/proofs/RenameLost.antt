-- The first loss of the files is the first of the kept references that are lost.
use Rattle.std.proofs.Common.{◌≡◌, ℕ, zero, suc, ◌+◌, ◌<◌, ◌≤◌, List, [], ◌∷◌, ◌++◌, All, length, Option, Some, refl, sym, ap, ◌∙◌, subst, ◌⊎◌, inl, inr, arith}
use Rattle.std.specs.Prelude.{slice_get}
use Rattle.std.proofs.lemmas.Bool.{cases_lt}
use Rattle.std.proofs.lemmas.Option.{slice_get_within}
use Rattle.std.proofs.lemmas.List.Elements.{All-head, All-tail}
use Rattle.jr_text.specs.declared.spans.Span.{Span}
use Rattle.jr_ast.specs.MemberTree as syntax
use Rattle.jr_rewrite.specs.Respellings.{Loss}
use Rattle.jr_rewrite.specs.Rewritten.{Rewritten}
use Rattle.jr_images.specs.Refusals.{IsLost, IsFirstLoss}
use Rattle.jr_plan.specs.Transforms.{kept, Lost, kept_lost, kept_from}
use Rattle.jr_plan.specs.Reasons.{Precedes, IsFirstLost}
use Rattle.jr_plan.proofs.Rename.{Files}

abbrev pub lost_in : ℕ → Loss → Lost
lost_in n l = record { origin = kept; file = n; loss = l }

-- how many are lost in the files in front of one
abbrev ahead : Files → ℕ → ℕ
ahead os zero = 0
ahead [] (suc j) = 0
ahead (o ∷ os) (suc j) = length o.losses + ahead os j

same_item : {T : Type 0} (x y : T) → (let a : Option T = Some x in a ≡ Some y) → x ≡ y
same_item x y e = cc

nothing : {T : Type 0} (x : T) (i : ℕ) → (let none : List T = [] in slice_get none i ≡ Some x) → ⊥
nothing x i e = cc

-- ---- where a loss stands among all

at_front : (n : ℕ) (front : List Loss) (l : Loss) (back : List Loss) (rest : List Lost) → slice_get (kept_lost n (front ++ l ∷ back) ++ rest) (length front) ≡ Some (lost_in n l)
at_front n [] l back rest = refl
at_front n (x ∷ front) l back rest = at_front n front l back rest

behind_all : (n : ℕ) (ls : List Loss) (rest : List Lost) (k : ℕ) → slice_get (kept_lost n ls ++ rest) (length ls + k) ≡ slice_get rest k
behind_all n [] rest k = (let same : 0 + k ≡ k = omega arith in ap (slice_get rest) same)
behind_all n (l ∷ ls) rest k = (let more : suc (length ls) + k ≡ suc (length ls + k) = omega arith in ap (slice_get (lost_in n l ∷ (kept_lost n ls ++ rest))) more ∙ behind_all n ls rest k)

stands_at : (n : ℕ) (os : Files) (j : ℕ) (o : Rewritten (syntax.Unit Span)) (front : List Loss) (l : Loss) (back : List Loss) → slice_get os j ≡ Some o → o.losses ≡ front ++ l ∷ back
    → slice_get (kept_from n os) (ahead os j + length front) ≡ Some (lost_in (n + j) l)
stands_at n [] j o front l back e parts = absurd (nothing o j e)
stands_at n (x ∷ os) zero o front l back e parts =
    let all : x.losses ≡ front ++ l ∷ back = ap (λ (y : Rewritten (syntax.Unit Span)). y.losses) (same_item x o e) ∙ parts in
    let number : n ≡ n + 0 = omega arith in
    let index : 0 + length front ≡ length front = omega arith in
    ap (slice_get (kept_lost n x.losses ++ kept_from (suc n) os)) index
    ∙ ap (λ ls. slice_get (kept_lost n ls ++ kept_from (suc n) os) (length front)) all ∙ at_front n front l back (kept_from (suc n) os) ∙ ap (λ k. Some (lost_in k l)) number
stands_at n (x ∷ os) (suc j) o front l back e parts =
    let index : (length x.losses + ahead os j) + length front ≡ length x.losses + (ahead os j + length front) = omega arith in
    let number : suc n + j ≡ n + suc j = omega arith in
    ap (slice_get (kept_lost n x.losses ++ kept_from (suc n) os)) index
    ∙ behind_all n x.losses (kept_from (suc n) os) (ahead os j + length front)
    ∙ stands_at (suc n) os j o front l back e parts
    ∙ ap (λ k. Some (lost_in k l)) number

stands_there : (os : Files) (j : ℕ) (o : Rewritten (syntax.Unit Span)) (front : List Loss) (l : Loss) (back : List Loss) → slice_get os j ≡ Some o → o.losses ≡ front ++ l ∷ back
    → slice_get (kept_from 0 os) (ahead os j + length front) ≡ Some (lost_in j l)
stands_there os j o front l back e parts = stands_at 0 os j o front l back e parts ∙ (let same : 0 + j ≡ j = omega arith in ap (λ k. Some (lost_in k l)) same)

-- ---- which loss stands somewhere

pub record Located (n : ℕ) (os : Files) (i : ℕ) (x : Lost) : Type 0 where
  pub j : ℕ
  pub o : Rewritten (syntax.Unit Span)
  pub front : List Loss
  pub l : Loss
  pub back : List Loss
  pub stands : slice_get os j ≡ Some o
  pub parts : o.losses ≡ front ++ l ∷ back
  pub index : i ≡ ahead os j + length front
  pub is : x ≡ lost_in (n + j) l

pub record Here (n : ℕ) (ls : List Loss) (i : ℕ) (x : Lost) : Type 0 where
  pub front : List Loss
  pub l : Loss
  pub back : List Loss
  pub parts : ls ≡ front ++ l ∷ back
  pub index : i ≡ length front
  pub is : x ≡ lost_in n l

here_or_behind : (n : ℕ) (ls : List Loss) (rest : List Lost) (i : ℕ) (x : Lost) → slice_get (kept_lost n ls ++ rest) i ≡ Some x
    → Here n ls i x ⊎ ((k : ℕ) × (i ≡ length ls + k) × (slice_get rest k ≡ Some x))
here_or_behind n [] rest i x e = inr (i, (let same : i ≡ 0 + i = omega arith in same), e)
here_or_behind n (l ∷ ls) rest zero x e = inl (record { front = []; l = l; back = ls; parts = refl; index = refl; is = sym (same_item (lost_in n l) x e) })
here_or_behind n (l ∷ ls) rest (suc i) x e = elim (here_or_behind n ls rest i x e) [
  | inl h ↦ inl (record { front = l ∷ h.front; l = h.l; back = h.back; parts = ap (λ xs. l ∷ xs) h.parts; index = ap (λ k. suc k) h.index; is = h.is })
  | inr b ↦ inr (b.0, (let more : suc i ≡ suc (length ls) + b.0 = omega (arith, b.1) in more), b.2)
]

located : (n : ℕ) (os : Files) (i : ℕ) (x : Lost) → slice_get (kept_from n os) i ≡ Some x → Located n os i x
located n [] i x e = absurd (nothing x i e)
located n (o ∷ os) i x e = elim (here_or_behind n o.losses (kept_from (suc n) os) i x e) [
  | inl h ↦ record {
    j = 0;
    o = o;
    front = h.front;
    l = h.l;
    back = h.back;
    stands = refl;
    parts = h.parts;
    index = (let same : i ≡ 0 + length h.front = omega (arith, h.index) in same);
    is = h.is ∙ ap (λ k. lost_in k h.l) (let number : n ≡ n + 0 = omega arith in number);
  }
  | inr b ↦
      (let a = located (suc n) os b.0 x b.2 in
      record {
        j = suc a.j;
        o = a.o;
        front = a.front;
        l = a.l;
        back = a.back;
        stands = a.stands;
        parts = a.parts;
        index = (let more : b.0 ≡ ahead os a.j + length a.front = a.index in omega (arith, b.1, more));
        is = a.is ∙ ap (λ k. lost_in k a.l) (let number : suc n + a.j ≡ n + suc a.j = omega arith in number);
      })
]

-- it is of one of the files
pub lost_file : (os : Files) (i : ℕ) (x : Lost) → slice_get (kept_from 0 os) i ≡ Some x → x.file < length os
lost_file os i x e =
    let a = located 0 os i x e in
    let there = slice_get_within os a.j a.o a.stands in
    let file : x.file ≡ 0 + a.j = ap (λ (y : Lost). y.file) a.is in
    omega (arith, there, file)

-- ---- the first

all_there : (P : Loss → Type 0) (xs ys : List Loss) (m : Loss) → All P (xs ++ m ∷ ys) → P m
all_there P [] ys m h = All-head P m ys h
all_there P (x ∷ xs) ys m h = all_there P xs ys m (All-tail P x (xs ++ m ∷ ys) h)

loss_head : (a b : Loss) (xs ys : List Loss) → a ∷ xs ≡ b ∷ ys → a ≡ b
loss_head a b xs ys e = cc

loss_tail : (a b : Loss) (xs ys : List Loss) → a ∷ xs ≡ b ∷ ys → xs ≡ ys
loss_tail a b xs ys e = cc

-- where one loss is the first of a file, each has no lesser place
at_least : (l m : Loss) (front back other rest : List Loss) → front ++ l ∷ back ≡ other ++ m ∷ rest → All (λ (x : Loss). l.at < x.at) front → All (λ (x : Loss). l.at ≤ x.at) back → l.at ≤ m.at
at_least l m [] back [] rest e a b = (let same = ap (λ (x : Loss). x.at) (loss_head l m back rest e) in omega (arith, same))
at_least l m [] back (o ∷ other) rest e a b = all_there (λ (x : Loss). l.at ≤ x.at) other rest m (subst (λ (xs : List Loss). All (λ (x : Loss). l.at ≤ x.at) xs) (loss_tail l o back (other ++ m ∷ rest) e) b)
at_least l m (f ∷ front) back [] rest e a b =
    let same = ap (λ (x : Loss). x.at) (loss_head f m (front ++ l ∷ back) rest e) in
    let less = All-head (λ (x : Loss). l.at < x.at) f front a in
    omega (arith, same, less)
at_least l m (f ∷ front) back (o ∷ other) rest e a b = at_least l m front back other rest (loss_tail f o (front ++ l ∷ back) (other ++ m ∷ rest) e) (All-tail (λ (x : Loss). l.at < x.at) f front a) b

-- what stands in front of it is among those in front
in_front : (P : Loss → Type 0) (l m : Loss) (front back other rest : List Loss) → front ++ l ∷ back ≡ other ++ m ∷ rest → length other < length front → All P front → P m
in_front P l m [] back other rest e less a = absurd (omega (arith, less))
in_front P l m (f ∷ front) back [] rest e less a = subst P (loss_head f m (front ++ l ∷ back) rest e) (All-head P f front a)
in_front P l m (f ∷ front) back (o ∷ other) rest e less a = in_front P l m front back other rest (loss_tail f o (front ++ l ∷ back) (other ++ m ∷ rest) e) (omega (arith, less)) (All-tail P f front a)

module _ (os : Files) (j : ℕ) (l : Loss) (h : IsFirstLoss os j l) where
  -- the parts of one file's losses
  same_parts : (i : ℕ) (m : Loss) (other : IsLost os i m) → j ≡ i → h.lost.front ++ l ∷ h.lost.back ≡ other.front ++ m ∷ other.back
  same_parts i m other same =
      let of : h.lost.of ≡ other.of = same_item h.lost.of other.of (sym h.lost.stands ∙ ap (slice_get os) same ∙ other.stands) in
      sym h.lost.parts ∙ ap (λ (o : Rewritten (syntax.Unit Span)). o.losses) of ∙ other.parts

  lost_at : (i : ℕ) (y : Lost) → Located 0 os i y → (m : Loss) × (k : ℕ) × (y ≡ lost_in k m) × (other : IsLost os k m) × (i ≡ ahead os k + length other.front)
  lost_at i y a =
      let number : 0 + a.j ≡ a.j = omega arith in
      (a.l, a.j, a.is ∙ ap (λ k. lost_in k a.l) number, record { of = a.o; stands = a.stands; front = a.front; back = a.back; parts = a.parts }, a.index)

  none_precedes : (m : Loss) (k : ℕ) (other : IsLost os k m) → Precedes (lost_in k m) (lost_in j l) → ⊥
  none_precedes m k other (inl file) = let least = h.first_file k m other in omega (arith, file, least)
  none_precedes m k other (inr (same, inl less)) =
      let least = at_least l m h.lost.front h.lost.back other.front other.back (same_parts k m other (sym same)) h.first_place h.others in
      omega (arith, less, least)
  none_precedes m k other (inr (same, inr rank)) = let none = rank.1 in omega (arith, none)

  comes_before : (m : Loss) (k : ℕ) (other : IsLost os k m) → ahead os k + length other.front < ahead os j + length h.lost.front → Precedes (lost_in j l) (lost_in k m)
  comes_before m k other less = elim (cases_lt j k) [
    | inl file ↦ inl file
    | inr behind ↦
        (let least = h.first_file k m other in
        let same : j ≡ k = omega (arith, behind, least) in
        let short : length other.front < length h.lost.front = (let e : ahead os j ≡ ahead os k = ap (ahead os) same in omega (arith, less, e)) in
        inr (same, inl (in_front (λ (x : Loss). l.at < x.at) l m h.lost.front h.lost.back other.front other.back (same_parts k m other same) short h.first_place)))
  ]

  pub first_lost : IsFirstLost (kept_from 0 os) (lost_in j l)
  first_lost = record {
    number = ahead os j + length h.lost.front;
    stands = stands_there os j h.lost.of h.lost.front l h.lost.back h.lost.stands h.lost.parts;
    least = λ i y e before.
        (let a = lost_at i y (located 0 os i y e) in
        none_precedes a.0 a.1 a.3 (subst (λ z. Precedes z (lost_in j l)) a.2 before));
    earlier = λ i y less e.
        (let a = lost_at i y (located 0 os i y e) in
        subst (Precedes (lost_in j l)) (sym a.2) (comes_before a.0 a.1 a.3 (subst (λ n. n < ahead os j + length h.lost.front) a.4 less)));
  }
