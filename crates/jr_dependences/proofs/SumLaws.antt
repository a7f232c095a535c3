-- What a site of no local weighs with those before each other one, as it is summed up and as it is
-- used.
use Rattle.std.proofs.Common.{◌≡◌, ◌⊎◌, ◌<◌, ◌≤◌, ◌+◌, ◌-◌, ◌*◌, ◌/◌, ◌%◌, ◌^◌, ℕ, zero, suc, List, [], ◌∷◌, ◌++◌, length, get_or, Option, Some, None, true, false, refl, sym, ap, subst, ◌∙◌, inl, inr, arith}
use Rattle.std.specs.Prelude.{◌↔◌, IsTrue, IfSome, slice_get, slice_index, Contains}
use Rattle.std.specs.Int.{bit_at}
use Rattle.std.specs.List.{sum_by}
use Rattle.std.proofs.lemmas.Bool.{cases_eq}
use Rattle.std.proofs.lemmas.List.{get_or_append_left, get_or-append_right, length-append}
use Rattle.std.proofs.lemmas.List.Elements.{Contains-push_cases}
use Rattle.std.proofs.lemmas.Nat.Bits.{bit_at-zero, bit_at_ones}
use Rattle.std.proofs.lemmas.Option.{slice_get-get_or, slice_get_within}
use Rattle.jr_sync.specs.declared.kinds.Kind.{Kind}
use Rattle.jr_sync.specs.declared.kinds.Kind.TheVariants.{Load, Store, VolatileLoad, VolatileStore, Enter, Exit, Still}
use Rattle.jr_sync.specs.declared.sites.Site.{Site}
use Rattle.jr_sync.specs.declared.sites.DepKind.{DepKind}
use Rattle.jr_sync.specs.declared.sites.DepKind.TheVariants.{Flow}
use Rattle.jr_sync.specs.Relations.{Related}
use Rattle.jr_flow.specs.declared.reach.Reach.{Reach}
use Rattle.jr_flow.specs.Pairs.{Comes}
use Rattle.jr_dependences.specs.declared.dependence.Dependence.{Dependence}
use Rattle.jr_dependences.specs.declared.pairs.Kinds.{Kinds}
use Rattle.jr_dependences.specs.declared.summing.Sums.{Sums}
use Rattle.jr_dependences.specs.Depends.{Depends, DependsIn}
use Rattle.jr_dependences.specs.Kinds.{has, told, all_weights}
use Rattle.jr_dependences.specs.Known.{is_local, KnowsPaths, Gives}
use Rattle.jr_dependences.specs.Listed.{IsUpTo, IsOn, IsBetween, IsListed}
use Rattle.jr_dependences.specs.Numbers.{SameNumber}
use Rattle.jr_dependences.specs.Weights.{weight}
use Rattle.jr_dependences.specs.Summed.{kind_number, AreKinds, IsNext, AreSums, AreSumsOn, AreKept, IsSameSite, Given, WeighsTo, WeighsOn, IsSummed}
use Rattle.jr_dependences.proofs.Asking.{up_to_before, up_to_more}
use Rattle.jr_dependences.proofs.Leading.{same_item, never_apart, depends_is}
use Rattle.jr_dependences.proofs.Sorting.{given_other}
use Rattle.jr_dependences.proofs.Telling.{told_listed, told_sum, weighs_none, weighs_then, weighs_same}

-- ---- sites that are the same

all_kinds : List Kind
all_kinds = Load ∷ Store ∷ VolatileLoad ∷ VolatileStore ∷ Enter ∷ Exit ∷ Still ∷ []

at_number : (k : Kind) → slice_get all_kinds (kind_number k) ≡ Some k
unfolding all_kinds
at_number Load = refl
at_number Store = refl
at_number VolatileLoad = refl
at_number VolatileStore = refl
at_number Enter = refl
at_number Exit = refl
at_number Still = refl

pub kind_of_number : (k m : Kind) → kind_number k ≡ kind_number m → k ≡ m
kind_of_number k m e = same_item k m (sym (at_number k) ∙ ap (λ r. slice_get all_kinds r) e ∙ at_number m)

pub same_site : (sites : List (Site ℕ ℕ)) (one other : ℕ) (a b : Site ℕ ℕ) → slice_get sites one ≡ Some a → slice_get sites other ≡ Some b → a ≡ b → IsSameSite sites one other
same_site sites one other a b at bt same x xt = at ∙ ap Some (same ∙ same_item b x (sym bt ∙ xt))

-- the sums of one are those of the other
pub serve_too : (sites : List (Site ℕ ℕ)) (lens sums : List ℕ) (one first each : ℕ) → first < length sites → IsSameSite sites one first → AreSumsOn sites one each lens sums → AreSumsOn sites first each lens sums
serve_too sites lens sums one first each lt same are =
    let a = get_or sites first are.site in
    let at : slice_get sites first ≡ Some a = slice_get-get_or sites first are.site lt in
    let is : are.site ≡ a = same_item are.site a (sym are.is ∙ same a at) in
    record { site = are.site; is = at ∙ ap Some (sym is); other = are.other; are = are.are }

pub one_more_kept : (sites : List (Site ℕ ℕ)) (lens : List ℕ) (old new : List Sums) (s : Sums) → new ≡ old ++ s ∷ [] → AreKept sites lens old → AreSumsOn sites s.first s.each lens s.sums.items → AreKept sites lens new
one_more_kept sites lens old new s is are more = subst (λ (l : List Sums). AreKept sites lens l) (sym is) each
  where
    by : (x : Sums) → (Contains old x ⊎ (s ≡ x)) → AreSumsOn sites x.first x.each lens x.sums.items
    by x (inl at) = are x at
    by x (inr e) = subst (λ (z : Sums). AreSumsOn sites z.first z.each lens z.sums.items) e more

    each : AreKept sites lens (old ++ s ∷ [])
    each x at = by x (Contains-push_cases old s x at)

pub none_kept : (sites : List (Site ℕ ℕ)) (lens : List ℕ) (kept : List Sums) → kept ≡ [] → AreKept sites lens kept
none_kept sites lens kept is = subst (λ (l : List Sums). AreKept sites lens l) (sym is) (λ x at. absurd (omega (arith, at.1)))

pub some_holds : {X : Type 0} (P : X → Type 0) (o : Option X) (x : X) → o ≡ Some x → IfSome o P → P x
some_holds P o x is h = subst (λ p. IfSome p P) is h

-- ---- sums as they are made

pub record SumsTo (a : Site ℕ ℕ) (sites : List (Site ℕ ℕ)) (each : ℕ) (lens : List ℕ) (below total : ℕ) (sums : List ℕ) : Type 0 where
  pub count : length sums ≡ below + 1
  pub last : slice_index sums below ≡ total
  pub next : (n : ℕ) (b : Site ℕ ℕ) → n < below → slice_get sites n ≡ Some b → IsNext a b (each + slice_index lens n) (slice_index sums n) (slice_index sums (n + 1))

before : (xs : List ℕ) (x n : ℕ) → n < length xs → slice_index (xs ++ x ∷ []) n ≡ slice_index xs n
before xs x n lt = get_or_append_left xs (x ∷ []) 0 n lt

at_end : (xs : List ℕ) (x n : ℕ) → length xs ≡ n → slice_index (xs ++ x ∷ []) n ≡ x
at_end xs x n is =
    let zero_in : n - n ≡ 0 = omega arith in
    get_or-append_right xs (x ∷ []) n n 0 is (omega arith) ∙ ap (λ k. get_or (x ∷ []) k 0) zero_in

pub sums_begin : (a : Site ℕ ℕ) (sites : List (Site ℕ ℕ)) (each : ℕ) (lens sums : List ℕ) → sums ≡ 0 ∷ [] → SumsTo a sites each lens 0 0 sums
sums_begin a sites each lens sums is = subst (λ (l : List ℕ). SumsTo a sites each lens 0 0 l) (sym is) (record { count = refl; last = refl; next = λ n b lt at. absurd (omega (arith, lt)) })

module _ (a : Site ℕ ℕ) (sites : List (Site ℕ ℕ)) (each : ℕ) (lens : List ℕ) where
  pub sums_more : (n total new with_this : ℕ) (old sums : List ℕ) (b : Site ℕ ℕ) → slice_get sites n ≡ Some b → with_this ≡ each + slice_index lens n → IsNext a b with_this total new → sums ≡ old ++ new ∷ []
      → SumsTo a sites each lens n total old → SumsTo a sites each lens (n + 1) new sums
  sums_more n total new with_this old sums b at sum next is h = subst (λ (l : List ℕ). SumsTo a sites each lens (n + 1) new l) (sym is) (record {
    count = length-append old (new ∷ []) ∙ ap (λ k. k + 1) h.count;
    last = at_end old new (n + 1) h.count;
    next = λ m x lt xt. by m x lt xt (cases_eq m n);
  })
    where
      more : IsNext a b (each + slice_index lens n) total new
      more = subst (λ k. IsNext a b k total new) sum next

      by : (m : ℕ) (x : Site ℕ ℕ) → m < n + 1 → slice_get sites m ≡ Some x → ((m ≡ n) ⊎ (m ≡ n → ⊥))
          → IsNext a x (each + slice_index lens m) (slice_index (old ++ new ∷ []) m) (slice_index (old ++ new ∷ []) (m + 1))
      by m x lt xt (inl same) =
          let c = h.count in
          let here : slice_get sites n ≡ Some x = ap (λ k. slice_get sites k) (sym same) ∙ xt in
          let is_b : b ≡ x = same_item b x (sym at ∙ here) in
          let low : slice_index (old ++ new ∷ []) m ≡ total = before old new m (omega (arith, c, lt)) ∙ ap (λ k. slice_index old k) same ∙ h.last in
          let high : slice_index (old ++ new ∷ []) (m + 1) ≡ new = ap (λ k. slice_index (old ++ new ∷ []) (k + 1)) same ∙ at_end old new (n + 1) h.count in
          subst (λ (z : Site ℕ ℕ). IsNext a z (each + slice_index lens m) (slice_index (old ++ new ∷ []) m) (slice_index (old ++ new ∷ []) (m + 1))) is_b
          (subst (λ k. IsNext a b (each + slice_index lens m) k (slice_index (old ++ new ∷ []) (m + 1))) (sym low)
          (subst (λ k. IsNext a b (each + slice_index lens m) total k) (sym high)
          (subst (λ k. IsNext a b (each + slice_index lens k) total new) (sym same) more)))
      by m x lt xt (inr other) =
          let c = h.count in
          let under : m < n = omega (arith, lt, other) in
          let low : slice_index (old ++ new ∷ []) m ≡ slice_index old m = before old new m (omega (arith, c, under)) in
          let high : slice_index (old ++ new ∷ []) (m + 1) ≡ slice_index old (m + 1) = before old new (m + 1) (omega (arith, c, under)) in
          subst (λ k. IsNext a x (each + slice_index lens m) k (slice_index (old ++ new ∷ []) (m + 1))) (sym low)
          (subst (λ k. IsNext a x (each + slice_index lens m) (slice_index old m) k) (sym high) (h.next m x under xt))

  pub sums_all : (first n total : ℕ) (sums : List ℕ) → slice_get sites first ≡ Some a → is_local a ≡ false → n ≡ length sites → SumsTo a sites each lens n total sums → AreSumsOn sites first each lens sums
  sums_all first n total sums at other is h = record {
    site = a;
    is = at;
    other = other;
    are = record {
      count = h.count ∙ ap (λ k. k + 1) is;
      next = λ m b bt. let lt = slice_get_within sites m b bt in h.next m b (omega (arith, lt, is)) bt;
    };
  }

-- ---- sums as they are used

same_end : (n : ℕ) → n ≡ n + zero
same_end n = omega arith

next_end : (n c : ℕ) → n + c + 1 ≡ n + suc c
next_end n c = omega arith

module _ (g : Given) (first each : ℕ) (reach : Reach) (sums : List ℕ) (s : IsSummed g first each reach sums) where
  abbrev H : Dependence → Type 0
  H d = DependsIn SameNumber SameNumber g.sites g.edges d

  -- what isn't of a local gives nothing
  gives_none : (a b : Site ℕ ℕ) → slice_get g.sites first ≡ Some a → Related SameNumber SameNumber Flow a b → ⊥
  gives_none a b at related =
      let is : s.summed.site ≡ a = same_item s.summed.site a (sym s.summed.is ∙ at) in
      let other : is_local a ≡ false = subst (λ (z : Site ℕ ℕ). is_local z ≡ false) is s.summed.other in
      ((given_other SameNumber SameNumber a b other None 0 Flow true (λ e. related, λ r. refl)).0 refl).0

  known : KnowsPaths SameNumber SameNumber g.sites g.edges first reach None
  known = record { paths = s.paths; flows = λ a at read. gives_none a read.1 at read.3 }

  listed : (n : ℕ) (b : Site ℕ ℕ) (kinds : Kinds) → slice_get g.sites n ≡ Some b → Comes reach first n → AreKinds s.summed.site b kinds → IsListed (IsBetween first n) H (told kinds first n)
  listed n b kinds at comes are =
      told_listed H first n kinds
      (λ kind. depends_is SameNumber SameNumber g.sites g.edges first reach s.summed.site s.summed.is n None b at known comes kind (has kinds kind)
      (given_other SameNumber SameNumber s.summed.site b s.summed.other None n kind (has kinds kind) (are kind)))

  pub one_more : (n total more new : ℕ) → n < length g.sites → Comes reach first n → more + slice_index sums n ≡ slice_index sums (n + 1) → new ≡ total + more → WeighsTo g first each n total → WeighsTo g first each (n + 1) new
  one_more n total more new lt comes is sum h =
      let b = get_or g.sites n s.summed.site in
      let at : slice_get g.sites n ≡ Some b = slice_get-get_or g.sites n s.summed.site lt in
      let next = s.summed.are.next n b at in
      let w = all_weights next.0 (each + slice_index g.lens n) in
      let steps : slice_index sums (n + 1) ≡ slice_index sums n + w = next.2 in
      let weighs : sum_by (weight each g.lens) (told next.0 first n) ≡ w = told_sum each g.lens first n next.0 in
      let same : new ≡ total + w = omega (arith, is, steps, sum) in
      subst (λ t. WeighsTo g first each (n + 1) t) (sym same)
      (weighs_then H each g.lens (IsUpTo first n) (IsBetween first n) (IsUpTo first (n + 1)) total w (told next.0 first n) h (listed n b next.0 at comes next.1) (sym weighs) (up_to_before first n)
      (λ x holds. up_to_more first n x))

  pub one_past : (n total : ℕ) → (Comes reach first n → ⊥) → WeighsTo g first each n total → WeighsTo g first each (n + 1) total
  one_past n total apart h = weighs_same H each g.lens (IsUpTo first n) (IsUpTo first (n + 1)) total (λ x holds. (further x, back x holds)) h
    where
      further : (x : Dependence) → IsUpTo first n x → IsUpTo first (n + 1) x
      further x p = let low : x.second < n = p.1 in (p.0, omega (arith, low))

      by : (x : Dependence) → H x → IsUpTo first (n + 1) x → ((x.second ≡ n) ⊎ (x.second ≡ n → ⊥)) → IsUpTo first n x
      by x holds p (inl same) =
          absurd (never_apart SameNumber SameNumber g.sites g.edges first reach None known n apart x.kind
          (subst (λ m. Depends SameNumber SameNumber g.sites g.edges x.kind first m) same (subst (λ m. Depends SameNumber SameNumber g.sites g.edges x.kind m x.second) p.0 holds)))
      by x holds p (inr other) = let low : x.second < n + 1 = p.1 in (p.0, omega (arith, low, other))

      back : (x : Dependence) → H x → IsUpTo first (n + 1) x → IsUpTo first n x
      back x holds p = by x holds p (cases_eq x.second n)

  pub many_past : (n count total : ℕ) → ((m : ℕ) → n ≤ m → m < n + count → Comes reach first m → ⊥) → WeighsTo g first each n total → WeighsTo g first each (n + count) total
  many_past n zero total never h = subst (λ k. WeighsTo g first each k total) (same_end n) h
  many_past n (suc c) total never h =
      subst (λ k. WeighsTo g first each k total) (next_end n c)
      (one_past (n + c) total (never (n + c) (omega arith) (omega arith)) (many_past n c total (λ m le lt. never m le (omega (arith, lt))) h))

  step : (n : ℕ) → n < length g.sites → (w : ℕ) × (slice_index sums (n + 1) ≡ slice_index sums n + w)
  step n lt =
      let b = get_or g.sites n s.summed.site in
      let next = s.summed.are.next n b (slice_get-get_or g.sites n s.summed.site lt) in
      (all_weights next.0 (each + slice_index g.lens n), next.2)

  rises : (n count : ℕ) → n + count ≤ length g.sites → slice_index sums n ≤ slice_index sums (n + count)
  rises n zero le = subst (λ k. slice_index sums n ≤ slice_index sums k) (same_end n) (omega arith)
  rises n (suc c) le =
      let up = rises n c (omega (arith, le)) in
      let one = step (n + c) (omega (arith, le)) in
      let is : slice_index sums (n + c + 1) ≡ slice_index sums (n + c) + one.0 = one.1 in
      subst (λ k. slice_index sums n ≤ slice_index sums k) (next_end n c) (omega (arith, up, is))

  pub many_more : (n count total more new : ℕ) → n + count ≤ length g.sites → ((m : ℕ) → n ≤ m → m < n + count → Comes reach first m) → more + slice_index sums n ≡ slice_index sums (n + count) → new ≡ total + more
      → WeighsTo g first each n total → WeighsTo g first each (n + count) new
  many_more n zero total more new le come is sum h =
      let there : slice_index sums n ≡ slice_index sums (n + zero) = ap (λ k. slice_index sums k) (same_end n) in
      let none : more ≡ 0 = omega (arith, is, there) in
      let same : new ≡ total = omega (arith, none, sum) in
      subst (λ k. WeighsTo g first each k new) (same_end n) (subst (λ t. WeighsTo g first each n t) (sym same) h)
  many_more n (suc c) total more new le come is sum h =
      let up = rises n c (omega (arith, le)) in
      let one = step (n + c) (omega (arith, le)) in
      let stepped : slice_index sums (n + c + 1) ≡ slice_index sums (n + c) + one.0 = one.1 in
      let part = slice_index sums (n + c) - slice_index sums n in
      let parted : part + slice_index sums n ≡ slice_index sums (n + c) = omega (arith, up) in
      let all : more + slice_index sums n ≡ slice_index sums (n + c + 1) = is ∙ sym (ap (λ k. slice_index sums k) (next_end n c)) in
      subst (λ k. WeighsTo g first each k new) (next_end n c)
      (one_more (n + c) (total + part) one.0 new (omega (arith, le)) (come (n + c) (omega arith) (omega arith)) (omega (arith, stepped)) (omega (arith, all, parted, stepped, sum))
      (many_more n c total part (total + part) (omega (arith, le)) (λ m low lt. come m low (omega (arith, lt))) parted refl h))

  pub none_yet : WeighsTo g first each 0 0
  none_yet = weighs_none H each g.lens (IsUpTo first 0) (λ x q p. let low : x.second < 0 = q.1 in omega (arith, low))

  pub all_on : (n total : ℕ) → n ≡ length g.sites → WeighsTo g first each n total → WeighsOn g first each total
  all_on n total is h = weighs_same H each g.lens (IsUpTo first n) (IsOn first) total (λ x holds. (λ p. p.0, λ p. (p, let lt = slice_get_within g.sites x.second holds.1 holds.3 in omega (arith, lt, is)))) h

-- ---- 64 at once

abbrev pub TellsWord : Reach → (first block word : ℕ) → Type 0
TellsWord reach first block word = (to : ℕ) → to / 64 ≡ block → (Comes reach first to ↔ ((first < reach.size) × (to < reach.size) × (bit_at word (to % 64) ≡ 1)))

in_block : (block m : ℕ) → 64 * block ≤ m → m < 64 * block + 64 → m / 64 ≡ block
in_block block m low high = omega (arith, low, high)

pub word_empty : (reach : Reach) (first block word : ℕ) → TellsWord reach first block word → word ≡ 0 → (m : ℕ) → 64 * block ≤ m → m < 64 * block + 64 → Comes reach first m → ⊥
word_empty reach first block word tells is m low high comes =
    let bit = ((tells m (in_block block m low high)).0 comes).2 in
    let none : bit_at word (m % 64) ≡ 0 = ap (λ w. bit_at w (m % 64)) is ∙ bit_at-zero (m % 64) in
    let no : 1 ≡ 0 = sym bit ∙ none in
    omega (arith, no)

pub word_full : (reach : Reach) (first block word last : ℕ) → TellsWord reach first block word → word ≡ 2 ^ 64 - 1 → last ≡ 64 * block + 63 → Comes reach first last → (m : ℕ) → 64 * block ≤ m → m < 64 * block + 64 → Comes reach first m
word_full reach first block word last tells is at comes m low high =
    let end = comes.1 in
    let bit : bit_at word (m % 64) ≡ 1 = ap (λ w. bit_at w (m % 64)) is ∙ bit_at_ones 64 (m % 64) (omega arith) in
    (tells m (in_block block m low high)).1 (comes.0, omega (arith, end, at, high), bit)
