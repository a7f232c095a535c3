-- Which dependences are in question in each step.
use Rattle.std.proofs.Common.{◌≡◌, ◌⊎◌, ◌<◌, ℕ, ◌+◌, List, [], ◌∷◌, Some, refl, sym, ap, ◌∙◌, inl, inr, arith}
use Rattle.std.specs.Prelude.{◌↔◌, slice_get}
use Rattle.std.proofs.lemmas.Bool.{cases_eq}
use Rattle.std.proofs.lemmas.Result.{on_ok_weaker}
use Rattle.std.specs.Prelude.{Result, OnOk}
use Rattle.jr_sync.specs.declared.sites.DepKind.{DepKind}
use Rattle.jr_sync.specs.declared.sites.DepKind.TheVariants.{Order, Field, Sync, Flow, Anti, Output}
use Rattle.jr_dependences.specs.declared.dependence.Dependence.{Dependence}
use Rattle.jr_dependences.proofs.Leading.{same_item}
use Rattle.jr_dependences.specs.Listed.{rank, IsBefore, IsUpTo, IsBetween, IsOf, Adds}
use Rattle.jr_dependences.proofs.Adding.{adds_none, adds_same, adds_then}

-- those of the kinds below a rank
abbrev pub IsBelow : (first second count : ℕ) → Dependence → Type 0
IsBelow first second count d = (d.first ≡ first) × (d.second ≡ second) × (rank d.kind < count)

pub below_before : (first second count : ℕ) (kind : DepKind) → rank kind ≡ count → (x y : Dependence) → IsBelow first second count x → IsOf kind first second y → IsBefore x y
below_before first second count kind is x y p q = inr (p.0 ∙ sym q.1, inr (p.1 ∙ sym q.2, lower))
  where
    same : rank y.kind ≡ count
    same = ap rank q.0 ∙ is

    lower : rank x.kind < rank y.kind
    lower = let low : rank x.kind < count = p.2 in omega (arith, same)

kinds : List DepKind
kinds = Order ∷ Field ∷ Sync ∷ Flow ∷ Anti ∷ Output ∷ []

at_rank : (k : DepKind) → slice_get kinds (rank k) ≡ Some k
unfolding kinds
at_rank Order = refl
at_rank Field = refl
at_rank Sync = refl
at_rank Flow = refl
at_rank Anti = refl
at_rank Output = refl

kind_of_rank : (k m : DepKind) → rank k ≡ rank m → k ≡ m
kind_of_rank k m e = same_item k m (sym (at_rank k) ∙ ap (λ r. slice_get kinds r) e ∙ at_rank m)

rank_within : (k : DepKind) → rank k < 6
rank_within Order = omega arith
rank_within Field = omega arith
rank_within Sync = omega arith
rank_within Flow = omega arith
rank_within Anti = omega arith
rank_within Output = omega arith

pub below_more : (first second count : ℕ) (kind : DepKind) → rank kind ≡ count → (x : Dependence)
    → ((IsBelow first second count x ⊎ IsOf kind first second x) ↔ IsBelow first second (count + 1) x)
below_more first second count kind is x = (forth, back)
  where
    forth : (IsBelow first second count x ⊎ IsOf kind first second x) → IsBelow first second (count + 1) x
    forth (inl p) = let low : rank x.kind < count = p.2 in (p.0, p.1, omega arith)
    forth (inr p) = let same : rank x.kind ≡ count = ap rank p.0 ∙ is in (p.1, p.2, omega arith)

    by : IsBelow first second (count + 1) x → ((rank x.kind ≡ count) ⊎ (rank x.kind ≡ count → ⊥)) → IsBelow first second count x ⊎ IsOf kind first second x
    by p (inl same) = inr (kind_of_rank x.kind kind (same ∙ sym is), p.0, p.1)
    by p (inr other) = let low : rank x.kind < count + 1 = p.2 in inl (p.0, p.1, omega arith)

    back : IsBelow first second (count + 1) x → IsBelow first second count x ⊎ IsOf kind first second x
    back p = by p (cases_eq (rank x.kind) count)

pub below_all : (first second : ℕ) (x : Dependence) → (IsBelow first second 6 x ↔ IsBetween first second x)
below_all first second x = (λ p. (p.0, p.1), λ p. (p.0, p.1, rank_within x.kind))

-- those on one site, up to a second
pub up_to_before : (first second : ℕ) (x y : Dependence) → IsUpTo first second x → IsBetween first second y → IsBefore x y
up_to_before first second x y p q =
    let low : x.second < second = p.1 in
    let same : y.second ≡ second = q.1 in
    inr (p.0 ∙ sym q.0, inl (omega arith))

pub up_to_more : (first second : ℕ) (x : Dependence) → ((IsUpTo first second x ⊎ IsBetween first second x) ↔ IsUpTo first (second + 1) x)
up_to_more first second x = (forth, back)
  where
    forth : (IsUpTo first second x ⊎ IsBetween first second x) → IsUpTo first (second + 1) x
    forth (inl p) = let low : x.second < second = p.1 in (p.0, omega arith)
    forth (inr p) = let same : x.second ≡ second = p.1 in (p.0, omega arith)

    by : IsUpTo first (second + 1) x → ((x.second ≡ second) ⊎ (x.second ≡ second → ⊥)) → IsUpTo first second x ⊎ IsBetween first second x
    by p (inl same) = inr (p.0, same)
    by p (inr other) = let low : x.second < second + 1 = p.1 in inl (p.0, omega arith)

    back : IsUpTo first (second + 1) x → IsUpTo first second x ⊎ IsBetween first second x
    back p = by p (cases_eq x.second second)

-- those on sites below one
pub on_before : (first : ℕ) (x y : Dependence) → x.first < first → y.first ≡ first → IsBefore x y
on_before first x y p q = inl (omega arith)

pub on_more : (first : ℕ) (x : Dependence) → (((x.first < first) ⊎ (x.first ≡ first)) ↔ (x.first < first + 1))
on_more first x = (forth, back)
  where
    forth : ((x.first < first) ⊎ (x.first ≡ first)) → x.first < first + 1
    forth (inl p) = omega arith
    forth (inr p) = omega arith

    by : x.first < first + 1 → ((x.first ≡ first) ⊎ (x.first ≡ first → ⊥)) → (x.first < first) ⊎ (x.first ≡ first)
    by p (inl same) = inr same
    by p (inr other) = inl (omega arith)

    back : x.first < first + 1 → (x.first < first) ⊎ (x.first ≡ first)
    back p = by p (cases_eq x.first first)

pub only_one : (kind : DepKind) (first second : ℕ) (x : Dependence) → IsOf kind first second x → x ≡ record { kind = kind; first = first; second = second }
only_one kind first second x (a, b, c) = λ i. record { kind = a i; first = b i; second = c i }

-- The six kinds of two sites, one behind the other. The last is asked only where there was memory.
module _ (H : Dependence → Type 0) (first second : ℕ) where
  kind_more : (count : ℕ) (kind : DepKind) → rank kind ≡ count → (old middle new : List Dependence) → Adds (IsBelow first second count) H old middle → Adds (IsOf kind first second) H middle new
      → Adds (IsBelow first second (count + 1)) H old new
  kind_more count kind is old middle new f s =
      adds_then H (IsBelow first second count) (IsOf kind first second) (IsBelow first second (count + 1)) old middle new f s (below_before first second count kind is) (λ x h. below_more first second count kind is x)

  pub six_kinds : {E : Type 0} (a b c d e f g : List Dependence) → Adds (IsOf Order first second) H a b → Adds (IsOf Field first second) H b c → Adds (IsOf Sync first second) H c d
      → Adds (IsOf Flow first second) H d e → Adds (IsOf Anti first second) H e f → (r : Result (Unit {0}) E) → OnOk r (Adds (IsOf Output first second) H f g)
      → OnOk r (Adds (IsBetween first second) H a g)
  six_kinds a b c d e f g order field sync flow anti r output =
      let one = kind_more 0 Order refl a a b (adds_none H (IsBelow first second 0) a none) order in
      let two = kind_more 1 Field refl a b c one field in
      let three = kind_more 2 Sync refl a c d two sync in
      let four = kind_more 3 Flow refl a d e three flow in
      let five = kind_more 4 Anti refl a e f four anti in
      on_ok_weaker r (λ last. adds_same H (IsBelow first second 6) (IsBetween first second) a g (λ x h. below_all first second x) (kind_more 5 Output refl a f g five last)) output
    where
      none : (x : Dependence) → IsBelow first second 0 x → H x → ⊥
      none x q p = let low : rank x.kind < 0 = q.2 in omega arith
