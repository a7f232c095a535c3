-- Two pieces that may not change places lose one pair of sites, for one kind of dependence.
use Rattle.std.proofs.Common.{◌≡◌, ◌⊎◌, ◌<◌, ℕ, List, Option, Some, None, sym, ap, subst, ◌∙◌, inl, inr}
use Rattle.std.specs.Prelude.{slice_get}
use Rattle.std.proofs.lemmas.Bool.{cases_order}
use Rattle.std.proofs.lemmas.Option.{same_Some}
use Rattle.jr_sync.specs.declared.sites.Site.{Site}
use Rattle.jr_sync.specs.declared.sites.Site.TheVariants.{Read, Write, Access, Check, Call, Loop}
use Rattle.jr_sync.specs.declared.sites.DepKind.{DepKind}
use Rattle.jr_sync.specs.declared.sites.DepKind.TheVariants.{Order, Field, Sync, Flow, Anti, Output}
use Rattle.jr_sync.specs.Sites.{read_of, written_of}
use Rattle.jr_sync.specs.Relations.{Agree, Related}
use Rattle.jr_sync.specs.Crossing.{IsCrossing}
use Rattle.jr_one_plans.specs.OneAnswer.{PiecesCrossOnce}

module _ {K L : Type 0} (F : K → K → Type 0) (M : L → L → Type 0) where
  -- ---- a site reads a local, or writes one

  first_either : (a : Site K L) (o p : Option L) → Agree M (written_of a) o → Agree M (read_of a) p → ⊥
  first_either (Read l) o p x y = x
  first_either (Write l) o p x y = y
  first_either (Access k f) o p x y = x
  first_either Check o p x y = x
  first_either Call o p x y = x
  first_either Loop o p x y = x

  none_there : (o : Option L) → Agree M o None → ⊥
  none_there None x = x
  none_there (Some l) x = x

  second_either : (b : Site K L) (o p : Option L) → Agree M o (read_of b) → Agree M p (written_of b) → ⊥
  second_either (Read l) o p x y = none_there p y
  second_either (Write l) o p x y = none_there o x
  second_either (Access k f) o p x y = none_there o x
  second_either Check o p x y = none_there o x
  second_either Call o p x y = none_there o x
  second_either Loop o p x y = none_there o x

  -- ---- each of the three tests finds one kind

  abbrev Wild : DepKind → Site K L → Site K L → Type 0
  Wild k a b = (k ≡ Order) × Related F M Order a b

  abbrev Accesses : DepKind → Site K L → Site K L → Type 0
  Accesses k a b = ((k ≡ Field) × Related F M Field a b) ⊎ ((k ≡ Sync) × (Related F M Field a b → ⊥) × Related F M Sync a b)

  abbrev Locals : DepKind → Site K L → Site K L → Type 0
  Locals k a b = ((k ≡ Flow) × Related F M Flow a b) ⊎ ((k ≡ Anti) × Related F M Anti a b) ⊎ ((k ≡ Output) × Related F M Output a b)

  abbrev FindsOne : (DepKind → Site K L → Site K L → Type 0) → Type 0
  FindsOne Q = (a b : Site K L) (k l : DepKind) → Q k a b → Q l a b → k ≡ l

  wild_once : FindsOne Wild
  wild_once a b k l x y = x.0 ∙ sym y.0

  accesses_once : FindsOne Accesses
  accesses_once a b k l (inl x) (inl y) = x.0 ∙ sym y.0
  accesses_once a b k l (inl x) (inr y) = absurd (y.1 x.1)
  accesses_once a b k l (inr x) (inl y) = absurd (x.1 y.1)
  accesses_once a b k l (inr x) (inr y) = x.0 ∙ sym y.0

  locals_once : FindsOne Locals
  locals_once a b k l (inl x) (inl y) = x.0 ∙ sym y.0
  locals_once a b k l (inl x) (inr (inl y)) = absurd (first_either a (read_of b) (written_of b) x.1 y.1)
  locals_once a b k l (inl x) (inr (inr y)) = absurd (second_either b (written_of a) (written_of a) x.1 y.1)
  locals_once a b k l (inr (inl x)) (inl y) = absurd (first_either a (read_of b) (written_of b) y.1 x.1)
  locals_once a b k l (inr (inl x)) (inr (inl y)) = x.0 ∙ sym y.0
  locals_once a b k l (inr (inl x)) (inr (inr y)) = absurd (first_either a (written_of b) (written_of b) y.1 x.1)
  locals_once a b k l (inr (inr x)) (inl y) = absurd (second_either b (written_of a) (written_of a) y.1 x.1)
  locals_once a b k l (inr (inr x)) (inr (inl y)) = absurd (first_either a (written_of b) (written_of b) x.1 y.1)
  locals_once a b k l (inr (inr x)) (inr (inr y)) = x.0 ∙ sym y.0

  -- ---- and one first pair

  module _ (first second : List (Site K L)) where
    abbrev AtBy : (DepKind → Site K L → Site K L → Type 0) → (i j : ℕ) → DepKind → Type 0
    AtBy Q i j k = (a b : Site K L) × (slice_get first i ≡ Some a) × (slice_get second j ≡ Some b) × Q k a b

    abbrev FirstBy : (DepKind → Site K L → Site K L → Type 0) → (i j : ℕ) → DepKind → Type 0
    FirstBy Q i j k = AtBy Q i j k × ((m n : ℕ) (other : DepKind) → AtBy Q m n other → ((m < i) ⊎ ((m ≡ i) × (n < j))) → ⊥)

    place_once : (Q : DepKind → Site K L → Site K L → Type 0) (i j m n : ℕ) (k l : DepKind) → FirstBy Q i j k → FirstBy Q m n l → (i ≡ m) × (j ≡ n)
    place_once Q i j m n k l x y = rows (cases_order i m)
      where
        columns : i ≡ m → (j ≡ n) ⊎ ((j < n) ⊎ (n < j)) → (i ≡ m) × (j ≡ n)
        columns same (inl e) = (same, e)
        columns same (inr (inl less)) = absurd (y.1 i j k x.0 (inr (same, less)))
        columns same (inr (inr less)) = absurd (x.1 m n l y.0 (inr (sym same, less)))

        rows : (i ≡ m) ⊎ ((i < m) ⊎ (m < i)) → (i ≡ m) × (j ≡ n)
        rows (inl e) = columns e (cases_order j n)
        rows (inr (inl less)) = absurd (y.1 i j k x.0 (inl less))
        rows (inr (inr less)) = absurd (x.1 m n l y.0 (inl less))

    first_once : (Q : DepKind → Site K L → Site K L → Type 0) → FindsOne Q → (i j m n : ℕ) (k l : DepKind) → FirstBy Q i j k → FirstBy Q m n l → (i ≡ m) × (j ≡ n) × (k ≡ l)
    first_once Q single i j m n k l x y =
        let same = place_once Q i j m n k l x y in
        let a : x.0.0 ≡ y.0.0 = same_Some x.0.0 y.0.0 (sym x.0.2 ∙ ap (slice_get first) same.0 ∙ y.0.2) in
        let b : x.0.1 ≡ y.0.1 = same_Some x.0.1 y.0.1 (sym x.0.3 ∙ ap (slice_get second) same.1 ∙ y.0.3) in
        let there = subst (λ (s : Site K L). Q l s x.0.1) (sym a) (subst (λ (s : Site K L). Q l y.0.0 s) (sym b) y.0.4) in
        (same.0, same.1, single x.0.0 x.0.1 k l x.0.4 there)

    pub crossing_once : (i j m n : ℕ) (k l : DepKind) → IsCrossing F M first second (Some (i, j, k)) → IsCrossing F M first second (Some (m, n, l)) → (i ≡ m) × (j ≡ n) × (k ≡ l)
    crossing_once i j m n k l (inl x) (inl y) = first_once Wild wild_once i j m n k l x y
    crossing_once i j m n k l (inl x) (inr (inl y)) = absurd (y.0 i j k x.0)
    crossing_once i j m n k l (inl x) (inr (inr y)) = absurd (y.0 i j k x.0)
    crossing_once i j m n k l (inr (inl x)) (inl y) = absurd (x.0 m n l y.0)
    crossing_once i j m n k l (inr (inl x)) (inr (inl y)) = first_once Accesses accesses_once i j m n k l x.1 y.1
    crossing_once i j m n k l (inr (inl x)) (inr (inr y)) = absurd (y.1 i j k x.1.0)
    crossing_once i j m n k l (inr (inr x)) (inl y) = absurd (x.0 m n l y.0)
    crossing_once i j m n k l (inr (inr x)) (inr (inl y)) = absurd (x.1 m n l y.1.0)
    crossing_once i j m n k l (inr (inr x)) (inr (inr y)) = first_once Locals locals_once i j m n k l x.2 y.2

pub pieces_cross_once : {K L : Type 0} → PiecesCrossOnce K L
pieces_cross_once first second i j m n k l x y = crossing_once (λ a b. a ≡ b) (λ a b. a ≡ b) first second i j m n k l x y
