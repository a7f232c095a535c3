-- Numbers by owner and name, all of one owner and name in order.
use Rattle.std.specs.Prelude.{
  ◌≡◌,
  ℕ,
  suc,
  ◌<◌,
  ◌≤◌,
  List,
  Option,
  Some,
  None,
  Bool,
  true,
  false,
  ◌==◌,
  ◌&&◌,
  length,
  option_and_then,
}
use Rattle.std.specs.List.{slice_get}
use Rattle.std.specs.Str.{bytes_eq}
use Rattle.jr_index.specs.declared.linked.Place as raw
use Rattle.jr_index.specs.declared.linked.Linked.{Linked}
use Rattle.jr_index.specs.NameTable.{owners, number_at}

-- an owner, if there is one, and a name
abbrev pub place_of : raw.Place → Option ℕ × List ℕ
place_of p = (p.owner, p.name.now)

abbrev pub is_owner : Option ℕ → ℕ → Bool
is_owner None c = false
is_owner (Some d) c = d == c

-- whether a place has this owner and this name
abbrev pub is_at : ℕ → List ℕ → Option ℕ × List ℕ → Bool
is_at c q p = is_owner p.0 c && bytes_eq p.1 q

-- no element from i on and before j passes
abbrev pub NoneBetween : {X : Type 0} → (X → Bool) → List X → (i j : ℕ) → Type 0
NoneBetween {X} test xs i j =
    (k : ℕ) (x : X) → i ≤ k → k < j → slice_get xs k ≡ Some x → test x ≡ false

pub record PassesAt {X : Type 0} (test : X → Bool) (xs : List X) (j : ℕ) : Type 0 where
  pub element : X
  pub stands : slice_get xs j ≡ Some element
  pub passes : test element ≡ true

-- the number of the first element from i on that passes
abbrev pub IsFirstFrom : {X : Type 0} → (X → Bool) → List X → ℕ → Option ℕ → Type 0
IsFirstFrom test xs i None = NoneBetween test xs i (length xs)
IsFirstFrom test xs i (Some j) = (i ≤ j) × PassesAt test xs j × NoneBetween test xs i j

-- each owner is less than that
abbrev pub AreOwned : List (Option ℕ × List ℕ) → ℕ → Type 0
AreOwned ps most = (j c : ℕ) (p : Option ℕ × List ℕ) → slice_get ps j ≡ Some p → p.0 ≡ Some c
    → c < most

abbrev pub first_of : Linked → ℕ → List ℕ → Option ℕ
first_of x c q = number_at x.firsts c q

abbrev pub ends : Linked → List (Option ℕ)
ends x = x.nexts.items

abbrev pub next_of : Linked → ℕ → Option ℕ
next_of x j = option_and_then (λ (o : Option ℕ). o) (slice_get (ends x) j)

-- the numbers of these places from one on
pub record AreLinkedFrom (ps : List (Option ℕ × List ℕ)) (most i : ℕ) (x : Linked) : Type 0 where
  pub firsts : (c : ℕ) (q : List ℕ) → IsFirstFrom (is_at c q) ps i (first_of x c q)
  pub nexts : (j c : ℕ) (p : Option ℕ × List ℕ) → i ≤ j → slice_get ps j ≡ Some p → p.0 ≡ Some c
      → IsFirstFrom (is_at c p.1) ps (suc j) (next_of x j)
  pub owned : owners x.firsts ≡ most
  pub all : length (ends x) ≡ length ps
