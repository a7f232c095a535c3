-- What it is that the events of a plan stand where control can come: a law on plans in which a
-- position, the number of the site that was met last, is carried along.
use Rattle.std.specs.Prelude.{
  ◌≡◌,
  ℕ,
  Bool,
  true,
  false,
  List,
  [],
  ◌∷◌,
  Option,
  Some,
  None,
  IsTrue,
  nat_eq,
}
use Rattle.jr_plans.specs.Plan.{Plan, done, act, ask, call}
use Rattle.jr_plans.specs.Numbered.{Numbered}
use Rattle.jr_cover.specs.Paths.{Path}

-- A position: nothing was met yet, or this site was met last.
--
-- From a position a site can come next. At the beginning any site can.
abbrev pub Leads : (ℕ → ℕ → Type 0) → Option ℕ → ℕ → Type 0
Leads E None j = Unit {0}
Leads E (Some i) j = Path E i j

-- Moves x p q: the event x may come at position p, and leads to q. Pre, Post: how a call is made at
-- a position, and what its answer and the position behind it are.
module _ {V E S R : Type 0} (Moves : E → Option ℕ → Option ℕ → Type 0)
    (Pre : S → Option ℕ → Type 0)
    (Post : (c : S) (p : Option ℕ) → Pre c p → R → Option ℕ → Type 0) where
  -- each event of the plan may come where it comes, and what it comes to has Q there
  abbrev pub Visits : {A : Type 0} → (A → Option ℕ → Type 0) → Plan V E S R A → Option ℕ → Type 0
  Visits Q (done a) p = Q a p
  Visits Q (act x k) p = (q : Option ℕ) × Moves x p q × Visits Q k q
  Visits Q (ask f s k) p = (v : V) → IsTrue (f v) → (q : Option ℕ) × Moves (s v) p q
      × Visits Q (k v) q
  Visits Q (call c k) p = (h : Pre c p)
      × ((r : R) (q : Option ℕ) → Post c p h r q → Visits Q (k r) q)

-- the same of the events of one activation in a trace
module _ {E : Type 0} (Moves : E → Option ℕ → Option ℕ → Type 0) (k : ℕ) where
  abbrev pub MovesOwn : Bool → E → Option ℕ → Option ℕ → Type 0
  MovesOwn true x p q = Moves x p q
  MovesOwn false x p q = q ≡ p

  abbrev pub Follows : List (Numbered E) → Option ℕ → Option ℕ → Type 0
  Follows [] p r = r ≡ p
  Follows (x ∷ t) p r = (q : Option ℕ) × MovesOwn (nat_eq x.activation k) x.action p q
      × Follows t q r
