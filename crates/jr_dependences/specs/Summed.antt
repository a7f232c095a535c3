-- What one site weighs with those before each other one, whatever the paths; and what is kept of it.
use Rattle.std.specs.Prelude.{
  ◌≡◌,
  ◌↔◌,
  ◌+◌,
  ◌<◌,
  ◌^◌,
  ℕ,
  List,
  length,
  slice_get,
  slice_index,
  Some,
  false,
  IsTrue,
  Contains,
}
use Rattle.jr_sync.specs.declared.kinds.Kind.{Kind}
use Rattle.jr_sync.specs.declared.kinds.Kind.TheVariants as kind_is
use Rattle.jr_sync.specs.declared.sites.Site.{Site}
use Rattle.jr_sync.specs.declared.sites.DepKind.{DepKind}
use Rattle.jr_sync.specs.Relations.{Related}
use Rattle.jr_flow.specs.declared.reach.Reach.{Reach}
use Rattle.jr_flow.specs.Edges.{EdgeOf}
use Rattle.jr_flow.specs.Pairs.{Tells}
use Rattle.jr_flow.specs.Paths.{Path}
use Rattle.jr_flow.specs.Searched.{AreRowsOf}
use Rattle.jr_dependences.specs.declared.pairs.Kinds.{Kinds}
use Rattle.jr_dependences.specs.declared.summing.Sums.{Sums}
use Rattle.jr_dependences.specs.declared.together.MemberSites.{MemberSites}
use Rattle.jr_dependences.specs.Depends.{DependsIn}
use Rattle.jr_dependences.specs.Kinds.{has, all_weights}
use Rattle.jr_dependences.specs.Known.{is_local}
use Rattle.jr_dependences.specs.Listed.{IsUpTo, IsOn}
use Rattle.jr_dependences.specs.Numbers.{SameNumber}
use Rattle.jr_dependences.specs.Weights.{Weighs}

abbrev pub kind_number : Kind → ℕ
kind_number kind_is.Load = 0
kind_number kind_is.Store = 1
kind_number kind_is.VolatileLoad = 2
kind_number kind_is.VolatileStore = 3
kind_number kind_is.Enter = 4
kind_number kind_is.Exit = 5
kind_number kind_is.Still = 6

-- how the second is related to the first
abbrev pub AreKinds : (a b : Site ℕ ℕ) → Kinds → Type 0
AreKinds a b kinds =
    (kind : DepKind) → (IsTrue (has kinds kind) ↔ Related SameNumber SameNumber kind a b)

-- so much more it weighs with that one
abbrev pub IsNext : (a b : Site ℕ ℕ) → (each old new : ℕ) → Type 0
IsNext a b each old new = (kinds : Kinds) × AreKinds a b kinds × (new ≡ old + all_weights kinds each)

-- A number for each site and one more: what the site weighs with those that stand before it.
pub record AreSums (a : Site ℕ ℕ) (sites : List (Site ℕ ℕ)) (each : ℕ) (lens sums : List ℕ)
    : Type 0 where
  pub count : length sums ≡ length sites + 1
  pub next : (n : ℕ) (b : Site ℕ ℕ) → slice_get sites n ≡ Some b
      → IsNext a b (each + slice_index lens n) (slice_index sums n) (slice_index sums (n + 1))

-- those of the site of a number, which is of no local
pub record AreSumsOn (sites : List (Site ℕ ℕ)) (first each : ℕ) (lens sums : List ℕ) : Type 0 where
  pub site : Site ℕ ℕ
  pub is : slice_get sites first ≡ Some site
  pub other : is_local site ≡ false
  pub are : AreSums site sites each lens sums

-- what is kept is right
abbrev pub AreKept : (sites : List (Site ℕ ℕ)) (lens : List ℕ) → List Sums → Type 0
AreKept sites lens kept = (s : Sums) → Contains kept s
    → AreSumsOn sites s.first s.each lens s.sums.items

-- the site of one number is that of another
abbrev pub IsSameSite : List (Site ℕ ℕ) → (one other : ℕ) → Type 0
IsSameSite sites one other = (a : Site ℕ ℕ) → slice_get sites other ≡ Some a
    → slice_get sites one ≡ Some a

-- ---- of a member

-- a row of sites with their bytes, and the edges between them
pub record Given : Type 0 where
  pub sites : List (Site ℕ ℕ)
  pub edges : List (ℕ × ℕ)
  pub lens : List ℕ

-- what the dependences on a site weigh whose second sites stand below a number
abbrev pub WeighsTo : Given → (first each below total : ℕ) → Type 0
WeighsTo g first each below total = Weighs (IsUpTo first below)
    (DependsIn SameNumber SameNumber g.sites g.edges) each g.lens total

-- what all on a site weigh
abbrev pub WeighsOn : Given → (first each total : ℕ) → Type 0
WeighsOn g first each total =
    Weighs (IsOn first) (DependsIn SameNumber SameNumber g.sites g.edges) each g.lens total

-- what is known of a site of no local
pub record IsSummed (g : Given) (first each : ℕ) (reach : Reach) (sums : List ℕ) : Type 0 where
  pub paths : Tells (Path (EdgeOf g.edges)) reach
  pub summed : AreSumsOn g.sites first each g.lens sums

-- what is known of the member
pub record IsKnown (edges : List (ℕ × ℕ)) (of : MemberSites) : Type 0 where
  pub paths : Tells (Path (EdgeOf edges)) of.reach.now
  pub rows : AreRowsOf edges of.rows.now

-- the numbers of its sites fit
pub record IsOfSize (of : MemberSites) : Type 0 where
  pub few : length of.sites.now < 2 ^ 32
  pub lens : length of.lens.now ≡ length of.sites.now

abbrev pub given_of : List (ℕ × ℕ) → MemberSites → Given
given_of edges of = record {
  sites = of.sites.now;
  edges = edges;
  lens = of.lens.now;
}
