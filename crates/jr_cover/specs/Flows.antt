-- Exact: the lists that the relations on ways tell, as code computes them, piece by piece.
use Rattle.std.specs.Prelude.{
  ℕ,
  zero,
  suc,
  ◌+◌,
  Bool,
  true,
  false,
  ◌&&◌,
  ◌||◌,
  List,
  [],
  ◌∷◌,
  ◌++◌,
}
use Rattle.jr_cover.specs.Ways.{Way, pass, one, row, fork, leave, turns, inside, size}

-- what is known of a piece, whose sites have the numbers from n on
pub record Flow : Type 0 where
  pub firsts : List ℕ
  pub lasts : List ℕ
  pub leaves : List ℕ
  pub passes : Bool
  pub leaves_at_once : Bool
  pub edges : List (ℕ × ℕ)

abbrev pub when : {A : Type 0} → Bool → List A → List A
when true l = l
when false l = []

-- from one site to each
abbrev pub fan : ℕ → List ℕ → List (ℕ × ℕ)
fan i [] = []
fan i (j ∷ js) = (i, j) ∷ fan i js

abbrev pub product : List ℕ → List ℕ → List (ℕ × ℕ)
product [] js = []
product (i ∷ is) js = fan i js ++ product is js

abbrev pub is_any : List ℕ → Bool
is_any [] = false
is_any (i ∷ is) = true

abbrev pub row_flow : Flow → Flow → Flow
row_flow f g = record {
  firsts = f.firsts ++ when f.passes g.firsts;
  lasts = g.lasts ++ when g.passes f.lasts;
  leaves = f.leaves ++ (g.leaves ++ when g.leaves_at_once f.lasts);
  passes = f.passes && g.passes;
  leaves_at_once = f.leaves_at_once || (f.passes && g.leaves_at_once);
  edges = f.edges ++ (g.edges ++ product f.lasts g.firsts);
}

abbrev pub fork_flow : Flow → Flow → Flow
fork_flow f g = record {
  firsts = f.firsts ++ g.firsts;
  lasts = f.lasts ++ g.lasts;
  leaves = f.leaves ++ g.leaves;
  passes = f.passes || g.passes;
  leaves_at_once = f.leaves_at_once || g.leaves_at_once;
  edges = f.edges ++ g.edges;
}

-- sites: how many the condition has
abbrev pub ends_of : (sites : ℕ) → ℕ → Flow → Flow → List ℕ
ends_of zero n f g = n ∷ []
ends_of (suc k) n f g = f.lasts ++ when f.passes (n ∷ g.lasts)

abbrev pub again_of : (sites : ℕ) → ℕ → Flow → List ℕ
again_of zero n f = n ∷ []
again_of (suc k) n f = f.firsts

abbrev pub turns_flow : (sites : ℕ) → ℕ → Flow → Flow → Flow
turns_flow sites n f g = record {
  firsts = n ∷ [];
  lasts = ends_of sites n f g;
  leaves = g.leaves ++ when g.leaves_at_once (ends_of sites n f g);
  passes = false;
  leaves_at_once = false;
  edges = f.edges ++ (g.edges ++ (fan n f.firsts ++ (product (ends_of sites n f g) g.firsts
      ++ (product g.lasts (again_of sites n f)
      ++ when g.passes (product (ends_of sites n f g) (again_of sites n f))))));
}

-- x: the exit's number
abbrev pub inside_flow : (n x : ℕ) → Flow → Flow
inside_flow n x g = record {
  firsts = n ∷ [];
  lasts = when (g.passes || is_any g.lasts) (x ∷ []);
  leaves = when (g.leaves_at_once || is_any g.leaves) (x ∷ []);
  passes = false;
  leaves_at_once = false;
  edges = g.edges ++ (fan n g.firsts ++ (product g.lasts (x ∷ []) ++ (product g.leaves (x ∷ [])
      ++ when (g.passes || g.leaves_at_once) ((n, x) ∷ []))));
}

abbrev pub flow_of : {S : Type 0} → ℕ → Way S → Flow
flow_of n pass = record {
  firsts = [];
  lasts = [];
  leaves = [];
  passes = true;
  leaves_at_once = false;
  edges = [];
}
flow_of n (one s) = record {
  firsts = n ∷ [];
  lasts = n ∷ [];
  leaves = [];
  passes = false;
  leaves_at_once = false;
  edges = [];
}
flow_of n (row a b) = row_flow (flow_of n a) (flow_of (n + size a) b)
flow_of n (fork a b) = fork_flow (flow_of n a) (flow_of (n + size a) b)
flow_of n leave = record {
  firsts = [];
  lasts = [];
  leaves = [];
  passes = false;
  leaves_at_once = true;
  edges = [];
}
flow_of n (turns s c b) = turns_flow (size c) n (flow_of (suc n) c) (flow_of (suc n + size c) b)
flow_of n (inside e b x) = inside_flow n (suc n + size b) (flow_of (suc n) b)
