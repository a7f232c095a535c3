-- Shapes are gone through with a stack of pieces. Only private clauses cite this; what comes of it
-- is `jr_cover: Flows.flow_of`, by the lemma `Running: flows_run`.
use Rattle.std.specs.Prelude.{ℕ, suc, ◌+◌, ◌-◌, Bool, true, false, ◌&&◌, ◌||◌, nat_eq, List, [], ◌∷◌}
use Rattle.std.specs.Prelude.{◌++◌}
use Rattle.jr_cover.specs.Flows.{when, fan, product, is_any}
use Rattle.jr_cover.specs.Flows as flows
use Rattle.jr_way_graph.specs.declared.shapes.Shape.{Shape}
use Rattle.jr_way_graph.specs.declared.shapes.Shape.TheVariants as shape

-- a piece whose sites have the numbers from `begin` on
pub record Piece : Type 0 where
  pub begin : ℕ
  pub firsts : List ℕ
  pub lasts : List ℕ
  pub leaves : List ℕ
  pub passes : Bool
  pub leaves_at_once : Bool

abbrev pub piece_of : ℕ → flows.Flow → Piece
piece_of n f = record {
  begin = n;
  firsts = f.firsts;
  lasts = f.lasts;
  leaves = f.leaves;
  passes = f.passes;
  leaves_at_once = f.leaves_at_once;
}

-- the last piece stands in front
pub record Machine : Type 0 where
  pub count : ℕ
  pub stack : List Piece
  pub edges : List (ℕ × ℕ)

abbrev pub pass_piece : ℕ → Piece
pass_piece n = record {
  begin = n;
  firsts = [];
  lasts = [];
  leaves = [];
  passes = true;
  leaves_at_once = false;
}

abbrev pub site_piece : ℕ → Piece
site_piece n = record {
  begin = n;
  firsts = n ∷ [];
  lasts = n ∷ [];
  leaves = [];
  passes = false;
  leaves_at_once = false;
}

abbrev pub leave_piece : ℕ → Piece
leave_piece n = record {
  begin = n;
  firsts = [];
  lasts = [];
  leaves = [];
  passes = false;
  leaves_at_once = true;
}

abbrev pub row_piece : Piece → Piece → Piece
row_piece f g = record {
  begin = f.begin;
  firsts = f.firsts ++ when f.passes g.firsts;
  lasts = g.lasts ++ when g.passes f.lasts;
  leaves = f.leaves ++ (g.leaves ++ when g.leaves_at_once f.lasts);
  passes = f.passes && g.passes;
  leaves_at_once = f.leaves_at_once || (f.passes && g.leaves_at_once);
}

abbrev pub fork_piece : Piece → Piece → Piece
fork_piece f g = record {
  begin = f.begin;
  firsts = f.firsts ++ g.firsts;
  lasts = f.lasts ++ g.lasts;
  leaves = f.leaves ++ g.leaves;
  passes = f.passes || g.passes;
  leaves_at_once = f.leaves_at_once || g.leaves_at_once;
}

-- From where a turn of a loop goes on, and where its body leads. The loop's site has the number n;
-- is_bare: its condition has no site.
abbrev pub ends : (is_bare : Bool) → (n : ℕ) → Piece → Piece → List ℕ
ends true n f g = n ∷ []
ends false n f g = f.lasts ++ when f.passes (n ∷ g.lasts)

abbrev pub again : (is_bare : Bool) → (n : ℕ) → Piece → List ℕ
again true n f = n ∷ []
again false n f = f.firsts

abbrev pub turns_piece : (is_bare : Bool) → (n : ℕ) → Piece → Piece → Piece
turns_piece is_bare n f g = record {
  begin = n;
  firsts = n ∷ [];
  lasts = ends is_bare n f g;
  leaves = g.leaves ++ when g.leaves_at_once (ends is_bare n f g);
  passes = false;
  leaves_at_once = false;
}

abbrev pub turns_edges : (is_bare : Bool) → (n : ℕ) → Piece → Piece → List (ℕ × ℕ)
turns_edges is_bare n f g = fan n f.firsts ++ (product (ends is_bare n f g) g.firsts
    ++ (product g.lasts (again is_bare n f)
    ++ when g.passes (product (ends is_bare n f g) (again is_bare n f))))

abbrev pub inside_piece : (entry exit : ℕ) → Piece → Piece
inside_piece n x g = record {
  begin = n;
  firsts = n ∷ [];
  lasts = when (g.passes || is_any g.lasts) (x ∷ []);
  leaves = when (g.leaves_at_once || is_any g.leaves) (x ∷ []);
  passes = false;
  leaves_at_once = false;
}

abbrev pub inside_edges : (entry exit : ℕ) → Piece → List (ℕ × ℕ)
inside_edges n x g = fan n g.firsts ++ (product g.lasts (x ∷ []) ++ (product g.leaves (x ∷ [])
    ++ when (g.passes || g.leaves_at_once) ((n, x) ∷ [])))

abbrev pub none : Machine
none = record { count = 0; stack = []; edges = [] }

-- ---- a step

abbrev pub pushed : ℕ → Piece → Machine → Machine
pushed more p m = record { count = m.count + more; stack = p ∷ m.stack; edges = m.edges }

-- the last two, f before g, are one now; where there are no two, none is left
abbrev pub joined : (Piece → Piece → Piece) → (Piece → Piece → List (ℕ × ℕ)) → Machine
    → List Piece → Machine
joined p e m [] = record { count = m.count; stack = []; edges = m.edges }
joined p e m (g ∷ []) = record { count = m.count; stack = []; edges = m.edges }
joined p e m (g ∷ f ∷ rest) =
    record { count = m.count; stack = p f g ∷ rest; edges = m.edges ++ e f g }

abbrev pub no_edges : Piece → Piece → List (ℕ × ℕ)
no_edges f g = []

abbrev pub row_edges : Piece → Piece → List (ℕ × ℕ)
row_edges f g = product f.lasts g.firsts

abbrev pub loop_piece : Piece → Piece → Piece
loop_piece f g = turns_piece (nat_eq g.begin f.begin) (f.begin - 1) f g

abbrev pub loop_edges : Piece → Piece → List (ℕ × ℕ)
loop_edges f g = turns_edges (nat_eq g.begin f.begin) (f.begin - 1) f g

abbrev pub closed : Machine → List Piece → Machine
closed m [] = record { count = m.count + 1; stack = []; edges = m.edges }
closed m (g ∷ rest) = record {
  count = m.count + 1;
  stack = inside_piece (g.begin - 1) m.count g ∷ rest;
  edges = m.edges ++ inside_edges (g.begin - 1) m.count g;
}

abbrev pub step : Shape → Machine → Machine
step shape.Pass m = pushed 0 (pass_piece m.count) m
step shape.Site m = pushed 1 (site_piece m.count) m
step shape.Opens m = record { count = suc m.count; stack = m.stack; edges = m.edges }
step shape.Row m = joined row_piece row_edges m m.stack
step shape.Fork m = joined fork_piece no_edges m m.stack
step shape.Leave m = pushed 0 (leave_piece m.count) m
step shape.Turns m = joined loop_piece loop_edges m m.stack
step shape.Closes m = closed m m.stack

abbrev pub run : List Shape → Machine → Machine
run [] m = m
run (s ∷ ss) m = run ss (step s m)
