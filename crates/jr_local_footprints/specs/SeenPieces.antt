-- Pieces of a body that are found by paths from the member, where each mark is a spot: they have
-- the same ways as on the spans.
use Rattle.std.specs.Prelude.{◌≡◌, ℕ, ◌+◌, ◌≤◌, suc, Bool, List, [], ◌∷◌, ◌++◌, Some}
use Rattle.jr_text.specs.declared.spans.Span.{Span}
use Rattle.jr_ast.specs.Tree as tree
use Rattle.jr_ast.specs.StatementTree as statement
use Rattle.jr_ast.specs.MemberTree as syntax
use Rattle.jr_ast.specs.Nodes as nodes
use Rattle.jr_ast.specs.Nodes.{Node, node_at, exp_at, stmt_at}
use Rattle.jr_grammar.specs.Layout.{itself}
use Rattle.jr_bind.specs.Programs.{Program}
use Rattle.jr_code.specs.RunKeys.{RunKeys}
use Rattle.jr_cover.specs.Sites.{Known, exp_way, stmts_way}
use Rattle.jr_cover.specs.Spots.{Spot}
use Rattle.jr_expr_sites.specs.KnownFacts.{Others, known_of}
use Rattle.jr_pieces.specs.Ways.{StmtWay, ListWay}
use Rattle.jr_pieces.specs.Finding.{stmt_path, list_path}
use Rattle.jr_pieces.specs.Nearest.{Element, nearest}
use Rattle.jr_pieces.specs.Before.{stmt_before}
use Rattle.jr_way_places.specs.PlacedWays.{list_step, list_rest}
use Rattle.jr_piece_sites.specs.Leads.{AreParts, spots_of}
use Rattle.jr_local.specs.Bodies.{begins, Body}
use Rattle.jr_local.specs.BodyFacts.{known}
use Rattle.jr_local_footprints.specs.Ranges.{dropped, taken, size, own}
use Rattle.jr_local_footprints.specs.Givens.{given_of}

-- test: what is never null; flags: the same, by the numbers of locals; o: what else resolved code
-- needs
module _ (p : Program Span) (b : Body) (test : tree.Exp Span → Bool) (flags : List Bool)
    (base : ℕ) (m : syntax.Member Span) (o : Others) where
  abbrev pub by_spans : Known RunKeys Span
  by_spans = known p b test

  abbrev pub by_spots : Known RunKeys Spot
  by_spots = known_of (given_of p b flags base m) o

  abbrev pub whole : Node Spot
  whole = nodes.member (spots_of itself base m)

  -- the path leads to the expression
  pub record ExpIsSeen (f : tree.Exp Span) (path : List ℕ) : Type 0 where
    pub exp : tree.Exp Spot
    pub at : exp_at whole path ≡ Some exp
    pub way_is : exp_way by_spots exp ≡ exp_way by_spans f

  -- the statements are the parts of these numbers of the node to which the path leads
  pub record StmtsAreSeen (ss : statement.Stmts Span) (path : List ℕ) (from to : ℕ) : Type 0
    where
      pub node : Node Spot
      pub at : node_at whole path ≡ Some node
      pub list : statement.Stmts Spot
      pub are : AreParts node from to list
      pub way_is : stmts_way by_spots list ≡ stmts_way by_spans ss

  -- what comes before an expression of a statement, to which the path leads
  pub record FrontIsSeen {s : statement.Stmt Span} {f : tree.Exp Span} (d : StmtWay f s)
      (outer inner : List ℕ) : Type 0 where
    pub stmt : statement.Stmt Spot
    pub at : stmt_at whole outer ≡ Some stmt
    pub exp : tree.Exp Spot
    pub way : StmtWay exp stmt
    pub path : stmt_path way ≡ inner
    pub before_is : stmt_before by_spots way ≡ stmt_before by_spans d

  module _ {f : tree.Exp Span} (d : ListWay f b.list) where
    abbrev pub element : Element f
    element = nearest begins b.at d

    -- the list from the nearest element on
    abbrev pub held : statement.Stmts Span
    held = statement.more element.stmt element.rest

    -- the element has the number `step` in the node to which the path `around` leads
    abbrev pub StandsAt : (around : List ℕ) → (step : ℕ) → Type 0
    StandsAt around step = list_path b.front d ≡ around ++ step ∷ stmt_path element.way

    -- so many statements of the list, from one of them on
    abbrev pub SomeAreSeen : (around : List ℕ) → (step : ℕ) → Type 0
    SomeAreSeen around step = (n count : ℕ) → n + count ≤ size held
        → StmtsAreSeen (taken count (dropped n held)) around (step + n) (step + n + count)

    abbrev pub FrontsAreSeen : (around : List ℕ) → (step : ℕ) → Type 0
    FrontsAreSeen around step = (g : tree.Exp Span) (w : ListWay g held)
        → FrontIsSeen (own w).way (around ++ (step + list_step w) ∷ []) (list_rest w)

  -- of all that the body has
  pub record IsSeen : Type 0 where
    pub exps : (f : tree.Exp Span) (d : ListWay f b.list) → ExpIsSeen f (list_path b.front d)
    pub stmts : (f : tree.Exp Span) (d : ListWay f b.list) (around : List ℕ) (step : ℕ)
        → StandsAt d around step → SomeAreSeen d around step
    pub fronts : (f : tree.Exp Span) (d : ListWay f b.list) (around : List ℕ) (step : ℕ)
        → StandsAt d around step → FrontsAreSeen d around step
