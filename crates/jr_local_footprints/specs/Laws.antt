-- What footprints of a body's pieces are, and which pair two of them lose.
use Rattle.std.specs.Prelude.{◌≡◌, ℕ, ◌≤◌, suc, Bool, List, ◌++◌, length, take, Option}
use Rattle.jr_text.specs.declared.spans.Span.{Span}
use Rattle.jr_ast.specs.Tree as tree
use Rattle.jr_ast.specs.StatementTree as statement
use Rattle.jr_ast.specs.MemberTree as syntax
use Rattle.jr_grammar.specs.Layout.{itself}
use Rattle.jr_grammar.specs.StatementShape.{StmtsShaped}
use Rattle.jr_table.specs.Keys.{ClassKey}
use Rattle.jr_table.specs.Binding.{IsClassName}
use Rattle.jr_runs.specs.Keys.{Keys, keys_of}
use Rattle.jr_bind.specs.Programs.{Program, IsProgram}
use Rattle.jr_cover.specs.Sites.{Known, exp_way, stmts_way}
use Rattle.jr_cover.specs.Ways.{sites_of}
use Rattle.jr_names.specs.Sites.{DepPair}
use Rattle.jr_expr_sites.specs.KnownFacts.{Others}
use Rattle.jr_cfg.specs.MemberRoutes.{NumbersMember}
use Rattle.jr_pieces.specs.Ways.{StmtWay, ListWay}
use Rattle.jr_pieces.specs.Standings.{at_list}
use Rattle.jr_pieces.specs.Nearest.{nearest}
use Rattle.jr_pieces.specs.Uses.{valued, list_use}
use Rattle.jr_pieces.specs.Before.{StmtEvaluated, stmt_before, list_before, list_through}
use Rattle.jr_way_places.specs.PlacedWays.{list_step}
use Rattle.jr_sites.specs.declared.sites.PlacedSite as raw
use Rattle.jr_piece_sites.specs.Footprints.{IsFootprint}
use Rattle.jr_piece_sites.specs.Leads.{of_exp, of_stmts}
use Rattle.jr_plan.specs.Reasons.{TellsLost}
use Rattle.jr_local.specs.Bodies.{begins, Body, HasBody}
use Rattle.jr_local.specs.BodyFacts.{TellsNeverNull, known}
use Rattle.jr_local.specs.Crossing.{Piece, Crossed}
use Rattle.jr_local_footprints.specs.Ranges.{dropped, taken, size, own}
use Rattle.jr_local_footprints.specs.Givens.{IsMemberOf, FlagsTell, given_of}
use Rattle.jr_local_footprints.specs.SeenPieces.{IsSeen, ExpIsSeen, StmtsAreSeen, held}
use Rattle.jr_local_footprints.specs.LostPairs.{AreSitesOf, IsLostPair}

-- ---- footprints

-- Footprints of what is seen have the sites of the body.
module _ (p : Program Span) (file : ℕ) (b : Body) (test : tree.Exp Span → Bool)
    (flags : List Bool) (base : ℕ) (m : syntax.Member Span) (o : Others) where
  pub record AreFootprints : Type 0 where
    pub seen : IsSeen p b test flags base m o
    pub of_expression : (f : tree.Exp Span) (d : ListWay f b.list) (path : List ℕ)
        (e : ExpIsSeen p b test flags base m o f path) (list : List raw.PlacedSite)
        → IsFootprint (given_of p b flags base m) o (of_exp e.exp) list
        → AreSitesOf p file b (sites_of (exp_way (known p b test) f)) list
    pub of_statements : (f : tree.Exp Span) (d : ListWay f b.list) (n count : ℕ)
        (path : List ℕ) (from to : ℕ) (e : StmtsAreSeen p b test flags base m o
        (taken count (dropped n (held p b test flags base m o d))) path from to)
        (list : List raw.PlacedSite)
        → IsFootprint (given_of p b flags base m) o (of_stmts e.list) list
        → AreSitesOf p file b (sites_of (stmts_way (known p b test)
        (taken count (dropped n (held p b test flags base m o d))))) list

-- by flags that tell what is never null, and whatever else resolved code needs
abbrev pub FootprintsAreOfBody : Type 0
FootprintsAreOfBody = (p : Program Span) → IsProgram itself (λ m b. Unit {0}) p → (file : ℕ)
    (b : Body) → HasBody p file b → (base : ℕ) (m : syntax.Member Span) → IsMemberOf b base m
    → (flags : List Bool) → FlagsTell p b flags base m → (test : tree.Exp Span → Bool)
    → TellsNeverNull p b test → (o : Others) → NumbersMember itself base m o
    → AreFootprints p file b test flags base m o

-- The first sites of a footprint of one statement are those that come before an expression in it,
-- where it is evaluated.
abbrev pub FrontsAreOfBody : Type 0
FrontsAreOfBody = (p : Program Span) (file : ℕ) (b : Body) (test : tree.Exp Span → Bool)
    (f : tree.Exp Span) (s : statement.Stmt Span) (d : StmtWay f s)
    → StmtEvaluated (known p b test) d → (list : List raw.PlacedSite)
    → AreSitesOf p file b
    (sites_of (stmts_way (known p b test) (statement.more s statement.end))) list
    → AreSitesOf p file b (stmt_before (known p b test) d)
    (take (length (stmt_before (known p b test) d)) list)

-- An expression that is used for its value, and is no class's name, is evaluated in its nearest
-- element. Bodies are shaped: `jr_local_texts: ShapedBodies`.
abbrev pub ValuesAreEvaluated : Type 0
ValuesAreEvaluated = (p : Program Span) → IsProgram itself (λ m b. Unit {0}) p → (file : ℕ)
    (b : Body) → HasBody p file b → StmtsShaped b.list → (test : tree.Exp Span → Bool)
    (f : tree.Exp Span) (d : ListWay f b.list) → list_use d ≡ valued
    → ((k : ClassKey) → IsClassName p.rows (at_list begins b.at d).context f k → ⊥)
    → StmtEvaluated (known p b test) (nearest begins b.at d).way

-- So it is in the list from the nearest element of a way on.
abbrev pub HeldValuesAreEvaluated : Type 0
HeldValuesAreEvaluated = (p : Program Span) → IsProgram itself (λ m b. Unit {0}) p → (file : ℕ)
    (b : Body) → HasBody p file b → StmtsShaped b.list → (test : tree.Exp Span → Bool)
    (f : tree.Exp Span) (d : ListWay f b.list) (g : tree.Exp Span) (w : ListWay g
    (statement.more (nearest begins b.at d).stmt (nearest begins b.at d).rest))
    → list_use w ≡ valued → ((k : ClassKey)
    → IsClassName p.rows (at_list begins (nearest begins b.at d).at w).context g k → ⊥)
    → StmtEvaluated (known p b test) (own w).way

-- ---- what comes between

-- The sites in front of an expression of a list, and those up to the element that has it, are of
-- so many elements, and of the one that has it.
pub record AreBetween {K : Keys} {A : Type 0} (X : Known K A) {f : tree.Exp A}
    {b : statement.Stmts A} (d : ListWay f b) : Type 0 where
  pub before : list_before X d
      ≡ sites_of (stmts_way X (taken (list_step d) b)) ++ stmt_before X (own d).way
  pub through : list_through X d ≡ sites_of (stmts_way X (taken (suc (list_step d)) b))
  pub within : suc (list_step d) ≤ size b

abbrev pub WhatComesBetween : (C F M N L A : Type 0) → Type 0
WhatComesBetween C F M N L A = (X : Known (keys_of C F M N L) A) (f : tree.Exp A)
    (b : statement.Stmts A) (d : ListWay f b) → AreBetween X d

-- ---- lost pairs

-- The pair that footprints of two pieces lose is the one that the pieces lose.
abbrev pub PiecesAreLost : Type 0
PiecesAreLost = (p : Program Span) (file : ℕ) (b : Body) (test : tree.Exp Span → Bool)
    → TellsNeverNull p b test → (first second : Piece) (before moved : List raw.PlacedSite)
    → AreSitesOf p file b (first (known p b test)) before
    → AreSitesOf p file b (second (known p b test)) moved
    → (o : Option DepPair) → IsLostPair file b.at.base before moved o
    → TellsLost (Crossed p file b first second) o
