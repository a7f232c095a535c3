-- What calls answer of pieces of a body by their paths, as `jr_piece_sites` ensures it, and which
-- pair extract and inline local so lose.
use Rattle.std.specs.Prelude.{◌≡◌, ℕ, ◌+◌, suc, Bool, List, [], ◌∷◌, ◌++◌, length, take, Option, Some, None}
use Rattle.jr_text.specs.declared.spans.Span.{Span}
use Rattle.jr_ast.specs.Tree as tree
use Rattle.jr_ast.specs.StatementTree as statement
use Rattle.jr_ast.specs.MemberTree as syntax
use Rattle.jr_ast.specs.Nodes as nodes
use Rattle.jr_ast.specs.Nodes.{Node, node_at, exp_at, stmt_at}
use Rattle.jr_grammar.specs.Layout.{itself}
use Rattle.jr_grammar.specs.StatementShape.{StmtsShaped}
use Rattle.jr_table.specs.Keys.{ClassKey}
use Rattle.jr_table.specs.Binding.{IsClassName}
use Rattle.jr_bind.specs.Programs.{Program, IsProgram}
use Rattle.jr_cover.specs.Sites.{exp_way}
use Rattle.jr_cover.specs.Spots.{Spot}
use Rattle.jr_cover.specs.Ways.{sites_of}
use Rattle.jr_names.specs.Sites.{DepPair}
use Rattle.jr_expr_sites.specs.KnownFacts.{Others, known_of}
use Rattle.jr_cfg.specs.MemberRoutes.{NumbersMember}
use Rattle.jr_pieces.specs.Ways.{StmtWay, ListWay, later}
use Rattle.jr_pieces.specs.Finding.{stmt_path, list_path}
use Rattle.jr_pieces.specs.Standings.{at_list}
use Rattle.jr_pieces.specs.Nearest.{nearest}
use Rattle.jr_pieces.specs.Uses.{valued, list_use}
use Rattle.jr_pieces.specs.Before.{stmt_before, between}
use Rattle.jr_way_places.specs.PlacedWays.{list_step, list_rest}
use Rattle.jr_sites.specs.declared.sites.PlacedSite as raw
use Rattle.jr_piece_sites.specs.Footprints.{IsFootprint}
use Rattle.jr_piece_sites.specs.Leads.{AreParts, of_exp, of_stmts, spots_of}
use Rattle.jr_plan.specs.Reasons.{TellsLost}
use Rattle.jr_local.specs.Bodies.{begins, Body, HasBody}
use Rattle.jr_local.specs.Crossing.{Crossed}
use Rattle.jr_local_footprints.specs.Givens.{IsMemberOf, FlagsTell, given_of}
use Rattle.jr_local_footprints.specs.LostPairs.{IsLostPair}

module _ (p : Program Span) (b : Body) (flags : List Bool) (base : ℕ) (m : syntax.Member Span)
    (o : Others) where
  abbrev pub member_node : Node Spot
  member_node = nodes.member (spots_of itself base m)

  -- ---- the clauses

  -- `footprint`, of the expression to which the path leads
  abbrev pub AnswersExp : (path : List ℕ) → List raw.PlacedSite → Type 0
  AnswersExp path list = (e : tree.Exp Spot) → exp_at member_node path ≡ Some e
      → IsFootprint (given_of p b flags base m) o (of_exp e) list

  -- `footprint_of`, of statements of the node
  abbrev pub AnswersStmts : (path : List ℕ) (from to : ℕ) → List raw.PlacedSite → Type 0
  AnswersStmts path from to list = (n : Node Spot) → node_at member_node path ≡ Some n
      → (ss : statement.Stmts Spot) → AreParts n from to ss
      → IsFootprint (given_of p b flags base m) o (of_stmts ss) list

  -- `sites_before: of_expression`
  abbrev pub AnswersFront : (outer path : List ℕ) → ℕ → Type 0
  AnswersFront outer path count = (s : statement.Stmt Spot) → stmt_at member_node outer ≡ Some s
      → (e : tree.Exp Spot) (way : StmtWay e s) → stmt_path way ≡ path
      → count ≡ length (stmt_before (known_of (given_of p b flags base m) o) way)

  -- The first sites of the statement of the number in the node: those in front of a part of it.
  pub record AnswersBefore (around : List ℕ) (step : ℕ) (path : List ℕ)
      (list : List raw.PlacedSite) : Type 0 where
    pub statement : List raw.PlacedSite
    pub whole : AnswersStmts around step (suc step) statement
    pub count : ℕ
    pub front : AnswersFront (around ++ step ∷ []) path count
    pub is : list ≡ take count statement

  -- Those of statements of the node, and in front of a part of the next.
  pub record AnswersUpTo (around : List ℕ) (from step : ℕ) (path : List ℕ)
      (list : List raw.PlacedSite) : Type 0 where
    pub wholes : List raw.PlacedSite
    pub are : AnswersStmts around from step wholes
    pub last : List raw.PlacedSite
    pub before : AnswersBefore around step path last
    pub is : list ≡ wholes ++ last

  -- In a list that begins at a number of the node, up to an expression to which a way leads, or
  -- through the element that has it, where something bars the way.
  abbrev pub AnswersBetween : (around : List ℕ) (from : ℕ) → Option ℕ → {g : tree.Exp Span}
      → {ss : statement.Stmts Span} → ListWay g ss → List raw.PlacedSite → Type 0
  AnswersBetween around from None w list =
      AnswersUpTo around from (from + list_step w) (list_rest w) list
  AnswersBetween around from (Some at) w list =
      AnswersStmts around from (suc (from + list_step w)) list

-- ---- which pair is lost, for flags that tell what is never null

-- An expression of a body, its nearest element at this place: what comes before it in that, and it.
abbrev pub ExtractsLose : Type 0
ExtractsLose = (p : Program Span) → IsProgram itself (λ m b. Unit {0}) p → (file : ℕ) (b : Body)
    → HasBody p file b → StmtsShaped b.list → (base : ℕ) (m : syntax.Member Span)
    → IsMemberOf b base m → (flags : List Bool) → FlagsTell p b flags base m → (o : Others)
    → NumbersMember itself base m o → (f : tree.Exp Span) (d : ListWay f b.list)
    → list_use d ≡ valued
    → ((k : ClassKey) → IsClassName p.rows (at_list begins b.at d).context f k → ⊥)
    → (around : List ℕ) (step : ℕ)
    → list_path b.front d ≡ around ++ step ∷ stmt_path (nearest begins b.at d).way
    → (before moved : List raw.PlacedSite)
    → AnswersBefore p b flags base m o around step (stmt_path (nearest begins b.at d).way) before
    → AnswersExp p b flags base m o (list_path b.front d) moved
    → (q : Option DepPair) → IsLostPair file b.at.base before moved q
    → TellsLost (Crossed p file b (λ X. stmt_before X (nearest begins b.at d).way)
    (λ X. sites_of (exp_way X f))) q

-- An initializer, its declaration at this place, and what comes between that and a read.
abbrev pub InlinesLose : Type 0
InlinesLose = (p : Program Span) → IsProgram itself (λ m b. Unit {0}) p → (file : ℕ) (b : Body)
    → HasBody p file b → StmtsShaped b.list → (base : ℕ) (m : syntax.Member Span)
    → IsMemberOf b base m → (flags : List Bool) → FlagsTell p b flags base m → (o : Others)
    → NumbersMember itself base m o → (f : tree.Exp Span) (d : ListWay f b.list)
    → (around : List ℕ) (step : ℕ)
    → list_path b.front d ≡ around ++ step ∷ stmt_path (nearest begins b.at d).way
    → (g : tree.Exp Span) (w : ListWay g (nearest begins b.at d).rest) → list_use w ≡ valued
    → ((k : ClassKey) → IsClassName p.rows (at_list begins (nearest begins b.at d).at
    (later (nearest begins b.at d).stmt (nearest begins b.at d).rest w)).context g k → ⊥)
    → (bar : Option ℕ) (moved passed : List raw.PlacedSite)
    → AnswersExp p b flags base m o (list_path b.front d) moved
    → AnswersBetween p b flags base m o around (suc step) bar w passed
    → (q : Option DepPair) → IsLostPair file b.at.base moved passed q
    → TellsLost (Crossed p file b (λ X. sites_of (exp_way X f)) (λ X. between X bar w)) q
