-- Which pieces of a member paths lead to, and which statements stand among the parts of one.
use Rattle.std.specs.Prelude.{◌≡◌, ℕ, zero, suc, ◌-◌, ◌≤◌, List, [], length, take, drop, Option, Some, None}
use Rattle.jr_text.specs.declared.spans.Span.{Span}
use Rattle.jr_ast.specs.Tree as tree
use Rattle.jr_ast.specs.StatementTree as statement
use Rattle.jr_ast.specs.MemberTree as declared
use Rattle.jr_ast.specs.Nodes as nodes
use Rattle.jr_ast.specs.Nodes.{Node, node_at, exp_at, children_of}
use Rattle.jr_cover.specs.Sites.{exp_way, stmts_way}
use Rattle.jr_cover.specs.Spots.{Spot, spot_member}
use Rattle.jr_expr_sites.specs.KnownFacts.{known_of}
use Rattle.jr_expr_sites.specs.Routes.{Route, begins_by, ends_by}
use Rattle.jr_piece_sites.specs.Pieces as piece
use Rattle.jr_piece_sites.specs.Pieces.{Piece, node_of, part_of, IsOwner}

module _ {A : Type 0} where
  -- What stands in an inner class is of the members of that class.
  abbrev pub LeadsToExp : declared.Member A → (path : List ℕ) → Type 0
  LeadsToExp m path = IsOwner m × ((e : tree.Exp A) × (exp_at (nodes.member m) path ≡ Some e))

  -- to the member, or to a statement or an expression in it
  abbrev pub Leads : declared.Member A → (path : List ℕ) → Type 0
  Leads m path = IsOwner m × ((x : Piece A) × (node_at (nodes.member m) path ≡ Some (node_of x)))

  -- the parts of the numbers from `from` on and below `to` are there, and are these statements
  pub record AreParts (n : Node A) (from to : ℕ) (ss : statement.Stmts A) : Type 0 where
    pub ordered : from ≤ to
    pub are : take (to - from) (drop from (children_of n)) ≡ nodes.stmts ss
    pub all : length (nodes.stmts ss) ≡ to - from

  abbrev pub LeadsToParts : declared.Member A → (path : List ℕ) → (from to : ℕ) → Type 0
  LeadsToParts m path from to = IsOwner m
      × ((x : Piece A) × (node_at (nodes.member m) path ≡ Some (node_of x))
      × ((ss : statement.Stmts A) × AreParts (node_of x) from to ss))

  abbrev pub IsStmt : Option (Piece A) → Type 0
  IsStmt None = ⊥
  IsStmt (Some (piece.member m)) = ⊥
  IsStmt (Some (piece.stmt s)) = Unit {0}
  IsStmt (Some (piece.exp e)) = ⊥

  -- so many parts from the number on are statements
  abbrev pub AllStmts : Piece A → (from count : ℕ) → Type 0
  AllStmts x i zero = Unit {0}
  AllStmts x i (suc n) = IsStmt (part_of x i) × AllStmts x (suc i) n

-- the member on its spots, where its parent begins at `base`
abbrev pub spots_of : {A : Type 0} → (A → ℕ → Span) → (base : ℕ) → declared.Member A
    → declared.Member Spot
spots_of tells base m = spot_member (begins_by tells) (ends_by tells) m base []

abbrev pub of_exp : tree.Exp Spot → Route
of_exp e g o = exp_way (known_of g o) e

abbrev pub of_stmts : statement.Stmts Spot → Route
of_stmts ss g o = stmts_way (known_of g o) ss
