-- The sites of statements among the parts of a piece, and a walk over them.
use Rattle.std.specs.Prelude.{◌≡◌, ℕ, zero, suc, ◌+◌, List, [], ◌++◌, Option, Some, None}
use Rattle.jr_text.specs.declared.spans.Span.{Span}
use Rattle.jr_table.specs.Context.{locals_in}
use Rattle.jr_runs.specs.Keys.{Keys}
use Rattle.jr_cover.specs.Ways.{sites_of}
use Rattle.jr_cover.specs.Sites.{Known, Site, stmt_way}
use Rattle.jr_cover.specs.Spots.{Spot}
use Rattle.jr_expr_sites.specs.Steps.{sites_in}
use Rattle.jr_expr_sites.specs.StepView.{steps_in}
use Rattle.jr_expr_sites.specs.KnownFacts.{Given, Others, known_of}
use Rattle.jr_expr_sites.specs.Routes.{Steps}
use Rattle.jr_cfg.specs.StatementRoutes.{Passed, Numbered, stmt}
use Rattle.jr_piece_sites.specs.Pieces as piece
use Rattle.jr_piece_sites.specs.Pieces.{Piece, part_of}

module _ {K : Keys} {A : Type 0} (X : Known K A) where
  -- of a part that is a statement
  abbrev pub part_sites : Option (Piece A) → List (Site K)
  part_sites None = []
  part_sites (Some (piece.member m)) = []
  part_sites (Some (piece.stmt s)) = sites_of (stmt_way X s)
  part_sites (Some (piece.exp e)) = []

  -- of so many parts from the number on
  abbrev pub parts_sites : Piece A → (from count : ℕ) → List (Site K)
  parts_sites x i zero = []
  parts_sites x i (suc n) = part_sites (part_of x i) ++ parts_sites x (suc i) n

-- The steps of the part were put, if it is a statement.
abbrev pub PartPut : {A : Type 0} → (A → ℕ → Span) → Given → (number at : ℕ) → (path : List ℕ)
    → Option (Piece A) → (next : ℕ) → (old new : Steps) → Type 0
PartPut tells g n at path None k old new = (k ≡ n) × (old ≡ new)
PartPut tells g n at path (Some (piece.member m)) k old new = (k ≡ n) × (old ≡ new)
PartPut tells g n at path (Some (piece.stmt s)) k old new =
    Passed g (Numbered tells n path at s) (stmt tells path at s) (n + locals_in s) k old new
PartPut tells g n at path (Some (piece.exp e)) k old new = (k ≡ n) × (old ≡ new)

-- The sites of so many parts were put, where what else is known is so.
abbrev pub PartsPut : Given → (IsSo : Others → Type 0) → Piece Spot → (from count : ℕ)
    → (old new : Steps) → Type 0
PartsPut g IsSo x i n old new = (o : Others) → IsSo o
    → sites_in (steps_in g.member new)
    ≡ sites_in (steps_in g.member old) ++ parts_sites (known_of g o) x i n
