-- The way of a member in which a piece is one part; and which locals are used behind the piece: an
-- edge round it leads from one of its sites to where the local is read before it is written.
use Rattle.std.specs.Prelude.{◌≡◌, ℕ, true}
use Rattle.jr_ast.specs.StatementTree as statement
use Rattle.jr_runs.specs.Keys.{Keys}
use Rattle.jr_cover.specs.Ways.{Way, row, fork, turns, inside, sites_of}
use Rattle.jr_cover.specs.Sites.{Site, Known, exp_way, stmt_way, else_way, stmts_way}
use Rattle.jr_unused_locals.specs.Agreement.{Stands, InPiece, Used}
use Rattle.jr_unused_locals.specs.SiteLocals.{reads_at, writes_at}
use Rattle.jr_unused_locals.specs.Pieces.{loop_site, lock_check, enter_site, exit_site}
use Rattle.jr_member_parts.specs.HeldLists.{
  StmtHolds,
  in_then,
  in_else,
  in_body,
  in_block,
  in_locked,
  ListHolds,
  here,
  within,
  later,
  first_of,
  behind_first,
}

-- of statements: so many of a list, in whose tree's way they are one part, with the sites and edges
-- of the tree
module _ {K : Keys} {A : Type 0} (X : Known K A) {held : statement.Stmts A} (count : ℕ) where
  abbrev mutual
    pub stmt_around : {s : statement.Stmt A} → StmtHolds held s → Way (Site K)
    stmt_around (in_then m c s o h) = row (exp_way X c) (fork (stmt_around h) (else_way X o))
    stmt_around (in_else m c s o h) = row (exp_way X c) (fork (stmt_way X s) (stmt_around h))
    stmt_around (in_body m c s h) = turns (loop_site X m) (exp_way X c) (stmt_around h)
    stmt_around (in_block m b h) = list_around h
    stmt_around (in_locked m e b h) = row (exp_way X e) (row (lock_check X m e)
        (inside (enter_site X m) (list_around h) (exit_site X m)))

    pub list_around : {b : statement.Stmts A} → ListHolds held b → Way (Site K)
    list_around here =
        row (stmts_way X (first_of count held)) (stmts_way X (behind_first count held))
    list_around (within s ss h) = row (stmt_around h) (stmts_way X ss)
    list_around (later s ss h) = row (stmt_way X s) (list_around h)

-- a part of a way, with the number of its first site
pub record Part {S : Type 0} (w : Way S) : Type 0 where
  pub part : Way S
  pub begin : ℕ
  pub stands : Stands begin part 0 w

module _ {K : Keys} {w : Way (Site K)} (x : Part w) where
  -- a site of the part writes the local
  abbrev pub IsWritten : (number : ℕ) → Type 0
  IsWritten n = (i : ℕ) × InPiece x.begin x.part i × (writes_at (sites_of w) n i ≡ true)

  abbrev pub IsUsed : (number : ℕ) → Type 0
  IsUsed n = Used (reads_at (sites_of w) n) (writes_at (sites_of w) n) w x.begin x.part x.stands

  -- it is written there, and used behind
  abbrev pub IsResult : (number : ℕ) → Type 0
  IsResult n = IsWritten n × IsUsed n
