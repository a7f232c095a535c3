-- What a walk knows behind a statement: exact.
use Rattle.std.specs.Prelude.{◌≡◌, ℕ, ◌+◌, Bool, true, false, not, ◌&&◌, ◌||◌, List, ◌++◌}
use Rattle.jr_ast.specs.StatementTree as statement
use Rattle.jr_ast.specs.Marks.{stmt_mark}
use Rattle.jr_table.specs.Decls.{MemberKey}
use Rattle.jr_table.specs.Rows.{Row}
use Rattle.jr_table.specs.Context.{Context, after, locals_in, locals_in_else, locals_in_row}
use Rattle.jr_table.specs.Notes.{Note, breaks, unless, completes, else_completes, list_completes}
use Rattle.jr_table.specs.Walks.{stmt_notes, else_notes, body_notes}
use Rattle.jr_table.specs.declared.rules.Rule.TheVariants as rule
use Rattle.jr_bind_parts.specs.declared.completing.Behind.{Behind}
use Rattle.jr_bind_expr.specs.declared.places.Place.{Place}
use Rattle.jr_bind_expr.specs.declared.findings.Note as raw
use Rattle.jr_bind_expr.specs.Places.{member_of, context_of, Knows}
use Rattle.jr_bind_expr.specs.Logs.{notes_of, Adds}

abbrev pub reached : ℕ → Behind
reached number = record { number = number; completes = true }

abbrev pub unreached : ℕ → Behind
unreached number = record { number = number; completes = false }

abbrev pub behind_branches : (first second : Behind) → Behind
behind_branches first second =
    record { number = second.number; completes = second.completes || first.completes }

abbrev pub behind_loop : Behind → Bool → Behind
behind_loop body is_endless = record { number = body.number; completes = not is_endless }

abbrev pub behind_both : (before last : Behind) → Behind
behind_both before last =
    record { number = last.number; completes = before.completes && last.completes }

-- Behind a statement or a list: the next local has this number, it completes normally or not, this
-- is known there, and the log of the member has these notes more.
pub record Passes (rows : List Row) (k : MemberKey) (number : ℕ) (completes : Bool) (c : Context)
    (old more : List Note) (b : Behind) (p : Place) (log : List raw.Note) : Type 0 where
  pub number_is : b.number ≡ number
  pub completes_is : b.completes ≡ completes
  pub context : context_of p ≡ c
  pub knows : Knows rows p
  pub notes : Adds old more (notes_of rows k log)

module _ {A : Type 0} (begins : A → ℕ → ℕ) (rows : List Row) (number : ℕ) (p : Place) (at : ℕ)
  where
    -- behind a statement of a list, which is walked from this place
    abbrev pub StmtPasses : statement.Stmt A → (old : List raw.Note) → Behind → Place
        → (new : List raw.Note) → Type 0
    StmtPasses x old b q new = Passes rows (member_of p) (number + locals_in x) (completes x)
        (after number (context_of p) x) (notes_of rows (member_of p) old)
        (stmt_notes begins rows number (context_of p) at x) b q new

    -- behind a statement that is no element of a list: what it declares is gone
    abbrev pub InnerPasses : statement.Stmt A → (old : List raw.Note) → Behind → Place
        → (new : List raw.Note) → Type 0
    InnerPasses x old b q new = Passes rows (member_of p) (number + locals_in x) (completes x)
        (context_of p) (notes_of rows (member_of p) old)
        (stmt_notes begins rows number (context_of p) at x) b q new

    abbrev pub ElsePasses : statement.Else A → (old : List raw.Note) → Behind → Place
        → (new : List raw.Note) → Type 0
    ElsePasses x old b q new = Passes rows (member_of p) (number + locals_in_else x)
        (else_completes x) (context_of p) (notes_of rows (member_of p) old)
        (else_notes begins rows number (context_of p) at x) b q new

    abbrev pub BodyPasses : statement.Stmts A → (old : List raw.Note) → Behind → Place
        → (new : List raw.Note) → Type 0
    BodyPasses xs old b q new = Passes rows (member_of p) (number + locals_in_row xs)
        (list_completes xs) (context_of p) (notes_of rows (member_of p) old)
        (body_notes begins rows number (context_of p) at xs) b q new

    -- behind a statement of a list, with those before it
    abbrev pub ItemPasses : (is_reached : Bool) → statement.Stmt A → (old : List raw.Note) → Behind
        → Place → (new : List raw.Note) → Type 0
    ItemPasses is_reached x old b q new = Passes rows (member_of p) (number + locals_in x)
        (is_reached && completes x) (after number (context_of p) x)
        (notes_of rows (member_of p) old)
        (unless is_reached (breaks (begins (stmt_mark x) at) rule.Unreachable)
        ++ stmt_notes begins rows number (context_of p) at x) b q new
