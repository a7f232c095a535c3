-- The log of the walk: a note is in it exactly where an expression, a statement or a list has it itself.
use Rattle.std.proofs.Common.{ℕ, ◌+◌, List, [], Option, Some, None}
use Rattle.std.specs.Prelude.{◌↔◌}
use Rattle.jr_ast.specs.Tree as tree
use Rattle.jr_ast.specs.StatementTree as statement
use Rattle.jr_table.specs.Rows.{Row}
use Rattle.jr_table.specs.Context.{Context, local_of, in_own, after, locals_in}
use Rattle.jr_table.specs.Binding.{Role, value, left}
use Rattle.jr_table.specs.Binding as role
use Rattle.jr_table.specs.Somewhere.{Somewhere, InTarget, InRow, InMaybe, InStmt, InElse, InList, InStmts}
use Rattle.jr_table.specs.Notes.{Note, Has, own_notes, own_stmt_notes, list_notes}
use Rattle.jr_table.specs.Walks.{notes_of, target_notes, args_notes, maybe_notes, stmt_notes, else_notes, stmts_notes, body_notes}
use Rattle.jr_table.proofs.Breaking.{two}

same : (xs : List Note) (n : Note) → Has xs n ↔ Has xs n
same xs n = (λ h. h, λ h. h)

nothing_noted : (n : Note) → Has [] n ↔ ⊥
nothing_noted n = (λ h. h, λ h. h)

module _ {A : Type 0} (begins : A → ℕ → ℕ) (rows : List Row) (n : Note) where
  abbrev pub Own : Context → Role → (base : ℕ) → tree.Exp A → Type 0
  Own c r b x = Has (own_notes begins rows c r b x) n

  abbrev pub OwnStmt : (number : ℕ) → Context → (base : ℕ) → statement.Stmt A → Type 0
  OwnStmt number c b x = Has (own_stmt_notes begins rows number c b x) n

  abbrev pub OwnList : (base : ℕ) → statement.Stmts A → Type 0
  OwnList b xs = Has (list_notes begins b xs) n

  module _ (c : Context) where
    mutual
      unfolding notes_of target_notes args_notes Somewhere InTarget InRow

      pub noted : (r : Role) (base : ℕ) (e : tree.Exp A) → Has (notes_of begins rows c r base e) n ↔ Somewhere begins (λ s b x. Own c s b x) r base e
      noted r base (tree.number m v) = same (own_notes begins rows c r base (tree.number m v)) n
      noted r base (tree.truth m b) = same (own_notes begins rows c r base (tree.truth m b)) n
      noted r base (tree.null m) = same (own_notes begins rows c r base (tree.null m)) n
      noted r base (tree.string m s) = same (own_notes begins rows c r base (tree.string m s)) n
      noted r base (tree.name m w) = same (own_notes begins rows c r base (tree.name m w)) n
      noted r base (tree.field m e w) = two (own_notes begins rows c r base (tree.field m e w)) (notes_of begins rows c left (begins m base) e) n _ _ (same (own_notes begins rows c r base (tree.field m e w)) n) (noted left (begins m base) e)
      noted r base (tree.super_field m w) = same (own_notes begins rows c r base (tree.super_field m w)) n
      noted r base (tree.this m) = same (own_notes begins rows c r base (tree.this m)) n
      noted r base (tree.class_literal m t) = same (own_notes begins rows c r base (tree.class_literal m t)) n
      noted r base (tree.call m to w args) = two (own_notes begins rows c r base (tree.call m to w args)) _ n _ _ (same (own_notes begins rows c r base (tree.call m to w args)) n) (two (target_notes begins rows c (begins m base) to) (args_notes begins rows c (begins m base) args) n _ _ (noted_target (begins m base) to) (noted_row (begins m base) args))
      noted r base (tree.super_call m w args) = two (own_notes begins rows c r base (tree.super_call m w args)) (args_notes begins rows c (begins m base) args) n _ _ (same (own_notes begins rows c r base (tree.super_call m w args)) n) (noted_row (begins m base) args)
      noted r base (tree.create m t args) = two (own_notes begins rows c r base (tree.create m t args)) (args_notes begins rows c (begins m base) args) n _ _ (same (own_notes begins rows c r base (tree.create m t args)) n) (noted_row (begins m base) args)
      noted r base (tree.paren m e) = two (own_notes begins rows c r base (tree.paren m e)) (notes_of begins rows c value (begins m base) e) n _ _ (same (own_notes begins rows c r base (tree.paren m e)) n) (noted value (begins m base) e)
      noted r base (tree.cast m t e) = two (own_notes begins rows c r base (tree.cast m t e)) (notes_of begins rows c value (begins m base) e) n _ _ (same (own_notes begins rows c r base (tree.cast m t e)) n) (noted value (begins m base) e)
      noted r base (tree.unary m o e) = two (own_notes begins rows c r base (tree.unary m o e)) (notes_of begins rows c value (begins m base) e) n _ _ (same (own_notes begins rows c r base (tree.unary m o e)) n) (noted value (begins m base) e)
      noted r base (tree.bump m o e) = two (own_notes begins rows c r base (tree.bump m o e)) (notes_of begins rows c value (begins m base) e) n _ _ (same (own_notes begins rows c r base (tree.bump m o e)) n) (noted value (begins m base) e)
      noted r base (tree.binary m o x y) = two (own_notes begins rows c r base (tree.binary m o x y)) _ n _ _ (same (own_notes begins rows c r base (tree.binary m o x y)) n) (two (notes_of begins rows c value (begins m base) x) (notes_of begins rows c value (begins m base) y) n _ _ (noted value (begins m base) x) (noted value (begins m base) y))
      noted r base (tree.assign m x y) = two (own_notes begins rows c r base (tree.assign m x y)) _ n _ _ (same (own_notes begins rows c r base (tree.assign m x y)) n) (two (notes_of begins rows c value (begins m base) x) (notes_of begins rows c value (begins m base) y) n _ _ (noted value (begins m base) x) (noted value (begins m base) y))
      noted r base (tree.compound m o x y) = two (own_notes begins rows c r base (tree.compound m o x y)) _ n _ _ (same (own_notes begins rows c r base (tree.compound m o x y)) n) (two (notes_of begins rows c value (begins m base) x) (notes_of begins rows c value (begins m base) y) n _ _ (noted value (begins m base) x) (noted value (begins m base) y))

      noted_target : (at : ℕ) (to : tree.Target A) → Has (target_notes begins rows c at to) n ↔ InTarget begins (λ s b x. Own c s b x) at to
      noted_target at tree.no_target = nothing_noted n
      noted_target at (tree.on e) = noted left at e

      pub noted_row : (at : ℕ) (args : tree.Exps A) → Has (args_notes begins rows c at args) n ↔ InRow begins (λ s b x. Own c s b x) at args
      noted_row at tree.end = nothing_noted n
      noted_row at (tree.more e es) = two (notes_of begins rows c value at e) (args_notes begins rows c at es) n _ _ (noted value at e) (noted_row at es)

  pub noted_maybe : (c : Context) (at : ℕ) (e : Option (tree.Exp A)) → Has (maybe_notes begins rows c at e) n ↔ InMaybe begins Own OwnStmt OwnList c at e
  noted_maybe c at None = nothing_noted n
  noted_maybe c at (Some e) = noted c value at e

  mutual
    unfolding stmt_notes else_notes stmts_notes InStmt InElse InStmts

    pub noted_stmt : (number : ℕ) (c : Context) (base : ℕ) (x : statement.Stmt A) → Has (stmt_notes begins rows number c base x) n ↔ InStmt begins Own OwnStmt OwnList number c base x
    noted_stmt number c base (statement.local m f t w e) = two (own_stmt_notes begins rows number c base (statement.local m f t w e)) (notes_of begins rows (in_own c (local_of c number f t w)) value (begins m base) e) n _ _ (same (own_stmt_notes begins rows number c base (statement.local m f t w e)) n) (noted (in_own c (local_of c number f t w)) value (begins m base) e)
    noted_stmt number c base (statement.eval m e) = two (own_stmt_notes begins rows number c base (statement.eval m e)) (notes_of begins rows c role.statement (begins m base) e) n _ _ (same (own_stmt_notes begins rows number c base (statement.eval m e)) n) (noted c role.statement (begins m base) e)
    noted_stmt number c base (statement.branch m e x other) = two (own_stmt_notes begins rows number c base (statement.branch m e x other)) _ n _ _ (same (own_stmt_notes begins rows number c base (statement.branch m e x other)) n) (two (notes_of begins rows c value (begins m base) e) _ n _ _ (noted c value (begins m base) e) (two (stmt_notes begins rows number c (begins m base) x) (else_notes begins rows (number + locals_in x) c (begins m base) other) n _ _ (noted_stmt number c (begins m base) x) (noted_else (number + locals_in x) c (begins m base) other)))
    noted_stmt number c base (statement.loop m e x) = two (own_stmt_notes begins rows number c base (statement.loop m e x)) _ n _ _ (same (own_stmt_notes begins rows number c base (statement.loop m e x)) n) (two (notes_of begins rows c value (begins m base) e) (stmt_notes begins rows number c (begins m base) x) n _ _ (noted c value (begins m base) e) (noted_stmt number c (begins m base) x))
    noted_stmt number c base (statement.return m e) = two (own_stmt_notes begins rows number c base (statement.return m e)) (maybe_notes begins rows c (begins m base) e) n _ _ (same (own_stmt_notes begins rows number c base (statement.return m e)) n) (noted_maybe c (begins m base) e)
    noted_stmt number c base (statement.block m body) = two (own_stmt_notes begins rows number c base (statement.block m body)) _ n _ _ (same (own_stmt_notes begins rows number c base (statement.block m body)) n) (two (list_notes begins (begins m base) body) (stmts_notes begins rows number c (begins m base) body) n _ _ (same (list_notes begins (begins m base) body) n) (noted_stmts number c (begins m base) body))
    noted_stmt number c base (statement.sync m e body) = two (own_stmt_notes begins rows number c base (statement.sync m e body)) _ n _ _ (same (own_stmt_notes begins rows number c base (statement.sync m e body)) n) (two (notes_of begins rows c value (begins m base) e) _ n _ _ (noted c value (begins m base) e) (two (list_notes begins (begins m base) body) (stmts_notes begins rows number c (begins m base) body) n _ _ (same (list_notes begins (begins m base) body) n) (noted_stmts number c (begins m base) body)))
    noted_stmt number c base (statement.empty m) = same (own_stmt_notes begins rows number c base (statement.empty m)) n

    noted_else : (number : ℕ) (c : Context) (base : ℕ) (x : statement.Else A) → Has (else_notes begins rows number c base x) n ↔ InElse begins Own OwnStmt OwnList number c base x
    noted_else number c base statement.no_else = nothing_noted n
    noted_else number c base (statement.otherwise x) = noted_stmt number c base x

    pub noted_stmts : (number : ℕ) (c : Context) (base : ℕ) (xs : statement.Stmts A) → Has (stmts_notes begins rows number c base xs) n ↔ InStmts begins Own OwnStmt OwnList number c base xs
    noted_stmts number c base statement.end = nothing_noted n
    noted_stmts number c base (statement.more x xs) = two (stmt_notes begins rows number c base x) (stmts_notes begins rows (number + locals_in x) (after number c x) base xs) n _ _
        (noted_stmt number c base x) (noted_stmts (number + locals_in x) (after number c x) base xs)

  -- a body
  pub noted_body : (number : ℕ) (c : Context) (base : ℕ) (xs : statement.Stmts A) → Has (body_notes begins rows number c base xs) n ↔ InList begins Own OwnStmt OwnList number c base xs
  noted_body number c base xs = two (list_notes begins base xs) (stmts_notes begins rows number c base xs) n _ _ (same (list_notes begins base xs) n) (noted_stmts number c base xs)
