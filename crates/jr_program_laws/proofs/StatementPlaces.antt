-- Places of what a statement refers to and breaks: where its tokens begin.
use Rattle.std.proofs.Common.{◌≡◌, ℕ, ◌+◌, List, Some, None}
use Rattle.jr_text.specs.declared.spans.Span.{Span}
use Rattle.jr_ast.specs.Tree as tree
use Rattle.jr_ast.specs.StatementTree as statement
use Rattle.jr_ast.specs.Marks.{stmt_mark}
use Rattle.jr_grammar.specs.Stands.{Stands}
use Rattle.jr_grammar.specs.ExpressionLayout.{exp_layout, args_layout}
use Rattle.jr_grammar.specs.StatementLayout.{stmt_layout, else_layout, stmts_layout}
use Rattle.jr_table.specs.Rows.{Row}
use Rattle.jr_table.specs.Found.{Found}
use Rattle.jr_table.specs.Context.{Context, local_of, in_own, after, locals_in}
use Rattle.jr_table.specs.Binding.{Role, value}
use Rattle.jr_table.specs.Binding as role
use Rattle.jr_table.specs.Completing.{StandsIn, UnreachedIn}
use Rattle.jr_table.specs.StatementRules.{LocalRefers, StmtMismatches, Redeclared, ReturnForm, ConstantCondition, StmtBreaks, ListBreaks}
use Rattle.jr_table.specs.Somewhere.{InExp, InMaybe, InRow, InStmt, InElse, InStmts, InList}
use Rattle.jr_table.specs.declared.rules.Rule.{Rule}
use Rattle.jr_table.specs.declared.rules.Rule.TheVariants as rule
use Rattle.jr_program_laws.specs.FileParts.{begins}
use Rattle.jr_program_laws.proofs.Filling.{alone_fills, front_fills, back_fills, type_fills, exp_fills}
use Rattle.jr_program_laws.proofs.Reaching.{Reach, in_first, in_rest, in_node, either, in_two, as_said, never, for_some, at_node}
use Rattle.jr_program_laws.proofs.ExpressionPlaces.{word_place, exp_place, somewhere_place, args_places, type_refers_place}

module _ (at : ℕ) where
  -- where the node begins
  pub stmt_place : (x : statement.Stmt Span) → Reach (Stands (stmt_layout x)) (at ≡ (stmt_mark x).from) at
  stmt_place (statement.local m f t w e) = at_node (back_fills (front_fills (type_fills t)))
  stmt_place (statement.eval m e) = at_node (front_fills (exp_fills e))
  stmt_place (statement.branch m e x other) = at_node (front_fills alone_fills)
  stmt_place (statement.loop m e x) = at_node (front_fills alone_fills)
  stmt_place (statement.return m None) = at_node (front_fills alone_fills)
  stmt_place (statement.return m (Some e)) = at_node (front_fills alone_fills)
  stmt_place (statement.block m body) = at_node (front_fills alone_fills)
  stmt_place (statement.sync m e body) = at_node (front_fills alone_fills)
  stmt_place (statement.empty m) = at_node (front_fills alone_fills)

  -- ---- something in a statement

  module _ (OnExp : Context → Role → (base : ℕ) → tree.Exp Span → Type 0) (OnStmt : (number : ℕ) → Context → (base : ℕ) → statement.Stmt Span → Type 0) (OnList : (base : ℕ) → statement.Stmts Span → Type 0)
      (exps : (c : Context) (r : Role) (base : ℕ) (e : tree.Exp Span) → Reach (Stands (exp_layout e)) (OnExp c r base e) at)
      (stmts : (number : ℕ) (c : Context) (base : ℕ) (x : statement.Stmt Span) → Reach (Stands (stmt_layout x)) (OnStmt number c base x) at)
      (lists : (base : ℕ) (xs : statement.Stmts Span) → Reach (Stands (stmts_layout xs)) (OnList base xs) at) where
    pub in_exp_place : (c : Context) (r : Role) (base : ℕ) (e : tree.Exp Span) → Reach (Stands (exp_layout e)) (InExp begins OnExp OnStmt OnList c r base e) at
    in_exp_place c r base e = somewhere_place at (OnExp c) (exps c) r base e

    pub in_row_place : (c : Context) (base : ℕ) (args : tree.Exps Span) → Reach (Stands (args_layout args)) (InRow begins (OnExp c) base args) at
    in_row_place c base args = args_places at (OnExp c) (exps c) base args

    mutual
      unfolding InStmt InElse InStmts

      in_stmt_place : (number : ℕ) (c : Context) (base : ℕ) (x : statement.Stmt Span) → Reach (Stands (stmt_layout x)) (InStmt begins OnExp OnStmt OnList number c base x) at
      in_stmt_place number c base (statement.local m f t w e) =
          either (stmts number c base (statement.local m f t w e)) (in_node (in_rest (in_rest (in_rest (in_rest (in_first (in_exp_place (in_own c (local_of c number f t w)) value (begins m base) e)))))))
      in_stmt_place number c base (statement.eval m e) = either (stmts number c base (statement.eval m e)) (in_node (in_first (in_exp_place c role.statement (begins m base) e)))
      in_stmt_place number c base (statement.branch m e x other) = either (stmts number c base (statement.branch m e x other)) (in_node (in_rest (in_rest
          (in_two (in_exp_place c value (begins m base) e) (in_rest (in_two (in_stmt_place number c (begins m base) x) (in_first (in_else_place (number + locals_in x) c (begins m base) other))))))))
      in_stmt_place number c base (statement.loop m e x) =
          either (stmts number c base (statement.loop m e x)) (in_node (in_rest (in_rest (in_two (in_exp_place c value (begins m base) e) (in_rest (in_first (in_stmt_place number c (begins m base) x)))))))
      in_stmt_place number c base (statement.return m None) = either (stmts number c base (statement.return m None)) (never (λ h. h))
      in_stmt_place number c base (statement.return m (Some e)) = either (stmts number c base (statement.return m (Some e))) (in_node (in_rest (in_first (in_exp_place c value (begins m base) e))))
      in_stmt_place number c base (statement.block m body) =
          either (stmts number c base (statement.block m body)) (in_node (in_rest (in_first (either (lists (begins m base) body) (in_stmts_place number c (begins m base) body)))))
      in_stmt_place number c base (statement.sync m e body) = either (stmts number c base (statement.sync m e body))
          (in_node (in_rest (in_rest (in_two (in_exp_place c value (begins m base) e) (in_rest (in_rest (in_first (either (lists (begins m base) body) (in_stmts_place number c (begins m base) body)))))))))
      in_stmt_place number c base (statement.empty m) = stmts number c base (statement.empty m)

      in_else_place : (number : ℕ) (c : Context) (base : ℕ) (x : statement.Else Span) → Reach (Stands (else_layout x)) (InElse begins OnExp OnStmt OnList number c base x) at
      in_else_place number c base statement.no_else = never (λ h. h)
      in_else_place number c base (statement.otherwise x) = in_rest (in_first (in_stmt_place number c base x))

      in_stmts_place : (number : ℕ) (c : Context) (base : ℕ) (xs : statement.Stmts Span) → Reach (Stands (stmts_layout xs)) (InStmts begins OnExp OnStmt OnList number c base xs) at
      in_stmts_place number c base statement.end = never (λ h. h)
      in_stmts_place number c base (statement.more x xs) = in_two (in_stmt_place number c base x) (in_first (in_stmts_place (number + locals_in x) (after number c x) base xs))

    pub in_list_place : (number : ℕ) (c : Context) (base : ℕ) (xs : statement.Stmts Span) → Reach (Stands (stmts_layout xs)) (InList begins OnExp OnStmt OnList number c base xs) at
    in_list_place number c base xs = either (lists base xs) (in_stmts_place number c base xs)

    pub in_maybe_place : (c : Context) (base : ℕ) (e : tree.Exp Span) → Reach (Stands (exp_layout e)) (InMaybe begins OnExp OnStmt OnList c base (Some e)) at
    in_maybe_place c base e = in_exp_place c value base e

  -- ---- references, and rules that a statement or a list itself breaks

  module _ (rows : List Row) (number : ℕ) (c : Context) (base : ℕ) where
    pub local_refers_place : (x : statement.Stmt Span) (f : Found) → Reach (Stands (stmt_layout x)) (LocalRefers begins rows number c base x at f) at
    local_refers_place (statement.local m is_final t w e) f = in_node (in_rest (in_first (type_refers_place at rows c (begins m base) t f)))
    local_refers_place _ f = never (λ h. h)

    mismatch_place : (x : statement.Stmt Span) → Reach (Stands (stmt_layout x)) (StmtMismatches begins rows number c base x at) at
    mismatch_place (statement.local m f t w e) = in_node (in_rest (in_rest (in_rest (in_rest (in_first (as_said (exp_place at e) (λ h. h.0)))))))
    mismatch_place (statement.branch m e x other) = in_node (in_rest (in_rest (in_first (as_said (exp_place at e) (λ h. h.0)))))
    mismatch_place (statement.loop m e x) = in_node (in_rest (in_rest (in_first (as_said (exp_place at e) (λ h. h.0)))))
    mismatch_place (statement.return m (Some e)) = in_node (in_rest (in_first (as_said (exp_place at e) (λ h. h.0))))
    mismatch_place (statement.sync m e body) = in_node (in_rest (in_rest (in_first (as_said (exp_place at e) (λ h. h.0)))))
    mismatch_place _ = never (λ h. h)

    redeclared_place : (x : statement.Stmt Span) → Reach (Stands (stmt_layout x)) (Redeclared begins rows number c base x at) at
    redeclared_place (statement.local m f t w e) = in_node (in_rest (in_rest (in_first (as_said (word_place at w) (λ h. h.0)))))
    redeclared_place _ = never (λ h. h)

    return_place : (x : statement.Stmt Span) → Reach (Stands (stmt_layout x)) (ReturnForm begins rows number c base x at) at
    return_place (statement.return m None) = as_said (stmt_place (statement.return m None)) (λ h. h.0)
    return_place (statement.return m (Some e)) = as_said (stmt_place (statement.return m (Some e))) (λ h. h.0)
    return_place _ = never (λ h. h)

    constant_place : (x : statement.Stmt Span) → Reach (Stands (stmt_layout x)) (ConstantCondition begins rows number c base x at) at
    constant_place (statement.loop m e x) = in_node (in_rest (in_rest (in_first (as_said (exp_place at e) (λ h. h.0)))))
    constant_place _ = never (λ h. h)

    -- each rule's
    pub stmt_breaks_place : (x : statement.Stmt Span) (of : Rule) → Reach (Stands (stmt_layout x)) (StmtBreaks begins rows number c base x at of) at
    stmt_breaks_place x rule.NoVariable = never (λ h. h)
    stmt_breaks_place x rule.NoType = local_refers_place x _
    stmt_breaks_place x rule.NoMethod = never (λ h. h)
    stmt_breaks_place x rule.Ambiguous = never (λ h. h)
    stmt_breaks_place x rule.Private = for_some (λ d. local_refers_place x _)
    stmt_breaks_place x rule.StaticContext = never (λ h. h)
    stmt_breaks_place x rule.StaticThroughValue = never (λ h. h)
    stmt_breaks_place x rule.InstanceThroughType = never (λ h. h)
    stmt_breaks_place x rule.TypeMismatch = mismatch_place x
    stmt_breaks_place x rule.Operands = never (λ h. h)
    stmt_breaks_place x rule.BadCast = never (λ h. h)
    stmt_breaks_place x rule.FinalAssigned = never (λ h. h)
    stmt_breaks_place x rule.Redeclared = redeclared_place x
    stmt_breaks_place x rule.Forward = never (λ h. h)
    stmt_breaks_place x rule.VoidValue = never (λ h. h)
    stmt_breaks_place x rule.ReturnForm = return_place x
    stmt_breaks_place x rule.MissingReturn = never (λ h. h)
    stmt_breaks_place x rule.Unreachable = never (λ h. h)
    stmt_breaks_place x rule.ConstantCondition = constant_place x
    stmt_breaks_place x rule.Override = never (λ h. h)
    stmt_breaks_place x rule.SuperCtor = never (λ h. h)
    stmt_breaks_place x rule.FinalClass = never (λ h. h)
    stmt_breaks_place x rule.ObjectMethod = never (λ h. h)
    stmt_breaks_place x rule.Deep = never (λ h. h)

  stands_in_place : (base : ℕ) (xs : statement.Stmts Span) → Reach (Stands (stmts_layout xs)) (StandsIn begins base xs at) at
  stands_in_place base statement.end = never (λ h. h)
  stands_in_place base (statement.more x xs) = in_two (stmt_place x) (in_first (stands_in_place base xs))

  unreached_place : (base : ℕ) (xs : statement.Stmts Span) → Reach (Stands (stmts_layout xs)) (UnreachedIn begins base xs at) at
  unreached_place base statement.end = never (λ h. h)
  unreached_place base (statement.more x xs) = in_rest (in_first (either (as_said (stands_in_place base xs) (λ h. h.1)) (unreached_place base xs)))

  pub list_breaks_place : (base : ℕ) (xs : statement.Stmts Span) (of : Rule) → Reach (Stands (stmts_layout xs)) (ListBreaks begins base xs at of) at
  list_breaks_place base xs of = as_said (unreached_place base xs) (λ h. h.1)
