-- References of statements: each begins where a token of the statement does, and no two begin at one place.
use Rattle.std.proofs.Common.{ℕ, ◌+◌, List, Some, None, inl, inr}
use Rattle.std.specs.Prelude.{◌⊎◌}
use Rattle.jr_text.specs.declared.spans.Span.{Span}
use Rattle.jr_ast.specs.Tree as tree
use Rattle.jr_ast.specs.StatementTree as statement
use Rattle.jr_grammar.specs.Stands.{Tokens, Stands}
use Rattle.jr_grammar.specs.ExpressionLayout.{exp_layout}
use Rattle.jr_grammar.specs.StatementLayout.{stmt_layout, else_layout, stmts_layout}
use Rattle.jr_table.specs.Rows.{Row}
use Rattle.jr_table.specs.Conditions.{AreRows}
use Rattle.jr_table.specs.LookupLaws.{EachHasOne}
use Rattle.jr_table.specs.BindingLaws.{IsBound}
use Rattle.jr_table.specs.Context.{Context, local_of, in_own, after, locals_in}
use Rattle.jr_table.specs.Binding.{Role, value}
use Rattle.jr_table.specs.Binding as role
use Rattle.jr_table.specs.Somewhere.{InExp, InStmt, InElse, InStmts, InList}
use Rattle.jr_program_laws.specs.FileParts.{begins}
use Rattle.jr_program_laws.proofs.MemberParts.{OnExp, OnStmt, OnList}
use Rattle.jr_program_laws.proofs.Holding.{Over, join, pass, only, node, turn, empty}
use Rattle.jr_program_laws.proofs.ExpressionsHold.{without, type_over, exp_over}

neither : {A B : Type 0} → (A → ⊥) → (B → ⊥) → A ⊎ B → ⊥
neither f g (inl a) = f a
neither f g (inr b) = g b

pub behind_none : {A B C : Type 0} → (A → ⊥) → (B → ⊥) → A ⊎ (B ⊎ C) → C
behind_none f g (inl a) = absurd (f a)
behind_none f g (inr (inl b)) = absurd (g b)
behind_none f g (inr (inr c)) = c

pub around_none : {A B C D : Type 0} → (A → ⊥) → (C → ⊥) → A ⊎ (B ⊎ (C ⊎ D)) → B ⊎ D
around_none f g (inl a) = absurd (f a)
around_none f g (inr (inl b)) = inl b
around_none f g (inr (inr (inl c))) = absurd (g c)
around_none f g (inr (inr (inr d))) = inr d

module _ (all : Tokens) (rows : List Row) (fit : AreRows rows) (lookups : EachHasOne rows) (bounds : (c : Context) → IsBound Span rows c) where
  pub exp : (c : Context) (r : Role) (base : ℕ) (e : tree.Exp Span) → Over all (Stands (exp_layout e)) (λ at d. InExp begins (OnExp rows at d) (OnStmt rows at d) (OnList rows at d) c r base e)
  exp c r base e = exp_over all rows fit lookups bounds c r base e

  mutual
    unfolding InStmt InElse InStmts

    pub stmt_over : (number : ℕ) (c : Context) (base : ℕ) (x : statement.Stmt Span) → Over all (Stands (stmt_layout x)) (λ at d. InStmt begins (OnExp rows at d) (OnStmt rows at d) (OnList rows at d) number c base x)
    stmt_over number c base (statement.local m f t w e) =
        node (pass (join (type_over all rows fit lookups bounds c (begins m base) t) (pass (pass (only (exp (in_own c (local_of c number f t w)) value (begins m base) e))))))
    stmt_over number c base (statement.eval m e) = turn (node (only (exp c role.statement (begins m base) e))) (λ at d. without (λ h. h))
    stmt_over number c base (statement.branch m e x other) = turn
        (node (pass (pass (join (exp c value (begins m base) e) (pass (join (stmt_over number c (begins m base) x) (only (else_over (number + locals_in x) c (begins m base) other))))))))
        (λ at d. without (λ h. h))
    stmt_over number c base (statement.loop m e x) = turn (node (pass (pass (join (exp c value (begins m base) e) (pass (only (stmt_over number c (begins m base) x))))))) (λ at d. without (λ h. h))
    stmt_over number c base (statement.return m None) = empty (λ at d. neither (λ h. h) (λ h. h))
    stmt_over number c base (statement.return m (Some e)) = turn (node (pass (only (exp c value (begins m base) e)))) (λ at d. without (λ h. h))
    stmt_over number c base (statement.block m body) = turn (node (pass (only (stmts_over number c (begins m base) body)))) (λ at d. behind_none (λ h. h) (λ h. h))
    stmt_over number c base (statement.sync m e body) =
        turn (node (pass (pass (join (exp c value (begins m base) e) (pass (pass (only (stmts_over number c (begins m base) body)))))))) (λ at d. around_none (λ h. h) (λ h. h))
    stmt_over number c base (statement.empty m) = empty (λ at d h. h)

    else_over : (number : ℕ) (c : Context) (base : ℕ) (x : statement.Else Span) → Over all (Stands (else_layout x)) (λ at d. InElse begins (OnExp rows at d) (OnStmt rows at d) (OnList rows at d) number c base x)
    else_over number c base statement.no_else = empty (λ at d h. h)
    else_over number c base (statement.otherwise x) = pass (only (stmt_over number c base x))

    stmts_over : (number : ℕ) (c : Context) (base : ℕ) (xs : statement.Stmts Span) → Over all (Stands (stmts_layout xs)) (λ at d. InStmts begins (OnExp rows at d) (OnStmt rows at d) (OnList rows at d) number c base xs)
    stmts_over number c base statement.end = empty (λ at d h. h)
    stmts_over number c base (statement.more x xs) = join (stmt_over number c base x) (only (stmts_over (number + locals_in x) (after number c x) base xs))

  pub list_over : (number : ℕ) (c : Context) (base : ℕ) (xs : statement.Stmts Span) → Over all (Stands (stmts_layout xs)) (λ at d. InList begins (OnExp rows at d) (OnStmt rows at d) (OnList rows at d) number c base xs)
  list_over number c base xs = turn (stmts_over number c base xs) (λ at d. without (λ h. h))
