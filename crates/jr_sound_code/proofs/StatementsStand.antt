-- Statements of which none breaks a rule, nor does any expression in them, have code.
use Rattle.std.proofs.Common.{◌≢◌, ℕ, ◌+◌, List, Some, None, false, refl, inl, inr}
use Rattle.jr_ast.specs.Tree as tree
use Rattle.jr_ast.specs.StatementTree as statement
use Rattle.jr_grammar.specs.Shape.{Shaped, AllShaped}
use Rattle.jr_grammar.specs.StatementShape.{StmtShaped, ElseShaped, StmtsShaped}
use Rattle.jr_runs.specs.Core as core
use Rattle.jr_table.specs.Rows.{Row}
use Rattle.jr_table.specs.Conditions.{AreRows}
use Rattle.jr_table.specs.LookupLaws.{KeysAreFound}
use Rattle.jr_table.specs.Context.{Context, local_of, in_own, after, locals_in}
use Rattle.jr_table.specs.Binding.{Role, value, left}
use Rattle.jr_table.specs.Binding as role
use Rattle.jr_table.specs.Somewhere.{Somewhere, InRow, InStmt, InElse, InStmts}
use Rattle.jr_table.specs.ExpressionRules.{ExpBreaks}
use Rattle.jr_table.specs.StatementRules.{StmtBreaks, ListBreaks}
use Rattle.jr_table.specs.declared.rules.Rule.{Rule}
use Rattle.jr_code.specs.RunKeys.{RunKeys}
use Rattle.jr_code.specs.Coded.{Code, ExpCode, RowCode}
use Rattle.jr_code.specs.CodedStatements.{StatementCode, ListCode, StmtCode, ElseCode, StmtsCode}
use Rattle.jr_sound_code.proofs.CodeStands.{no_left, code_stands, row_stands}
use Rattle.jr_sound_code.proofs.Answers.{answers}

module _ {A : Type 0} (begins : A → ℕ → ℕ) (rows : List Row) where
  abbrev pub CleanExp : Context → Role → ℕ → tree.Exp A → Type 0
  CleanExp c r b e = (at : ℕ) (q : Rule) → Somewhere begins (λ s i x. ExpBreaks begins rows c s i x at q) r b e → ⊥

  abbrev pub CleanRow : Context → ℕ → tree.Exps A → Type 0
  CleanRow c b es = (at : ℕ) (q : Rule) → InRow begins (λ s i x. ExpBreaks begins rows c s i x at q) b es → ⊥

  abbrev pub CleanStmt : ℕ → Context → ℕ → statement.Stmt A → Type 0
  CleanStmt n c b x = (at : ℕ) (q : Rule) → InStmt begins (λ d s i e. ExpBreaks begins rows d s i e at q) (λ k d i s. StmtBreaks begins rows k d i s at q) (λ i ss. ListBreaks begins i ss at q) n c b x → ⊥

  abbrev pub CleanElse : ℕ → Context → ℕ → statement.Else A → Type 0
  CleanElse n c b x = (at : ℕ) (q : Rule) → InElse begins (λ d s i e. ExpBreaks begins rows d s i e at q) (λ k d i s. StmtBreaks begins rows k d i s at q) (λ i ss. ListBreaks begins i ss at q) n c b x → ⊥

  abbrev pub CleanStmts : ℕ → Context → ℕ → statement.Stmts A → Type 0
  CleanStmts n c b xs = (at : ℕ) (q : Rule) → InStmts begins (λ d s i e. ExpBreaks begins rows d s i e at q) (λ k d i s. StmtBreaks begins rows k d i s at q) (λ i ss. ListBreaks begins i ss at q) n c b xs → ⊥

module _ {A : Type 0} (begins ends : A → ℕ → ℕ) (rows : List Row) (are : AreRows rows) (found : KeysAreFound rows) where
  pub exp_stands : (c : Context) (r : Role) → r ≢ left → (b : ℕ) (e : tree.Exp A) → Shaped e → CleanExp begins rows c r b e → (z : Code) × ExpCode begins rows c b e z
  exp_stands c r never b e shaped clean = (no_left begins rows c (answers rows are found c) r b e (code_stands begins rows c (answers rows are found c) false r b b e shaped clean) never).0

  pub value_stands : (c : Context) (b : ℕ) (e : tree.Exp A) → Shaped e → CleanExp begins rows c value b e → (z : Code) × ExpCode begins rows c b e z
  value_stands c b e shaped clean = exp_stands c value (λ h. cc) b e shaped clean

  pub args_stand : (c : Context) (b : ℕ) (es : tree.Exps A) → AllShaped es → CleanRow begins rows c b es → (zs : core.Exps RunKeys) × RowCode begins rows c b es zs
  args_stand c b es shaped clean = row_stands begins rows c (answers rows are found c) b b es shaped clean

  mutual
    unfolding InStmt InElse InStmts StmtCode ElseCode StmtsCode

    pub stmt_stands : (n : ℕ) (c : Context) (b : ℕ) (x : statement.Stmt A) → StmtShaped x → CleanStmt begins rows n c b x → (s : StatementCode) × StmtCode begins ends rows n c b x s
    stmt_stands n c b (statement.local m f t w e) shaped clean =
        let z = value_stands (in_own c (local_of c n f t w)) (begins m b) e shaped (λ at q h. clean at q (inr h)) in (_, (z.0, z.1, refl))
    stmt_stands n c b (statement.eval m e) shaped clean =
        let z = exp_stands c role.statement (λ h. cc) (begins m b) e shaped.1 (λ at q h. clean at q (inr h)) in (_, (z.0, z.1, refl))
    stmt_stands n c b (statement.branch m e x other) shaped clean =
        let z = value_stands c (begins m b) e shaped.0 (λ at q h. clean at q (inr (inl h))) in
        let y = stmt_stands n c (begins m b) x shaped.2 (λ at q h. clean at q (inr (inr (inl h)))) in
        let o = else_stands (n + locals_in x) c (begins m b) x other shaped.3 (λ at q h. clean at q (inr (inr (inr h)))) in
        (_, (z.0, y.0, o.0, z.1, y.1, o.1, refl))
    stmt_stands n c b (statement.loop m e x) shaped clean =
        let z = value_stands c (begins m b) e shaped.0 (λ at q h. clean at q (inr (inl h))) in
        let y = stmt_stands n c (begins m b) x shaped.2 (λ at q h. clean at q (inr (inr h))) in
        (_, (z.0, y.0, z.1, y.1, refl))
    stmt_stands n c b (statement.return m None) shaped clean = (_, refl)
    stmt_stands n c b (statement.return m (Some e)) shaped clean =
        let z = value_stands c (begins m b) e shaped (λ at q h. clean at q (inr h)) in (_, (z.0, z.1, refl))
    stmt_stands n c b (statement.block m body) shaped clean =
        let z = stmts_stand n c (begins m b) body shaped (λ at q h. clean at q (inr (inr h))) in (_, (z.0, z.1, refl))
    stmt_stands n c b (statement.sync m e body) shaped clean =
        let z = value_stands c (begins m b) e shaped.0 (λ at q h. clean at q (inr (inl h))) in
        let y = stmts_stand n c (begins m b) body shaped.1 (λ at q h. clean at q (inr (inr (inr h)))) in
        (_, (z.0, y.0, z.1, y.1, refl))
    stmt_stands n c b (statement.empty m) shaped clean = (_, refl)

    else_stands : (n : ℕ) (c : Context) (b : ℕ) (x : statement.Stmt A) (o : statement.Else A) → ElseShaped x o → CleanElse begins rows n c b o → (s : StatementCode) × ElseCode begins ends rows n c b o s
    else_stands n c b x statement.no_else shaped clean = (_, refl)
    else_stands n c b x (statement.otherwise y) shaped clean = stmt_stands n c b y shaped.2 clean

    pub stmts_stand : (n : ℕ) (c : Context) (b : ℕ) (xs : statement.Stmts A) → StmtsShaped xs → CleanStmts begins rows n c b xs → (z : ListCode) × StmtsCode begins ends rows n c b xs z
    stmts_stand n c b statement.end shaped clean = (_, refl)
    stmts_stand n c b (statement.more x xs) shaped clean =
        let y = stmt_stands n c b x shaped.0 (λ at q h. clean at q (inl h)) in
        let ys = stmts_stand (n + locals_in x) (after n c x) b xs shaped.1 (λ at q h. clean at q (inr h)) in
        (_, (y.0, ys.0, y.1, ys.1, refl))
