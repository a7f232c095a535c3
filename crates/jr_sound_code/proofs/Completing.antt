-- Where code may complete normally, the statement that it is of can.
use Rattle.std.proofs.Common.{◌≡◌, ℕ, ◌+◌, List, Some, None, Bool, true, false, ap, subst, inl, inr}
use Rattle.jr_ast.specs.Tree as tree
use Rattle.jr_ast.specs.StatementTree as statement
use Rattle.jr_runs.specs.Values.{truth}
use Rattle.jr_runs.specs.Core as core
use Rattle.jr_runs.specs.Typing.{is_always, MayComplete, AllMayComplete}
use Rattle.jr_table.specs.Rows.{Row}
use Rattle.jr_table.specs.Context.{Context, after, locals_in}
use Rattle.jr_table.specs.Completing.{IsTrueLiteral, Completes, ElseCompletes, ListCompletes}
use Rattle.jr_code.specs.Coded.{Code, ExpCode}
use Rattle.jr_code.specs.CodedStatements.{StatementCode, ListCode, StmtCode, ElseCode, StmtsCode}

module _ {A : Type 0} (begins ends : A → ℕ → ℕ) (rows : List Row) where
  -- `true`, within any parentheses, is the literal
  always : (c : Context) (b : ℕ) (e : tree.Exp A) (z : Code) → ExpCode begins rows c b e z → IsTrueLiteral e → is_always z ≡ true
  unfolding ExpCode IsTrueLiteral
  always c b (tree.truth m v) z code is = by v is code
    where
      by : (v : Bool) → v ≡ true → z ≡ core.literal (Some (record { member = c.member; at = begins m b })) (truth v) → is_always z ≡ true
      by true e code = ap is_always code
      by false e code = absurd cc
  always c b (tree.paren m e) z code is = always c (begins m b) e z code is
  always c b (tree.number m v) z code is = absurd is
  always c b (tree.null m) z code is = absurd is
  always c b (tree.string m s) z code is = absurd is
  always c b (tree.name m w) z code is = absurd is
  always c b (tree.field m e w) z code is = absurd is
  always c b (tree.super_field m w) z code is = absurd is
  always c b (tree.this m) z code is = absurd is
  always c b (tree.class_literal m t) z code is = absurd is
  always c b (tree.call m to w args) z code is = absurd is
  always c b (tree.super_call m w args) z code is = absurd is
  always c b (tree.create m t args) z code is = absurd is
  always c b (tree.cast m t e) z code is = absurd is
  always c b (tree.unary m o e) z code is = absurd is
  always c b (tree.bump m o e) z code is = absurd is
  always c b (tree.binary m o x y) z code is = absurd is
  always c b (tree.assign m x y) z code is = absurd is
  always c b (tree.compound m o x y) z code is = absurd is

  mutual
    unfolding StmtCode ElseCode StmtsCode Completes ElseCompletes ListCompletes

    completes : (n : ℕ) (c : Context) (b : ℕ) (x : statement.Stmt A) (s : StatementCode) → StmtCode begins ends rows n c b x s → MayComplete s → Completes x
    completes n c b (statement.local m f t w e) s code h = tt
    completes n c b (statement.eval m e) s code h = tt
    completes n c b (statement.branch m e x other) s (z, y, q, code, one, two, is) h = elim (subst (λ (v : StatementCode). MayComplete v) is h) [
      | inl first ↦ inr (completes n c (begins m b) x y one first)
      | inr second ↦ inl (else_completes (n + locals_in x) c (begins m b) other q two second)
    ]
    completes n c b (statement.loop m e x) s (z, y, code, one, is) h = λ literal. (let t = always c (begins m b) e z code literal in let f : is_always z ≡ false = subst (λ (v : StatementCode). MayComplete v) is h in absurd cc)
    completes n c b (statement.return m None) s is h = subst (λ (v : StatementCode). MayComplete v) is h
    completes n c b (statement.return m (Some e)) s (z, code, is) h = subst (λ (v : StatementCode). MayComplete v) is h
    completes n c b (statement.block m body) s (z, code, is) h = all_complete n c (begins m b) body z code (subst (λ (v : StatementCode). MayComplete v) is h)
    completes n c b (statement.sync m e body) s (z, y, code, codes, is) h = all_complete n c (begins m b) body y codes (subst (λ (v : StatementCode). MayComplete v) is h)
    completes n c b (statement.empty m) s is h = tt

    else_completes : (n : ℕ) (c : Context) (b : ℕ) (x : statement.Else A) (s : StatementCode) → ElseCode begins ends rows n c b x s → MayComplete s → ElseCompletes x
    else_completes n c b statement.no_else s is h = tt
    else_completes n c b (statement.otherwise x) s code h = completes n c b x s code h

    pub all_complete : (n : ℕ) (c : Context) (b : ℕ) (xs : statement.Stmts A) (z : ListCode) → StmtsCode begins ends rows n c b xs z → AllMayComplete z → ListCompletes xs
    all_complete n c b statement.end z is h = tt
    all_complete n c b (statement.more x xs) z (y, ys, code, codes, is) h =
        let both = subst (λ (v : ListCode). AllMayComplete v) is h in
        (completes n c b x y code both.0, all_complete (n + locals_in x) (after n c x) b xs ys codes both.1)
