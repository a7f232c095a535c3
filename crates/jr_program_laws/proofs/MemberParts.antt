-- What a member binds and breaks: its declaration, and what stands in it, whatever its key and wherever its `super(..)` is.
use Rattle.std.proofs.Common.{ℕ, List}
use Rattle.std.specs.Prelude.{◌⊎◌, ◌↔◌}
use Rattle.jr_text.specs.declared.spans.Span.{Span}
use Rattle.jr_ast.specs.Tree as tree
use Rattle.jr_ast.specs.StatementTree as statement
use Rattle.jr_ast.specs.MemberTree as syntax
use Rattle.jr_table.specs.Decls.{MemberKey, head, field, method, constructor, Decl}
use Rattle.jr_table.specs.Rows.{Row}
use Rattle.jr_table.specs.Found.{one}
use Rattle.jr_table.specs.Context.{Context}
use Rattle.jr_table.specs.Binding.{Role, BindsItself}
use Rattle.jr_table.specs.ExpressionRules.{ExpBreaks}
use Rattle.jr_table.specs.StatementRules.{StmtBreaks, ListBreaks, StmtBindsItself}
use Rattle.jr_table.specs.HeadRules.{DeclarationRefers, DeclarationBreaks}
use Rattle.jr_table.specs.Errors.{InMember, member_part, Breaks, Binds}
use Rattle.jr_table.specs.declared.rules.Rule.{Rule}
use Rattle.jr_program_laws.specs.FileParts.{begins}

module _ (rows : List Row) where
  -- what is bound at a place
  module _ (at : ℕ) (d : Decl) where
    abbrev pub OnExp : Context → Role → (base : ℕ) → tree.Exp Span → Type 0
    OnExp c r base e = BindsItself begins rows c r base e at d

    abbrev pub OnStmt : (number : ℕ) → Context → (base : ℕ) → statement.Stmt Span → Type 0
    OnStmt number c base x = StmtBindsItself begins rows number c base x at d

    abbrev pub OnList : (base : ℕ) → statement.Stmts Span → Type 0
    OnList base xs = ⊥

  abbrev pub MemberBinds : (s : ℕ) → MemberKey → (base : ℕ) → syntax.Member Span → ℕ → Decl → Type 0
  MemberBinds s k base x at d = DeclarationRefers begins rows s k base x at (one d) ⊎ InMember begins (OnExp at d) (OnStmt at d) (OnList at d) k base x

  abbrev pub MemberBreaks : (s : ℕ) → MemberKey → (base : ℕ) → syntax.Member Span → ℕ → Rule → Type 0
  MemberBreaks s k base x at of = DeclarationBreaks begins rows s k base x at of
      ⊎ InMember begins (λ c r b e. ExpBreaks begins rows c r b e at of) (λ n c b y. StmtBreaks begins rows n c b y at of) (λ b ys. ListBreaks begins b ys at of) k base x

  module _ (s : ℕ) where
    pub member_binds : (k : MemberKey) (base : ℕ) (x : syntax.Member Span) (at : ℕ) (d : Decl) → Binds begins rows s k base (member_part x) at d ↔ MemberBinds s k base x at d
    member_binds (head k) base x at d = (λ h. h, λ h. h)
    member_binds (field k) base x at d = (λ h. h, λ h. h)
    member_binds (method k) base x at d = (λ h. h, λ h. h)
    member_binds (constructor k) base x at d = (λ h. h, λ h. h)

    pub member_breaks : (k : MemberKey) (base : ℕ) (x : syntax.Member Span) (at : ℕ) (of : Rule) → Breaks begins rows s k base (member_part x) at of ↔ MemberBreaks s k base x at of
    member_breaks (head k) base x at of = (λ h. h, λ h. h)
    member_breaks (field k) base x at of = (λ h. h, λ h. h)
    member_breaks (method k) base x at of = (λ h. h, λ h. h)
    member_breaks (constructor k) base x at of = (λ h. h, λ h. h)
