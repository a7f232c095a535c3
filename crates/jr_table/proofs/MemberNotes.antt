-- The log of a whole member, or of the head of a class: it holds the rules that are broken, each with its place, and what each
-- reference is bound to.
use Rattle.std.proofs.Common.{ℕ, List, ◌++◌, Option, Some, None, true, false, length, inl, inr}
use Rattle.std.specs.Prelude.{◌⊎◌, ◌↔◌}
use Rattle.jr_ast.specs.Tree as tree
use Rattle.jr_ast.specs.StatementTree as statement
use Rattle.jr_ast.specs.MemberTree as syntax
use Rattle.jr_table.specs.Decls.{MemberKey, head, field, method, constructor, Decl}
use Rattle.jr_table.specs.Rows.{Row}
use Rattle.jr_table.specs.Conditions.{AreRows}
use Rattle.jr_table.specs.Found.{one}
use Rattle.jr_table.specs.LookupLaws.{KeysAreFound}
use Rattle.jr_table.specs.Context.{Context}
use Rattle.jr_table.specs.Binding.{Role, BindsItself}
use Rattle.jr_table.specs.ExpressionRules.{ExpBreaks}
use Rattle.jr_table.specs.StatementRules.{StmtBreaks, ListBreaks, StmtBindsItself}
use Rattle.jr_table.specs.HeadRules.{plain, with_parameters, is_static_member, DeclarationRefers, DeclarationBreaks}
use Rattle.jr_table.specs.Errors.{InSuper, InMember, Part, class_part, member_part, Breaks, Binds}
use Rattle.jr_table.specs.Notes.{Note, refers, breaks, Has, own_notes, own_stmt_notes, list_notes}
use Rattle.jr_table.specs.HeadNotes.{declaration_notes}
use Rattle.jr_table.specs.Walks.{maybe_notes, body_notes, super_args_notes, member_notes, part_notes}
use Rattle.jr_table.proofs.RowTypes.{chain}
use Rattle.jr_table.proofs.Breaking.{two}
use Rattle.jr_table.proofs.Noting.{Own, OwnStmt, OwnList, noted_row, noted_maybe, noted_body}
use Rattle.jr_table.proofs.BreakingExpressions.{expression_breaks, expression_binds}
use Rattle.jr_table.proofs.BreakingStatements.{stmt_breaks, stmt_binds}
use Rattle.jr_table.proofs.FlowTests.{list_breaks, list_binds}
use Rattle.jr_table.proofs.BreakingHeads.{head_breaks, head_binds}
use Rattle.jr_table.proofs.BreakingDeclarations.{declaration_breaks}
use Rattle.jr_table.proofs.BindingDeclarations.{declaration_binds}
use Rattle.jr_table.proofs.Everywhere.{in_member}
use Rattle.jr_table.specs.declared.rules.Rule.{Rule}

module _ {A : Type 0} (begins : A → ℕ → ℕ) (rows : List Row) (n : Note) where
  -- a note is in the log where the declaration has it, or something that stands in the member
  abbrev Noted : (super_at : ℕ) → MemberKey → (base : ℕ) → syntax.Member A → Type 0
  Noted super_at k base x = Has (declaration_notes begins rows super_at k base x) n ⊎ InMember begins (Own begins rows n) (OwnStmt begins rows n) (OwnList begins rows n) k base x

  super_args : (c : Context) (base : ℕ) (args : Option (tree.Exps A)) → Has (super_args_notes begins rows c base args) n ↔ InSuper begins (Own begins rows n) (OwnStmt begins rows n) (OwnList begins rows n) c base args
  super_args c base None = (λ h. h, λ h. h)
  super_args c base (Some args) = noted_row begins rows n c base args

  member_noted : (super_at : ℕ) (k : MemberKey) (base : ℕ) (x : syntax.Member A) → Has (member_notes begins rows super_at k base x) n ↔ Noted super_at k base x
  unfolding member_notes
  member_noted super_at k base (syntax.field m mods t w init) = two (declaration_notes begins rows super_at k base (syntax.field m mods t w init)) (maybe_notes begins rows (plain k (is_static_member begins mods)) (begins m base) init) n _ _
      (λ h. h, λ h. h) (noted_maybe begins rows n (plain k (is_static_member begins mods)) (begins m base) init)
  member_noted super_at k base (syntax.method m mods t w ps body) = two (declaration_notes begins rows super_at k base (syntax.method m mods t w ps body)) (body_notes begins rows (length ps) (with_parameters k (is_static_member begins mods) ps) (begins m base) body) n _ _
      (λ h. h, λ h. h) (noted_body begins rows n (length ps) (with_parameters k (is_static_member begins mods) ps) (begins m base) body)
  member_noted super_at k base (syntax.constructor m mods w ps args body) = two (declaration_notes begins rows super_at k base (syntax.constructor m mods w ps args body))
      (super_args_notes begins rows (with_parameters k true ps) (begins m base) args ++ body_notes begins rows (length ps) (with_parameters k false ps) (begins m base) body) n _ _ (λ h. h, λ h. h)
      (two (super_args_notes begins rows (with_parameters k true ps) (begins m base) args) (body_notes begins rows (length ps) (with_parameters k false ps) (begins m base) body) n _ _
      (super_args (with_parameters k true ps) (begins m base) args) (noted_body begins rows n (length ps) (with_parameters k false ps) (begins m base) body))
  member_noted super_at k base (syntax.inner m of) = (λ h. absurd h, none)
    where
      none : (⊥ ⊎ ⊥) → ⊥
      none (inl h) = h
      none (inr h) = h

  -- with what the relations say of each node
  module _ (OnExp : Context → Role → (base : ℕ) → tree.Exp A → Type 0) (OnStmt : (number : ℕ) → Context → (base : ℕ) → statement.Stmt A → Type 0) (OnList : (base : ℕ) → statement.Stmts A → Type 0)
      (exps : (c : Context) (r : Role) (base : ℕ) (e : tree.Exp A) → Has (own_notes begins rows c r base e) n ↔ OnExp c r base e)
      (stmts : (number : ℕ) (c : Context) (base : ℕ) (x : statement.Stmt A) → Has (own_stmt_notes begins rows number c base x) n ↔ OnStmt number c base x)
      (lists : (base : ℕ) (xs : statement.Stmts A) → Has (list_notes begins base xs) n ↔ OnList base xs) where
    each_in : (k : MemberKey) (base : ℕ) (x : syntax.Member A) → InMember begins (Own begins rows n) (OwnStmt begins rows n) (OwnList begins rows n) k base x ↔ InMember begins OnExp OnStmt OnList k base x
    each_in k base x = (
      in_member begins (Own begins rows n) OnExp (OwnStmt begins rows n) OnStmt (OwnList begins rows n) OnList (λ c r b e h. (exps c r b e).0 h) (λ i c b y h. (stmts i c b y).0 h) (λ b ys h. (lists b ys).0 h) k base x,
      in_member begins OnExp (Own begins rows n) OnStmt (OwnStmt begins rows n) OnList (OwnList begins rows n) (λ c r b e h. (exps c r b e).1 h) (λ i c b y h. (stmts i c b y).1 h) (λ b ys h. (lists b ys).1 h) k base x,
    )

    of_member : (super_at : ℕ) (k : MemberKey) (base : ℕ) (x : syntax.Member A) (Declares : Type 0) → (Has (declaration_notes begins rows super_at k base x) n ↔ Declares)
        → Has (member_notes begins rows super_at k base x) n ↔ (Declares ⊎ InMember begins OnExp OnStmt OnList k base x)
    of_member super_at k base x Declares is = chain (member_noted super_at k base x) (to, back)
      where
        to : Noted super_at k base x → Declares ⊎ InMember begins OnExp OnStmt OnList k base x
        to (inl h) = inl (is.0 h)
        to (inr h) = inr ((each_in k base x).0 h)

        back : (Declares ⊎ InMember begins OnExp OnStmt OnList k base x) → Noted super_at k base x
        back (inl h) = inl (is.1 h)
        back (inr h) = inr ((each_in k base x).1 h)

module _ {A : Type 0} (begins : A → ℕ → ℕ) (rows : List Row) (fit : AreRows rows) (found : KeysAreFound rows) (super_at : ℕ) where
  abbrev MemberBreaks : MemberKey → (base : ℕ) → syntax.Member A → (at : ℕ) → Rule → Type 0
  MemberBreaks k base x at r = DeclarationBreaks begins rows super_at k base x at r ⊎ InMember begins (λ c role b e. ExpBreaks begins rows c role b e at r) (λ i c b s. StmtBreaks begins rows i c b s at r) (λ b ss. ListBreaks begins b ss at r) k base x

  member_breaks : (k : MemberKey) (base : ℕ) (x : syntax.Member A) (at : ℕ) (r : Rule) → Has (member_notes begins rows super_at k base x) (breaks at r) ↔ MemberBreaks k base x at r
  member_breaks k base x at r = of_member begins rows (breaks at r) (λ c role b e. ExpBreaks begins rows c role b e at r) (λ i c b s. StmtBreaks begins rows i c b s at r) (λ b ss. ListBreaks begins b ss at r)
      (λ c role b e. expression_breaks rows fit found c begins role b e at r) (λ i c b s. stmt_breaks begins rows i c b fit found s at r) (λ b ss. list_breaks begins b at r ss)
      super_at k base x (DeclarationBreaks begins rows super_at k base x at r) (declaration_breaks begins rows super_at k base fit found x at r)

  abbrev MemberBinds : MemberKey → (base : ℕ) → syntax.Member A → (at : ℕ) → Decl → Type 0
  MemberBinds k base x at d = DeclarationRefers begins rows super_at k base x at (one d) ⊎ InMember begins (λ c role b e. BindsItself begins rows c role b e at d) (λ i c b s. StmtBindsItself begins rows i c b s at d) (λ b ss. ⊥) k base x

  member_binds : (k : MemberKey) (base : ℕ) (x : syntax.Member A) (at : ℕ) (d : Decl) → Has (member_notes begins rows super_at k base x) (refers at d) ↔ MemberBinds k base x at d
  member_binds k base x at d = of_member begins rows (refers at d) (λ c role b e. BindsItself begins rows c role b e at d) (λ i c b s. StmtBindsItself begins rows i c b s at d) (λ b ss. ⊥)
      (λ c role b e. expression_binds rows fit found c begins role b e at d) (λ i c b s. stmt_binds begins rows i c b fit found s at d) (λ b ss. (λ h. list_binds begins b ss at d h, λ h. absurd h))
      super_at k base x (DeclarationRefers begins rows super_at k base x at (one d)) (declaration_binds begins rows super_at k base fit found x at d)

  -- the log of a part is what it breaks
  pub part_breaks : (k : MemberKey) (base : ℕ) (part : Part A) (at : ℕ) (r : Rule) → Has (part_notes begins rows super_at k base part) (breaks at r) ↔ Breaks begins rows super_at k base part at r
  part_breaks (head k) base (class_part c) at r = head_breaks rows fit found begins k base c at r
  part_breaks (field k) base (class_part c) at r = (λ h. h, λ h. h)
  part_breaks (method k) base (class_part c) at r = (λ h. h, λ h. h)
  part_breaks (constructor k) base (class_part c) at r = (λ h. h, λ h. h)
  part_breaks (head k) base (member_part x) at r = member_breaks (head k) base x at r
  part_breaks (field k) base (member_part x) at r = member_breaks (field k) base x at r
  part_breaks (method k) base (member_part x) at r = member_breaks (method k) base x at r
  part_breaks (constructor k) base (member_part x) at r = member_breaks (constructor k) base x at r

  -- and what its references are bound to
  pub part_binds : (k : MemberKey) (base : ℕ) (part : Part A) (at : ℕ) (d : Decl) → Has (part_notes begins rows super_at k base part) (refers at d) ↔ Binds begins rows super_at k base part at d
  part_binds (head k) base (class_part c) at d = head_binds rows fit found begins k base c at d
  part_binds (field k) base (class_part c) at d = (λ h. h, λ h. h)
  part_binds (method k) base (class_part c) at d = (λ h. h, λ h. h)
  part_binds (constructor k) base (class_part c) at d = (λ h. h, λ h. h)
  part_binds (head k) base (member_part x) at d = member_binds (head k) base x at d
  part_binds (field k) base (member_part x) at d = member_binds (field k) base x at d
  part_binds (method k) base (member_part x) at d = member_binds (method k) base x at d
  part_binds (constructor k) base (member_part x) at d = member_binds (constructor k) base x at d
