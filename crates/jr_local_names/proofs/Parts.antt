-- What the list of a body binds or breaks, its part does.
use Rattle.std.proofs.Common.{◌≡◌, inr, ℕ, List, Option, Some, sym, subst}
use Rattle.jr_text.specs.declared.spans.Span.{Span}
use Rattle.jr_ast.specs.Tree as tree
use Rattle.jr_ast.specs.StatementTree as statement
use Rattle.jr_ast.specs.MemberTree as syntax
use Rattle.jr_table.specs.Decls.{MemberKey, head, field, method, constructor, Decl}
use Rattle.jr_table.specs.Rows.{Row}
use Rattle.jr_table.specs.Binding.{BindsItself}
use Rattle.jr_table.specs.Somewhere.{InStmts}
use Rattle.jr_table.specs.ExpressionRules.{ExpBreaks}
use Rattle.jr_table.specs.StatementRules.{StmtBreaks, ListBreaks, StmtBindsItself}
use Rattle.jr_table.specs.Errors.{Part, class_part, member_part, part_mark, Breaks, Binds}
use Rattle.jr_table.specs.declared.rules.Rule.{Rule}
use Rattle.jr_bind.specs.Bounds.{Bound}
use Rattle.jr_bodies.specs.Bodies.{begins, Body, body_of}
use Rattle.jr_bodies.proofs.Coded.{no_body, same_body}

module _ (rows : List Row) (super_at : ℕ) (at : ℕ) where
  abbrev ListBinds : Decl → Body → Type 0
  ListBinds d b = InStmts begins (λ c r base e. BindsItself begins rows c r base e at d) (λ n c base s. StmtBindsItself begins rows n c base s at d) (λ base ss. ⊥) b.at.next b.at.context b.at.base b.list

  abbrev ListBreaksAt : Rule → Body → Type 0
  ListBreaksAt k b = InStmts begins (λ c r base e. ExpBreaks begins rows c r base e at k) (λ n c base s. StmtBreaks begins rows n c base s at k) (λ base ss. ListBreaks begins base ss at k) b.at.next b.at.context b.at.base b.list

  method_binds : (k : MemberKey) (base : ℕ) (d : Decl) (m : Span) (mods : List (syntax.Modifier Span)) (t : Option (tree.TypeName Span)) (w : tree.Word Span) (ps : List (syntax.Param Span)) (body : statement.Stmts Span) (bound : Bound) (b : Body)
      → body_of k base (member_part (syntax.method m mods t w ps body)) bound ≡ Some b → ListBinds d b → Binds begins rows super_at k base (member_part (syntax.method m mods t w ps body)) at d
  method_binds (head q) base d m mods t w ps body bound b e h = inr (inr (subst (ListBinds d) (sym (same_body _ b e)) h))
  method_binds (field q) base d m mods t w ps body bound b e h = inr (inr (subst (ListBinds d) (sym (same_body _ b e)) h))
  method_binds (method q) base d m mods t w ps body bound b e h = inr (inr (subst (ListBinds d) (sym (same_body _ b e)) h))
  method_binds (constructor q) base d m mods t w ps body bound b e h = inr (inr (subst (ListBinds d) (sym (same_body _ b e)) h))

  ctor_binds : (k : MemberKey) (base : ℕ) (d : Decl) (m : Span) (mods : List (syntax.Modifier Span)) (w : tree.Word Span) (ps : List (syntax.Param Span)) (args : Option (tree.Exps Span)) (body : statement.Stmts Span) (bound : Bound) (b : Body)
      → body_of k base (member_part (syntax.constructor m mods w ps args body)) bound ≡ Some b → ListBinds d b → Binds begins rows super_at k base (member_part (syntax.constructor m mods w ps args body)) at d
  ctor_binds (head q) base d m mods w ps args body bound b e h = inr (inr (inr (subst (ListBinds d) (sym (same_body _ b e)) h)))
  ctor_binds (field q) base d m mods w ps args body bound b e h = inr (inr (inr (subst (ListBinds d) (sym (same_body _ b e)) h)))
  ctor_binds (method q) base d m mods w ps args body bound b e h = inr (inr (inr (subst (ListBinds d) (sym (same_body _ b e)) h)))
  ctor_binds (constructor q) base d m mods w ps args body bound b e h = inr (inr (inr (subst (ListBinds d) (sym (same_body _ b e)) h)))

  method_breaks : (k : MemberKey) (base : ℕ) (r : Rule) (m : Span) (mods : List (syntax.Modifier Span)) (t : Option (tree.TypeName Span)) (w : tree.Word Span) (ps : List (syntax.Param Span)) (body : statement.Stmts Span) (bound : Bound) (b : Body)
      → body_of k base (member_part (syntax.method m mods t w ps body)) bound ≡ Some b → ListBreaksAt r b → Breaks begins rows super_at k base (member_part (syntax.method m mods t w ps body)) at r
  method_breaks (head q) base r m mods t w ps body bound b e h = inr (inr (subst (ListBreaksAt r) (sym (same_body _ b e)) h))
  method_breaks (field q) base r m mods t w ps body bound b e h = inr (inr (subst (ListBreaksAt r) (sym (same_body _ b e)) h))
  method_breaks (method q) base r m mods t w ps body bound b e h = inr (inr (subst (ListBreaksAt r) (sym (same_body _ b e)) h))
  method_breaks (constructor q) base r m mods t w ps body bound b e h = inr (inr (subst (ListBreaksAt r) (sym (same_body _ b e)) h))

  ctor_breaks : (k : MemberKey) (base : ℕ) (r : Rule) (m : Span) (mods : List (syntax.Modifier Span)) (w : tree.Word Span) (ps : List (syntax.Param Span)) (args : Option (tree.Exps Span)) (body : statement.Stmts Span) (bound : Bound) (b : Body)
      → body_of k base (member_part (syntax.constructor m mods w ps args body)) bound ≡ Some b → ListBreaksAt r b → Breaks begins rows super_at k base (member_part (syntax.constructor m mods w ps args body)) at r
  ctor_breaks (head q) base r m mods w ps args body bound b e h = inr (inr (inr (subst (ListBreaksAt r) (sym (same_body _ b e)) h)))
  ctor_breaks (field q) base r m mods w ps args body bound b e h = inr (inr (inr (subst (ListBreaksAt r) (sym (same_body _ b e)) h)))
  ctor_breaks (method q) base r m mods w ps args body bound b e h = inr (inr (inr (subst (ListBreaksAt r) (sym (same_body _ b e)) h)))
  ctor_breaks (constructor q) base r m mods w ps args body bound b e h = inr (inr (inr (subst (ListBreaksAt r) (sym (same_body _ b e)) h)))

  pub part_binds : (k : MemberKey) (base : ℕ) (part : Part Span) (d : Decl) (bound : Bound) (b : Body) → body_of k base part bound ≡ Some b → ListBinds d b → Binds begins rows super_at k base part at d
  part_binds k base (class_part c) d bound b e h = absurd (no_body b e)
  part_binds k base (member_part (syntax.field m mods t w init)) d bound b e h = absurd (no_body b e)
  part_binds k base (member_part (syntax.method m mods t w ps body)) d bound b e h = method_binds k base d m mods t w ps body bound b e h
  part_binds k base (member_part (syntax.constructor m mods w ps args body)) d bound b e h = ctor_binds k base d m mods w ps args body bound b e h
  part_binds k base (member_part (syntax.inner m c)) d bound b e h = absurd (no_body b e)

  pub part_breaks : (k : MemberKey) (base : ℕ) (part : Part Span) (r : Rule) (bound : Bound) (b : Body) → body_of k base part bound ≡ Some b → ListBreaksAt r b → Breaks begins rows super_at k base part at r
  part_breaks k base (class_part c) r bound b e h = absurd (no_body b e)
  part_breaks k base (member_part (syntax.field m mods t w init)) r bound b e h = absurd (no_body b e)
  part_breaks k base (member_part (syntax.method m mods t w ps body)) r bound b e h = method_breaks k base r m mods t w ps body bound b e h
  part_breaks k base (member_part (syntax.constructor m mods w ps args body)) r bound b e h = ctor_breaks k base r m mods w ps args body bound b e h
  part_breaks k base (member_part (syntax.inner m c)) r bound b e h = absurd (no_body b e)

pub starts_there : (k : MemberKey) (base : ℕ) (part : Part Span) (bound : Bound) (b : Body) → body_of k base part bound ≡ Some b → (part_mark part).from ≡ b.at.base
starts_there k base (class_part c) bound b e = absurd (no_body b e)
starts_there k base (member_part (syntax.field m mods t w init)) bound b e = absurd (no_body b e)
starts_there k base (member_part (syntax.method m mods t w ps body)) bound b e = λ i. (same_body _ b e i).at.base
starts_there k base (member_part (syntax.constructor m mods w ps args body)) bound b e = λ i. (same_body _ b e i).at.base
starts_there k base (member_part (syntax.inner m c)) bound b e = absurd (no_body b e)
