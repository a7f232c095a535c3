-- A constructor's `super(..)` has one place, and what has none has the same wherever it would be.
use Rattle.std.proofs.Common.{ℕ, List, Some, None, subst, inl, inr, arith}
use Rattle.std.specs.Prelude.{◌⊎◌, ◌↔◌, Option}
use Rattle.jr_text.specs.declared.spans.Span.{Span}
use Rattle.jr_lex.specs.declared.items.Item.{Item}
use Rattle.jr_ast.specs.Tree as tree
use Rattle.jr_ast.specs.StatementTree as statement
use Rattle.jr_ast.specs.MemberTree as syntax
use Rattle.jr_table.specs.Decls.{MemberKey, head, field, method, constructor, Decl}
use Rattle.jr_table.specs.Rows.{Row}
use Rattle.jr_table.specs.LookupLaws.{HasOne}
use Rattle.jr_table.specs.Found.{Found}
use Rattle.jr_table.specs.HeadRules.{DeclarationRefers, DeclarationBreaks}
use Rattle.jr_table.specs.Errors.{Part, class_part, member_part, Breaks, Binds}
use Rattle.jr_table.specs.declared.rules.Rule.{Rule}
use Rattle.jr_table.specs.declared.rules.Rule.TheVariants as rule
use Rattle.jr_program_laws.specs.FileParts.{begins, IsSuperAt, SuperStands, BindsAt, BreaksAt}
use Rattle.jr_program_laws.proofs.MemberParts.{MemberBinds, member_binds, member_breaks}

pub super_once : (items : List Item) (m : Span) → HasOne (IsSuperAt items m)
super_once items m s t x y = let least = x.first t y.there y.within.0 in let most = y.first s x.there x.within.0 in omega arith

abbrev Ctor : Span → List (syntax.Modifier Span) → tree.Word Span → List (syntax.Param Span) → statement.Stmts Span → syntax.Member Span
Ctor m mods w ps body = syntax.constructor m mods w ps None body

module _ (rows : List Row) (s t : ℕ) where
  by_first : {A B C : Type 0} → (A → B) → A ⊎ C → B ⊎ C
  by_first f (inl a) = inl (f a)
  by_first f (inr c) = inr c

  -- without a written `super(..)`
  module _ (k : MemberKey) (base : ℕ) (m : Span) (mods : List (syntax.Modifier Span)) (w : tree.Word Span) (ps : List (syntax.Param Span)) (body : statement.Stmts Span) (at : ℕ) where
    ctor_refers : (f : Found) → DeclarationRefers begins rows s k base (Ctor m mods w ps body) at f → DeclarationRefers begins rows t k base (Ctor m mods w ps body) at f
    ctor_refers f (inl h) = inl h
    ctor_refers f (inr h) = absurd h.1

    ctor_breaks : (of : Rule) → DeclarationBreaks begins rows s k base (Ctor m mods w ps body) at of → DeclarationBreaks begins rows t k base (Ctor m mods w ps body) at of
    ctor_breaks rule.NoMethod h = absurd h.1
    ctor_breaks rule.Ambiguous h = absurd h.1.2
    ctor_breaks rule.Private h = (h.0, ctor_refers _ h.1)
    ctor_breaks _ h = h

  field_breaks : (k : MemberKey) (base : ℕ) (m : Span) (mods : List (syntax.Modifier Span)) (u : tree.TypeName Span) (w : tree.Word Span) (init : Option (tree.Exp Span)) (at : ℕ) (of : Rule)
      → DeclarationBreaks begins rows s k base (syntax.field m mods u w init) at of → DeclarationBreaks begins rows t k base (syntax.field m mods u w init) at of
  field_breaks k base m mods u w init at rule.NoMethod h = h
  field_breaks k base m mods u w init at _ h = h

  method_breaks : (k : MemberKey) (base : ℕ) (m : Span) (mods : List (syntax.Modifier Span)) (u : Option (tree.TypeName Span)) (w : tree.Word Span) (ps : List (syntax.Param Span)) (body : statement.Stmts Span) (at : ℕ) (of : Rule)
      → DeclarationBreaks begins rows s k base (syntax.method m mods u w ps body) at of → DeclarationBreaks begins rows t k base (syntax.method m mods u w ps body) at of
  method_breaks k base m mods u w ps body at rule.NoMethod h = h
  method_breaks k base m mods u w ps body at _ h = h

  inner_breaks : (k : MemberKey) (base : ℕ) (m : Span) (c : syntax.Class Span) (at : ℕ) (of : Rule) → DeclarationBreaks begins rows s k base (syntax.inner m c) at of → DeclarationBreaks begins rows t k base (syntax.inner m c) at of
  inner_breaks k base m c at rule.NoMethod h = h
  inner_breaks k base m c at _ h = h

  -- what a part without one has
  module _ (k : MemberKey) (base : ℕ) (x : syntax.Member Span) where
    moved_binds : (at : ℕ) (d : Decl) → (MemberBinds rows s k base x at d → MemberBinds rows t k base x at d) → Binds begins rows s k base (member_part x) at d → Binds begins rows t k base (member_part x) at d
    moved_binds at d to h = (member_binds rows t k base x at d).1 (to ((member_binds rows s k base x at d).0 h))

    moved_breaks : (at : ℕ) (of : Rule) → (DeclarationBreaks begins rows s k base x at of → DeclarationBreaks begins rows t k base x at of) → Breaks begins rows s k base (member_part x) at of → Breaks begins rows t k base (member_part x) at of
    moved_breaks at of to h = (member_breaks rows t k base x at of).1 (by_first to ((member_breaks rows s k base x at of).0 h))

module _ (rows : List Row) (items : List Item) (s : ℕ) where
  head_binds : (k : MemberKey) (base : ℕ) (c : syntax.Class Span) (at : ℕ) (d : Decl) → BindsAt rows items k base (class_part c) at d ↔ Binds begins rows s k base (class_part c) at d
  head_binds (head k) base c at d = (λ h. h, λ h. h)
  head_binds (field k) base c at d = (λ h. h, λ h. h)
  head_binds (method k) base c at d = (λ h. h, λ h. h)
  head_binds (constructor k) base c at d = (λ h. h, λ h. h)

  head_breaks : (k : MemberKey) (base : ℕ) (c : syntax.Class Span) (at : ℕ) (of : Rule) → BreaksAt rows items k base (class_part c) at of ↔ Breaks begins rows s k base (class_part c) at of
  head_breaks (head k) base c at of = (λ h. h, λ h. h)
  head_breaks (field k) base c at of = (λ h. h, λ h. h)
  head_breaks (method k) base c at of = (λ h. h, λ h. h)
  head_breaks (constructor k) base c at of = (λ h. h, λ h. h)

  pub part_binds : (k : MemberKey) (base : ℕ) (part : Part Span) → SuperStands items part s → (at : ℕ) (d : Decl) → BindsAt rows items k base part at d ↔ Binds begins rows s k base part at d
  part_binds k base (class_part c) is at d = head_binds k base c at d
  part_binds k base (member_part (syntax.field m mods t w init)) is at d = (
    moved_binds rows 0 s k base (syntax.field m mods t w init) at d (λ h. h),
    moved_binds rows s 0 k base (syntax.field m mods t w init) at d (λ h. h),
  )
  part_binds k base (member_part (syntax.method m mods t w ps body)) is at d = (
    moved_binds rows 0 s k base (syntax.method m mods t w ps body) at d (λ h. h),
    moved_binds rows s 0 k base (syntax.method m mods t w ps body) at d (λ h. h),
  )
  part_binds k base (member_part (syntax.constructor m mods w ps None body)) is at d = (
    moved_binds rows 0 s k base (Ctor m mods w ps body) at d (by_first rows 0 s (ctor_refers rows 0 s k base m mods w ps body at _)),
    moved_binds rows s 0 k base (Ctor m mods w ps body) at d (by_first rows s 0 (ctor_refers rows s 0 k base m mods w ps body at _)),
  )
  part_binds k base (member_part (syntax.constructor m mods w ps (Some args) body)) is at d = (
    λ h. subst (λ (n : ℕ). Binds begins rows n k base (member_part (syntax.constructor m mods w ps (Some args) body)) at d) (super_once items m h.0 s h.1 is) h.2,
    λ h. (s, is, h),
  )
  part_binds k base (member_part (syntax.inner m c)) is at d = (
    moved_binds rows 0 s k base (syntax.inner m c) at d (λ h. h),
    moved_binds rows s 0 k base (syntax.inner m c) at d (λ h. h),
  )

  pub part_breaks : (k : MemberKey) (base : ℕ) (part : Part Span) → SuperStands items part s → (at : ℕ) (of : Rule) → BreaksAt rows items k base part at of ↔ Breaks begins rows s k base part at of
  part_breaks k base (class_part c) is at of = head_breaks k base c at of
  part_breaks k base (member_part (syntax.field m mods t w init)) is at of = (
    moved_breaks rows 0 s k base (syntax.field m mods t w init) at of (field_breaks rows 0 s k base m mods t w init at of),
    moved_breaks rows s 0 k base (syntax.field m mods t w init) at of (field_breaks rows s 0 k base m mods t w init at of),
  )
  part_breaks k base (member_part (syntax.method m mods t w ps body)) is at of = (
    moved_breaks rows 0 s k base (syntax.method m mods t w ps body) at of (method_breaks rows 0 s k base m mods t w ps body at of),
    moved_breaks rows s 0 k base (syntax.method m mods t w ps body) at of (method_breaks rows s 0 k base m mods t w ps body at of),
  )
  part_breaks k base (member_part (syntax.constructor m mods w ps None body)) is at of = (
    moved_breaks rows 0 s k base (Ctor m mods w ps body) at of (ctor_breaks rows 0 s k base m mods w ps body at of),
    moved_breaks rows s 0 k base (Ctor m mods w ps body) at of (ctor_breaks rows s 0 k base m mods w ps body at of),
  )
  part_breaks k base (member_part (syntax.constructor m mods w ps (Some args) body)) is at of = (
    λ h. subst (λ (n : ℕ). Breaks begins rows n k base (member_part (syntax.constructor m mods w ps (Some args) body)) at of) (super_once items m h.0 s h.1 is) h.2,
    λ h. (s, is, h),
  )
  part_breaks k base (member_part (syntax.inner m c)) is at of = (
    moved_breaks rows 0 s k base (syntax.inner m c) at of (inner_breaks rows 0 s k base m c at of),
    moved_breaks rows s 0 k base (syntax.inner m c) at of (inner_breaks rows s 0 k base m c at of),
  )
