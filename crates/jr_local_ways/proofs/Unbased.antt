-- Where marks are spans, it doesn't matter where the parent of a node is told to begin.
use Rattle.std.proofs.Common.{◌≡◌, ℕ, List, refl, subst, inl, inr}
use Rattle.jr_text.specs.declared.spans.Span.{Span}
use Rattle.jr_ast.specs.Tree as tree
use Rattle.jr_grammar.specs.Layout.{itself}
use Rattle.jr_table.specs.Rows.{Row}
use Rattle.jr_table.specs.Decls.{Decl}
use Rattle.jr_table.specs.Conditions.{AreRows}
use Rattle.jr_table.specs.LookupLaws.{KeysFound}
use Rattle.jr_table.specs.BindingLaws.{ExpressionsAreNoted}
use Rattle.jr_table.specs.Context.{Context}
use Rattle.jr_table.specs.Binding.{Role, BindsItself}
use Rattle.jr_table.specs.ExpressionRules.{ExpBreaks}
use Rattle.jr_table.specs.Notes.{Note, refers, breaks, Has, own_notes}
use Rattle.jr_table.specs.Somewhere.{Somewhere, InTarget, InRow}
use Rattle.jr_table.specs.declared.rules.Rule.{Rule}
use Rattle.jr_bind.specs.Bounds.{Bound}
use Rattle.jr_bind_expr.specs.Fits.{FitsExp, FitsTarget, FitsExps}
use Rattle.jr_members.specs.Fitting.{begins_by}
use Rattle.jr_rewrite.specs.Rewrites.{TransformsExp, TransformsTarget, TransformsRow}
use Rattle.jr_new_bodies.specs.Ready.{ExpReadyIn}
use Rattle.jr_local_ways.specs.Unbased.{SpansHaveNoBase}

abbrev pub Anywhere : Span → ℕ → Type 0
Anywhere m n = Unit {0}

-- ---- what an expression notes itself

module _ (rows : List Row) (c : Context) (role : Role) (base other : ℕ) where
  same_notes : (e : tree.Exp Span) → own_notes (begins_by itself) rows c role other e ≡ own_notes (begins_by itself) rows c role base e
  unfolding own_notes
  same_notes (tree.number m n) = refl
  same_notes (tree.truth m b) = refl
  same_notes (tree.null m) = refl
  same_notes (tree.string m t) = refl
  same_notes (tree.name m w) = refl
  same_notes (tree.field m e w) = refl
  same_notes (tree.super_field m w) = refl
  same_notes (tree.this m) = refl
  same_notes (tree.class_literal m t) = refl
  same_notes (tree.call m tree.no_target w es) = refl
  same_notes (tree.call m (tree.on e) w es) = refl
  same_notes (tree.super_call m w es) = refl
  same_notes (tree.create m t es) = refl
  same_notes (tree.paren m e) = refl
  same_notes (tree.cast m t e) = refl
  same_notes (tree.unary m o e) = refl
  same_notes (tree.bump m o e) = refl
  same_notes (tree.binary m o x y) = refl
  same_notes (tree.assign m x y) = refl
  same_notes (tree.compound m o x y) = refl

-- what notes the same breaks and binds the same
module _ (noted : ExpressionsAreNoted Span) (rows : List Row) (are : AreRows rows) (found : KeysFound) (c : Context) (e : tree.Exp Span) (r s : Role) (base other : ℕ)
    (same : own_notes (begins_by itself) rows c s other e ≡ own_notes (begins_by itself) rows c r base e) where
  pub breaks_so : (at : ℕ) (k : Rule) → ExpBreaks (begins_by itself) rows c s other e at k → ExpBreaks (begins_by itself) rows c r base e at k
  breaks_so at k h =
      ((noted (begins_by itself) rows are (found rows are) c r base e).rules at k).0
      (subst (λ (ns : List Note). Has ns (breaks at k)) same (((noted (begins_by itself) rows are (found rows are) c s other e).rules at k).1 h))

  pub binds_so : (at : ℕ) (d : Decl) → BindsItself (begins_by itself) rows c s other e at d → BindsItself (begins_by itself) rows c r base e at d
  binds_so at d h =
      ((noted (begins_by itself) rows are (found rows are) c r base e).bindings at d).0
      (subst (λ (ns : List Note). Has ns (refers at d)) same (((noted (begins_by itself) rows are (found rows are) c s other e).bindings at d).1 h))

-- ---- within an expression

module _ (P : Role → (base : ℕ) → tree.Exp Span → Type 0) (r s : Role) (base other : ℕ) where
  -- parts stand as they stood
  pub somewhere_so : (e : tree.Exp Span) → (P s other e → P r base e) → Somewhere (begins_by itself) P s other e → Somewhere (begins_by itself) P r base e
  unfolding Somewhere InTarget InRow
  somewhere_so (tree.number m n) go h = go h
  somewhere_so (tree.truth m b) go h = go h
  somewhere_so (tree.null m) go h = go h
  somewhere_so (tree.string m t) go h = go h
  somewhere_so (tree.name m w) go h = go h
  somewhere_so (tree.field m e w) go (inl h) = inl (go h)
  somewhere_so (tree.field m e w) go (inr h) = inr h
  somewhere_so (tree.super_field m w) go h = go h
  somewhere_so (tree.this m) go h = go h
  somewhere_so (tree.class_literal m t) go h = go h
  somewhere_so (tree.call m t w es) go (inl h) = inl (go h)
  somewhere_so (tree.call m t w es) go (inr h) = inr h
  somewhere_so (tree.super_call m w es) go (inl h) = inl (go h)
  somewhere_so (tree.super_call m w es) go (inr h) = inr h
  somewhere_so (tree.create m t es) go (inl h) = inl (go h)
  somewhere_so (tree.create m t es) go (inr h) = inr h
  somewhere_so (tree.paren m e) go (inl h) = inl (go h)
  somewhere_so (tree.paren m e) go (inr h) = inr h
  somewhere_so (tree.cast m t e) go (inl h) = inl (go h)
  somewhere_so (tree.cast m t e) go (inr h) = inr h
  somewhere_so (tree.unary m o e) go (inl h) = inl (go h)
  somewhere_so (tree.unary m o e) go (inr h) = inr h
  somewhere_so (tree.bump m o e) go (inl h) = inl (go h)
  somewhere_so (tree.bump m o e) go (inr h) = inr h
  somewhere_so (tree.binary m o x y) go (inl h) = inl (go h)
  somewhere_so (tree.binary m o x y) go (inr h) = inr h
  somewhere_so (tree.assign m x y) go (inl h) = inl (go h)
  somewhere_so (tree.assign m x y) go (inr h) = inr h
  somewhere_so (tree.compound m o x y) go (inl h) = inl (go h)
  somewhere_so (tree.compound m o x y) go (inr h) = inr h

module _ (base other : ℕ) where
  pub fits_so : (e : tree.Exp Span) → FitsExp (begins_by itself) Anywhere base e → FitsExp (begins_by itself) Anywhere other e
  unfolding FitsExp FitsTarget FitsExps
  fits_so (tree.number m n) h = h
  fits_so (tree.truth m b) h = h
  fits_so (tree.null m) h = h
  fits_so (tree.string m t) h = h
  fits_so (tree.name m w) h = h
  fits_so (tree.field m e w) h = h
  fits_so (tree.super_field m w) h = h
  fits_so (tree.this m) h = h
  fits_so (tree.class_literal m t) h = h
  fits_so (tree.call m t w es) h = h
  fits_so (tree.super_call m w es) h = h
  fits_so (tree.create m t es) h = h
  fits_so (tree.paren m e) h = h
  fits_so (tree.cast m t e) h = h
  fits_so (tree.unary m o e) h = h
  fits_so (tree.bump m o e) h = h
  fits_so (tree.binary m o x y) h = h
  fits_so (tree.assign m x y) h = h
  fits_so (tree.compound m o x y) h = h

-- ---- what a walk rests on, where the expression notes the same

pub ready_so : ExpressionsAreNoted Span → KeysFound → (rows : List Row) → AreRows rows → (b : Bound) (from : ℕ) (c : Context) (r s : Role) (path : List ℕ) (base other : ℕ) (e : tree.Exp Span)
    → own_notes (begins_by itself) rows c s other e ≡ own_notes (begins_by itself) rows c r base e → ExpReadyIn itself Anywhere rows b from c r path base e → ExpReadyIn itself Anywhere rows b from c s path other e
ready_so noted found rows are b from c r s path base other e same (fits, sound, means, types) = (
  fits_so base other e fits,
  λ at k h. sound at k (somewhere_so (λ o n x. ExpBreaks (begins_by itself) rows c o n x at k) r s base other e (breaks_so noted rows are found c e r s base other same at k) h),
  λ at d h. means at d (somewhere_so (λ o n x. BindsItself (begins_by itself) rows c o n x at d) r s base other e (binds_so noted rows are found c e r s base other same at d) h),
  types,
)

pub unbased_ready : ExpressionsAreNoted Span → KeysFound → (rows : List Row) → AreRows rows → (b : Bound) (from : ℕ) (c : Context) (r : Role) (path : List ℕ) (base other : ℕ) (e : tree.Exp Span)
    → ExpReadyIn itself Anywhere rows b from c r path base e → ExpReadyIn itself Anywhere rows b from c r path other e
unbased_ready noted found rows are b from c r path base other e = ready_so noted found rows are b from c r r path base other e (same_notes rows c r base other e)

-- ---- what becomes of an expression

pub spans_have_no_base : SpansHaveNoBase
unfolding TransformsExp TransformsTarget TransformsRow
spans_have_no_base rows g super_at c r base other (tree.number m n) o h = h
spans_have_no_base rows g super_at c r base other (tree.truth m b) o h = h
spans_have_no_base rows g super_at c r base other (tree.null m) o h = h
spans_have_no_base rows g super_at c r base other (tree.string m t) o h = h
spans_have_no_base rows g super_at c r base other (tree.name m w) o h = h
spans_have_no_base rows g super_at c r base other (tree.field m e w) o h = h
spans_have_no_base rows g super_at c r base other (tree.super_field m w) o h = h
spans_have_no_base rows g super_at c r base other (tree.this m) o h = h
spans_have_no_base rows g super_at c r base other (tree.class_literal m t) o h = h
spans_have_no_base rows g super_at c r base other (tree.call m tree.no_target w es) o h = h
spans_have_no_base rows g super_at c r base other (tree.call m (tree.on e) w es) o h = h
spans_have_no_base rows g super_at c r base other (tree.super_call m w es) o h = h
spans_have_no_base rows g super_at c r base other (tree.create m t es) o h = h
spans_have_no_base rows g super_at c r base other (tree.paren m e) o h = h
spans_have_no_base rows g super_at c r base other (tree.cast m t e) o h = h
spans_have_no_base rows g super_at c r base other (tree.unary m k e) o h = h
spans_have_no_base rows g super_at c r base other (tree.bump m k e) o h = h
spans_have_no_base rows g super_at c r base other (tree.binary m k x y) o h = h
spans_have_no_base rows g super_at c r base other (tree.assign m x y) o h = h
spans_have_no_base rows g super_at c r base other (tree.compound m k x y) o h = h
