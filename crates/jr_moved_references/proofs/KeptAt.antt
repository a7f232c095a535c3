-- What is known of the references of two programs at a place of the one and the place of the other
-- that stands for it: what becomes of each is bound to the image.
use Rattle.std.proofs.Common.{◌≡◌, ℕ, List, [], Some, None, refl, sym, ap, subst, ◌∙◌, inl, inr}
use Rattle.std.specs.Prelude.{◌⊎◌}
use Rattle.jr_text.specs.declared.spans.Span.{Span}
use Rattle.jr_ast.specs.Tree as tree
use Rattle.jr_grammar.specs.Layout.{itself}
use Rattle.jr_grammar.specs.Bare.{bare}
use Rattle.jr_grammar.specs.ExpressionLayout.{type_layout}
use Rattle.jr_grammar.specs.Stands.{Stands}
use Rattle.jr_table.specs.Keys.{ClassKey}
use Rattle.jr_table.specs.Decls.{Decl, class_decl}
use Rattle.jr_table.specs.Rows.{Row}
use Rattle.jr_table.specs.Found.{one}
use Rattle.jr_table.specs.Lookup.{FindsTypeNamed, FindsTypeOf}
use Rattle.jr_table.specs.Somewhere.{Somewhere}
use Rattle.jr_table.specs.Context.{Context, scope_of}
use Rattle.jr_table.specs.Binding.{Role, value, left, variable, TypeRefers, IsClassName, BindsItself}
use Rattle.jr_table.specs.Binding as role
use Rattle.jr_program_laws.specs.FileParts.{begins}
use Rattle.jr_rewrite.specs.Respellings.{by_cast, Choice, front_of}
use Rattle.jr_rewrite.specs.Rewritten.{Rewritten}
use Rattle.jr_rewrite.specs.Rewrites.{Choosing, RewritesExp, RewritesType}
use Rattle.jr_images.specs.Images.{Renaming, decl_to, rows_to}
use Rattle.jr_images.specs.Keeping.{IsKept, IsBoundTo}
use Rattle.jr_images.specs.Spelling.{spelling}
use Rattle.jr_moved_references.proofs.FoundTypes.{found_type, found_inner}
use Rattle.jr_moved_references.proofs.Carrying.{Carries}
use Rattle.jr_moved_references.proofs.BareReferences.{bound_bare}
use Rattle.jr_moved_references.proofs.Starting.{Own, Within}

-- how a rename spells
abbrev pub spelled : List Row → Renaming → (Context → ℕ) → Choosing Span
spelled rows g super_at = spelling begins rows g super_at

module _ (rows : List Row) (g : Renaming) (super_at : Context → ℕ) (c d : Context) where
  abbrev C : Choosing Span
  C = spelled rows g super_at

  pub record KeptAt : Type 0 where
    pub own : (r : Role) (b : ℕ) (e : tree.Exp Span) (o : Rewritten (tree.Exp Span)) → RewritesExp itself C c r b e o → o.losses ≡ [] → (i : ℕ) → IsKept begins begins g rows c d r b e i o.tree
    -- what names no class becomes nothing that does
    pub apart : (r : Role) (b : ℕ) (e : tree.Exp Span) (o : Rewritten (tree.Exp Span)) → RewritesExp itself C c r b e o → o.losses ≡ [] → ((k : ClassKey) → IsClassName rows c e k → ⊥) → (k : ClassKey) → IsClassName (rows_to g rows) d o.tree k → ⊥
    -- what is cast is no name of a class
    pub field_value : (r : Role) (b : ℕ) (m : Span) (e : tree.Exp Span) (w : tree.Word Span) (h : Choice) (name : List ℕ) → C.expression c r b (tree.field m e w) h → front_of h ≡ by_cast name → (k : ClassKey) → IsClassName rows c e k → ⊥
    pub call_value : (r : Role) (b : ℕ) (m : Span) (e : tree.Exp Span) (w : tree.Word Span) (args : tree.Exps Span) (h : Choice) (name : List ℕ) → C.expression c r b (tree.call m (tree.on e) w args) h → front_of h ≡ by_cast name → (k : ClassKey) → IsClassName rows c e k → ⊥

-- a reference that stands in front of a dot, where no class is named, is the same as a value
module _ (rows : List Row) (d : Context) (x : Decl) where
  own_value : (z : tree.Exp Span) (i : ℕ) → ((k : ClassKey) → IsClassName rows d z k → ⊥) → (at : ℕ) → Own rows d x left i z at → Own rows d x value i z at
  unfolding IsClassName
  own_value (tree.name m w) i not at (q, (here, (is, inl finds))) = (variable, (here, (refl, finds.0)))
  own_value (tree.name m w) i not at (q, (here, (is, inr finds))) = let k = found_type rows (scope_of d) w.text x finds.1 in absurd (not k.0 (inr (finds.0, subst (λ (y : Decl). FindsTypeNamed rows (scope_of d) w.text (one y)) k.1 finds.1)))
  own_value (tree.field m e w) i not at (q, (here, inl (o, named, is, inl finds))) = (variable, (here, (refl, inl (o, inl named, finds.0))))
  own_value (tree.field m e w) i not at (q, (here, inl (o, named, is, inr finds))) = let k = found_inner rows (scope_of d) o w.text x finds.1 in absurd (not k.0 (o, named, inr (finds.0, subst (λ (y : Decl). FindsTypeOf rows (scope_of d) o w.text (one y)) k.1 finds.1)))
  own_value (tree.field m e w) i not at (q, (here, inr (never, is, finds))) = (variable, (here, (refl, finds)))
  own_value (tree.number m n) i not at h = h
  own_value (tree.truth m n) i not at h = h
  own_value (tree.null m) i not at h = h
  own_value (tree.string m n) i not at h = h
  own_value (tree.this m) i not at h = h
  own_value (tree.super_field m w) i not at h = h
  own_value (tree.class_literal m t) i not at h = h
  own_value (tree.call m to w args) i not at h = h
  own_value (tree.super_call m w args) i not at h = h
  own_value (tree.create m t args) i not at h = h
  own_value (tree.paren m e) i not at h = h
  own_value (tree.cast m t e) i not at h = h
  own_value (tree.unary m o e) i not at h = h
  own_value (tree.bump m o e) i not at h = h
  own_value (tree.binary m o e f) i not at h = h
  own_value (tree.assign m e f) i not at h = h
  own_value (tree.compound m o e f) i not at h = h

  pub within_value : (z : tree.Exp Span) (i : ℕ) → ((k : ClassKey) → IsClassName rows d z k → ⊥) → (at : ℕ) → Within rows d x left i z at → Within rows d x value i z at
  unfolding Somewhere
  within_value (tree.number m n) i not at h = own_value (tree.number m n) i not at h
  within_value (tree.truth m n) i not at h = own_value (tree.truth m n) i not at h
  within_value (tree.null m) i not at h = own_value (tree.null m) i not at h
  within_value (tree.string m n) i not at h = own_value (tree.string m n) i not at h
  within_value (tree.this m) i not at h = own_value (tree.this m) i not at h
  within_value (tree.name m w) i not at h = own_value (tree.name m w) i not at h
  within_value (tree.super_field m w) i not at h = own_value (tree.super_field m w) i not at h
  within_value (tree.class_literal m t) i not at h = own_value (tree.class_literal m t) i not at h
  within_value (tree.field m e w) i not at h = elim h [ inl a ↦ inl (own_value (tree.field m e w) i not at a) | inr a ↦ inr a ]
  within_value (tree.call m to w args) i not at h = elim h [ inl a ↦ inl (own_value (tree.call m to w args) i not at a) | inr a ↦ inr a ]
  within_value (tree.super_call m w args) i not at h = elim h [ inl a ↦ inl (own_value (tree.super_call m w args) i not at a) | inr a ↦ inr a ]
  within_value (tree.create m t args) i not at h = elim h [ inl a ↦ inl (own_value (tree.create m t args) i not at a) | inr a ↦ inr a ]
  within_value (tree.paren m e) i not at h = elim h [ inl a ↦ inl (own_value (tree.paren m e) i not at a) | inr a ↦ inr a ]
  within_value (tree.cast m t e) i not at h = elim h [ inl a ↦ inl (own_value (tree.cast m t e) i not at a) | inr a ↦ inr a ]
  within_value (tree.unary m o e) i not at h = elim h [ inl a ↦ inl (own_value (tree.unary m o e) i not at a) | inr a ↦ inr a ]
  within_value (tree.bump m o e) i not at h = elim h [ inl a ↦ inl (own_value (tree.bump m o e) i not at a) | inr a ↦ inr a ]
  within_value (tree.binary m o e f) i not at h = elim h [ inl a ↦ inl (own_value (tree.binary m o e f) i not at a) | inr a ↦ inr a ]
  within_value (tree.assign m e f) i not at h = elim h [ inl a ↦ inl (own_value (tree.assign m e f) i not at a) | inr a ↦ inr a ]
  within_value (tree.compound m o e f) i not at h = elim h [ inl a ↦ inl (own_value (tree.compound m o e f) i not at a) | inr a ↦ inr a ]
