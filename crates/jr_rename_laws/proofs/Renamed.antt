-- The names that the renaming of a class gives.
use Rattle.std.proofs.Common.{◌≡◌, ℕ, List, None, Bool, true, false, refl, ap, ◌∙◌, inl}
use Rattle.std.specs.Prelude.{codes}
use Rattle.jr_text.specs.declared.spans.Span.{Span}
use Rattle.jr_ast.specs.Tree as tree
use Rattle.jr_table.specs.Keys.{ClassKey, FieldKey, MethodKey}
use Rattle.jr_table.specs.Decls.{LocalKey, Decl, class_decl, field_decl, method_decl, local_decl}
use Rattle.jr_table.specs.Rows.{Row}
use Rattle.jr_table.specs.Prelude.{top_key, object_key}
use Rattle.jr_table.specs.Resolving.{IsPreludeClass}
use Rattle.jr_table.specs.Found.{one}
use Rattle.jr_table.specs.Scope.{Scope}
use Rattle.jr_table.specs.Lookup.{FindsTypeNamed, FindsTypeOf}
use Rattle.jr_table.specs.Context.{Context}
use Rattle.jr_rewrite.specs.Respellings.{Choice, text_of}
use Rattle.jr_rewrite.specs.Rewritten.{Rewritten}
use Rattle.jr_rewrite.specs.Rewrites.{DeclaredOut}
use Rattle.jr_images.specs.Families.{AreRenamed}
use Rattle.jr_images.specs.Images.{Renaming, is_renamed, name_to, class_to, rows_to}
use Rattle.jr_images.specs.Spelling.{spelling}
use Rattle.jr_images.proofs.KeyImages.{keeps_name}
use Rattle.jr_images.proofs.Chosen.{renamed_text}
use Rattle.jr_rename_laws.proofs.Still.{any_among}

-- the declarations that keep their names
pub record Keeps (rows : List Row) (g : Renaming) : Type 0 where
  pub local : (k : LocalKey) → is_renamed g (local_decl k) ≡ false
  pub field : (k : FieldKey) → is_renamed g (field_decl k) ≡ false
  pub method : (k : MethodKey) → is_renamed g (method_decl k) ≡ false
  pub prelude : (name : List ℕ) → IsPreludeClass name → is_renamed g (class_decl (top_key name)) ≡ false
  -- no other class is found by the name of Object, and Object by no other name
  pub object_old : (s : Scope) (k : ClassKey) → FindsTypeNamed rows s (codes "Object") (one (class_decl k)) → k ≡ object_key
  pub object_named : (s : Scope) (name : List ℕ) → FindsTypeNamed (rows_to g rows) s name (one (class_decl object_key)) → name ≡ codes "Object"
  pub object_of : (s : Scope) (o : ClassKey) (name : List ℕ) → FindsTypeOf (rows_to g rows) s o name (one (class_decl object_key)) → ⊥

module _ (rows : List Row) (k : ClassKey) (g : Renaming) (are : AreRenamed rows (class_decl k) g.decls) where
  pub target : (d : Decl) → is_renamed g d ≡ true → d ≡ class_decl k
  target d e = (are d).0 (any_among d g.decls e)

  pub not_target : (d : Decl) → (d ≡ class_decl k → ⊥) → is_renamed g d ≡ false
  not_target d never = by (is_renamed g d) refl
    where
      by : (b : Bool) → is_renamed g d ≡ b → b ≡ false
      by true h = absurd (never (target d h))
      by false h = refl

module _ (rows : List Row) (g : Renaming) (keeps : Keeps rows g) where
  -- a class of the prelude
  pub prelude_stays : (name : List ℕ) → IsPreludeClass name → class_to g (top_key name) ≡ top_key name
  prelude_stays name is = λ i. record { outer = None; name = keeps_name g (class_decl (top_key name)) name (keeps.prelude name is) i }

  pub object_stays : class_to g object_key ≡ object_key
  object_stays = prelude_stays (codes "Object") (inl refl)

pub declared_text : {A : Type 0} (tells : A → ℕ → Span) (rows : List Row) (g : Renaming) (super_at : Context → ℕ) (d : Decl) (at : ℕ) (w : tree.Word A) (v : Rewritten (tree.Word A))
    → DeclaredOut tells (spelling (λ m b. (tells m b).from) rows g super_at) d at w v → v.tree.text ≡ name_to g d w.text
declared_text tells rows g super_at d at w v (h, is, out) = ap (λ (x : Rewritten (tree.Word _)). x.tree.text) out ∙ ap (λ (x : Choice). text_of x w.text) is ∙ renamed_text w.text (name_to g d w.text)
