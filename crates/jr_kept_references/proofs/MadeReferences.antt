-- A made reference is bound to what is stated of it, and a made type means its class.
use Rattle.std.proofs.Common.{◌≡◌, ℕ, List, [], ◌∷◌, Option, Some, None, refl, sym, subst}
use Rattle.std.specs.Prelude.{slice_get}
use Rattle.jr_ast.specs.Tree as tree
use Rattle.jr_table.specs.Keys.{ClassKey, class}
use Rattle.jr_table.specs.Decls.{Decl, class_decl, field_decl, method_decl, constructor_decl, local_decl}
use Rattle.jr_table.specs.Rows.{Row}
use Rattle.jr_table.specs.Conditions.{AreRows}
use Rattle.jr_table.specs.LookupLaws.{EachHasOne}
use Rattle.jr_table.specs.Context.{Context, scope_of, WritesType}
use Rattle.jr_table.specs.BindingLaws.{IsBound}
use Rattle.jr_spell.specs.declared.references.RefForm.TheVariants as ref
use Rattle.jr_spell.specs.declared.spellings.Form.{Form}
use Rattle.jr_spell.specs.declared.spellings.Form.TheVariants.{Asked, Class, OuterClass}
use Rattle.jr_spell.specs.Binds.{Binds, last_word}
use Rattle.jr_spell.specs.Rebound.{SpellingsRebind, ClassesRebind, AreFronts, IsTypeWords}
use Rattle.jr_rewrite.specs.Respellings.{Front, front_of}
use Rattle.jr_rewrite.specs.Rewritten.{word_to, variable_to, qualifier_to, new_word}
use Rattle.jr_images.specs.Spelling.{spelled, reference}
use Rattle.jr_images.proofs.Chosen.{outer_type_is}
use Rattle.jr_images.proofs.Dotted.{IsWhole, whole_front, whole_last}
use Rattle.jr_images.proofs.Forms.{with_name}
use Rattle.jr_images.proofs.Types.{class_forms}
use Rattle.jr_images.proofs.Rebound.{Stands, simple_local, simple_field, call_by_name}
use Rattle.jr_kept_references.specs.Made.{new_word_of, IsMade, IsMadeType}

module _ {A : Type 0} (begins : A → ℕ → ℕ) (rows : List Row) (are : AreRows rows) (one_each : EachHasOne rows) (d : Context) (exact : IsBound A rows d)
    (rebind : SpellingsRebind A) (fronts : AreFronts A rows d) (m : A) where
  -- it is bound to the declaration, has its type, and is the name of no class
  pub made_stands : (args : tree.Exps A) (x : Decl) (y : tree.Exp A) → IsMade rows d m args x y → Stands begins rows are one_each d exact rebind fronts x y
  made_stands args (local_decl k) y (name, finds, is) = subst (λ (z : tree.Exp A). Stands begins rows are one_each d exact rebind fronts (local_decl k) z) (sym is)
      (subst (λ (z : tree.Exp A). Stands begins rows are one_each d exact rebind fronts (local_decl k) z) (with_name (λ front w. variable_to m front None w) name name m)
      (simple_local begins rows are one_each d exact rebind fronts m m name k name finds))
  made_stands args (field_decl k) y (f, taken, is) = subst (λ (z : tree.Exp A). Stands begins rows are one_each d exact rebind fronts (field_decl k) z) (sym is)
      (simple_field begins rows are one_each d exact rebind fronts m m k.name k taken.place f taken.stands taken.binds)
  made_stands args (method_decl k) y (ts, types, f, taken, is) = subst (λ (z : tree.Exp A). Stands begins rows are one_each d exact rebind fronts (method_decl k) z) (sym is)
      (call_by_name begins rows are one_each d exact rebind fronts m m k.name k args ts types taken.place f taken.stands taken.binds)
  made_stands args (class_decl k) y h = absurd h
  made_stands args (constructor_decl k) y h = absurd h

module _ {A : Type 0} (rows : List Row) (d : Context) (classes : ClassesRebind A) (m : A) (k : ClassKey) (whole : IsWhole k.name) where
  abbrev TypeMade : Form → Type 0
  TypeMade f = Binds rows (scope_of d) (reference ref.ClassName k.name None []) (class_decl k) f
      → WritesType rows (scope_of d) (tree.named m (qualifier_to m (front_of (spelled k.name k.name k f)) None) (word_to (spelled k.name k.name k f) (new_word_of rows d m k.name))) (class k)

  asked_made : TypeMade Asked
  asked_made binds = subst (λ (u : tree.TypeName A). WritesType rows (scope_of d) u (class k)) (sym (with_name (λ front v. tree.named m (qualifier_to m front None) v) k.name k.name m))
      (classes rows d (reference ref.ClassName k.name None []) (class_decl k) Asked (tree.named m None (new_word_of rows d m k.name)) binds
      (subst (λ (o : Option (List ℕ)). IsTypeWords o (last_word k.name) (tree.named m None (new_word_of rows d m k.name))) (sym (whole_front k.name whole))
      (m, new_word_of rows d m k.name, sym (whole_last k.name whole), refl)))

  made_form : (place : ℕ) (f : Form) → slice_get (Asked ∷ Class ∷ OuterClass ∷ []) place ≡ Some f → TypeMade f
  made_form place f there = class_forms TypeMade asked_made
      (λ binds. classes rows d (reference ref.ClassName k.name None []) (class_decl k) Class (tree.named m None (new_word_of rows d m k.name)) binds (m, new_word_of rows d m k.name, refl, refl))
      (λ binds. subst (λ (front : Front). WritesType rows (scope_of d) (tree.named m (qualifier_to m front None) (new_word_of rows d m k.name)) (class k))
      (sym (outer_type_is k.outer k.name binds.0 binds.1))
      (classes rows d (reference ref.ClassName k.name None []) (class_decl k) OuterClass (tree.named m (Some (new_word m binds.0)) (new_word_of rows d m k.name)) binds
      (binds.0, binds.1, (m, new_word m binds.0, new_word_of rows d m k.name, refl, refl, refl))))
      place f there

  pub made_type : (u : tree.TypeName A) → IsMadeType rows d m k u → WritesType rows (scope_of d) u (class k)
  made_type u (f, taken, is) = subst (λ (v : tree.TypeName A). WritesType rows (scope_of d) v (class k)) (sym is) (made_form taken.place f taken.stands taken.binds)
