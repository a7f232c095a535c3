-- Fields and methods that have rows keep apart under a renaming that collides with nothing.
use Rattle.std.proofs.Common.{◌≡◌, List, Bool, true, false, refl, sym, ◌∙◌, inl}
use Rattle.jr_table.specs.Keys.{FieldKey, MethodKey}
use Rattle.jr_table.specs.Decls.{field_decl, method_decl}
use Rattle.jr_table.specs.Rows.{Row}
use Rattle.jr_images.specs.Images.{Renaming, is_renamed, name_to}
use Rattle.jr_images.proofs.KeyImages.{keeps_name}
use Rattle.jr_rename_laws.proofs.Still.{gets_name}
use Rattle.jr_rename_laws.proofs.DeclarationRows.{RowFor}
use Rattle.jr_rename_laws.proofs.FairImages.{KeysApart}
use Rattle.jr_rename_laws.proofs.MemberNames.{OfMembers}

-- where neither fields nor methods are renamed
pub unrenamed_apart : (g : Renaming) (rows : List Row) → ((k : FieldKey) → is_renamed g (field_decl k) ≡ false) → ((k : MethodKey) → is_renamed g (method_decl k) ≡ false) → KeysApart g rows
unrenamed_apart g rows fields methods = record {
  field = λ f h a b of e. sym (keeps_name g (field_decl f) f.name (fields f)) ∙ e ∙ keeps_name g (field_decl h) h.name (fields h);
  method = λ m n a b of types e. sym (keeps_name g (method_decl m) m.name (methods m)) ∙ e ∙ keeps_name g (method_decl n) n.name (methods n);
}

module _ (g : Renaming) (rows : List Row) (of : OfMembers g rows) where
  fields_apart : (f h : FieldKey) (a b : Bool) → is_renamed g (field_decl f) ≡ a → is_renamed g (field_decl h) ≡ b → RowFor rows (field_decl f) → RowFor rows (field_decl h) → f.class ≡ h.class
      → name_to g (field_decl f) f.name ≡ name_to g (field_decl h) h.name → f.name ≡ h.name
  fields_apart f h false false p q x y same e = sym (keeps_name g (field_decl f) f.name p) ∙ e ∙ keeps_name g (field_decl h) h.name q
  fields_apart f h true false p q x y same e =
      let named : h.name ≡ g.name = sym (keeps_name g (field_decl h) h.name q) ∙ sym e ∙ gets_name g (field_decl f) f.name p in
      absurd (of.clear_field f (field_decl h) p y (inl (λ n. field_decl (record { class = sym same n; name = named n }))))
  fields_apart f h false true p q x y same e =
      let named : f.name ≡ g.name = sym (keeps_name g (field_decl f) f.name p) ∙ e ∙ gets_name g (field_decl h) h.name q in
      absurd (of.clear_field h (field_decl f) q x (inl (λ n. field_decl (record { class = same n; name = named n }))))
  fields_apart f h true true p q x y same e = of.fields f h p q

  methods_apart : (f h : MethodKey) (a b : Bool) → is_renamed g (method_decl f) ≡ a → is_renamed g (method_decl h) ≡ b → RowFor rows (method_decl f) → RowFor rows (method_decl h) → f.class ≡ h.class → f.params ≡ h.params
      → name_to g (method_decl f) f.name ≡ name_to g (method_decl h) h.name → f.name ≡ h.name
  methods_apart f h false false p q x y same types e = sym (keeps_name g (method_decl f) f.name p) ∙ e ∙ keeps_name g (method_decl h) h.name q
  methods_apart f h true false p q x y same types e =
      let named : h.name ≡ g.name = sym (keeps_name g (method_decl h) h.name q) ∙ sym e ∙ gets_name g (method_decl f) f.name p in
      absurd (of.clear_method f (method_decl h) p y (inl (λ n. method_decl (record { class = sym same n; name = named n; params = sym types n }))))
  methods_apart f h false true p q x y same types e =
      let named : f.name ≡ g.name = sym (keeps_name g (method_decl f) f.name p) ∙ e ∙ gets_name g (method_decl h) h.name q in
      absurd (of.clear_method h (method_decl f) q x (inl (λ n. method_decl (record { class = same n; name = named n; params = types n }))))
  methods_apart f h true true p q x y same types e = of.methods f h p q

  pub members_apart : KeysApart g rows
  members_apart = record {
    field = λ f h x y same e. fields_apart f h (is_renamed g (field_decl f)) (is_renamed g (field_decl h)) refl refl x y same e;
    method = λ f h x y same types e. methods_apart f h (is_renamed g (method_decl f)) (is_renamed g (method_decl h)) refl refl x y same types e;
  }
