-- What is chosen on a value, by the type that it has now.
use Rattle.std.proofs.Common.{◌≡◌, ℕ, List, [], Some, None, true, refl}
use Rattle.std.specs.Prelude.{Option}
use Rattle.jr_table.specs.Keys.{FieldKey, MethodKey, Ty, int, boolean, void, null, class}
use Rattle.jr_table.specs.Decls.{Decl, field_decl, method_decl}
use Rattle.jr_table.specs.Rows.{Row}
use Rattle.jr_table.specs.Context.{Context}
use Rattle.jr_rewrite.specs.Respellings.{Choice}
use Rattle.jr_new_words.specs.Mappings.{Mapping}
use Rattle.jr_new_words.specs.Chosen.{ChoosesOf, FieldSpells, CallSpells}
use Rattle.jr_new_words.specs.Ways.{field_on_type, method_on_type, leads_to, SpellsBy}
use Rattle.jr_new_words.proofs.DeclKinds.{field_decls, method_decls}

-- another choice of the same declaration
pub chooses_along : {K : Type 0} (Finds : K → Type 0) (P Q : K → Choice → Type 0) → ((k : K) (h : Choice) → P k h → Q k h) → (o : Option Choice) → ChoosesOf Finds P o → ChoosesOf Finds Q o
chooses_along Finds P Q along (Some h) (k, finds, chosen) = (k, finds, along k h chosen)
chooses_along Finds P Q along None none = none

-- ---- fields

pub fields_on : (t : Ty) (d : Decl) → leads_to (field_on_type t) d ≡ true → (k : FieldKey) × (d ≡ field_decl k)
fields_on int d e = field_decls d e
fields_on boolean d e = field_decls d e
fields_on void d e = field_decls d e
fields_on null d e = field_decls d e
fields_on (class k) d e = field_decls d e

pub on_fields : (t : Ty) (k : FieldKey) → leads_to (field_on_type t) (field_decl k) ≡ true
on_fields int k = refl
on_fields boolean k = refl
on_fields void k = refl
on_fields null k = refl
on_fields (class c) k = refl

-- ---- methods

pub methods_on : (t : Ty) (d : Decl) → leads_to (method_on_type t) d ≡ true → (k : MethodKey) × (d ≡ method_decl k)
methods_on int d e = method_decls d e
methods_on boolean d e = method_decls d e
methods_on void d e = method_decls d e
methods_on null d e = method_decls d e
methods_on (class k) d e = method_decls d e

pub on_methods : (t : Ty) (k : MethodKey) → leads_to (method_on_type t) (method_decl k) ≡ true
on_methods int k = refl
on_methods boolean k = refl
on_methods void k = refl
on_methods null k = refl
on_methods (class c) k = refl

module _ (rows : List Row) (g : Mapping) (c : Context) (at : ℕ) (old : List ℕ) where
  pub field_spells : (t : Ty) (k : FieldKey) (h : Choice) → SpellsBy rows g c (field_on_type t) [] at old (field_decl k) h → FieldSpells rows g c at t old k h
  field_spells int k h x = x
  field_spells boolean k h x = x
  field_spells void k h x = x
  field_spells null k h x = x
  field_spells (class o) k h x = x

  pub call_spells : (t : Ty) (us : List Ty) (k : MethodKey) (h : Choice) → SpellsBy rows g c (method_on_type t) us at old (method_decl k) h → CallSpells rows g c at t old us k h
  call_spells int us k h x = x
  call_spells boolean us k h x = x
  call_spells void us k h x = x
  call_spells null us k h x = x
  call_spells (class o) us k h x = x
