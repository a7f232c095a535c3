-- What is known of the two programs at a member that is spared, and that lookups of other names go
-- over from the old one to the new one.
use Rattle.std.proofs.Common.{◌≡◌, ℕ, List, Some, Bool, sym, ap, subst, ◌∙◌}
use Rattle.std.specs.Prelude.{slice_get, option_map}
use Rattle.std.specs.List.{list_any}
use Rattle.std.proofs.lemmas.Option.{slice_get-map}
use Rattle.jr_ast.specs.declared.operators.ModWord.{ModWord}
use Rattle.jr_table.specs.Keys.{ClassKey, FieldKey, MethodKey, Ty}
use Rattle.jr_table.specs.Decls.{MemberKey, Decl, class_decl}
use Rattle.jr_table.specs.Rows.{Row}
use Rattle.jr_table.specs.Entries.{IsRowOf}
use Rattle.jr_table.specs.Conditions.{AreRows}
use Rattle.jr_table.specs.Found.{Found, one}
use Rattle.jr_table.specs.Scope.{Scope}
use Rattle.jr_table.specs.Lookup.{FindsVariable, FindsTypeNamed, FindsTypeOf, FindsFieldIn, FindsMethodNamed, FindsMethodOf, FindsCtorOf, find_variable, find_type_named, find_type_of, find_field_in, find_method_named, find_method_of, find_ctor_of}
use Rattle.jr_table.specs.LookupLaws.{Decided, KeysAreFound}
use Rattle.jr_table.specs.BindingLaws.{IsBound}
use Rattle.jr_table.specs.Context.{Context, IsSuperclass}
use Rattle.jr_mentions.specs.Apart.{IsOther, IsClean, IsCleanMember}
use Rattle.jr_mentions.specs.Alike.{IsCleanFound, LookAlike}
use Rattle.jr_images.specs.Images.{Renaming, class_to, field_to, method_to, decl_to, row_to, rows_to}
use Rattle.jr_images.specs.OneLocal.{HaveNoDots}
use Rattle.jr_images.proofs.KeyImages.{class_same}
use Rattle.jr_new_files.specs.Spared.{IsSpared}
use Rattle.jr_new_files.proofs.ImagesStay.{field_same, method_same}

pub record Known (A : Type 0) (rows : List Row) (g : Renaming) (names : List (List ℕ)) (k : MemberKey) : Type 0 where
  pub are : AreRows rows
  pub are_after : AreRows (rows_to g rows)
  pub keys : KeysAreFound rows
  pub keys_after : KeysAreFound (rows_to g rows)
  pub bound : (c : Context) → IsBound A rows c
  pub alike : LookAlike names rows (rows_to g rows)
  pub words : HaveNoDots rows
  pub spared : IsSpared g names k
  pub own : IsCleanMember names k

goes : (f h : Found) (P Q : Found → Type 0) → Decided f P → Decided h Q → f ≡ h → (x : Found) → P x → Q x
goes f h P Q exact exact_after same x p = (exact_after x).0 (sym same ∙ (exact x).1 p)

clean_one : (names : List (List ℕ)) (f : Found) (P : Found → Type 0) → Decided f P → IsCleanFound names f → (d : Decl) → P (one d) → IsClean names d
clean_one names f P exact clean d p = subst (IsCleanFound names) ((exact (one d)).1 p) clean

module _ {A : Type 0} (rows : List Row) (g : Renaming) (names : List (List ℕ)) (k : MemberKey) (known : Known A rows g names k) where
  abbrev pub after : List Row
  after = rows_to g rows

  -- ---- by names that are others

  module _ (s : Scope) (name : List ℕ) (other : IsOther names name) where
    pub variable_goes : (x : Found) → FindsVariable rows s name x → FindsVariable after s name x
    variable_goes = goes (find_variable rows s name) (find_variable after s name) (FindsVariable rows s name) (FindsVariable after s name) (known.keys.variable s name) (known.keys_after.variable s name) (known.alike.variable s name other).same

    pub variable_clean : (d : Decl) → FindsVariable rows s name (one d) → IsClean names d
    variable_clean = clean_one names (find_variable rows s name) (FindsVariable rows s name) (known.keys.variable s name) (known.alike.variable s name other).clean

    pub field_goes : (of : ClassKey) (x : Found) → FindsFieldIn rows s of name x → FindsFieldIn after s of name x
    field_goes of =
        goes (find_field_in rows s of name) (find_field_in after s of name) (FindsFieldIn rows s of name) (FindsFieldIn after s of name) (known.keys.field_in s of name) (known.keys_after.field_in s of name) (known.alike.field_in s of name other).same

    pub field_clean : (of : ClassKey) (d : Decl) → FindsFieldIn rows s of name (one d) → IsClean names d
    field_clean of = clean_one names (find_field_in rows s of name) (FindsFieldIn rows s of name) (known.keys.field_in s of name) (known.alike.field_in s of name other).clean

    pub call_goes : (ts : List Ty) (x : Found) → FindsMethodNamed rows s name ts x → FindsMethodNamed after s name ts x
    call_goes ts =
        goes (find_method_named rows s name ts) (find_method_named after s name ts) (FindsMethodNamed rows s name ts) (FindsMethodNamed after s name ts) (known.keys.method_named s name ts) (known.keys_after.method_named s name ts) (known.alike.method_named s name ts other).same

    pub call_clean : (ts : List Ty) (d : Decl) → FindsMethodNamed rows s name ts (one d) → IsClean names d
    call_clean ts = clean_one names (find_method_named rows s name ts) (FindsMethodNamed rows s name ts) (known.keys.method_named s name ts) (known.alike.method_named s name ts other).clean

    pub method_goes : (of : ClassKey) (ts : List Ty) (x : Found) → FindsMethodOf rows s of name ts x → FindsMethodOf after s of name ts x
    method_goes of ts =
        goes (find_method_of rows s of name ts) (find_method_of after s of name ts) (FindsMethodOf rows s of name ts) (FindsMethodOf after s of name ts) (known.keys.method_of s of name ts) (known.keys_after.method_of s of name ts) (known.alike.method_of s of name ts other).same

    pub method_clean : (of : ClassKey) (ts : List Ty) (d : Decl) → FindsMethodOf rows s of name ts (one d) → IsClean names d
    method_clean of ts = clean_one names (find_method_of rows s of name ts) (FindsMethodOf rows s of name ts) (known.keys.method_of s of name ts) (known.alike.method_of s of name ts other).clean

  -- ---- classes and constructors

  pub ctor_goes : (s : Scope) (of : ClassKey) (ts : List Ty) (x : Found) → FindsCtorOf rows s of ts x → FindsCtorOf after s of ts x
  ctor_goes s of ts = goes (find_ctor_of rows s of ts) (find_ctor_of after s of ts) (FindsCtorOf rows s of ts) (FindsCtorOf after s of ts) (known.keys.ctor_of s of ts) (known.keys_after.ctor_of s of ts) (known.alike.ctor_of s of ts).same

  pub type_goes : (s : Scope) (name : List ℕ) (x : Found) → FindsTypeNamed rows s name x → FindsTypeNamed after s name x
  type_goes s name = goes (find_type_named rows s name) (find_type_named after s name) (FindsTypeNamed rows s name) (FindsTypeNamed after s name) (known.keys.type_named s name) (known.keys_after.type_named s name) (known.alike.type_named s name)

  pub inner_goes : (s : Scope) (of : ClassKey) (name : List ℕ) (x : Found) → FindsTypeOf rows s of name x → FindsTypeOf after s of name x
  inner_goes s of name = goes (find_type_of rows s of name) (find_type_of after s of name) (FindsTypeOf rows s of name) (FindsTypeOf after s of name) (known.keys.type_of s of name) (known.keys_after.type_of s of name) (known.alike.type_of s of name)

  -- ---- rows

  abbrev pub row_goes : (d : Decl) (j : ℕ) → decl_to g d ≡ d → IsRowOf rows d j → IsRowOf after d j
  row_goes d j same i = record {
    row = row_to g i.row;
    stands = slice_get-map (row_to g) rows j ∙ ap (option_map (row_to g)) i.stands;
    declares = ap (decl_to g) i.declares ∙ same;
  }

  pub class_keeps : (q : ClassKey) → class_to g q ≡ q
  class_keeps = class_same g known.spared.class

  pub field_keeps : (q : FieldKey) → IsOther names q.name → field_to g q ≡ q
  field_keeps q clean = field_same g known.spared.class q (known.spared.field q clean)

  pub method_keeps : (q : MethodKey) → IsOther names q.name → method_to g q ≡ q
  method_keeps q clean = method_same g known.spared.class q (known.spared.method q clean)

  pub superclass_goes : (q p : ClassKey) → IsSuperclass rows q p → IsSuperclass after q p
  superclass_goes q p (j, i, parent) = (j, row_goes (class_decl q) j (ap class_decl (class_keeps q)) i, ap (option_map (class_to g)) parent ∙ ap (λ (x : ClassKey). Some x) (class_keeps p))

  inside : (a b : Row) → Some a ≡ Some b → a ≡ b
  inside a b e = cc

  -- a declaration that stays has the words that it had
  pub word_back : (d : Decl) → decl_to g d ≡ d → (j : ℕ) × IsRowOf rows d j → (test : ModWord → Bool) (b : Bool)
      → ((n : ℕ) × (i : IsRowOf after d n) × (list_any test i.row.modifiers ≡ b)) → (n : ℕ) × (i : IsRowOf rows d n) × (list_any test i.row.modifiers ≡ b)
  word_back d same (j, i) test b (n, x, word) =
      let image = row_goes d j same i in
      let at : n ≡ j = known.are_after.one_each d n j x image in
      let row : x.row ≡ image.row = inside x.row image.row (sym x.stands ∙ ap (slice_get after) at ∙ image.stands) in
      (j, i, ap (λ (r : Row). list_any test r.modifiers) (sym row) ∙ word)
