-- What a lookup finds is a declaration of its kind that has a row, and has the name by which it is
-- found.
use Rattle.std.proofs.Common.{◌≡◌, ℕ, List, [], ◌∷◌, Option, Some, None, map, refl, sym, ap, ◌∙◌, inl, inr}
use Rattle.std.specs.Prelude.{slice_get, option_map, ◌⊎◌}
use Rattle.std.proofs.lemmas.Option.{slice_get-map}
use Rattle.jr_table.specs.declared.answers.Answer.{Answer}
use Rattle.jr_table.specs.declared.answers.Answer.TheVariants as number
use Rattle.jr_table.specs.declared.entries.Entry.{Entry}
use Rattle.jr_table.specs.declared.entries.Kind.{Kind}
use Rattle.jr_table.specs.declared.entries.Sort.TheVariants as sort
use Rattle.jr_table.specs.Keys.{ClassKey, FieldKey, MethodKey, CtorKey, Ty}
use Rattle.jr_table.specs.Decls.{LocalKey, Decl, class_decl, field_decl, method_decl, constructor_decl, local_decl}
use Rattle.jr_table.specs.Rows.{Row}
use Rattle.jr_table.specs.Entries.{IsRowOf, class_number, kind_of, sort_of, name_of, top_class, entry_of, entries_of}
use Rattle.jr_table.specs.Found.{one, many, from_static}
use Rattle.jr_table.specs.Scope.{Scope, FindsLocal}
use Rattle.jr_table.specs.Members.{DeclaresField, DeclaresMethod, DeclaresType, MemberAmong, IsMemberField, IsMemberType}
use Rattle.jr_table.specs.Calls.{IsMethodCandidate, IsCtorCandidate, FindsMethod, FindsCall, FindsCtor}
use Rattle.jr_table.specs.Fields.{FindsField, FindsFieldOf, FindsMemberType}
use Rattle.jr_table.specs.TypeNames.{FindsType}
use Rattle.jr_table.specs.Lookup.{ByKeys, FindsVariable, FindsTypeNamed, FindsTypeOf, FindsFieldIn, FindsMethodNamed, FindsMethodOf, FindsCtorOf}

inside : {X : Type 0} (o : Option X) (a b : X) → o ≡ Some a → o ≡ Some b → a ≡ b
inside o a b h k = let e : Some a ≡ Some b = sym h ∙ k in cc

module _ (rows : List Row) where
  -- a row's entry is of its declaration
  entry_is : (d : Decl) (j : ℕ) (e : Entry) → (is : IsRowOf rows d j) → slice_get (entries_of rows) j ≡ Some e → e ≡ entry_of rows is.row
  unfolding entries_of
  entry_is d j e is at = inside (slice_get (entries_of rows) j) e (entry_of rows is.row) at (slice_get-map (entry_of rows) rows j ∙ ap (option_map (entry_of rows)) is.stands)

  sort_is : (d : Decl) (j : ℕ) (e : Entry) → IsRowOf rows d j → slice_get (entries_of rows) j ≡ Some e → sort_of d ≡ e.sort
  sort_is d j e is at = ap sort_of (sym is.declares) ∙ ap (λ (x : Entry). x.sort) (sym (entry_is d j e is at))

  name_is : (d : Decl) (j : ℕ) (e : Entry) → IsRowOf rows d j → slice_get (entries_of rows) j ≡ Some e → name_of d ≡ e.name
  name_is d j e is at = ap name_of (sym is.declares) ∙ ap (λ (x : Entry). x.name) (sym (entry_is d j e is at))

  among_has : (Own : ℕ → ℕ → Type 0) (cs : List ℕ) (j : ℕ) → MemberAmong (entries_of rows) Own cs j → (c : ℕ) × Own c j
  among_has Own [] j h = absurd h
  among_has Own (c ∷ cs) j (inl own) = (c, own)
  among_has Own (c ∷ cs) j (inr (none, more, shown)) = among_has Own cs j more

-- a declaration of a kind and a name
abbrev pub IsField : List ℕ → Decl → Type 0
IsField name d = (q : FieldKey) × (d ≡ field_decl q) × (q.name ≡ name)

abbrev pub IsMethod : List ℕ → Decl → Type 0
IsMethod name d = (q : MethodKey) × (d ≡ method_decl q) × (q.name ≡ name)

abbrev pub IsClass : List ℕ → Decl → Type 0
IsClass name d = (q : ClassKey) × (d ≡ class_decl q) × (q.name ≡ name)

abbrev pub IsCtor : Decl → Type 0
IsCtor d = (q : CtorKey) × (d ≡ constructor_decl q)

of_field : (name : List ℕ) (d : Decl) → sort_of d ≡ sort.Field → name_of d ≡ name → IsField name d
of_field name (field_decl k) e n = (k, refl, n)
of_field name (class_decl k) e n = absurd cc
of_field name (method_decl k) e n = absurd cc
of_field name (constructor_decl k) e n = absurd cc
of_field name (local_decl k) e n = absurd cc

of_class : (name : List ℕ) (d : Decl) → sort_of d ≡ sort.Class → name_of d ≡ name → IsClass name d
of_class name (class_decl k) e n = (k, refl, n)
of_class name (field_decl k) e n = absurd cc
of_class name (method_decl k) e n = absurd cc
of_class name (constructor_decl k) e n = absurd cc
of_class name (local_decl k) e n = absurd cc

of_method : (name : List ℕ) (d : Decl) → sort_of d ≡ sort.Method → name_of d ≡ name → IsMethod name d
of_method name (method_decl k) e n = (k, refl, n)
of_method name (class_decl k) e n = absurd cc
of_method name (field_decl k) e n = absurd cc
of_method name (constructor_decl k) e n = absurd cc
of_method name (local_decl k) e n = absurd cc

of_ctor : (d : Decl) → sort_of d ≡ sort.Ctor → IsCtor d
of_ctor (constructor_decl k) e = (k, refl)
of_ctor (class_decl k) e = absurd cc
of_ctor (field_decl k) e = absurd cc
of_ctor (method_decl k) e = absurd cc
of_ctor (local_decl k) e = absurd cc

module _ (rows : List Row) where
  member_field : (name : List ℕ) (c j : ℕ) (d : Decl) → IsMemberField (entries_of rows) name c j → IsRowOf rows d j → IsField name d
  member_field name c j d m is =
      let o = among_has rows (DeclaresField (entries_of rows) name) m.chain j m.among in
      of_field name d (sort_is rows d j o.1.row is o.1.stands ∙ o.1.field) (name_is rows d j o.1.row is o.1.stands ∙ o.1.named)

  member_type : (name : List ℕ) (c j : ℕ) (d : Decl) → IsMemberType (entries_of rows) name c j → IsRowOf rows d j → IsClass name d
  member_type name c j d m is =
      let o = among_has rows (DeclaresType (entries_of rows) name) m.chain j m.among in
      of_class name d (sort_is rows d j o.1.row is o.1.stands ∙ o.1.type) (name_is rows d j o.1.row is o.1.stands ∙ o.1.named)

  candidate : (name : List ℕ) (c : ℕ) (args : List Kind) (j : ℕ) (d : Decl) → IsMethodCandidate (entries_of rows) c name args j → IsRowOf rows d j → IsMethod name d
  candidate name c args j d m is =
      let o = among_has rows (DeclaresMethod (entries_of rows) name m.params) m.own.chain j m.own.among in
      of_method name d (sort_is rows d j o.1.row is o.1.stands ∙ o.1.method) (name_is rows d j o.1.row is o.1.stands ∙ o.1.named)

  candidate_ctor : (c : ℕ) (args : List Kind) (j : ℕ) (d : Decl) → IsCtorCandidate (entries_of rows) c args j → IsRowOf rows d j → IsCtor d
  candidate_ctor c args j d m is = of_ctor d (sort_is rows d j m.own.row is m.own.stands ∙ m.own.constructor)

  top_is : (name : List ℕ) (j : ℕ) (d : Decl) → IsRowOf rows (top_class name) j → IsRowOf rows d j → IsClass name d
  top_is name j d a b =
      let same : d ≡ top_class name = sym b.declares ∙ ap (λ (r : Row). r.decl) (inside (slice_get rows j) b.row a.row b.stands a.stands) ∙ a.declares in
      (record { outer = None; name = name }, same, refl)

  -- ---- what is found by keys

  -- what is found has a row
  pub has_row : (Finds : Answer → Type 0) (d : Decl) → ByKeys rows Finds (one d) → (j : ℕ) × IsRowOf rows d j
  has_row Finds d (number.One j, finds, shows) = (j, shows)
  has_row Finds d (number.Nothing, finds, shows) = absurd shows
  has_row Finds d (number.Many i j, finds, shows) = absurd shows
  has_row Finds d (number.NotAccessible j, finds, shows) = absurd shows
  has_row Finds d (number.FromStatic j, finds, shows) = absurd shows

  module _ (Finds : Answer → Type 0) (P : Decl → Type 0) (d : Decl) (found : (j : ℕ) → Finds (number.One j) → IsRowOf rows d j → P d) where
    by_row : ByKeys rows Finds (one d) → P d
    by_row (number.One j, finds, shows) = found j finds shows
    by_row (number.Nothing, finds, shows) = absurd shows
    by_row (number.Many i j, finds, shows) = absurd shows
    by_row (number.NotAccessible j, finds, shows) = absurd shows
    by_row (number.FromStatic j, finds, shows) = absurd shows

  one_inside : (d e : Decl) → one d ≡ one e → d ≡ e
  one_inside d e h = cc

  pub found_variable : (s : Scope) (name : List ℕ) (d : Decl) → FindsVariable rows s name (one d) → ((q : LocalKey) × (d ≡ local_decl q) × FindsLocal s.locals name q) ⊎ IsField name d
  found_variable s name d (inl (k, finds, is)) = inl (k, one_inside d (local_decl k) is, finds)
  found_variable s name d (inr (none, finds)) = inr (by_row (FindsField (entries_of rows) (class_number rows s.class) s.is_static name) (IsField name) d (λ j f is. member_field name f.0 j d f.2 is) finds)

  -- a field has a row
  pub variable_row : (s : Scope) (name : List ℕ) (q : FieldKey) → FindsVariable rows s name (one (field_decl q)) → (j : ℕ) × IsRowOf rows (field_decl q) j
  variable_row s name q (inl (k, finds, is)) = absurd cc
  variable_row s name q (inr (none, finds)) = has_row (FindsField (entries_of rows) (class_number rows s.class) s.is_static name) (field_decl q) finds

  pub found_field : (s : Scope) (of : ClassKey) (name : List ℕ) (d : Decl) → FindsFieldIn rows s of name (one d) → IsField name d
  found_field s of name d h =
      by_row (FindsFieldOf (entries_of rows) (class_number rows s.class) (class_number rows of) name) (IsField name) d (λ j f is. member_field name (class_number rows of) j d f.0 is) h

  pub found_type : (s : Scope) (name : List ℕ) (d : Decl) → FindsTypeNamed rows s name (one d) → IsClass name d
  found_type s name d h = by_row (FindsType rows (class_number rows s.class) name) (IsClass name) d by h
    where
      by : (j : ℕ) → FindsType rows (class_number rows s.class) name (number.One j) → IsRowOf rows d j → IsClass name d
      by j (inl (e, inner, member)) is = member_type name e j d member is
      by j (inr (none, top)) is = top_is name j d top is

  pub found_inner : (s : Scope) (of : ClassKey) (name : List ℕ) (d : Decl) → FindsTypeOf rows s of name (one d) → IsClass name d
  found_inner s of name d h =
      by_row (FindsMemberType (entries_of rows) (class_number rows s.class) (class_number rows of) name) (IsClass name) d (λ j f is. member_type name (class_number rows of) j d f.0 is) h

  pub found_method : (s : Scope) (of : ClassKey) (name : List ℕ) (ts : List Ty) (d : Decl) → FindsMethodOf rows s of name ts (one d) → IsMethod name d
  found_method s of name ts d h =
      by_row (FindsMethod (entries_of rows) (class_number rows s.class) (class_number rows of) name (map (kind_of rows) ts)) (IsMethod name) d
      (λ j f is. candidate name (class_number rows of) (map (kind_of rows) ts) j d f.best.own.0 is) h

  pub found_call : (s : Scope) (name : List ℕ) (ts : List Ty) (d : Decl) → FindsMethodNamed rows s name ts (one d) → IsMethod name d
  found_call s name ts d h =
      by_row (FindsCall (entries_of rows) (class_number rows s.class) s.is_static name (map (kind_of rows) ts)) (IsMethod name) d
      (λ j f is. candidate name f.0 (map (kind_of rows) ts) j d f.2.best.own.0 is) h

  pub found_ctor : (s : Scope) (of : ClassKey) (ts : List Ty) (d : Decl) → FindsCtorOf rows s of ts (one d) → IsCtor d
  found_ctor s of ts d h =
      by_row (FindsCtor (entries_of rows) (class_number rows s.class) (class_number rows of) (map (kind_of rows) ts)) IsCtor d
      (λ j f is. candidate_ctor (class_number rows of) (map (kind_of rows) ts) j d f.best.own.0 is) h

  pub type_named : (s : Scope) (name : List ℕ) (q : ClassKey) → FindsTypeNamed rows s name (one (class_decl q)) → q.name ≡ name
  type_named s name q h = let f = found_type s name (class_decl q) h in ap name_of f.1 ∙ f.2

  pub inner_named : (s : Scope) (of : ClassKey) (name : List ℕ) (q : ClassKey) → FindsTypeOf rows s of name (one (class_decl q)) → q.name ≡ name
  inner_named s of name q h = let f = found_inner s of name (class_decl q) h in ap name_of f.1 ∙ f.2

  pub type_row : (s : Scope) (name : List ℕ) (q : ClassKey) → FindsTypeNamed rows s name (one (class_decl q)) → (j : ℕ) × IsRowOf rows (class_decl q) j
  type_row s name q h = has_row (FindsType rows (class_number rows s.class) name) (class_decl q) h

  pub field_row : (s : Scope) (of : ClassKey) (name : List ℕ) (q : FieldKey) → FindsFieldIn rows s of name (one (field_decl q)) → (j : ℕ) × IsRowOf rows (field_decl q) j
  field_row s of name q h = has_row (FindsFieldOf (entries_of rows) (class_number rows s.class) (class_number rows of) name) (field_decl q) h

  pub method_row : (s : Scope) (of : ClassKey) (name : List ℕ) (ts : List Ty) (q : MethodKey) → FindsMethodOf rows s of name ts (one (method_decl q)) → (j : ℕ) × IsRowOf rows (method_decl q) j
  method_row s of name ts q h = has_row (FindsMethod (entries_of rows) (class_number rows s.class) (class_number rows of) name (map (kind_of rows) ts)) (method_decl q) h

  -- ---- what is never found

  pub many_named : (s : Scope) (name : List ℕ) (d e : Decl) → FindsTypeNamed rows s name (many d e) → ⊥
  many_named s name d e (number.Many i j, finds, shows) = absurd finds
  many_named s name d e (number.One j, finds, shows) = absurd shows
  many_named s name d e (number.Nothing, finds, shows) = absurd shows
  many_named s name d e (number.NotAccessible j, finds, shows) = absurd shows
  many_named s name d e (number.FromStatic j, finds, shows) = absurd shows

  pub static_named : (s : Scope) (name : List ℕ) (d : Decl) → FindsTypeNamed rows s name (from_static d) → ⊥
  static_named s name d (number.FromStatic j, finds, shows) = absurd finds
  static_named s name d (number.One j, finds, shows) = absurd shows
  static_named s name d (number.Nothing, finds, shows) = absurd shows
  static_named s name d (number.NotAccessible j, finds, shows) = absurd shows
  static_named s name d (number.Many i j, finds, shows) = absurd shows

  pub many_inner : (s : Scope) (of : ClassKey) (name : List ℕ) (d e : Decl) → FindsTypeOf rows s of name (many d e) → ⊥
  many_inner s of name d e (number.Many i j, finds, shows) = absurd finds
  many_inner s of name d e (number.One j, finds, shows) = absurd shows
  many_inner s of name d e (number.Nothing, finds, shows) = absurd shows
  many_inner s of name d e (number.NotAccessible j, finds, shows) = absurd shows
  many_inner s of name d e (number.FromStatic j, finds, shows) = absurd shows

  pub static_inner : (s : Scope) (of : ClassKey) (name : List ℕ) (d : Decl) → FindsTypeOf rows s of name (from_static d) → ⊥
  static_inner s of name d (number.FromStatic j, finds, shows) = absurd finds
  static_inner s of name d (number.One j, finds, shows) = absurd shows
  static_inner s of name d (number.Nothing, finds, shows) = absurd shows
  static_inner s of name d (number.NotAccessible j, finds, shows) = absurd shows
  static_inner s of name d (number.Many i j, finds, shows) = absurd shows

  pub static_ctor : (s : Scope) (of : ClassKey) (ts : List Ty) (d : Decl) → FindsCtorOf rows s of ts (from_static d) → ⊥
  static_ctor s of ts d (number.FromStatic j, finds, shows) = absurd finds
  static_ctor s of ts d (number.One j, finds, shows) = absurd shows
  static_ctor s of ts d (number.Nothing, finds, shows) = absurd shows
  static_ctor s of ts d (number.NotAccessible j, finds, shows) = absurd shows
  static_ctor s of ts d (number.Many i j, finds, shows) = absurd shows
