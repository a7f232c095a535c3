-- What a lookup finds is a declaration of its kind.
use Rattle.std.proofs.Common.{◌≡◌, ◌≢◌, ℕ, List, [], ◌∷◌, Option, Some, None, map, refl, sym, ap, subst, ◌∙◌, inl, inr}
use Rattle.std.specs.Prelude.{slice_get, ◌⊎◌}
use Rattle.jr_table.specs.declared.answers.Answer.{Answer}
use Rattle.jr_table.specs.declared.answers.Answer.TheVariants as number
use Rattle.jr_table.specs.declared.entries.Entry.{Entry}
use Rattle.jr_table.specs.declared.entries.Kind.{Kind}
use Rattle.jr_table.specs.declared.entries.Sort.{Sort}
use Rattle.jr_table.specs.declared.entries.Sort.TheVariants as sort
use Rattle.jr_table.specs.Keys.{ClassKey, FieldKey, MethodKey, CtorKey, Ty}
use Rattle.jr_table.specs.Decls.{LocalKey, Decl, class_decl, field_decl, method_decl, constructor_decl, local_decl}
use Rattle.jr_table.specs.Rows.{Row}
use Rattle.jr_table.specs.Entries.{IsRowOf, class_number, kind_of, sort_of, top_class, entry_of, entries_of}
use Rattle.jr_table.specs.Found.{Found, one, nothing}
use Rattle.jr_table.specs.Scope.{Scope, FindsLocal}
use Rattle.jr_table.specs.Members.{DeclaresField, DeclaresMethod, DeclaresType, MemberAmong, IsMemberField, IsMemberMethod, IsMemberType}
use Rattle.jr_table.specs.Calls.{DeclaresCtor, IsMethodCandidate, IsCtorCandidate, FindsMethod, FindsCall, FindsCtor}
use Rattle.jr_table.specs.Fields.{FindsField, FindsFieldOf, FindsMemberType}
use Rattle.jr_table.specs.TypeNames.{FindsType}
use Rattle.jr_table.specs.Lookup.{Shows, ByKeys, FindsVariable, FindsTypeNamed, FindsTypeOf, FindsFieldIn, FindsMethodNamed, FindsMethodOf, FindsCtorOf}
use Rattle.jr_table.proofs.RowLaws.{some_inside, entry_stands}

module _ (rows : List Row) where
  -- the sort of a row's entry is its declaration's
  sort_is : (d : Decl) (j : ℕ) (e : Entry) → IsRowOf rows d j → slice_get (entries_of rows) j ≡ Some e → e.sort ≡ sort_of d
  sort_is d j e is at =
      ap (λ (x : Entry). x.sort) (some_inside (slice_get (entries_of rows) j) e (entry_of rows is.row) at (entry_stands rows j is.row is.stands)) ∙ ap sort_of is.declares

  among_has : (Own : ℕ → ℕ → Type 0) (cs : List ℕ) (j : ℕ) → MemberAmong (entries_of rows) Own cs j → (c : ℕ) × Own c j
  among_has Own [] j h = absurd h
  among_has Own (c ∷ cs) j (inl own) = (c, own)
  among_has Own (c ∷ cs) j (inr (none, more, shown)) = among_has Own cs j more

  field_sort : (name : List ℕ) (c j : ℕ) (d : Decl) → IsMemberField (entries_of rows) name c j → IsRowOf rows d j → sort_of d ≡ sort.Field
  field_sort name c j d m is = let o = among_has (DeclaresField (entries_of rows) name) m.chain j m.among in sym (sort_is d j o.1.row is o.1.stands) ∙ o.1.field

  type_sort : (name : List ℕ) (c j : ℕ) (d : Decl) → IsMemberType (entries_of rows) name c j → IsRowOf rows d j → sort_of d ≡ sort.Class
  type_sort name c j d m is = let o = among_has (DeclaresType (entries_of rows) name) m.chain j m.among in sym (sort_is d j o.1.row is o.1.stands) ∙ o.1.type

  method_sort : (name : List ℕ) (params : List Kind) (c j : ℕ) (d : Decl) → IsMemberMethod (entries_of rows) name params c j → IsRowOf rows d j → sort_of d ≡ sort.Method
  method_sort name params c j d m is = let o = among_has (DeclaresMethod (entries_of rows) name params) m.chain j m.among in sym (sort_is d j o.1.row is o.1.stands) ∙ o.1.method

  candidate_sort : (name : List ℕ) (c : ℕ) (args : List Kind) (j : ℕ) (d : Decl) → IsMethodCandidate (entries_of rows) c name args j → IsRowOf rows d j → sort_of d ≡ sort.Method
  candidate_sort name c args j d m is = method_sort name m.params c j d m.own is

  ctor_sort : (c : ℕ) (args : List Kind) (j : ℕ) (d : Decl) → IsCtorCandidate (entries_of rows) c args j → IsRowOf rows d j → sort_of d ≡ sort.Ctor
  ctor_sort c args j d m is = sym (sort_is d j m.own.row is m.own.stands) ∙ m.own.constructor

-- a declaration of a sort
of_field : (d : Decl) → sort_of d ≡ sort.Field → (k : FieldKey) × (d ≡ field_decl k)
of_field (field_decl k) e = (k, refl)
of_field (class_decl k) e = absurd cc
of_field (method_decl k) e = absurd cc
of_field (constructor_decl k) e = absurd cc
of_field (local_decl k) e = absurd cc

of_class : (d : Decl) → sort_of d ≡ sort.Class → (k : ClassKey) × (d ≡ class_decl k)
of_class (class_decl k) e = (k, refl)
of_class (field_decl k) e = absurd cc
of_class (method_decl k) e = absurd cc
of_class (constructor_decl k) e = absurd cc
of_class (local_decl k) e = absurd cc

of_method : (d : Decl) → sort_of d ≡ sort.Method → (k : MethodKey) × (d ≡ method_decl k)
of_method (method_decl k) e = (k, refl)
of_method (class_decl k) e = absurd cc
of_method (field_decl k) e = absurd cc
of_method (constructor_decl k) e = absurd cc
of_method (local_decl k) e = absurd cc

of_ctor : (d : Decl) → sort_of d ≡ sort.Ctor → (k : CtorKey) × (d ≡ constructor_decl k)
of_ctor (constructor_decl k) e = (k, refl)
of_ctor (class_decl k) e = absurd cc
of_ctor (field_decl k) e = absurd cc
of_ctor (method_decl k) e = absurd cc
of_ctor (local_decl k) e = absurd cc

one_inside : (d e : Decl) → one d ≡ one e → d ≡ e
one_inside d e h = cc

module _ (rows : List Row) where
  own_field : (c : ℕ) (is_static : _) (name : List ℕ) (d : Decl) → ByKeys rows (FindsField (entries_of rows) c is_static name) (one d) → (k : FieldKey) × (d ≡ field_decl k)
  own_field c is_static name d (number.One j, finds, shows) = of_field d (field_sort rows name finds.0 j d finds.2 shows)
  own_field c is_static name d (number.Nothing, finds, shows) = absurd shows
  own_field c is_static name d (number.Many i j, finds, shows) = absurd shows
  own_field c is_static name d (number.NotAccessible j, finds, shows) = absurd shows
  own_field c is_static name d (number.FromStatic j, finds, shows) = absurd shows

  pub found_variable : (s : Scope) (name : List ℕ) (d : Decl) → FindsVariable rows s name (one d) → ((k : LocalKey) × (d ≡ local_decl k)) ⊎ ((k : FieldKey) × (d ≡ field_decl k))
  found_variable s name d (inl (k, finds, is)) = inl (k, one_inside d (local_decl k) is)
  found_variable s name d (inr (none, finds)) = inr (own_field (class_number rows s.class) s.is_static name d finds)

  pub found_field : (s : Scope) (of : ClassKey) (name : List ℕ) (d : Decl) → FindsFieldIn rows s of name (one d) → (k : FieldKey) × (d ≡ field_decl k)
  found_field s of name d (number.One j, finds, shows) = of_field d (field_sort rows name (class_number rows of) j d finds.0 shows)
  found_field s of name d (number.Nothing, finds, shows) = absurd shows
  found_field s of name d (number.Many i j, finds, shows) = absurd shows
  found_field s of name d (number.NotAccessible j, finds, shows) = absurd shows
  found_field s of name d (number.FromStatic j, finds, shows) = absurd shows

  same_row : (d e : Decl) (j : ℕ) → IsRowOf rows d j → IsRowOf rows e j → d ≡ e
  same_row d e j a b = sym a.declares ∙ ap (λ (r : Row). r.decl) (some_inside (slice_get rows j) a.row b.row a.stands b.stands) ∙ b.declares

  pub found_type : (s : Scope) (name : List ℕ) (d : Decl) → FindsTypeNamed rows s name (one d) → (k : ClassKey) × (d ≡ class_decl k)
  found_type s name d (number.One j, inl (e, inner, member), shows) = of_class d (type_sort rows name e j d member shows)
  found_type s name d (number.One j, inr (none, is), shows) = (record { outer = None; name = name }, same_row d (top_class name) j shows is)
  found_type s name d (number.Nothing, finds, shows) = absurd shows
  found_type s name d (number.Many i j, finds, shows) = absurd shows
  found_type s name d (number.NotAccessible j, finds, shows) = absurd shows
  found_type s name d (number.FromStatic j, finds, shows) = absurd shows

  pub found_inner : (s : Scope) (of : ClassKey) (name : List ℕ) (d : Decl) → FindsTypeOf rows s of name (one d) → (k : ClassKey) × (d ≡ class_decl k)
  found_inner s of name d (number.One j, finds, shows) = of_class d (type_sort rows name (class_number rows of) j d finds.0 shows)
  found_inner s of name d (number.Nothing, finds, shows) = absurd shows
  found_inner s of name d (number.Many i j, finds, shows) = absurd shows
  found_inner s of name d (number.NotAccessible j, finds, shows) = absurd shows
  found_inner s of name d (number.FromStatic j, finds, shows) = absurd shows

  pub found_method : (s : Scope) (of : ClassKey) (name : List ℕ) (ts : List Ty) (d : Decl) → FindsMethodOf rows s of name ts (one d) → (k : MethodKey) × (d ≡ method_decl k)
  found_method s of name ts d (number.One j, finds, shows) = of_method d (candidate_sort rows name (class_number rows of) (map (kind_of rows) ts) j d finds.best.own.0 shows)
  found_method s of name ts d (number.Nothing, finds, shows) = absurd shows
  found_method s of name ts d (number.Many i j, finds, shows) = absurd shows
  found_method s of name ts d (number.NotAccessible j, finds, shows) = absurd shows
  found_method s of name ts d (number.FromStatic j, finds, shows) = absurd shows

  pub found_call : (s : Scope) (name : List ℕ) (ts : List Ty) (d : Decl) → FindsMethodNamed rows s name ts (one d) → (k : MethodKey) × (d ≡ method_decl k)
  found_call s name ts d (number.One j, finds, shows) = of_method d (candidate_sort rows name finds.0 (map (kind_of rows) ts) j d finds.2.best.own.0 shows)
  found_call s name ts d (number.Nothing, finds, shows) = absurd shows
  found_call s name ts d (number.Many i j, finds, shows) = absurd shows
  found_call s name ts d (number.NotAccessible j, finds, shows) = absurd shows
  found_call s name ts d (number.FromStatic j, finds, shows) = absurd shows

  pub found_ctor : (s : Scope) (of : ClassKey) (ts : List Ty) (d : Decl) → FindsCtorOf rows s of ts (one d) → (k : CtorKey) × (d ≡ constructor_decl k)
  found_ctor s of ts d (number.One j, finds, shows) = of_ctor d (ctor_sort rows (class_number rows of) (map (kind_of rows) ts) j d finds.best.own.0 shows)
  found_ctor s of ts d (number.Nothing, finds, shows) = absurd shows
  found_ctor s of ts d (number.Many i j, finds, shows) = absurd shows
  found_ctor s of ts d (number.NotAccessible j, finds, shows) = absurd shows
  found_ctor s of ts d (number.FromStatic j, finds, shows) = absurd shows
