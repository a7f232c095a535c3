-- Classes are found by name as before where no class is renamed.
use Rattle.std.proofs.Common.{◌≡◌, ℕ, suc, List, [], ◌∷◌, Option, Some, None, refl, sym, ap, subst, ◌∙◌, inl, inr}
use Rattle.std.specs.Prelude.{option_map, option_and_then, unwrap_or, length, slice_get, if◌then◌else◌}
use Rattle.std.proofs.lemmas.Option.{slice_get-map}
use Rattle.jr_table.specs.declared.entries.Entry.{Entry}
use Rattle.jr_table.specs.declared.entries.Sort.TheVariants as sort
use Rattle.jr_table.specs.declared.answers.Answer.TheVariants as number
use Rattle.jr_table.specs.Keys.{ClassKey}
use Rattle.jr_table.specs.Decls.{MemberKey, head, field, method, constructor, Decl, class_decl, field_decl, method_decl, constructor_decl, local_decl}
use Rattle.jr_table.specs.SameDecls.{same_decl}
use Rattle.jr_table.specs.SameKeys.{same_class}
use Rattle.jr_table.specs.Rows.{Row}
use Rattle.jr_table.specs.Prelude.{top_key}
use Rattle.jr_table.specs.Entries.{IsRowOf, number_of, class_number, class_of_member, class_of, name_of, outer_name, top_class, sort_of, entry_of, entries_of}
use Rattle.jr_table.specs.Chains.{parent_of, outer_of, GoesUp, IsChain}
use Rattle.jr_table.specs.Members.{DeclaresType, IsPrivate, MemberAmong, IsMemberType}
use Rattle.jr_table.specs.Access.{IsTopAround, IsWithin, IsAccessible}
use Rattle.jr_table.specs.Innermost.{IsInnermost, NoneAround}
use Rattle.jr_table.specs.Found.{one}
use Rattle.jr_table.specs.Scope.{Scope}
use Rattle.jr_table.specs.TypeNames.{HasTypeNamed, FindsType}
use Rattle.jr_table.specs.Fields.{FindsMemberType}
use Rattle.jr_table.specs.Lookup.{ByKeys, FindsTypeNamed, FindsTypeOf}
use Rattle.jr_table.proofs.RowLaws.{entry_at}
use Rattle.jr_images.specs.Images.{Renaming, class_to, member_to, decl_to, row_to, rows_to}
use Rattle.jr_images.proofs.Imaging.{map_some}
use Rattle.jr_images.proofs.KeyImages.{sort_to, new_entry, at_new}
use Rattle.jr_rename_laws.proofs.Still.{IsStill, class_same}

-- ---- entries of which the classes have the same names and places

pub record EntryAlike (e f : Entry) : Type 0 where
  pub of_sort : f.sort ≡ e.sort
  pub class : f.class ≡ e.class
  pub outer : f.outer ≡ e.outer
  pub private : f.is_private ≡ e.is_private
  pub named : e.sort ≡ sort.Class → f.name ≡ e.name

pub record EntriesAlike (rs qs : List Entry) : Type 0 where
  pub parent : (c : ℕ) → parent_of qs c ≡ parent_of rs c
  pub outer : (c : ℕ) → outer_of qs c ≡ outer_of rs c
  pub there : (j : ℕ) (e : Entry) → slice_get rs j ≡ Some e → (f : Entry) × (slice_get qs j ≡ Some f) × EntryAlike e f

goes_up : (o : Option ℕ) (ds : List ℕ) (P Q : ℕ → Type 0) → ((p : ℕ) → P p → Q p) → GoesUp o ds P → GoesUp o ds Q
goes_up None ds P Q f h = h
goes_up (Some p) ds P Q f h = f p h

module _ (rs qs : List Entry) (a : EntriesAlike rs qs) where
  chain_goes : (c : ℕ) (ds : List ℕ) → IsChain rs c ds → IsChain qs c ds
  chain_goes c [] h = absurd h
  chain_goes c (d ∷ ds) (e, h) = (
    e,
    subst (λ (o : Option ℕ). GoesUp o ds (λ p. IsChain qs p ds)) (sym (a.parent c))
        (goes_up (parent_of rs c) ds (λ p. IsChain rs p ds) (λ p. IsChain qs p ds) (λ p x. chain_goes p ds x) h),
  )

  private_goes : (j : ℕ) → IsPrivate rs j → IsPrivate qs j
  private_goes j h = let f = a.there j h.row h.stands in record { row = f.0; stands = f.1; private = f.2.private ∙ h.private }

  declares_goes : (name : List ℕ) (c j : ℕ) → DeclaresType rs name c j → DeclaresType qs name c j
  declares_goes name c j h = let f = a.there j h.row h.stands in
      record { row = f.0; stands = f.1; type = f.2.of_sort ∙ h.type; outer = f.2.outer ∙ h.outer; named = f.2.named h.type ∙ h.named }

  top_goes : (c t : ℕ) → IsTopAround rs c t → IsTopAround qs c t
  top_goes c t (inl (none, is)) = inl (a.outer c ∙ none, is)
  top_goes c t (inr is) = inr (a.outer c ∙ is)

  within_goes : (place j : ℕ) → IsWithin rs place j → IsWithin qs place j
  within_goes place j h = let f = a.there j h.row h.stands in record {
    row = f.0;
    stands = f.1;
    top = h.top;
    around_row = subst (λ (c : ℕ). IsTopAround qs c h.top) (sym f.2.class) (top_goes h.row.class h.top h.around_row);
    around_place = top_goes place h.top h.around_place;
  }

module _ (rs qs : List Entry) (a : EntriesAlike rs qs) (b : EntriesAlike qs rs) where
  among_goes : (name : List ℕ) (ds : List ℕ) (j : ℕ) → MemberAmong rs (DeclaresType rs name) ds j → MemberAmong qs (DeclaresType qs name) ds j
  among_goes name [] j h = absurd h
  among_goes name (d ∷ ds) j (inl own) = inl (declares_goes rs qs a name d j own)
  among_goes name (d ∷ ds) j (inr (none, more, shown)) = inr (λ i x. none i (declares_goes qs rs b name d i x), among_goes name ds j more, λ x. shown (private_goes qs rs b j x))

  member_goes : (name : List ℕ) (c j : ℕ) → IsMemberType rs name c j → IsMemberType qs name c j
  member_goes name c j h = record { chain = h.chain; goes_up = chain_goes rs qs a c h.chain h.goes_up; among = among_goes name h.chain j h.among }

  has_goes : (name : List ℕ) (e : ℕ) → HasTypeNamed rs name e → HasTypeNamed qs name e
  has_goes name e (j, h) = (j, member_goes name e j h)

  accessible_goes : (place j : ℕ) → IsAccessible rs place j → IsAccessible qs place j
  accessible_goes place j h x = within_goes rs qs a place j (h (private_goes qs rs b j x))

module _ (rs qs : List Entry) (a : EntriesAlike rs qs) (b : EntriesAlike qs rs) where
  innermost_goes : (name : List ℕ) (c e : ℕ) → IsInnermost rs (HasTypeNamed rs name) c e → IsInnermost qs (HasTypeNamed qs name) c e
  innermost_goes name c e (inl (is, h)) = inl (is, has_goes rs qs a b name c h)
  innermost_goes name c e (inr (none, around, h)) = inr (λ x. none (has_goes qs rs b a name c x), a.outer c ∙ around, has_goes rs qs a b name e h)

  none_goes : (name : List ℕ) (c : ℕ) → NoneAround rs (HasTypeNamed rs name) c → NoneAround qs (HasTypeNamed qs name) c
  none_goes name c (none, around) = (λ x. none (has_goes qs rs b a name c x), λ e o x. around e (sym (a.outer c) ∙ o) (has_goes qs rs b a name e x))

-- ---- the entries of the two programs

module _ (g : Renaming) (still : IsStill g) where
  same_test : (d : Decl) (k : ClassKey) → same_decl (decl_to g d) (class_decl k) ≡ same_decl d (class_decl k)
  same_test (class_decl j) k = ap (λ (z : ClassKey). same_class z k) (class_same g still j)
  same_test (field_decl j) k = refl
  same_test (method_decl j) k = refl
  same_test (constructor_decl j) k = refl
  same_test (local_decl j) k = refl

  number_same : (rows : List Row) (k : ClassKey) → number_of (rows_to g rows) (class_decl k) ≡ number_of rows (class_decl k)
  unfolding number_of
  number_same [] k = refl
  number_same (r ∷ rows) k = λ i. if same_test r.decl k i then Some 0 else option_map suc (number_same rows k i)

  pub count_same : (rows : List Row) → length (rows_to g rows) ≡ length rows
  count_same [] = refl
  count_same (r ∷ rows) = ap suc (count_same rows)

  class_number_same : (rows : List Row) (k : ClassKey) → class_number (rows_to g rows) k ≡ class_number rows k
  class_number_same rows k = λ i. unwrap_or (number_same rows k i) (count_same rows i)

  of_member : (k : MemberKey) → class_of_member (member_to g k) ≡ class_of_member k
  of_member (head k) = class_same g still k
  of_member (field k) = class_same g still k.class
  of_member (method k) = class_same g still k.class
  of_member (constructor k) = class_same g still k.class

  pub of_same : (d : Decl) → class_of (decl_to g d) ≡ class_of d
  of_same (class_decl k) = class_same g still k
  of_same (field_decl k) = class_same g still k.class
  of_same (method_decl k) = class_same g still k.class
  of_same (constructor_decl k) = class_same g still k.class
  of_same (local_decl k) = of_member k.member

  pub outer_same : (d : Decl) → outer_name (decl_to g d) ≡ outer_name d
  outer_same (class_decl k) = ap (λ (z : ClassKey). z.outer) (class_same g still k)
  outer_same (field_decl k) = refl
  outer_same (method_decl k) = refl
  outer_same (constructor_decl k) = refl
  outer_same (local_decl k) = refl

  class_name : (d : Decl) → sort_of d ≡ sort.Class → name_of (decl_to g d) ≡ name_of d
  class_name (class_decl k) e = ap (λ (z : ClassKey). z.name) (class_same g still k)
  class_name (field_decl k) e = absurd cc
  class_name (method_decl k) e = absurd cc
  class_name (constructor_decl k) e = absurd cc
  class_name (local_decl k) e = absurd cc

  module _ (rows : List Row) where
    parent_number : (o : Option ClassKey) → option_and_then (λ (k : ClassKey). number_of (rows_to g rows) (class_decl k)) (option_map (class_to g) o) ≡ option_and_then (λ (k : ClassKey). number_of rows (class_decl k)) o
    parent_number None = refl
    parent_number (Some k) = ap (λ (j : ClassKey). number_of (rows_to g rows) (class_decl j)) (class_same g still k) ∙ number_same rows k

    outer_number : (o : Option (List ℕ)) → option_and_then (λ (name : List ℕ). number_of (rows_to g rows) (top_class name)) o ≡ option_and_then (λ (name : List ℕ). number_of rows (top_class name)) o
    outer_number None = refl
    outer_number (Some name) = number_same rows (top_key name)

    outer_entry : (r : Row) → (new_entry g rows r).outer ≡ (entry_of rows r).outer
    outer_entry r = ap (option_and_then (λ (name : List ℕ). number_of (rows_to g rows) (top_class name))) (outer_same r.decl) ∙ outer_number (outer_name r.decl)

    entry_alike : (r : Row) → EntryAlike (entry_of rows r) (new_entry g rows r)
    entry_alike r = record {
      of_sort = sort_to g r.decl;
      class = ap (class_number (rows_to g rows)) (of_same r.decl) ∙ class_number_same rows (class_of r.decl);
      outer = outer_entry r;
      private = refl;
      named = class_name r.decl;
    }

    alike_again : (e f : Entry) → EntryAlike e f → EntryAlike f e
    alike_again e f h = record { of_sort = sym h.of_sort; class = sym h.class; outer = sym h.outer; private = sym h.private; named = λ is. sym (h.named (sym h.of_sort ∙ is)) }

    parents : (o : Option Row) → option_and_then (λ (r : Entry). r.parent) (option_map (new_entry g rows) o) ≡ option_and_then (λ (r : Entry). r.parent) (option_map (entry_of rows) o)
    parents None = refl
    parents (Some r) = parent_number r.parent

    outers : (o : Option Row) → option_and_then (λ (r : Entry). r.outer) (option_map (new_entry g rows) o) ≡ option_and_then (λ (r : Entry). r.outer) (option_map (entry_of rows) o)
    outers None = refl
    outers (Some r) = outer_entry r

    pub parent_at : (c : ℕ) → parent_of (entries_of (rows_to g rows)) c ≡ parent_of (entries_of rows) c
    parent_at c = ap (option_and_then (λ (r : Entry). r.parent)) (at_new g rows c) ∙ parents (slice_get rows c) ∙ sym (ap (option_and_then (λ (r : Entry). r.parent)) (entry_at rows c))

    outer_at : (c : ℕ) → outer_of (entries_of (rows_to g rows)) c ≡ outer_of (entries_of rows) c
    outer_at c = ap (option_and_then (λ (r : Entry). r.outer)) (at_new g rows c) ∙ outers (slice_get rows c) ∙ sym (ap (option_and_then (λ (r : Entry). r.outer)) (entry_at rows c))

    forth : EntriesAlike (entries_of rows) (entries_of (rows_to g rows))
    forth = record {
      parent = parent_at;
      outer = outer_at;
      there = λ j e at.
          let r = map_some (entry_of rows) (slice_get rows j) e (sym (entry_at rows j) ∙ at) in
          (new_entry g rows r.0, at_new g rows j ∙ ap (option_map (new_entry g rows)) r.1, subst (λ (z : Entry). EntryAlike z (new_entry g rows r.0)) r.2 (entry_alike r.0));
    }

    back : EntriesAlike (entries_of (rows_to g rows)) (entries_of rows)
    back = record {
      parent = λ c. sym (parent_at c);
      outer = λ c. sym (outer_at c);
      there = λ j e at.
          let r = map_some (new_entry g rows) (slice_get rows j) e (sym (at_new g rows j) ∙ at) in
          (entry_of rows r.0, entry_at rows j ∙ ap (option_map (entry_of rows)) r.1, subst (λ (z : Entry). EntryAlike z (entry_of rows r.0)) r.2 (alike_again (entry_of rows r.0) (new_entry g rows r.0) (entry_alike r.0)));
    }

    pub class_row : (k : ClassKey) (j : ℕ) → IsRowOf rows (class_decl k) j → IsRowOf (rows_to g rows) (class_decl k) j
    class_row k j is = record {
      row = row_to g is.row;
      stands = slice_get-map (row_to g) rows j ∙ ap (option_map (row_to g)) is.stands;
      declares = ap (decl_to g) is.declares ∙ ap class_decl (class_same g still k);
    }

    abbrev NamedAt : ℕ → List ℕ → ClassKey → Type 0
    NamedAt c name k = ByKeys (rows_to g rows) (FindsType (rows_to g rows) c name) (one (class_decl k))

    abbrev MemberAt : ℕ → ℕ → List ℕ → ClassKey → Type 0
    MemberAt c o name k = ByKeys (rows_to g rows) (FindsMemberType (entries_of (rows_to g rows)) c o name) (one (class_decl k))

    named_there : (c : ℕ) (name : List ℕ) (k : ClassKey) → ByKeys rows (FindsType rows c name) (one (class_decl k)) → NamedAt c name k
    named_there c name k (number.One j, inl (e, inner, member), shows) =
        (number.One j, inl (e, innermost_goes (entries_of rows) (entries_of (rows_to g rows)) forth back name c e inner, member_goes (entries_of rows) (entries_of (rows_to g rows)) forth back name e j member), class_row k j shows)
    named_there c name k (number.One j, inr (none, is), shows) =
        (number.One j, inr (none_goes (entries_of rows) (entries_of (rows_to g rows)) forth back name c none, class_row (top_key name) j is), class_row k j shows)
    named_there c name k (number.Nothing, finds, shows) = absurd shows
    named_there c name k (number.Many i j, finds, shows) = absurd shows
    named_there c name k (number.NotAccessible j, finds, shows) = absurd shows
    named_there c name k (number.FromStatic j, finds, shows) = absurd shows

    pub named_goes : (s : Scope) (name : List ℕ) (k : ClassKey) → FindsTypeNamed rows s name (one (class_decl k)) → FindsTypeNamed (rows_to g rows) s name (one (class_decl k))
    named_goes s name k h = subst (λ (c : ℕ). NamedAt c name k) (sym (class_number_same rows s.class)) (named_there (class_number rows s.class) name k h)

    member_there : (c o : ℕ) (name : List ℕ) (k : ClassKey) → ByKeys rows (FindsMemberType (entries_of rows) c o name) (one (class_decl k)) → MemberAt c o name k
    member_there c o name k (number.One j, (member, open_to), shows) =
        (number.One j, (member_goes (entries_of rows) (entries_of (rows_to g rows)) forth back name o j member, accessible_goes (entries_of rows) (entries_of (rows_to g rows)) forth back c j open_to), class_row k j shows)
    member_there c o name k (number.Nothing, finds, shows) = absurd shows
    member_there c o name k (number.Many i j, finds, shows) = absurd shows
    member_there c o name k (number.NotAccessible j, finds, shows) = absurd shows
    member_there c o name k (number.FromStatic j, finds, shows) = absurd shows

    pub member_named_goes : (s : Scope) (o : ClassKey) (name : List ℕ) (k : ClassKey) → FindsTypeOf rows s o name (one (class_decl k)) → FindsTypeOf (rows_to g rows) s o name (one (class_decl k))
    member_named_goes s o name k h = subst (λ (c : ℕ). MemberAt c (class_number (rows_to g rows) o) name k) (sym (class_number_same rows s.class))
        (subst (λ (n : ℕ). MemberAt (class_number rows s.class) n name k) (sym (class_number_same rows o)) (member_there (class_number rows s.class) (class_number rows o) name k h))
