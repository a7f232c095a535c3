-- A field that is found by one number in both programs, and has one name in both, stays.
use Rattle.std.proofs.Common.{◌≡◌, ℕ, List, [], Some, None, Bool, true, false, cond, not, refl, sym, ap, subst, ◌∙◌, arith, inl}
use Rattle.std.specs.Prelude.{Option, length, option_map, slice_get}
use Rattle.std.specs.List.{list_any, position_or_len, before_first, after_first}
use Rattle.std.proofs.lemmas.Bool.{le-ltb}
use Rattle.std.proofs.lemmas.Option.{slice_get-map}
use Rattle.jr_table.specs.declared.answers.Answer.{Answer}
use Rattle.jr_table.specs.declared.answers.Answer.TheVariants as number
use Rattle.jr_table.specs.Keys.{ClassKey, FieldKey, MethodKey, CtorKey, Ty}
use Rattle.jr_table.specs.Decls.{LocalKey, Decl, class_decl, field_decl, method_decl, constructor_decl, local_decl}
use Rattle.jr_table.specs.Rows.{Row}
use Rattle.jr_table.specs.Conditions.{AreRows}
use Rattle.jr_table.specs.Entries.{IsRowOf, entry_of, entries_of, is_static_word}
use Rattle.jr_table.specs.Access.{is_instance_entry, is_instance_at}
use Rattle.jr_table.specs.Found.{Found, one}
use Rattle.jr_table.specs.Scope.{Scope}
use Rattle.jr_table.specs.Lookup.{FindsFieldIn, FindsTypeNamed, FindsMethodNamed, FindsMethodOf, FindsCtorOf, shown, shown_one, decl_at}
use Rattle.jr_table.specs.LookupLaws.{Decided}
use Rattle.jr_table.specs.Context.{scope_of, NamesClass, IsStaticDecl, IsInstanceDecl}
use Rattle.jr_spell.specs.declared.spellings.Form.TheVariants.{Asked}
use Rattle.jr_spell.specs.Binds.{ThroughClass, is_dot, has_dot, front_word, last_word}
use Rattle.jr_spell.specs.Taken.{IsTaken}
use Rattle.jr_rewrite.specs.Respellings.{stays}
use Rattle.jr_images.specs.Words.{InFront, class_name, FindsBehind}
use Rattle.jr_new_words.specs.Mappings.{KeyMapping, Mapping, decl_by, numbered_key, name_to, decl_to}
use Rattle.jr_new_words.specs.declared.scopes.Scopes as raw
use Rattle.jr_new_words.specs.Scopes.{rows_of, mapping_of, rows_to, context_of, place_to, IsKept}
use Rattle.jr_new_words.specs.Ways.{Way, local, own_field, field_on, field_through, field_on_none, field_above, method_named, method_on, method_through, method_on_none, method_above, ctor_of, ctor_above, type_named, type_behind, is_class, is_field, is_method, is_ctor, leads_to, name_in, reference_by, Finds, OfDecl, SpellsTo, Gone, IsChosenBy}
use Rattle.jr_new_words.specs.StayingBy.{FindsAt, FindsBy, IsField, IsMethod, IsClass, IsCtor, Serves, StaysBy}
use Rattle.jr_new_words.proofs.Kept.{moved, moved_old}
use Rattle.jr_new_words.proofs.OneEach.{bare_finds}
use Rattle.jr_new_words.proofs.Unchanged.{stays_so}

-- ---- the row that is found

module _ (rows : List Row) where
  one_is : (j : ℕ) (d : Decl) → decl_at rows j ≡ Some d → shown rows (number.One j) ≡ one d
  unfolding shown
  one_is j d at = ap (shown_one one) at

  pub finds_at : (find : Found) (Finds : Found → Type 0) → Decided find Finds → (a : Answer) → find ≡ shown rows a → (j : ℕ) → a ≡ number.One j → FindsAt rows Finds j
  finds_at find Finds exact a is j one_row = λ d at. (exact (one d)).0 (is ∙ ap (shown rows) one_row ∙ one_is j d at)

-- ---- static and instance members

pub not_true : (b : Bool) → not b ≡ true → b ≡ false
not_true false e = refl
not_true true e = absurd cc

module _ (rows : List Row) (j : ℕ) (d : Decl) where
  row_by : (o : Option Row) → slice_get rows j ≡ o → option_map (λ (r : Row). r.decl) o ≡ Some d → IsRowOf rows d j
  row_by None is e = absurd cc
  row_by (Some r) is e = let same : r.decl ≡ d = cc in record { row = r; stands = is; declares = same }

  instance_is : (i : IsRowOf rows d j) → is_instance_at (entries_of rows) j ≡ not (list_any is_static_word i.row.modifiers)
  unfolding entries_of
  instance_is i = ap is_instance_entry (slice_get-map (entry_of rows) rows j ∙ ap (option_map (entry_of rows)) i.stands)

  same_row : AreRows rows → (i : IsRowOf rows d j) (k : ℕ) (o : IsRowOf rows d k) → o.row ≡ i.row
  same_row are i k o =
      let n = are.one_each d k j o i in
      let e : Some o.row ≡ Some i.row = sym o.stands ∙ ap (slice_get rows) n ∙ i.stands in
      cc

  word_is : AreRows rows → (i : IsRowOf rows d j) (w : Bool) → ((k : ℕ) × (o : IsRowOf rows d k) × (list_any is_static_word o.row.modifiers ≡ w)) → list_any is_static_word i.row.modifiers ≡ w
  word_is are i w (k, o, word) = ap (λ (r : Row). list_any is_static_word r.modifiers) (sym (same_row are i k o)) ∙ word

  pub no_static : AreRows rows → is_instance_at (entries_of rows) j ≡ true → decl_at rows j ≡ Some d → IsStaticDecl rows d → ⊥
  no_static are is at s =
      let i = row_by (slice_get rows j) refl at in
      let no : true ≡ false = sym is ∙ instance_is i ∙ ap not (word_is are i true s) in
      cc

  pub no_instance : AreRows rows → is_instance_at (entries_of rows) j ≡ false → decl_at rows j ≡ Some d → IsInstanceDecl rows d → ⊥
  no_instance are is at s =
      let i = row_by (slice_get rows j) refl at in
      let no : false ≡ true = sym is ∙ instance_is i ∙ ap not (word_is are i false s) in
      cc

-- ---- the declaration whose image it is

module _ (x : KeyMapping) (name : List ℕ) where
  old_field : (e : Decl) → IsField name (decl_by x e) → is_field e ≡ true
  old_field (field_decl k) h = refl
  old_field (class_decl k) (f, is, named) = absurd cc
  old_field (method_decl k) (f, is, named) = absurd cc
  old_field (constructor_decl k) (f, is, named) = absurd cc
  old_field (local_decl k) (f, is, named) = absurd cc

  old_method : (e : Decl) → IsMethod name (decl_by x e) → is_method e ≡ true
  old_method (method_decl k) h = refl
  old_method (class_decl k) (f, is, named) = absurd cc
  old_method (field_decl k) (f, is, named) = absurd cc
  old_method (constructor_decl k) (f, is, named) = absurd cc
  old_method (local_decl k) (f, is, named) = absurd cc

  old_class : (e : Decl) → IsClass name (decl_by x e) → is_class e ≡ true
  old_class (class_decl k) h = refl
  old_class (method_decl k) (f, is, named, word) = absurd cc
  old_class (field_decl k) (f, is, named, word) = absurd cc
  old_class (constructor_decl k) (f, is, named, word) = absurd cc
  old_class (local_decl k) (f, is, named, word) = absurd cc

  old_ctor : (e : Decl) → IsCtor name (decl_by x e) → is_ctor e ≡ true
  old_ctor (constructor_decl k) h = refl
  old_ctor (class_decl k) (f, is, named) = absurd cc
  old_ctor (method_decl k) (f, is, named) = absurd cc
  old_ctor (field_decl k) (f, is, named) = absurd cc
  old_ctor (local_decl k) (f, is, named) = absurd cc

  leads : (rows : List Row) (e : Decl) (w : Way) → Serves rows w name (decl_by x e) → leads_to w e ≡ true
  leads rows e local h = absurd h
  leads rows e own_field h = absurd h
  leads rows e (field_on c) h = old_field e h.0
  leads rows e (field_through w c) h = old_field e h.1
  leads rows e (field_on_none t) h = absurd h
  leads rows e field_above h = absurd h
  leads rows e method_named h = old_method e h
  leads rows e (method_on c) h = old_method e h.0
  leads rows e (method_through w c) h = old_method e h.1
  leads rows e (method_on_none t) h = absurd h
  leads rows e method_above h = absurd h
  leads rows e (ctor_of c) h = old_ctor e h
  leads rows e ctor_above h = absurd h
  leads rows e type_named h = old_class e h
  leads rows e (type_behind outer) h = absurd h

-- ---- the asked spelling binds

-- a name of one word
whole : (text : List ℕ) → position_or_len is_dot text ≡ length text → has_dot text ≡ false
whole text none = le-ltb (position_or_len is_dot text) (length text) (omega (arith, none))

module _ (rows : List Row) (s : Scope) (name : List ℕ) (ts : List Ty) where
  field_value : (c : ClassKey) (k : FieldKey) → k.name ≡ name → FindsFieldIn rows s c name (one (field_decl k)) → (IsStaticDecl rows (field_decl k) → ⊥) → IsTaken rows s (reference_by (field_on c) k.name ts) (field_decl k) Asked
  field_value c k named f h = record {
    place = 0;
    stands = refl;
    binds = (c, refl, record { finds = subst (λ n. FindsFieldIn rows s c n (one (field_decl k))) (sym named) f; instance = h });
    first = λ i g below at b. omega arith;
  }

  field_class : (c : ClassKey) (k : FieldKey) → k.name ≡ name → FindsFieldIn rows s c name (one (field_decl k)) → (IsInstanceDecl rows (field_decl k) → ⊥)
      → IsTaken rows s (reference_by (field_through (class_name c) c) k.name ts) (field_decl k) Asked
  field_class c k named f h =
      let member : ThroughClass rows s ts c (field_decl k) = record { finds = subst (λ n. FindsFieldIn rows s c n (one (field_decl k))) (sym named) f; static = h } in
      record {
        place = 0;
        stands = refl;
        binds = (c, refl, member, (c, refl, member));
        first = λ i g below at b. omega arith;
      }

  method_simple : (k : MethodKey) → k.name ≡ name → FindsMethodNamed rows s name ts (one (method_decl k)) → IsTaken rows s (reference_by method_named k.name ts) (method_decl k) Asked
  method_simple k named f = record {
    place = 0;
    stands = refl;
    binds = subst (λ n. FindsMethodNamed rows s n ts (one (method_decl k))) (sym named) f;
    first = λ i g below at b. omega arith;
  }

  method_value : (c : ClassKey) (k : MethodKey) → k.name ≡ name → FindsMethodOf rows s c name ts (one (method_decl k)) → (IsStaticDecl rows (method_decl k) → ⊥) → IsTaken rows s (reference_by (method_on c) k.name ts) (method_decl k) Asked
  method_value c k named f h = record {
    place = 0;
    stands = refl;
    binds = (c, refl, record { finds = subst (λ n. FindsMethodOf rows s c n ts (one (method_decl k))) (sym named) f; instance = h });
    first = λ i g below at b. omega arith;
  }

  method_class : (c : ClassKey) (k : MethodKey) → k.name ≡ name → FindsMethodOf rows s c name ts (one (method_decl k)) → (IsInstanceDecl rows (method_decl k) → ⊥)
      → IsTaken rows s (reference_by (method_through (class_name c) c) k.name ts) (method_decl k) Asked
  method_class c k named f h =
      let member : ThroughClass rows s ts c (method_decl k) = record { finds = subst (λ n. FindsMethodOf rows s c n ts (one (method_decl k))) (sym named) f; static = h } in
      record {
        place = 0;
        stands = refl;
        binds = (c, refl, member, (c, refl, member));
        first = λ i g below at b. omega arith;
      }

  ctor : (c : ClassKey) (k : CtorKey) → FindsCtorOf rows s c ts (one (constructor_decl k)) → IsTaken rows s (reference_by (ctor_of c) [] ts) (constructor_decl k) Asked
  ctor c k f = record { place = 0; stands = refl; binds = f; first = λ i g below at b. omega arith }

  type : (k : ClassKey) → k.name ≡ name → position_or_len is_dot name ≡ length name → FindsTypeNamed rows s name (one (class_decl k)) → IsTaken rows s (reference_by type_named k.name ts) (class_decl k) Asked
  type k named word f =
      let no_dot = ap has_dot named ∙ whole name word in
      let front : front_word k.name ≡ None = ap (λ b. cond b (Some (before_first is_dot k.name)) None) no_dot in
      let last : last_word k.name ≡ name = ap (λ b. cond b (after_first is_dot k.name) k.name) no_dot ∙ named in
      record {
        place = 0;
        stands = refl;
        binds = subst (λ (o : Option (List ℕ)). NamesClass rows s o (last_word k.name) k) (sym front) (subst (λ (n : List ℕ). NamesClass rows s None n k) (sym last) f);
        first = λ i g below at b. omega arith;
      }

  module _ (d : Decl) (x : List ℕ) where
    abbrev IsTakenBy : Way → Decl → Type 0
    IsTakenBy w e = IsTaken rows s (reference_by w (name_in e x) ts) e Asked

    taken : (w : Way) → Serves rows w name d → Finds rows s w name ts (one d) → IsTakenBy w d
    taken local h f = absurd h
    taken own_field h f = absurd h
    taken (field_on c) ((k, is, named), rest) f =
        subst (IsTakenBy (field_on c)) (sym is) (field_value c k named (subst (λ e. FindsFieldIn rows s c name (one e)) is f) (subst (λ e. IsStaticDecl rows e → ⊥) is rest))
    taken (field_through w c) (front, (k, is, named), rest) f =
        let found : FindsFieldIn rows s c name (one d) = subst (λ (v : InFront). FindsBehind v (λ o. FindsFieldIn rows s o name) (one d)) front f in
        subst (λ (v : InFront). IsTakenBy (field_through v c) d) (sym front)
        (subst (IsTakenBy (field_through (class_name c) c)) (sym is) (field_class c k named (subst (λ e. FindsFieldIn rows s c name (one e)) is found) (subst (λ e. IsInstanceDecl rows e → ⊥) is rest)))
    taken (field_on_none t) h f = absurd h
    taken field_above h f = absurd h
    taken method_named (k, is, named) f = subst (IsTakenBy method_named) (sym is) (method_simple k named (subst (λ e. FindsMethodNamed rows s name ts (one e)) is f))
    taken (method_on c) ((k, is, named), rest) f =
        subst (IsTakenBy (method_on c)) (sym is) (method_value c k named (subst (λ e. FindsMethodOf rows s c name ts (one e)) is f) (subst (λ e. IsStaticDecl rows e → ⊥) is rest))
    taken (method_through w c) (front, (k, is, named), rest) f =
        let found : FindsMethodOf rows s c name ts (one d) = subst (λ (v : InFront). FindsBehind v (λ o. FindsMethodOf rows s o name ts) (one d)) front f in
        subst (λ (v : InFront). IsTakenBy (method_through v c) d) (sym front)
        (subst (IsTakenBy (method_through (class_name c) c)) (sym is) (method_class c k named (subst (λ e. FindsMethodOf rows s c name ts (one e)) is found) (subst (λ e. IsInstanceDecl rows e → ⊥) is rest)))
    taken (method_on_none t) h f = absurd h
    taken method_above h f = absurd h
    taken (ctor_of c) (k, is, none) f = subst (IsTakenBy (ctor_of c)) (sym is) (ctor c k (subst (λ e. FindsCtorOf rows s c ts (one e)) is f))
    taken ctor_above h f = absurd h
    taken type_named (k, is, named, word) f = subst (IsTakenBy type_named) (sym is) (type k named word (subst (λ e. FindsTypeNamed rows s name (one e)) is f))
    taken (type_behind outer) h f = absurd h

    named_so : (w : Way) → Serves rows w name d → name_in d x ≡ name
    named_so local h = absurd h
    named_so own_field h = absurd h
    named_so (field_on c) ((k, is, named), rest) = ap (λ e. name_in e x) is ∙ named
    named_so (field_through w c) (leading, (k, is, named), rest) = ap (λ e. name_in e x) is ∙ named
    named_so (field_on_none t) h = absurd h
    named_so field_above h = absurd h
    named_so method_named (k, is, named) = ap (λ e. name_in e x) is ∙ named
    named_so (method_on c) ((k, is, named), rest) = ap (λ e. name_in e x) is ∙ named
    named_so (method_through w c) (leading, (k, is, named), rest) = ap (λ e. name_in e x) is ∙ named
    named_so (method_on_none t) h = absurd h
    named_so method_above h = absurd h
    named_so (ctor_of c) (k, is, none) = ap (λ e. name_in e x) is ∙ sym none
    named_so ctor_above h = absurd h
    named_so type_named (k, is, named, word) = ap (λ e. name_in e x) is ∙ named
    named_so (type_behind outer) h = absurd h

-- no local is asked so
no_local : (rows : List Row) (w : Way) (name : List ℕ) (k : LocalKey) → Serves rows w name (local_decl k) → ⊥
no_local rows local name k h = h
no_local rows own_field name k h = h
no_local rows (field_on c) name k ((f, is, named), rest) = cc
no_local rows (field_through w c) name k (front, (f, is, named), rest) = cc
no_local rows (field_on_none t) name k h = h
no_local rows field_above name k h = h
no_local rows method_named name k (f, is, named) = cc
no_local rows (method_on c) name k ((f, is, named), rest) = cc
no_local rows (method_through w c) name k (front, (f, is, named), rest) = cc
no_local rows (method_on_none t) name k h = h
no_local rows method_above name k h = h
no_local rows (ctor_of c) name k (f, is, none) = cc
no_local rows ctor_above name k h = h
no_local rows type_named name k (f, is, named, word) = cc
no_local rows (type_behind outer) name k h = h

-- so that none is gone
kept_decl : (rows : List Row) (g : Mapping) (w : Way) (name : List ℕ) (e : Decl) → Serves rows w name (decl_by g.keys e) → decl_to g e ≡ Some (decl_by g.keys e)
kept_decl rows g w name (class_decl k) h = refl
kept_decl rows g w name (field_decl k) h = refl
kept_decl rows g w name (method_decl k) h = refl
kept_decl rows g w name (constructor_decl k) h = refl
kept_decl rows g w name (local_decl k) h = absurd (no_local rows w name (numbered_key g.keys k k.number) h)

pub chosen_by : (s : raw.Scopes) → IsKept s → (from to : Way) (name : List ℕ) (types images : List Ty) (at : ℕ) → StaysBy s from types to images name
    → IsChosenBy (rows_of s) (mapping_of s) (context_of s) from types to images at name (Some stays)
chosen_by s kept from to name types images at h =
    let g = mapping_of s in
    let i = h.number in
    let t = h.there in
    let j = t.image in
    let d = t.serves.0 in
    let new_at : decl_at (rows_to s) j ≡ Some d = moved s kept (λ rows x. decl_at rows j ≡ Some d) t.serves.1 in
    let old = t.becomes d t.serves.1 in
    let e = old.0 in
    let image = decl_by g.keys e in
    let image_at : decl_at (rows_to s) j ≡ Some image = new_at ∙ ap Some (sym old.2) in
    let serves : Serves (rows_to s) to name image = subst (λ (x : Decl). Serves (rows_to s) to name x) (sym old.2) (moved s kept (λ rows x. Serves rows to name d) t.serves.2) in
    let before = moved_old s kept (λ x. FindsBy (rows_of s) x from name types i) h.before in
    let after = moved s kept (λ rows x. FindsBy rows x to name images j) t.after in
    let there = bare_finds (rows_of s) (scope_of (context_of s)) from before.0 name types (one e) (before.1 e old.1) in
    let here = bare_finds (rows_to s) (place_to s) to after.0 name images (one image) (after.1 image image_at) in
    let x = name_to g e name in (
      e,
      (leads g.keys name (rows_to s) e to serves, there),
      subst (λ (o : Option Decl). OfDecl o (λ i. SpellsTo (rows_of s) g (context_of s) i to images at name e stays) (Gone (rows_of s) g (context_of s) to images at name e stays)) (sym (kept_decl (rows_to s) g to name e serves))
          (inl (
            Asked,
            taken (rows_to s) (place_to s) name images image x to serves here,
            stays_so name (name_in image x) (named_so (rows_to s) (place_to s) name images image x to serves),
          )),
    )
