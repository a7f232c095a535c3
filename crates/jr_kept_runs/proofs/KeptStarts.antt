-- What may be run in a program, and on what, is the image of what may be run in the program of which it is the image.
use Rattle.std.proofs.Common.{◌≡◌, ℕ, List, [], ◌∷◌, Option, Some, None, option_map, Bool, true, false, IsTrue, map, refl, sym, ap, subst, ◌∙◌, inl, inr}
use Rattle.std.specs.Prelude.{◌↔◌}
use Rattle.std.specs.List.{list_any}
use Rattle.jr_runs.specs.Values.{Value, null, Ty as RunTy, reference}
use Rattle.jr_runs.specs.Rows as core_rows
use Rattle.jr_runs.specs.Fitting.{is_instance}
use Rattle.jr_runs.specs.Running.{Start, of_method, of_constructor}
use Rattle.jr_runs.specs.Starting.{IsReceiver, ArgsFit, IsStart}
use Rattle.jr_runs.specs.KeyMaps.{KeyMap, value_image, type_image, start_image}
use Rattle.jr_runs.specs.KeptDeclarations.{SameDeclarations}
use Rattle.jr_runs.proofs.ImageValues.{declarations, is_instance_image, fits_image}
use Rattle.jr_runs.proofs.Undoing.{value_back}
use Rattle.jr_table.specs.Keys.{ClassKey, MethodKey, CtorKey, Ty, int, boolean, void, null as null_type, class}
use Rattle.jr_table.specs.Decls.{method, constructor, Decl, class_decl, field_decl, method_decl, constructor_decl, local_decl}
use Rattle.jr_table.specs.Rows.{Row}
use Rattle.jr_table.specs.Entries.{IsRowOf, is_static_word, class_of}
use Rattle.jr_table.specs.Conditions.{as_declarer}
use Rattle.jr_table.specs.Context.{IsStaticDecl, IsInstanceDecl}
use Rattle.jr_images.specs.Images.{Renaming, class_to, method_to, ctor_to, type_to, types_to, decl_to, rows_to}
use Rattle.jr_images.proofs.Places.{row_image}
use Rattle.jr_code.specs.RunKeys.{RunKeys}
use Rattle.jr_code.specs.RunRows.{param_type, AreRunRows}
use Rattle.jr_code.specs.Exchanged.{exchanged}
use Rattle.jr_image_code.specs.KnownPlaces.{IsKnown}
use Rattle.jr_image_code.proofs.MemberImages.{Of}
use Rattle.jr_kept_runs.specs.KeysTo.{keys_to}
use Rattle.jr_kept_runs.specs.TablesAgree.{TablesAgree}
use Rattle.jr_kept_runs.proofs.KnownTypes.{parameters_known}
use Rattle.jr_kept_runs.proofs.SameTables.{row_back, undoes, maps, same_rows}

method_back : (g : Renaming) (d : Decl) (k : MethodKey) → decl_to g d ≡ method_decl k → (j : MethodKey) × (d ≡ method_decl j) × (method_to g j ≡ k)
method_back g (method_decl j) k e = (j, refl, cc)
method_back g (class_decl j) k e = absurd cc
method_back g (field_decl j) k e = absurd cc
method_back g (constructor_decl j) k e = absurd cc
method_back g (local_decl j) k e = absurd cc

ctor_back : (g : Renaming) (d : Decl) (k : CtorKey) → decl_to g d ≡ constructor_decl k → (j : CtorKey) × (d ≡ constructor_decl j) × (ctor_to g j ≡ k)
ctor_back g (constructor_decl j) k e = (j, refl, cc)
ctor_back g (class_decl j) k e = absurd cc
ctor_back g (field_decl j) k e = absurd cc
ctor_back g (method_decl j) k e = absurd cc
ctor_back g (local_decl j) k e = absurd cc

module _ (rows : List Row) (g : Renaming) (a : TablesAgree rows g) (R S : core_rows.Rows RunKeys) (old : AreRunRows rows R) (new : AreRunRows (rows_to g rows) S) where
  abbrev r : KeyMap RunKeys
  r = exchanged (keys_to g) rows

  same : SameDeclarations (exchanged (keys_to g) rows) R S
  same = declarations (exchanged (keys_to g) rows) R S (same_rows rows g a R S old new)

  -- ---- what is declared

  method_there : (k : MethodKey) (j : ℕ) → IsRowOf (rows_to g rows) (method_decl (r.method k)) j → IsRowOf rows (method_decl k) j
  method_there k j i =
      let was = row_back g rows (method_decl (r.method k)) j i in
      let key = method_back g was.0 (r.method k) was.2 in
      let there : IsRowOf rows (method_decl key.0) j = subst (λ (z : Decl). IsRowOf rows z j) key.1 was.1 in
      let one : key.0 ≡ k = sym ((undoes rows g a).method key.0) ∙ ap r.method ((maps rows g a).method key.0 j there ∙ key.2) ∙ (undoes rows g a).method k in
      subst (λ (z : MethodKey). IsRowOf rows (method_decl z) j) one there

  ctor_there : (k : CtorKey) (j : ℕ) → IsRowOf (rows_to g rows) (constructor_decl (r.constructor k)) j → IsRowOf rows (constructor_decl k) j
  ctor_there k j i =
      let was = row_back g rows (constructor_decl (r.constructor k)) j i in
      let key = ctor_back g was.0 (r.constructor k) was.2 in
      let there : IsRowOf rows (constructor_decl key.0) j = subst (λ (z : Decl). IsRowOf rows z j) key.1 was.1 in
      let one : key.0 ≡ k = sym ((undoes rows g a).constructor key.0) ∙ ap r.constructor ((maps rows g a).constructor key.0 j there ∙ key.2) ∙ (undoes rows g a).constructor k in
      subst (λ (z : CtorKey). IsRowOf rows (constructor_decl z) j) one there

  method_here : (k : MethodKey) (j : ℕ) → IsRowOf rows (method_decl k) j → IsRowOf (rows_to g rows) (method_decl (r.method k)) j
  method_here k j i = subst (λ (z : MethodKey). IsRowOf (rows_to g rows) (method_decl z) j) (sym ((maps rows g a).method k j i)) (row_image g rows (method_decl k) j i)

  ctor_here : (k : CtorKey) (j : ℕ) → IsRowOf rows (constructor_decl k) j → IsRowOf (rows_to g rows) (constructor_decl (r.constructor k)) j
  ctor_here k j i = subst (λ (z : CtorKey). IsRowOf (rows_to g rows) (constructor_decl z) j) (sym ((maps rows g a).constructor k j i)) (row_image g rows (constructor_decl k) j i)

  has_method_to : (k : MethodKey) → IsTrue (R.has_method k) → IsTrue (S.has_method (r.method k))
  has_method_to k h = let row = (old.has_method k).0 h in (new.has_method (r.method k)).1 (row.0, method_here k row.0 row.1)

  has_method_from : (k : MethodKey) → IsTrue (S.has_method (r.method k)) → IsTrue (R.has_method k)
  has_method_from k h = let row = (new.has_method (r.method k)).0 h in (old.has_method k).1 (row.0, method_there k row.0 row.1)

  has_ctor_to : (k : CtorKey) → IsTrue (R.has_constructor k) → IsTrue (S.has_constructor (r.constructor k))
  has_ctor_to k h = let row = (old.has_constructor k).0 h in (new.has_constructor (r.constructor k)).1 (row.0, ctor_here k row.0 row.1)

  has_ctor_from : (k : CtorKey) → IsTrue (S.has_constructor (r.constructor k)) → IsTrue (R.has_constructor k)
  has_ctor_from k h = let row = (new.has_constructor (r.constructor k)).0 h in (old.has_constructor k).1 (row.0, ctor_there k row.0 row.1)

  -- ---- on what it is run

  class_image : (d : Decl) (j : ℕ) → IsRowOf rows d j → class_to g (class_of d) ≡ r.class (class_of d)
  class_image d j i = let row = a.old.named j i.row (class_of d) i.stands (as_declarer (ap class_of i.declares)) in sym ((maps rows g a).class (class_of d) row.0 row.1)

  owner_to : (k : MethodKey) (j : ℕ) → IsRowOf rows (method_decl k) j → S.owner (r.method k) ≡ option_map r.class (R.owner k)
  owner_to k j i = by (list_any is_static_word i.row.modifiers) refl
    where
      key : r.method k ≡ method_to g k
      key = (maps rows g a).method k j i

      by : (s : Bool) → list_any is_static_word i.row.modifiers ≡ s → S.owner (r.method k) ≡ option_map r.class (R.owner k)
      by true e =
          let static : IsStaticDecl (rows_to g rows) (method_decl (r.method k)) = subst (λ (z : MethodKey). IsStaticDecl (rows_to g rows) (method_decl z)) (sym key) (j, row_image g rows (method_decl k) j i, e) in
          new.static (r.method k) static ∙ sym (ap (option_map r.class) (old.static k (j, i, e)))
      by false e =
          let instance : IsInstanceDecl (rows_to g rows) (method_decl (r.method k)) = subst (λ (z : MethodKey). IsInstanceDecl (rows_to g rows) (method_decl z)) (sym key) (j, row_image g rows (method_decl k) j i, e) in
          new.instance (r.method k) instance ∙ ap Some (ap (λ (z : MethodKey). z.class) key ∙ class_image (method_decl k) j i) ∙ sym (ap (option_map r.class) (old.instance k (j, i, e)))

  type_to_run : (t : Ty) → IsKnown rows t → param_type (type_to g t) ≡ type_image r (param_type t)
  type_to_run int known = refl
  type_to_run boolean known = refl
  type_to_run void known = refl
  type_to_run null_type known = refl
  type_to_run (class k) known = let row = known k refl in ap reference (sym ((maps rows g a).class k row.0 row.1))

  types_to_run : (ts : List Ty) → ((t : Ty) → Of t ts → IsKnown rows t) → map param_type (types_to g ts) ≡ map (type_image r) (map param_type ts)
  types_to_run [] known = refl
  types_to_run (t ∷ ts) known =
      let here = type_to_run t (known t (inl refl)) in
      let rest = types_to_run ts (λ u h. known u (inr h)) in
      λ i. here i ∷ rest i

  params_to : (k : MethodKey) (j : ℕ) → IsRowOf rows (method_decl k) j → S.params (r.method k) ≡ map (type_image r) (R.params k)
  params_to k j i =
      new.params (r.method k) (j, method_here k j i) ∙ ap (λ (z : MethodKey). map param_type z.params) ((maps rows g a).method k j i) ∙ types_to_run k.params (parameters_known rows a.old (method k) (j, i))
      ∙ sym (ap (map (type_image r)) (old.params k (j, i)))

  ctor_params_to : (k : CtorKey) (j : ℕ) → IsRowOf rows (constructor_decl k) j → S.constructor_params (r.constructor k) ≡ map (type_image r) (R.constructor_params k)
  ctor_params_to k j i =
      new.constructor_params (r.constructor k) (j, ctor_here k j i) ∙ ap (λ (z : CtorKey). map param_type z.params) ((maps rows g a).constructor k j i) ∙ types_to_run k.params (parameters_known rows a.old (constructor k) (j, i))
      ∙ sym (ap (map (type_image r)) (old.constructor_params k (j, i)))

  ctor_class_to : (k : CtorKey) (j : ℕ) → IsRowOf rows (constructor_decl k) j → S.constructor_class (r.constructor k) ≡ r.class (R.constructor_class k)
  ctor_class_to k j i =
      new.constructor_class (r.constructor k) ∙ ap (λ (z : CtorKey). z.class) ((maps rows g a).constructor k j i) ∙ class_image (constructor_decl k) j i ∙ sym (ap r.class (old.constructor_class k))

  -- ---- values

  receiver_to : (o : Option ClassKey) (v : Value RunKeys) → IsReceiver R o v → IsReceiver S (option_map r.class o) (value_image r v)
  receiver_to None v h = ap (value_image r) h
  receiver_to (Some c) v h = is_instance_image r R S same c v ∙ h

  receiver_from : (o : Option ClassKey) (v : Value RunKeys) → IsReceiver S (option_map r.class o) (value_image r v) → IsReceiver R o v
  receiver_from None v h = sym (value_back r r (undoes rows g a) v) ∙ ap (value_image r) h
  receiver_from (Some c) v h = sym (is_instance_image r R S same c v) ∙ h

  args_to : (Ts : List (RunTy RunKeys)) (vs : List (Value RunKeys)) → ArgsFit R Ts vs → ArgsFit S (map (type_image r) Ts) (map (value_image r) vs)
  args_to [] [] h = tt
  args_to [] (v ∷ vs) h = absurd h
  args_to (T ∷ Ts) [] h = absurd h
  args_to (T ∷ Ts) (v ∷ vs) h = (fits_image r R S same T v ∙ h.0, args_to Ts vs h.1)

  args_from : (Ts : List (RunTy RunKeys)) (vs : List (Value RunKeys)) → ArgsFit S (map (type_image r) Ts) (map (value_image r) vs) → ArgsFit R Ts vs
  args_from [] [] h = tt
  args_from [] (v ∷ vs) h = absurd h
  args_from (T ∷ Ts) [] h = absurd h
  args_from (T ∷ Ts) (v ∷ vs) h = (sym (fits_image r R S same T v) ∙ h.0, args_from Ts vs h.1)

  -- ---- starts

  pub starts_agree : (c : Start RunKeys) → IsStart R c ↔ IsStart S (start_image (exchanged (keys_to g) rows) c)
  starts_agree (of_method m me args) = (
    (λ h. (let row = (old.has_method m).0 h.0 in (
      has_method_to m h.0,
      subst (λ (o : Option ClassKey). IsReceiver S o (value_image r me)) (sym (owner_to m row.0 row.1)) (receiver_to (R.owner m) me h.1),
      subst (λ (Ts : List (RunTy RunKeys)). ArgsFit S Ts (map (value_image r) args)) (sym (params_to m row.0 row.1)) (args_to (R.params m) args h.2),
    ))),
    (λ h. (let has = has_method_from m h.0 in let row = (old.has_method m).0 has in (
      has,
      receiver_from (R.owner m) me (subst (λ (o : Option ClassKey). IsReceiver S o (value_image r me)) (owner_to m row.0 row.1) h.1),
      args_from (R.params m) args (subst (λ (Ts : List (RunTy RunKeys)). ArgsFit S Ts (map (value_image r) args)) (params_to m row.0 row.1) h.2),
    ))),
  )
  starts_agree (of_constructor k me args) = (
    (λ h. (let row = (old.has_constructor k).0 h.0 in (
      has_ctor_to k h.0,
      subst (λ (c : ClassKey). IsTrue (is_instance S c (value_image r me))) (sym (ctor_class_to k row.0 row.1)) (is_instance_image r R S same (R.constructor_class k) me ∙ h.1),
      subst (λ (Ts : List (RunTy RunKeys)). ArgsFit S Ts (map (value_image r) args)) (sym (ctor_params_to k row.0 row.1)) (args_to (R.constructor_params k) args h.2),
    ))),
    (λ h. (let has = has_ctor_from k h.0 in let row = (old.has_constructor k).0 has in (
      has,
      sym (is_instance_image r R S same (R.constructor_class k) me) ∙ subst (λ (c : ClassKey). IsTrue (is_instance S c (value_image r me))) (ctor_class_to k row.0 row.1) h.1,
      args_from (R.constructor_params k) args (subst (λ (Ts : List (RunTy RunKeys)). ArgsFit S Ts (map (value_image r) args)) (ctor_params_to k row.0 row.1) h.2),
    ))),
  )
