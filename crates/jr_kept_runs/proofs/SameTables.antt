-- The images of a table's rows give runs the same declarations.
use Rattle.std.proofs.Common.{◌≡◌, ℕ, zero, suc, List, [], ◌∷◌, ◌++◌, Option, Some, None, Bool, true, false, refl, sym, ap, subst, ◌∙◌, inl, inr, IsTrue}
use Rattle.std.specs.Prelude.{◌⊎◌, slice_get, option_map, option_and_then, codes}
use Rattle.std.proofs.lemmas.Option.{slice_get-map}
use Rattle.jr_runs.specs.Values as core_value
use Rattle.jr_runs.specs.Rows as core_rows
use Rattle.jr_runs.specs.KeyMaps.{KeyMap, Undoes, type_image}
use Rattle.jr_runs.specs.Images.{Among, SameRows}
use Rattle.jr_table.specs.Keys.{ClassKey, FieldKey, MethodKey, CtorKey, Ty, int, boolean, void, null, class}
use Rattle.jr_table.specs.Decls.{Decl, class_decl, field_decl, method_decl, constructor_decl, local_decl}
use Rattle.jr_table.specs.SameKeys.{same_class, same_field, same_method, same_ctor, class_decides, field_decides, method_decides, ctor_decides}
use Rattle.jr_table.specs.Rows.{Row}
use Rattle.jr_table.specs.Prelude.{top_key, prelude_rows}
use Rattle.jr_table.specs.Entries.{IsRowOf, entries_of}
use Rattle.jr_table.specs.Chains.{parent_of, GoesUp, IsChain}
use Rattle.jr_table.specs.Conditions.{as_type}
use Rattle.jr_table.specs.Keyed.{IsSubclass, DispatchesTo}
use Rattle.jr_images.specs.Images.{Renaming, class_to, field_to, method_to, ctor_to, type_to, decl_to, row_to, rows_to}
use Rattle.jr_images.proofs.Places.{row_image}
use Rattle.jr_code.specs.RunKeys.{RunKeys}
use Rattle.jr_code.specs.RunRows.{kind_of_words, run_type, held_type, HasRow, AreRunRows}
use Rattle.jr_image_code.specs.KeysIn.{MapsAs}
use Rattle.jr_kept_runs.specs.KeysTo.{keys_to}
use Rattle.jr_code.specs.Exchanged.{with_key, keys_by, class_in, field_in, method_in, ctor_in, exchanged}
use Rattle.jr_kept_runs.specs.TablesAgree.{TablesAgree}
use Rattle.jr_code.proofs.Exchanging.{image, undone, among_or}

-- ---- declared keys

later_among : {X : Type 0} (o : Option X) (k : X) (xs : List X) → Among k xs → Among k (with_key o xs)
later_among None k xs h = h
later_among (Some x) k xs h = inr h

here_among : {X : Type 0} (o : Option X) (k : X) (xs : List X) → o ≡ Some k → Among k (with_key o xs)
here_among None k xs e = absurd cc
here_among (Some x) k xs e = let same : x ≡ k = cc in inl (sym same)

split_among : {X : Type 0} (o : Option X) (k : X) (xs : List X) → Among k (with_key o xs) → (o ≡ Some k) ⊎ Among k xs
split_among None k xs h = inr h
split_among (Some x) k xs (inl e) = inl (ap Some (sym e))
split_among (Some x) k xs (inr h) = inr h

pub key_among : {X : Type 0} (of : Decl → Option X) (rows : List Row) (j : ℕ) (r : Row) (k : X) → slice_get rows j ≡ Some r → of r.decl ≡ Some k → Among k (keys_by of rows)
key_among of [] j r k e is = absurd cc
key_among of (x ∷ xs) zero r k e is = let same : x ≡ r = cc in here_among (of x.decl) k (keys_by of xs) (ap (λ (z : Row). of z.decl) same ∙ is)
key_among of (x ∷ xs) (suc j) r k e is = later_among (of x.decl) k (keys_by of xs) (key_among of xs j r k e is)

pub row_among : {X : Type 0} (of : Decl → Option X) (rows : List Row) (k : X) → Among k (keys_by of rows) → (j : ℕ) × (r : Row) × (slice_get rows j ≡ Some r) × (of r.decl ≡ Some k)
row_among of [] k h = absurd h
row_among of (x ∷ xs) k h = elim (split_among (of x.decl) k (keys_by of xs) h) [
  | inl e ↦ (0, x, refl, e)
  | inr later ↦ let r = row_among of xs k later in (suc r.0, r.1, r.2, r.3)
]

-- ---- what a row of the images was

pub row_back : (g : Renaming) (rows : List Row) (e : Decl) (j : ℕ) → IsRowOf (rows_to g rows) e j → (d : Decl) × IsRowOf rows d j × (decl_to g d ≡ e)
row_back g rows e j i = by (slice_get rows j) refl
  where
    by : (o : Option Row) → slice_get rows j ≡ o → (d : Decl) × IsRowOf rows d j × (decl_to g d ≡ e)
    by None is = absurd (let p = sym i.stands ∙ slice_get-map (row_to g) rows j ∙ ap (option_map (row_to g)) is in cc)
    by (Some r) is =
        let p : Some i.row ≡ Some (row_to g r) = sym i.stands ∙ slice_get-map (row_to g) rows j ∙ ap (option_map (row_to g)) is in
        let same : row_to g r ≡ i.row = cc in
        (r.decl, record { row = r; stands = is; declares = refl }, ap (λ (z : Row). z.decl) same ∙ i.declares)

class_back : (g : Renaming) (d : Decl) (k : ClassKey) → decl_to g d ≡ class_decl k → (j : ClassKey) × (d ≡ class_decl j) × (class_to g j ≡ k)
class_back g (class_decl j) k e = (j, refl, cc)
class_back g (field_decl j) k e = absurd cc
class_back g (method_decl j) k e = absurd cc
class_back g (constructor_decl j) k e = absurd cc
class_back g (local_decl j) k e = absurd cc

field_back : (g : Renaming) (d : Decl) (k : FieldKey) → decl_to g d ≡ field_decl k → (j : FieldKey) × (d ≡ field_decl j) × (field_to g j ≡ k)
field_back g (field_decl j) k e = (j, refl, cc)
field_back g (class_decl j) k e = absurd cc
field_back g (method_decl j) k e = absurd cc
field_back g (constructor_decl j) k e = absurd cc
field_back g (local_decl j) k e = absurd cc

-- a truth that two tests tell alike
same_truth : (a b : Bool) → (IsTrue a → IsTrue b) → (IsTrue b → IsTrue a) → a ≡ b
same_truth true true f h = refl
same_truth false false f h = refl
same_truth true false f h = sym (f refl)
same_truth false true f h = h refl

class_key : (d : Decl) (k : ClassKey) → class_in d ≡ Some k → d ≡ class_decl k
class_key (class_decl j) k e = let p : j ≡ k = cc in ap class_decl p
class_key (field_decl j) k e = absurd cc
class_key (method_decl j) k e = absurd cc
class_key (constructor_decl j) k e = absurd cc
class_key (local_decl j) k e = absurd cc

field_key : (d : Decl) (k : FieldKey) → field_in d ≡ Some k → d ≡ field_decl k
field_key (field_decl j) k e = let p : j ≡ k = cc in ap field_decl p
field_key (class_decl j) k e = absurd cc
field_key (method_decl j) k e = absurd cc
field_key (constructor_decl j) k e = absurd cc
field_key (local_decl j) k e = absurd cc

method_key : (d : Decl) (k : MethodKey) → method_in d ≡ Some k → d ≡ method_decl k
method_key (method_decl j) k e = let p : j ≡ k = cc in ap method_decl p
method_key (class_decl j) k e = absurd cc
method_key (field_decl j) k e = absurd cc
method_key (constructor_decl j) k e = absurd cc
method_key (local_decl j) k e = absurd cc

ctor_key : (d : Decl) (k : CtorKey) → ctor_in d ≡ Some k → d ≡ constructor_decl k
ctor_key (constructor_decl j) k e = let p : j ≡ k = cc in ap constructor_decl p
ctor_key (class_decl j) k e = absurd cc
ctor_key (field_decl j) k e = absurd cc
ctor_key (method_decl j) k e = absurd cc
ctor_key (local_decl j) k e = absurd cc

module _ (rows : List Row) (g : Renaming) (a : TablesAgree rows g) where
  abbrev r : KeyMap RunKeys
  r = exchanged (keys_to g) rows

  -- the row of a declared key
  row_of : {X : Type 0} (of : Decl → Option X) (as_decl : X → Decl) → ((d : Decl) (k : X) → of d ≡ Some k → d ≡ as_decl k) → (k : X) → Among k (keys_by of rows) → (j : ℕ) × IsRowOf rows (as_decl k) j
  row_of of as_decl is k h = let n = row_among of rows k h in (n.0, record { row = n.1; stands = n.2; declares = is n.1.decl k n.3 })

  -- declarations with one image are one
  one_image : (d e : Decl) (i j : ℕ) → IsRowOf rows d i → IsRowOf rows e j → decl_to g d ≡ decl_to g e → d ≡ e
  one_image d e i j x y same =
      let p = a.new.one_each (decl_to g e) i j (subst (λ (z : Decl). IsRowOf (rows_to g rows) z i) same (row_image g rows d i x)) (row_image g rows e j y) in
      let rows_same : Some x.row ≡ Some y.row = sym x.stands ∙ ap (slice_get rows) p ∙ y.stands in
      let row : x.row ≡ y.row = cc in
      sym x.declares ∙ ap (λ (z : Row). z.decl) row ∙ y.declares

  pub one_class : (j k : ClassKey) → Among j (keys_by class_in rows) → Among k (keys_by class_in rows) → class_to g j ≡ class_to g k → j ≡ k
  one_class j k x y e = let m = row_of class_in class_decl class_key j x in let n = row_of class_in class_decl class_key k y in
      let p = one_image (class_decl j) (class_decl k) m.0 n.0 m.1 n.1 (ap class_decl e) in cc

  one_field : (j k : FieldKey) → Among j (keys_by field_in rows) → Among k (keys_by field_in rows) → field_to g j ≡ field_to g k → j ≡ k
  one_field j k x y e = let m = row_of field_in field_decl field_key j x in let n = row_of field_in field_decl field_key k y in
      let p = one_image (field_decl j) (field_decl k) m.0 n.0 m.1 n.1 (ap field_decl e) in cc

  one_method : (j k : MethodKey) → Among j (keys_by method_in rows) → Among k (keys_by method_in rows) → method_to g j ≡ method_to g k → j ≡ k
  one_method j k x y e = let m = row_of method_in method_decl method_key j x in let n = row_of method_in method_decl method_key k y in
      let p = one_image (method_decl j) (method_decl k) m.0 n.0 m.1 n.1 (ap method_decl e) in cc

  one_ctor : (j k : CtorKey) → Among j (keys_by ctor_in rows) → Among k (keys_by ctor_in rows) → ctor_to g j ≡ ctor_to g k → j ≡ k
  one_ctor j k x y e = let m = row_of ctor_in constructor_decl ctor_key j x in let n = row_of ctor_in constructor_decl ctor_key k y in
      let p = one_image (constructor_decl j) (constructor_decl k) m.0 n.0 m.1 n.1 (ap constructor_decl e) in cc

  -- the map undoes itself
  pub undoes : Undoes (exchanged (keys_to g) rows) (exchanged (keys_to g) rows)
  undoes = record {
    class = undone same_class class_decides (class_to g) (keys_by class_in rows) one_class (λ k h. a.once.class k);
    field = undone same_field field_decides (field_to g) (keys_by field_in rows) one_field (λ k h. a.once.field k);
    method = undone same_method method_decides (method_to g) (keys_by method_in rows) one_method (λ k h. a.once.method k);
    constructor = undone same_ctor ctor_decides (ctor_to g) (keys_by ctor_in rows) one_ctor (λ k h. a.once.constructor k);
  }

  pub among_class : (k : ClassKey) (j : ℕ) → IsRowOf rows (class_decl k) j → Among k (keys_by class_in rows)
  among_class k j i = key_among class_in rows j i.row k i.stands (ap class_in i.declares)

  among_field : (k : FieldKey) (j : ℕ) → IsRowOf rows (field_decl k) j → Among k (keys_by field_in rows)
  among_field k j i = key_among field_in rows j i.row k i.stands (ap field_in i.declares)

  -- on what is declared it is the renaming's
  pub maps : MapsAs (exchanged (keys_to g) rows) (keys_to g) rows
  maps = record {
    class = λ k j i. image same_class class_decides (class_to g) (keys_by class_in rows) one_class (λ k h. a.once.class k) k (among_class k j i);
    field = λ k j i. image same_field field_decides (field_to g) (keys_by field_in rows) one_field (λ k h. a.once.field k) k (among_field k j i);
    method = λ k j i. image same_method method_decides (method_to g) (keys_by method_in rows) one_method (λ k h. a.once.method k) k (key_among method_in rows j i.row k i.stands (ap method_in i.declares));
    constructor = λ k j i. image same_ctor ctor_decides (ctor_to g) (keys_by ctor_in rows) one_ctor (λ k h. a.once.constructor k) k (key_among ctor_in rows j i.row k i.stands (ap ctor_in i.declares));
  }

  -- a key whose image is declared in the new table is declared in the old one
  class_there : (k : ClassKey) (j : ℕ) → IsRowOf (rows_to g rows) (class_decl (r.class k)) j → IsRowOf rows (class_decl k) j
  class_there k j i =
      let old = row_back g rows (class_decl (r.class k)) j i in
      let key = class_back g old.0 (r.class k) old.2 in
      let there : IsRowOf rows (class_decl key.0) j = subst (λ (z : Decl). IsRowOf rows z j) key.1 old.1 in
      let same : key.0 ≡ k = sym (undoes.class key.0) ∙ ap r.class (maps.class key.0 j there ∙ key.2) ∙ undoes.class k in
      subst (λ (z : ClassKey). IsRowOf rows (class_decl z) j) same there

  pub field_there : (k : FieldKey) (j : ℕ) → IsRowOf (rows_to g rows) (field_decl (r.field k)) j → IsRowOf rows (field_decl k) j
  field_there k j i =
      let old = row_back g rows (field_decl (r.field k)) j i in
      let key = field_back g old.0 (r.field k) old.2 in
      let there : IsRowOf rows (field_decl key.0) j = subst (λ (z : Decl). IsRowOf rows z j) key.1 old.1 in
      let same : key.0 ≡ k = sym (undoes.field key.0) ∙ ap r.field (maps.field key.0 j there ∙ key.2) ∙ undoes.field k in
      subst (λ (z : FieldKey). IsRowOf rows (field_decl z) j) same there

  class_here : (k : ClassKey) (j : ℕ) → IsRowOf rows (class_decl k) j → IsRowOf (rows_to g rows) (class_decl (r.class k)) j
  class_here k j i = subst (λ (z : ClassKey). IsRowOf (rows_to g rows) (class_decl z) j) (sym (maps.class k j i)) (row_image g rows (class_decl k) j i)

  -- ---- superclasses

  goes_up : (o p : Option ℕ) (ds : List ℕ) (P Q : ℕ → Type 0) → p ≡ o → ((n : ℕ) → P n → Q n) → GoesUp o ds P → GoesUp p ds Q
  goes_up None None ds P Q e f h = h
  goes_up None (Some n) ds P Q e f h = absurd cc
  goes_up (Some n) None ds P Q e f h = absurd cc
  goes_up (Some n) (Some m) ds P Q e f h = let same : n ≡ m = cc in subst Q same (f n h)

  chain_forth : (c : ℕ) (ds : List ℕ) → IsChain (entries_of rows) c ds → IsChain (entries_of (rows_to g rows)) c ds
  chain_forth c [] h = h
  chain_forth c (d ∷ ds) (e, up) = (e, goes_up (parent_of (entries_of rows) c) (parent_of (entries_of (rows_to g rows)) c) ds _ _ (a.parents c) (λ n h. chain_forth n ds h) up)

  chain_back : (c : ℕ) (ds : List ℕ) → IsChain (entries_of (rows_to g rows)) c ds → IsChain (entries_of rows) c ds
  chain_back c [] h = h
  chain_back c (d ∷ ds) (e, up) = (e, goes_up (parent_of (entries_of (rows_to g rows)) c) (parent_of (entries_of rows) c) ds _ _ (sym (a.parents c)) (λ n h. chain_back n ds h) up)

  pub sub_forth : (c d : ClassKey) → IsSubclass rows c d → IsSubclass (rows_to g rows) (r.class c) (r.class d)
  sub_forth c d h = record {
    c = h.c;
    d = h.d;
    below = class_here c h.c h.below;
    over = class_here d h.d h.over;
    climbs = record { chain = h.climbs.chain; goes_up = chain_forth h.c h.climbs.chain h.climbs.goes_up; among = h.climbs.among };
  }

  pub sub_back : (c d : ClassKey) → IsSubclass (rows_to g rows) (r.class c) (r.class d) → IsSubclass rows c d
  sub_back c d h = record {
    c = h.c;
    d = h.d;
    below = class_there c h.c h.below;
    over = class_there d h.d h.over;
    climbs = record { chain = h.climbs.chain; goes_up = chain_back h.c h.climbs.chain h.climbs.goes_up; among = h.climbs.among };
  }

  module _ (R S : core_rows.Rows RunKeys) (old : AreRunRows rows R) (new : AreRunRows (rows_to g rows) S) where
    -- ---- fields

    field_or : (k : FieldKey) → HasRow rows (field_decl k) ⊎ (HasRow rows (field_decl k) → ⊥)
    field_or k = elim (among_or same_field field_decides (field_to g) (keys_by field_in rows) one_field (λ k h. a.once.field k) k) [
      | inl h ↦ inl (row_of field_in field_decl field_key k h)
      | inr not ↦ inr (λ h. not (among_field k h.0 h.1))
    ]

    new_row : (k : FieldKey) (j : ℕ) → IsRowOf rows (field_decl k) j → IsRowOf (rows_to g rows) (field_decl (r.field k)) j
    new_row k j i = subst (λ (z : FieldKey). IsRowOf (rows_to g rows) (field_decl z) j) (sym (maps.field k j i)) (row_image g rows (field_decl k) j i)

    -- the row of the image
    pub new_is : (k : FieldKey) (j : ℕ) (i : IsRowOf rows (field_decl k) j) (n : IsRowOf (rows_to g rows) (field_decl (r.field k)) j) → n.row ≡ row_to g i.row
    new_is k j i n = let p : Some n.row ≡ Some (row_to g i.row) = sym n.stands ∙ (row_image g rows (field_decl k) j i).stands in cc

    kind_same : (k : FieldKey) → S.field_kind (r.field k) ≡ R.field_kind k
    kind_same k = elim (field_or k) [
      | inl (j, i) ↦ new.field_kind (r.field k) j (new_row k j i) ∙ ap (λ (z : Row). kind_of_words z.modifiers) (new_is k j i (new_row k j i)) ∙ sym (old.field_kind k j i)
      | inr not ↦ (new.no_field (r.field k) (λ h. not (h.0, field_there k h.0 h.1))).0 ∙ sym (old.no_field k not).0
    ]

    type_same : (t : Ty) → ((k : ClassKey) → t ≡ class k → (j : ℕ) × IsRowOf rows (class_decl k) j) → run_type (type_to g t) ≡ option_map (type_image r) (run_type t)
    type_same int known = refl
    type_same boolean known = refl
    type_same void known = refl
    type_same null known = refl
    type_same (class k) known = let row = known k refl in ap (λ (z : ClassKey). Some (core_value.reference z)) (sym (maps.class k row.0 row.1))

    held_same : (o : Option (core_value.Ty RunKeys)) → held_type (option_map (type_image r) o) ≡ type_image r (held_type o)
    held_same None = refl
    held_same (Some t) = refl

    known_type : (row : Row) (j : ℕ) → slice_get rows j ≡ Some row → (t : Ty) → row.type ≡ Some t → (k : ClassKey) → t ≡ class k → (n : ℕ) × IsRowOf rows (class_decl k) n
    known_type row j stands t is k e = a.old.named j row k stands (as_type (is ∙ ap Some e))

    type_by : (row : Row) (j : ℕ) → slice_get rows j ≡ Some row → (o : Option Ty) → row.type ≡ o → held_type (option_and_then run_type (option_map (type_to g) o)) ≡ type_image r (held_type (option_and_then run_type o))
    type_by row j stands None is = refl
    type_by row j stands (Some t) is = ap held_type (type_same t (known_type row j stands t is)) ∙ held_same (run_type t)

    field_type_same : (k : FieldKey) → S.field_type (r.field k) ≡ type_image r (R.field_type k)
    field_type_same k = elim (field_or k) [
      | inl (j, i) ↦ new.field_type (r.field k) j (new_row k j i) ∙ ap (λ (z : Row). held_type (option_and_then run_type z.type)) (new_is k j i (new_row k j i))
          ∙ type_by i.row j i.stands i.row.type refl ∙ ap (type_image r) (sym (old.field_type k j i))
      | inr not ↦ (new.no_field (r.field k) (λ h. not (h.0, field_there k h.0 h.1))).1 ∙ ap (type_image r) (sym (old.no_field k not).1)
    ]

    -- ---- dispatch

    dispatch_same : (c : ClassKey) (m : MethodKey) → IsTrue (R.has_method m) → S.dispatch (r.class c) (r.method m) ≡ option_map r.method (R.dispatch c m)
    dispatch_same c m has = by (R.dispatch c m) refl
      where
        row : HasRow rows (method_decl m)
        row = (old.has_method m).0 has

        forth : (f : MethodKey) → DispatchesTo rows c m f → S.dispatch (r.class c) (r.method m) ≡ Some (r.method f)
        forth f h = (new.dispatch (r.class c) (r.method m) (r.method f)).1 (subst (λ (z : ClassKey). DispatchesTo (rows_to g rows) z (r.method m) (r.method f)) (sym (maps.class c h.c h.place))
            (subst (λ (z : MethodKey). DispatchesTo (rows_to g rows) (class_to g c) z (r.method f)) (sym (maps.method m h.j h.row))
            (subst (λ (z : MethodKey). DispatchesTo (rows_to g rows) (class_to g c) (method_to g m) z) (sym (maps.method f h.k h.found_row)) (a.forth c m f h))))

        none : (f : MethodKey) → S.dispatch (r.class c) (r.method m) ≡ Some f → R.dispatch c m ≡ None → ⊥
        none f e nothing =
            let h = (new.dispatch (r.class c) (r.method m) f).0 e in
            let place = class_there c h.c h.place in
            let image = subst (λ (z : MethodKey). DispatchesTo (rows_to g rows) (class_to g c) z f) (maps.method m row.0 row.1) (subst (λ (z : ClassKey). DispatchesTo (rows_to g rows) z (r.method m) f) (maps.class c h.c place) h) in
            let was = a.back c m f h.c row.0 place row.1 image in
            let p = sym nothing ∙ (old.dispatch c m was.0).1 was.1 in cc

        none_by : (o : Option MethodKey) → S.dispatch (r.class c) (r.method m) ≡ o → R.dispatch c m ≡ None → o ≡ None
        none_by None e nothing = refl
        none_by (Some f) e nothing = absurd (none f e nothing)

        by : (o : Option MethodKey) → R.dispatch c m ≡ o → S.dispatch (r.class c) (r.method m) ≡ option_map r.method o
        by (Some f) e = forth f ((old.dispatch c m f).0 e)
        by None e = none_by (S.dispatch (r.class c) (r.method m)) refl e

    -- ---- all

    string_row : (n : ℕ) (k : ClassKey) (row : Row) → slice_get prelude_rows n ≡ Some row → row.decl ≡ class_decl k → (own : List Row) → slice_get (prelude_rows ++ own) n ≡ Some row → IsRowOf rows (class_decl k) n
    string_row n k row e is own there = subst (λ (z : List Row). IsRowOf z (class_decl k) n) (ap (λ z. z) (sym a.old.prelude)) (record { row = row; stands = subst (λ (z : List Row). slice_get (prelude_rows ++ z) n ≡ Some row) refl (own_there n row e); declares = is })
      where
        own_there : (n : ℕ) (row : Row) → slice_get prelude_rows n ≡ Some row → slice_get (prelude_rows ++ a.old.own) n ≡ Some row
        own_there n row e = in_front prelude_rows n row e
          where
            in_front : (xs : List Row) (n : ℕ) (row : Row) → slice_get xs n ≡ Some row → slice_get (xs ++ a.old.own) n ≡ Some row
            in_front [] n row e = absurd cc
            in_front (x ∷ xs) zero row e = e
            in_front (x ∷ xs) (suc n) row e = in_front xs n row e

    pub same_rows : SameRows (exchanged (keys_to g) rows) R S
    same_rows = record {
      same_class = λ c d. same_truth (S.same_class (r.class c) (r.class d)) (R.same_class c d)
          (λ h. (old.same_class c d).1 (sym (undoes.class c) ∙ ap r.class ((new.same_class (r.class c) (r.class d)).0 h) ∙ undoes.class d))
          (λ h. (new.same_class (r.class c) (r.class d)).1 (ap r.class ((old.same_class c d).0 h)));
      is_subclass = λ c d. same_truth (S.is_subclass (r.class c) (r.class d)) (R.is_subclass c d)
          (λ h. (old.is_subclass c d).1 (elim ((new.is_subclass (r.class c) (r.class d)).0 h) [
            | inl same ↦ inl (sym (undoes.class c) ∙ ap r.class same ∙ undoes.class d)
            | inr below ↦ inr (sub_back c d below)
          ]))
          (λ h. (new.is_subclass (r.class c) (r.class d)).1 (elim ((old.is_subclass c d).0 h) [
            | inl same ↦ inl (ap r.class same)
            | inr below ↦ inr (sub_forth c d below)
          ]));
      text_class = new.text_class ∙ sym a.string ∙ sym (maps.class (top_key (codes "String")) 2 (string_row 2 (top_key (codes "String")) _ refl refl a.old.own refl)) ∙ ap r.class (sym old.text_class);
      class_class = new.class_class ∙ sym a.class ∙ sym (maps.class (top_key (codes "Class")) 3 (string_row 3 (top_key (codes "Class")) _ refl refl a.old.own refl)) ∙ ap r.class (sym old.class_class);
      field_kind = kind_same;
      field_type = field_type_same;
      dispatch = dispatch_same;
      found = λ c m f has e. let h = (old.dispatch c m f).0 e in (old.has_method f).1 (h.k, h.found_row);
    }
