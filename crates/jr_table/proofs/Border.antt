-- What is found by numbers is what is asked by keys.
use Rattle.std.proofs.Common.{◌≡◌, ◌≢◌, ℕ, List, [], ◌∷◌, map, Option, Some, None, Bool, true, false, cond, refl, sym, ap, subst, ◌∙◌, inl, inr}
use Rattle.std.specs.Prelude.{slice_get, option_map, option_and_then, MatchOption, IfSome, IfNone, ◌↔◌, IsTrue, ◌||◌}
use Rattle.jr_table.specs.declared.entries.Kind.{Kind}
use Rattle.jr_table.specs.declared.entries.Sort.TheVariants as sort
use Rattle.jr_table.specs.declared.entries.Entry.{Entry}
use Rattle.jr_table.specs.Keys.{ClassKey, FieldKey, MethodKey}
use Rattle.jr_table.specs.Decls.{Decl, class_decl, field_decl, method_decl}
use Rattle.jr_table.specs.Rows.{Row}
use Rattle.jr_table.specs.Entries.{IsRowOf, number_of, kind_of, sort_of, name_of, params_of, entry_of, entries_of, field_of, method_of, field_at, method_at}
use Rattle.jr_table.specs.Conditions.{AreRows}
use Rattle.jr_table.specs.Chains.{IsChain, IsSubclassAt}
use Rattle.jr_table.specs.Members.{DeclaresField, DeclaresMethod, DeclaresVirtual, MemberAmong, NearestAmong, IsMember, IsNearest, IsMemberField, Dispatches, OverridesAt}
use Rattle.jr_table.specs.Keyed.{IsSubclass, HasField, Overrides, DispatchesTo}
use Rattle.jr_table.specs.Looking.{is_field, is_virtual, member, nearest}
use Rattle.jr_table.specs.Virtual.{if_virtual, virtual_entry, IsOver}
use Rattle.jr_table.proofs.RowLaws.{number_stands, number_none, the_number, entry_stands, RowAt, row_at, acyclic_rows, some_inside}
use Rattle.jr_table.proofs.OneEach.{is_field_decl, is_method_decl, one_field, one_virtual}
use Rattle.jr_table.proofs.MemberLaws.{Says, member_says, nearest_says}
use Rattle.jr_table.proofs.Testing.{field_says, virtual_says}

-- an answer of which it is known what it shows
pub if_some : {A K : Type 0} (f : A → K) (P : K → Type 0) (r : Option A) (k : K) → option_map f r ≡ Some k → P k → IfSome r (λ x. P (f x))
if_some f P None k h p = absurd cc
if_some f P (Some x) k h p = subst P (let e : f x ≡ k = cc in sym e) p

pub if_none : {A K : Type 0} (f : A → K) (P : Type 0) (r : Option A) (k : K) → option_map f r ≡ Some k → IfNone r P
if_none f P None k h = absurd cc
if_none f P (Some x) k h = tt

module _ (rows : List Entry) (Own : ℕ → ℕ → Type 0) where
  pub member_declares : (chain : List ℕ) (j : ℕ) → MemberAmong rows Own chain j → (c : ℕ) × Own c j
  member_declares [] j h = absurd h
  member_declares (c ∷ cs) j (inl d) = (c, d)
  member_declares (c ∷ cs) j (inr (none, h, visible)) = member_declares cs j h

  nearest_declares : (chain : List ℕ) (j : ℕ) → NearestAmong rows Own chain j → (c : ℕ) × Own c j
  nearest_declares [] j h = absurd h
  nearest_declares (c ∷ cs) j (inl d) = (c, d)
  nearest_declares (c ∷ cs) j (inr (none, h)) = nearest_declares cs j h

module _ (rows : List Row) where
  pub record FieldHere (name : List ℕ) (j : ℕ) : Type 0 where
    pub key : FieldKey
    pub at : field_at rows j ≡ Some key
    pub row : IsRowOf rows (field_decl key) j
    pub named : key.name ≡ name

  field_here : (name : List ℕ) (c j : ℕ) → DeclaresField (entries_of rows) name c j → FieldHere name j
  field_here name c j d =
      let r = row_at rows j d.row d.stands in
      let k = is_field_decl r.row.decl (sym (ap (λ (x : Entry). x.sort) r.is) ∙ d.field) in
      record {
        key = k.0;
        at = ap (option_and_then (λ (x : Row). field_of x.decl)) r.stands ∙ ap field_of k.1;
        row = record { row = r.row; stands = r.stands; declares = k.1 };
        named = sym (ap name_of k.1) ∙ sym (ap (λ (x : Entry). x.name) r.is) ∙ d.named;
      }

  pub record MethodHere (j : ℕ) : Type 0 where
    pub key : MethodKey
    pub at : method_at rows j ≡ Some key
    pub row : IsRowOf rows (method_decl key) j

  pub method_here : (name : List ℕ) (params : List Kind) (c j : ℕ) → DeclaresMethod (entries_of rows) name params c j → MethodHere j
  method_here name params c j d =
      let r = row_at rows j d.row d.stands in
      let k = is_method_decl r.row.decl (sym (ap (λ (x : Entry). x.sort) r.is) ∙ d.method) in
      record {
        key = k.0;
        at = ap (option_and_then (λ (x : Row). method_of x.decl)) r.stands ∙ ap method_of k.1;
        row = record { row = r.row; stands = r.stands; declares = k.1 };
      }

  -- what is said of a row that is neither private nor static
  pub record VirtualAt (j : ℕ) (e : Entry) : Type 0 where
    pub stands : slice_get (entries_of rows) j ≡ Some e
    pub visible : e.is_private ≡ false
    pub instance : e.is_static ≡ false

  pub virtual_at : (j : ℕ) (e : Entry) → virtual_entry (entries_of rows) j ≡ Some e → VirtualAt j e
  virtual_at j e h = by (slice_get (entries_of rows) j) refl h
    where
      of : (x : Entry) (a b : Bool) → slice_get (entries_of rows) j ≡ Some x → x.is_private ≡ a → x.is_static ≡ b → cond (a || b) None (Some x) ≡ Some e → VirtualAt j e
      of x true b is p s h = absurd cc
      of x false true is p s h = absurd cc
      of x false false is p s h = let same : x ≡ e = cc in record { stands = is ∙ ap Some same; visible = sym (ap (λ (y : Entry). y.is_private) same) ∙ p; instance = sym (ap (λ (y : Entry). y.is_static) same) ∙ s }

      by : (o : Option Entry) → slice_get (entries_of rows) j ≡ o → option_and_then if_virtual o ≡ Some e → VirtualAt j e
      by None is h = absurd cc
      by (Some x) is h = of x x.is_private x.is_static is refl refl h

  -- a method that is neither private nor static is found so
  pub is_virtual_at : (name : List ℕ) (params : List Kind) (c j : ℕ) (v : DeclaresVirtual (entries_of rows) name params c j) → virtual_entry (entries_of rows) j ≡ Some v.declared.row
  is_virtual_at name params c j v = ap (option_and_then if_virtual) v.declared.stands ∙ by v.declared.row.is_private v.declared.row.is_static refl refl
    where
      by : (a b : Bool) → v.declared.row.is_private ≡ a → v.declared.row.is_static ≡ b → cond (v.declared.row.is_private || v.declared.row.is_static) None (Some v.declared.row) ≡ Some v.declared.row
      by true b p s = absurd (v.visible (record { row = v.declared.row; stands = v.declared.stands; private = p }))
      by false true p s = absurd (v.instance (record { row = v.declared.row; stands = v.declared.stands; static = s }))
      by false false p s = ap (λ b. cond (b || v.declared.row.is_static) None (Some v.declared.row)) p ∙ ap (λ b. cond b None (Some v.declared.row)) s

  pub method_entry : (m : MethodKey) (j : ℕ) (e : Entry) → IsRowOf rows (method_decl m) j → VirtualAt j e → DeclaresVirtual (entries_of rows) m.name (map (kind_of rows) m.params) e.class j
  method_entry m j e r v =
      let is : e ≡ entry_of rows r.row = some_inside (slice_get (entries_of rows) j) e (entry_of rows r.row) v.stands (entry_stands rows j r.row r.stands) in
      record {
        declared = record {
          row = e;
          stands = v.stands;
          method = ap (λ (x : Entry). x.sort) is ∙ ap sort_of r.declares;
          class = refl;
          named = ap (λ (x : Entry). x.name) is ∙ ap name_of r.declares;
          takes = ap (λ (x : Entry). x.params) is ∙ ap (λ d. map (kind_of rows) (params_of d)) r.declares;
        };
        visible = λ p. let t : e.is_private ≡ true = ap (λ (x : Entry). x.is_private) (some_inside (slice_get (entries_of rows) j) e p.row v.stands p.stands) ∙ p.private in let f = v.visible in absurd cc;
        instance = λ p. let t : e.is_static ≡ true = ap (λ (x : Entry). x.is_static) (some_inside (slice_get (entries_of rows) j) e p.row v.stands p.stands) ∙ p.static in let f = v.instance in absurd cc;
      }

  module _ (are : AreRows rows) where
    pub same_number : (d : Decl) (i j : ℕ) → number_of rows d ≡ Some i → IsRowOf rows d j → j ≡ i
    same_number d i j h r = some_inside (number_of rows d) j i (the_number rows are d j r) h

    -- subclasses
    pub is_below : (sub sup : ClassKey) (i j : ℕ) (b : Bool) → number_of rows (class_decl sub) ≡ Some i → number_of rows (class_decl sup) ≡ Some j
        → (IsTrue b ↔ IsSubclassAt (entries_of rows) i j) → (IsTrue b ↔ IsSubclass rows sub sup)
    is_below sub sup i j b si sj h = (
      λ t. record { c = i; d = j; below = number_stands rows (class_decl sub) i si; over = number_stands rows (class_decl sup) j sj; climbs = h.0 t },
      λ s. h.1 (subst (λ (x : ℕ). IsSubclassAt (entries_of rows) x j) (same_number (class_decl sub) i s.c si s.below) (subst (λ (x : ℕ). IsSubclassAt (entries_of rows) s.c x) (same_number (class_decl sup) j s.d sj s.over) s.climbs)),
    )

    -- fields
    pub no_field : (of : ClassKey) (name : List ℕ) (i : ℕ) → number_of rows (class_decl of) ≡ Some i → member (entries_of rows) (is_field name) i ≡ None → (k : FieldKey) → k.name ≡ name → HasField rows of k → ⊥
    no_field of name i at none k named h =
        let says = member_says (entries_of rows) (DeclaresField (entries_of rows) name) (is_field name) (field_says (entries_of rows) name) (one_field rows are name) (acyclic_rows rows are) i in
        let missing : Says (IsMember (entries_of rows) (DeclaresField (entries_of rows) name) i) None = subst (Says (IsMember (entries_of rows) (DeclaresField (entries_of rows) name) i)) none says in
        missing h.j (subst (λ (x : ℕ). IsMemberField (entries_of rows) name x h.j) (same_number (class_decl of) i h.c at h.place) (subst (λ (n : List ℕ). IsMemberField (entries_of rows) n h.c h.j) named h.member))

    pub record FieldFound (of : ClassKey) (name : List ℕ) (j : ℕ) : Type 0 where
      pub key : FieldKey
      pub at : field_at rows j ≡ Some key
      pub has : HasField rows of key
      pub named : key.name ≡ name

    pub the_field : (of : ClassKey) (name : List ℕ) (i j : ℕ) → number_of rows (class_decl of) ≡ Some i → member (entries_of rows) (is_field name) i ≡ Some j → FieldFound of name j
    the_field of name i j at found =
        let says = member_says (entries_of rows) (DeclaresField (entries_of rows) name) (is_field name) (field_says (entries_of rows) name) (one_field rows are name) (acyclic_rows rows are) i in
        let m : Says (IsMember (entries_of rows) (DeclaresField (entries_of rows) name) i) (Some j) = subst (Says (IsMember (entries_of rows) (DeclaresField (entries_of rows) name) i)) found says in
        let d = member_declares (entries_of rows) (DeclaresField (entries_of rows) name) m.chain j m.among in
        let here = field_here name d.0 j d.1 in
        record {
          key = here.key;
          at = here.at;
          has = record { c = i; j = j; place = number_stands rows (class_decl of) i at; row = here.row; member = subst (λ (n : List ℕ). IsMemberField (entries_of rows) n i j) (sym here.named) m };
          named = here.named;
        }

    -- dispatch
    pub not_virtual : (of : ClassKey) (m k : MethodKey) (j : ℕ) → number_of rows (method_decl m) ≡ Some j → virtual_entry (entries_of rows) j ≡ None → DispatchesTo rows of m k → ⊥
    not_virtual of m k j at none d =
        let e = is_virtual_at m.name (map (kind_of rows) m.params) d.d d.j d.virtual in
        let same = same_number (method_decl m) j d.j at d.row in
        let t = sym e ∙ ap (virtual_entry (entries_of rows)) same ∙ none in
        absurd cc

    -- the entry of a method that dispatches
    the_entry : (of : ClassKey) (m k : MethodKey) (j : ℕ) (e : Entry) → number_of rows (method_decl m) ≡ Some j → virtual_entry (entries_of rows) j ≡ Some e → (d : DispatchesTo rows of m k) → d.virtual.declared.row ≡ e
    the_entry of m k j e at v d =
        some_inside (virtual_entry (entries_of rows) j) d.virtual.declared.row e
        (sym (ap (virtual_entry (entries_of rows)) (same_number (method_decl m) j d.j at d.row)) ∙ is_virtual_at m.name (map (kind_of rows) m.params) d.d d.j d.virtual) v

    pub not_below : (of : ClassKey) (m k : MethodKey) (i j : ℕ) (e : Entry) → number_of rows (class_decl of) ≡ Some i → number_of rows (method_decl m) ≡ Some j → virtual_entry (entries_of rows) j ≡ Some e
        → (IsSubclassAt (entries_of rows) i e.class → ⊥) → DispatchesTo rows of m k → ⊥
    not_below of m k i j e at mt v never d =
        let row = the_entry of m k j e mt v d in
        let class : d.d ≡ e.class = sym d.virtual.declared.class ∙ ap (λ (x : Entry). x.class) row in
        never (subst (λ (x : ℕ). IsSubclassAt (entries_of rows) x e.class) (same_number (class_decl of) i d.c at d.place) (subst (λ (x : ℕ). IsSubclassAt (entries_of rows) d.c x) class d.below))

    virtual_found : (name : List ℕ) (params : List Kind) (i : ℕ) (o : Option ℕ) → nearest (entries_of rows) (is_virtual name params) i ≡ o → Says (Dispatches (entries_of rows) name params i) o
    virtual_found name params i o h =
        subst (Says (Dispatches (entries_of rows) name params i)) h
        (nearest_says (entries_of rows) (DeclaresVirtual (entries_of rows) name params) (is_virtual name params) (virtual_says (entries_of rows) name params) (one_virtual rows are name params) (acyclic_rows rows are) i)

    pub none_nearest : (of : ClassKey) (m k : MethodKey) (i j : ℕ) (e : Entry) → number_of rows (class_decl of) ≡ Some i → number_of rows (method_decl m) ≡ Some j → virtual_entry (entries_of rows) j ≡ Some e
        → nearest (entries_of rows) (is_virtual e.name e.params) i ≡ None → DispatchesTo rows of m k → ⊥
    none_nearest of m k i j e at mt v none d =
        let row = the_entry of m k j e mt v d in
        let name : m.name ≡ e.name = sym d.virtual.declared.named ∙ ap (λ (x : Entry). x.name) row in
        let params : map (kind_of rows) m.params ≡ e.params = sym d.virtual.declared.takes ∙ ap (λ (x : Entry). x.params) row in
        let no = virtual_found e.name e.params i None none in
        no d.k (subst (λ (x : ℕ). Dispatches (entries_of rows) e.name e.params x d.k) (same_number (class_decl of) i d.c at d.place)
        (subst (λ (p : List Kind). Dispatches (entries_of rows) e.name p d.c d.k) params (subst (λ (n : List ℕ). Dispatches (entries_of rows) n (map (kind_of rows) m.params) d.c d.k) name d.nearest)))

    pub record MethodFound (of : ClassKey) (m : MethodKey) (k : ℕ) : Type 0 where
      pub key : MethodKey
      pub at : method_at rows k ≡ Some key
      pub is : DispatchesTo rows of m key

    pub the_method : (of : ClassKey) (m : MethodKey) (i j k : ℕ) (e : Entry) → number_of rows (class_decl of) ≡ Some i → number_of rows (method_decl m) ≡ Some j → virtual_entry (entries_of rows) j ≡ Some e
        → IsSubclassAt (entries_of rows) i e.class → nearest (entries_of rows) (is_virtual e.name e.params) i ≡ Some k → MethodFound of m k
    unfolding method_entry
    the_method of m i j k e at mt v below found =
        let row = number_stands rows (method_decl m) j mt in
        let virtual = method_entry m j e row (virtual_at j e v) in
        let near = virtual_found e.name e.params i (Some k) found in
        let d = nearest_declares (entries_of rows) (DeclaresVirtual (entries_of rows) e.name e.params) near.chain k near.among in
        let here = method_here e.name e.params d.0 k d.1.declared in
        record {
          key = here.key;
          at = here.at;
          is = record {
            c = i;
            d = e.class;
            j = j;
            k = k;
            place = number_stands rows (class_decl of) i at;
            row = row;
            found_row = here.row;
            virtual = virtual;
            below = below;
            nearest = subst (λ (p : List Kind). Dispatches (entries_of rows) m.name p i k) virtual.declared.takes (subst (λ (n : List ℕ). Dispatches (entries_of rows) n e.params i k) virtual.declared.named near);
          };
        }

    -- overriding
    over_number : (sub sup : MethodKey) (i : ℕ) → number_of rows (method_decl sub) ≡ Some i → (o : Overrides rows sub sup) → o.j ≡ i
    over_number sub sup i at o = same_number (method_decl sub) i o.j at o.over

    pub no_over : (sub sup : MethodKey) (i : ℕ) → number_of rows (method_decl sub) ≡ Some i → virtual_entry (entries_of rows) i ≡ None → Overrides rows sub sup → ⊥
    no_over sub sup i at none o =
        let v = is_virtual_at o.overrides.name o.overrides.params o.overrides.c o.j o.overrides.over in
        let t = sym v ∙ ap (virtual_entry (entries_of rows)) (same_number (method_decl sub) i o.j at o.over) ∙ none in
        absurd cc

    pub no_under : (sub sup : MethodKey) (i : ℕ) → number_of rows (method_decl sup) ≡ Some i → virtual_entry (entries_of rows) i ≡ None → Overrides rows sub sup → ⊥
    no_under sub sup i at none o =
        let v = is_virtual_at o.overrides.name o.overrides.params o.overrides.d o.k o.overrides.under in
        let t = sym v ∙ ap (virtual_entry (entries_of rows)) (same_number (method_decl sup) i o.k at o.under) ∙ none in
        absurd cc

    pub is_over : (sub sup : MethodKey) (i j : ℕ) (e f : Entry) (b : Bool) → number_of rows (method_decl sub) ≡ Some i → number_of rows (method_decl sup) ≡ Some j
        → virtual_entry (entries_of rows) i ≡ Some e → virtual_entry (entries_of rows) j ≡ Some f → (IsTrue b ↔ IsOver (entries_of rows) e f) → (IsTrue b ↔ Overrides rows sub sup)
    unfolding method_entry
    is_over sub sup i j e f b si sj ve vf h = (λ t. to (h.0 t), λ o. h.1 (back o))
      where
        to : IsOver (entries_of rows) e f → Overrides rows sub sup
        to o =
            let rs = number_stands rows (method_decl sub) i si in
            let rt = number_stands rows (method_decl sup) j sj in
            let a = method_entry sub i e rs (virtual_at i e ve) in
            let b = method_entry sup j f rt (virtual_at j f vf) in
            record {
              j = i;
              k = j;
              over = rs;
              under = rt;
              overrides = record {
                name = sub.name;
                params = map (kind_of rows) sub.params;
                c = e.class;
                d = f.class;
                over = a;
                under =
                    let named : sup.name ≡ sub.name = sym b.declared.named ∙ sym o.named ∙ a.declared.named in
                    let takes : map (kind_of rows) sup.params ≡ map (kind_of rows) sub.params = sym b.declared.takes ∙ sym o.takes ∙ a.declared.takes in
                    subst (λ (p : List Kind). DeclaresVirtual (entries_of rows) sub.name p f.class j) takes (subst (λ (n : List ℕ). DeclaresVirtual (entries_of rows) n (map (kind_of rows) sup.params) f.class j) named b);
                below = o.below;
                strict = o.strict;
              };
            }

        back : Overrides rows sub sup → IsOver (entries_of rows) e f
        back o =
            let x = o.overrides in
            let over : x.over.declared.row ≡ e = some_inside (virtual_entry (entries_of rows) i) x.over.declared.row e (sym (ap (virtual_entry (entries_of rows)) (same_number (method_decl sub) i o.j si o.over)) ∙ is_virtual_at x.name x.params x.c o.j x.over) ve in
            let under : x.under.declared.row ≡ f = some_inside (virtual_entry (entries_of rows) j) x.under.declared.row f (sym (ap (virtual_entry (entries_of rows)) (same_number (method_decl sup) j o.k sj o.under)) ∙ is_virtual_at x.name x.params x.d o.k x.under) vf in
            let c : x.c ≡ e.class = sym x.over.declared.class ∙ ap (λ (y : Entry). y.class) over in
            let d : x.d ≡ f.class = sym x.under.declared.class ∙ ap (λ (y : Entry). y.class) under in
            record {
              strict = λ same. x.strict (c ∙ same ∙ sym d);
              named = sym (ap (λ (y : Entry). y.name) over) ∙ x.over.declared.named ∙ sym x.under.declared.named ∙ ap (λ (y : Entry). y.name) under;
              takes = sym (ap (λ (y : Entry). y.params) over) ∙ x.over.declared.takes ∙ sym x.under.declared.takes ∙ ap (λ (y : Entry). y.params) under;
              below = subst (λ (n : ℕ). IsSubclassAt (entries_of rows) n f.class) c (subst (λ (n : ℕ). IsSubclassAt (entries_of rows) x.c n) d x.below);
            }
