-- The rows of a program without faults: each type means something, and no two rows declare the
-- same.
use Rattle.std.proofs.Common.{◌≡◌, ℕ, zero, suc, ◌+◌, ◌<◌, List, [], ◌∷◌, ◌++◌, Option, Some, None, Bool, true, false, add-one, refl, sym, ap, subst, ◌∙◌, inl, inr, arith}
use Rattle.std.specs.Prelude.{slice_get, ◌⊎◌, ◌↔◌, option_map, option_and_then, unwrap_or}
use Rattle.jr_table.specs.declared.kinds.DeclKind.TheVariants as kind
use Rattle.jr_table.specs.Keys.{ClassKey, FieldKey, MethodKey, CtorKey, Ty}
use Rattle.jr_table.specs.Keys as keys
use Rattle.jr_table.specs.Decls.{Decl, class_decl, field_decl, method_decl, constructor_decl}
use Rattle.jr_table.specs.Rows.{Row}
use Rattle.jr_table.specs.Entries.{class_of}
use Rattle.jr_table.specs.Prelude.{prelude_rows}
use Rattle.jr_table.specs.Resolving.{Means, DeclaresClass, IsDeclared, IsPreludeClass}
use Rattle.jr_table.specs.DeclaredItems.{Written, int, boolean, named, DeclaredParam, DeclaredClass, DeclaredField, DeclaredMethod, DeclaredCtor, Item, class_item, field_item, method_item, ctor_item, DeclaredItem}
use Rattle.jr_table.specs.Faults.{Place, At, PackageLine, HasFault, IsClean, Writes, WritesType, SameMember, name_at}
use Rattle.jr_build_rows.specs.ExactRows.{unwritten, param_types, result_type, class_row, field_row, method_row, ctor_row, class_rows, rows_of_item, rows_of_declarations}
use Rattle.jr_build_rows.specs.Heads.{IsOwner, AreHeaded}
use Rattle.jr_build_hierarchy.specs.Hierarchies.{Hierarchy, meaning}
use Rattle.jr_build_rows.specs.Signatures.{Signature, meanings, signature_of}
use Rattle.jr_build_rows.specs.TypeFaults.{KnowsMeanings}
use Rattle.jr_build_rows.proofs.Apart.{In, in_either, in_left, in_right, Apart, apart_join, prelude_apart, prelude_names}
use Rattle.jr_build_declared.proofs.Earliest.{inside, one_declaration}
use Rattle.jr_build_rows.proofs.TwiceMemberLaws.{same_member}

-- of which item a row is
module _ (h : Hierarchy) where
  pub item_of_row : (ss : List DeclaredItem) (r : Row) → In (rows_of_declarations h ss) r → (i : ℕ) × (s : DeclaredItem) × (slice_get ss i ≡ Some s) × In (rows_of_item h s.item) r
  item_of_row [] r k = absurd k
  item_of_row (s ∷ ss) r k = elim (in_either (rows_of_item h s.item) (rows_of_declarations h ss) r k) [
    | inl l ↦ (0, s, refl, l)
    | inr m ↦ (let p = item_of_row ss r m in (suc p.0, p.1, p.2, p.3))
  ]

  pub row_of_declaration : (ss : List DeclaredItem) (i : ℕ) (s : DeclaredItem) → slice_get ss i ≡ Some s → (r : Row) → In (rows_of_item h s.item) r → In (rows_of_declarations h ss) r
  row_of_declaration [] i s e r k = absurd cc
  row_of_declaration (x ∷ ss) zero s e r k = in_left (rows_of_item h x.item) (rows_of_declarations h ss) r (subst (λ (y : DeclaredItem). In (rows_of_item h y.item) r) (sym (inside x s e)) k)
  row_of_declaration (x ∷ ss) (suc i) s e r k = in_right (rows_of_item h x.item) (rows_of_declarations h ss) r (row_of_declaration ss i s e r k)

  pub class_row_in : (c : DeclaredClass) (b : Bool) → In (class_rows h c b) (class_row h c)
  class_row_in c true = inl refl
  class_row_in c false = inl refl

  pub in_class_rows : (c : DeclaredClass) (b : Bool) (r : Row) → In (class_rows h c b) r → (class_row h c ≡ r) ⊎ ((b ≡ false) × (unwritten c ≡ r))
  in_class_rows c true r (inl e) = inl e
  in_class_rows c true r (inr z) = absurd z
  in_class_rows c false r (inl e) = inl e
  in_class_rows c false r (inr (inl e)) = inr (refl, e)
  in_class_rows c false r (inr (inr z)) = absurd z

  pub only : (x r : Row) → In (x ∷ []) r → x ≡ r
  only x r (inl e) = e
  only x r (inr z) = absurd z

module _ (packages : List (Option PackageLine)) (declarations : List DeclaredItem) (h : Hierarchy) (clean : IsClean packages declarations) (means : KnowsMeanings declarations h) where
  meant : (k : ClassKey) (at : ℕ) (outer : Option (List ℕ)) (name : List ℕ) (o : Option Ty) → meaning h k (named at outer name) ≡ o
      → (((t : Ty) → Means declarations k (named at outer name) t → ⊥) → ⊥) → (t : Ty) × (o ≡ Some t)
  meant k at outer name (Some t) e some = (t, refl)
  meant k at outer name None e some = absurd (some (λ t m. let f = (means k (named at outer name) t).1 m in absurd cc))

  -- each type that is written means something
  pub type_means : (i file : ℕ) (item : Item) (k : ClassKey) (w : Written) → At declarations i file item → WritesType item k w → (t : Ty) × (meaning h k w ≡ Some t)
  type_means i file item k int at writes = (keys.int, refl)
  type_means i file item k boolean at writes = (keys.boolean, refl)
  type_means i file item k (named p outer name) at writes = meant k p outer name (meaning h k (named p outer name)) refl
      (λ none. clean kind.NoTy (record { file = file; at = p }) (i, item, k, outer, name, at, writes, none))

  pub params_mean : (i file : ℕ) (item : Item) (k : ClassKey) → At declarations i file item → (ps : List DeclaredParam) → ((w : Written) → Writes ps w → WritesType item k w)
      → (ts : List Ty) × (meanings h k ps ≡ Some ts)
  params_mean i file item k at [] writes = ([], refl)
  params_mean i file item k at (p ∷ ps) writes =
      let t = type_means i file item k p.type at (writes p.type (inl refl)) in
      let ts = params_mean i file item k at ps (λ w z. writes w (inr z)) in
      (t.0 ∷ ts.0, (λ n. option_and_then (λ u. option_map (λ us. u ∷ us) (ts.1 n)) (t.1 n)))

  order : (i j : ℕ) → (i < j) ⊎ ((i ≡ j) ⊎ (j < i))
  order i j = grind arith

  -- a class is declared once
  pub one_class : (i j f g : ℕ) (c d : DeclaredClass) → At declarations i f (class_item c) → At declarations j g (class_item d) → c.key ≡ d.key → i ≡ j
  one_class i j f g c d at_c at_d e = elim (order i j) [
    | inl lt ↦ absurd (clean kind.TwiceClass (record { file = g; at = d.at }) (j, d, at_d, refl, inl (i, f, c, lt, at_c, e)))
    | inr (inl same) ↦ same
    | inr (inr lt) ↦ absurd (clean kind.TwiceClass (record { file = f; at = c.at }) (i, c, at_c, refl, inl (j, g, d, lt, at_d, sym e)))
  ]

  -- a member is declared once
  not_twice : (i j f g : ℕ) (l m : Item) → i < j → At declarations i f l → At declarations j g m → SameMember declarations l m → ⊥
  not_twice i j f g l m lt at_l at_m same = clean kind.TwiceMember (record { file = g; at = name_at m }) (j, m, at_m, inl (i, f, l, lt, at_l, same, refl))

  module _ (headed : AreHeaded declarations) where
    class_says : (i f : ℕ) (c : DeclaredClass) → At declarations i f (class_item c) → c.has_ctor ≡ false → (j g : ℕ) (k : DeclaredCtor) → At declarations j g (ctor_item k) → c.key ≡ k.of → ⊥
    class_says i f c at lacks j g k at_k e =
        let d = headed.ctors j g k at_k in
        let same = one_class i d.1.number f d.1.file c d.0 at (record { stands = d.1.stands }) (e ∙ sym d.1.is) in
        let item = (one_declaration declarations i f d.1.file (class_item c) (class_item d.0) at.stands (ap (slice_get declarations) same ∙ d.1.stands)).1 in
        let has : c.has_ctor ≡ true = ap (λ (x : DeclaredClass). x.has_ctor) (declaration_is c d.0 item) ∙ d.2 in
        absurd cc
      where
        declaration_is : (x y : DeclaredClass) → class_item x ≡ class_item y → x ≡ y
        declaration_is x y e = cc

    with_params : (k : ClassKey) (ps : List DeclaredParam) (ts : List Ty) → meanings h k ps ≡ Some ts → param_types h k ps ≡ ts
    with_params k ps ts e = ap (λ o. unwrap_or o []) e

    -- two items declare different things
    class_apart : (i f : ℕ) (c : DeclaredClass) → At declarations i f (class_item c) → (j g : ℕ) (m : Item) → At declarations j g m → (i ≡ j → ⊥)
        → (r s : Row) → In (rows_of_item h (class_item c)) r → In (rows_of_item h m) s → r.decl ≡ s.decl → ⊥
    class_apart i f c at j g (class_item d) at_d differ r s k l e = elim (in_class_rows h c c.has_ctor r k) [
      | inl a ↦ elim (in_class_rows h d d.has_ctor s l) [
        | inl b ↦ (let z = ap (λ (x : Row). x.decl) a ∙ e ∙ sym (ap (λ (x : Row). x.decl) b) in differ (one_class i j f g c d at at_d cc))
        | inr b ↦ (let z = ap (λ (x : Row). x.decl) a ∙ e ∙ sym (ap (λ (x : Row). x.decl) b.1) in absurd cc)
      ]
      | inr a ↦ elim (in_class_rows h d d.has_ctor s l) [
        | inl b ↦ (let z = ap (λ (x : Row). x.decl) a.1 ∙ e ∙ sym (ap (λ (x : Row). x.decl) b) in absurd cc)
        | inr b ↦ (let z = ap (λ (x : Row). x.decl) a.1 ∙ e ∙ sym (ap (λ (x : Row). x.decl) b.1) in differ (one_class i j f g c d at at_d (ap (λ (x : Decl). class_of x) z)))
      ]
    ]
    class_apart i f c at j g (field_item m) at_m differ r s k l e = elim (in_class_rows h c c.has_ctor r k) [
      | inl a ↦ (let z = ap (λ (x : Row). x.decl) a ∙ e ∙ sym (ap (λ (x : Row). x.decl) (only h (field_row h m) s l)) in absurd cc)
      | inr a ↦ (let z = ap (λ (x : Row). x.decl) a.1 ∙ e ∙ sym (ap (λ (x : Row). x.decl) (only h (field_row h m) s l)) in absurd cc)
    ]
    class_apart i f c at j g (method_item m) at_m differ r s k l e = elim (in_class_rows h c c.has_ctor r k) [
      | inl a ↦ (let z = ap (λ (x : Row). x.decl) a ∙ e ∙ sym (ap (λ (x : Row). x.decl) (only h (method_row h m) s l)) in absurd cc)
      | inr a ↦ (let z = ap (λ (x : Row). x.decl) a.1 ∙ e ∙ sym (ap (λ (x : Row). x.decl) (only h (method_row h m) s l)) in absurd cc)
    ]
    class_apart i f c at j g (ctor_item m) at_m differ r s k l e = elim (in_class_rows h c c.has_ctor r k) [
      | inl a ↦ (let z = ap (λ (x : Row). x.decl) a ∙ e ∙ sym (ap (λ (x : Row). x.decl) (only h (ctor_row h m) s l)) in absurd cc)
      | inr a ↦ (let z = ap (λ (x : Row). x.decl) a.1 ∙ e ∙ sym (ap (λ (x : Row). x.decl) (only h (ctor_row h m) s l)) in class_says i f c at a.0 j g m at_m (ap (λ (x : Decl). class_of x) z))
    ]

    field_key_of : (x y : FieldKey) → field_decl x ≡ field_decl y → x ≡ y
    field_key_of x y e = cc

    method_key_of : (x y : MethodKey) → method_decl x ≡ method_decl y → x ≡ y
    method_key_of x y e = cc

    ctor_key_of : (x y : CtorKey) → constructor_decl x ≡ constructor_decl y → x ≡ y
    ctor_key_of x y e = cc

    fields_apart : (i j f g : ℕ) (x y : DeclaredField) → i < j → At declarations i f (field_item x) → At declarations j g (field_item y) → (field_row h x).decl ≡ (field_row h y).decl → ⊥
    fields_apart i j f g x y lt at_x at_y e = let k = field_key_of _ _ e in
        not_twice i j f g (field_item x) (field_item y) lt at_x at_y (ap (λ (z : FieldKey). z.class) k, ap (λ (z : FieldKey). z.name) k)

    methods_apart : (i j f g : ℕ) (x y : DeclaredMethod) → i < j → At declarations i f (method_item x) → At declarations j g (method_item y) → (method_row h x).decl ≡ (method_row h y).decl → ⊥
    methods_apart i j f g x y lt at_x at_y e =
        let k = method_key_of _ _ e in
        let p = params_mean i f (method_item x) x.of at_x x.params (λ w z. (refl, inr z)) in
        let q = params_mean j g (method_item y) y.of at_y y.params (λ w z. (refl, inr z)) in
        let types = sym (with_params x.of x.params p.0 p.1) ∙ ap (λ (z : MethodKey). z.params) k ∙ with_params y.of y.params q.0 q.1 in
        not_twice i j f g (method_item x) (method_item y) lt at_x at_y
        (same_member declarations h means (method_item x) (method_item y) (record { of = x.of; name = Some x.name; params = Some p.0 })
        (ap (option_map (λ ts. record { of = x.of; name = Some x.name; params = Some ts })) p.1)
        (ap (option_map (λ ts. record { of = y.of; name = Some y.name; params = Some ts })) q.1
        ∙ (λ n. Some (record { of = sym (ap (λ (z : MethodKey). z.class) k) n; name = Some (sym (ap (λ (z : MethodKey). z.name) k) n); params = Some (sym types n) }))))

    ctors_apart : (i j f g : ℕ) (x y : DeclaredCtor) → i < j → At declarations i f (ctor_item x) → At declarations j g (ctor_item y) → (ctor_row h x).decl ≡ (ctor_row h y).decl → ⊥
    ctors_apart i j f g x y lt at_x at_y e =
        let k = ctor_key_of _ _ e in
        let p = params_mean i f (ctor_item x) x.of at_x x.params (λ w z. (refl, z)) in
        let q = params_mean j g (ctor_item y) y.of at_y y.params (λ w z. (refl, z)) in
        let types = sym (with_params x.of x.params p.0 p.1) ∙ ap (λ (z : CtorKey). z.params) k ∙ with_params y.of y.params q.0 q.1 in
        not_twice i j f g (ctor_item x) (ctor_item y) lt at_x at_y
        (same_member declarations h means (ctor_item x) (ctor_item y) (record { of = x.of; name = None; params = Some p.0 })
        (ap (option_map (λ ts. record { of = x.of; name = None; params = Some ts })) p.1)
        (ap (option_map (λ ts. record { of = y.of; name = None; params = Some ts })) q.1
        ∙ (λ n. Some (record { of = sym (ap (λ (z : CtorKey). z.class) k) n; name = None; params = Some (sym types n) }))))

    items_apart : (i j f g : ℕ) (l m : Item) → i < j → At declarations i f l → At declarations j g m → (r s : Row) → In (rows_of_item h l) r → In (rows_of_item h m) s → r.decl ≡ s.decl → ⊥
    items_apart i j f g (class_item c) m lt at_l at_m r s k l e = class_apart i f c at_l j g m at_m (λ same. omega (arith, same, lt)) r s k l e
    items_apart i j f g (field_item x) (class_item d) lt at_l at_m r s k l e = class_apart j g d at_m i f (field_item x) at_l (λ same. omega (arith, same, lt)) s r l k (sym e)
    items_apart i j f g (method_item x) (class_item d) lt at_l at_m r s k l e = class_apart j g d at_m i f (method_item x) at_l (λ same. omega (arith, same, lt)) s r l k (sym e)
    items_apart i j f g (ctor_item x) (class_item d) lt at_l at_m r s k l e = class_apart j g d at_m i f (ctor_item x) at_l (λ same. omega (arith, same, lt)) s r l k (sym e)
    items_apart i j f g (field_item x) (field_item y) lt at_l at_m r s k l e =
        fields_apart i j f g x y lt at_l at_m (ap (λ (z : Row). z.decl) (only h (field_row h x) r k) ∙ e ∙ sym (ap (λ (z : Row). z.decl) (only h (field_row h y) s l)))
    items_apart i j f g (method_item x) (method_item y) lt at_l at_m r s k l e =
        methods_apart i j f g x y lt at_l at_m (ap (λ (z : Row). z.decl) (only h (method_row h x) r k) ∙ e ∙ sym (ap (λ (z : Row). z.decl) (only h (method_row h y) s l)))
    items_apart i j f g (ctor_item x) (ctor_item y) lt at_l at_m r s k l e =
        ctors_apart i j f g x y lt at_l at_m (ap (λ (z : Row). z.decl) (only h (ctor_row h x) r k) ∙ e ∙ sym (ap (λ (z : Row). z.decl) (only h (ctor_row h y) s l)))
    items_apart i j f g (field_item x) (method_item y) lt at_l at_m r s k l e =
        let z = ap (λ (z : Row). z.decl) (only h (field_row h x) r k) ∙ e ∙ sym (ap (λ (z : Row). z.decl) (only h (method_row h y) s l)) in absurd cc
    items_apart i j f g (field_item x) (ctor_item y) lt at_l at_m r s k l e =
        let z = ap (λ (z : Row). z.decl) (only h (field_row h x) r k) ∙ e ∙ sym (ap (λ (z : Row). z.decl) (only h (ctor_row h y) s l)) in absurd cc
    items_apart i j f g (method_item x) (field_item y) lt at_l at_m r s k l e =
        let z = ap (λ (z : Row). z.decl) (only h (method_row h x) r k) ∙ e ∙ sym (ap (λ (z : Row). z.decl) (only h (field_row h y) s l)) in absurd cc
    items_apart i j f g (method_item x) (ctor_item y) lt at_l at_m r s k l e =
        let z = ap (λ (z : Row). z.decl) (only h (method_row h x) r k) ∙ e ∙ sym (ap (λ (z : Row). z.decl) (only h (ctor_row h y) s l)) in absurd cc
    items_apart i j f g (ctor_item x) (field_item y) lt at_l at_m r s k l e =
        let z = ap (λ (z : Row). z.decl) (only h (ctor_row h x) r k) ∙ e ∙ sym (ap (λ (z : Row). z.decl) (only h (field_row h y) s l)) in absurd cc
    items_apart i j f g (ctor_item x) (method_item y) lt at_l at_m r s k l e =
        let z = ap (λ (z : Row). z.decl) (only h (ctor_row h x) r k) ∙ e ∙ sym (ap (λ (z : Row). z.decl) (only h (method_row h y) s l)) in absurd cc

    own_apart_item : (item : Item) → Apart (rows_of_item h item)
    own_apart_item (class_item c) = by c.has_ctor
      where
        by : (b : Bool) → Apart (class_rows h c b)
        by true = ((λ x z e. z), tt)
        by false = ((λ x z e. elim z [ inl s ↦ (let t = e ∙ sym (ap (λ (y : Row). y.decl) s) in absurd cc) | inr w ↦ w ]), ((λ x z e. z), tt))
    own_apart_item (field_item x) = ((λ x z e. z), tt)
    own_apart_item (method_item x) = ((λ x z e. z), tt)
    own_apart_item (ctor_item x) = ((λ x z e. z), tt)

    -- those of the declarations from n on
    rest_apart : (n : ℕ) (ss : List DeclaredItem) → ((i : ℕ) (s : DeclaredItem) → slice_get ss i ≡ Some s → slice_get declarations (n + i) ≡ Some s) → Apart (rows_of_declarations h ss)
    rest_apart n [] stands = tt
    rest_apart n (s ∷ ss) stands = apart_join (rows_of_item h s.item) (rows_of_declarations h ss) (own_apart_item s.item)
        (rest_apart (n + 1) ss (λ i t e. subst (λ m. slice_get declarations m ≡ Some t) (omega arith) (stands (suc i) t e)))
        (λ r t k l e. let p = item_of_row h ss t l in
        items_apart (n + 0) (n + suc p.0) s.file p.1.file s.item p.1.item (omega arith) (record { stands = stands 0 s refl }) (record { stands = stands (suc p.0) p.1 p.2 }) r t k p.3 e)

    -- whose rows are of which classes
    owner_of_row : (i f : ℕ) (item : Item) → At declarations i f item → (r : Row) → In (rows_of_item h item) r → IsDeclared declarations (class_of r.decl)
    owner_of_row i f (class_item c) at r k = subst (IsDeclared declarations) (elim (in_class_rows h c c.has_ctor r k)
        [ inl a ↦ ap (λ (x : Row). class_of x.decl) a | inr a ↦ ap (λ (x : Row). class_of x.decl) a.1 ])
        (c, record { number = i; file = f; stands = at.stands; is = refl })
    owner_of_row i f (field_item x) at r k = subst (IsDeclared declarations) (ap (λ (y : Row). class_of y.decl) (only h (field_row h x) r k)) (headed.owned i f (field_item x) x.of at refl)
    owner_of_row i f (method_item x) at r k = subst (IsDeclared declarations) (ap (λ (y : Row). class_of y.decl) (only h (method_row h x) r k)) (headed.owned i f (method_item x) x.of at refl)
    owner_of_row i f (ctor_item x) at r k = subst (IsDeclared declarations) (ap (λ (y : Row). class_of y.decl) (only h (ctor_row h x) r k)) (headed.owned i f (ctor_item x) x.of at refl)

    pub declared_row : (r : Row) → In (rows_of_declarations h declarations) r → IsDeclared declarations (class_of r.decl)
    declared_row r k = let p = item_of_row h declarations r k in owner_of_row p.0 p.1.file p.1.item (record { stands = p.2 }) r p.3

    -- no class of the program has a name of the prelude
    unreserved : (k : ClassKey) → IsDeclared declarations k → IsPreludeClass k.name → ⊥
    unreserved k (c, d) p = clean kind.PreludeName (record { file = d.file; at = c.at }) (
      d.number,
      c,
      record { stands = d.stands },
      inl (subst (λ (x : ClassKey). IsPreludeClass x.name) (sym d.is) p),
      refl,
    )

    pub rows_apart : Apart (prelude_rows ++ rows_of_declarations h declarations)
    rows_apart = apart_join prelude_rows (rows_of_declarations h declarations) prelude_apart (rest_apart 0 declarations (λ i s e. subst (λ m. slice_get declarations m ≡ Some s) (omega arith) e))
        (λ x y k l e. unreserved (class_of y.decl) (declared_row y l) (subst (λ d. IsPreludeClass (class_of d).name) e (prelude_names x k)))
