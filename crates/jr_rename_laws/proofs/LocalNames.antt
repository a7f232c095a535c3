-- Where a local or parameter is renamed, which collides with nothing, no two members and no two
-- parameters of one member get one name.
use Rattle.std.proofs.Common.{◌≡◌, ℕ, zero, suc, ◌+◌, List, [], ◌∷◌, Option, Some, Bool, true, false, refl, sym, ap, subst, ◌∙◌, inl, inr, arith}
use Rattle.std.specs.Prelude.{map, slice_get}
use Rattle.std.proofs.lemmas.Option.{slice_get-map}
use Rattle.jr_ast.specs.Tree as tree
use Rattle.jr_ast.specs.StatementTree as statement
use Rattle.jr_ast.specs.MemberTree as syntax
use Rattle.jr_table.specs.declared.kinds.DeclKind.TheVariants as kind
use Rattle.jr_table.specs.Keys.{ClassKey, FieldKey, MethodKey, Ty}
use Rattle.jr_table.specs.Decls.{MemberKey, method, constructor, LocalKey, field_decl, method_decl, local_decl}
use Rattle.jr_table.specs.Rows.{Row}
use Rattle.jr_table.specs.DeclaredItems.{DeclaredParam, DeclaredClass, DeclaredField, DeclaredMethod, DeclaredCtor, Item, class_item, field_item, method_item, ctor_item, DeclaredItem, param_declaration, member_declarations, class_declarations, declarations_of}
use Rattle.jr_table.specs.ProgramRows.{MeanTypes}
use Rattle.jr_table.specs.Faults.{PackageLine, name_at, SameTypes, SameMember, params_of, ParamTwice, HasItsName, IsClean}
use Rattle.jr_table.specs.Errors.{Part, member_part, Declares, InUnits}
use Rattle.jr_images.specs.Families.{AreRenamed}
use Rattle.jr_images.specs.Images.{Renaming, is_renamed, name_to}
use Rattle.jr_images.specs.Clashes.{HasParameter, HasLocal, IsUnder, IsLocalNamed, Under, IsClear}
use Rattle.jr_images.proofs.KeyImages.{keeps_name}
use Rattle.jr_images.proofs.Imaging.{map_some}
use Rattle.jr_rename_laws.proofs.SameClasses.{alike_back, means_goes}
use Rattle.jr_rename_laws.proofs.Still.{with_target, without_target, gets_name}
use Rattle.jr_rename_laws.proofs.DeclarationImages.{ParamsTo, FieldTo, MethodTo, CtorTo, ItemTo, DeclarationsTo, Beside, classes_forth, classes_back}
use Rattle.jr_rename_laws.proofs.DeclarationMembers.{of_declaration}
use Rattle.jr_rename_laws.proofs.CleanImages.{NamesAreClear}

-- ---- what an item of a kind stands beside

module _ (g : Renaming) (ss : List DeclaredItem) where
  pub field_beside : (x : Item) (d : DeclaredField) → ItemTo g ss x (field_item d) → (c : DeclaredField) × (x ≡ field_item c) × FieldTo g c d
  field_beside (class_item c) d h = absurd h
  field_beside (field_item c) d h = (c, refl, h)
  field_beside (method_item c) d h = absurd h
  field_beside (ctor_item c) d h = absurd h

  pub method_beside : (x : Item) (d : DeclaredMethod) → ItemTo g ss x (method_item d) → (c : DeclaredMethod) × (x ≡ method_item c) × MethodTo g ss c d
  method_beside (class_item c) d h = absurd h
  method_beside (field_item c) d h = absurd h
  method_beside (method_item c) d h = (c, refl, h)
  method_beside (ctor_item c) d h = absurd h

  pub ctor_beside : (x : Item) (d : DeclaredCtor) → ItemTo g ss x (ctor_item d) → (c : DeclaredCtor) × (x ≡ ctor_item c) × CtorTo g ss c d
  ctor_beside (class_item c) d h = absurd h
  ctor_beside (field_item c) d h = absurd h
  ctor_beside (method_item c) d h = absurd h
  ctor_beside (ctor_item c) d h = (c, refl, h)

  -- the old parameter of a number
  pub param_at : (k : MemberKey) (n : ℕ) (ps qs : List DeclaredParam) → ParamsTo g k n ps qs → (i j : ℕ) (q : DeclaredParam) → j ≡ n + i → slice_get qs i ≡ Some q
      → (p : DeclaredParam) × (slice_get ps i ≡ Some p) × (q.name ≡ name_to g (local_decl (record { member = k; number = j })) p.name)
  param_at k n [] [] h i j q is at = absurd cc
  param_at k n [] (y ∷ qs) h i j q is at = absurd h
  param_at k n (x ∷ ps) [] h i j q is at = absurd h
  param_at k n (x ∷ ps) (y ∷ qs) h zero j q is at =
      let same : y ≡ q = cc in
      let number : n ≡ j = omega (arith, is) in
      (x, refl, sym (ap (λ (z : DeclaredParam). z.name) same) ∙ h.1 ∙ ap (λ (m : ℕ). name_to g (local_decl (record { member = k; number = m })) x.name) number)
  param_at k n (x ∷ ps) (y ∷ qs) h (suc i) j q is at = param_at k (suc n) ps qs h.2 i j q (omega (arith, is)) at

module _ (g : Renaming) (ss ts : List DeclaredItem) (to : DeclarationsTo g ss ss ts) where
  pub types_back : (k : ClassKey) (u v : MemberKey) (m n : ℕ) (ps qs rs zs : List DeclaredParam) → ParamsTo g u m ps qs → ParamsTo g v n rs zs → SameTypes ts k qs zs → SameTypes ss k ps rs
  types_back k u v m n [] [] [] [] a b h = tt
  types_back k u v m n [] [] [] (z ∷ zs) a b h = absurd b
  types_back k u v m n [] [] (r ∷ rs) [] a b h = absurd b
  types_back k u v m n [] [] (r ∷ rs) (z ∷ zs) a b h = absurd h
  types_back k u v m n [] (q ∷ qs) rs zs a b h = absurd a
  types_back k u v m n (p ∷ ps) [] rs zs a b h = absurd a
  types_back k u v m n (p ∷ ps) (q ∷ qs) [] [] a b h = absurd h
  types_back k u v m n (p ∷ ps) (q ∷ qs) [] (z ∷ zs) a b h = absurd b
  types_back k u v m n (p ∷ ps) (q ∷ qs) (r ∷ rs) [] a b h = absurd b
  types_back k u v m n (p ∷ ps) (q ∷ qs) (r ∷ rs) (z ∷ zs) a b (t, h) = (
    (
      t.0,
      means_goes ts ss (classes_back g ss ss ts to) (classes_forth g ss ss ts to) k q.type p.type t.0 (alike_back p.type q.type a.0) t.1,
      means_goes ts ss (classes_back g ss ss ts to) (classes_forth g ss ss ts to) k z.type r.type t.0 (alike_back r.type z.type b.0) t.2,
    ),
    types_back k u v (suc m) (suc n) ps qs rs zs a.2 b.2 h,
  )

  -- members of one name and types had them before, where their names are as they were
  module _ (fields : (k : FieldKey) → is_renamed g (field_decl k) ≡ false) (methods : (k : MethodKey) → is_renamed g (method_decl k) ≡ false) where
    field_name : (c d : DeclaredField) → FieldTo g c d → d.name ≡ c.name
    field_name c d h = h.name ∙ keeps_name g (field_decl (record { class = c.of; name = c.name })) c.name (fields (record { class = c.of; name = c.name }))

    method_name : (c d : DeclaredMethod) → MethodTo g ss c d → d.name ≡ c.name
    method_name c d h = h.name ∙ keeps_name g (method_decl (record { class = c.of; name = c.name; params = h.types })) c.name (methods (record { class = c.of; name = c.name; params = h.types }))

    same_back : (x y a b : Item) → ItemTo g ss x a → ItemTo g ss y b → SameMember ts a b → SameMember ss x y
    same_back x y (class_item a) b h i s = absurd s
    same_back x y (field_item a) (class_item b) h i s = absurd s
    same_back x y (field_item a) (field_item b) h i s =
        let c = field_beside g ss x a h in
        let d = field_beside g ss y b i in
        subst (λ (z : Item). SameMember ss z y) (sym c.1) (subst (λ (z : Item). SameMember ss (field_item c.0) z) (sym d.1)
        (sym c.2.of ∙ s.0 ∙ d.2.of, sym (field_name c.0 a c.2) ∙ s.1 ∙ field_name d.0 b d.2))
    same_back x y (field_item a) (method_item b) h i s = absurd s
    same_back x y (field_item a) (ctor_item b) h i s = absurd s
    same_back x y (method_item a) (class_item b) h i s = absurd s
    same_back x y (method_item a) (field_item b) h i s = absurd s
    same_back x y (method_item a) (method_item b) h i s =
        let c = method_beside g ss x a h in
        let d = method_beside g ss y b i in
        subst (λ (z : Item). SameMember ss z y) (sym c.1) (subst (λ (z : Item). SameMember ss (method_item c.0) z) (sym d.1) (
          sym c.2.of ∙ s.0 ∙ d.2.of,
          sym (method_name c.0 a c.2) ∙ s.1 ∙ method_name d.0 b d.2,
          types_back c.0.of (method (record { class = c.0.of; name = c.0.name; params = c.2.types })) (method (record { class = d.0.of; name = d.0.name; params = d.2.types })) 0 0 c.0.params a.params d.0.params b.params c.2.params d.2.params
              (subst (λ (k : ClassKey). SameTypes ts k a.params b.params) c.2.of s.2),
        ))
    same_back x y (method_item a) (ctor_item b) h i s = absurd s
    same_back x y (ctor_item a) (class_item b) h i s = absurd s
    same_back x y (ctor_item a) (field_item b) h i s = absurd s
    same_back x y (ctor_item a) (method_item b) h i s = absurd s
    same_back x y (ctor_item a) (ctor_item b) h i s =
        let c = ctor_beside g ss x a h in
        let d = ctor_beside g ss y b i in
        subst (λ (z : Item). SameMember ss z y) (sym c.1) (subst (λ (z : Item). SameMember ss (ctor_item c.0) z) (sym d.1) (
          sym c.2.of ∙ s.0 ∙ d.2.of,
          types_back c.0.of (constructor (record { class = c.0.of; params = c.2.types })) (constructor (record { class = d.0.of; params = d.2.types })) 0 0 c.0.params a.params d.0.params b.params c.2.params d.2.params
              (subst (λ (k : ClassKey). SameTypes ts k a.params b.params) c.2.of s.1),
        ))

    its_name_back : (c d : DeclaredClass) (y b : Item) → d.key ≡ c.key → ItemTo g ss y b → HasItsName d.key b → HasItsName c.key y
    its_name_back c d y (class_item b) key i s = absurd s
    its_name_back c d y (field_item b) key i s =
        let e = field_beside g ss y b i in
        subst (HasItsName c.key) (sym e.1) (
          ap (λ (k : ClassKey). k.outer) (sym e.2.of) ∙ s.0,
          ap (λ (k : ClassKey). k.outer) (sym key) ∙ s.1 ∙ ap (λ (k : ClassKey). Some k.name) e.2.of,
          sym (field_name e.0 b e.2) ∙ s.2 ∙ ap (λ (k : ClassKey). k.name) key,
        )
    its_name_back c d y (method_item b) key i s =
        let e = method_beside g ss y b i in
        subst (HasItsName c.key) (sym e.1) (
          ap (λ (k : ClassKey). k.outer) (sym e.2.of) ∙ s.0,
          ap (λ (k : ClassKey). k.outer) (sym key) ∙ s.1 ∙ ap (λ (k : ClassKey). Some k.name) e.2.of,
          sym (method_name e.0 b e.2) ∙ s.2 ∙ ap (λ (k : ClassKey). k.name) key,
        )
    its_name_back c d y (ctor_item b) key i s = absurd s

-- ---- the member of a declaration

module _ {A : Type 0} (begins : A → ℕ → ℕ) (units : List (syntax.Unit A)) where
  abbrev all : List DeclaredItem
  all = declarations_of begins units

  has_param : (at n : ℕ) (ps : List (syntax.Param A)) (s : DeclaredParam) → slice_get (map (param_declaration begins at) ps) n ≡ Some s → HasParameter begins ps n s.name
  has_param at n ps s e =
      let r = map_some (param_declaration begins at) (slice_get ps n) s (sym (slice_get-map (param_declaration begins at) ps n) ∙ e) in
      (r.0, r.1, ap (λ (z : DeclaredParam). z.name) r.2)

  first_item : (x y : Item) (xs ys : List Item) → x ∷ xs ≡ y ∷ ys → x ≡ y
  first_item x y xs ys e = let p : x ≡ y = cc in p

  abbrev method_in : DeclaredMethod → Item → DeclaredMethod
  method_in d (class_item c) = d
  method_in d (field_item c) = d
  method_in d (method_item c) = c
  method_in d (ctor_item c) = d

  abbrev ctor_in : DeclaredCtor → Item → DeclaredCtor
  ctor_in d (class_item c) = d
  ctor_in d (field_item c) = d
  ctor_in d (method_item c) = d
  ctor_in d (ctor_item c) = c

  module _ (P : MemberKey → (base : ℕ) → Part A → Type 0) (us : List Ty) (i file : ℕ) where
    -- a method
    module _ (m : DeclaredMethod) (mean : MeanTypes all m.of m.params us)
        (has : (base : ℕ) (a : A) (mods : List (syntax.Modifier A)) (t : Option (tree.TypeName A)) (w : tree.Word A) (ps : List (syntax.Param A)) (body : statement.Stmts A)
        → map (param_declaration begins (begins a base)) ps ≡ m.params → P (method (record { class = m.of; name = m.name; params = us })) base (member_part (syntax.method a mods t w ps body))) where
      method_part : (base : ℕ) (of : ClassKey) (x : syntax.Member A) → member_declarations begins base of x ≡ method_item m ∷ [] → (W : MemberKey → Type 0)
          → ((k : MemberKey) → Declares begins all base of x k → P k base (member_part x) → W k) → W (method (record { class = m.of; name = m.name; params = us }))
      unfolding member_declarations class_declarations
      method_part base of (syntax.field a mods t w init) e W go = let p = first_item _ _ _ _ e in absurd cc
      method_part base of (syntax.method a mods t w ps body) e W go =
          let p = first_item _ _ _ _ e in
          let q = ap (method_in m) p in
          go (method (record { class = m.of; name = m.name; params = us }))
          (us, subst (λ (z : DeclaredMethod). MeanTypes all z.of z.params us) (sym q) mean, ap (λ (z : DeclaredMethod). method (record { class = z.of; name = z.name; params = us })) (sym q))
          (has base a mods t w ps body (ap (λ (z : DeclaredMethod). z.params) q))
      method_part base of (syntax.constructor a mods w ps args body) e W go = let p = first_item _ _ _ _ e in absurd cc
      method_part base of (syntax.inner a (syntax.class b mods w t ms)) e W go = let p = first_item _ _ _ _ e in absurd cc

      pub in_method : slice_get all i ≡ Some (record { file = file; item = method_item m }) → InUnits begins all P units (method (record { class = m.of; name = m.name; params = us }))
      in_method at = let r = of_declaration begins all P (method_item m) (λ c e. absurd cc) units i file at in method_part r.base r.of r.part r.is (InUnits begins all P units) r.whole

    -- a constructor
    module _ (m : DeclaredCtor) (mean : MeanTypes all m.of m.params us)
        (has : (base : ℕ) (a : A) (mods : List (syntax.Modifier A)) (w : tree.Word A) (ps : List (syntax.Param A)) (args : Option (tree.Exps A)) (body : statement.Stmts A)
        → map (param_declaration begins (begins a base)) ps ≡ m.params → P (constructor (record { class = m.of; params = us })) base (member_part (syntax.constructor a mods w ps args body))) where
      ctor_part : (base : ℕ) (of : ClassKey) (x : syntax.Member A) → member_declarations begins base of x ≡ ctor_item m ∷ [] → (W : MemberKey → Type 0)
          → ((k : MemberKey) → Declares begins all base of x k → P k base (member_part x) → W k) → W (constructor (record { class = m.of; params = us }))
      unfolding member_declarations class_declarations
      ctor_part base of (syntax.field a mods t w init) e W go = let p = first_item _ _ _ _ e in absurd cc
      ctor_part base of (syntax.method a mods t w ps body) e W go = let p = first_item _ _ _ _ e in absurd cc
      ctor_part base of (syntax.constructor a mods w ps args body) e W go =
          let p = first_item _ _ _ _ e in
          let q = ap (ctor_in m) p in
          go (constructor (record { class = m.of; params = us }))
          (us, subst (λ (z : DeclaredCtor). MeanTypes all z.of z.params us) (sym q) mean, ap (λ (z : DeclaredCtor). constructor (record { class = z.of; params = us })) (sym q))
          (has base a mods w ps args body (ap (λ (z : DeclaredCtor). z.params) q))
      ctor_part base of (syntax.inner a (syntax.class b mods w t ms)) e W go = let p = first_item _ _ _ _ e in absurd cc

      pub in_ctor : slice_get all i ≡ Some (record { file = file; item = ctor_item m }) → InUnits begins all P units (constructor (record { class = m.of; params = us }))
      in_ctor at = let r = of_declaration begins all P (ctor_item m) (λ c e. absurd cc) units i file at in ctor_part r.base r.of r.part r.is (InUnits begins all P units) r.whole

  -- ---- two parameters of one name

  -- of these parameters of the member the one is the local, and the other has the name
  module _ (rows : List Row) (k : LocalKey) (u : MemberKey) (ps : List DeclaredParam) where
    abbrev Declared : Type 0
    Declared = (n : ℕ) (s : DeclaredParam) → k.member ≡ u → k.number ≡ n → slice_get ps n ≡ Some s → IsLocalNamed begins rows units k s.name

    abbrev Beneath : Type 0
    Beneath = (n l : ℕ) (s z : DeclaredParam) → k.member ≡ u → k.number ≡ n → slice_get ps n ≡ Some s → slice_get ps l ≡ Some z
        → Under begins rows units k s.name (record { member = u; number = l }) z.name

  method_declares : (rows : List Row) (k : LocalKey) (us : List Ty) (i file : ℕ) (m : DeclaredMethod) → MeanTypes all m.of m.params us → slice_get all i ≡ Some (record { file = file; item = method_item m })
      → Declared rows k (method (record { class = m.of; name = m.name; params = us })) m.params
  method_declares rows k us i file m mean at n s own is there = (
    method (record { class = m.of; name = m.name; params = us }),
    in_method (λ j b part. HasLocal begins k s.name j b part) us i file m mean
        (λ base a mods t w ps body e. inl (own, subst (λ (x : ℕ). HasParameter begins ps x s.name) (sym is) (has_param (begins a base) n ps s (ap (λ (x : List DeclaredParam). slice_get x n) e ∙ there)))) at,
  )

  method_beneath : (rows : List Row) (k : LocalKey) (us : List Ty) (i file : ℕ) (m : DeclaredMethod) → MeanTypes all m.of m.params us → slice_get all i ≡ Some (record { file = file; item = method_item m })
      → Beneath rows k (method (record { class = m.of; name = m.name; params = us })) m.params
  method_beneath rows k us i file m mean at n l s z own is there other = (
    method (record { class = m.of; name = m.name; params = us }),
    in_method (λ j b part. IsUnder begins k s.name (record { member = method (record { class = m.of; name = m.name; params = us }); number = l }) z.name j b part) us i file m mean
        (λ base a mods t w ps body e. inl (
          own,
          refl,
          subst (λ (x : ℕ). HasParameter begins ps x s.name) (sym is) (has_param (begins a base) n ps s (ap (λ (x : List DeclaredParam). slice_get x n) e ∙ there)),
          has_param (begins a base) l ps z (ap (λ (x : List DeclaredParam). slice_get x l) e ∙ other),
        )) at,
  )

  ctor_declares : (rows : List Row) (k : LocalKey) (us : List Ty) (i file : ℕ) (m : DeclaredCtor) → MeanTypes all m.of m.params us → slice_get all i ≡ Some (record { file = file; item = ctor_item m })
      → Declared rows k (constructor (record { class = m.of; params = us })) m.params
  ctor_declares rows k us i file m mean at n s own is there = (
    constructor (record { class = m.of; params = us }),
    in_ctor (λ j b part. HasLocal begins k s.name j b part) us i file m mean
        (λ base a mods w ps args body e. inl (own, subst (λ (x : ℕ). HasParameter begins ps x s.name) (sym is) (has_param (begins a base) n ps s (ap (λ (x : List DeclaredParam). slice_get x n) e ∙ there)))) at,
  )

  ctor_beneath : (rows : List Row) (k : LocalKey) (us : List Ty) (i file : ℕ) (m : DeclaredCtor) → MeanTypes all m.of m.params us → slice_get all i ≡ Some (record { file = file; item = ctor_item m })
      → Beneath rows k (constructor (record { class = m.of; params = us })) m.params
  ctor_beneath rows k us i file m mean at n l s z own is there other = (
    constructor (record { class = m.of; params = us }),
    in_ctor (λ j b part. IsUnder begins k s.name (record { member = constructor (record { class = m.of; params = us }); number = l }) z.name j b part) us i file m mean
        (λ base a mods w ps args body e. inl (
          own,
          refl,
          subst (λ (x : ℕ). HasParameter begins ps x s.name) (sym is) (has_param (begins a base) n ps s (ap (λ (x : List DeclaredParam). slice_get x n) e ∙ there)),
          has_param (begins a base) l ps z (ap (λ (x : List DeclaredParam). slice_get x l) e ∙ other),
        )) at,
  )

  module _ (rows : List Row) (k : LocalKey) (g : Renaming) (are : AreRenamed rows (local_decl k) g.decls) (clear : IsClear begins rows units (local_decl k) g.name) where
    one_local : (a b : LocalKey) → local_decl a ≡ local_decl b → a ≡ b
    one_local a b e = let p : a ≡ b = cc in p

    -- the one is renamed, and the other has the new name already
    meets : (u : MemberKey) (ps : List DeclaredParam) → Declared rows k u ps → Beneath rows k u ps → (n l : ℕ) (s z : DeclaredParam) → slice_get ps n ≡ Some s → slice_get ps l ≡ Some z → (n ≡ l → ⊥)
        → local_decl (record { member = u; number = n }) ≡ local_decl k → z.name ≡ g.name → ⊥
    meets u ps declares beneath n l s z there other apart is named =
        let same : k ≡ record { member = u; number = n } = sym (one_local _ _ is) in
        let own : k.member ≡ u = ap (λ (x : LocalKey). x.member) same in
        let number : k.number ≡ n = ap (λ (x : LocalKey). x.number) same in
        clear.alone (local_decl (record { member = u; number = l })) (
          record { member = u; number = l },
          record {
            old = s.name;
            named = declares n s own number there;
            other = λ e. apart (sym number ∙ ap (λ (x : LocalKey). x.number) e);
            meets = inl (subst (Under begins rows units k s.name (record { member = u; number = l })) named (beneath n l s z own number there other));
          },
          refl,
        )

    no_two : (u : MemberKey) (ps qs : List DeclaredParam) → ParamsTo g u 0 ps qs → Declared rows k u ps → Beneath rows k u ps → ((at : ℕ) → ParamTwice ps at → ⊥) → (at : ℕ) → ParamTwice qs at → ⊥
    no_two u ps qs to declares beneath once at h =
        let p = param_at g (declarations_of begins units) u 0 ps qs to h.i h.i h.first (omega arith) h.one in
        let q = param_at g (declarations_of begins units) u 0 ps qs to h.j h.j h.second (omega arith) h.other in
        by p.0 q.0 p.1 q.1 (is_renamed g (local_decl (record { member = u; number = h.i }))) (is_renamed g (local_decl (record { member = u; number = h.j }))) refl refl p.2 q.2
      where
        apart : h.i ≡ h.j → ⊥
        apart e = let less = h.before in omega (arith, e, less)

        away : h.j ≡ h.i → ⊥
        away e = let less = h.before in omega (arith, e, less)

        by : (s z : DeclaredParam) → slice_get ps h.i ≡ Some s → slice_get ps h.j ≡ Some z → (a b : Bool) → is_renamed g (local_decl (record { member = u; number = h.i })) ≡ a → is_renamed g (local_decl (record { member = u; number = h.j })) ≡ b
            → h.first.name ≡ name_to g (local_decl (record { member = u; number = h.i })) s.name → h.second.name ≡ name_to g (local_decl (record { member = u; number = h.j })) z.name → ⊥
        by s z one other false false e f m n =
            once z.at (record {
              i = h.i;
              j = h.j;
              before = h.before;
              first = s;
              second = z;
              one = one;
              other = other;
              same = sym (m ∙ keeps_name g (local_decl (record { member = u; number = h.i })) s.name e) ∙ h.same ∙ n ∙ keeps_name g (local_decl (record { member = u; number = h.j })) z.name f;
              place = refl;
            })
        by s z one other true false e f m n =
            meets u ps declares beneath h.i h.j s z one other apart (with_target rows (local_decl k) g are (local_decl (record { member = u; number = h.i })) e)
            (sym (n ∙ keeps_name g (local_decl (record { member = u; number = h.j })) z.name f) ∙ sym h.same ∙ m ∙ gets_name g (local_decl (record { member = u; number = h.i })) s.name e)
        by s z one other false true e f m n =
            meets u ps declares beneath h.j h.i z s other one away (with_target rows (local_decl k) g are (local_decl (record { member = u; number = h.j })) f)
            (sym (m ∙ keeps_name g (local_decl (record { member = u; number = h.i })) s.name e) ∙ h.same ∙ n ∙ gets_name g (local_decl (record { member = u; number = h.j })) z.name f)
        by s z one other true true e f m n =
            let a = with_target rows (local_decl k) g are (local_decl (record { member = u; number = h.i })) e in
            let b = with_target rows (local_decl k) g are (local_decl (record { member = u; number = h.j })) f in
            apart (ap (λ (x : LocalKey). x.number) (one_local (record { member = u; number = h.i }) (record { member = u; number = h.j }) (a ∙ sym b)))

    module _ (packages : List (Option PackageLine)) (clean : IsClean packages all) (ts : List DeclaredItem) (to : DeclarationsTo g all all ts) where
      fields_stay : (f : FieldKey) → is_renamed g (field_decl f) ≡ false
      fields_stay f = without_target rows (local_decl k) g are (field_decl f) (λ e. absurd cc)

      methods_stay : (m : MethodKey) → is_renamed g (method_decl m) ≡ false
      methods_stay m = without_target rows (local_decl k) g are (method_decl m) (λ e. absurd cc)

      once_in : (i f : ℕ) (x : Item) → slice_get all i ≡ Some (record { file = f; item = x }) → (at : ℕ) → ParamTwice (params_of x) at → ⊥
      once_in i f x there at h = clean kind.TwiceMember (record { file = f; at = at }) (i, x, record { stands = there }, inr h)

      none_twice : (xs : List DeclaredParam) (at : ℕ) → xs ≡ [] → ParamTwice xs at → ⊥
      none_twice xs at e h = let p = sym (ap (λ (y : List DeclaredParam). slice_get y h.i) e) ∙ h.one in absurd cc

      params_clear : (i f at : ℕ) (x a : Item) → Beside g all i f x a all ts → ParamTwice (params_of a) at → ⊥
      params_clear i f at x (class_item a) b h = none_twice [] at refl h
      params_clear i f at x (field_item a) b h = none_twice [] at refl h
      params_clear i f at x (method_item a) b h =
          let c = method_beside g all x a b.to in
          let there : slice_get all i ≡ Some (record { file = f; item = method_item c.0 }) = b.old ∙ ap (λ (z : Item). Some (record { file = f; item = z })) c.1 in
          no_two (method (record { class = c.0.of; name = c.0.name; params = c.2.types })) c.0.params a.params c.2.params
          (method_declares rows k c.2.types i f c.0 c.2.mean there) (method_beneath rows k c.2.types i f c.0 c.2.mean there) (once_in i f (method_item c.0) there) at h
      params_clear i f at x (ctor_item a) b h =
          let c = ctor_beside g all x a b.to in
          let there : slice_get all i ≡ Some (record { file = f; item = ctor_item c.0 }) = b.old ∙ ap (λ (z : Item). Some (record { file = f; item = z })) c.1 in
          no_two (constructor (record { class = c.0.of; params = c.2.types })) c.0.params a.params c.2.params
          (ctor_declares rows k c.2.types i f c.0 c.2.mean there) (ctor_beneath rows k c.2.types i f c.0 c.2.mean there) (once_in i f (ctor_item c.0) there) at h

      pub local_names : NamesAreClear g all ts
      local_names = record {
        twice = λ i j f e x y a b less p q h. clean kind.TwiceMember (record { file = e; at = name_at y })
            (j, y, record { stands = q.old }, inl (i, f, x, less, record { stands = p.old }, same_back g all ts to fields_stay methods_stay x y a b p.to q.to h, refl));
        params = params_clear;
        inner = λ i j f e c d y b p q h. clean kind.MemberTypeName (record { file = f; at = c.at })
            (i, j, e, c, y, record { stands = p.old }, record { stands = q.old }, its_name_back g all ts to fields_stay methods_stay c d y b p.to.key q.to h, refl);
      }
