-- The declarations of programs that stand side by side, and the keys of their members.
use Rattle.std.proofs.Common.{◌≡◌, ℕ, suc, List, [], ◌∷◌, Option, Some, None, refl, sym, ap, subst, ◌∙◌}
use Rattle.std.specs.Prelude.{map}
use Rattle.jr_text.specs.declared.spans.Span.{Span}
use Rattle.jr_ast.specs.MemberTree as syntax
use Rattle.jr_table.specs.Keys.{ClassKey, Ty}
use Rattle.jr_table.specs.Decls.{method_decl}
use Rattle.jr_table.specs.Decls as member
use Rattle.jr_table.specs.Rows.{Row}
use Rattle.jr_table.specs.Context.{Context}
use Rattle.jr_table.specs.DeclaredItems.{DeclaredItem, param_declaration, class_key, writes_ctor, member_declarations, class_declarations, members_declarations, classes_declarations, declarations_from, declarations_of}
use Rattle.jr_table.specs.ProgramRows.{MeanTypes}
use Rattle.jr_table.specs.Faults.{PackageLine, IsClean}
use Rattle.jr_images.specs.Images.{Renaming, name_to, member_to}
use Rattle.jr_rename_laws.specs.Beside.{ClassBeside, MembersBeside, MemberBeside, ClassesBeside, UnitsBeside}
use Rattle.jr_rename_laws.specs.ImageLaws.{IsClassImage, IsMemberImage}
use Rattle.jr_rename_laws.proofs.Still.{class_same, types_same}
use Rattle.jr_program_laws.proofs.MeansOnce.{mean_types_once}
use Rattle.jr_rename_laws.proofs.DeclarationImages.{ItemsTo, DeclarationsTo, items_join, declarations_join}
use Rattle.jr_rename_laws.proofs.RowImages.{mean_to}
use Rattle.jr_rename_laws.proofs.TypesStay.{TypesKeep}
use Rattle.jr_rename_laws.proofs.TreeImages.{HeadTo, MemberTo}

-- ---- what stands side by side in one way does so in another

module _ {A B : Type 0} (begins : A → ℕ → ℕ) (begins' : B → ℕ → ℕ)
    (C D : (b i : ℕ) → (o p : Option (List ℕ)) → syntax.Class A → syntax.Class B → Type 0) (M N : (b i : ℕ) → (of of' : ClassKey) → syntax.Member A → syntax.Member B → Type 0)
    (heads : (b i : ℕ) (o p : Option (List ℕ)) (c : syntax.Class A) (d : syntax.Class B) → C b i o p c d → D b i o p c d)
    (members : (b i : ℕ) (of of' : ClassKey) (x : syntax.Member A) (y : syntax.Member B) → M b i of of' x y → N b i of of' x y) where
  mutual
    unfolding ClassBeside MembersBeside MemberBeside

    class_leads : (b i : ℕ) (o p : Option (List ℕ)) (c : syntax.Class A) (d : syntax.Class B) → ClassBeside begins begins' C M b i o p c d → ClassBeside begins begins' D N b i o p c d
    class_leads b i o p (syntax.class m mods w t ms) (syntax.class k nods v u ns) h = (heads b i o p (syntax.class m mods w t ms) (syntax.class k nods v u ns) h.0, members_lead (begins m b) (begins' k i) (class_key begins o w.text) (class_key begins' p v.text) ms ns h.1)

    members_lead : (b i : ℕ) (of of' : ClassKey) (xs : syntax.Members A) (ys : syntax.Members B) → MembersBeside begins begins' C M b i of of' xs ys → MembersBeside begins begins' D N b i of of' xs ys
    members_lead b i of of' syntax.end syntax.end h = tt
    members_lead b i of of' syntax.end (syntax.more y ys) h = absurd h
    members_lead b i of of' (syntax.more x xs) syntax.end h = absurd h
    members_lead b i of of' (syntax.more x xs) (syntax.more y ys) h = (one_leads b i of of' x y h.0, members_lead b i of of' xs ys h.1)

    one_leads : (b i : ℕ) (of of' : ClassKey) (x : syntax.Member A) (y : syntax.Member B) → MemberBeside begins begins' C M b i of of' x y → MemberBeside begins begins' D N b i of of' x y
    one_leads b i of of' (syntax.field m mods t w init) y h = members b i of of' (syntax.field m mods t w init) y h
    one_leads b i of of' (syntax.method m mods t w ps body) y h = members b i of of' (syntax.method m mods t w ps body) y h
    one_leads b i of of' (syntax.constructor m mods w ps args body) y h = members b i of of' (syntax.constructor m mods w ps args body) y h
    one_leads b i of of' (syntax.inner m c) (syntax.inner k d) h = class_leads (begins m b) (begins' k i) (Some of.name) (Some of'.name) c d h
    one_leads b i of of' (syntax.inner m c) (syntax.field k nods u v form) h = absurd h
    one_leads b i of of' (syntax.inner m c) (syntax.method k nods u v qs rest) h = absurd h
    one_leads b i of of' (syntax.inner m c) (syntax.constructor k nods v qs given rest) h = absurd h

  classes_lead : (b i : ℕ) (cs : List (syntax.Class A)) (ds : List (syntax.Class B)) → ClassesBeside begins begins' C M b i cs ds → ClassesBeside begins begins' D N b i cs ds
  classes_lead b i [] [] h = tt
  classes_lead b i [] (d ∷ ds) h = absurd h
  classes_lead b i (c ∷ cs) [] h = absurd h
  classes_lead b i (c ∷ cs) (d ∷ ds) h = (class_leads b i None None c d h.0, classes_lead b i cs ds h.1)

  pub units_lead : (us : List (syntax.Unit A)) (vs : List (syntax.Unit B)) → UnitsBeside begins begins' C M us vs → UnitsBeside begins begins' D N us vs
  units_lead [] [] h = tt
  units_lead [] (v ∷ vs) h = absurd h
  units_lead (u ∷ us) [] h = absurd h
  units_lead (u ∷ us) (v ∷ vs) h = (classes_lead (begins u.mark 0) (begins' v.mark 0) u.classes v.classes h.0, units_lead us vs h.1)

-- ---- declarations

module _ (rows : List Row) (g : Renaming) (keep : TypesKeep rows g) {A B : Type 0} (tells : A → ℕ → Span) (begins' : B → ℕ → ℕ) (super_at : Context → ℕ) (ss : List DeclaredItem) where
  abbrev begins : A → ℕ → ℕ
  begins m b = (tells m b).from

  abbrev Head : (b i : ℕ) → (o p : Option (List ℕ)) → syntax.Class A → syntax.Class B → Type 0
  Head = HeadTo rows g keep tells begins' super_at ss

  abbrev Each : (b i : ℕ) → (of of' : ClassKey) → syntax.Member A → syntax.Member B → Type 0
  Each = MemberTo rows g keep tells begins' super_at ss

  ctor_same : (b i : ℕ) (of of' : ClassKey) (xs : syntax.Members A) (ys : syntax.Members B) → MembersBeside begins begins' Head Each b i of of' xs ys → writes_ctor begins' ys ≡ writes_ctor begins xs
  unfolding MembersBeside MemberBeside member_declarations class_declarations
  ctor_same b i of of' syntax.end syntax.end h = refl
  ctor_same b i of of' syntax.end (syntax.more y ys) h = absurd h
  ctor_same b i of of' (syntax.more x xs) syntax.end h = absurd h
  ctor_same b i of of' (syntax.more (syntax.field m mods t w init) xs) (syntax.more (syntax.field k nods u v form) ys) h = ctor_same b i of of' xs ys h.1
  ctor_same b i of of' (syntax.more (syntax.field m mods t w init) xs) (syntax.more (syntax.method k nods u v qs rest) ys) h = absurd h.0.0
  ctor_same b i of of' (syntax.more (syntax.field m mods t w init) xs) (syntax.more (syntax.constructor k nods v qs given rest) ys) h = absurd h.0.0
  ctor_same b i of of' (syntax.more (syntax.field m mods t w init) xs) (syntax.more (syntax.inner k (syntax.class l lods v u ns)) ys) h = absurd h.0.0
  ctor_same b i of of' (syntax.more (syntax.method m mods t w ps body) xs) (syntax.more (syntax.field k nods u v form) ys) h = absurd h.0.0
  ctor_same b i of of' (syntax.more (syntax.method m mods t w ps body) xs) (syntax.more (syntax.method k nods u v qs rest) ys) h = ctor_same b i of of' xs ys h.1
  ctor_same b i of of' (syntax.more (syntax.method m mods t w ps body) xs) (syntax.more (syntax.constructor k nods v qs given rest) ys) h = absurd h.0.0
  ctor_same b i of of' (syntax.more (syntax.method m mods t w ps body) xs) (syntax.more (syntax.inner k (syntax.class l lods v u ns)) ys) h = absurd h.0.0
  ctor_same b i of of' (syntax.more (syntax.constructor m mods w ps args body) xs) (syntax.more (syntax.field k nods u v form) ys) h = absurd h.0.0
  ctor_same b i of of' (syntax.more (syntax.constructor m mods w ps args body) xs) (syntax.more (syntax.method k nods u v qs rest) ys) h = absurd h.0.0
  ctor_same b i of of' (syntax.more (syntax.constructor m mods w ps args body) xs) (syntax.more (syntax.constructor k nods v qs given rest) ys) h = refl
  ctor_same b i of of' (syntax.more (syntax.constructor m mods w ps args body) xs) (syntax.more (syntax.inner k (syntax.class l lods v u ns)) ys) h = absurd h.0.0
  ctor_same b i of of' (syntax.more (syntax.inner m c) xs) (syntax.more (syntax.inner k d) ys) h = ctor_same b i of of' xs ys h.1
  ctor_same b i of of' (syntax.more (syntax.inner m c) xs) (syntax.more (syntax.field k nods u v form) ys) h = absurd h.0
  ctor_same b i of of' (syntax.more (syntax.inner m c) xs) (syntax.more (syntax.method k nods u v qs rest) ys) h = absurd h.0
  ctor_same b i of of' (syntax.more (syntax.inner m c) xs) (syntax.more (syntax.constructor k nods v qs given rest) ys) h = absurd h.0

  mutual
    unfolding ClassBeside MembersBeside MemberBeside class_declarations members_declarations member_declarations

    class_items : (b i : ℕ) (o p : Option (List ℕ)) (c : syntax.Class A) (d : syntax.Class B) → ClassBeside begins begins' Head Each b i o p c d → ItemsTo g ss (class_declarations begins b o c) (class_declarations begins' i p d)
    class_items b i o p (syntax.class m mods w t ms) (syntax.class k nods v u ns) h = (
      record { key = h.0.0; words = h.0.1; parent = h.0.2; ctor = ctor_same (begins m b) (begins' k i) (class_key begins o w.text) (class_key begins' p v.text) ms ns h.1 },
      members_items (begins m b) (begins' k i) (class_key begins o w.text) (class_key begins' p v.text) ms ns h.1,
    )

    members_items : (b i : ℕ) (of of' : ClassKey) (xs : syntax.Members A) (ys : syntax.Members B) → MembersBeside begins begins' Head Each b i of of' xs ys → ItemsTo g ss (members_declarations begins b of xs) (members_declarations begins' i of' ys)
    members_items b i of of' syntax.end syntax.end h = tt
    members_items b i of of' syntax.end (syntax.more y ys) h = absurd h
    members_items b i of of' (syntax.more x xs) syntax.end h = absurd h
    members_items b i of of' (syntax.more x xs) (syntax.more y ys) h =
        items_join g ss (member_declarations begins b of x) (member_declarations begins' i of' y) (members_declarations begins b of xs) (members_declarations begins' i of' ys) (one_items b i of of' x y h.0) (members_items b i of of' xs ys h.1)

    one_items : (b i : ℕ) (of of' : ClassKey) (x : syntax.Member A) (y : syntax.Member B) → MemberBeside begins begins' Head Each b i of of' x y → ItemsTo g ss (member_declarations begins b of x) (member_declarations begins' i of' y)
    one_items b i of of' (syntax.field m mods t w init) y h = h
    one_items b i of of' (syntax.method m mods t w ps body) y h = h
    one_items b i of of' (syntax.constructor m mods w ps args body) y h = h
    one_items b i of of' (syntax.inner m c) (syntax.inner k d) h = class_items (begins m b) (begins' k i) (Some of.name) (Some of'.name) c d h
    one_items b i of of' (syntax.inner m c) (syntax.field k nods u v form) h = absurd h
    one_items b i of of' (syntax.inner m c) (syntax.method k nods u v qs rest) h = absurd h
    one_items b i of of' (syntax.inner m c) (syntax.constructor k nods v qs given rest) h = absurd h

  classes_items : (b i : ℕ) (cs : List (syntax.Class A)) (ds : List (syntax.Class B)) → ClassesBeside begins begins' Head Each b i cs ds → ItemsTo g ss (classes_declarations begins b cs) (classes_declarations begins' i ds)
  classes_items b i [] [] h = tt
  classes_items b i [] (d ∷ ds) h = absurd h
  classes_items b i (c ∷ cs) [] h = absurd h
  classes_items b i (c ∷ cs) (d ∷ ds) h =
      items_join g ss (class_declarations begins b None c) (class_declarations begins' i None d) (classes_declarations begins b cs) (classes_declarations begins' i ds) (class_items b i None None c d h.0) (classes_items b i cs ds h.1)

  units_declarations : (file : ℕ) (us : List (syntax.Unit A)) (vs : List (syntax.Unit B)) → UnitsBeside begins begins' Head Each us vs → DeclarationsTo g ss (declarations_from begins file us) (declarations_from begins' file vs)
  units_declarations file [] [] h = tt
  units_declarations file [] (v ∷ vs) h = absurd h
  units_declarations file (u ∷ us) [] h = absurd h
  units_declarations file (u ∷ us) (v ∷ vs) h =
      declarations_join g ss file (classes_declarations begins (begins u.mark 0) u.classes) (classes_declarations begins' (begins' v.mark 0) v.classes) (declarations_from begins (suc file) us) (declarations_from begins' (suc file) vs)
      (classes_items (begins u.mark 0) (begins' v.mark 0) u.classes v.classes h.0) (units_declarations (suc file) us vs h.1)

  pub all_declarations : (us : List (syntax.Unit A)) (vs : List (syntax.Unit B)) → UnitsBeside begins begins' Head Each us vs → DeclarationsTo g ss (declarations_of begins us) (declarations_of begins' vs)
  unfolding declarations_of
  all_declarations us vs h = units_declarations 0 us vs h

  -- ---- keys

  head_image : (b i : ℕ) (o p : Option (List ℕ)) (c : syntax.Class A) (d : syntax.Class B) → Head b i o p c d → IsClassImage tells begins' g b i o p c d
  head_image b i o p (syntax.class m mods w t ms) (syntax.class k nods v u ns) h = h.0 ∙ sym (class_same g keep.still (class_key begins o w.text))

  module _ (packages : List (Option PackageLine)) (clean : IsClean packages ss) (ts : List DeclaredItem) (to : DeclarationsTo g ss ss ts) where
    member_image : (b i : ℕ) (of of' : ClassKey) (x : syntax.Member A) (y : syntax.Member B) → Each b i of of' x y → IsMemberImage tells begins' g ss ts b i of of' x y
    unfolding member_declarations class_declarations
    member_image b i of of' (syntax.field m mods t w init) (syntax.field k nods u v form) h j is =
        ap (member_to g) is ∙ (λ n. member.field (record { class = (class_same g keep.still of ∙ sym h.0.of) n; name = sym h.0.name n }))
    member_image b i of of' (syntax.field m mods t w init) (syntax.method k nods u v qs rest) h j is = absurd h.0
    member_image b i of of' (syntax.field m mods t w init) (syntax.constructor k nods v qs given rest) h j is = absurd h.0
    member_image b i of of' (syntax.field m mods t w init) (syntax.inner k (syntax.class l lods v u ns)) h j is = absurd h.0
    member_image b i of of' (syntax.method m mods t w ps body) (syntax.field k nods u v form) h j is = absurd h.0
    member_image b i of of' (syntax.method m mods t w ps body) (syntax.method k nods u v qs rest) h j (us, mean, is) =
        let one : us ≡ h.0.types = mean_types_once packages ss clean of (map (param_declaration begins (begins m b)) ps) us h.0.types mean h.0.mean in
        let named : name_to g (method_decl (record { class = of; name = w.text; params = us })) w.text ≡ v.text =
        ap (λ (z : List Ty). name_to g (method_decl (record { class = of; name = w.text; params = z })) w.text) one ∙ sym h.0.name in (
          us,
          subst (λ (z : ClassKey). MeanTypes ts z (map (param_declaration begins' (begins' k i)) qs) us) (sym h.0.of)
              (mean_to g keep.still packages ss ts clean to of (member.method (record { class = of; name = w.text; params = h.0.types })) 0 (map (param_declaration begins (begins m b)) ps) (map (param_declaration begins' (begins' k i)) qs) us h.0.params mean),
          ap (member_to g) is ∙ (λ n. member.method (record { class = (class_same g keep.still of ∙ sym h.0.of) n; name = named n; params = types_same g keep.still us n })),
        )
    member_image b i of of' (syntax.method m mods t w ps body) (syntax.constructor k nods v qs given rest) h j is = absurd h.0
    member_image b i of of' (syntax.method m mods t w ps body) (syntax.inner k (syntax.class l lods v u ns)) h j is = absurd h.0
    member_image b i of of' (syntax.constructor m mods w ps args body) (syntax.field k nods u v form) h j is = absurd h.0
    member_image b i of of' (syntax.constructor m mods w ps args body) (syntax.method k nods u v qs rest) h j is = absurd h.0
    member_image b i of of' (syntax.constructor m mods w ps args body) (syntax.constructor k nods v qs given rest) h j (us, mean, is) = (
      us,
      subst (λ (z : ClassKey). MeanTypes ts z (map (param_declaration begins' (begins' k i)) qs) us) (sym h.0.of)
          (mean_to g keep.still packages ss ts clean to of (member.constructor (record { class = of; params = h.0.types })) 0 (map (param_declaration begins (begins m b)) ps) (map (param_declaration begins' (begins' k i)) qs) us h.0.params mean),
      ap (member_to g) is ∙ (λ n. member.constructor (record { class = (class_same g keep.still of ∙ sym h.0.of) n; params = types_same g keep.still us n })),
    )
    member_image b i of of' (syntax.constructor m mods w ps args body) (syntax.inner k (syntax.class l lods v u ns)) h j is = absurd h.0
    member_image b i of of' (syntax.inner m c) y h j is = absurd is

    pub member_images : (us : List (syntax.Unit A)) (vs : List (syntax.Unit B)) → UnitsBeside begins begins' Head Each us vs → UnitsBeside begins begins' (IsClassImage tells begins' g) (IsMemberImage tells begins' g ss ts) us vs
    member_images us vs h = units_lead begins begins' Head (IsClassImage tells begins' g) Each (IsMemberImage tells begins' g ss ts) head_image member_image us vs h
