-- The members of the new program have the images of the old ones' keys.
use Rattle.std.proofs.Common.{◌≡◌, ℕ, suc, List, [], ◌∷◌, Option, Some, None, refl, sym, ap, subst, ◌∙◌, inl, inr}
use Rattle.std.specs.Prelude.{map, slice_get}
use Rattle.jr_text.specs.declared.spans.Span.{Span}
use Rattle.jr_ast.specs.MemberTree as syntax
use Rattle.jr_table.specs.Keys.{ClassKey}
use Rattle.jr_table.specs.Decls.{field_decl, method_decl}
use Rattle.jr_table.specs.Decls as member
use Rattle.jr_table.specs.Rows.{Row}
use Rattle.jr_table.specs.Context.{Context}
use Rattle.jr_table.specs.DeclaredItems.{DeclaredItem, Item, DeclaredClass, class_item, param_declaration, class_key, member_declarations, class_declarations, members_declarations, classes_declarations, declarations_from, declarations_of}
use Rattle.jr_table.specs.ProgramRows.{MeanTypes}
use Rattle.jr_members.proofs.Walking.{In, in_left, in_right}
use Rattle.jr_images.specs.Images.{Renaming, types_to, member_to}
use Rattle.jr_images.proofs.KeyImages.{keeps_name}
use Rattle.jr_rename_laws.specs.Beside.{ClassBeside, MembersBeside, MemberBeside, ClassesBeside, UnitsBeside}
use Rattle.jr_rename_laws.specs.ImageLaws.{IsClassImage, IsMemberImage}
use Rattle.jr_program_laws.proofs.Agreeing.{ClassRow}
use Rattle.jr_rename_laws.proofs.TreesBeside.{HeadTo, MemberTo}
use Rattle.jr_rename_laws.proofs.NewAgreeing.{Both}
use Rattle.jr_rename_laws.proofs.NewRows.{params_mean}

in_at : {X : Type 0} (xs : List X) (x : X) → In xs x → (n : ℕ) × (slice_get xs n ≡ Some x)
in_at [] x h = absurd h
in_at (y ∷ xs) x (inl e) = (0, ap (λ z. Some z) e)
in_at (y ∷ xs) x (inr h) = let r = in_at xs x h in (suc r.0, r.1)

in_map : {X Y : Type 0} (f : X → Y) (xs : List X) (x : X) → In xs x → In (map f xs) (f x)
in_map f [] x h = absurd h
in_map f (y ∷ xs) x (inl e) = inl (ap f e)
in_map f (y ∷ xs) x (inr h) = inr (in_map f xs x h)

module _ (rows : List Row) (g : Renaming) (ss ts : List DeclaredItem) (two : Both rows g ss ts) {A B : Type 0} (tells : A → ℕ → Span) (begins' : B → ℕ → ℕ) (super_at : Context → ℕ) where
  abbrev begins : A → ℕ → ℕ
  begins m b = (tells m b).from

  abbrev Head : (b i : ℕ) → (o p : Option (List ℕ)) → syntax.Class A → syntax.Class B → Type 0
  Head = HeadTo rows g two.keeps tells begins' super_at ss

  abbrev Each : (b i : ℕ) → (of of' : ClassKey) → syntax.Member A → syntax.Member B → Type 0
  Each = MemberTo rows g two.keeps tells begins' super_at ss

  -- the item is a declaration's
  abbrev Stands : Item → Type 0
  Stands x = (n : ℕ) × (file : ℕ) × (slice_get ss n ≡ Some (record { file = file; item = x }))

  abbrev HasClass : ClassKey → Type 0
  HasClass k = (n : ℕ) × ClassRow rows k n

  class_stands : (c : DeclaredClass) → Stands (class_item c) → HasClass c.key
  class_stands c (n, file, at) = let r = two.agree.declared_row c.key c (record { number = n; file = file; stands = at; is = refl }) in (r.0, r.1)

  head_image : (b i : ℕ) (o p : Option (List ℕ)) (c : syntax.Class A) (d : syntax.Class B) → Head b i o p c d → IsClassImage tells begins' g b i o p c d
  head_image b i o p (syntax.class m mods w t ms) (syntax.class k nods v u ns) h = h.0

  member_image : (b i : ℕ) (of of' : ClassKey) → HasClass of → (x : syntax.Member A) (y : syntax.Member B) → Each b i of of' x y → IsMemberImage tells begins' g ss ts b i of of' x y
  unfolding member_declarations class_declarations
  member_image b i of of' row (syntax.field m mods t w init) (syntax.field k nods u v form) h j is =
      let named = keeps_name g (field_decl (record { class = of; name = w.text })) w.text (two.keeps.field (record { class = of; name = w.text })) ∙ sym h.0.name in
      ap (member_to g) is ∙ (λ n. member.field (record { class = sym h.0.of n; name = named n }))
  member_image b i of of' row (syntax.field m mods t w init) (syntax.method k nods u v qs rest) h j is = absurd h.0
  member_image b i of of' row (syntax.field m mods t w init) (syntax.constructor k nods v qs given rest) h j is = absurd h.0
  member_image b i of of' row (syntax.field m mods t w init) (syntax.inner k (syntax.class l lods v u ns)) h j is = absurd h.0
  member_image b i of of' row (syntax.method m mods t w ps body) (syntax.field k nods u v form) h j is = absurd h.0
  member_image b i of of' row (syntax.method m mods t w ps body) (syntax.method k nods u v qs rest) h j (us, mean, is) =
      let named = keeps_name g (method_decl (record { class = of; name = w.text; params = us })) w.text (two.keeps.method (record { class = of; name = w.text; params = us })) ∙ sym h.0.name in (
        types_to g us,
        subst (λ (z : ClassKey). MeanTypes ts z (map (param_declaration begins' (begins' k i)) qs) (types_to g us)) (sym h.0.of)
            (params_mean rows g ss ts two of row.0 row.1 (map (param_declaration begins (begins m b)) ps) (map (param_declaration begins' (begins' k i)) qs) h.0.params us mean),
        ap (member_to g) is ∙ (λ n. member.method (record { class = sym h.0.of n; name = named n; params = types_to g us })),
      )
  member_image b i of of' row (syntax.method m mods t w ps body) (syntax.constructor k nods v qs given rest) h j is = absurd h.0
  member_image b i of of' row (syntax.method m mods t w ps body) (syntax.inner k (syntax.class l lods v u ns)) h j is = absurd h.0
  member_image b i of of' row (syntax.constructor m mods w ps args body) (syntax.field k nods u v form) h j is = absurd h.0
  member_image b i of of' row (syntax.constructor m mods w ps args body) (syntax.method k nods u v qs rest) h j is = absurd h.0
  member_image b i of of' row (syntax.constructor m mods w ps args body) (syntax.constructor k nods v qs given rest) h j (us, mean, is) = (
    types_to g us,
    subst (λ (z : ClassKey). MeanTypes ts z (map (param_declaration begins' (begins' k i)) qs) (types_to g us)) (sym h.0.of)
        (params_mean rows g ss ts two of row.0 row.1 (map (param_declaration begins (begins m b)) ps) (map (param_declaration begins' (begins' k i)) qs) h.0.params us mean),
    ap (member_to g) is ∙ (λ n. member.constructor (record { class = sym h.0.of n; params = types_to g us })),
  )
  member_image b i of of' row (syntax.constructor m mods w ps args body) (syntax.inner k (syntax.class l lods v u ns)) h j is = absurd h.0
  member_image b i of of' row (syntax.inner m c) y h j is = absurd is

  abbrev ClassImage : (b i : ℕ) → (o p : Option (List ℕ)) → syntax.Class A → syntax.Class B → Type 0
  ClassImage = IsClassImage tells begins' g

  abbrev MemberImage : (b i : ℕ) → (of of' : ClassKey) → syntax.Member A → syntax.Member B → Type 0
  MemberImage = IsMemberImage tells begins' g ss ts

  mutual
    unfolding ClassBeside MembersBeside MemberBeside class_declarations members_declarations member_declarations

    class_leads : (b i : ℕ) (o p : Option (List ℕ)) (c : syntax.Class A) (d : syntax.Class B) → ((x : Item) → In (class_declarations begins b o c) x → Stands x) → ClassBeside begins begins' Head Each b i o p c d
        → ClassBeside begins begins' ClassImage MemberImage b i o p c d
    class_leads b i o p (syntax.class m mods w t ms) (syntax.class k nods v u ns) all h = (
      head_image b i o p (syntax.class m mods w t ms) (syntax.class k nods v u ns) h.0,
      members_lead (begins m b) (begins' k i) (class_key begins o w.text) (class_key begins' p v.text) (class_stands _ (all _ (inl refl))) ms ns (λ x j. all x (inr j)) h.1,
    )

    members_lead : (b i : ℕ) (of of' : ClassKey) → HasClass of → (xs : syntax.Members A) (ys : syntax.Members B) → ((x : Item) → In (members_declarations begins b of xs) x → Stands x)
        → MembersBeside begins begins' Head Each b i of of' xs ys → MembersBeside begins begins' ClassImage MemberImage b i of of' xs ys
    members_lead b i of of' row syntax.end syntax.end all h = tt
    members_lead b i of of' row syntax.end (syntax.more y ys) all h = absurd h
    members_lead b i of of' row (syntax.more x xs) syntax.end all h = absurd h
    members_lead b i of of' row (syntax.more x xs) (syntax.more y ys) all h = (
      one_leads b i of of' row x y (λ z j. all z (in_left (member_declarations begins b of x) (members_declarations begins b of xs) z j)) h.0,
      members_lead b i of of' row xs ys (λ z j. all z (in_right (member_declarations begins b of x) (members_declarations begins b of xs) z j)) h.1,
    )

    one_leads : (b i : ℕ) (of of' : ClassKey) → HasClass of → (x : syntax.Member A) (y : syntax.Member B) → ((z : Item) → In (member_declarations begins b of x) z → Stands z)
        → MemberBeside begins begins' Head Each b i of of' x y → MemberBeside begins begins' ClassImage MemberImage b i of of' x y
    one_leads b i of of' row (syntax.field m mods t w init) y all h = member_image b i of of' row (syntax.field m mods t w init) y h
    one_leads b i of of' row (syntax.method m mods t w ps body) y all h = member_image b i of of' row (syntax.method m mods t w ps body) y h
    one_leads b i of of' row (syntax.constructor m mods w ps args body) y all h = member_image b i of of' row (syntax.constructor m mods w ps args body) y h
    one_leads b i of of' row (syntax.inner m c) (syntax.inner k d) all h = class_leads (begins m b) (begins' k i) (Some of.name) (Some of'.name) c d all h
    one_leads b i of of' row (syntax.inner m c) (syntax.field k nods u v form) all h = absurd h
    one_leads b i of of' row (syntax.inner m c) (syntax.method k nods u v qs rest) all h = absurd h
    one_leads b i of of' row (syntax.inner m c) (syntax.constructor k nods v qs given rest) all h = absurd h

  classes_lead : (b i : ℕ) (cs : List (syntax.Class A)) (ds : List (syntax.Class B)) → ((x : Item) → In (classes_declarations begins b cs) x → Stands x) → ClassesBeside begins begins' Head Each b i cs ds
      → ClassesBeside begins begins' ClassImage MemberImage b i cs ds
  classes_lead b i [] [] all h = tt
  classes_lead b i [] (d ∷ ds) all h = absurd h
  classes_lead b i (c ∷ cs) [] all h = absurd h
  classes_lead b i (c ∷ cs) (d ∷ ds) all h = (
    class_leads b i None None c d (λ z j. all z (in_left (class_declarations begins b None c) (classes_declarations begins b cs) z j)) h.0,
    classes_lead b i cs ds (λ z j. all z (in_right (class_declarations begins b None c) (classes_declarations begins b cs) z j)) h.1,
  )

  abbrev put : ℕ → Item → DeclaredItem
  put file x = record { file = file; item = x }

  units_lead : (file : ℕ) (us : List (syntax.Unit A)) (vs : List (syntax.Unit B)) → ((s : DeclaredItem) → In (declarations_from begins file us) s → Stands s.item) → UnitsBeside begins begins' Head Each us vs
      → UnitsBeside begins begins' ClassImage MemberImage us vs
  units_lead file [] [] all h = tt
  units_lead file [] (v ∷ vs) all h = absurd h
  units_lead file (u ∷ us) [] all h = absurd h
  units_lead file (u ∷ us) (v ∷ vs) all h = (
    classes_lead (begins u.mark 0) (begins' v.mark 0) u.classes v.classes
        (λ x j.
        all (put file x)
        (in_left (map (put file) (classes_declarations begins (begins u.mark 0) u.classes)) (declarations_from begins (suc file) us) (put file x) (in_map (put file) (classes_declarations begins (begins u.mark 0) u.classes) x j)))
        h.0,
    units_lead (suc file) us vs (λ s j. all s (in_right (map (put file) (classes_declarations begins (begins u.mark 0) u.classes)) (declarations_from begins (suc file) us) s j)) h.1,
  )

  pub member_images : (us : List (syntax.Unit A)) → declarations_of begins us ≡ ss → (vs : List (syntax.Unit B)) → UnitsBeside begins begins' Head Each us vs → UnitsBeside begins begins' ClassImage MemberImage us vs
  unfolding declarations_of
  member_images us is vs h = units_lead 0 us vs
      (λ s j. (let at = in_at (declarations_from begins 0 us) s j in (at.0, s.file, ap (λ (xs : List DeclaredItem). slice_get xs at.0) (sym is) ∙ at.1))) h
