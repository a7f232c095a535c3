-- The declarations of the two programs, from their trees.
use Rattle.std.proofs.Common.{◌≡◌, ℕ, suc, List, [], ◌∷◌, Option, Some, None, refl}
use Rattle.jr_text.specs.declared.spans.Span.{Span}
use Rattle.jr_ast.specs.MemberTree as syntax
use Rattle.jr_table.specs.Keys.{ClassKey}
use Rattle.jr_table.specs.Rows.{Row}
use Rattle.jr_table.specs.Context.{Context}
use Rattle.jr_table.specs.DeclaredItems.{DeclaredItem, class_key, writes_ctor, member_declarations, class_declarations, members_declarations, classes_declarations, declarations_from, declarations_of}
use Rattle.jr_images.specs.Images.{Renaming}
use Rattle.jr_rename_laws.specs.Beside.{ClassBeside, MembersBeside, MemberBeside, ClassesBeside, UnitsBeside}
use Rattle.jr_rename_laws.proofs.Renamed.{Keeps}
use Rattle.jr_rename_laws.proofs.ItemsBeside.{ItemsTo, DeclarationsTo, items_join, declarations_join}
use Rattle.jr_rename_laws.proofs.TreesBeside.{HeadTo, MemberTo}

module _ (rows : List Row) (g : Renaming) (keeps : Keeps rows g) {A B : Type 0} (tells : A → ℕ → Span) (begins' : B → ℕ → ℕ) (super_at : Context → ℕ) (ss : List DeclaredItem) where
  abbrev begins : A → ℕ → ℕ
  begins m b = (tells m b).from

  abbrev Head : (b i : ℕ) → (o p : Option (List ℕ)) → syntax.Class A → syntax.Class B → Type 0
  Head = HeadTo rows g keeps tells begins' super_at ss

  abbrev Each : (b i : ℕ) → (of of' : ClassKey) → syntax.Member A → syntax.Member B → Type 0
  Each = MemberTo rows g keeps tells begins' super_at ss

  ctor_same : (b i : ℕ) (of of' : ClassKey) (xs : syntax.Members A) (ys : syntax.Members B) → MembersBeside begins begins' Head Each b i of of' xs ys → writes_ctor begins' ys ≡ writes_ctor begins xs
  unfolding MembersBeside MemberBeside member_declarations class_declarations
  ctor_same b i of of' syntax.end syntax.end h = refl
  ctor_same b i of of' syntax.end (syntax.more y ys) h = absurd h
  ctor_same b i of of' (syntax.more x xs) syntax.end h = absurd h
  ctor_same b i of of' (syntax.more (syntax.field m mods t w init) xs) (syntax.more (syntax.field k nods u v form) ys) h = ctor_same b i of of' xs ys h.1
  ctor_same b i of of' (syntax.more (syntax.field m mods t w init) xs) (syntax.more (syntax.method k nods u v qs rest) ys) h = absurd h.0.0
  ctor_same b i of of' (syntax.more (syntax.field m mods t w init) xs) (syntax.more (syntax.constructor k nods v qs given rest) ys) h = absurd h.0.0
  ctor_same b i of of' (syntax.more (syntax.field m mods t w init) xs) (syntax.more (syntax.inner k (syntax.class l lods v u ns)) ys) h = absurd h.0.0
  ctor_same b i of of' (syntax.more (syntax.method m mods t w ps body) xs) (syntax.more (syntax.field k nods u v form) ys) h = absurd h.0.0
  ctor_same b i of of' (syntax.more (syntax.method m mods t w ps body) xs) (syntax.more (syntax.method k nods u v qs rest) ys) h = ctor_same b i of of' xs ys h.1
  ctor_same b i of of' (syntax.more (syntax.method m mods t w ps body) xs) (syntax.more (syntax.constructor k nods v qs given rest) ys) h = absurd h.0.0
  ctor_same b i of of' (syntax.more (syntax.method m mods t w ps body) xs) (syntax.more (syntax.inner k (syntax.class l lods v u ns)) ys) h = absurd h.0.0
  ctor_same b i of of' (syntax.more (syntax.constructor m mods w ps args body) xs) (syntax.more (syntax.field k nods u v form) ys) h = absurd h.0.0
  ctor_same b i of of' (syntax.more (syntax.constructor m mods w ps args body) xs) (syntax.more (syntax.method k nods u v qs rest) ys) h = absurd h.0.0
  ctor_same b i of of' (syntax.more (syntax.constructor m mods w ps args body) xs) (syntax.more (syntax.constructor k nods v qs given rest) ys) h = refl
  ctor_same b i of of' (syntax.more (syntax.constructor m mods w ps args body) xs) (syntax.more (syntax.inner k (syntax.class l lods v u ns)) ys) h = absurd h.0.0
  ctor_same b i of of' (syntax.more (syntax.inner m c) xs) (syntax.more (syntax.inner k d) ys) h = ctor_same b i of of' xs ys h.1
  ctor_same b i of of' (syntax.more (syntax.inner m c) xs) (syntax.more (syntax.field k nods u v form) ys) h = absurd h.0
  ctor_same b i of of' (syntax.more (syntax.inner m c) xs) (syntax.more (syntax.method k nods u v qs rest) ys) h = absurd h.0
  ctor_same b i of of' (syntax.more (syntax.inner m c) xs) (syntax.more (syntax.constructor k nods v qs given rest) ys) h = absurd h.0

  mutual
    unfolding ClassBeside MembersBeside MemberBeside class_declarations members_declarations member_declarations

    class_items : (b i : ℕ) (o p : Option (List ℕ)) (c : syntax.Class A) (d : syntax.Class B) → ClassBeside begins begins' Head Each b i o p c d → ItemsTo rows g (class_declarations begins b o c) (class_declarations begins' i p d)
    class_items b i o p (syntax.class m mods w t ms) (syntax.class k nods v u ns) h = (
      record { key = h.0.0; words = h.0.1; parent = h.0.2; ctor = ctor_same (begins m b) (begins' k i) (class_key begins o w.text) (class_key begins' p v.text) ms ns h.1 },
      members_items (begins m b) (begins' k i) (class_key begins o w.text) (class_key begins' p v.text) ms ns h.1,
    )

    members_items : (b i : ℕ) (of of' : ClassKey) (xs : syntax.Members A) (ys : syntax.Members B) → MembersBeside begins begins' Head Each b i of of' xs ys → ItemsTo rows g (members_declarations begins b of xs) (members_declarations begins' i of' ys)
    members_items b i of of' syntax.end syntax.end h = tt
    members_items b i of of' syntax.end (syntax.more y ys) h = absurd h
    members_items b i of of' (syntax.more x xs) syntax.end h = absurd h
    members_items b i of of' (syntax.more x xs) (syntax.more y ys) h =
        items_join rows g (member_declarations begins b of x) (member_declarations begins' i of' y) (members_declarations begins b of xs) (members_declarations begins' i of' ys) (one_items b i of of' x y h.0) (members_items b i of of' xs ys h.1)

    one_items : (b i : ℕ) (of of' : ClassKey) (x : syntax.Member A) (y : syntax.Member B) → MemberBeside begins begins' Head Each b i of of' x y → ItemsTo rows g (member_declarations begins b of x) (member_declarations begins' i of' y)
    one_items b i of of' (syntax.field m mods t w init) y h = h
    one_items b i of of' (syntax.method m mods t w ps body) y h = h
    one_items b i of of' (syntax.constructor m mods w ps args body) y h = h
    one_items b i of of' (syntax.inner m c) (syntax.inner k d) h = class_items (begins m b) (begins' k i) (Some of.name) (Some of'.name) c d h
    one_items b i of of' (syntax.inner m c) (syntax.field k nods u v form) h = absurd h
    one_items b i of of' (syntax.inner m c) (syntax.method k nods u v qs rest) h = absurd h
    one_items b i of of' (syntax.inner m c) (syntax.constructor k nods v qs given rest) h = absurd h

  classes_items : (b i : ℕ) (cs : List (syntax.Class A)) (ds : List (syntax.Class B)) → ClassesBeside begins begins' Head Each b i cs ds → ItemsTo rows g (classes_declarations begins b cs) (classes_declarations begins' i ds)
  classes_items b i [] [] h = tt
  classes_items b i [] (d ∷ ds) h = absurd h
  classes_items b i (c ∷ cs) [] h = absurd h
  classes_items b i (c ∷ cs) (d ∷ ds) h =
      items_join rows g (class_declarations begins b None c) (class_declarations begins' i None d) (classes_declarations begins b cs) (classes_declarations begins' i ds) (class_items b i None None c d h.0) (classes_items b i cs ds h.1)

  units_declarations : (file : ℕ) (us : List (syntax.Unit A)) (vs : List (syntax.Unit B)) → UnitsBeside begins begins' Head Each us vs → DeclarationsTo rows g (declarations_from begins file us) (declarations_from begins' file vs)
  units_declarations file [] [] h = tt
  units_declarations file [] (v ∷ vs) h = absurd h
  units_declarations file (u ∷ us) [] h = absurd h
  units_declarations file (u ∷ us) (v ∷ vs) h =
      declarations_join rows g file (classes_declarations begins (begins u.mark 0) u.classes) (classes_declarations begins' (begins' v.mark 0) v.classes) (declarations_from begins (suc file) us) (declarations_from begins' (suc file) vs)
      (classes_items (begins u.mark 0) (begins' v.mark 0) u.classes v.classes h.0) (units_declarations (suc file) us vs h.1)

  pub all_declarations : (us : List (syntax.Unit A)) (vs : List (syntax.Unit B)) → UnitsBeside begins begins' Head Each us vs → DeclarationsTo rows g (declarations_of begins us) (declarations_of begins' vs)
  unfolding declarations_of
  all_declarations us vs h = units_declarations 0 us vs h
