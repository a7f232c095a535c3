-- Classes and members of two programs side by side that declare the same: so do the files.
use Rattle.std.proofs.Common.{◌≡◌, ℕ, suc, List, [], ◌∷◌, Option, Some, None, refl}
use Rattle.std.specs.Prelude.{option_map}
use Rattle.jr_text.specs.declared.spans.Span.{Span}
use Rattle.jr_ast.specs.MemberTree as syntax
use Rattle.jr_ast.specs.Remarked.{map_member}
use Rattle.jr_table.specs.Keys.{ClassKey}
use Rattle.jr_table.specs.DeclaredItems.{written, words, class_key, writes_ctor, member_declarations, class_declarations, members_declarations, classes_declarations, declarations_from, declarations_of}
use Rattle.jr_program_laws.specs.FileParts.{begins}
use Rattle.jr_rename_laws.specs.Beside.{ClassBeside, MembersBeside, MemberBeside, ClassesBeside, UnitsBeside}
use Rattle.jr_rename_laws.specs.ImageLaws.{no_mark}
use Rattle.jr_kept_rows.proofs.SameClasses.{MaybeAlike}
use Rattle.jr_kept_rows.proofs.SameItems.{ItemsTo, DeclarationsTo, items_join, declarations_join}

-- heads of classes declare the same
abbrev pub Head : (b i : ℕ) → (o p : Option (List ℕ)) → syntax.Class Span → syntax.Class Span → Type 0
Head b i o p (syntax.class m mods w t ms) (syntax.class k nods v u ns) =
    (class_key begins p v.text ≡ class_key begins o w.text) × (words begins nods ≡ words begins mods)
    × MaybeAlike (option_map (written begins (begins m b)) t) (option_map (written begins (begins k i)) u)

-- a field has the tree that it had
abbrev pub SameField : (of of' : ClassKey) → syntax.Member Span → syntax.Member Span → Type 0
SameField of of' (syntax.field m mods t w init) y = (of' ≡ of) × (map_member no_mark y ≡ map_member no_mark (syntax.field m mods t w init))
SameField of of' (syntax.method m mods t w ps body) y = Unit {0}
SameField of of' (syntax.constructor m mods w ps args body) y = Unit {0}
SameField of of' (syntax.inner m c) y = Unit {0}

-- members declare the same
abbrev pub Both : (b i : ℕ) → (of of' : ClassKey) → syntax.Member Span → syntax.Member Span → Type 0
Both b i of of' x y = ItemsTo (member_declarations begins b of x) (member_declarations begins i of' y) × SameField of of' x y

ctor_same : (b i : ℕ) (of of' : ClassKey) (xs : syntax.Members Span) (ys : syntax.Members Span) → MembersBeside begins begins Head Both b i of of' xs ys → writes_ctor begins ys ≡ writes_ctor begins xs
unfolding MembersBeside MemberBeside member_declarations class_declarations
ctor_same b i of of' syntax.end syntax.end h = refl
ctor_same b i of of' syntax.end (syntax.more y ys) h = absurd h
ctor_same b i of of' (syntax.more x xs) syntax.end h = absurd h
ctor_same b i of of' (syntax.more (syntax.field m mods t w init) xs) (syntax.more (syntax.field k nods u v form) ys) h = ctor_same b i of of' xs ys h.1
ctor_same b i of of' (syntax.more (syntax.field m mods t w init) xs) (syntax.more (syntax.method k nods u v qs rest) ys) h = absurd h.0.0.0
ctor_same b i of of' (syntax.more (syntax.field m mods t w init) xs) (syntax.more (syntax.constructor k nods v qs given rest) ys) h = absurd h.0.0.0
ctor_same b i of of' (syntax.more (syntax.field m mods t w init) xs) (syntax.more (syntax.inner k (syntax.class l lods v u ns)) ys) h = absurd h.0.0.0
ctor_same b i of of' (syntax.more (syntax.method m mods t w ps body) xs) (syntax.more (syntax.field k nods u v form) ys) h = absurd h.0.0.0
ctor_same b i of of' (syntax.more (syntax.method m mods t w ps body) xs) (syntax.more (syntax.method k nods u v qs rest) ys) h = ctor_same b i of of' xs ys h.1
ctor_same b i of of' (syntax.more (syntax.method m mods t w ps body) xs) (syntax.more (syntax.constructor k nods v qs given rest) ys) h = absurd h.0.0.0
ctor_same b i of of' (syntax.more (syntax.method m mods t w ps body) xs) (syntax.more (syntax.inner k (syntax.class l lods v u ns)) ys) h = absurd h.0.0.0
ctor_same b i of of' (syntax.more (syntax.constructor m mods w ps args body) xs) (syntax.more (syntax.field k nods u v form) ys) h = absurd h.0.0.0
ctor_same b i of of' (syntax.more (syntax.constructor m mods w ps args body) xs) (syntax.more (syntax.method k nods u v qs rest) ys) h = absurd h.0.0.0
ctor_same b i of of' (syntax.more (syntax.constructor m mods w ps args body) xs) (syntax.more (syntax.constructor k nods v qs given rest) ys) h = refl
ctor_same b i of of' (syntax.more (syntax.constructor m mods w ps args body) xs) (syntax.more (syntax.inner k (syntax.class l lods v u ns)) ys) h = absurd h.0.0.0
ctor_same b i of of' (syntax.more (syntax.inner m c) xs) (syntax.more (syntax.inner k d) ys) h = ctor_same b i of of' xs ys h.1
ctor_same b i of of' (syntax.more (syntax.inner m c) xs) (syntax.more (syntax.field k nods u v form) ys) h = absurd h.0
ctor_same b i of of' (syntax.more (syntax.inner m c) xs) (syntax.more (syntax.method k nods u v qs rest) ys) h = absurd h.0
ctor_same b i of of' (syntax.more (syntax.inner m c) xs) (syntax.more (syntax.constructor k nods v qs given rest) ys) h = absurd h.0

mutual
  unfolding ClassBeside MembersBeside MemberBeside class_declarations members_declarations member_declarations

  class_items : (b i : ℕ) (o p : Option (List ℕ)) (c : syntax.Class Span) (d : syntax.Class Span) → ClassBeside begins begins Head Both b i o p c d → ItemsTo (class_declarations begins b o c) (class_declarations begins i p d)
  class_items b i o p (syntax.class m mods w t ms) (syntax.class k nods v u ns) h = (
    record { key = h.0.0; words = h.0.1; parent = h.0.2; ctor = ctor_same (begins m b) (begins k i) (class_key begins o w.text) (class_key begins p v.text) ms ns h.1 },
    members_items (begins m b) (begins k i) (class_key begins o w.text) (class_key begins p v.text) ms ns h.1,
  )

  members_items : (b i : ℕ) (of of' : ClassKey) (xs : syntax.Members Span) (ys : syntax.Members Span) → MembersBeside begins begins Head Both b i of of' xs ys → ItemsTo (members_declarations begins b of xs) (members_declarations begins i of' ys)
  members_items b i of of' syntax.end syntax.end h = tt
  members_items b i of of' syntax.end (syntax.more y ys) h = absurd h
  members_items b i of of' (syntax.more x xs) syntax.end h = absurd h
  members_items b i of of' (syntax.more x xs) (syntax.more y ys) h =
      items_join (member_declarations begins b of x) (member_declarations begins i of' y) (members_declarations begins b of xs) (members_declarations begins i of' ys) (one_items b i of of' x y h.0) (members_items b i of of' xs ys h.1)

  one_items : (b i : ℕ) (of of' : ClassKey) (x : syntax.Member Span) (y : syntax.Member Span) → MemberBeside begins begins Head Both b i of of' x y → ItemsTo (member_declarations begins b of x) (member_declarations begins i of' y)
  one_items b i of of' (syntax.field m mods t w init) y h = h.0
  one_items b i of of' (syntax.method m mods t w ps body) y h = h.0
  one_items b i of of' (syntax.constructor m mods w ps args body) y h = h.0
  one_items b i of of' (syntax.inner m c) (syntax.inner k d) h = class_items (begins m b) (begins k i) (Some of.name) (Some of'.name) c d h
  one_items b i of of' (syntax.inner m c) (syntax.field k nods u v form) h = absurd h
  one_items b i of of' (syntax.inner m c) (syntax.method k nods u v qs rest) h = absurd h
  one_items b i of of' (syntax.inner m c) (syntax.constructor k nods v qs given rest) h = absurd h

classes_items : (b i : ℕ) (cs : List (syntax.Class Span)) (ds : List (syntax.Class Span)) → ClassesBeside begins begins Head Both b i cs ds → ItemsTo (classes_declarations begins b cs) (classes_declarations begins i ds)
classes_items b i [] [] h = tt
classes_items b i [] (d ∷ ds) h = absurd h
classes_items b i (c ∷ cs) [] h = absurd h
classes_items b i (c ∷ cs) (d ∷ ds) h =
    items_join (class_declarations begins b None c) (class_declarations begins i None d) (classes_declarations begins b cs) (classes_declarations begins i ds) (class_items b i None None c d h.0) (classes_items b i cs ds h.1)

units_declarations : (file : ℕ) (us : List (syntax.Unit Span)) (vs : List (syntax.Unit Span)) → UnitsBeside begins begins Head Both us vs → DeclarationsTo (declarations_from begins file us) (declarations_from begins file vs)
units_declarations file [] [] h = tt
units_declarations file [] (v ∷ vs) h = absurd h
units_declarations file (u ∷ us) [] h = absurd h
units_declarations file (u ∷ us) (v ∷ vs) h =
    declarations_join file (classes_declarations begins (begins u.mark 0) u.classes) (classes_declarations begins (begins v.mark 0) v.classes) (declarations_from begins (suc file) us) (declarations_from begins (suc file) vs)
    (classes_items (begins u.mark 0) (begins v.mark 0) u.classes v.classes h.0) (units_declarations (suc file) us vs h.1)

pub all_declarations : (us : List (syntax.Unit Span)) (vs : List (syntax.Unit Span)) → UnitsBeside begins begins Head Both us vs → DeclarationsTo (declarations_of begins us) (declarations_of begins vs)
unfolding declarations_of
all_declarations us vs h = units_declarations 0 us vs h
