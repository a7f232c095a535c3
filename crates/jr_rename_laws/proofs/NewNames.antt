-- Classes and members of the new program that have one key, or one name with the class around, had
-- so in the old one.
use Rattle.std.proofs.Common.{◌≡◌, ℕ, zero, suc, List, [], ◌∷◌, Option, Some, None, Bool, true, false, refl, sym, ap, subst, ◌∙◌, inl, inr}
use Rattle.std.specs.Prelude.{◌⊎◌, slice_get, codes, if◌then◌else◌}
use Rattle.std.proofs.lemmas.Option.{same_Some}
use Rattle.jr_table.specs.Keys.{ClassKey, FieldKey, MethodKey, Ty, class}
use Rattle.jr_table.specs.Keys as keys
use Rattle.jr_table.specs.Decls.{Decl, class_decl, field_decl, method_decl, constructor_decl}
use Rattle.jr_table.specs.Rows.{Row}
use Rattle.jr_table.specs.Prelude.{top_key}
use Rattle.jr_table.specs.declared.answers.Answer.{Answer}
use Rattle.jr_table.specs.declared.answers.Answer.TheVariants as number
use Rattle.jr_table.specs.Entries.{IsRowOf, class_number, entries_of}
use Rattle.jr_table.specs.TypeNames.{FindsType}
use Rattle.jr_table.specs.Fields.{FindsMemberType}
use Rattle.jr_table.specs.Found.{one}
use Rattle.jr_table.specs.Scope.{Scope}
use Rattle.jr_table.specs.Lookup.{ByKeys}
use Rattle.jr_table.specs.Context.{NamesClass}
use Rattle.jr_table.specs.DeclaredItems.{Written, int, boolean, named, DeclaredParam, DeclaredClass, DeclaredField, DeclaredMethod, DeclaredCtor, Item, class_item, field_item, method_item, ctor_item, DeclaredItem}
use Rattle.jr_table.specs.Resolving.{Means}
use Rattle.jr_table.specs.ProgramRows.{AreProgramRows}
use Rattle.jr_table.specs.Faults.{SameTypes, SameMember, HasItsName}
use Rattle.jr_build_rows.proofs.Apart.{in_stands}
use Rattle.jr_images.specs.Images.{Renaming, is_renamed, name_to, outer_to, class_to, type_to, rows_to}
use Rattle.jr_program_laws.proofs.RowsOfDeclarations.{gives}
use Rattle.jr_program_laws.proofs.Agreeing.{ClassRow, one_key}
use Rattle.jr_rename_laws.proofs.WrittenTypes.{place, WrittenAs, meant, written_means}
use Rattle.jr_rename_laws.proofs.ItemsBeside.{ParamsTo, ClassTo, ItemTo, DeclarationsTo}
use Rattle.jr_rename_laws.proofs.NewAgreeing.{Both, image_row, new_one, new_tops, new_parents, outer_none}
use Rattle.jr_rename_laws.proofs.NewRows.{declarer}

abbrev pub HasRow : List Row → Decl → Type 0
HasRow rows d = (i : ℕ) × IsRowOf rows d i

-- what is known of the new name
pub record Fresh (rows : List Row) (g : Renaming) (k : ClassKey) : Type 0 where
  pub only : (j : ClassKey) → is_renamed g (class_decl j) ≡ true → j ≡ k
  -- no class has it
  pub fresh : (j : ClassKey) → HasRow rows (class_decl j) → j.name ≡ g.name → ⊥
  pub runnable : g.name ≡ codes "Runnable" → ⊥
  -- nor a field or method of the class around
  pub field : (f : FieldKey) → HasRow rows (field_decl f) → f.name ≡ g.name → k.outer ≡ Some f.class.name → f.class.outer ≡ None → ⊥
  pub method : (m : MethodKey) → HasRow rows (method_decl m) → m.name ≡ g.name → k.outer ≡ Some m.class.name → m.class.outer ≡ None → ⊥

module _ (rows : List Row) (g : Renaming) (k : ClassKey) (name : Fresh rows g k) where
  abbrev pub new_name : ClassKey → List ℕ
  new_name j = name_to g (class_decl j) j.name

  -- a class keeps its name, or is the one that gets the new one
  pub name_case : (j : ClassKey) → (new_name j ≡ j.name) ⊎ ((j ≡ k) × (new_name j ≡ g.name))
  name_case j = by (is_renamed g (class_decl j)) refl
    where
      by : (b : Bool) → is_renamed g (class_decl j) ≡ b → (new_name j ≡ j.name) ⊎ ((j ≡ k) × (new_name j ≡ g.name))
      by true h = inr (name.only j h, ap (λ b. if b then g.name else j.name) h)
      by false h = inl (ap (λ b. if b then g.name else j.name) h)

  -- what names the class around in the new program names it in the old one
  pub around_back : (o : Option (List ℕ)) (n : List ℕ) → outer_to g o ≡ Some n → (m : List ℕ) × (o ≡ Some m) × (new_name (top_key m) ≡ n)
  around_back None n e = absurd cc
  around_back (Some m) n e = (m, refl, same_Some _ _ e)

  -- one of the class around it has its name only where it had before
  pub as_outer : (j : ClassKey) → HasRow rows (class_decl j) → ((o : List ℕ) → j.outer ≡ Some o → HasRow rows (class_decl (top_key o))) → outer_to g j.outer ≡ Some (new_name j) → j.outer ≡ Some j.name
  as_outer j row above e =
      let m = around_back j.outer (new_name j) e in
      m.1 ∙ ap (λ (n : List ℕ). Some n) (by m.0 m.1 m.2 (name_case (top_key m.0)) (name_case j))
    where
      by : (m : List ℕ) → j.outer ≡ Some m → new_name (top_key m) ≡ new_name j → (new_name (top_key m) ≡ m) ⊎ ((top_key m ≡ k) × (new_name (top_key m) ≡ g.name)) → (new_name j ≡ j.name) ⊎ ((j ≡ k) × (new_name j ≡ g.name)) → m ≡ j.name
      by m some same (inl a) (inl b) = sym a ∙ same ∙ b
      by m some same (inl a) (inr b) = absurd (name.fresh (top_key m) (above m some) (sym a ∙ same ∙ b.1))
      by m some same (inr a) (inl b) = absurd (name.fresh j row (sym b ∙ sym same ∙ a.1))
      by m some same (inr a) (inr b) = absurd (let never = ap (λ (z : ClassKey). z.outer) (a.0 ∙ sym b.0) ∙ some in cc)

-- an item and what stood there
pub item_back : (rows : List Row) (g : Renaming) (ss ts : List DeclaredItem) → DeclarationsTo rows g ss ts → (i f : ℕ) (y : Item) → slice_get ts i ≡ Some (record { file = f; item = y })
    → (x : Item) × (e : ℕ) × (slice_get ss i ≡ Some (record { file = e; item = x })) × ItemTo rows g x y
item_back rows g [] [] h i f y at = absurd cc
item_back rows g [] (t ∷ ts) h i f y at = absurd h
item_back rows g (s ∷ ss) [] h i f y at = absurd h
item_back rows g (s ∷ ss) (t ∷ ts) h zero f y at =
    let same : t ≡ record { file = f; item = y } = same_Some t (record { file = f; item = y }) at in
    (s.item, s.file, refl, subst (λ (z : Item). ItemTo rows g s.item z) (ap (λ (z : DeclaredItem). z.item) same) h.1)
item_back rows g (s ∷ ss) (t ∷ ts) h (suc i) f y at = item_back rows g ss ts h.2 i f y at

module _ (rows : List Row) (g : Renaming) (ss ts : List DeclaredItem) (two : Both rows g ss ts) where
  abbrev New : List Row
  New = rows_to g rows

  -- classes with rows, and their images, are one to one
  pub one_class : (j l : ClassKey) → HasRow rows (class_decl j) → HasRow rows (class_decl l) → class_to g j ≡ class_to g l → j ≡ l
  one_class j l (a, x) (b, y) e =
      let i = image_row rows g two.keeps ss ts two.agree two.are two.to j a x in
      let n = image_row rows g two.keeps ss ts two.agree two.are two.to l b y in
      let same = two.are.one_each (class_decl (class_to g l)) a b (subst (λ (z : ClassKey). ClassRow New z a) e i) n in
      one_key rows two.agree.rows_are b j l (subst (λ (z : ℕ). ClassRow rows j z) same x) y

  abbrev class_named : ClassKey → Ty → ClassKey
  class_named d keys.int = d
  class_named d keys.boolean = d
  class_named d keys.void = d
  class_named d keys.null = d
  class_named d (class k) = k

  one_type : (t u : Ty) → ((k : ClassKey) → t ≡ class k → HasRow rows (class_decl k)) → ((k : ClassKey) → u ≡ class k → HasRow rows (class_decl k)) → type_to g t ≡ type_to g u → t ≡ u
  one_type keys.int keys.int x y e = refl
  one_type keys.int keys.boolean x y e = absurd cc
  one_type keys.int keys.void x y e = absurd cc
  one_type keys.int keys.null x y e = absurd cc
  one_type keys.int (class k) x y e = absurd cc
  one_type keys.boolean keys.int x y e = absurd cc
  one_type keys.boolean keys.boolean x y e = refl
  one_type keys.boolean keys.void x y e = absurd cc
  one_type keys.boolean keys.null x y e = absurd cc
  one_type keys.boolean (class k) x y e = absurd cc
  one_type keys.void keys.int x y e = absurd cc
  one_type keys.void keys.boolean x y e = absurd cc
  one_type keys.void keys.void x y e = refl
  one_type keys.void keys.null x y e = absurd cc
  one_type keys.void (class k) x y e = absurd cc
  one_type keys.null keys.int x y e = absurd cc
  one_type keys.null keys.boolean x y e = absurd cc
  one_type keys.null keys.void x y e = absurd cc
  one_type keys.null keys.null x y e = refl
  one_type keys.null (class k) x y e = absurd cc
  one_type (class j) keys.int x y e = absurd cc
  one_type (class j) keys.boolean x y e = absurd cc
  one_type (class j) keys.void x y e = absurd cc
  one_type (class j) keys.null x y e = absurd cc
  one_type (class j) (class l) x y e = ap class (one_class j l (x j refl) (y l refl) (ap (class_named (class_to g j)) e))

  class_of_type : (j l : ClassKey) → class j ≡ class l → j ≡ l
  class_of_type j l e = cc

  -- a class that is found has a row
  shows_row : (Finds : Answer → Type 0) (j : ClassKey) → ByKeys rows Finds (one (class_decl j)) → HasRow rows (class_decl j)
  shows_row Finds j (number.One i, finds, row) = (i, row)
  shows_row Finds j (number.Nothing, finds, row) = absurd row
  shows_row Finds j (number.Many i l, finds, row) = absurd row
  shows_row Finds j (number.NotAccessible i, finds, row) = absurd row
  shows_row Finds j (number.FromStatic i, finds, row) = absurd row

  names_row : (s : Scope) (o : Option (List ℕ)) (n : List ℕ) (j : ClassKey) → NamesClass rows s o n j → HasRow rows (class_decl j)
  names_row s None n j h = shows_row (FindsType rows (class_number rows s.class) n) j h
  names_row s (Some left) n j (o, first, second) = shows_row (FindsMemberType (entries_of rows) (class_number rows s.class) (class_number rows o) n) j second

  class_has : (of : ClassKey) (w : Written) (t : Ty) → WrittenAs rows of w t → (j : ClassKey) → t ≡ class j → HasRow rows (class_decl j)
  class_has of int t h j e = absurd (let never = sym h ∙ e in cc)
  class_has of boolean t h j e = absurd (let never = sym h ∙ e in cc)
  class_has of (named at o n) t (l, names, is) j e = subst (λ (x : ClassKey). HasRow rows (class_decl x)) (class_of_type l j (sym is ∙ e)) (names_row (place of) o n l names)

  -- what two types mean in the new program they meant in the old one
  types_back : (of : ClassKey) (n : ℕ) → ClassRow rows of n → (ps qs us vs : List DeclaredParam) → ParamsTo rows g of ps us → ParamsTo rows g of qs vs → SameTypes ts (class_to g of) us vs → SameTypes ss of ps qs
  types_back of n i [] [] [] [] a b h = tt
  types_back of n i [] [] [] (v ∷ vs) a b h = absurd h
  types_back of n i [] [] (u ∷ us) vs a b h = absurd a
  types_back of n i [] (q ∷ qs) [] [] a b h = absurd b
  types_back of n i [] (q ∷ qs) [] (v ∷ vs) a b h = absurd h
  types_back of n i [] (q ∷ qs) (u ∷ us) vs a b h = absurd a
  types_back of n i (p ∷ ps) qs [] vs a b h = absurd a
  types_back of n i (p ∷ ps) [] (u ∷ us) [] a b h = absurd h
  types_back of n i (p ∷ ps) [] (u ∷ us) (v ∷ vs) a b h = absurd b
  types_back of n i (p ∷ ps) (q ∷ qs) (u ∷ us) [] a b h = absurd h
  types_back of n i (p ∷ ps) (q ∷ qs) (u ∷ us) (v ∷ vs) a b h =
      let row = image_row rows g two.keeps ss ts two.agree two.are two.to of n i in
      let agree = new_one rows g ss ts two in
      let tops = new_tops rows g ss ts two in
      let all = new_parents rows g ss ts two in
      let first = meant New ts agree tops all (class_to g of) n row u.type h.0.0 (type_to g a.0.type) h.0.1 a.0.new in
      let second = meant New ts agree tops all (class_to g of) n row v.type h.0.0 (type_to g b.0.type) h.0.2 b.0.new in
      let left = written_means rows ss two.agree two.tops two.parents of n i p.type a.0.type a.0.old in
      let right = written_means rows ss two.agree two.tops two.parents of n i q.type b.0.type b.0.old in
      let same = one_type a.0.type b.0.type (class_has of p.type a.0.type a.0.old) (class_has of q.type b.0.type b.0.old) (sym first ∙ second) in
      ((a.0.type, left, subst (Means ss of q.type) (sym same) right), types_back of n i ps qs us vs a.2 b.2 h.1)

  -- the class around, by its name in the new program
  owner : (of of' : ClassKey) → of' ≡ class_to g of → of.outer ≡ None → HasRow rows (class_decl of) → (m : List ℕ) → HasRow rows (class_decl (top_key m)) → name_to g (class_decl (top_key m)) m ≡ of'.name → m ≡ of.name
  owner of of' same none row m there is =
      let image : class_to g (top_key m) ≡ class_to g of = (λ i. record { outer = None; name = is i }) ∙ (λ i. record { outer = ap (outer_to g) (sym none) i; name = ap (λ (z : ClassKey). z.name) same i }) in
      ap (λ (z : ClassKey). z.name) (one_class (top_key m) of there row image)

  -- the owner of a member
  module _ (program : AreProgramRows ss rows) where
    field_row : (i file : ℕ) (f : DeclaredField) → slice_get ss i ≡ Some (record { file = file; item = field_item f }) → HasRow rows (field_decl (record { class = f.of; name = f.name })) × HasRow rows (class_decl f.of)
    field_row i file f at =
        let r = gives ss rows program i file (field_item f) at in
        let n = in_stands rows r.0 r.1 in
        let decl = ap (λ (z : Row). z.decl) r.2.is in
        ((n.0, record { row = r.0; stands = n.1; declares = decl }), declarer rows g ss ts two r.0 (field_decl (record { class = f.of; name = f.name })) r.1 decl)

    method_row : (i file : ℕ) (m : DeclaredMethod) → slice_get ss i ≡ Some (record { file = file; item = method_item m })
        → ((us : List Ty) × HasRow rows (method_decl (record { class = m.of; name = m.name; params = us }))) × HasRow rows (class_decl m.of)
    method_row i file m at =
        let r = gives ss rows program i file (method_item m) at in
        let n = in_stands rows r.0 r.1 in
        let decl = ap (λ (z : Row). z.decl) r.2.is in
        ((r.2.params, (n.0, record { row = r.0; stands = n.1; declares = decl })), declarer rows g ss ts two r.0 (method_decl (record { class = m.of; name = m.name; params = r.2.params })) r.1 decl)

    ctor_row : (i file : ℕ) (c : DeclaredCtor) → slice_get ss i ≡ Some (record { file = file; item = ctor_item c }) → HasRow rows (class_decl c.of)
    ctor_row i file c at =
        let r = gives ss rows program i file (ctor_item c) at in
        declarer rows g ss ts two r.0 (constructor_decl (record { class = c.of; params = r.2.params })) r.1 (ap (λ (z : Row). z.decl) r.2.is)

    -- two members that are one in the new program were one in the old
    pub member_back : (i j f e : ℕ) (x y a b : Item) → slice_get ss i ≡ Some (record { file = f; item = x }) → slice_get ss j ≡ Some (record { file = e; item = y })
        → ItemTo rows g x a → ItemTo rows g y b → SameMember ts a b → SameMember ss x y
    member_back i j f e (field_item x) (field_item y) (field_item a) (field_item b) p q h k same =
        (one_class x.of y.of (field_row i f x p).1 (field_row j e y q).1 (sym h.of ∙ same.0 ∙ k.of), sym h.name ∙ same.1 ∙ k.name)
    member_back i j f e (method_item x) (method_item y) (method_item a) (method_item b) p q h k same =
        let row = (method_row i f x p).1 in
        let of = one_class x.of y.of row (method_row j e y q).1 (sym h.of ∙ same.0 ∙ k.of) in
        let params = subst (λ (z : ClassKey). ParamsTo rows g z y.params b.params) (sym of) k.params in
        (of, sym h.name ∙ same.1 ∙ k.name, types_back x.of row.0 row.1 x.params y.params a.params b.params h.params params (subst (λ (z : ClassKey). SameTypes ts z a.params b.params) h.of same.2))
    member_back i j f e (ctor_item x) (ctor_item y) (ctor_item a) (ctor_item b) p q h k same =
        let row = ctor_row i f x p in
        let of = one_class x.of y.of row (ctor_row j e y q) (sym h.of ∙ same.0 ∙ k.of) in
        let params = subst (λ (z : ClassKey). ParamsTo rows g z y.params b.params) (sym of) k.params in
        (of, types_back x.of row.0 row.1 x.params y.params a.params b.params h.params params (subst (λ (z : ClassKey). SameTypes ts z a.params b.params) h.of same.1))
    member_back i j f e (class_item x) y (class_item a) b p q h k same = absurd same
    member_back i j f e (class_item x) y (field_item a) b p q h k same = absurd h
    member_back i j f e (class_item x) y (method_item a) b p q h k same = absurd h
    member_back i j f e (class_item x) y (ctor_item a) b p q h k same = absurd h
    member_back i j f e (field_item x) y (class_item a) b p q h k same = absurd h
    member_back i j f e (field_item x) y (method_item a) b p q h k same = absurd h
    member_back i j f e (field_item x) y (ctor_item a) b p q h k same = absurd h
    member_back i j f e (method_item x) y (class_item a) b p q h k same = absurd h
    member_back i j f e (method_item x) y (field_item a) b p q h k same = absurd h
    member_back i j f e (method_item x) y (ctor_item a) b p q h k same = absurd h
    member_back i j f e (ctor_item x) y (class_item a) b p q h k same = absurd h
    member_back i j f e (ctor_item x) y (field_item a) b p q h k same = absurd h
    member_back i j f e (ctor_item x) y (method_item a) b p q h k same = absurd h
    member_back i j f e (field_item x) y (field_item a) (class_item b) p q h k same = absurd same
    member_back i j f e (field_item x) y (field_item a) (method_item b) p q h k same = absurd same
    member_back i j f e (field_item x) y (field_item a) (ctor_item b) p q h k same = absurd same
    member_back i j f e (method_item x) y (method_item a) (class_item b) p q h k same = absurd same
    member_back i j f e (method_item x) y (method_item a) (field_item b) p q h k same = absurd same
    member_back i j f e (method_item x) y (method_item a) (ctor_item b) p q h k same = absurd same
    member_back i j f e (ctor_item x) y (ctor_item a) (class_item b) p q h k same = absurd same
    member_back i j f e (ctor_item x) y (ctor_item a) (field_item b) p q h k same = absurd same
    member_back i j f e (ctor_item x) y (ctor_item a) (method_item b) p q h k same = absurd same
    member_back i j f e (field_item x) (class_item y) (field_item a) (field_item b) p q h k same = absurd k
    member_back i j f e (field_item x) (method_item y) (field_item a) (field_item b) p q h k same = absurd k
    member_back i j f e (field_item x) (ctor_item y) (field_item a) (field_item b) p q h k same = absurd k
    member_back i j f e (method_item x) (class_item y) (method_item a) (method_item b) p q h k same = absurd k
    member_back i j f e (method_item x) (field_item y) (method_item a) (method_item b) p q h k same = absurd k
    member_back i j f e (method_item x) (ctor_item y) (method_item a) (method_item b) p q h k same = absurd k
    member_back i j f e (ctor_item x) (class_item y) (ctor_item a) (ctor_item b) p q h k same = absurd k
    member_back i j f e (ctor_item x) (field_item y) (ctor_item a) (ctor_item b) p q h k same = absurd k
    member_back i j f e (ctor_item x) (method_item y) (ctor_item a) (ctor_item b) p q h k same = absurd k

    -- a member with the name of a member class of its class
    pub its_name_back : (k : ClassKey) → Fresh rows g k → (j i f : ℕ) (c d : DeclaredClass) → HasRow rows (class_decl c.key) → ((o : List ℕ) → c.key.outer ≡ Some o → HasRow rows (class_decl (top_key o)))
        → ClassTo rows g c d → (x y : Item) → slice_get ss i ≡ Some (record { file = f; item = x }) → ItemTo rows g x y → HasItsName d.key y → HasItsName c.key x
    its_name_back k fresh j i f c d row above h (field_item x) (field_item y) at to (top, around, called) =
        let r = field_row i f x at in
        let m = around_back rows g k fresh c.key.outer y.of.name (ap (λ (z : ClassKey). z.outer) (sym h.key) ∙ around) in
        let none = outer_none g x.of.outer (ap (λ (z : ClassKey). z.outer) (sym to.of) ∙ top) in
        let is = owner x.of y.of to.of none r.1 m.0 (above m.0 m.1) m.2 in
        (none, m.1 ∙ ap (λ (n : List ℕ). Some n) is, by (name_case rows g k fresh c.key) r.0 (m.1 ∙ ap (λ (n : List ℕ). Some n) is) none (sym to.name ∙ called ∙ ap (λ (z : ClassKey). z.name) h.key))
      where
        by : (new_name rows g k fresh c.key ≡ c.key.name) ⊎ ((c.key ≡ k) × (new_name rows g k fresh c.key ≡ g.name)) → HasRow rows (field_decl (record { class = x.of; name = x.name })) → c.key.outer ≡ Some x.of.name → x.of.outer ≡ None
            → x.name ≡ new_name rows g k fresh c.key → x.name ≡ c.key.name
        by (inl e) r some none is = is ∙ e
        by (inr e) r some none is = absurd (fresh.field (record { class = x.of; name = x.name }) r (is ∙ e.1) (ap (λ (z : ClassKey). z.outer) (sym e.0) ∙ some) none)
    its_name_back k fresh j i f c d row above h (method_item x) (method_item y) at to (top, around, called) =
        let r = method_row i f x at in
        let m = around_back rows g k fresh c.key.outer y.of.name (ap (λ (z : ClassKey). z.outer) (sym h.key) ∙ around) in
        let none = outer_none g x.of.outer (ap (λ (z : ClassKey). z.outer) (sym to.of) ∙ top) in
        let is = owner x.of y.of to.of none r.1 m.0 (above m.0 m.1) m.2 in
        (none, m.1 ∙ ap (λ (n : List ℕ). Some n) is, by (name_case rows g k fresh c.key) r.0.0 r.0.1 (m.1 ∙ ap (λ (n : List ℕ). Some n) is) none (sym to.name ∙ called ∙ ap (λ (z : ClassKey). z.name) h.key))
      where
        by : (new_name rows g k fresh c.key ≡ c.key.name) ⊎ ((c.key ≡ k) × (new_name rows g k fresh c.key ≡ g.name)) → (us : List Ty) → HasRow rows (method_decl (record { class = x.of; name = x.name; params = us })) → c.key.outer ≡ Some x.of.name → x.of.outer ≡ None
            → x.name ≡ new_name rows g k fresh c.key → x.name ≡ c.key.name
        by (inl e) us r some none is = is ∙ e
        by (inr e) us r some none is = absurd (fresh.method (record { class = x.of; name = x.name; params = us }) r (is ∙ e.1) (ap (λ (z : ClassKey). z.outer) (sym e.0) ∙ some) none)
    its_name_back k fresh j i f c d row above h x (class_item y) at to has = absurd has
    its_name_back k fresh j i f c d row above h x (ctor_item y) at to has = absurd has
    its_name_back k fresh j i f c d row above h (class_item x) (field_item y) at to has = absurd to
    its_name_back k fresh j i f c d row above h (method_item x) (field_item y) at to has = absurd to
    its_name_back k fresh j i f c d row above h (ctor_item x) (field_item y) at to has = absurd to
    its_name_back k fresh j i f c d row above h (class_item x) (method_item y) at to has = absurd to
    its_name_back k fresh j i f c d row above h (field_item x) (method_item y) at to has = absurd to
    its_name_back k fresh j i f c d row above h (ctor_item x) (method_item y) at to has = absurd to
