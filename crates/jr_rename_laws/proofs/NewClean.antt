-- The new trees have no fault of declarations, where each of their classes has a superclass: each
-- other fault would be one of the old program.
use Rattle.std.proofs.Common.{◌≡◌, ℕ, zero, suc, List, [], ◌∷◌, Option, Some, None, Bool, true, false, refl, sym, ap, subst, ◌∙◌, inl, inr}
use Rattle.std.specs.Prelude.{◌⊎◌, map, option_map, slice_get, is_some}
use Rattle.std.proofs.lemmas.Option.{slice_get-map, same_Some}
use Rattle.jr_ast.specs.declared.operators.ModWord.{ModWord}
use Rattle.jr_ast.specs.declared.operators.ModWord.TheVariants as word
use Rattle.jr_table.specs.declared.kinds.DeclKind.TheVariants as kind
use Rattle.jr_table.specs.Keys.{ClassKey, Ty}
use Rattle.jr_table.specs.Decls.{class_decl}
use Rattle.jr_table.specs.Rows.{Row}
use Rattle.jr_table.specs.Prelude.{top_key}
use Rattle.jr_table.specs.Entries.{entries_of}
use Rattle.jr_table.specs.Chains as chains
use Rattle.jr_table.specs.DeclaredItems.{Written, DeclaredParam, DeclaredInit, DeclaredClass, DeclaredField, Item, class_item, field_item, method_item, ctor_item, DeclaredItem}
use Rattle.jr_table.specs.Resolving.{HasWord, Climbs, Means}
use Rattle.jr_table.specs.ProgramRows.{MeanTypes, MeansResult, AreProgramRows}
use Rattle.jr_table.specs.Faults.{PackageLine, names_of, line_at, IsReserved, IsNamedAsOuter, TopWord, InnerWord, FieldWord, MethodWord, IsAccess, AreBad, ClassWordsBad, WordsBad, name_at, Writes, WritesType, params_of, InitIsBad, IsClean}
use Rattle.jr_images.specs.Images.{Renaming, outer_to, rows_to}
use Rattle.jr_program_laws.proofs.RowsOfDeclarations.{Gives, gives}
use Rattle.jr_program_laws.proofs.Agreeing.{ClassRow, one_row, superclass_row, parent_number, outer_row}
use Rattle.jr_rename_laws.proofs.ItemsBeside.{ParamsTo, FieldTo, ItemTo, class_back}
use Rattle.jr_rename_laws.proofs.NewAgreeing.{Both, new_one, new_parents}
use Rattle.jr_rename_laws.proofs.NewNames.{HasRow, Fresh, new_name, name_case, as_outer, item_back, one_class, member_back, its_name_back}

-- the types that an item writes mean something, where it has its row
params_meant : (ts : List DeclaredItem) (k : ClassKey) (ps : List DeclaredParam) (us : List Ty) (w : Written) → MeanTypes ts k ps us → Writes ps w → (t : Ty) × Means ts k w t
params_meant ts k [] us w m h = absurd h
params_meant ts k (p ∷ ps) [] w m h = absurd m
params_meant ts k (p ∷ ps) (u ∷ us) w m (inl e) = (u, subst (λ (z : Written). Means ts k z u) e m.0)
params_meant ts k (p ∷ ps) (u ∷ us) w m (inr h) = params_meant ts k ps us w m.1 h

item_meant : (ts : List DeclaredItem) (rows : List Row) (y : Item) → Gives ts y rows → (k : ClassKey) (w : Written) → WritesType y k w → (t : Ty) × Means ts k w t
item_meant ts rows (class_item c) g k w h = absurd h
item_meant ts rows (field_item f) (r, there, is) k w (of, type) = (is.type, subst (λ (z : ClassKey). Means ts z w is.type) of (subst (λ (z : Written). Means ts f.of z is.type) type is.means))
item_meant ts rows (method_item m) (r, there, is) k w (of, inl result) =
    (is.result, subst (λ (z : ClassKey). Means ts z w is.result) of (subst (λ (z : Option Written). MeansResult ts m.of z is.result) result is.means))
item_meant ts rows (method_item m) (r, there, is) k w (of, inr writes) = subst (λ (z : ClassKey). (t : Ty) × Means ts z w t) of (params_meant ts m.of m.params is.params w is.mean writes)
item_meant ts rows (ctor_item c) (r, there, is) k w (of, writes) = subst (λ (z : ClassKey). (t : Ty) × Means ts z w t) of (params_meant ts c.of c.params is.params w is.mean writes)

module _ (rows : List Row) (g : Renaming) where
  -- parameters keep their names
  list_back : (of : ClassKey) (ps qs : List DeclaredParam) → ParamsTo rows g of ps qs → (n : ℕ) (q : DeclaredParam) → slice_get qs n ≡ Some q → (p : DeclaredParam) × (slice_get ps n ≡ Some p) × (q.name ≡ p.name)
  list_back of [] [] h n q e = absurd cc
  list_back of [] (x ∷ qs) h n q e = absurd h
  list_back of (p ∷ ps) [] h n q e = absurd h
  list_back of (p ∷ ps) (x ∷ qs) h zero q e = (p, refl, ap (λ (z : DeclaredParam). z.name) (sym (same_Some x q e)) ∙ h.1)
  list_back of (p ∷ ps) (x ∷ qs) h (suc n) q e = list_back of ps qs h.2 n q e

  params_back : (x y : Item) → ItemTo rows g x y → (n : ℕ) (q : DeclaredParam) → slice_get (params_of y) n ≡ Some q → (p : DeclaredParam) × (slice_get (params_of x) n ≡ Some p) × (q.name ≡ p.name)
  params_back (class_item x) (class_item y) h n q e = absurd cc
  params_back (class_item x) (field_item y) h n q e = absurd h
  params_back (class_item x) (method_item y) h n q e = absurd h
  params_back (class_item x) (ctor_item y) h n q e = absurd h
  params_back (field_item x) (class_item y) h n q e = absurd h
  params_back (field_item x) (field_item y) h n q e = absurd cc
  params_back (field_item x) (method_item y) h n q e = absurd h
  params_back (field_item x) (ctor_item y) h n q e = absurd h
  params_back (method_item x) (class_item y) h n q e = absurd h
  params_back (method_item x) (field_item y) h n q e = absurd h
  params_back (method_item x) (method_item y) h n q e = list_back x.of x.params y.params h.params n q e
  params_back (method_item x) (ctor_item y) h n q e = absurd h
  params_back (ctor_item x) (class_item y) h n q e = absurd h
  params_back (ctor_item x) (field_item y) h n q e = absurd h
  params_back (ctor_item x) (method_item y) h n q e = absurd h
  params_back (ctor_item x) (ctor_item y) h n q e = list_back x.of x.params y.params h.params n q e

  -- modifiers stay
  class_words : (o : Option (List ℕ)) (c d : DeclaredClass) → d.modifiers ≡ c.modifiers → ClassWordsBad d (outer_to g o) → ClassWordsBad c o
  class_words None c d e h = subst (AreBad TopWord) e h
  class_words (Some o) c d e (inl h) = inl (subst (AreBad InnerWord) e h)
  class_words (Some o) c d e (inr h) = inr (λ x. h (subst (λ (ws : List ModWord). HasWord ws word.Static) (sym e) x))

  words_back : (x y : Item) → ItemTo rows g x y → WordsBad y → WordsBad x
  words_back (class_item x) (class_item y) h w = class_words x.key.outer x y h.words (subst (λ (k : ClassKey). ClassWordsBad y k.outer) h.key w)
  words_back (class_item x) (field_item y) h w = absurd h
  words_back (class_item x) (method_item y) h w = absurd h
  words_back (class_item x) (ctor_item y) h w = absurd h
  words_back (field_item x) (class_item y) h w = absurd h
  words_back (field_item x) (field_item y) h w = subst (AreBad FieldWord) h.words w
  words_back (field_item x) (method_item y) h w = absurd h
  words_back (field_item x) (ctor_item y) h w = absurd h
  words_back (method_item x) (class_item y) h w = absurd h
  words_back (method_item x) (field_item y) h w = absurd h
  words_back (method_item x) (method_item y) h w = subst (AreBad MethodWord) h.words w
  words_back (method_item x) (ctor_item y) h w = absurd h
  words_back (ctor_item x) (class_item y) h w = absurd h
  words_back (ctor_item x) (field_item y) h w = absurd h
  words_back (ctor_item x) (method_item y) h w = absurd h
  words_back (ctor_item x) (ctor_item y) h w = subst (AreBad IsAccess) h.words w

  -- an initializer of another form
  form_back : (f h : DeclaredField) → FieldTo rows g f h → (j : DeclaredInit) → h.init ≡ Some j → j.is_simple ≡ false → (o : Option DeclaredInit) → f.init ≡ o → (i : DeclaredInit) × (f.init ≡ Some i) × (i.is_simple ≡ false)
  form_back f h x j is other None e = let never = sym (ap is_some is) ∙ x.init ∙ ap is_some e in absurd cc
  form_back f h x j is other (Some i) e = by i.is_simple refl
    where
      by : (b : Bool) → i.is_simple ≡ b → (i : DeclaredInit) × (f.init ≡ Some i) × (i.is_simple ≡ false)
      by true t = let never = sym (x.simple i j e is t) ∙ other in absurd cc
      by false t = (i, e, t)

  init_back : (x y : Item) (at : ℕ) → ItemTo rows g x y → InitIsBad y at → (b : ℕ) × InitIsBad x b
  init_back (class_item x) (class_item y) at h w = absurd w
  init_back (class_item x) (field_item y) at h w = absurd h
  init_back (class_item x) (method_item y) at h w = absurd h
  init_back (class_item x) (ctor_item y) at h w = absurd h
  init_back (field_item x) (class_item y) at h w = absurd h
  init_back (field_item x) (field_item y) at h (static, (j, is, other, place)) =
      let r = form_back x y h j is other x.init refl in (r.0.at, (subst (λ (ws : List ModWord). HasWord ws word.Static) h.words static, (r.0, r.1, r.2, refl)))
  init_back (field_item x) (method_item y) at h w = absurd h
  init_back (field_item x) (ctor_item y) at h w = absurd h
  init_back (method_item x) (class_item y) at h w = absurd h
  init_back (method_item x) (field_item y) at h w = absurd h
  init_back (method_item x) (method_item y) at h w = absurd w
  init_back (method_item x) (ctor_item y) at h w = absurd h
  init_back (ctor_item x) (class_item y) at h w = absurd h
  init_back (ctor_item x) (field_item y) at h w = absurd h
  init_back (ctor_item x) (method_item y) at h w = absurd h
  init_back (ctor_item x) (ctor_item y) at h w = absurd w

module _ (rows : List Row) (g : Renaming) (ss ts : List DeclaredItem) (two : Both rows g ss ts) (k : ClassKey) (fresh : Fresh rows g k) (packages : List (Option PackageLine)) (clean : IsClean packages ss) (program : AreProgramRows ss rows) (news : AreProgramRows ts (rows_to g rows)) where
  abbrev New : List Row
  New = rows_to g rows

  declaration_row : (i file : ℕ) (c : DeclaredClass) → slice_get ss i ≡ Some (record { file = file; item = class_item c }) → HasRow rows (class_decl c.key)
  declaration_row i file c at = let r = two.agree.declared_row c.key c (record { number = i; file = file; stands = at; is = refl }) in (r.0, r.1)

  above : (j : ClassKey) → HasRow rows (class_decl j) → (o : List ℕ) → j.outer ≡ Some o → HasRow rows (class_decl (top_key o))
  above j row o e = let r = outer_row rows two.agree.rows_are j row.0 o row.1 e in (r.0, r.1)

  -- a reserved name
  not_reserved : (j : ClassKey) → (new_name rows g k fresh j ≡ j.name) ⊎ ((j ≡ k) × (new_name rows g k fresh j ≡ g.name)) → IsReserved (new_name rows g k fresh j) → IsReserved j.name
  not_reserved j (inl e) h = subst IsReserved e h
  not_reserved j (inr e) h = absurd (never (subst IsReserved e.1 h))
    where
      never : IsReserved g.name → ⊥
      never (inl is) = fresh.fresh (top_key g.name) (two.agree.prelude_row g.name is) refl
      never (inr is) = fresh.runnable is

  -- no class is its own superclass
  climbs : (n : ℕ) (j l : ClassKey) → Climbs ts n j l → (c : ℕ) → ClassRow New j c → (d : ℕ) → ClassRow New l d → chains.Climbs (entries_of New) n c d
  climbs zero j l h c x d y = one_row New two.are l c d (subst (λ (z : ClassKey). ClassRow New z c) h x) y
  climbs (suc n) j l (p, parent, more) c x d y =
      let s = (new_parents rows g ss ts two).up j p parent in
      let m = superclass_row New two.are j p s in
      (m.0, parent_number New two.are j p c m.0 x s m.1, climbs n p l more m.0 m.1 d y)

  new_row : (i file : ℕ) (d : DeclaredClass) → slice_get ts i ≡ Some (record { file = file; item = class_item d }) → (n : ℕ) × ClassRow New d.key n
  new_row i file d at = let r = (new_one rows g ss ts two).declared_row d.key d (record { number = i; file = file; stands = at; is = refl }) in (r.0, r.1)

  cycle : (j : ClassKey) (steps : ℕ) → Climbs ts (suc steps) j j → (n : ℕ) × ClassRow New j n → ⊥
  cycle j steps h (n, row) = two.are.no_cycle n steps (climbs (suc steps) j j h n row n row)

  module _ (lines : List (Option PackageLine)) (same : map names_of lines ≡ map names_of packages) where
    name_some : (o : Option (Option PackageLine)) (ns : List (List ℕ)) → option_map names_of o ≡ Some ns → (l : Option PackageLine) × (o ≡ Some l) × (names_of l ≡ ns)
    name_some None ns e = absurd cc
    name_some (Some l) ns e = (l, refl, same_Some _ _ e)

    line_back : (i : ℕ) (l : Option PackageLine) → slice_get lines i ≡ Some l → (m : Option PackageLine) × (slice_get packages i ≡ Some m) × (names_of m ≡ names_of l)
    line_back i l e = name_some (slice_get packages i) (names_of l)
        (sym (slice_get-map names_of packages i) ∙ ap (λ (xs : List (List (List ℕ))). slice_get xs i) (sym same) ∙ slice_get-map names_of lines i ∙ ap (option_map names_of) e)

    pub is_clean : IsClean lines ts
    is_clean kind.PackageDiffers p (first, own, at_first, at_own, differ, at) =
        let a = line_back 0 first at_first in
        let b = line_back p.file own at_own in
        clean kind.PackageDiffers (record { file = p.file; at = line_at b.0 }) (a.0, b.0, a.1, b.1, (λ e. differ (sym b.2 ∙ e ∙ a.2)), refl)
    is_clean kind.PreludeName p (i, d, at, reserved, place) =
        let c = class_back rows g ss ts two.to i d (p.file, at.stands) in
        let old = not_reserved c.0.key (name_case rows g k fresh c.0.key) (subst IsReserved (ap (λ (z : ClassKey). z.name) c.2.key) reserved) in
        clean kind.PreludeName (record { file = c.1.0; at = c.0.at }) (i, c.0, record { stands = c.1.1 }, old, refl)
    is_clean kind.TwiceClass p (j, d, at, place, inl (i, file, e, less, first, same_key)) =
        let c = class_back rows g ss ts two.to j d (p.file, at.stands) in
        let b = class_back rows g ss ts two.to i e (file, first.stands) in
        let one = one_class rows g ss ts two b.0.key c.0.key (declaration_row i b.1.0 b.0 b.1.1) (declaration_row j c.1.0 c.0 c.1.1) (sym b.2.key ∙ same_key ∙ c.2.key) in
        clean kind.TwiceClass (record { file = c.1.0; at = c.0.at }) (j, c.0, record { stands = c.1.1 }, refl, inl (i, b.1.0, b.0, less, record { stands = b.1.1 }, one))
    is_clean kind.TwiceClass p (j, d, at, place, inr named) =
        let c = class_back rows g ss ts two.to j d (p.file, at.stands) in
        let row = declaration_row j c.1.0 c.0 c.1.1 in
        let old = as_outer rows g k fresh c.0.key row (above c.0.key row) (subst IsNamedAsOuter c.2.key named) in
        clean kind.TwiceClass (record { file = c.1.0; at = c.0.at }) (j, c.0, record { stands = c.1.1 }, refl, inr old)
    is_clean kind.NoSuperclass p (i, d, outer, name, at, parent, none) =
        let q = two.new_parent d.key d (record { number = i; file = p.file; stands = at.stands; is = refl }) in
        none q.0 q.1
    is_clean kind.Cycle p (i, d, steps, at, h, place) =
        cycle d.key steps h (new_row i p.file d at.stands)
    is_clean kind.NoTy p (i, y, j, outer, name, at, writes, none) =
        let m = item_meant ts New y (gives ts New news i p.file y at.stands) j _ writes in
        none m.0 m.1
    is_clean kind.TwiceMember p (j, b, at, inl (i, file, a, less, first, both, place)) =
        let y = item_back rows g ss ts two.to j p.file b at.stands in
        let x = item_back rows g ss ts two.to i file a first.stands in
        let old = member_back rows g ss ts two program i j x.1 y.1 x.0 y.0 a b x.2 y.2 x.3 y.3 both in
        clean kind.TwiceMember (record { file = y.1; at = name_at y.0 }) (j, y.0, record { stands = y.2 }, inl (i, x.1, x.0, less, record { stands = x.2 }, old, refl))
    is_clean kind.TwiceMember p (j, b, at, inr twice) =
        let y = item_back rows g ss ts two.to j p.file b at.stands in
        let first = params_back rows g y.0 b y.3 twice.i twice.first twice.one in
        let second = params_back rows g y.0 b y.3 twice.j twice.second twice.other in
        clean kind.TwiceMember (record { file = y.1; at = second.0.at }) (
          j,
          y.0,
          record { stands = y.2 },
          inr (record { i = twice.i; j = twice.j; before = twice.before; first = first.0; second = second.0; one = first.1; other = second.1; same = sym first.2 ∙ twice.same ∙ second.2; place = refl }),
        )
    is_clean kind.MemberTypeName p (i, j, file, d, b, at, there, has, place) =
        let c = class_back rows g ss ts two.to i d (p.file, at.stands) in
        let x = item_back rows g ss ts two.to j file b there.stands in
        let row = declaration_row i c.1.0 c.0 c.1.1 in
        let old = its_name_back rows g ss ts two program k fresh i j x.1 c.0 d row (above c.0.key row) c.2 x.0 b x.2 x.3 has in
        clean kind.MemberTypeName (record { file = c.1.0; at = c.0.at }) (i, j, x.1, c.0, x.0, record { stands = c.1.1 }, record { stands = x.2 }, old, refl)
    is_clean kind.BadModifiers p (i, y, at, bad, place) =
        let x = item_back rows g ss ts two.to i p.file y at.stands in
        clean kind.BadModifiers (record { file = x.1; at = name_at x.0 }) (i, x.0, record { stands = x.2 }, words_back rows g x.0 y x.3 bad, refl)
    is_clean kind.StaticInit p (i, y, at, bad) =
        let x = item_back rows g ss ts two.to i p.file y at.stands in
        let r = init_back rows g x.0 y p.at x.3 bad in
        clean kind.StaticInit (record { file = x.1; at = r.0 }) (i, x.0, record { stands = x.2 }, r.1)
