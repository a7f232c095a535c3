-- The new program has no fault of declarations, where no class is renamed: each fault would be one
-- of the old program, but for those of names that members and parameters get, which are looked at
-- apart.
use Rattle.std.proofs.Common.{◌≡◌, ℕ, suc, ◌<◌, List, [], ◌∷◌, Option, Some, None, false, refl, sym, ap, subst, ◌∙◌, inl, inr}
use Rattle.std.specs.Prelude.{map, option_map, slice_get}
use Rattle.std.proofs.lemmas.Option.{slice_get-map}
use Rattle.jr_ast.specs.declared.operators.ModWord.{ModWord}
use Rattle.jr_ast.specs.declared.operators.ModWord.TheVariants as word
use Rattle.jr_table.specs.declared.kinds.DeclKind.TheVariants as kind
use Rattle.jr_table.specs.Keys.{ClassKey}
use Rattle.jr_table.specs.Decls.{MemberKey, method, constructor}
use Rattle.jr_table.specs.DeclaredItems.{Written, int, boolean, named, DeclaredParam, DeclaredInit, DeclaredClass, Item, class_item, field_item, method_item, ctor_item, DeclaredItem}
use Rattle.jr_table.specs.Resolving.{HasWord, IsParent, Climbs}
use Rattle.jr_table.specs.Faults.{PackageLine, names_of, line_at, At, IsReserved, IsNamedAsOuter, TopWord, InnerWord, FieldWord, MethodWord, IsAccess, AreBad, ClassWordsBad, WordsBad, name_at, Writes, WritesType, SameMember, params_of, ParamTwice, HasItsName, InitIsBad, IsClean}
use Rattle.jr_images.specs.Images.{Renaming}
use Rattle.jr_images.proofs.Imaging.{map_some}
use Rattle.jr_rename_laws.proofs.SameClasses.{Alike, MaybeAlike, parent_goes, climbs_go, means_goes}
use Rattle.jr_rename_laws.proofs.DeclarationImages.{forms_of, ClassTo, ParamsTo, ItemTo, DeclarationsTo, Beside, declaration_back, class_beside, classes_forth, classes_back}

-- ---- parts of items

named_back : (v : Written) (a : ℕ) (o : Option (List ℕ)) (n : List ℕ) → Alike v (named a o n) → (b : ℕ) × (v ≡ named b o n)
named_back int a o n h = absurd h
named_back boolean a o n h = absurd h
named_back (named b p m) a o n h = (b, λ i. named b (h.0 i) (h.1 i))

parent_back : (w v : Option Written) (a : ℕ) (o : Option (List ℕ)) (n : List ℕ) → MaybeAlike w v → v ≡ Some (named a o n) → (b : ℕ) × (w ≡ Some (named b o n))
parent_back None None a o n h e = absurd cc
parent_back None (Some v) a o n h e = absurd h
parent_back (Some w) None a o n h e = absurd h
parent_back (Some w) (Some v) a o n h e =
    let same : v ≡ named a o n = cc in
    let r = named_back w a o n (subst (Alike w) same h) in
    (r.0, ap (λ (z : Written). Some z) r.1)

result_back : (w v : Option Written) (t : Written) → MaybeAlike w v → v ≡ Some t → (u : Written) × (w ≡ Some u) × Alike u t
result_back None None t h e = absurd cc
result_back None (Some v) t h e = absurd h
result_back (Some w) None t h e = absurd h
result_back (Some w) (Some v) t h e = let same : v ≡ t = cc in (w, refl, subst (Alike w) same h)

class_words : (o : Option (List ℕ)) (c d : DeclaredClass) → d.modifiers ≡ c.modifiers → ClassWordsBad d o → ClassWordsBad c o
class_words None c d e h = subst (AreBad TopWord) e h
class_words (Some o) c d e (inl h) = inl (subst (AreBad InnerWord) e h)
class_words (Some o) c d e (inr h) = inr (λ x. h (subst (λ (ws : List ModWord). HasWord ws word.Static) (sym e) x))

form_back : (x y : Option DeclaredInit) (j : DeclaredInit) → forms_of y ≡ forms_of x → y ≡ Some j → j.is_simple ≡ false → (i : DeclaredInit) × (x ≡ Some i) × (i.is_simple ≡ false)
form_back None y j e at other = let f = ap forms_of (sym at) ∙ e in absurd cc
form_back (Some i) y j e at other = let f : Some j.is_simple ≡ Some i.is_simple = ap forms_of (sym at) ∙ e in let same : j.is_simple ≡ i.is_simple = cc in (i, refl, sym same ∙ other)

module _ (g : Renaming) (ss : List DeclaredItem) where
  params_back : (k : MemberKey) (n : ℕ) (ps qs : List DeclaredParam) (t : Written) → ParamsTo g k n ps qs → Writes qs t → (u : Written) × Writes ps u × Alike u t
  params_back k n [] [] t h w = absurd w
  params_back k n [] (q ∷ qs) t h w = absurd h
  params_back k n (p ∷ ps) [] t h w = absurd h
  params_back k n (p ∷ ps) (q ∷ qs) t h (inl e) = (p.type, inl refl, subst (Alike p.type) e h.0)
  params_back k n (p ∷ ps) (q ∷ qs) t h (inr w) = let r = params_back k (suc n) ps qs t h.2 w in (r.0, inr r.1, r.2)

  writes_back : (x y : Item) (k : ClassKey) (t : Written) → ItemTo g ss x y → WritesType y k t → (u : Written) × WritesType x k u × Alike u t
  writes_back (class_item c) (class_item d) k t h w = absurd w
  writes_back (class_item c) (field_item d) k t h w = absurd h
  writes_back (class_item c) (method_item d) k t h w = absurd h
  writes_back (class_item c) (ctor_item d) k t h w = absurd h
  writes_back (field_item c) (class_item d) k t h w = absurd h
  writes_back (field_item c) (field_item d) k t h w = (c.type, (sym h.of ∙ w.0, refl), subst (Alike c.type) w.1 h.type)
  writes_back (field_item c) (method_item d) k t h w = absurd h
  writes_back (field_item c) (ctor_item d) k t h w = absurd h
  writes_back (method_item c) (class_item d) k t h w = absurd h
  writes_back (method_item c) (field_item d) k t h w = absurd h
  writes_back (method_item c) (method_item d) k t h (of, inl e) = let r = result_back c.result d.result t h.result e in (r.0, (sym h.of ∙ of, inl r.1), r.2)
  writes_back (method_item c) (method_item d) k t h (of, inr w) =
      let r = params_back (method (record { class = c.of; name = c.name; params = h.types })) 0 c.params d.params t h.params w in (r.0, (sym h.of ∙ of, inr r.1), r.2)
  writes_back (method_item c) (ctor_item d) k t h w = absurd h
  writes_back (ctor_item c) (class_item d) k t h w = absurd h
  writes_back (ctor_item c) (field_item d) k t h w = absurd h
  writes_back (ctor_item c) (method_item d) k t h w = absurd h
  writes_back (ctor_item c) (ctor_item d) k t h (of, w) =
      let r = params_back (constructor (record { class = c.of; params = h.types })) 0 c.params d.params t h.params w in (r.0, (sym h.of ∙ of, r.1), r.2)

  words_back : (x y : Item) → ItemTo g ss x y → WordsBad y → WordsBad x
  words_back (class_item c) (class_item d) h w = class_words c.key.outer c d h.words (subst (λ (k : ClassKey). ClassWordsBad d k.outer) h.key w)
  words_back (class_item c) (field_item d) h w = absurd h
  words_back (class_item c) (method_item d) h w = absurd h
  words_back (class_item c) (ctor_item d) h w = absurd h
  words_back (field_item c) (class_item d) h w = absurd h
  words_back (field_item c) (field_item d) h w = subst (AreBad FieldWord) h.words w
  words_back (field_item c) (method_item d) h w = absurd h
  words_back (field_item c) (ctor_item d) h w = absurd h
  words_back (method_item c) (class_item d) h w = absurd h
  words_back (method_item c) (field_item d) h w = absurd h
  words_back (method_item c) (method_item d) h w = subst (AreBad MethodWord) h.words w
  words_back (method_item c) (ctor_item d) h w = absurd h
  words_back (ctor_item c) (class_item d) h w = absurd h
  words_back (ctor_item c) (field_item d) h w = absurd h
  words_back (ctor_item c) (method_item d) h w = absurd h
  words_back (ctor_item c) (ctor_item d) h w = subst (AreBad IsAccess) h.words w

  init_back : (x y : Item) (at : ℕ) → ItemTo g ss x y → InitIsBad y at → (b : ℕ) × InitIsBad x b
  init_back (class_item c) (class_item d) at h w = absurd w
  init_back (class_item c) (field_item d) at h w = absurd h
  init_back (class_item c) (method_item d) at h w = absurd h
  init_back (class_item c) (ctor_item d) at h w = absurd h
  init_back (field_item c) (class_item d) at h w = absurd h
  init_back (field_item c) (field_item d) at h (static, (j, is, other, place)) =
      let r = form_back c.init d.init j h.init is other in (r.0.at, (subst (λ (ws : List ModWord). HasWord ws word.Static) h.words static, (r.0, r.1, r.2, refl)))
  init_back (field_item c) (method_item d) at h w = absurd h
  init_back (field_item c) (ctor_item d) at h w = absurd h
  init_back (method_item c) (class_item d) at h w = absurd h
  init_back (method_item c) (field_item d) at h w = absurd h
  init_back (method_item c) (method_item d) at h w = absurd w
  init_back (method_item c) (ctor_item d) at h w = absurd h
  init_back (ctor_item c) (class_item d) at h w = absurd h
  init_back (ctor_item c) (field_item d) at h w = absurd h
  init_back (ctor_item c) (method_item d) at h w = absurd h
  init_back (ctor_item c) (ctor_item d) at h w = absurd w

-- the faults of names that members and parameters get
pub record NamesAreClear (g : Renaming) (ss ts : List DeclaredItem) : Type 0 where
  pub twice : (i j f e : ℕ) (x y a b : Item) → i < j → Beside g ss i f x a ss ts → Beside g ss j e y b ss ts → SameMember ts a b → ⊥
  pub params : (i f at : ℕ) (x a : Item) → Beside g ss i f x a ss ts → ParamTwice (params_of a) at → ⊥
  pub inner : (i j f e : ℕ) (c d : DeclaredClass) (y b : Item) → Beside g ss i f (class_item c) (class_item d) ss ts → Beside g ss j e y b ss ts → HasItsName d.key b → ⊥

module _ (g : Renaming) (packages lines : List (Option PackageLine)) (ss ts : List DeclaredItem) (clean : IsClean packages ss) (to : DeclarationsTo g ss ss ts) (clear : NamesAreClear g ss ts)
    (same : map names_of lines ≡ map names_of packages) where
  line_back : (i : ℕ) (l : Option PackageLine) → slice_get lines i ≡ Some l → (m : Option PackageLine) × (slice_get packages i ≡ Some m) × (names_of m ≡ names_of l)
  line_back i l e = map_some names_of (slice_get packages i) (names_of l)
      (sym (slice_get-map names_of packages i) ∙ ap (λ (xs : List (List (List ℕ))). slice_get xs i) (sym same) ∙ slice_get-map names_of lines i ∙ ap (option_map names_of) e)

  item_back : (i f : ℕ) (y : Item) → At ts i f y → (x : Item) × Beside g ss i f x y ss ts
  item_back i f y at = declaration_back g ss ss ts to i f y at.stands

  class_back : (i f : ℕ) (d : DeclaredClass) → At ts i f (class_item d) → (c : DeclaredClass) × At ss i f (class_item c) × ClassTo c d × Beside g ss i f (class_item c) (class_item d) ss ts
  class_back i f d at =
      let r = item_back i f (class_item d) at in
      let b = class_beside g ss r.0 d r.1.to in
      let whole = subst (λ (x : Item). Beside g ss i f x (class_item d) ss ts) b.1 r.1 in
      (b.0, record { stands = whole.old }, b.2, whole)

  pub is_clean : IsClean lines ts
  is_clean kind.PackageDiffers p (first, own, at_first, at_own, differ, at) =
      let a = line_back 0 first at_first in
      let b = line_back p.file own at_own in
      clean kind.PackageDiffers (record { file = p.file; at = line_at b.0 }) (a.0, b.0, a.1, b.1, (λ e. differ (sym b.2 ∙ e ∙ a.2)), refl)
  is_clean kind.PreludeName p (i, d, at, reserved, place) =
      let c = class_back i p.file d at in
      clean kind.PreludeName (record { file = p.file; at = c.0.at }) (i, c.0, c.1, subst (λ (k : ClassKey). IsReserved k.name) c.2.key reserved, refl)
  is_clean kind.TwiceClass p (j, d, at, place, inl (i, file, e, less, first, same_key)) =
      let c = class_back j p.file d at in
      let b = class_back i file e first in
      clean kind.TwiceClass (record { file = p.file; at = c.0.at }) (j, c.0, c.1, refl, inl (i, file, b.0, less, b.1, sym b.2.key ∙ same_key ∙ c.2.key))
  is_clean kind.TwiceClass p (j, d, at, place, inr as_outer) =
      let c = class_back j p.file d at in
      clean kind.TwiceClass (record { file = p.file; at = c.0.at }) (j, c.0, c.1, refl, inr (subst IsNamedAsOuter c.2.key as_outer))
  is_clean kind.NoSuperclass p (i, d, outer, name, at, parent, none) =
      let c = class_back i p.file d at in
      let w = parent_back c.0.parent d.parent p.at outer name c.2.parent parent in
      clean kind.NoSuperclass (record { file = p.file; at = w.0 })
      (i, c.0, outer, name, c.1, w.1, λ q h. none q (subst (λ (k : ClassKey). IsParent ts k q) (sym c.2.key) (parent_goes ss ts (classes_forth g ss ss ts to) (classes_back g ss ss ts to) c.0.key q h)))
  is_clean kind.Cycle p (i, d, steps, at, climbs, place) =
      let c = class_back i p.file d at in
      clean kind.Cycle (record { file = p.file; at = c.0.at })
      (i, c.0, steps, c.1, subst (λ (k : ClassKey). Climbs ss (suc steps) k k) c.2.key (climbs_go ts ss (classes_back g ss ss ts to) (classes_forth g ss ss ts to) (suc steps) d.key d.key climbs), refl)
  is_clean kind.NoTy p (i, y, k, outer, name, at, writes, none) =
      let x = item_back i p.file y at in
      let u = writes_back g ss x.0 y k (named p.at outer name) x.1.to writes in
      let w = named_back u.0 p.at outer name u.2 in
      clean kind.NoTy (record { file = p.file; at = w.0 }) (
        i,
        x.0,
        k,
        outer,
        name,
        record { stands = x.1.old },
        subst (WritesType x.0 k) w.1 u.1,
        λ t h. none t (means_goes ss ts (classes_forth g ss ss ts to) (classes_back g ss ss ts to) k (named w.0 outer name) (named p.at outer name) t (refl, refl) h),
      )
  is_clean kind.TwiceMember p (j, b, at, inl (i, file, a, less, first, both, place)) =
      let y = item_back j p.file b at in
      let x = item_back i file a first in
      clear.twice i j file p.file x.0 y.0 a b less x.1 y.1 both
  is_clean kind.TwiceMember p (j, b, at, inr twice) =
      let y = item_back j p.file b at in
      clear.params j p.file p.at y.0 b y.1 twice
  is_clean kind.MemberTypeName p (i, j, file, d, b, at, there, has, place) =
      let c = class_back i p.file d at in
      let y = item_back j file b there in
      clear.inner i j p.file file c.0 d y.0 b c.3 y.1 has
  is_clean kind.BadModifiers p (i, y, at, bad, place) =
      let x = item_back i p.file y at in
      clean kind.BadModifiers (record { file = p.file; at = name_at x.0 }) (i, x.0, record { stands = x.1.old }, words_back g ss x.0 y x.1.to bad, refl)
  is_clean kind.StaticInit p (i, y, at, bad) =
      let x = item_back i p.file y at in
      let r = init_back g ss x.0 y p.at x.1.to bad in
      clean kind.StaticInit (record { file = p.file; at = r.0 }) (i, x.0, record { stands = x.1.old }, r.1)
