-- The images of the rows agree with the declarations of the new program.
use Rattle.std.proofs.Common.{◌≡◌, ℕ, zero, suc, List, Option, Some, None, refl, sym, ap, subst, ◌∙◌, inl, inr}
use Rattle.std.specs.Prelude.{option_map, slice_get}
use Rattle.std.specs.List.{list_any}
use Rattle.std.proofs.lemmas.Option.{slice_get-map, same_Some}
use Rattle.jr_table.specs.Keys.{ClassKey, Ty, class}
use Rattle.jr_table.specs.Keys as keys
use Rattle.jr_table.specs.Decls.{Decl, class_decl, field_decl, method_decl, constructor_decl, local_decl}
use Rattle.jr_table.specs.Rows.{Row}
use Rattle.jr_table.specs.Prelude.{top_key, object_key}
use Rattle.jr_table.specs.Entries.{is_private_word, entries_of}
use Rattle.jr_table.specs.Conditions.{AreRows}
use Rattle.jr_table.specs.Members.{IsMemberType}
use Rattle.jr_table.specs.Found.{one}
use Rattle.jr_table.specs.HeadRules.{TopFinds}
use Rattle.jr_table.specs.Context.{IsSuperclass}
use Rattle.jr_table.specs.DeclaredItems.{Written, int, boolean, named, DeclaredClass, DeclaredItem}
use Rattle.jr_table.specs.Resolving.{DeclaresClass, IsPreludeClass, IsPreludeSubclass, TopNames, TopParent, MemberNames, TypeWithin, HasMemberType, IsParent}
use Rattle.jr_build_hierarchy.proofs.Looks.{key}
use Rattle.jr_members.proofs.Meaning.{OneClass, Unreserved}
use Rattle.jr_images.specs.Images.{Renaming, outer_to, class_to, type_to, decl_to, row_to, rows_to}
use Rattle.jr_program_laws.proofs.Agreeing.{Agree, TopsAgree, ParentsAgree, ClassRow, one_row, parent_number, superclass_row, inherited_member, type_declared, row_private, outer_row}
use Rattle.jr_program_laws.proofs.MemberTypesFound.{top_found, RowWith}
use Rattle.jr_rename_laws.proofs.WrittenTypes.{WrittenAs, named_in_top, parent_meant}
use Rattle.jr_rename_laws.proofs.Renamed.{Keeps, prelude_stays, object_stays}
use Rattle.jr_rename_laws.proofs.ItemsBeside.{ParentTo, ClassTo, DeclarationsTo, class_forth, class_back}

pub class_of_decl : (x y : ClassKey) → class_decl x ≡ class_decl y → x ≡ y
class_of_decl x y e = cc

-- what a class row is the image of
from_class : (g : Renaming) (d : Decl) (k : ClassKey) → decl_to g d ≡ class_decl k → (j : ClassKey) × (d ≡ class_decl j) × (class_to g j ≡ k)
from_class g (class_decl j) k e = (j, refl, class_of_decl (class_to g j) k e)
from_class g (field_decl j) k e = absurd cc
from_class g (method_decl j) k e = absurd cc
from_class g (constructor_decl j) k e = absurd cc
from_class g (local_decl j) k e = absurd cc

some_row : (g : Renaming) (o : Option Row) (r : Row) → option_map (row_to g) o ≡ Some r → (x : Row) × (o ≡ Some x) × (row_to g x ≡ r)
some_row g None r e = absurd cc
some_row g (Some x) r e = (x, refl, same_Some _ _ e)

module _ (rows : List Row) (g : Renaming) (keeps : Keeps rows g) (ss ts : List DeclaredItem) (a : Agree rows ss) (are : AreRows (rows_to g rows)) (to : DeclarationsTo rows g ss ts) where
  abbrev Rows : List Row
  Rows = rows_to g rows

  -- a row and its image
  abbrev pub image_row : (k : ClassKey) (j : ℕ) (i : ClassRow rows k j) → ClassRow Rows (class_to g k) j
  image_row k j i = record { row = row_to g i.row; stands = slice_get-map (row_to g) rows j ∙ ap (option_map (row_to g)) i.stands; declares = ap (decl_to g) i.declares }

  pub row_behind : (k : ClassKey) (j : ℕ) (i : ClassRow Rows k j) → (l : ClassKey) × (r : ClassRow rows l j) × (class_to g l ≡ k) × (row_to g r.row ≡ i.row)
  row_behind k j i =
      let r = some_row g (slice_get rows j) i.row (sym (slice_get-map (row_to g) rows j) ∙ i.stands) in
      let l = from_class g r.0.decl k (ap (λ (x : Row). x.decl) r.2 ∙ i.declares) in
      (l.0, record { row = r.0; stands = r.1; declares = l.1 }, l.2, r.2)

  -- the class that was declared there
  pub declaration_behind : (k : ClassKey) (d : DeclaredClass) → DeclaresClass ts k d → (c : DeclaredClass) × DeclaresClass ss c.key c × ClassTo rows g c d × (class_to g c.key ≡ k)
  declaration_behind k d at =
      let r = class_back rows g ss ts to at.number d (at.file, at.stands) in
      (r.0, record { number = at.number; file = r.1.0; stands = r.1.1; is = refl }, r.2, sym r.2.key ∙ at.is)

  pub declaration_ahead : (k : ClassKey) (c : DeclaredClass) → DeclaresClass ss k c → (d : DeclaredClass) × DeclaresClass ts (class_to g k) d × ClassTo rows g c d
  declaration_ahead k c at =
      let r = class_forth rows g ss ts to at.number c (at.file, at.stands) in
      (r.0, record { number = at.number; file = r.1.0; stands = r.1.1; is = r.2.key ∙ ap (class_to g) at.is }, r.2)

  top_is : (k : ClassKey) → k.outer ≡ None → IsPreludeClass k.name → class_to g k ≡ k
  top_is k top is =
      let whole : k ≡ top_key k.name = λ n. record { outer = top n; name = k.name } in
      ap (class_to g) whole ∙ prelude_stays rows g keeps k.name is ∙ sym whole

  pub new_agree : Agree Rows ts
  new_agree = record {
    rows_are = are;
    declared_row = λ k d at.
        let c = declaration_behind k d at in
        let r = a.declared_row c.0.key c.0 c.1 in
        subst (λ (x : ClassKey). (j : ℕ) × (i : ClassRow Rows x j) × (i.row.modifiers ≡ d.modifiers)) c.3 (r.0, image_row c.0.key r.0 r.1, r.2 ∙ sym c.2.words);
    prelude_row = λ name is.
        let r = a.prelude_row name is in
        (r.0, subst (λ (x : ClassKey). ClassRow Rows x r.0) (prelude_stays rows g keeps name is) (image_row (top_key name) r.0 r.1));
    row_class = λ k j i.
        let l = row_behind k j i in
        let words : i.row.modifiers ≡ l.1.row.modifiers = sym (ap (λ (x : Row). x.modifiers) l.3) in
        elim (a.row_class l.0 j l.1) [
          | inl (c, at, same) ↦ (let d = declaration_ahead l.0 c at in inl (d.0, subst (λ (x : ClassKey). DeclaresClass ts x d.0) l.2 d.1, words ∙ same ∙ sym d.2.words))
          | inr (top, is, seen) ↦ (
              let whole = sym (top_is l.0 top is) ∙ l.2 in
              inr (sym (ap (λ (x : ClassKey). x.outer) whole) ∙ top, subst (λ (x : ClassKey). IsPreludeClass x.name) whole is, ap (list_any is_private_word) words ∙ seen)
              )
        ];
  }

  -- ---- superclasses

  -- of an old class with a superclass, the image
  pub image_parent : (k p : ClassKey) → IsSuperclass rows k p → IsSuperclass Rows (class_to g k) (class_to g p)
  image_parent k p (j, i, up) = (j, image_row k j i, ap (option_map (class_to g)) up)

  top_found_is : (all : List Row) (w : List ℕ) (k : ClassKey) → TopFinds all w (one (class_decl k)) → k ≡ top_key w
  top_found_is all w k (inl (j, row, is)) = let e : class_decl k ≡ class_decl (top_key w) = cc in class_of_decl k (top_key w) e
  top_found_is all w k (inr (none, is)) = absurd cc

  -- what the old class has for its superclass, and the new one names
  top_names : (w v : Option Written) (p q : ClassKey) → ParentTo rows g None w v → TopNames ss w p → TopNames ts v q → q ≡ class_to g p
  top_names None None p q h old new = new ∙ sym (object_stays rows g keeps) ∙ ap (class_to g) (sym old)
  top_names None (Some v) p q h old new = absurd h
  top_names (Some w) None p q h old new = absurd h
  top_names (Some int) (Some v) p q h old new = absurd old
  top_names (Some boolean) (Some v) p q h old new = absurd old
  top_names (Some (named a (Some l) w)) (Some v) p q h old new = absurd old
  top_names (Some (named a None w)) (Some int) p q h old new = absurd new
  top_names (Some (named a None w)) (Some boolean) p q h old new = absurd new
  top_names (Some (named a None w)) (Some (named b (Some l) v)) p q h old new = absurd new
  top_names (Some (named a None w)) (Some (named b None v)) p q h old new =
      new.0 ∙ sym (top_found_is Rows v (class_to g h.class) h.new) ∙ ap (class_to g) (top_found_is rows w h.class h.old ∙ sym old.0)

module _ (g : Renaming) where
  pub outer_none : (o : Option (List ℕ)) → outer_to g o ≡ None → o ≡ None
  outer_none None e = refl
  outer_none (Some o) e = absurd cc

  outer_some : (o : Option (List ℕ)) (n : List ℕ) → outer_to g o ≡ Some n → (m : List ℕ) × (o ≡ Some m) × (class_to g (top_key m) ≡ top_key n)
  outer_some None n e = absurd cc
  outer_some (Some m) n e = (m, refl, ap top_key (same_Some _ _ e))

-- what is asked of the two programs
pub record Both (rows : List Row) (g : Renaming) (ss ts : List DeclaredItem) : Type 0 where
  pub keeps : Keeps rows g
  pub agree : Agree rows ss
  pub are : AreRows (rows_to g rows)
  pub to : DeclarationsTo rows g ss ts
  pub tops : TopsAgree rows ss
  pub parents : ParentsAgree rows ss
  pub once : OneClass ss
  pub free : Unreserved ss
  -- each class has a superclass
  pub old_parent : (k : ClassKey) (c : DeclaredClass) → DeclaresClass ss k c → (p : ClassKey) × IsParent ss k p
  pub new_parent : (k : ClassKey) (d : DeclaredClass) → DeclaresClass ts k d → (q : ClassKey) × IsParent ts k q

module _ (rows : List Row) (g : Renaming) (ss ts : List DeclaredItem) (two : Both rows g ss ts) where
  abbrev New : List Row
  New = rows_to g rows

  pub new_one : Agree New ts
  new_one = new_agree rows g two.keeps ss ts two.agree two.are two.to

  behind : (k : ClassKey) (d : DeclaredClass) → DeclaresClass ts k d → (c : DeclaredClass) × DeclaresClass ss c.key c × ClassTo rows g c d × (class_to g c.key ≡ k)
  behind k d at = declaration_behind rows g two.keeps ss ts two.agree two.are two.to k d at

  ahead : (k : ClassKey) (c : DeclaredClass) → DeclaresClass ss k c → (d : DeclaredClass) × DeclaresClass ts (class_to g k) d × ClassTo rows g c d
  ahead k c at = declaration_ahead rows g two.keeps ss ts two.agree two.are two.to k c at

  image_super : (k p : ClassKey) → IsSuperclass rows k p → IsSuperclass New (class_to g k) (class_to g p)
  image_super k p h = image_parent rows g two.keeps ss ts two.agree two.are two.to k p h

  one_super : (k p q : ClassKey) → IsSuperclass New k p → IsSuperclass New k q → p ≡ q
  one_super k p q (i, r, up) (j, s, other) =
      let same = one_row New two.are k i j r s in
      let row : r.row ≡ s.row = same_Some _ _ (sym r.stands ∙ ap (slice_get New) same ∙ s.stands) in
      same_Some _ _ (sym up ∙ ap (λ (x : Row). x.parent) row ∙ other)

  top_of : (k : ClassKey) → k.outer ≡ None → top_key k.name ≡ k
  top_of k e = λ i. record { outer = sym e i; name = k.name }

  -- what an old class names
  old_top : (c : DeclaredClass) → DeclaresClass ss c.key c → c.key.outer ≡ None → (p : ClassKey) × TopNames ss c.parent p × IsSuperclass rows c.key p
  old_top c at top = let h = two.old_parent c.key c at in by h.0 h.1
    where
      by : (p : ClassKey) → IsParent ss c.key p → (p : ClassKey) × TopNames ss c.parent p × IsSuperclass rows c.key p
      by p (inl (none, inl (b, there, names))) =
          let same = two.once c.key b c (subst (λ (k : ClassKey). DeclaresClass ss k b) (top_of c.key top) there) at in
          (p, subst (λ (x : DeclaredClass). TopNames ss x.parent p) same names, two.parents.up c.key p (inl (none, inl (b, there, names))))
      by p (inl (none, inr (sub, e))) = absurd (two.free c.key.name c (subst (λ (k : ClassKey). DeclaresClass ss k c) (sym (top_of c.key top)) at) sub)
      by p (inr (o, b, some, there, names)) = let never = sym top ∙ some in absurd cc

  old_inner : (c : DeclaredClass) (o : List ℕ) → DeclaresClass ss c.key c → c.key.outer ≡ Some o → (p : ClassKey) × MemberNames ss (HasMemberType ss) o c.parent p × IsSuperclass rows c.key p
  old_inner c o at some = let h = two.old_parent c.key c at in by h.0 h.1
    where
      by : (p : ClassKey) → IsParent ss c.key p → (p : ClassKey) × MemberNames ss (HasMemberType ss) o c.parent p × IsSuperclass rows c.key p
      by p (inl (none, h)) = let never = sym some ∙ none in absurd cc
      by p (inr (x, b, is, there, names)) =
          let same = two.once c.key b c there at in
          let around : x ≡ o = same_Some _ _ (sym is ∙ some) in (
            p,
            subst (λ (z : DeclaredClass). MemberNames ss (HasMemberType ss) o z.parent p) same (subst (λ (z : List ℕ). MemberNames ss (HasMemberType ss) z b.parent p) around names),
            two.parents.up c.key p (inr (x, b, is, there, names)),
          )

  -- ---- top-level classes

  prelude_super : (name : List ℕ) (q : ClassKey) → IsPreludeSubclass name → q ≡ object_key → IsSuperclass New (top_key name) q
  prelude_super name q sub e =
      let s = image_super (top_key name) object_key (two.tops.up name object_key (inr (sub, refl))) in
      subst (λ (x : ClassKey). IsSuperclass New x q) (prelude_stays rows g two.keeps name (inr sub)) (subst (IsSuperclass New (class_to g (top_key name))) (object_stays rows g two.keeps ∙ sym e) s)

  top_up : (name : List ℕ) (q : ClassKey) → TopParent ts name q → IsSuperclass New (top_key name) q
  top_up name q (inr (sub, e)) = prelude_super name q sub e
  top_up name q (inl (d, at, names)) =
      let c = behind (top_key name) d at in
      let top = outer_none g c.0.key.outer (ap (λ (x : ClassKey). x.outer) c.3) in
      let old = old_top c.0 c.1 top in
      let is = top_names rows g two.keeps ss ts two.agree two.are two.to c.0.parent d.parent old.0 q (subst (λ (o : Option (List ℕ)). ParentTo rows g o c.0.parent d.parent) top c.2.parent) old.1 names in
      subst (λ (x : ClassKey). IsSuperclass New x q) c.3 (subst (IsSuperclass New (class_to g c.0.key)) (sym is) (image_super c.0.key old.0 old.2))

  top_parent : (name : List ℕ) (q : ClassKey) → IsParent ts (top_key name) q → TopParent ts name q
  top_parent name q (inl (none, h)) = h
  top_parent name q (inr (o, b, some, there, names)) = absurd cc

  declared_down : (name : List ℕ) (q : ClassKey) → IsSuperclass New (top_key name) q → (l : ClassKey) → class_to g l ≡ top_key name → (c : DeclaredClass) → DeclaresClass ss l c → TopParent ts name q
  declared_down name q s l is c at =
      let d = ahead l c at in
      let h = two.new_parent (top_key name) d.0 (subst (λ (x : ClassKey). DeclaresClass ts x d.0) is d.1) in
      let t = top_parent name h.0 h.1 in
      subst (TopParent ts name) (one_super (top_key name) h.0 q (top_up name h.0 t) s) t

  some_key : (o : Option ClassKey) (q : ClassKey) → option_map (class_to g) o ≡ Some q → (p : ClassKey) × (o ≡ Some p) × (class_to g p ≡ q)
  some_key None q e = absurd cc
  some_key (Some p) q e = (p, refl, same_Some _ _ e)

  top_down : (name : List ℕ) (q : ClassKey) → IsSuperclass New (top_key name) q → TopParent ts name q
  top_down name q (j, i, up) =
      let l = row_behind rows g two.keeps ss ts two.agree two.are two.to (top_key name) j i in
      let top = outer_none g l.0.outer (ap (λ (x : ClassKey). x.outer) l.2) in
      let p = some_key l.1.row.parent q (ap (λ (x : Row). x.parent) l.3 ∙ up) in
      elim (two.agree.row_class l.0 j l.1) [
        | inl (c, at, words) ↦ declared_down name q (j, i, up) l.0 l.2 c at
        | inr (none, is, seen) ↦ (
            let old = two.tops.down l.0.name p.0 (subst (λ (x : ClassKey). IsSuperclass rows x p.0) (sym (top_of l.0 top)) (j, l.1, p.1)) in
            by l.0 l.2 top is p.0 p.2 old (j, i, up)
            )
      ]
    where
      by : (l : ClassKey) → class_to g l ≡ top_key name → l.outer ≡ None → IsPreludeClass l.name → (p : ClassKey) → class_to g p ≡ q → TopParent ss l.name p → IsSuperclass New (top_key name) q → TopParent ts name q
      by l image top is p e (inl (c, at, names)) s = declared_down name q s l image c (subst (λ (x : ClassKey). DeclaresClass ss x c) (top_of l top) at)
      by l image top is p e (inr (sub, object)) s =
          let whole : l ≡ top_key name = sym (top_is rows g two.keeps ss ts two.agree two.are two.to l top is) ∙ image in
          inr (subst IsPreludeSubclass (ap (λ (x : ClassKey). x.name) whole) sub, sym e ∙ ap (class_to g) object ∙ object_stays rows g two.keeps)

  pub new_tops : TopsAgree New ts
  new_tops = record { up = top_up; down = top_down }

  -- ---- member classes

  abbrev class_in : ClassKey → Ty → ClassKey
  class_in d keys.int = d
  class_in d keys.boolean = d
  class_in d keys.void = d
  class_in d keys.null = d
  class_in d (class k) = k

  names_up : (T : ClassKey → List ℕ → ClassKey → Type 0) → ((c : ClassKey) (n : List ℕ) (q : ClassKey) → T c n q → (e : ℕ) → ClassRow New c e → RowWith New (IsMemberType (entries_of New) n e) q)
      → (o n : List ℕ) (d : DeclaredClass) (q : ClassKey) → DeclaresClass ts (key (Some o) n) d → MemberNames ts T o d.parent q → IsSuperclass New (key (Some o) n) q
  names_up T found o n d q at names =
      let c = behind (key (Some o) n) d at in
      let m = outer_some g c.0.key.outer o (ap (λ (x : ClassKey). x.outer) c.3) in
      let old = old_inner c.0 m.0 c.1 m.1 in
      let row = new_one.declared_row (key (Some o) n) d at in
      let around = outer_row New two.are (key (Some o) n) row.0 o row.1 refl in
      let above = outer_row rows two.agree.rows_are c.0.key (two.agree.declared_row c.0.key c.0 c.1).0 m.0 (two.agree.declared_row c.0.key c.0 c.1).1 m.1 in
      let is = by m.0 m.2 above.0 above.1 around.0 around.1 c.0.parent d.parent old.0 (subst (λ (x : Option (List ℕ)). ParentTo rows g x c.0.parent d.parent) m.1 c.2.parent) old.1 names in
      subst (λ (x : ClassKey). IsSuperclass New x q) c.3 (subst (IsSuperclass New (class_to g c.0.key)) (sym is) (image_super c.0.key old.0 old.2))
    where
      by : (m : List ℕ) → class_to g (top_key m) ≡ top_key o → (x : ℕ) → ClassRow rows (top_key m) x → (e : ℕ) → ClassRow New (top_key o) e → (w v : Option Written) (p : ClassKey)
          → ParentTo rows g (Some m) w v → MemberNames ss (HasMemberType ss) m w p → MemberNames ts T o v q → q ≡ class_to g p
      by m same x r e s None None p h old new = new ∙ sym (object_stays rows g two.keeps) ∙ ap (class_to g) (sym old)
      by m same x r e s None (Some v) p h old new = absurd h
      by m same x r e s (Some w) None p h old new = absurd h
      by m same x r e s (Some w) (Some v) p h old new =
          let t = parent_meant rows ss two.agree two.tops two.parents m x r w p h.type old h.old in
          let u = named_in_top New ts new_one new_tops T found o e s v q (type_to g h.type) new (subst (λ (z : ClassKey). WrittenAs New z v (type_to g h.type)) same h.new) in
          ap (class_in q) (sym u ∙ ap (type_to g) t)

  within_found : (looks : ℕ) (outer : Option (List ℕ)) (n name : List ℕ) (q : ClassKey) → TypeWithin ts looks (key outer n) name q → (c : ℕ) → ClassRow New (key outer n) c → RowWith New (IsMemberType (entries_of New) name c) q
  within_found zero outer n name q h c i = absurd h
  within_found (suc looks) None n name q (inl (none, top)) c i = top_found New ts new_one new_tops n name q top c i
  within_found (suc looks) None n name q (inr h) c i = absurd h
  within_found (suc looks) (Some o) n name q (inl (none, top)) c i = absurd cc
  within_found (suc looks) (Some o) n name q (inr (at, p, d, names, more, shown)) c i =
      let s = names_up (λ k. TypeWithin ts looks k) (λ k m r h e row. within_found looks k.outer k.name m r h e row) o n at p d names in
      let m = superclass_row New two.are (key (Some o) n) p s in
      let r = within_found looks p.outer p.name name q more m.0 m.1 in
      let step = parent_number New two.are (key (Some o) n) p c m.0 i s m.1 in (
        r.0,
        r.1,
        inherited_member New two.are name c m.0 r.0 step
            (λ j own. (let never = (type_declared New two.are (key (Some o) n) name c j i own).0 in absurd cc))
            (λ x. shown (row_private New ts new_one q r.0 r.1 x)) r.2,
      )

  all_up : (k q : ClassKey) → IsParent ts k q → IsSuperclass New k q
  all_up k q (inl (none, h)) = subst (λ (x : ClassKey). IsSuperclass New x q) (top_of k none) (top_up k.name q h)
  all_up k q (inr (o, d, some, at, names)) =
      let whole : k ≡ key (Some o) k.name = λ i. record { outer = some i; name = k.name } in
      subst (λ (x : ClassKey). IsSuperclass New x q) (sym whole)
      (names_up (HasMemberType ts) (λ c n r h e row. within_found h.0 c.outer c.name n r h.1 e row) o k.name d q (subst (λ (x : ClassKey). DeclaresClass ts x d) whole at) names)

  all_down : (outer : Option (List ℕ)) (n : List ℕ) (q : ClassKey) → IsSuperclass New (key outer n) q → IsParent ts (key outer n) q
  all_down None n q s = inl (refl, top_down n q s)
  all_down (Some o) n q (j, i, up) = elim (new_one.row_class (key (Some o) n) j i) [
    | inl (d, at, words) ↦ (
        let h = two.new_parent (key (Some o) n) d at in
        subst (IsParent ts (key (Some o) n)) (one_super (key (Some o) n) h.0 q (all_up (key (Some o) n) h.0 h.1) (j, i, up)) h.1
        )
    | inr (top, is, seen) ↦ (let never = top in absurd cc)
  ]

  pub new_parents : ParentsAgree New ts
  new_parents = record { up = all_up; down = λ k q s. all_down k.outer k.name q s }
