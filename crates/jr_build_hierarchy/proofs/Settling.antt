-- What superclasses are told by what is known of them, and that all are known once nothing more can be told.
use Rattle.std.proofs.Common.{◌≡◌, ℕ, zero, suc, List, [], ◌∷◌, Option, Some, None, refl, sym, ap, subst, ◌∙◌, inl, inr}
use Rattle.std.specs.Prelude.{◌⊎◌, option_and_then, slice_get}
use Rattle.jr_index.specs.Parents.{AreWithin, ComesEarly}
use Rattle.jr_table.specs.Keys.{ClassKey}
use Rattle.jr_table.specs.Prelude.{top_key, object_key}
use Rattle.jr_table.specs.DeclaredItems.{Written, int, boolean, named, DeclaredClass, Item, class_item, DeclaredItem}
use Rattle.jr_table.specs.Faults.{At}
use Rattle.jr_table.specs.Resolving.{DeclaresClass, TopParent, TopNames, IsTopClass, HasTopMemberType, FindsInTop, MemberNames, TypeWithin, HasMemberType, IsParent}
use Rattle.jr_build_hierarchy.specs.Hierarchies.{Hierarchy, key_at, parent_at, own, member_type, member_type_at, member_type_of, found_in_top, parent_of_top, parent_of_inner, parent_in, parent_of_item}
use Rattle.jr_build_hierarchy.specs.Superclasses.{KnowsTops, IsParentAt, HasParent, IsSettled, IsHierarchy, HasClasses}
use Rattle.jr_build_hierarchy.proofs.ClassNumbers.{inside, number_has, number_is, declared_number, top_class, top_number, same_class_declaration, one_declaration, same_number}
use Rattle.jr_build_hierarchy.proofs.Looks.{key, names_so}
use Rattle.jr_build_hierarchy.proofs.MemberTypes.{Has, has_is, member_sound, member_key_of, top_has, on_way, parent_from, is_open, own_key, in_top_found, found_in_top_is}
use Rattle.jr_build_hierarchy.proofs.OneParent.{one_named, one_type, one_parent}

object_top : (declarations : List DeclaredItem) → IsTopClass declarations object_key.name
object_top declarations = inr (inl refl)

module _ (declarations : List DeclaredItem) (h : Hierarchy) (has : HasClasses declarations h) where
  -- what a top-level class names
  top_names : (w : Option Written) (m : ℕ) (q : ClassKey) → parent_of_top h w ≡ Some m → key_at h m ≡ Some q → TopNames declarations w q
  top_names None m q e is = inside _ _ (sym is ∙ number_has declarations h has object_key m e)
  top_names (Some int) m q e is = absurd cc
  top_names (Some boolean) m q e is = absurd cc
  top_names (Some (named at None name)) m q e is =
      let k = number_has declarations h has (top_key name) m e in
      (inside _ _ (sym is ∙ k), top_class declarations h has m name k)
  top_names (Some (named at (Some left) name)) m q e is = absurd cc

  pub top_named : (w : Option Written) (q : ClassKey) → TopNames declarations w q → (m : ℕ) × (key_at h m ≡ Some q) × (parent_of_top h w ≡ Some m)
  top_named None q e =
      let j = top_number declarations h has object_key.name (object_top declarations) in
      (j.0, j.1 ∙ ap Some (sym e), number_is declarations h has object_key j.0 j.1)
  top_named (Some int) q e = absurd e
  top_named (Some boolean) q e = absurd e
  top_named (Some (named at None name)) q (e, top) =
      let j = top_number declarations h has name top in
      (j.0, j.1 ∙ ap Some (sym e), number_is declarations h has (top_key name) j.0 j.1)
  top_named (Some (named at (Some left) name)) q e = absurd e

  pub parent_of_top_is : (c : DeclaredClass) (d : DeclaresClass declarations c.key c) (m : ℕ) (q : ClassKey) → c.key.outer ≡ None → parent_of_top h c.parent ≡ Some m → key_at h m ≡ Some q
      → TopParent declarations c.key.name q
  parent_of_top_is c d m q none e is =
      inl (c, record { number = d.number; file = d.file; stands = d.stands; is = λ i. record { outer = none i; name = c.key.name } }, top_names c.parent m q e is)

module _ (declarations : List DeclaredItem) (h : Hierarchy) (early : (parents : List (Option ℕ)) (n : ℕ) → AreWithin parents n → ComesEarly parents n) (knows : KnowsTops declarations h) where
  -- a member type of what was found
  pub found_member : (o : Option ℕ) (name : List ℕ) (m : ℕ) → member_type_of h o name ≡ Some m → (j : ℕ) × (k : ClassKey) × (o ≡ Some j) × (key_at h j ≡ Some k) × (member_type h k name ≡ Some m)
  found_member None name m e = absurd cc
  found_member (Some j) name m e = by (key_at h j) refl e
    where
      by : (o : Option ClassKey) → key_at h j ≡ o → option_and_then (λ k. member_type h k name) o ≡ Some m → (i : ℕ) × (k : ClassKey) × (Some j ≡ Some i) × (key_at h i ≡ Some k) × (member_type h k name ≡ Some m)
      by None f e = absurd cc
      by (Some k) f e = (j, k, refl, f, e)

  pub member_found : (o : Option ℕ) (j : ℕ) (k : ClassKey) (name : List ℕ) (m : ℕ) → o ≡ Some j → key_at h j ≡ Some k → member_type h k name ≡ Some m → member_type_of h o name ≡ Some m
  member_found o j k name m e f g = ap (option_and_then (λ j. member_type_at h j name)) e ∙ ap (option_and_then (λ k. member_type h k name)) f ∙ g

  -- what a member class names
  inner_names : (outer : List ℕ) (w : Option Written) (m : ℕ) (q : ClassKey) → parent_of_inner h outer w ≡ Some m → key_at h m ≡ Some q → MemberNames declarations (HasMemberType declarations) outer w q
  inner_names outer None m q e is = inside _ _ (sym is ∙ number_has declarations h knows.classes object_key m e)
  inner_names outer (Some int) m q e is = absurd cc
  inner_names outer (Some boolean) m q e is = absurd cc
  inner_names outer (Some (named at None name)) m q e is =
      let f = found_in_top_is declarations h early knows outer name m e in
      subst (FindsInTop declarations outer name) (inside _ _ (sym f.1 ∙ is)) f.2
  inner_names outer (Some (named at (Some left) name)) m q e is =
      let f = found_member (found_in_top h outer left) name m e in
      let l = found_in_top_is declarations h early knows outer left f.0 f.2 in
      let same : l.0 ≡ f.1 = inside _ _ (sym l.1 ∙ f.3) in
      (f.1, subst (FindsInTop declarations outer left) same l.2, member_sound declarations h early knows f.1 name m q f.4 is)

  parent_in_is : (outer : Option (List ℕ)) (c : DeclaredClass) (d : DeclaresClass declarations c.key c) (m : ℕ) (q : ClassKey) → c.key.outer ≡ outer → parent_in h outer c.parent ≡ Some m → key_at h m ≡ Some q
      → IsParent declarations c.key q
  parent_in_is None c d m q o e is = inl (o, parent_of_top_is declarations h knows.classes c d m q o e is)
  parent_in_is (Some outer) c d m q o e is = inr (outer, c, o, d, inner_names outer c.parent m q e is)

  abbrev declares : (j file : ℕ) (c : DeclaredClass) → At declarations j file (class_item c) → DeclaresClass declarations c.key c
  declares j file c at = record { number = j; file = file; stands = at.stands; is = refl }

  -- what is told of a superclass holds
  pub told : (j file : ℕ) (c : DeclaredClass) (m : ℕ) (q : ClassKey) → At declarations j file (class_item c) → parent_of_item h (class_item c) ≡ Some m → key_at h m ≡ Some q → IsParent declarations c.key q
  told j file c m q at e is = parent_in_is c.key.outer c (declares j file c at) m q refl e is

  told_key : (outer : Option (List ℕ)) (w : Option Written) (m : ℕ) → parent_in h outer w ≡ Some m → (q : ClassKey) × (key_at h m ≡ Some q)
  told_key None None m e = (object_key, number_has declarations h knows.classes object_key m e)
  told_key None (Some int) m e = absurd cc
  told_key None (Some boolean) m e = absurd cc
  told_key None (Some (named at None name)) m e = (top_key name, number_has declarations h knows.classes (top_key name) m e)
  told_key None (Some (named at (Some left) name)) m e = absurd cc
  told_key (Some outer) None m e = (object_key, number_has declarations h knows.classes object_key m e)
  told_key (Some outer) (Some int) m e = absurd cc
  told_key (Some outer) (Some boolean) m e = absurd cc
  told_key (Some outer) (Some (named at None name)) m e = let f = found_in_top_is declarations h early knows outer name m e in (f.0, f.1)
  told_key (Some outer) (Some (named at (Some left) name)) m e =
      let f = found_member (found_in_top h outer left) name m e in
      member_key_of declarations h early knows f.1 name m f.4

  pub told_parent : (j file : ℕ) (c : DeclaredClass) (m : ℕ) → At declarations j file (class_item c) → parent_of_item h (class_item c) ≡ Some m → IsParentAt declarations h j m
  told_parent j file c m at e =
      let q = told_key c.key.outer c.parent m e in
      record {
        class = c.key;
        parent = q.0;
        is_class = declared_number declarations h knows.classes c.key c (declares j file c at);
        is_parent = q.1;
        extends = told j file c m q.0 at e q.1;
      }

  -- where nothing more can be told
  module _ (settled : IsSettled declarations h) where
    -- a member class names p, by member types that are found
    named_told : (T : ClassKey → List ℕ → ClassKey → Type 0) → ((c : ClassKey) (n : List ℕ) (q : ClassKey) → T c n q → (m : ℕ) × (key_at h m ≡ Some q) × Has h c n m)
        → (outer : List ℕ) (w : Option Written) (p : ClassKey) → MemberNames declarations T outer w p → (m : ℕ) × (key_at h m ≡ Some p) × (parent_of_inner h outer w ≡ Some m)
    named_told T finds outer None p e =
        let j = top_number declarations h knows.classes object_key.name (object_top declarations) in
        (j.0, j.1 ∙ ap Some (sym e), number_is declarations h knows.classes object_key j.0 j.1)
    named_told T finds outer (Some int) p e = absurd e
    named_told T finds outer (Some boolean) p e = absurd e
    named_told T finds outer (Some (named at None name)) p e = in_top_found declarations h early knows outer name p e
    named_told T finds outer (Some (named at (Some left) name)) p (c, in_top, type) =
        let l = in_top_found declarations h early knows outer left c in_top in
        let t = finds c name p type in
        (t.0, t.1, member_found (found_in_top h outer left) l.0 c name t.0 l.2 l.1 (has_is declarations h early knows c name t.0 t.2))

    -- so it is known
    inner_known : (k : ClassKey) (outer : List ℕ) (c : DeclaredClass) (d : DeclaresClass declarations k c) (p : ClassKey) (m : ℕ) → k.outer ≡ Some outer → IsParent declarations k p → key_at h m ≡ Some p
        → parent_of_inner h outer c.parent ≡ Some m → HasParent h d.number p
    inner_known k outer c d p m some is mine e = by (parent_at h d.number) refl
      where
        same_outer : c.key.outer ≡ Some outer
        same_outer = ap (λ (x : ClassKey). x.outer) d.is ∙ some

        tells : parent_of_item h (class_item c) ≡ Some m
        tells = ap (λ o. parent_in h o c.parent) same_outer ∙ e

        by : (o : Option ℕ) → parent_at h d.number ≡ o → HasParent h d.number p
        by None f =
            let n = settled d.number d.file c outer (record { stands = d.stands }) same_outer f in
            absurd cc
        by (Some x) f =
            let at = knows.each d.number x f in
            let same : at.class ≡ k = inside _ _ (sym at.is_class ∙ declared_number declarations h knows.classes k c d) in
            let one = one_parent declarations h early knows k at.parent p (subst (λ y. IsParent declarations y at.parent) same at.extends) is in
            record { number = x; known = f; is = at.is_parent ∙ ap Some one }

    type_has : (looks : ℕ) (outer : Option (List ℕ)) (class name : List ℕ) (q : ClassKey) → TypeWithin declarations looks (key outer class) name q
        → (m : ℕ) × (key_at h m ≡ Some q) × Has h (key outer class) name m
    type_has zero outer class name q h = absurd h
    type_has (suc looks) None class name q (inl (none, type)) = top_has declarations h early knows class name q type
    type_has (suc looks) None class name q (inr h) = absurd h
    type_has (suc looks) (Some outer) class name q (inl (none, type)) = absurd cc
    type_has (suc looks) (Some outer) class name q (inr (at, p, d, names, type, shared)) =
        let finds = λ (c : ClassKey) (n : List ℕ) (r : ClassKey) (w : TypeWithin declarations looks c n r). type_has looks c.outer c.name n r w in
        let t = named_told (λ d. TypeWithin declarations looks d) finds outer at.parent p names in
        let k = key (Some outer) class in
        let extends : IsParent declarations k p = inr (
          outer,
          at,
          refl,
          d,
          names_so declarations (λ d. TypeWithin declarations looks d) (HasMemberType declarations) (λ c n r w. (looks, w)) outer at.parent p names,
        ) in
        let known = inner_known k outer at d p t.0 refl extends t.1 t.2 in
        let r = finds p name q type in
        let way = on_way declarations h knows.classes known.number p name r.0 known.is r.2 in
        let number = declared_number declarations h knows.classes k at d in
        (r.0, r.1, inr (refl, (known.number, way.0, parent_from declarations h knows.classes d.number k number ∙ known.known, way.1, is_open declarations h knows.classes r.0 q r.1 shared)))

    has_type : (c : ClassKey) (name : List ℕ) (q : ClassKey) → HasMemberType declarations c name q → (m : ℕ) × (key_at h m ≡ Some q) × Has h c name m
    has_type c name q (looks, type) = type_has looks c.outer c.name name q type

    inner_parent : (j : ℕ) (k p : ClassKey) (outer : List ℕ) (c : DeclaredClass) → key_at h j ≡ Some k → k.outer ≡ Some outer → (d : DeclaresClass declarations k c)
        → MemberNames declarations (HasMemberType declarations) outer c.parent p → HasParent h j p
    inner_parent j k p outer c is some d names =
        let t = named_told (HasMemberType declarations) has_type outer c.parent p names in
        let known = inner_known k outer c d p t.0 some (inr (outer, c, some, d, names)) t.1 t.2 in
        let same = same_number declarations h knows.classes d.number j k (declared_number declarations h knows.classes k c d) is in
        subst (λ i. HasParent h i p) same known

    pub all_known : IsHierarchy declarations h
    all_known = record { tops = knows; all = all }
      where
        all : (j : ℕ) (k p : ClassKey) → key_at h j ≡ Some k → IsParent declarations k p → HasParent h j p
        all j k p is (inl (none, parent)) = knows.tops j k.name p (is ∙ ap Some (λ i. record { outer = none i; name = k.name })) parent
        all j k p is (inr (outer, c, some, d, names)) = inner_parent j k p outer c is some d names
