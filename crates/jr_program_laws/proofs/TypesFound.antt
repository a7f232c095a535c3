-- What a declared type or superclass means by the declarations is found by the rows.
use Rattle.std.proofs.Common.{◌≡◌, ℕ, List, [], ◌∷◌, Option, Some, None, false, refl, sym, ap, subst, ◌∙◌, inl, inr}
use Rattle.std.specs.Prelude.{map, option_map, slice_get}
use Rattle.jr_ast.specs.Tree as tree
use Rattle.jr_ast.specs.MemberTree as syntax
use Rattle.jr_table.specs.declared.answers.Answer.TheVariants as number
use Rattle.jr_table.specs.Keys.{ClassKey, Ty}
use Rattle.jr_table.specs.Decls.{Decl, head, class_decl}
use Rattle.jr_table.specs.Rows.{Row}
use Rattle.jr_table.specs.Prelude.{top_key}
use Rattle.jr_table.specs.Entries.{IsRowOf, class_number, entries_of}
use Rattle.jr_table.specs.Members.{IsMemberType}
use Rattle.jr_table.specs.TypeNames.{FindsType}
use Rattle.jr_table.specs.Found.{Found, one, nothing, many, not_accessible, from_static}
use Rattle.jr_table.specs.Scope.{Scope}
use Rattle.jr_table.specs.Lookup.{FindsTypeNamed, FindsTypeOf, find_type_of}
use Rattle.jr_table.specs.Context.{scope_of}
use Rattle.jr_table.specs.HeadRules.{plain}
use Rattle.jr_table.specs.DeclaredItems.{Written, DeclaredClass, DeclaredItem, written, param_declaration}
use Rattle.jr_table.specs.Resolving as declarations
use Rattle.jr_table.specs.Resolving.{DeclaresClass, TopNames, HasMemberType, FindsInTop, MemberNames, IsParent, Means}
use Rattle.jr_table.specs.ProgramRows.{MeanTypes, MeansResult}
use Rattle.jr_table.proofs.LookupLaws.{keys_found}
use Rattle.jr_table.proofs.FieldLaws.{one_type_of}
use Rattle.jr_table.proofs.OneEach.{class_stands}
use Rattle.jr_members.proofs.Meaning.{OneClass, Unreserved}
use Rattle.jr_program_laws.specs.FoundTypes.{Tells, TypeIsFound, MaybeTypeIsFound, ParamTypesAreFound, ParentIsFound, MaybeParentIsFound}
use Rattle.jr_program_laws.proofs.Agreeing.{Agree, TopsAgree, ParentsAgree, ClassRow, outer_row, top_row}
use Rattle.jr_program_laws.proofs.MemberTypesFound.{type_found, has_found, in_top_found, RowWith}

module _ (rows : List Row) (declarations' : List DeclaredItem) (a : Agree rows declarations') (tops : TopsAgree rows declarations') (all : ParentsAgree rows declarations') where
  -- a row of a class that was found
  named_by : (s : Scope) (k : ClassKey) (c : ℕ) → s.class ≡ k → ClassRow rows k c → (name : List ℕ) (q : ClassKey) → RowWith rows (λ j. FindsType rows c name (number.One j)) q → FindsTypeNamed rows s name (one (class_decl q))
  named_by s k c same i name q (j, row, finds) =
      let n = ap (class_number rows) same ∙ class_stands rows a.rows_are k c i in
      (number.One j, subst (λ (x : ℕ). FindsType rows x name (number.One j)) (sym n) finds, row)

  pub named_found : (s : Scope) (k : ClassKey) (c : ℕ) → s.class ≡ k → ClassRow rows k c → (name : List ℕ) (q : ClassKey) → declarations.FindsType declarations' k name q → FindsTypeNamed rows s name (one (class_decl q))
  named_found s k c same i name q h = named_by s k c same i name q (type_found rows declarations' a tops all k name q h c i)

  pub in_top_named : (s : Scope) (of : List ℕ) (c : ℕ) → s.class ≡ top_key of → ClassRow rows (top_key of) c → (name : List ℕ) (q : ClassKey) → FindsInTop declarations' of name q → FindsTypeNamed rows s name (one (class_decl q))
  in_top_named s of c same i name q h = named_by s (top_key of) c same i name q (in_top_found rows declarations' a tops of name q h c i)

  -- a member type behind a dot, accessible or not
  one_decl : (d e : Decl) (i j : ℕ) → IsRowOf rows d i → IsRowOf rows e j → i ≡ j → d ≡ e
  one_decl d e i j r x same = sym r.declares ∙ ap (λ (z : Row). z.decl) (some_row r.row x.row (sym r.stands ∙ ap (slice_get rows) same ∙ x.stands)) ∙ x.declares
    where
      some_row : (y z : Row) → Some y ≡ Some z → y ≡ z
      some_row y z h = cc

  module _ (s : Scope) (o : ClassKey) (name : List ℕ) (q : ClassKey) (m : ℕ) (row : ClassRow rows q m) (has : IsMemberType (entries_of rows) name (class_number rows o) m) where
    abbrev Finds : Found → Type 0
    Finds f = FindsTypeOf rows s o name f

    is_class : (d : Decl) (j : ℕ) → IsRowOf rows d j → IsMemberType (entries_of rows) name (class_number rows o) j → d ≡ class_decl q
    is_class d j r member = one_decl d (class_decl q) j m r row (one_type_of rows a.rows_are name (class_number rows o) j m member has)

    told : (f : Found) → Finds f → Tells q Finds
    told (one d) (number.One j, h, r) = inl (subst (λ (x : Decl). Finds (one x)) (is_class d j r h.0) (number.One j, h, r))
    told (one d) (number.Nothing, h, r) = absurd r
    told (one d) (number.Many i j, h, r) = absurd r
    told (one d) (number.NotAccessible j, h, r) = absurd r
    told (one d) (number.FromStatic j, h, r) = absurd r
    told nothing (number.One j, h, r) = absurd r
    told nothing (number.Nothing, h, r) = absurd (h m has)
    told nothing (number.Many i j, h, r) = absurd r
    told nothing (number.NotAccessible j, h, r) = absurd r
    told nothing (number.FromStatic j, h, r) = absurd r
    told (many d e) (number.One j, h, r) = absurd r
    told (many d e) (number.Nothing, h, r) = absurd r
    told (many d e) (number.Many i j, h, r) = absurd h
    told (many d e) (number.NotAccessible j, h, r) = absurd r
    told (many d e) (number.FromStatic j, h, r) = absurd r
    told (not_accessible d) (number.One j, h, r) = absurd r
    told (not_accessible d) (number.Nothing, h, r) = absurd r
    told (not_accessible d) (number.Many i j, h, r) = absurd r
    told (not_accessible d) (number.NotAccessible j, h, r) = inr (subst (λ (x : Decl). Finds (not_accessible x)) (is_class d j r h.0) (number.NotAccessible j, h, r))
    told (not_accessible d) (number.FromStatic j, h, r) = absurd r
    told (from_static d) (number.One j, h, r) = absurd r
    told (from_static d) (number.Nothing, h, r) = absurd r
    told (from_static d) (number.Many i j, h, r) = absurd r
    told (from_static d) (number.NotAccessible j, h, r) = absurd r
    told (from_static d) (number.FromStatic j, h, r) = absurd h

  of_found : (s : Scope) (o : ClassKey) (name : List ℕ) (q : ClassKey) (e : ℕ) → ClassRow rows o e → HasMemberType declarations' o name q → Tells q (FindsTypeOf rows s o name)
  of_found s o name q e i h =
      let r = has_found rows declarations' a tops all o name q h e i in
      let has = subst (λ (n : ℕ). IsMemberType (entries_of rows) name n r.0) (sym (class_stands rows a.rows_are o e i)) r.2 in
      told s o name q r.0 r.1 has (find_type_of rows s o name) (((keys_found rows a.rows_are).type_of s o name (find_type_of rows s o name)).0 refl)

  module _ {A : Type 0} (begins : A → ℕ → ℕ) where
    -- a type that is written in the body of a class
    pub type_is : (s : Scope) (k : ClassKey) (c : ℕ) → s.class ≡ k → ClassRow rows k c → (base : ℕ) (t : tree.TypeName A) (u : Ty) → Means declarations' k (written begins base t) u → TypeIsFound rows s t
    type_is s k c same i base (tree.int m) u h = tt
    type_is s k c same i base (tree.boolean m) u h = tt
    type_is s k c same i base (tree.named m None w) u (q, e, finds) = (q, inl (named_found s k c same i w.text q finds))
    type_is s k c same i base (tree.named m (Some v) w) u (o, q, e, left, has) =
        let r = type_found rows declarations' a tops all k v.text o left c i in
        (o, q, inl (named_found s k c same i v.text o left), of_found s o w.text q r.0 r.1 has)

    pub result_is : (s : Scope) (k : ClassKey) (c : ℕ) → s.class ≡ k → ClassRow rows k c → (base : ℕ) (t : Option (tree.TypeName A)) (u : Ty) → MeansResult declarations' k (option_map (written begins base) t) u → MaybeTypeIsFound rows s t
    result_is s k c same i base None u h = tt
    result_is s k c same i base (Some t) u h = type_is s k c same i base t u h

    pub params_are : (s : Scope) (k : ClassKey) (c : ℕ) → s.class ≡ k → ClassRow rows k c → (base : ℕ) (ps : List (syntax.Param A)) (us : List Ty) → MeanTypes declarations' k (map (param_declaration begins base) ps) us → ParamTypesAreFound rows s ps
    params_are s k c same i base [] us h = tt
    params_are s k c same i base (p ∷ ps) [] h = absurd h
    params_are s k c same i base (p ∷ ps) (u ∷ us) h = (type_is s k c same i (begins p.mark base) p.type u h.0, params_are s k c same i base ps us h.1)

    -- superclasses
    inner_parent_is : (s : Scope) (of : List ℕ) (c : ℕ) → s.class ≡ top_key of → ClassRow rows (top_key of) c → (base : ℕ) (t : tree.TypeName A) (p : ClassKey) → MemberNames declarations' (HasMemberType declarations') of (Some (written begins base t)) p → TypeIsFound rows s t
    inner_parent_is s of c same i base (tree.int m) p h = tt
    inner_parent_is s of c same i base (tree.boolean m) p h = tt
    inner_parent_is s of c same i base (tree.named m None w) p h = (p, inl (in_top_named s of c same i w.text p h))
    inner_parent_is s of c same i base (tree.named m (Some v) w) p (o, left, has) =
        let r = in_top_found rows declarations' a tops of v.text o left c i in
        (o, p, inl (in_top_named s of c same i v.text o left), of_found s o w.text p r.0 r.1 has)

    top_parent_is : (base : ℕ) (t : tree.TypeName A) (p : ClassKey) → TopNames declarations' (Some (written begins base t)) p → ParentIsFound rows None t
    top_parent_is base (tree.int m) p h = absurd h
    top_parent_is base (tree.boolean m) p h = absurd h
    top_parent_is base (tree.named m None w) p (is, top) = let r = top_row rows declarations' a w.text top in (top_key w.text, inl (r.0, r.1, refl))
    top_parent_is base (tree.named m (Some v) w) p h = absurd h

    some_name : (x y : List ℕ) → Some x ≡ Some y → x ≡ y
    some_name x y e = cc

    pub parent_is : OneClass declarations' → Unreserved declarations' → (o : Option (List ℕ)) (name : List ℕ) (at : DeclaredClass) (base : ℕ) (t : Option (tree.TypeName A)) (p : ClassKey)
        → DeclaresClass declarations' (record { outer = o; name = name }) at → at.parent ≡ option_map (written begins base) t → IsParent declarations' (record { outer = o; name = name }) p → MaybeParentIsFound rows o t
    parent_is once free o name at base None p d e h = tt
    parent_is once free None name at base (Some t) p d e (inl (none, inl (at', d', names))) =
        let same = once (top_key name) at' at d' d in
        top_parent_is base t p (subst (λ (w : Option Written). TopNames declarations' w p) (ap (λ (c : DeclaredClass). c.parent) same ∙ e) names)
    parent_is once free None name at base (Some t) p d e (inl (none, inr (sub, is))) = absurd (free name at d sub)
    parent_is once free None name at base (Some t) p d e (inr (outer, at', some, d', names)) = absurd cc
    parent_is once free (Some of) name at base (Some t) p d e (inl (none, h)) = absurd cc
    parent_is once free (Some of) name at base (Some t) p d e (inr (outer, at', some, d', names)) =
        let same = once (record { outer = Some of; name = name }) at' at d' d in
        let here = subst (λ (x : List ℕ). MemberNames declarations' (HasMemberType declarations') x at'.parent p) (sym (some_name of outer some)) names in
        let row = a.declared_row (record { outer = Some of; name = name }) at d in
        let around = outer_row rows a.rows_are (record { outer = Some of; name = name }) row.0 of row.1 refl in
        inner_parent_is (scope_of (plain (head (top_key of)) false)) of around.0 refl around.1 base t p
        (subst (λ (w : Option Written). MemberNames declarations' (HasMemberType declarations') of w p) (ap (λ (c : DeclaredClass). c.parent) same ∙ e) here)
