-- Member types by declarations are member types by rows.
use Rattle.std.proofs.Common.{◌≡◌, ℕ, zero, suc, List, [], ◌∷◌, Option, Some, None, refl, sym, subst, ◌∙◌, inl, inr}
use Rattle.jr_table.specs.declared.entries.Entry.{Entry}
use Rattle.jr_table.specs.declared.answers.Answer.TheVariants.{One}
use Rattle.jr_table.specs.Keys.{ClassKey}
use Rattle.jr_table.specs.Rows.{Row}
use Rattle.jr_table.specs.Prelude.{top_key}
use Rattle.jr_table.specs.Entries.{entries_of}
use Rattle.jr_table.specs.Chains.{parent_of, outer_of, GoesUp, IsChain}
use Rattle.jr_table.specs.Members.{DeclaresType, IsPrivate, MemberAmong, IsMemberType}
use Rattle.jr_table.specs.Innermost.{NoneAround}
use Rattle.jr_table.specs.TypeNames.{HasTypeNamed, FindsType}
use Rattle.jr_table.specs.DeclaredItems.{DeclaredClass, DeclaredItem}
use Rattle.jr_table.specs.Resolving as meaning
use Rattle.jr_table.specs.Resolving.{DeclaresClass, IsDeclared, IsTopClass, TopParent, TopMemberType, HasTopMemberType, FindsInTop, TypeWithin, HasMemberType, FindsAround, IsParent, IsPrivateClass, member_key}
use Rattle.jr_build_hierarchy.proofs.Looks.{key, names_so, top_type, parent_is_top, top_eta, inherits}
use Rattle.jr_program_laws.proofs.Agreeing.{Agree, TopsAgree, ParentsAgree, ClassRow, parent_number, superclass_row, number_parent, no_outer, outer_row, declares_type, type_declared, own_member, inherited_member, top_row, row_top, inner_row, row_inner, private_row, row_private}

-- the class of a row, and what is said of it
abbrev pub RowWith : List Row → (ℕ → Type 0) → ClassKey → Type 0
RowWith rows P q = (j : ℕ) × ClassRow rows q j × P j

abbrev pub KeyWith : List Row → ℕ → (ClassKey → Type 0) → Type 0
KeyWith rows j P = (q : ClassKey) × ClassRow rows q j × P q

module _ (rows : List Row) (declarations : List DeclaredItem) (a : Agree rows declarations) (tops : TopsAgree rows declarations) where
  abbrev E : List Entry
  E = entries_of rows

  none_declared : (of name : List ℕ) (c : ℕ) → ClassRow rows (top_key of) c → (IsDeclared declarations (member_key declarations of name) → ⊥) → (i : ℕ) → DeclaresType E name c i → ⊥
  none_declared of name c i none j d = none (row_inner rows declarations a of name j (type_declared rows a.rows_are (top_key of) name c j i d).1)

  declared_none : (of name : List ℕ) (c : ℕ) → ClassRow rows (top_key of) c → ((i : ℕ) → DeclaresType E name c i → ⊥) → IsDeclared declarations (member_key declarations of name) → ⊥
  declared_none of name c i none d = let r = inner_row rows declarations a (member_key declarations of name) d in none r.0 (declares_type rows a.rows_are of name c r.0 i r.1)

  hidden_never : (k : ClassKey) (j : ℕ) → ClassRow rows k j → (IsPrivateClass declarations k → ⊥) → IsPrivate E j → ⊥
  hidden_never k j i shown p = shown (row_private rows declarations a k j i p)

  never_hidden : (k : ClassKey) (j : ℕ) → ClassRow rows k j → (IsPrivate E j → ⊥) → IsPrivateClass declarations k → ⊥
  never_hidden k j i shown p = shown (private_row rows declarations a k j i p)

  -- of top-level classes
  pub up_found : (up : ℕ) (of name : List ℕ) (q : ClassKey) → TopMemberType declarations up of name q → (c : ℕ) → ClassRow rows (top_key of) c → RowWith rows (IsMemberType E name c) q
  up_found zero of name q (is, d) c i =
      let r = inner_row rows declarations a q d in
      (r.0, r.1, own_member rows a.rows_are name c r.0 (declares_type rows a.rows_are of name c r.0 i (subst (λ (k : ClassKey). ClassRow rows k r.0) is r.1)))
  up_found (suc up) of name q (p, parent, more, shown, none) c i =
      let s = tops.up of (top_key p) parent in
      let m = superclass_row rows a.rows_are (top_key of) (top_key p) s in
      let r = up_found up p name q more m.0 m.1 in
      let step = parent_number rows a.rows_are (top_key of) (top_key p) c m.0 i s m.1 in
      (r.0, r.1, inherited_member rows a.rows_are name c m.0 r.0 step (none_declared of name c i none) (hidden_never q r.0 r.1 shown) r.2)

  pub top_found : (of name : List ℕ) (q : ClassKey) → HasTopMemberType declarations of name q → (c : ℕ) → ClassRow rows (top_key of) c → RowWith rows (IsMemberType E name c) q
  top_found of name q (up, h) c i = up_found up of name q h c i

  found_up : (cs : List ℕ) (of name : List ℕ) (c j : ℕ) → IsChain E c cs → MemberAmong E (DeclaresType E name) cs j → ClassRow rows (top_key of) c → KeyWith rows j (HasTopMemberType declarations of name)
  found_up [] of name c j chain h i = absurd h
  found_up (d ∷ ds) of name c j chain (inl own) i =
      let q = type_declared rows a.rows_are (top_key of) name c j i (subst (λ (n : ℕ). DeclaresType E name n j) (sym chain.0) own) in
      (member_key declarations of name, q.1, (0, (refl, row_inner rows declarations a of name j q.1)))
  found_up (d ∷ ds) of name c j chain (inr (none, more, shown)) i = by (parent_of E c) refl chain.1 (λ n m x h. found_up ds n name m j x more h)
    where
      by : (o : Option ℕ) → parent_of E c ≡ o → GoesUp o ds (λ p. IsChain E p ds) → ((n : List ℕ) (m : ℕ) → IsChain E m ds → ClassRow rows (top_key n) m → KeyWith rows j (HasTopMemberType declarations n name)) → KeyWith rows j (HasTopMemberType declarations of name)
      by None e ends go = absurd (subst (λ (xs : List ℕ). MemberAmong E (DeclaresType E name) xs j) ends more)
      by (Some m) e further go =
          let p = number_parent rows a.rows_are (top_key of) c m i e in
          let parent = tops.down of p.0 p.1 in
          let top = top_eta declarations p.0 (parent_is_top declarations of p.0 parent) in
          let r = go p.0.name m further (subst (λ (k : ClassKey). ClassRow rows k m) top p.2) in (
            r.0,
            r.1,
            (
              suc r.2.0,
              (
                p.0.name,
                subst (TopParent declarations of) top parent,
                r.2.1,
                never_hidden r.0 j r.1 shown,
                declared_none of name c i (λ x own. none x (subst (λ (n : ℕ). DeclaresType E name n x) chain.0 own)),
              ),
            ),
          )

  pub found_top : (of name : List ℕ) (c j : ℕ) → IsMemberType E name c j → ClassRow rows (top_key of) c → KeyWith rows j (HasTopMemberType declarations of name)
  found_top of name c j m i = found_up m.chain of name c j m.goes_up m.among i

  -- what a simple name means in the body of a top-level class
  pub none_found : (of name : List ℕ) (c : ℕ) → ClassRow rows (top_key of) c → ((r : ClassKey) → HasTopMemberType declarations of name r → ⊥) → HasTypeNamed E name c → ⊥
  none_found of name c i none (j, m) = let r = found_top of name c j m i in none r.0 r.2

  pub found_none : (of name : List ℕ) (c : ℕ) → ClassRow rows (top_key of) c → (HasTypeNamed E name c → ⊥) → (r : ClassKey) → HasTopMemberType declarations of name r → ⊥
  found_none of name c i none r h = let x = top_found of name r h c i in none (x.0, x.2)

  nothing_around : (of : List ℕ) (c e : ℕ) → ClassRow rows (top_key of) c → outer_of E c ≡ Some e → ⊥
  nothing_around of c e i is = let never = sym (no_outer rows a.rows_are (top_key of) c i refl) ∙ is in absurd cc

  pub in_top_found : (of name : List ℕ) (q : ClassKey) → FindsInTop declarations of name q → (c : ℕ) → ClassRow rows (top_key of) c → RowWith rows (λ j. FindsType rows c name (One j)) q
  in_top_found of name q (inl h) c i = let r = top_found of name q h c i in (r.0, r.1, inl (c, inl (refl, (r.0, r.2)), r.2))
  in_top_found of name q (inr (none, is, top)) c i =
      let r = top_row rows declarations a name top in
      (r.0, subst (λ (k : ClassKey). ClassRow rows k r.0) (sym is) r.1, inr ((none_found of name c i none, λ e o h. nothing_around of c e i o), r.1))

  pub found_in_top : (of name : List ℕ) (c j : ℕ) → FindsType rows c name (One j) → ClassRow rows (top_key of) c → KeyWith rows j (FindsInTop declarations of name)
  found_in_top of name c j (inl (e, inl (is, has), member)) i =
      let r = found_top of name c j (subst (λ (n : ℕ). IsMemberType E name n j) is member) i in
      (r.0, r.1, inl r.2)
  found_in_top of name c j (inl (e, inr (none, around, has), member)) i = absurd (nothing_around of c e i around)
  found_in_top of name c j (inr (none, row)) i = (top_key name, row, inr (found_none of name c i none.0, refl, row_top rows declarations a name j row))

  -- of all classes
  module _ (all : ParentsAgree rows declarations) where
    inner_parent : (looks : ℕ) (o n : List ℕ) (at : DeclaredClass) (p : ClassKey) → DeclaresClass declarations (key (Some o) n) at → meaning.MemberNames declarations (λ d. TypeWithin declarations looks d) o at.parent p → IsParent declarations (key (Some o) n) p
    inner_parent looks o n at p d names = inr (o, at, refl, d, names_so declarations (λ k. TypeWithin declarations looks k) (HasMemberType declarations) (λ k m r h. (looks, h)) o at.parent p names)

    no_types_of_inner : (o n name : List ℕ) (c : ℕ) → ClassRow rows (key (Some o) n) c → (i : ℕ) → DeclaresType E name c i → ⊥
    no_types_of_inner o n name c i j d = let never = (type_declared rows a.rows_are (key (Some o) n) name c j i d).0 in absurd cc

    within_found : (looks : ℕ) (outer : Option (List ℕ)) (n name : List ℕ) (q : ClassKey) → TypeWithin declarations looks (key outer n) name q → (c : ℕ) → ClassRow rows (key outer n) c → RowWith rows (IsMemberType E name c) q
    within_found zero outer n name q h c i = absurd h
    within_found (suc looks) None n name q (inl (none, top)) c i = top_found n name q top c i
    within_found (suc looks) None n name q (inr h) c i = absurd h
    within_found (suc looks) (Some o) n name q (inl (none, top)) c i = absurd cc
    within_found (suc looks) (Some o) n name q (inr (at, p, d, names, more, shown)) c i =
        let s = all.up (key (Some o) n) p (inner_parent looks o n at p d names) in
        let m = superclass_row rows a.rows_are (key (Some o) n) p s in
        let r = within_found looks p.outer p.name name q more m.0 m.1 in
        let step = parent_number rows a.rows_are (key (Some o) n) p c m.0 i s m.1 in
        (r.0, r.1, inherited_member rows a.rows_are name c m.0 r.0 step (no_types_of_inner o n name c i) (hidden_never q r.0 r.1 shown) r.2)

    pub has_found : (k : ClassKey) (name : List ℕ) (q : ClassKey) → HasMemberType declarations k name q → (c : ℕ) → ClassRow rows k c → RowWith rows (IsMemberType E name c) q
    has_found k name q (looks, h) c i = within_found looks k.outer k.name name q h c i

    found_within : (cs : List ℕ) (k : ClassKey) (name : List ℕ) (c j : ℕ) → IsChain E c cs → MemberAmong E (DeclaresType E name) cs j → ClassRow rows k c → KeyWith rows j (HasMemberType declarations k name)
    found_within [] k name c j chain h i = absurd h
    found_within (d ∷ ds) k name c j chain (inl own) i =
        let q = type_declared rows a.rows_are k name c j i (subst (λ (n : ℕ). DeclaresType E name n j) (sym chain.0) own) in
        (member_key declarations k.name name, q.1, top_type declarations k name (member_key declarations k.name name) q.0 (0, (refl, row_inner rows declarations a k.name name j q.1)))
    found_within (d ∷ ds) k name c j chain (inr (none, more, shown)) i = by (parent_of E c) refl chain.1 (λ p m x h. found_within ds p name m j x more h)
      where
        by : (o : Option ℕ) → parent_of E c ≡ o → GoesUp o ds (λ p. IsChain E p ds) → ((p : ClassKey) (m : ℕ) → IsChain E m ds → ClassRow rows p m → KeyWith rows j (HasMemberType declarations p name)) → KeyWith rows j (HasMemberType declarations k name)
        by None e ends go = absurd (subst (λ (xs : List ℕ). MemberAmong E (DeclaresType E name) xs j) ends more)
        by (Some m) e further go =
            let p = number_parent rows a.rows_are k c m i e in
            let r = go p.0 m further p.2 in
            let hides : k.outer ≡ None → IsDeclared declarations (member_key declarations k.name name) → ⊥ = λ top.
            declared_none k.name name c (subst (λ (x : ClassKey). ClassRow rows x c) (top_eta declarations k top) i) (λ x own. none x (subst (λ (n : ℕ). DeclaresType E name n x) chain.0 own)) in
            (r.0, r.1, inherits declarations k p.0 name r.0 (all.down k p.0 p.1) r.2 (never_hidden r.0 j r.1 shown) hides)

    pub found_has : (k : ClassKey) (name : List ℕ) (c j : ℕ) → IsMemberType E name c j → ClassRow rows k c → KeyWith rows j (HasMemberType declarations k name)
    found_has k name c j m i = found_within m.chain k name c j m.goes_up m.among i

    -- what a simple name means as a type
    none_has : (k : ClassKey) (name : List ℕ) (c : ℕ) → ClassRow rows k c → ((r : ClassKey) → HasMemberType declarations k name r → ⊥) → HasTypeNamed E name c → ⊥
    none_has k name c i none (j, m) = let r = found_has k name c j m i in none r.0 r.2

    has_none : (k : ClassKey) (name : List ℕ) (c : ℕ) → ClassRow rows k c → (HasTypeNamed E name c → ⊥) → (r : ClassKey) → HasMemberType declarations k name r → ⊥
    has_none k name c i none r h = let x = has_found k name r h c i in none (x.0, x.2)

    around_found : (o : Option (List ℕ)) (k : ClassKey) (name : List ℕ) (q : ClassKey) (c : ℕ) → k.outer ≡ o → ClassRow rows k c → (HasTypeNamed E name c → ⊥) → FindsAround declarations o name q
        → RowWith rows (λ j. FindsType rows c name (One j)) q
    around_found None k name q c top i none (is, there) =
        let r = top_row rows declarations a name there in
        let outer = no_outer rows a.rows_are k c i top in
        (r.0, subst (λ (x : ClassKey). ClassRow rows x r.0) (sym is) r.1, inr ((none, λ e o h. (let never = sym outer ∙ o in absurd cc)), r.1))
    around_found (Some o) k name q c some i none (inl h) =
        let e = outer_row rows a.rows_are k c o i some in
        let r = top_found o name q h e.0 e.1 in
        (r.0, r.1, inl (e.0, inr (none, e.2, (r.0, r.2)), r.2))
    around_found (Some o) k name q c some i none (inr (hidden, is, there)) =
        let e = outer_row rows a.rows_are k c o i some in
        let r = top_row rows declarations a name there in
        let out = none_found o name e.0 e.1 hidden in
        (r.0, subst (λ (x : ClassKey). ClassRow rows x r.0) (sym is) r.1, inr ((none, λ x o' h. out (subst (HasTypeNamed E name) (sym (same_number e.0 x (sym e.2 ∙ o'))) h)), r.1))
      where
        same_number : (x y : ℕ) → Some x ≡ Some y → x ≡ y
        same_number x y e = cc

    pub type_found : (k : ClassKey) (name : List ℕ) (q : ClassKey) → meaning.FindsType declarations k name q → (c : ℕ) → ClassRow rows k c → RowWith rows (λ j. FindsType rows c name (One j)) q
    type_found k name q (inl h) c i = let r = has_found k name q h c i in (r.0, r.1, inl (c, inl (refl, (r.0, r.2)), r.2))
    type_found k name q (inr (none, around)) c i = around_found k.outer k name q c refl i (none_has k name c i none) around

    found_around : (o : Option (List ℕ)) (k : ClassKey) (name : List ℕ) (c j : ℕ) → k.outer ≡ o → ClassRow rows k c → NoneAround E (HasTypeNamed E name) c → ClassRow rows (top_key name) j → FindsAround declarations o name (top_key name)
    found_around None k name c j top i none row = (refl, row_top rows declarations a name j row)
    found_around (Some o) k name c j some i none row =
        let e = outer_row rows a.rows_are k c o i some in
        inr (found_none o name e.0 e.1 (none.1 e.0 e.2), refl, row_top rows declarations a name j row)

    found_in_outer : (o : Option (List ℕ)) (k : ClassKey) (name : List ℕ) (c e j : ℕ) → k.outer ≡ o → ClassRow rows k c → outer_of E c ≡ Some e → IsMemberType E name e j → KeyWith rows j (FindsAround declarations o name)
    found_in_outer None k name c e j top i around member = let never = sym (no_outer rows a.rows_are k c i top) ∙ around in absurd cc
    found_in_outer (Some o) k name c e j some i around member =
        let x = outer_row rows a.rows_are k c o i some in
        let same : e ≡ x.0 = same_number e x.0 (sym around ∙ x.2) in
        let r = found_top o name x.0 j (subst (λ (n : ℕ). IsMemberType E name n j) same member) x.1 in
        (r.0, r.1, inl r.2)
      where
        same_number : (x y : ℕ) → Some x ≡ Some y → x ≡ y
        same_number x y e = cc

    pub found_type : (k : ClassKey) (name : List ℕ) (c j : ℕ) → FindsType rows c name (One j) → ClassRow rows k c → KeyWith rows j (meaning.FindsType declarations k name)
    found_type k name c j (inl (e, inl (is, has), member)) i =
        let r = found_has k name c j (subst (λ (n : ℕ). IsMemberType E name n j) is member) i in
        (r.0, r.1, inl r.2)
    found_type k name c j (inl (e, inr (none, around, has), member)) i =
        let r = found_in_outer k.outer k name c e j refl i around member in
        (r.0, r.1, inr (has_none k name c i none, r.2))
    found_type k name c j (inr (none, row)) i = (top_key name, row, inr (has_none k name c i none.0, found_around k.outer k name c j refl i none row))
