-- Calls and creations: what is found is what the relations say.
use Rattle.std.proofs.Common.{◌≡◌, ℕ, suc, ◌<◌, List, [], ◌∷◌, length, map, Option, Some, None, Bool, true, false, cond, refl, sym, ap, subst, ◌∙◌, inl, inr, eq-eqb, eqb-true, arith}
use Rattle.std.proofs.lemmas.Option.{slice_get_within}
use Rattle.std.specs.Prelude.{◌⊎◌, ◌↔◌, ◌&&◌, ◌==◌, filter, slice_get}
use Rattle.std.specs.Str.{bytes_eq}
use Rattle.std.proofs.lemmas.Slice.Eq.{bytes_eq-Decides}
use Rattle.jr_table.specs.declared.entries.Kind.{Kind}
use Rattle.jr_table.specs.declared.entries.Sort.TheVariants as sort
use Rattle.jr_table.specs.declared.entries.Entry.{Entry}
use Rattle.jr_table.specs.declared.answers.Answer.{Answer}
use Rattle.jr_table.specs.declared.answers.Answer.TheVariants.{One, Nothing, Many, NotAccessible, FromStatic}
use Rattle.jr_table.specs.Keys.{CtorKey}
use Rattle.jr_table.specs.Decls.{Decl, class_decl, field_decl, method_decl, constructor_decl, local_decl}
use Rattle.jr_table.specs.Rows.{Row}
use Rattle.jr_table.specs.Entries.{sort_of, class_of, params_of, entries_of, kind_of, class_number}
use Rattle.jr_table.specs.Conditions.{AreRows, as_declarer}
use Rattle.jr_table.specs.Chains.{In, outer_of, IsAcyclic}
use Rattle.jr_table.specs.Members.{DeclaresMethod, IsMemberMethod}
use Rattle.jr_table.specs.Looking.{is_method, is_sort, is_number, member}
use Rattle.jr_table.specs.Access.{IsAccessible, is_accessible, LacksObject, lacks_object}
use Rattle.jr_table.specs.Innermost.{IsInnermost, NoneAround}
use Rattle.jr_table.specs.Choice.{Chooses, choose}
use Rattle.jr_table.specs.Calls.{Fit, HasParams, IsAsSpecific, IsCandidate, IsMethodCandidate, DeclaresCtor, IsCtorCandidate, ChoosesAt, FindsMethod, FindsCtor, HasMethodNamed, FindsCall, fits, params_at, as_specific, passing, is_named_entry, is_named, is_ctor_entry, is_ctor, methods_named, ctors_in, fitting, choose_at, find_method, find_ctor, from_object, call_in, call_around, call_from, find_call}
use Rattle.jr_table.proofs.RowLaws.{acyclic_rows, RowAt, row_at, some_inside}
use Rattle.jr_table.proofs.MemberLaws.{Says, member_says, one_member}
use Rattle.jr_table.proofs.Testing.{method_says, and_both, and_true, sort_is, is_sort_is, number_is, is_number_is}
use Rattle.jr_table.proofs.OneEach.{one_method}
use Rattle.jr_table.proofs.OneCtor.{one_ctor}
use Rattle.jr_table.proofs.Border.{member_declares}
use Rattle.jr_table.proofs.Accessing.{accessible, lacks}
use Rattle.jr_table.proofs.Assigning.{fits_is, params_are, has_params, specific_is, same_params}
use Rattle.jr_table.proofs.Ascending.{Ascends, kept_ascend, passing_is, passing_ascends}
use Rattle.jr_table.proofs.Inward.{the_member, is_member}
use Rattle.jr_table.proofs.Choosing.{kept_in, in_kept, chooses, one_answer}

-- Candidates among rows that have a property, with the parameter types that they have. `Own params j`: row j has the
-- property, with these.
module _ (rows : List Entry) (acyclic : IsAcyclic rows) (place : ℕ) (args : List Kind) (Own : List Kind → ℕ → Type 0) (js : List ℕ)
    (own : (j : ℕ) → In js j ↔ Own (params_at rows j) j) (takes : (params : List Kind) (j : ℕ) → Own params j → HasParams rows j params)
    (one : (params : List Kind) (i j : ℕ) → Own params i → Own params j → i ≡ j) (ascends : Ascends 0 js) where
  abbrev Candidate : ℕ → Type 0
  Candidate j = IsCandidate rows Own args j

  abbrev Open : ℕ → Type 0
  Open j = Candidate j × IsAccessible rows place j

  own_params : (j : ℕ) (c : Candidate j) → params_at rows j ≡ c.params
  own_params j c = params_are rows acyclic j c.params (takes c.params j c.own)

  candidate : (j : ℕ) → In (fitting rows args js) j ↔ Candidate j
  candidate j = (to, back)
    where
      to : In (fitting rows args js) j → Candidate j
      to h =
          let k = kept_in (λ j. fits rows args (params_at rows j)) js j h in
          record { params = params_at rows j; own = (own j).0 k.0; fit = (fits_is rows acyclic args (params_at rows j)).0 k.1 }

      back : Candidate j → In (fitting rows args js) j
      back c =
          let same = own_params j c in
          in_kept (λ j. fits rows args (params_at rows j)) js j ((own j).1 (subst (λ (ps : List Kind). Own ps j) (sym same) c.own))
          ((fits_is rows acyclic args (params_at rows j)).1 (subst (Fit rows args) (sym same) c.fit))

  open_is : (j : ℕ) → In (filter (is_accessible rows place) (fitting rows args js)) j ↔ Open j
  open_is j = (
    λ h. let k = kept_in (is_accessible rows place) (fitting rows args js) j h in ((candidate j).0 k.0, (accessible rows place j).0 k.1),
    λ h. in_kept (is_accessible rows place) (fitting rows args js) j ((candidate j).1 h.0) ((accessible rows place j).1 h.1),
  )

  own_has : (j : ℕ) → Candidate j → HasParams rows j (params_at rows j)
  own_has j c = subst (HasParams rows j) (sym (own_params j c)) (takes c.params j c.own)

  before_is : (j k : ℕ) → Open j → Open k → (as_specific rows j k ≡ true) ↔ IsAsSpecific rows j k
  before_is j k a b = specific_is rows acyclic j k (own_has j a.0) (own_has k b.0)

  apart : (j k : ℕ) → Open j → Open k → IsAsSpecific rows j k → IsAsSpecific rows k j → j ≡ k
  apart j k a b h g =
      let same = same_params rows acyclic j k h g in
      let left = subst (λ (ps : List Kind). Own ps j) (sym (own_params j a.0)) a.0.own in
      let right = subst (λ (ps : List Kind). Own ps k) (sym (own_params k b.0)) b.0.own in
      one (params_at rows k) j k (subst (λ (ps : List Kind). Own ps j) same left) right

  pub chosen : Chooses Candidate Open (IsAsSpecific rows) (choose_at rows place args js)
  unfolding choose_at
  chosen =
      chooses Candidate Open (IsAsSpecific rows) (as_specific rows) (fitting rows args js) (filter (is_accessible rows place) (fitting rows args js)) candidate open_is before_is apart
      (kept_ascend (λ j. fits rows args (params_at rows j)) 0 js ascends)
      (kept_ascend (is_accessible rows place) 0 (fitting rows args js) (kept_ascend (λ j. fits rows args (params_at rows j)) 0 js ascends))

module _ (rows : List Row) (are : AreRows rows) where
  abbrev es : List Entry
  es = entries_of rows

  acyclic : IsAcyclic es
  acyclic = acyclic_rows rows are

  -- methods
  module _ (name : List ℕ) where
    says : (params : List Kind) (c : ℕ) → Says (IsMemberMethod es name params c) (member es (is_method name params) c)
    says params c = member_says es (DeclaresMethod es name params) (is_method name params) (method_says es name params) (one_method rows are name params) acyclic c

    one : (params : List Kind) (c i j : ℕ) → IsMemberMethod es name params c i → IsMemberMethod es name params c j → i ≡ j
    one params c i j = one_member es (DeclaresMethod es name params) (is_method name params) (method_says es name params) (one_method rows are name params) acyclic c i j

    takes : (c : ℕ) (params : List Kind) (j : ℕ) → IsMemberMethod es name params c j → HasParams es j params
    takes c params j m = let d = (member_declares es (DeclaresMethod es name params) m.chain j m.among).1 in record { row = d.row; stands = d.stands; takes = d.takes }

    module _ (c : ℕ) where
      named : (j : ℕ) → (is_named es name c j ≡ true) → IsMemberMethod es name (params_at es j) c j
      unfolding is_named
      named j h = of (slice_get es j) refl h
        where
          of : (o : Option Entry) → slice_get es j ≡ o → is_named_entry es name c j o ≡ true → IsMemberMethod es name (params_at es j) c j
          of None e h = absurd cc
          of (Some x) e h =
              let b = and_both (bytes_eq x.name name) (is_number (member es (is_method name x.params) c) j) h in
              let found : member es (is_method name x.params) c ≡ Some j = number_is (member es (is_method name x.params) c) j b.1 in
              let params : params_at es j ≡ x.params = params_are es acyclic j x.params (record { row = x; stands = e; takes = refl }) in
              subst (λ (ps : List Kind). IsMemberMethod es name ps c j) (sym params) (is_member es (λ e j. IsMemberMethod es name x.params e j) (λ e. member es (is_method name x.params) e) (says x.params) (one x.params) c j found)

      is_named_at : (j : ℕ) → IsMemberMethod es name (params_at es j) c j → is_named es name c j ≡ true
      unfolding is_named
      is_named_at j m =
          let d = (member_declares es (DeclaresMethod es name (params_at es j)) m.chain j m.among).1 in
          ap (is_named_entry es name c j) d.stands
          ∙ and_true (bytes_eq d.row.name name) (is_number (member es (is_method name d.row.params) c) j) ((bytes_eq-Decides d.row.name name).1 d.named)
          (is_number_is (member es (is_method name d.row.params) c) j (ap (λ ps. member es (is_method name ps) c) d.takes ∙ the (params_at es j) m))
        where
          the : (params : List Kind) → IsMemberMethod es name params c j → member es (is_method name params) c ≡ Some j
          the params m = the_member es (λ e j. IsMemberMethod es name params e j) (λ e. member es (is_method name params) e) (says params) (one params) c j m

      method_own : (j : ℕ) → In (methods_named es name c) j ↔ IsMemberMethod es name (params_at es j) c j
      unfolding methods_named
      method_own j = (
        λ i. named j ((passing_is (is_named es name c) (length es) j).0 i).1,
        λ m. let d = (member_declares es (DeclaresMethod es name (params_at es j)) m.chain j m.among).1 in
            (passing_is (is_named es name c) (length es) j).1 (slice_get_within es j d.row d.stands, is_named_at j m),
      )

      methods_ascend : Ascends 0 (methods_named es name c)
      unfolding methods_named
      methods_ascend = passing_ascends (is_named es name c) (length es)

      pub method_chosen : (place : ℕ) (args : List Kind) → FindsMethod es place c name args (choose_at es place args (methods_named es name c))
      method_chosen place args = chosen es acyclic place args (λ params j. IsMemberMethod es name params c j) (methods_named es name c) method_own (takes c) (λ params. one params c) methods_ascend

      pub method_is : (place : ℕ) (args : List Kind) (a : Answer) → (find_method es place c name args ≡ a) ↔ FindsMethod es place c name args a
      unfolding find_method
      method_is place args a = (
        λ e. subst (FindsMethod es place c name args) e (method_chosen place args),
        λ h. one_answer (IsMethodCandidate es c name args) (λ j. IsMethodCandidate es c name args j × IsAccessible es place j) (IsAsSpecific es) (λ j o. o.0)
            (choose_at es place args (methods_named es name c)) a (method_chosen place args) h,
      )

      -- whether the class has one
      some_named : (j : ℕ) (js : List ℕ) → methods_named es name c ≡ j ∷ js → HasMethodNamed es name c
      some_named j js e = (params_at es j, j, (method_own j).0 (subst (λ (xs : List ℕ). In xs j) (sym e) (inl refl)))

      none_named : methods_named es name c ≡ [] → HasMethodNamed es name c → ⊥
      none_named e (params, j, m) =
          let same = params_are es acyclic j params (takes c params j m) in
          let i : In (methods_named es name c) j = (method_own j).1 (subst (λ (ps : List Kind). IsMemberMethod es name ps c j) (sym same) m) in
          let n : In [] j = subst (λ (xs : List ℕ). In xs j) e i in n

      no_named : (HasMethodNamed es name c → ⊥) → methods_named es name c ≡ []
      no_named none = of (methods_named es name c) refl
        where
          of : (js : List ℕ) → methods_named es name c ≡ js → js ≡ []
          of [] e = refl
          of (j ∷ js) e = absurd (none (some_named j js e))

  -- constructors
  module _ (c : ℕ) where
    ctor_at : (j : ℕ) → is_ctor es c j ≡ true → DeclaresCtor es (params_at es j) c j
    unfolding is_ctor
    ctor_at j h = of (slice_get es j) refl h
      where
        of : (o : Option Entry) → slice_get es j ≡ o → is_ctor_entry c o ≡ true → DeclaresCtor es (params_at es j) c j
        of None e h = absurd cc
        of (Some x) e h =
            let b = and_both (is_sort x.sort sort.Ctor) (x.class == c) h in
            record { row = x; stands = e; constructor = sort_is x.sort sort.Ctor b.0; class = eqb-true x.class c b.1; takes = sym (params_are es acyclic j x.params (record { row = x; stands = e; takes = refl })) }

    is_ctor_at : (j : ℕ) → DeclaresCtor es (params_at es j) c j → is_ctor es c j ≡ true
    unfolding is_ctor
    is_ctor_at j d = ap (is_ctor_entry c) d.stands ∙ and_true (is_sort d.row.sort sort.Ctor) (d.row.class == c) (is_sort_is d.row.sort sort.Ctor d.constructor) (eq-eqb d.row.class c d.class)

    ctor_own : (j : ℕ) → In (ctors_in es c) j ↔ DeclaresCtor es (params_at es j) c j
    unfolding ctors_in
    ctor_own j = (
      λ i. ctor_at j ((passing_is (is_ctor es c) (length es) j).0 i).1,
      λ d. (passing_is (is_ctor es c) (length es) j).1 (slice_get_within es j d.row d.stands, is_ctor_at j d),
    )

    ctors_ascend : Ascends 0 (ctors_in es c)
    unfolding ctors_in
    ctors_ascend = passing_ascends (is_ctor es c) (length es)

    ctor_takes : (params : List Kind) (j : ℕ) → DeclaresCtor es params c j → HasParams es j params
    ctor_takes params j d = record { row = d.row; stands = d.stands; takes = d.takes }

    ctor_chosen : (place : ℕ) (args : List Kind) → FindsCtor es place c args (choose_at es place args (ctors_in es c))
    ctor_chosen place args = chosen es acyclic place args (λ params j. DeclaresCtor es params c j) (ctors_in es c) ctor_own ctor_takes (λ params. one_ctor rows are params c) ctors_ascend

    pub ctor_is : (place : ℕ) (args : List Kind) (a : Answer) → (find_ctor es place c args ≡ a) ↔ FindsCtor es place c args a
    unfolding find_ctor
    ctor_is place args a = (
      λ e. subst (FindsCtor es place c args) e (ctor_chosen place args),
      λ h. one_answer (IsCtorCandidate es c args) (λ j. IsCtorCandidate es c args j × IsAccessible es place j) (IsAsSpecific es) (λ j o. o.0)
          (choose_at es place args (ctors_in es c)) a (ctor_chosen place args) h,
    )

  -- a call without a target
  module _ (c : ℕ) (is_static : Bool) (name : List ℕ) (args : List Kind) where
    in_says : (e : ℕ) → IsInnermost es (HasMethodNamed es name) c e → (a : Answer) → FindsMethod es c e name args a → FindsCall es c is_static name args (from_object es c is_static e a)
    in_says e inner Nothing m = inr (e, inner, m)
    in_says e inner (Many j k) m = (e, inner, m)
    in_says e inner (NotAccessible j) m = (e, inner, m)
    in_says e inner (FromStatic j) m = absurd m
    in_says e inner (One j) m = by (lacks_object es c is_static e j) refl
      where
        by : (b : Bool) → lacks_object es c is_static e j ≡ b → FindsCall es c is_static name args (cond b (FromStatic j) (One j))
        by true h = (e, inner, m, (lacks es c is_static e j).0 h)
        by false h = (e, inner, m, λ l. let t = (lacks es c is_static e j).1 l in absurd cc)

    call_says : FindsCall es c is_static name args (find_call es c is_static name args)
    unfolding find_call choose_at
    call_says = from (methods_named es name c) refl
      where
        here : (e : ℕ) → IsInnermost es (HasMethodNamed es name) c e → (js : List ℕ) → methods_named es name e ≡ js → FindsCall es c is_static name args (call_in es c is_static args e js)
        here e inner js h = in_says e inner (choose_at es c args js) (subst (λ (xs : List ℕ). FindsMethod es c e name args (choose_at es c args xs)) h (method_chosen name e c args))

        inside : (e : ℕ) → methods_named es name c ≡ [] → outer_of es c ≡ Some e → (js : List ℕ) → methods_named es name e ≡ js → FindsCall es c is_static name args (call_in es c is_static args e js)
        inside e none is [] h = inl (none_named name c none, λ d at. let x : Some e ≡ Some d = sym is ∙ at in let same : e ≡ d = cc in subst (λ (y : ℕ). HasMethodNamed es name y → ⊥) same (none_named name e h))
        inside e none is (j ∷ js) h = here e (inr (none_named name c none, is, some_named name e j js h)) (j ∷ js) h

        out : methods_named es name c ≡ [] → (o : Option ℕ) → outer_of es c ≡ o → FindsCall es c is_static name args (call_around es c is_static name args o)
        out none None is = inl (none_named name c none, λ e h. let x : None ≡ Some e = sym is ∙ h in absurd cc)
        out none (Some e) is = inside e none is (methods_named es name e) refl

        from : (js : List ℕ) → methods_named es name c ≡ js → FindsCall es c is_static name args (call_from es c is_static name args js)
        from [] h = out h (outer_of es c) refl
        from (j ∷ js) h = here c (inl (refl, some_named name c j js h)) (j ∷ js) h

    searched : (e : ℕ) → IsInnermost es (HasMethodNamed es name) c e → find_call es c is_static name args ≡ from_object es c is_static e (find_method es c e name args)
    unfolding find_call find_method
    searched e (inl (is, has)) = subst (λ (x : ℕ). call_from es c is_static name args (methods_named es name c) ≡ from_object es c is_static x (choose_at es c args (methods_named es name x))) (sym is) (of (methods_named es name c) refl)
      where
        of : (js : List ℕ) → methods_named es name c ≡ js → call_from es c is_static name args js ≡ from_object es c is_static c (choose_at es c args js)
        of [] h = absurd (none_named name c h has)
        of (j ∷ js) h = refl
    searched e (inr (none, is, has)) = ap (call_from es c is_static name args) (no_named name c none) ∙ ap (call_around es c is_static name args) is

    nowhere : NoneAround es (HasMethodNamed es name) c → find_call es c is_static name args ≡ Nothing
    unfolding find_call choose_at
    nowhere (none, around) = ap (call_from es c is_static name args) (no_named name c none) ∙ by (outer_of es c) refl
      where
        by : (o : Option ℕ) → outer_of es c ≡ o → call_around es c is_static name args o ≡ Nothing
        by None is = refl
        by (Some e) is = ap (call_in es c is_static args e) (no_named name e (around e is))

    one_call : (a : Answer) → FindsCall es c is_static name args a → find_call es c is_static name args ≡ a
    one_call (One j) (e, inner, m, has) = searched e inner ∙ ap (from_object es c is_static e) ((method_is name e c args (One j)).1 m) ∙ by (lacks_object es c is_static e j) refl
      where
        by : (b : Bool) → lacks_object es c is_static e j ≡ b → cond b (FromStatic j) (One j) ≡ One j
        by true h = absurd (has ((lacks es c is_static e j).0 h))
        by false h = refl
    one_call (FromStatic j) (e, inner, m, lacking) =
        searched e inner ∙ ap (from_object es c is_static e) ((method_is name e c args (One j)).1 m) ∙ ap (λ b. cond b (FromStatic j) (One j)) ((lacks es c is_static e j).1 lacking)
    one_call (Many j k) (e, inner, m) = searched e inner ∙ ap (from_object es c is_static e) ((method_is name e c args (Many j k)).1 m)
    one_call (NotAccessible j) (e, inner, m) = searched e inner ∙ ap (from_object es c is_static e) ((method_is name e c args (NotAccessible j)).1 m)
    one_call Nothing (inr (e, inner, m)) = searched e inner ∙ ap (from_object es c is_static e) ((method_is name e c args Nothing).1 m)
    one_call Nothing (inl none) = nowhere none

    pub call_is : (a : Answer) → (find_call es c is_static name args ≡ a) ↔ FindsCall es c is_static name args a
    call_is a = (λ e. subst (FindsCall es c is_static name args) e call_says, one_call a)
