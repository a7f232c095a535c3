-- One method more is gathered, and one class more is climbed.
use Rattle.std.proofs.Common.{◌≡◌, ◌≢◌, ◌||◌, ℕ, List, [], ◌∷◌, ◌++◌, Option, Some, None, Bool, true, false, not, cond, refl, sym, ap, subst, ◌∙◌, inl, inr, eqb-true, eq-eqb}
use Rattle.std.specs.Prelude.{slice_get, nat_eq, ◌⊎◌, ◌↔◌, ◌&&◌, ◌==◌}
use Rattle.std.specs.List.{IsDistinct, list_any}
use Rattle.std.specs.Cmp.{nat_eq_equiv}
use Rattle.std.specs.Str.{bytes_eq}
use Rattle.std.proofs.lemmas.Map.Keys.{IsDistinct-push}
use Rattle.std.specs.Cmp.Lexicographic.{bytes_decides}
use Rattle.jr_index.specs.Linked.{is_owner, is_at}
use Rattle.jr_table.specs.declared.entries.Kind.{Kind}
use Rattle.jr_table.specs.declared.entries.Entry.{Entry}
use Rattle.jr_table.specs.declared.entries.Sort.TheVariants as sort
use Rattle.jr_table.specs.Rows.{Row}
use Rattle.jr_table.specs.Entries.{entries_of}
use Rattle.jr_table.specs.Conditions.{AreRows}
use Rattle.jr_table.specs.Chains.{In, parent_of, IsAcyclic}
use Rattle.jr_table.specs.Members.{DeclaresMethod}
use Rattle.jr_table.specs.Looking.{same_kinds, is_number, is_method, own_row, nearest, member, inherited, is_private_at}
use Rattle.jr_table.specs.Calls.{is_named, is_named_entry, params_in, params_at}
use Rattle.jr_table.specs.MemberIndex.{owner_by, member_place}
use Rattle.jr_table.specs.Gathering.{entry_named, AreNamed, Gathers, TakesRow}
use Rattle.jr_table.proofs.RowLaws.{acyclic_rows, some_inside}
use Rattle.jr_table.proofs.MemberLaws.{Says}
use Rattle.jr_table.proofs.Testing.{and_both, method_says, kinds_same, number_is, is_number_is}
use Rattle.jr_table.proofs.OneEach.{one_method}
use Rattle.jr_table.proofs.StepsUp.{own_nearest, next_nearest, no_nearest, own_member, next_member, no_member}
use Rattle.jr_table.proofs.Ascending.{in_left, in_right, in_either}
use Rattle.jr_table.proofs.Assigning.{any_in}
use Rattle.jr_table.proofs.ClassLaws.{owner_is}

or_right : (a b : Bool) → b ≡ true → (a || b) ≡ true
or_right true b h = refl
or_right false b h = h

or_false : (a b : Bool) → (a || b) ≡ false → b ≡ false
or_false true b h = absurd cc
or_false false b h = h

distinct_none : IsDistinct nat_eq []
unfolding IsDistinct
distinct_none = tt

module _ (rows : List Row) (are : AreRows rows) (name : List ℕ) where
  abbrev es : List Entry
  es = entries_of rows

  acyclic : IsAcyclic es
  acyclic = acyclic_rows rows are

  abbrev near : List Kind → ℕ → Option ℕ
  near params c = nearest es (is_method name params) c

  own_first : (params : List Kind) (at j : ℕ) → DeclaresMethod es name params at j → own_row es (is_method name params) at ≡ Some j
  own_first params at j d = of (own_row es (is_method name params) at) (method_says es name params at)
    where
      of : (o : Option ℕ) → Says (DeclaresMethod es name params at) o → o ≡ Some j
      of None none = absurd (none j d)
      of (Some i) e = ap Some (one_method rows are name params at i j e d)

  declares_own : (params : List Kind) (c i : ℕ) → own_row es (is_method name params) c ≡ Some i → DeclaresMethod es name params c i
  declares_own params c i h = let s : Says (DeclaresMethod es name params c) (Some i) = subst (Says (DeclaresMethod es name params c)) h (method_says es name params c) in s

  -- what isn't declared is inherited
  member_inherits : (params : List Kind) (c : ℕ) → own_row es (is_method name params) c ≡ None → member es (is_method name params) c ≡ inherited es (near params c)
  member_inherits params c none = by (parent_of es c) refl
    where
      by : (o : Option ℕ) → parent_of es c ≡ o → member es (is_method name params) c ≡ inherited es (near params c)
      by None up = no_member es acyclic (is_method name params) c none up ∙ ap (inherited es) (sym (no_nearest es acyclic (is_method name params) c none up))
      by (Some p) up = next_member es acyclic (is_method name params) c p none up ∙ ap (inherited es) (sym (next_nearest es acyclic (is_method name params) c p none up))

  module _ (c : ℕ) where
    -- a member is the nearest
    inherits_is : (o : Option ℕ) (k : ℕ) → inherited es o ≡ Some k → o ≡ Some k
    inherits_is None k h = absurd cc
    inherits_is (Some i) k h = by (is_private_at es i) h
      where
        by : (b : Bool) → cond b None (Some i) ≡ Some k → Some i ≡ Some k
        by true h = absurd cc
        by false h = h

    member_nearest : (params : List Kind) (k : ℕ) → member es (is_method name params) c ≡ Some k → near params c ≡ Some k
    member_nearest params k h = by (own_row es (is_method name params) c) refl
      where
        by : (o : Option ℕ) → own_row es (is_method name params) c ≡ o → near params c ≡ Some k
        by None e = inherits_is (near params c) k (sym (member_inherits params c e) ∙ h)
        by (Some i) e = own_nearest es acyclic (is_method name params) c i e ∙ some_inside_same (sym (own_member es acyclic (is_method name params) c i e) ∙ h)
          where
            some_inside_same : Some i ≡ Some k → Some i ≡ Some k
            some_inside_same h = h

    pub named_member : (j : ℕ) → is_named es name c j ≡ true → member es (is_method name (params_at es j)) c ≡ Some j
    unfolding is_named
    named_member j h = of (slice_get es j) refl h
      where
        of : (o : Option Entry) → slice_get es j ≡ o → is_named_entry es name c j o ≡ true → member es (is_method name (params_at es j)) c ≡ Some j
        of None e h = absurd cc
        of (Some x) e h =
            let b = and_both (bytes_eq x.name name) (is_number (member es (is_method name x.params) c) j) h in
            ap (λ ps. member es (is_method name ps) c) (ap params_in e) ∙ number_is (member es (is_method name x.params) c) j b.1

    module _ (at j : ℕ) (e : Entry) (stands : slice_get es j ≡ Some e) (placed : entry_named at name e ≡ true) (method : e.sort ≡ sort.Method) where
      abbrev params : List Kind
      params = e.params

      named : bytes_eq e.name name ≡ true
      named = (and_both (is_owner (owner_by e.sort e.class e.outer) at) (bytes_eq e.name name) placed).1

      its_class : e.class ≡ at
      its_class =
          let owner = owner_is (owner_by e.sort e.class e.outer) at (and_both (is_owner (owner_by e.sort e.class e.outer) at) (bytes_eq e.name name) placed).0 in
          let same : Some e.class ≡ Some at = sym (ap (λ s. owner_by s e.class e.outer) method) ∙ owner in
          cc

      declares : DeclaresMethod es name params at j
      declares = record { row = e; stands = stands; method = method; class = its_class; named = (bytes_decides e.name name).0 named; takes = refl }

      abbrev visible : Bool
      visible = (c == at) || not (is_private_at es j)

      -- no other class on the way declares it
      own_none : near params c ≡ Some j → c ≢ at → own_row es (is_method name params) c ≡ None
      own_none found differs = by (own_row es (is_method name params) c) refl
        where
          by : (o : Option ℕ) → own_row es (is_method name params) c ≡ o → o ≡ None
          by None h = refl
          by (Some i) h =
              let s : Some i ≡ Some j = sym (own_nearest es acyclic (is_method name params) c i h) ∙ found in
              let same : i ≡ j = cc in
              let d = declares_own params c i h in
              let row = some_inside (slice_get es j) d.row e (ap (slice_get es) (sym same) ∙ d.stands) stands in
              absurd (differs (sym d.class ∙ ap (λ (x : Entry). x.class) row ∙ its_class))

      member_here : near params c ≡ Some j → member es (is_method name params) c ≡ cond visible (Some j) None
      member_here found = by (c == at) refl
        where
          by : (b : Bool) → (c == at) ≡ b → member es (is_method name params) c ≡ cond (b || not (is_private_at es j)) (Some j) None
          by true h = own_member es acyclic (is_method name params) c j (ap (own_row es (is_method name params)) (eqb-true c at h) ∙ own_first params at j declares)
          by false h = member_inherits params c (own_none found (λ s. let t = eq-eqb c at s in absurd cc)) ∙ ap (inherited es) found ∙ turn (is_private_at es j)
            where
              turn : (b : Bool) → cond b None (Some j) ≡ cond (not b) (Some j) None
              turn true = refl
              turn false = refl

      params_here : params_at es j ≡ params
      params_here = ap params_in stands

      named_is : is_named es name c j ≡ is_number (member es (is_method name params) c) j
      unfolding is_named
      named_is = ap (is_named_entry es name c j) stands ∙ ap (λ b. b && is_number (member es (is_method name params) c) j) named

      module _ (met met' : List Kind → Bool) (numbers numbers' : List ℕ) (new : met params ≡ false) (adds : (ps : List Kind) → met' ps ≡ (same_kinds ps params || met ps))
          (is : numbers' ≡ numbers ++ cond visible (j ∷ []) []) (old : Gathers es name c at met numbers) where
        found : near params c ≡ Some j
        found = old.ahead params new ∙ own_nearest es acyclic (is_method name params) at j (own_first params at j declares)

        is_member : member es (is_method name params) c ≡ cond visible (Some j) None
        is_member = member_here found

        met_here : met' params ≡ true
        met_here = adds params ∙ ap (λ b. b || met params) ((kinds_same params params).1 refl)

        -- the new number
        last : (k : ℕ) (b : Bool) → visible ≡ b → In (cond b (j ∷ []) []) k ↔ (member es (is_method name params) c ≡ Some k)
        last k true v = (λ i. to i, λ h. inl (let s : Some j ≡ Some k = sym (is_member ∙ ap (λ b. cond b (Some j) None) v) ∙ h in cc))
          where
            to : In (j ∷ []) k → member es (is_method name params) c ≡ Some k
            to (inl s) = is_member ∙ ap (λ b. cond b (Some j) None) v ∙ ap Some s
            to (inr i) = absurd i
        last k false v = (λ i. absurd i, λ h. let s : None ≡ Some k = sym (is_member ∙ ap (λ b. cond b (Some j) None) v) ∙ h in absurd cc)

        to : (k : ℕ) → (In numbers k ⊎ In (cond visible (j ∷ []) []) k) → (is_named es name c k ≡ true) × (met' (params_at es k) ≡ true)
        to k (inl i) = let o = (old.each k).0 i in (o.0, adds (params_at es k) ∙ or_right _ _ o.1)
        to k (inr i) =
            let m = (last k visible refl).0 i in
            let s : Some j ≡ Some k = sym found ∙ member_nearest params k m in
            let same : j ≡ k = cc in (
              ap (is_named es name c) (sym same) ∙ named_is ∙ is_number_is (member es (is_method name params) c) j (m ∙ ap Some (sym same)),
              ap (λ n. met' (params_at es n)) (sym same) ∙ ap met' params_here ∙ met_here,
            )

        back : (k : ℕ) → is_named es name c k ≡ true → (b : Bool) → same_kinds (params_at es k) params ≡ b → (b || met (params_at es k)) ≡ true → In numbers k ⊎ In (cond visible (j ∷ []) []) k
        back k h true e m =
            let same = (kinds_same (params_at es k) params).0 e in
            inr ((last k visible refl).1 (ap (λ ps. member es (is_method name ps) c) (sym same) ∙ named_member k h))
        back k h false e m = inl ((old.each k).1 (h, m))

        join : (k : ℕ) → (In numbers k ⊎ In (cond visible (j ∷ []) []) k) → In (numbers ++ cond visible (j ∷ []) []) k
        join k (inl i) = in_left numbers (cond visible (j ∷ []) []) k i
        join k (inr i) = in_right numbers (cond visible (j ∷ []) []) k i

        not_yet : list_any (nat_eq j) numbers ≡ false
        not_yet = by (list_any (nat_eq j) numbers) refl
          where
            by : (b : Bool) → list_any (nat_eq j) numbers ≡ b → b ≡ false
            by false h = refl
            by true h =
                let a = any_in (nat_eq j) numbers h in
                let same = eqb-true j a.0 a.2 in
                let o = (old.each a.0).0 a.1 in
                let t : met params ≡ true = ap met (sym params_here ∙ ap (params_at es) same) ∙ o.1 in
                absurd cc

        apart : (b : Bool) → IsDistinct nat_eq (numbers ++ cond b (j ∷ []) [])
        apart true = IsDistinct-push nat_eq_equiv numbers j old.apart not_yet
        apart false = subst (IsDistinct nat_eq) (sym (nothing numbers)) old.apart
          where
            nothing : (xs : List ℕ) → xs ++ [] ≡ xs
            nothing [] = refl
            nothing (x ∷ xs) = ap (λ ys. x ∷ ys) (nothing xs)

        pub one_more : Gathers es name c at met' numbers'
        one_more = record {
          ahead = λ ps f. old.ahead ps (or_false _ _ (sym (adds ps) ∙ f));
          each = λ k. (
            λ i. to k (in_either numbers (cond visible (j ∷ []) []) k (subst (λ xs. In xs k) is i)),
            λ h. subst (λ xs. In xs k) (sym is) (join k (back k h.0 (same_kinds (params_at es k) params) refl (sym (adds (params_at es k)) ∙ h.1))),
          );
          apart = subst (IsDistinct nat_eq) (sym is) (apart visible);
        }

    -- what is done with a method that is new
    pub takes_row : (at j : ℕ) (e : Entry) → slice_get es j ≡ Some e → e.sort ≡ sort.Method → (met met' : List Kind → Bool) (numbers numbers' : List ℕ) → met e.params ≡ false
        → ((ps : List Kind) → met' ps ≡ (same_kinds ps e.params || met ps)) → numbers' ≡ numbers ++ cond ((c == at) || not (is_private_at es j)) (j ∷ []) [] → TakesRow es name c at j met numbers met' numbers'
    takes_row at j e stands method met met' numbers numbers' new adds is = record {
      gathers = λ p old. one_more at j e stands (ap (entry_named at name) (some_inside (slice_get es j) e p.element stands p.stands) ∙ p.passes) method met met' numbers numbers' new adds is old;
      kept = λ ps h. adds ps ∙ or_right _ _ h;
      here = λ x there m. ap (λ (x : Entry). met' x.params) (some_inside (slice_get es j) x e there stands) ∙ adds e.params ∙ ap (λ b. b || met e.params) ((kinds_same e.params e.params).1 refl);
    }

    -- one class more
    module _ (at : ℕ) (met : List Kind → Bool) (numbers : List ℕ) (old : Gathers es name c at met numbers) (done : (params : List Kind) → met params ≡ false → own_row es (is_method name params) at ≡ None) where
      pub climbs : (p : ℕ) → parent_of es at ≡ Some p → Gathers es name c p met numbers
      climbs p up = record {
        ahead = λ ps f. old.ahead ps f ∙ next_nearest es acyclic (is_method name ps) at p (done ps f) up;
        each = old.each;
        apart = old.apart;
      }

      pub ends : parent_of es at ≡ None → AreNamed es name c numbers
      ends up = record { each = λ j. (λ i. ((old.each j).0 i).0, λ h. (old.each j).1 (h, all j h (met (params_at es j)) refl)); apart = old.apart }
        where
          all : (j : ℕ) → is_named es name c j ≡ true → (b : Bool) → met (params_at es j) ≡ b → b ≡ true
          all j h true e = refl
          all j h false e =
              let none = old.ahead (params_at es j) e ∙ no_nearest es acyclic (is_method name (params_at es j)) at (done (params_at es j) e) up in
              let some = member_nearest (params_at es j) j (named_member j h) in
              let t : None ≡ Some j = sym none ∙ some in
              absurd cc

    pub begins : (met : List Kind → Bool) (numbers : List ℕ) → ((ps : List Kind) → met ps ≡ false) → numbers ≡ [] → Gathers es name c c met numbers
    begins met numbers none is = subst (Gathers es name c c met) (sym is) (record {
      ahead = λ ps f. refl;
      each = λ j. (λ i. absurd i, λ h. let f = none (params_at es j) in let t = h.1 in absurd cc);
      apart = distinct_none;
    })
