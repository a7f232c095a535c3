-- What is known of a member, from its log.
use Rattle.std.proofs.Common.{◌≡◌, ℕ, zero, suc, ◌+◌, ◌-◌, ◌≤◌, List, [], ◌∷◌, ◌++◌, Option, Some, Bool, true, false, refl, sym, ap, subst, ◌∙◌, inl, inr, arith}
use Rattle.std.specs.Prelude.{◌⊎◌, ◌↔◌, nat_lt, ◌==◌, if◌then◌else◌}
use Rattle.std.specs.List.{Contains}
use Rattle.std.specs.List.Sorted.{IsPermutation}
use Rattle.std.proofs.lemmas.Bool.{eqb-true, eq-eqb, ltb-false, le-ltb}
use Rattle.std.proofs.lemmas.List.Sorted.{Contains-permutation, IsPermutation-sym}
use Rattle.jr_table.specs.Keys.{Ty}
use Rattle.jr_table.specs.Decls.{MemberKey, Decl}
use Rattle.jr_table.specs.Rows.{Row}
use Rattle.jr_table.specs.Found.{Found, one, nothing, many, not_accessible, from_static}
use Rattle.jr_table.specs.Binding.{Sought}
use Rattle.jr_table.specs.Notes.{Note, refers, breaks, Has, found_note}
use Rattle.jr_table.specs.Walks.{part_notes}
use Rattle.jr_table.specs.Errors.{Part, part_mark, Binds, Breaks, Error, AreErrors, AreInOrder, Among}
use Rattle.jr_table.specs.NotingLaws.{PartIsNoted, AreErrorsOfLogs}
use Rattle.jr_bind_expr.specs.Arms.{one_decl}
use Rattle.jr_bind_expr.specs.Logs.{Adds}
use Rattle.jr_expr_types.specs.Slots.{Slot, find_type}
use Rattle.jr_bind.specs.Bounds.{Reference, decl_in, Bound, TypeInPart, BindsOnce, IsBound}
use Rattle.jr_bind.specs.Targets.{note_place, note_decl}
use Rattle.jr_bind.specs.BoundLogs.{reference_at, found_references, note_references, references_in, IsBoundOfLog}

-- elements of a list
abbrev pub In : {X : Type 0} → List X → X → Type 0
In [] x = ⊥
In (y ∷ ys) x = (y ≡ x) ⊎ In ys x

pub in_contains : {X : Type 0} (xs : List X) (x : X) → In xs x → Contains xs x
in_contains [] x i = absurd i
in_contains (y ∷ ys) x (inl i) = (0, omega arith, i)
in_contains (y ∷ ys) x (inr i) = let c = in_contains ys x i in (suc c.0, let lt = c.1 in omega (arith, lt), c.2)

pub contains_in : {X : Type 0} (xs : List X) (x : X) → Contains xs x → In xs x
contains_in [] x (k, lt, is) = absurd (omega (arith, lt))
contains_in (y ∷ ys) x (zero, lt, is) = inl is
contains_in (y ∷ ys) x (suc k, lt, is) = inr (contains_in ys x (k, omega (arith, lt), is))

pub in_permuted : {X : Type 0} (xs ys : List X) (x : X) → IsPermutation xs ys → In xs x → In ys x
in_permuted xs ys x p i = contains_in ys x (Contains-permutation xs ys x p (in_contains xs x i))

abbrev ref : ℕ → Decl → Reference
ref at d = record { at = at; decl = d }

-- a reference of a note
pub in_either : {X : Type 0} (xs ys : List X) (x : X) → In (xs ++ ys) x → In xs x ⊎ In ys x
in_either [] ys x h = inr h
in_either (y ∷ xs) ys x (inl e) = inl (inl e)
in_either (y ∷ xs) ys x (inr h) = elim (in_either xs ys x h) [
  | inl a ↦ inl (inr a)
  | inr b ↦ inr b
]

in_left : {X : Type 0} (xs ys : List X) (x : X) → In xs x → In (xs ++ ys) x
in_left [] ys x h = absurd h
in_left (y ∷ xs) ys x (inl e) = inl e
in_left (y ∷ xs) ys x (inr h) = inr (in_left xs ys x h)

in_right : {X : Type 0} (xs ys : List X) (x : X) → In ys x → In (xs ++ ys) x
in_right [] ys x h = h
in_right (y ∷ xs) ys x h = inr (in_right xs ys x h)

reference_noted : (start a : ℕ) (d : Decl) (r : Reference) → In (reference_at start a d) r → refers a d ≡ refers (start + r.at) r.decl
reference_noted start a d r = by (nat_lt a start) refl
  where
    by : (b : Bool) → nat_lt a start ≡ b → In (if b then [] else ref (a - start) d ∷ []) r → refers a d ≡ refers (start + r.at) r.decl
    by true is h = absurd h
    by false is (inl e) =
        let le : start ≤ a = ltb-false a start is in
        let at : a - start ≡ r.at = ap (λ (x : Reference). x.at) e in
        let same : a ≡ start + r.at = omega (arith, le, at) in
        (λ i. refers (same i) ((ap (λ (x : Reference). x.decl) e) i))
    by false is (inr h) = absurd h

noted_reference : (start at : ℕ) (d : Decl) → In (reference_at start (start + at) d) (ref at d)
noted_reference start at d =
    let le : start ≤ start + at = omega arith in
    let same : start + at - start ≡ at = omega arith in
    subst (λ b. In (if b then [] else ref (start + at - start) d ∷ []) (ref at d)) (sym (le-ltb (start + at) start le)) (inl (ap (λ n. ref n d) same))

noted : (start : ℕ) (log : List Note) (r : Reference) → In (references_in start log) r → Has log (refers (start + r.at) r.decl)
noted start [] r h = absurd h
noted start (refers a d ∷ ns) r h = elim (in_either (reference_at start a d) (references_in start ns) r h) [
  | inl k ↦ inl (reference_noted start a d r k)
  | inr k ↦ inr (noted start ns r k)
]
noted start (breaks a x ∷ ns) r h = inr (noted start ns r h)

there : (start : ℕ) (log : List Note) (at : ℕ) (d : Decl) → Has log (refers (start + at) d) → In (references_in start log) (ref at d)
there start [] at d h = absurd h
there start (n ∷ ns) at d (inl e) = in_left (note_references start n) (references_in start ns) (ref at d) (subst (λ m. In (note_references start m) (ref at d)) (sym e) (noted_reference start at d))
there start (n ∷ ns) at d (inr h) = in_right (note_references start n) (references_in start ns) (ref at d) (there start ns at d h)

-- what is found at a place
inside : {X : Type 0} (x y : X) → Some x ≡ Some y → x ≡ y
inside x y e = cc

at_first : (r : Reference) (rs : List Reference) (at : ℕ) (d : Decl) (b : Bool) → (r.at == at) ≡ b → (decl_in rs at ≡ Some d → In rs (ref at d)) → (if b then Some r.decl else decl_in rs at) ≡ Some d → In (r ∷ rs) (ref at d)
at_first r rs at d true is rest e = inl (λ i. ref (eqb-true r.at at is i) (inside r.decl d e i))
at_first r rs at d false is rest e = inr (rest e)

found_there : (rs : List Reference) (at : ℕ) (d : Decl) → decl_in rs at ≡ Some d → In rs (ref at d)
found_there [] at d e = absurd cc
found_there (r ∷ rs) at d e = at_first r rs at d (r.at == at) refl (found_there rs at d) e

record FoundAt (rs : List Reference) (at : ℕ) : Type 0 where
  decl : Decl
  is : decl_in rs at ≡ Some decl

first_found : (r : Reference) (rs : List Reference) (at : ℕ) (b : Bool) → (r.at == at) ≡ b → FoundAt rs at → FoundAt (r ∷ rs) at
first_found r rs at true is rest = record { decl = r.decl; is = ap (λ b. if b then Some r.decl else decl_in rs at) is }
first_found r rs at false is rest = record { decl = rest.decl; is = ap (λ b. if b then Some r.decl else decl_in rs at) is ∙ rest.is }

some_found : (rs : List Reference) (at : ℕ) (d : Decl) → In rs (ref at d) → FoundAt rs at
some_found [] at d h = absurd h
some_found (r ∷ rs) at d (inl e) = record { decl = r.decl; is = ap (λ b. if b then Some r.decl else decl_in rs at) (eq-eqb r.at at (ap (λ (x : Reference). x.at) e)) }
some_found (r ∷ rs) at d (inr h) = first_found r rs at (r.at == at) refl (some_found rs at d h)

-- the declarations of a log, in which none stands beside another
module _ (start : ℕ) (log : List Note) (rs : List Reference) (permuted : IsPermutation (references_in start log) rs)
    (once : (at : ℕ) (d e : Decl) → Has log (refers at d) → Has log (refers at e) → d ≡ e) where
  declared : (at : ℕ) (d : Decl) → decl_in rs at ≡ Some d → Has log (refers (start + at) d)
  declared at d e = noted start log (ref at d) (in_permuted rs (references_in start log) (ref at d) (IsPermutation-sym (references_in start log) rs permuted) (found_there rs at d e))

  found : (at : ℕ) (d : Decl) → Has log (refers (start + at) d) → decl_in rs at ≡ Some d
  found at d h =
      let f = some_found rs at d (in_permuted (references_in start log) rs (ref at d) permuted (there start log at d h)) in
      f.is ∙ ap Some (once (start + at) f.decl d (declared at f.decl f.is) h)

module _ {A : Type 0} (begins : A → ℕ → ℕ) (rows : List Row) (super_at : ℕ) (k : MemberKey) (base : ℕ) (part : Part A) (log : List Note)
    (adds : Adds [] (part_notes begins rows super_at k base part) log) (are : PartIsNoted begins rows super_at k base part) (once : BindsOnce begins rows super_at k base part) where
  in_log : (n : Note) → Has (part_notes begins rows super_at k base part) n → Has log n
  in_log n h = (adds.each n).1 (inr h)

  of_log : (n : Note) → Has log n → Has (part_notes begins rows super_at k base part) n
  of_log n h = elim ((adds.each n).0 h) [
    | inl z ↦ absurd z
    | inr i ↦ i
  ]

  bound_of : (at : ℕ) (d : Decl) → Has log (refers at d) → Binds begins rows super_at k base part at d
  bound_of at d h = (are.bindings at d).0 (of_log (refers at d) h)

  one_each : (at : ℕ) (d e : Decl) → Has log (refers at d) → Has log (refers at e) → d ≡ e
  one_each at d e h i = once at d e (bound_of at d h) (bound_of at e i)

  pub is_bound : AreErrorsOfLogs → (start : ℕ) → start ≡ begins (part_mark part) base → (slots : List Slot) → ((path : List ℕ) (t : Ty) → (find_type slots path ≡ Some t) ↔ TypeInPart begins rows k part path t)
      → (b : Bound) → IsBoundOfLog k start log slots b → IsBound begins rows super_at k base part b
  is_bound told start at slots typed b of = record {
    member = of.member;
    declarations = λ n d. (
      λ e. subst (λ s. Binds begins rows super_at k base part (s + n) d) at (bound_of (start + n) d (declared start log b.references of.references one_each n d e)),
      λ h. found start log b.references of.references one_each n d
          (in_log (refers (start + n) d) ((are.bindings (start + n) d).1 (subst (λ s. Binds begins rows super_at k base part (s + n) d) (sym at) h))),
    );
    errors =
        let es = told.told start log in
        let same = of.errors in
        subst (λ s. AreErrors (λ (e : Error). Breaks begins rows super_at k base part (s + e.at) e.rule) b.errors) at (record {
          in_order = subst AreInOrder (sym same) es.in_order;
          exact = λ e. (
            λ i. (are.rules (start + e.at) e.rule).0 (of_log (breaks (start + e.at) e.rule) ((es.exact e).0 (subst (λ xs. Among xs e) same i))),
            λ h. subst (λ xs. Among xs e) (sym same) ((es.exact e).1 (in_log (breaks (start + e.at) e.rule) ((are.rules (start + e.at) e.rule).1 h))),
          );
        });
    types = λ path t. subst (λ (s : List Slot). (find_type s path ≡ Some t) ↔ TypeInPart begins rows k part path t) (sym of.types) (typed path t);
  }

-- what a note refers to
pub declared_noted : (at : ℕ) (q : Sought) (f : Found) → one_decl f ≡ note_decl (found_note at q f)
declared_noted at q (one d) = refl
declared_noted at q nothing = refl
declared_noted at q (many d e) = refl
declared_noted at q (not_accessible d) = refl
declared_noted at q (from_static d) = refl

-- the references of a note, by its place and what it refers to
pub references_noted : (start : ℕ) (n : Note) (at : ℕ) (o : Option Decl) → note_place n ≡ at → o ≡ note_decl n → found_references start at o ≡ note_references start n
references_noted start n at o place declares = (λ i. found_references start (sym place i) (declares i)) ∙ of_note n
  where
    of_note : (m : Note) → found_references start (note_place m) (note_decl m) ≡ note_references start m
    of_note (refers a d) = refl
    of_note (breaks a r) = refl
