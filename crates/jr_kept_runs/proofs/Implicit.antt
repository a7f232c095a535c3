-- What an implicit `super()` finds: the constructor without parameters of the superclass; so it is kept.
use Rattle.std.proofs.Common.{◌≡◌, ℕ, zero, suc, List, [], ◌∷◌, Option, Some, None, Bool, true, false, refl, sym, ap, subst, ◌∙◌, inl, inr, map}
use Rattle.std.specs.Prelude.{slice_get, option_map, unwrap_or, length, if◌then◌else◌}
use Rattle.std.proofs.lemmas.Option.{slice_get-map}
use Rattle.jr_table.specs.declared.answers.Answer.TheVariants as number
use Rattle.jr_table.specs.declared.entries.Kind.{Kind}
use Rattle.jr_table.specs.declared.entries.Entry.{Entry}
use Rattle.jr_table.specs.Keys.{ClassKey, CtorKey, Ty}
use Rattle.jr_table.specs.Decls.{Decl, class_decl, constructor_decl}
use Rattle.jr_table.specs.SameDecls.{same_decl, decl_decides}
use Rattle.jr_table.specs.Rows.{Row}
use Rattle.jr_table.specs.Firsts.{first_that}
use Rattle.jr_table.specs.Entries.{IsRowOf, class_of, params_of, number_of, class_number, kind_of, entry_of, entries_of}
use Rattle.jr_table.specs.Conditions.{AreRows, as_declarer, as_superclass}
use Rattle.jr_table.specs.Found.{one}
use Rattle.jr_table.specs.Scope.{Scope}
use Rattle.jr_table.specs.Calls.{Fit, IsCtorCandidate}
use Rattle.jr_table.specs.Lookup.{FindsCtorOf}
use Rattle.jr_table.specs.Context.{Context, scope_of, IsSuperclass}
use Rattle.jr_images.specs.Images.{Renaming, class_to, ctor_to, scope_to, rows_to}
use Rattle.jr_images.proofs.Places.{superclass_image}
use Rattle.jr_code.specs.CodedMembers.{ImplicitFinds}

-- ---- numbers of classes

first_passes : {X : Type 0} (test : X → Bool) (xs : List X) (i : ℕ) → first_that test xs ≡ Some i → (x : X) × (slice_get xs i ≡ Some x) × (test x ≡ true)
first_passes test [] i e = absurd cc
first_passes {X} test (x ∷ xs) i e = by (test x) refl (first_that test xs) refl e (λ j h. first_passes test xs j h)
  where
    by : (b : Bool) → test x ≡ b → (o : Option ℕ) → first_that test xs ≡ o → (if b then Some 0 else option_map suc (first_that test xs)) ≡ Some i
        → ((j : ℕ) → first_that test xs ≡ Some j → (y : X) × (slice_get xs j ≡ Some y) × (test y ≡ true)) → (y : X) × (slice_get (x ∷ xs) i ≡ Some y) × (test y ≡ true)
    by true is o found h later = let zero_is : 0 ≡ i = cc in subst (λ (n : ℕ). (y : X) × (slice_get (x ∷ xs) n ≡ Some y) × (test y ≡ true)) zero_is (x, refl, is)
    by false is None found h later = absurd (let p : option_map suc None ≡ Some i = ap (option_map suc) (sym found) ∙ h in cc)
    by false is (Some j) found h later =
        let p : Some (suc j) ≡ Some i = ap (option_map suc) (sym found) ∙ h in
        let same : suc j ≡ i = cc in
        subst (λ (n : ℕ). (y : X) × (slice_get (x ∷ xs) n ≡ Some y) × (test y ≡ true)) same (later j found)

first_missing : {X : Type 0} (test : X → Bool) (xs : List X) → first_that test xs ≡ None → (j : ℕ) (x : X) → slice_get xs j ≡ Some x → test x ≡ true → ⊥
first_missing test [] e j x stands passes = absurd cc
first_missing {X} test (y ∷ ys) e j x stands passes = by (test y) refl (first_that test ys) refl e j stands (λ h k s. first_missing test ys h k x s passes)
  where
    by : (b : Bool) → test y ≡ b → (o : Option ℕ) → first_that test ys ≡ o → (if b then Some 0 else option_map suc (first_that test ys)) ≡ None → (j : ℕ) → slice_get (y ∷ ys) j ≡ Some x
        → (first_that test ys ≡ None → (k : ℕ) → slice_get ys k ≡ Some x → ⊥) → ⊥
    by true is o found h j stands later = absurd cc
    by false is (Some i) found h j stands later = absurd (let p : option_map suc (Some i) ≡ None = ap (option_map suc) (sym found) ∙ h in cc)
    by false is None found h zero stands later = let same : y ≡ x = cc in let p : true ≡ false = sym passes ∙ ap test (sym same) ∙ is in cc
    by false is None found h (suc k) stands later = later found k stands

number_is : (rows : List Row) → AreRows rows → (k : ClassKey) (j : ℕ) → IsRowOf rows (class_decl k) j → class_number rows k ≡ j
unfolding number_of
number_is rows are k j i = by (first_that (λ (r : Row). same_decl r.decl (class_decl k)) rows) refl
  where
    by : (o : Option ℕ) → first_that (λ (r : Row). same_decl r.decl (class_decl k)) rows ≡ o → unwrap_or (first_that (λ (r : Row). same_decl r.decl (class_decl k)) rows) (length rows) ≡ j
    by None e = absurd (first_missing (λ (r : Row). same_decl r.decl (class_decl k)) rows e j i.row i.stands ((decl_decides i.row.decl (class_decl k)).1 i.declares))
    by (Some n) e =
        let f = first_passes (λ (r : Row). same_decl r.decl (class_decl k)) rows n e in
        ap (λ (o : Option ℕ). unwrap_or o (length rows)) e ∙ are.one_each (class_decl k) n j (record { row = f.0; stands = f.1; declares = (decl_decides f.0.decl (class_decl k)).0 f.2 }) i

one_number : (rows : List Row) → AreRows rows → (j k : ClassKey) (m n : ℕ) → IsRowOf rows (class_decl j) m → IsRowOf rows (class_decl k) n → class_number rows j ≡ class_number rows k → j ≡ k
one_number rows are j k m n x y e =
    let same : m ≡ n = sym (number_is rows are j m x) ∙ e ∙ number_is rows are k n y in
    let rows_same : Some x.row ≡ Some y.row = sym x.stands ∙ ap (slice_get rows) same ∙ y.stands in
    let row : x.row ≡ y.row = cc in
    let decls : class_decl j ≡ class_decl k = sym x.declares ∙ ap (λ (z : Row). z.decl) row ∙ y.declares in cc

-- ---- a constructor without parameters

no_kinds : (rows : List Row) (ts : List Ty) → map (kind_of rows) ts ≡ [] → ts ≡ []
no_kinds rows [] e = refl
no_kinds rows (t ∷ ts) e = absurd cc

no_params : (rows : List Entry) (ts : List Kind) → Fit rows [] ts → ts ≡ []
no_params rows [] h = refl
no_params rows (t ∷ ts) h = absurd h

at_row : (rows : List Row) (j : ℕ) (r : Row) → slice_get rows j ≡ Some r → slice_get (entries_of rows) j ≡ Some (entry_of rows r)
unfolding entries_of
at_row rows j r e = slice_get-map (entry_of rows) rows j ∙ ap (option_map (entry_of rows)) e

module _ (rows : List Row) (are : AreRows rows) where
  -- candidate j of class number n, which declares q
  candidate_is : (p : ClassKey) (n : ℕ) → IsRowOf rows (class_decl p) n → (q : CtorKey) (j : ℕ) → IsRowOf rows (constructor_decl q) j → IsCtorCandidate (entries_of rows) (class_number rows p) [] j → q ≡ record { class = p; params = [] }
  candidate_is p n place q j i c =
      let here = at_row rows j i.row i.stands in
      let both : Some c.own.row ≡ Some (entry_of rows i.row) = sym c.own.stands ∙ here in
      let entry : c.own.row ≡ entry_of rows i.row = cc in
      let takes : (entry_of rows i.row).params ≡ [] = sym (ap (λ (z : Entry). z.params) entry) ∙ c.own.takes ∙ no_params (entries_of rows) c.params c.fit in
      let kinds : map (kind_of rows) q.params ≡ [] = sym (ap (λ (z : Decl). map (kind_of rows) (params_of z)) i.declares) ∙ takes in
      let params = no_kinds rows q.params kinds in
      let of : class_number rows q.class ≡ class_number rows p = sym (ap (λ (z : Decl). class_number rows (class_of z)) i.declares) ∙ sym (ap (λ (z : Entry). z.class) entry) ∙ c.own.class in
      let row = are.named j i.row q.class i.stands (as_declarer (ap class_of i.declares)) in
      let same = one_number rows are q.class p row.0 n row.1 place of in
      λ l. record { class = same l; params = params l }

  alone : (s : Scope) (p : ClassKey) (n : ℕ) → IsRowOf rows (class_decl p) n → (q : CtorKey) → FindsCtorOf rows s p [] (one (constructor_decl q)) → q ≡ record { class = p; params = [] }
  alone s p n place q (number.One j, chosen, shows) = candidate_is p n place q j shows chosen.best.own.0
  alone s p n place q (number.Nothing, chosen, shows) = absurd shows
  alone s p n place q (number.Many j k, chosen, shows) = absurd shows
  alone s p n place q (number.NotAccessible j, chosen, shows) = absurd shows
  alone s p n place q (number.FromStatic j, chosen, shows) = absurd shows

  parent_row : (k p : ClassKey) → IsSuperclass rows k p → (n : ℕ) × IsRowOf rows (class_decl p) n
  parent_row k p (j, i, is) = are.named j i.row p i.stands (as_superclass is)

  parent_once : (k p q : ClassKey) → IsSuperclass rows k p → IsSuperclass rows k q → p ≡ q
  parent_once k p q (i, x, is) (j, y, was) =
      let same = are.one_each (class_decl k) i j x y in
      let rows_same : Some x.row ≡ Some y.row = sym x.stands ∙ ap (slice_get rows) same ∙ y.stands in
      let row : x.row ≡ y.row = cc in
      let parents : Some p ≡ Some q = sym is ∙ ap (λ (z : Row). z.parent) row ∙ was in cc

pub implicit : (rows : List Row) (g : Renaming) → AreRows rows → AreRows (rows_to g rows) → (c d : Context) → scope_of d ≡ scope_to g c → (q n : CtorKey) → ImplicitFinds rows c q → ImplicitFinds (rows_to g rows) d n → n ≡ ctor_to g q
implicit rows g are new c d stand q n (inl (p, over, finds)) (inl (k, above, found)) =
    let place = parent_row rows are (scope_of c).class p over in
    let there = parent_row (rows_to g rows) new (scope_of d).class k above in
    let old_is = alone rows are (scope_of c) p place.0 place.1 q finds in
    let new_is = alone (rows_to g rows) new (scope_of d) k there.0 there.1 n found in
    let image = subst (λ (s : Scope). IsSuperclass (rows_to g rows) s.class (class_to g p)) (sym stand) (superclass_image g rows (scope_of c).class p over) in
    let same : k ≡ class_to g p = parent_once (rows_to g rows) new (scope_of d).class k (class_to g p) above image in
    new_is ∙ (λ i. record { class = same i; params = [] }) ∙ sym (ap (ctor_to g) old_is)
implicit rows g are new c d stand q n (inr (not, is)) b = absurd cc
implicit rows g are new c d stand q n a (inr (not, is)) = absurd cc
