-- A walk over the methods of one class finds what a walk over all declarations does.
use Rattle.std.proofs.Common.{◌≡◌, ◌<◌, ◌+◌, ℕ, zero, suc, List, [], ◌∷◌, map, length, Option, Some, None, Bool, true, false, refl, sym, ap, subst, ◌∙◌, arith}
use Rattle.std.specs.Prelude.{◌||◌, slice_get, unwrap_or, option_map}
use Rattle.std.specs.List.{list_any}
use Rattle.std.proofs.lemmas.Option.{slice_get_within}
use Rattle.jr_index.specs.declared.linked.Linked.{Linked}
use Rattle.jr_index.specs.Linked.{is_at, IsFirstFrom, AreOwned, AreLinkedFrom, first_of}
use Rattle.jr_table.specs.declared.decls.Decl as raw
use Rattle.jr_table.specs.ClassIndex.{class_owner}
use Rattle.jr_table.specs.Keys.{MethodKey}
use Rattle.jr_table.specs.Decls.{Decl, class_decl, field_decl, method_decl, constructor_decl, local_decl}
use Rattle.jr_table.specs.KeyView.{decl_of}
use Rattle.jr_table.specs.SameDecls.{same_decl, decl_decides}
use Rattle.jr_table.proofs.ClassLaws.{is_place}
use Rattle.jr_table.proofs.FirstLaws.{first_none}
use Rattle.jr_table.proofs.Walking.{as_long, from_map, from_start, owned_map}
use Rattle.jr_table.proofs.MemberWalk.{Walked, walk_ends}
use Rattle.jr_images.specs.declared.method_index.MethodIndex.{MethodIndex}
use Rattle.jr_images.specs.MethodIndex.{outer_at, outer_place, method_place, FindsMethods}
use Rattle.jr_images.specs.DeclSets.{is_no_method}
use Rattle.jr_images.proofs.Imaging.{any_map, unless}

-- ---- one of several passes, or none does

either_or : (a b : Bool) → a ≡ false → b ≡ false → (a || b) ≡ false
either_or a b f g = ap (λ c. c || b) f ∙ g

or_true : (b : Bool) → (b || true) ≡ true
or_true false = refl
or_true true = refl

pub any_here : {X : Type 0} (test : X → Bool) (xs : List X) (j : ℕ) (x : X) → slice_get xs j ≡ Some x → test x ≡ true → list_any test xs ≡ true
any_here test [] j x at h = absurd cc
any_here test (y ∷ ys) zero x at h = let same : y ≡ x = cc in ap (λ b. b || list_any test ys) (ap test same ∙ h)
any_here test (y ∷ ys) (suc j) x at h = ap (λ b. test y || b) (any_here test ys j x at h) ∙ or_true (test y)

pub any_nowhere : {X : Type 0} (test : X → Bool) (xs : List X) → ((j : ℕ) (x : X) → slice_get xs j ≡ Some x → test x ≡ false) → list_any test xs ≡ false
any_nowhere test [] none = refl
any_nowhere test (x ∷ xs) none = either_or (test x) (list_any test xs) (none 0 x refl) (any_nowhere test xs (λ j y at. none (suc j) y at))

-- what none passes none does that passes less
pub any_less : {X : Type 0} (less more : X → Bool) → ((x : X) → less x ≡ true → more x ≡ true) → (xs : List X) → list_any more xs ≡ false → list_any less xs ≡ false
any_less less more implied [] none = refl
any_less less more implied (x ∷ xs) none = either_or (less x) (list_any less xs) (by (less x) refl (more x) refl) (any_less less more implied xs (rest (more x) none))
  where
    rest : (b : Bool) → (b || list_any more xs) ≡ false → list_any more xs ≡ false
    rest false h = h
    rest true h = absurd cc

    by : (a : Bool) → less x ≡ a → (b : Bool) → more x ≡ b → less x ≡ false
    by false e b f = e
    by true e true f = absurd (let h = sym (ap (λ c. c || list_any more xs) f) ∙ none in cc)
    by true e false f = absurd (let h = implied x e in cc)

-- ---- where methods are found

abbrev pub outer_of : raw.Decl → Option ℕ × List ℕ
outer_of d = outer_place (decl_of d)

abbrev pub place_in : (outers : Linked) (top : ℕ) → raw.Decl → Option ℕ × List ℕ
place_in outers top d = method_place (first_of outers 0) top (decl_of d)

abbrev pub is_key : MethodKey → raw.Decl → Bool
is_key k d = same_decl (method_decl k) (decl_of d)

-- by a class's number and its name
abbrev pub is_named : MethodIndex → ℕ → List ℕ → raw.Decl → Bool
is_named x c q d = is_at c q (place_in x.outers x.top d)

outer_owned : (d : Decl) (c : ℕ) → (outer_place d).0 ≡ Some c → c < 1
outer_owned (method_decl m) c h = by m.class.outer h
  where
    by : (o : Option (List ℕ)) → (outer_at o).0 ≡ Some c → c < 1
    by None h = absurd cc
    by (Some q) h = let e : 0 ≡ c = cc in omega (arith, e)
outer_owned (class_decl k) c h = absurd cc
outer_owned (field_decl k) c h = absurd cc
outer_owned (constructor_decl k) c h = absurd cc
outer_owned (local_decl k) c h = absurd cc

pub outers_owned : (ds : List raw.Decl) → AreOwned (map outer_of ds) 1
outers_owned ds = owned_map outer_of 1 ds (λ d c h. outer_owned (decl_of d) c h)

module _ (ds : List raw.Decl) (outers : Linked) (linked : AreLinkedFrom (map outer_of ds) 1 0 outers) where
  outer_within : (q : List ℕ) (c : ℕ) → first_of outers 0 q ≡ Some c → c < length ds
  outer_within q c h =
      let first = subst (IsFirstFrom (is_at 0 q) (map outer_of ds) 0) h (linked.firsts 0 q) in
      subst (λ n. c < n) (as_long outer_of ds) (slice_get_within (map outer_of ds) c first.1.element first.1.stands)

  method_owned : (top : ℕ) → top ≡ length ds → (d : Decl) (c : ℕ) → (method_place (first_of outers 0) top d).0 ≡ Some c → c < length ds + 1
  method_owned top is (method_decl m) c h = by m.class.outer h
    where
      by : (o : Option (List ℕ)) → class_owner (first_of outers 0) top o ≡ Some c → c < length ds + 1
      by None h = let e : top ≡ c = cc in omega (arith, e, is)
      by (Some q) h = let lt = outer_within q c h in omega (arith, lt)
  method_owned top is (class_decl k) c h = absurd cc
  method_owned top is (field_decl k) c h = absurd cc
  method_owned top is (constructor_decl k) c h = absurd cc
  method_owned top is (local_decl k) c h = absurd cc

  pub methods_owned : (top : ℕ) → top ≡ length ds → AreOwned (map (place_in outers top) ds) (length ds + 1)
  methods_owned top is = owned_map (place_in outers top) (length ds + 1) ds (λ d c h. method_owned top is (decl_of d) c h)

module _ (ds : List raw.Decl) (x : MethodIndex) (k : MethodKey) where
  key_is : (d : raw.Decl) → is_key k d ≡ true → decl_of d ≡ method_decl k
  key_is d h = sym ((decl_decides (method_decl k) (decl_of d)).0 h)

  -- what is found under a class that has no number
  pub no_owner : FindsMethods ds x → class_owner (first_of x.outers 0) x.top k.class.outer ≡ None → list_any (is_key k) ds ≡ false
  no_owner finds none = by k.class.outer refl
    where
      by : (o : Option (List ℕ)) → k.class.outer ≡ o → list_any (is_key k) ds ≡ false
      by None e = absurd (let h = sym (ap (class_owner (first_of x.outers 0) x.top) e) ∙ none in cc)
      by (Some q) e =
          let missing : first_of x.outers 0 q ≡ None = sym (ap (class_owner (first_of x.outers 0) x.top) e) ∙ none in
          let first = from_map outer_of ds (is_at 0 q) 0 (first_of x.outers 0 q) (finds.outers.firsts 0 q) in
          let past = from_start (λ (d : raw.Decl). is_at 0 q (outer_of d)) ds None (subst (IsFirstFrom (λ (d : raw.Decl). is_at 0 q (outer_of d)) ds 0) missing first) in
          any_nowhere (is_key k) ds (λ j d at. unless (is_key k d) (is_at 0 q (outer_of d))
          (λ h. ap (λ c. is_at 0 q (outer_place c)) (key_is d h) ∙ ap (λ o. is_at 0 q (outer_at o)) e ∙ is_place 0 q (Some 0) refl)
          (first_none (λ (d : raw.Decl). is_at 0 q (outer_of d)) ds past j d at))

  module _ (c : ℕ) (owner : class_owner (first_of x.outers 0) x.top k.class.outer ≡ Some c) where
    pub placed : (d : raw.Decl) → is_key k d ≡ true → is_named x c k.class.name d ≡ true
    placed d h =
        ap (λ e. is_at c k.class.name (method_place (first_of x.outers 0) x.top e)) (key_is d h)
        ∙ is_place c k.class.name (class_owner (first_of x.outers 0) x.top k.class.outer) owner

    pub not_found : Walked (is_named x c k.class.name) (is_key k) ds None → list_any (is_key k) ds ≡ false
    not_found w = any_nowhere (is_key k) ds (first_none (is_key k) ds (walk_ends (is_named x c k.class.name) (is_key k) ds placed w))

  -- the test at a number
  pub tested : (j : ℕ) (d : raw.Decl) (b : Bool) → slice_get ds j ≡ Some d → b ≡ unwrap_or (option_map (is_key k) (slice_get ds j)) false → is_key k d ≡ b
  tested j d b at is = sym (is ∙ ap (λ o. unwrap_or (option_map (is_key k) o) false) at)

-- ---- what is no method is not among methods

pub none_such : (ds : List raw.Decl) (e : Decl) → is_no_method e ≡ true → list_any (λ (d : raw.Decl). is_no_method (decl_of d)) ds ≡ false → list_any (λ (d : raw.Decl). same_decl e (decl_of d)) ds ≡ false
none_such ds e other = any_less (λ (d : raw.Decl). same_decl e (decl_of d)) (λ (d : raw.Decl). is_no_method (decl_of d))
    (λ d h. ap is_no_method (sym ((decl_decides e (decl_of d)).0 h)) ∙ other) ds

-- a test among these, as one among what they stand for
pub in_all : (test : Decl → Bool) (ds here : List raw.Decl) (all : List Decl) → here ≡ ds → map decl_of ds ≡ all → list_any (λ (d : raw.Decl). test (decl_of d)) here ≡ list_any test all
in_all test ds here all same view = ap (list_any (λ (d : raw.Decl). test (decl_of d))) same ∙ any_map test decl_of ds ∙ ap (list_any test) view
