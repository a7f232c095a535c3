-- The parts of one file among those of a program.
use Rattle.std.proofs.Common.{◌≡◌, ℕ, zero, suc, ◌+◌, ◌<◌, ◌≤◌, List, [], ◌∷◌, ◌++◌, Bool, true, false, refl, sym, ap, subst, ◌∙◌, arith, eq-eqb, ne_eqb}
use Rattle.std.specs.Prelude.{◌==◌, filter, slice_get, Option, Some, None}
use Rattle.std.proofs.lemmas.Bool.{cond-true, cond-false}
use Rattle.std.proofs.lemmas.List.{append-nil}
use Rattle.std.proofs.lemmas.List.Elements.{filter-append}
use Rattle.jr_ast.specs.MemberTree as syntax
use Rattle.jr_members.specs.Parts.{Placed, placed, class_parts, members_parts, member_parts, classes_parts, parts_from, units_parts}
use Rattle.jr_program.specs.Members.{EachOf}

each_join : {X : Type 0} (P : X → Type 0) (xs ys : List X) → EachOf P xs → EachOf P ys → EachOf P (xs ++ ys)
each_join P [] ys h k = k
each_join P (x ∷ xs) ys h k = (h.0, each_join P xs ys h.1 k)

each_as : {X : Type 0} (P Q : X → Type 0) → ((x : X) → P x → Q x) → (xs : List X) → EachOf P xs → EachOf Q xs
each_as P Q f [] h = tt
each_as P Q f (x ∷ xs) h = (f x h.0, each_as P Q f xs h.1)

module _ {X : Type 0} (test : X → Bool) where
  pub all_pass : (xs : List X) → EachOf (λ x. test x ≡ true) xs → filter test xs ≡ xs
  all_pass [] h = refl
  all_pass (x ∷ xs) h = cond-true (test x) (x ∷ filter test xs) (filter test xs) h.0 ∙ ap (λ ys. x ∷ ys) (all_pass xs h.1)

  pub none_passes : (xs : List X) → EachOf (λ x. test x ≡ false) xs → filter test xs ≡ []
  none_passes [] h = refl
  none_passes (x ∷ xs) h = cond-false (test x) (x ∷ filter test xs) (filter test xs) h.0 ∙ none_passes xs h.1

module _ {A : Type 0} (begins : A → ℕ → ℕ) where
  abbrev IsOf : ℕ → Placed A → Type 0
  IsOf file p = p.file ≡ file

  module _ (file : ℕ) where
    mutual
      unfolding class_parts members_parts member_parts

      class_is_of : (base : ℕ) (c : syntax.Class A) → EachOf (IsOf file) (class_parts begins file base c)
      class_is_of base (syntax.class m mods w t ms) = (refl, members_are_of (begins m base) ms)

      members_are_of : (base : ℕ) (ms : syntax.Members A) → EachOf (IsOf file) (members_parts begins file base ms)
      members_are_of base syntax.end = tt
      members_are_of base (syntax.more x xs) = each_join (IsOf file) (member_parts begins file base x) (members_parts begins file base xs) (member_is_of base x) (members_are_of base xs)

      member_is_of : (base : ℕ) (x : syntax.Member A) → EachOf (IsOf file) (member_parts begins file base x)
      member_is_of base (syntax.field m mods t w init) = (refl, tt)
      member_is_of base (syntax.method m mods t w ps body) = (refl, tt)
      member_is_of base (syntax.constructor m mods w ps args body) = (refl, tt)
      member_is_of base (syntax.inner m c) = class_is_of (begins m base) c

    classes_are_of : (base : ℕ) (cs : List (syntax.Class A)) → EachOf (IsOf file) (classes_parts begins file base cs)
    classes_are_of base [] = tt
    classes_are_of base (c ∷ cs) = each_join (IsOf file) (class_parts begins file base c) (classes_parts begins file base cs) (class_is_of base c) (classes_are_of base cs)

  -- the parts of a file from a number on are of no file before it
  parts_behind : (n : ℕ) (us : List (syntax.Unit A)) → EachOf (λ (p : Placed A). n ≤ p.file) (parts_from begins n us)
  parts_behind n [] = tt
  parts_behind n (u ∷ us) = each_join (λ (p : Placed A). n ≤ p.file) (classes_parts begins n (begins u.mark 0) u.classes) (parts_from begins (suc n) us)
      (each_as (IsOf n) (λ (p : Placed A). n ≤ p.file) (λ p e. omega (arith, e)) _ (classes_are_of n (begins u.mark 0) u.classes))
      (each_as (λ (p : Placed A). suc n ≤ p.file) (λ (p : Placed A). n ≤ p.file) (λ p le. omega (arith, le)) _ (parts_behind (suc n) us))

  -- ---- those of a file

  module _ (file : ℕ) where
    abbrev pub OfFile : Placed A → Bool
    OfFile p = p.file == file

    abbrev pub unit_parts : Option (syntax.Unit A) → List (Placed A)
    unit_parts None = []
    unit_parts (Some u) = classes_parts begins file (begins u.mark 0) u.classes

    own_parts : (u : syntax.Unit A) → filter OfFile (classes_parts begins file (begins u.mark 0) u.classes) ≡ classes_parts begins file (begins u.mark 0) u.classes
    own_parts u = all_pass OfFile _ (each_as (IsOf file) (λ (p : Placed A). OfFile p ≡ true) (λ p e. eq-eqb p.file file e) _ (classes_are_of file (begins u.mark 0) u.classes))

    other_parts : (n : ℕ) → n < file → (u : syntax.Unit A) → filter OfFile (classes_parts begins n (begins u.mark 0) u.classes) ≡ []
    other_parts n lt u = none_passes OfFile _ (each_as (IsOf n) (λ (p : Placed A). OfFile p ≡ false) (λ p e. ne_eqb p.file file (λ s. omega (arith, lt, e, s))) _ (classes_are_of n (begins u.mark 0) u.classes))

    later_parts : (us : List (syntax.Unit A)) → filter OfFile (parts_from begins (suc file) us) ≡ []
    later_parts us = none_passes OfFile _ (each_as (λ (p : Placed A). suc file ≤ p.file) (λ (p : Placed A). OfFile p ≡ false) (λ p le. ne_eqb p.file file (λ s. omega (arith, le, s))) _ (parts_behind (suc file) us))

    parts_of : (us : List (syntax.Unit A)) (n k : ℕ) → file ≡ n + k → filter OfFile (parts_from begins n us) ≡ unit_parts (slice_get us k)
    parts_of [] n k e = refl
    parts_of (u ∷ us) n zero e =
        let same : n ≡ file = omega (arith, e) in
        filter-append OfFile (classes_parts begins n (begins u.mark 0) u.classes) (parts_from begins (suc n) us)
        ∙ subst (λ m. filter OfFile (classes_parts begins m (begins u.mark 0) u.classes) ++ filter OfFile (parts_from begins (suc m) us) ≡ classes_parts begins file (begins u.mark 0) u.classes) (sym same)
        ((λ i. own_parts u i ++ later_parts us i) ∙ append-nil _)
    parts_of (u ∷ us) n (suc k) e =
        filter-append OfFile (classes_parts begins n (begins u.mark 0) u.classes) (parts_from begins (suc n) us)
        ∙ ap (λ ps. ps ++ filter OfFile (parts_from begins (suc n) us)) (other_parts n (omega (arith, e)) u)
        ∙ parts_of us (suc n) k (omega (arith, e))

    pub file_parts : (us : List (syntax.Unit A)) → filter OfFile (units_parts begins us) ≡ unit_parts (slice_get us file)
    unfolding units_parts
    file_parts us = parts_of us 0 file (omega arith)
