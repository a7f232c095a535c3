-- The first row with which a new name collides is what is to be told.
use Rattle.std.proofs.Common.{◌≡◌, ℕ, suc, ◌≤◌, List, Option, Some, None, Bool, true, false, not, Bor, true≢false, refl, sym, ap, subst, ◌∙◌, inl, inr, arith}
use Rattle.std.specs.Prelude.{◌⊎◌, ◌↔◌, ◌&&◌, codes, is_some, option_map, IfSome, IsTrue}
use Rattle.jr_ast.specs.MemberTree as syntax
use Rattle.jr_table.specs.Keys.{ClassKey}
use Rattle.jr_table.specs.Decls.{LocalKey, Decl, class_decl, field_decl, method_decl, constructor_decl, local_decl}
use Rattle.jr_table.specs.Rows.{Row}
use Rattle.jr_table.specs.Entries.{IsRowOf, name_of, number_of}
use Rattle.jr_table.specs.KeyView.{decl_of}
use Rattle.jr_table.specs.SameKeys.{same_name}
use Rattle.jr_table.specs.declared.decls.Decl as raw
use Rattle.jr_table.proofs.RowLaws.{number_stands, number_none}
use Rattle.jr_table.specs.Prelude.{top_key}
use Rattle.jr_images.specs.Families.{AreRenamed}
use Rattle.jr_rename.specs.RowClashes.{OneTakesPlace, IsFirstRow, NoRowHas}
use Rattle.jr_images.specs.Clashes.{TakesPlace, ClassClashes, HasRow, MemberClashes, IsNamed, Collides, HasPlace}
use Rattle.jr_rename.specs.Answered.{Tells}
use Rattle.jr_rename.specs.RowAnswers.{IsFirstOf, IsReservedHere, TellsClass, IsOfMember}
use Rattle.jr_rename.proofs.Contexts.{both_true, true_both, same_to, to_same}

abbrev IsLocal : Decl → Type 0
IsLocal d = (j : LocalKey) × (d ≡ local_decl j)

-- ---- what collides is no local

takes_no_local : (r : Decl) (new : List ℕ) (d : Decl) → TakesPlace r new d → IsLocal d → ⊥
takes_no_local (field_decl f) new d (inl e) (j, is) = absurd (let t = sym e ∙ is in cc)
takes_no_local (field_decl f) new d (inr e) (j, is) = absurd (let t = sym e.1 ∙ is in cc)
takes_no_local (method_decl f) new d (inl e) (j, is) = absurd (let t = sym e ∙ is in cc)
takes_no_local (method_decl f) new d (inr e) (j, is) = absurd (let t = sym e.1 ∙ is in cc)
takes_no_local (class_decl k) new d h l = h
takes_no_local (constructor_decl k) new d h l = h
takes_no_local (local_decl k) new d h l = h

class_no_local : (k : ClassKey) (new : List ℕ) (d : Decl) → ClassClashes k new d → IsLocal d → ⊥
class_no_local k new (class_decl o) h (j, is) = absurd cc
class_no_local k new (field_decl f) h (j, is) = absurd cc
class_no_local k new (method_decl m) h (j, is) = absurd cc
class_no_local k new (constructor_decl c) h l = h
class_no_local k new (local_decl c) h l = h

reserved_no_local : (d : Decl) (k : ClassKey) → d ≡ class_decl k → IsLocal d → ⊥
reserved_no_local d k e (j, is) = absurd (let t = sym e ∙ is in cc)

module _ {A : Type 0} (begins : A → ℕ → ℕ) (rows : List Row) (units : List (syntax.Unit A)) (new : List ℕ) where
  -- ---- places

  pub place_of : (d : Decl) (i : ℕ) → (IsLocal d → ⊥) → IsRowOf rows d i → HasPlace begins rows units d (suc i)
  place_of (class_decl k) i lacks row = inl (i, row, refl)
  place_of (field_decl k) i lacks row = inl (i, row, refl)
  place_of (method_decl k) i lacks row = inl (i, row, refl)
  place_of (constructor_decl k) i lacks row = inl (i, row, refl)
  place_of (local_decl k) i lacks row = absurd (lacks (k, refl))

  pub row_of : (d : Decl) (n : ℕ) → (IsLocal d → ⊥) → HasRow begins rows units d → HasPlace begins rows units d n → (i : ℕ) × IsRowOf rows d i × (n ≡ suc i)
  row_of (class_decl k) n lacks has h = elim h [ inl r ↦ r | inr r ↦ absurd (r.0 has) ]
  row_of (field_decl k) n lacks has h = elim h [ inl r ↦ r | inr r ↦ absurd (r.0 has) ]
  row_of (method_decl k) n lacks has h = elim h [ inl r ↦ r | inr r ↦ absurd (r.0 has) ]
  row_of (constructor_decl k) n lacks has h = elim h [ inl r ↦ r | inr r ↦ absurd (r.0 has) ]
  row_of (local_decl k) n lacks has h = absurd (lacks (k, refl))

  -- ---- fields and methods

  module _ (target : Decl) (renamed : List Decl) (are : AreRenamed rows target renamed) where
    clashes_takes : (d : Decl) → MemberClashes begins rows units target new d → OneTakesPlace renamed new d
    clashes_takes d h = (h.0, (are h.0).1 h.1, h.2)

    takes_clashes : (d : Decl) → OneTakesPlace renamed new d → MemberClashes begins rows units target new d
    takes_clashes d h = (h.0, (are h.0).0 h.1, h.2)

    no_local : (d : Decl) → OneTakesPlace renamed new d → IsLocal d → ⊥
    no_local d h = takes_no_local h.0 new d h.2

    -- what collides is what has a row, and takes a place
    module _ (to : (d : Decl) → HasRow begins rows units d × MemberClashes begins rows units target new d → Collides begins rows units target new d)
        (from : (d : Decl) → Collides begins rows units target new d → HasRow begins rows units d × MemberClashes begins rows units target new d)
        (named : IsNamed begins rows units target new → ⊥) where
      members_tell : (o : Option Decl) → IsFirstOf rows (OneTakesPlace renamed new) o → Tells begins rows units target new o
      members_tell None h = record { other = named; alone = λ d c. let r = from d c in h d r.0.0 r.0.1 (clashes_takes d r.1) }
      members_tell (Some d) h = inr (
        named,
        record {
          collides = to d ((h.number, h.stands), takes_clashes d h.has);
          place = suc h.number;
          stands = place_of d h.number (no_local d h.has) h.stands;
          first = λ e n c at. (
              let r = from e c in
              let takes = clashes_takes e r.1 in
              let q = row_of e n (no_local e takes) r.0 at in
              let le = h.first e q.0 q.1 takes in
              let is = q.2 in
              omega (arith, le, is)
              );
        },
      )

  pub member_tells : (target : Decl) (renamed : List Decl) → AreRenamed rows target renamed → IsOfMember target → (name_of target ≡ new → ⊥)
      → (o : Option Decl) → IsFirstOf rows (OneTakesPlace renamed new) o → Tells begins rows units target new o
  member_tells (class_decl k) renamed are is lacks o h = absurd is
  member_tells (field_decl k) renamed are is lacks o h = members_tell (field_decl k) renamed are (λ d x. x) (λ d x. x) lacks o h
  member_tells (method_decl k) renamed are is lacks o h = members_tell (method_decl k) renamed are (λ d x. x) (λ d x. x) lacks o h
  member_tells (constructor_decl k) renamed are is lacks o h = members_tell (constructor_decl k) renamed are (λ d x. x) (λ d x. x) lacks o h
  member_tells (local_decl k) renamed are is lacks o h = absurd is

  -- the declaration itself has the name
  itself_told : (target : Decl) → (IsLocal target → ⊥) → name_of target ≡ new → Tells begins rows units target new (Some target)
  itself_told (class_decl k) lacks e = inl (e, refl)
  itself_told (field_decl k) lacks e = inl (e, refl)
  itself_told (method_decl k) lacks e = inl (e, refl)
  itself_told (constructor_decl k) lacks e = inl (e, refl)
  itself_told (local_decl k) lacks e = absurd (lacks (k, refl))

  is_no_local : (d : Decl) → IsOfMember d → IsLocal d → ⊥
  is_no_local (class_decl k) is l = is
  is_no_local (field_decl k) is (j, e) = absurd cc
  is_no_local (method_decl k) is (j, e) = absurd cc
  is_no_local (constructor_decl k) is (j, e) = absurd cc
  is_no_local (local_decl k) is l = is

  pub member_named : (target : Decl) → IsOfMember target → name_of target ≡ new → (o : Option Decl) → o ≡ Some target → Tells begins rows units target new o
  member_named target is e o same = subst (λ (x : Option Decl). Tells begins rows units target new x) (sym same) (itself_told target (is_no_local target is) e)

  pub class_named : (target : Decl) (k : ClassKey) → target ≡ class_decl k → name_of target ≡ new → (o : Option Decl) → o ≡ Some target → Tells begins rows units target new o
  class_named target k is e o same = subst (λ (x : Option Decl). Tells begins rows units target new x) (sym same) (itself_told target (reserved_no_local target k is) e)

  -- ---- classes

  module _ (k : ClassKey) (lacks : k.name ≡ new → ⊥) where
    abbrev Has : Decl → Type 0
    Has d = ClassClashes k new d

    abbrev runnable : ClassKey
    runnable = top_key (codes "Runnable")

    -- where that class has a row, it clashes as every class does
    runnable_clashes : (d : Decl) → d ≡ class_decl runnable → new ≡ codes "Runnable" → Has d
    runnable_clashes d e is = subst Has (sym e) (sym is, λ same. lacks (ap (λ (c : ClassKey). c.name) (sym same) ∙ sym is))

    row_clashes : ((e : Decl) → IsReservedHere rows new e → ⊥) → (d : Decl) → HasRow begins rows units d → Collides begins rows units (class_decl k) new d → Has d
    row_clashes free d has (inl h) = runnable_clashes d h.0 h.1
    row_clashes free d has (inr h) = h.1

    clashes_no_local : (d : Decl) → Collides begins rows units (class_decl k) new d → IsLocal d → ⊥
    clashes_no_local d (inl h) = reserved_no_local d runnable h.0
    clashes_no_local d (inr h) = class_no_local k new d h.1

    -- that class has a row, or none
    placed : (e : Decl) (n : ℕ) → e ≡ class_decl runnable → HasPlace begins rows units e n → HasRow begins rows units e ⊎ (HasRow begins rows units e → ⊥)
    placed (class_decl x) n is (inl r) = inl (r.0, r.1)
    placed (class_decl x) n is (inr r) = inr r.0
    placed (field_decl x) n is at = absurd cc
    placed (method_decl x) n is at = absurd cc
    placed (constructor_decl x) n is at = absurd cc
    placed (local_decl x) n is at = absurd cc

    before : (d : Decl) → d ≡ class_decl runnable → (HasRow begins rows units d → ⊥) → HasPlace begins rows units d 0
    before (class_decl c) e none = inr (none, refl)
    before (field_decl c) e none = absurd cc
    before (method_decl c) e none = absurd cc
    before (constructor_decl c) e none = absurd cc
    before (local_decl c) e none = absurd cc

    pub class_tells : (o : Option Decl) → TellsClass rows k new o → Tells begins rows units (class_decl k) new o
    class_tells None (free, none) = record { other = lacks; alone = alone }
      where
        alone : (d : Decl) → Collides begins rows units (class_decl k) new d → ⊥
        alone d (inl h) = free d (h.0, h.1, λ n row. none d n row (runnable_clashes d h.0 h.1))
        alone d (inr h) = none d h.0.0 h.0.1 h.1
    class_tells (Some d) (inl reserved) = inr (
      lacks,
      record {
        collides = inl (reserved.0, reserved.1);
        place = 0;
        stands = before d reserved.0 (λ r. reserved.2 r.0 r.1);
        first = λ e n c at. omega arith;
      },
    )
    class_tells (Some d) (inr (free, h)) = inr (
      lacks,
      record {
        collides = inr ((h.number, h.stands), h.has);
        place = suc h.number;
        stands = place_of d h.number (class_no_local k new d h.has) h.stands;
        first = first;
      },
    )
      where
        by_row : (e : Decl) (n : ℕ) → Collides begins rows units (class_decl k) new e → HasRow begins rows units e → HasPlace begins rows units e n → suc h.number ≤ n
        by_row e n c has at =
            let q = row_of e n (clashes_no_local e c) has at in
            let le = h.first e q.0 q.1 (row_clashes free e has c) in
            let is = q.2 in
            omega (arith, le, is)

        first : (e : Decl) (n : ℕ) → Collides begins rows units (class_decl k) new e → HasPlace begins rows units e n → suc h.number ≤ n
        first e n (inr c) at = by_row e n (inr c) c.0 at
        first e n (inl c) at = elim (placed e n c.0 at) [ inl has ↦ by_row e n (inl c) has at | inr none ↦ absurd (free e (c.0, c.1, λ i row. none (i, row))) ]

-- ---- as functions tell it

pub first_copied : (rows : List Row) (Has : Decl → Type 0) (o : Option (Bor raw.Decl)) → IfSome o (λ d. IsFirstRow rows Has (decl_of d.now)) → (o ≡ None → NoRowHas rows Has)
    → (p : Option Decl) → p ≡ option_map (λ (d : Bor raw.Decl). decl_of d.now) o → IsFirstOf rows Has p
first_copied rows Has None some none p e = subst (IsFirstOf rows Has) (sym e) (none refl)
first_copied rows Has (Some d) some none p e = subst (IsFirstOf rows Has) (sym e) some

-- whether no row declares the class, by a look at its number
none_is : (o : Option ℕ) (b : Bool) → is_some o ≡ not b → b ≡ true → o ≡ None
none_is None b e is = refl
none_is (Some n) true e is = absurd (true≢false e)
none_is (Some n) false e is = absurd (true≢false (sym is))

is_none : (o : Option ℕ) (b : Bool) → is_some o ≡ not b → ((n : ℕ) → o ≡ Some n → ⊥) → b ≡ true
is_none None true e lacks = refl
is_none None false e lacks = absurd (true≢false (sym e))
is_none (Some n) b e lacks = absurd (lacks n refl)

pub lacks_row : (rows : List Row) (d : Decl) (name own : List ℕ) (a b : Bool) (o : Option ℕ) → a ≡ same_name name own → o ≡ number_of rows d → is_some o ≡ not b
    → IsTrue (a && b) ↔ ((name ≡ own) × ((n : ℕ) → IsRowOf rows d n → ⊥))
lacks_row rows d name own a b o same number some = (to, back)
  where
    to : IsTrue (a && b) → (name ≡ own) × ((n : ℕ) → IsRowOf rows d n → ⊥)
    to h = let r = both_true a b h in (same_to name own (sym same ∙ r.0), number_none rows d (sym number ∙ none_is o b some r.1))

    back : (name ≡ own) × ((n : ℕ) → IsRowOf rows d n → ⊥) → IsTrue (a && b)
    back (e, none) = true_both a b (same ∙ to_same name own e) (is_none o b some (λ n is. none n (number_stands rows d n (sym number ∙ is))))

-- the class of the prelude that has no row isn't meant
pub none_reserved : (rows : List Row) (new : List ℕ) (k : ClassKey) (b : Bool) → k ≡ top_key (codes "Runnable")
    → (IsTrue b ↔ ((new ≡ k.name) × ((n : ℕ) → IsRowOf rows (class_decl k) n → ⊥))) → b ≡ false → (d : Decl) → IsReservedHere rows new d → ⊥
none_reserved rows new k b is tells lacks d (e, named, none) =
    let t = tells.1 (named ∙ ap (λ (c : ClassKey). c.name) (sym is), λ n row. none n (subst (λ (x : Decl). IsRowOf rows x n) (ap class_decl is ∙ sym e) row)) in
    absurd (true≢false (sym t ∙ lacks))

pub behind_reserved : (rows : List Row) (k : ClassKey) (new : List ℕ) → ((d : Decl) → IsReservedHere rows new d → ⊥) → (o : Option Decl) → IsFirstOf rows (ClassClashes k new) o → TellsClass rows k new o
behind_reserved rows k new free None h = (free, h)
behind_reserved rows k new free (Some d) h = inr (free, h)
