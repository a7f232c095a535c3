-- The members of a file: what one of them has, whatever is asked of it.
use Rattle.std.proofs.Common.{◌≡◌, ℕ, zero, suc, ◌<◌, List, [], ◌∷◌, length, get_or, refl, sym, ap, subst, ◌∙◌, arith, inl, inr}
use Rattle.std.specs.Prelude.{◌⊎◌, ◌↔◌, Option, Some, None, Contains, slice_get}
use Rattle.jr_text.specs.declared.spans.Span.{Span}
use Rattle.jr_ast.specs.MemberTree as syntax
use Rattle.jr_table.specs.Keys.{ClassKey}
use Rattle.jr_table.specs.Decls.{MemberKey}
use Rattle.jr_table.specs.DeclaredItems.{DeclaredItem, declarations_of}
use Rattle.jr_table.specs.Errors.{Part, InClass, InMembers, InInner, InClasses}
use Rattle.jr_members.specs.WrittenLaws.{IsWritten}
use Rattle.jr_program_laws.specs.FileParts.{begins, InFile}
use Rattle.jr_program_laws.specs.PlaceLaws.{IsPart}
use Rattle.jr_program.specs.Members.{AnyOf, EachOf}

-- ---- lists

pub any_from : {X : Type 0} (P : X → Type 0) (xs : List X) (x : X) → Contains xs x → P x → AnyOf P xs
any_from P [] x (k, lt, is) p = absurd (omega (arith, lt))
any_from P (y ∷ ys) x (zero, lt, is) p = inl (subst P (sym is) p)
any_from P (y ∷ ys) x (suc k, lt, is) p = inr (any_from P ys x (k, omega (arith, lt), is) p)

pub from_any : {X : Type 0} (P : X → Type 0) (xs : List X) → AnyOf P xs → (x : X) × Contains xs x × P x
from_any P [] h = absurd h
from_any P (x ∷ xs) (inl p) = (x, (0, omega arith, refl), p)
from_any P (x ∷ xs) (inr h) =
    let r = from_any P xs h in
    let lt = r.1.1 in
    (r.0, (suc r.1.0, omega (arith, lt), r.1.2), r.2)

pub each_from : {X : Type 0} (P : X → Type 0) (xs : List X) → ((x : X) → Contains xs x → P x) → EachOf P xs
each_from P [] f = tt
each_from P (x ∷ xs) f = (f x (0, omega arith, refl), each_from P xs (λ y c. let lt = c.1 in f y (suc c.0, omega (arith, lt), c.2)))

-- ---- one member, with other properties

module _ (declarations : List DeclaredItem) (P Q : MemberKey → (base : ℕ) → Part Span → Type 0) (k : MemberKey) (f : (b : ℕ) (p : Part Span) → P k b p → Q k b p) where
  mutual
    unfolding InClass InMembers InInner

    in_class : (base : ℕ) (o : Option (List ℕ)) (c : syntax.Class Span) → InClass begins declarations P base o c k → InClass begins declarations Q base o c k
    in_class base o (syntax.class m mods w t ms) (inl h) = inl (h.0, f base _ h.1)
    in_class base o (syntax.class m mods w t ms) (inr h) = inr (in_members (begins m base) _ ms h)

    in_members : (base : ℕ) (of : ClassKey) (ms : syntax.Members Span) → InMembers begins declarations P base of ms k → InMembers begins declarations Q base of ms k
    in_members base of syntax.end h = h
    in_members base of (syntax.more x xs) (inl (inl h)) = inl (inl (h.0, f base _ h.1))
    in_members base of (syntax.more x xs) (inl (inr h)) = inl (inr (in_inner base of x h))
    in_members base of (syntax.more x xs) (inr h) = inr (in_members base of xs h)

    in_inner : (base : ℕ) (of : ClassKey) (x : syntax.Member Span) → InInner begins declarations P base of x k → InInner begins declarations Q base of x k
    in_inner base of (syntax.inner m c) h = in_class (begins m base) (Some of.name) c h
    in_inner base of (syntax.field m mods t w init) h = h
    in_inner base of (syntax.method m mods t w ps body) h = h
    in_inner base of (syntax.constructor m mods w ps args body) h = h

  pub in_classes : (base : ℕ) (cs : List (syntax.Class Span)) → InClasses begins declarations P base cs k → InClasses begins declarations Q base cs k
  in_classes base [] h = h
  in_classes base (c ∷ cs) (inl h) = inl (in_class base None c h)
  in_classes base (c ∷ cs) (inr h) = inr (in_classes base cs h)

-- and the part itself
module _ (declarations : List DeclaredItem) (P : MemberKey → (base : ℕ) → Part Span → Type 0) (k : MemberKey) where
  abbrev The : (base : ℕ) → Part Span → MemberKey → (base : ℕ) → Part Span → Type 0
  The b p j c q = (c ≡ b) × (q ≡ p)

  abbrev Found : (((MemberKey → (base : ℕ) → Part Span → Type 0) → Type 0)) → Type 0
  Found In = (b : ℕ) × (p : Part Span) × P k b p × In (The b p)

  mutual
    unfolding InClass InMembers InInner

    some_class : (base : ℕ) (o : Option (List ℕ)) (c : syntax.Class Span) → InClass begins declarations P base o c k → Found (λ R. InClass begins declarations R base o c k)
    some_class base o (syntax.class m mods w t ms) (inl h) = (base, _, h.1, inl (h.0, (refl, refl)))
    some_class base o (syntax.class m mods w t ms) (inr h) = let r = some_members (begins m base) _ ms h in (r.0, r.1, r.2, inr r.3)

    some_members : (base : ℕ) (of : ClassKey) (ms : syntax.Members Span) → InMembers begins declarations P base of ms k → Found (λ R. InMembers begins declarations R base of ms k)
    some_members base of syntax.end h = absurd h
    some_members base of (syntax.more x xs) (inl (inl h)) = (base, _, h.1, inl (inl (h.0, (refl, refl))))
    some_members base of (syntax.more x xs) (inl (inr h)) = let r = some_inner base of x h in (r.0, r.1, r.2, inl (inr r.3))
    some_members base of (syntax.more x xs) (inr h) = let r = some_members base of xs h in (r.0, r.1, r.2, inr r.3)

    some_inner : (base : ℕ) (of : ClassKey) (x : syntax.Member Span) → InInner begins declarations P base of x k → Found (λ R. InInner begins declarations R base of x k)
    some_inner base of (syntax.inner m c) h = some_class (begins m base) (Some of.name) c h
    some_inner base of (syntax.field m mods t w init) h = absurd h
    some_inner base of (syntax.method m mods t w ps body) h = absurd h
    some_inner base of (syntax.constructor m mods w ps args body) h = absurd h

  pub some_classes : (base : ℕ) (cs : List (syntax.Class Span)) → InClasses begins declarations P base cs k → Found (λ R. InClasses begins declarations R base cs k)
  some_classes base [] h = absurd h
  some_classes base (c ∷ cs) (inl h) = let r = some_class base None c h in (r.0, r.1, r.2, inl r.3)
  some_classes base (c ∷ cs) (inr h) = let r = some_classes base cs h in (r.0, r.1, r.2, inr r.3)

-- ---- written members

module _ (units : List (syntax.Unit Span)) (file : ℕ) where
  pub in_file : (P : MemberKey → (base : ℕ) → Part Span → Type 0) (k : MemberKey) (base : ℕ) (part : Part Span) → IsWritten begins units file k base part → P k base part → InFile units file P
  in_file P k base part w p = record {
    unit = w.unit;
    stands = w.stands;
    member = k;
    has = in_classes (declarations_of begins units) (λ j b q. (b ≡ base) × (q ≡ part)) P k (λ b q e. subst (λ x. P k x q) (sym e.0) (subst (P k base) (sym e.1) p)) (begins w.unit.mark 0) w.unit.classes w.writes;
  }

  pub is_part : (k : MemberKey) (base : ℕ) (part : Part Span) → IsWritten begins units file k base part → IsPart units file k base part
  is_part k base part w = in_file (λ l b p. (l ≡ k) × (b ≡ base) × (p ≡ part)) k base part w (refl, refl, refl)

  pub written_in : (P : MemberKey → (base : ℕ) → Part Span → Type 0) (h : InFile units file P) → (base : ℕ) × (part : Part Span) × P h.member base part × IsWritten begins units file h.member base part
  written_in P h =
      let r = some_classes (declarations_of begins units) P h.member (begins h.unit.mark 0) h.unit.classes h.has in
      (r.0, r.1, r.2, record { unit = h.unit; stands = h.stands; writes = r.3 })
