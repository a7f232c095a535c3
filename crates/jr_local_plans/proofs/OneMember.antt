-- No byte lies in two members of a file that have bodies: members stand one behind the other.
use Rattle.std.proofs.Common.{◌≡◌, ℕ, ◌<◌, ◌≤◌, List, [], ◌∷◌, Some, None, subst, inl, inr, arith}
use Rattle.std.specs.Prelude.{◌⊎◌, Option}
use Rattle.jr_text.specs.declared.spans.Span.{Span}
use Rattle.jr_ast.specs.MemberTree as syntax
use Rattle.jr_ast.specs.Marks.{class_mark, member_mark}
use Rattle.jr_table.specs.Keys.{ClassKey}
use Rattle.jr_table.specs.Decls.{MemberKey}
use Rattle.jr_table.specs.LookupLaws.{HasOne}
use Rattle.jr_table.specs.DeclaredItems.{DeclaredItem, class_key}
use Rattle.jr_table.specs.Errors.{Part, class_part, member_part, Declares, InClass, InMembers, InInner, InClasses}
use Rattle.jr_program_laws.specs.FileParts.{begins}
use Rattle.jr_program_laws.specs.PlaceLaws.{LiesWithin, ClassInOrder, MemberInOrder, MembersInOrder, ClassesInOrder}

-- a method or a constructor, in whose span the byte lies
abbrev pub HoldsByte : (at : ℕ) → Part Span → Type 0
HoldsByte at (class_part c) = ⊥
HoldsByte at (member_part (syntax.field m mods t w init)) = ⊥
HoldsByte at (member_part (syntax.method m mods t w ps body)) = LiesWithin m at
HoldsByte at (member_part (syntax.constructor m mods w ps args body)) = LiesWithin m at
HoldsByte at (member_part (syntax.inner m c)) = ⊥

module _ (declarations : List DeclaredItem) (at : ℕ) where
  -- it has the byte
  abbrev pub Has : MemberKey → (base : ℕ) → Part Span → Type 0
  Has k base part = HoldsByte at part

  -- a member itself, or one within it
  abbrev Either : (base : ℕ) → ClassKey → syntax.Member Span → MemberKey → Type 0
  Either base of x k = (Declares begins declarations base of x k × HoldsByte at (member_part x)) ⊎ InInner begins declarations Has base of x k

  -- ---- the byte is where it stands

  mutual
    unfolding InClass InMembers InInner

    class_within : (base : ℕ) (outer : Option (List ℕ)) (c : syntax.Class Span) (k : MemberKey) → ClassInOrder c → InClass begins declarations Has base outer c k → LiesWithin (class_mark c) at
    class_within base outer (syntax.class m mods w t ms) k order (inl h) = absurd h.1
    class_within base outer (syntax.class m mods w t ms) k order (inr h) = members_within (begins m base) (class_key begins outer w.text) ms m.from m.to k order h

    members_within : (base : ℕ) (of : ClassKey) (ms : syntax.Members Span) (from to : ℕ) (k : MemberKey) → MembersInOrder from to ms → InMembers begins declarations Has base of ms k → (from ≤ at) × (at < to)
    members_within base of syntax.end from to k order h = absurd h
    members_within base of (syntax.more x xs) from to k order (inl h) =
        let w = either_within base of x k order.1 h in
        let s = order.0 in
        (omega (arith, w.0, s.0), omega (arith, w.1, s.2))
    members_within base of (syntax.more x xs) from to k order (inr h) =
        let w = members_within base of xs (member_mark x).to to k order.2 h in
        let s = order.0 in
        (omega (arith, w.0, s.0, s.1), w.1)

    either_within : (base : ℕ) (of : ClassKey) (x : syntax.Member Span) (k : MemberKey) → MemberInOrder x → Either base of x k → LiesWithin (member_mark x) at
    either_within base of (syntax.field m mods t w init) k order (inl h) = absurd h.1
    either_within base of (syntax.field m mods t w init) k order (inr h) = absurd h
    either_within base of (syntax.method m mods t w ps body) k order (inl h) = h.1
    either_within base of (syntax.method m mods t w ps body) k order (inr h) = absurd h
    either_within base of (syntax.constructor m mods w ps args body) k order (inl h) = h.1
    either_within base of (syntax.constructor m mods w ps args body) k order (inr h) = absurd h
    either_within base of (syntax.inner m c) k order (inl h) = absurd h.1
    either_within base of (syntax.inner m c) k order (inr h) = subst (λ (s : Span). LiesWithin s at) order.0 (class_within (begins m base) (Some of.name) c k order.1 h)

  -- ---- so one has it

  module _ (keys : (base : ℕ) (of : ClassKey) (x : syntax.Member Span) → HasOne (Declares begins declarations base of x)) where
    mutual
      unfolding InClass InMembers InInner

      class_once : (base : ℕ) (outer : Option (List ℕ)) (c : syntax.Class Span) (k j : MemberKey) → ClassInOrder c → InClass begins declarations Has base outer c k → InClass begins declarations Has base outer c j → k ≡ j
      class_once base outer (syntax.class m mods w t ms) k j order (inl h) g = absurd h.1
      class_once base outer (syntax.class m mods w t ms) k j order (inr h) (inl g) = absurd g.1
      class_once base outer (syntax.class m mods w t ms) k j order (inr h) (inr g) = members_once (begins m base) (class_key begins outer w.text) ms m.from m.to k j order h g

      members_once : (base : ℕ) (of : ClassKey) (ms : syntax.Members Span) (from to : ℕ) (k j : MemberKey) → MembersInOrder from to ms → InMembers begins declarations Has base of ms k → InMembers begins declarations Has base of ms j → k ≡ j
      members_once base of syntax.end from to k j order h g = absurd h
      members_once base of (syntax.more x xs) from to k j order (inl h) (inl g) = either_once base of x k j order.1 h g
      members_once base of (syntax.more x xs) from to k j order (inl h) (inr g) =
          let a = either_within base of x k order.1 h in
          let b = members_within base of xs (member_mark x).to to j order.2 g in
          absurd (omega (arith, a.1, b.0))
      members_once base of (syntax.more x xs) from to k j order (inr h) (inl g) =
          let a = either_within base of x j order.1 g in
          let b = members_within base of xs (member_mark x).to to k order.2 h in
          absurd (omega (arith, a.1, b.0))
      members_once base of (syntax.more x xs) from to k j order (inr h) (inr g) = members_once base of xs (member_mark x).to to k j order.2 h g

      either_once : (base : ℕ) (of : ClassKey) (x : syntax.Member Span) (k j : MemberKey) → MemberInOrder x → Either base of x k → Either base of x j → k ≡ j
      either_once base of (syntax.field m mods t w init) k j order (inl h) g = absurd h.1
      either_once base of (syntax.field m mods t w init) k j order (inr h) g = absurd h
      either_once base of (syntax.method m mods t w ps body) k j order (inl h) (inl g) = keys base of (syntax.method m mods t w ps body) k j h.0 g.0
      either_once base of (syntax.method m mods t w ps body) k j order (inl h) (inr g) = absurd g
      either_once base of (syntax.method m mods t w ps body) k j order (inr h) g = absurd h
      either_once base of (syntax.constructor m mods w ps args body) k j order (inl h) (inl g) = keys base of (syntax.constructor m mods w ps args body) k j h.0 g.0
      either_once base of (syntax.constructor m mods w ps args body) k j order (inl h) (inr g) = absurd g
      either_once base of (syntax.constructor m mods w ps args body) k j order (inr h) g = absurd h
      either_once base of (syntax.inner m c) k j order (inl h) g = absurd h.1
      either_once base of (syntax.inner m c) k j order (inr h) (inl g) = absurd g.1
      either_once base of (syntax.inner m c) k j order (inr h) (inr g) = class_once (begins m base) (Some of.name) c k j order.1 h g

    classes_within : (base : ℕ) (cs : List (syntax.Class Span)) (from to : ℕ) (k : MemberKey) → ClassesInOrder from to cs → InClasses begins declarations Has base cs k → from ≤ at
    classes_within base [] from to k order h = absurd h
    classes_within base (c ∷ cs) from to k order (inl h) =
        let w = class_within base None c k order.1 h in
        let s = order.0 in
        omega (arith, w.0, s.0)
    classes_within base (c ∷ cs) from to k order (inr h) =
        let w = classes_within base cs (class_mark c).to to k order.2 h in
        let s = order.0 in
        omega (arith, w, s.0, s.1)

    pub classes_once : (base : ℕ) (cs : List (syntax.Class Span)) (from to : ℕ) (k j : MemberKey) → ClassesInOrder from to cs → InClasses begins declarations Has base cs k → InClasses begins declarations Has base cs j → k ≡ j
    classes_once base [] from to k j order h g = absurd h
    classes_once base (c ∷ cs) from to k j order (inl h) (inl g) = class_once base None c k j order.1 h g
    classes_once base (c ∷ cs) from to k j order (inl h) (inr g) =
        let a = class_within base None c k order.1 h in
        let b = classes_within base cs (class_mark c).to to j order.2 g in
        absurd (omega (arith, a.1, b))
    classes_once base (c ∷ cs) from to k j order (inr h) (inl g) =
        let a = class_within base None c j order.1 g in
        let b = classes_within base cs (class_mark c).to to k order.2 h in
        absurd (omega (arith, a.1, b))
    classes_once base (c ∷ cs) from to k j order (inr h) (inr g) = classes_once base cs (class_mark c).to to k j order.2 h g
