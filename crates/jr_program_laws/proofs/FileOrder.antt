-- The classes of a file, and the members of each, stand one behind the other.
use Rattle.std.proofs.Common.{◌≡◌, ℕ, ◌≤◌, List, [], ◌∷◌, ◌++◌, refl, sym, ap, subst, ◌∙◌, inl, arith}
use Rattle.std.proofs.lemmas.List.{append-nil}
use Rattle.jr_text.specs.declared.spans.Span.{Span}
use Rattle.jr_ast.specs.MemberTree as syntax
use Rattle.jr_ast.specs.Marks.{class_mark, member_mark}
use Rattle.jr_grammar.specs.Stands.{Tokens, first_from, last_to, span_of, InOrder, Stands, StandInOrder}
use Rattle.jr_grammar.specs.MemberLayout.{class_layout, member_layout, members_layout, classes_layout, unit_layouts}
use Rattle.jr_program_laws.specs.PlaceLaws.{StandsBetween, ClassInOrder, MemberInOrder, MembersInOrder, ClassesInOrder}
use Rattle.jr_program_laws.proofs.TokenOrder.{StartsIn, Rising, in_front, in_back, rising_front, rising_back, from_first, to_last, Filled, starts_first, filled_front, filled_back, last_before}
use Rattle.jr_program_laws.proofs.Filling.{class_fills, member_fills}

-- they begin at the one byte or behind, and end at the other or before
record Between (from to : ℕ) (ps : Tokens) : Type 0 where
  starts : (at : ℕ) → StartsIn ps at → from ≤ at
  ends : Filled ps → last_to ps ≤ to

last_behind : (a b : Tokens) → Filled b → last_to (a ++ b) ≡ last_to b
last_behind [] b f = refl
last_behind (p ∷ []) (q ∷ b) f = refl
last_behind (p ∷ []) [] f = absurd f
last_behind (p ∷ q ∷ a) b f = last_behind (q ∷ a) b f

alone_ends : (a b : Tokens) (to : ℕ) → Rising (a ++ b) → last_to (a ++ b) ≤ to → Filled a → last_to a ≤ to
alone_ends a [] to rising h f = subst (λ (x : Tokens). last_to x ≤ to) (append-nil a) h
alone_ends a (q ∷ b) to rising h f =
    let first = last_before a (q ∷ b) rising f q.mark.from (inl refl) in
    let last = to_last (q ∷ b) (rising_back a (q ∷ b) rising) q.mark.from (inl refl) in
    let same = last_behind a (q ∷ b) tt in
    omega arith

module _ (from to : ℕ) (a b ps : Tokens) (w : ps ≡ a ++ b) (rising : Rising ps) (within : Between from to ps) where
  two : Rising (a ++ b)
  two = subst Rising w rising

  parts : Between from to (a ++ b)
  parts = subst (Between from to) w within

  front_between : Between from to a
  front_between = record { starts = λ at s. parts.starts at (in_front a b at s); ends = λ f. alone_ends a b to two (parts.ends (filled_front a b f)) f }

  back_between : Between from to b
  back_between = record { starts = λ at s. parts.starts at (in_back a b at s); ends = λ f. subst (λ (n : ℕ). n ≤ to) (last_behind a b f) (parts.ends (filled_back a b f)) }

  -- behind what stands in front
  behind_between : Filled a → Between (last_to a) to b
  behind_between f = record { starts = λ at s. last_before a b two f at s; ends = back_between.ends }

-- what holds of such tokens wherever they stand
record Bounded (P : Tokens → Type 0) (T : (from to : ℕ) → Type 0) : Type 0 where
  bounded : (ps : Tokens) (from to : ℕ) → Rising ps → Between from to ps → P ps → T from to

in_first : {P Q : Tokens → Type 0} {T : (from to : ℕ) → Type 0} → Bounded P T → Bounded (InOrder P Q) T
in_first f = record {
  bounded = λ ps from to rising within h. f.bounded h.front from to (rising_front h.front h.back (subst Rising h.whole rising)) (front_between from to h.front h.back ps h.whole rising within) h.first;
}

in_rest : {P Q : Tokens → Type 0} {T : (from to : ℕ) → Type 0} → Bounded Q T → Bounded (InOrder P Q) T
in_rest f = record {
  bounded = λ ps from to rising within h. f.bounded h.back from to (rising_back h.front h.back (subst Rising h.whole rising)) (back_between from to h.front h.back ps h.whole rising within) h.rest;
}

class_mark_is : (c : syntax.Class Span) (ps : Tokens) → Stands (class_layout c) ps → class_mark c ≡ span_of ps
class_mark_is (syntax.class m mods w t ms) ps h = h.mark

pub member_mark_is : (x : syntax.Member Span) (ps : Tokens) → Stands (member_layout x) ps → member_mark x ≡ span_of ps
member_mark_is (syntax.field m mods t w init) ps h = h.mark
member_mark_is (syntax.method m mods t w qs body) ps h = h.mark
member_mark_is (syntax.constructor m mods w qs args body) ps h = h.mark
member_mark_is (syntax.inner m c) ps h = h.mark

module _ (s : Span) (ps : Tokens) (mark : s ≡ span_of ps) (rising : Rising ps) where
  from_is : s.from ≡ first_from ps
  from_is = ap (λ (x : Span). x.from) mark

  to_is : s.to ≡ last_to ps
  to_is = ap (λ (x : Span). x.to) mark

  own_between : Between s.from s.to ps
  own_between = record {
    starts = λ at h. let a = from_is in let b = from_first ps rising at h in omega arith;
    ends = λ f. let a = to_is in omega arith;
  }

  stands_between : (from to : ℕ) → Between from to ps → Filled ps → StandsBetween from to s
  stands_between from to within f =
      let a = from_is in
      let b = to_is in
      let first = within.starts (first_from ps) (starts_first ps f) in
      let some = to_last ps rising (first_from ps) (starts_first ps f) in
      let last = within.ends f in
      (omega arith, omega arith, omega arith)

mutual
  class_order : (c : syntax.Class Span) (ps : Tokens) → Rising ps → Stands (class_layout c) ps → ClassInOrder c
  class_order (syntax.class m mods w t ms) ps rising h =
      (in_rest (in_rest (in_rest (in_rest (in_rest (in_first (members_order ms))))))).bounded ps m.from m.to rising (own_between m ps h.mark rising) h.parts

  member_order : (x : syntax.Member Span) (ps : Tokens) → Rising ps → Stands (member_layout x) ps → MemberInOrder x
  member_order (syntax.field m mods t w init) ps rising h = tt
  member_order (syntax.method m mods t w qs body) ps rising h = tt
  member_order (syntax.constructor m mods w qs args body) ps rising h = tt
  member_order (syntax.inner m c) ps rising h =
      let alone : ps ≡ h.parts.front = h.parts.whole ∙ ap (λ (x : Tokens). h.parts.front ++ x) h.parts.rest ∙ append-nil h.parts.front in
      (class_mark_is c h.parts.front h.parts.first ∙ sym (ap span_of alone) ∙ sym h.mark, class_order c h.parts.front (subst Rising alone rising) h.parts.first)

  members_order : (ms : syntax.Members Span) → Bounded (Stands (members_layout ms)) (λ from to. MembersInOrder from to ms)
  members_order syntax.end = record { bounded = λ ps from to rising within h. tt }
  members_order (syntax.more x xs) = record {
    bounded = λ ps from to rising within h.
        let a = h.front in
        let b = h.back in
        let both = subst Rising h.whole rising in
        let rises = rising_front a b both in
        let mark = member_mark_is x a h.first in
        let filled = (member_fills x).fills a h.first in (
          stands_between (member_mark x) a mark rises from to (front_between from to a b ps h.whole rising within) filled,
          member_order x a rises h.first,
          subst (λ (n : ℕ). MembersInOrder n to xs) (sym (to_is (member_mark x) a mark rises))
              ((in_first (members_order xs)).bounded b (last_to a) to (rising_back a b both) (behind_between from to a b ps h.whole rising within filled) h.rest),
        );
  }

classes_order : (cs : List (syntax.Class Span)) → Bounded (Stands (classes_layout cs)) (λ from to. ClassesInOrder from to cs)
classes_order [] = record { bounded = λ ps from to rising within h. tt }
classes_order (c ∷ cs) = record {
  bounded = λ ps from to rising within h.
      let a = h.front in
      let b = h.back in
      let both = subst Rising h.whole rising in
      let rises = rising_front a b both in
      let mark = class_mark_is c a h.first in
      let filled = (class_fills c).fills a h.first in (
        stands_between (class_mark c) a mark rises from to (front_between from to a b ps h.whole rising within) filled,
        class_order c a rises h.first,
        subst (λ (n : ℕ). ClassesInOrder n to cs) (sym (to_is (class_mark c) a mark rises))
            ((in_first (classes_order cs)).bounded b (last_to a) to (rising_back a b both) (behind_between from to a b ps h.whole rising within filled) h.rest),
      );
}

pub unit_order : (u : syntax.Unit Span) (ps : Tokens) (to : ℕ) → Rising ps → (Filled ps → last_to ps ≤ to) → StandInOrder (unit_layouts u) ps → ClassesInOrder 0 to u.classes
unit_order u ps to rising ends h = (in_rest (in_first (classes_order u.classes))).bounded ps 0 to rising (record { starts = λ at s. omega arith; ends = ends }) h
