-- Written members of which each is bound.
use Rattle.std.proofs.Common.{◌≡◌, ℕ, zero, suc, ◌<◌, ◌≤◌, List, [], ◌∷◌, length, get_or, sym, ap, subst, refl, arith}
use Rattle.jr_text.specs.declared.spans.Span.{Span}
use Rattle.jr_lex.specs.declared.items.Item.{Item}
use Rattle.jr_table.specs.Rows.{Row}
use Rattle.jr_members.specs.WrittenMembers.{WrittenMember}
use Rattle.jr_program.specs.declared.bounds.MemberBound.{MemberBound}
use Rattle.jr_program.specs.Members.{AreEachBound}
use Rattle.jr_program.specs.MemberLaws.{EachIsKnown, EachIsInOrder}
use Rattle.jr_program.proofs.Membership.{both}
use Rattle.jr_program.proofs.Binding.{refers, errs, known_none}

pub each_is_known : EachIsKnown
each_is_known rows files [] [] can is = known_none rows files
each_is_known rows files [] (b ∷ bs) can is = absurd is
each_is_known rows files (w ∷ ws) [] can is = absurd is
each_is_known rows files (w ∷ ws) (b ∷ bs) can is =
    let one = is.0 in
    let rest = each_is_known rows files ws bs can.1 is.1 in
    record {
      references = λ file at d. both (refers rows files w one.items one.stands can.0 b.super_at one.place b one.is refl file at d) (rest.references file at d);
      errors = λ file at r. both (errs rows files w one.items one.stands can.0 b.super_at one.place b one.is refl file at r) (rest.errors file at r);
    }

module _ (rows : List Row) (files : List (List Item)) where
  same_file : (ws : List (WrittenMember Span)) (bs : List MemberBound) → AreEachBound rows files ws bs → (i : ℕ) (w : WrittenMember Span) (b : MemberBound) → i < length bs → (get_or bs i b).file ≡ (get_or ws i w).file
  same_file [] [] is i w b lt = absurd (omega (arith, lt))
  same_file [] (c ∷ bs) is i w b lt = absurd is
  same_file (v ∷ ws) [] is i w b lt = absurd is
  same_file (v ∷ ws) (c ∷ bs) is zero w b lt = is.0.is.file
  same_file (v ∷ ws) (c ∷ bs) is (suc i) w b lt = same_file ws bs is.1 i w b (omega (arith, lt))

  as_long : (ws : List (WrittenMember Span)) (bs : List MemberBound) → AreEachBound rows files ws bs → length bs ≡ length ws
  as_long [] [] is = refl
  as_long [] (c ∷ bs) is = absurd is
  as_long (v ∷ ws) [] is = absurd is
  as_long (v ∷ ws) (c ∷ bs) is = ap suc (as_long ws bs is.1)

pub each_is_in_order : EachIsInOrder
each_is_in_order rows files [] [] is up = λ i j d le lt. absurd (omega (arith, lt))
each_is_in_order rows files [] (b ∷ bs) is up = absurd is
each_is_in_order rows files (w ∷ ws) [] is up = absurd is
each_is_in_order rows files (w ∷ ws) (b ∷ bs) is up = λ i j d le lt.
    let long = as_long rows files (w ∷ ws) (b ∷ bs) is in
    let first = same_file rows files (w ∷ ws) (b ∷ bs) is i w d (omega (arith, le, lt)) in
    let last = same_file rows files (w ∷ ws) (b ∷ bs) is j w d lt in
    let told = up i j w le (omega (arith, lt, long)) in
    subst (λ n. n ≤ (get_or (b ∷ bs) j d).file) (sym first) (subst (λ n. (get_or (w ∷ ws) i w).file ≤ n) (sym last) told)
