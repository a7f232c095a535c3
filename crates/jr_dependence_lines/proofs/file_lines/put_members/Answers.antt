use Rattle.std.proofs.Common.{◌≡◌, ◌<◌, ◌+◌, ℕ, zero, suc, List, [], ◌∷◌, Some, get_or, length, map, take, refl, sym, ap, subst, ◌∙◌, arith}
use Rattle.std.specs.Prelude.{slice_get}
use Rattle.std.proofs.lemmas.List.{length-map, take_all}
use Rattle.jr_lex.specs.declared.items.Item.{Item}
use Rattle.jr_members.specs.PartView.{written_of}
use Rattle.jr_program.specs.declared.bounds.MemberBound.{MemberBound}
use Rattle.jr_table.specs.KeyView.{member_key_of}
use Rattle.jr_table.specs.Rows.{Row}
use Rattle.jr_members.specs.WrittenMembers.{WrittenMember}
use Rattle.jr_text.specs.declared.spans.Span.{Span}
use Rattle.jr_dependence_lines.specs.declared.tallies.Tally.{Tally}
use Rattle.jr_dependence_lines.specs.Lines.{Line, texts_of}
use Rattle.jr_dependence_lines.specs.MemberLines.{HaveLines, in_file}
use Rattle.jr_dependence_lines.specs.Tallies.{Puts, PutsMember}
use Rattle.jr_dependence_lines.proofs.MemberSteps.{pair_count, mapped_at, its_bound, can_part, first_large, more_lines, same_lines}
use Rattle.jr_dependence_lines.proofs.file_lines.put_members.Goals as goal
use Rattle.jr_dependence_lines.proofs.file_lines.put_members.Goals.{then-member-file+in_ok-count+in_default, else-member-file}

abbrev Lines : List Row → List Item → (file n : ℕ) → List (WrittenMember Span) → Tally → Tally → Type 0
Lines rows items file n ws start t = (all : List Line) × HaveLines rows items (in_file file (take (n + 1) ws)) all × Puts start t (texts_of all)

bound_at : (bs : List MemberBound) (n : ℕ) → n < length bs → (b : MemberBound) × (b ≡ get_or bs n b)
bound_at [] n lt = absurd (omega (arith, lt))
bound_at (b ∷ bs) zero lt = (b, refl)
bound_at (b ∷ bs) (suc n) lt = bound_at bs n (omega (arith, lt))

pub bounds-written-number : goal.bounds-written-number
bounds-written-number c =
    let n = pair_count c.args.table.now c.requires.bound.0 (map written_of c.args.written.now) c.args.bounds.now c.requires.bound.1 in
    let m = length-map c.args.written.now written_of in
    let lt = c.loop-number-test.true in
    omega (arith, n, m, lt)

pub put_part-requires : goal.put_part-requires
put_part-requires c =
    let ws = map written_of c.args.written.now in
    let bs = c.args.bounds.now in
    let n = c.loop-number.number in
    let count = pair_count c.args.table.now c.requires.bound.0 ws bs c.requires.bound.1 in
    let m = length-map c.args.written.now written_of in
    let lt = c.loop-number-test.true in
    let at = mapped_at written_of c.args.written.now n c.index-written-number.result (omega (arith, count, m, lt)) c.index-written-number.is in
    can_part c.args.table.now c.requires.bound.0 ws bs c.requires.bound.1 n (written_of c.index-written-number.result) c.index-bounds-number.result lt at c.index-bounds-number.is c.requires.can

pub returns-in-Some : goal.returns-in-Some
returns-in-Some c files items each there =
    let rows = c.args.table.now in
    let ws = map written_of c.args.written.now in
    let bs = c.args.bounds.now in
    let n = c.loop-number.number in
    let w = written_of c.index-written-number.result in
    let b = c.index-bounds-number.result in
    let count = pair_count rows files ws bs each in
    let m = length-map c.args.written.now written_of in
    let lt = c.loop-number-test.true in
    let at = mapped_at written_of c.args.written.now n c.index-written-number.result (omega (arith, count, m, lt)) c.index-written-number.is in
    let bound = its_bound rows files ws bs each n w b lt at c.index-bounds-number.is in
    let h = c.loop-number.invariant files items each there in
    let many : PutsMember rows items w c.loop-number.tally c.put_part.new.tally (Some c.in-Some.count) =
    subst (λ o. PutsMember rows items w c.loop-number.tally c.put_part.new.tally o) c.in-Some.is (c.in_ok-count.ensures files items bound (ap (slice_get files) c.if-member-file.true ∙ there)) in
    first_large rows files ws bs each n w b lt at c.index-bounds-number.is c.args.file items h.0 h.1 c.args.tally.now c.loop-number.tally c.put_part.new.tally c.if-member-file.true c.in-Some.count many (member_key_of c.member-member.result.now) c.member-member.ensures

pub loop-number-preserved : goal.loop-number-preserved
loop-number-preserved c files items each there =
    let rows = c.args.table.now in
    let ws = map written_of c.args.written.now in
    let bs = c.args.bounds.now in
    let n = c.loop-number.number in
    let v = written_of c.index-written-number.result in
    let count = pair_count rows files ws bs each in
    let m = length-map c.args.written.now written_of in
    let lt = c.loop-number-test.true in
    let at = mapped_at written_of c.args.written.now n c.index-written-number.result (omega (arith, count, m, lt)) c.index-written-number.is in
    let h = c.loop-number.invariant files items each there in
    elim c.if-member-file.branch [
      | then-member-file+in_ok-count+in_default w ↦
          subst (λ (t : Tally). Lines rows items c.args.file n ws c.args.tally.now t) (sym w.tally-is)
          (more_lines rows files ws bs each n v w.index-bounds-number.result lt at w.index-bounds-number.is c.args.file items h.0 h.1 c.args.tally.now c.loop-number.tally w.put_part.new.tally w.if-member-file.true h.2
          (subst (λ o. PutsMember rows items v c.loop-number.tally w.put_part.new.tally o) w.in_default.is
          (w.in_ok-count.ensures files items (its_bound rows files ws bs each n v w.index-bounds-number.result lt at w.index-bounds-number.is) (ap (slice_get files) w.if-member-file.true ∙ there))))
      | else-member-file w ↦
          let b = bound_at bs n lt in
          subst (λ (t : Tally). Lines rows items c.args.file n ws c.args.tally.now t) (sym w.tally-is)
          (same_lines rows files ws bs each n v b.0 lt at b.1 c.args.file items h.0 h.1 c.args.tally.now c.loop-number.tally c.loop-number.tally w.if-member-file.false h.2)
    ]

pub returns : goal.returns
returns c files items each there =
    let ws = map written_of c.args.written.now in
    let h = c.loop-number.invariant files items each there in
    let n = pair_count c.args.table.now files ws c.args.bounds.now each in
    let le = c.loop-number-test.false in
    (h.0, subst (λ l. HaveLines c.args.table.now items (in_file c.args.file l) h.0) (take_all c.loop-number.number ws (omega (arith, n, le))) h.1, h.2)
