use Rattle.std.proofs.Common.{[], ◌∷◌, sym, inl, arith}
use Rattle.jr_table.specs.RowView.{row_of}
use Rattle.jr_mentions.specs.ApartView.{names_of, names_in}
use Rattle.jr_mentions.proofs.Stepping.{rows_start, rows_go, rows_end}
use Rattle.jr_mentions.proofs.Settling.{apart_length, apart_at, none_past}
use Rattle.jr_mentions.proofs.rows.rows_apart.Goals as goal

pub returns-then-not-same_count-clause-none : goal.returns-then-not-same_count-clause-none
returns-then-not-same_count-clause-none c = λ x y h.
    let t = c.same_count.ensures.1 (apart_length row_of (x ∷ y ∷ []) c.args.before.now c.args.after.now h) in
    let f = c.if-not-same_count.true in
    absurd cc

pub loop-number-init : goal.loop-number-init
loop-number-init c = (rows_start row_of (names_of c.none-apart.result.pair) c.args.before.now c.args.after.now, λ x y h. inl c.none-apart.ensures)

pub loop-number-preserved : goal.loop-number-preserved
loop-number-preserved c = (
  rows_go row_of (names_of c.loop-number.apart.0) c.args.before.now c.args.after.now c.loop-number.number (names_in c.in-Some-row_apart.next) c.in-Some.first.now c.in-Some-row_at.second.now
      (sym c.in-Some.ensures) (sym c.in-Some-row_at.ensures) c.loop-number.invariant.0 c.in-Some-row_apart.ensures.some,
  λ x y h.
      c.in-Some-row_apart.ensures.settles x y (c.loop-number.invariant.1 x y h)
      (apart_at row_of (x ∷ y ∷ []) c.args.before.now c.args.after.now c.loop-number.number c.in-Some.first.now c.in-Some-row_at.second.now (sym c.in-Some.ensures) (sym c.in-Some-row_at.ensures) h),
)

pub returns-in_default-clause-none : goal.returns-in_default-clause-none
returns-in_default-clause-none c = λ x y h. none_past c.args.before.now c.loop-number.number (sym c.in_default.ensures) c.loop-number-test.true

pub returns-in_default-row_at-clause-none : goal.returns-in_default-row_at-clause-none
returns-in_default-row_at-clause-none c = λ x y h.
    let same = c.same_count.ensures.0 c.if-not-same_count.false in
    let within = c.loop-number-test.true in
    none_past c.args.after.now c.loop-number.number (sym c.in_default-row_at.ensures) (omega (arith, same, within))

pub returns-in_default-row_apart-clause-none : goal.returns-in_default-row_apart-clause-none
returns-in_default-row_apart-clause-none c = λ x y h.
    c.in_default-row_apart.ensures.none x y (c.loop-number.invariant.1 x y h)
    (apart_at row_of (x ∷ y ∷ []) c.args.before.now c.args.after.now c.loop-number.number c.in-Some.first.now c.in-Some-row_at.second.now (sym c.in-Some.ensures) (sym c.in-Some-row_at.ensures) h)

pub returns-clause-some : goal.returns-clause-some
returns-clause-some c = rows_end row_of (names_of c.loop-number.apart.0) c.args.before.now c.args.after.now c.loop-number.number c.loop-number-test.false (c.same_count.ensures.0 c.if-not-same_count.false) c.loop-number.invariant.0
