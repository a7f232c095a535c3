use Rattle.std.proofs.Common.{◌≡◌, ◌≢◌, ◌<◌, ◌≤◌, ◌+◌, ◌*◌, ℕ, Option, Some, None, length, arith, refl, sym, ap, ◌∙◌, subst}
use Rattle.std.specs.Prelude.{◌⊎◌, slice_get, min, IfSome}
use Rattle.std.proofs.lemmas.Option.{slice_get-get_or}
use Rattle.jr_index.specs.Walked.{Walked}
use Rattle.jr_index.specs.Cycles.{AreMarked}
use Rattle.jr_index.proofs.Marking.{marked_on, none_at_top, none_below_old, old_where_not_new}
use Rattle.jr_index.proofs.Around.{marked_around}
use Rattle.jr_index.proofs.cycles.with_cycle_of.Goals as goal

some_is : (a b : ℕ) → Some a ≡ Some b → a ≡ b
some_is a b e = cc

lower_min : (a b : ℕ) → (min a b ≤ a) × (min a b ≤ b) × ((min a b ≡ a) ⊎ (min a b ≡ b))
lower_min a b = (omega arith, omega arith, grind arith)

pub returns-in_default-clause-marked : goal.returns-in_default-clause-marked
returns-in_default-clause-marked c =
    let parents = c.args.parents.now in
    let start = c.args.start in
    let old = c.args.marks.now in
    let new = c.ascend-walked.new.marks in
    let low = c.ascend-walked.result.least in
    let size = c.ascend-walked.auto.marks in
    let W : Option ℕ → Type 0 = λ o. Walked parents start 0 (2 * start + 1) old new o low in
    let w = subst W c.in_default.is c.ascend-walked.ensures.walked in
    marked_on parents start old new c.args.first None low size c.requires.marked w
    (none_at_top parents start old new c.args.first None low size c.requires.marked w w.ends)

pub bounds-marks-met : goal.bounds-marks-met
bounds-marks-met c =
    let I : Option ℕ → Type 0 = λ o. IfSome o (λ x. x < length c.args.marks.now) in
    let h : c.in-Some.met < length c.args.marks.now = subst I c.in-Some.is c.ascend-walked.ensures.within in
    omega (arith, h, c.ascend-walked.auto.marks)

pub returns-then-marks-met-clause-marked : goal.returns-then-marks-met-clause-marked
returns-then-marks-met-clause-marked c =
    let parents = c.args.parents.now in
    let start = c.args.start in
    let old = c.args.marks.now in
    let new = c.ascend-walked.new.marks in
    let met = c.in-Some.met in
    let low = c.ascend-walked.result.least in
    let size = c.ascend-walked.auto.marks in
    let W : Option ℕ → Type 0 = λ o. Walked parents start 0 (2 * start + 1) old new o low in
    let w : Walked parents start 0 (2 * start + 1) old new (Some met) low = subst W c.in-Some.is c.ascend-walked.ensures.walked in
    let I : Option ℕ → Type 0 = λ o. IfSome o (λ x. x < length old) in
    let h : met < length old = subst I c.in-Some.is c.ascend-walked.ensures.within in
    let at = slice_get-get_or new met 0 (omega (arith, h, size)) in
    let differs : slice_get new met ≢ Some (2 * start + 1) = λ e. c.if-marks-met.true (some_is _ _ (sym at ∙ e)) in
    marked_on parents start old new c.args.first (Some met) low size c.requires.marked w
    (none_below_old parents start old new c.args.first (Some met) low size c.requires.marked w met w.ends.0
    (old_where_not_new parents start old new c.args.first (Some met) low size c.requires.marked w met w.ends.1 differs))

pub returns-in-None-clause-marked : goal.returns-in-None-clause-marked
returns-in-None-clause-marked c =
    let parents = c.args.parents.now in
    let start = c.args.start in
    let old = c.args.marks.now in
    let new = c.ascend-walked.new.marks in
    let last = c.ascend-around.new.marks in
    let met = c.in-Some.met in
    let low = c.ascend-walked.result.least in
    let least = c.ascend-around.result.least in
    let size = c.ascend-walked.auto.marks in
    let W : Option ℕ → Type 0 = λ o. Walked parents start 0 (2 * start + 1) old new o low in
    let w : Walked parents start 0 (2 * start + 1) old new (Some met) low = subst W c.in-Some.is c.ascend-walked.ensures.walked in
    let I : Option ℕ → Type 0 = λ o. IfSome o (λ x. x < length old) in
    let h : met < length old = subst I c.in-Some.is c.ascend-walked.ensures.within in
    let at : slice_get new met ≡ Some (2 * start + 1) = slice_get-get_or new met 0 (omega (arith, h, size)) ∙ ap Some c.if-marks-met.false in
    let stamp : 2 * start + 1 + 1 ≡ 2 * start + 2 = omega arith in
    let V : ℕ → Type 0 = λ n. Walked parents met (2 * start + 1) n new last c.ascend-around.result.met least in
    let v = subst V stamp c.ascend-around.ensures.walked in
    let M : Option ℕ → Type 0 = λ o. AreMarked parents start old o in
    marked_around parents start old new last None (Some met) c.ascend-around.result.met low least met size c.ascend-around.auto.marks
    (subst M c.in-None.is c.requires.marked) w w.ends.0 at v least refl

pub returns-in-Some-first-clause-marked : goal.returns-in-Some-first-clause-marked
returns-in-Some-first-clause-marked c =
    let parents = c.args.parents.now in
    let start = c.args.start in
    let old = c.args.marks.now in
    let new = c.ascend-walked.new.marks in
    let last = c.ascend-around.new.marks in
    let met = c.in-Some.met in
    let low = c.ascend-walked.result.least in
    let least = c.ascend-around.result.least in
    let size = c.ascend-walked.auto.marks in
    let W : Option ℕ → Type 0 = λ o. Walked parents start 0 (2 * start + 1) old new o low in
    let w : Walked parents start 0 (2 * start + 1) old new (Some met) low = subst W c.in-Some.is c.ascend-walked.ensures.walked in
    let I : Option ℕ → Type 0 = λ o. IfSome o (λ x. x < length old) in
    let h : met < length old = subst I c.in-Some.is c.ascend-walked.ensures.within in
    let at : slice_get new met ≡ Some (2 * start + 1) = slice_get-get_or new met 0 (omega (arith, h, size)) ∙ ap Some c.if-marks-met.false in
    let stamp : 2 * start + 1 + 1 ≡ 2 * start + 2 = omega arith in
    let V : ℕ → Type 0 = λ n. Walked parents met (2 * start + 1) n new last c.ascend-around.result.met least in
    let v = subst V stamp c.ascend-around.ensures.walked in
    let M : Option ℕ → Type 0 = λ o. AreMarked parents start old o in
    marked_around parents start old new last (Some c.in-Some-first.first) (Some met) c.ascend-around.result.met low least met size c.ascend-around.auto.marks
    (subst M c.in-Some-first.is c.requires.marked) w w.ends.0 at v c.min.result (let P : ℕ → Type 0 = λ f. (f ≤ c.in-Some-first.first) × (f ≤ least) × ((f ≡ c.in-Some-first.first) ⊎ (f ≡ least)) in subst P (sym c.min.ensures) (lower_min c.in-Some-first.first least))
