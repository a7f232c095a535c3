use Rattle.std.proofs.Common.{◌≡◌, ◌≤◌, ℕ, List, Option, Some, None, length, arith}
use Rattle.jr_index.specs.Parents.{Returns}
use Rattle.jr_index.specs.Cycles.{AreMarked}
use Rattle.jr_index.specs.Firsts.{IsFirst}
use Rattle.jr_index.proofs.cycles.first_on_cycle.Goals as goal

all_marked : (parents : List (Option ℕ)) (n : ℕ) (marks : List ℕ) (first : Option ℕ) → length marks ≡ length parents → length parents ≤ n → AreMarked parents n marks first
    → IsFirst (Returns parents) (length parents) first
all_marked parents n marks None size past m = λ i lt r. m.covered i (m.done i (omega (arith, lt))) (omega (arith, lt, size)) r
all_marked parents n marks (Some f) size past m = (let l = m.sound.0 in omega (arith, l, size), m.sound.1, λ i lt r. let within = m.sound.0 in let l = m.covered i (m.done i (omega (arith, lt, within, size))) (omega (arith, lt, within)) r in omega (arith, l, lt))

pub returns : goal.returns
returns c =
    let k = c.in_ok-known.known in
    let m = c.in_ok-known.ensures.marked in
    all_marked c.args.parents.now m.0 k.marks.items k.first c.in_ok-known.ensures.size m.1 m.2
