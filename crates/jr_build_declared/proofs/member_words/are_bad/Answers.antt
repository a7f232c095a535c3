use Rattle.std.specs.Prelude.{◌||◌}
use Rattle.jr_build_declared.proofs.WordLaws.{either, same_as, grouped, ungrouped}
use Rattle.jr_build_declared.proofs.member_words.are_bad.Goals as goal

pub returns : goal.returns
returns c =
    let a = c.has_twice-twice.result in
    let b = c.has_two_accesses-accesses.result in
    let o = c.has_other-other.result in
    let f = c.has_final_volatile-both.result in
    same_as (((a || b) || o) || f) (λ s. grouped (grouped s)) (λ s. ungrouped (ungrouped s))
    (either ((a || b) || o) f (either (a || b) o (either a b c.has_twice-twice.ensures c.has_two_accesses-accesses.ensures) c.has_other-other.ensures) c.has_final_volatile-both.ensures)
