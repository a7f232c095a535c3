use Rattle.std.specs.Prelude.{◌||◌, ◌&&◌}
use Rattle.jr_build_declared.proofs.WordLaws.{accesses, two_accesses, both, either, same_as, grouped, ungrouped}
use Rattle.jr_build_declared.proofs.member_words.has_two_accesses.Goals as goal

pub returns : goal.returns
returns c =
    let a = c.has_word-public.result in
    let b = c.has_word-protected.result in
    let p = c.has_word-private.result in
    let h = c.has_word-public.ensures in
    let k = c.has_word-protected.ensures in
    let m = c.has_word-private.ensures in
    let ws = c.args.words.now in
    same_as (((a && b) || (a && p)) || (b && p)) (λ s. two_accesses ws (grouped s)) (λ s. ungrouped (accesses ws s))
    (either ((a && b) || (a && p)) (b && p) (either (a && b) (a && p) (both a b h k) (both a p h m)) (both b p k m))
