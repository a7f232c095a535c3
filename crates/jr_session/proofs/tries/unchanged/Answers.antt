use Rattle.std.proofs.Common.{◌≡◌, ◌+◌, ◌∷◌, [], length, refl, sym, ap, subst, ◌∙◌, arith, length-append}
use Rattle.std.specs.Prelude.{not}
use Rattle.jr_session.specs.Trying.{changes_file, AreUnchanged}
use Rattle.jr_session.proofs.Staying.{unchanged_none, unchanged_more}
use Rattle.jr_session.proofs.tries.unchanged.Goals as goal

pub loop-file-init : goal.loop-file-init
loop-file-init c = subst (λ bs. (length bs ≡ 0) × AreUnchanged c.args.changes.now bs) (sym c.in_ok-stays.ensures.items) (refl, unchanged_none c.args.changes.now)

pub loop-file-preserved : goal.loop-file-preserved
loop-file-preserved c =
    let bs = c.loop-file.stays.items in
    let n = c.loop-file.invariant.0 in
    let b = not c.is_changed.result in
    let is = ap not (c.is_changed.ensures ∙ sym (ap (changes_file c.args.changes.now) n)) in
    let m = length-append bs (b ∷ []) in
    subst (λ xs. (length xs ≡ c.loop-file.file + 1) × AreUnchanged c.args.changes.now xs) (sym c.in_ok-push.ensures.items) (omega (arith, m, n), unchanged_more c.args.changes.now bs b c.loop-file.invariant.1 is)

pub returns : goal.returns
returns c = c.loop-file.invariant.1
