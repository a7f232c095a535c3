use Rattle.std.proofs.Common.{◌≡◌, ℕ, List, map, length, sym, subst, arith}
use Rattle.std.specs.Prelude.{◌↔◌}
use Rattle.jr_table.specs.declared.decls.Decl as raw
use Rattle.jr_table.specs.Decls.{Decl}
use Rattle.jr_table.specs.KeyView.{decl_of}
use Rattle.jr_images.specs.Families.{Among}
use Rattle.jr_dispatch.specs.Highest.{HasBelow}
use Rattle.jr_dispatch.proofs.Rounds.{none_yet, round}
use Rattle.jr_dispatch.proofs.families.all_below.Goals as goal

pub loop-number-init : goal.loop-number-init
loop-number-init c =
    subst (λ (xs : List raw.Decl). (e : Decl) → Among (map decl_of xs) e ↔ HasBelow c.args.table.now c.args.over.now.name c.args.over.now.params c.args.top 0 e) (sym c.new-decls.ensures.items)
    (none_yet c.args.table.now c.args.over.now.name c.args.over.now.params c.args.top)

pub loop-number-preserved : goal.loop-number-preserved
loop-number-preserved c =
    round c.args.table.now c.args.over.now.name c.args.over.now.params c.args.top c.loop-number.number _ _ c.loop-number.invariant c.in_ok-push_below.ensures

pub returns : goal.returns
returns c =
    let count = c.count-number-end.ensures in
    let past = c.loop-number-test.false in
    let most = c.loop-number.auto.number-end in
    let all : c.loop-number.number ≡ length c.args.table.now = omega (arith, count, past, most) in
    subst (λ (n : ℕ). (e : Decl) → Among (map decl_of c.loop-number.decls.items) e ↔ HasBelow c.args.table.now c.args.over.now.name c.args.over.now.params c.args.top n e) all c.loop-number.invariant
