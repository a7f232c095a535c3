use Rattle.std.proofs.Common.{List, map, subst, ap, ◌∙◌}
use Rattle.std.proofs.lemmas.Result.{IfOk-weaker}
use Rattle.std.proofs.lemmas.List.Sorted.{IsPermutation-map}
use Rattle.std.specs.List.Sorted.{IsPermutation}
use Rattle.jr_table.specs.Errors.{Error}
use Rattle.jr_table.specs.ErrorLists.{each_once}
use Rattle.jr_bind_expr.specs.Logs.{notes_of}
use Rattle.jr_bind.specs.ErrorView.{error_of}
use Rattle.jr_bind.proofs.Telling.{sorted_shown}
use Rattle.jr_bind.proofs.errors.errors_of_log.Goals as goal

pub returns : goal.returns
returns c = λ k.
    let log = notes_of c.args.table.now k c.args.log.now in
    let sorted = c.sort.new.errors.items in
    let all = subst (λ (es : List Error). IsPermutation es (map error_of sorted)) (c.in_ok-errors.ensures k)
    (IsPermutation-map error_of _ sorted c.in_ok-sort.ensures.all) in
    let told = c.errors_are_told.ensures.errors.computed c.args.start log (map error_of sorted) all (sorted_shown sorted c.in_ok-sort.ensures.in_order) in
    IfOk-weaker c.each_once.result _ _ (λ v h. h ∙ ap (λ es. each_once (map error_of es)) c.as_slice.ensures.value ∙ told) c.each_once.ensures
