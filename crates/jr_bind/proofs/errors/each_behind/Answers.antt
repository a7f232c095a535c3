use Rattle.std.proofs.Common.{◌++◌, ◌+◌, ◌∷◌, [], map, drop, sym, ap, ◌∙◌}
use Rattle.std.proofs.lemmas.List.{map-append, drop_all, drop_more}
use Rattle.jr_table.specs.ErrorLists.{drop_repeats}
use Rattle.jr_bind.specs.ErrorView.{error_of}
use Rattle.jr_bind.proofs.Telling.{passed}
use Rattle.jr_bind.proofs.errors.each_behind.Goals as goal

pub loop-error-preserved : goal.loop-error-preserved
loop-error-preserved c =
    let rest = c.args.rest.now in
    let i = c.loop-error.error-index in
    let kept = c.loop-error.kept.items in
    let last = c.loop-error.last in
    passed kept last _ (drop (i + 1) rest) c.push_other.new.kept.items c.later-last.result c.in_ok-push_other.ensures c.later-last.ensures
    ∙ ap (λ z. map error_of kept ++ drop_repeats (error_of last) (map error_of z)) (sym (drop_more rest i _ c.loop-error-test.true))
    ∙ c.loop-error.invariant

pub returns : goal.returns
returns c =
    let rest = c.args.rest.now in
    let kept = c.loop-error.kept.items in
    let last = c.loop-error.last in
    ap (map error_of) c.in_ok-push.ensures.items ∙ map-append error_of kept (last ∷ [])
    ∙ ap (λ z. map error_of kept ++ drop_repeats (error_of last) (map error_of z)) (sym (drop_all c.loop-error.error-index rest c.loop-error-test.false))
    ∙ c.loop-error.invariant
