use Rattle.std.proofs.Common.{get_or, sym, subst, ◌∙◌}
use Rattle.std.proofs.lemmas.Option.{slice_get-get_or, IfSome_then}
use Rattle.jr_new_bodies.specs.OutputView.{losses_in}
use Rattle.jr_new_files.specs.Lost.{HasLeast}
use Rattle.jr_new_files.proofs.Losing.{least_there, nothing_there, none_weaker}
use Rattle.jr_new_files.proofs.losses.least_of.Goals as goal

pub returns-clause-some : goal.returns-clause-some
returns-clause-some c =
    let os = c.args.outputs.now in
    let o = get_or os c.args.file c.index-outputs-file.result in
    IfSome_then c.least_loss.result c.least_loss.ensures.some (λ n h. least_there os c.args.file o n (slice_get-get_or os c.args.file c.index-outputs-file.result c.requires) (subst (λ ls. HasLeast (losses_in ls) n) c.as_slice.ensures.value h))

pub returns-clause-none : goal.returns-clause-none
returns-clause-none c =
    let os = c.args.outputs.now in
    let o = get_or os c.args.file c.index-outputs-file.result in
    none_weaker c.least_loss.result (λ e. nothing_there os c.args.file o (slice_get-get_or os c.args.file c.index-outputs-file.result c.requires) (sym c.as_slice.ensures.value ∙ e)) c.least_loss.ensures.none
