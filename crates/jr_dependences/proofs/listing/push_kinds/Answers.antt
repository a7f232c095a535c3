use Rattle.std.proofs.Common.{◌++◌, ap, ◌∙◌}
use Rattle.std.proofs.lemmas.Result.{on_ok_weaker}
use Rattle.jr_sync.specs.declared.sites.DepKind.TheVariants.{Order, Field, Sync, Flow, Anti, Output}
use Rattle.jr_dependences.specs.Kinds.{told_one}
use Rattle.jr_dependences.proofs.Telling.{six_behind}
use Rattle.jr_dependences.proofs.listing.push_kinds.Goals as goal

pub returns : goal.returns
returns c =
    let kinds = c.args.kinds in
    let first = c.args.first in
    let second = c.args.second in
    let a = told_one kinds.order Order first second in
    let b = told_one kinds.field Field first second in
    let s = told_one kinds.sync Sync first second in
    let d = told_one kinds.flow Flow first second in
    let e = told_one kinds.anti Anti first second in
    let f = told_one kinds.output Output first second in
    let all = c.in_ok-push_kind-5.ensures ∙ ap (λ l. l ++ e) (c.in_ok-push_kind-4.ensures ∙ ap (λ l. l ++ d) (c.in_ok-push_kind-3.ensures ∙ ap (λ l. l ++ s) (c.in_ok-push_kind-2.ensures ∙ ap (λ l. l ++ b) c.in_ok-push_kind.ensures))) in
    on_ok_weaker c.push_kind-6.result (λ last. last ∙ ap (λ l. l ++ f) all ∙ six_behind c.args.list.now.items a b s d e f) c.push_kind-6.ensures
