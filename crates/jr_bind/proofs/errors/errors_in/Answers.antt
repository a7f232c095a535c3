use Rattle.std.proofs.Common.{◌++◌, ◌+◌, map, drop, sym, ap, ◌∙◌, append_assoc}
use Rattle.std.proofs.lemmas.List.{append-nil, drop_all, drop_more}
use Rattle.jr_table.specs.ErrorLists as lists
use Rattle.jr_bind_expr.specs.Logs.{notes_of}
use Rattle.jr_bind.specs.ErrorView.{error_of}
use Rattle.jr_bind.proofs.errors.errors_in.Goals as goal

pub loop-note-init : goal.loop-note-init
loop-note-init c = λ k.
    ap (λ xs. map error_of xs ++ lists.errors_in c.args.start (notes_of c.args.table.now k c.args.log.now)) c.new-errors.ensures.items

pub loop-note-preserved : goal.loop-note-preserved
loop-note-preserved c = λ k.
    let rows = c.args.table.now in
    let start = c.args.start in
    let log = c.args.log.now in
    let i = c.loop-note.note-index in
    let errors = map error_of c.loop-note.errors.items in
    let rest = lists.errors_in start (notes_of rows k (drop (i + 1) log)) in
    ap (λ z. z ++ rest) (c.in_ok-push_error.ensures k) ∙ append_assoc errors _ rest
    ∙ ap (λ z. errors ++ lists.errors_in start (notes_of rows k z)) (sym (drop_more log i _ c.loop-note-test.true))
    ∙ c.loop-note.invariant k

pub returns : goal.returns
returns c = λ k.
    let rows = c.args.table.now in
    let start = c.args.start in
    let log = c.args.log.now in
    let i = c.loop-note.note-index in
    let errors = map error_of c.loop-note.errors.items in
    sym (append-nil errors)
    ∙ ap (λ z. errors ++ lists.errors_in start (notes_of rows k z)) (sym (drop_all i log c.loop-note-test.false))
    ∙ c.loop-note.invariant k
