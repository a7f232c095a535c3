use Rattle.std.proofs.Common.{◌++◌, ◌+◌, map, drop, sym, ap, ◌∙◌, append_assoc}
use Rattle.std.proofs.lemmas.List.{append-nil, drop_all, drop_more}
use Rattle.jr_table.specs.KeyView.{member_key_of}
use Rattle.jr_bind.specs.BoundLogs as logs
use Rattle.jr_bind.specs.BoundView.{reference_of}
use Rattle.jr_bind_expr.specs.Logs.{notes_of}
use Rattle.jr_bind.proofs.Bounding.{references_noted}
use Rattle.jr_bind.proofs.SharedDecls.{none_shared}
use Rattle.jr_bind.proofs.references.references_in.Goals as goal

pub loop-note-init : goal.loop-note-init
loop-note-init c = (
  none_shared c.args.table.now (member_key_of c.args.member.now) c.new-shared.result.items c.new-shared.ensures.items,
  ap (λ xs. map reference_of xs ++ logs.references_in c.args.start (notes_of c.args.table.now (member_key_of c.args.member.now) c.args.log.now)) c.new-references.ensures.items,
)

pub noted_decl-requires : goal.noted_decl-requires
noted_decl-requires c = c.loop-note.invariant.0

pub loop-note-preserved : goal.loop-note-preserved
loop-note-preserved c =
    let rows = c.args.table.now in
    let k = member_key_of c.args.member.now in
    let start = c.args.start in
    let log = c.args.log.now in
    let i = c.loop-note.note-index in
    let references = map reference_of c.loop-note.references.items in
    let rest = logs.references_in start (notes_of rows k (drop (i + 1) log)) in
    let here = references_noted start _ _ _ (c.noted_at.ensures rows k) c.in_ok-decl.ensures.declared in (
      c.in_ok-decl.ensures.shared,
      ap (λ z. z ++ rest) (c.in_ok-push_reference.ensures ∙ ap (λ z. references ++ z) here) ∙ append_assoc references _ rest
          ∙ ap (λ z. references ++ logs.references_in start (notes_of rows k z)) (sym (drop_more log i _ c.loop-note-test.true))
          ∙ c.loop-note.invariant.1,
    )

pub returns : goal.returns
returns c =
    let rows = c.args.table.now in
    let k = member_key_of c.args.member.now in
    let start = c.args.start in
    let log = c.args.log.now in
    let i = c.loop-note.note-index in
    let references = map reference_of c.loop-note.references.items in
    sym (append-nil references)
    ∙ ap (λ z. references ++ logs.references_in start (notes_of rows k z)) (sym (drop_all i log c.loop-note-test.false))
    ∙ c.loop-note.invariant.1
