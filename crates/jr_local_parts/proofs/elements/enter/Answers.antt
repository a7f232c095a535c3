use Rattle.std.proofs.Common.{◌∙◌, ap, sym}
use Rattle.std.proofs.lemmas.Result.{IfOk-weaker}
use Rattle.jr_ast.specs.View.{word_of, type_of, stmt_of, stmt_kind, stmt_row, held_else}
use Rattle.jr_ast.proofs.Rows.{stmt_kind-If, stmt_kind-Block, stmt_kind-Sync}
use Rattle.jr_table.specs.Context.{in_own, local_of}
use Rattle.jr_new_bodies.specs.Known.{context_of}
use Rattle.jr_local_parts.specs.Descending.{entered}
use Rattle.jr_local_parts.proofs.Goings.{stays_so, goes_so}
use Rattle.jr_local_parts.proofs.elements.enter.Goals as goal

pub returns-in-Local : goal.returns-in-Local
unfolding stmt_kind stmt_row held_else
returns-in-Local c =
    let h = c.args.here.now in
    let x = context_of h in
    let n = c.args.next in
    let at = c.in-Local in
    let inside = in_own x (local_of x n at.is_final (type_of at.ty) (word_of at.name)) in
    IfOk-weaker c.declare.result _ _ (λ u goes. goes_so h c.declare.new.here inside (entered n x (stmt_of c.args.of.now)) (ap (entered n x) (sym (ap (stmt_kind c.args.of.now.mark) at.is))) goes) c.declare.ensures

pub returns-in-Eval : goal.returns-in-Eval
unfolding stmt_kind stmt_row held_else
returns-in-Eval c =
    let h = c.args.here.now in
    let x = context_of h in
    let n = c.args.next in
    let m = c.args.of.now.mark in
    let at = c.in-Eval in
    stays_so h c.requires (entered n x (stmt_of c.args.of.now)) (ap (entered n x) (ap (stmt_kind m) at.is))

pub returns-in-While : goal.returns-in-While
unfolding stmt_kind stmt_row held_else
returns-in-While c =
    let h = c.args.here.now in
    let x = context_of h in
    let n = c.args.next in
    let m = c.args.of.now.mark in
    let at = c.in-While in
    stays_so h c.requires (entered n x (stmt_of c.args.of.now)) (ap (entered n x) (ap (stmt_kind m) at.is))

pub returns-in-Return : goal.returns-in-Return
unfolding stmt_kind stmt_row held_else
returns-in-Return c =
    let h = c.args.here.now in
    let x = context_of h in
    let n = c.args.next in
    let m = c.args.of.now.mark in
    let at = c.in-Return in
    stays_so h c.requires (entered n x (stmt_of c.args.of.now)) (ap (entered n x) (ap (stmt_kind m) at.is))

pub returns-in-Empty : goal.returns-in-Empty
unfolding stmt_kind stmt_row held_else
returns-in-Empty c =
    let h = c.args.here.now in
    let x = context_of h in
    let n = c.args.next in
    let m = c.args.of.now.mark in
    let at = c.in-Empty in
    stays_so h c.requires (entered n x (stmt_of c.args.of.now)) (ap (entered n x) (ap (stmt_kind m) at.is))

pub returns-in-If : goal.returns-in-If
returns-in-If c =
    let h = c.args.here.now in
    let x = context_of h in
    let n = c.args.next in
    let m = c.args.of.now.mark in
    let at = c.in-If in
    stays_so h c.requires (entered n x (stmt_of c.args.of.now)) (ap (entered n x) (ap (stmt_kind m) at.is ∙ stmt_kind-If _ m at.field-0 at.field-1 at.field-2))

pub returns-in-Block : goal.returns-in-Block
returns-in-Block c =
    let h = c.args.here.now in
    let x = context_of h in
    let n = c.args.next in
    let m = c.args.of.now.mark in
    let at = c.in-Block in
    stays_so h c.requires (entered n x (stmt_of c.args.of.now)) (ap (entered n x) (ap (stmt_kind m) at.is ∙ stmt_kind-Block _ m at.field-0))

pub returns-in-Sync : goal.returns-in-Sync
returns-in-Sync c =
    let h = c.args.here.now in
    let x = context_of h in
    let n = c.args.next in
    let m = c.args.of.now.mark in
    let at = c.in-Sync in
    stays_so h c.requires (entered n x (stmt_of c.args.of.now)) (ap (entered n x) (ap (stmt_kind m) at.is ∙ stmt_kind-Sync _ m at.field-0 at.field-1))
