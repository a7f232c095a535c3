use Rattle.std.proofs.Common.{◌∙◌, ap, sym}
use Rattle.jr_ast.specs.View.{word_of, type_of, stmt_of, stmt_kind, stmt_row, held_else}
use Rattle.jr_ast.proofs.Rows.{stmt_kind-If, stmt_kind-Block, stmt_kind-Sync}
use Rattle.jr_table.specs.Context.{after, in_own, local_of}
use Rattle.jr_new_bodies.specs.Known.{context_of}
use Rattle.jr_new_bodies.specs.Moves.{without_own}
use Rattle.jr_local_parts.proofs.Goings.{stays_so, goes_so, goes_on}
use Rattle.jr_local_parts.proofs.elements.bring.Goals as goal

pub leave_own-requires : goal.leave_own-requires
leave_own-requires c = record { known = c.in_ok-declare-in-Local.ensures.known }

pub returns-in_ok-declare-in-Local : goal.returns-in_ok-declare-in-Local
unfolding stmt_kind stmt_row held_else
returns-in_ok-declare-in-Local c =
    let h = c.args.here.now in
    let x = context_of h in
    let n = c.args.next in
    let at = c.in-Local in
    let inside = in_own x (local_of x n at.is_final (type_of at.ty) (word_of at.name)) in
    let i = c.declare.new.here in
    let j = c.leave_own.new.here in
    let goes = goes_so h j (without_own (context_of i)) (without_own inside) (ap without_own c.in_ok-declare-in-Local.ensures.context)
    (goes_on h i j inside (without_own (context_of i)) c.in_ok-declare-in-Local.ensures c.leave_own.ensures) in
    goes_so h j (without_own inside) (after n x (stmt_of c.args.of.now)) (ap (after n x) (sym (ap (stmt_kind c.args.of.now.mark) at.is))) goes

pub returns-in-Eval : goal.returns-in-Eval
unfolding stmt_kind stmt_row held_else
returns-in-Eval c =
    let h = c.args.here.now in
    let x = context_of h in
    let n = c.args.next in
    let m = c.args.of.now.mark in
    let at = c.in-Eval in
    stays_so h c.requires (after n x (stmt_of c.args.of.now)) (ap (after n x) (ap (stmt_kind m) at.is))

pub returns-in-While : goal.returns-in-While
unfolding stmt_kind stmt_row held_else
returns-in-While c =
    let h = c.args.here.now in
    let x = context_of h in
    let n = c.args.next in
    let m = c.args.of.now.mark in
    let at = c.in-While in
    stays_so h c.requires (after n x (stmt_of c.args.of.now)) (ap (after n x) (ap (stmt_kind m) at.is))

pub returns-in-Return : goal.returns-in-Return
unfolding stmt_kind stmt_row held_else
returns-in-Return c =
    let h = c.args.here.now in
    let x = context_of h in
    let n = c.args.next in
    let m = c.args.of.now.mark in
    let at = c.in-Return in
    stays_so h c.requires (after n x (stmt_of c.args.of.now)) (ap (after n x) (ap (stmt_kind m) at.is))

pub returns-in-Empty : goal.returns-in-Empty
unfolding stmt_kind stmt_row held_else
returns-in-Empty c =
    let h = c.args.here.now in
    let x = context_of h in
    let n = c.args.next in
    let m = c.args.of.now.mark in
    let at = c.in-Empty in
    stays_so h c.requires (after n x (stmt_of c.args.of.now)) (ap (after n x) (ap (stmt_kind m) at.is))

pub returns-in-If : goal.returns-in-If
returns-in-If c =
    let h = c.args.here.now in
    let x = context_of h in
    let n = c.args.next in
    let m = c.args.of.now.mark in
    let at = c.in-If in
    stays_so h c.requires (after n x (stmt_of c.args.of.now)) (ap (after n x) (ap (stmt_kind m) at.is ∙ stmt_kind-If _ m at.field-0 at.field-1 at.field-2))

pub returns-in-Block : goal.returns-in-Block
returns-in-Block c =
    let h = c.args.here.now in
    let x = context_of h in
    let n = c.args.next in
    let m = c.args.of.now.mark in
    let at = c.in-Block in
    stays_so h c.requires (after n x (stmt_of c.args.of.now)) (ap (after n x) (ap (stmt_kind m) at.is ∙ stmt_kind-Block _ m at.field-0))

pub returns-in-Sync : goal.returns-in-Sync
returns-in-Sync c =
    let h = c.args.here.now in
    let x = context_of h in
    let n = c.args.next in
    let m = c.args.of.now.mark in
    let at = c.in-Sync in
    stays_so h c.requires (after n x (stmt_of c.args.of.now)) (ap (after n x) (ap (stmt_kind m) at.is ∙ stmt_kind-Sync _ m at.field-0 at.field-1))
