use Rattle.std.proofs.Common.{◌≡◌, ◌<◌, ◌≤◌, subst}
use contract.BorrowLft.{⊑_static}
use denote.Hole.Carrier.{out}
use denote.Hole.Rolled.{depth}
use denote.Param.Weighed.{most}
use Rattle.jr_ast.specs.declared.stmts.StmtKind.TheBlock as block
use Rattle.jr_ast.proofs.stmts.StmtKind.TheLaws.{the_size}
use Rattle.jr_ast.proofs.stmts.Stmt.TheLaws as whole
use Rattle.jr_ast.proofs.Dropped.{falls_to_kind, holds_less, last_falls, only_falls}
use Rattle.jr_ast.proofs.+stmt_drop.Goals as goal

pub jr_ast++stmts++Stmt+Destruct::drop-drop-requires-2 : goal.jr_ast++stmts++Stmt+Destruct::drop-drop-requires-2
jr_ast++stmts++Stmt+Destruct::drop-drop-requires-2 g t c κs = λ o.
    let d : whole.the_size g.row.A g.A.laws c.args.arg1 ≡ t = c.decreases in
    (subst (λ n. the_size g.row.A g.A.laws c.args.arg1.kind < n) d (falls_to_kind _ c.args.arg1), o)

pub stmts::StmtKind::drop-drop-body-requires : goal.stmts::StmtKind::drop-drop-body-requires
unfolding block.the_depth depth out
stmts::StmtKind::drop-drop-body-requires g t c κs = λ o.
    let d : the_size g.row.A g.A.laws c.args.self ≡ t = c.decreases in
    let left : the_size g.row.A g.A.laws c.loop-self.self ≤ t = subst (λ n. the_size g.row.A g.A.laws c.loop-self.self ≤ n) d c.loop-self.invariant in
    let falls = subst (λ b. most (block.the_depth g.row.A.Denot block.member-Stmt) b.items < t) (block.seen-the_row-Stmt-0 g.row.A.Denot c.in-Block._body)
    (only_falls _ t (holds_less _ _ _ t c.in-Block.is left)) in
    (((falls, tt), tt), (whole.the_within g.row.A κs.0 o, ⊑_static _))

pub stmts::StmtKind::drop-drop-body-requires-in-Sync :
    goal.stmts::StmtKind::drop-drop-body-requires-in-Sync
unfolding block.the_depth depth out
stmts::StmtKind::drop-drop-body-requires-in-Sync g t c κs = λ o.
    let d : the_size g.row.A g.A.laws c.args.self ≡ t = c.decreases in
    let left : the_size g.row.A g.A.laws c.loop-self.self ≤ t = subst (λ n. the_size g.row.A g.A.laws c.loop-self.self ≤ n) d c.loop-self.invariant in
    let falls = subst (λ b. most (block.the_depth g.row.A.Denot block.member-Stmt) b.items < t) (block.seen-the_row-Stmt-0 g.row.A.Denot c.in-Sync._body)
    (last_falls _ t (holds_less _ _ _ t c.in-Sync.is left)) in
    (((falls, tt), tt), (whole.the_within g.row.A κs.0 o, ⊑_static _))
