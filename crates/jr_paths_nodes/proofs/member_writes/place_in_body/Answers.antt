use Rattle.jr_paths_nodes.proofs.MemberWrites.{ctor_placed, method_placed}
use Rattle.jr_paths_nodes.proofs.member_writes.place_in_body.Goals as goal

pub returns-in-Method : goal.returns-in-Method
returns-in-Method g c m =
    rw c.in-Method.is
    (method_placed _ m c.in-Method.modifiers c.in-Method.ret c.in-Method.name c.in-Method.params c.in-Method.body c.len.result c.names.result c.len-in-Method.result c.args.number
    c.left_after.result c.left_after-in-Method.result c.left_after-in-Method-2.result
    c.len.ensures c.names.ensures c.len-in-Method.ensures c.left_after.ensures c.left_after-in-Method.ensures c.left_after-in-Method-2.ensures)

pub returns-in-Ctor : goal.returns-in-Ctor
returns-in-Ctor g c m =
    rw c.in-Ctor.is
    (ctor_placed _ m c.in-Ctor.modifiers c.in-Ctor.name c.in-Ctor.params c.in-Ctor.parent_args c.in-Ctor.body c.argument_count.result c.args.number
    c.place_in_args.result c.left_after-in-Ctor.result c.argument_count.ensures (rw c.in-Ctor.is at c.place_in_args.ensures m) c.left_after-in-Ctor.ensures)
