use Rattle.jr_paths_nodes.proofs.MemberWrites.{args_placed}
use Rattle.jr_paths_nodes.proofs.member_writes.place_in_args.Goals as goal

pub returns-in-Ctor : goal.returns-in-Ctor
returns-in-Ctor g c m =
    rw c.in-Ctor.is
    (args_placed _ m c.in-Ctor.modifiers c.in-Ctor.name c.in-Ctor.params c.in-Ctor.parent_args c.in-Ctor.body c.len.result c.len-in-Ctor.result c.args.number
    c.left_after.result c.left_after-in-Ctor.result c.left_after-in-Ctor-2.result c.len.ensures c.len-in-Ctor.ensures c.left_after.ensures c.left_after-in-Ctor.ensures c.left_after-in-Ctor-2.ensures)
