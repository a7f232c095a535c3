use Rattle.jr_paths_nodes.proofs.Seeking.{kept_found, found_in, passed_over, members-members_of}
use Rattle.jr_ast.specs.Nodes as pure
use Rattle.jr_ast.specs.View.{member_of}
use Rattle.jr_paths_nodes.proofs.seeks.Seek.members.Goals as goal

pub returns-in-Found : goal.returns-in-Found
returns-in-Found g c = kept_found c.args.self c.in-Found.found c.in-Found.is _

pub returns-then-left-parts : goal.returns-then-left-parts
returns-then-left-parts g c =
    found_in (λ x. pure.member (member_of x)) _ c.args.parts.now (members-members_of _) c.args.self c.in-Left.left c.in-Left.is c.index-parts-left.result c.if-left-parts.true c.index-parts-left.is

pub returns-else-left-parts : goal.returns-else-left-parts
returns-else-left-parts g c =
    passed_over (λ x. pure.member (member_of x)) _ c.args.parts.now (members-members_of _) c.args.self c.in-Left.left c.in-Left.is c.if-left-parts.false
