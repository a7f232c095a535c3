use Rattle.std.proofs.Common.{sym, ap, ◌∙◌, length}
use Rattle.jr_ast.specs.View as view
use Rattle.jr_ast.specs.Nodes as pure
use Rattle.jr_paths_nodes.proofs.MemberWrites.{given_counted}
use Rattle.jr_paths_nodes.proofs.member_writes.argument_count.Goals as goal

pub returns-in-Some : goal.returns-in-Some
returns-in-Some g c = given_counted _ c.in-Some.args c.len.result c.len.ensures ∙ sym (ap (λ a. length (pure.args_children (view.args_of a))) c.in-Some.is)
