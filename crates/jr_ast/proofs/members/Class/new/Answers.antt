use Rattle.jr_ast.proofs.Rows.{class_of-roll}
use Rattle.jr_ast.proofs.members.Class.new.Goals as goal

pub returns : goal.returns
returns g c = class_of-roll _ c.args.mark c.args.modifiers c.args.name c.args.parent c.args.members
