use Rattle.std.proofs.Common.{◌==◌, sym, ap, ◌∙◌}
use Rattle.jr_ast.proofs.Rows.{class_of-out}
use Rattle.jr_cursor.specs.Names.{class_word}
use Rattle.jr_cursor.proofs.names.class_begins.Goals as goal

pub returns : goal.returns
returns c = c.begins_at.ensures ∙ sym (ap (λ d. (class_word d).mark.from == c.args.at) (class_of-out _ c.args.class.now))
