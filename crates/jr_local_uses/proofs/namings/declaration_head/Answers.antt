use Rattle.std.proofs.Common.{List, sym, ap, ◌∙◌}
use Rattle.jr_text.specs.declared.spans.Span.{Span}
use Rattle.jr_ast.specs.declared.stmts.Stmt.{Stmt}
use Rattle.jr_ast.specs.View.{stmts_of}
use Rattle.jr_local_uses.specs.Heads as pure
use Rattle.jr_local_uses.proofs.Declaring.{no_head}
use Rattle.jr_local_uses.proofs.namings.declaration_head.Goals as goal

pub returns-in-None : goal.returns-in-None
returns-in-None c = no_head c.args.list.now c.in-None.ensures.cases

pub returns-in-Some : goal.returns-in-Some
returns-in-Some c = c.head_in.ensures ∙ ap (λ (xs : List (Stmt Span)). pure.declaration_head (stmts_of xs)) (sym c.in-Some.ensures.cases.0)
