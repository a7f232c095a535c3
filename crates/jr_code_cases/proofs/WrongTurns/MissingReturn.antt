-- class A { static boolean b; static int go() { if (b) return 1; } }
use Rattle.std.proofs.Common.{[], ◌∷◌, None, Some, refl, arith}
use Rattle.std.specs.Prelude.{codes}
use Rattle.jr_ast.specs.declared.operators.ModWord.TheVariants as word
use Rattle.jr_ast.specs.Tree as tree
use Rattle.jr_ast.specs.StatementTree as statement
use Rattle.jr_ast.specs.MemberTree as syntax
use Rattle.jr_grammar.specs.Bare.{Bare}
use Rattle.jr_grammar.proofs.Cases.Forms.{w, v}
use Rattle.jr_table.specs.declared.rules.Rule.TheVariants as rule
use Rattle.jr_code_cases.specs.WrongTurns.{text_of_missing_return, MissingReturn}
use Rattle.jr_code_cases.proofs.Computing.{computing}
use Rattle.jr_code_cases.proofs.Showing.{refuses}

abbrev unit : syntax.Unit Bare
unit = record { mark = tt; package_name = []; classes = ((syntax.class tt [] (w (codes "A")) None (syntax.more (syntax.field tt ((record { mark = tt; word = word.Static }) ∷ []) (tree.boolean tt) (w (codes "b")) None) (syntax.more (syntax.method tt ((record { mark = tt; word = word.Static }) ∷ []) (Some (tree.int tt)) (w (codes "go")) [] (statement.more (statement.branch tt (v (codes "b")) (statement.return tt (Some (tree.number tt 1))) statement.no_else) statement.end)) syntax.end))) ∷ []) }

pub refused : MissingReturn
unfolding computing
refused = refuses text_of_missing_return unit refl refl (grind arith) refl rule.MissingReturn (λ s. refl)
