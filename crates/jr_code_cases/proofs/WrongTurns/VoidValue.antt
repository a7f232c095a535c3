-- class A { static void m() { } static int go() { int x = m(); return x; } }
use Rattle.std.proofs.Common.{[], ◌∷◌, None, Some, false, refl, arith}
use Rattle.std.specs.Prelude.{codes}
use Rattle.jr_ast.specs.declared.operators.ModWord.TheVariants as word
use Rattle.jr_ast.specs.Tree as tree
use Rattle.jr_ast.specs.StatementTree as statement
use Rattle.jr_ast.specs.MemberTree as syntax
use Rattle.jr_grammar.specs.Bare.{Bare}
use Rattle.jr_grammar.proofs.Cases.Forms.{w, v}
use Rattle.jr_table.specs.declared.rules.Rule.TheVariants as rule
use Rattle.jr_code_cases.specs.WrongTurns.{text_of_void_value, VoidValue}
use Rattle.jr_code_cases.proofs.Computing.{computing}
use Rattle.jr_code_cases.proofs.Showing.{refuses}

abbrev unit : syntax.Unit Bare
unit = record { mark = tt; package_name = []; classes = ((syntax.class tt [] (w (codes "A")) None (syntax.more (syntax.method tt ((record { mark = tt; word = word.Static }) ∷ []) None (w (codes "m")) [] statement.end) (syntax.more (syntax.method tt ((record { mark = tt; word = word.Static }) ∷ []) (Some (tree.int tt)) (w (codes "go")) [] (statement.more (statement.local tt false (tree.int tt) (w (codes "x")) (tree.call tt tree.no_target (w (codes "m")) tree.end)) (statement.more (statement.return tt (Some (v (codes "x")))) statement.end))) syntax.end))) ∷ []) }

pub refused : VoidValue
unfolding computing
refused = refuses text_of_void_value unit refl refl (grind arith) refl rule.VoidValue (λ s. refl)
