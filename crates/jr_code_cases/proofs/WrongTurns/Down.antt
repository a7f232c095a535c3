-- class A { } class B extends A { static void go(A a) { B b = a; } }
use Rattle.std.proofs.Common.{[], ◌∷◌, None, Some, false, refl, arith}
use Rattle.std.specs.Prelude.{codes}
use Rattle.jr_ast.specs.declared.operators.ModWord.TheVariants as word
use Rattle.jr_ast.specs.StatementTree as statement
use Rattle.jr_ast.specs.MemberTree as syntax
use Rattle.jr_grammar.specs.Bare.{Bare}
use Rattle.jr_grammar.proofs.Cases.Forms.{w, v, ty}
use Rattle.jr_table.specs.declared.rules.Rule.TheVariants as rule
use Rattle.jr_code_cases.specs.WrongTurns.{text_of_down, Down}
use Rattle.jr_code_cases.proofs.Computing.{computing}
use Rattle.jr_code_cases.proofs.Showing.{refuses}

abbrev unit : syntax.Unit Bare
unit = record { mark = tt; package_name = []; classes = ((syntax.class tt [] (w (codes "A")) None syntax.end) ∷ (syntax.class tt [] (w (codes "B")) (Some (ty (codes "A"))) (syntax.more (syntax.method tt ((record { mark = tt; word = word.Static }) ∷ []) None (w (codes "go")) ((record { mark = tt; is_final = false; type = (ty (codes "A")); name = (w (codes "a")) }) ∷ []) (statement.more (statement.local tt false (ty (codes "B")) (w (codes "b")) (v (codes "a"))) statement.end)) syntax.end)) ∷ []) }

pub refused : Down
unfolding computing
refused = refuses text_of_down unit refl refl (grind arith) refl rule.TypeMismatch (λ s. refl)
