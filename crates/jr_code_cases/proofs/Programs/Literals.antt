-- class A { static int go() { String s = "ab"; String t = "ab";
-- if (s == t) return 1; return 0; } }
use Rattle.std.proofs.Common.{[], ◌∷◌, None, Some, false, refl, arith}
use Rattle.std.specs.Prelude.{codes}
use Rattle.jr_ast.specs.declared.operators.ModWord.TheVariants as word
use Rattle.jr_ast.specs.declared.operators.BinOp.TheVariants as operator
use Rattle.jr_ast.specs.Tree as tree
use Rattle.jr_ast.specs.StatementTree as statement
use Rattle.jr_ast.specs.MemberTree as syntax
use Rattle.jr_grammar.specs.Bare.{Bare}
use Rattle.jr_grammar.proofs.Cases.Forms.{w, v, ty}
use Rattle.jr_code_cases.specs.Cases.{text_of_literals, Literals}
use Rattle.jr_code_cases.proofs.Computing.{computing}
use Rattle.jr_code_cases.proofs.Showing.{shows_only}

abbrev unit : syntax.Unit Bare
unit = record { mark = tt; package_name = []; classes = ((syntax.class tt [] (w (codes "A")) None (syntax.more (syntax.method tt ((record { mark = tt; word = word.Static }) ∷ []) (Some (tree.int tt)) (w (codes "go")) [] (statement.more (statement.local tt false (ty (codes "String")) (w (codes "s")) (tree.string tt (codes "ab"))) (statement.more (statement.local tt false (ty (codes "String")) (w (codes "t")) (tree.string tt (codes "ab"))) (statement.more (statement.branch tt (tree.binary tt operator.Eq (v (codes "s")) (v (codes "t"))) (statement.return tt (Some (tree.number tt 1))) statement.no_else) (statement.more (statement.return tt (Some (tree.number tt 0))) statement.end))))) syntax.end)) ∷ []) }

pub shown : Literals
unfolding computing
shown = shows_only text_of_literals unit refl refl (grind arith) refl (λ s. refl) refl (refl, refl, ((refl, refl), tt), tt) (record { object = refl; thread = refl; run = refl; start = refl }) _ _ _ refl (((tt, tt), tt), tt) 4 _ refl refl refl tt
