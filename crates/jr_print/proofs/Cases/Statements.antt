-- Statements and their texts.
use Rattle.std.proofs.Common.{◌≡◌, true, false, Some, refl}
use Rattle.std.specs.Prelude.{codes}
use Rattle.std.specs.Fmt.{digits}
use Rattle.jr_ast.specs.declared.operators.BinOp.TheVariants.{Add}
use Rattle.jr_ast.specs.Tree.{int, paren, binary, assign, call, no_target, end}
use Rattle.jr_ast.specs.StatementTree as S
use Rattle.jr_print.specs.StatementText.{printed_stmt}
use Rattle.jr_print.proofs.Cases.Forms.{w, v, n, bool, return_alone, minus, ty}

return_of_a_value : printed_stmt (S.return tt (Some (binary tt Add (minus (paren tt (minus (v (codes "a"))))) (n 1)))) ≡ codes "return -(-a) + 1;"
unfolding digits
return_of_a_value = refl

return_of_nothing : printed_stmt return_alone ≡ codes "return;"
return_of_nothing = refl

branches : printed_stmt (S.branch tt (v (codes "a")) return_alone (S.otherwise (S.block tt S.end))) ≡ codes "if (a) return; else { }"
branches = refl

branch_alone : printed_stmt (S.branch tt (v (codes "a")) (S.eval tt (call tt no_target (w (codes "m")) end)) S.no_else) ≡ codes "if (a) m();"
branch_alone = refl

loop_of_nothing : printed_stmt (S.loop tt (bool true) (S.empty tt)) ≡ codes "while (true) ;"
loop_of_nothing = refl

local_variable : printed_stmt (S.local tt false (int tt) (w (codes "x")) (n 0)) ≡ codes "int x = 0;"
unfolding digits
local_variable = refl

final_local_variable : printed_stmt (S.local tt true (ty (codes "K")) (w (codes "x")) (v (codes "y"))) ≡ codes "final K x = y;"
final_local_variable = refl

block_of_two : printed_stmt (S.block tt (S.more (S.empty tt) (S.more (S.eval tt (assign tt (v (codes "a")) (v (codes "b")))) S.end))) ≡ codes "{ ; a = b; }"
block_of_two = refl

lock : printed_stmt (S.sync tt (v (codes "a")) (S.more (S.empty tt) S.end)) ≡ codes "synchronized (a) { ; }"
lock = refl

lock_of_nothing : printed_stmt (S.sync tt (v (codes "a")) S.end) ≡ codes "synchronized (a) { }"
lock_of_nothing = refl
