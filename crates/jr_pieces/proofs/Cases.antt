-- Small pieces of code, each a sentence of the rules: the nearest statement, what bars a place, what
-- is evaluated before it. Marks are numbers and first bytes.
use Rattle.std.proofs.Common.{◌≡◌, ℕ, false, [], ◌∷◌, Some, None, length, refl}
use Rattle.jr_ast.specs.declared.operators.BinOp.TheVariants.{And, Add}
use Rattle.jr_ast.specs.Tree as tree
use Rattle.jr_ast.specs.StatementTree as statement
use Rattle.jr_cover.specs.Sites.{What}
use Rattle.jr_cover_cases.specs.Samples.{X, word, name, dot, args, class_type, reading, only, two, at}
use Rattle.jr_pieces.specs.Ways.{ExpWay, here, in_front, in_argument, in_created, in_right, in_assigned, in_value, in_change, first_argument, later_argument}
use Rattle.jr_pieces.specs.Ways.{StmtWay, in_init, in_eval, in_condition, in_then, in_else, in_turning, in_body, in_block, in_lock, in_locked, ListWay, first, later}
use Rattle.jr_table.specs.Decls.{head}
use Rattle.jr_table.specs.HeadRules.{plain}
use Rattle.jr_table.specs.Context.{locals_in}
use Rattle.jr_pieces.specs.Standings.{Standing, at_list}
use Rattle.jr_pieces.specs.Nearest.{nearest}
use Rattle.jr_pieces.specs.Uses.{valued, assigned, stated, exp_use, list_use}
use Rattle.jr_pieces.specs.Bars.{exp_barred, stmt_barred, list_barred}
use Rattle.jr_pieces.specs.Before.{exp_before, stmt_before, list_before, between}

-- ---- what is evaluated before

-- of `p.f=x` in front of x: the operand alone, as the test for null and the store come behind
abbrev in_store : ExpWay (name 3) (tree.assign 70 (dot (name 2) 20) (name 3))
in_store = in_value 70 (dot (name 2) 20) (name 3) here

before_store : exp_before X in_store ≡ at 2 (What.reads 2) ∷ []
before_store = refl

-- of `p.f+=x`: the operand, the test and the load
abbrev in_sum : ExpWay (name 3) (tree.compound 70 Add (dot (name 2) 20) (name 3))
in_sum = in_change 70 Add (dot (name 2) 20) (name 3) here

before_sum : exp_before X in_sum ≡ at 2 (What.reads 2) ∷ at 20 What.checks ∷ at 20 (What.loads 20) ∷ []
before_sum = refl

-- of `new C(x,y)` in front of y: what is allocated, and x
abbrev in_creation : ExpWay (name 3) (tree.create 71 class_type (tree.more (name 2) (args (name 3))))
in_creation = in_created 71 class_type (tree.more (name 2) (args (name 3))) (later_argument (name 2) (args (name 3)) (first_argument (name 3) tree.end here))

before_creation : exp_before X in_creation ≡ at 71 What.creates ∷ at 2 (What.reads 2) ∷ []
before_creation = refl

-- of `p.m(x)` in front of x: p, and not the test for null
abbrev in_call : ExpWay (name 3) (tree.call 70 (tree.on (name 2)) (word 60) (args (name 3)))
in_call = in_argument 70 (tree.on (name 2)) (word 60) (args (name 3)) (first_argument (name 3) tree.end here)

before_call : exp_before X in_call ≡ at 2 (What.reads 2) ∷ []
before_call = refl

-- within a monitor: the lock, its test, and that the monitor is entered
abbrev in_monitor : StmtWay (name 3) (statement.sync 72 (name 2) (only (reading 3)))
in_monitor = in_locked 72 (name 2) (only (reading 3)) (first (reading 3) statement.end (in_eval 70 (name 3) here))

before_monitor : stmt_before X in_monitor ≡ at 2 (What.reads 2) ∷ at 72 What.checks ∷ at 72 What.enters ∷ []
before_monitor = refl

-- the lock itself: nothing
abbrev in_its_lock : StmtWay (name 2) (statement.sync 72 (name 2) (only (reading 3)))
in_its_lock = in_lock 72 (name 2) (only (reading 3)) here

before_lock : stmt_before X in_its_lock ≡ []
before_lock = refl

-- the condition of a loop: the loop's own site
abbrev in_loop : StmtWay (name 2) (statement.loop 73 (name 2) (reading 3))
in_loop = in_turning 73 (name 2) (reading 3) here

before_loop : stmt_before X in_loop ≡ at 73 What.loops ∷ []
before_loop = refl

-- behind `else`: the condition and the first branch
abbrev in_other : StmtWay (name 4) (statement.branch 74 (name 2) (reading 3) (statement.otherwise (reading 4)))
in_other = in_else 74 (name 2) (reading 3) (reading 4) (in_eval 70 (name 4) here)

before_other : stmt_before X in_other ≡ at 2 (What.reads 2) ∷ at 3 (What.reads 3) ∷ []
before_other = refl

-- in the second of two statements: the whole first
abbrev in_second : ListWay (name 3) (two (reading 2) (reading 3))
in_second = later (reading 2) (only (reading 3)) (first (reading 3) statement.end (in_eval 70 (name 3) here))

before_second : list_before X in_second ≡ at 2 (What.reads 2) ∷ []
before_second = refl

-- ---- what bars a place

abbrev mark : ℕ → ℕ → ℕ
mark m base = m

-- the condition of `if` is straight, its branches aren't
abbrev branch : statement.Stmt ℕ
branch = statement.branch 74 (name 2) (reading 3) statement.no_else

abbrev condition : StmtWay (name 2) branch
condition = in_condition 74 (name 2) (reading 3) statement.no_else here

condition_is_straight : stmt_barred mark 0 None condition ≡ None
condition_is_straight = refl

abbrev first_branch : StmtWay (name 3) branch
first_branch = in_then 74 (name 2) (reading 3) statement.no_else (in_eval 70 (name 3) here)

branch_is_barred : stmt_barred mark 0 None first_branch ≡ Some 74
branch_is_barred = refl

-- of `while(a)if(b)..` the condition of `if` is barred by the loop
abbrev inner_condition : StmtWay (name 2) (statement.loop 73 (name 4) branch)
inner_condition = in_body 73 (name 4) branch (in_condition 74 (name 2) (reading 3) statement.no_else here)

by_the_loop : stmt_barred mark 0 None inner_condition ≡ Some 73
by_the_loop = refl

-- of a condition `a&&b` the left operand is straight, the right one barred by the operator
abbrev right_operand : ExpWay (name 3) (tree.binary 75 And (name 2) (name 3))
right_operand = in_right 75 And (name 2) (name 3) here

by_the_operator : exp_barred mark 0 None right_operand ≡ Some 75
by_the_operator = refl

abbrev sum_operand : ExpWay (name 3) (tree.binary 75 Add (name 2) (name 3))
sum_operand = in_right 75 Add (name 2) (name 3) here

no_operator : exp_barred mark 0 None sum_operand ≡ None
no_operator = refl

-- the innermost is told: of `if(a)x=b&&c` the operator
abbrev in_branch : StmtWay (name 3) (statement.branch 74 (name 4) (statement.eval 70 (tree.assign 76 (name 5) (tree.binary 75 And (name 2) (name 3)))) statement.no_else)
in_branch = in_then 74 (name 4) (statement.eval 70 (tree.assign 76 (name 5) (tree.binary 75 And (name 2) (name 3)))) statement.no_else
    (in_eval 70 (tree.assign 76 (name 5) (tree.binary 75 And (name 2) (name 3)))
    (in_value 76 (name 5) (tree.binary 75 And (name 2) (name 3)) right_operand))

innermost_is_told : stmt_barred mark 0 None in_branch ≡ Some 75
innermost_is_told = refl

-- blocks and monitors bar nothing
abbrev in_blocks : ListWay (name 3) (only (statement.block 77 (only (statement.sync 72 (name 2) (only (reading 3))))))
in_blocks = first (statement.block 77 (only (statement.sync 72 (name 2) (only (reading 3))))) statement.end
    (in_block 77 (only (statement.sync 72 (name 2) (only (reading 3)))) (first (statement.sync 72 (name 2) (only (reading 3))) statement.end in_monitor))

blocks_are_straight : list_barred mark 0 None in_blocks ≡ None
blocks_are_straight = refl

-- ---- between a declaration and a read

straight_between : between X (list_barred mark 0 None in_blocks) in_blocks ≡ at 2 (What.reads 2) ∷ at 72 What.checks ∷ at 72 What.enters ∷ []
straight_between = refl

-- in a branch: all of the statement that holds it
abbrev in_a_branch : ListWay (name 3) (two branch (reading 4))
in_a_branch = first branch (only (reading 4)) (in_then 74 (name 2) (reading 3) statement.no_else (in_eval 70 (name 3) here))

barred_between : between X (list_barred mark 0 None in_a_branch) in_a_branch ≡ at 2 (What.reads 2) ∷ at 3 (What.reads 3) ∷ []
barred_between = refl

-- ---- the nearest statement

abbrev start : Standing
start = record {
  next = 0;
  context = plain (head (record { outer = None; name = [] })) false;
  base = 0;
}

-- through blocks and monitors: the innermost element
nearest_in_blocks : (nearest mark start in_blocks).stmt ≡ reading 3
nearest_in_blocks = refl

-- a branch without braces is no element of a list: the `if` is
nearest_of_branch : (nearest mark start in_a_branch).stmt ≡ branch
nearest_of_branch = refl

rest_behind_branch : (nearest mark start in_a_branch).rest ≡ only (reading 4)
rest_behind_branch = refl

-- behind a declaration its local is in scope, and the next one has a further number
abbrev declaration : statement.Stmt ℕ
declaration = statement.local 78 false (tree.int 79) (word 5) (name 2)

abbrev behind_declaration : ListWay (name 3) (two declaration (reading 3))
behind_declaration = later declaration (only (reading 3)) (first (reading 3) statement.end (in_eval 70 (name 3) here))

number_behind : (nearest mark start behind_declaration).at.next ≡ 1
unfolding locals_in
number_behind = refl

scope_behind : length (nearest mark start behind_declaration).at.context.locals ≡ 1
scope_behind = refl

-- in its initializer, too
abbrev own_initializer : ListWay (name 2) (two declaration (reading 3))
own_initializer = first declaration (only (reading 3)) (in_init 78 false (tree.int 79) (word 5) (name 2) here)

scope_within : length (at_list mark start own_initializer).context.locals ≡ 1
scope_within = refl

number_at_declaration : (nearest mark start own_initializer).at.next ≡ 0
number_at_declaration = refl

-- ---- uses

use_of_value : exp_use stated in_store ≡ valued
use_of_value = refl

use_of_statement : list_use in_second ≡ stated
use_of_statement = refl

abbrev target : ExpWay (dot (name 2) 20) (tree.assign 70 (dot (name 2) 20) (name 3))
target = in_assigned 70 (dot (name 2) 20) (name 3) here

use_of_target : exp_use stated target ≡ assigned
use_of_target = refl

abbrev pub operand : ExpWay (name 2) (tree.assign 70 (dot (name 2) 20) (name 3))
operand = in_assigned 70 (dot (name 2) 20) (name 3) (in_front 50 (name 2) (word 20) here)

pub use_of_operand : exp_use stated operand ≡ valued
use_of_operand = refl
