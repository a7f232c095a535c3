-- Short names for the parts of trees without marks.
use Rattle.std.proofs.Common.{ℕ, Bool, List, Some, None}
use Rattle.jr_ast.specs.Tree.{Word, TypeName, named, Exp, name, number, truth, null, string, unary}
use Rattle.jr_ast.specs.StatementTree.{Stmt, return}
use Rattle.jr_ast.specs.declared.operators.UnOp.TheVariants.{Minus}
use Rattle.jr_ast.specs.declared.operators.ModWord.{ModWord}
use Rattle.jr_ast.specs.MemberTree.{Modifier}

abbrev pub Bare : Type 0
Bare = Unit {0}

abbrev pub w : List ℕ → Word Bare
w text = record { mark = tt; text = text }

-- a variable
abbrev pub v : List ℕ → Exp Bare
v text = name tt (w text)

abbrev pub n : ℕ → Exp Bare
n value = number tt value

abbrev pub bool : Bool → Exp Bare
bool value = truth tt value

abbrev pub null_value : Exp Bare
null_value = null tt

abbrev pub str : List ℕ → Exp Bare
str text = string tt text

abbrev pub return_alone : Stmt Bare
return_alone = return tt None

abbrev pub minus : Exp Bare → Exp Bare
minus e = unary tt Minus e

-- a class, and one behind its outer class
abbrev pub ty : List ℕ → TypeName Bare
ty text = named tt None (w text)

abbrev pub ty_in : List ℕ → List ℕ → TypeName Bare
ty_in outer text = named tt (Some (w outer)) (w text)

abbrev pub modifier : ModWord → Modifier Bare
modifier word = record { mark = tt; word = word }
