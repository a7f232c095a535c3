-- What words of the language are in resolved code: characters of a string literal, operators.
use Rattle.std.specs.Prelude.{ℕ, Bool, true, false, cond, List, [], ◌∷◌, Option, Some, None}
use Rattle.std.specs.Prelude.{nat_eq}
use Rattle.jr_ast.specs.declared.operators.UnOp.{UnOp}
use Rattle.jr_ast.specs.declared.operators.UnOp.TheVariants.{Plus, Minus, Not}
use Rattle.jr_ast.specs.declared.operators.BinOp.{BinOp}
use Rattle.jr_ast.specs.declared.operators.BinOp.TheVariants.{Or, And, Eq, Ne, Lt, Gt, Le, Ge, Add}
use Rattle.jr_ast.specs.declared.operators.BinOp.TheVariants.{Sub, Mul, Div, Rem}
use Rattle.jr_ast.specs.declared.operators.BumpOp.{BumpOp}
use Rattle.jr_ast.specs.declared.operators.BumpOp.TheVariants.{PreInc, PreDec, PostInc, PostDec}
use Rattle.jr_runs.specs.Keys.{Keys}
use Rattle.jr_runs.specs.Core.{Arithmetic, add, subtract, multiply, divide, remainder, less}
use Rattle.jr_runs.specs.Core.{greater, at_most, at_least, arithmetic, comparison, equal, different}
use Rattle.jr_runs.specs.Core.{Sign, plus, minus, complement, Bump, pre_increment, pre_decrement}
use Rattle.jr_runs.specs.Core.{post_increment, post_decrement, Exp, binary, both, either}

-- what a string literal stands for: its characters with escapes read (JLS 3.10.6); a code is that
-- of a character's byte
abbrev pub escaped : ℕ → ℕ
escaped c = cond (nat_eq c 98) 8
    (cond (nat_eq c 116) 9 (cond (nat_eq c 110) 10
    (cond (nat_eq c 102) 12 (cond (nat_eq c 114) 13 c))))

-- is_behind: stands it behind a backslash that begins an escape?
abbrev pub unescaped : Bool → List ℕ → List ℕ
unescaped is_behind [] = []
unescaped true (c ∷ cs) = escaped c ∷ unescaped false cs
unescaped false (c ∷ cs) = cond (nat_eq c 92) (unescaped true cs) (c ∷ unescaped false cs)

abbrev pub sign_of : UnOp → Sign
sign_of Plus = plus
sign_of Minus = minus
sign_of Not = complement

abbrev pub bump_of : BumpOp → Bump
bump_of PreInc = pre_increment
bump_of PreDec = pre_decrement
bump_of PostInc = post_increment
bump_of PostDec = post_decrement

-- the operators with a compound assignment (JLS 15.26.2, without those on bits)
abbrev pub arithmetic_of : BinOp → Option Arithmetic
arithmetic_of Or = None
arithmetic_of And = None
arithmetic_of Eq = None
arithmetic_of Ne = None
arithmetic_of Lt = None
arithmetic_of Gt = None
arithmetic_of Le = None
arithmetic_of Ge = None
arithmetic_of Add = Some add
arithmetic_of Sub = Some subtract
arithmetic_of Mul = Some multiply
arithmetic_of Div = Some divide
arithmetic_of Rem = Some remainder

abbrev pub operation : {K : Keys} → K.place → BinOp → Exp K → Exp K → Exp K
operation p Or a b = either (Some p) a b
operation p And a b = both (Some p) a b
operation p Eq a b = binary (Some p) equal a b
operation p Ne a b = binary (Some p) different a b
operation p Lt a b = binary (Some p) (comparison less) a b
operation p Gt a b = binary (Some p) (comparison greater) a b
operation p Le a b = binary (Some p) (comparison at_most) a b
operation p Ge a b = binary (Some p) (comparison at_least) a b
operation p Add a b = binary (Some p) (arithmetic add) a b
operation p Sub a b = binary (Some p) (arithmetic subtract) a b
operation p Mul a b = binary (Some p) (arithmetic multiply) a b
operation p Div a b = binary (Some p) (arithmetic divide) a b
operation p Rem a b = binary (Some p) (arithmetic remainder) a b
