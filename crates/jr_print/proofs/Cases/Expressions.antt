-- Expressions and their texts.
use Rattle.std.proofs.Common.{◌≡◌, true, false, refl}
use Rattle.std.specs.Prelude.{codes}
use Rattle.std.specs.Fmt.{digits}
use Rattle.jr_ast.specs.declared.operators.UnOp.TheVariants.{Plus, Not}
use Rattle.jr_ast.specs.declared.operators.BinOp.TheVariants.{Or, And, Eq, Ne, Lt, Gt, Le, Ge, Add, Sub, Mul, Div, Rem}
use Rattle.jr_ast.specs.declared.operators.BumpOp.TheVariants.{PreInc, PreDec, PostInc, PostDec}
use Rattle.jr_ast.specs.Tree.{null, field, super_field, this, class_literal, call, super_call, create, paren, cast, unary, bump, binary, assign, compound, no_target, on, end, more}
use Rattle.jr_print.specs.ExpressionText.{printed}
use Rattle.jr_print.proofs.Cases.Forms.{w, v, n, bool, null_value, str, minus, ty, ty_in}

sum_of_negations : printed (binary tt Add (minus (paren tt (minus (v (codes "a"))))) (n 1)) ≡ codes "-(-a) + 1"
unfolding digits
sum_of_negations = refl

two_minus_signs : printed (minus (minus (v (codes "a")))) ≡ codes "- -a"
two_minus_signs = refl

two_plus_signs : printed (unary tt Plus (unary tt Plus (v (codes "a")))) ≡ codes "+ +a"
two_plus_signs = refl

signs_that_differ : printed (unary tt Plus (minus (unary tt Plus (v (codes "a"))))) ≡ codes "+-+a"
signs_that_differ = refl

minus_of_a_decrement : printed (minus (bump tt PreDec (v (codes "a")))) ≡ codes "- --a"
minus_of_a_decrement = refl

plus_of_an_increment : printed (unary tt Plus (bump tt PreInc (v (codes "a")))) ≡ codes "+ ++a"
plus_of_an_increment = refl

minus_of_an_increment : printed (minus (bump tt PreInc (v (codes "a")))) ≡ codes "-++a"
minus_of_an_increment = refl

minus_of_a_field_of_a_negation : printed (minus (field tt (minus (v (codes "a"))) (w (codes "f")))) ≡ codes "- -a.f"
minus_of_a_field_of_a_negation = refl

difference_from_a_negative : printed (binary tt Sub (v (codes "a")) (minus (n 1))) ≡ codes "a - -1"
unfolding digits
difference_from_a_negative = refl

increments : printed (binary tt Add (bump tt PostInc (v (codes "a"))) (bump tt PreInc (v (codes "b")))) ≡ codes "a++ + ++b"
increments = refl

decrements : printed (binary tt Sub (bump tt PostDec (v (codes "a"))) (bump tt PreDec (v (codes "b")))) ≡ codes "a-- - --b"
decrements = refl

two_nots : printed (unary tt Not (unary tt Not (v (codes "a")))) ≡ codes "!!a"
two_nots = refl

cast_of_a_not : printed (cast tt (ty (codes "K")) (unary tt Not (v (codes "a")))) ≡ codes "(K) !a"
cast_of_a_not = refl

cast_to_a_member_class : printed (cast tt (ty_in (codes "A") (codes "K")) (v (codes "b"))) ≡ codes "(A.K) b"
cast_to_a_member_class = refl

class_literal_of_a_member_class : printed (class_literal tt (ty_in (codes "a") (codes "b"))) ≡ codes "a.b.class"
class_literal_of_a_member_class = refl

call_through_super : printed (super_call tt (w (codes "m")) (more (n 1) (more (v (codes "a")) end))) ≡ codes "super.m(1, a)"
unfolding digits
call_through_super = refl

field_of_what_was_made : printed (field tt (create tt (ty_in (codes "O") (codes "K")) (more (n 1) (more (n 2) end))) (w (codes "f"))) ≡ codes "new O.K(1, 2).f"
unfolding digits
field_of_what_was_made = refl

made_of_one : printed (create tt (ty (codes "K")) (more (v (codes "a")) end)) ≡ codes "new K(a)"
made_of_one = refl

least_number : printed (minus (n 2147483648)) ≡ codes "-2147483648"
unfolding digits
least_number = refl

field_of_a_number : printed (field tt (n 1) (w (codes "x"))) ≡ codes "1 .x"
unfolding digits
field_of_a_number = refl

call_on_a_number : printed (call tt (on (n 10)) (w (codes "m")) end) ≡ codes "10 .m()"
unfolding digits
call_on_a_number = refl

field_of_a_number_in_parentheses : printed (field tt (paren tt (n 0)) (w (codes "x"))) ≡ codes "(0).x"
unfolding digits
field_of_a_number_in_parentheses = refl

call_on_a_field : printed (call tt (on (field tt (v (codes "a")) (w (codes "b")))) (w (codes "m")) (more (v (codes "x")) (more (v (codes "y")) (more (v (codes "z")) end)))) ≡ codes "a.b.m(x, y, z)"
call_on_a_field = refl

call_of_its_own : printed (call tt no_target (w (codes "m")) end) ≡ codes "m()"
call_of_its_own = refl

words : printed (binary tt Eq (this tt) null_value) ≡ codes "this == null"
words = refl

truths : printed (binary tt Or (bool true) (bool false)) ≡ codes "true || false"
truths = refl

field_of_super : printed (super_field tt (w (codes "x"))) ≡ codes "super.x"
field_of_super = refl

string_with_an_escape : printed (str (codes "a\\n\\\"")) ≡ codes "\"a\\n\\\"\""
string_with_an_escape = refl

assignment : printed (assign tt (v (codes "a")) (assign tt (v (codes "b")) (v (codes "c")))) ≡ codes "a = b = c"
assignment = refl

compound_assignments : printed (compound tt Add (v (codes "a")) (compound tt Sub (v (codes "b")) (compound tt Mul (v (codes "c")) (compound tt Div (v (codes "d")) (compound tt Rem (v (codes "e")) (v (codes "f"))))))) ≡ codes "a += b -= c *= d /= e %= f"
compound_assignments = refl

logical_operators : printed (binary tt Or (v (codes "a")) (binary tt And (v (codes "b")) (binary tt Ne (v (codes "c")) (v (codes "d"))))) ≡ codes "a || b && c != d"
logical_operators = refl

relations : printed (binary tt Eq (binary tt Lt (v (codes "a")) (v (codes "b"))) (binary tt Gt (v (codes "c")) (v (codes "d")))) ≡ codes "a < b == c > d"
relations = refl

loose_relations : printed (binary tt Eq (binary tt Le (v (codes "a")) (v (codes "b"))) (binary tt Ge (v (codes "c")) (v (codes "d")))) ≡ codes "a <= b == c >= d"
loose_relations = refl

products : printed (binary tt Rem (binary tt Div (binary tt Mul (v (codes "a")) (v (codes "b"))) (v (codes "c"))) (v (codes "d"))) ≡ codes "a * b / c % d"
products = refl
