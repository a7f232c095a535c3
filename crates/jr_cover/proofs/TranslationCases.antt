-- What trees resolve to, as theorems by computation. Marks are numbers; a node's first byte is its mark, its last one the mark and 100.
use Rattle.std.proofs.Common.{◌≡◌, ℕ, ◌+◌, Bool, true, false, List, [], ◌∷◌, pos, negsuc, Option, Some, None, nat_lt, refl}
use Rattle.jr_ast.specs.declared.operators.ModWord.{ModWord}
use Rattle.jr_ast.specs.declared.operators.ModWord.TheVariants.{Static, Synchronized, Private}
use Rattle.jr_ast.specs.declared.operators.UnOp.TheVariants.{Minus}
use Rattle.jr_ast.specs.declared.operators.BinOp.TheVariants.{And, Add}
use Rattle.jr_ast.specs.declared.operators.BumpOp.TheVariants.{PostInc}
use Rattle.jr_ast.specs.Tree as tree
use Rattle.jr_ast.specs.Tree.{Word, TypeName}
use Rattle.jr_ast.specs.StatementTree as statement
use Rattle.jr_ast.specs.MemberTree as member
use Rattle.jr_ast.specs.MemberTree.{Modifier, Param, Members}
use Rattle.jr_runs.specs.Values.{int, truth, class_object}
use Rattle.jr_cover.specs.Facts.{Variable, is_local, is_static_field, is_instance_field, Called, is_static_method, is_instance_method, Facts}
use Rattle.jr_runs.specs.Core as core
use Rattle.jr_runs.specs.Core.{add, less, comparison, arithmetic, minus, post_increment, literal, this, read, assign, compound, bump, signed, binary, both, cast, static_call, instance_call, super_call, create, super_constructor, local, static_field, field_of, declare, eval, branch, loop, return, return_nothing, block, sync, empty}
use Rattle.jr_runs.specs.Translation.{unescaped}
use Rattle.jr_cover.specs.Translation.{exp_code}
use Rattle.jr_cover.specs.StatementTranslation.{stmt_code}
use Rattle.jr_cover.specs.MemberTranslation.{FieldFacts, Parent, method_code, constructor_code, default_constructor, initializers}
use Rattle.jr_runs.proofs.Sample.{K, num, args_of, listed, value_of}

-- Words with marks below 10 mean locals, from 10 on static fields, from 20 on instance fields.
abbrev variable_at : Bool → Bool → ℕ → Variable K
variable_at true b a = is_local a
variable_at false true a = is_static_field a
variable_at false false a = is_instance_field a

-- words below 40 are static methods, others instance methods
abbrev called_at : Bool → ℕ → Called K
called_at true a = is_static_method a
called_at false a = is_instance_method a

-- Casts with marks below 60 may fail. Types mean the class of their mark.
abbrev facts : Facts K ℕ
facts = record {
  first = λ a. a;
  last = λ a. a + 100;
  variable = λ a. Some (variable_at (nat_lt a 10) (nat_lt a 20) a);
  called = λ a. Some (called_at (nat_lt a 40) a);
  created = λ a. Some record { class = 4; constructor = a };
  class = λ a. Some a;
  is_checked = λ a. nat_lt a 60;
  number = λ a. a;
}

abbrev word : ℕ → Word ℕ
word a = record { mark = a; text = [] }

abbrev type_at : ℕ → TypeName ℕ
type_at a = tree.named a None (word a)

-- a name is a local, a static field, or a field of `this`
local_name : exp_code facts (tree.name 3 (word 3)) ≡ read (Some 3) (local (Some 3) 3)
local_name = refl

static_name : exp_code facts (tree.name 13 (word 13)) ≡ read (Some 13) (static_field (Some 13) 13)
static_name = refl

field_name : exp_code facts (tree.name 23 (word 23)) ≡ read (Some 23) (field_of (Some 23) (this None) 23)
field_name = refl

-- `A.g`: the class in front of a static field is dropped; `x.f` keeps its target, and `super.f` is a field of `this`
static_field_drops_the_class : exp_code facts (tree.field 50 (tree.name 51 (word 51)) (word 14)) ≡ read (Some 50) (static_field (Some 14) 14)
static_field_drops_the_class = refl

field_keeps_its_target : exp_code facts (tree.field 50 (tree.name 5 (word 5)) (word 24)) ≡ read (Some 50) (field_of (Some 24) (read (Some 5) (local (Some 5) 5)) 24)
field_keeps_its_target = refl

super_field_is_of_this : exp_code facts (tree.bump 49 PostInc (tree.super_field 50 (word 24))) ≡ bump (Some 49) post_increment (field_of (Some 24) (this None) 24)
super_field_is_of_this = refl

-- parentheses are dropped, and a cast that can't fail
parentheses_are_dropped : exp_code facts (tree.paren 50 (tree.paren 51 (tree.this 52))) ≡ this (Some 52)
parentheses_are_dropped = refl

sure_cast_is_dropped : exp_code facts (tree.cast 61 (type_at 4) (tree.this 62)) ≡ this (Some 62)
sure_cast_is_dropped = refl

cast_is_kept : exp_code facts (tree.cast 51 (type_at 5) (tree.this 62)) ≡ cast (Some 51) 5 (this (Some 62))
cast_is_kept = refl

-- `m(a)`, `A.s()`, `super.m()`, `new A()`, `A.class`
call_without_target_is_on_this : exp_code facts (tree.call 50 tree.no_target (word 41) (tree.more (tree.name 2 (word 2)) tree.end)) ≡ instance_call (Some 41) (this None) 41 (args_of (read (Some 2) (local (Some 2) 2) ∷ []))
call_without_target_is_on_this = refl

static_call_drops_the_class : exp_code facts (tree.call 50 (tree.on (tree.name 51 (word 51))) (word 31) tree.end) ≡ static_call (Some 31) 31 (args_of [])
static_call_drops_the_class = refl

super_call_is_of_the_method : exp_code facts (tree.super_call 50 (word 41) tree.end) ≡ super_call (Some 41) (this None) 41 (args_of [])
super_call_is_of_the_method = refl

creation_has_class_and_constructor : exp_code facts (tree.create 50 (type_at 4) tree.end) ≡ create (Some 50) 4 50 (args_of [])
creation_has_class_and_constructor = refl

class_literal_is_a_class_object : exp_code facts (tree.class_literal 50 (type_at 4)) ≡ literal (Some 50) (class_object 4)
class_literal_is_a_class_object = refl

-- `a && b`, `a + 1`, `x += 1`, `x = 1`
and_is_no_operator : exp_code facts (tree.binary 50 And (tree.truth 51 true) (tree.truth 52 false)) ≡ both (Some 50) (literal (Some 51) (truth true)) (literal (Some 52) (truth false))
and_is_no_operator = refl

compound_of_a_static_field : exp_code facts (tree.compound 50 Add (tree.name 13 (word 13)) (tree.number 52 1)) ≡ compound (Some 50) add (static_field (Some 13) 13) (literal (Some 52) (int (pos 1)))
compound_of_a_static_field = refl

-- `-2147483648` is the least int (JLS 3.10.1)
least_int_is_written : value_of (exp_code facts (tree.unary 50 Minus (tree.number 51 2147483648))) [] [] ≡ value_of (num (negsuc 2147483647)) [] []
least_int_is_written = refl

-- `"'"` and `"\'"`, `"a\tb\\n"`
escapes_are_read : unescaped false (92 ∷ 39 ∷ []) ≡ unescaped false (39 ∷ [])
escapes_are_read = refl

tab_and_backslash : unescaped false (97 ∷ 92 ∷ 116 ∷ 98 ∷ 92 ∷ 92 ∷ 110 ∷ []) ≡ 97 ∷ 9 ∷ 98 ∷ 92 ∷ 110 ∷ []
tab_and_backslash = refl

-- `{ int x = 1; if (true) { int y = x; } }`: a block has its locals at any depth, and what has no `else` an empty one
block_has_its_locals : stmt_code facts (statement.block 50 (statement.Stmts.more (statement.local 51 false (tree.int 51) (word 1) (tree.number 52 1))
    (statement.Stmts.more (statement.branch 53 (tree.truth 54 true) (statement.block 55 (statement.Stmts.more (statement.local 56 false (tree.int 56) (word 2) (tree.name 1 (word 1))) statement.Stmts.end)) statement.no_else) statement.Stmts.end)))
    ≡ block (Some 50) (1 ∷ 2 ∷ []) (listed (declare (Some 1) 1 (literal (Some 52) (int (pos 1)))
    ∷ branch (Some 53) (literal (Some 54) (truth true)) (block (Some 55) (2 ∷ []) (listed (declare (Some 2) 2 (read (Some 1) (local (Some 1) 1)) ∷ []))) (empty None) ∷ []))
block_has_its_locals = refl

-- `synchronized (this) { return; }`: entered at its first byte, exited at its last
monitor_has_two_places : stmt_code facts (statement.sync 50 (tree.this 51) (statement.Stmts.more (statement.return 52 None) statement.Stmts.end)) ≡ sync (Some 50) (Some 150) (this (Some 51)) (listed (return_nothing (Some 52) ∷ []))
monitor_has_two_places = refl

-- `synchronized void m(int a) {}` and `static synchronized void m() {}`: entered at the name, exited at the last brace
abbrev modifier : ModWord → Modifier ℕ
modifier w = record { mark = 0; word = w }

abbrev one_param : List (Param ℕ)
one_param = record { mark = 0; is_final = false; type = tree.int 0; name = word 0 } ∷ []

synchronized_method : method_code facts 4 50 (modifier Synchronized ∷ []) (word 51) one_param statement.Stmts.end ≡ record { params = 1; body = listed (sync (Some 51) (Some 150) (this None) core.Stmts.end ∷ []) }
synchronized_method = refl

static_synchronized_method : method_code facts 4 50 (modifier Static ∷ modifier Synchronized ∷ []) (word 51) [] statement.Stmts.end ≡ record { params = 0; body = listed (sync (Some 51) (Some 150) (literal None (class_object 4)) core.Stmts.end ∷ []) }
static_synchronized_method = refl

private_method : method_code facts 4 50 (modifier Private ∷ []) (word 51) [] (statement.Stmts.more (statement.empty 52) statement.Stmts.end) ≡ record { params = 0; body = listed (empty (Some 52) ∷ []) }
private_method = refl

-- `class A { int f = 1; static int g = 2; int h; int i = 3; A(int a) { super(a); ; } }`
abbrev field : ℕ → List (Modifier ℕ) → Option (tree.Exp ℕ) → member.Member ℕ
field a modifiers init = member.field a modifiers (tree.int a) (word a) init

abbrev members : Members ℕ
members = Members.more (field 20 [] (Some (tree.number 21 1))) (Members.more (field 10 (modifier Static ∷ []) (Some (tree.number 11 2)))
    (Members.more (field 22 [] None) (Members.more (field 23 [] (Some (tree.number 24 3))) Members.end)))

abbrev field_facts : ℕ → FieldFacts K ℕ
field_facts a = record { field = a; facts = facts }

abbrev stored_first : ℕ → ℕ → core.Stmt K
stored_first f n = eval (Some f) (assign (Some f) (field_of (Some f) (this None) f) (literal (Some (f + 1)) (int (pos n))))

initializers_in_text_order : initializers field_facts members ≡ stored_first 20 1 ∷ stored_first 23 3 ∷ []
initializers_in_text_order = refl

abbrev parent : Parent K
parent = record { constructor = 7; at = Some 60 }

constructor_begins_with_super : constructor_code facts parent (initializers field_facts members) one_param (Some (tree.more (tree.name 0 (word 0)) tree.end)) (statement.Stmts.more (statement.empty 52) statement.Stmts.end)
    ≡ record { params = 1; body = listed (eval (Some 60) (super_constructor (Some 60) (this None) 7 (args_of (read (Some 0) (local (Some 0) 0) ∷ []))) ∷ stored_first 20 1 ∷ stored_first 23 3 ∷ empty (Some 52) ∷ []) }
constructor_begins_with_super = refl

default_constructor_has_initializers : default_constructor parent (initializers field_facts members)
    ≡ record { params = 0; body = listed (eval (Some 60) (super_constructor (Some 60) (this None) 7 (args_of [])) ∷ stored_first 20 1 ∷ stored_first 23 3 ∷ []) }
default_constructor_has_initializers = refl
