-- Code of statements, members and static fields, as theorems.
use Rattle.std.proofs.Common.{◌≡◌, ℕ, List, [], ◌∷◌, None, Some, false, true, pos, negsuc, refl}
use Rattle.std.specs.Prelude.{codes, cond, nat_eq}
use Rattle.jr_ast.specs.declared.operators.ModWord.TheVariants as word
use Rattle.jr_ast.specs.declared.operators.UnOp.TheVariants.{Minus}
use Rattle.jr_ast.specs.Tree as tree
use Rattle.jr_ast.specs.StatementTree as statement
use Rattle.jr_ast.specs.MemberTree as syntax
use Rattle.jr_runs.specs.Values as value
use Rattle.jr_runs.specs.Core as core
use Rattle.jr_runs.specs.FirstValues.{First, gives, makes}
use Rattle.jr_runs.specs.Actions as kind
use Rattle.jr_table.specs.Decls.{MemberKey, head, field, method, constructor}
use Rattle.jr_table.specs.Prelude.{object_key}
use Rattle.jr_table.specs.Context.{locals_in, locals_in_row}
use Rattle.jr_table.specs.HeadRules.{plain, with_parameters}
use Rattle.jr_table.specs.LookupSample.{a, q}
use Rattle.jr_table.proofs.BindingSamples.{at_mark, w, modifier}
use Rattle.jr_code.specs.RunKeys.{RunKeys}
use Rattle.jr_code.specs.RunRows.{kind_of_words}
use Rattle.jr_code.specs.Coded.{ExpCode, RowCode}
use Rattle.jr_code.specs.CodedStatements.{numbers, StatementCode, StmtCode, ElseCode, StmtsCode}
use Rattle.jr_code.specs.CodedMembers.{MethodCoded, InitsCoded, ConstructorCoded, DefaultCoded}
use Rattle.jr_code.specs.CodedFields.{FirstOf}
use Rattle.jr_code.specs.Exchanged.{first, exchange}
use Rattle.jr_code.proofs.CodedSample.{rows, h_key, a_s, q_m, a_new, q_new, in_m, at_in, here, last_of, listed}
use Rattle.jr_code.proofs.CodedFinds.{no_args, super_found, written_super_found}

-- ---- statements

abbrev number_at : ℕ → ℕ → core.Exp RunKeys
number_at at n = core.literal (Some (here at)) (value.int (pos n))

abbrev declared : StatementCode
declared = core.declare (Some (here 19)) 4 (number_at 23 2)

abbrev inner : StatementCode
inner = core.block (Some (here 13)) (4 ∷ []) (listed (declared ∷ []))

-- `{ int x = 1; { int y = 2; } }` behind three locals: numbers go on from there, and a block unsets all that is declared in it
block_has_its_numbers : StmtCode at_mark last_of rows 3 in_m 0
    (statement.block 0 (statement.more (statement.local 2 false (tree.int 2) (w 6 (codes "x")) (tree.number 10 1))
    (statement.more (statement.block 13 (statement.more (statement.local 15 false (tree.int 15) (w 19 (codes "y")) (tree.number 23 2)) statement.end)) statement.end)))
    (core.block (Some (here 0)) (3 ∷ 4 ∷ []) (listed (core.declare (Some (here 6)) 3 (number_at 10 1) ∷ inner ∷ [])))
unfolding StmtCode StmtsCode ExpCode numbers locals_in locals_in_row
block_has_its_numbers = (
  listed (core.declare (Some (here 6)) 3 (number_at 10 1) ∷ inner ∷ []),
  (
    core.declare (Some (here 6)) 3 (number_at 10 1),
    listed (inner ∷ []),
    (number_at 10 1, refl, refl),
    (inner, core.Stmts.end, (listed (declared ∷ []), (declared, core.Stmts.end, (number_at 23 2, refl, refl), refl, refl), refl), refl, refl),
    refl,
  ),
  refl,
)

-- `if (true) ;`: what has no `else` has an empty one, at no place
branch_has_an_else : StmtCode at_mark last_of rows 0 in_m 0 (statement.branch 0 (tree.truth 4 true) (statement.empty 10) statement.no_else)
    (core.branch (Some (here 0)) (core.literal (Some (here 4)) (value.truth true)) (core.empty (Some (here 10))) (core.empty None))
unfolding StmtCode ElseCode ExpCode
branch_has_an_else = (core.literal (Some (here 4)) (value.truth true), core.empty (Some (here 10)), core.empty None, refl, refl, refl, refl)

-- `synchronized (this) { return; }`: entered at its first byte, exited at its last
monitor_has_two_places : StmtCode at_mark last_of rows 0 in_m 0 (statement.sync 50 (tree.this 64) (statement.more (statement.return 72 None) statement.end))
    (core.sync (Some (here 50)) (Some (here 150)) (core.this (Some (here 64))) (listed (core.return_nothing (Some (here 72)) ∷ [])))
unfolding StmtCode StmtsCode ExpCode
monitor_has_two_places = (core.this (Some (here 64)), listed (core.return_nothing (Some (here 72)) ∷ []), refl, (core.return_nothing (Some (here 72)), core.Stmts.end, refl, refl, refl), refl)

-- ---- methods

abbrev no_super : MemberKey → ℕ
no_super k = 0

-- `synchronized void m() {}` of Q locks `this`, `static synchronized void s() {}` of A its Class object: entered at the name,
-- exited at the last brace (JLS 8.4.3.6)
synchronized_method : MethodCoded at_mark last_of rows no_super q_m 0 (syntax.method 50 (modifier 50 word.Synchronized ∷ []) None (w 68 (codes "m")) [] statement.end)
    (core.written (record { params = 0; body = listed (core.sync (Some (here 68)) (Some (here 150)) (core.this None) core.Stmts.end ∷ []) }))
unfolding StmtsCode
synchronized_method = (core.Stmts.end, refl, refl)

static_synchronized_method : MethodCoded at_mark last_of rows no_super a_s 0 (syntax.method 50 (modifier 50 word.Static ∷ modifier 57 word.Synchronized ∷ []) None (w 75 (codes "s")) [] statement.end)
    (core.written (record { params = 0; body = listed (core.sync (Some (at_in (method a_s) 75)) (Some (at_in (method a_s) 150)) (core.literal None (value.class_object a)) core.Stmts.end ∷ []) }))
unfolding StmtsCode
static_synchronized_method = (core.Stmts.end, refl, refl)

plain_method : MethodCoded at_mark last_of rows no_super q_m 0 (syntax.method 50 [] None (w 55 (codes "m")) [] (statement.more (statement.empty 59) statement.end))
    (core.written (record { params = 0; body = listed (core.empty (Some (here 59)) ∷ []) }))
unfolding StmtCode StmtsCode
plain_method = (listed (core.empty (Some (here 59)) ∷ []), (core.empty (Some (here 59)), core.Stmts.end, refl, refl, refl), refl)

-- ---- constructors of Q, which has `int h = 1;`

abbrev no_params : List (syntax.Param ℕ)
no_params = []

abbrev one_of_h : core.Exp RunKeys
one_of_h = core.literal (Some (at_in (field h_key) 28)) (value.int (pos 1))

abbrev stored_h : StatementCode
stored_h = core.eval (Some (at_in (field h_key) 24)) (core.assign (Some (at_in (field h_key) 24)) (core.field_of (Some (at_in (field h_key) 24)) (core.this None) h_key) one_of_h)

abbrev members : syntax.Members ℕ
members = syntax.more (syntax.field 20 [] (tree.int 20) (w 24 (codes "h")) (Some (tree.number 28 1)))
    (syntax.more (syntax.field 31 (modifier 31 word.Static ∷ []) (tree.int 38) (w 42 (codes "g")) (Some (tree.number 46 2)))
    (syntax.more (syntax.method 50 [] None (w 55 (codes "m")) [] statement.end) syntax.end))

-- a store to the field of `this`, at the field's name; what a static field begins with is no code
initializers : InitsCoded at_mark last_of rows no_super q 0 members (stored_h ∷ [])
unfolding InitsCoded ExpCode
initializers = (stored_h ∷ [], [], (one_of_h, refl, refl), ([], [], refl, ([], [], refl, refl, refl), refl), refl)

-- none is written: the superclass's constructor is run, and then the initializers (JLS 8.8.9, 12.5)
default_constructor : DefaultCoded at_mark last_of rows no_super q (stored_h ∷ []) (record {
  params = 0;
  body = listed (core.eval None (core.super_constructor None (core.this None) a_new core.Exps.end) ∷ stored_h ∷ []);
})
default_constructor = (a_new, super_found (plain (head q) true) refl, refl)

abbrev super_at : ℕ → core.Stmt RunKeys
super_at at = core.eval (Some (at_in (constructor q_new) at)) (core.super_constructor (Some (at_in (constructor q_new) at)) (core.this None) a_new core.Exps.end)

-- `Q() { ; }`: `super()` is run at the constructor's name, then the initializers, then the body (JLS 8.8.7, 12.5)
unwritten_super_is_run : ConstructorCoded at_mark last_of rows no_super q_new 0 (stored_h ∷ []) (syntax.constructor 40 [] (w 40 (codes "Q")) [] None (statement.more (statement.empty 45) statement.end))
    (record { params = 0; body = listed (super_at 40 ∷ stored_h ∷ core.empty (Some (at_in (constructor q_new) 45)) ∷ []) })
unfolding StmtCode StmtsCode
unwritten_super_is_run = (
  super_at 40,
  listed (core.empty (Some (at_in (constructor q_new) 45)) ∷ []),
  (a_new, super_found (with_parameters (constructor q_new) true no_params) refl, refl),
  (core.empty (Some (at_in (constructor q_new) 45)), core.Stmts.end, refl, refl, refl),
  refl,
)

-- `Q() { super(); }`: it stands at its word
abbrev super_word : MemberKey → ℕ
super_word k = 46

written_super_is_run : ConstructorCoded at_mark last_of rows super_word q_new 0 (stored_h ∷ []) (syntax.constructor 40 [] (w 40 (codes "Q")) [] (Some no_args) statement.end)
    (record { params = 0; body = listed (super_at 46 ∷ stored_h ∷ []) })
unfolding StmtsCode RowCode
written_super_is_run = (
  super_at 46,
  core.Stmts.end,
  (a_new, core.Exps.end, written_super_found (with_parameters (constructor q_new) true no_params) refl, refl, refl),
  refl,
  refl,
)

-- ---- fields

-- `static int g = 7;`, `-1`, `-2147483648`, `true`, `"a"`, `null`, `new Object()`
first_values :
    FirstOf {A = ℕ} (tree.number 0 7) (gives (value.int (pos 7))) ×
    FirstOf {A = ℕ} (tree.unary 0 Minus (tree.number 1 1)) (gives (value.int (negsuc 0))) ×
    FirstOf {A = ℕ} (tree.unary 0 Minus (tree.number 1 2147483648)) (gives (value.int (negsuc 2147483647))) ×
    FirstOf {A = ℕ} (tree.truth 0 true) (gives (value.truth true)) ×
    FirstOf {A = ℕ} (tree.string 0 (97 ∷ [])) (gives (value.text (97 ∷ []))) ×
    FirstOf {A = ℕ} (tree.null 0) (gives value.null) ×
    FirstOf {A = ℕ} (tree.create 0 (tree.named 4 None (w 4 (codes "Object"))) tree.end) (makes object_key)
first_values = (refl, refl, refl, refl, refl, refl, (refl, refl))

-- an object of another class, and one with arguments, are no first values
other_objects : (x : First RunKeys) → (FirstOf {A = ℕ} (tree.create 0 (tree.named 4 None (w 4 (codes "Q"))) tree.end) x → ⊥)
    × (FirstOf {A = ℕ} (tree.create 0 (tree.named 4 None (w 4 (codes "Object"))) (tree.more (tree.null 0) tree.end)) x → ⊥)
other_objects x = (λ h. absurd (differ h.0), λ h. absurd h)
  where
    differ : codes "Q" ≡ codes "Object" → ⊥
    differ e = cc

-- what accesses of a field are (JLS 8.3.1.2, 8.3.1.4)
kinds : (kind_of_words [] ≡ kind.plain) × (kind_of_words (word.Private ∷ word.Final ∷ []) ≡ kind.final) × (kind_of_words (word.Static ∷ word.Volatile ∷ []) ≡ kind.volatile)
kinds = (refl, refl, refl)

-- ---- keys

abbrev raised : ℕ → ℕ
raised n = cond (nat_eq n 1) 5 n

-- of 1 and 2, where 1 becomes 5: these change places, and others stay
exchanged_numbers : (exchange nat_eq raised (1 ∷ 2 ∷ []) 1 ≡ 5) × (exchange nat_eq raised (1 ∷ 2 ∷ []) 5 ≡ 1) × (exchange nat_eq raised (1 ∷ 2 ∷ []) 2 ≡ 2) × (exchange nat_eq raised (1 ∷ 2 ∷ []) 7 ≡ 7)
unfolding first
exchanged_numbers = (refl, refl, refl, refl)
