-- Code that is kept: the second is the first with other keys and other places, and each local has its number. What the first one
-- calls is declared, and its locals have numbers below n. It is an image of code (`jr_runs: Images`) in which all locals agree
-- everywhere.
use Rattle.std.proofs.Common.{◌≡◌, ◌<◌, ◌≤◌, ℕ, List, IsTrue, refl}
use Rattle.jr_runs.specs.Keys.{At}
use Rattle.jr_runs.specs.Values.{Value}
use Rattle.jr_runs.specs.Core as core
use Rattle.jr_runs.specs.Rows as core_rows
use Rattle.jr_runs.specs.KeyMaps.{KeyMap, value_image}
use Rattle.jr_runs.specs.Sets.{everything, Within}
use Rattle.jr_runs.specs.Standing.{Standing, IsFree, whole}
use Rattle.jr_runs.specs.Images.{NoSpot, CodeTo, MethodTo, Readable, Writable, behind_write, BlockTo, ExpTo, TargetTo, ExpsTo, StmtTo, StmtsTo, to_literal, to_this, to_read, to_assign, to_compound, to_bump, to_signed, to_binary, to_both, to_either, to_cast, to_static_call, to_instance_call, to_super_call, to_create, to_super_constructor, to_local, to_static_field, to_field_of, to_end, to_more, to_declare, to_eval, to_branch, to_loop, to_return, to_return_nothing, to_block, to_sync, to_empty, to_no_more, to_list}
use Rattle.jr_runs.proofs.Locals.{within_itself, within_one, within_all}
use Rattle.jr_runs.proofs.Numbers.{in_upto}
use Rattle.jr_table.specs.Keys.{ClassKey, FieldKey, MethodKey, CtorKey}
use Rattle.jr_code.specs.RunKeys.{RunKeys}
use Rattle.jr_code.specs.Coded.{Code, TargetCode}
use Rattle.jr_code.specs.CodedStatements.{StatementCode, ListCode}
use Rattle.jr_code.specs.CodedMembers.{MemberCode}

mutual
  pub data ToExp (r : KeyMap RunKeys) (R : core_rows.Rows RunKeys) (n : ℕ) : Code → Code → Type 0 where
    literal_to : (p q : At RunKeys) (v : Value RunKeys) → ToExp r R n (core.literal p v) (core.literal q (value_image r v))
    this_to : (p q : At RunKeys) → ToExp r R n (core.this p) (core.this q)
    read_to : (p q : At RunKeys) (t u : TargetCode) → ToTarget r R n t u → ToExp r R n (core.read p t) (core.read q u)
    assign_to : (p q : At RunKeys) (t u : TargetCode) (x z : Code) → ToTarget r R n t u → ToExp r R n x z → ToExp r R n (core.assign p t x) (core.assign q u z)
    compound_to : (p q : At RunKeys) (op : core.Arithmetic) (t u : TargetCode) (x z : Code) → ToTarget r R n t u → ToExp r R n x z → ToExp r R n (core.compound p op t x) (core.compound q op u z)
    bump_to : (p q : At RunKeys) (op : core.Bump) (t u : TargetCode) → ToTarget r R n t u → ToExp r R n (core.bump p op t) (core.bump q op u)
    signed_to : (p q : At RunKeys) (op : core.Sign) (x z : Code) → ToExp r R n x z → ToExp r R n (core.signed p op x) (core.signed q op z)
    binary_to : (p q : At RunKeys) (op : core.Operator) (x z y v : Code) → ToExp r R n x z → ToExp r R n y v → ToExp r R n (core.binary p op x y) (core.binary q op z v)
    both_to : (p q : At RunKeys) (x z y v : Code) → ToExp r R n x z → ToExp r R n y v → ToExp r R n (core.both p x y) (core.both q z v)
    either_to : (p q : At RunKeys) (x z y v : Code) → ToExp r R n x z → ToExp r R n y v → ToExp r R n (core.either p x y) (core.either q z v)
    cast_to : (p q : At RunKeys) (k : ClassKey) (x z : Code) → ToExp r R n x z → ToExp r R n (core.cast p k x) (core.cast q (r.class k) z)
    static_call_to : (p q : At RunKeys) (k : MethodKey) (es fs : core.Exps RunKeys) → IsTrue (R.has_method k) → ToExps r R n es fs
        → ToExp r R n (core.static_call p k es) (core.static_call q (r.method k) fs)
    instance_call_to : (p q : At RunKeys) (x z : Code) (k : MethodKey) (es fs : core.Exps RunKeys) → IsTrue (R.has_method k) → ToExp r R n x z → ToExps r R n es fs
        → ToExp r R n (core.instance_call p x k es) (core.instance_call q z (r.method k) fs)
    super_call_to : (p q : At RunKeys) (x z : Code) (k : MethodKey) (es fs : core.Exps RunKeys) → IsTrue (R.has_method k) → ToExp r R n x z → ToExps r R n es fs
        → ToExp r R n (core.super_call p x k es) (core.super_call q z (r.method k) fs)
    create_to : (p q : At RunKeys) (k : ClassKey) (c : CtorKey) (es fs : core.Exps RunKeys) → IsTrue (R.has_constructor c) → ToExps r R n es fs
        → ToExp r R n (core.create p k c es) (core.create q (r.class k) (r.constructor c) fs)
    super_constructor_to : (p q : At RunKeys) (x z : Code) (c : CtorKey) (es fs : core.Exps RunKeys) → IsTrue (R.has_constructor c) → ToExp r R n x z → ToExps r R n es fs
        → ToExp r R n (core.super_constructor p x c es) (core.super_constructor q z (r.constructor c) fs)

  pub data ToTarget (r : KeyMap RunKeys) (R : core_rows.Rows RunKeys) (n : ℕ) : TargetCode → TargetCode → Type 0 where
    local_to : (p q : At RunKeys) (m : ℕ) → m < n → ToTarget r R n (core.local p m) (core.local q m)
    static_field_to : (p q : At RunKeys) (f : FieldKey) → ToTarget r R n (core.static_field p f) (core.static_field q (r.field f))
    field_of_to : (p q : At RunKeys) (x z : Code) (f : FieldKey) → ToExp r R n x z → ToTarget r R n (core.field_of p x f) (core.field_of q z (r.field f))

  pub data ToExps (r : KeyMap RunKeys) (R : core_rows.Rows RunKeys) (n : ℕ) : core.Exps RunKeys → core.Exps RunKeys → Type 0 where
    end_to : ToExps r R n core.Exps.end core.Exps.end
    more_to : (x z : Code) (es fs : core.Exps RunKeys) → ToExp r R n x z → ToExps r R n es fs → ToExps r R n (core.Exps.more x es) (core.Exps.more z fs)

mutual
  pub data ToStmt (r : KeyMap RunKeys) (R : core_rows.Rows RunKeys) (n : ℕ) : StatementCode → StatementCode → Type 0 where
    declare_to : (p q : At RunKeys) (m : ℕ) (x z : Code) → m < n → ToExp r R n x z → ToStmt r R n (core.declare p m x) (core.declare q m z)
    eval_to : (p q : At RunKeys) (x z : Code) → ToExp r R n x z → ToStmt r R n (core.eval p x) (core.eval q z)
    branch_to : (p q : At RunKeys) (x z : Code) (s t u v : StatementCode) → ToExp r R n x z → ToStmt r R n s t → ToStmt r R n u v → ToStmt r R n (core.branch p x s u) (core.branch q z t v)
    loop_to : (p q : At RunKeys) (x z : Code) (s t : StatementCode) → ToExp r R n x z → ToStmt r R n s t → ToStmt r R n (core.loop p x s) (core.loop q z t)
    return_to : (p q : At RunKeys) (x z : Code) → ToExp r R n x z → ToStmt r R n (core.return p x) (core.return q z)
    return_nothing_to : (p q : At RunKeys) → ToStmt r R n (core.return_nothing p) (core.return_nothing q)
    block_to : (p q : At RunKeys) (ns : List ℕ) (s t : ListCode) → ToStmts r R n s t → ToStmt r R n (core.block p ns s) (core.block q ns t)
    sync_to : (p q u v : At RunKeys) (x z : Code) (s t : ListCode) → ToExp r R n x z → ToStmts r R n s t → ToStmt r R n (core.sync p q x s) (core.sync u v z t)
    empty_to : (p q : At RunKeys) → ToStmt r R n (core.empty p) (core.empty q)

  pub data ToStmts (r : KeyMap RunKeys) (R : core_rows.Rows RunKeys) (n : ℕ) : ListCode → ListCode → Type 0 where
    no_more_to : ToStmts r R n core.Stmts.end core.Stmts.end
    list_to : (s t : StatementCode) (u v : ListCode) → ToStmt r R n s t → ToStmts r R n u v → ToStmts r R n (core.Stmts.more s u) (core.Stmts.more t v)

pub record ToCode (r : KeyMap RunKeys) (R : core_rows.Rows RunKeys) (old new : MemberCode) : Type 0 where
  pub size : ℕ
  pub params : new.params ≡ old.params
  pub below : old.params ≤ size
  pub body : ToStmts r R size old.body new.body

abbrev pub ToMethod : KeyMap RunKeys → core_rows.Rows RunKeys → core.Method RunKeys → core.Method RunKeys → Type 0
ToMethod r R (core.written x) (core.written z) = ToCode r R x z
ToMethod r R core.starts core.starts = Unit {0}
ToMethod r R (core.written x) core.starts = ⊥
ToMethod r R core.starts (core.written z) = ⊥

-- ---- it is an image of code

-- of a member with so many locals: they keep their numbers, and `this` is `this`
abbrev pub standing : ℕ → Standing RunKeys
standing n = whole n (λ i. i)

all : Within everything everything
all = within_itself everything

readable : (t : TargetCode) → Readable everything t
readable (core.local p n) = refl
readable (core.static_field p f) = tt
readable (core.field_of p e f) = tt

behind : (t : TargetCode) → Within everything (behind_write everything t)
behind (core.local p n) = within_one everything n
behind (core.static_field p f) = all
behind (core.field_of p e f) = all

module _ (r : KeyMap RunKeys) (R : core_rows.Rows RunKeys) (n : ℕ) where
  writable : (t : TargetCode) → Writable (standing n).code t
  writable (core.local p m) = λ h. h
  writable (core.static_field p f) = tt
  writable (core.field_of p e f) = tt

  mutual
    pub exp_agrees : (x z : Code) → ToExp r R n x z → ExpTo r R (standing n).code everything x z everything
    exp_agrees x z (literal_to p q v) = to_literal everything p q v
    exp_agrees x z (this_to p q) = to_this everything p (core.this q) (q, refl)
    exp_agrees x z (read_to p q t u h) = to_read everything everything p q t u (target_agrees t u h) (readable t)
    exp_agrees x z (assign_to p q t u a b h i) = to_assign everything everything everything everything p q t u a b (target_agrees t u h) (writable t) (exp_agrees a b i) (behind t)
    exp_agrees x z (compound_to p q op t u a b h i) = to_compound everything everything everything everything p q op t u a b (target_agrees t u h) (readable t) (writable t) (exp_agrees a b i) (behind t)
    exp_agrees x z (bump_to p q op t u h) = to_bump everything everything everything p q op t u (target_agrees t u h) (readable t) (writable t) (behind t)
    exp_agrees x z (signed_to p q op a b h) = to_signed everything everything p q op a b (exp_agrees a b h)
    exp_agrees x z (binary_to p q op a b c d h i) = to_binary everything everything everything p q op a b c d (exp_agrees a b h) (exp_agrees c d i)
    exp_agrees x z (both_to p q a b c d h i) = to_both everything everything everything everything p q a b c d (exp_agrees a b h) (exp_agrees c d i) all all
    exp_agrees x z (either_to p q a b c d h i) = to_either everything everything everything everything p q a b c d (exp_agrees a b h) (exp_agrees c d i) all all
    exp_agrees x z (cast_to p q k a b h) = to_cast everything everything p q k a b (exp_agrees a b h)
    exp_agrees x z (static_call_to p q k es fs has h) = to_static_call everything everything p q k es fs has (row_agrees es fs h)
    exp_agrees x z (instance_call_to p q a b k es fs has h i) = to_instance_call everything everything everything p q a b k es fs has (exp_agrees a b h) (row_agrees es fs i)
    exp_agrees x z (super_call_to p q a b k es fs has h i) = to_super_call everything everything everything p q a b k es fs has (exp_agrees a b h) (row_agrees es fs i)
    exp_agrees x z (create_to p q k c es fs has h) = to_create everything everything p q k c es fs has (row_agrees es fs h)
    exp_agrees x z (super_constructor_to p q a b c es fs has h i) = to_super_constructor everything everything everything p q a b c es fs has (exp_agrees a b h) (row_agrees es fs i)

    target_agrees : (t u : TargetCode) → ToTarget r R n t u → TargetTo r R (standing n).code everything t u everything
    target_agrees t u (local_to p q m below) = to_local everything p q m (in_upto n m below)
    target_agrees t u (static_field_to p q f) = to_static_field everything p q f
    target_agrees t u (field_of_to p q a b f h) = to_field_of everything everything p q a b f (exp_agrees a b h)

    row_agrees : (es fs : core.Exps RunKeys) → ToExps r R n es fs → ExpsTo r R (standing n).code everything es fs everything
    row_agrees es fs end_to = to_end everything
    row_agrees es fs (more_to a b gs hs h i) = to_more everything everything everything a b gs hs (exp_agrees a b h) (row_agrees gs hs i)

  free : (m : ℕ) → m < n → IsFree (standing n).code m
  free m below = record { below = in_upto n m below; unknown = λ h. h }

  same_block : (ns : List ℕ) → BlockTo (standing n) ns ns
  same_block ns = record { all = λ i b g. g; only = λ i b g. g; others = λ j o g. o; known = λ i o g. o }

  mutual
    pub stmt_agrees : (s t : StatementCode) → ToStmt r R n s t → StmtTo r R NoSpot (standing n) everything s t everything
    stmt_agrees s t (declare_to p q m a b below h) = to_declare everything everything everything p q m a b (free m below) (exp_agrees a b h) (within_one everything m)
    stmt_agrees s t (eval_to p q a b h) = to_eval everything everything p q a b (exp_agrees a b h)
    stmt_agrees s t (branch_to p q a b c d e f h i j) = to_branch everything everything everything everything everything p q a b c d e f (exp_agrees a b h) (stmt_agrees c d i) (stmt_agrees e f j) all all
    stmt_agrees s t (loop_to p q a b c d h i) = to_loop everything everything everything everything p q a b c d all (exp_agrees a b h) (stmt_agrees c d i) all
    stmt_agrees s t (return_to p q a b h) = to_return everything everything everything p q a b (exp_agrees a b h)
    stmt_agrees s t (return_nothing_to p q) = to_return_nothing everything everything p q
    stmt_agrees s t (block_to p q ns c d h) = to_block everything everything everything p q ns ns c d (same_block ns) (within_all everything ns) (stmts_agree c d h)
    stmt_agrees s t (sync_to p q u v a b c d h i) = to_sync everything everything everything p q u v a b c d (exp_agrees a b h) (stmts_agree c d i)
    stmt_agrees s t (empty_to p q) = to_empty everything p q

    pub stmts_agree : (s t : ListCode) → ToStmts r R n s t → StmtsTo r R NoSpot (standing n) everything s t everything
    stmts_agree s t no_more_to = to_no_more everything
    stmts_agree s t (list_to a b c d h i) = to_list everything everything everything a b c d (stmt_agrees a b h) (stmts_agree c d i)

module _ (r : KeyMap RunKeys) (R : core_rows.Rows RunKeys) where
  pub code_agrees : (old new : MemberCode) → ToCode r R old new → CodeTo r R NoSpot old new
  code_agrees old new h = record {
    size = h.size;
    at = λ i. i;
    injective = λ i j a b e. e;
    params = h.params;
    params_below = h.below;
    params_stay = λ i below. refl;
    behind = everything;
    body = stmts_agree r R h.size old.body new.body h.body;
  }

  pub method_agrees : (old new : core.Method RunKeys) → ToMethod r R old new → MethodTo r R NoSpot old new
  method_agrees (core.written x) (core.written z) h = code_agrees x z h
  method_agrees core.starts core.starts h = tt
  method_agrees (core.written x) core.starts h = absurd h
  method_agrees core.starts (core.written z) h = absurd h
