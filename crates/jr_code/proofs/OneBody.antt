-- A statement, a method, the initializers of a class and a constructor have one code.
use Rattle.std.proofs.Common.{◌≡◌, ℕ, ◌+◌, List, [], ◌∷◌, ◌++◌, length, Option, Some, None, Bool, true, false, sym, ap, ◌∙◌}
use Rattle.jr_ast.specs.Tree as tree
use Rattle.jr_ast.specs.StatementTree as statement
use Rattle.jr_ast.specs.MemberTree as syntax
use Rattle.jr_runs.specs.Core as core
use Rattle.jr_runs.specs.MemberTranslation.{is_synchronized, locked, monitor, in_front}
use Rattle.jr_table.specs.Keys.{ClassKey, FieldKey, MethodKey, CtorKey}
use Rattle.jr_table.specs.Decls.{MemberKey, field, method, constructor, head, constructor_decl}
use Rattle.jr_table.specs.Rows.{Row}
use Rattle.jr_table.specs.Conditions.{AreRows}
use Rattle.jr_table.specs.LookupLaws.{EachHasOne}
use Rattle.jr_table.specs.Context.{Context, local_of, in_own, after, locals_in, locals_in_row}
use Rattle.jr_table.specs.Binding.{word_at}
use Rattle.jr_table.specs.BindingLaws.{IsBound}
use Rattle.jr_table.specs.HeadRules.{plain, with_parameters, is_static_member}
use Rattle.jr_code.specs.RunKeys.{RunKeys, Place}
use Rattle.jr_code.specs.Coded.{Code, ExpCode}
use Rattle.jr_code.specs.CodedStatements.{numbers, StatementCode, ListCode, ReturnCode, StmtCode, ElseCode, StmtsCode}
use Rattle.jr_code.specs.CodedMembers.{MemberCode, MethodCoded, stored, InitBy, InitCoded, InitsCoded, ParentCoded, ConstructorCoded, DefaultCoded}
use Rattle.jr_code.specs.Laws.{EachHasOneCode}
use Rattle.jr_code.proofs.OneFound.{implicit_once, super_once}
use Rattle.jr_code.proofs.OneCode.{Once, exp_once, row_once}

module _ {A : Type 0} (begins ends : A → ℕ → ℕ) (rows : List Row) (are : AreRows rows) (each : EachHasOne rows) (exact : (c : Context) → IsBound A rows c) where
  abbrev there : MemberKey → ℕ → Place
  there k at = record { member = k; at = at }

  exp : (c : Context) (b : ℕ) (e : tree.Exp A) (x z : Code) → ExpCode begins rows c b e x → ExpCode begins rows c b e z → x ≡ z
  exp c b e x z = exp_once begins rows are each c (exact c) b e x z

  return_once : (c : Context) (b : ℕ) (p : Place) (e : Option (tree.Exp A)) → Once (ReturnCode begins ends rows c b p e)
  return_once c b p None s t h g = h ∙ sym g
  return_once c b p (Some e) s t (x, code, is) (z, other, was) = is ∙ ap (λ (q : Code). core.return (Some p) q) (exp c b e x z code other) ∙ sym was

  mutual
    unfolding StmtCode ElseCode StmtsCode

    pub stmt_once : (n : ℕ) (c : Context) (b : ℕ) (x : statement.Stmt A) (s t : StatementCode) → StmtCode begins ends rows n c b x s → StmtCode begins ends rows n c b x t → s ≡ t
    stmt_once n c b (statement.local m f t w e) s u (x, code, is) (z, other, was) =
        is ∙ ap (λ (q : Code). core.declare (Some (there c.member (word_at begins m b w))) n q) (exp (in_own c (local_of c n f t w)) (begins m b) e x z code other) ∙ sym was
    stmt_once n c b (statement.eval m e) s t (x, code, is) (z, other, was) =
        is ∙ ap (λ (q : Code). core.eval (Some (there c.member (begins m b))) q) (exp c (begins m b) e x z code other) ∙ sym was
    stmt_once n c b (statement.branch m e x else_part) s t (y, k, l, code, one_side, other_side, is) (z, u, v, other, same, also, was) =
        is ∙ ap (λ (q : Code). core.branch (Some (there c.member (begins m b))) q k l) (exp c (begins m b) e y z code other)
        ∙ ap (λ (q : StatementCode). core.branch (Some (there c.member (begins m b))) z q l) (stmt_once n c (begins m b) x k u one_side same)
        ∙ ap (λ (q : StatementCode). core.branch (Some (there c.member (begins m b))) z u q) (else_once (n + locals_in x) c (begins m b) else_part l v other_side also) ∙ sym was
    stmt_once n c b (statement.loop m e x) s t (y, k, code, body, is) (z, u, other, same, was) =
        is ∙ ap (λ (q : Code). core.loop (Some (there c.member (begins m b))) q k) (exp c (begins m b) e y z code other)
        ∙ ap (λ (q : StatementCode). core.loop (Some (there c.member (begins m b))) z q) (stmt_once n c (begins m b) x k u body same) ∙ sym was
    stmt_once n c b (statement.return m e) s t h g = return_once c (begins m b) (there c.member (begins m b)) e s t h g
    stmt_once n c b (statement.block m body) s t (k, list, is) (u, other, was) =
        is ∙ ap (λ (q : ListCode). core.block (Some (there c.member (begins m b))) (numbers n (locals_in_row body)) q) (stmts_once n c (begins m b) body k u list other) ∙ sym was
    stmt_once n c b (statement.sync m e body) s t (y, k, code, list, is) (z, u, other, same, was) =
        is ∙ ap (λ (q : Code). core.sync (Some (there c.member (begins m b))) (Some (there c.member (ends m b))) q k) (exp c (begins m b) e y z code other)
        ∙ ap (λ (q : ListCode). core.sync (Some (there c.member (begins m b))) (Some (there c.member (ends m b))) z q) (stmts_once n c (begins m b) body k u list same) ∙ sym was
    stmt_once n c b (statement.empty m) s t h g = h ∙ sym g

    pub else_once : (n : ℕ) (c : Context) (b : ℕ) (x : statement.Else A) (s t : StatementCode) → ElseCode begins ends rows n c b x s → ElseCode begins ends rows n c b x t → s ≡ t
    else_once n c b statement.no_else s t h g = h ∙ sym g
    else_once n c b (statement.otherwise x) s t h g = stmt_once n c b x s t h g

    pub stmts_once : (n : ℕ) (c : Context) (b : ℕ) (xs : statement.Stmts A) (s t : ListCode) → StmtsCode begins ends rows n c b xs s → StmtsCode begins ends rows n c b xs t → s ≡ t
    stmts_once n c b statement.end s t h g = h ∙ sym g
    stmts_once n c b (statement.more x xs) s t (k, ks, first, rest, is) (u, us, other, others, was) =
        is ∙ ap (λ (q : StatementCode). core.Stmts.more q ks) (stmt_once n c b x k u first other)
        ∙ ap (λ (q : ListCode). core.Stmts.more u q) (stmts_once (n + locals_in x) (after n c x) b xs ks us rest others) ∙ sym was

  -- ---- members

  module _ (super_at : MemberKey → ℕ) where
    abbrev method_with : MethodKey → (b : ℕ) → A → List (syntax.Modifier A) → tree.Word A → List (syntax.Param A) → ListCode → core.Method RunKeys
    method_with k b m mods w ps z = core.written (record {
      params = length ps;
      body = locked (is_synchronized mods) (Some (there (method k) (word_at begins m b w))) (Some (there (method k) (ends m b))) (monitor k.class (is_static_member begins mods)) z;
    })

    pub method_once : (k : MethodKey) (b : ℕ) (x : syntax.Member A) → Once (MethodCoded begins ends rows super_at k b x)
    method_once k b (syntax.method m mods t w ps body) s u (y, code, is) (z, other, was) =
        is ∙ ap (method_with k b m mods w ps)
        (stmts_once (length ps) (with_parameters (method k) (is_static_member begins mods) ps) (begins m b) body y z code other) ∙ sym was
    method_once k b (syntax.field m mods t w init) s u h g = absurd h
    method_once k b (syntax.constructor m mods w ps args body) s u h g = absurd h
    method_once k b (syntax.inner m c) s u h g = absurd h

    init_by_once : (static : Bool) (of : ClassKey) (b : ℕ) (m : A) (w : tree.Word A) (e : tree.Exp A) → Once (InitBy begins ends rows super_at static of b m w e)
    init_by_once true of b m w e ss ts h g = h ∙ sym g
    init_by_once false of b m w e ss ts (x, code, is) (z, other, was) =
        let k : FieldKey = record { class = of; name = w.text } in
        is ∙ ap (λ (q : Code). stored begins ends rows super_at (there (field k) (word_at begins m b w)) k q ∷ []) (exp (plain (field k) false) (begins m b) e x z code other) ∙ sym was

    init_once : (of : ClassKey) (b : ℕ) (x : syntax.Member A) → Once (InitCoded begins ends rows super_at of b x)
    init_once of b (syntax.field m mods t w (Some e)) ss ts h g = init_by_once (is_static_member begins mods) of b m w e ss ts h g
    init_once of b (syntax.field m mods t w None) ss ts h g = h ∙ sym g
    init_once of b (syntax.method m mods t w ps body) ss ts h g = h ∙ sym g
    init_once of b (syntax.constructor m mods w ps args body) ss ts h g = h ∙ sym g
    init_once of b (syntax.inner m c) ss ts h g = h ∙ sym g

    pub inits_once : (of : ClassKey) (b : ℕ) (xs : syntax.Members A) → Once (InitsCoded begins ends rows super_at of b xs)
    unfolding InitsCoded
    inits_once of b syntax.end ss ts h g = h ∙ sym g
    inits_once of b (syntax.more x xs) ss ts (p, q, first, rest, is) (u, v, other, others, was) =
        is ∙ ap (λ (z : List StatementCode). z ++ q) (init_once of b x p u first other)
        ∙ ap (λ (z : List StatementCode). u ++ z) (inits_once of b xs q v rest others) ∙ sym was

    abbrev super_with : Place → CtorKey → core.Exps RunKeys → StatementCode
    super_with p q es = core.eval (Some p) (core.super_constructor (Some p) (core.this None) q es)

    parent_once : (k : CtorKey) (c : Context) (b : ℕ) (name : Place) (args : Option (tree.Exps A)) → Once (ParentCoded begins ends rows super_at k c b name args)
    parent_once k c b name None s t (q, finds, is) (n, found, was) =
        is ∙ ap (λ (z : CtorKey). super_with name z core.Exps.end) (implicit_once rows are each c q n finds found) ∙ sym was
    parent_once k c b name (Some args) s t (q, es, finds, row, is) (n, fs, found, others, was) =
        let e = super_once rows are each c (exact c) args (constructor_decl q) (constructor_decl n) finds found in
        let same : q ≡ n = cc in
        let p = there (constructor k) (super_at (constructor k)) in
        is ∙ ap (λ (z : CtorKey). super_with p z es) same
        ∙ ap (λ (z : core.Exps RunKeys). super_with p n z) (row_once begins rows are each c (exact c) b args es fs row others) ∙ sym was

    abbrev constructor_with : ℕ → List StatementCode → StatementCode → ListCode → MemberCode
    constructor_with n inits s z = record { params = n; body = core.Stmts.more s (in_front inits z) }

    pub constructor_once : (k : CtorKey) (b : ℕ) (inits : List StatementCode) (x : syntax.Member A) → Once (ConstructorCoded begins ends rows super_at k b inits x)
    constructor_once k b inits (syntax.constructor m mods w ps args body) x z (s, l, parent, code, is) (t, n, other, others, was) =
        is ∙ ap (λ (q : StatementCode). constructor_with (length ps) inits q l)
        (parent_once k (with_parameters (constructor k) true ps) (begins m b) (there (constructor k) (word_at begins m b w)) args s t parent other)
        ∙ ap (λ (q : ListCode). constructor_with (length ps) inits t q) (stmts_once (length ps) (with_parameters (constructor k) false ps) (begins m b) body l n code others) ∙ sym was
    constructor_once k b inits (syntax.field m mods t w init) x z h g = absurd h
    constructor_once k b inits (syntax.method m mods t w ps body) x z h g = absurd h
    constructor_once k b inits (syntax.inner m c) x z h g = absurd h

    pub default_once : (of : ClassKey) (inits : List StatementCode) → Once (DefaultCoded begins ends rows super_at of inits)
    default_once of inits x z (q, finds, is) (n, found, was) =
        is ∙ ap (λ (j : CtorKey). constructor_with 0 inits (core.eval None (core.super_constructor None (core.this None) j core.Exps.end)) core.Stmts.end)
        (implicit_once rows are each (plain (head of) true) q n finds found) ∙ sym was

    pub all_once : EachHasOneCode begins ends rows super_at
    all_once = record {
      expression = λ c b e. exp_once begins rows are each c (exact c) b e;
      body = λ n c b xs. stmts_once n c b xs;
      method = method_once;
      initializers = inits_once;
      constructor = constructor_once;
      default = default_once;
    }
