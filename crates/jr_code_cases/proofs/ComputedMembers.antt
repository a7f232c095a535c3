-- The code of statements, members and initializers, computed: what is computed is their code. A written `super(..)` isn't.
use Rattle.std.proofs.Common.{◌≡◌, ℕ, ◌+◌, List, [], ◌∷◌, ◌++◌, length, Option, Some, None, Bool, true, false, refl, ap, ◌∙◌}
use Rattle.std.specs.Prelude.{option_map}
use Rattle.jr_ast.specs.Tree as tree
use Rattle.jr_ast.specs.StatementTree as statement
use Rattle.jr_ast.specs.MemberTree as syntax
use Rattle.jr_runs.specs.Core as core
use Rattle.jr_runs.specs.MemberTranslation.{is_synchronized, locked, monitor, in_front}
use Rattle.jr_table.specs.Keys.{ClassKey, MethodKey, CtorKey}
use Rattle.jr_table.specs.Decls.{MemberKey, head, field, method, constructor, class_decl, field_decl, method_decl, constructor_decl, local_decl}
use Rattle.jr_table.specs.Rows.{Row}
use Rattle.jr_table.specs.Conditions.{AreRows}
use Rattle.jr_table.specs.Found.{Found, one, nothing, many, not_accessible, from_static}
use Rattle.jr_table.specs.Lookup.{FindsCtorOf, find_ctor_of}
use Rattle.jr_table.specs.LookupLaws.{KeysAreFound}
use Rattle.jr_table.specs.Context.{Context, scope_of, local_of, in_own, after, locals_in, locals_in_row, IsSuperclass}
use Rattle.jr_table.specs.Binding.{word_at}
use Rattle.jr_table.specs.Meanings.{ctor_found, own_superclass}
use Rattle.jr_table.specs.HeadRules.{plain, with_parameters, is_static_member}
use Rattle.jr_table.proofs.Typing.{in_iff, own_super_iff}
use Rattle.jr_code.specs.RunKeys.{RunKeys, Place}
use Rattle.jr_code.specs.Coded.{Code}
use Rattle.jr_code.specs.CodedStatements.{numbers, StatementCode, ListCode, ReturnCode, StmtCode, ElseCode, StmtsCode}
use Rattle.jr_code.specs.CodedMembers.{MemberCode, ImplicitFinds, MethodCoded, InitBy, InitCoded, InitsCoded, ConstructorCoded, DefaultCoded}
use Rattle.jr_code_cases.proofs.ComputedExps.{mapped, pair, of_two, two, exp_code, exp_is, inside}

branch_is : (at : Place) (z : Code) (p : StatementCode × StatementCode) (y q s : StatementCode) → s ≡ core.branch (Some at) z p.0 p.1 → p ≡ pair y q → s ≡ core.branch (Some at) z y q
branch_is at z p y q s is same = is ∙ ap (λ (r : StatementCode × StatementCode). core.branch (Some at) z r.0 r.1) same

abbrev pub at_in : MemberKey → ℕ → Place
at_in k at = record { member = k; at = at }

module _ {A : Type 0} (begins ends : A → ℕ → ℕ) (rows : List Row) where
  abbrev return_code : Context → (base : ℕ) → Place → Option (tree.Exp A) → Option StatementCode
  return_code c b p None = Some (core.return_nothing (Some p))
  return_code c b p (Some e) = option_map (λ z. core.return (Some p) z) (exp_code begins rows c b e)

  abbrev mutual
    pub stmt_code : (number : ℕ) → Context → (base : ℕ) → statement.Stmt A → Option StatementCode
    stmt_code n c b (statement.local m f t w e) = option_map (λ z. core.declare (Some (at_in c.member (word_at begins m b w))) n z) (exp_code begins rows (in_own c (local_of c n f t w)) (begins m b) e)
    stmt_code n c b (statement.eval m e) = option_map (λ z. core.eval (Some (at_in c.member (begins m b))) z) (exp_code begins rows c (begins m b) e)
    stmt_code n c b (statement.branch m e x other) =
        of_two (exp_code begins rows c (begins m b) e) (of_two (stmt_code n c (begins m b) x) (else_code (n + locals_in x) c (begins m b) other) pair) (λ z p. core.branch (Some (at_in c.member (begins m b))) z p.0 p.1)
    stmt_code n c b (statement.loop m e x) = of_two (exp_code begins rows c (begins m b) e) (stmt_code n c (begins m b) x) (λ z y. core.loop (Some (at_in c.member (begins m b))) z y)
    stmt_code n c b (statement.return m e) = return_code c (begins m b) (at_in c.member (begins m b)) e
    stmt_code n c b (statement.block m body) = option_map (λ z. core.block (Some (at_in c.member (begins m b))) (numbers n (locals_in_row body)) z) (stmts_code n c (begins m b) body)
    stmt_code n c b (statement.sync m e body) =
        of_two (exp_code begins rows c (begins m b) e) (stmts_code n c (begins m b) body) (λ z y. core.sync (Some (at_in c.member (begins m b))) (Some (at_in c.member (ends m b))) z y)
    stmt_code n c b (statement.empty m) = Some (core.empty (Some (at_in c.member (begins m b))))

    pub else_code : (number : ℕ) → Context → (base : ℕ) → statement.Else A → Option StatementCode
    else_code n c b statement.no_else = Some (core.empty None)
    else_code n c b (statement.otherwise x) = stmt_code n c b x

    pub stmts_code : (number : ℕ) → Context → (base : ℕ) → statement.Stmts A → Option ListCode
    stmts_code n c b statement.end = Some core.Stmts.end
    stmts_code n c b (statement.more x xs) = of_two (stmt_code n c b x) (stmts_code (n + locals_in x) (after n c x) b xs) (λ y ys. core.Stmts.more y ys)

  -- ---- members

  abbrev pub method_code : MethodKey → (base : ℕ) → A → List (syntax.Modifier A) → tree.Word A → List (syntax.Param A) → statement.Stmts A → Option (core.Method RunKeys)
  method_code k b m mods w ps body = option_map (λ z. core.written (record {
    params = length ps;
    body = locked (is_synchronized mods) (Some (at_in (method k) (word_at begins m b w))) (Some (at_in (method k) (ends m b))) (monitor k.class (is_static_member begins mods)) z;
  })) (stmts_code (length ps) (with_parameters (method k) (is_static_member begins mods) ps) (begins m b) body)

  abbrev init_by : Bool → ClassKey → (base : ℕ) → A → tree.Word A → tree.Exp A → Option (List StatementCode)
  init_by true of b m w e = Some []
  init_by false of b m w e = option_map (λ z. core.eval (Some (at_in (field (record { class = of; name = w.text })) (word_at begins m b w)))
      (core.assign (Some (at_in (field (record { class = of; name = w.text })) (word_at begins m b w))) (core.field_of (Some (at_in (field (record { class = of; name = w.text })) (word_at begins m b w))) (core.this None) (record { class = of; name = w.text })) z) ∷ [])
      (exp_code begins rows (plain (field (record { class = of; name = w.text })) false) (begins m b) e)

  abbrev init_code : ClassKey → (base : ℕ) → syntax.Member A → Option (List StatementCode)
  init_code of b (syntax.field m mods t w (Some e)) = init_by (is_static_member begins mods) of b m w e
  init_code of b _ = Some []

  abbrev pub inits_code : ClassKey → (base : ℕ) → syntax.Members A → Option (List StatementCode)
  inits_code of b syntax.end = Some []
  inits_code of b (syntax.more x xs) = of_two (init_code of b x) (inits_code of b xs) (λ here rest. here ++ rest)

  -- what an implicit `super()` finds
  abbrev found_ctor : Found → Option CtorKey
  found_ctor (one (constructor_decl q)) = Some q
  found_ctor _ = None

  abbrev implicit : Context → Option CtorKey
  implicit c = found_ctor (ctor_found rows c (own_superclass rows c) (Some []))

  abbrev pub ctor_code : CtorKey → (base : ℕ) → List StatementCode → A → tree.Word A → List (syntax.Param A) → Option (tree.Exps A) → statement.Stmts A → Option MemberCode
  ctor_code k b inits m w ps None body = of_two (implicit (with_parameters (constructor k) true ps)) (stmts_code (length ps) (with_parameters (constructor k) false ps) (begins m b) body) (λ q z. record {
    params = length ps;
    body = core.Stmts.more (core.eval (Some (at_in (constructor k) (word_at begins m b w))) (core.super_constructor (Some (at_in (constructor k) (word_at begins m b w))) (core.this None) q core.Exps.end)) (in_front inits z);
  })
  ctor_code k b inits m w ps (Some args) body = None

  abbrev pub default_code : ClassKey → List StatementCode → Option MemberCode
  default_code of inits = option_map (λ q. record {
    params = 0;
    body = core.Stmts.more (core.eval None (core.super_constructor None (core.this None) q core.Exps.end)) (in_front inits core.Stmts.end);
  }) (implicit (plain (head of) true))

module _ {A : Type 0} (begins ends : A → ℕ → ℕ) (rows : List Row) (are : AreRows rows) (found : KeysAreFound rows) where
  return_is : (c : Context) (b : ℕ) (p : Place) (e : Option (tree.Exp A)) (s : StatementCode) → return_code begins ends rows c b p e ≡ Some s → ReturnCode begins ends rows c b p e s
  return_is c b p None s h = inside _ s h
  return_is c b p (Some e) s h = let q = mapped (exp_code begins rows c b e) _ s h in (q.0, exp_is begins rows are found c b e q.0 q.1, q.2)

  mutual
    unfolding StmtCode ElseCode StmtsCode

    pub stmt_is : (n : ℕ) (c : Context) (b : ℕ) (x : statement.Stmt A) (s : StatementCode) → stmt_code begins ends rows n c b x ≡ Some s → StmtCode begins ends rows n c b x s
    stmt_is n c b (statement.local m f t w e) s h =
        let p = mapped (exp_code begins rows (in_own c (local_of c n f t w)) (begins m b) e) _ s h in
        (p.0, exp_is begins rows are found (in_own c (local_of c n f t w)) (begins m b) e p.0 p.1, p.2)
    stmt_is n c b (statement.eval m e) s h = let p = mapped (exp_code begins rows c (begins m b) e) _ s h in (p.0, exp_is begins rows are found c (begins m b) e p.0 p.1, p.2)
    stmt_is n c b (statement.branch m e x other) s h =
        let p = two (exp_code begins rows c (begins m b) e) (of_two (stmt_code begins ends rows n c (begins m b) x) (else_code begins ends rows (n + locals_in x) c (begins m b) other) pair) _ s h in
        let q = two (stmt_code begins ends rows n c (begins m b) x) (else_code begins ends rows (n + locals_in x) c (begins m b) other) pair p.1 p.3 in (
          p.0,
          q.0,
          q.1,
          exp_is begins rows are found c (begins m b) e p.0 p.2,
          stmt_is n c (begins m b) x q.0 q.2,
          else_is (n + locals_in x) c (begins m b) other q.1 q.3,
          branch_is (at_in c.member (begins m b)) p.0 p.1 q.0 q.1 s p.4 q.4,
        )
    stmt_is n c b (statement.loop m e x) s h =
        let p = two (exp_code begins rows c (begins m b) e) (stmt_code begins ends rows n c (begins m b) x) _ s h in
        (p.0, p.1, exp_is begins rows are found c (begins m b) e p.0 p.2, stmt_is n c (begins m b) x p.1 p.3, p.4)
    stmt_is n c b (statement.return m e) s h = return_is c (begins m b) (at_in c.member (begins m b)) e s h
    stmt_is n c b (statement.block m body) s h = let p = mapped (stmts_code begins ends rows n c (begins m b) body) _ s h in (p.0, stmts_are n c (begins m b) body p.0 p.1, p.2)
    stmt_is n c b (statement.sync m e body) s h =
        let p = two (exp_code begins rows c (begins m b) e) (stmts_code begins ends rows n c (begins m b) body) _ s h in
        (p.0, p.1, exp_is begins rows are found c (begins m b) e p.0 p.2, stmts_are n c (begins m b) body p.1 p.3, p.4)
    stmt_is n c b (statement.empty m) s h = inside _ s h

    else_is : (n : ℕ) (c : Context) (b : ℕ) (x : statement.Else A) (s : StatementCode) → else_code begins ends rows n c b x ≡ Some s → ElseCode begins ends rows n c b x s
    else_is n c b statement.no_else s h = inside _ s h
    else_is n c b (statement.otherwise x) s h = stmt_is n c b x s h

    pub stmts_are : (n : ℕ) (c : Context) (b : ℕ) (xs : statement.Stmts A) (ss : ListCode) → stmts_code begins ends rows n c b xs ≡ Some ss → StmtsCode begins ends rows n c b xs ss
    stmts_are n c b statement.end ss h = inside _ ss h
    stmts_are n c b (statement.more x xs) ss h =
        let p = two (stmt_code begins ends rows n c b x) (stmts_code begins ends rows (n + locals_in x) (after n c x) b xs) _ ss h in
        (p.0, p.1, stmt_is n c b x p.0 p.2, stmts_are (n + locals_in x) (after n c x) b xs p.1 p.3, p.4)

  module _ (super_at : MemberKey → ℕ) where
    pub method_is : (k : MethodKey) (b : ℕ) (m : A) (mods : List (syntax.Modifier A)) (t : Option (tree.TypeName A)) (w : tree.Word A) (ps : List (syntax.Param A)) (body : statement.Stmts A) (code : core.Method RunKeys)
        → method_code begins ends rows k b m mods w ps body ≡ Some code → MethodCoded begins ends rows super_at k b (syntax.method m mods t w ps body) code
    method_is k b m mods t w ps body code h =
        let p = mapped (stmts_code begins ends rows (length ps) (with_parameters (method k) (is_static_member begins mods) ps) (begins m b) body) _ code h in
        (p.0, stmts_are (length ps) (with_parameters (method k) (is_static_member begins mods) ps) (begins m b) body p.0 p.1, p.2)

    init_by_is : (is_static : Bool) (of : ClassKey) (b : ℕ) (m : A) (w : tree.Word A) (e : tree.Exp A) (ss : List StatementCode) → init_by begins ends rows is_static of b m w e ≡ Some ss → InitBy begins ends rows super_at is_static of b m w e ss
    init_by_is true of b m w e ss h = inside _ ss h
    init_by_is false of b m w e ss h =
        let c = plain (field (record { class = of; name = w.text })) false in
        let p = mapped (exp_code begins rows c (begins m b) e) _ ss h in
        (p.0, exp_is begins rows are found c (begins m b) e p.0 p.1, p.2)

    init_is : (of : ClassKey) (b : ℕ) (x : syntax.Member A) (ss : List StatementCode) → init_code begins ends rows of b x ≡ Some ss → InitCoded begins ends rows super_at of b x ss
    init_is of b (syntax.field m mods t w (Some e)) ss h = init_by_is (is_static_member begins mods) of b m w e ss h
    init_is of b (syntax.field m mods t w None) ss h = inside _ ss h
    init_is of b (syntax.method m mods t w ps body) ss h = inside _ ss h
    init_is of b (syntax.constructor m mods w ps args body) ss h = inside _ ss h
    init_is of b (syntax.inner m c) ss h = inside _ ss h

    pub inits_are : (of : ClassKey) (b : ℕ) (xs : syntax.Members A) (ss : List StatementCode) → inits_code begins ends rows of b xs ≡ Some ss → InitsCoded begins ends rows super_at of b xs ss
    unfolding InitsCoded
    inits_are of b syntax.end ss h = inside _ ss h
    inits_are of b (syntax.more x xs) ss h =
        let p = two (init_code begins ends rows of b x) (inits_code begins ends rows of b xs) _ ss h in
        (p.0, p.1, init_is of b x p.0 p.2, inits_are of b xs p.1 p.3, p.4)

    ctor_of_found : (f : Found) (q : CtorKey) → found_ctor begins ends rows f ≡ Some q → f ≡ one (constructor_decl q)
    ctor_of_found (one (constructor_decl p)) q e = let is : p ≡ q = cc in ap (λ (x : CtorKey). one (constructor_decl x)) is
    ctor_of_found (one (class_decl k)) q e = absurd cc
    ctor_of_found (one (field_decl k)) q e = absurd cc
    ctor_of_found (one (method_decl k)) q e = absurd cc
    ctor_of_found (one (local_decl k)) q e = absurd cc
    ctor_of_found nothing q e = absurd cc
    ctor_of_found (many c d) q e = absurd cc
    ctor_of_found (not_accessible d) q e = absurd cc
    ctor_of_found (from_static d) q e = absurd cc

    implicit_is : (c : Context) (q : CtorKey) → implicit begins ends rows c ≡ Some q → ImplicitFinds rows c q
    implicit_is c q e =
        (in_iff (own_superclass rows c) (λ k. find_ctor_of rows (scope_of c) k []) (IsSuperclass rows (scope_of c).class) (λ k f. FindsCtorOf rows (scope_of c) k [] f) (own_super_iff rows are found c)
        (λ k. found.ctor_of (scope_of c) k []) (one (constructor_decl q))).0 (ctor_of_found (ctor_found rows c (own_superclass rows c) (Some [])) q e)

    pub ctor_is : (k : CtorKey) (b : ℕ) (inits : List StatementCode) (m : A) (mods : List (syntax.Modifier A)) (w : tree.Word A) (ps : List (syntax.Param A)) (args : Option (tree.Exps A)) (body : statement.Stmts A) (code : MemberCode)
        → ctor_code begins ends rows k b inits m w ps args body ≡ Some code → ConstructorCoded begins ends rows super_at k b inits (syntax.constructor m mods w ps args body) code
    ctor_is k b inits m mods w ps None body code h =
        let p = two (implicit begins ends rows (with_parameters (constructor k) true ps)) (stmts_code begins ends rows (length ps) (with_parameters (constructor k) false ps) (begins m b) body) _ code h in
        (_, p.1, (p.0, implicit_is (with_parameters (constructor k) true ps) p.0 p.2, refl), stmts_are (length ps) (with_parameters (constructor k) false ps) (begins m b) body p.1 p.3, p.4)
    ctor_is k b inits m mods w ps (Some args) body code h = absurd cc

    pub default_is : (of : ClassKey) (inits : List StatementCode) (code : MemberCode) → default_code begins ends rows of inits ≡ Some code → DefaultCoded begins ends rows super_at of inits code
    default_is of inits code h = let p = mapped (implicit begins ends rows (plain (head of) true)) _ code h in (p.0, implicit_is (plain (head of) true) p.0 p.1, p.2)
