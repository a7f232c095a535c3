-- The code of statements of which none breaks a rule is well typed.
use Rattle.std.proofs.Common.{◌≡◌, ℕ, zero, suc, ◌+◌, ◌≤◌, List, [], ◌∷◌, ◌++◌, length, map, Option, Some, None, Bool, true, false, cond, refl, sym, ap, subst, ◌∙◌, inl, inr, arith, eq-eqb, eqb-true}
use Rattle.std.specs.Prelude.{◌⊎◌, nat_eq, slice_get}
use Rattle.std.proofs.lemmas.Option.{slice_get_within}
use Rattle.jr_ast.specs.Tree as tree
use Rattle.jr_ast.specs.StatementTree as statement
use Rattle.jr_ast.specs.declared.operators.UnOp.TheVariants as sign
use Rattle.jr_runs.specs.Values.{boolean_type, reference}
use Rattle.jr_runs.specs.Rows as core_rows
use Rattle.jr_runs.specs.Typing as typing
use Rattle.jr_runs.specs.Typing.{type_of, AreNew, StmtTyped, StmtsTyped}
use Rattle.jr_table.specs.Keys.{ClassKey, Ty, int, boolean, void, null, class}
use Rattle.jr_table.specs.Decls.{LocalKey, local_decl}
use Rattle.jr_table.specs.Rows.{Row}
use Rattle.jr_table.specs.Conditions.{AreRows}
use Rattle.jr_table.specs.Keyed.{IsAssignable}
use Rattle.jr_table.specs.Scope.{Scope, ScopeLocal, FindsLocal}
use Rattle.jr_table.specs.LookupLaws.{EachHasOne, KeysAreFound}
use Rattle.jr_table.specs.Context.{Context, Local, LocalType, known, written, scope_of, scope_local, NamesClass, WritesType, IsLocalType, IsTypeOf, Returns, with_local, in_own, local_of, local_type, local_key, after, locals_in, locals_in_row}
use Rattle.jr_table.specs.Binding.{HasType, value, left}
use Rattle.jr_table.specs.Binding as role
use Rattle.jr_table.specs.Somewhere.{InStmt, InElse, InStmts}
use Rattle.jr_table.specs.ExpressionRules.{Suits, TakesOne}
use Rattle.jr_table.specs.Meanings as meaning
use Rattle.jr_table.specs.Meanings.{written_type}
use Rattle.jr_table.specs.Notes.{suits, takes_one}
use Rattle.jr_table.specs.declared.rules.Rule.TheVariants as rule
use Rattle.jr_table.proofs.TypeTests.{suits_iff, takes_one_iff}
use Rattle.jr_table.proofs.RowTypes.{some_iff, written_iff}
use Rattle.jr_table.proofs.Typing.{typed}
use Rattle.jr_code.specs.RunKeys.{RunKeys}
use Rattle.jr_code.specs.RunRows.{run_type, AreRunRows}
use Rattle.jr_code.specs.Coded.{Code, ExpCode}
use Rattle.jr_code.specs.CodedStatements.{StatementCode, ListCode, numbers, StmtCode, ElseCode, StmtsCode}
use Rattle.jr_code.proofs.OneFound.{written_once}
use Rattle.jr_sound_code.proofs.Answers.{surely}
use Rattle.jr_sound_code.proofs.StatementsStand.{CleanExp, CleanStmt, CleanElse, CleanStmts}
use Rattle.jr_sound_code.proofs.Fitting.{RunTy, Proper, ProperRows}
use Rattle.jr_sound_code.proofs.TypedCode.{LocalsTyped, exp_typed}

-- no number from this one on is taken
abbrev pub Under : ℕ → List (ℕ × RunTy) → Type 0
Under n G = (k : ℕ) → n ≤ k → type_of G k ≡ None

-- what the member returns, and the type of runs that it is; or that it returns nothing
abbrev pub ResultIs : List Row → Context → Option RunTy → Type 0
ResultIs rows c T = ((t : Ty) × Returns rows c.member t × ((U : RunTy) × (T ≡ Some U) × (run_type t ≡ Some U))) ⊎ (((t : Ty) → Returns rows c.member t → ⊥) × (T ≡ None))

under_more : (n m : ℕ) (G : List (ℕ × RunTy)) → Under n G → Under (n + m) G
under_more n m G h k le = h k (omega (arith, le))

under_next : (n : ℕ) (U : RunTy) (G : List (ℕ × RunTy)) → Under n G → Under (n + 1) ((n, U) ∷ G)
under_next n U G h k le = by (nat_eq n k) refl
  where
    by : (b : Bool) → nat_eq n k ≡ b → cond (nat_eq n k) (Some U) (type_of G k) ≡ None
    by true e = (let same = eqb-true n k e in absurd (omega (arith, le, same)))
    by false e = ap (λ (b : Bool). cond b (Some U) (type_of G k)) e ∙ h k (omega (arith, le))

are_new : (n count : ℕ) (G : List (ℕ × RunTy)) → ((k : ℕ) → n ≤ k → type_of G k ≡ None) → AreNew G (numbers n count)
unfolding numbers
are_new n zero G h = tt
are_new n (suc count) G h = (h n (omega arith), are_new (suc n) count G (λ k le. h k (omega (arith, le))))

-- ---- locals of a list with one more at its end

last_or : {X : Type 0} (xs : List X) (x y : X) (i : ℕ) → slice_get (xs ++ x ∷ []) i ≡ Some y → (slice_get xs i ≡ Some y) ⊎ ((i ≡ length xs) × (x ≡ y))
last_or [] x y zero e = inr (refl, cc)
last_or [] x y (suc i) e = absurd cc
last_or (z ∷ xs) x y zero e = inl e
last_or (z ∷ xs) x y (suc i) e = elim (last_or xs x y i e) [
  | inl h ↦ inl h
  | inr h ↦ inr (ap suc h.0, h.1)
]

in_first : {X : Type 0} (xs ys : List X) (y : X) (i : ℕ) → slice_get xs i ≡ Some y → slice_get (xs ++ ys) i ≡ Some y
in_first [] ys y i e = absurd cc
in_first (x ∷ xs) ys y zero e = e
in_first (x ∷ xs) ys y (suc i) e = in_first xs ys y i e

at_last : {X : Type 0} (xs : List X) (x : X) → slice_get (xs ++ x ∷ []) (length xs) ≡ Some x
at_last [] x = refl
at_last (y ∷ xs) x = at_last xs x

map_last : (xs : List Local) (x : Local) → map scope_local (xs ++ x ∷ []) ≡ map scope_local xs ++ scope_local x ∷ []
map_last [] x = refl
map_last (y ∷ xs) x = ap (λ (zs : List ScopeLocal). scope_local y ∷ zs) (map_last xs x)

-- the local that a name finds: the last one, or one before it
finds_or : (ls : List Local) (l : Local) (name : List ℕ) (k : LocalKey) → FindsLocal (map scope_local (ls ++ l ∷ [])) name k → (l.key ≡ k) ⊎ FindsLocal (map scope_local ls) name k
finds_or ls l name k f = by (subst (λ (z : List ScopeLocal). FindsLocal z name k) (map_last ls l) f)
  where
    by : FindsLocal (map scope_local ls ++ scope_local l ∷ []) name k → (l.key ≡ k) ⊎ FindsLocal (map scope_local ls) name k
    by g = elim (last_or (map scope_local ls) (scope_local l) g.local g.place g.stands) [
      | inl at ↦ inr (record { place = g.place; local = g.local; stands = at; named = g.named; is = g.is; last = λ i x less e. g.last i x less (in_first (map scope_local ls) (scope_local l ∷ []) x i e) })
      | inr (place, same) ↦ inl (ap (λ (z : ScopeLocal). z.key) same ∙ g.is)
    ]

module _ (rows : List Row) where
  -- a local's type doesn't look at locals
  type_moves : (s z : Scope) → s.class ≡ z.class → (x : LocalType) (t : Ty) → IsLocalType rows s x t → IsLocalType rows z x t
  type_moves s z e (known u) t h = h
  type_moves s z e (written None name) t (k, names, is) = (k, subst (λ (q : ClassKey). NamesClass rows (record { class = q; is_static = z.is_static; locals = z.locals }) None name k) e names, is)
  type_moves s z e (written (Some o) name) t (k, (j, front, back), is) =
      (k, subst (λ (q : ClassKey). NamesClass rows (record { class = q; is_static = z.is_static; locals = z.locals }) (Some o) name k) e (j, front, back), is)

  -- with one local more, in the initializer of one or not
  abbrev longer : Context → Local → Option LocalKey → Context
  longer c l own = record { member = c.member; is_static = c.is_static; locals = c.locals ++ l ∷ []; own = own }

  module _ (c : Context) (l : Local) (own : Option LocalKey) where
    -- the type of the last local of a list, and of those before it
    new_type : (k : LocalKey) (t : Ty) → l.key ≡ k → IsTypeOf rows (longer c l own) (local_decl k) t → IsLocalType rows (scope_of c) l.type t
    new_type k t key (x, knows, is) = elim (last_or c.locals l x knows.number knows.stands) [
      | inl at ↦ absurd (knows.last (length c.locals) l (slice_get_within c.locals knows.number x at) (at_last c.locals l) key)
      | inr (place, same) ↦ type_moves (scope_of (longer c l own)) (scope_of c) refl l.type t (subst (λ (z : Local). IsLocalType rows (scope_of (longer c l own)) z.type t) (sym same) is)
    ]

    old_type : (k : LocalKey) (t : Ty) → (l.key ≡ k → ⊥) → IsTypeOf rows (longer c l own) (local_decl k) t → IsTypeOf rows c (local_decl k) t
    old_type k t differs (x, knows, is) = elim (last_or c.locals l x knows.number knows.stands) [
      | inl at ↦ (x, record { number = knows.number; stands = at; is = knows.is; last = λ i other less e. knows.last i other less (in_first c.locals (l ∷ []) other i e) }, type_moves (scope_of (longer c l own)) (scope_of c) refl x.type t is)
      | inr (place, same) ↦ absurd (differs (ap (λ (z : Local). z.key) same ∙ knows.is))
    ]

  -- locals are typed where one more is known
  more_typed : (c : Context) (G : List (ℕ × RunTy)) (n : ℕ) (l : Local) → l.key ≡ local_key c n → (U : RunTy) → Under n G → c.own ≡ None → LocalsTyped rows c G → ((t : Ty) → IsLocalType rows (scope_of c) l.type t → run_type t ≡ Some U)
      → LocalsTyped rows (with_local c l) ((n, U) ∷ G)
  more_typed c G n l key U under own locals is k name finds never = elim (finds_or c.locals l name k finds) [
    | inl same ↦ (let number : n ≡ k.number = ap (λ (z : LocalKey). z.number) (sym key ∙ same) in
        (U, ap (λ (b : Bool). cond b (Some U) (type_of G k.number)) (eq-eqb n k.number number), λ t h. is t (new_type c l None k t same h)))
    | inr old ↦ (let was = locals k name old (λ e. (let p = sym own ∙ e in cc)) in
        (was.0, by k was.0 was.1 (nat_eq n k.number) refl, λ t h. was.2 t (old_type c l None k t (λ same. differs k was.0 was.1 (ap (λ (z : LocalKey). z.number) (sym key ∙ same))) h)))
  ]
    where
      differs : (k : LocalKey) (V : RunTy) → type_of G k.number ≡ Some V → n ≡ k.number → ⊥
      differs k V e same = (let p : None ≡ Some V = sym (under k.number (omega (arith, same))) ∙ e in cc)

      by : (k : LocalKey) (V : RunTy) → type_of G k.number ≡ Some V → (b : Bool) → nat_eq n k.number ≡ b → cond (nat_eq n k.number) (Some U) (type_of G k.number) ≡ Some V
      by k V e true t = absurd (differs k V e (eqb-true n k.number t))
      by k V e false t = ap (λ (b : Bool). cond b (Some U) (type_of G k.number)) t ∙ e

  -- in a local's initializer the others are
  own_typed : (c : Context) (G : List (ℕ × RunTy)) (n : ℕ) (l : Local) → l.key ≡ local_key c n → Under n G → c.own ≡ None → LocalsTyped rows c G → LocalsTyped rows (in_own c l) G
  own_typed c G n l key under own locals k name finds never = elim (finds_or c.locals l name k finds) [
    | inl same ↦ absurd (never (ap Some same))
    | inr old ↦ (let was = locals k name old (λ e. (let p = sym own ∙ e in cc)) in
        (was.0, was.1, λ t h. was.2 t (old_type c l (Some l.key) k t (λ same. never (ap Some same)) h)))
  ]

  written_local : {A : Type 0} (s : Scope) (of : tree.TypeName A) (t : Ty) → IsLocalType rows s (local_type of) t → WritesType rows s of t
  written_local s (tree.int m) t h = h
  written_local s (tree.boolean m) t h = h
  written_local s (tree.named m o w) t h = h

  written_proper : {A : Type 0} (s : Scope) (of : tree.TypeName A) (t : Ty) → WritesType rows s of t → Proper t
  written_proper s (tree.int m) t h = (_, ap run_type h)
  written_proper s (tree.boolean m) t h = (_, ap run_type h)
  written_proper s (tree.named m o w) t (k, names, is) = (_, ap run_type is)

module _ {A : Type 0} (begins ends : A → ℕ → ℕ) (rows : List Row) (are : AreRows rows) (each : EachHasOne rows) (found : KeysAreFound rows) (R : core_rows.Rows RunKeys) (run : AreRunRows rows R) (proper : ProperRows rows) (C : Option ClassKey) (T : Option RunTy) where
  -- what is known at a place, where the next local has this number
  pub record IsTyped (n : ℕ) (c : Context) (G : List (ℕ × RunTy)) : Type 0 where
    pub locals : LocalsTyped rows c G
    pub under : Under n G
    pub own : c.own ≡ None
    pub object : c.is_static ≡ false → C ≡ Some (scope_of c).class
    pub result : ResultIs rows c T

  later : (n m : ℕ) (c : Context) (G : List (ℕ × RunTy)) → IsTyped n c G → IsTyped (n + m) c G
  later n m c G h = record { locals = h.locals; under = under_more n m G h.under; own = h.own; object = h.object; result = h.result }

  value_typed : (n : ℕ) (c : Context) (G : List (ℕ × RunTy)) → IsTyped n c G → (r : role.Role) (b : ℕ) (e : tree.Exp A) → CleanExp begins rows c r b e → (z : Code) → ExpCode begins rows c b e z → (U : RunTy) (t u : Ty) → HasType rows c e t → IsAssignable rows t u → run_type u ≡ Some U
      → typing.HasType R G C z (Some U)
  value_typed n c G h r b e clean z code U t u has assigns is = exp_typed begins rows are each found R run proper c G C h.locals h.object r b b e clean z code (Some U) (t, has, (u, assigns, is))

  truth_typed : (n : ℕ) (c : Context) (G : List (ℕ × RunTy)) → IsTyped n c G → (b : ℕ) (e : tree.Exp A) → CleanExp begins rows c value b e → ((HasType rows c e boolean → ⊥) → ⊥) → (z : Code) → ExpCode begins rows c b e z → typing.HasType R G C z (Some boolean_type)
  truth_typed n c G h b e clean sure z code =
      value_typed n c G h value b e clean z code boolean_type boolean boolean (surely (takes_one sign.Not (meaning.type_of rows c e)) (TakesOne rows c sign.Not e) (takes_one_iff rows are found c sign.Not e) sure) (inl refl) refl

  -- a class type, where there is one
  class_of_lock : (c : Context) (e : tree.Exp A) → (((k : ClassKey) → HasType rows c e (class k) → ⊥) → ⊥) → (k : ClassKey) × HasType rows c e (class k)
  class_of_lock c e sure = by (meaning.type_of rows c e) refl
    where
      other : (o : Option Ty) → meaning.type_of rows c e ≡ o → ((k : ClassKey) → o ≡ Some (class k) → ⊥) → ⊥
      other o is not = sure (λ k h. not k (sym is ∙ (typed rows are found c e (class k)).1 h))

      by : (o : Option Ty) → meaning.type_of rows c e ≡ o → (k : ClassKey) × HasType rows c e (class k)
      by (Some (class k)) is = (k, (typed rows are found c e (class k)).0 is)
      by None is = absurd (other None is (λ k x. cc))
      by (Some int) is = absurd (other (Some int) is (λ k x. cc))
      by (Some boolean) is = absurd (other (Some boolean) is (λ k x. cc))
      by (Some void) is = absurd (other (Some void) is (λ k x. cc))
      by (Some null) is = absurd (other (Some null) is (λ k x. cc))

  abbrev Result : ℕ → Context → List (ℕ × RunTy) → statement.Stmt A → StatementCode → Type 0
  Result n c G x s = (D : List (ℕ × RunTy)) × StmtTyped R G C T s D × IsTyped (n + locals_in x) (after n c x) D

  local_typed : (n : ℕ) (c : Context) (b : ℕ) (m : A) (f : Bool) (t : tree.TypeName A) (w : tree.Word A) (e : tree.Exp A) (s : StatementCode) (G : List (ℕ × RunTy)) → StmtCode begins ends rows n c b (statement.local m f t w e) s
      → CleanStmt begins rows n c b (statement.local m f t w e) → IsTyped n c G → Result n c G (statement.local m f t w e) s
  unfolding StmtCode InStmt locals_in
  local_typed n c b m f t w e s G (z, code, is) clean h =
      let l = local_of c n f t w in
      let d = in_own c l in
      let suited = surely (suits rows (meaning.type_of rows d e) (written_type rows (scope_of c) t)) (Suits rows d e (WritesType rows (scope_of c) t))
      (suits_iff rows are (meaning.type_of rows d e) (written_type rows (scope_of c) t) (HasType rows d e) (WritesType rows (scope_of c) t) (typed rows are found d e) (written_iff rows are found (scope_of c) t)) (λ fails. clean _ rule.TypeMismatch (inl (refl, fails))) in
      let U = written_proper rows (scope_of c) t suited.1 suited.3 in
      let init = exp_typed begins rows are each found R run proper d G C (own_typed rows c G n l refl h.under h.own h.locals) h.object value (begins m b) (begins m b) e (λ at q g. clean at q (inr g)) z code (Some U.0) (suited.0, suited.2, (suited.1, suited.4, U.1)) in (
        (n, U.0) ∷ G,
        subst (λ (y : StatementCode). StmtTyped R G C T y ((n, U.0) ∷ G)) (sym is) (U.0, init, h.under n (omega arith), refl),
        record {
          locals = more_typed rows c G n l refl U.0 h.under h.own h.locals (λ u writes. ap run_type (written_once rows each (scope_of c) t u suited.1 (written_local rows (scope_of c) t u writes) suited.3) ∙ U.1);
          under = under_next n U.0 G h.under;
          own = refl;
          object = h.object;
          result = h.result;
        },
      )

  return_typed : (n : ℕ) (c : Context) (b : ℕ) (m : A) (e : Option (tree.Exp A)) (s : StatementCode) (G : List (ℕ × RunTy)) → StmtCode begins ends rows n c b (statement.return m e) s → CleanStmt begins rows n c b (statement.return m e) → IsTyped n c G → StmtTyped R G C T s G
  unfolding StmtCode InStmt
  return_typed n c b m None s G is clean h = subst (λ (y : StatementCode). StmtTyped R G C T y G) (sym is) (elim h.result [
    | inl (t, gives, U) ↦ absurd (clean _ rule.ReturnForm (inl (refl, (t, gives))))
    | inr (not, none) ↦ (none, refl)
  ])
  return_typed n c b m (Some e) s G (z, code, is) clean h = subst (λ (y : StatementCode). StmtTyped R G C T y G) (sym is) (elim h.result [
    | inl (t, gives, (U, result, runs)) ↦ (let suited = surely (suits rows (meaning.type_of rows c e) (Some t)) (Suits rows c e (λ u. u ≡ t))
        (suits_iff rows are (meaning.type_of rows c e) (Some t) (HasType rows c e) (λ u. u ≡ t) (typed rows are found c e) (λ u. some_iff t u)) (λ fails. clean _ rule.TypeMismatch (inl (refl, (t, gives, fails)))) in
        (U, result, value_typed n c G h value (begins m b) e (λ at q g. clean at q (inr g)) z code U suited.0 suited.1 suited.2 suited.4 (ap run_type suited.3 ∙ runs), refl))
    | inr (not, none) ↦ absurd (clean _ rule.ReturnForm (inl (refl, not)))
  ])

  mutual
    unfolding StmtCode ElseCode StmtsCode InStmt InElse InStmts locals_in

    stmt_typed : (n : ℕ) (c : Context) (b : ℕ) (x : statement.Stmt A) (s : StatementCode) (G : List (ℕ × RunTy)) → StmtCode begins ends rows n c b x s → CleanStmt begins rows n c b x → IsTyped n c G → Result n c G x s
    stmt_typed n c b (statement.local m f t w e) s G code clean h = local_typed n c b m f t w e s G code clean h
    stmt_typed n c b (statement.eval m e) s G (z, code, is) clean h =
        (G, subst (λ (y : StatementCode). StmtTyped R G C T y G) (sym is) (exp_typed begins rows are each found R run proper c G C h.locals h.object role.statement (begins m b) (begins m b) e (λ at q g. clean at q (inr g)) z code None tt, refl), later n 0 c G h)
    stmt_typed n c b (statement.branch m e x other) s G (z, y, q, code, one, two, is) clean h =
        let a = stmt_typed n c (begins m b) x y G one (λ at r g. clean at r (inr (inr (inl g)))) h in
        let o = else_typed (n + locals_in x) c (begins m b) other q G two (λ at r g. clean at r (inr (inr (inr g)))) (later n (locals_in x) c G h) in (
          G,
          subst (λ (v : StatementCode). StmtTyped R G C T v G) (sym is)
              (a.0, o.0, truth_typed n c G h (begins m b) e (λ at r g. clean at r (inr (inl g))) (λ fails. clean _ rule.TypeMismatch (inl (refl, fails))) z code, a.1, o.1, refl),
          later n _ c G h,
        )
    stmt_typed n c b (statement.loop m e x) s G (z, y, code, one, is) clean h =
        let a = stmt_typed n c (begins m b) x y G one (λ at r g. clean at r (inr (inr g))) h in (
          G,
          subst (λ (v : StatementCode). StmtTyped R G C T v G) (sym is)
              (a.0, truth_typed n c G h (begins m b) e (λ at r g. clean at r (inr (inl g))) (λ fails. clean _ rule.TypeMismatch (inl (refl, fails))) z code, a.1, refl),
          later n _ c G h,
        )
    stmt_typed n c b (statement.return m e) s G code clean h = (G, return_typed n c b m e s G code clean h, later n 0 c G h)
    stmt_typed n c b (statement.block m body) s G (z, code, is) clean h =
        (G, subst (λ (v : StatementCode). StmtTyped R G C T v G) (sym is) (are_new n (locals_in_row body) G h.under, stmts_typed n c (begins m b) body z G code (λ at r g. clean at r (inr (inr g))) h, refl), later n _ c G h)
    stmt_typed n c b (statement.sync m e body) s G (z, y, code, codes, is) clean h =
        let k = class_of_lock c e (λ fails. clean _ rule.TypeMismatch (inl (refl, fails))) in (
          G,
          subst (λ (v : StatementCode). StmtTyped R G C T v G) (sym is)
              (k.0, value_typed n c G h value (begins m b) e (λ at r g. clean at r (inr (inl g))) z code (reference k.0) (class k.0) (class k.0) k.1 (inl refl) refl, stmts_typed n c (begins m b) body y G codes (λ at r g. clean at r (inr (inr (inr g)))) h, refl),
          later n _ c G h,
        )
    stmt_typed n c b (statement.empty m) s G is clean h = (G, subst (λ (v : StatementCode). StmtTyped R G C T v G) (sym is) refl, later n 0 c G h)

    else_typed : (n : ℕ) (c : Context) (b : ℕ) (x : statement.Else A) (s : StatementCode) (G : List (ℕ × RunTy)) → ElseCode begins ends rows n c b x s → CleanElse begins rows n c b x → IsTyped n c G → (D : List (ℕ × RunTy)) × StmtTyped R G C T s D
    else_typed n c b statement.no_else s G is clean h = (G, subst (λ (v : StatementCode). StmtTyped R G C T v G) (sym is) refl)
    else_typed n c b (statement.otherwise x) s G code clean h = let a = stmt_typed n c b x s G code clean h in (a.0, a.1)

    pub stmts_typed : (n : ℕ) (c : Context) (b : ℕ) (xs : statement.Stmts A) (z : ListCode) (G : List (ℕ × RunTy)) → StmtsCode begins ends rows n c b xs z → CleanStmts begins rows n c b xs → IsTyped n c G → StmtsTyped R G C T z
    stmts_typed n c b statement.end z G is clean h = subst (λ (v : ListCode). StmtsTyped R G C T v) (sym is) tt
    stmts_typed n c b (statement.more x xs) z G (y, ys, code, codes, is) clean h =
        let a = stmt_typed n c b x y G code (λ at r g. clean at r (inl g)) h in
        subst (λ (v : ListCode). StmtsTyped R G C T v) (sym is) (a.0, a.1, stmts_typed (n + locals_in x) (after n c x) b xs ys a.0 codes (λ at r g. clean at r (inr g)) a.2)
