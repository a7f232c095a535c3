-- A never null local holds no null wherever it is in scope, so what is never null gives none.
use Rattle.std.proofs.Common.{◌≡◌, ◌<◌, ◌≤◌, ◌+◌, ℕ, suc, length, arith, Bool, true, false, cond, List, [], ◌∷◌, Option, Some, None, IsTrue, refl, sym, ap, subst, ◌∙◌, ⊎_elim}
use Rattle.std.proofs.lemmas.Bool.{cases_eq, ne_eqb}
use Rattle.jr_plans.specs.Plan.{done, call}
use Rattle.jr_plans.specs.Reach.{anyhow}
use Rattle.jr_plans.specs.Safe.{IsSafeTable}
use Rattle.jr_plans.proofs.Safety.{safe_more, safe_ends, table_answers_well}
use Rattle.jr_runs.specs.Keys.{Keys, At}
use Rattle.jr_runs.specs.Values.{Value, int, truth, null, text, class_object, object, Ty, boolean_type}
use Rattle.jr_runs.specs.Actions.{part}
use Rattle.jr_runs.specs.Rows.{Rows}
use Rattle.jr_runs.specs.Fitting.{is_new, is_instance}
use Rattle.jr_runs.specs.Arithmetic.{Out, value, thrown}
use Rattle.jr_runs.specs.Core as core
use Rattle.jr_runs.specs.Core.{Exp, Target, Exps, Stmt, Stmts, Program, arithmetic, comparison, equal, different, plus, minus, complement}
use Rattle.jr_runs.specs.Evaluation.{first_locals, Flow, goes_on, returns, invoke, construct, turn, Step, Slot, local_at, with_local, unset, constructed, exp, target, exps, stmt, table}
use Rattle.jr_runs.specs.Starting.{IsReceiver}
use Rattle.jr_runs.specs.Typing.{type_of, param_context, HasType, TargetHas, HaveTypes, StmtTyped, StmtsTyped}
use Rattle.jr_runs.specs.TypedRuns.{OutHas}
use Rattle.jr_runs.proofs.Locals.{written, not_written}
use Rattle.jr_cover.specs.Evaluated as of
use Rattle.jr_cover.specs.Evaluated.{Piece, an_exp, a_target, an_args, a_stmt, a_list, a_turn, Gives, Part, Evaluated, itself, part, is_never_null}
use Rattle.jr_cover.specs.NeverNull.{NeverNullIsNotNull, CarefulExp, CarefulTarget, CarefulExps, CarefulStmt, CarefulStmts}
use Rattle.jr_cover.proofs.Sparing.{SparingExp, SparingStmt}
use Rattle.jr_cover.proofs.KeepsLocals.{pairs, Untouched, turn_spares, Answered, Asked, FlowSame, Keep, Same, SameIn, Aim, anything, both_hold, exp_keeps, for_all, keep_next, stmt_keeps, target_keeps, turn_keeps, unset_same, within, Turn}

-- ---- a program, and one member's code in it

module _ {K : Keys} (P : Program K) (N : ℕ → Bool) where
  abbrev R : Rows K
  R = P.rows

  keeps_table : IsSafeTable (Asked P.rows N) (Answered P.rows N) (table P)
  keeps_table (invoke m me vs) u = anything P.rows N (table P (invoke m me vs))
  keeps_table (construct k me vs) u = anything P.rows N (table P (construct k me vs))
  keeps_table (turn me c b l) u = pairs P.rows N (λ o. (G : List (ℕ × Ty K)) → Turn P.rows N c b G → OutHas (FlowSame P.rows N G l) o) (λ o. SparingExp N c × SparingStmt N b → OutHas (Untouched P.rows N l) o) (table P (turn me c b l))
      (for_all P.rows N (λ G o. Turn P.rows N c b G → OutHas (FlowSame P.rows N G l) o) (table P (turn me c b l)) (λ G. for_all P.rows N (λ (t : Turn P.rows N c b G) o. OutHas (FlowSame P.rows N G l) o) (table P (turn me c b l)) (λ t. turn_keeps P.rows N me c b l G t)))
      (for_all P.rows N (λ (t : SparingExp N c × SparingStmt N b) o. OutHas (Untouched P.rows N l) o) (table P (turn me c b l)) (λ t. turn_spares P.rows N me c b l t))

  pub given : {A : Type 0} (Q : A → Type 0) (me : Value K) (x : Step K A) (a : A) → Keep P.rows N Q x → Gives P me x a → Q a
  given Q me x a h g = safe_ends (Asked P.rows N) (Answered P.rows N) (anyhow (table P)) (λ c t r u d. table_answers_well (Asked P.rows N) (Answered P.rows N) (table P) keeps_table d.0 c t r u d.1) (OutHas Q) x h g.0 (value a) g.1

  abbrev pub Known : List (ℕ × Ty K) → List (Value K) → Type 0
  Known G l = (i : ℕ) (T : Ty K) → type_of G i ≡ Some T → N i ≡ true → local_at l i ≡ null → ⊥

  known_same : (G : List (ℕ × Ty K)) (l m : List (Value K)) → SameIn P.rows N G l m → Known G l → Known G m
  known_same G l m s h i T e t q = h i T e t (sym (s i T e t) ∙ q)

  module _ (C : Option K.class) (me : Value K) (receiver : IsReceiver P.rows C me) where
    some_is : (c : K.class) → IsTrue (is_instance P.rows c me) → me ≡ null → ⊥
    some_is c i e = no (subst (λ v. IsTrue (is_instance P.rows c v)) e i)
      where
        no : false ≡ true → ⊥
        no j = cc

    me_is : (G : List (ℕ × Ty K)) (p : At K) (T : Option (Ty K)) (D : Option K.class) → IsReceiver P.rows D me → HasType P.rows G D (core.this p) T → me ≡ null → ⊥
    me_is G p T None r t e = t
    me_is G p T (Some c) r t e = some_is c r e

    new_is : (c : K.class) (v : Value K) → IsTrue (is_new P.rows c v) → v ≡ null → ⊥
    new_is c v i e = no (subst (λ w. IsTrue (is_new P.rows c w)) e i)
      where
        no : false ≡ true → ⊥
        no j = cc

    abbrev NotNull : Value K × List (Value K) → Type 0
    NotNull r = r.0 ≡ null → ⊥

    built_not_null : (o : Value K) (l : List (Value K)) → (o ≡ null → ⊥) → (a : Out (Flow K)) → OutHas NotNull (constructed o l a)
    built_not_null o l n (value f) = n
    built_not_null o l n (thrown f) = tt

    false_true : {B : Type 0} → false ≡ true → B
    false_true e = absurd (apart e)
      where
        apart : false ≡ true → ⊥
        apart j = cc

    text_null : (t : List ℕ) (v : Value K) → v ≡ text t → v ≡ null → ⊥
    text_null t v i e = cc

    class_null : (c : K.class) (v : Value K) → v ≡ class_object c → v ≡ null → ⊥
    class_null c v i e = cc

    never_keeps : (e : Exp K) (G : List (ℕ × Ty K)) (T : Option (Ty K)) → HasType P.rows G C e T → is_never_null N e ≡ true → (l : List (Value K)) → Known G l → Keep P.rows N NotNull (exp P.rows me e l)
    never_keeps (core.literal p (text t)) G T h n l k = λ e. text_null t (text t) refl e
    never_keeps (core.literal p (class_object c)) G T h n l k = λ e. class_null c (class_object c) refl e
    never_keeps (core.literal p (int z)) G T h n l k = false_true n
    never_keeps (core.literal p (truth b)) G T h n l k = false_true n
    never_keeps (core.literal p null) G T h n l k = false_true n
    never_keeps (core.literal p (object i c)) G T h n l k = false_true n
    never_keeps (core.this p) G T h n l k = me_is G p T C receiver h
    never_keeps (core.create p c q es) G T h n l k = λ o i. keep_next P.rows N (λ r. Unit {0}) NotNull (exps P.rows me es l) (λ z. call (construct q o z.0) (λ a. done (constructed o z.1 a)))
        (safe_more (Asked P.rows N) (Answered P.rows N) (λ a. Unit {0}) (OutHas (λ r. Unit {0})) out_any (exps P.rows me es l) (anything P.rows N (exps P.rows me es l)))
        (λ z u. (tt, λ a g. built_not_null o z.1 (new_is c o i) a))
      where
        out_any : (a : Out (List (Value K) × List (Value K))) → Unit {0} → OutHas (λ r. Unit {0}) a
        out_any (value r) u = tt
        out_any (thrown f) u = tt
    never_keeps (core.read p (core.local q i)) G T h n l k = k i h.0 h.1 n
    never_keeps (core.read p (core.static_field q f)) G T h n l k = false_true n
    never_keeps (core.read p (core.field_of q e f)) G T h n l k = false_true n
    never_keeps (core.assign p t e) G T h n l k = false_true n
    never_keeps (core.compound p o t e) G T h n l k = false_true n
    never_keeps (core.bump p o t) G T h n l k = false_true n
    never_keeps (core.signed p o e) G T h n l k = false_true n
    never_keeps (core.binary p o a b) G T h n l k = false_true n
    never_keeps (core.both p a b) G T h n l k = false_true n
    never_keeps (core.either p a b) G T h n l k = false_true n
    never_keeps (core.cast p c e) G T h n l k = false_true n
    never_keeps (core.static_call p m es) G T h n l k = false_true n
    never_keeps (core.instance_call p e m es) G T h n l k = false_true n
    never_keeps (core.super_call p e m es) G T h n l k = false_true n
    never_keeps (core.super_constructor p e q es) G T h n l k = false_true n

    -- ---- what holds of each piece that is evaluated

    abbrev Holds : Piece K → Type 0
    Holds (an_exp e l) = (G : List (ℕ × Ty K)) × (T : Option (Ty K)) × HasType P.rows G C e T × CarefulExp N e × Known G l
    Holds (a_target t l) = (G : List (ℕ × Ty K)) × (U : Ty K) × TargetHas P.rows G C t U × CarefulTarget N t × Known G l
    Holds (an_args es l) = (G : List (ℕ × Ty K)) × (Ts : List (Ty K)) × HaveTypes P.rows G C es Ts × CarefulExps N es × Known G l
    Holds (a_stmt s l) = (G : List (ℕ × Ty K)) × (D : List (ℕ × Ty K)) × (T : Option (Ty K)) × StmtTyped P.rows G C T s D × CarefulStmt N s × Known G l
    Holds (a_list b l) = (G : List (ℕ × Ty K)) × (T : Option (Ty K)) × StmtsTyped P.rows G C T b × CarefulStmts N b × Known G l
    Holds (a_turn c b l) = (G : List (ℕ × Ty K)) × (D : List (ℕ × Ty K)) × (T : Option (Ty K)) × HasType P.rows G C c (Some boolean_type) × StmtTyped P.rows G C T b D × CarefulExp N c × CarefulStmt N b × Known G l

    after_exp : (e : Exp K) (G : List (ℕ × Ty K)) (l m : List (Value K)) (v : Value K) → CarefulExp N e → Known G l → Gives P me (exp P.rows me e l) (v, m) → Known G m
    after_exp e G l m v c k g = known_same G l m (within P.rows N G l m (given (λ (r : Value K × List (Value K)). Same P.rows N l r.1) me (exp P.rows me e l) (v, m) (exp_keeps P.rows N me e l c) g)) k

    -- the same scope as in front of it
    stays : (s : Stmt K) (G D : List (ℕ × Ty K)) (T : Option (Ty K)) (l m : List (Value K)) → StmtTyped P.rows G C T s D → CarefulStmt N s → Known G l → Gives P me (stmt P.rows me s l) (goes_on m) → Known G m
    stays s G D T l m t c k g = known_same G l m (given (FlowSame P.rows N G l) me (stmt P.rows me s l) (goes_on m) (stmt_keeps P.rows N me C T s G D t c l) g) k

    after_target : (t : Target K) (G : List (ℕ × Ty K)) (l m : List (Value K)) (x : Slot K) → CarefulTarget N t → Known G l → Gives P me (target P.rows me t l) (x, m) → Known G m
    after_target t G l m x c k g = known_same G l m (within P.rows N G l m (given (Aim P.rows N me t l) me (target P.rows me t l) (x, m) (target_keeps P.rows N me t l c) g).0) k

    -- behind a statement, in the scope of what it declares
    after_stmt : (s : Stmt K) (G D : List (ℕ × Ty K)) (T : Option (Ty K)) (l m : List (Value K)) → StmtTyped P.rows G C T s D → CarefulStmt N s → Known G l → Gives P me (stmt P.rows me s l) (goes_on m) → Known D m
    after_stmt (core.declare p n e) G D T l m t c k g = subst (λ E. Known E m) (sym t.3) (given (λ f. Declared f) me (stmt P.rows me (core.declare p n e) l) (goes_on m) declared g)
      where
        Declared : Flow K → Type 0
        Declared (goes_on j) = Known ((n, t.0) ∷ G) j
        Declared (returns v) = Unit {0}

        scoped : (v : Value K) (j : List (Value K)) → Same P.rows N l j → (N n ≡ true → v ≡ null → ⊥) → Known ((n, t.0) ∷ G) (with_local j n v)
        scoped v j s nn i V f u q = ⊎_elim
            (λ (d : i ≡ n). nn (subst (λ z. N z ≡ true) d u) (sym (written j n v) ∙ subst (λ z. local_at (with_local j n v) z ≡ null) d q))
            (λ (d : i ≡ n → ⊥). k i V (sym (ap (λ b. cond b (Some t.0) (type_of G i)) (ne_eqb n i (λ z. d (sym z)))) ∙ f) u (sym (s i u) ∙ sym (not_written j n i v d) ∙ q))
            (cases_eq i n)

        declared : Keep P.rows N Declared (stmt P.rows me (core.declare p n e) l)
        declared = by_number (N n) refl
          where
            by_number : (b : Bool) → N n ≡ b → Keep P.rows N Declared (stmt P.rows me (core.declare p n e) l)
            by_number true y = keep_next P.rows N (λ (r : Value K × List (Value K)). Same P.rows N l r.1 × NotNull r) Declared (exp P.rows me e l) (λ r. done (value (goes_on (with_local r.1 n r.0))))
                (both_hold P.rows N (λ (r : Value K × List (Value K)). Same P.rows N l r.1) NotNull (exp P.rows me e l) (exp_keeps P.rows N me e l c.0) (never_keeps e G (Some t.0) t.1 (c.1 y) l k)) (λ r h. scoped r.0 r.1 h.0 (λ u. h.1))
            by_number false y = keep_next P.rows N (λ (r : Value K × List (Value K)). Same P.rows N l r.1) Declared (exp P.rows me e l) (λ r. done (value (goes_on (with_local r.1 n r.0)))) (exp_keeps P.rows N me e l c.0) (λ r h. scoped r.0 r.1 h (λ u. false_true (sym y ∙ u)))
    after_stmt (core.eval p e) G D T l m t c k g = subst (λ E. Known E m) (sym t.1) (stays (core.eval p e) G D T l m t c k g)
    after_stmt (core.branch p e a b) G D T l m t c k g = subst (λ E. Known E m) (sym t.5) (stays (core.branch p e a b) G D T l m t c k g)
    after_stmt (core.loop p e b) G D T l m t c k g = subst (λ E. Known E m) (sym t.3) (stays (core.loop p e b) G D T l m t c k g)
    after_stmt (core.return p e) G D T l m t c k g = subst (λ E. Known E m) (sym t.3) (stays (core.return p e) G D T l m t c k g)
    after_stmt (core.return_nothing p) G D T l m t c k g = subst (λ E. Known E m) (sym t.1) (stays (core.return_nothing p) G D T l m t c k g)
    after_stmt (core.block p ns b) G D T l m t c k g = subst (λ E. Known E m) (sym t.2) (stays (core.block p ns b) G D T l m t c k g)
    after_stmt (core.sync p q e b) G D T l m t c k g = subst (λ E. Known E m) (sym t.3) (stays (core.sync p q e b) G D T l m t c k g)
    after_stmt (core.empty p) G D T l m t c k g = subst (λ E. Known E m) (sym t) (stays (core.empty p) G D T l m t c k g)

    operand_typed : (o : core.Operator) (p : At K) (a b : Exp K) (G : List (ℕ × Ty K)) (T : Option (Ty K)) → HasType P.rows G C (core.binary p o a b) T → ((U : Option (Ty K)) × HasType P.rows G C a U) × ((U : Option (Ty K)) × HasType P.rows G C b U)
    operand_typed (arithmetic o) p a b G T h = ((_, h.0), (_, h.1))
    operand_typed (comparison o) p a b G T h = ((_, h.0), (_, h.1))
    operand_typed equal p a b G T h = ((_, h.2), (_, h.3))
    operand_typed different p a b G T h = ((_, h.2), (_, h.3))

    sign_typed : (o : core.Sign) (p : At K) (e : Exp K) (G : List (ℕ × Ty K)) (T : Option (Ty K)) → HasType P.rows G C (core.signed p o e) T → (U : Option (Ty K)) × HasType P.rows G C e U
    sign_typed plus p e G T h = (_, h.0)
    sign_typed minus p e G T h = (_, h.0)
    sign_typed complement p e G T h = (_, h.0)

    onward_to : (x y : Piece K) → Part P me x y → Holds x → Holds y
    onward_to _ _ (of.read p t l) h = (h.0, h.2.0, h.2.1, h.3, h.4)
    onward_to _ _ (of.assigned p t e l) h = (h.0, h.2.0, h.2.1, h.3.1, h.4)
    onward_to _ _ (of.right p t e l m x g) h = (h.0, Some h.2.0, h.2.2, h.3.2, after_target t h.0 l m x h.3.1 h.4 g)
    onward_to _ _ (of.changed p o t e l) h = (h.0, _, h.2.0, h.3.1, h.4)
    onward_to _ _ (of.by p o t e l m x v g i) h = (h.0, _, h.2.1, h.3.2, after_target t h.0 l m x h.3.1 h.4 g)
    onward_to _ _ (of.bumped p o t l) h = (h.0, _, h.2.0, h.3.1, h.4)
    onward_to _ _ (of.signed p o e l) h = let d = sign_typed o p e h.0 h.1 h.2 in (h.0, d.0, d.1, h.3, h.4)
    onward_to _ _ (of.first p o a b l) h = let d = operand_typed o p a b h.0 h.1 h.2 in (h.0, d.0.0, d.0.1, h.3.0, h.4)
    onward_to _ _ (of.second p o a b l m v g) h = let d = operand_typed o p a b h.0 h.1 h.2 in (h.0, d.1.0, d.1.1, h.3.1, after_exp a h.0 l m v h.3.0 h.4 g)
    onward_to _ _ (of.both_first p a b l) h = (h.0, _, h.2.0, h.3.0, h.4)
    onward_to _ _ (of.both_second p a b l m g) h = (h.0, _, h.2.1, h.3.1, after_exp a h.0 l m (truth true) h.3.0 h.4 g)
    onward_to _ _ (of.either_first p a b l) h = (h.0, _, h.2.0, h.3.0, h.4)
    onward_to _ _ (of.either_second p a b l m v n g) h = (h.0, _, h.2.1, h.3.1, after_exp a h.0 l m v h.3.0 h.4 g)
    onward_to _ _ (of.cast p c e l) h = (h.0, _, h.2.1, h.3, h.4)
    onward_to _ _ (of.static_args p m es l) h = (h.0, _, h.2.2, h.3, h.4)
    onward_to _ _ (of.receiver p e m es l) h = (h.0, _, h.2.3, h.3.0, h.4)
    onward_to _ _ (of.call_args p e m es l k v g) h = (h.0, _, h.2.4, h.3.1, after_exp e h.0 l k v h.3.0 h.4 g)
    onward_to _ _ (of.super_receiver p e m es l) h = (h.0, _, h.2.3, h.3.0, h.4)
    onward_to _ _ (of.super_args p e m es l k v g) h = (h.0, _, h.2.4, h.3.1, after_exp e h.0 l k v h.3.0 h.4 g)
    onward_to _ _ (of.new_args p c k es l) h = (h.0, _, h.2.2, h.3, h.4)
    onward_to _ _ (of.built p e k es l) h = (h.0, _, h.2.1, h.3.0, h.4)
    onward_to _ _ (of.built_args p e k es l m v g) h = (h.0, _, h.2.2, h.3.1, after_exp e h.0 l m v h.3.0 h.4 g)
    onward_to _ _ (of.of_field p e f l) h = (h.0, _, h.2.1, h.3, h.4)
    onward_to _ _ (of.arg e es l) h = (h.0, _, h.2.3, h.3.0, h.4)
    onward_to _ _ (of.args e es l m v g) h = (h.0, _, h.2.4, h.3.1, after_exp e h.0 l m v h.3.0 h.4 g)
    onward_to _ _ (of.init p n e l) h = (h.0, _, h.3.1, h.4.0, h.5)
    onward_to _ _ (of.eval p e l) h = (h.0, _, h.3.0, h.4, h.5)
    onward_to _ _ (of.test p c a b l) h = (h.0, _, h.3.2, h.4.0, h.5)
    onward_to _ _ (of.yes_branch p c a b l m g) h = (h.0, h.3.0, h.2, h.3.3, h.4.1, after_exp c h.0 l m (truth true) h.4.0 h.5 g)
    onward_to _ _ (of.no_branch p c a b l m v n g) h = (h.0, h.3.1, h.2, h.3.4, h.4.2, after_exp c h.0 l m v h.4.0 h.5 g)
    onward_to _ _ (of.looped p c b l) h = (h.0, h.3.0, h.2, h.3.1, h.3.2, h.4.0, h.4.1, h.5)
    onward_to _ _ (of.turn_test c b l) h = (h.0, _, h.3, h.5, h.7)
    onward_to _ _ (of.turn_body c b l m g) h = (h.0, h.1, h.2, h.4, h.6, after_exp c h.0 l m (truth true) h.5 h.7 g)
    onward_to _ _ (of.turn_next c b l m k g i) h = (h.0, h.1, h.2, h.3, h.4, h.5, h.6, stays b h.0 h.1 h.2 m k h.4 h.6 (after_exp c h.0 l m (truth true) h.5 h.7 g) i)
    onward_to _ _ (of.returned p e l) h = (h.0, Some h.3.0, h.3.2, h.4, h.5)
    onward_to _ _ (of.in_block p ns b l) h = (h.0, h.2, h.3.1, h.4, known_same h.0 l (unset ns l) (unset_same P.rows N h.0 ns l h.3.0) h.5)
    onward_to _ _ (of.lock p q e b l) h = (h.0, _, h.3.1, h.4.0, h.5)
    onward_to _ _ (of.in_monitor p q e b l m v g) h = (h.0, h.2, h.3.2, h.4.1, after_exp e h.0 l m v h.4.0 h.5 g)
    onward_to _ _ (of.front s b l) h = (h.0, h.2.0, h.1, h.2.1, h.3.0, h.4)
    onward_to _ _ (of.behind s b l m g) h = (h.2.0, h.1, h.2.2, h.3.1, after_stmt s h.0 h.2.0 h.1 l m h.2.1 h.3.0 h.4 g)

    holds_of : (x y : Piece K) → Evaluated P me x y → Holds x → Holds y
    holds_of x _ itself h = h
    holds_of x z (part y _ d p) h = onward_to y z p (holds_of x y d h)

    pub no_null : (x : Piece K) → Holds x → (e : Exp K) (l m : List (Value K)) (v : Value K) → Evaluated P me x (an_exp e l) → is_never_null N e ≡ true → Gives P me (exp P.rows me e l) (v, m) → v ≡ null → ⊥
    no_null x h e l m v d n g =
        let k = holds_of x (an_exp e l) d h in
        given NotNull me (exp P.rows me e l) (v, m) (never_keeps e k.0 k.1 k.2 n l k.4) g

-- parameters are none of N
params_known : {K : Keys} (N : ℕ → Bool) (n k : ℕ) (Ts : List (Ty K)) → ((i : ℕ) → i < k → N i ≡ false) → n + length Ts ≤ k → (i : ℕ) (T : Ty K) → type_of (param_context n Ts) i ≡ Some T → N i ≡ true → ⊥
params_known N n k [] h le i T e t = some_none' T e
  where
    some_none' : {A : Type 0} (x : A) → None ≡ Some x → ⊥
    some_none' x j = cc
params_known N n k (U ∷ Ts) h le i T e t = ⊎_elim
    (λ (d : n ≡ i). true_false' (sym t ∙ h i (omega (arith, d, le))))
    (λ d. params_known N (suc n) k Ts h (omega (arith, le)) i T (sym (ap (λ b. cond b (Some U) (type_of (param_context (suc n) Ts) i)) (ne_eqb n i d)) ∙ e) t)
    (cases_eq n i)
  where
    true_false' : true ≡ false → ⊥
    true_false' j = cc

pub never_null_is_not_null : {C F M X L : Type 0} → NeverNullIsNotNull C F M X L
never_null_is_not_null P sound N class params result c typed careful none me args receiver fit e l m v =
    no_null P N class me receiver (a_list c.body (first_locals c.params args)) (param_context 0 params, result, typed.body, careful, λ i T f t q. params_known N 0 c.params params none (omega (arith, typed.count)) i T f t) e l m v
