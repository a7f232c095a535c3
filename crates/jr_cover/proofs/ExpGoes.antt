-- The plan of an expression's code goes through its sites.
use Rattle.std.proofs.Common.{◌≡◌, ℕ, ◌+◌, Bool, true, false, not, List, [], ◌∷◌, Option, Some, None, unwrap_or, pos, refl, sym, subst}
use Rattle.jr_plans.specs.Plan.{done, act, ask, call}
use Rattle.jr_ast.specs.declared.operators.BinOp.{BinOp}
use Rattle.jr_ast.specs.declared.operators.BinOp.TheVariants.{Or, And, Eq, Ne, Lt, Gt, Le, Ge, Add, Sub, Mul, Div, Rem}
use Rattle.jr_ast.specs.Tree as tree
use Rattle.jr_runs.specs.Keys.{Keys, At}
use Rattle.jr_runs.specs.Values.{Value, int, truth, null, text, class_object}
use Rattle.jr_runs.specs.Actions.{Location, part, shared, load, store, create, placed}
use Rattle.jr_runs.specs.Rows.{Rows}
use Rattle.jr_runs.specs.Fitting.{fits, is_new, class_of, is_instance}
use Rattle.jr_runs.specs.Arithmetic.{Out, value, thrown, wrapped, calculate, number_of, operate, sign, bumped, bump_value}
use Rattle.jr_runs.specs.Core as core
use Rattle.jr_runs.specs.Core.{Exp, Stmt, Target, Exps, Operator, equal, different, comparison, arithmetic, less, greater, at_most, at_least, add, subtract, multiply, divide, remainder, Arithmetic}
use Rattle.jr_runs.specs.Evaluation.{invoke, construct, Step, next, non_null, on_truth, on_class, Slot, in_local, in_static, in_object, load_from, store_to, local_at, with_local, with_locals, cast_value, answer, constructed, exp, target, exps}
use Rattle.jr_cover.specs.Facts.{Variable, is_local, is_static_field, is_instance_field, Called, is_static_method, is_instance_method, Created}
use Rattle.jr_runs.specs.Translation.{operation, arithmetic_of, bump_of, sign_of, unescaped}
use Rattle.jr_cover.specs.Translation.{exp_code, receiver_code, target_code, exps_code, named_target, field_target, super_target, read_of, assign_of, compound_of, bump_at, call_at, super_call_at, create_at, class_literal_at, cast_at, mark_of_type}
use Rattle.jr_runs.specs.TypedRuns.{OutHas}
use Rattle.jr_cover.specs.Ways.{Way, pass, row, fork, size, Straight}
use Rattle.jr_cover.specs.Sites.{What, Site, at_place, Known, unless, is_class_name, null_check, load_of, store_of, field_load, field_store, field_check, divisor_check, operands, exp_way, receiver_way, exps_way, receiver_check, operand_way, target_check, target_load, target_store}
use Rattle.jr_cover.specs.Covering.{DoneAt}
use Rattle.jr_cover.proofs.Going.{Goes, goes_row, goes_end, goes_out, goes_skip, goes_before, goes_one, goes_other, goes_non_null, goes_class, goes_truth, goes_act, goes_ask, goes_ask_row, goes_invoke, goes_construct}
use Rattle.jr_cover.proofs.StraightWays.{unless_straight, field_load_straight, field_check_straight, null_check_straight, divisor_straight, receiver_check_straight, exp_straight, receiver_straight, exps_straight, operand_straight, target_check_straight, target_load_straight, target_store_straight, class_code}

module _ {K : Keys} {A : Type 0} (R : Rows K) (X : Known K A) (E : ℕ → ℕ → Type 0) (Is : ℕ → Site K → Type 0) (Outside : At K → Type 0) (Quiet : Exp K → Stmt K → Type 0) where
  abbrev G : {B : Type 0} → ℕ → Way (Site K) → (B → Type 0) → Step K B → Type 0
  G n w U x = Goes R X E Is Outside Quiet n w U x

  -- a value, whatever it is
  abbrev All : {B : Type 0} → B → Type 0
  All b = Unit {0}

  any_out : {B : Type 0} (o : Out B) → OutHas All o
  any_out (value y) = tt
  any_out (thrown f) = tt

  abbrev Valued : Type 0
  Valued = Value K × List (Value K)

  -- nothing is done, whatever it comes to
  silent : {B : Type 0} (n : ℕ) (w : Way (Site K)) (o : Out B) → Straight w → G n w All (done o)
  silent n w o s = goes_out R X E Is Outside Quiet All n w o s (any_out o)

  still : (n : ℕ) (w : Way (Site K)) (v : Value K) (l : List (Value K)) → Straight w → G {B = Value K × List (Value K)} n w All (done (value (v, l)))
  still n w v l s = let y : Out (Value K × List (Value K)) = value (v, l) in goes_out R X E Is Outside Quiet All n w y s tt

  one_of : (n : ℕ) (a b : Way (Site K)) (x : Step K (Value K × List (Value K))) → G n a All x → G n (fork a b) All x
  one_of n a b x g = goes_one R X E Is Outside Quiet All n a b x g

  other_of : (n : ℕ) (a b : Way (Site K)) (x : Step K (Value K × List (Value K))) → G (n + size a) b All x → G n (fork a b) All x
  other_of n a b x g = goes_other R X E Is Outside Quiet All n a b x g

  skip : {B : Type 0} (n : ℕ) (a b : Way (Site K)) (x : Step K B) → Straight a → G (n + size a) b All x → G n (row a b) All x
  skip n a b x s g = goes_skip R X E Is Outside Quiet All n a b x s g

  ended_by : {B C : Type 0} (n : ℕ) (w : Way (Site K)) (x : Step K B) (k : B → Out C) → G n w All x → G n w All (next x (λ y. done (k y)))
  ended_by n w x k g = goes_end R X E Is Outside Quiet n w All All x k g (λ y u. any_out (k y))

  kept : (n : ℕ) (w : Way (Site K)) (x : Step K (Value K)) (l : List (Value K)) → G n w All x → G {B = Value K × List (Value K)} n w All (next x (λ v. done (value (v, l))))
  kept n w x l g = ended_by {C = Value K × List (Value K)} n w x (λ v. value (v, l)) g

  rowed : {B C : Type 0} (n : ℕ) (a b : Way (Site K)) (x : Step K B) (k : B → Step K C) → G n a All x → ((y : B) → G (n + size a) b All (k y)) → G n (row a b) All (next x k)
  rowed n a b x k g h = goes_row R X E Is Outside Quiet n a b All All x k g (λ y u. h y)

  -- ---- what is read, assigned or bumped

  abbrev SlotIs : Target K → Slot K → Type 0
  SlotIs (core.local at n) x = x ≡ in_local n
  SlotIs (core.static_field at f) x = x ≡ in_static at f
  SlotIs (core.field_of at e f) x = (o : Value K) × (x ≡ in_object at o f)

  -- its operand's way, that of a load (with the test for null), that test alone, and that of a store
  record Aims (me : Value K) (op load_way check_way store_way : Way (Site K)) (c : Target K) : Type 0 where
    operand : (n : ℕ) (l : List (Value K)) → G n op (λ r. SlotIs c r.0) (target R me c l)
    loaded : (n : ℕ) (x : Slot K) (l : List (Value K)) → SlotIs c x → G n load_way All (load_from R x l)
    stored : (n : ℕ) (x : Slot K) (v : Value K) (l : List (Value K)) → SlotIs c x → G n store_way All (store_to R x v l)
    straight : Straight op × Straight load_way × Straight check_way × Straight store_way

  abbrev MayAim : Value K → (op load_way check_way store_way : Way (Site K)) → Option (Target K) → Type 0
  MayAim me op lw cw sw None = Unit {0}
  MayAim me op lw cw sw (Some c) = Aims me op lw cw sw c

  loads_at : (n : ℕ) (p : K.place) (from : Location K) (f : K.field) → ((v : Value K) → DoneAt R (record { at = p; what = What.loads f }) (placed (Some p) (load (R.field_kind f) from v)))
      → G n (at_place p (What.loads f)) All (ask (fits R (R.field_type f)) (λ v. placed (Some p) (load (R.field_kind f) from v)) (λ v. done (value v)))
  loads_at n p from f d = goes_ask R X E Is Outside Quiet All n (record { at = p; what = What.loads f }) (fits R (R.field_type f)) (λ v. placed (Some p) (load (R.field_kind f) from v)) (λ v. v) d (λ v. tt)

  aimed : (c : Target K) (x : Slot K) (n : ℕ) (w : Way (Site K)) (l : List (Value K)) → Straight w → SlotIs c x → G {B = Slot K × List (Value K)} n w (λ r. SlotIs c r.0) (done (value (x, l)))
  aimed c x n w l s i = goes_out R X E Is Outside Quiet (λ (r : Slot K × List (Value K)). SlotIs c r.0) n w (value (x, l)) s i

  local_aims : (me : Value K) (p : K.place) (i : ℕ) → Aims me pass (at_place p (What.reads i)) pass (at_place p (What.writes i)) (core.local (Some p) i)
  local_aims me p i = record {
    operand = λ n l. aimed (core.local (Some p) i) (in_local i) n pass l tt refl;
    loaded = λ n x l e. subst (λ z. G n (at_place p (What.reads i)) All (load_from R z l)) (sym e) (silent n (at_place p (What.reads i)) (value (local_at l i)) tt);
    stored = λ n x v l e. subst (λ z. G n (at_place p (What.writes i)) All (store_to R z v l)) (sym e) (silent n (at_place p (What.writes i)) (value (with_local l i v)) tt);
    straight = (tt, tt, tt, tt);
  }

  static_aims : (me : Value K) (op chk : Way (Site K)) (p : K.place) (f : K.field) → Straight op → Straight chk → Aims me op (row chk (at_place p (What.loads f))) chk (at_place p (What.stores f)) (core.static_field (Some p) f)
  static_aims me op chk p f s t = record {
    operand = λ n l. aimed (core.static_field (Some p) f) (in_static (Some p) f) n op l s refl;
    loaded = λ n x l e. subst (λ z. G n (row chk (at_place p (What.loads f))) All (load_from R z l)) (sym e) (skip n chk (at_place p (What.loads f)) (load_from R (in_static (Some p) f) l) t (loads_at (n + size chk) p (shared f) f (λ v. (refl, (refl, refl)))));
    stored = λ n x v l e. subst (λ z. G n (at_place p (What.stores f)) All (store_to R z v l)) (sym e)
        (goes_act R X E Is Outside Quiet All n (record { at = p; what = What.stores f }) (placed (Some p) (store (R.field_kind f) (shared f) v)) l (refl, (refl, refl)) tt);
    straight = (s, (t, tt), t, tt);
  }

  object_aims : (me : Value K) (op chk : Way (Site K)) (p : K.place) (e : Exp K) (f : K.field) → Straight op → Straight chk → ((n : ℕ) (l : List (Value K)) → G n op All (exp R me e l))
      → Aims me op (row chk (at_place p (What.loads f))) chk (at_place p (What.stores f)) (core.field_of (Some p) e f)
  object_aims me op chk p e f s t g = record {
    operand = λ n l. goes_end R X E Is Outside Quiet n op All (λ r. SlotIs (core.field_of (Some p) e f) r.0) (exp R me e l) (λ r. value (in_object (Some p) r.0 f, r.1)) (g n l) (λ r u. (r.0, refl));
    loaded = λ n x l h. subst (λ z. G n (row chk (at_place p (What.loads f))) All (load_from R z l)) (sym h.1)
        (skip n chk (at_place p (What.loads f)) (load_from R (in_object (Some p) h.0 f) l) t
        (goes_non_null R X E Is Outside Quiet All (n + size chk) (at_place p (What.loads f)) h.0 (ask (fits R (R.field_type f)) (λ v. placed (Some p) (load (R.field_kind f) (part h.0 f) v)) (λ v. done (value v))) (loads_at (n + size chk) p (part h.0 f) f (λ v. (refl, (refl, refl))))));
    stored = λ n x v l h. subst (λ z. G n (at_place p (What.stores f)) All (store_to R z v l)) (sym h.1)
        (goes_non_null R X E Is Outside Quiet All n (at_place p (What.stores f)) h.0 (act (placed (Some p) (store (R.field_kind f) (part h.0 f) v)) (done (value l)))
        (goes_act R X E Is Outside Quiet All n (record { at = p; what = What.stores f }) (placed (Some p) (store (R.field_kind f) (part h.0 f) v)) l (refl, (refl, refl)) tt));
    straight = (s, (t, tt), t, tt);
  }

  -- behind a dot
  field_aims : (me : Value K) (op chk : Way (Site K)) (p : K.place) (e : Exp K) (v : Option (Variable K)) → Straight op → Straight chk → ((n : ℕ) (l : List (Value K)) → G n op All (exp R me e l))
      → MayAim me op (row (field_check chk v) (field_load p v)) (field_check chk v) (field_store p v) (field_target p e v)
  field_aims me op chk p e None s t g = tt
  field_aims me op chk p e (Some (is_local n)) s t g = tt
  field_aims me op chk p e (Some (is_static_field f)) s t g = static_aims me op chk p f s t
  field_aims me op chk p e (Some (is_instance_field f)) s t g = object_aims me op chk p e f s t g

  -- without an operand of its own
  plain_aims : (me : Value K) (p : K.place) (f : K.field) (c : Target K) → Aims me pass (row pass (at_place p (What.loads f))) pass (at_place p (What.stores f)) c → ((n : ℕ) (x : Slot K) (l : List (Value K)) → SlotIs c x → G n (at_place p (What.loads f)) All (load_from R x l))
      → Aims me pass (at_place p (What.loads f)) pass (at_place p (What.stores f)) c
  plain_aims me p f c a g = record { operand = a.operand; loaded = g; stored = a.stored; straight = (tt, tt, tt, tt) }

  this_goes : (me : Value K) (n : ℕ) (l : List (Value K)) → G n pass All (exp R me (core.this None) l)
  this_goes me n l = still n pass me l tt

  static_plain : (me : Value K) (p : K.place) (f : K.field) → Aims me pass (at_place p (What.loads f)) pass (at_place p (What.stores f)) (core.static_field (Some p) f)
  static_plain me p f = plain_aims me p f (core.static_field (Some p) f) (static_aims me pass pass p f tt tt)
      (λ n x l e. subst (λ z. G n (at_place p (What.loads f)) All (load_from R z l)) (sym e) (loads_at n p (shared f) f (λ v. (refl, (refl, refl)))))

  own_plain : (me : Value K) (p : K.place) (f : K.field) → Aims me pass (at_place p (What.loads f)) pass (at_place p (What.stores f)) (core.field_of (Some p) (core.this None) f)
  own_plain me p f = plain_aims me p f (core.field_of (Some p) (core.this None) f) (object_aims me pass pass p (core.this None) f tt tt (this_goes me))
      (λ n x l h. subst (λ z. G n (at_place p (What.loads f)) All (load_from R z l)) (sym h.1)
      (goes_non_null R X E Is Outside Quiet All n (at_place p (What.loads f)) h.0 (ask (fits R (R.field_type f)) (λ v. placed (Some p) (load (R.field_kind f) (part h.0 f) v)) (λ v. done (value v))) (loads_at n p (part h.0 f) f (λ v. (refl, (refl, refl))))))

  name_aims : (me : Value K) (p : K.place) (v : Option (Variable K)) → MayAim me pass (load_of p v) pass (store_of p v) (named_target p v)
  name_aims me p None = tt
  name_aims me p (Some (is_local n)) = local_aims me p n
  name_aims me p (Some (is_static_field f)) = static_plain me p f
  name_aims me p (Some (is_instance_field f)) = own_plain me p f

  super_aims : (me : Value K) (p : K.place) (v : Option (Variable K)) → MayAim me pass (field_load p v) pass (field_store p v) (super_target p v)
  super_aims me p None = tt
  super_aims me p (Some (is_local n)) = tt
  super_aims me p (Some (is_static_field f)) = static_plain me p f
  super_aims me p (Some (is_instance_field f)) = own_plain me p f

  module _ (me : Value K) where
    -- ---- uses of a target: all ways in which it is used

    reading : (op lw cw sw : Way (Site K)) (p : K.place) (c : Option (Target K)) → MayAim me op lw cw sw c → Straight op → Straight lw → (n : ℕ) (l : List (Value K)) → G n (row op lw) All (exp R me (read_of p c) l)
    reading op lw cw sw p None a s t n l = still n (row op lw) null l (s, t)
    reading op lw cw sw p (Some c) a s t n l = goes_row R X E Is Outside Quiet n op lw (λ r. SlotIs c r.0) All (target R me c l) (λ r. next (load_from R r.0 r.1) (λ v. done (value (v, r.1)))) (a.operand n l)
        (λ r u. ended_by (n + size op) lw (load_from R r.0 r.1) (λ v. value (v, r.1)) (a.loaded (n + size op) r.0 r.1 u))

    assigning : (op lw cw sw ew : Way (Site K)) (p : K.place) (c : Option (Target K)) (e : Exp K) → MayAim me op lw cw sw c → Straight op → Straight cw → Straight sw → Straight ew → ((n : ℕ) (l : List (Value K)) → G n ew All (exp R me e l))
        → (n : ℕ) (l : List (Value K)) → G n (row op (row ew (row cw sw))) All (exp R me (assign_of p c e) l)
    assigning op lw cw sw ew p None e a s t u v g n l = still n (row op (row ew (row cw sw))) null l (s, (v, (t, u)))
    assigning op lw cw sw ew p (Some c) e a s t u v g n l = goes_row R X E Is Outside Quiet n op (row ew (row cw sw)) (λ r. SlotIs c r.0) All (target R me c l) (λ r. next (exp R me e r.1) (λ z. next (store_to R r.0 z.0 z.1) (λ m. done (value (z.0, m))))) (a.operand n l)
        (λ r i. rowed (n + size op) ew (row cw sw) (exp R me e r.1) (λ z. next (store_to R r.0 z.0 z.1) (λ m. done (value (z.0, m)))) (g (n + size op) r.1)
        (λ z. ended_by (n + size op + size ew) (row cw sw) (store_to R r.0 z.0 z.1) (λ m. value (z.0, m)) (skip (n + size op + size ew) cw sw (store_to R r.0 z.0 z.1) t (a.stored (n + size op + size ew + size cw) r.0 z.0 z.1 i))))

    changing : (op lw cw sw ew dw : Way (Site K)) (p : K.place) (o : Option Arithmetic) (c : Option (Target K)) (e : Exp K) → MayAim me op lw cw sw c → Straight op → Straight lw → Straight sw → Straight ew → Straight dw → ((n : ℕ) (l : List (Value K)) → G n ew All (exp R me e l))
        → (n : ℕ) (l : List (Value K)) → G n (row op (row lw (row ew (row dw sw)))) All (exp R me (compound_of p o c e) l)
    changing op lw cw sw ew dw p None c e a s t u v w g n l = still n (row op (row lw (row ew (row dw sw)))) null l (s, (t, (v, (w, u))))
    changing op lw cw sw ew dw p (Some o) None e a s t u v w g n l = still n (row op (row lw (row ew (row dw sw)))) null l (s, (t, (v, (w, u))))
    changing op lw cw sw ew dw p (Some o) (Some c) e a s t u v w g n l = goes_row R X E Is Outside Quiet n op (row lw (row ew (row dw sw))) (λ r. SlotIs c r.0) All (target R me c l)
        (λ r. next (load_from R r.0 r.1) (λ old. next (exp R me e r.1) (λ z. next (done (calculate o (number_of old) (number_of z.0))) (λ y. next (store_to R r.0 y z.1) (λ m. done (value (y, m)))))))
        (a.operand n l)
        (λ r i. rowed (n + size op) lw (row ew (row dw sw)) (load_from R r.0 r.1) (λ old. next (exp R me e r.1) (λ z. next (done (calculate o (number_of old) (number_of z.0))) (λ y. next (store_to R r.0 y z.1) (λ m. done (value (y, m)))))) (a.loaded (n + size op) r.0 r.1 i)
        (λ old. rowed (n + size op + size lw) ew (row dw sw) (exp R me e r.1) (λ z. next (done (calculate o (number_of old) (number_of z.0))) (λ y. next (store_to R r.0 y z.1) (λ m. done (value (y, m))))) (g (n + size op + size lw) r.1)
        (λ z. rowed (n + size op + size lw + size ew) dw sw (done (calculate o (number_of old) (number_of z.0))) (λ y. next (store_to R r.0 y z.1) (λ m. done (value (y, m)))) (silent (n + size op + size lw + size ew) dw (calculate o (number_of old) (number_of z.0)) w)
        (λ y. ended_by (n + size op + size lw + size ew + size dw) sw (store_to R r.0 y z.1) (λ m. value (y, m)) (a.stored (n + size op + size lw + size ew + size dw) r.0 y z.1 i)))))

    bumping : (op lw cw sw : Way (Site K)) (p : K.place) (o : core.Bump) (c : Option (Target K)) → MayAim me op lw cw sw c → Straight op → Straight lw → Straight sw → (n : ℕ) (l : List (Value K)) → G n (row op (row lw sw)) All (exp R me (bump_at p o c) l)
    bumping op lw cw sw p o None a s t u n l = still n (row op (row lw sw)) null l (s, (t, u))
    bumping op lw cw sw p o (Some c) a s t u n l = goes_row R X E Is Outside Quiet n op (row lw sw) (λ r. SlotIs c r.0) All (target R me c l) (λ r. next (load_from R r.0 r.1) (λ old. next (store_to R r.0 (bumped o old) r.1) (λ m. done (value (bump_value o old (bumped o old), m))))) (a.operand n l)
        (λ r i. rowed (n + size op) lw sw (load_from R r.0 r.1) (λ old. next (store_to R r.0 (bumped o old) r.1) (λ m. done (value (bump_value o old (bumped o old), m)))) (a.loaded (n + size op) r.0 r.1 i)
        (λ old. ended_by (n + size op + size lw) sw (store_to R r.0 (bumped o old) r.1) (λ m. value (bump_value o old (bumped o old), m)) (a.stored (n + size op + size lw) r.0 (bumped o old) r.1 i)))

    -- ---- calls

    invoking : (n : ℕ) (p : K.place) (m : K.method) (v : Value K) (vs l : List (Value K)) → G n (at_place p What.calls) All (call (invoke m v vs) (λ o. done (answer l o)))
    invoking n p m v vs l = goes_invoke R X E Is Outside Quiet All n (record { at = p; what = What.calls }) m v vs (λ o. answer l o) (λ o. any_out (answer l o))

    calling : (vw aw cw : Way (Site K)) (p : K.place) (e : Exp K) (m : Option (Called K)) (es : Exps K) → Straight vw → Straight aw → Straight cw → ((n : ℕ) (l : List (Value K)) → G n vw All (exp R me e l)) → ((n : ℕ) (l : List (Value K)) → G n aw All (exps R me es l))
        → (n : ℕ) (l : List (Value K)) → G n (row vw (row aw (row cw (at_place p What.calls)))) All (exp R me (call_at p e m es) l)
    calling vw aw cw p e None es s t u g h n l = still n (row vw (row aw (row cw (at_place p What.calls)))) null l (s, (t, (u, tt)))
    calling vw aw cw p e (Some (is_static_method m)) es s t u g h n l = skip n vw (row aw (row cw (at_place p What.calls))) (next (exps R me es l) (λ z. call (invoke m null z.0) (λ o. done (answer z.1 o)))) s
        (rowed (n + size vw) aw (row cw (at_place p What.calls)) (exps R me es l) (λ z. call (invoke m null z.0) (λ o. done (answer z.1 o))) (h (n + size vw) l)
        (λ z. skip (n + size vw + size aw) cw (at_place p What.calls) (call (invoke m null z.0) (λ o. done (answer z.1 o))) u (invoking (n + size vw + size aw + size cw) p m null z.0 z.1)))
    calling vw aw cw p e (Some (is_instance_method m)) es s t u g h n l = rowed n vw (row aw (row cw (at_place p What.calls))) (exp R me e l)
        (λ r. next (exps R me es r.1) (λ z. on_class (class_of R r.0) (λ c. call (invoke (unwrap_or (R.dispatch c m) m) r.0 z.0) (λ o. done (answer z.1 o))))) (g n l)
        (λ r. rowed (n + size vw) aw (row cw (at_place p What.calls)) (exps R me es r.1) (λ z. on_class (class_of R r.0) (λ c. call (invoke (unwrap_or (R.dispatch c m) m) r.0 z.0) (λ o. done (answer z.1 o)))) (h (n + size vw) r.1)
        (λ z. skip (n + size vw + size aw) cw (at_place p What.calls) (on_class (class_of R r.0) (λ c. call (invoke (unwrap_or (R.dispatch c m) m) r.0 z.0) (λ o. done (answer z.1 o)))) u
        (goes_class R X E Is Outside Quiet All (n + size vw + size aw + size cw) (at_place p What.calls) (class_of R r.0) (λ c. call (invoke (unwrap_or (R.dispatch c m) m) r.0 z.0) (λ o. done (answer z.1 o)))
        (λ c. invoking (n + size vw + size aw + size cw) p (unwrap_or (R.dispatch c m) m) r.0 z.0 z.1))))

    super_calling : (aw : Way (Site K)) (p : K.place) (m : Option (Called K)) (es : Exps K) → Straight aw → ((n : ℕ) (l : List (Value K)) → G n aw All (exps R me es l)) → (n : ℕ) (l : List (Value K)) → G n (row aw (at_place p What.calls)) All (exp R me (super_call_at p m es) l)
    super_calling aw p None es t h n l = still n (row aw (at_place p What.calls)) null l (t, tt)
    super_calling aw p (Some (is_static_method m)) es t h n l = rowed n aw (at_place p What.calls) (exps R me es l) (λ z. call (invoke m null z.0) (λ o. done (answer z.1 o))) (h n l) (λ z. invoking (n + size aw) p m null z.0 z.1)
    super_calling aw p (Some (is_instance_method m)) es t h n l = rowed n aw (at_place p What.calls) (exps R me es l) (λ z. non_null me (call (invoke m me z.0) (λ o. done (answer z.1 o)))) (h n l)
        (λ z. goes_non_null R X E Is Outside Quiet All (n + size aw) (at_place p What.calls) me (call (invoke m me z.0) (λ o. done (answer z.1 o))) (invoking (n + size aw) p m me z.0 z.1))

    creating : (aw : Way (Site K)) (p : K.place) (k : Option (Created K)) (es : Exps K) → Straight aw → ((n : ℕ) (l : List (Value K)) → G n aw All (exps R me es l)) → (n : ℕ) (l : List (Value K)) → G n (row (at_place p What.creates) (row aw (at_place p What.calls))) All (exp R me (create_at p k es) l)
    creating aw p None es t h n l = still n (row (at_place p What.creates) (row aw (at_place p What.calls))) null l (tt, (t, tt))
    creating aw p (Some k) es t h n l = goes_ask_row R X E Is Outside Quiet All n (record { at = p; what = What.creates }) (row aw (at_place p What.calls)) (is_new R k.class) (λ o. placed (Some p) (create o))
        (λ o. next (exps R me es l) (λ z. call (construct k.constructor o z.0) (λ a. done (constructed o z.1 a)))) (λ o. (refl, tt))
        (λ o. rowed (n + 1) aw (at_place p What.calls) (exps R me es l) (λ z. call (construct k.constructor o z.0) (λ a. done (constructed o z.1 a))) (h (n + 1) l)
        (λ z. goes_construct R X E Is Outside Quiet All (n + 1 + size aw) (record { at = p; what = What.calls }) k.constructor o z.0 (λ a. constructed o z.1 a) (λ a. any_out (constructed o z.1 a))))

    -- ---- operators

    both_operands : (lw vw cw : Way (Site K)) (o : Operator) (a b : Exp K) (p : At K) → Straight cw → ((n : ℕ) (l : List (Value K)) → G n lw All (exp R me a l)) → ((n : ℕ) (l : List (Value K)) → G n vw All (exp R me b l))
        → (n : ℕ) (l : List (Value K)) → G n (row lw (row vw cw)) All (exp R me (core.binary p o a b) l)
    both_operands lw vw cw o a b p s g h n l = rowed n lw (row vw cw) (exp R me a l) (λ r. next (exp R me b r.1) (λ z. done (with_locals z.1 (operate R.same_class o r.0 z.0)))) (g n l)
        (λ r. rowed (n + size lw) vw cw (exp R me b r.1) (λ z. done (with_locals z.1 (operate R.same_class o r.0 z.0))) (h (n + size lw) r.1) (λ z. silent (n + size lw + size vw) cw (with_locals z.1 (operate R.same_class o r.0 z.0)) s))

    operating : (op : BinOp) (lw vw cw : Way (Site K)) (p : K.place) (a b : Exp K) → Straight cw → ((n : ℕ) (l : List (Value K)) → G n lw All (exp R me a l)) → ((n : ℕ) (l : List (Value K)) → G n vw All (exp R me b l))
        → (n : ℕ) (l : List (Value K)) → G n (operands op lw vw cw) All (exp R me (operation p op a b) l)
    operating Or lw vw cw p a b s g h n l = rowed n lw (fork vw pass) (exp R me a l) (λ r. on_truth r.0 (done (value (truth true, r.1))) (exp R me b r.1)) (g n l)
        (λ r. goes_truth R X E Is Outside Quiet All (n + size lw) (fork vw pass) r.0 (done (value (truth true, r.1))) (exp R me b r.1)
        (other_of (n + size lw) vw pass (done (value (truth true, r.1))) (still (n + size lw + size vw) pass (truth true) r.1 tt))
        (one_of (n + size lw) vw pass (exp R me b r.1) (h (n + size lw) r.1)))
    operating And lw vw cw p a b s g h n l = rowed n lw (fork vw pass) (exp R me a l) (λ r. on_truth r.0 (exp R me b r.1) (done (value (truth false, r.1)))) (g n l)
        (λ r. goes_truth R X E Is Outside Quiet All (n + size lw) (fork vw pass) r.0 (exp R me b r.1) (done (value (truth false, r.1)))
        (one_of (n + size lw) vw pass (exp R me b r.1) (h (n + size lw) r.1))
        (other_of (n + size lw) vw pass (done (value (truth false, r.1))) (still (n + size lw + size vw) pass (truth false) r.1 tt)))
    operating Eq lw vw cw p a b s g h n l = both_operands lw vw cw equal a b (Some p) s g h n l
    operating Ne lw vw cw p a b s g h n l = both_operands lw vw cw different a b (Some p) s g h n l
    operating Lt lw vw cw p a b s g h n l = both_operands lw vw cw (comparison less) a b (Some p) s g h n l
    operating Gt lw vw cw p a b s g h n l = both_operands lw vw cw (comparison greater) a b (Some p) s g h n l
    operating Le lw vw cw p a b s g h n l = both_operands lw vw cw (comparison at_most) a b (Some p) s g h n l
    operating Ge lw vw cw p a b s g h n l = both_operands lw vw cw (comparison at_least) a b (Some p) s g h n l
    operating Add lw vw cw p a b s g h n l = both_operands lw vw cw (arithmetic add) a b (Some p) s g h n l
    operating Sub lw vw cw p a b s g h n l = both_operands lw vw cw (arithmetic subtract) a b (Some p) s g h n l
    operating Mul lw vw cw p a b s g h n l = both_operands lw vw cw (arithmetic multiply) a b (Some p) s g h n l
    operating Div lw vw cw p a b s g h n l = both_operands lw vw cw (arithmetic divide) a b (Some p) s g h n l
    operating Rem lw vw cw p a b s g h n l = both_operands lw vw cw (arithmetic remainder) a b (Some p) s g h n l

    casting : (ew : Way (Site K)) (p : K.place) (b : Bool) (c : Option K.class) (e : Exp K) → Straight ew → ((n : ℕ) (l : List (Value K)) → G n ew All (exp R me e l))
        → (n : ℕ) (l : List (Value K)) → G n (row ew (unless (not b) (at_place p What.checks))) All (exp R me (cast_at p b c e) l)
    casting ew p false c e s g n l = goes_before R X E Is Outside Quiet All n ew pass (exp R me e l) tt (g n l)
    casting ew p true None e s g n l = still n (row ew (at_place p What.checks)) null l (s, tt)
    casting ew p true (Some c) e s g n l = rowed n ew (at_place p What.checks) (exp R me e l) (λ r. done (with_locals r.1 (cast_value (is_instance R c r.0) r.0))) (g n l) (λ r. silent (n + size ew) (at_place p What.checks) (with_locals r.1 (cast_value (is_instance R c r.0) r.0)) tt)

    class_literal_goes : (p : K.place) (c : Option K.class) (n : ℕ) (l : List (Value K)) → G n pass All (exp R me (class_literal_at p c) l)
    class_literal_goes p None n l = still n pass null l tt
    class_literal_goes p (Some c) n l = still n pass (class_object c) l tt

    -- an operand that is a class has neither sites nor code
    operand_goes : (e : tree.Exp A) (b : Bool) → is_class_name X e ≡ b → ((n : ℕ) (l : List (Value K)) → G n (exp_way X e) All (exp R me (exp_code X.facts e) l)) → (n : ℕ) (l : List (Value K)) → G n (unless b (exp_way X e)) All (exp R me (exp_code X.facts e) l)
    operand_goes e false h g n l = g n l
    operand_goes e true h g n l = let d = class_code X e h in subst (λ z. G n pass All (exp R me z l)) (sym d.1) (still n pass null l tt)

    name_goes : (p q : K.place) (v : Option (Variable K)) (n : ℕ) (l : List (Value K)) → G n (load_of q v) All (exp R me (read_of p (named_target q v)) l)
    name_goes p q None n l = still n pass null l tt
    name_goes p q (Some (is_local i)) n l = still n (at_place q (What.reads i)) (local_at l i) l tt
    name_goes p q (Some (is_static_field f)) n l = kept n (at_place q (What.loads f)) (load_from R (in_static (Some q) f) l) l ((static_plain me q f).loaded n (in_static (Some q) f) l refl)
    name_goes p q (Some (is_instance_field f)) n l = kept n (at_place q (What.loads f)) (load_from R (in_object (Some q) me f) l) l ((own_plain me q f).loaded n (in_object (Some q) me f) l (me, refl))

    super_goes : (p q : K.place) (v : Option (Variable K)) (n : ℕ) (l : List (Value K)) → G n (field_load q v) All (exp R me (read_of p (super_target q v)) l)
    super_goes p q None n l = still n pass null l tt
    super_goes p q (Some (is_local i)) n l = still n pass null l tt
    super_goes p q (Some (is_static_field f)) n l = kept n (at_place q (What.loads f)) (load_from R (in_static (Some q) f) l) l ((static_plain me q f).loaded n (in_static (Some q) f) l refl)
    super_goes p q (Some (is_instance_field f)) n l = kept n (at_place q (What.loads f)) (load_from R (in_object (Some q) me f) l) l ((own_plain me q f).loaded n (in_object (Some q) me f) l (me, refl))

    behind_dot : (e : tree.Exp A) → ((m : ℕ) (k : List (Value K)) → G m (exp_way X e) All (exp R me (exp_code X.facts e) k)) → (p : K.place) (v : Option (Variable K))
        → MayAim me (unless (is_class_name X e) (exp_way X e)) (row (field_check (null_check X e p) v) (field_load p v)) (field_check (null_check X e p) v) (field_store p v) (field_target p (exp_code X.facts e) v)
    behind_dot e g p v = field_aims me (unless (is_class_name X e) (exp_way X e)) (null_check X e p) p (exp_code X.facts e) v (unless_straight (is_class_name X e) (exp_way X e) (exp_straight X e)) (null_check_straight X e p)
        (λ n l. operand_goes e (is_class_name X e) refl g n l)

    no_args : (n : ℕ) (l : List (Value K)) → G {B = List (Value K) × List (Value K)} n pass All (done (value ([], l)))
    no_args n l = let y : Out (List (Value K) × List (Value K)) = value ([], l) in goes_out R X E Is Outside Quiet All n pass y tt tt

    mutual
      pub exp_goes : (e : tree.Exp A) (n : ℕ) (l : List (Value K)) → Goes R X E Is Outside Quiet n (exp_way X e) (λ r. Unit {0}) (exp R me (exp_code X.facts e) l)
      exp_goes (tree.number a i) n l = still n pass (int (wrapped (pos i))) l tt
      exp_goes (tree.truth a b) n l = still n pass (truth b) l tt
      exp_goes (tree.null a) n l = still n pass null l tt
      exp_goes (tree.string a s) n l = still n pass (text (unescaped false s)) l tt
      exp_goes (tree.name a w) n l = name_goes (X.facts.first a) (X.facts.first w.mark) (X.facts.variable w.mark) n l
      exp_goes (tree.field a e w) n l = reading (unless (is_class_name X e) (exp_way X e)) (row (field_check (null_check X e (X.facts.first w.mark)) (X.facts.variable w.mark)) (field_load (X.facts.first w.mark) (X.facts.variable w.mark)))
          (field_check (null_check X e (X.facts.first w.mark)) (X.facts.variable w.mark)) (field_store (X.facts.first w.mark) (X.facts.variable w.mark)) (X.facts.first a) (field_target (X.facts.first w.mark) (exp_code X.facts e) (X.facts.variable w.mark))
          (behind_dot e (λ m k. exp_goes e m k) (X.facts.first w.mark) (X.facts.variable w.mark)) (unless_straight (is_class_name X e) (exp_way X e) (exp_straight X e))
          (field_check_straight (null_check X e (X.facts.first w.mark)) (X.facts.variable w.mark) (null_check_straight X e (X.facts.first w.mark)), field_load_straight (X.facts.first w.mark) (X.facts.variable w.mark)) n l
      exp_goes (tree.super_field a w) n l = super_goes (X.facts.first a) (X.facts.first w.mark) (X.facts.variable w.mark) n l
      exp_goes (tree.this a) n l = still n pass me l tt
      exp_goes (tree.class_literal a t) n l = class_literal_goes (X.facts.first a) (X.facts.class (mark_of_type t)) n l
      exp_goes (tree.call a t w es) n l = calling (receiver_way X t) (exps_way X es) (receiver_check X t (X.facts.first w.mark)) (X.facts.first w.mark) (receiver_code X.facts t) (X.facts.called w.mark) (exps_code X.facts es)
          (receiver_straight X t) (exps_straight X es) (receiver_check_straight X t (X.facts.first w.mark)) (λ m k. receiver_goes t m k) (λ m k. exps_goes es m k) n l
      exp_goes (tree.super_call a w es) n l = super_calling (exps_way X es) (X.facts.first w.mark) (X.facts.called w.mark) (exps_code X.facts es) (exps_straight X es) (λ m k. exps_goes es m k) n l
      exp_goes (tree.create a t es) n l = creating (exps_way X es) (X.facts.first a) (X.facts.created a) (exps_code X.facts es) (exps_straight X es) (λ m k. exps_goes es m k) n l
      exp_goes (tree.paren a e) n l = exp_goes e n l
      exp_goes (tree.cast a t e) n l = casting (exp_way X e) (X.facts.first a) (X.facts.is_checked a) (X.facts.class (mark_of_type t)) (exp_code X.facts e) (exp_straight X e) (λ m k. exp_goes e m k) n l
      exp_goes (tree.unary a op e) n l = ended_by n (exp_way X e) (exp R me (exp_code X.facts e) l) (λ r. value (sign (sign_of op) r.0, r.1)) (exp_goes e n l)
      exp_goes (tree.bump a op t) n l = bumping (operand_way X t) (target_load X t) (target_check X t) (target_store X t) (X.facts.first a) (bump_of op) (target_code X.facts t) (aims t) (operand_straight X t) (target_load_straight X t) (target_store_straight X t) n l
      exp_goes (tree.binary a op x y) n l = operating op (exp_way X x) (exp_way X y) (divisor_check X op y) (X.facts.first a) (exp_code X.facts x) (exp_code X.facts y) (divisor_straight X op y) (λ m k. exp_goes x m k) (λ m k. exp_goes y m k) n l
      exp_goes (tree.assign a t e) n l = assigning (operand_way X t) (target_load X t) (target_check X t) (target_store X t) (exp_way X e) (X.facts.first a) (target_code X.facts t) (exp_code X.facts e) (aims t)
          (operand_straight X t) (target_check_straight X t) (target_store_straight X t) (exp_straight X e) (λ m k. exp_goes e m k) n l
      exp_goes (tree.compound a op t e) n l = changing (operand_way X t) (target_load X t) (target_check X t) (target_store X t) (exp_way X e) (divisor_check X op e) (X.facts.first a) (arithmetic_of op) (target_code X.facts t) (exp_code X.facts e) (aims t)
          (operand_straight X t) (target_load_straight X t) (target_store_straight X t) (exp_straight X e) (divisor_straight X op e) (λ m k. exp_goes e m k) n l

      receiver_goes : (t : tree.Target A) (n : ℕ) (l : List (Value K)) → G n (receiver_way X t) All (exp R me (receiver_code X.facts t) l)
      receiver_goes tree.no_target n l = this_goes me n l
      receiver_goes (tree.on e) n l = operand_goes e (is_class_name X e) refl (λ m k. exp_goes e m k) n l

      pub exps_goes : (es : tree.Exps A) (n : ℕ) (l : List (Value K)) → Goes R X E Is Outside Quiet n (exps_way X es) (λ r. Unit {0}) (exps R me (exps_code X.facts es) l)
      exps_goes tree.end n l = no_args n l
      exps_goes (tree.more e es) n l = rowed n (exp_way X e) (exps_way X es) (exp R me (exp_code X.facts e) l) (λ r. next (exps R me (exps_code X.facts es) r.1) (λ z. done (value (r.0 ∷ z.0, z.1)))) (exp_goes e n l)
          (λ r. ended_by (n + size (exp_way X e)) (exps_way X es) (exps R me (exps_code X.facts es) r.1) (λ z. value (r.0 ∷ z.0, z.1)) (exps_goes es (n + size (exp_way X e)) r.1))

      aims : (t : tree.Exp A) → MayAim me (operand_way X t) (target_load X t) (target_check X t) (target_store X t) (target_code X.facts t)
      aims (tree.name a w) = name_aims me (X.facts.first w.mark) (X.facts.variable w.mark)
      aims (tree.field a e w) = behind_dot e (λ m k. exp_goes e m k) (X.facts.first w.mark) (X.facts.variable w.mark)
      aims (tree.super_field a w) = super_aims me (X.facts.first w.mark) (X.facts.variable w.mark)
      aims (tree.number a n) = tt
      aims (tree.truth a b) = tt
      aims (tree.null a) = tt
      aims (tree.string a s) = tt
      aims (tree.this a) = tt
      aims (tree.class_literal a t) = tt
      aims (tree.call a t w es) = tt
      aims (tree.super_call a w es) = tt
      aims (tree.create a t es) = tt
      aims (tree.paren a e) = tt
      aims (tree.cast a t e) = tt
      aims (tree.unary a op e) = tt
      aims (tree.bump a op t) = tt
      aims (tree.binary a op l r) = tt
      aims (tree.assign a t e) = tt
      aims (tree.compound a op t e) = tt
