-- A plain expression is silent: each construct of its code comes to a value if its parts do, and the
-- sites that it hasn't leave no other construct.
use Rattle.std.proofs.Common.{◌≡◌, ℕ, zero, suc, ◌+◌, Bool, true, false, ◌||◌, not, List, [], ◌∷◌, Option, Some, None, ℤ, pos, refl, sym, ap, subst, ◌∙◌, inl, inr, append-nil}
use Rattle.std.specs.Prelude.{int_div, int_rem}
use Rattle.jr_plans.specs.Plan.{done}
use Rattle.jr_ast.specs.declared.operators.BinOp.{BinOp}
use Rattle.jr_ast.specs.declared.operators.BinOp.TheVariants.{Or, And, Eq, Ne, Lt, Gt, Le, Ge, Add, Sub, Mul, Div, Rem}
use Rattle.jr_ast.specs.Tree as tree
use Rattle.jr_runs.specs.Keys.{Keys, At}
use Rattle.jr_runs.specs.Values.{Value, int, truth, null, text, class_object, object}
use Rattle.jr_runs.specs.Rows.{Rows}
use Rattle.jr_cover.specs.Facts.{Variable, is_local, is_static_field, is_instance_field}
use Rattle.jr_runs.specs.Arithmetic.{Out, value, thrown, wrapped, wrapped_int, is_zero, unless_zero, number_of, operate, sign}
use Rattle.jr_runs.specs.Core as core
use Rattle.jr_runs.specs.Core.{Exp, Target, Operator, arithmetic, comparison, equal, different, divide, remainder, less, greater, at_most, at_least, add, subtract, multiply, Arithmetic, Bump}
use Rattle.jr_runs.specs.Evaluation.{Step, next, on_truth, local_at, with_locals, exp}
use Rattle.jr_runs.specs.Translation.{bump_of, operation, arithmetic_of, sign_of}
use Rattle.jr_cover.specs.Translation.{exp_code, target_code, named_target, field_target, read_of, assign_of, compound_of, bump_at, cast_at, class_literal_at, mark_of_type}
use Rattle.jr_runs.specs.Standing.{In}
use Rattle.jr_cover.specs.Ways.{Way, pass, one, row, fork, leave, turns, inside, size, sites_of}
use Rattle.jr_cover.specs.Sites.{What, reads, writes, loads, stores, enters, exits, creates, checks, calls, loops, Site, at_place, Known, unless, load_of, store_of, field_load, field_store, is_nonzero, mark_of, divides, operands, exp_way, target_store}
use Rattle.jr_cover.specs.Covering.{site_at}
use Rattle.jr_cover.specs.Plain.{IsRead, with_read, reads_of, DivisorFits, DivisorsFit, PlainExpressionsAreSilent}
use Rattle.jr_cover.proofs.Parts.{Stands}
use Rattle.jr_cover.proofs.Cover.{stands_in}
use Rattle.jr_cover.proofs.Apart.{none_some, same_one}

-- N: locals that may be read
module _ {K : Keys} (R : Rows K) (N : ℕ → Type 0) where
  -- ---- code that comes to a value

  record Quiet (e : Exp K) : Type 0 where
    gives : Value K → List (Value K) → Value K
    does : (me : Value K) (l : List (Value K)) → exp R me e l ≡ done (value (gives me l, l))
    alike : (me : Value K) (l m : List (Value K)) → ((i : ℕ) → N i → local_at m i ≡ local_at l i) → gives me m ≡ gives me l

  quiet_literal : (p : At K) (v : Value K) → Quiet (core.literal p v)
  quiet_literal p v = record { gives = λ me l. v; does = λ me l. refl; alike = λ me l m s. refl }

  quiet_this : (p : At K) → Quiet (core.this p)
  quiet_this p = record { gives = λ me l. me; does = λ me l. refl; alike = λ me l m s. refl }

  quiet_local : (p q : At K) (n : ℕ) → N n → Quiet (core.read p (core.local q n))
  quiet_local p q n h = record { gives = λ me l. local_at l n; does = λ me l. refl; alike = λ me l m s. s n h }

  abbrev led : Step K (Value K × List (Value K)) → (Value K × List (Value K) → Step K (Value K × List (Value K))) → Step K (Value K × List (Value K))
  led x k = next x k

  abbrev gone : Value K → List (Value K) → Step K (Value K × List (Value K))
  gone v l = done (value (v, l))

  quiet_signed : (p : At K) (o : core.Sign) (e : Exp K) → Quiet e → Quiet (core.signed p o e)
  quiet_signed p o e k = record {
    gives = λ me l. sign o (k.gives me l);
    does = λ me l. ap (λ x. led x (λ r. gone (sign o r.0) r.1)) (k.does me l);
    alike = λ me l m s. ap (λ v. sign o v) (k.alike me l m s);
  }

  abbrev value_of : Out (Value K) → Value K
  value_of (value v) = v
  value_of (thrown f) = null

  abbrev operated : Operator → Value K → Value K → Out (Value K)
  operated o v w = operate R.same_class o v w

  -- an operator that comes to a value whatever its operands are
  quiet_binary : (p : At K) (o : Operator) (a b : Exp K) → ((v w : Value K) → operated o v w ≡ value (value_of (operated o v w))) → Quiet a → Quiet b → Quiet (core.binary p o a b)
  quiet_binary p o a b h k j = record {
    gives = λ me l. value_of (operated o (k.gives me l) (j.gives me l));
    does = λ me l. ap (λ x. led x (λ r. led (exp R me b r.1) (λ z. done (with_locals z.1 (operated o r.0 z.0))))) (k.does me l)
        ∙ ap (λ x. led x (λ z. done (with_locals z.1 (operated o (k.gives me l) z.0)))) (j.does me l)
        ∙ ap (λ y. done (with_locals l y)) (h (k.gives me l) (j.gives me l));
    alike = λ me l m s. λ i. value_of (operated o (k.alike me l m s i) (j.alike me l m s i));
  }

  -- one that does so by this divisor
  quiet_divided : (p q : At K) (o : Operator) (a : Exp K) (w : Value K) → ((v : Value K) → operated o v w ≡ value (value_of (operated o v w))) → Quiet a → Quiet (core.binary p o a (core.literal q w))
  quiet_divided p q o a w h k = record {
    gives = λ me l. value_of (operated o (k.gives me l) w);
    does = λ me l. ap (λ x. led x (λ r. led (exp R me (core.literal q w) r.1) (λ z. done (with_locals z.1 (operated o r.0 z.0))))) (k.does me l)
        ∙ ap (λ y. done (with_locals l y)) (h (k.gives me l));
    alike = λ me l m s. ap (λ v. value_of (operated o v w)) (k.alike me l m s);
  }

  abbrev chosen : Value K → Value K → Value K → Value K
  chosen (truth true) v w = v
  chosen (truth false) v w = w
  chosen null v w = w
  chosen (int z) v w = w
  chosen (text t) v w = w
  chosen (class_object c) v w = w
  chosen (object i c) v w = w

  branched : (u v w : Value K) (l : List (Value K)) (x y : Step K (Value K × List (Value K))) → x ≡ gone v l → y ≡ gone w l → on_truth u x y ≡ gone (chosen u v w) l
  branched (truth true) v w l x y e f = e
  branched (truth false) v w l x y e f = f
  branched null v w l x y e f = f
  branched (int z) v w l x y e f = f
  branched (text t) v w l x y e f = f
  branched (class_object c) v w l x y e f = f
  branched (object i c) v w l x y e f = f

  quiet_both : (p : At K) (a b : Exp K) → Quiet a → Quiet b → Quiet (core.both p a b)
  quiet_both p a b k j = record {
    gives = λ me l. chosen (k.gives me l) (j.gives me l) (truth false);
    does = λ me l. ap (λ x. led x (λ r. on_truth r.0 (exp R me b r.1) (gone (truth false) r.1))) (k.does me l)
        ∙ branched (k.gives me l) (j.gives me l) (truth false) l (exp R me b l) (gone (truth false) l) (j.does me l) refl;
    alike = λ me l m s. λ i. chosen (k.alike me l m s i) (j.alike me l m s i) (truth false);
  }

  quiet_either : (p : At K) (a b : Exp K) → Quiet a → Quiet b → Quiet (core.either p a b)
  quiet_either p a b k j = record {
    gives = λ me l. chosen (k.gives me l) (truth true) (j.gives me l);
    does = λ me l. ap (λ x. led x (λ r. on_truth r.0 (gone (truth true) r.1) (exp R me b r.1))) (k.does me l)
        ∙ branched (k.gives me l) (truth true) (j.gives me l) l (gone (truth true) l) (exp R me b l) refl (j.does me l);
    alike = λ me l m s. λ i. chosen (k.alike me l m s i) (truth true) (j.alike me l m s i);
  }

  -- ---- sites that are reads of such locals

  abbrev Plainly : What K → Type 0
  Plainly (reads n) = N n
  Plainly (writes n) = ⊥
  Plainly (loads f) = ⊥
  Plainly (stores f) = ⊥
  Plainly enters = ⊥
  Plainly exits = ⊥
  Plainly creates = ⊥
  Plainly checks = ⊥
  Plainly calls = ⊥
  Plainly loops = ⊥

  abbrev AllPlain : Way (Site K) → Type 0
  AllPlain pass = Unit {0}
  AllPlain (one s) = Plainly s.what
  AllPlain (row a b) = AllPlain a × AllPlain b
  AllPlain (fork a b) = AllPlain a × AllPlain b
  AllPlain leave = Unit {0}
  AllPlain (turns s c b) = Plainly s.what × AllPlain c × AllPlain b
  AllPlain (inside e b x) = AllPlain b

  plain_by : (all : List (Site K)) → ((i : ℕ) (s : Site K) → site_at all i ≡ Some s → Plainly s.what) → (w : Way (Site K)) (n : ℕ) → Stands (λ i s. site_at all i ≡ Some s) n w → AllPlain w
  plain_by all h pass n d = tt
  plain_by all h (one s) n d = h n s d
  plain_by all h (row a b) n d = (plain_by all h a n d.0, plain_by all h b (n + size a) d.1)
  plain_by all h (fork a b) n d = (plain_by all h a n d.0, plain_by all h b (n + size a) d.1)
  plain_by all h leave n d = tt
  plain_by all h (turns s c b) n d = (h n s d.0, plain_by all h c (suc n) d.1, plain_by all h b (suc n + size c) d.2)
  plain_by all h (inside e b x) n d = plain_by all h b (suc n) d.1

  -- ---- by cases on the tree

  module _ {A : Type 0} (X : Known K A) where
    quiet_name : (p q : K.place) (v : Option (Variable K)) → AllPlain (load_of q v) → Quiet (read_of p (named_target q v))
    quiet_name p q None h = quiet_literal (Some p) null
    quiet_name p q (Some (is_local n)) h = quiet_local (Some p) (Some q) n h
    quiet_name p q (Some (is_static_field f)) h = absurd h
    quiet_name p q (Some (is_instance_field f)) h = absurd h

    quiet_field : (p q : K.place) (e : Exp K) (v : Option (Variable K)) → AllPlain (field_load q v) → Quiet (read_of p (field_target q e v))
    quiet_field p q e None h = quiet_literal (Some p) null
    quiet_field p q e (Some (is_local n)) h = quiet_literal (Some p) null
    quiet_field p q e (Some (is_static_field f)) h = absurd h
    quiet_field p q e (Some (is_instance_field f)) h = absurd h

    quiet_class : (p : K.place) (c : Option K.class) → Quiet (class_literal_at {K = K} p c)
    quiet_class p None = quiet_literal (Some p) null
    quiet_class p (Some c) = quiet_literal (Some p) (class_object c)

    quiet_cast : (p q : K.place) (b : Bool) (c : Option K.class) (e : Exp K) → AllPlain (unless {K = K} (not b) (at_place {K = K} q checks)) → Quiet e → Quiet (cast_at p b c e)
    quiet_cast p q false c e h k = k
    quiet_cast p q true c e h k = absurd h

    -- what nothing is stored to is no target
    no_name : (p q : K.place) (v : Option (Variable K)) → AllPlain (store_of q v) → named_target p v ≡ None
    no_name p q None h = refl
    no_name p q (Some (is_local n)) h = absurd h
    no_name p q (Some (is_static_field f)) h = absurd h
    no_name p q (Some (is_instance_field f)) h = absurd h

    no_field : (p q : K.place) (e : Exp K) (v : Option (Variable K)) → AllPlain (field_store q v) → field_target p e v ≡ None
    no_field p q e None h = refl
    no_field p q e (Some (is_local n)) h = refl
    no_field p q e (Some (is_static_field f)) h = absurd h
    no_field p q e (Some (is_instance_field f)) h = absurd h

    no_target : (t : tree.Exp A) → AllPlain (target_store X t) → target_code X.facts t ≡ None
    no_target (tree.name a w) h = no_name (X.facts.first w.mark) (X.facts.first w.mark) (X.facts.variable w.mark) h
    no_target (tree.field a e w) h = no_field (X.facts.first w.mark) (X.facts.first w.mark) (exp_code X.facts e) (X.facts.variable w.mark) h
    no_target (tree.super_field a w) h = no_field (X.facts.first w.mark) (X.facts.first w.mark) (core.this None) (X.facts.variable w.mark) h
    no_target (tree.number a n) h = refl
    no_target (tree.truth a b) h = refl
    no_target (tree.null a) h = refl
    no_target (tree.string a s) h = refl
    no_target (tree.this a) h = refl
    no_target (tree.class_literal a t) h = refl
    no_target (tree.call a t w es) h = refl
    no_target (tree.super_call a w es) h = refl
    no_target (tree.create a t es) h = refl
    no_target (tree.paren a e) h = refl
    no_target (tree.cast a t e) h = refl
    no_target (tree.unary a op e) h = refl
    no_target (tree.bump a op t) h = refl
    no_target (tree.binary a op l r) h = refl
    no_target (tree.assign a t e) h = refl
    no_target (tree.compound a op t e) h = refl

    not_assigned : (p : K.place) (t : Option (Target K)) (e : Exp K) → t ≡ None → Quiet (assign_of p t e)
    not_assigned p t e h = subst (λ z. Quiet (assign_of p z e)) (sym h) (quiet_literal (Some p) null)

    not_changed : (p : K.place) (o : Option Arithmetic) (t : Option (Target K)) (e : Exp K) → t ≡ None → Quiet (compound_of p o t e)
    not_changed p None t e h = quiet_literal (Some p) null
    not_changed p (Some o) t e h = subst (λ z. Quiet (compound_of p (Some o) z e)) (sym h) (quiet_literal (Some p) null)

    not_bumped : (p : K.place) (o : Bump) (t : Option (Target K)) → t ≡ None → Quiet (bump_at p o t)
    not_bumped p o t h = subst (λ z. Quiet (bump_at p o z)) (sym h) (quiet_literal (Some p) null)

    -- a divisor that isn't tested is a literal
    record Literal (e : tree.Exp A) : Type 0 where
      number : ℤ
      place : At K
      is : exp_code X.facts e ≡ core.literal place (int number)
      nonzero : is_zero number ≡ false

    literal_divisor : (p : K.place) (e : tree.Exp A) → AllPlain (unless {K = K} (is_nonzero e) (at_place {K = K} p checks)) → DivisorFits true e → Literal e
    literal_divisor p (tree.number a zero) h d = absurd h
    literal_divisor p (tree.number a (suc n)) h d = record { number = wrapped (pos (suc n)); place = Some (X.facts.first a); is = refl; nonzero = d }
    literal_divisor p (tree.truth a b) h d = absurd h
    literal_divisor p (tree.null a) h d = absurd h
    literal_divisor p (tree.string a s) h d = absurd h
    literal_divisor p (tree.name a w) h d = absurd h
    literal_divisor p (tree.field a e w) h d = absurd h
    literal_divisor p (tree.super_field a w) h d = absurd h
    literal_divisor p (tree.this a) h d = absurd h
    literal_divisor p (tree.class_literal a t) h d = absurd h
    literal_divisor p (tree.call a t w es) h d = absurd h
    literal_divisor p (tree.super_call a w es) h d = absurd h
    literal_divisor p (tree.create a t es) h d = absurd h
    literal_divisor p (tree.paren a e) h d = absurd h
    literal_divisor p (tree.cast a t e) h d = absurd h
    literal_divisor p (tree.unary a op e) h d = absurd h
    literal_divisor p (tree.bump a op t) h d = absurd h
    literal_divisor p (tree.binary a op l r) h d = absurd h
    literal_divisor p (tree.assign a t e) h d = absurd h
    literal_divisor p (tree.compound a op t e) h d = absurd h

    by_value : (o : Out (Value K)) (w : Value K) → o ≡ value w → o ≡ value (value_of o)
    by_value o w e = e ∙ sym (ap (λ z. value (value_of z)) e)

    divided : (o : Operator) (z : ℤ) → ((v : Value K) → (w : Value K) × (operated o v (int z) ≡ value w)) → (v : Value K) → operated o v (int z) ≡ value (value_of (operated o v (int z)))
    divided o z h v = let d = h v in by_value (operated o v (int z)) d.0 d.1

    quiet_division : (p : K.place) (o : Arithmetic) (a : Exp K) (e : tree.Exp A) (d : Literal e) → ((v : Value K) → (w : Value K) × (operated (arithmetic o) v (int d.number) ≡ value w)) → Quiet a → Quiet (core.binary (Some p) (arithmetic o) a (exp_code X.facts e))
    quiet_division p o a e d h k = subst (λ z. Quiet (core.binary (Some p) (arithmetic o) a z)) (sym d.is) (quiet_divided (Some p) d.place (arithmetic o) a (int d.number) (divided (arithmetic o) d.number h) k)

    quiet_operation : (p q : K.place) (op : BinOp) (r : tree.Exp A) (a : Exp K) (lw rv : Way (Site K)) → AllPlain (operands op lw rv (unless (not (divides op) || is_nonzero r) (at_place q checks))) → DivisorFits (divides op) r
        → (AllPlain lw → Quiet a) → (AllPlain rv → Quiet (exp_code X.facts r)) → Quiet (operation p op a (exp_code X.facts r))
    quiet_operation p q Or r a lw rv h d k j = quiet_either (Some p) a (exp_code X.facts r) (k h.0) (j h.1.0)
    quiet_operation p q And r a lw rv h d k j = quiet_both (Some p) a (exp_code X.facts r) (k h.0) (j h.1.0)
    quiet_operation p q Eq r a lw rv h d k j = quiet_binary (Some p) equal a (exp_code X.facts r) (λ v w. refl) (k h.0) (j h.1.0)
    quiet_operation p q Ne r a lw rv h d k j = quiet_binary (Some p) different a (exp_code X.facts r) (λ v w. refl) (k h.0) (j h.1.0)
    quiet_operation p q Lt r a lw rv h d k j = quiet_binary (Some p) (comparison less) a (exp_code X.facts r) (λ v w. refl) (k h.0) (j h.1.0)
    quiet_operation p q Gt r a lw rv h d k j = quiet_binary (Some p) (comparison greater) a (exp_code X.facts r) (λ v w. refl) (k h.0) (j h.1.0)
    quiet_operation p q Le r a lw rv h d k j = quiet_binary (Some p) (comparison at_most) a (exp_code X.facts r) (λ v w. refl) (k h.0) (j h.1.0)
    quiet_operation p q Ge r a lw rv h d k j = quiet_binary (Some p) (comparison at_least) a (exp_code X.facts r) (λ v w. refl) (k h.0) (j h.1.0)
    quiet_operation p q Add r a lw rv h d k j = quiet_binary (Some p) (arithmetic add) a (exp_code X.facts r) (λ v w. refl) (k h.0) (j h.1.0)
    quiet_operation p q Sub r a lw rv h d k j = quiet_binary (Some p) (arithmetic subtract) a (exp_code X.facts r) (λ v w. refl) (k h.0) (j h.1.0)
    quiet_operation p q Mul r a lw rv h d k j = quiet_binary (Some p) (arithmetic multiply) a (exp_code X.facts r) (λ v w. refl) (k h.0) (j h.1.0)
    quiet_operation p q Div r a lw rv h d k j = let c = literal_divisor q r h.1.1 d in quiet_division p divide a r c (λ v. (wrapped_int (int_div (number_of v) c.number), ap (λ b. unless_zero {K = K} b (int_div (number_of v) c.number)) c.nonzero)) (k h.0)
    quiet_operation p q Rem r a lw rv h d k j = let c = literal_divisor q r h.1.1 d in quiet_division p remainder a r c (λ v. (wrapped_int (int_rem (number_of v) c.number), ap (λ b. unless_zero {K = K} b (int_rem (number_of v) c.number)) c.nonzero)) (k h.0)

    plain_quiet : (e : tree.Exp A) → AllPlain (exp_way X e) → DivisorsFit e → Quiet (exp_code X.facts e)
    plain_quiet (tree.number a n) h d = quiet_literal _ _
    plain_quiet (tree.truth a b) h d = quiet_literal _ _
    plain_quiet (tree.null a) h d = quiet_literal _ _
    plain_quiet (tree.string a s) h d = quiet_literal _ _
    plain_quiet (tree.name a w) h d = quiet_name (X.facts.first a) (X.facts.first w.mark) (X.facts.variable w.mark) h
    plain_quiet (tree.field a e w) h d = quiet_field (X.facts.first a) (X.facts.first w.mark) (exp_code X.facts e) (X.facts.variable w.mark) h.1.1
    plain_quiet (tree.super_field a w) h d = quiet_field (X.facts.first a) (X.facts.first w.mark) (core.this None) (X.facts.variable w.mark) h
    plain_quiet (tree.this a) h d = quiet_this _
    plain_quiet (tree.class_literal a t) h d = quiet_class (X.facts.first a) (X.facts.class (mark_of_type t))
    plain_quiet (tree.call a t w es) h d = absurd h.1.1.1
    plain_quiet (tree.super_call a w es) h d = absurd h.1
    plain_quiet (tree.create a t es) h d = absurd h.0
    plain_quiet (tree.paren a e) h d = plain_quiet e h d
    plain_quiet (tree.cast a t e) h d = quiet_cast (X.facts.first a) (X.facts.first a) (X.facts.is_checked a) (X.facts.class (mark_of_type t)) (exp_code X.facts e) h.1 (plain_quiet e h.0 d)
    plain_quiet (tree.unary a op e) h d = quiet_signed (Some (X.facts.first a)) (sign_of op) (exp_code X.facts e) (plain_quiet e h d)
    plain_quiet (tree.bump a op t) h d = not_bumped (X.facts.first a) (bump_of op) (target_code X.facts t) (no_target t h.1.1)
    plain_quiet (tree.binary a op l r) h d = quiet_operation (X.facts.first a) (X.facts.first (mark_of r)) op r (exp_code X.facts l) (exp_way X l) (exp_way X r) h d.0 (λ g. plain_quiet l g d.1) (λ g. plain_quiet r g d.2)
    plain_quiet (tree.assign a t e) h d = not_assigned (X.facts.first a) (target_code X.facts t) (exp_code X.facts e) (no_target t h.1.1.1)
    plain_quiet (tree.compound a op t e) h d = not_changed (X.facts.first a) (arithmetic_of op) (target_code X.facts t) (exp_code X.facts e) (no_target t h.1.1.1.1)

-- ---- the locals that its sites read

module _ {K : Keys} where
  kept : (w : What K) (ns : List ℕ) (n : ℕ) → In n ns → In n (with_read w ns)
  kept (reads m) ns n h = inr h
  kept (writes m) ns n h = h
  kept (loads f) ns n h = h
  kept (stores f) ns n h = h
  kept enters ns n h = h
  kept exits ns n h = h
  kept creates ns n h = h
  kept checks ns n h = h
  kept calls ns n h = h
  kept loops ns n h = h

  -- a site that is a read is one of these
  abbrev Listed : What K → List ℕ → Type 0
  Listed (reads n) ns = In n ns
  Listed (writes n) ns = ⊥
  Listed (loads f) ns = ⊥
  Listed (stores f) ns = ⊥
  Listed enters ns = ⊥
  Listed exits ns = ⊥
  Listed creates ns = ⊥
  Listed checks ns = ⊥
  Listed calls ns = ⊥
  Listed loops ns = ⊥

  first_listed : (w : What K) (ns : List ℕ) → IsRead w → Listed w (with_read w ns)
  first_listed (reads n) ns h = inl refl
  first_listed (writes n) ns h = h
  first_listed (loads f) ns h = h
  first_listed (stores f) ns h = h
  first_listed enters ns h = h
  first_listed exits ns h = h
  first_listed creates ns h = h
  first_listed checks ns h = h
  first_listed calls ns h = h
  first_listed loops ns h = h

  later_listed : (v w : What K) (ns : List ℕ) → Listed w ns → Listed w (with_read v ns)
  later_listed v (reads n) ns h = kept v ns n h
  later_listed v (writes n) ns h = h
  later_listed v (loads f) ns h = h
  later_listed v (stores f) ns h = h
  later_listed v enters ns h = h
  later_listed v exits ns h = h
  later_listed v creates ns h = h
  later_listed v checks ns h = h
  later_listed v calls ns h = h
  later_listed v loops ns h = h

  is_listed : (all : List (Site K)) (i : ℕ) (s : Site K) → site_at all i ≡ Some s → IsRead s.what → Listed s.what (reads_of all)
  is_listed [] i s e h = none_some s e
  is_listed (t ∷ all) zero s e h = let q = same_one t s e in subst (λ (z : Site K). Listed s.what (with_read z.what (reads_of all))) (sym q) (first_listed s.what (reads_of all) h)
  is_listed (t ∷ all) (suc i) s e h = later_listed t.what s.what (reads_of all) (is_listed all i s e h)

  as_plain : (R : Rows K) (ns : List ℕ) (w : What K) → Listed w ns → Plainly R (λ n. In n ns) w
  as_plain R ns (reads n) h = h
  as_plain R ns (writes n) h = h
  as_plain R ns (loads f) h = h
  as_plain R ns (stores f) h = h
  as_plain R ns enters h = h
  as_plain R ns exits h = h
  as_plain R ns creates h = h
  as_plain R ns checks h = h
  as_plain R ns calls h = h
  as_plain R ns loops h = h

pub plain_expressions_are_silent : {C F M Q L A : Type 0} → PlainExpressionsAreSilent C F M Q L A
plain_expressions_are_silent X R e h d =
    let all = sites_of (exp_way X e) in
    let ns = reads_of all in
    let k = plain_quiet R (λ n. In n ns) X e (plain_by R (λ n. In n ns) all (λ i s g. as_plain R ns s.what (is_listed all i s g (h i s g))) (exp_way X e) 0 (stands_in all (exp_way X e) [] [] 0 refl (sym (append-nil all)))) d in
    record { result = k.gives; comes = k.does; same = k.alike }
