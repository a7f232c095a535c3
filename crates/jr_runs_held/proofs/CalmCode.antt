-- Calm code comes to a value by at most as many actions as it has accesses, each made by one of these, whatever the answers
-- are, and leaves alone what it doesn't write. By induction on the footprint, each node by its parts.
use Rattle.std.proofs.Common.{◌≡◌, ◌⊎◌, ℕ, ◌+◌, Bool, true, false, IsTrue, List, [], ◌∷◌, ◌++◌, map, length, pos, not, ◌+ℤ◌, ◌-ℤ◌, ◌*ℤ◌, int_div, int_rem, refl, sym, ap, ◌∙◌, subst, inl, inr, ⊎_elim, arith}
use Rattle.std.proofs.lemmas.List.{length-append}
use Rattle.jr_plans.specs.Plan.{done, act}
use Rattle.jr_plans.specs.Finite.{Finite, Results}
use Rattle.jr_plans.proofs.Finishing.{finite_within}
use Rattle.jr_runs.specs.Keys.{Keys, At}
use Rattle.jr_runs.specs.Values.{Value, int, truth, null, text, class_object, object, Ty, int_type, boolean_type, reference, same_value}
use Rattle.jr_runs.specs.Actions.{Location, part, shared, enter, Event, placed}
use Rattle.jr_runs.specs.Rows.{Rows}
use Rattle.jr_runs.specs.Fitting.{fits}
use Rattle.jr_runs.specs.Arithmetic.{Out, value, thrown, wrapped_int, unless_zero, calculate, compare, number_of, operate, sign, bumped, bump_value}
use Rattle.jr_runs.specs.Core.{Arithmetic, add, subtract, multiply, Operator, comparison, equal, different, Exp, Target}
use Rattle.jr_runs.specs.Evaluation.{Step, next, local_at, with_local, unset, load_from, store_to, load_field, store_field, with_locals, on_truth, exp}
use Rattle.jr_runs.proofs.Locals.{not_written}
use Rattle.jr_runs.specs.Standing.{In}
use Rattle.jr_runs.proofs.Numbers.{in_left, in_right, unset_other}
use Rattle.jr_runs_held.specs.Footprint.{field_in, Access, loads, stores, enters, OneMakes, CalmTarget, calm_local, calm_static, calm_own, Sure, sure_add, sure_subtract, sure_multiply, sure_divide, sure_remainder, SureOperator, sure_arithmetic, sure_comparison, sure_equal, sure_different, Calm, calm_literal, calm_this, calm_read, calm_assign, calm_compound, calm_bump, calm_signed, calm_binary, calm_both, calm_either}
use Rattle.jr_runs_held.specs.Places.{Piece, run_piece, run_pieces, monitor_of, slot_of, CalmPiece, calm_declared, calm_evaluated, calm_opened, calm_locked, CalmPieces, calm_none, calm_more}
use Rattle.jr_runs_held.proofs.Steps.{results_more, results_two, results_all, IsCame, came_next, finite_next, not_null, plain_target, never_value}

-- a value that fits: each load can be answered
some_fits : {K : Keys} (R : Rows K) (T : Ty K) → (v : Value K) × IsTrue (fits R T v)
some_fits R int_type = (int (pos 0), refl)
some_fits R boolean_type = (truth false, refl)
some_fits R (reference c) = (null, refl)

-- ---- operators that can't fail

abbrev pub Computes : {K : Keys} → Arithmetic → Value K → Type 0
Computes {K = K} op v = (x : Value K) → (w : Value K) × (calculate op (number_of x) (number_of v) ≡ value w)

abbrev pub Operates : {K : Keys} → Rows K → Operator → Value K → Type 0
Operates {K = K} R op v = (x : Value K) → (w : Value K) × (operate R.same_class op x v ≡ value w)

-- if there is a value, P holds of it
abbrev pub OfValue : {A : Type 0} → (A → Type 0) → Out A → Type 0
OfValue P (value a) = P a
OfValue P (thrown f) = Unit {0}

of_any : {A : Type 0} (P : A → Type 0) → ((a : A) → P a) → (o : Out A) → OfValue P o
of_any P h (value a) = h a
of_any P h (thrown f) = tt

module _ {K : Keys} (R : Rows K) (me : Value K) where
  -- what the right operand comes to gives the operator a value, whatever the left one is
  pub sure_results : (op : Arithmetic) (e : Exp K) → Sure op e → (l : List (Value K)) → Results (OfValue (λ a. Computes op a.0)) (exp R me e l)
  sure_results op e (sure_add x) l = results_all (OfValue (λ a. Computes add a.0)) (of_any (λ a. Computes add a.0) (λ a y. (wrapped_int (number_of y +ℤ number_of a.0), refl))) (exp R me e l)
  sure_results op e (sure_subtract x) l = results_all (OfValue (λ a. Computes subtract a.0)) (of_any (λ a. Computes subtract a.0) (λ a y. (wrapped_int (number_of y -ℤ number_of a.0), refl))) (exp R me e l)
  sure_results op e (sure_multiply x) l = results_all (OfValue (λ a. Computes multiply a.0)) (of_any (λ a. Computes multiply a.0) (λ a y. (wrapped_int (number_of y *ℤ number_of a.0), refl))) (exp R me e l)
  sure_results op e (sure_divide p z i) l = λ y. (wrapped_int (int_div (number_of y) z), ap (λ b. unless_zero b (int_div (number_of y) z)) i)
  sure_results op e (sure_remainder p z i) l = λ y. (wrapped_int (int_rem (number_of y) z), ap (λ b. unless_zero b (int_rem (number_of y) z)) i)

  pub sure_operator : (op : Operator) (e : Exp K) → SureOperator op e → (l : List (Value K)) → Results (OfValue (λ a. Operates R op a.0)) (exp R me e l)
  sure_operator op e (sure_arithmetic o x h) l = sure_results o e h l
  sure_operator op e (sure_comparison o x) l = results_all (OfValue (λ a. Operates R (comparison o) a.0)) (of_any (λ a. Operates R (comparison o) a.0) (λ a y. (truth (compare o (number_of y) (number_of a.0)), refl))) (exp R me e l)
  sure_operator op e (sure_equal x) l = results_all (OfValue (λ a. Operates R equal a.0)) (of_any (λ a. Operates R equal a.0) (λ a y. (truth (same_value R.same_class y a.0), refl))) (exp R me e l)
  sure_operator op e (sure_different x) l = results_all (OfValue (λ a. Operates R different a.0)) (of_any (λ a. Operates R different a.0) (λ a y. (truth (not (same_value R.same_class y a.0)), refl))) (exp R me e l)

-- ---- pieces that are calm

one_left : {K : Keys} (R : Rows K) (xs ys : List (Access K)) (x : Event K) → OneMakes R xs x → OneMakes R (xs ++ ys) x
one_left R [] ys x h = absurd h
one_left R (a ∷ xs) ys x h = ⊎_elim (λ i. inl i) (λ j. inr (one_left R xs ys x j)) h

one_right : {K : Keys} (R : Rows K) (xs ys : List (Access K)) (x : Event K) → OneMakes R ys x → OneMakes R (xs ++ ys) x
one_right R [] ys x h = h
one_right R (a ∷ xs) ys x h = inr (one_right R xs ys x h)

-- by these accesses it comes to a value of which Q holds
pub record Calmly {K : Keys} {A : Type 0} (R : Rows K) (xs : List (Access K)) (Q : A → Type 0) (p : Step K A) : Type 0 where
  pub finite : Finite (OneMakes R xs) p (length xs)
  pub comes : Results (IsCame Q) p

module _ {K : Keys} (R : Rows K) where
  calm_value : {A : Type 0} (xs : List (Access K)) (Q : A → Type 0) (a : A) → Q a → Calmly R xs Q (done (value a))
  calm_value xs Q a h = record { finite = tt; comes = h }

  calm_next : {A B : Type 0} (xs ys : List (Access K)) (Q : A → Type 0) (Q' : B → Type 0) (p : Step K A) (k : A → Step K B) → Calmly R xs Q p → ((a : A) → Q a → Calmly R ys Q' (k a)) → Calmly R (xs ++ ys) Q' (next p k)
  calm_next xs ys Q Q' p k c h = record {
    finite = subst (λ n. Finite (OneMakes R (xs ++ ys)) (next p k) n) (sym (length-append xs ys))
        (finite_next (OneMakes R (xs ++ ys)) Q p k (length xs) (length ys)
        (finite_within (OneMakes R xs) (OneMakes R (xs ++ ys)) p (length xs) (length xs) (omega arith) (λ x i. one_left R xs ys x i) c.finite) c.comes
        (λ a q. finite_within (OneMakes R ys) (OneMakes R (xs ++ ys)) (k a) (length ys) (length ys) (omega arith) (λ x i. one_right R xs ys x i) (h a q).finite));
    comes = came_next Q Q' p k c.comes (λ a q. (h a q).comes);
  }

  -- and then an outcome, without a further access
  calm_out : {A B : Type 0} (xs : List (Access K)) (Q : A → Type 0) (Q' : B → Type 0) (p : Step K A) (k : A → Out B) → Calmly R xs Q p → ((a : A) → Q a → IsCame Q' (k a)) → Calmly R xs Q' (next p (λ a. done (k a)))
  calm_out xs Q Q' p k c h = record {
    finite = let e : length xs + 0 ≡ length xs = omega arith in subst (λ n. Finite (OneMakes R xs) (next p (λ a. done (k a))) n) e (finite_next (OneMakes R xs) Q p (λ a. done (k a)) (length xs) 0 c.finite c.comes (λ a q. tt));
    comes = came_next Q Q' p (λ a. done (k a)) c.comes h;
  }

  -- what is known of its values beside
  calm_and : {A : Type 0} (xs : List (Access K)) (Q P : A → Type 0) (p : Step K A) → Calmly R xs Q p → Results (OfValue P) p → Calmly R xs (λ a. Q a × P a) p
  calm_and {A = A} xs Q P p c h = record { finite = c.finite; comes = results_more (λ o. IsCame Q o × OfValue P o) (IsCame (λ a. Q a × P a)) go p (results_two (IsCame Q) (OfValue P) p c.comes h) }
    where
      go : (o : Out A) → IsCame Q o × OfValue P o → IsCame (λ a. Q a × P a) o
      go (value a) i = i
      go (thrown f) i = i.0

  calm_truth : {A : Type 0} (xs : List (Access K)) (Q : A → Type 0) (v : Value K) (p q : Step K A) → Calmly R xs Q p → Calmly R xs Q q → Calmly R xs Q (on_truth v p q)
  calm_truth xs Q (truth true) p q c d = c
  calm_truth xs Q (truth false) p q c d = d
  calm_truth xs Q null p q c d = d
  calm_truth xs Q (int n) p q c d = d
  calm_truth xs Q (text t) p q c d = d
  calm_truth xs Q (class_object o) p q c d = d
  calm_truth xs Q (object n o) p q c d = d

-- all but these locals are as they were
abbrev pub Kept : {K : Keys} → List ℕ → List (Value K) → List (Value K) → Type 0
Kept ws l m = (i : ℕ) → (In i ws → ⊥) → local_at m i ≡ local_at l i

pub kept_on : {K : Keys} (ws ws' : List ℕ) (l m o : List (Value K)) → Kept ws l m → Kept ws' m o → Kept (ws ++ ws') l o
kept_on ws ws' l m o h g = λ i d. g i (λ j. d (in_right i ws ws' j)) ∙ h i (λ j. d (in_left i ws ws' j))

pub kept_first : {K : Keys} (ws ws' : List ℕ) (l m : List (Value K)) → Kept ws l m → Kept (ws ++ ws') l m
kept_first ws ws' l m h = λ i d. h i (λ j. d (in_left i ws ws' j))

-- what is kept behind a second piece
on_kept : {K : Keys} (ws ws' : List ℕ) (l m : List (Value K)) → Kept ws l m → (o : Out (List (Value K))) → IsCame (Kept ws' m) o → IsCame (Kept (ws ++ ws') l) o
on_kept ws ws' l m h (value n) g = kept_on ws ws' l m n h g
on_kept ws ws' l m h (thrown f) g = g

on_keeps : {K : Keys} (ws ws' : List ℕ) (l m : List (Value K)) → Kept ws l m → (o : Out (Value K × List (Value K))) → IsCame (λ a. Kept ws' m a.1) o → IsCame (λ a. Kept (ws ++ ws') l a.1) o
on_keeps ws ws' l m h (value n) g = kept_on ws ws' l m n.1 h g
on_keeps ws ws' l m h (thrown f) g = g

-- ---- expressions

module _ {K : Keys} (R : Rows K) (me : Value K) (own : Bool) (some : IsTrue own → me ≡ null → ⊥) where
  field_load : (p : At K) (f : K.field) (at : Location K) → field_in at ≡ f → Calmly R (loads f ∷ []) (λ v. Unit {0}) (load_field R p at f)
  field_load p f at e = record { finite = (some_fits R (R.field_type f), λ v h. (inl (at, v, e, refl), tt)); comes = λ v. tt }

  calm_load : (t : Target K) (ns : List ℕ) (fs : List K.field) → CalmTarget own t ns fs → (l : List (Value K)) → Calmly R (map loads fs) (λ v. Unit {0}) (load_from R (slot_of me t) l)
  calm_load t ns fs (calm_local p n) l = calm_value R [] (λ v. Unit {0}) (local_at l n) tt
  calm_load t ns fs (calm_static p f) l = field_load p f (shared f) refl
  calm_load t ns fs (calm_own p q f i) l = subst (Calmly R (loads f ∷ []) (λ v. Unit {0})) (sym (not_null me (some i) (load_field R p (part me f) f))) (field_load p f (part me f) refl)

  field_store : (p : At K) (f : K.field) (at : Location K) → field_in at ≡ f → (v : Value K) (l : List (Value K)) → Calmly R (stores f ∷ []) (Kept [] l) (store_field R p at f v l)
  field_store p f at e v l = record { finite = (inl (at, v, e, refl), tt); comes = λ i d. refl }

  calm_store : (t : Target K) (ns : List ℕ) (fs : List K.field) → CalmTarget own t ns fs → (v : Value K) (l : List (Value K)) → Calmly R (map stores fs) (Kept ns l) (store_to R (slot_of me t) v l)
  calm_store t ns fs (calm_local p n) v l = calm_value R [] (Kept (n ∷ []) l) (with_local l n v) (λ i d. not_written l n i v (λ e. d (inl e)))
  calm_store t ns fs (calm_static p f) v l = field_store p f (shared f) refl v l
  calm_store t ns fs (calm_own p q f i) v l = subst (Calmly R (stores f ∷ []) (Kept [] l)) (sym (not_null me (some i) (store_field R p (part me f) f v l))) (field_store p f (part me f) refl v l)

  abbrev Keeps : List ℕ → List (Value K) → Value K × List (Value K) → Type 0
  Keeps ws l a = Kept ws l a.1

  -- what is stored is what the whole comes to
  stored : (t : Target K) (ns : List ℕ) (fs : List K.field) → CalmTarget own t ns fs → (ws : List ℕ) (l m : List (Value K)) → Kept ws l m → (v w : Value K) → Calmly R (map stores fs) (Keeps (ws ++ ns) l) (next (store_to R (slot_of me t) v m) (λ o. done (value (w, o))))
  stored t ns fs c ws l m h v w = calm_out R (map stores fs) (Kept ns m) (Keeps (ws ++ ns) l) (store_to R (slot_of me t) v m) (λ o. value (w, o)) (calm_store t ns fs c v m) (λ o g. kept_on ws ns l m o h g)

  later : (xs : List (Access K)) (ws ws' : List ℕ) (l m : List (Value K)) → Kept ws l m → (p : Step K (Value K × List (Value K))) → Calmly R xs (Keeps ws' m) p → Calmly R xs (Keeps (ws ++ ws') l) p
  later xs ws ws' l m h p g = record { finite = g.finite; comes = results_more (IsCame (Keeps ws' m)) (IsCame (Keeps (ws ++ ws') l)) (on_keeps ws ws' l m h) p g.comes }

  pub calm_exp : (e : Exp K) (rs ws : List ℕ) (xs : List (Access K)) → Calm own e rs ws xs → (l : List (Value K)) → Calmly R xs (Keeps ws l) (exp R me e l)
  calm_exp e rs ws xs (calm_literal p v) l = calm_value R [] (Keeps [] l) (v, l) (λ i d. refl)
  calm_exp e rs ws xs (calm_this p) l = calm_value R [] (Keeps [] l) (me, l) (λ i d. refl)
  calm_exp e rs ws xs (calm_read p t ns fs c) l =
      subst (λ s. Calmly R (map loads fs) (Keeps [] l) (next s (λ r. next (load_from R r.0 r.1) (λ v. done (value (v, r.1)))))) (sym (plain_target R me own t ns fs c l))
      (calm_out R (map loads fs) (λ v. Unit {0}) (Keeps [] l) (load_from R (slot_of me t) l) (λ v. value (v, l)) (calm_load t ns fs c l) (λ v u i d. refl))
  calm_exp e rs ws xs (calm_assign p t x ns rs1 ws1 fs xs1 c d) l =
      subst (λ s. Calmly R (xs1 ++ map stores fs) (Keeps (ws1 ++ ns) l) (next s (λ r. next (exp R me x r.1) (λ a. next (store_to R r.0 a.0 a.1) (λ m. done (value (a.0, m))))))) (sym (plain_target R me own t ns fs c l))
      (calm_next R xs1 (map stores fs) (Keeps ws1 l) (Keeps (ws1 ++ ns) l) (exp R me x l) (λ a. next (store_to R (slot_of me t) a.0 a.1) (λ m. done (value (a.0, m)))) (calm_exp x rs1 ws1 xs1 d l)
      (λ a h. stored t ns fs c ws1 l a.1 h a.0 a.0))
  calm_exp e rs ws xs (calm_compound p op t x ns rs1 ws1 fs xs1 c d u) l =
      subst (λ s. Calmly R (map loads fs ++ (xs1 ++ map stores fs)) (Keeps (ws1 ++ ns) l) (next s (λ r. next (load_from R r.0 r.1) (λ old. next (exp R me x r.1) (λ a. next (done (calculate op (number_of old) (number_of a.0))) (λ v. next (store_to R r.0 v a.1) (λ m. done (value (v, m)))))))))
      (sym (plain_target R me own t ns fs c l))
      (calm_next R (map loads fs) (xs1 ++ map stores fs) (λ v. Unit {0}) (Keeps (ws1 ++ ns) l) (load_from R (slot_of me t) l)
      (λ old. next (exp R me x l) (λ a. next (done (calculate op (number_of old) (number_of a.0))) (λ v. next (store_to R (slot_of me t) v a.1) (λ m. done (value (v, m)))))) (calm_load t ns fs c l)
      (λ old z. calm_next R xs1 (map stores fs) (λ a. Keeps ws1 l a × Computes op a.0) (Keeps (ws1 ++ ns) l) (exp R me x l) (λ a. next (done (calculate op (number_of old) (number_of a.0))) (λ v. next (store_to R (slot_of me t) v a.1) (λ m. done (value (v, m)))))
      (calm_and R xs1 (Keeps ws1 l) (λ a. Computes op a.0) (exp R me x l) (calm_exp x rs1 ws1 xs1 d l) (sure_results R me op x u l))
      (λ a h. let w = h.1 old in subst (λ o. Calmly R (map stores fs) (Keeps (ws1 ++ ns) l) (next (done o) (λ v. next (store_to R (slot_of me t) v a.1) (λ m. done (value (v, m)))))) (sym w.1)
      (stored t ns fs c ws1 l a.1 h.0 w.0 w.0))))
  calm_exp e rs ws xs (calm_bump p op t ns fs c) l =
      subst (λ s. Calmly R (map loads fs ++ map stores fs) (Keeps ns l) (next s (λ r. next (load_from R r.0 r.1) (λ old. next (store_to R r.0 (bumped op old) r.1) (λ m. done (value (bump_value op old (bumped op old), m))))))) (sym (plain_target R me own t ns fs c l))
      (calm_next R (map loads fs) (map stores fs) (λ v. Unit {0}) (Keeps ns l) (load_from R (slot_of me t) l) (λ old. next (store_to R (slot_of me t) (bumped op old) l) (λ m. done (value (bump_value op old (bumped op old), m)))) (calm_load t ns fs c l)
      (λ old u. stored t ns fs c [] l l (λ i d. refl) (bumped op old) (bump_value op old (bumped op old))))
  calm_exp e rs ws xs (calm_signed p op x rs1 ws1 xs1 d) l = calm_out R xs1 (Keeps ws1 l) (Keeps ws1 l) (exp R me x l) (λ r. value (sign op r.0, r.1)) (calm_exp x rs1 ws1 xs1 d l) (λ a h. h)
  calm_exp e rs ws xs (calm_binary p op x y rs1 ws1 rs2 ws2 xs1 xs2 c d u) l =
      calm_next R xs1 xs2 (Keeps ws1 l) (Keeps (ws1 ++ ws2) l) (exp R me x l) (λ r. next (exp R me y r.1) (λ s. done (with_locals s.1 (operate R.same_class op r.0 s.0)))) (calm_exp x rs1 ws1 xs1 c l)
      (λ a h. calm_out R xs2 (λ b. Keeps ws2 a.1 b × Operates R op b.0) (Keeps (ws1 ++ ws2) l) (exp R me y a.1) (λ s. with_locals s.1 (operate R.same_class op a.0 s.0))
      (calm_and R xs2 (Keeps ws2 a.1) (λ b. Operates R op b.0) (exp R me y a.1) (calm_exp y rs2 ws2 xs2 d a.1) (sure_operator R me op y u a.1))
      (λ b g. let w = g.1 a.0 in subst (λ o. IsCame (Keeps (ws1 ++ ws2) l) (with_locals b.1 o)) (sym w.1) (kept_on ws1 ws2 l a.1 b.1 h g.0)))
  calm_exp e rs ws xs (calm_both p x y rs1 ws1 rs2 ws2 xs1 xs2 c d) l =
      calm_next R xs1 xs2 (Keeps ws1 l) (Keeps (ws1 ++ ws2) l) (exp R me x l) (λ r. on_truth r.0 (exp R me y r.1) (done (value (truth false, r.1)))) (calm_exp x rs1 ws1 xs1 c l)
      (λ a h. calm_truth R xs2 (Keeps (ws1 ++ ws2) l) a.0 (exp R me y a.1) (done (value (truth false, a.1))) (later xs2 ws1 ws2 l a.1 h (exp R me y a.1) (calm_exp y rs2 ws2 xs2 d a.1)) (calm_value R xs2 (Keeps (ws1 ++ ws2) l) (truth false, a.1) (kept_first ws1 ws2 l a.1 h)))
  calm_exp e rs ws xs (calm_either p x y rs1 ws1 rs2 ws2 xs1 xs2 c d) l =
      calm_next R xs1 xs2 (Keeps ws1 l) (Keeps (ws1 ++ ws2) l) (exp R me x l) (λ r. on_truth r.0 (done (value (truth true, r.1))) (exp R me y r.1)) (calm_exp x rs1 ws1 xs1 c l)
      (λ a h. calm_truth R xs2 (Keeps (ws1 ++ ws2) l) a.0 (done (value (truth true, a.1))) (exp R me y a.1) (calm_value R xs2 (Keeps (ws1 ++ ws2) l) (truth true, a.1) (kept_first ws1 ws2 l a.1 h)) (later xs2 ws1 ws2 l a.1 h (exp R me y a.1) (calm_exp y rs2 ws2 xs2 d a.1)))

  -- ---- pieces

  pub calm_piece : (b : Piece K) (rs ws : List ℕ) (xs : List (Access K)) → CalmPiece own b rs ws xs → (l : List (Value K)) → Calmly R xs (Kept ws l) (run_piece R me b l)
  calm_piece b rs ws xs (calm_declared n e rs1 ws1 xs1 c) l = calm_out R xs1 (Keeps ws1 l) (Kept (ws1 ++ (n ∷ [])) l) (exp R me e l) (λ r. value (with_local r.1 n r.0)) (calm_exp e rs1 ws1 xs1 c l)
      (λ a h. kept_on ws1 (n ∷ []) l a.1 (with_local a.1 n a.0) h (λ i d. not_written a.1 n i a.0 (λ e. d (inl e))))
  calm_piece b rs ws xs (calm_evaluated e rs1 ws1 xs1 c) l = calm_out R xs1 (Keeps ws1 l) (Kept ws1 l) (exp R me e l) (λ r. value r.1) (calm_exp e rs1 ws1 xs1 c l) (λ a h. h)
  calm_piece b rs ws xs (calm_opened ns) l = calm_value R [] (Kept ns l) (unset ns l) (λ i d. unset_other ns l i d)
  calm_piece b rs ws xs (calm_locked p e nn) l = subst (λ s. Calmly R (enters ∷ []) (Kept [] l) (next s (λ r. act (placed p (enter r.0)) (done (value r.1))))) (sym (never_value R me own e nn l))
      record { finite = (inl (monitor_of me e, refl), tt); comes = λ i d. refl }

  pub calm_pieces : (bs : List (Piece K)) (rs ws : List ℕ) (xs : List (Access K)) → CalmPieces own bs rs ws xs → (l : List (Value K)) → Calmly R xs (Kept ws l) (run_pieces R me bs l)
  calm_pieces bs rs ws xs calm_none l = calm_value R [] (Kept [] l) l (λ i d. refl)
  calm_pieces bs rs ws xs (calm_more b cs rs1 ws1 rs2 ws2 xs1 xs2 c d) l =
      calm_next R xs1 xs2 (Kept ws1 l) (Kept (ws1 ++ ws2) l) (run_piece R me b l) (λ m. run_pieces R me cs m) (calm_piece b rs1 ws1 xs1 c l)
      (λ m h. let g = calm_pieces cs rs2 ws2 xs2 d m in record { finite = g.finite; comes = results_more (IsCame (Kept ws2 m)) (IsCame (Kept (ws1 ++ ws2) l)) (on_kept ws1 ws2 l m h) (run_pieces R me cs m) g.comes })
