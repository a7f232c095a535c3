-- Silent code, which is calm and has no access, comes to a value and makes nothing. What it comes to and what it writes
-- depend on what it reads: by induction on the footprint, of two runs side by side.
use Rattle.std.proofs.Common.{◌≡◌, ◌⊎◌, ℕ, Bool, true, false, List, [], ◌∷◌, ◌++◌, refl, sym, ap, ◌∙◌, subst, inl, inr, ⊎_elim}
use Rattle.std.proofs.lemmas.Bool.{cases_eq}
use Rattle.jr_plans.specs.Plan.{done}
use Rattle.jr_plans.specs.Finite.{Results}
use Rattle.jr_runs.specs.Keys.{Keys}
use Rattle.jr_runs.specs.Values.{Value, truth}
use Rattle.jr_runs.specs.Rows.{Rows}
use Rattle.jr_runs.specs.Arithmetic.{value, calculate, number_of, operate, sign, bumped, bump_value}
use Rattle.jr_runs.specs.Core.{Arithmetic, Operator, Exp}
use Rattle.jr_runs.specs.Evaluation.{Step, next, local_at, with_local, unset, with_locals, on_truth, exp}
use Rattle.jr_runs.specs.Standing.{In}
use Rattle.jr_runs.proofs.Locals.{written, not_written}
use Rattle.jr_runs.proofs.Numbers.{is_in, in_left, in_right, in_both, unset_other, unset_null}
use Rattle.jr_runs_held.specs.Footprint.{Access, loads, stores, enters, Sure, SureOperator, calm_local, calm_static, calm_own, Calm, calm_literal, calm_this, calm_read, calm_assign, calm_compound, calm_bump, calm_signed, calm_binary, calm_both, calm_either}
use Rattle.jr_runs_held.specs.Held.{Silent}
use Rattle.jr_runs_held.specs.Places.{Piece, run_piece, run_pieces, CalmPiece, calm_declared, calm_evaluated, calm_opened, calm_locked, CalmPieces, calm_none, calm_more}
use Rattle.jr_runs_held.proofs.Steps.{one_value, truth_cases}
use Rattle.jr_runs_held.proofs.CalmCode.{Computes, Operates, OfValue, sure_results, sure_operator, Kept}

-- ---- lists of nothing

no_cons : {X : Type 0} {A : Type 0} (x : X) (xs : List X) → x ∷ xs ≡ [] → A
no_cons x xs e = absurd (apart e)
  where
    apart : x ∷ xs ≡ [] → ⊥
    apart i = cc

nil_first : {X : Type 0} (xs ys : List X) → xs ++ ys ≡ [] → xs ≡ []
nil_first [] ys e = refl
nil_first (x ∷ xs) ys e = no_cons x (xs ++ ys) e

nil_second : {X : Type 0} (xs ys : List X) → xs ++ ys ≡ [] → ys ≡ []
nil_second [] ys e = e
nil_second (x ∷ xs) ys e = no_cons x (xs ++ ys) e

-- of two lists of locals, those of P agree
abbrev pub Agree : {K : Keys} → (ℕ → Type 0) → List (Value K) → List (Value K) → Type 0
Agree P l m = (i : ℕ) → P i → local_at m i ≡ local_at l i

-- those of P, and what is written
abbrev pub Or : (ℕ → Type 0) → List ℕ → ℕ → Type 0
Or P ws i = P i ⊎ In i ws

-- Code that writes ws came to these locals, from two lists of which P agree.
pub record Apart {K : Keys} (P : ℕ → Type 0) (ws : List ℕ) (l first second : List (Value K)) : Type 0 where
  pub agree : Agree (Or P ws) first second
  pub stays : Kept ws l first
  pub as_it_was : ws ≡ [] → first ≡ l

module _ {K : Keys} (P : ℕ → Type 0) where
  apart_none : (l m : List (Value K)) → Agree P l m → Apart P [] l l m
  apart_none l m h = record { agree = λ i g. ⊎_elim (λ (p : P i). h i p) (λ (o : In i []). absurd o) g; stays = λ i d. refl; as_it_was = λ e. refl }

  -- behind a second piece, which may rely on what the first wrote
  apart_on : (ws ws' : List ℕ) (l a b c d : List (Value K)) → Apart P ws l a b → Apart (Or P ws) ws' a c d → Apart P (ws ++ ws') l c d
  apart_on ws ws' l a b c d h g = record {
    agree = λ i o. ⊎_elim (λ (p : P i). g.agree i (inl (inl p))) (λ (k : In i (ws ++ ws')). ⊎_elim (λ (w : In i ws). g.agree i (inl (inr w))) (λ (w : In i ws'). g.agree i (inr w)) (in_both i ws ws' k)) o;
    stays = λ i n. g.stays i (λ k. n (in_right i ws ws' k)) ∙ h.stays i (λ k. n (in_left i ws ws' k));
    as_it_was = λ e. g.as_it_was (nil_second ws ws' e) ∙ h.as_it_was (nil_first ws ws' e);
  }

  -- a local is written
  apart_write : (l m : List (Value K)) → Agree P l m → (n : ℕ) (v : Value K) → Apart P (n ∷ []) l (with_local l n v) (with_local m n v)
  apart_write l m h n v = record {
    agree = λ i o. ⊎_elim
        (λ (e : i ≡ n). rw e (written m n v ∙ sym (written l n v)))
        (λ (d : i ≡ n → ⊥). not_written m n i v d ∙ ⊎_elim (λ (p : P i). h i p) (λ (k : In i (n ∷ [])). ⊎_elim (λ (e : i ≡ n). absurd (d e)) (λ (z : In i []). absurd z) k) o ∙ sym (not_written l n i v d))
        (cases_eq i n);
    stays = λ i d. not_written l n i v (λ e. d (inl e));
    as_it_was = λ e. no_cons n [] e;
  }

  -- what is written on one way alone agreed before
  apart_left : (ws ws' : List ℕ) (l a b : List (Value K)) → ((i : ℕ) → In i ws' → P i) → Apart P ws l a b → Apart P (ws ++ ws') l a b
  apart_left ws ws' l a b r h = record {
    agree = λ i o. ⊎_elim (λ (p : P i). h.agree i (inl p)) (λ (k : In i (ws ++ ws')). ⊎_elim (λ (w : In i ws). h.agree i (inr w)) (λ (w : In i ws'). h.agree i (inl (r i w))) (in_both i ws ws' k)) o;
    stays = λ i n. h.stays i (λ k. n (in_left i ws ws' k));
    as_it_was = λ e. h.as_it_was (nil_first ws ws' e);
  }

-- ---- expressions

-- two runs of silent code
record Twins {K : Keys} (R : Rows K) (me : Value K) (e : Exp K) (P : ℕ → Type 0) (ws : List ℕ) (l m : List (Value K)) : Type 0 where
  result : Value K
  first : List (Value K)
  second : List (Value K)
  comes : exp R me e l ≡ done (value (result, first))
  comes_too : exp R me e m ≡ done (value (result, second))
  apart : Apart P ws l first second

module _ {K : Keys} (R : Rows K) (me : Value K) (own : Bool) where
  computed : (op : Arithmetic) (e : Exp K) → Sure op e → (l m : List (Value K)) (v : Value K) → exp R me e l ≡ done (value (v, m)) → Computes op v
  computed op e s l m v h = subst (Results (OfValue (λ a. Computes op a.0))) h (sure_results R me op e s l)

  operated : (op : Operator) (e : Exp K) → SureOperator op e → (l m : List (Value K)) (v : Value K) → exp R me e l ≡ done (value (v, m)) → Operates R op v
  operated op e s l m v h = subst (Results (OfValue (λ a. Operates R op a.0))) h (sure_operator R me op e s l)

  twins : (e : Exp K) (rs ws : List ℕ) (xs : List (Access K)) → Calm own e rs ws xs → xs ≡ [] → (P : ℕ → Type 0) → ((i : ℕ) → In i rs → P i) → (l m : List (Value K)) → Agree P l m → Twins R me e P ws l m
  twins e rs ws xs (calm_literal p v) z P r l m h = record { result = v; first = l; second = m; comes = refl; comes_too = refl; apart = apart_none P l m h }
  twins e rs ws xs (calm_this p) z P r l m h = record { result = me; first = l; second = m; comes = refl; comes_too = refl; apart = apart_none P l m h }
  twins e rs ws xs (calm_read p t ns fs (calm_local q n)) z P r l m h =
      record { result = local_at l n; first = l; second = m; comes = refl; comes_too = ap (λ v. done (value (v, m))) (h n (r n (inl refl))); apart = apart_none P l m h }
  twins e rs ws xs (calm_read p t ns fs (calm_static q f)) z P r l m h = no_cons (loads f) [] z
  twins e rs ws xs (calm_read p t ns fs (calm_own q q' f i)) z P r l m h = no_cons (loads f) [] z
  twins e rs ws xs (calm_assign p t x ns rs1 ws1 fs xs1 (calm_local q n) c) z P r l m h =
      let a = twins x rs1 ws1 xs1 c (nil_first xs1 [] z) P r l m h in
      let k : Value K × List (Value K) → Step K (Value K × List (Value K)) = λ s. done (value (s.0, with_local s.1 n s.0)) in
      record {
        result = a.result;
        first = with_local a.first n a.result;
        second = with_local a.second n a.result;
        comes = ap (λ p. next p k) a.comes;
        comes_too = ap (λ p. next p k) a.comes_too;
        apart = apart_on P ws1 (n ∷ []) l a.first a.second (with_local a.first n a.result) (with_local a.second n a.result) a.apart (apart_write (Or P ws1) a.first a.second a.apart.agree n a.result);
      }
  twins e rs ws xs (calm_assign p t x ns rs1 ws1 fs xs1 (calm_static q f) c) z P r l m h = no_cons (stores f) [] (nil_second xs1 (stores f ∷ []) z)
  twins e rs ws xs (calm_assign p t x ns rs1 ws1 fs xs1 (calm_own q q' f i) c) z P r l m h = no_cons (stores f) [] (nil_second xs1 (stores f ∷ []) z)
  twins e rs ws xs (calm_compound p op t x ns rs1 ws1 fs xs1 (calm_local q n) c u) z P r l m h =
      let a = twins x rs1 ws1 xs1 c (nil_first xs1 [] z) P (λ i o. r i (inr o)) l m h in
      let w = computed op x u l a.first a.result a.comes (local_at l n) in
      let k : Value K → Value K × List (Value K) → Step K (Value K × List (Value K)) = λ old s. next (done (calculate op (number_of old) (number_of s.0))) (λ v. done (value (v, with_local s.1 n v))) in
      record {
        result = w.0;
        first = with_local a.first n w.0;
        second = with_local a.second n w.0;
        comes = ap (λ p. next p (k (local_at l n))) a.comes ∙ ap (λ o. next (done o) (λ v. done (value (v, with_local a.first n v)))) w.1;
        comes_too = ap (λ p. next p (k (local_at m n))) a.comes_too ∙ ap (λ y. k y (a.result, a.second)) (h n (r n (inl refl))) ∙ ap (λ o. next (done o) (λ v. done (value (v, with_local a.second n v)))) w.1;
        apart = apart_on P ws1 (n ∷ []) l a.first a.second (with_local a.first n w.0) (with_local a.second n w.0) a.apart (apart_write (Or P ws1) a.first a.second a.apart.agree n w.0);
      }
  twins e rs ws xs (calm_compound p op t x ns rs1 ws1 fs xs1 (calm_static q f) c u) z P r l m h = no_cons (loads f) (xs1 ++ (stores f ∷ [])) z
  twins e rs ws xs (calm_compound p op t x ns rs1 ws1 fs xs1 (calm_own q q' f i) c u) z P r l m h = no_cons (loads f) (xs1 ++ (stores f ∷ [])) z
  twins e rs ws xs (calm_bump p op t ns fs (calm_local q n)) z P r l m h =
      let v = bumped op (local_at l n) in
      record {
        result = bump_value op (local_at l n) v;
        first = with_local l n v;
        second = with_local m n v;
        comes = refl;
        comes_too = ap (λ y. done (value (bump_value op y (bumped op y), with_local m n (bumped op y)))) (h n (r n (inl refl)));
        apart = apart_write P l m h n v;
      }
  twins e rs ws xs (calm_bump p op t ns fs (calm_static q f)) z P r l m h = no_cons (loads f) (stores f ∷ []) z
  twins e rs ws xs (calm_bump p op t ns fs (calm_own q q' f i)) z P r l m h = no_cons (loads f) (stores f ∷ []) z
  twins e rs ws xs (calm_signed p op x rs1 ws1 xs1 c) z P r l m h =
      let a = twins x rs1 ws1 xs1 c z P r l m h in
      let k : Value K × List (Value K) → Step K (Value K × List (Value K)) = λ s. done (value (sign op s.0, s.1)) in
      record { result = sign op a.result; first = a.first; second = a.second; comes = ap (λ p. next p k) a.comes; comes_too = ap (λ p. next p k) a.comes_too; apart = a.apart }
  twins e rs ws xs (calm_binary p op x y rs1 ws1 rs2 ws2 xs1 xs2 c d u) z P r l m h =
      let a = twins x rs1 ws1 xs1 c (nil_first xs1 xs2 z) P (λ i o. r i (in_left i rs1 rs2 o)) l m h in
      let b = twins y rs2 ws2 xs2 d (nil_second xs1 xs2 z) (Or P ws1) (λ i o. inl (r i (in_right i rs1 rs2 o))) a.first a.second a.apart.agree in
      let w = operated op y u a.first b.first b.result b.comes a.result in
      let k : Value K × List (Value K) → Step K (Value K × List (Value K)) = λ q. next (exp R me y q.1) (λ s. done (with_locals s.1 (operate R.same_class op q.0 s.0))) in
      let j : Value K × List (Value K) → Step K (Value K × List (Value K)) = λ s. done (with_locals s.1 (operate R.same_class op a.result s.0)) in
      record {
        result = w.0;
        first = b.first;
        second = b.second;
        comes = ap (λ p. next p k) a.comes ∙ ap (λ p. next p j) b.comes ∙ ap (λ o. done (with_locals b.first o)) w.1;
        comes_too = ap (λ p. next p k) a.comes_too ∙ ap (λ p. next p j) b.comes_too ∙ ap (λ o. done (with_locals b.second o)) w.1;
        apart = apart_on P ws1 ws2 l a.first a.second b.first b.second a.apart b.apart;
      }
  twins e rs ws xs (calm_both p x y rs1 ws1 rs2 ws2 xs1 xs2 c d) z P r l m h =
      let a = twins x rs1 ws1 xs1 c (nil_first xs1 xs2 z) P (λ i o. r i (in_left i rs1 (rs2 ++ ws2) o)) l m h in
      let b = twins y rs2 ws2 xs2 d (nil_second xs1 xs2 z) (Or P ws1) (λ i o. inl (r i (in_right i rs1 (rs2 ++ ws2) (in_left i rs2 ws2 o)))) a.first a.second a.apart.agree in
      let k : Value K × List (Value K) → Step K (Value K × List (Value K)) = λ q. on_truth q.0 (exp R me y q.1) (done (value (truth false, q.1))) in
      ⊎_elim
      (λ (t : (p q : Step K (Value K × List (Value K))) → on_truth a.result p q ≡ p). record {
        result = b.result;
        first = b.first;
        second = b.second;
        comes = ap (λ p. next p k) a.comes ∙ t (exp R me y a.first) (done (value (truth false, a.first))) ∙ b.comes;
        comes_too = ap (λ p. next p k) a.comes_too ∙ t (exp R me y a.second) (done (value (truth false, a.second))) ∙ b.comes_too;
        apart = apart_on P ws1 ws2 l a.first a.second b.first b.second a.apart b.apart;
      })
      (λ (t : (p q : Step K (Value K × List (Value K))) → on_truth a.result p q ≡ q). record {
        result = truth false;
        first = a.first;
        second = a.second;
        comes = ap (λ p. next p k) a.comes ∙ t (exp R me y a.first) (done (value (truth false, a.first)));
        comes_too = ap (λ p. next p k) a.comes_too ∙ t (exp R me y a.second) (done (value (truth false, a.second)));
        apart = apart_left P ws1 ws2 l a.first a.second (λ i o. r i (in_right i rs1 (rs2 ++ ws2) (in_right i rs2 ws2 o))) a.apart;
      })
      (truth_cases a.result)
  twins e rs ws xs (calm_either p x y rs1 ws1 rs2 ws2 xs1 xs2 c d) z P r l m h =
      let a = twins x rs1 ws1 xs1 c (nil_first xs1 xs2 z) P (λ i o. r i (in_left i rs1 (rs2 ++ ws2) o)) l m h in
      let b = twins y rs2 ws2 xs2 d (nil_second xs1 xs2 z) (Or P ws1) (λ i o. inl (r i (in_right i rs1 (rs2 ++ ws2) (in_left i rs2 ws2 o)))) a.first a.second a.apart.agree in
      let k : Value K × List (Value K) → Step K (Value K × List (Value K)) = λ q. on_truth q.0 (done (value (truth true, q.1))) (exp R me y q.1) in
      ⊎_elim
      (λ (t : (p q : Step K (Value K × List (Value K))) → on_truth a.result p q ≡ p). record {
        result = truth true;
        first = a.first;
        second = a.second;
        comes = ap (λ p. next p k) a.comes ∙ t (done (value (truth true, a.first))) (exp R me y a.first);
        comes_too = ap (λ p. next p k) a.comes_too ∙ t (done (value (truth true, a.second))) (exp R me y a.second);
        apart = apart_left P ws1 ws2 l a.first a.second (λ i o. r i (in_right i rs1 (rs2 ++ ws2) (in_right i rs2 ws2 o))) a.apart;
      })
      (λ (t : (p q : Step K (Value K × List (Value K))) → on_truth a.result p q ≡ q). record {
        result = b.result;
        first = b.first;
        second = b.second;
        comes = ap (λ p. next p k) a.comes ∙ t (done (value (truth true, a.first))) (exp R me y a.first) ∙ b.comes;
        comes_too = ap (λ p. next p k) a.comes_too ∙ t (done (value (truth true, a.second))) (exp R me y a.second) ∙ b.comes_too;
        apart = apart_on P ws1 ws2 l a.first a.second b.first b.second a.apart b.apart;
      })
      (truth_cases a.result)

-- Silent code that writes no local is what `Held` asks for.
module _ {K : Keys} (R : Rows K) (own : Bool) (e : Exp K) (rs : List ℕ) (c : Calm own e rs [] []) where
  side_by_side : (me : Value K) (l m : List (Value K)) → ((i : ℕ) → In i rs → local_at m i ≡ local_at l i) → Twins R me e (λ i. In i rs) [] l m
  side_by_side me l m h = twins R me own e rs [] [] c refl (λ i. In i rs) (λ i o. o) l m h

  alone : (me : Value K) (l : List (Value K)) → Twins R me e (λ i. In i rs) [] l l
  alone me l = side_by_side me l l (λ i o. refl)

  result_alone : (me : Value K) (l m : List (Value K)) (h : (i : ℕ) → In i rs → local_at m i ≡ local_at l i) → (alone me m).result ≡ (alone me l).result
  result_alone me l m h =
      let a = side_by_side me l m h in
      let b = alone me m in
      let d = alone me l in
      ap (λ (x : Value K × List (Value K)). x.0) (one_value (b.result, b.first) (a.result, a.second) (exp R me e m) b.comes a.comes_too)
      ∙ ap (λ (x : Value K × List (Value K)). x.0) (one_value (a.result, a.first) (d.result, d.first) (exp R me e l) a.comes d.comes)

  pub silent_is : Silent R e rs
  silent_is = record {
    result = λ me l. (alone me l).result;
    comes = λ me l. let a = alone me l in a.comes ∙ ap (λ m. done (value (a.result, m))) (a.apart.as_it_was refl);
    same = result_alone;
  }

-- ---- pieces

pub record PieceTwins {K : Keys} (R : Rows K) (me : Value K) (bs : List (Piece K)) (P : ℕ → Type 0) (ws : List ℕ) (l m : List (Value K)) : Type 0 where
  pub first : List (Value K)
  pub second : List (Value K)
  pub comes : run_pieces R me bs l ≡ done (value first)
  pub comes_too : run_pieces R me bs m ≡ done (value second)
  pub apart : Apart P ws l first second

record OnePiece {K : Keys} (R : Rows K) (me : Value K) (b : Piece K) (P : ℕ → Type 0) (ws : List ℕ) (l m : List (Value K)) : Type 0 where
  first : List (Value K)
  second : List (Value K)
  comes : run_piece R me b l ≡ done (value first)
  comes_too : run_piece R me b m ≡ done (value second)
  apart : Apart P ws l first second

module _ {K : Keys} (R : Rows K) (me : Value K) (own : Bool) where
  -- a block's locals are unset in both
  apart_unset : (P : ℕ → Type 0) (ns : List ℕ) (l m : List (Value K)) → Agree P l m → Apart P ns l (unset ns l) (unset ns m)
  apart_unset P ns l m h = record {
    agree = λ i o. ⊎_elim
        (λ (w : In i ns). unset_null ns m i w ∙ sym (unset_null ns l i w))
        (λ (d : In i ns → ⊥). unset_other ns m i d ∙ ⊎_elim (λ (p : P i). h i p) (λ (w : In i ns). absurd (d w)) o ∙ sym (unset_other ns l i d))
        (is_in i ns);
    stays = λ i d. unset_other ns l i d;
    as_it_was = λ e. ap (λ k. unset k l) e;
  }

  one_piece : (b : Piece K) (rs ws : List ℕ) (xs : List (Access K)) → CalmPiece own b rs ws xs → xs ≡ [] → (P : ℕ → Type 0) → ((i : ℕ) → In i rs → P i) → (l m : List (Value K)) → Agree P l m → OnePiece R me b P ws l m
  one_piece b rs ws xs (calm_declared n e rs1 ws1 xs1 c) z P r l m h =
      let a = twins R me own e rs1 ws1 xs1 c z P r l m h in
      let k : Value K × List (Value K) → Step K (List (Value K)) = λ s. done (value (with_local s.1 n s.0)) in
      record {
        first = with_local a.first n a.result;
        second = with_local a.second n a.result;
        comes = ap (λ p. next p k) a.comes;
        comes_too = ap (λ p. next p k) a.comes_too;
        apart = apart_on P ws1 (n ∷ []) l a.first a.second (with_local a.first n a.result) (with_local a.second n a.result) a.apart (apart_write (Or P ws1) a.first a.second a.apart.agree n a.result);
      }
  one_piece b rs ws xs (calm_evaluated e rs1 ws1 xs1 c) z P r l m h =
      let a = twins R me own e rs1 ws1 xs1 c z P r l m h in
      let k : Value K × List (Value K) → Step K (List (Value K)) = λ s. done (value s.1) in
      record { first = a.first; second = a.second; comes = ap (λ p. next p k) a.comes; comes_too = ap (λ p. next p k) a.comes_too; apart = a.apart }
  one_piece b rs ws xs (calm_opened ns) z P r l m h = record { first = unset ns l; second = unset ns m; comes = refl; comes_too = refl; apart = apart_unset P ns l m h }
  one_piece b rs ws xs (calm_locked p e nn) z P r l m h = no_cons enters [] z

  pub piece_twins : (bs : List (Piece K)) (rs ws : List ℕ) (xs : List (Access K)) → CalmPieces own bs rs ws xs → xs ≡ [] → (P : ℕ → Type 0) → ((i : ℕ) → In i rs → P i) → (l m : List (Value K)) → Agree P l m → PieceTwins R me bs P ws l m
  piece_twins bs rs ws xs calm_none z P r l m h = record { first = l; second = m; comes = refl; comes_too = refl; apart = apart_none P l m h }
  piece_twins bs rs ws xs (calm_more b cs rs1 ws1 rs2 ws2 xs1 xs2 c d) z P r l m h =
      let a = one_piece b rs1 ws1 xs1 c (nil_first xs1 xs2 z) P (λ i o. r i (in_left i rs1 rs2 o)) l m h in
      let t = piece_twins cs rs2 ws2 xs2 d (nil_second xs1 xs2 z) (Or P ws1) (λ i o. inl (r i (in_right i rs1 rs2 o))) a.first a.second a.apart.agree in
      let k : List (Value K) → Step K (List (Value K)) = λ n. run_pieces R me cs n in
      record {
        first = t.first;
        second = t.second;
        comes = ap (λ p. next p k) a.comes ∙ t.comes;
        comes_too = ap (λ p. next p k) a.comes_too ∙ t.comes_too;
        apart = apart_on P ws1 ws2 l a.first a.second t.first t.second a.apart t.apart;
      }
