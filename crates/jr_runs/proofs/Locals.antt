-- Locals that are read, written and renumbered.
use Rattle.std.proofs.Common.{◌≡◌, ◌<◌, ◌≤◌, ℕ, zero, suc, Bool, true, false, ◌||◌, IsTrue, nat_eq, List, [], ◌∷◌, map, refl, sym, ap, ◌∙◌, subst, inl, inr, ⊎_elim, arith}
use Rattle.std.proofs.lemmas.Bool.{cases_eq, cases_lt, eqb-true}
use Rattle.jr_runs.specs.Keys.{Keys}
use Rattle.jr_runs.specs.Values.{Value, null}
use Rattle.jr_runs.specs.Evaluation.{local_at, with_local, first_locals}
use Rattle.jr_runs.specs.KeyMaps.{KeyMap, value_image}
use Rattle.jr_runs.specs.Sets.{NumberSet, everything, with_one, with_all, Within}
use Rattle.jr_runs.specs.Standing.{upto, Standing, Stands, In, Frame, no_frame, whole, Shifted}

pub below_upto : (n i : ℕ) → In i (upto n) → i < n
below_upto zero i h = absurd h
below_upto (suc n) i h = ⊎_elim (λ (e : i ≡ n). omega (arith, e)) (λ g. let k : i < n = below_upto n i g in omega (arith, k)) h

-- another number is in the set already
pub in_one : (A : NumberSet) (n i : ℕ) → (i ≡ n → ⊥) → IsTrue (with_one A n i) → IsTrue (A i)
in_one A n i d h = from (nat_eq n i) (A i) (λ e. d (sym (eqb-true n i e))) h
  where
    from : (b c : Bool) → (b ≡ true → ⊥) → IsTrue (b || c) → IsTrue c
    from true c d h = absurd (d refl)
    from false c d h = h

pub in_all : (A : NumberSet) (ns : List ℕ) (i : ℕ) → (In i ns → ⊥) → IsTrue (with_all A ns i) → IsTrue (A i)
in_all A [] i d a = a
in_all A (n ∷ ns) i d a = in_one A n i (λ e. d (inl e)) (in_all (with_one A n) ns i (λ g. d (inr g)) a)

-- a set is within itself with more
pub within_itself : (A : NumberSet) → Within A A
within_itself A i a = a

pub within_one : (A : NumberSet) (n : ℕ) → Within A (with_one A n)
within_one A n i a = more (nat_eq n i) (A i) a
  where
    more : (b c : Bool) → IsTrue c → IsTrue (b || c)
    more true c h = refl
    more false c h = h

pub within_all : (A : NumberSet) (ns : List ℕ) → Within A (with_all A ns)
within_all A [] i a = a
within_all A (n ∷ ns) i a = within_all (with_one A n) ns i (within_one A n i a)

module _ {K : Keys} where
  pub written : (l : List (Value K)) (n : ℕ) (v : Value K) → local_at (with_local l n v) n ≡ v
  written [] zero v = refl
  written [] (suc n) v = written [] n v
  written (u ∷ l) zero v = refl
  written (u ∷ l) (suc n) v = written l n v

  pub not_written : (l : List (Value K)) (n m : ℕ) (v : Value K) → (m ≡ n → ⊥) → local_at (with_local l n v) m ≡ local_at l m
  not_written [] zero zero v h = absurd (h refl)
  not_written [] zero (suc m) v h = refl
  not_written [] (suc n) zero v h = refl
  not_written [] (suc n) (suc m) v h = not_written [] n m v (λ e. h (ap suc e))
  not_written (u ∷ l) zero zero v h = absurd (h refl)
  not_written (u ∷ l) zero (suc m) v h = refl
  not_written (u ∷ l) (suc n) zero v h = refl
  not_written (u ∷ l) (suc n) (suc m) v h = not_written l n m v (λ e. h (ap suc e))

  pub shifted_less : (r : KeyMap K) (s : Standing K) (frame : Frame K) (A B : NumberSet) → Within B A → (l l' : List (Value K)) → Shifted r s frame A l l' → Shifted r s frame B l l'
  shifted_less r s frame A B w l l' h = record { moved = λ i b a. h.moved i b (w i a); others = h.others; known = h.known }

  pub shifted_write : (r : KeyMap K) (s : Standing K) → Stands s → (frame : Frame K) (A : NumberSet) (l l' : List (Value K)) (n : ℕ) (v v' : Value K) → In n s.code.mine → (In n s.code.known → ⊥) → v' ≡ value_image r v
      → Shifted r s frame A l l' → Shifted r s frame (with_one A n) (with_local l n v) (with_local l' (s.code.at n) v')
  shifted_write r s stands frame A l l' n v v' below unknown e h = record {
    moved = λ i g a. ⊎_elim
        (λ (d : i ≡ n). rw (d, written l' (s.code.at n) v', written l n v) e)
        (λ (d : i ≡ n → ⊥). not_written l' (s.code.at n) (s.code.at i) v' (λ q. d (stands.injective i n g below q)) ∙ h.moved i g (in_one A n i d a) ∙ ap (value_image r) (sym (not_written l n i v d)))
        (cases_eq i n);
    others = λ j g. not_written l' (s.code.at n) j v' (λ q. stands.apart n below (subst (λ k. In k s.others) q g)) ∙ h.others j g;
    known = λ i g. not_written l n i v (λ e. unknown (subst (λ k. In k s.code.known) e g)) ∙ h.known i g;
  }

  pub local_of_images : (r : KeyMap K) (l : List (Value K)) (i : ℕ) → local_at (map (value_image r) l) i ≡ value_image r (local_at l i)
  local_of_images r [] i = refl
  local_of_images r (v ∷ l) zero = refl
  local_of_images r (v ∷ l) (suc i) = local_of_images r l i

  pub first_in : (n : ℕ) (l : List (Value K)) (i : ℕ) → i < n → local_at (first_locals n l) i ≡ local_at l i
  first_in zero l i h = absurd (omega (arith, h))
  first_in (suc n) [] zero h = refl
  first_in (suc n) [] (suc i) h = first_in n [] i (omega (arith, h))
  first_in (suc n) (v ∷ l) zero h = refl
  first_in (suc n) (v ∷ l) (suc i) h = first_in n l i (omega (arith, h))

  first_out : (n : ℕ) (l : List (Value K)) (i : ℕ) → n ≤ i → local_at (first_locals n l) i ≡ null
  first_out zero l i h = refl
  first_out (suc n) [] zero h = absurd (omega (arith, h))
  first_out (suc n) [] (suc i) h = first_out n [] i (omega (arith, h))
  first_out (suc n) (v ∷ l) zero h = absurd (omega (arith, h))
  first_out (suc n) (v ∷ l) (suc i) h = first_out n l i (omega (arith, h))

  -- parameters start with the images of the arguments
  pub shifted_start : (r : KeyMap K) (size : ℕ) (f : ℕ → ℕ) (n : ℕ) → ((i j : ℕ) → i < size → j < size → f i ≡ f j → i ≡ j) → n ≤ size → ((i : ℕ) → i < n → f i ≡ i) → (l : List (Value K))
      → Shifted r (whole size f) no_frame everything (first_locals n l) (first_locals n (map (value_image r) l))
  shifted_start r size f n inj fewer stay l = record {
    moved = λ i below a. ⊎_elim
        (λ (h : i < n). rw (stay i h, first_in n l i h) (first_in n (map (value_image r) l) i h ∙ local_of_images r l i))
        (λ (h : n ≤ i). rw (first_out n l i h) (first_out n (map (value_image r) l) (f i) (beyond i (below_upto size i below) h)))
        (cases_lt i n);
    others = λ j g. absurd g;
    known = λ i g. absurd g;
  }
    where
      beyond : (i : ℕ) → i < size → n ≤ i → n ≤ f i
      beyond i below h = ⊎_elim (λ (g : f i < n). let e : f i ≡ i = inj (f i) i (omega (arith, g, fewer)) below (stay (f i) g) in omega (arith, g, h, e)) (λ (g : n ≤ f i). g) (cases_lt (f i) n)
