-- Locals that have values of their types.
use Rattle.std.proofs.Common.{◌≡◌, ◌⊎◌, ℕ, suc, cond, List, [], ◌∷◌, ◌++◌, length, Some, None, IsTrue, refl, sym, ap, ◌∙◌, subst, ⊎_elim, inl, inr, append_assoc}
use Rattle.std.proofs.lemmas.Bool.Decides.{eqb_tells}
use Rattle.jr_runs.specs.Keys.{Keys}
use Rattle.jr_runs.specs.Values.{Value, null, Ty}
use Rattle.jr_runs.specs.Rows.{Rows}
use Rattle.jr_runs.specs.Fitting.{fits}
use Rattle.jr_runs.specs.Evaluation.{local_at, with_local, unset, first_locals}
use Rattle.jr_runs.specs.Starting.{ArgsFit}
use Rattle.jr_runs.specs.Typing.{type_of, AreNew, param_context}
use Rattle.jr_runs.specs.TypedRuns.{LocalsFit}
use Rattle.jr_runs.proofs.Locals.{written, not_written}

none_is_not_some : {A : Type 0} (x : A) → None ≡ Some x → ⊥
none_is_not_some x e = cc

same_some : {A : Type 0} (x y : A) → Some x ≡ Some y → x ≡ y
same_some x y e = cc

same_number : (n m : ℕ) → (n ≡ m) ⊎ (n ≡ m → ⊥)
same_number n m = ⊎_elim (λ h. inl h.1) (λ h. inr h.1) (eqb_tells n m)

module _ {K : Keys} where
  -- the type of a local that was declared last
  type_of_last : (G : List (ℕ × Ty K)) (n m : ℕ) (U : Ty K) → n ≡ m → type_of ((n, U) ∷ G) m ≡ Some U
  type_of_last G n m U e = ⊎_elim (λ h. ap (λ b. cond b (Some U) (type_of G m)) h.0) (λ h. absurd (h.1 e)) (eqb_tells n m)

  type_of_other : (G : List (ℕ × Ty K)) (n m : ℕ) (U : Ty K) → (n ≡ m → ⊥) → type_of ((n, U) ∷ G) m ≡ type_of G m
  type_of_other G n m U e = ⊎_elim (λ h. absurd (e h.1)) (λ h. ap (λ b. cond b (Some U) (type_of G m)) h.0) (eqb_tells n m)

module _ {K : Keys} (R : Rows K) where
  pub locals_set : (G : List (ℕ × Ty K)) (l : List (Value K)) (n : ℕ) (U : Ty K) (v : Value K) → type_of G n ≡ Some U → IsTrue (fits R U v) → LocalsFit R G l → LocalsFit R G (with_local l n v)
  locals_set G l n U v e f h m T i = ⊎_elim
      (λ (d : n ≡ m).
      let t : U ≡ T = same_some U T (sym e ∙ ap (type_of G) d ∙ i) in
      let w : local_at (with_local l n v) m ≡ v = ap (local_at (with_local l n v)) (sym d) ∙ written l n v in
      rw w (subst (λ S. IsTrue (fits R S v)) t f))
      (λ (d : n ≡ m → ⊥). rw (not_written l n m v (λ q. d (sym q))) (h m T i))
      (same_number n m)

  pub locals_kept : (G : List (ℕ × Ty K)) (l : List (Value K)) (n : ℕ) (v : Value K) → type_of G n ≡ None → LocalsFit R G l → LocalsFit R G (with_local l n v)
  locals_kept G l n v e h m T i = ⊎_elim
      (λ (d : n ≡ m). absurd (none_is_not_some T (sym e ∙ ap (type_of G) d ∙ i)))
      (λ (d : n ≡ m → ⊥). rw (not_written l n m v (λ q. d (sym q))) (h m T i))
      (same_number n m)

  pub locals_declared : (G : List (ℕ × Ty K)) (l : List (Value K)) (n : ℕ) (U : Ty K) (v : Value K) → type_of G n ≡ None → IsTrue (fits R U v) → LocalsFit R G l → LocalsFit R ((n, U) ∷ G) (with_local l n v)
  locals_declared G l n U v e f h m T i = ⊎_elim
      (λ (d : n ≡ m).
      let t : U ≡ T = same_some U T (sym (type_of_last G n m U d) ∙ i) in
      let w : local_at (with_local l n v) m ≡ v = ap (local_at (with_local l n v)) (sym d) ∙ written l n v in
      rw w (subst (λ S. IsTrue (fits R S v)) t f))
      (λ (d : n ≡ m → ⊥). rw (not_written l n m v (λ q. d (sym q))) (h m T (sym (type_of_other G n m U d) ∙ i)))
      (same_number n m)

  pub locals_unset : (G : List (ℕ × Ty K)) (ns : List ℕ) (l : List (Value K)) → AreNew G ns → LocalsFit R G l → LocalsFit R G (unset ns l)
  locals_unset G [] l e h = h
  locals_unset G (n ∷ ns) l e h = locals_unset G ns (with_local l n null) e.1 (locals_kept G l n null e.0 h)

  -- behind a declaration's scope
  pub locals_less : (G : List (ℕ × Ty K)) (l : List (Value K)) (n : ℕ) (U : Ty K) → type_of G n ≡ None → LocalsFit R ((n, U) ∷ G) l → LocalsFit R G l
  locals_less G l n U e h m T i = ⊎_elim
      (λ (d : n ≡ m). absurd (none_is_not_some T (sym e ∙ ap (type_of G) d ∙ i)))
      (λ (d : n ≡ m → ⊥). h m T (type_of_other G n m U d ∙ i))
      (same_number n m)

  -- arguments are the first locals
  pub all_first : (Ts : List (Ty K)) (vs : List (Value K)) → ArgsFit R Ts vs → first_locals (length Ts) vs ≡ vs
  all_first [] [] h = refl
  all_first [] (v ∷ vs) h = absurd h
  all_first (T ∷ Ts) [] h = absurd h
  all_first (T ∷ Ts) (v ∷ vs) h = ap (λ l. v ∷ l) (all_first Ts vs h.1)

  local_behind : (front : List (Value K)) (v : Value K) (vs : List (Value K)) → local_at (front ++ (v ∷ vs)) (length front) ≡ v
  local_behind [] v vs = refl
  local_behind (u ∷ front) v vs = local_behind front v vs

  length_one_more : (front : List (Value K)) (v : Value K) → length (front ++ (v ∷ [])) ≡ suc (length front)
  length_one_more [] v = refl
  length_one_more (u ∷ front) v = ap suc (length_one_more front v)

  params_fit : (Ts : List (Ty K)) (front vs : List (Value K)) → ArgsFit R Ts vs → LocalsFit R (param_context (length front) Ts) (front ++ vs)
  params_fit [] front vs h m T i = absurd (none_is_not_some T i)
  params_fit (S ∷ Ts) front [] h m T i = absurd h
  params_fit (S ∷ Ts) front (v ∷ vs) h m T i = ⊎_elim
      (λ (d : length front ≡ m).
      let t : S ≡ T = same_some S T (sym (type_of_last (param_context (suc (length front)) Ts) (length front) m S d) ∙ i) in
      let w : local_at (front ++ (v ∷ vs)) m ≡ v = ap (local_at (front ++ (v ∷ vs))) (sym d) ∙ local_behind front v vs in
      rw w (subst (λ U. IsTrue (fits R U v)) t h.0))
      (λ (d : length front ≡ m → ⊥).
      let e : type_of (param_context (length (front ++ (v ∷ []))) Ts) m ≡ Some T = ap (λ n. type_of (param_context n Ts) m) (length_one_more front v) ∙ sym (type_of_other (param_context (suc (length front)) Ts) (length front) m S d) ∙ i in
      subst (λ l. IsTrue (fits R T (local_at l m))) (append_assoc front (v ∷ []) vs) (params_fit Ts (front ++ (v ∷ [])) vs h.1 m T e))
      (same_number (length front) m)

  pub locals_start : (Ts : List (Ty K)) (vs : List (Value K)) → ArgsFit R Ts vs → LocalsFit R (param_context 0 Ts) (first_locals (length Ts) vs)
  locals_start Ts vs h = subst (LocalsFit R (param_context 0 Ts)) (sym (all_first Ts vs h)) (params_fit Ts [] vs h)
