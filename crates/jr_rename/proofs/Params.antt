-- Parameters: which are in scope behind them, which has the name, and which meets the local.
use Rattle.std.proofs.Common.{◌≡◌, ℕ, zero, suc, ◌+◌, ◌<◌, ◌≤◌, List, [], ◌∷◌, ◌++◌, Some, Bool, true, not, map, length, refl, sym, ap, ◌∙◌, inl, inr, arith, append_assoc, append-nil}
use Rattle.std.specs.Prelude.{◌⊎◌, ◌==◌, ◌&&◌, ◌||◌, ◌≢◌, slice_get, nat_lt, if◌then◌else◌}
use Rattle.std.proofs.lemmas.Bool.{lt-ltb, le-ltb}
use Rattle.std.proofs.lemmas.Option.{none-some, same_Some}
use Rattle.jr_ast.specs.MemberTree as syntax
use Rattle.jr_table.specs.Keys.{Ty}
use Rattle.jr_table.specs.Decls.{MemberKey, LocalKey}
use Rattle.jr_table.specs.Context.{Local, parameters}
use Rattle.jr_table.specs.HeadRules.{types_of, with_parameters}
use Rattle.jr_table.specs.SameKeys.{same_name}
use Rattle.jr_rename.specs.Walks.{Held, Walk, start, is_met, is_declared, met_param, declare_param, in_params}
use Rattle.jr_rename.specs.LocalAnswers.{asked_local}
use Rattle.jr_rename.proofs.Least.{numbered, LeastOf, least_to, least_both, least_one, least_left}
use Rattle.jr_rename.proofs.Contexts.{Beside, held_local, both_true, true_both, same_to, to_same, not_number, number_not, declared_to, to_declared}
use Rattle.jr_rename.proofs.NamedLaws.{either, first_true, second_true}

not_typed : (types n : ℕ) (xs ys : List Held) → types ≤ n → (if nat_lt n types then xs else ys) ≡ ys
not_typed types n xs ys past = ap (λ (b : Bool). if b then xs else ys) (le-ltb n types past)

typed : (types n : ℕ) (xs ys : List Held) → n < types → (if nat_lt n types then xs else ys) ≡ xs
typed types n xs ys lt = ap (λ (b : Bool). if b then xs else ys) (lt-ltb n types lt)

abbrev OneMeets : (k : LocalKey) → (new : List ℕ) → (is_param : Bool) → (n : ℕ) → (name : List ℕ) → LocalKey → Type 0
OneMeets k new is_param n name j = (k ≢ j) × (is_param ≡ true) × (j.member ≡ k.member) × (j.number ≡ n) × (name ≡ new)

one_param : (k : LocalKey) (new : List ℕ) (is_param : Bool) (n : ℕ) (name : List ℕ) → LeastOf k.member (OneMeets k new is_param n name) (met_param (asked_local k new) is_param n name)
one_param k new is_param n name = least_one k.member (OneMeets k new is_param n name) (is_param && is_met (asked_local k new) (record { number = n; name = name })) n to back
  where
    to : (is_param && is_met (asked_local k new) (record { number = n; name = name })) ≡ true → OneMeets k new is_param n name (numbered k.member n)
    to e =
        let r = both_true is_param (is_met (asked_local k new) (record { number = n; name = name })) e in
        let q = both_true (same_name name new) (not (n == k.number)) r.1 in
        (λ is. not_number n k.number q.1 (ap (λ (x : LocalKey). x.number) (sym is)), r.0, refl, refl, same_to name new q.0)

    back : (j : LocalKey) → OneMeets k new is_param n name j → ((is_param && is_met (asked_local k new) (record { number = n; name = name })) ≡ true) × (j.number ≡ n)
    back j (other, param, of, is, named) = (
      true_both is_param (is_met (asked_local k new) (record { number = n; name = name })) param
          (true_both (same_name name new) (not (n == k.number)) (to_same name new named)
          (number_not n k.number (λ e. other (λ i. record { member = sym of i; number = (sym e ∙ sym is) i })))),
      is,
    )

module _ {A : Type 0} (k : LocalKey) (new : List ℕ) (is_param : Bool) (types : ℕ) where
  pub params_next : (w : Walk) (ps : List (syntax.Param A)) → (in_params (asked_local k new) is_param types w ps).next ≡ w.next + length ps
  params_next w [] = omega arith
  params_next w (p ∷ ps) = let e = params_next (declare_param (asked_local k new) is_param types w p.name.text) ps in omega (arith, e)

  -- ---- which are in scope

  none_typed : (w : Walk) (ps : List (syntax.Param A)) → types ≤ w.next → (in_params (asked_local k new) is_param types w ps).scope ≡ w.scope
  none_typed w [] past = refl
  none_typed w (p ∷ ps) past = none_typed (declare_param (asked_local k new) is_param types w p.name.text) ps (omega (arith, past)) ∙ not_typed types w.next (w.scope ++ record { number = w.next; name = p.name.text } ∷ []) w.scope past

  pub params_scope : (m : MemberKey) (w : Walk) (ps : List (syntax.Param A)) (ts : List Ty) → types ≡ w.next + length ts
      → (in_params (asked_local k new) is_param types w ps).scope ≡ w.scope ++ map held_local (parameters m w.next ps ts)
  params_scope m w [] ts e = sym (append-nil w.scope)
  params_scope m w (p ∷ ps) [] e = none_typed w (p ∷ ps) (omega (arith, e)) ∙ sym (append-nil w.scope)
  params_scope m w (p ∷ ps) (t ∷ ts) e =
      let h : Held = record { number = w.next; name = p.name.text } in
      let here : (declare_param (asked_local k new) is_param types w p.name.text).scope ≡ w.scope ++ h ∷ [] = typed types w.next (w.scope ++ h ∷ []) w.scope (omega (arith, e)) in
      let rest = params_scope m (declare_param (asked_local k new) is_param types w p.name.text) ps ts (omega (arith, e)) in
      rest ∙ ap (λ xs. xs ++ map held_local (parameters m (suc w.next) ps ts)) here ∙ append_assoc w.scope (h ∷ []) (map held_local (parameters m (suc w.next) ps ts))

  -- ---- which has the name

  abbrev pub ParamNames : (n : ℕ) → List (syntax.Param A) → Type 0
  ParamNames n ps = (x : ℕ) × (p : syntax.Param A) × (slice_get ps x ≡ Some p) × (k.number ≡ n + x) × (p.name.text ≡ new)

  pub params_stay : (w : Walk) (ps : List (syntax.Param A)) → w.is_named ≡ true → (in_params (asked_local k new) is_param types w ps).is_named ≡ true
  params_stay w [] h = h
  params_stay w (p ∷ ps) h = params_stay (declare_param (asked_local k new) is_param types w p.name.text) ps (first_true w.is_named (is_declared (asked_local k new) w.next p.name.text) h)

  pub params_named : (w : Walk) (ps : List (syntax.Param A)) → ParamNames w.next ps → (in_params (asked_local k new) is_param types w ps).is_named ≡ true
  params_named w [] (x, p, e, is, named) = absurd (none-some p e)
  params_named w (q ∷ ps) (zero, p, e, is, named) =
      let same = same_Some q p e in
      params_stay (declare_param (asked_local k new) is_param types w q.name.text) ps
      (second_true w.is_named (is_declared (asked_local k new) w.next q.name.text) (to_declared_at (sym is) (ap (λ (z : syntax.Param A). z.name.text) same ∙ named)))
    where
      to_declared_at : w.next + 0 ≡ k.number → q.name.text ≡ new → is_declared (asked_local k new) w.next q.name.text ≡ true
      to_declared_at is e = let n : w.next ≡ k.number = omega (arith, is) in to_declared (λ (m : A) (b : ℕ). b) k new w.next q.name.text n e
  params_named w (q ∷ ps) (suc x, p, e, is, named) = params_named (declare_param (asked_local k new) is_param types w q.name.text) ps (x, p, e, omega (arith, is), named)

  pub params_names : (w : Walk) (ps : List (syntax.Param A)) → (in_params (asked_local k new) is_param types w ps).is_named ≡ true → (w.is_named ≡ true) ⊎ ParamNames w.next ps
  params_names w [] h = inl h
  params_names w (p ∷ ps) h = by (params_names (declare_param (asked_local k new) is_param types w p.name.text) ps h)
    where
      by : ((w.is_named || is_declared (asked_local k new) w.next p.name.text) ≡ true) ⊎ ParamNames (suc w.next) ps → (w.is_named ≡ true) ⊎ ParamNames w.next (p ∷ ps)
      by (inl g) = elim (either w.is_named (is_declared (asked_local k new) w.next p.name.text) g) [
        | inl y ↦ inl y
        | inr y ↦ (let r = declared_to (λ (m : A) (b : ℕ). b) k new w.next p.name.text y in let n = r.0 in inr (0, p, refl, omega (arith, n), r.1))
      ]
      by (inr (x, q, e, is, named)) = inr (suc x, q, e, omega (arith, is), named)

  -- ---- which meets the local

  abbrev pub ParamMeets : (n : ℕ) → List (syntax.Param A) → LocalKey → Type 0
  ParamMeets n ps j = (k ≢ j) × (is_param ≡ true) × (j.member ≡ k.member)
      × ((x : ℕ) × (p : syntax.Param A) × (slice_get ps x ≡ Some p) × (j.number ≡ n + x) × (p.name.text ≡ new))

  pub params_least : (P : LocalKey → Type 0) (w : Walk) (ps : List (syntax.Param A)) → LeastOf k.member P w.least
      → LeastOf k.member (λ j. P j ⊎ ParamMeets w.next ps j) (in_params (asked_local k new) is_param types w ps).least
  params_least P w [] h = least_left k.member P (ParamMeets w.next []) w.least (λ j q. none-some q.3.1 q.3.2) h
  params_least P w (p ∷ ps) h =
      let One = OneMeets k new is_param w.next p.name.text in
      let here = least_both k.member P One w.least (met_param (asked_local k new) is_param w.next p.name.text) h (one_param k new is_param w.next p.name.text) in
      let rest = params_least (λ j. P j ⊎ One j) (declare_param (asked_local k new) is_param types w p.name.text) ps here in
      least_to k.member (λ j. (P j ⊎ One j) ⊎ ParamMeets (suc w.next) ps j) (λ j. P j ⊎ ParamMeets w.next (p ∷ ps) j) (in_params (asked_local k new) is_param types (declare_param (asked_local k new) is_param types w p.name.text) ps).least to back rest
    where
      to : (j : LocalKey) → (P j ⊎ OneMeets k new is_param w.next p.name.text j) ⊎ ParamMeets (suc w.next) ps j → P j ⊎ ParamMeets w.next (p ∷ ps) j
      to j (inl (inl x)) = inl x
      to j (inl (inr (other, param, of, is, named))) = inr (other, param, of, (0, p, refl, omega (arith, is), named))
      to j (inr (other, param, of, (x, q, e, is, named))) = inr (other, param, of, (suc x, q, e, omega (arith, is), named))

      back : (j : LocalKey) → P j ⊎ ParamMeets w.next (p ∷ ps) j → (P j ⊎ OneMeets k new is_param w.next p.name.text j) ⊎ ParamMeets (suc w.next) ps j
      back j (inl x) = inl (inl x)
      back j (inr (other, param, of, (zero, q, e, is, named))) = inl (inr (other, param, of, omega (arith, is), ap (λ (z : syntax.Param A). z.name.text) (same_Some p q e) ∙ named))
      back j (inr (other, param, of, (suc x, q, e, is, named))) = inr (other, param, of, (x, q, e, omega (arith, is), named))

-- ---- the context behind the parameters

from_zero : (n : ℕ) → n ≡ 0 + n
from_zero n = omega arith

pub param_at : {A : Type 0} (m : MemberKey) (n : ℕ) (ps : List (syntax.Param A)) (ts : List Ty) (i : ℕ) (l : Local) → slice_get (parameters m n ps ts) i ≡ Some l
    → (p : syntax.Param A) × (slice_get ps i ≡ Some p) × (l.key ≡ numbered m (n + i)) × (l.name ≡ p.name.text)
param_at m n [] ts i l e = absurd (none-some l e)
param_at m n (p ∷ ps) [] i l e = absurd (none-some l e)
param_at m n (p ∷ ps) (t ∷ ts) zero l e =
    let same = same_Some _ l e in
    let number : n ≡ n + 0 = omega arith in
    (p, refl, sym (ap (λ (x : Local). x.key) same) ∙ ap (numbered m) number, sym (ap (λ (x : Local). x.name) same))
param_at m n (p ∷ ps) (t ∷ ts) (suc i) l e =
    let r = param_at m (suc n) ps ts i l e in
    let number : suc n + i ≡ n + suc i = omega arith in
    (r.0, r.1, r.2 ∙ ap (numbered m) number, r.3)

pub params_beside : {A : Type 0} (k : LocalKey) (new : List ℕ) (is_param is_static : Bool) (ps : List (syntax.Param A))
    → Beside k.member (with_parameters k.member is_static ps) (in_params (asked_local k new) is_param (length (types_of k.member)) start ps).scope
params_beside k new is_param is_static ps = record {
  member = refl;
  locals = sym (params_scope k new is_param (length (types_of k.member)) k.member start ps (types_of k.member) (from_zero (length (types_of k.member))));
  each = λ i l e. let r = param_at k.member 0 ps (types_of k.member) i l e in ap (λ (x : LocalKey). x.member) r.2;
}
