-- A walk over the rows of one class and one name that collects the numbers that pass.
use Rattle.std.proofs.Common.{◌≡◌, ℕ, zero, suc, ◌<◌, ◌≤◌, List, [], ◌∷◌, ◌++◌, Option, Some, None, Bool, true, false, cond, length, refl, sym, ap, subst, ◌∙◌, inl, inr, arith}
use Rattle.std.specs.Prelude.{slice_get, ◌⊎◌}
use Rattle.std.proofs.lemmas.Option.{slice_get_within, slice_get_past}
use Rattle.jr_index.specs.Linked.{NoneBetween, IsFirstFrom}
use Rattle.jr_table.specs.Calls.{passing}

module _ {X : Type 0} (named : X → Bool) (test : ℕ → Bool) (xs : List X) where
  -- the next element of the name, and the numbers before it that pass
  pub record Collected (numbers : List ℕ) (o : Option ℕ) : Type 0 where
    pub from : ℕ
    pub next : IsFirstFrom named xs from o
    pub within : from ≤ length xs
    pub is : numbers ≡ passing test from

  pub collect_starts : (o : Option ℕ) (numbers : List ℕ) → numbers ≡ [] → IsFirstFrom named xs 0 o → Collected numbers o
  collect_starts o numbers e first = record { from = 0; next = first; within = omega arith; is = e }

  module _ (implied : (j : ℕ) (x : X) → slice_get xs j ≡ Some x → test j ≡ true → named x ≡ true) where
    not_passing : (j : ℕ) → j < length xs → ((x : X) → slice_get xs j ≡ Some x → named x ≡ false) → test j ≡ false
    not_passing j lt other = by (slice_get xs j) refl (test j) refl
      where
        by : (o : Option X) → slice_get xs j ≡ o → (b : Bool) → test j ≡ b → b ≡ false
        by o e false t = refl
        by None e true t = absurd (missing e)
          where
            missing : slice_get xs j ≡ None → ⊥
            missing e = gone xs j lt e
              where
                gone : (ys : List X) (k : ℕ) → k < length ys → slice_get ys k ≡ None → ⊥
                gone [] k lt e = omega (arith, lt)
                gone (y ∷ ys) zero lt e = absurd cc
                gone (y ∷ ys) (suc k) lt e = gone ys k (omega (arith, lt)) e
        by (Some x) e true t = let a = implied j x e t in let b = other x e in absurd cc

    split : (i j : ℕ) → i ≤ suc j → (i ≤ j) ⊎ (i ≡ suc j)
    split i j h = grind arith

    nothing : (ys : List ℕ) → ys ++ [] ≡ ys
    nothing [] = refl
    nothing (y ∷ ys) = ap (λ zs. y ∷ zs) (nothing ys)

    -- nothing passes where nothing goes by the name
    quiet : (i j : ℕ) → i ≤ j → j ≤ length xs → NoneBetween named xs i j → passing test j ≡ passing test i
    quiet i zero le most none = let e : 0 ≡ i = omega (arith, le) in ap (passing test) e
    quiet i (suc j) le most none = by (split i j le) (λ l. quiet i j l (omega (arith, most)) (λ k x a b. none k x a (omega (arith, b))))
      where
        by : ((i ≤ j) ⊎ (i ≡ suc j)) → (i ≤ j → passing test j ≡ passing test i) → passing test (suc j) ≡ passing test i
        by (inr e) more = ap (passing test) (sym e)
        by (inl l) more =
            ap (λ b. passing test j ++ cond b (j ∷ []) []) (not_passing j (omega (arith, most)) (λ x at. none j x l (omega arith) at))
            ∙ nothing (passing test j) ∙ more l

    pub collect_goes_on : (j : ℕ) (o : Option ℕ) (numbers numbers' : List ℕ) → Collected numbers (Some j) → numbers' ≡ numbers ++ cond (test j) (j ∷ []) [] → IsFirstFrom named xs (suc j) o → Collected numbers' o
    collect_goes_on j o numbers numbers' w new next =
        let lt = slice_get_within xs j w.next.1.element w.next.1.stands in
        record {
          from = suc j;
          next = next;
          within = lt;
          is = new ∙ ap (λ ns. ns ++ cond (test j) (j ∷ []) []) (w.is ∙ sym (quiet w.from j w.next.0 (omega (arith, lt)) w.next.2));
        }

    pub collect_ends : (numbers : List ℕ) → Collected numbers None → numbers ≡ passing test (length xs)
    collect_ends numbers w = w.is ∙ sym (quiet w.from (length xs) w.within (omega arith) w.next)
