-- One number more in front of those that are linked.
use Rattle.std.proofs.Common.{◌≡◌, ◌≢◌, ℕ, suc, ◌≤◌, List, Option, Some, None, Bool, true, false, cond, length, refl, sym, ap, subst, ◌∙◌, inl, inr, arith}
use Rattle.std.specs.Prelude.{◌⊎◌, ◌&&◌, ◌==◌}
use Rattle.std.specs.List.{slice_get}
use Rattle.std.specs.Str.{bytes_eq}
use Rattle.jr_index.specs.declared.linked.Linked.{Linked}
use Rattle.jr_index.specs.NameTable.{owners}
use Rattle.jr_index.specs.Linked.{is_owner, is_at, NoneBetween, IsFirstFrom, first_of, next_of, ends, AreLinkedFrom}

least : (i k : ℕ) → i ≤ k → (i ≡ k) ⊎ (suc i ≤ k)
least i k h = grind arith

module _ {X : Type 0} (test : X → Bool) (xs : List X) where
  pub found_here : (i : ℕ) (x : X) → slice_get xs i ≡ Some x → test x ≡ true → IsFirstFrom test xs i (Some i)
  found_here i x at h = (omega arith, record { element = x; stands = at; passes = h }, λ k y le lt here. absurd (omega (arith, le, lt)))

  one_before : (i j : ℕ) (x : X) → slice_get xs i ≡ Some x → test x ≡ false → NoneBetween test xs (suc i) j → NoneBetween test xs i j
  one_before i j x at h none k y le lt here = by (least i k le)
    where
      by : ((i ≡ k) ⊎ (suc i ≤ k)) → test y ≡ false
      by (inl e) = let s : Some x ≡ Some y = sym at ∙ ap (slice_get xs) e ∙ here in let same : x ≡ y = cc in ap test (sym same) ∙ h
      by (inr l) = none k y l lt here

  pub passed_over : (i : ℕ) (x : X) → slice_get xs i ≡ Some x → test x ≡ false → (o : Option ℕ) → IsFirstFrom test xs (suc i) o → IsFirstFrom test xs i o
  passed_over i x at h None none = one_before i (length xs) x at h none
  passed_over i x at h (Some j) first = (let le = first.0 in omega (arith, le), first.1, one_before i j x at h first.2)

module _ (ps : List (Option ℕ × List ℕ)) (most number : ℕ) (p : Option ℕ × List ℕ) (at : slice_get ps number ≡ Some p) where
  pub unowned : (x : Linked) → p.0 ≡ None → AreLinkedFrom ps most (suc number) x → AreLinkedFrom ps most number x
  unowned x none old = record {
    firsts = λ c q. passed_over (is_at c q) ps number p at (ap (λ o. is_owner o c && bytes_eq p.1 q) none) (first_of x c q) (old.firsts c q);
    nexts = nexts;
    owned = old.owned;
    all = old.all;
  }
    where
      nexts : (j c : ℕ) (o : Option ℕ × List ℕ) → number ≤ j → slice_get ps j ≡ Some o → o.0 ≡ Some c → IsFirstFrom (is_at c o.1) ps (suc j) (next_of x j)
      nexts j c o le here is = by (least number j le)
        where
          by : ((number ≡ j) ⊎ (suc number ≤ j)) → IsFirstFrom (is_at c o.1) ps (suc j) (next_of x j)
          by (inl e) = let s : Some p ≡ Some o = sym at ∙ ap (slice_get ps) e ∙ here in let same : p ≡ o = cc in absurd (let t : None ≡ Some c = sym none ∙ ap (λ (v : Option ℕ × List ℕ). v.0) same ∙ is in cc)
          by (inr l) = old.nexts j c o l here is

  module _ (old new : Linked) (owner : ℕ) (owns : p.0 ≡ Some owner)
      (found : (c : ℕ) (q : List ℕ) → first_of new c q ≡ cond ((owner == c) && bytes_eq p.1 q) (Some number) (first_of old c q))
      (here : next_of new number ≡ first_of old owner p.1) (there : (j : ℕ) → j ≢ number → next_of new j ≡ next_of old j) where
    pub one_more : owners new.firsts ≡ owners old.firsts → length (ends new) ≡ length (ends old) → AreLinkedFrom ps most (suc number) old → AreLinkedFrom ps most number new
    one_more same_owners same_length known = record {
      firsts = λ c q. first c q (is_at c q p) refl;
      nexts = nexts;
      owned = same_owners ∙ known.owned;
      all = same_length ∙ known.all;
    }
      where
        first : (c : ℕ) (q : List ℕ) (b : Bool) → is_at c q p ≡ b → IsFirstFrom (is_at c q) ps number (first_of new c q)
        first c q true e = subst (IsFirstFrom (is_at c q) ps number) (sym (found c q ∙ ap (λ t. cond t (Some number) (first_of old c q)) (ap (λ o. is_owner o c && bytes_eq p.1 q) (sym owns) ∙ e))) (found_here (is_at c q) ps number p at e)
        first c q false e = subst (IsFirstFrom (is_at c q) ps number) (sym (found c q ∙ ap (λ t. cond t (Some number) (first_of old c q)) (ap (λ o. is_owner o c && bytes_eq p.1 q) (sym owns) ∙ e))) (passed_over (is_at c q) ps number p at e (first_of old c q) (known.firsts c q))

        nexts : (j c : ℕ) (o : Option ℕ × List ℕ) → number ≤ j → slice_get ps j ≡ Some o → o.0 ≡ Some c → IsFirstFrom (is_at c o.1) ps (suc j) (next_of new j)
        nexts j c o le stands is = by (least number j le)
          where
            by : ((number ≡ j) ⊎ (suc number ≤ j)) → IsFirstFrom (is_at c o.1) ps (suc j) (next_of new j)
            by (inl e) =
                let s : Some p ≡ Some o = sym at ∙ ap (slice_get ps) e ∙ stands in
                let same : p ≡ o = cc in
                let so : Some owner ≡ Some c = sym owns ∙ ap (λ (v : Option ℕ × List ℕ). v.0) same ∙ is in
                let c_is : owner ≡ c = cc in
                let next_is : first_of old c o.1 ≡ next_of new j = sym (ap (next_of new) (sym e) ∙ here ∙ ap (λ n. first_of old n p.1) c_is ∙ ap (λ (v : Option ℕ × List ℕ). first_of old c v.1) same) in
                subst (IsFirstFrom (is_at c o.1) ps (suc j)) next_is (subst (λ n. IsFirstFrom (is_at c o.1) ps (suc n) (first_of old c o.1)) e (known.firsts c o.1))
            by (inr l) = subst (IsFirstFrom (is_at c o.1) ps (suc j)) (sym (there j (λ e. omega (arith, e, l)))) (known.nexts j c o l stands is)
