-- Lists of numbers of locals, and locals that are unset.
use Rattle.std.proofs.Common.{◌≡◌, ◌⊎◌, ◌<◌, ℕ, zero, suc, List, [], ◌∷◌, ◌++◌, map, refl, sym, ap, ◌∙◌, subst, inl, inr, ⊎_elim, arith}
use Rattle.std.proofs.lemmas.Bool.{cases_eq}
use Rattle.jr_runs.specs.Keys.{Keys}
use Rattle.jr_runs.specs.Values.{Value, null}
use Rattle.jr_runs.specs.Evaluation.{local_at, with_local, unset}
use Rattle.jr_runs.specs.KeyMaps.{KeyMap, value_image}
use Rattle.jr_runs.specs.Standing.{upto, Self, itself, held, nobody, unused, Standing, In, SelfIn, IsFree, Frame, Shifted}
use Rattle.jr_runs.specs.Images.{BlockTo}
use Rattle.jr_runs.specs.Sets.{NumberSet, with_all}
use Rattle.jr_runs.proofs.Locals.{in_all, written, not_written}

pub is_in : (n : ℕ) (xs : List ℕ) → In n xs ⊎ (In n xs → ⊥)
is_in n [] = inr (λ h. h)
is_in n (x ∷ xs) = ⊎_elim (λ (e : n ≡ x). inl (inl e)) (λ (d : n ≡ x → ⊥). ⊎_elim (λ h. inl (inr h)) (λ g. inr (λ h. ⊎_elim d g h)) (is_in n xs)) (cases_eq n x)

pub in_upto : (n i : ℕ) → i < n → In i (upto n)
in_upto zero i h = absurd (omega (arith, h))
in_upto (suc n) i h = ⊎_elim (λ (e : i ≡ n). inl e) (λ (d : i ≡ n → ⊥). inr (in_upto n i (omega (arith, h, d)))) (cases_eq i n)

pub upto_in : (n i : ℕ) → In i (upto n) → i < n
upto_in zero i h = absurd h
upto_in (suc n) i h = ⊎_elim (λ (e : i ≡ n). omega (arith, e)) (λ g. let k : i < n = upto_in n i g in omega (arith, k)) h

pub in_map : (f : ℕ → ℕ) (i : ℕ) (xs : List ℕ) → In i xs → In (f i) (map f xs)
in_map f i [] h = absurd h
in_map f i (x ∷ xs) h = ⊎_elim (λ e. inl (ap f e)) (λ g. inr (in_map f i xs g)) h

pub map_in : (f : ℕ → ℕ) (j : ℕ) (xs : List ℕ) → In j (map f xs) → (i : ℕ) × In i xs × (j ≡ f i)
map_in f j [] h = absurd h
map_in f j (x ∷ xs) h = ⊎_elim (λ e. (x, inl refl, e)) (λ g. let d = map_in f j xs g in (d.0, inr d.1, d.2)) h

pub in_left : (n : ℕ) (xs ys : List ℕ) → In n xs → In n (xs ++ ys)
in_left n [] ys h = absurd h
in_left n (x ∷ xs) ys h = ⊎_elim (λ e. inl e) (λ g. inr (in_left n xs ys g)) h

pub in_right : (n : ℕ) (xs ys : List ℕ) → In n ys → In n (xs ++ ys)
in_right n [] ys h = h
in_right n (x ∷ xs) ys h = inr (in_right n xs ys h)

pub in_both : (n : ℕ) (xs ys : List ℕ) → In n (xs ++ ys) → In n xs ⊎ In n ys
in_both n [] ys h = inr h
in_both n (x ∷ xs) ys h = ⊎_elim (λ e. inl (inl e)) (λ g. ⊎_elim (λ i. inl (inr i)) (λ i. inr i) (in_both n xs ys g)) h

pub unset_other : {K : Keys} (ns : List ℕ) (l : List (Value K)) (j : ℕ) → (In j ns → ⊥) → local_at (unset ns l) j ≡ local_at l j
unset_other [] l j h = refl
unset_other (n ∷ ns) l j h = unset_other ns (with_local l n null) j (λ g. h (inr g)) ∙ not_written l n j null (λ e. h (inl e))

pub unset_null : {K : Keys} (ns : List ℕ) (l : List (Value K)) (j : ℕ) → In j ns → local_at (unset ns l) j ≡ null
unset_null [] l j h = absurd h
unset_null (n ∷ ns) l j h = ⊎_elim
    (λ (g : In j ns). unset_null ns (with_local l n null) j g)
    (λ (d : In j ns → ⊥). unset_other ns (with_local l n null) j d ∙ ⊎_elim (λ (e : j ≡ n). rw e (written l n null)) (λ g. absurd (d g)) h)
    (is_in j ns)

pub self_in_more : (self : Self) (xs ys : List ℕ) → SelfIn self xs → SelfIn self (xs ++ ys)
self_in_more itself xs ys h = tt
self_in_more (held k) xs ys h = in_left k xs ys h
self_in_more nobody xs ys h = tt
self_in_more unused xs ys h = tt

-- a block's locals are unset on both sides, and agree then
pub shifted_unset : {K : Keys} (r : KeyMap K) (s : Standing K) (ns ns' : List ℕ) → BlockTo s ns ns' → (frame : Frame K) (A : NumberSet) (l l' : List (Value K)) → Shifted r s frame A l l' → Shifted r s frame (with_all A ns) (unset ns l) (unset ns' l')
shifted_unset r s ns ns' d frame A l l' h = record {
  moved = λ i b a. ⊎_elim
      (λ (g : In i ns). unset_null ns' l' (s.code.at i) (d.all i b g) ∙ ap (value_image r) (sym (unset_null ns l i g)))
      (λ (g : In i ns → ⊥). unset_other ns' l' (s.code.at i) (λ x. g (d.only i b x)) ∙ h.moved i b (in_all A ns i g a) ∙ ap (value_image r) (sym (unset_other ns l i g)))
      (is_in i ns);
  others = λ j o. unset_other ns' l' j (λ x. d.others j o x) ∙ h.others j o;
  known = λ i g. unset_other ns l i (λ x. d.known i g x) ∙ h.known i g;
}

-- the images of all, and no more
pub same_block : {K : Keys} (s : Standing K) → ((i j : ℕ) → In i s.code.mine → In j s.code.mine → s.code.at i ≡ s.code.at j → i ≡ j) → ((i : ℕ) → In i s.code.mine → In (s.code.at i) s.others → ⊥) → (ns : List ℕ) → ((n : ℕ) → In n ns → IsFree s.code n) → BlockTo s ns (map s.code.at ns)
same_block s injective apart ns below = record {
  all = λ i b g. in_map s.code.at i ns g;
  only = λ i b g. let m = map_in s.code.at (s.code.at i) ns g in subst (λ n. In n ns) (sym (injective i m.0 b (below m.0 m.1).below m.2)) m.1;
  others = λ j o g. let m = map_in s.code.at j ns g in apart m.0 (below m.0 m.1).below (subst (λ n. In n s.others) m.2 o);
  known = λ i g x. (below i x).unknown g;
}
