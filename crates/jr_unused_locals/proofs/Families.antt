-- Agreement of one local by ways, of each local at once: the sets before and behind each part.
use Rattle.std.proofs.Common.{◌≡◌, ℕ, suc, ◌+◌, Bool, true, false, ◌||◌, nat_eq, IsTrue, refl, sym, ◌∙◌, subst}
use Rattle.std.proofs.lemmas.Bool.{eq-eqb}
use Rattle.jr_runs.specs.Keys.{Keys}
use Rattle.jr_runs.specs.Sets as sets
use Rattle.jr_runs.specs.Sets.{NumberSet, with_one}
use Rattle.jr_cover.specs.Ways.{Way, pass, one, row, fork, leave, turns, inside, size}
use Rattle.jr_cover.specs.Sites.{What, reads, writes, Site, at_place, unless}
use Rattle.jr_unused_locals.specs.Agreement.{Within, Ok, ok_pass, ok_one, ok_row, ok_fork, ok_leave, ok_turns, ok_inside}
use Rattle.jr_unused_locals.specs.SiteLocals.{is_read, is_write}

-- ---- of one local, the parts of what agrees

module _ {S : Type 0} (r w : ℕ → Bool) where
  pass_parts : (n : ℕ) (A B : Bool) → Ok {S = S} r w n pass A B → A ≡ B
  pass_parts n A B (ok_pass m C) = refl

  one_parts : (n : ℕ) (s : S) (A B : Bool) → Ok r w n (one s) A B → (r n ≡ true → A ≡ true) × (B ≡ (A || w n))
  one_parts n s A B (ok_one m C t h) = (h, refl)

  row_parts : (n : ℕ) (a b : Way S) (A C : Bool) → Ok r w n (row a b) A C → (B : Bool) × Ok r w n a A B × Ok r w (n + size a) b B C
  row_parts n a b A C (ok_row m P Q T x y h k) = (Q, h, k)

  fork_parts : (n : ℕ) (a b : Way S) (A D : Bool) → Ok r w n (fork a b) A D → (B C : Bool) × Ok r w n a A B × Ok r w (n + size a) b A C × Within D B × Within D C
  fork_parts n a b A D (ok_fork m P Q T U x y h k u v) = (Q, T, h, k, u, v)

  turns_parts : (n : ℕ) (s : S) (c b : Way S) (A B : Bool) → Ok r w n (turns s c b) A B → (H C : Bool) × Within H A × Ok r w (suc n) c H B × Ok r w (suc n + size c) b B C × Within H C
  turns_parts n s c b A B (ok_turns m P H Q T t x y u h k v) = (H, T, u, h, k, v)

  inside_parts : (n : ℕ) (e x : S) (b : Way S) (A B : Bool) → Ok r w n (inside e b x) A B → Ok r w (suc n) b A B
  inside_parts n e x b A B (ok_inside m P Q f y c h) = h

  -- what agrees everywhere
  pub all_agree : (a : Way S) (n : ℕ) → Ok r w n a true true
  all_agree pass n = ok_pass n true
  all_agree (one s) n = ok_one n true s (λ e. refl)
  all_agree (row a b) n = ok_row n true true true a b (all_agree a n) (all_agree b (n + size a))
  all_agree (fork a b) n = ok_fork n true true true true a b (all_agree a n) (all_agree b (n + size a)) (λ e. e) (λ e. e)
  all_agree leave n = ok_leave n true true
  all_agree (turns s c b) n = ok_turns n true true true true s c b (λ e. e) (all_agree c (suc n)) (all_agree b (suc n + size c)) (λ e. e)
  all_agree (inside e b x) n = ok_inside n true true e x b (all_agree b (suc n))

or_false : (b c : Bool) → c ≡ false → b ≡ (b || c)
or_false true c e = refl
or_false false c e = sym e

-- ---- of each local

module _ {K : Keys} (r w : ℕ → ℕ → Bool) where
  -- A, B: which locals agree before the way and behind it
  abbrev pub Oks : ℕ → Way (Site K) → NumberSet → NumberSet → Type 0
  Oks n a A B = (x : ℕ) → Ok (r x) (w x) n a (A x) (B x)

  -- the tables tell what the way's sites do
  abbrev pub IsTold : ℕ → Site K → Type 0
  IsTold n s = (x : ℕ) → (r x n ≡ is_read x s.what) × (w x n ≡ is_write x s.what)

  abbrev pub Told : ℕ → Way (Site K) → Type 0
  Told n pass = Unit {0}
  Told n (one s) = IsTold n s
  Told n (row a b) = Told n a × Told (n + size a) b
  Told n (fork a b) = Told n a × Told (n + size a) b
  Told n leave = Unit {0}
  Told n (turns s c b) = IsTold n s × Told (suc n) c × Told (suc n + size c) b
  Told n (inside e b x) = IsTold n e × IsTold (suc n + size b) x × Told (suc n) b

  pub oks_pass : (n : ℕ) (A B : NumberSet) → Oks n pass A B → A ≡ B
  oks_pass n A B h = λ i x. pass_parts (r x) (w x) n (A x) (B x) (h x) i

  pub oks_row : (n : ℕ) (a b : Way (Site K)) (A C : NumberSet) → Oks n (row a b) A C → (B : NumberSet) × Oks n a A B × Oks (n + size a) b B C
  oks_row n a b A C h = ((λ x. (parts x).0), (λ x. (parts x).1), (λ x. (parts x).2))
    where
      parts : (x : ℕ) → (B : Bool) × Ok (r x) (w x) n a (A x) B × Ok (r x) (w x) (n + size a) b B (C x)
      parts x = row_parts (r x) (w x) n a b (A x) (C x) (h x)

  pub oks_fork : (n : ℕ) (a b : Way (Site K)) (A D : NumberSet) → Oks n (fork a b) A D → (B C : NumberSet) × Oks n a A B × Oks (n + size a) b A C × sets.Within D B × sets.Within D C
  oks_fork n a b A D h = ((λ x. (parts x).0), (λ x. (parts x).1), (λ x. (parts x).2), (λ x. (parts x).3), (λ x. (parts x).4), (λ x. (parts x).5))
    where
      parts : (x : ℕ) → (B C : Bool) × Ok (r x) (w x) n a (A x) B × Ok (r x) (w x) (n + size a) b (A x) C × Within (D x) B × Within (D x) C
      parts x = fork_parts (r x) (w x) n a b (A x) (D x) (h x)

  pub oks_turns : (n : ℕ) (s : Site K) (c b : Way (Site K)) (A B : NumberSet) → Oks n (turns s c b) A B → (H C : NumberSet) × sets.Within H A × Oks (suc n) c H B × Oks (suc n + size c) b B C × sets.Within H C
  oks_turns n s c b A B h = ((λ x. (parts x).0), (λ x. (parts x).1), (λ x. (parts x).2), (λ x. (parts x).3), (λ x. (parts x).4), (λ x. (parts x).5))
    where
      parts : (x : ℕ) → (H C : Bool) × Within H (A x) × Ok (r x) (w x) (suc n) c H (B x) × Ok (r x) (w x) (suc n + size c) b (B x) C × Within H C
      parts x = turns_parts (r x) (w x) n s c b (A x) (B x) (h x)

  pub oks_inside : (n : ℕ) (e x : Site K) (b : Way (Site K)) (A B : NumberSet) → Oks n (inside e b x) A B → Oks (suc n) b A B
  oks_inside n e x b A B h = λ y. inside_parts (r y) (w y) n e x b (A y) (B y) (h y)

  -- ---- single sites

  -- one that writes no local
  pub oks_still : (n : ℕ) (s : Site K) → ((x : ℕ) → is_write x s.what ≡ false) → Told n (one s) → (A B : NumberSet) → Oks n (one s) A B → A ≡ B
  oks_still n s q t A B h = λ i x. same x i
    where
      same : (x : ℕ) → A x ≡ B x
      same x = or_false (A x) (w x n) ((t x).1 ∙ q x) ∙ sym (one_parts (r x) (w x) n s (A x) (B x) (h x)).1

  pub oks_read : (n : ℕ) (p : K.place) (m : ℕ) → Told n (at_place p (reads m)) → (A B : NumberSet) → Oks n (at_place p (reads m)) A B → (A ≡ B) × IsTrue (B m)
  oks_read n p m t A B h =
      let e : A ≡ B = oks_still n (record { at = p; what = reads m }) (λ x. refl) t A B h in
      (e, subst (λ (Z : NumberSet). Z m ≡ true) e ((one_parts (r m) (w m) n (record { at = p; what = reads m }) (A m) (B m) (h m)).0 ((t m).0 ∙ eq-eqb m m refl)))

  pub oks_write : (n : ℕ) (p : K.place) (m : ℕ) → Told n (at_place p (writes m)) → (A B : NumberSet) → Oks n (at_place p (writes m)) A B → sets.Within B (with_one A m)
  oks_write n p m t A B h x b = more (A x) (w x n) (nat_eq m x) (t x).1 (sym (one_parts (r x) (w x) n (record { at = p; what = writes m }) (A x) (B x) (h x)).1 ∙ b)
    where
      more : (a v e : Bool) → v ≡ e → (a || v) ≡ true → (e || a) ≡ true
      more a v true q g = refl
      more true v false q g = refl
      more false v false q g = sym q ∙ g

  -- a check, where there is one
  pub oks_check : (n : ℕ) (b : Bool) (p : K.place) → Told n (unless b (at_place p What.checks)) → (A B : NumberSet) → Oks n (unless b (at_place p What.checks)) A B → A ≡ B
  oks_check n true p t A B h = oks_pass n A B h
  oks_check n false p t A B h = oks_still n (record { at = p; what = What.checks }) (λ x. refl) t A B h
