-- A piece's locals by ways round it, each local at once. Those of D needn't agree behind the piece; the
-- others agree everywhere.
use Rattle.std.proofs.Common.{◌≡◌, ℕ, suc, ◌+◌, Bool, true, false, not, refl, sym, subst}
use Rattle.jr_runs.specs.Keys.{Keys}
use Rattle.jr_runs.specs.Sets as sets
use Rattle.jr_runs.specs.Sets.{NumberSet}
use Rattle.jr_cover.specs.Ways.{Way, row, fork, turns, inside, size}
use Rattle.jr_cover.specs.Sites.{Site}
use Rattle.jr_unused_locals.specs.Agreement.{Within, Stands, here, in_first, in_second, in_left, in_right, in_body, in_monitor, Ok, OkAround}
use Rattle.jr_unused_locals.proofs.Families.{Oks, all_agree}

module _ {K : Keys} (r w : ℕ → ℕ → Bool) (P : Way (Site K)) where
  -- d: need local x not agree behind the piece?
  abbrev pub OkHere : (d : Bool) (x a n : ℕ) (u : Way (Site K)) → Stands a P n u → Bool → Bool → Type 0
  OkHere true x a n u t B C = OkAround (r x) (w x) a P n u t B C
  OkHere false x a n u t B C = (B ≡ true) × (C ≡ true)

  -- where all agrees before and behind, it does between
  ends_so : (x n : ℕ) (u : Way (Site K)) (C : Bool) → C ≡ true → Ok (r x) (w x) n u true C
  ends_so x n u C e = subst (λ (z : Bool). Ok (r x) (w x) n u true z) (sym e) (all_agree (r x) (w x) u n)

  begins_so : (x n : ℕ) (u : Way (Site K)) (B : Bool) → B ≡ true → Ok (r x) (w x) n u B true
  begins_so x n u B e = subst (λ (z : Bool). Ok (r x) (w x) n u z true) (sym e) (all_agree (r x) (w x) u n)

  here_first : (d : Bool) (x a n : ℕ) (u v : Way (Site K)) (t : Stands a P n u) (B F : Bool) → OkHere d x a n (row u v) (in_first n u v t) B F → (C : Bool) × OkHere d x a n u t B C × Ok (r x) (w x) (n + size u) v C F
  here_first true x a n u v t B F h = h
  here_first false x a n u v t B F h = (true, (h.0, refl), ends_so x (n + size u) v F h.1)

  here_second : (d : Bool) (x a n : ℕ) (u v : Way (Site K)) (t : Stands a P (n + size u) v) (B F : Bool) → OkHere d x a n (row u v) (in_second n u v t) B F → (C : Bool) × Ok (r x) (w x) n u B C × OkHere d x a (n + size u) v t C F
  here_second true x a n u v t B F h = h
  here_second false x a n u v t B F h = (true, begins_so x n u B h.0, (refl, h.1))

  here_left : (d : Bool) (x a n : ℕ) (u v : Way (Site K)) (t : Stands a P n u) (B F : Bool) → OkHere d x a n (fork u v) (in_left n u v t) B F → (C E : Bool) × OkHere d x a n u t B C × Ok (r x) (w x) (n + size u) v B E × Within F C × Within F E
  here_left true x a n u v t B F h = h
  here_left false x a n u v t B F h = (true, true, (h.0, refl), begins_so x (n + size u) v B h.0, (λ e. refl), (λ e. refl))

  here_right : (d : Bool) (x a n : ℕ) (u v : Way (Site K)) (t : Stands a P (n + size u) v) (B F : Bool) → OkHere d x a n (fork u v) (in_right n u v t) B F → (C E : Bool) × Ok (r x) (w x) n u B C × OkHere d x a (n + size u) v t B E × Within F C × Within F E
  here_right true x a n u v t B F h = h
  here_right false x a n u v t B F h = (true, true, begins_so x n u B h.0, (h.0, refl), (λ e. refl), (λ e. refl))

  here_body : (d : Bool) (x a n : ℕ) (s : Site K) (c b : Way (Site K)) (t : Stands a P (suc n + size c) b) (B F : Bool) → OkHere d x a n (turns s c b) (in_body n s c b t) B F
      → (H C : Bool) × Within H B × Ok (r x) (w x) (suc n) c H F × OkHere d x a (suc n + size c) b t F C × Within H C
  here_body true x a n s c b t B F h = h
  here_body false x a n s c b t B F h = (true, true, (λ e. h.0), ends_so x (suc n) c F h.1, (h.1, refl), (λ e. refl))

  here_monitor : (d : Bool) (x a n : ℕ) (e y : Site K) (b : Way (Site K)) (t : Stands a P (suc n) b) (B F : Bool) → OkHere d x a n (inside e b y) (in_monitor n e y b t) B F → OkHere d x a (suc n) b t B F
  here_monitor true x a n e y b t B F h = h
  here_monitor false x a n e y b t B F h = h

  -- the piece itself
  pub here_itself : (d : Bool) (x n : ℕ) (B M : Bool) → OkHere d x n n P here B M → (E : Bool) × Ok (r x) (w x) n P B E × (M ≡ not d) × (d ≡ false → (B ≡ true) × (E ≡ true))
  here_itself true x n B M h = (h.0, h.1, h.2, λ e. absurd (no e))
    where
      no : true ≡ false → ⊥
      no d = cc
  here_itself false x n B M h = (true, begins_so x n P B h.0, h.1, λ e. (h.0, refl))

  module _ (D : NumberSet) where
    abbrev pub Each : (a n : ℕ) (u : Way (Site K)) → Stands a P n u → NumberSet → NumberSet → Type 0
    Each a n u t B C = (x : ℕ) → OkHere (D x) x a n u t (B x) (C x)

    pub each_first : (a n : ℕ) (u v : Way (Site K)) (t : Stands a P n u) (B F : NumberSet) → Each a n (row u v) (in_first n u v t) B F → (C : NumberSet) × Each a n u t B C × Oks r w (n + size u) v C F
    each_first a n u v t B F h = ((λ x. (parts x).0), (λ x. (parts x).1), (λ x. (parts x).2))
      where
        parts : (x : ℕ) → (C : Bool) × OkHere (D x) x a n u t (B x) C × Ok (r x) (w x) (n + size u) v C (F x)
        parts x = here_first (D x) x a n u v t (B x) (F x) (h x)

    pub each_second : (a n : ℕ) (u v : Way (Site K)) (t : Stands a P (n + size u) v) (B F : NumberSet) → Each a n (row u v) (in_second n u v t) B F → (C : NumberSet) × Oks r w n u B C × Each a (n + size u) v t C F
    each_second a n u v t B F h = ((λ x. (parts x).0), (λ x. (parts x).1), (λ x. (parts x).2))
      where
        parts : (x : ℕ) → (C : Bool) × Ok (r x) (w x) n u (B x) C × OkHere (D x) x a (n + size u) v t C (F x)
        parts x = here_second (D x) x a n u v t (B x) (F x) (h x)

    pub each_left : (a n : ℕ) (u v : Way (Site K)) (t : Stands a P n u) (B F : NumberSet) → Each a n (fork u v) (in_left n u v t) B F → (C E : NumberSet) × Each a n u t B C × Oks r w (n + size u) v B E × sets.Within F C × sets.Within F E
    each_left a n u v t B F h = ((λ x. (parts x).0), (λ x. (parts x).1), (λ x. (parts x).2), (λ x. (parts x).3), (λ x. (parts x).4), (λ x. (parts x).5))
      where
        parts : (x : ℕ) → (C E : Bool) × OkHere (D x) x a n u t (B x) C × Ok (r x) (w x) (n + size u) v (B x) E × Within (F x) C × Within (F x) E
        parts x = here_left (D x) x a n u v t (B x) (F x) (h x)

    pub each_right : (a n : ℕ) (u v : Way (Site K)) (t : Stands a P (n + size u) v) (B F : NumberSet) → Each a n (fork u v) (in_right n u v t) B F → (C E : NumberSet) × Oks r w n u B C × Each a (n + size u) v t B E × sets.Within F C × sets.Within F E
    each_right a n u v t B F h = ((λ x. (parts x).0), (λ x. (parts x).1), (λ x. (parts x).2), (λ x. (parts x).3), (λ x. (parts x).4), (λ x. (parts x).5))
      where
        parts : (x : ℕ) → (C E : Bool) × Ok (r x) (w x) n u (B x) C × OkHere (D x) x a (n + size u) v t (B x) E × Within (F x) C × Within (F x) E
        parts x = here_right (D x) x a n u v t (B x) (F x) (h x)

    pub each_body : (a n : ℕ) (s : Site K) (c b : Way (Site K)) (t : Stands a P (suc n + size c) b) (B F : NumberSet) → Each a n (turns s c b) (in_body n s c b t) B F
        → (H C : NumberSet) × sets.Within H B × Oks r w (suc n) c H F × Each a (suc n + size c) b t F C × sets.Within H C
    each_body a n s c b t B F h = ((λ x. (parts x).0), (λ x. (parts x).1), (λ x. (parts x).2), (λ x. (parts x).3), (λ x. (parts x).4), (λ x. (parts x).5))
      where
        parts : (x : ℕ) → (H C : Bool) × Within H (B x) × Ok (r x) (w x) (suc n) c H (F x) × OkHere (D x) x a (suc n + size c) b t (F x) C × Within H C
        parts x = here_body (D x) x a n s c b t (B x) (F x) (h x)

    pub each_monitor : (a n : ℕ) (e y : Site K) (b : Way (Site K)) (t : Stands a P (suc n) b) (B F : NumberSet) → Each a n (inside e b y) (in_monitor n e y b t) B F → Each a (suc n) b t B F
    each_monitor a n e y b t B F h = λ x. here_monitor (D x) x a n e y b t (B x) (F x) (h x)
