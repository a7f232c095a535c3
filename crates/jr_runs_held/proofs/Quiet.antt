-- Calm code is matched where no call can do anything: what calls can do plays no part in it.
use Rattle.std.proofs.Common.{ℕ, zero, suc, List, ◌++◌, map, inl, inr, ⊎_elim}
use Rattle.jr_plans.specs.Plan.{Plan, done, act, ask, call}
use Rattle.jr_plans.specs.Reach.{World, Begins}
use Rattle.jr_plans.specs.Follow.{Sides, Both, CallBoth}
use Rattle.jr_plans.specs.Finite.{Finite}
use Rattle.jr_plans.proofs.Finishing.{finite_ends}
use Rattle.jr_runs.specs.Keys.{Keys}
use Rattle.jr_runs.specs.Evaluation.{invoke, construct}
use Rattle.jr_runs.specs.KeyMaps.{value_image}
use Rattle.jr_runs.specs.Pairs.{AnswerRel}
use Rattle.jr_runs.proofs.Matching.{Setting}
use Rattle.jr_runs.proofs.Renaming.{Mapped, mapped_joins, mapped_images}

finite_begins : {V E S R A : Type 0} (F : E → Type 0) (X Y : World E S R) (p : Plan V E S R A) (n : ℕ) → Finite F p n → (t : List E) → Begins X p t → Begins Y p t
finite_begins F X Y (done b) n c t h = h
finite_begins F X Y (act x p) zero c t h = absurd c
finite_begins F X Y (act x p) (suc n) c t h = ⊎_elim (λ e. inl e) (λ d. inr (d.0, d.1, finite_begins F X Y p n c.1 d.0 d.2)) h
finite_begins F X Y (ask f s p) zero c t h = absurd c
finite_begins F X Y (ask f s p) (suc n) c t h = ⊎_elim (λ e. inl e) (λ d. inr (d.0, d.1, d.2, d.3, finite_begins F X Y (p d.0) n (c.1 d.0 d.2).1 d.1 d.4)) h
finite_begins F X Y (call b p) n c t h = absurd c

abbrev pub no_call_comes : {E S R : Type 0} → World E S R
no_call_comes = record { ends = λ c t r. ⊥; begins = λ c t. ⊥ }

abbrev pub no_calls : {E S R : Type 0} → Sides E S R S R
no_calls = record { old_given = no_call_comes; new_found = no_call_comes; new_given = no_call_comes; old_found = no_call_comes }

-- pieces that come to their end match in any worlds if they do in these
pub any_world : {V E S R A B : Type 0} (W : List E → List E → Type 0) (Z : Sides E S R S R) (Q : A → B → Type 0) (p : Plan V E S R A) (q : Plan V E S R B) (F G : E → Type 0) (n m : ℕ) → Finite F p n → Finite G q m
    → Both 0 W no_calls Q p q → Both 0 W Z Q p q
any_world W Z Q p q F G n m c d f = record {
  forth = record {
    ended = λ t a h. let g = f.forth.ended t a (finite_ends F Z.old_given no_call_comes p n c t a h) in (g.0, g.1, finite_ends G no_call_comes Z.new_found q m d g.0 g.1 g.2, g.3, g.4);
    begun = λ t h. let g = f.forth.begun t (finite_begins F Z.old_given no_call_comes p n c t h) in (g.0, g.1, g.2, finite_begins F no_call_comes Z.old_given p n c (t ++ g.0) g.3, finite_begins G no_call_comes Z.new_found q m d g.1 g.4, g.5);
  };
  back = record {
    ended = λ t a h. let g = f.back.ended t a (finite_ends G Z.new_given no_call_comes q m d t a h) in (g.0, g.1, finite_ends F no_call_comes Z.old_found p n c g.0 g.1 g.2, g.3, g.4);
    begun = λ t h. let g = f.back.begun t (finite_begins G Z.new_given no_call_comes q m d t h) in (g.0, g.1, g.2, finite_begins G no_call_comes Z.new_given q m d (t ++ g.0) g.3, finite_begins F no_call_comes Z.old_found p n c g.1 g.4, g.5);
  };
}

pub no_call : {E S R : Type 0} (W : List E → List E → Type 0) (Q : R → R → Type 0) (c d : S) → CallBoth 0 W no_calls Q c d
no_call W Q c d = record {
  forth = record { ended = λ t a h. absurd h; begun = λ t h. absurd h };
  back = record { ended = λ t a h. absurd h; begun = λ t h. absurd h };
}

-- the two programs, where traces are equal but for keys, and no call does anything
abbrev pub quiet : {K : Keys} → Setting K → Setting K
quiet g = record {
  keys = g.keys;
  back = g.back;
  there = g.there;
  more = 0;
  relation = Mapped g.keys;
  joins = mapped_joins g.keys;
  images = mapped_images g.keys;
  sides = no_calls;
  old = g.old;
  new = g.new;
  rows = g.rows;
  dispatch = g.dispatch;
  methods = λ m v vs has. no_call (Mapped g.keys) (AnswerRel g.keys) (invoke m v vs) (invoke (g.keys.method m) (value_image g.keys v) (map (value_image g.keys) vs));
  constructors = λ k v vs has. no_call (Mapped g.keys) (AnswerRel g.keys) (construct k v vs) (construct (g.keys.constructor k) (value_image g.keys v) (map (value_image g.keys) vs));
}
