-- A local of the new code holds the value of an expression that the old code evaluates wherever the new
-- code reads the local: inline local of an initializer that reads locals alone, seen from the program
-- without the local.
use Rattle.std.proofs.Common.{◌≡◌, ◌⊎◌, ℕ, Some, List, [], ◌∷◌, ◌++◌, map, refl, sym, ap, ◌∙◌, subst, inl, inr, ⊎_elim}
use Rattle.jr_plans.specs.Plan.{done, act}
use Rattle.jr_plans.proofs.BothWays.{both_more}
use Rattle.jr_plans.proofs.Resulting.{both_results}
use Rattle.jr_runs.specs.Fitting.{is_instance}
use Rattle.jr_runs.specs.Keys.{Keys, At}
use Rattle.jr_runs.specs.Values.{Value}
use Rattle.jr_runs.specs.Arithmetic.{Out, value, thrown}
use Rattle.jr_runs.specs.Core as core
use Rattle.jr_runs.specs.Core.{Exp, Stmt, declare, Stmts}
use Rattle.jr_runs.specs.Evaluation.{Flow, goes_on, returns, Step, local_at, with_local, unset, non_null, on_truth, leaving, cast_value, exp, on_flow, stmt, stmts}
use Rattle.jr_runs.specs.KeyMaps.{value_image}
use Rattle.jr_runs.specs.Standing.{Self, itself, held, nobody, unused, Standing, Stands, In, SelfIn, HeldIn, CastIn, Holds, AllHoldAs, Frame, SelfIs, AllHold, Holding, Shifted}
use Rattle.jr_runs.specs.Sets.{NumberSet, with_one, with_all, Within}
use Rattle.jr_runs.specs.Images.{Among, Spots, NoSpot, StmtTo}
use Rattle.jr_runs.specs.Actions.{enter}
use Rattle.jr_runs_held.specs.Held.{ExpUntil, Until, until_here, until_more, until_last, StmtUntil, last_declare, last_eval, last_return, last_branch, last_block, last_lock, last_sync, holding, HoldsLocal}
use Rattle.jr_runs_held.proofs.Steps.{next_assoc, results_all}
use Rattle.jr_runs_held.proofs.UntilExps.{exp_until}
use Rattle.jr_runs.specs.Pairs.{OutRel, ResultRel, FlowRel, Returns, SomeReturns}
use Rattle.jr_runs.proofs.Locals.{written, not_written, shifted_less, shifted_write}
use Rattle.jr_runs.proofs.Numbers.{in_left, in_right, shifted_unset}
use Rattle.jr_runs.proofs.Matching.{Setting, Matches, match_next, match_value, match_truth, match_non_null, match_action}
use Rattle.jr_runs.proofs.ImageExps.{exp_match}
use Rattle.jr_runs.proofs.ImageStmts.{TurnsAnswered, looser, leaving_match, stmt_match}
use Rattle.jr_runs.proofs.Kept.{kept_turns, kept_match}
use Rattle.jr_runs.specs.Core.{Program}
use Rattle.jr_runs.specs.KeyMaps.{Undoes, same_keys}
use Rattle.jr_runs.specs.Images.{ProgramTo}
use Rattle.jr_runs.specs.Alike.{AlikeExactly}
use Rattle.jr_runs_held.proofs.Turned.{turned_exactly}
use Rattle.jr_runs.proofs.ImagePrograms.{Changes, setting, turns_in, programs_match}
use Rattle.jr_runs.proofs.Halves.{alike, starts_match}
use Rattle.jr_runs.proofs.Renaming.{Mapped, mapped_joins, mapped_images}

module _ {K : Keys} (g : Setting K) (Spot : Spots K) (turns : TurnsAnswered g Spot) (s : Standing K) (stands : Stands s) (frame : Frame K) (me me' : Value K) (im : Holding g.old g.keys s.code frame me me')
    (A : NumberSet) (few many : Stmts K) (B : NumberSet) (x : HoldsLocal g.keys g.old s A few many B) where
  abbrev inner : Standing K
  inner = holding s x.reads x.e x.number x.classes

  more_in : (hs : List (Exp K × ℕ)) → HeldIn hs s.others → HeldIn hs (x.number ∷ s.others)
  more_in [] h = tt
  more_in (y ∷ ys) h = (inr h.0, more_in ys h.1)

  more_cast : (hs : List (K.class × Exp K × ℕ)) → CastIn hs s.others → CastIn hs (x.number ∷ s.others)
  more_cast [] h = tt
  more_cast (y ∷ ys) h = (inr h.0, more_cast ys h.1)

  own_cast : (cs : List K.class) (hs : List (K.class × Exp K × ℕ)) → CastIn hs (x.number ∷ s.others) → CastIn (map (λ c. (c, x.e, x.number)) cs ++ hs) (x.number ∷ s.others)
  own_cast [] hs h = h
  own_cast (c ∷ cs) hs h = (inl refl, own_cast cs hs h)

  self_more : (self : Self) → SelfIn self s.others → SelfIn self (x.number ∷ s.others)
  self_more itself h = tt
  self_more (held k) h = inr h
  self_more nobody h = tt
  self_more unused h = tt

  inner_stands : Stands inner
  inner_stands = record {
    injective = stands.injective;
    apart = λ i b q. ⊎_elim (λ (e : s.code.at i ≡ x.number). x.fresh i b e) (λ o. stands.apart i b o) q;
    self = self_more s.code.self stands.self;
    held = (inl refl, more_in s.code.holds stands.held);
    cast = own_cast x.classes s.code.casts (more_cast s.code.casts stands.cast);
  }

  -- behind the declaration, where e came to v with the old locals l
  module _ (l m' : List (Value K)) (v v' : Value K) (same : v ≡ x.silent.result me l) (image : v' ≡ value_image g.keys v) (h : Shifted g.keys s frame x.between l m') where
    abbrev inner_frame : Frame K
    inner_frame = record { here = l; there = with_local m' x.number v' }

    not_number : (j : ℕ) → In j s.others → j ≡ x.number → ⊥
    not_number j o e = x.fresh_others (subst (λ n. In n s.others) e o)

    still : (j : ℕ) → In j s.others → local_at (with_local m' x.number v') j ≡ local_at frame.there j
    still j o = not_written m' x.number j v' (not_number j o) ∙ h.others j o

    self_is : (self : Self) → SelfIn self s.others → SelfIs g.keys self frame me me' → SelfIs g.keys self inner_frame me me'
    self_is itself i q = q
    self_is (held k) i q = still k i ∙ q
    self_is nobody i q = q
    self_is unused i q = q

    all_hold : (hs : List (Exp K × ℕ)) → HeldIn hs s.others → AllHold g.old g.keys s.code.known frame me hs → AllHold g.old g.keys (x.reads ++ s.code.known) inner_frame me hs
    all_hold [] i q = tt
    all_hold (y ∷ ys) i q = (
      record {
        result = q.0.result;
        comes = λ n known. q.0.comes n (λ k o. known k (in_right k x.reads s.code.known o) ∙ h.known k o);
        there = still y.1 i.0 ∙ q.0.there;
      },
      all_hold ys i.1 q.1,
    )

    all_hold_as : (hs : List (K.class × Exp K × ℕ)) → CastIn hs s.others → AllHoldAs g.old g.keys s.code.known frame me hs → AllHoldAs g.old g.keys (x.reads ++ s.code.known) inner_frame me hs
    all_hold_as [] i q = tt
    all_hold_as (y ∷ ys) i q = (
      record {
        holds = record {
          result = q.0.holds.result;
          comes = λ n known. q.0.holds.comes n (λ k o. known k (in_right k x.reads s.code.known o) ∙ h.known k o);
          there = still y.2 i.0 ∙ q.0.holds.there;
        };
        fits = q.0.fits;
      },
      all_hold_as ys i.1 q.1,
    )

    abbrev own : Holds g.old g.keys (x.reads ++ s.code.known) inner_frame me x.e x.number
    own = record {
      result = x.silent.result me l;
      comes = λ n known. x.silent.comes me n ∙ ap (λ w. done (value (w, n))) (x.silent.same me l n (λ i o. known i (in_left i x.reads s.code.known o)));
      there = written m' x.number v' ∙ image ∙ ap (value_image g.keys) same;
    }

    own_as : (cs : List K.class) → ((c : K.class) → Among c cs → cast_value (is_instance g.old c (x.silent.result me l)) (x.silent.result me l) ≡ value (x.silent.result me l)) → (hs : List (K.class × Exp K × ℕ)) → AllHoldAs g.old g.keys (x.reads ++ s.code.known) inner_frame me hs
        → AllHoldAs g.old g.keys (x.reads ++ s.code.known) inner_frame me (map (λ c. (c, x.e, x.number)) cs ++ hs)
    own_as [] fits hs h = h
    own_as (c ∷ cs) fits hs h = (record { holds = own; fits = fits c (inl refl) }, own_as cs (λ d a. fits d (inr a)) hs h)

    inner_holding : Holding g.old g.keys inner.code inner_frame me me'
    inner_holding = record {
      self = self_is s.code.self stands.self im.self;
      classes = im.classes;
      holds = (
        record {
          result = v;
          comes = λ n known. x.silent.comes me n ∙ ap (λ w. done (value (w, n))) (x.silent.same me l n (λ i o. known i (in_left i x.reads s.code.known o)) ∙ sym same);
          there = written m' x.number v' ∙ image;
        },
        all_hold s.code.holds stands.held im.holds,
      );
      casts = own_as x.classes (x.fits me l) s.code.casts (all_hold_as s.code.casts stands.cast im.casts);
    }

    inner_shifted : Shifted g.keys inner inner_frame x.between l (with_local m' x.number v')
    inner_shifted = record {
      moved = λ i b a. not_written m' x.number (s.code.at i) v' (λ e. x.fresh i b e) ∙ h.moved i b a;
      others = λ j o. refl;
      known = λ i o. refl;
    }

    -- what is related behind the rest is related as it was before
    back : (C : NumberSet) (n n' : List (Value K)) → Shifted g.keys inner inner_frame C n n' → Shifted g.keys s frame C n n'
    back C n n' q = record {
      moved = q.moved;
      others = λ j o. q.others j (inr o) ∙ still j o;
      known = λ i o. q.known i (in_right i x.reads s.code.known o) ∙ h.known i o;
    }

    abbrev FlowTo : NumberSet → Type 0 → Flow K → Flow K → Type 0
    FlowTo C M f f' = FlowRel g.keys (Shifted g.keys s frame C) M f f'

    abbrev InnerTo : NumberSet → Type 0 → Flow K → Flow K → Type 0
    InnerTo C M f f' = FlowRel g.keys (Shifted g.keys inner inner_frame C) M f f'

    narrower : (C D : NumberSet) → Within D C → (M N : Type 0) → (M → N) → (p p' : Step K (Flow K)) → Matches g (FlowTo C M) p p' → Matches g (FlowTo D N) p p'
    narrower C D w M N i p p' f = looser g s stands frame me me' im C D w M N i p p' f

    -- what comes behind
    flow_on : (L : List (Value K) → List (Value K) → Type 0) (D : NumberSet) (M N : Type 0) (f f' : Flow K) → FlowRel g.keys L M f f' → (k k' : List (Value K) → Step K (Flow K)) → ((n n' : List (Value K)) → L n n' → Matches g (FlowTo D N) (k n) (k' n'))
        → Matches g (FlowTo D (M ⊎ N)) (on_flow f k) (on_flow f' k')
    flow_on L D M N (goes_on n) (goes_on n') q k k' d = narrower D D (λ i a. a) N (M ⊎ N) inr (k n) (k' n') (d n n' q)
    flow_on L D M N (returns w) (returns w') q k k' d = match_value g (FlowTo D (M ⊎ N)) (returns w) (returns w') (q.0, inl q.1)
    flow_on L D M N (goes_on n) (returns w') q k k' d = absurd q
    flow_on L D M N (returns w) (goes_on n) q k k' d = absurd q

    abbrev Behind : NumberSet → Value K × List (Value K) → Value K × List (Value K) → Type 0
    Behind C a b = ResultRel g.keys s frame C a b

    last_exp : (C D : NumberSet) (e e' : Exp K) → ExpUntil g.keys g.old inner.code s.code C e e' D → (n n' : List (Value K)) → Shifted g.keys inner inner_frame C n n' → Matches g (Behind D) (exp g.old me e n) (exp g.new me' e' n')
    last_exp C D e e' d n n' q = exp_until g me me' inner inner_stands inner_frame inner_holding s stands frame im back C D e e' d n n' q

    kept_one : (C D : NumberSet) (a a' : Stmt K) → StmtTo g.keys g.old NoSpot s C a a' D → (n n' : List (Value K)) → Shifted g.keys s frame C n n' → Matches g (FlowTo D (Returns a)) (stmt g.old me a n) (stmt g.new me' a' n')
    kept_one C D a a' d n n' q = stmt_match g NoSpot (kept_turns g Spot turns) (λ b t f m m' i C1 y y' D1 none. absurd none) s stands frame me me' im C D a a' d n n' q

    locked : (D : NumberSet) (p p' p2 p3 : At K) (c c' : Stmts K) (w w' : Value K) → w' ≡ value_image g.keys w → (n n' : List (Value K)) → Matches g (FlowTo D (SomeReturns c)) (stmts g.old me c n) (stmts g.new me' c' n')
        → Matches g (FlowTo D (SomeReturns c)) (non_null w (act record { at = p; action = enter w } (leaving p' w (stmts g.old me c n)))) (non_null w' (act record { at = p2; action = enter w' } (leaving p3 w' (stmts g.new me' c' n'))))
    locked D p p' p2 p3 c c' w w' e n n' f = rw e (match_non_null g (FlowTo D (SomeReturns c)) w (act record { at = p; action = enter w } (leaving p' w (stmts g.old me c n))) (act record { at = p2; action = enter (value_image g.keys w) } (leaving p3 (value_image g.keys w) (stmts g.new me' c' n')))
        (match_action g (FlowTo D (SomeReturns c)) record { at = p; action = enter w } record { at = p2; action = enter (value_image g.keys w) } (leaving p' w (stmts g.old me c n)) (leaving p3 (value_image g.keys w) (stmts g.new me' c' n')) refl
        (leaving_match g s stands frame me me' im D (SomeReturns c) p' p3 w (stmts g.old me c n) (stmts g.new me' c' n') f)))

    mutual
      until_match : (C D : NumberSet) (b b' : Stmts K) → Until g.keys g.old inner s C b b' D → (n n' : List (Value K)) → Shifted g.keys inner inner_frame C n n' → Matches g (FlowTo D (SomeReturns b)) (stmts g.old me b n) (stmts g.new me' b' n')
      until_match C D b b' (until_here C1 D1 c c' d) n n' q = kept_match g Spot turns s stands frame me me' im C c c' D d n n' (back C n n' q)
      until_match C D b b' (until_more C1 E D1 a a' c c' d u) n n' q =
          match_next g (InnerTo E (Returns a)) (FlowTo D (Returns a ⊎ SomeReturns c)) (stmt g.old me a n) (stmt g.new me' a' n') (λ f. on_flow f (λ m. stmts g.old me c m)) (λ f. on_flow f (λ m. stmts g.new me' c' m))
          (stmt_match g NoSpot (kept_turns g Spot turns) (λ a t f m m' i C2 x x' D2 none. absurd none) inner inner_stands inner_frame me me' inner_holding C E a a' d n n' q)
          (λ f f' i. flow_on (Shifted g.keys inner inner_frame E) D (Returns a) (SomeReturns c) f f' i (λ m. stmts g.old me c m) (λ m. stmts g.new me' c' m) (λ m m' j. until_match E D c c' u m m' j))
      until_match C D b b' (until_last C1 E D1 a a' c c' u f) n n' q =
          match_next g (FlowTo E (Returns a)) (FlowTo D (Returns a ⊎ SomeReturns c)) (stmt g.old me a n) (stmt g.new me' a' n') (λ f. on_flow f (λ m. stmts g.old me c m)) (λ f. on_flow f (λ m. stmts g.new me' c' m))
          (last_match C E a a' u n n' q)
          (λ v v' i. flow_on (Shifted g.keys s frame E) D (Returns a) (SomeReturns c) v v' i (λ m. stmts g.old me c m) (λ m. stmts g.new me' c' m) (λ m m' j. kept_match g Spot turns s stands frame me me' im E c c' D f m m' j))

      last_match : (C D : NumberSet) (a a' : Stmt K) → StmtUntil g.keys g.old inner s C a a' D → (n n' : List (Value K)) → Shifted g.keys inner inner_frame C n n' → Matches g (FlowTo D (Returns a)) (stmt g.old me a n) (stmt g.new me' a' n')
      last_match C D a a' (last_declare C1 E D1 p p' i e e' free d w) n n' q = match_next g (Behind E) (FlowTo D ⊥) (exp g.old me e n) (exp g.new me' e' n') (λ r. done (value (goes_on (with_local r.1 i r.0)))) (λ r. done (value (goes_on (with_local r.1 (s.code.at i) r.0))))
          (last_exp C E e e' d n n' q) (λ r r' k. match_value g (FlowTo D ⊥) (goes_on (with_local r.1 i r.0)) (goes_on (with_local r'.1 (s.code.at i) r'.0))
          (shifted_less g.keys s frame (with_one E i) D w (with_local r.1 i r.0) (with_local r'.1 (s.code.at i) r'.0) (shifted_write g.keys s stands frame E r.1 r'.1 i r.0 r'.0 free.below free.unknown k.0 k.1)))
      last_match C D a a' (last_eval C1 D1 p p' e e' d) n n' q = match_next g (Behind D) (FlowTo D ⊥) (exp g.old me e n) (exp g.new me' e' n') (λ r. done (value (goes_on r.1))) (λ r. done (value (goes_on r.1))) (last_exp C D e e' d n n' q)
          (λ r r' k. match_value g (FlowTo D ⊥) (goes_on r.1) (goes_on r'.1) k.1)
      last_match C D a a' (last_return C1 E D1 p p' e e' d) n n' q = match_next g (Behind E) (FlowTo D (Unit {0})) (exp g.old me e n) (exp g.new me' e' n') (λ r. done (value (returns (Some r.0)))) (λ r. done (value (returns (Some r.0)))) (last_exp C E e e' d n n' q)
          (λ r r' k. match_value g (FlowTo D (Unit {0})) (returns (Some r.0)) (returns (Some r'.0)) (k.0, tt))
      last_match C D a a' (last_branch C1 E F G D1 p p' c c' y y' w w' d i j u o) n n' q =
          match_next g (Behind E) (FlowTo D (Returns y ⊎ Returns w)) (exp g.old me c n) (exp g.new me' c' n') (λ r. on_truth r.0 (stmt g.old me y r.1) (stmt g.old me w r.1)) (λ r. on_truth r.0 (stmt g.new me' y' r.1) (stmt g.new me' w' r.1)) (last_exp C E c c' d n n' q)
          (λ r r' k. rw k.0 (match_truth g (FlowTo D (Returns y ⊎ Returns w)) r.0 (stmt g.old me y r.1) (stmt g.old me w r.1) (stmt g.new me' y' r'.1) (stmt g.new me' w' r'.1)
          (narrower F D u (Returns y) (Returns y ⊎ Returns w) inl (stmt g.old me y r.1) (stmt g.new me' y' r'.1) (kept_one E F y y' i r.1 r'.1 k.1))
          (narrower G D o (Returns w) (Returns y ⊎ Returns w) inr (stmt g.old me w r.1) (stmt g.new me' w' r'.1) (kept_one E G w w' j r.1 r'.1 k.1))))
      last_match C D a a' (last_block C1 E D1 p p' ns ns' c c' d w u) n n' q = until_match E D c c' u (unset ns n) (unset ns' n')
          (shifted_less g.keys inner inner_frame (with_all C ns) E w (unset ns n) (unset ns' n') (shifted_unset g.keys inner ns ns' d inner_frame C n n' q))
      last_match C D a a' (last_lock C1 E D1 p p' p2 p3 e e' c c' d f) n n' q =
          match_next g (Behind E) (FlowTo D (SomeReturns c)) (exp g.old me e n) (exp g.new me' e' n') (λ r. non_null r.0 (act record { at = p; action = enter r.0 } (leaving p' r.0 (stmts g.old me c r.1)))) (λ r. non_null r.0 (act record { at = p2; action = enter r.0 } (leaving p3 r.0 (stmts g.new me' c' r.1))))
          (last_exp C E e e' d n n' q)
          (λ r r' k. locked D p p' p2 p3 c c' r.0 r'.0 k.0 r.1 r'.1 (kept_match g Spot turns s stands frame me me' im E c c' D f r.1 r'.1 k.1))
      last_match C D a a' (last_sync C1 E D1 p p' p2 p3 e e' c c' d u) n n' q =
          match_next g (ResultRel g.keys inner inner_frame E) (FlowTo D (SomeReturns c)) (exp g.old me e n) (exp g.new me' e' n') (λ r. non_null r.0 (act record { at = p; action = enter r.0 } (leaving p' r.0 (stmts g.old me c r.1)))) (λ r. non_null r.0 (act record { at = p2; action = enter r.0 } (leaving p3 r.0 (stmts g.new me' c' r.1))))
          (exp_match g inner inner_stands inner_frame me me' inner_holding C E e e' d n n' q)
          (λ r r' k. locked D p p' p2 p3 c c' r.0 r'.0 k.0 r.1 r'.1 (until_match E D c c' u r.1 r'.1 k.1))

    rest_match : Matches g (FlowTo B (SomeReturns few)) (stmts g.old me few l) (stmts g.new me' x.rest (with_local m' x.number v'))
    rest_match = until_match x.between B few x.rest x.rest_to l (with_local m' x.number v') inner_shifted

  -- what comes to one value, and nothing else
  abbrev One : List (Value K) → Value K × List (Value K) → Type 0
  One l a = (a.0 ≡ x.silent.result me l) × (a.1 ≡ l)

  only : (l : List (Value K)) (o o' : Out (Value K × List (Value K))) → OutRel (ResultRel g.keys s frame x.between) o o' × (o ≡ value (x.silent.result me l, l)) × Unit {0} → OutRel (λ a a'. One l a × ResultRel g.keys s frame x.between a a') o o'
  only l (value a) (value a') q = (same_one a (x.silent.result me l, l) q.1, q.0)
    where
      same_one : (a b : Value K × List (Value K)) → (let o : Out (Value K × List (Value K)) = value a in o ≡ value b) → (a.0 ≡ b.0) × (a.1 ≡ b.1)
      same_one a b e = (let same : a ≡ b = cc in (ap (λ r. r.0) same, ap (λ r. r.1) same))
  only l (thrown f) (thrown f') q = q.0
  only l (value a) (thrown f') q = absurd q.0
  only l (thrown f) (value a') q = absurd q.0

  declared_match : (l l' : List (Value K)) → Shifted g.keys s frame A l l' → Matches g (FlowRel g.keys (Shifted g.keys s frame B) (SomeReturns few)) (stmts g.old me few l) (stmts g.new me' (core.Stmts.more (declare x.place x.number x.e') x.rest) l')
  declared_match l l' h =
      let Q = FlowRel g.keys (Shifted g.keys s frame B) (SomeReturns few) in
      let v : Value K = x.silent.result me l in
      let d : Value K × List (Value K) → Step K (Flow K) = λ r. done (value (goes_on (with_local r.1 x.number r.0))) in
      let k' : Value K × List (Value K) → Step K (Flow K) = λ r. stmts g.new me' x.rest (with_local r.1 x.number r.0) in
      let first : Matches g (ResultRel g.keys s frame x.between) (done (value (v, l))) (exp g.new me' x.e' l') =
      subst (λ p. Matches g (ResultRel g.keys s frame x.between) p (exp g.new me' x.e' l')) (x.silent.comes me l) (exp_match g s stands frame me me' im A x.between x.e x.e' x.e_to l l' h) in
      let one : Matches g (λ a a'. One l a × ResultRel g.keys s frame x.between a a') (done (value (v, l))) (exp g.new me' x.e' l') =
      both_more g.more g.relation g.joins g.sides (λ a b. OutRel (ResultRel g.keys s frame x.between) a b × (a ≡ value (v, l)) × Unit {0}) (OutRel (λ a a'. One l a × ResultRel g.keys s frame x.between a a')) (done (value (v, l))) (exp g.new me' x.e' l') (only l)
      (both_results g.more g.relation g.sides (OutRel (ResultRel g.keys s frame x.between)) (λ o. o ≡ value (v, l)) (λ o. Unit {0}) (done (value (v, l))) (exp g.new me' x.e' l') refl (results_all (λ o. Unit {0}) (λ o. tt) (exp g.new me' x.e' l')) first) in
      subst (Matches g Q (stmts g.old me few l)) (sym (next_assoc (exp g.new me' x.e' l') d (λ f. on_flow f (λ m. stmts g.new me' x.rest m))))
      (match_next g (λ a a'. One l a × ResultRel g.keys s frame x.between a a') Q (done (value (v, l))) (exp g.new me' x.e' l') (λ r. stmts g.old me few r.1) k' one
      (λ a a' q. subst (λ m. Matches g Q (stmts g.old me few m) (k' a')) (sym q.0.1)
      (rest_match l a'.1 a.0 a'.0 q.0.0 q.1.0 (subst (λ m. Shifted g.keys s frame x.between m a'.1) q.0.1 q.1.1))))

  -- such a list matches
  pub held_match : (l l' : List (Value K)) → Shifted g.keys s frame A l l' → Matches g (FlowRel g.keys (Shifted g.keys s frame B) (SomeReturns few)) (stmts g.old me few l) (stmts g.new me' many l')
  held_match l l' h = subst (λ b. Matches g (FlowRel g.keys (Shifted g.keys s frame B) (SomeReturns few)) (stmts g.old me few l) (stmts g.new me' b l')) (sym x.many_is) (declared_match l l' h)

pub same_undoes : {K : Keys} → Undoes (same_keys {K = K}) same_keys
same_undoes = record { class = λ k. refl; field = λ k. refl; method = λ k. refl; constructor = λ k. refl }

-- Programs of which the one has such locals, any number of them, have the same runs.
pub held_programs_are_alike : {K : Keys} (P Q : Program K) → ProgramTo same_keys (HoldsLocal same_keys P.rows) P Q → AlikeExactly same_keys P Q
held_programs_are_alike {K = K} P Q to =
    let Spot : Spots K = HoldsLocal same_keys P.rows in
    let c : Changes same_keys same_keys Spot 0 (Mapped same_keys) P Q = record { there = same_undoes; joins = mapped_joins same_keys; images = mapped_images same_keys; programs = to } in
    alike same_keys same_keys same_undoes 0 (Mapped same_keys) (λ u t. u ≡ t) (λ t u e. e) P Q to.rows.field_kind
    (starts_match same_keys Spot 0 (Mapped same_keys) P Q (programs_match same_keys same_keys Spot 0 (Mapped same_keys) P Q c
    (λ Z tables answered s stands frame me me' im A b b' B x l l' h.
    held_match (setting same_keys same_keys Spot 0 (Mapped same_keys) P Q c Z answered) Spot (turns_in same_keys same_keys Spot 0 (Mapped same_keys) P Q c Z answered) s stands frame me me' im A b b' B x l l' h)))

-- and the other way round
pub held_locals_go : {K : Keys} (P Q : Program K) → Q.rows ≡ P.rows → ProgramTo same_keys (HoldsLocal same_keys P.rows) P Q → AlikeExactly same_keys Q P
held_locals_go P Q rows to = turned_exactly P Q rows (held_programs_are_alike P Q to)
