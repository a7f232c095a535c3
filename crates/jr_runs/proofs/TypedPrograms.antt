-- The runs of a well-typed program match those of another that is its image, but for changed expressions and statement lists, which
-- may use that all calls are well made. Dispatch is asked where a method may be called alone.
use Rattle.std.proofs.Common.{◌≡◌, ℕ, List, [], ◌∷◌, map, Option, Some, None, unwrap_or, IsTrue, refl, ap, subst}
use Rattle.jr_plans.specs.Follow.{Joins, Sides, Both, CallBoth, AnsweredBoth, sides_at}
use Rattle.jr_plans.specs.Safe.{WellTables}
use Rattle.jr_plans.proofs.Safety.{narrowed_sides, frame_safe}
use Rattle.jr_runs.specs.Keys.{Keys}
use Rattle.jr_runs.specs.Values.{Value}
use Rattle.jr_runs.specs.Actions.{Event}
use Rattle.jr_runs.specs.Rows.{Rows}
use Rattle.jr_runs.specs.Fitting.{class_of, has_class}
use Rattle.jr_runs.specs.Arithmetic.{Out}
use Rattle.jr_runs.specs.Core.{Program}
use Rattle.jr_runs.specs.Evaluation.{Flow, Call, invoke, construct, turn, table}
use Rattle.jr_runs.specs.Running.{Start, of_method, of_constructor, call_of}
use Rattle.jr_runs.specs.Starting.{IsReceiver, IsStart}
use Rattle.jr_runs.specs.KeyMaps.{KeyMap, Undoes, value_image, action_image, start_image}
use Rattle.jr_runs.specs.Images.{AllSpots, lists_alone, NoSpot}
use Rattle.jr_runs.specs.KeptDeclarations.{DispatchKept}
use Rattle.jr_runs.specs.TypedImages.{TypedProgramTo}
use Rattle.jr_runs.specs.Pairs.{AnswerRel, PairImage, PostImage}
use Rattle.jr_runs.specs.Typing.{WellTyped}
use Rattle.jr_runs.specs.TypedRuns.{WellMade, WellAnswered}
use Rattle.jr_runs.specs.Alike.{AlikeExactly}
use Rattle.jr_runs.proofs.Guarded.{Guarded, safe_calls}
use Rattle.jr_runs.proofs.GuardedStmts.{TurnsKnown, SpotsKnown}
use Rattle.jr_runs.proofs.GuardedPrograms.{Unfolded, Bodies, calls_known}
use Rattle.jr_runs.proofs.TypesKept.{types_are_kept}
use Rattle.jr_runs.proofs.StartImages.{mine_above, start_to}
use Rattle.jr_runs.proofs.Kept.{nothing_changed}
use Rattle.jr_runs.proofs.Halves.{alike}
use Rattle.jr_runs.proofs.Renaming.{Mapped, mapped_joins, mapped_images}

-- What a well-made call on an object finds, the new program finds the image of: where nothing is found the method itself is run,
-- on an object of its class.
module _ {K : Keys} (r : KeyMap K) (old new : Rows K) (kept : DispatchKept r old new) (c : K.class) (m : K.method) (v : Value K) (vs : List (Value K)) (has : IsTrue (old.has_method m)) (of : class_of old v ≡ Some c) where
  none_there : (o : Option K.class) → old.owner m ≡ o → IsReceiver old o v → old.dispatch c m ≡ None → new.dispatch (r.class c) (r.method m) ≡ None
  none_there None e i d = absurd (nothing (subst (λ x. class_of old x ≡ Some c) i of))
    where
      nothing : None ≡ Some c → ⊥
      nothing q = cc
  none_there (Some w) e i d = kept.none c w m has d e (subst (λ o. IsTrue (has_class old w o)) of i)

  at_found : (d : Option K.method) → old.dispatch c m ≡ d → WellMade old (invoke (unwrap_or d m) v vs) → IsTrue (old.has_method (unwrap_or d m)) × (unwrap_or (new.dispatch (r.class c) (r.method m)) (r.method m) ≡ r.method (unwrap_or d m))
  at_found (Some f) d made = (made.0, ap (λ o. unwrap_or o (r.method m)) (kept.some c m f has d))
  at_found None d made = (has, ap (λ o. unwrap_or o (r.method m)) (none_there (old.owner m) refl made.1 d))

  pub well_found : WellMade old (invoke (unwrap_or (old.dispatch c m) m) v vs)
      → IsTrue (old.has_method (unwrap_or (old.dispatch c m) m)) × (unwrap_or (new.dispatch (r.class c) (r.method m)) (r.method m) ≡ r.method (unwrap_or (old.dispatch c m) m))
  well_found made = at_found (old.dispatch c m) refl made

-- two well-typed programs, W relates an action and its image
pub record TypedChanges {K : Keys} (r q : KeyMap K) (Spot : AllSpots K) (n : ℕ) (W : List (Event K) → List (Event K) → Type 0) (P Q : Program K) : Type 1 where
  pub there : Undoes q r
  pub joins : Joins W
  pub images : (x y : Event K) → y.action ≡ action_image r x.action → W (x ∷ []) (y ∷ [])
  pub typed : WellTyped P
  pub typed_new : WellTyped Q
  pub programs : TypedProgramTo r Spot P Q

module _ {K : Keys} (r q : KeyMap K) (Spot : AllSpots K) (n : ℕ) (W : List (Event K) → List (Event K) → Type 0) (P Q : Program K) (c : TypedChanges r q Spot n W P Q) where
  abbrev BothSides : Type 1
  BothSides = Sides (Event K) (Call K) (Out (Flow K)) (Call K) (Out (Flow K))

  -- the worlds without calls that aren't well made
  abbrev pub well_sides : BothSides → BothSides
  well_sides Z = narrowed_sides (WellMade P.rows) (WellAnswered P.rows) (WellMade Q.rows) (WellAnswered Q.rows) Z

  -- calls that belong together, both well made
  abbrev pub TypedPair : Call K → Call K → Type 0
  TypedPair d d' = PairImage r P.rows Spot d d' × WellMade P.rows d × WellMade Q.rows d'

  abbrev pub TypedPost : (d d' : Call K) → TypedPair d d' → Out (Flow K) → Out (Flow K) → Type 0
  TypedPost d d' pair = PostImage r P.rows Spot d d' pair.0

  abbrev pub Answered : BothSides → Type 0
  Answered Z = AnsweredBoth n W TypedPair TypedPost (well_sides Z)

  abbrev pub typed_guard : (Z : BothSides) → Answered Z → Guarded r P.rows Q.rows
  typed_guard Z answered = record {
    back = q;
    there = c.there;
    more = n;
    relation = W;
    joins = c.joins;
    images = c.images;
    sides = well_sides Z;
    rows = c.programs.rows;
    old_pre = WellMade P.rows;
    old_good = WellAnswered P.rows;
    new_pre = WellMade Q.rows;
    new_good = WellAnswered Q.rows;
    trusted = record { in_old_given = λ d t o h e. e.1; in_new_found = λ d t o h e. e.1; in_new_given = λ d t o h e. e.1; in_old_found = λ d t o h e. e.1 };
    finds = λ k m v vs has of made. well_found r P.rows Q.rows c.programs.dispatch k m v vs has of made;
    methods = λ m v vs has made made'. answered (invoke m v vs) (invoke (r.method m) (value_image r v) (map (value_image r) vs)) ((has, refl, refl, refl), made, made');
    constructors = λ k v vs has made made'. answered (construct k v vs) (construct (r.constructor k) (value_image r v) (map (value_image r) vs)) ((has, refl, refl, refl), made, made');
  }

  abbrev pub typed_turns : (Z : BothSides) (answered : Answered Z) → TurnsKnown (typed_guard Z answered) Spot
  typed_turns Z answered = λ me x b l me' x' b' l' t made made'. answered (turn me x b l) (turn me' x' b' l') (t, made, made')

  -- what the changed statement lists owe
  abbrev pub TypedSpotsMatch : Type 1
  TypedSpotsMatch = (Z : BothSides) (answered : Answered Z) → Unfolded P Q (typed_guard Z answered) → SpotsKnown (typed_guard Z answered) Spot

  bodies : Bodies r Spot P Q (WellMade P.rows)
  bodies = record {
    owner = P.rows.owner;
    method = c.programs.methods;
    method_mine = λ m me args made. mine_above P.rows c.typed.rows (P.rows.owner m) me made.1;
    constructor_owner = λ k. Some (P.rows.constructor_class k);
    constructor = c.programs.constructors;
    constructor_mine = λ k me args made. mine_above P.rows c.typed.rows (Some (P.rows.constructor_class k)) me made.1;
  }

  module _ (spots : TypedSpotsMatch) where
    match : (fuel : ℕ) → AnsweredBoth n W (λ d d'. TypedPair d d' × WellMade P.rows d × WellMade Q.rows d') (λ d d' pair o o'. TypedPost d d' pair.0 o o' × WellAnswered P.rows d o × WellAnswered Q.rows d' o') (sides_at (table P) (table Q) fuel)
    match = frame_safe (WellMade P.rows) (WellAnswered P.rows) (WellMade Q.rows) (WellAnswered Q.rows) n W c.joins (table P) (table Q) (types_are_kept P c.typed) (types_are_kept Q c.typed_new) TypedPair TypedPost (λ d d' pair h. pair.2) (λ d d' pair h. pair.1) each
      where
        each : (Z : BothSides) → WellTables (WellMade P.rows) (WellMade Q.rows) (table P) (table Q) (well_sides Z) → (answered : Answered Z) (d d' : Call K) (pair : TypedPair d d') → WellMade P.rows d → WellMade Q.rows d' → Both n W (well_sides Z) (TypedPost d d' pair) (table P d) (table Q d')
        each Z tables answered d d' pair h h' =
            let known : Unfolded P Q (typed_guard Z answered) = record { tables = tables; old_safe = types_are_kept P c.typed; new_safe = types_are_kept Q c.typed_new } in
            calls_known P Q (typed_guard Z answered) Spot (typed_turns Z answered) (spots Z answered known) bodies d d' pair.0 h
            (safe_calls (WellMade P.rows) (WellAnswered P.rows) (WellAnswered P.rows d) (table P d) (types_are_kept P c.typed d h)) (safe_calls (WellMade Q.rows) (WellAnswered Q.rows) (WellAnswered Q.rows d') (table Q d') (types_are_kept Q c.typed_new d' h'))

    weaker : (fuel : ℕ) (A B : Out (Flow K) → Out (Flow K) → Type 0) (d d' : Call K) → ((o o' : Out (Flow K)) → A o o' → B o o') → CallBoth n W (sides_at (table P) (table Q) fuel) A d d' → CallBoth n W (sides_at (table P) (table Q) fuel) B d d'
    weaker fuel A B d d' j f = record {
      forth = record { ended = λ t a h. let e = f.forth.ended t a h in (e.0, e.1, e.2, j a e.1 e.3, e.4); begun = f.forth.begun };
      back = record { ended = λ t a h. let e = f.back.ended t a h in (e.0, e.1, e.2, j e.1 a e.3, e.4); begun = f.back.begun };
    }

    -- Runs of methods and constructors on what fits match.
    pub typed_programs_match : (x : Start K) → IsStart P.rows x → (fuel : ℕ) → CallBoth n W (sides_at (table P) (table Q) fuel) (AnswerRel r) (call_of x) (call_of (start_image r x))
    typed_programs_match (of_method m me args) h fuel =
        let d = invoke m me args in
        let d' = invoke (r.method m) (value_image r me) (map (value_image r) args) in
        let h' = start_to r P.rows Q.rows c.programs.rows c.programs.signatures c.typed_new.rows (of_method m me args) h in
        weaker fuel (λ o o'. AnswerRel r o o' × WellAnswered P.rows d o × WellAnswered Q.rows d' o') (AnswerRel r) d d' (λ o o' e. e.0) (match fuel d d' (((h.0, refl, refl, refl), h, h'), h, h'))
    typed_programs_match (of_constructor k me args) h fuel =
        let d = construct k me args in
        let d' = construct (r.constructor k) (value_image r me) (map (value_image r) args) in
        let h' = start_to r P.rows Q.rows c.programs.rows c.programs.signatures c.typed_new.rows (of_constructor k me args) h in
        weaker fuel (λ o o'. AnswerRel r o o' × WellAnswered P.rows d o × WellAnswered Q.rows d' o') (AnswerRel r) d d' (λ o o' e. e.0) (match fuel d d' (((h.0, refl, refl, refl), h, h'), h, h'))

-- Where the same actions are made, one by one, such programs are alike.
pub typed_alike : {K : Keys} (r s : KeyMap K) (Spot : AllSpots K) → Undoes r s → (P Q : Program K) (c : TypedChanges r s Spot 0 (Mapped r) P Q) → TypedSpotsMatch r s Spot 0 (Mapped r) P Q c → AlikeExactly r P Q
typed_alike r s Spot undoes P Q c spots = alike r s undoes 0 (Mapped r) (λ u t. u ≡ t) (λ t u e. e) P Q c.programs.rows.field_kind (λ x i fuel. typed_programs_match r s Spot 0 (Mapped r) P Q c spots x i fuel)

pub typed_changes : {K : Keys} (r s : KeyMap K) (Spot : AllSpots K) → Undoes s r → (P Q : Program K) → WellTyped P → WellTyped Q → TypedProgramTo r Spot P Q → TypedChanges r s Spot 0 (Mapped r) P Q
typed_changes r s Spot there P Q typed typed' to = record { there = there; joins = mapped_joins r; images = mapped_images r; typed = typed; typed_new = typed'; programs = to }

-- Nothing is changed, and methods may have gone up.
pub typed_images_are_alike : {K : Keys} (r s : KeyMap K) → Undoes r s → Undoes s r → (P Q : Program K) → WellTyped P → WellTyped Q → TypedProgramTo r (lists_alone (NoSpot {K = K})) P Q → AlikeExactly r P Q
typed_images_are_alike {K = K} r s undoes there P Q typed typed' to =
    let c : TypedChanges r s (lists_alone (NoSpot {K = K})) 0 (Mapped r) P Q = typed_changes r s (lists_alone (NoSpot {K = K})) there P Q typed typed' to in
    typed_alike r s (lists_alone (NoSpot {K = K})) undoes P Q c (λ Z answered known. nothing_changed (typed_guard r s (lists_alone (NoSpot {K = K})) 0 (Mapped r) P Q c Z answered))
