-- A local holds a calm expression that goes past calm pieces to its place: behind statements, in blocks, in a declaration, an
-- `if`, a `return` or a lock, and through `synchronized`. `calm_match` reads from the program without the local to the one with
-- it; which of the two is the old program is a matter of the relation of traces, and of `Turned`.
use Rattle.std.proofs.Common.{◌≡◌, ◌⊎◌, ◌≤◌, ℕ, ◌+◌, Bool, IsTrue, List, [], ◌∷◌, ◌++◌, map, length, refl, sym, ap, ◌∙◌, subst, inl, inr, ⊎_elim}
use Rattle.jr_plans.specs.Plan.{done, and_then}
use Rattle.jr_plans.specs.Follow.{Both}
use Rattle.jr_plans.specs.Finite.{Finite, Each}
use Rattle.jr_plans.proofs.BothWays.{both_and}
use Rattle.jr_plans.proofs.Finishing.{and_then_assoc, finite_within}
use Rattle.jr_runs.specs.Keys.{Keys, At}
use Rattle.jr_runs.specs.Values.{Value, null}
use Rattle.jr_runs.specs.Actions.{Event}
use Rattle.jr_runs.specs.Rows.{Rows}
use Rattle.jr_runs.specs.Arithmetic.{Out, value, thrown}
use Rattle.jr_runs.specs.Core as core
use Rattle.jr_runs.specs.Core.{Exp, read, local, declare, Stmts}
use Rattle.jr_runs.specs.Evaluation.{Flow, goes_on, Step, on_value, next, local_at, with_local, exp, on_flow, stmts}
use Rattle.jr_runs.specs.KeyMaps.{KeyMap, value_image}
use Rattle.jr_runs.specs.Sets.{NumberSet}
use Rattle.jr_runs.specs.Standing.{Self, itself, held, nobody, unused, SelfIn, SelfIs, Standing, Stands, In, Frame, Holding, Shifted}
use Rattle.jr_runs.specs.Images.{Spots, ExpTo}
use Rattle.jr_runs.specs.Pairs.{OutRel, ResultRel, FlowRel, SomeReturns}
use Rattle.jr_runs.proofs.Locals.{written, not_written}
use Rattle.jr_runs.proofs.Numbers.{is_in, in_left, in_right, in_both, in_map, map_in}
use Rattle.jr_runs.proofs.Matching.{Setting, Matches}
use Rattle.jr_runs.proofs.ImageExps.{exp_match}
use Rattle.jr_runs.proofs.ImageStmts.{TurnsAnswered, looser}
use Rattle.jr_runs.proofs.Renaming.{Mapped}
use Rattle.jr_runs_held.specs.Footprint.{Access, OneMakes, Calm}
use Rattle.jr_runs_held.specs.Places.{Piece, run_pieces, CalmPieces, PiecesTo, User, Sequel, UserReturns, SequelsReturn, ListPlace, UserTo, SequelsTo}
use Rattle.jr_runs_held.proofs.Steps.{next_assoc, IsCame}
use Rattle.jr_runs_held.proofs.CalmCode.{Calmly, Kept, calm_exp, calm_pieces}
use Rattle.jr_runs_held.proofs.PlaceRuns.{any_come, calm_all_come, then_on, list_parts, list_returns}
use Rattle.jr_runs_held.proofs.PlaceMatch.{pieces_match, later_match}
use Rattle.jr_runs_held.proofs.WildSilent.{without, left_in, still_in}
use Rattle.jr_runs_held.proofs.CrossedPieces.{in_turn, crossed}
use Rattle.jr_runs_held.proofs.Quiet.{quiet, any_world}

-- How one of two pieces stands that write locals of their own: it leaves alone what the other writes, and all that it doesn't write.
abbrev pub beside : {K : Keys} → Standing K → (own other further : List ℕ) → Standing K
beside s own other further = record {
  code = record { mine = without other s.code.mine; at = s.code.at; self = s.code.self; classes = s.code.classes; known = without own s.code.mine ++ s.code.known; holds = []; casts = [] };
  others = further ++ (map s.code.at other ++ s.others);
}

module _ {K : Keys} (s : Standing K) (stands : Stands s) (own other further : List ℕ) (mine : (i : ℕ) → In i other → In i s.code.mine) (apart : (i : ℕ) → In i s.code.mine → In (s.code.at i) further → ⊥) where
  -- no image of one that the other doesn't write is written
  image_in : (i : ℕ) → In i s.code.mine → In (s.code.at i) (map s.code.at other) → In i other
  image_in i b o = let m = map_in s.code.at (s.code.at i) other o in subst (λ n. In n other) (sym (stands.injective i m.0 b (mine m.0 m.1) m.2)) m.1

  no_image : (j : ℕ) → In j s.others → In j (map s.code.at other) → ⊥
  no_image j o k = let d = map_in s.code.at j other k in stands.apart d.0 (mine d.0 d.1) (subst (λ n. In n s.others) d.2 o)

  self_in : (self : Self) → SelfIn self s.others → SelfIn self (further ++ (map s.code.at other ++ s.others))
  self_in itself h = tt
  self_in (held k) h = in_right k further (map s.code.at other ++ s.others) (in_right k (map s.code.at other) s.others h)
  self_in nobody h = tt
  self_in unused h = tt

  beside_stands : Stands (beside s own other further)
  beside_stands = record {
    injective = λ i j a b. stands.injective i j (left_in other s.code.mine i a).0 (left_in other s.code.mine j b).0;
    apart = λ i a o. (let p = left_in other s.code.mine i a in
        ⊎_elim (λ k. apart i p.0 k) (λ k. ⊎_elim (λ k2. p.1 (image_in i p.0 k2)) (λ k2. stands.apart i p.0 k2) (in_both (s.code.at i) (map s.code.at other) s.others k)) (in_both (s.code.at i) further (map s.code.at other ++ s.others) o));
    self = self_in s.code.self stands.self;
    held = tt;
    cast = tt;
  }

  module _ (r : KeyMap K) (R : Rows K) (frame inner : Frame K) (me me' : Value K) (im : Holding R r s.code frame me me') (same : (k : ℕ) → In k s.others → local_at inner.there k ≡ local_at frame.there k) where
    self_is : (self : Self) → SelfIn self s.others → SelfIs r self frame me me' → SelfIs r self inner me me'
    self_is itself k q = q
    self_is (held n) k q = same n k ∙ q
    self_is nobody k q = q
    self_is unused k q = q

    beside_holding : Holding R r (beside s own other further).code inner me me'
    beside_holding = record { self = self_is s.code.self stands.self im.self; classes = im.classes; holds = tt; casts = tt }

-- n: by how many actions a run that is cut may be continued; A, B: which locals agree before both lists, and behind them
pub record HoldsPastCalm {K : Keys} (own : Bool) (r : KeyMap K) (R : Rows K) (n : ℕ) (s : Standing K) (A : NumberSet) (few many : Stmts K) (B : NumberSet) : Type 0 where
  pub e : Exp K
  pub e' : Exp K
  pub number : ℕ
  pub fresh : (i : ℕ) → In i s.code.mine → s.code.at i ≡ number → ⊥
  pub fresh_others : In number s.others → ⊥
  pub place : At K
  pub read_at : At K
  pub name_at : At K
  pub rest : Stmts K
  pub many_is : many ≡ core.Stmts.more (declare place number e') rest
  -- e stands in the one list where the local is read in the other's rest
  pub pieces : List (Piece K)
  pub pieces' : List (Piece K)
  pub user : User K
  pub user' : User K
  pub sequels : List (Sequel K)
  pub sequels' : List (Sequel K)
  pub here : ListPlace own e few pieces user sequels
  pub there : ListPlace own (read read_at (local name_at number)) rest pieces' user' sequels'
  -- the footprints of the pieces and of e
  pub piece_reads : List ℕ
  pub piece_writes : List ℕ
  pub piece_accesses : List (Access K)
  pub piece_reads' : List ℕ
  pub piece_writes' : List ℕ
  pub piece_accesses' : List (Access K)
  pub e_reads : List ℕ
  pub e_writes : List ℕ
  pub e_accesses : List (Access K)
  pub e_reads' : List ℕ
  pub e_writes' : List ℕ
  pub e_accesses' : List (Access K)
  pub pieces_calm : CalmPieces own pieces piece_reads piece_writes piece_accesses
  pub pieces_calm' : CalmPieces own pieces' piece_reads' piece_writes' piece_accesses'
  pub e_calm : Calm own e e_reads e_writes e_accesses
  pub e_calm' : Calm own e' e_reads' e_writes' e_accesses'
  -- the bound is the number of accesses
  pub short : length piece_accesses + length e_accesses ≤ n
  pub no_more_pieces : length piece_accesses' ≤ length piece_accesses
  pub no_more : length e_accesses' ≤ length e_accesses
  -- no local is written by both, and none that the one writes is named by the other
  pub own_pieces : (i : ℕ) → In i piece_writes → In i s.code.mine
  pub own_e : (i : ℕ) → In i e_writes → In i s.code.mine
  pub not_both : (i : ℕ) → In i e_writes → In i piece_writes → ⊥
  pub e_writes_to : (j : ℕ) → In j e_writes' → In j (map s.code.at e_writes)
  pub pieces_before : NumberSet
  pub pieces_behind : NumberSet
  pub pieces_agree : (i : ℕ) → IsTrue (pieces_before i) → IsTrue (A i)
  pub pieces_to : PiecesTo r R (beside s piece_writes e_writes (number ∷ [])) pieces_before pieces pieces' pieces_behind
  pub e_before : NumberSet
  pub e_behind : NumberSet
  pub e_agree : (i : ℕ) → IsTrue (e_before i) → IsTrue (A i)
  pub e_to : ExpTo r R (beside s e_writes piece_writes []).code e_before e e' e_behind
  -- behind both
  pub together : NumberSet
  pub by_e : (i : ℕ) → IsTrue (together i) → In i e_writes → IsTrue (e_behind i)
  pub by_pieces : (i : ℕ) → IsTrue (together i) → (In i e_writes → ⊥) → IsTrue (pieces_behind i)
  pub used : NumberSet
  pub user_to : UserTo r R s together user user' used
  pub sequels_to : SequelsTo r R s used sequels sequels' B

-- two pieces in turn, and what the second's value leads to
turn_parts : {K : Keys} {A B C : Type 0} (p : Step K A) (f : A → Step K B) (k : B → Step K C) → and_then (in_turn p (on_value f)) (λ c. on_value k c.1) ≡ next p (λ a. next (f a) k)
turn_parts {K = K} {A = A} {B = B} {C = C} p f k = and_then_assoc {B = Out A × Out B} p (λ a. and_then (on_value f a) (λ b. done (a, b))) (λ c. on_value k c.1) ∙ (λ i. and_then p (λ a. (one a ∙ go a) i))
  where
    one : (a : Out A) → and_then {A = Out A × Out B} (and_then {B = Out A × Out B} (on_value f a) (λ b. done (a, b))) (λ c. on_value k c.1) ≡ and_then (on_value f a) (on_value {K = K} {A = B} {B = C} k)
    one a = and_then_assoc {B = Out A × Out B} (on_value f a) (λ b. done (a, b)) (λ c. on_value k c.1)

    go : (a : Out A) → and_then (on_value f a) (on_value k) ≡ on_value {K = K} {A = A} {B = C} (λ x. next (f x) k) a
    go (value x) = refl
    go (thrown t) = refl

module _ {K : Keys} (g : Setting K) (Spot : Spots K) (turns : TurnsAnswered g Spot) (s : Standing K) (stands : Stands s) (frame : Frame K) (me me' : Value K) (im : Holding g.old g.keys s.code frame me me')
    (own : Bool) (some : IsTrue own → me ≡ null → ⊥) (some' : IsTrue own → me' ≡ null → ⊥) (A : NumberSet) (few many : Stmts K) (B : NumberSet) (x : HoldsPastCalm own g.keys g.old g.more s A few many B)
    (cross : (u u' v v' : List (Event K)) → Each (OneMakes g.old x.piece_accesses) u → Each (OneMakes g.old x.e_accesses) v → Mapped g.keys u u' → Mapped g.keys v v' → g.relation (u ++ v) (v' ++ u'))
    (l l' : List (Value K)) (h : Shifted g.keys s frame A l l') where
  abbrev Pair : Type 0
  Pair = Value K × List (Value K)

  abbrev for_pieces : Standing K
  for_pieces = beside s x.piece_writes x.e_writes (x.number ∷ [])

  abbrev for_e : Standing K
  for_e = beside s x.e_writes x.piece_writes []

  -- ---- the four pieces

  abbrev first : Step K (List (Value K))
  first = run_pieces g.old me x.pieces l

  abbrev second : List (Value K) → Step K Pair
  second m = exp g.old me x.e m

  abbrev first' : Step K Pair
  first' = exp g.new me' x.e' l'

  abbrev second' : Pair → Step K (List (Value K))
  second' r = run_pieces g.new me' x.pieces' (with_local r.1 x.number r.0)

  calm_first : Calmly g.old x.piece_accesses (Kept x.piece_writes l) first
  calm_first = calm_pieces g.old me own some x.pieces x.piece_reads x.piece_writes x.piece_accesses x.pieces_calm l

  calm_second : (m : List (Value K)) → Calmly g.old x.e_accesses (λ a. Kept x.e_writes m a.1) (second m)
  calm_second m = calm_exp g.old me own some x.e x.e_reads x.e_writes x.e_accesses x.e_calm m

  calm_first' : Calmly g.new x.e_accesses' (λ a. Kept x.e_writes' l' a.1) first'
  calm_first' = calm_exp g.new me' own some' x.e' x.e_reads' x.e_writes' x.e_accesses' x.e_calm' l'

  finite_second : (a : Out (List (Value K))) → Finite (OneMakes g.old x.e_accesses) (on_value second a) (length x.e_accesses)
  finite_second (value m) = (calm_second m).finite
  finite_second (thrown f) = tt

  finite_first' : Finite (OneMakes g.new x.e_accesses') first' (length x.e_accesses)
  finite_first' = finite_within (OneMakes g.new x.e_accesses') (OneMakes g.new x.e_accesses') first' (length x.e_accesses') (length x.e_accesses) x.no_more (λ a i. i) calm_first'.finite

  one_finite' : (r : Pair) → Finite (OneMakes g.new x.piece_accesses') (second' r) (length x.piece_accesses)
  one_finite' r = finite_within (OneMakes g.new x.piece_accesses') (OneMakes g.new x.piece_accesses') (second' r) (length x.piece_accesses') (length x.piece_accesses) x.no_more_pieces (λ a i. i)
      (calm_pieces g.new me' own some' x.pieces' x.piece_reads' x.piece_writes' x.piece_accesses' x.pieces_calm' (with_local r.1 x.number r.0)).finite

  finite_second' : (b : Out Pair) → Finite (OneMakes g.new x.piece_accesses') (on_value second' b) (length x.piece_accesses)
  finite_second' (value r) = one_finite' r
  finite_second' (thrown f) = tt

  -- ---- the pieces match, from where e' came to r

  abbrev piece_frame : Pair → Frame K
  piece_frame r = record { here = l; there = with_local r.1 x.number r.0 }

  not_number : (j : ℕ) → In j s.others → j ≡ x.number → ⊥
  not_number j o e = x.fresh_others (subst (λ n. In n s.others) e o)

  -- what e' leaves alone
  kept_image : (r : Pair) → Kept x.e_writes' l' r.1 → (j : ℕ) → (In j (map s.code.at x.e_writes) → ⊥) → (j ≡ x.number → ⊥) → local_at (with_local r.1 x.number r.0) j ≡ local_at l' j
  kept_image r k j d n = not_written r.1 x.number j r.0 n ∙ k j (λ i. d (x.e_writes_to j i))

  further_apart : (i : ℕ) → In i s.code.mine → In (s.code.at i) (x.number ∷ []) → ⊥
  further_apart i b o = ⊎_elim (λ (e : s.code.at i ≡ x.number). x.fresh i b e) (λ (z : In (s.code.at i) []). z) o

  none_further : (i : ℕ) → In i s.code.mine → In (s.code.at i) [] → ⊥
  none_further i b o = o

  abbrev EndP : Pair → List (Value K) → List (Value K) → Type 0
  EndP r m m' = Shifted g.keys for_pieces (piece_frame r) x.pieces_behind m m'

  pieces_shifted : (r : Pair) → Kept x.e_writes' l' r.1 → Shifted g.keys for_pieces (piece_frame r) x.pieces_before l (with_local r.1 x.number r.0)
  pieces_shifted r k = record {
    moved = λ i a c.
        let p = left_in x.e_writes s.code.mine i a in
        kept_image r k (s.code.at i) (λ o. p.1 (image_in s stands x.piece_writes x.e_writes (x.number ∷ []) x.own_e further_apart i p.0 o)) (λ e. x.fresh i p.0 e) ∙ h.moved i p.0 (x.pieces_agree i c);
    others = λ j o. refl;
    known = λ i o. refl;
  }

  pieces_both : (r : Pair) → Kept x.e_writes' l' r.1 → Both 0 (Mapped g.keys) g.sides (OutRel (EndP r)) first (second' r)
  pieces_both r k = any_world (Mapped g.keys) g.sides (OutRel (EndP r)) first (second' r) (OneMakes g.old x.piece_accesses) (OneMakes g.new x.piece_accesses') (length x.piece_accesses) (length x.piece_accesses) calm_first.finite (one_finite' r)
      (pieces_match (quiet g) for_pieces (beside_stands s stands x.piece_writes x.e_writes (x.number ∷ []) x.own_e further_apart) (piece_frame r) me me'
      (beside_holding s stands x.piece_writes x.e_writes (x.number ∷ []) x.own_e further_apart g.keys g.old frame (piece_frame r) me me' im
      (λ j o. kept_image r k j (no_image s stands x.piece_writes x.e_writes (x.number ∷ []) x.own_e further_apart j o) (not_number j o) ∙ h.others j o))
      x.pieces_before x.pieces_behind x.pieces x.pieces' x.pieces_to l (with_local r.1 x.number r.0) (pieces_shifted r k))

  -- ---- the expressions match, from where the pieces came to m

  abbrev e_frame : List (Value K) → Frame K
  e_frame m = record { here = m; there = l' }

  abbrev EndE : List (Value K) → Pair → Pair → Type 0
  EndE m a b = ResultRel g.keys for_e (e_frame m) x.e_behind a b

  e_shifted : (m : List (Value K)) → Kept x.piece_writes l m → Shifted g.keys for_e (e_frame m) x.e_before m l'
  e_shifted m k = record {
    moved = λ i a c. (let p = left_in x.piece_writes s.code.mine i a in h.moved i p.0 (x.e_agree i c) ∙ ap (value_image g.keys) (sym (k i p.1)));
    others = λ j o. refl;
    known = λ i o. refl;
  }

  e_both : (m : List (Value K)) → Kept x.piece_writes l m → Both 0 (Mapped g.keys) g.sides (OutRel (EndE m)) (second m) first'
  e_both m k = any_world (Mapped g.keys) g.sides (OutRel (EndE m)) (second m) first' (OneMakes g.old x.e_accesses) (OneMakes g.new x.e_accesses') (length x.e_accesses) (length x.e_accesses) (calm_second m).finite finite_first'
      (exp_match (quiet g) for_e (beside_stands s stands x.e_writes x.piece_writes [] x.own_pieces none_further) (e_frame m) me me'
      (beside_holding s stands x.e_writes x.piece_writes [] x.own_pieces none_further g.keys g.old frame (e_frame m) me me' im (λ j o. h.others j o))
      x.e_before x.e_behind x.e x.e' x.e_to m l' (e_shifted m k))

  -- ---- they change places

  abbrev Qp : Out Pair → Out (List (Value K)) → Out (List (Value K)) → Type 0
  Qp (value r) = OutRel (EndP r)
  Qp (thrown f) = λ a b. ⊥

  abbrev Qq : Out (List (Value K)) → Out Pair → Out Pair → Type 0
  Qq (value m) = OutRel (EndE m)
  Qq (thrown f) = λ a b. ⊥

  ps : (b : Out Pair) → IsCame (λ (a : Pair). Kept x.e_writes' l' a.1) b → Both 0 (Mapped g.keys) g.sides (Qp b) first (on_value second' b)
  ps (value r) k = pieces_both r k
  ps (thrown f) k = absurd k

  qs : (a : Out (List (Value K))) → IsCame (Kept x.piece_writes l) a → Both 0 (Mapped g.keys) g.sides (Qq a) (on_value second a) first'
  qs (value m) k = e_both m k
  qs (thrown f) k = absurd k

  abbrev InOtherOrder : Out (List (Value K)) × Out Pair → Out Pair × Out (List (Value K)) → Type 0
  InOtherOrder c d = Qq c.0 c.1 d.0 × Qp d.0 c.0 d.1

  changed_places : Both g.more g.relation g.sides InOtherOrder (in_turn first (on_value second)) (in_turn first' (on_value second'))
  changed_places = crossed g.sides (Mapped g.keys) g.relation (length x.piece_accesses) (length x.e_accesses) g.more x.short
      (OneMakes g.old x.piece_accesses) (OneMakes g.old x.e_accesses) (OneMakes g.new x.piece_accesses') (OneMakes g.new x.e_accesses') cross
      first (on_value second) first' (on_value second') calm_first.finite finite_second finite_first' finite_second'
      (IsCame (Kept x.piece_writes l)) (IsCame (λ a. Kept x.e_writes' l' a.1)) calm_first.comes calm_first'.comes Qp Qq ps qs

  -- ---- behind both

  behind_both : (m m' : List (Value K)) (r r' : Pair) → EndE m r r' → EndP r' m m' → ResultRel g.keys s frame x.together r (local_at m' x.number, m')
  behind_both m m' r r' k q = (
    q.others x.number (inl refl) ∙ written r'.1 x.number r'.0 ∙ k.0,
    record {
      moved = λ i b c. ⊎_elim
          (λ (w : In i x.e_writes). q.others (s.code.at i) (inr (in_left (s.code.at i) (map s.code.at x.e_writes) s.others (in_map s.code.at i x.e_writes w)))
          ∙ not_written r'.1 x.number (s.code.at i) r'.0 (λ e. x.fresh i b e)
          ∙ k.1.moved i (still_in x.piece_writes s.code.mine i b (λ p. x.not_both i w p)) (x.by_e i c w))
          (λ (w : In i x.e_writes → ⊥). q.moved i (still_in x.e_writes s.code.mine i b w) (x.by_pieces i c w)
          ∙ ap (value_image g.keys) (sym (k.1.known i (in_left i (without x.e_writes s.code.mine) s.code.known (still_in x.e_writes s.code.mine i b w)))))
          (is_in i x.e_writes);
      others = λ j o. q.others j (inr (in_right j (map s.code.at x.e_writes) s.others o)) ∙ not_written r'.1 x.number j r'.0 (not_number j o) ∙ k.1.others j (in_right j (map s.code.at x.piece_writes) s.others o) ∙ h.others j o;
      known = λ i o. k.1.known i (in_right i (without x.e_writes s.code.mine) s.code.known o) ∙ q.known i (in_right i (without x.piece_writes s.code.mine) s.code.known o) ∙ h.known i o;
    },
  )

  abbrev To : Type 0 → Flow K → Flow K → Type 0
  To M f f' = FlowRel g.keys (Shifted g.keys s frame B) M f f'

  abbrev M : Type 0
  M = SequelsReturn x.sequels (UserReturns x.user)

  abbrev reading : Exp K
  reading = read x.read_at (local x.name_at x.number)

  abbrev on : Pair → Step K (Flow K)
  on = then_on g.old me own x.e x.user x.sequels

  abbrev on' : List (Value K) → Step K (Flow K)
  on' m = then_on g.new me' own reading x.user' x.sequels' (local_at m x.number, m)

  later : (c : Out (List (Value K)) × Out Pair) (d : Out Pair × Out (List (Value K))) → InOtherOrder c d → Matches g (To M) (on_value on c.1) (on_value on' d.1)
  later c d t = go c.0 c.1 d.0 d.1 t.0 t.1
    where
      go : (a : Out (List (Value K))) (b b' : Out Pair) (a' : Out (List (Value K))) → Qq a b b' → Qp b' a a' → Matches g (To M) (on_value on b) (on_value on' a')
      go (value m) (value r) (value r') (value m') k q = later_match g s stands frame me me' im Spot turns x.together x.used B x.user x.user' x.sequels x.sequels' x.user_to x.sequels_to r (local_at m' x.number, m') (behind_both m m' r r' k q)
      go (value m) (value r) (value r') (thrown f) k q = absurd q
      go (value m) (value r) (thrown f) a' k q = absurd k
      go (value m) (thrown f) (value r') a' k q = absurd k
      go (value m) (thrown f) (thrown f') a' k q = absurd q
      go (thrown f) b b' a' k q = absurd k

  -- ---- the lists

  old_is : stmts g.old me few l ≡ and_then (in_turn first (on_value second)) (λ c. on_value on c.1)
  old_is = list_parts g.old me own x.e few x.pieces x.user x.sequels x.here
      (λ z. (some, calm_all_come g.old me own some x.pieces x.piece_reads x.piece_writes x.piece_accesses x.pieces_calm, λ m. any_come g.old me (λ a. Kept x.e_writes m a.1) (second m) (calm_second m).comes)) l
      ∙ sym (turn_parts first second on)

  rest_is : (m : List (Value K)) → stmts g.new me' x.rest m ≡ next (run_pieces g.new me' x.pieces' m) on'
  rest_is m = list_parts g.new me' own reading x.rest x.pieces' x.user' x.sequels' x.there
      (λ z. (some', calm_all_come g.new me' own some' x.pieces' x.piece_reads' x.piece_writes' x.piece_accesses' x.pieces_calm', λ o. tt)) m

  new_is : stmts g.new me' (core.Stmts.more (declare x.place x.number x.e') x.rest) l' ≡ and_then (in_turn first' (on_value second')) (λ c. on_value on' c.1)
  new_is = next_assoc first' (λ r. done (value (goes_on (with_local r.1 x.number r.0)))) (λ f. on_flow f (λ m. stmts g.new me' x.rest m))
      ∙ (λ i. next first' (λ r. rest_is (with_local r.1 x.number r.0) i))
      ∙ sym (turn_parts first' second' on')

  both_match : Matches g (To M) (and_then (in_turn first (on_value second)) (λ c. on_value on c.1)) (and_then (in_turn first' (on_value second')) (λ c. on_value on' c.1))
  both_match = both_and g.more g.relation g.joins g.sides InOtherOrder (OutRel (To M)) (in_turn first (on_value second)) (λ c. on_value on c.1) (in_turn first' (on_value second')) (λ c. on_value on' c.1) changed_places later

  -- such a list matches
  pub calm_match : Matches g (To (SomeReturns few)) (stmts g.old me few l) (stmts g.new me' many l')
  calm_match = subst (λ b. Matches g (To (SomeReturns few)) (stmts g.old me few l) (stmts g.new me' b l')) (sym x.many_is)
      (subst (λ p. Matches g (To (SomeReturns few)) p (stmts g.new me' (core.Stmts.more (declare x.place x.number x.e') x.rest) l')) (sym old_is)
      (subst (λ p. Matches g (To (SomeReturns few)) (and_then (in_turn first (on_value second)) (λ c. on_value on c.1)) p) (sym new_is)
      (looser g s stands frame me me' im B B (λ i a. a) M (SomeReturns few) (list_returns own x.e few x.pieces x.user x.sequels x.here)
      (and_then (in_turn first (on_value second)) (λ c. on_value on c.1)) (and_then (in_turn first' (on_value second')) (λ c. on_value on' c.1)) both_match)))
