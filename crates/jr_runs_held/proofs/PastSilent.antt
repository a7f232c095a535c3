-- A local holds an expression of any kind, which goes past silent pieces to its place: behind statements, in blocks, in a
-- declaration, an `if`, a `return` or a lock. `past_match` reads from the program without the local to the one with it, and by
-- `Turned` the other way round.
use Rattle.std.proofs.Common.{◌≡◌, ◌⊎◌, ℕ, true, List, [], map, IsTrue, refl, sym, ap, ◌∙◌, subst, inr, ⊎_elim}
use Rattle.jr_plans.specs.Plan.{done}
use Rattle.jr_plans.specs.Reach.{Ends}
use Rattle.jr_runs.specs.Keys.{Keys, At}
use Rattle.jr_runs.specs.Values.{Value}
use Rattle.jr_runs.specs.Rows.{Rows}
use Rattle.jr_runs.specs.Arithmetic.{value}
use Rattle.jr_runs.specs.Core as core
use Rattle.jr_runs.specs.Core.{Exp, read, local, declare, Stmts, Program}
use Rattle.jr_runs.specs.Evaluation.{Flow, goes_on, Step, next, local_at, with_local, exp, on_flow, stmts}
use Rattle.jr_runs.specs.KeyMaps.{KeyMap, value_image, same_keys}
use Rattle.jr_runs.specs.Sets.{NumberSet, with_all}
use Rattle.jr_runs.specs.Standing.{Self, itself, unused, SelfIn, SelfIs, Standing, Stands, In, Frame, no_frame, Holding, Shifted}
use Rattle.jr_runs.specs.Images.{Spots, ExpTo, ProgramTo}
use Rattle.jr_runs.specs.Pairs.{OutRel, ResultRel, FlowRel, SomeReturns}
use Rattle.jr_runs.specs.Alike.{AlikeExactly}
use Rattle.jr_runs.proofs.Matching.{Setting, Matches, match_next}
use Rattle.jr_runs.proofs.ImageStmts.{TurnsAnswered, looser}
use Rattle.jr_runs.proofs.ImagePrograms.{Changes, setting, turns_in, programs_match}
use Rattle.jr_runs.proofs.Halves.{alike, starts_match}
use Rattle.jr_runs.proofs.Renaming.{Mapped, mapped_joins, mapped_images}
use Rattle.jr_runs_held.specs.Places.{Piece, run_pieces, CalmPieces, PiecesTo, User, Sequel, UserReturns, SequelsReturn, ListPlace, UserTo, SequelsTo}
use Rattle.jr_runs_held.proofs.Steps.{next_assoc, one_value}
use Rattle.jr_runs_held.proofs.SilentCode.{PieceTwins, piece_twins}
use Rattle.jr_runs_held.proofs.PlaceRuns.{LeavesIn, then_on, list_parts, list_returns}
use Rattle.jr_runs_held.proofs.PlaceMatch.{pieces_match, later_match}
use Rattle.jr_runs_held.proofs.WildSilent.{Update, past, past_and_held}
use Rattle.jr_runs_held.proofs.HeldLocal.{same_undoes}
use Rattle.jr_runs_held.proofs.Turned.{turned_exactly}

-- what comes to values on both sides comes to related ones
pub matched : {K : Keys} (g : Setting K) {A A' : Type 0} (Q : A → A' → Type 0) (p : Step K A) (p' : Step K A') (a : A) (b : A') → p ≡ done (value a) → p' ≡ done (value b) → Matches g Q p p' → Q a b
matched {K = K} g {A = A} {A' = A'} Q p p' a b e e' f =
    let d = f.forth.ended [] (value a) (subst (λ x. Ends g.sides.old_given x [] (value a)) (sym e) (refl, refl)) in
    let k = subst (λ x. Ends g.sides.new_found x d.0 d.1) e' d.2 in
    subst (λ o. OutRel Q (value a) o) (sym k.1) d.3

-- Silent pieces alone: no further local plays a part, nor what is known.
abbrev pub bare : {K : Keys} → Standing K → Self → Standing K
bare s x = record {
  code = record { mine = s.code.mine; at = s.code.at; self = x; classes = []; known = []; holds = []; casts = [] };
  others = [];
}

-- silent pieces and their image
pub record SilentPieces {K : Keys} (r : KeyMap K) (R : Rows K) (s : Standing K) (bs bs' : List (Piece K)) (reads writes : List ℕ) : Type 0 where
  pub reads' : List ℕ
  pub writes' : List ℕ
  pub calm : CalmPieces true bs reads writes []
  pub calm' : CalmPieces true bs' reads' writes' []
  pub writes_to : (j : ℕ) → In j writes' → In j (map s.code.at writes)
  pub own_reads : (i : ℕ) → In i reads → In i s.code.mine
  pub own_writes : (i : ℕ) → In i writes → In i s.code.mine
  pub unknown : (i : ℕ) → In i writes → In i s.code.known → ⊥
  -- they name `this` where it is itself, or don't name it
  pub self : Self
  pub names : (self ≡ unused) ⊎ ((self ≡ itself) × (s.code.self ≡ itself))
  pub before : NumberSet
  pub behind : NumberSet
  pub needs : (i : ℕ) → IsTrue (before i) → In i reads
  pub gives : (i : ℕ) → In i writes → IsTrue (behind i)
  pub to : PiecesTo r R (bare s self) before bs bs' behind

module _ {K : Keys} (g : Setting K) (s : Standing K) (stands : Stands s) (frame : Frame K) (me me' : Value K) (im : Holding g.old g.keys s.code frame me me')
    (bs bs' : List (Piece K)) (reads writes : List ℕ) (x : SilentPieces g.keys g.old s bs bs' reads writes) where
  old_run : (l : List (Value K)) → PieceTwins g.old me bs (λ i. In i reads) writes l l
  old_run l = piece_twins g.old me true bs reads writes [] x.calm refl (λ i. In i reads) (λ i o. o) l l (λ i o. refl)

  new_run : (l : List (Value K)) → PieceTwins g.new me' bs' (λ i. In i x.reads') x.writes' l l
  new_run l = piece_twins g.new me' true bs' x.reads' x.writes' [] x.calm' refl (λ i. In i x.reads') (λ i o. o) l l (λ i o. refl)

  self_in : (self : Self) → (self ≡ unused) ⊎ ((self ≡ itself) × (s.code.self ≡ itself)) → SelfIn self []
  self_in self d = ⊎_elim (λ (e : self ≡ unused). subst (λ y. SelfIn y []) (sym e) tt) (λ (e : (self ≡ itself) × (s.code.self ≡ itself)). subst (λ y. SelfIn y []) (sym e.0) tt) d

  self_is : (self : Self) → (self ≡ unused) ⊎ ((self ≡ itself) × (s.code.self ≡ itself)) → SelfIs g.keys self no_frame me me'
  self_is self d = ⊎_elim (λ (e : self ≡ unused). subst (λ y. SelfIs g.keys y no_frame me me') (sym e) tt)
      (λ (e : (self ≡ itself) × (s.code.self ≡ itself)). subst (λ y. SelfIs g.keys y no_frame me me') (sym e.0) (subst (λ y. SelfIs g.keys y frame me me') e.1 im.self)) d

  bare_match : (l l' : List (Value K)) → ((i : ℕ) → In i reads → local_at l' (s.code.at i) ≡ value_image g.keys (local_at l i)) → Matches g (Shifted g.keys (bare s x.self) no_frame x.behind) (run_pieces g.old me bs l) (run_pieces g.new me' bs' l')
  bare_match l l' h = pieces_match g (bare s x.self) record { injective = stands.injective; apart = λ i b o. o; self = self_in x.self x.names; held = tt; cast = tt } no_frame me me' record { self = self_is x.self x.names; classes = tt; holds = tt; casts = tt }
      x.before x.behind bs bs' x.to l l' record { moved = λ i b a. h i (x.needs i a); others = λ j o. absurd o; known = λ i o. absurd o }

  pub silent_update : Update g.keys s reads writes
  silent_update = record {
    old = λ l. (old_run l).first;
    new = λ l. (new_run l).first;
    old_stays = λ l i d. (old_run l).apart.stays i d;
    new_stays = λ l j d. (new_run l).apart.stays j (λ k. d (x.writes_to j k));
    old_same = λ l m h i w.
        let t = piece_twins g.old me true bs reads writes [] x.calm refl (λ j. In j reads) (λ j o. o) l m h in
        ap (λ y. local_at y i) (one_value (old_run m).first t.second (run_pieces g.old me bs m) (old_run m).comes t.comes_too)
        ∙ t.apart.agree i (inr w)
        ∙ ap (λ y. local_at y i) (one_value t.first (old_run l).first (run_pieces g.old me bs l) t.comes (old_run l).comes);
    image = λ l l' h i w. (matched g (Shifted g.keys (bare s x.self) no_frame x.behind) (run_pieces g.old me bs l) (run_pieces g.new me' bs' l') (old_run l).first (new_run l').first (old_run l).comes (new_run l').comes (bare_match l l' h)).moved i (x.own_writes i w) (x.gives i w);
  }

  old_update : (l : List (Value K)) → run_pieces g.old me bs l ≡ done (value (silent_update.old l))
  unfolding silent_update
  old_update l = (old_run l).comes

  new_update : (l : List (Value K)) → run_pieces g.new me' bs' l ≡ done (value (silent_update.new l))
  unfolding silent_update
  new_update l = (new_run l).comes

-- A, B: which locals agree before both lists, and behind them
pub record HoldsPastSilent {K : Keys} (r : KeyMap K) (R : Rows K) (s : Standing K) (A : NumberSet) (few many : Stmts K) (B : NumberSet) : Type 0 where
  pub e : Exp K
  pub e' : Exp K
  pub number : ℕ
  pub fresh : (i : ℕ) → In i s.code.mine → s.code.at i ≡ number → ⊥
  pub fresh_others : In number s.others → ⊥
  pub place : At K
  pub read_at : At K
  pub name_at : At K
  pub rest : Stmts K
  pub many_is : many ≡ core.Stmts.more (declare place number e') rest
  -- e stands in the one list where the local is read in the other's rest
  pub pieces : List (Piece K)
  pub pieces' : List (Piece K)
  pub user : User K
  pub user' : User K
  pub sequels : List (Sequel K)
  pub sequels' : List (Sequel K)
  pub here : ListPlace true e few pieces user sequels
  pub there : ListPlace true (read read_at (local name_at number)) rest pieces' user' sequels'
  -- in no monitor
  pub unlocked : LeavesIn sequels → ⊥
  pub unlocked' : LeavesIn sequels' → ⊥
  pub reads : List ℕ
  pub writes : List ℕ
  pub silent : SilentPieces r R s pieces pieces' reads writes
  pub between : NumberSet
  pub e_to : ExpTo r R (past s reads writes).code A e e' between
  pub agree_before : (i : ℕ) → In i reads → IsTrue (A i)
  pub agree_behind : (i : ℕ) → In i reads → IsTrue (between i)
  pub used : NumberSet
  pub user_to : UserTo r R s (with_all between writes) user user' used
  pub sequels_to : SequelsTo r R s used sequels sequels' B

module _ {K : Keys} (g : Setting K) (Spot : Spots K) (turns : TurnsAnswered g Spot) (s : Standing K) (stands : Stands s) (frame : Frame K) (me me' : Value K) (im : Holding g.old g.keys s.code frame me me')
    (A : NumberSet) (few many : Stmts K) (B : NumberSet) (x : HoldsPastSilent g.keys g.old s A few many B) where
  abbrev update : Update g.keys s x.reads x.writes
  update = silent_update g s stands frame me me' im x.pieces x.pieces' x.reads x.writes x.silent

  abbrev on : Value K × List (Value K) → Step K (Flow K)
  on = then_on g.old me true x.e x.user x.sequels

  abbrev on' : Value K × List (Value K) → Step K (Flow K)
  on' = then_on g.new me' true (read x.read_at (local x.name_at x.number)) x.user' x.sequels'

  old_is : (l : List (Value K)) → stmts g.old me few l ≡ next (exp g.old me x.e (update.old l)) on
  old_is l = list_parts g.old me true x.e few x.pieces x.user x.sequels x.here (λ h. absurd (x.unlocked h)) l
      ∙ ap (λ p. next p (λ m. next (exp g.old me x.e m) on)) (old_update g s stands frame me me' im x.pieces x.pieces' x.reads x.writes x.silent l)

  rest_is : (m : List (Value K)) → stmts g.new me' x.rest m ≡ on' (local_at (update.new m) x.number, update.new m)
  rest_is m = list_parts g.new me' true (read x.read_at (local x.name_at x.number)) x.rest x.pieces' x.user' x.sequels' x.there (λ h. absurd (x.unlocked' h)) m
      ∙ ap (λ p. next p (λ o. next (exp g.new me' (read x.read_at (local x.name_at x.number)) o) on')) (new_update g s stands frame me me' im x.pieces x.pieces' x.reads x.writes x.silent m)

  module _ (l l' : List (Value K)) (h : Shifted g.keys s frame A l l') where
    abbrev kept : Value K × List (Value K) → Step K (Value K × List (Value K))
    kept r = let m = update.new (with_local r.1 x.number r.0) in done (value (local_at m x.number, m))

    new_is : stmts g.new me' (core.Stmts.more (declare x.place x.number x.e') x.rest) l' ≡ next (next (exp g.new me' x.e' l') kept) on'
    new_is = next_assoc (exp g.new me' x.e' l') (λ r. done (value (goes_on (with_local r.1 x.number r.0)))) (λ f. on_flow f (λ m. stmts g.new me' x.rest m))
        ∙ (λ i. next (exp g.new me' x.e' l') (λ r. rest_is (with_local r.1 x.number r.0) i))
        ∙ sym (next_assoc (exp g.new me' x.e' l') kept on')

    abbrev To : Type 0 → Flow K → Flow K → Type 0
    To M f f' = FlowRel g.keys (Shifted g.keys s frame B) M f f'

    abbrev M : Type 0
    M = SequelsReturn x.sequels (UserReturns x.user)

    both_match : Matches g (To M) (next (exp g.old me x.e (update.old l)) on) (next (next (exp g.new me' x.e' l') kept) on')
    both_match = match_next g (ResultRel g.keys s frame (with_all x.between x.writes)) (To M) (exp g.old me x.e (update.old l)) (next (exp g.new me' x.e' l') kept) on on'
        (past_and_held g s stands frame me me' im x.reads x.writes x.silent.own_writes x.silent.own_reads x.silent.unknown update A x.between x.agree_before x.agree_behind x.e x.e' x.e_to l l' h x.number x.fresh x.fresh_others)
        (λ r r' k. later_match g s stands frame me me' im Spot turns (with_all x.between x.writes) x.used B x.user x.user' x.sequels x.sequels' x.user_to x.sequels_to r r' k)

    -- such a list matches
    pub past_match : Matches g (To (SomeReturns few)) (stmts g.old me few l) (stmts g.new me' many l')
    past_match = subst (λ b. Matches g (To (SomeReturns few)) (stmts g.old me few l) (stmts g.new me' b l')) (sym x.many_is)
        (subst (λ p. Matches g (To (SomeReturns few)) p (stmts g.new me' (core.Stmts.more (declare x.place x.number x.e') x.rest) l')) (sym (old_is l))
        (subst (λ p. Matches g (To (SomeReturns few)) (next (exp g.old me x.e (update.old l)) on) p) (sym new_is)
        (looser g s stands frame me me' im B B (λ i a. a) M (SomeReturns few) (list_returns true x.e few x.pieces x.user x.sequels x.here) (next (exp g.old me x.e (update.old l)) on) (next (next (exp g.new me' x.e' l') kept) on') both_match)))

-- Programs of which the one has such locals, any number of them, have the same runs.
pub past_programs_are_alike : {K : Keys} (P Q : Program K) → ProgramTo same_keys (HoldsPastSilent same_keys P.rows) P Q → AlikeExactly same_keys P Q
past_programs_are_alike {K = K} P Q to =
    let Spot : Spots K = HoldsPastSilent same_keys P.rows in
    let c : Changes same_keys same_keys Spot 0 (Mapped same_keys) P Q = record { there = same_undoes; joins = mapped_joins same_keys; images = mapped_images same_keys; programs = to } in
    alike same_keys same_keys same_undoes 0 (Mapped same_keys) (λ u t. u ≡ t) (λ t u e. e) P Q to.rows.field_kind
    (starts_match same_keys Spot 0 (Mapped same_keys) P Q (programs_match same_keys same_keys Spot 0 (Mapped same_keys) P Q c
    (λ Z tables answered s stands frame me me' im A b b' B x l l' h.
    past_match (setting same_keys same_keys Spot 0 (Mapped same_keys) P Q c Z answered) Spot (turns_in same_keys same_keys Spot 0 (Mapped same_keys) P Q c Z answered) s stands frame me me' im A b b' B x l l' h)))

-- and the other way round
pub past_locals_go : {K : Keys} (P Q : Program K) → Q.rows ≡ P.rows → ProgramTo same_keys (HoldsPastSilent same_keys P.rows) P Q → AlikeExactly same_keys Q P
past_locals_go P Q rows to = turned_exactly P Q rows (past_programs_are_alike P Q to)
