-- The front of a list becomes a call of a method that the new program alone has: the call's runs are the front's.
use Rattle.std.proofs.Common.{◌≡◌, ℕ, List, Some, IsTrue, refl, sym, ap, ◌∙◌, subst, ⊎_elim}
use Rattle.std.proofs.lemmas.Bool.{cases_eq}
use Rattle.jr_plans.specs.Plan.{done, call, and_then}
use Rattle.jr_plans.proofs.Finishing.{and_then_assoc}
use Rattle.jr_runs.specs.Keys.{Keys}
use Rattle.jr_runs.specs.Values.{Value}
use Rattle.jr_runs.specs.Arithmetic.{Fault, Out, value, thrown}
use Rattle.jr_runs.specs.Core as core
use Rattle.jr_runs.specs.Core.{Stmts, Program}
use Rattle.jr_runs.specs.Evaluation.{Flow, goes_on, returns, Call, Step, on_value, next, local_at, with_local, answer, in_local, store_to, on_flow, stmts, table}
use Rattle.jr_runs.specs.KeyMaps.{same_keys, value_image}
use Rattle.jr_runs.specs.Standing.{In, Standing, Stands, Frame, Holding, Shifted}
use Rattle.jr_runs.specs.Sets.{NumberSet}
use Rattle.jr_runs.specs.Images.{ProgramTo, lists_alone}
use Rattle.jr_runs.specs.TypedImages.{TypedProgramTo}
use Rattle.jr_runs.specs.Typing.{WellTyped}
use Rattle.jr_runs.specs.Pairs.{OutRel, FlowRel, SomeReturns}
use Rattle.jr_runs.specs.Alike.{AlikeExactly}
use Rattle.jr_runs.proofs.Locals.{written, not_written}
use Rattle.jr_runs.proofs.Guarded.{Guarded, Matched, OldSafe, NewSafe, any_safe, unguarded, match_outcome, match_weaker, match_and_safe}
use Rattle.jr_runs.proofs.GuardedStmts.{TurnsKnown, wider}
use Rattle.jr_runs.proofs.GuardedPrograms.{Unfolded}
use Rattle.jr_runs.proofs.Renaming.{Mapped, mapped_joins, mapped_images}
use Rattle.jr_runs.proofs.Kept.{kept_known}
use Rattle.jr_runs.proofs.ImagePrograms.{Changes, setting, turns_in, programs_match}
use Rattle.jr_runs.proofs.Halves.{alike, starts_match}
use Rattle.jr_runs.proofs.TypedPrograms.{TypedChanges, typed_guard, typed_turns, typed_changes, typed_alike}
use Rattle.jr_runs_calls.specs.MadeMethods.{made_exp}
use Rattle.jr_runs_calls.specs.Extracts.{Given, nothing, assigned, declared, given_stmt, given_body, GivenFits, IsGiven, Extracts}
use Rattle.jr_runs_calls.proofs.MadeCalls.{next_done, then_is, returns_then, same_undoes, any_unfolded, handed, made_me, called, inner, inner_frame, inner_stands, inner_agree, inner_holding, made_is, body_safe, made_body}

module _ {K : Keys} (P Q : Program K) (g : Guarded same_keys P.rows Q.rows) (none_more : g.more ≡ 0) (unfolded : Unfolded P Q g) (turns : TurnsKnown g (lists_alone (Extracts P Q)))
    (s : Standing K) (stands : Stands s) (frame : Frame K) (me me' : Value K) (im : Holding P.rows same_keys s.code frame me me') (A : NumberSet) (old new : Stmts K) (B : NumberSet) (x : Extracts P Q s A old new B) (l l' : List (Value K)) (h : Shifted same_keys s frame A l l') where
  -- the method's receiver, its first locals, and how the piece stands in it
  abbrev receiver : Value K
  receiver = made_me P Q g none_more unfolded s stands frame me me' im A x.made l l' h

  abbrev first : List (Value K)
  first = handed P Q g none_more unfolded s stands frame me me' im A x.made l l' h

  abbrev there : Call K
  there = called P Q g none_more unfolded s stands frame me me' im A x.made l l' h

  abbrev alone : Standing K
  alone = inner P Q g none_more unfolded s stands frame me me' im A x.made l l' h

  abbrev alone_frame : Frame K
  alone_frame = inner_frame P Q g none_more unfolded s stands frame me me' im A x.made l l' h

  abbrev Inner : Flow K → Flow K → Type 0
  Inner y y' = FlowRel same_keys (Shifted same_keys alone alone_frame x.ends) (SomeReturns x.piece) y y'

  abbrev Flows : Flow K → Flow K → Type 0
  Flows y y' = FlowRel same_keys (Shifted same_keys s frame B) (SomeReturns x.rest) y y'

  piece_match : OldSafe g (stmts P.rows me x.piece l) → NewSafe g (stmts Q.rows receiver x.new_piece first) → Matched g Inner (stmts P.rows me x.piece l) (stmts Q.rows receiver x.new_piece first)
  piece_match o o' = kept_known g (Extracts P Q) turns alone (inner_stands P Q g none_more unfolded s stands frame me me' im A x.made l l' h) alone_frame me receiver (inner_holding P Q g none_more unfolded s stands frame me me' im A x.made l l' h)
      x.made.begins x.piece x.new_piece x.ends x.piece_to l first (inner_agree P Q g none_more unfolded s stands frame me me' im A x.made l l' h) o o'

  rest_match : (m m' : List (Value K)) → Shifted same_keys s frame x.behind m m' → OldSafe g (stmts P.rows me x.rest m) → NewSafe g (stmts Q.rows me' x.new_rest m') → Matched g Flows (stmts P.rows me x.rest m) (stmts Q.rows me' x.new_rest m')
  rest_match m m' e o o' = kept_known g (Extracts P Q) turns s stands frame me me' im x.behind x.rest x.new_rest B x.rest_to m m' e o o'

  abbrev rest_old : Flow K → Step K (Flow K)
  rest_old y = on_flow y (λ m. stmts P.rows me x.rest m)

  abbrev rest_new : Flow K → Step K (Flow K)
  rest_new y = on_flow y (λ m. stmts Q.rows me' x.new_rest m)

  abbrev gone : Value K × List (Value K) → Step K (Flow K)
  gone r = done (value (goes_on r.1))

  abbrev put : ℕ → Value K × List (Value K) → Step K (Value K × List (Value K))
  put k r = next (store_to Q.rows (in_local (s.code.at k)) r.0 r.1) (λ m. done (value (r.0, m)))

  -- what the call's answer leads to
  abbrev after : Given → Out (Flow K) → Step K (Flow K)
  after nothing o = next (next (done (answer l' o)) gone) rest_new
  after (assigned k) o = next (next (next (done (answer l' o)) (put k)) gone) rest_new
  after (declared k) o = next (next (done (answer l' o)) (λ r. done (value (goes_on (with_local r.1 (s.code.at k) r.0))))) rest_new

  -- what the new method does behind the piece
  abbrev ended : Given → Flow K → Step K (Flow K)
  ended nothing y = done (value y)
  ended (assigned k) y = on_flow y (λ m. done (value (returns (Some (local_at m (x.made.at k))))))
  ended (declared k) y = on_flow y (λ m. done (value (returns (Some (local_at m (x.made.at k))))))

  body_form : (d : Given) → stmts Q.rows receiver (given_body x.return_at x.made.at d x.new_piece) first ≡ next (stmts Q.rows receiver x.new_piece first) (ended d)
  body_form nothing = sym (next_done (stmts Q.rows receiver x.new_piece first))
  body_form (assigned k) = then_is Q.rows receiver x.new_piece (core.Stmts.more (core.return x.return_at (core.read x.return_at (core.local x.return_at (x.made.at k)))) core.Stmts.end) first
  body_form (declared k) = then_is Q.rows receiver x.new_piece (core.Stmts.more (core.return x.return_at (core.read x.return_at (core.local x.return_at (x.made.at k)))) core.Stmts.end) first

  body_is : stmts Q.rows receiver x.made.code.body first ≡ next (stmts Q.rows receiver x.new_piece first) (ended x.given)
  body_is = ap (λ b. stmts Q.rows receiver b first) x.body_is ∙ body_form x.given

  -- behind the call: what the piece doesn't write, and what it gives
  none_agree : (d : Given) → d ≡ nothing → x.given ≡ d → (m n : List (Value K)) → Shifted same_keys alone alone_frame x.ends m n → Shifted same_keys s frame x.behind m l'
  none_agree d z w m n e = record {
    moved = λ i b a. ⊎_elim
        (λ y. absurd (subst (λ v. IsGiven v i) (w ∙ z) y))
        (λ t. h.moved i b t.0 ∙ ap (value_image same_keys) (sym (e.known i t.1)))
        (x.still i a);
    others = h.others;
    known = λ j i. e.known j (x.made.stays j i) ∙ h.known j i;
  }

  some_agree : (k : ℕ) → ((i : ℕ) → IsGiven x.given i → i ≡ k) → In k s.code.mine → (In k s.code.known → ⊥) → In k x.made.mine → IsTrue (x.ends k) → (m n : List (Value K)) → Shifted same_keys alone alone_frame x.ends m n
      → Shifted same_keys s frame x.behind m (with_local l' (s.code.at k) (local_at n (x.made.at k)))
  some_agree k only below free below2 agrees m n e = record {
    moved = λ i b a. ⊎_elim
        (λ (d : i ≡ k). rw (d, written l' (s.code.at k) (local_at n (x.made.at k))) (e.moved k below2 agrees))
        (λ (d : i ≡ k → ⊥). ⊎_elim
        (λ y. absurd (d (only i y)))
        (λ t. not_written l' (s.code.at k) (s.code.at i) (local_at n (x.made.at k)) (λ q. d (stands.injective i k b below q)) ∙ h.moved i b t.0 ∙ ap (value_image same_keys) (sym (e.known i t.1)))
        (x.still i a))
        (cases_eq i k);
    others = λ j i. not_written l' (s.code.at k) j (local_at n (x.made.at k)) (λ q. stands.apart k below (subst (λ z. In z s.others) q i)) ∙ h.others j i;
    known = λ j i. e.known j (x.made.stays j i) ∙ h.known j i;
  }

  behind : (d : Given) → x.given ≡ d → GivenFits s x.made.mine x.ends d → (m n : List (Value K)) → Shifted same_keys alone alone_frame x.ends m n → OldSafe g (stmts P.rows me x.rest m) → NewSafe g (and_then (ended d (goes_on n)) (after d))
      → Matched g Flows (stmts P.rows me x.rest m) (and_then (ended d (goes_on n)) (after d))
  behind nothing w t m n e o o' = rest_match m l' (none_agree nothing refl w m n e) o o'
  behind (assigned k) w t m n e o o' = rest_match m (with_local l' (s.code.at k) (local_at n (x.made.at k))) (some_agree k (λ i y. subst (λ v. IsGiven v i) w y) t.0 t.1 t.2 t.3 m n e) o o'
  behind (declared k) w t m n e o o' = rest_match m (with_local l' (s.code.at k) (local_at n (x.made.at k))) (some_agree k (λ i y. subst (λ v. IsGiven v i) w y) t.0 t.1 t.2 t.3 m n e) o o'

  thrown_after : (d : Given) (y : Fault) → and_then (on_value (ended d) (thrown y)) (after d) ≡ done (thrown y)
  thrown_after nothing y = refl
  thrown_after (assigned k) y = refl
  thrown_after (declared k) y = refl

  answers : (d : Given) → x.given ≡ d → GivenFits s x.made.mine x.ends d → (o o' : Out (Flow K)) → OutRel Inner o o' → OldSafe g (on_value rest_old o) → NewSafe g (and_then (on_value (ended d) o') (after d))
      → Matched g Flows (on_value rest_old o) (and_then (on_value (ended d) o') (after d))
  answers d w t (value (goes_on m)) (value (goes_on n)) e u u' = behind d w t m n e u u'
  answers d w t (value (returns v)) (value (returns z)) e u u' = absurd (x.no_return e.1)
  answers d w t (value (goes_on m)) (value (returns z)) e u u' = absurd e
  answers d w t (value (returns v)) (value (goes_on n)) e u u' = absurd e
  answers d w t (value y) (thrown k) e u u' = absurd e
  answers d w t (thrown y) (value k) e u u' = absurd e
  answers d w t (thrown y) (thrown k) e u u' = subst (λ p. Matched g Flows (done (thrown y)) p) (sym (thrown_after d k)) (match_outcome g Flows (thrown y) (thrown k) e)

  -- the call's plan, put together of the piece's and of what is behind it
  called_form : (d : Given) → x.given ≡ d → and_then (stmts Q.rows receiver x.made.code.body first) (after d) ≡ and_then (stmts Q.rows receiver x.new_piece first) (λ o. and_then (on_value (ended d) o) (after d))
  called_form d w = ap (λ p. and_then p (after d)) (body_is ∙ ap (λ v. next (stmts Q.rows receiver x.new_piece first) (ended v)) w) ∙ and_then_assoc (stmts Q.rows receiver x.new_piece first) (on_value (ended d)) (after d)

  call_match : (d : Given) → x.given ≡ d → OldSafe g (next (stmts P.rows me x.piece l) rest_old) → NewSafe g (call there (after d)) → Matched g Flows (next (stmts P.rows me x.piece l) rest_old) (call there (after d))
  call_match d w o o' =
      let k = called_form d w in
      let safe : NewSafe g (and_then (stmts Q.rows receiver x.new_piece first) (λ z. and_then (on_value (ended d) z) (after d))) = subst (λ p. NewSafe g p) k (body_safe P Q g none_more unfolded s stands frame me me' im A x.made l l' h (after d) o') in
      made_body P Q g none_more unfolded s stands frame me me' im A x.made l l' h Flows (next (stmts P.rows me x.piece l) rest_old) (after d) o'
      (subst (λ p. Matched g Flows (next (stmts P.rows me x.piece l) rest_old) p) (sym k)
      (match_and_safe g Inner Flows (stmts P.rows me x.piece l) (stmts Q.rows receiver x.new_piece first) (on_value rest_old) (λ z. and_then (on_value (ended d) z) (after d)) o safe
      piece_match (answers d w (subst (λ v. GivenFits s x.made.mine x.ends v) w x.fits))))

  abbrev new_list : Given → Stmts K
  new_list d = core.Stmts.more (given_stmt x.eval_at s.code.at d (made_exp x.made)) x.new_rest

  new_form : (d : Given) → stmts Q.rows me' (new_list d) l' ≡ call there (after d)
  new_form nothing = ap (λ (p : Step K (Value K × List (Value K))). next (next p gone) rest_new) (made_is P Q g none_more unfolded s stands frame me me' im A x.made l l' h)
  new_form (assigned k) = ap (λ (p : Step K (Value K × List (Value K))). next (next (next p (put k)) gone) rest_new) (made_is P Q g none_more unfolded s stands frame me me' im A x.made l l' h)
  new_form (declared k) = ap (λ (p : Step K (Value K × List (Value K))). next (next p (λ r. done (value (goes_on (with_local r.1 (s.code.at k) r.0))))) rest_new) (made_is P Q g none_more unfolded s stands frame me me' im A x.made l l' h)

  extracted : OldSafe g (stmts P.rows me old l) → NewSafe g (stmts Q.rows me' new l') → Matched g Flows (stmts P.rows me old l) (stmts Q.rows me' new l')
  extracted o o' =
      let k : stmts P.rows me old l ≡ next (stmts P.rows me x.piece l) rest_old = ap (λ b. stmts P.rows me b l) x.old_is ∙ then_is P.rows me x.piece x.rest l in
      let k' : stmts Q.rows me' new l' ≡ call there (after x.given) = ap (λ b. stmts Q.rows me' b l') x.new_is ∙ new_form x.given in
      subst (λ p. Matched g Flows p (stmts Q.rows me' new l')) (sym k)
      (subst (λ p. Matched g Flows (next (stmts P.rows me x.piece l) rest_old) p) (sym k') (call_match x.given refl (subst (λ p. OldSafe g p) k o) (subst (λ p. NewSafe g p) k' o')))

  pub extracted_list : OldSafe g (stmts P.rows me old l) → NewSafe g (stmts Q.rows me' new l') → Matched g (λ y y'. FlowRel same_keys (Shifted same_keys s frame B) (SomeReturns old) y y') (stmts P.rows me old l) (stmts Q.rows me' new l')
  extracted_list o o' = match_weaker g Flows (λ y y'. FlowRel same_keys (Shifted same_keys s frame B) (SomeReturns old) y y') (stmts P.rows me old l) (stmts Q.rows me' new l')
      (wider same_keys (Shifted same_keys s frame B) (Shifted same_keys s frame B) (SomeReturns x.rest) (SomeReturns old) (λ m m' e. e) (λ y. subst SomeReturns (sym x.old_is) (returns_then x.piece x.rest y))) (extracted o o')

-- Programs in which any number of lists has changed so have the same runs.
pub extracted_programs_are_alike : {K : Keys} (P Q : Program K) → ProgramTo same_keys (Extracts P Q) P Q → AlikeExactly same_keys P Q
extracted_programs_are_alike P Q to =
    let c : Changes same_keys same_keys (Extracts P Q) 0 (Mapped same_keys) P Q = record { there = same_undoes; joins = mapped_joins same_keys; images = mapped_images same_keys; programs = to } in
    alike same_keys same_keys same_undoes 0 (Mapped same_keys) (λ u t. u ≡ t) (λ t u e. e) P Q to.rows.field_kind
    (starts_match same_keys (Extracts P Q) 0 (Mapped same_keys) P Q (programs_match same_keys same_keys (Extracts P Q) 0 (Mapped same_keys) P Q c
    (λ Z tables answered s stands frame me me' im A b b' B x l l' h.
    let w = setting same_keys same_keys (Extracts P Q) 0 (Mapped same_keys) P Q c Z answered in
    let turns = turns_in same_keys same_keys (Extracts P Q) 0 (Mapped same_keys) P Q c Z answered in
    extracted_list P Q (unguarded w) refl (any_unfolded P Q (unguarded w) (λ d. any_safe (table P d)) (λ d. any_safe (table Q d)) tables) (λ v t a m v' t' a' m' e u u'. turns v t a m v' t' a' m' e)
    s stands frame me me' im A b b' B x l l' h (any_safe (stmts P.rows me b l)) (any_safe (stmts Q.rows me' b' l')))))

-- The same where both are well typed; then a call on `this` may be made.
pub extracted_methods_are_alike : {K : Keys} (P Q : Program K) → WellTyped P → WellTyped Q → TypedProgramTo same_keys (lists_alone (Extracts P Q)) P Q → AlikeExactly same_keys P Q
extracted_methods_are_alike P Q typed typed' to =
    let c : TypedChanges same_keys same_keys (lists_alone (Extracts P Q)) 0 (Mapped same_keys) P Q = typed_changes same_keys same_keys (lists_alone (Extracts P Q)) same_undoes P Q typed typed' to in
    typed_alike same_keys same_keys (lists_alone (Extracts P Q)) same_undoes P Q c
    (λ Z answered unfolded. record {
      exps = λ s stands frame me me' im A B e e' none l l' h o o'. absurd none;
      lists = λ s stands frame me me' im A b b' B x l l' h o o'.
          extracted_list P Q (typed_guard same_keys same_keys (lists_alone (Extracts P Q)) 0 (Mapped same_keys) P Q c Z answered) refl unfolded (typed_turns same_keys same_keys (lists_alone (Extracts P Q)) 0 (Mapped same_keys) P Q c Z answered) s stands frame me me' im A b b' B x l l' h o o';
    })
