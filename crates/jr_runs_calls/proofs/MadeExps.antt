-- An expression becomes a call of a method that returns it: the call's runs are the expression's.
use Rattle.std.proofs.Common.{◌≡◌, List, Some, refl, sym, ap, ◌∙◌, subst}
use Rattle.jr_plans.specs.Plan.{done, call, and_then}
use Rattle.jr_plans.proofs.Finishing.{and_then_assoc, and_then_done}
use Rattle.jr_runs.specs.Keys.{Keys}
use Rattle.jr_runs.specs.Values.{Value}
use Rattle.jr_runs.specs.Arithmetic.{Out, value, thrown}
use Rattle.jr_runs.specs.Core as core
use Rattle.jr_runs.specs.Core.{Exp, Program}
use Rattle.jr_runs.specs.Evaluation.{Flow, returns, Call, Step, on_value, next, answer, exp, on_flow, stmts}
use Rattle.jr_runs.specs.KeyMaps.{same_keys, value_image}
use Rattle.jr_runs.specs.Standing.{Standing, Stands, Frame, Holding, Shifted}
use Rattle.jr_runs.specs.Sets.{NumberSet}
use Rattle.jr_runs.specs.Images.{exps_alone}
use Rattle.jr_runs.specs.TypedImages.{TypedProgramTo}
use Rattle.jr_runs.specs.Typing.{WellTyped}
use Rattle.jr_runs.specs.Pairs.{OutRel, ResultRel}
use Rattle.jr_runs.specs.Alike.{AlikeExactly}
use Rattle.jr_runs.proofs.Guarded.{Guarded, Matched, OldSafe, NewSafe, match_outcome, match_value, match_and_safe}
use Rattle.jr_runs.proofs.GuardedExps.{ExpsKnown, exp_known}
use Rattle.jr_runs.proofs.GuardedPrograms.{Unfolded}
use Rattle.jr_runs.proofs.Renaming.{Mapped}
use Rattle.jr_runs.proofs.TypedPrograms.{TypedChanges, typed_guard, typed_changes, typed_alike}
use Rattle.jr_runs_calls.specs.Extracts.{ExtractsExp}
use Rattle.jr_runs_calls.proofs.MadeCalls.{next_assoc, same_undoes, handed, made_me, called, inner, inner_frame, inner_stands, inner_agree, inner_holding, made_is, body_safe, made_body}

module _ {K : Keys} (P Q : Program K) (g : Guarded same_keys P.rows Q.rows) (none_more : g.more ≡ 0) (unfolded : Unfolded P Q g) (s : Standing K) (stands : Stands s) (frame : Frame K) (me me' : Value K) (im : Holding P.rows same_keys s.code frame me me') where
  abbrev Result : NumberSet → Value K × List (Value K) → Value K × List (Value K) → Type 0
  Result B a b = ResultRel same_keys s frame B a b

  module _ (A B : NumberSet) (old new : Exp K) (x : ExtractsExp P Q s A old new B) (l l' : List (Value K)) (h : Shifted same_keys s frame A l l') where
    -- the method's receiver, its first locals, and how the expression stands in it
    abbrev receiver : Value K
    receiver = made_me P Q g none_more unfolded s stands frame me me' im A x.made l l' h

    abbrev first : List (Value K)
    first = handed P Q g none_more unfolded s stands frame me me' im A x.made l l' h

    abbrev there : Call K
    there = called P Q g none_more unfolded s stands frame me me' im A x.made l l' h

    abbrev alone : Standing K
    alone = inner P Q g none_more unfolded s stands frame me me' im A x.made l l' h

    abbrev alone_frame : Frame K
    alone_frame = inner_frame P Q g none_more unfolded s stands frame me me' im A x.made l l' h

    abbrev Inner : Value K × List (Value K) → Value K × List (Value K) → Type 0
    Inner a b = ResultRel same_keys alone alone_frame x.ends a b

    abbrev give : Value K × List (Value K) → Step K (Flow K)
    give r = done (value (returns (Some r.0)))

    abbrev after : Out (Flow K) → Step K (Value K × List (Value K))
    after o = done (answer l' o)

    body_is : stmts Q.rows receiver x.made.code.body first ≡ next (exp Q.rows receiver x.piece first) give
    body_is = ap (λ b. stmts Q.rows receiver b first) x.body_is ∙ next_assoc (exp Q.rows receiver x.piece first) give (λ y. on_flow y (λ m. stmts Q.rows receiver core.Stmts.end m))

    called_form : and_then (stmts Q.rows receiver x.made.code.body first) after ≡ and_then (exp Q.rows receiver x.piece first) (λ o. and_then (on_value give o) after)
    called_form = ap (λ p. and_then p after) body_is ∙ and_then_assoc (exp Q.rows receiver x.piece first) (on_value give) after

    -- behind the call the locals are as they were, and those that the expression doesn't write agree
    agree : (m n : List (Value K)) → Shifted same_keys alone alone_frame x.ends m n → Shifted same_keys s frame B m l'
    agree m n e = record {
      moved = λ i b a. let t = x.still i a in h.moved i b t.0 ∙ ap (value_image same_keys) (sym (e.known i t.1));
      others = h.others;
      known = λ j i. e.known j (x.made.stays j i) ∙ h.known j i;
    }

    answers : (o o' : Out (Value K × List (Value K))) → OutRel Inner o o' → Matched g (Result B) (done o) (and_then (on_value give o') after)
    answers (value a) (value b) e = match_value g (Result B) a (b.0, l') (e.0, agree a.1 b.1 e.1)
    answers (thrown y) (thrown z) e = match_outcome g (Result B) (thrown y) (thrown z) e
    answers (value a) (thrown z) e = absurd e
    answers (thrown y) (value b) e = absurd e

    call_match : OldSafe g (exp P.rows me old l) → NewSafe g (call there after) → Matched g (Result B) (exp P.rows me old l) (call there after)
    call_match o o' =
        let same : and_then (exp P.rows me old l) (λ z. done z) ≡ exp P.rows me old l = and_then_done (exp P.rows me old l) in
        let safe : NewSafe g (and_then (exp Q.rows receiver x.piece first) (λ z. and_then (on_value give z) after)) = subst (λ q. NewSafe g q) called_form (body_safe P Q g none_more unfolded s stands frame me me' im A x.made l l' h after o') in
        made_body P Q g none_more unfolded s stands frame me me' im A x.made l l' h (Result B) (exp P.rows me old l) after o'
        (subst (λ q. Matched g (Result B) (exp P.rows me old l) q) (sym called_form)
        (subst (λ q. Matched g (Result B) q (and_then (exp Q.rows receiver x.piece first) (λ z. and_then (on_value give z) after))) same
        (match_and_safe g Inner (Result B) (exp P.rows me old l) (exp Q.rows receiver x.piece first) (λ z. done z) (λ z. and_then (on_value give z) after) (subst (λ q. OldSafe g q) (sym same) o) safe
        (λ i i'. exp_known g alone (inner_stands P Q g none_more unfolded s stands frame me me' im A x.made l l' h) alone_frame me receiver (inner_holding P Q g none_more unfolded s stands frame me me' im A x.made l l' h)
        x.made.begins x.ends old x.piece x.piece_to l first (inner_agree P Q g none_more unfolded s stands frame me me' im A x.made l l' h) i i')
        (λ z z' e i i'. answers z z' e))))

    new_form : exp Q.rows me' new l' ≡ call there after
    new_form = ap (λ e. exp Q.rows me' e l') x.new_is ∙ made_is P Q g none_more unfolded s stands frame me me' im A x.made l l' h

  -- the call in the expression's place
  pub extracted_exp : ExpsKnown g s stands frame me me' im (ExtractsExp P Q s)
  extracted_exp A B old new x l l' h o o' =
      let k = new_form A B old new x l l' h in
      subst (λ p. Matched g (Result B) (exp P.rows me old l) p) (sym k) (call_match A B old new x l l' h o (subst (λ p. NewSafe g p) k o'))

-- Well-typed programs in which any number of expressions has become calls have the same runs.
pub extracted_values_are_alike : {K : Keys} (P Q : Program K) → WellTyped P → WellTyped Q → TypedProgramTo same_keys (exps_alone (ExtractsExp P Q)) P Q → AlikeExactly same_keys P Q
extracted_values_are_alike P Q typed typed' to =
    let c : TypedChanges same_keys same_keys (exps_alone (ExtractsExp P Q)) 0 (Mapped same_keys) P Q = typed_changes same_keys same_keys (exps_alone (ExtractsExp P Q)) same_undoes P Q typed typed' to in
    typed_alike same_keys same_keys (exps_alone (ExtractsExp P Q)) same_undoes P Q c
    (λ Z answered unfolded. record {
      exps = λ s stands frame me me' im. extracted_exp P Q (typed_guard same_keys same_keys (exps_alone (ExtractsExp P Q)) 0 (Mapped same_keys) P Q c Z answered) refl unfolded s stands frame me me' im;
      lists = λ s stands frame me me' im A b b' B none l l' h o o'. absurd none;
    })
