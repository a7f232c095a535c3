use Rattle.std.proofs.lemmas.Bool.Decides.{not_from_Decides}
use Rattle.std.proofs.lemmas.Result.{IfOk-weaker}
use Rattle.jr_sources.specs.Asking.{CanStand}
use Rattle.jr_session.proofs.SpanRequest.{first_is_bad, turned_round, finds_bad, finds_of_second}
use Rattle.jr_session.proofs.extracts.refusal_of_span.Goals as goal

pub returns-then-not-can_stand : goal.returns-then-not-can_stand
returns-then-not-can_stand c =
    let none : CanStand c.args.text.now c.args.from → ⊥ = not_from_Decides c.can_stand.result c.can_stand.ensures c.if-not-can_stand.true in
    IfOk-weaker c.bad_place.result _ _ (λ found h. finds_bad c.args.file.now c.args.text.now c.args.from c.args.to c.args.new.now (first_is_bad c.args.file.now c.args.text.now c.args.from c.args.to c.args.new.now none) found h) c.bad_place.ensures

pub returns-then-from-to : goal.returns-then-from-to
returns-then-from-to c =
    let first : CanStand c.args.text.now c.args.from = c.can_stand.ensures.0 c.if-not-can_stand.false in
    IfOk-weaker c.refusal_of_request.result _ _ (λ found h. finds_of_second c.args.file.now c.args.text.now c.args.from c.args.to c.args.new.now first (λ s. c.if-from-to.true) found h) c.refusal_of_request.ensures

pub returns-then-can_stand : goal.returns-then-can_stand
returns-then-can_stand c =
    let first : CanStand c.args.text.now c.args.from = c.can_stand.ensures.0 c.if-not-can_stand.false in
    let second : CanStand c.args.text.now c.args.to = c.can_stand-2.ensures.0 c.if-can_stand.true in
    IfOk-weaker c.bad_place-then-can_stand.result _ _ (λ found h. finds_bad c.args.file.now c.args.text.now c.args.from c.args.to c.args.new.now (turned_round c.args.file.now c.args.text.now c.args.from c.args.to c.args.new.now first second c.if-from-to.false) found h) c.bad_place-then-can_stand.ensures

pub returns : goal.returns
returns c =
    let first : CanStand c.args.text.now c.args.from = c.can_stand.ensures.0 c.if-not-can_stand.false in
    let none : CanStand c.args.text.now c.args.to → ⊥ = not_from_Decides c.can_stand-2.result c.can_stand-2.ensures c.if-can_stand.false in
    IfOk-weaker c.refusal_of_request-2.result _ _ (λ found h. finds_of_second c.args.file.now c.args.text.now c.args.from c.args.to c.args.new.now first (λ s. absurd (none s)) found h) c.refusal_of_request-2.ensures
