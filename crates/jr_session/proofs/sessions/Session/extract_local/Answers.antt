use Rattle.std.proofs.Common.{[], ◌∷◌, subst}
use Rattle.std.specs.Prelude.{MatchOption, Some}
use Rattle.jr_lex.specs.Replacing.{IsName}
use Rattle.jr_names.specs.RefusalView.{refusal_of}
use Rattle.jr_sources.specs.Sources.{HasName, IsFile}
use Rattle.jr_session.specs.Asked.{extract}
use Rattle.jr_session.specs.Requests.{AreGoodPlaces, CannotBeAsked}
use Rattle.jr_session.specs.States.{State}
use Rattle.jr_session.proofs.EditLaws.{file_of}
use Rattle.jr_session.proofs.RequestSteps.{unasked_step}
use Rattle.jr_session.proofs.sessions.Session.extract_local.Goals as goal

pub returns-in-Some-refusal-clause-step : goal.returns-in-Some-refusal-clause-step
returns-in-Some-refusal-clause-step g c =
    let named : HasName c.self.inside.sources c.in-Some.number c.args.file.now = subst (HasName c.self.inside.sources c.in-Some.number) c.as_str.ensures c.in-Some.ensures.found in
    let stands : IsFile c.self.inside.sources c.in-Some.number c.args.file.now c.text.result.now = file_of c.self.inside.sources c.in-Some.number c.args.file.now c.text.result.now named c.text.ensures in
    let why : CannotBeAsked c.args.file.now c.text.result.now (c.args.from ∷ c.args.to ∷ []) (Some c.args.name.now) (refusal_of c.in-Some-refusal.refusal) =
    subst (λ o. MatchOption o (AreGoodPlaces c.text.result.now (c.args.from ∷ c.args.to ∷ []) × IsName c.args.name.now) (λ r. CannotBeAsked c.args.file.now c.text.result.now (c.args.from ∷ c.args.to ∷ []) (Some c.args.name.now) (refusal_of r))) c.in-Some-refusal.is c.in-Ok.ensures in
    unasked_step c.args.self.now (extract c.args.file.now c.args.from c.args.to c.args.name.now) c.in-Some.number c.text.result.now (subst (λ (s : State). IsFile s.files c.in-Some.number c.args.file.now c.text.result.now) c.self.view_is stands) (refusal_of c.in-Some-refusal.refusal) why
