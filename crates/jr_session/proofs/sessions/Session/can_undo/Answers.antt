use Rattle.std.proofs.Common.{length, ap, subst, ◌∙◌}
use Rattle.std.specs.Prelude.{IsTrue, ◌↔◌, ◌≢◌, [], not, ◌==◌}
use Rattle.jr_session.specs.States.{State}
use Rattle.jr_sources.specs.Sources.{texts_of}
use Rattle.jr_session.proofs.Histories.{some_history}
use Rattle.jr_session.proofs.sessions.Session.can_undo.Goals as goal

pub returns : goal.returns
returns c =
    subst (λ (s : State). IsTrue (not c.is_empty.result) ↔ (s.undo ≢ [])) c.self.view_is
    (some_history (texts_of c.self.inside.sources) c.self.inside.undo.items c.is_empty.result (c.is_empty.ensures ∙ ap (λ xs. length xs == 0) c.as_slice.ensures.value))
