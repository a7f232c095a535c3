-- What was exchanged can be exchanged back.
use Rattle.std.proofs.Common.{◌≡◌, ℕ, List, [], ◌++◌, length, sym, ap, subst, ◌∙◌}
use Rattle.jr_sources.specs.Sources.{Source}
use Rattle.jr_session.specs.declared.changes.Change.{Change}
use Rattle.jr_session.specs.Changes.{AreOfFiles}
use Rattle.jr_session.specs.Turns.{AreExchanged}
use Rattle.jr_session.proofs.Histories.{length-put}

-- the texts that sources had are of their files
pub files_again : (sources now : List Source) (texts had had' : List Change) → had ≡ [] → AreExchanged sources texts had now had' → AreOfFiles (length now) had'
files_again sources now texts had had' e g =
    let same : length now ≡ length sources = ap length g.becomes ∙ length-put sources texts in
    let kept : had' ≡ g.behind = g.kept ∙ ap (λ (l : List Change). l ++ g.behind) e in
    subst (λ (n : ℕ). AreOfFiles n had') (sym same) (subst (λ (l : List Change). AreOfFiles (length sources) l) (sym kept) g.files)
