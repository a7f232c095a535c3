use Rattle.std.proofs.Common.{◌∙◌, ap, sym, inl, inr}
use Rattle.std.proofs.lemmas.Bool.{true≢false}
use Rattle.clap.specs.Matches.{found_of}
use Rattle.clap.specs.Simple.{is_simple}
use Rattle.clap.specs.Faults.{is_simple_and_free}
use Rattle.jr_words.proofs.MatchLaws.{found, unfound}
use Rattle.jr_words.proofs.arguments.matches_of.Goals as goal

pub returns-in-Ok-clause-ok : goal.returns-in-Ok-clause-ok
returns-in-Ok-clause-ok c =
    found _ c.requires.rest c.requires.begins c.requires.well_formed _ c.in_ok-command.ensures (found_of c.in-Ok.matches)
    (c.in-Ok.ensures.matches (ap is_simple c.in_ok-command.ensures)).0 (c.in-Ok.ensures.kinds (ap is_simple_and_free c.in_ok-command.ensures))

pub returns-clause-fault : goal.returns-clause-fault
returns-clause-fault c = λ rest out texts begins some have.
    elim (c.in-Err.ensures.kinds (ap is_simple_and_free c.in_ok-command.ensures)) [
      | inl memory ↦ absurd (true≢false (sym (rw (c.kind.ensures ∙ memory) at c.eq.ensures) ∙ c.if-eq.false))
      | inr among ↦ unfound _ rest begins _ c.in_ok-command.ensures _ among out texts some have
    ]
