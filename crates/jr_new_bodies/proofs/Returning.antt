-- What was gathered since some time is taken away.
use Rattle.std.proofs.Common.{◌≡◌, ℕ, List, ◌++◌, length, map, take, sym, ap, ◌∙◌}
use Rattle.std.proofs.Math.Seq.{take-append_seam}
use Rattle.std.proofs.lemmas.List.{take-map}
use Rattle.jr_rewrite.specs.declared.changes.Change as raw_change
use Rattle.jr_rewrite.specs.ChangeView.{change_of, changes_of}
use Rattle.jr_new_words.specs.declared.choices.Lost as raw_lost
use Rattle.jr_new_words.specs.ChoiceView.{lost_of}
use Rattle.jr_new_bodies.specs.declared.outputs.Output as raw
use Rattle.jr_new_bodies.specs.declared.outputs.Start as raw_start
use Rattle.jr_new_bodies.specs.Effects.{Effect, both}
use Rattle.jr_new_bodies.specs.OutputView.{gathered, losses_in, IsStart}

front : {A : Type 0} (n : ℕ) (xs whole rest : List A) → n ≡ length xs → whole ≡ xs ++ rest → take n whole ≡ xs
front n xs whole rest is all = (λ i. take (is i) (all i)) ∙ take-append_seam xs rest

pub gone_back : (to : raw_start.Start) (o : raw.Output) (cs : List raw_change.Change) (ls : List raw_lost.Lost) → cs ≡ take to.changes o.changes.items → ls ≡ take to.losses o.losses.items
    → (first inside : Effect) → IsStart to first → gathered o ≡ both first inside
    → record { changes = changes_of cs; respelled = to.respelled; losses = losses_in ls } ≡ first
gone_back to o cs ls cut lost first inside start is =
    let changes : changes_of cs ≡ first.changes = ap changes_of cut ∙ sym (take-map change_of to.changes o.changes.items)
    ∙ front to.changes first.changes (changes_of o.changes.items) inside.changes start.0 (ap (λ (e : Effect). e.changes) is) in
    let losses : losses_in ls ≡ first.losses = ap losses_in lost ∙ sym (take-map lost_of to.losses o.losses.items)
    ∙ front to.losses first.losses (losses_in o.losses.items) inside.losses start.2 (ap (λ (e : Effect). e.losses) is) in
    λ i. record { changes = changes i; respelled = start.1 i; losses = losses i }
