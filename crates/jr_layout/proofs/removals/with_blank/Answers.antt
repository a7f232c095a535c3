use Rattle.std.proofs.Common.{◌≡◌, ℕ, ◌∙◌, ◌<◌, ◌≤◌, subst, arith}
use Rattle.jr_layout.specs.Layouts.{IsBlankByte}
use Rattle.jr_layout.proofs.Runs.{cut_behind_run, blank_ascii}
use Rattle.jr_layout.proofs.removals.with_blank.Goals as goal

pub returns-clause-cut : goal.returns-clause-cut
returns-clause-cut c =
    let same : c.as_bytes-bytes.result.now ≡ c.args.text.now = c.as_bytes-bytes.ensures.value ∙ c.as_str.ensures.whole in
    let run = subst (λ b. (k : ℕ) → c.args.span.to ≤ k → k < c.blank_end.result → IsBlankByte b k) same c.blank_end.ensures.run in
    let stop = cut_behind_run c.args.text.now (IsBlankByte c.args.text.now) c.args.span.to c.blank_end.result (blank_ascii c.args.text.now) c.as_str.ensures.valid.utf8 c.blank_end.ensures.from c.requires.stop run in
    record { ordered = omega (arith, c.requires.ordered, c.blank_end.ensures.from); within = stop.0; start = c.requires.start; stop = stop }
