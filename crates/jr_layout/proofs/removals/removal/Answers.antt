use Rattle.std.proofs.Common.{◌≡◌, ◌∙◌, sym, refl, subst, inr, arith}
use Rattle.jr_layout.specs.Lines.{IsLastOnLine}
use Rattle.jr_layout.proofs.LinePlaces.{cut_behind_last, stops_behind}
use Rattle.jr_layout.proofs.removals.removal.Goals as goal

pub returns-in_default-rest_end-clause-removes : goal.returns-in_default-rest_end-clause-removes
returns-in_default-rest_end-clause-removes c =
    let same : c.as_bytes.result.now ≡ c.args.text.now = c.as_bytes.ensures.value ∙ c.as_str.ensures.whole in
    inr (λ lines whole. c.in_default-rest_end.ensures.none lines.to (subst (λ b. IsLastOnLine b c.args.span.to lines.to) (sym same) whole.back), refl)

pub returns-clause-cut : goal.returns-clause-cut
returns-clause-cut c =
    let same : c.as_bytes.result.now ≡ c.args.text.now = c.as_bytes.ensures.value ∙ c.as_str.ensures.whole in
    let last : IsLastOnLine c.args.text.now c.args.span.to c.in-Some-rest_end.stop = subst (λ b. IsLastOnLine b c.args.span.to c.in-Some-rest_end.stop) same c.in-Some-rest_end.ensures.some in
    let stop = cut_behind_last c.args.text.now c.args.span.to c.in-Some-rest_end.stop c.as_str.ensures.valid.utf8 last in
    let front = c.in-Some.ensures.some.ordered in
    record { ordered = omega (arith, stops_behind c.args.text.now c.args.span.to c.in-Some-rest_end.stop last, front, c.requires.ordered); within = stop.0; start = c.in-Some.ensures.cut.start; stop = stop }
