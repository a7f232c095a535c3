use Rattle.std.proofs.Common.{◌≡◌, ◌∙◌, refl, subst}
use Rattle.jr_layout.specs.Lines.{IsIndent}
use Rattle.jr_layout.proofs.LinePlaces.{cut_indent}
use Rattle.jr_layout.proofs.lines.indent_at.Goals as goal

pub returns-then-is_line_start-clause-cut : goal.returns-then-is_line_start-clause-cut
returns-then-is_line_start-clause-cut c =
    let same : c.as_bytes-bytes.result.now ≡ c.args.text.now = c.as_bytes-bytes.ensures.value ∙ c.as_str.ensures.whole in
    let indent : IsIndent c.as_bytes-bytes.result.now c.args.at (record { from = c.run_start-from.result; to = c.args.at }) = record {
      stop = refl;
      ordered = c.run_start-from.ensures.within;
      start = c.is_line_start.ensures.0 c.if-is_line_start.true;
      blanks = c.run_start-from.ensures.run;
    } in
    cut_indent c.args.text.now c.args.at (record { from = c.run_start-from.result; to = c.args.at }) c.as_str.ensures.valid.utf8 c.requires
    (subst (λ b. IsIndent b c.args.at (record { from = c.run_start-from.result; to = c.args.at })) same indent)
