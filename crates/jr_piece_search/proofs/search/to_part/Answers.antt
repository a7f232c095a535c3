use Rattle.std.proofs.Common.{◌∙◌, ap, sym, true}
use Rattle.jr_text.specs.declared.spans.Span.{Span}
use Rattle.jr_ast.specs.View.{stmt_of, stmts_of}
use Rattle.jr_ast.proofs.Rows.{stmt_mark_is}
use Rattle.jr_piece_search.specs.Sought.{Bars, barred}
use Rattle.jr_piece_search.specs.StepView.{bars_of}
use Rattle.jr_piece_search.specs.Turning.{at}
use Rattle.jr_piece_search.proofs.search.to_part.Goals as goal

pub returns : goal.returns
returns c =
    let place = c.args.place in (
      c.in_ok-push.ensures.items,
      ap (λ (b : Bars). at (record { bars = b; list = stmts_of place.list.now; stmt = stmt_of c.args.part.now }))
          (c.step_bars-bars.ensures ∙ ap (λ (m : Span). barred (bars_of place.bars) true m.from) (sym (stmt_mark_is place.of.now))),
    )
