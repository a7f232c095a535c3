use Rattle.jr_text.specs.declared.spans.Span.{Span}
use Rattle.jr_moved_texts.proofs.MovedRuns as moved
use Rattle.jr_moved_texts.proofs.Boundaries as boundaries
use Rattle.jr_moved_texts.proofs.Spaced as spaced
use Rattle.jr_moved_texts.proofs.Cores as cores
use Rattle.jr_moved_texts.proofs.TightRuns as tight
use Rattle.jr_moved_texts.proofs.StandingPieces as pieces
use Rattle.jr_moved_texts.proofs.StatementShapes as shapes
use Rattle.jr_moved_texts.proofs.laws.runs_move.Goals as goal

pub returns : goal.returns
returns c =
    let a = boundaries.from_token in
    let b = spaced.ends_in_space in
    let d = cores.symbol_glued in
    let e = tight.run_weaves in
    let f = pieces.piece_stands in
    let g = shapes.list_shaped {A = Span} in
    moved.runs_move
