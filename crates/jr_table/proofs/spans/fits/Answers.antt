use Rattle.std.proofs.Common.{◌≡◌, ap, ◌∙◌, arith}
use Rattle.std.specs.Prelude.{slice_get, unwrap_or}
use Rattle.jr_table.specs.Spans.{enter_of, exit_of}
use Rattle.jr_table.proofs.spans.fits.Goals as goal

pub returns : goal.returns
returns c = λ t.
    let x = c.args.numbered.now in
    let a : c.number.result ≡ enter_of x c.args.at = c.number.ensures ∙ ap (λ xs. unwrap_or (slice_get xs c.args.at) 0) c.deref.ensures.value in
    let b : c.number-2.result ≡ exit_of x c.args.at = c.number-2.ensures ∙ ap (λ xs. unwrap_or (slice_get xs c.args.at) 0) c.deref-2.ensures.value in
    let lt = c.if-number.false in
    record {
      opens = omega (arith, a, b, lt);
      placed = c.is_placed.ensures c.if-not-is_placed.false;
      inside = λ p up. c.is_inside.ensures c.if-not-is_inside.false p (c.parent.ensures ∙ up);
      first = c.follows.ensures.first t;
      root = c.follows.ensures.root t;
      behind = c.follows.ensures.behind t;
    }
