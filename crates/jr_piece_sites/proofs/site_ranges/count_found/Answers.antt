use Rattle.std.proofs.Common.{ap, ◌∙◌}
use Rattle.jr_expr_sites.specs.StepView.{given}
use Rattle.jr_piece_sites.specs.Growth.{count}
use Rattle.jr_piece_sites.proofs.Counting.{only_these}
use Rattle.jr_piece_sites.proofs.Growths.{if_ok_then}
use Rattle.jr_piece_sites.proofs.site_ranges.count_found.Goals as goal

pub put_found-requires : goal.put_found-requires
put_found-requires g c = record { fits = c.requires.fits }

pub returns : goal.returns
returns g c o numbers =
    let G = given g.F.Facts.decls g.F.Facts.types c.args.here.now in
    if_ok_then c.count_sites.result (λ n h. h ∙ ap (count G) c.deref.ensures.value
    ∙ only_these G c.new-steps.result.items c.put_found.new.out.items c.new-steps.ensures.items (c.in_ok-put_found.ensures o numbers)) c.count_sites.ensures
