use Rattle.std.proofs.Common.{◌≡◌, ◌+◌, [], refl, ap, sym, subst, ◌∙◌}
use Rattle.std.specs.Prelude.{IfSome}
use Rattle.std.proofs.lemmas.Option.{none-some, same_Some}
use Rattle.jr_ast.specs.View.{member_of}
use Rattle.jr_expr_sites.specs.KnownFacts.{known_of}
use Rattle.jr_expr_sites.specs.StepView.{given}
use Rattle.jr_piece_sites.specs.Descent.{Descended}
use Rattle.jr_piece_sites.specs.Extents.{piece_size}
use Rattle.jr_piece_sites.specs.Growth.{count}
use Rattle.jr_piece_sites.specs.Leads.{spots_of}
use Rattle.jr_piece_sites.specs.Pieces as pure
use Rattle.jr_piece_sites.specs.Pieces.{spotted}
use Rattle.jr_piece_sites.specs.PieceView.{piece_of}
use Rattle.jr_piece_sites.proofs.Descents.{counted, step_end}
use Rattle.jr_piece_sites.proofs.Growths.{if_ok_then}
use Rattle.jr_piece_sites.proofs.SpottedPaths.{some_at}
use Rattle.jr_piece_sites.proofs.site_ranges.range_at.Goals as goal

pub reach-requires : goal.reach-requires
reach-requires g c = record { fits = c.requires.fits; begins = c.requires.start }

pub unreachable-requires : goal.unreachable-requires
unreachable-requires g c =
    let found = some_at g.A.Mark.span_from (member_of c.args.member.now) c.args.base c.args.path.now.steps.items c.requires.at in
    none-some found.to (c.in_ok-reached.ensures.none (sym c.in-None.is) ∙ found.leads)

pub count_found-requires : goal.count_found-requires
count_found-requires g c =
    let T = g.A.Mark.span_from in
    let G = given g.F.Facts.decls g.F.Facts.types c.args.here.now in
    let m = member_of c.args.member.now in
    let path = c.args.path.now.steps.items in
    let down = subst (λ r. IfSome r (λ f. Descended T g.A.Mark.fits_at G 0 c.args.base [] (pure.member m) path [] f.number f.base (piece_of f.of) path c.new-passed.result.items c.reach.new.out.items)) c.in-Some.is c.in_ok-reached.ensures.found in
    record { fits = down.fits }

pub returns : goal.returns
returns g c o numbers y at =
    let T = g.A.Mark.span_from in
    let G = given g.F.Facts.decls g.F.Facts.types c.args.here.now in
    let m = member_of c.args.member.now in
    let base = c.args.base in
    let path = c.args.path.now.steps.items in
    let x = pure.member (spots_of T base m) in
    let old = c.new-passed.result.items in
    let new = c.reach.new.out.items in
    let down = subst (λ r. IfSome r (λ f. Descended T g.A.Mark.fits_at G 0 base [] (pure.member m) path [] f.number f.base (piece_of f.of) path old new)) c.in-Some.is c.in_ok-reached.ensures.found in
    let f = c.in-Some.found in
    let here = spotted T f.base path (piece_of f.of) in
    let same : here ≡ y = same_Some here y (sym (step_end here) ∙ down.leads ∙ at) in
    let from = c.in_ok-from-in-Some.ensures ∙ ap (count G) c.deref.ensures.value ∙ counted G o old new x here path c.new-passed.ensures.items (down.grown o (refl, numbers)) in
    let size = c.in_ok-count-in-Some.ensures o (down.numbers o (refl, numbers)) ∙ ap (piece_size (known_of G o)) same in
    if_ok_then c.behind.result (λ r h. (h.0 ∙ from, h.1 ∙ (λ i. sym h.0 i + size i))) c.behind.ensures
