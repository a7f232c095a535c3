use Rattle.std.proofs.Common.{◌≡◌, [], ◌++◌, Option, refl, ap, sym, subst, ◌∙◌}
use Rattle.std.specs.Prelude.{IfSome}
use Rattle.std.proofs.lemmas.Option.{none-some, same_Some}
use Rattle.jr_ast.specs.View.{member_of}
use Rattle.jr_cover.specs.Spots.{Spot}
use Rattle.jr_expr_sites.specs.KnownFacts.{known_of}
use Rattle.jr_expr_sites.specs.StepView.{given}
use Rattle.jr_piece_sites.specs.Leads.{spots_of}
use Rattle.jr_piece_sites.specs.Pieces as pure
use Rattle.jr_piece_sites.specs.Pieces.{Piece, spotted, piece_at}
use Rattle.jr_piece_sites.specs.PieceView.{piece_of}
use Rattle.jr_piece_sites.proofs.SpottedPaths as spotted_path
use Rattle.jr_piece_sites.proofs.Descents as down
use Rattle.jr_piece_sites.proofs.Growths as growth
use Rattle.std.specs.Prelude.{option_and_then}
use Rattle.jr_piece_sites.specs.Descent.{Descended}
use Rattle.jr_piece_sites.specs.Fronts.{before}
use Rattle.jr_piece_sites.specs.Growth.{count}
use Rattle.jr_piece_sites.proofs.before.count_before.Goals as goal

pub reach-requires : goal.reach-requires
reach-requires g c = record { fits = c.requires.fits; begins = c.requires.start }

pub descend-requires : goal.descend-requires
descend-requires g c =
    let T = g.A.Mark.span_from in
    let F = g.A.Mark.fits_at in
    let G = given g.F.Facts.decls g.F.Facts.types c.args.here.now in
    let m = member_of c.args.member.now in
    let base = c.args.base in
    let outer = c.args.outer.now.steps.items in
    let first = subst (λ r. IfSome r (λ f. Descended T F G 0 base [] (pure.member m) outer [] f.number f.base (piece_of f.of) outer c.new-passed.result.items c.reach.new.out.items)) c.in-Some.is c.in_ok-reached.ensures.found in
    record { fits = first.fits; begins = first.start }

pub unreachable-requires : goal.unreachable-requires
unreachable-requires g c =
    let T = g.A.Mark.span_from in
    let m = member_of c.args.member.now in
    let base = c.args.base in
    let outer = c.args.outer.now.steps.items in
    let path = c.args.path.now.steps.items in
    let x = pure.member (spots_of T base m) in
    let found = spotted_path.some_at T m base (outer ++ path) c.requires.at in
    let z = found.to in
    let leads = sym (down.through outer path x) ∙ found.leads in
    let on = λ (o : Option (Piece Spot)). option_and_then (λ (y : Piece Spot). piece_at y path) o in
    let no = c.in_ok-reached.ensures.none (sym c.in-None.is) in
    none-some z (ap on no ∙ leads)

pub returns : goal.returns
returns g c o numbers y at =
    let T = g.A.Mark.span_from in
    let F = g.A.Mark.fits_at in
    let G = given g.F.Facts.decls g.F.Facts.types c.args.here.now in
    let m = member_of c.args.member.now in
    let base = c.args.base in
    let outer = c.args.outer.now.steps.items in
    let path = c.args.path.now.steps.items in
    let x = pure.member (spots_of T base m) in
    let found = spotted_path.some_at T m base (outer ++ path) c.requires.at in
    let z = found.to in
    let leads = sym (down.through outer path x) ∙ found.leads in
    let on = λ (o : Option (Piece Spot)). option_and_then (λ (y : Piece Spot). piece_at y path) o in
    let first = subst (λ r. IfSome r (λ f. Descended T F G 0 base [] (pure.member m) outer [] f.number f.base (piece_of f.of) outer c.new-passed.result.items c.reach.new.out.items)) c.in-Some.is c.in_ok-reached.ensures.found in
    let f = c.in-Some.found in
    let here = spotted T f.base outer (piece_of f.of) in
    let there = sym (down.step_end here) ∙ first.leads in
    let same : here ≡ y = same_Some here y (there ∙ at) in
    let all = c.deref.result.now in
    let new = c.descend.new.out.items in
    let last : before (known_of G o) here all ≡ before (known_of G o) y path = (λ i. before (known_of G o) (same i) (c.deref.ensures.value i)) in
    down.some_there (λ e. none-some z (c.in_ok-descend-in-Some.ensures.none e ∙ ap (piece_at here) c.deref.ensures.value ∙ ap on there ∙ leads)) c.in_ok-descend-in-Some.ensures.found (λ h second.
    growth.if_ok_then c.count_sites.result (λ n k. k ∙ ap (count G) c.deref-in-Some.ensures.value
    ∙ down.counted G o c.new-steps.result.items new here (spotted T h.base (outer ++ all) (piece_of h.of)) all c.new-steps.ensures.items (second.grown o (first.numbers o (refl, numbers)))
    ∙ last) c.count_sites.ensures)
