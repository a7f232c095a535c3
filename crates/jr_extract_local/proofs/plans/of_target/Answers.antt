use Rattle.jr_extract_local.proofs.plans.of_target.Goals as goal

pub find_statement-requires : goal.find_statement-requires
find_statement-requires g c = (g.V.View.program c.args.view.now, (c.requires.target, tt))

pub piece_output-requires : goal.piece_output-requires
piece_output-requires g c =
    let p = g.V.View.program c.args.view.now in
    let x = c.requires.target in (p, (x, c.in_ok-at.ensures p x))

pub list_output-requires : goal.list_output-requires
list_output-requires g c =
    let p = g.V.View.program c.args.view.now in
    let x = c.requires.target in
    let place = c.in_ok-at.ensures p x in (p, (x, (place, c.in_ok-piece.ensures p x place)))

pub of_list-requires : goal.of_list-requires
of_list-requires g c =
    let p = g.V.View.program c.args.view.now in
    let x = c.requires.target in
    let place = c.in_ok-at.ensures p x in
    record {
      name = c.requires.name;
      list = (x, place, (_, c.in_ok-listed.ensures p x place (c.in_ok-piece.ensures p x place)));
    }

pub returns : goal.returns
returns g c = c.of_list.ensures
