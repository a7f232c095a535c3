use Rattle.std.proofs.Common.{◌∙◌}
use Rattle.std.proofs.lemmas.Bool.{iff_false}
use Rattle.jr_table.specs.KeyView.{decl_of}
use Rattle.jr_bind.specs.Bounds.{decl_in}
use Rattle.jr_local_moves.proofs.Referring.{is_put, is_none}
use Rattle.jr_local_moves.proofs.places.add_place.Goals as goal

pub returns-then-not-is_bound : goal.returns-then-not-is_bound
returns-then-not-is_bound c =
    is_none c.args.start (decl_of c.args.wanted.now) c.args.at (decl_in c.args.bound.now.references c.args.at) c.args.places.now.items (iff_false c.is_bound.ensures c.if-not-is_bound.true)

pub returns : goal.returns
returns c =
    c.in_ok-push.ensures.items ∙ is_put c.args.start (decl_of c.args.wanted.now) c.args.at (decl_in c.args.bound.now.references c.args.at) c.args.places.now.items c.in_ok-place.place (c.is_bound.ensures.0 c.if-not-is_bound.false) c.in_ok-place.ensures
