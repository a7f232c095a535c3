use Rattle.jr_new_files.proofs.Standing.{lexed, no_super, the_super}
use Rattle.jr_new_files.proofs.supers.super_at.Goals as goal

pub first_super-requires : goal.first_super-requires
first_super-requires g c = lexed (g.V.View.program c.args.view.now) c.args.file c.args.span c.items.result.now c.requires c.items.ensures

pub returns-in-None : goal.returns-in-None
returns-in-None g c =
    let p = g.V.View.program c.args.view.now in
    λ n first. no_super p c.args.file c.args.span c.items.result.now c.requires c.items.ensures n 0 c.in-None.ensures first

pub returns-in-Some : goal.returns-in-Some
returns-in-Some g c =
    let p = g.V.View.program c.args.view.now in
    λ n first. the_super p c.args.file c.args.span c.items.result.now c.requires c.items.ensures n c.in-Some.at c.in-Some.ensures first
