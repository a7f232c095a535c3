use Rattle.std.proofs.Common.{◌≡◌, sym}
use Rattle.jr_table.specs.KeyView.{decl_of}
use Rattle.jr_lines.specs.LineView.{place_of}
use Rattle.jr_lines.proofs.Adding.{adds_one, adds_none, line_at, no_line}
use Rattle.jr_lines.proofs.member_lines.push_token.Goals as goal

pub returns-in-None : goal.returns-in-None
returns-in-None c = adds_none _ _ (λ x. no_line c.args.text.now c.args.tokens.now c.items_are_placed.ensures.items c.requires (place_of c.args.at) c.place.result (decl_of c.args.decl.now) c.place.ensures c.in-None.ensures x)

pub returns-in_ok-push-in-Some : goal.returns-in_ok-push-in-Some
returns-in_ok-push-in-Some c = adds_one _ _ _ _ c.in_ok-push-in-Some.ensures.items (λ x. line_at c.args.text.now c.args.tokens.now c.items_are_placed.ensures.items c.requires (place_of c.args.at) c.place.result (decl_of c.args.decl.now) c.in-Some.name.now c.place.ensures c.in-Some.ensures x)
