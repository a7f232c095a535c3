use Rattle.std.proofs.Common.{◌∙◌, sym}
use Rattle.jr_pstmt.specs.PlaceView.{all}
use Rattle.jr_pstmt.proofs.ListFrames.{some_whole, none_whole}
use Rattle.jr_pstmt.proofs.places.Place.into_stmts.Goals as goal

pub returns-then-is_empty : goal.returns-then-is_empty
returns-then-is_empty c = some_whole c.args.self.frames.items c.args.self.frames.len (all c.args.self) c.args.self.frames.ok.0 (sym c.is_empty.ensures ∙ c.if-is_empty.true)

pub returns-else-is_empty : goal.returns-else-is_empty
returns-else-is_empty c = none_whole c.args.self.frames.items c.args.self.frames.len (all c.args.self) c.args.self.frames.ok.0 (sym c.is_empty.ensures ∙ c.if-is_empty.false)
