use Rattle.std.proofs.Common.{◌∙◌}
use Rattle.jr_pstmt.specs.PlaceView.{all}
use Rattle.jr_pstmt.proofs.ListFrames.{whole_is}
use Rattle.jr_pstmt.proofs.places.Place.is_empty.Goals as goal

pub returns : goal.returns
returns c = c.is_empty.ensures ∙ whole_is c.args.self.now.frames.items c.args.self.now.frames.len (all c.args.self.now) c.args.self.now.frames.ok.0
