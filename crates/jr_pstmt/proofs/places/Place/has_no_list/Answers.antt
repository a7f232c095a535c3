use Rattle.std.proofs.Common.{◌∙◌, ℕ, ap}
use Rattle.std.specs.Prelude.{◌==◌}
use Rattle.jr_pstmt.proofs.ListFrames.{no_list_counted}
use Rattle.jr_pstmt.proofs.places.Place.has_no_list.Goals as goal

pub returns : goal.returns
returns c = ap (λ (k : ℕ). k == 0) c.args.self.now.counted ∙ no_list_counted c.args.self.now.frames.items
