use Rattle.std.proofs.Common.{append_assoc, sym}
use Rattle.jr_script.proofs.texts.site_at_text.Goals as goal

pub returns : goal.returns
returns c = rw (sym c.in_ok-place.ensures, sym c.in_ok-site.ensures) (simp append_assoc c.format.ensures.ok)
