use Rattle.std.proofs.Common.{◌≡◌, take}
use Rattle.jr_dependence_lines.specs.Tallies.{place_texts}
use Rattle.jr_dependence_lines.proofs.member_lines.place_names.Given as goal

abbrev pub invariant-loop-site : goal.invariant-loop-site
invariant-loop-site l = l.names.items ≡ place_texts l.start (take l.site-index l.sites)
