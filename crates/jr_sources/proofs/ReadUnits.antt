-- Units that sources read as have the heads that a table is built of.
use Rattle.std.proofs.Common.{◌≡◌, ℕ, List, [], ◌∷◌, sym, subst}
use Rattle.jr_text.specs.declared.spans.Span.{Span}
use Rattle.jr_ast.specs.MemberTree.{Unit as UnitTree}
use Rattle.jr_build_rows.specs.Heads.{UnitsHeads}
use Rattle.jr_sources.specs.FirstFault.{AreRead}
use Rattle.jr_sources.specs.Sources.{Source}
use Rattle.jr_sources.proofs.Heads.{classes_heads}

pub units_headed : (ss : List Source) (us : List (UnitTree Span)) (ws : List ℕ) → AreRead ss us ws → UnitsHeads us
units_headed [] us ws h = subst UnitsHeads (sym h.0) tt
units_headed (s ∷ ss) us ws (v, vs, w, xs, eu, ew, r, rest) = subst UnitsHeads (sym eu) (classes_heads v.classes r.is.shaped, units_headed ss vs xs rest)
