-- The pure answers that those of the calls stand for.
use Rattle.std.specs.Prelude.{map}
use Rattle.jr_names.specs.RefusalView.{refusal_of}
use Rattle.jr_local_search.specs.NamingView.{naming_of}
use Rattle.jr_local_search.specs.PlaceView.{inline_of}
use Rattle.jr_local_asked.specs.AskedView.{asked_of}
use Rattle.jr_local_uses.specs.declared.uses.InlineFound.{InlineFound}
use Rattle.jr_local_uses.specs.declared.uses.InlineFound.TheVariants as variant
use Rattle.jr_local_uses.specs.declared.uses.Uses as raw
use Rattle.jr_local_uses.specs.Inlines.{Inlined, refused, found, Uses}

abbrev pub inlined_of : InlineFound → Inlined
inlined_of (variant.Refused r) = refused (refusal_of r)
inlined_of (variant.Found x ys) = found (asked_of x) (map naming_of ys.items)

abbrev pub uses_of : raw.Uses → Uses
uses_of x = record { namings = map naming_of x.namings.items; place = inline_of x.place }
