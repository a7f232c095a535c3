-- The sources that the entries of a map stand for.
use Rattle.std.specs.Prelude.{ℕ, List, map, string_bytes}
use Rattle.std.specs.declared.string.String.{String}
use Rattle.jr_sources.specs.Sources.{Source}

abbrev pub source_of : {Y : Type 0} → String Y × List ℕ → Source
source_of e = record { name = string_bytes e.0; text = e.1 }

abbrev pub sources_of : {Y : Type 0} → List (String Y × List ℕ) → List Source
sources_of es = map source_of es
