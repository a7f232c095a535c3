-- The pure answers that those of the calls stand for.
use Rattle.jr_names.specs.RefusalView.{refusal_of}
use Rattle.jr_local_finds.specs.declared.extracting.ExtractFound.{ExtractFound}
use Rattle.jr_local_finds.specs.declared.extracting.ExtractFound.TheVariants as variant
use Rattle.jr_local_finds.specs.Extracts.{Extracted, refused, found}
use Rattle.jr_local_finds.specs.ValueView.{chosen_of}

abbrev pub extracted_of : ExtractFound → Extracted
extracted_of (variant.Refused r) = refused (refusal_of r)
extracted_of (variant.Found x n) = found (chosen_of x) n
