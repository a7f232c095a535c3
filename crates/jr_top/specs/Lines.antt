-- The line that a refused rename puts.
use Rattle.std.specs.Prelude.{ℕ, List, ◌++◌, codes, decimal}
use Rattle.jr_names.specs.Refusals.{Refusal}
use Rattle.jr_names.specs.RefusalNames.{refusal_number}
use Rattle.jr_script.specs.RefusalTexts.{refusal_text}

-- `refused NUMBER TEXT` and a line end; the places are in these files
abbrev pub refusal_line : List (List ℕ) → Refusal → List ℕ
refusal_line files refusal = codes "refused " ++ decimal (refusal_number refusal) ++ codes " "
    ++ refusal_text files refusal ++ codes "\n"
