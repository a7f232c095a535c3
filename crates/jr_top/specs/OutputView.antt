-- Outputs as contracts see them. Only private clauses cite this.
use Rattle.std.specs.Prelude.{◌≢◌, ℕ, ◌⊎◌, List, map, string_bytes, Option, None, Some, option_map}
use Rattle.std.specs.Borrow.{Bor}
use Rattle.jr_sources.specs.Sources.{Source, IsFile, LacksFile}
use Rattle.jr_words.specs.declared.words.Operand as raw_operand
use Rattle.jr_files.specs.Views.{store_of}
use Rattle.jr_top.specs.declared.outputs.Output as raw_output
use Rattle.jr_top.specs.Outputs.{Output}

abbrev pub text_of : raw_operand.Operand → List ℕ
text_of operand = operand.text.now

-- the bytes of the folder's name
abbrev pub dir_of : Option (Bor (List ℕ)) → Option (List ℕ)
dir_of out = option_map (λ (dir : Bor (List ℕ)). dir.now) out

abbrev pub output_of : raw_output.Output → Output
output_of output =
    record { stores = map store_of output.stores.items; report = string_bytes output.report }

-- the text of the file, which isn't what was read; or there is no such file, or it has the text
-- that was read
abbrev pub IsChangedText : List Source → (file read : List ℕ) → Option (Bor (List ℕ)) → Type 0
IsChangedText files file read (Some text) =
    (text.now ≢ read) × ((number : ℕ) × IsFile files number file text.now)
IsChangedText files file read None =
    LacksFile files file ⊎ ((number : ℕ) × IsFile files number file read)
