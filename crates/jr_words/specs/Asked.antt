-- Commands and faults of words, as contracts see them.
use Rattle.std.specs.Prelude.{
  ◌≡◌,
  ℕ,
  suc,
  ◌+◌,
  ◌<◌,
  List,
  [],
  ◌∷◌,
  ◌++◌,
  Option,
  None,
  Some,
  true,
  map,
  option_map,
  length,
  codes,
  nat_lt,
  if◌then◌else◌,
}
use Rattle.std.specs.Str.{bytes_eq}
use Rattle.clap.specs.Words.{App, Rule, app_of, new_rule, with_rule}
use Rattle.clap.specs.Words.{first_value, matched_of, raw_values}
use Rattle.clap.specs.Simple.{new_shape}
use Rattle.clap.specs.declared.builder.action.ArgAction.TheVariants.{Append}
use Rattle.clap.specs.declared.builder.command.Command as raw_clap
use Rattle.clap.specs.declared.parser.matches.Found.{Found}
use Rattle.jr_words.specs.declared.words.Operand as raw_operand
use Rattle.jr_words.specs.declared.words.Command as raw_command
use Rattle.jr_words.specs.declared.words.Command.TheVariants as asked_as
use Rattle.jr_words.specs.declared.words.WordsFault.{WordsFault}
use Rattle.jr_words.specs.declared.words.WordsFault.TheVariants.{Usage, Memory}
use Rattle.jr_words.specs.Words.{
  Operand,
  Command,
  rename,
  run,
  out_word,
  IsPlain,
  ArePlain,
  IsRename,
  MeanNothing,
  MayWantMemory,
}

abbrev pub operand_of : raw_operand.Operand → Operand
operand_of operand = record { word = operand.word; text = operand.text.now }

abbrev pub command_of : raw_command.Command → Command
command_of (asked_as.Rename file at name) = rename file.now at name.now
command_of (asked_as.Run out script files) =
    run (option_map (λ dir. dir.now) out) (operand_of script) (map operand_of files.items)

-- the words mean nothing, or there was no memory to read those of a run
abbrev pub IsWordsFault : List (List ℕ) → WordsFault → Type 0
IsWordsFault words Usage = MeanNothing words
IsWordsFault words Memory = MayWantMemory words

-- ---- for private clauses

abbrev pub IsNoRename : List (List ℕ) → Type 0
IsNoRename words = (file : List ℕ) (at : ℕ) (name : List ℕ) → IsRename words file at name → ⊥

-- as `HaveOperands`, without the numbers
abbrev pub HaveTexts : List (List ℕ) → Option (List ℕ) → List (List ℕ) → Type 0
HaveTexts words None texts = ArePlain words × (texts ≡ words)
HaveTexts words (Some dir) texts = (front : List (List ℕ)) × (back : List (List ℕ))
    × (words ≡ front ++ out_word ∷ dir ∷ back) × ArePlain front × IsPlain dir × ArePlain back
    × (texts ≡ front ++ back)

-- the command that `clap` is given
abbrev pub out_rule : Rule
out_rule = record (new_rule (codes "out")) { long = Some (codes "out") }

abbrev pub operands_rule : Rule
operands_rule = record (new_rule (codes "operands")) { action = Some Append; required = true }

abbrev pub run_app : App
run_app = with_rule (with_rule
    (record { top = record (new_shape (codes "run")) { disable_help_flag = true }; subs = [] })
    out_rule) operands_rule

abbrev pub IsRunCommand : raw_clap.Command → Type 0
IsRunCommand command = app_of command ≡ run_app

-- the words behind the first have this folder and these operands, of which there is one
abbrev pub FindsArguments : List (List ℕ) → Found → Type 0
FindsArguments words found = (rest : List (List ℕ)) × (words ≡ codes "run" ∷ rest)
    × (texts : List (List ℕ))
    × (option_map raw_values (matched_of found (codes "operands")) ≡ Some texts)
    × (0 < length texts) × HaveTexts rest (first_value found (codes "out")) texts

-- they have none, or there is no memory
abbrev pub IsArgumentsFault : List (List ℕ) → WordsFault → Type 0
IsArgumentsFault words Usage =
    (rest : List (List ℕ)) (out : Option (List ℕ)) (texts : List (List ℕ))
    → words ≡ codes "run" ∷ rest → 0 < length texts → HaveTexts rest out texts → ⊥
IsArgumentsFault words Memory = MayWantMemory words

-- the place of the first option among words, or how many there are
abbrev pub option_place : List (List ℕ) → ℕ
option_place [] = 0
option_place (word ∷ words) = if bytes_eq word out_word then 0 else suc (option_place words)

-- texts with the numbers of their words, of which the first is `number`, where the option and its
-- folder stand at `option`
abbrev pub placed : ℕ → ℕ → List (List ℕ) → List Operand
placed option number [] = []
placed option number (text ∷ texts) =
    record { word = if nat_lt number option then number else number + 2; text = text }
    ∷ placed option (number + 1) texts
