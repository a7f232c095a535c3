-- What is reported of a status on standard error.
use Rattle.std.specs.Prelude.{
  ◌≡◌,
  ◌⊎◌,
  ℕ,
  ◌++◌,
  List,
  [],
  Option,
  None,
  Some,
  codes,
  decimal,
  slice_get,
  unwrap_or,
}
use Rattle.jr_shelf.specs.Sink.{PutAll, PutInPart}
use Rattle.jr_top.specs.declared.statuses.Status.{Status}
use Rattle.jr_top.specs.declared.statuses.Status.TheVariants as status
use Rattle.jr_top.specs.declared.messages.Message.{Message}
use Rattle.jr_top.specs.declared.messages.Message.TheVariants as message

-- the word of this number, empty where there is none
abbrev pub word_at : List (List ℕ) → ℕ → List ℕ
word_at words word = unwrap_or (slice_get words word) []

-- the text for a status after these words, if there is one
abbrev pub status_text : List (List ℕ) → Status → Option (List ℕ)
status_text words status.Done = None
status_text words status.Refused = None
status_text words status.Usage = Some (codes "jref: usage")
status_text words (status.ReadFault word) = Some (codes "jref: cannot read " ++ word_at words word)
status_text words (status.WriteFault stored) =
    Some (codes "jref: write fault after " ++ decimal stored ++ codes " files")
status_text words (status.BadScript fault) = Some (codes "jref: bad script")
status_text words (status.BadSource word fault) =
    Some (codes "jref: bad source " ++ word_at words word)
status_text words status.NoMemory = Some (codes "jref: no memory")

-- the text of a message
abbrev pub message_text : Message → List ℕ
message_text message.Usage = codes "jref: usage"
message_text (message.ReadFault file) = codes "jref: cannot read " ++ file.now
message_text (message.WriteFault stored) = codes "jref: write fault after " ++ decimal stored
    ++ codes " files"
message_text message.BadScript = codes "jref: bad script"
message_text (message.BadSource file) = codes "jref: bad source " ++ file.now
message_text message.NoMemory = codes "jref: no memory"

-- two texts and a line end
abbrev pub line_of : List ℕ → List ℕ → List ℕ
line_of front back = front ++ back ++ codes "\n"

-- a message and a line end
abbrev pub message_line : Message → List ℕ
message_line m = message_text m ++ codes "\n"

-- what standard error got: nothing where there is no text, and else the text's line, or a prefix of
-- it where a fault was counted
abbrev pub IsReported : Option (List ℕ) → Option (List ℕ) → Option (List ℕ) → ℕ → ℕ → Type 0
IsReported None before after faults_before faults_after = (after ≡ before)
    × (faults_after ≡ faults_before)
IsReported (Some text) before after faults_before faults_after =
    PutAll before after faults_before faults_after (text ++ codes "\n")
    ⊎ PutInPart before after faults_before faults_after (text ++ codes "\n")
