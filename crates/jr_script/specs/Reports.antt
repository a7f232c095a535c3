-- How replies are written.
use Rattle.std.specs.Prelude.{ℕ, List, [], ◌++◌, map, codes, All}
use Rattle.serde_json.specs.Data.{Data, string, number, unsigned, array, object, no_members, member}
use Rattle.serde_json.specs.View.{items_of}
use Rattle.serde_json.specs.Written.{compact_text}
use Rattle.jr_text.specs.declared.spans.Place.{Place}
use Rattle.jr_names.specs.Replies.{Reply, edited, refactored, shown, undone, redone, refused}
use Rattle.jr_names.specs.RefusalNames.{refusal_number}
use Rattle.jr_script.specs.RefusalTexts.{refusal_text, places_of, ArePlacesIn}

-- an array of strings
abbrev pub strings : List (List ℕ) → Data
strings texts = array (items_of (map string texts))

-- an object that has nothing but the word
abbrev pub word_object : List ℕ → Data
word_object word = object (member (codes "reply") (string word) no_members)

abbrev pub refactored_object : List (List ℕ) → ℕ → Data
refactored_object changed respelled =
    object (member (codes "files") (strings changed)
    (member (codes "reply") (string (codes "refactored"))
    (member (codes "respelled") (number (unsigned respelled)) no_members)))

abbrev pub shown_object : List (List ℕ) → Data
shown_object lines = object (member (codes "lines") (strings lines)
    (member (codes "reply") (string (codes "shown")) no_members))

-- the number and the text of a refusal
abbrev pub refused_object : ℕ → List ℕ → Data
refused_object n text =
    object (member (codes "number") (number (unsigned n))
    (member (codes "refusal") (string text)
    (member (codes "reply") (string (codes "refused")) no_members)))

-- a reply's object; the members of each stand in byte order
abbrev pub object_of : List (List ℕ) → Reply → Data
object_of files edited = word_object (codes "edited")
object_of files (refactored changed respelled) = refactored_object changed respelled
object_of files (shown lines) = shown_object lines
object_of files undone = word_object (codes "undone")
object_of files redone = word_object (codes "redone")
object_of files (refused refusal) =
    refused_object (refusal_number refusal) (refusal_text files refusal)

-- the compact text of the replies' objects, and a line end
abbrev pub report_text : List (List ℕ) → List Reply → List ℕ
report_text files replies =
    compact_text (array (items_of (map (object_of files) replies))) ++ codes "\n"

abbrev pub reply_places : Reply → List Place
reply_places edited = []
reply_places (refactored changed respelled) = []
reply_places (shown lines) = []
reply_places undone = []
reply_places redone = []
reply_places (refused refusal) = places_of refusal

-- each place of each reply is in one of the files
abbrev pub AreRepliesIn : List (List ℕ) → List Reply → Type 0
AreRepliesIn files replies = All (λ reply. ArePlacesIn files (reply_places reply)) replies
