-- What was analysed of earlier sources, of which some files have the same text in these.
use Rattle.std.specs.Prelude.{◌≡◌, ℕ, List, slice_get, Option, Some, Bool, true}
use Rattle.jr_text.specs.declared.spans.Span.{Span}
use Rattle.jr_lex.specs.declared.items.Item.{Item}
use Rattle.jr_table.specs.Rows.{Row}
use Rattle.jr_members.specs.WrittenMembers.{WrittenMember}
use Rattle.jr_cache.specs.Rebinding.{IsRebinding}
use Rattle.jr_sources.specs.declared.analyses.EarlierAnalysis.{EarlierAnalysis}
use Rattle.jr_sources.specs.Sources.{Source, texts_of}
use Rattle.jr_sources.specs.Analysed.{IsAnalysis}

-- each file that is said to stay has the same text in both
abbrev pub TextsStay : (before sources : List Source) → (stays : List Bool) → Type 0
TextsStay before sources stays = (file : ℕ) → slice_get stays file ≡ Some true
    → slice_get (texts_of before) file ≡ slice_get (texts_of sources) file

abbrev pub IsEarlier : List Source → EarlierAnalysis → Type 0
IsEarlier sources e = (before : List Source) × IsAnalysis before e.analysis
    × TextsStay before sources e.stays.items

-- of what was analysed, if it is given
abbrev pub IsMaybeEarlier : List Source → Option EarlierAnalysis → Type 0
IsMaybeEarlier sources given = (e : EarlierAnalysis) → given ≡ Some e → IsEarlier sources e

-- written members can be bound by it
abbrev pub CanRebind : (rows : List Row) → (tokens : List (List Item))
    → (written : List (WrittenMember Span)) → Option EarlierAnalysis → Type 0
CanRebind rows tokens written given = (e : EarlierAnalysis) → given ≡ Some e
    → IsRebinding e.analysis.table rows tokens written e.stays.items e.analysis.members.items
