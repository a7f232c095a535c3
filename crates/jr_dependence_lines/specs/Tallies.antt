-- Lines that are counted, and kept while they are few. Only private clauses cite this, but for what
-- a call answers.
use Rattle.std.specs.Prelude.{
  ◌≡◌,
  ◌↔◌,
  ◌+◌,
  ◌≤◌,
  ℕ,
  List,
  [],
  ◌++◌,
  map,
  length,
  codes,
  decimal,
  slice_index_or,
  Option,
  Some,
  None,
  Bool,
  true,
  AllPairs,
  Contains,
}
use Rattle.jr_text.specs.declared.spans.Span.{Span}
use Rattle.jr_lex.specs.declared.items.Item.{Item}
use Rattle.jr_ast.specs.MemberTree.{Member}
use Rattle.jr_ast.specs.Marks.{member_mark}
use Rattle.jr_table.specs.Decls.{MemberKey}
use Rattle.jr_table.specs.Errors.{Part, member_part}
use Rattle.jr_table.specs.KeyView.{member_key_of}
use Rattle.jr_table.specs.Rows.{Row}
use Rattle.jr_bind.specs.Bounds.{IsBound}
use Rattle.jr_dependences.specs.declared.dependence.Dependence.{Dependence}
use Rattle.jr_dependences.specs.Depends.{DependsIn}
use Rattle.jr_dependences.specs.KindNames.{kind_name}
use Rattle.jr_dependences.specs.Listed.{IsBefore}
use Rattle.jr_effect.specs.Plain.{Same}
use Rattle.jr_sites.specs.declared.sites.PlacedSite as raw
use Rattle.jr_sites.specs.declared.sites.SiteGraph.{SiteGraph}
use Rattle.jr_sites.specs.SiteView.{sites_in}
use Rattle.jr_lines.specs.Lines.{bytes_of}
use Rattle.jr_members.specs.WrittenMembers.{WrittenMember}
use Rattle.jr_program_laws.specs.FileParts.{begins}
use Rattle.jr_program.specs.declared.bounds.MemberBound.{MemberBound}
use Rattle.jr_program.specs.Members.{IsMemberPlace}
use Rattle.jr_dependence_lines.specs.declared.member_lines.Texts.{Texts}
use Rattle.jr_dependence_lines.specs.declared.tallies.Tally.{Tally}
use Rattle.jr_dependence_lines.specs.declared.tallies.Words.{Words}
use Rattle.jr_dependence_lines.specs.declared.file_lines.Large.{Large}
use Rattle.jr_dependence_lines.specs.declared.file_lines.Shown.{Shown}
use Rattle.jr_dependence_lines.specs.declared.file_lines.Shown.TheVariants as shows
use Rattle.jr_dependence_lines.specs.Lines.{Line, texts_of}
use Rattle.jr_dependence_lines.specs.MemberLines.{
  PartHasLines,
  PartHasTooManySites,
  HaveLines,
  IsFirstLarge,
}

-- So many bytes were there before. All that there are now are counted with them; where it keeps them,
-- the texts are there.
pub record Tallies (before : ℕ) (keeps : Bool) (t : Tally) (texts : List (List ℕ)) : Type 0 where
  pub keeps_is : t.keeps ≡ keeps
  pub counted : t.len ≡ before + bytes_of texts
  pub kept : t.keeps ≡ true → t.lines.items ≡ texts

-- the texts stand behind those that there were
abbrev pub Puts : (old new : Tally) → List (List ℕ) → Type 0
Puts old new texts = (before : ℕ) (keeps : Bool) (there : List (List ℕ))
    → Tallies before keeps old there → Tallies before keeps new (there ++ texts)

-- ---- of one line

abbrev pub text_of : Words → List ℕ
text_of w = w.head.now ++ codes " " ++ w.kind.now ++ codes " " ++ w.first.now ++ codes " "
    ++ w.second.now

-- of a dependence, by the text of its member and the texts of the places of sites
abbrev pub told : (head : List ℕ) → (places : List (List ℕ)) → Dependence → List ℕ
told head places d = head ++ codes " " ++ kind_name d.kind ++ codes " "
    ++ slice_index_or places d.first [] ++ codes " " ++ slice_index_or places d.second []

abbrev pub all_told : (head : List ℕ) → (places : List (List ℕ)) → List Dependence
    → List (List ℕ)
all_told head places list = map (told head places) list

-- of sites of a member that begins at a byte
abbrev pub place_texts : (start : ℕ) → List raw.PlacedSite → List (List ℕ)
place_texts start sites = map (λ (s : raw.PlacedSite). decimal (start + s.at)) sites

-- ---- of a member

-- these are all dependences between the sites of a graph, in order
pub record AreAll (of : SiteGraph) (list : List Dependence) : Type 0 where
  pub ordered : AllPairs IsBefore list
  pub exact : (d : Dependence) → (Contains list d
      ↔ DependsIn Same Same (sites_in of.sites.items) of.graph.edges.items d)

-- the lines of these were put, by the text of a member and those of places
abbrev pub PutsAll : SiteGraph → Texts → (old new : Tally) → Type 0
PutsAll of texts old new = (list : List Dependence) × AreAll of list
    × Puts old new (all_told texts.head.now texts.places.now list)

-- the lines of these were put
abbrev pub PutsGraph : (head : List ℕ) → (start : ℕ) → SiteGraph → (old new : Tally) → Type 0
PutsGraph head start of old new = (list : List Dependence) × AreAll of list
    × Puts old new (all_told head (place_texts start of.sites.items) list)

-- what is known of a member whose parent begins at `base`
pub record IsBoundMember (rows : List Row) (items : List Item) (key : MemberKey) (base : ℕ)
    (x : Member Span) (b : MemberBound) : Type 0 where
  pub place : IsMemberPlace items x b.super_at
  pub start : b.start ≡ begins (member_mark x) base
  pub bound : IsBound begins rows b.super_at key base (member_part x) b.bound

-- None where its lines were put, else how many sites are too many
abbrev pub PutsPart : List Row → List Item → MemberKey → (base : ℕ) → Part Span
    → (old new : Tally) → Option ℕ → Type 0
PutsPart rows items key base part old new None = (lines : List Line)
    × PartHasLines rows items key base part lines × Puts old new (texts_of lines)
PutsPart rows items key base part old new (Some count) =
    PartHasTooManySites rows items key base part count

abbrev pub PutsMember : List Row → List Item → WrittenMember Span → (old new : Tally) → Option ℕ
    → Type 0
PutsMember rows items w old new count = PutsPart rows items w.key w.base w.part old new count

-- ---- of a file

-- None where the lines of all members were put, else the first that is too large
abbrev pub PutsMembers : List Row → List Item → List (WrittenMember Span) → (old new : Tally)
    → Option Large → Type 0
PutsMembers rows items ws old new None =
    (lines : List Line) × HaveLines rows items ws lines × Puts old new (texts_of lines)
PutsMembers rows items ws old new (Some large) =
    IsFirstLarge rows items ws (member_key_of large.member.now) large.count

abbrev pub IsTooMany : MemberKey → (count : ℕ) → Shown → Type 0
IsTooMany key n (shows.TooManySites member count) = (member_key_of member ≡ key) × (count ≡ n)
IsTooMany key n (shows.Lines texts len) = ⊥

-- What a call answers: all lines of members with the number of all bytes, and the texts where they
-- are asked for; or the first member with too many sites.
abbrev pub IsTold : List Row → List Item → (before : ℕ) → (Kept : Type 0)
    → List (WrittenMember Span) → Shown → Type 0
IsTold rows items before Kept ws (shows.TooManySites member count) =
    IsFirstLarge rows items ws (member_key_of member) count
IsTold rows items before Kept ws (shows.Lines texts len) =
    (lines : List Line) × HaveLines rows items ws lines
    × (len ≡ before + bytes_of (texts_of lines)) × (Kept → texts.items ≡ texts_of lines)

-- how many bytes there are with the lines, if there are lines
abbrev pub HasLen : Shown → (len : ℕ) → Type 0
HasLen (shows.TooManySites member count) n = ⊥
HasLen (shows.Lines texts len) n = len ≡ n

-- What a call answers: all lines of members with the number of all bytes, and the texts where that
-- is no more than a number; or the first member with too many sites.
abbrev pub IsShown : List Row → List Item → (before most : ℕ) → List (WrittenMember Span) → Shown
    → Type 0
IsShown rows items before most ws (shows.TooManySites member count) =
    IsFirstLarge rows items ws (member_key_of member) count
IsShown rows items before most ws (shows.Lines texts len) =
    (lines : List Line) × HaveLines rows items ws lines
    × (len ≡ before + bytes_of (texts_of lines)) × (len ≤ most → texts.items ≡ texts_of lines)
