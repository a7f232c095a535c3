-- One member after the other is bound anew, or keeps what was bound. Only private clauses cite
-- this.
use Rattle.std.specs.Prelude.{
  ◌≡◌,
  ◌<◌,
  ℕ,
  ◌⊎◌,
  List,
  Bool,
  true,
  Some,
  length,
  map,
  slice_get,
  slice_set,
  slice_index_or,
}
use Rattle.jr_text.specs.declared.spans.Span.{Span}
use Rattle.jr_lex.specs.declared.items.Item.{Item}
use Rattle.jr_table.specs.Rows.{Row}
use Rattle.jr_members.specs.WrittenMembers.{WrittenMember}
use Rattle.jr_program.specs.declared.bounds.MemberBound.{MemberBound}
use Rattle.jr_program.specs.Members.{IsEachBound}
use Rattle.jr_mentions.specs.Apart.{IsCleanMember}
use Rattle.jr_mentions.specs.Avoids.{AvoidsPart}

-- it is none of the names, and refers to nothing by them
pub record IsSpared (names : List (List ℕ)) (w : WrittenMember Span) : Type 0 where
  pub clean : IsCleanMember names w.key
  pub avoids : AvoidsPart names w.part

-- what was bound of a member in its place is right of it
pub record Keeps (names : List (List ℕ)) (stays : List Bool) (w : WrittenMember Span)
    (b : MemberBound) : Type 0 where
  pub file : slice_get stays w.file ≡ Some true
  pub key : b.bound.member ≡ w.key
  pub spared : IsSpared names w

-- of each number the same file
pub record AreOfSameFiles (written : List (WrittenMember Span)) (earlier : List MemberBound)
    : Type 0 where
  pub count : length written ≡ length earlier
  pub file : (n : ℕ) (w : WrittenMember Span) (b : MemberBound) → n < length written
      → (slice_index_or written n w).file ≡ (slice_index_or earlier n b).file

module _ (rows : List Row) (files : List (List Item)) where
  -- what is bound of the member stands in the place of the number
  abbrev pub PutsBound : WrittenMember Span → (number : ℕ) → (old new : List MemberBound)
      → Type 0
  PutsBound w number old new = (b : MemberBound) × IsEachBound rows files w b
      × (new ≡ slice_set old number b)

  module _ (names : List (List ℕ)) (stays : List Bool) where
    -- it stays in its place, or what is bound of the member is put there
    abbrev pub RebindsOne : WrittenMember Span → (number : ℕ) → (old new : List MemberBound)
        → Type 0
    RebindsOne w number old new = ((b : MemberBound) × (slice_get old number ≡ Some b)
        × Keeps names stays w b × (new ≡ old)) ⊎ PutsBound w number old new

    abbrev pub IsRebound : WrittenMember Span → (old new : MemberBound) → Type 0
    IsRebound w old new = ((new ≡ old) × Keeps names stays w old) ⊎ IsEachBound rows files w new

    pub record AreRebound (written : List (WrittenMember Span)) (old new : List MemberBound)
        : Type 0 where
      pub count : length new ≡ length old
      pub each : (n : ℕ) (w : WrittenMember Span) (b : MemberBound) → n < length written
          → IsRebound (slice_index_or written n w) (slice_index_or old n b)
          (slice_index_or new n b)
