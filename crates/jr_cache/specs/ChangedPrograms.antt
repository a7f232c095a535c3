-- The members of a program that comes of another, as contracts see them.
use Rattle.std.specs.Prelude.{List, map}
use Rattle.jr_members.specs.PartView.{written_of}
use Rattle.jr_program.specs.declared.bounds.MemberBound.{MemberBound}
use Rattle.jr_program.specs.Members.{EachOf, CanBind, AreKnown, AreEachBound}
use Rattle.jr_program.specs.Members.{AreInFileOrder, AreWrittenInOrder}
use Rattle.jr_cache.specs.declared.changed.ChangedProgram.{ChangedProgram}
use Rattle.jr_cache.specs.Rebinding.{IsRebinding}

module _ (program : ChangedProgram) where
  -- what binding asks of each of its members
  abbrev pub CanBindEach : Type 0
  CanBindEach = EachOf (CanBind program.table.now program.tokens.now)
      (map written_of program.written.now)

  -- this was bound of the members of the program before
  abbrev pub ComesOf : List MemberBound → Type 0
  ComesOf earlier = IsRebinding program.before.now program.table.now program.tokens.now
      (map written_of program.written.now) program.stays.now earlier

  -- one for each member, in their order
  abbrev pub AreBoundOf : List MemberBound → Type 0
  AreBoundOf bounds = AreEachBound program.table.now program.tokens.now
      (map written_of program.written.now) bounds

  abbrev pub AreKnownOf : List MemberBound → Type 0
  AreKnownOf bounds = AreKnown program.table.now program.tokens.now
      (map written_of program.written.now) bounds

  -- in order of files, where the members are written so
  abbrev pub AreOrderedAsWritten : List MemberBound → Type 0
  AreOrderedAsWritten bounds = AreWrittenInOrder (map written_of program.written.now)
      → AreInFileOrder bounds
