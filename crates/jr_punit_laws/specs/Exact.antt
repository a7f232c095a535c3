-- What the machines answer is what the definitions mean.
use Rattle.std.specs.Prelude.{ℕ, Bool, List, MatchOption}
use Rattle.jr_ast.specs.MemberTree.{Member}
use Rattle.jr_grammar.specs.Tokens.{Token}
use Rattle.jr_grammar.specs.Units.{
  IsUnit,
  IsNoUnit,
  IsUnitStop,
  IsMember,
  IsNoMember,
  AreStatements,
  AreNoStatements,
  IsLongestMember,
  HasNoMember,
  IsMemberStop,
  IsListStop,
}
use Rattle.jr_grammar.specs.Bare.{Bare}
use Rattle.jr_punit_laws.specs.Machines.{
  list_read,
  list_stop,
  member_read,
  member_length,
  member_stop,
  unit_read,
  unit_stop,
}

-- ---- lists of statements

-- the machine reads the statements that the tokens are, and none only where they are none
abbrev pub ListIsRead : Type 0
ListIsRead = (tokens : List Token) →
    MatchOption (list_read tokens) (AreNoStatements tokens) (AreStatements tokens)

-- and it stops where reading stops
abbrev pub ListStopIsExact : Type 0
ListStopIsExact = (tokens : List Token) → IsListStop tokens (list_stop tokens)

-- ---- members

abbrev pub MemberIsRead : Type 0
MemberIsRead = (nested : Bool) (name : List ℕ) (tokens : List Token) →
    MatchOption (member_read nested name tokens) (IsNoMember nested name tokens)
    (IsMember nested name tokens)

-- what the machine finds is the longest, and none is there where it finds none
abbrev pub MemberLengthIsLongest : Type 0
MemberLengthIsLongest = (nested : Bool) (name : List ℕ) (tokens : List Token)
    → MatchOption (member_length nested name tokens) (HasNoMember nested name tokens)
    (λ n. (member : Member Bare) × IsLongestMember nested name tokens n member)

abbrev pub MemberStopIsExact : Type 0
MemberStopIsExact = (nested : Bool) (name : List ℕ) (tokens : List Token) →
    IsMemberStop nested name tokens (member_stop nested name tokens)

-- ---- units

abbrev pub UnitIsRead : Type 0
UnitIsRead = (tokens : List Token) →
    MatchOption (unit_read tokens) (IsNoUnit tokens) (IsUnit tokens)

abbrev pub UnitStopIsExact : Type 0
UnitStopIsExact = (tokens : List Token) → IsUnitStop tokens (unit_stop tokens)
