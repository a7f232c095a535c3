-- What a case says, and how the machine tells it.
use Rattle.std.proofs.Common.{◌≡◌, ℕ, Bool, List, Option, Some, None, subst}
use Rattle.std.specs.Prelude.{MatchOption}
use Rattle.jr_lex.specs.declared.items.Item.{Item}
use Rattle.jr_lex.specs.Lexes.{Lexes}
use Rattle.jr_ast.specs.StatementTree.{Stmts}
use Rattle.jr_ast.specs.MemberTree.{Member, Unit as UnitTree}
use Rattle.jr_grammar.specs.Tokens.{Token, tokens_of}
use Rattle.jr_grammar.specs.Units.{IsUnit, IsNoUnit, IsUnitStop, IsLongestMember, HasNoMember, IsMemberStop, AreStatements, AreNoStatements, IsListStop}
use Rattle.jr_grammar.specs.Reads.{Reads}
use Rattle.jr_grammar.specs.Bare.{Bare}
use Rattle.jr_grammar.proofs.Cases.Scanned.{no_unit as no_reading}
use Rattle.jr_punit_laws.specs.Machines.{list_read, list_stop, member_length, member_stop, unit_read, unit_stop}
use Rattle.jr_punit_laws.proofs.Readings.{list_is_read, list_stop_is_exact, member_is_longest, member_stop_is_exact, unit_is_read, unit_stop_is_exact}

some_match : {T : Type 0} (o : Option T) (x : T) (P : Type 0) (Q : T → Type 0) → o ≡ Some x → MatchOption o P Q → Q x
some_match o x P Q e h = subst (λ o. MatchOption o P Q) e h

none_match : {T : Type 0} (o : Option T) (P : Type 0) (Q : T → Type 0) → o ≡ None → MatchOption o P Q → P
none_match o P Q e h = subst (λ o. MatchOption o P Q) e h

-- ---- lists of statements

pub statements : (tokens : List Token) (stmts : Stmts Bare) → list_read tokens ≡ Some stmts → AreStatements tokens stmts
statements tokens stmts e = some_match (list_read tokens) stmts (AreNoStatements tokens) (AreStatements tokens) e (list_is_read tokens)

pub no_statements : (tokens : List Token) → list_read tokens ≡ None → AreNoStatements tokens
no_statements tokens e = none_match (list_read tokens) (AreNoStatements tokens) (AreStatements tokens) e (list_is_read tokens)

pub list_stops : (tokens : List Token) (n : ℕ) → list_stop tokens ≡ n → IsListStop tokens n
list_stops tokens n e = subst (IsListStop tokens) e (list_stop_is_exact tokens)

-- ---- members

pub no_member : (nested : Bool) (name : List ℕ) (tokens : List Token) → member_length nested name tokens ≡ None → HasNoMember nested name tokens
no_member nested name tokens e = none_match (member_length nested name tokens) (HasNoMember nested name tokens) _ e (member_is_longest nested name tokens)

-- some member of so many tokens is the longest
abbrev pub IsMemberLength : Bool → List ℕ → List Token → ℕ → Type 0
IsMemberLength nested name tokens n = (member : Member Bare) × IsLongestMember nested name tokens n member

pub member_found : (nested : Bool) (name : List ℕ) (tokens : List Token) (n : ℕ) → member_length nested name tokens ≡ Some n → IsMemberLength nested name tokens n
member_found nested name tokens n e = some_match (member_length nested name tokens) n (HasNoMember nested name tokens) (IsMemberLength nested name tokens) e (member_is_longest nested name tokens)

pub member_stops : (nested : Bool) (name : List ℕ) (tokens : List Token) (n : ℕ) → member_stop nested name tokens ≡ n → IsMemberStop nested name tokens n
member_stops nested name tokens n e = subst (IsMemberStop nested name tokens) e (member_stop_is_exact nested name tokens)

-- ---- units

pub a_unit : (tokens : List Token) (unit : UnitTree Bare) → unit_read tokens ≡ Some unit → IsUnit tokens unit
a_unit tokens unit e = some_match (unit_read tokens) unit (IsNoUnit tokens) (IsUnit tokens) e (unit_is_read tokens)

pub no_unit : (tokens : List Token) → unit_read tokens ≡ None → IsNoUnit tokens
no_unit tokens e = none_match (unit_read tokens) (IsNoUnit tokens) (IsUnit tokens) e (unit_is_read tokens)

pub unit_stops : (tokens : List Token) (n : ℕ) → unit_stop tokens ≡ n → IsUnitStop tokens n
unit_stops tokens n e = subst (IsUnitStop tokens) e (unit_stop_is_exact tokens)

-- ---- from bytes

-- no unit reads from the bytes
abbrev pub ReadsNothing : List ℕ → Type 0
ReadsNothing bytes = (unit : UnitTree Bare) → Reads bytes unit → ⊥

pub reads_nothing : (bytes : List ℕ) (items : List Item) → Lexes bytes items → unit_read (tokens_of bytes items) ≡ None → ReadsNothing bytes
reads_nothing bytes items lexed e = no_reading bytes items lexed (no_unit (tokens_of bytes items) e)
