-- Reading one member, token by token: of the class that has the name. `nested` says whether that
-- class is itself a member class, which holds no class (JLS 8.5).
use Rattle.std.specs.Prelude.{ℕ, Bool, false, List, Option, Some, None, if◌then◌else◌, option_map}
use Rattle.jr_ast.specs.MemberTree.{Class, Member, inner as inner_member}
use Rattle.jr_ast.specs.Marks.{class_mark}
use Rattle.jr_grammar.specs.Tokens.{Token}
use Rattle.jr_pstmt.specs.Cues.{Cue, a_class, cue_of}
use Rattle.jr_pstmt.specs.Inside.{inner}
use Rattle.jr_pstmt.specs.OwnMachine as Own
use Rattle.jr_punit_laws.specs.ClassMachine as Classes

pub data State (A : Type 0) : Type 0 where
  -- in a member that is no class, or behind modifiers
  own : (member : Own.State A) → State A
  -- in a class
  in_class : (of : Classes.State A (Own.State A)) → State A

abbrev pub start : {A : Type 0} → State A
start = own Own.start

-- `class` behind modifiers
abbrev pub class_begun : {A : Type 0} → Own.State A → A → Option (State A)
class_begun (Own.modified ms) at = Some (in_class (Classes.at_class (Own.lead_of ms at)))
class_begun _ at = None

abbrev pub begin_class : {A : Type 0} → Bool → Own.State A → A → Cue → Option (State A)
begin_class nested s at a_class = if nested then None else class_begun s at
begin_class nested s at _ = None

abbrev pub inner_step : {A : Type 0} → (A → A → A) → Classes.State A (Own.State A) → A → Token →
    Option (Classes.State A (Own.State A))
inner_step {A} join s at t =
    Classes.step A (Own.State A) join Own.start Own.is_start (Own.step join) Own.whole s at t

abbrev pub step : {A : Type 0} → (A → A → A) → Bool → List ℕ → State A → A → Token →
    Option (State A)
step join nested name (own s) at t =
    inner own (begin_class nested s at (cue_of t)) (Own.step join name s at t)
step join nested name (in_class s) at t = option_map in_class (inner_step join s at t)

abbrev pub class_member : {A : Type 0} → Class A → Member A
class_member c = inner_member (class_mark c) c

abbrev pub whole : {A : Type 0} → State A → Option (Member A)
whole (own s) = Own.whole s
whole (in_class s) = option_map class_member (Classes.whole s)

abbrev pub is_start : {A : Type 0} → State A → Bool
is_start (own s) = Own.is_start s
is_start (in_class s) = false
