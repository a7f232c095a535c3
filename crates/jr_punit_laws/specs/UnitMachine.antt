-- Reading a compilation unit, token by token (JLS 7.3, 7.4).
use Rattle.std.specs.Prelude.{
  Bool,
  true,
  false,
  List,
  [],
  ◌∷◌,
  ◌++◌,
  Option,
  Some,
  None,
  if◌then◌else◌,
  option_map,
}
use Rattle.jr_ast.specs.Tree.{Word}
use Rattle.jr_ast.specs.MemberTree.{Class, Unit as UnitTree}
use Rattle.jr_grammar.specs.Tokens.{Token}
use Rattle.jr_pexpr.specs.Machine.{marked}
use Rattle.jr_pstmt.specs.Cues.{Cue, a_word, a_package, a_dot, a_semicolon, cue_of}
use Rattle.jr_pstmt.specs.Inside.{settled}
use Rattle.jr_punit_laws.specs.ClassMachine as Classes
use Rattle.jr_punit_laws.specs.MemberMachine as Members

-- the states of the machine for top-level classes
abbrev pub ClassState : Type 0 → Type 0
ClassState A = Classes.State A (Members.State A)

pub data State (A : Type 0) : Type 0 where
  -- nothing is read
  start : State A
  -- behind `package`, or behind a dot there: a word is to come
  in_package : (words : List (Word A)) → State A
  -- behind a word there
  worded : (words : List (Word A)) → State A
  -- among the classes
  in_classes : (words : List (Word A)) (classes : List (Class A)) (of : ClassState A) → State A

abbrev pub class_step : {A : Type 0} → (A → A → A) → ClassState A → A → Token →
    Option (ClassState A)
class_step {A} join s at t =
    Classes.step A (Members.State A) join Members.start Members.is_start (Members.step join false)
    Members.whole s at t

abbrev pub behind_class : {A : Type 0} → List (Word A) → List (Class A) → Class A → State A
behind_class ws cs c = in_classes ws (cs ++ (c ∷ [])) Classes.start

-- where the class becomes whole, the next one may come
abbrev pub class_read : {A : Type 0} → List (Word A) → List (Class A) → ClassState A → State A
class_read ws cs s = settled (in_classes ws cs) (behind_class ws cs) Classes.whole s

abbrev pub from_classes : {A : Type 0} → (A → A → A) → List (Word A) → List (Class A) →
    ClassState A → A → Token → Option (State A)
from_classes join ws cs s at t = option_map (class_read ws cs) (class_step join s at t)

abbrev pub from_start : {A : Type 0} → (A → A → A) → A → Token → Cue → Option (State A)
from_start join at t a_package = Some (in_package [])
from_start join at t _ = from_classes join [] [] Classes.start at t

abbrev pub from_package : {A : Type 0} → List (Word A) → A → Cue → Option (State A)
from_package ws at (a_word w) = Some (worded (ws ++ (marked at w ∷ [])))
from_package ws at _ = None

abbrev pub from_worded : {A : Type 0} → List (Word A) → Cue → Option (State A)
from_worded ws a_dot = Some (in_package ws)
from_worded ws a_semicolon = Some (in_classes ws [] Classes.start)
from_worded ws _ = None

abbrev pub cue_step : {A : Type 0} → (A → A → A) → State A → A → Token → Cue → Option (State A)
cue_step join start at t c = from_start join at t c
cue_step join (in_package ws) at t c = from_package ws at c
cue_step join (worded ws) at t c = from_worded ws c
cue_step join (in_classes ws cs s) at t c = from_classes join ws cs s at t

abbrev pub step : {A : Type 0} → (A → A → A) → State A → A → Token → Option (State A)
step join s at t = cue_step join s at t (cue_of t)

-- no class is begun
abbrev pub is_between : {A : Type 0} → ClassState A → Bool
is_between (Classes.modified []) = true
is_between _ = false

abbrev pub unit_of : {A : Type 0} → A → List (Word A) → List (Class A) → UnitTree A
unit_of whole_file ws cs = record { mark = whole_file; package_name = ws; classes = cs }

-- The unit, where it could end here. Its mark is not counted from its tokens: it is the whole file.
abbrev pub whole : {A : Type 0} → A → State A → Option (UnitTree A)
whole file start = Some (unit_of file [] [])
whole file (in_package ws) = None
whole file (worded ws) = None
whole file (in_classes ws cs s) = if is_between s then Some (unit_of file ws cs) else None
