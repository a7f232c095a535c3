-- Reading a class, token by token, over a machine for its members (JLS 8.1).
use Rattle.std.specs.Prelude.{
  ℕ,
  Bool,
  false,
  List,
  [],
  ◌∷◌,
  ◌++◌,
  Option,
  Some,
  None,
  if◌then◌else◌,
  option_and_then,
}
use Rattle.jr_ast.specs.Tree.{Word, TypeName}
use Rattle.jr_ast.specs.MemberTree.{Modifier, Class, class, Member, Members, end, more}
use Rattle.jr_grammar.specs.Tokens.{Token}
use Rattle.jr_pexpr.specs.Machine.{marked}
use Rattle.jr_pstmt.specs.Cues.{
  Cue,
  a_word,
  a_modifier,
  a_class,
  an_extends,
  an_open_brace,
  at_open_brace,
  at_close_brace,
  cue_of,
}
use Rattle.jr_pstmt.specs.Inside.{inner, settled}
use Rattle.jr_pstmt.specs.TypeMachine as T
use Rattle.jr_pstmt.specs.OwnMachine.{Lead, lead_of, modifier}

-- a class up to its members
pub record Head (A : Type 0) : Type 0 where
  pub lead : Lead A
  pub word : Word A
  pub parent : Option (TypeName A)

-- S has the states of the machine that reads members.
pub data State (A S : Type 0) : Type 0 where
  -- behind modifiers, if any
  modified : (modifiers : List (Modifier A)) → State A S
  -- behind `class`
  at_class : (lead : Lead A) → State A S
  -- behind the class's name
  named : (lead : Lead A) (word : Word A) → State A S
  -- in the name of the superclass
  in_parent : (lead : Lead A) (word : Word A) (type : T.State A) → State A S
  -- among the members
  in_members : (head : Head A) (all : Members A) (member : S) → State A S
  done : (of : Class A) → State A S

abbrev pub start : {A S : Type 0} → State A S
start = modified []

abbrev pub with_member : {A : Type 0} → Members A → Member A → Members A
with_member end d = more d end
with_member (more e ds) d = more e (with_member ds d)

abbrev pub head_of : {A : Type 0} → Lead A → Word A → Option (TypeName A) → Head A
head_of l w parent = record { lead = l; word = w; parent = parent }

abbrev pub class_of : {A : Type 0} → (A → A → A) → Head A → A → Members A → Class A
class_of join h at all = class (join h.lead.start at) h.lead.modifiers h.word h.parent all

-- ---- up to the members

abbrev pub from_modified : {A S : Type 0} → List (Modifier A) → A → Cue → Option (State A S)
from_modified ms at (a_modifier m) = Some (modified (ms ++ (modifier at m ∷ [])))
from_modified ms at a_class = Some (at_class (lead_of ms at))
from_modified ms at _ = None

abbrev pub from_class : {A S : Type 0} → Lead A → A → Cue → Option (State A S)
from_class l at (a_word w) = Some (named l (marked at w))
from_class l at _ = None

module _ (A S : Type 0) (join : A → A → A) (fresh : S) (is_fresh : S → Bool) (member_step : List ℕ →
    S → A → Token → Option S) (member_whole : S → Option (Member A)) where
  abbrev pub opened : Lead A → Word A → Option (TypeName A) → State A S
  opened l w parent = in_members (head_of l w parent) end fresh

  abbrev pub from_named : Lead A → Word A → Cue → Option (State A S)
  from_named l w an_extends = Some (in_parent l w (T.want false))
  from_named l w an_open_brace = Some (opened l w None)
  from_named l w _ = None

  abbrev pub behind_parent : Lead A → Word A → Cue → TypeName A → Option (State A S)
  behind_parent l w c t = at_open_brace c (opened l w (Some t))

  abbrev pub from_parent : Lead A → Word A → T.State A → A → Cue → Option (State A S)
  from_parent l w s at c =
      inner (in_parent l w) (option_and_then (behind_parent l w c) (T.whole s))
      (T.cue_step join s at c)

  -- ---- members

  abbrev pub behind_member : Head A → Members A → Member A → State A S
  behind_member h all d = in_members h (with_member all d) fresh

  -- where the member becomes whole, the next one may come
  abbrev pub member_read : Head A → Members A → S → State A S
  member_read h all s = settled (in_members h all) (behind_member h all) member_whole s

  abbrev pub closed : Head A → Members A → S → A → Cue → Option (State A S)
  closed h all s at c = if is_fresh s then at_close_brace c (done (class_of join h at all))
      else None

  abbrev pub from_members : Head A → Members A → S → A → Token → Cue → Option (State A S)
  from_members h all s at t c =
      inner (member_read h all) (closed h all s at c) (member_step h.word.text s at t)

  -- ---- one step

  abbrev pub cue_step : State A S → A → Token → Cue → Option (State A S)
  cue_step (modified ms) at t c = from_modified ms at c
  cue_step (at_class l) at t c = from_class l at c
  cue_step (named l w) at t c = from_named l w c
  cue_step (in_parent l w s) at t c = from_parent l w s at c
  cue_step (in_members h all s) at t c = from_members h all s at t c
  cue_step (done of) at t c = None

  abbrev pub step : State A S → A → Token → Option (State A S)
  step s at t = cue_step s at t (cue_of t)

abbrev pub whole : {A S : Type 0} → State A S → Option (Class A)
whole (done of) = Some of
whole (modified ms) = None
whole (at_class l) = None
whole (named l w) = None
whole (in_parent l w s) = None
whole (in_members h all s) = None
