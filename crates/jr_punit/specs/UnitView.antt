-- How far a unit has been read, as the machine has it.
use Rattle.std.specs.Prelude.{
  ◌≡◌,
  Bool,
  true,
  false,
  List,
  Vec,
  Option,
  option_map,
  Result,
  IfOk,
  map,
}
use Rattle.std.specs.Global.{Global}
use Rattle.jr_text.specs.declared.spans.Span.{Span}
use Rattle.jr_ast.specs.declared.names.Ident.{Ident}
use Rattle.jr_ast.specs.declared.members.Class.{Class}
use Rattle.jr_ast.specs.Tree.{Word}
use Rattle.jr_ast.specs.MemberTree as tree
use Rattle.jr_ast.specs.View.{word_of, class_of}
use Rattle.jr_punit.specs.declared.unit_state.UnitState.{UnitState}
use Rattle.jr_punit.specs.declared.unit_state.UnitState.TheVariants as rust
use Rattle.jr_punit.specs.ClassView.{class_state}
use Rattle.jr_pstmt.specs.Cues.{Cue, a_package}
use Rattle.jr_punit_laws.specs.UnitMachine as machine

abbrev pub words_view : Vec (Ident Span) Global → List (Word Span)
words_view words = map word_of words.items

abbrev pub classes_view : Vec (Class Span) Global → List (tree.Class Span)
classes_view classes = map class_of classes.items

abbrev pub unit_state : UnitState → machine.State Span
unit_state rust.Start = machine.start
unit_state (rust.InPackage words) = machine.in_package (words_view words)
unit_state (rust.Worded words) = machine.worded (words_view words)
unit_state (rust.InClasses words classes of) =
    machine.in_classes (words_view words) (classes_view classes) (class_state of)

-- the next state, or that there is none
abbrev pub IsNextUnit : {E : Type 0} → Result (Option UnitState) E → Option (machine.State Span) →
    Type 0
IsNextUnit result next = IfOk result (λ s. option_map unit_state s ≡ next)

abbrev pub is_package : Cue → Bool
is_package a_package = true
is_package _ = false
