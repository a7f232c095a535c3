-- What is said of a text: which tree it reads as, what this declares, that it is sound, which code
-- it is, and how a method of it runs.
use Rattle.std.specs.Prelude.{◌≡◌, ◌-◌, ℕ, List, [], ◌∷◌, map, codes}
use Rattle.jr_text.specs.declared.spans.Span.{Span}
use Rattle.jr_ast.specs.MemberTree as syntax
use Rattle.jr_grammar.specs.Layout.{itself}
use Rattle.jr_grammar.specs.Reads.{ReadsWithSpans}
use Rattle.jr_table.specs.Keys.{FieldKey}
use Rattle.jr_table.specs.Decls.{MemberKey}
use Rattle.jr_table.specs.Rows.{Row}
use Rattle.jr_table.specs.Prelude.{thread_key}
use Rattle.jr_table.specs.Conditions.{AreRows}
use Rattle.jr_table.specs.DeclaredItems.{declarations_of}
use Rattle.jr_table.specs.ProgramRows.{AreProgramRows}
use Rattle.jr_table.specs.Faults.{IsClean}
use Rattle.jr_table.specs.Errors.{HasError, IsSound}
use Rattle.jr_table.specs.declared.rules.Rule.{Rule}
use Rattle.jr_runs.specs.Values.{Value}
use Rattle.jr_runs.specs.Actions.{Trace}
use Rattle.jr_runs.specs.Core as core
use Rattle.jr_runs.specs.Running.{Start, Ending, gave_nothing, Whole, Bounded}
use Rattle.jr_runs.specs.FirstValues.{First}
use Rattle.jr_histories.specs.Histories.{begins, started, Step, part_of, History}
use Rattle.jr_code.specs.RunKeys.{RunKeys}
use Rattle.jr_code.specs.CodedFields.{AreFirstValues}
use Rattle.jr_code.specs.Programs.{IsCodeOf}

-- the places of a node's first and last byte
abbrev pub first_of : Span → ℕ → ℕ
first_of m base = m.from

abbrev pub last_of : Span → ℕ → ℕ
last_of m base = m.to - 1

-- one thread's actions, of which there are no others
abbrev pub alone : Trace RunKeys → List (Step RunKeys)
alone t = map (λ x. record { thread = 0; action = x }) t

-- A text as a program's one file: the tree that it reads as, and the rows of what this declares,
-- without a fault.
pub record HasTree (text : List ℕ) : Type 0 where
  pub unit : syntax.Unit Span
  pub reads : ReadsWithSpans itself text unit
  pub rows : List Row
  pub are : AreRows rows
  pub declared : AreProgramRows (declarations_of first_of (unit ∷ [])) rows
  pub clean : IsClean [] (declarations_of first_of (unit ∷ []))

-- No member breaks a rule, and P is its code. No text here writes `super(..)`, so this holds
-- wherever that stood.
pub record HasCode (text : List ℕ) (P : core.Program RunKeys) : Type 0 where
  pub tree : HasTree text
  pub sound : (super_at : MemberKey → ℕ)
      → IsSound first_of tree.rows super_at (tree.unit ∷ [])
  pub code : (super_at : MemberKey → ℕ)
      → IsCodeOf first_of last_of tree.rows super_at (tree.unit ∷ []) P

-- And one run of its: what is started, its actions, and how it ends. It is what a lone thread does:
-- each load gives what was stored last, or what the field begins with.
pub record Shows (text : List ℕ) (start : Start RunKeys) (trace : Trace RunKeys)
    (ending : Ending RunKeys) : Type 0 where
  pub program : core.Program RunKeys
  pub code : HasCode text program
  pub runs : Whole program start trace ending
  pub first : FieldKey → First RunKeys
  pub firsts : AreFirstValues first_of code.tree.rows (code.tree.unit ∷ []) program.rows first
  pub history : History program (thread_key (codes "run")) first (begins start ∷ []) (alone trace)

-- the same of a run that asks for nothing: it is the only one
pub record ShowsOnly (text : List ℕ) (start : Start RunKeys) (trace : Trace RunKeys)
    (ending : Ending RunKeys) : Type 0 where
  pub shows : Shows text start trace ending
  pub only : (other : Trace RunKeys) (end : Ending RunKeys) → Whole shows.program start other end
      → (other ≡ trace) × (end ≡ ending)

-- A thread that starts another, whose Thread object is told: what each of them does, and one order
-- of their steps, in which each load gives what was stored last.
pub record ShowsBoth (text : List ℕ) (start other : Start RunKeys) (of : Value RunKeys)
    (steps : List (Step RunKeys)) (ending : Ending RunKeys) : Type 0 where
  pub program : core.Program RunKeys
  pub code : HasCode text program
  pub runs : Whole program start (part_of 0 steps) ending
  pub others : Whole program other (part_of 1 steps) gave_nothing
  pub first : FieldKey → First RunKeys
  pub firsts : AreFirstValues first_of code.tree.rows (code.tree.unit ∷ []) program.rows first
  pub history : History program (thread_key (codes "run")) first
      (begins start ∷ started of ∷ []) steps

-- A member breaks the rule, so that the program isn't sound.
pub record Refuses (text : List ℕ) (rule : Rule) : Type 0 where
  pub tree : HasTree text
  pub breaks : (super_at : MemberKey → ℕ) → (k : MemberKey) × (at : ℕ)
      × HasError first_of tree.rows super_at (tree.unit ∷ []) k (record { at = at; rule = rule })

-- A sound program whose run begins with these actions, and comes to no end.
pub record NeverEnds (text : List ℕ) (start : Start RunKeys) (trace : Trace RunKeys) : Type 0 where
  pub program : core.Program RunKeys
  pub code : HasCode text program
  pub begins : Bounded program start trace
  pub never : (other : Trace RunKeys) (end : Ending RunKeys) → Whole program start other end → ⊥
