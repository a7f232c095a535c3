-- What has to be computed of a text and a tree without marks, so that the text has its code.
use Rattle.std.proofs.Common.{◌≡◌, ℕ, List, [], ◌∷◌, ◌++◌, length, ◌^◌, Some, Bool, true, ◌&&◌, refl, ◌∙◌}
use Rattle.std.specs.Prelude.{is_some, nat_lt, codes}
use Rattle.std.proofs.lemmas.Bool.{ltb-true, and_parts}
use Rattle.std.proofs.Math.Utf8.{scalars}
use Rattle.jr_text.specs.declared.spans.Span.{Span}
use Rattle.jr_ast.specs.MemberTree.{Unit as UnitTree}
use Rattle.jr_grammar.specs.Tokens.{tokens_of}
use Rattle.jr_grammar.specs.Bare.{Bare}
use Rattle.jr_grammar.specs.MemberSpelling.{unit_toks}
use Rattle.jr_grammar.specs.MemberShape.{UnitShaped}
use Rattle.jr_grammar.proofs.Cases.Scanned.{are_ascii, cut}
use Rattle.jr_runs.specs.Core as core
use Rattle.jr_runs.specs.Values.{Value}
use Rattle.jr_runs.specs.Actions.{Trace}
use Rattle.jr_runs.specs.FirstValues.{First}
use Rattle.jr_runs.specs.Running.{Start, Ending, gave_nothing, ending_of, Whole, plain_run, actions_of}
use Rattle.jr_runs.specs.Evaluation.{Flow}
use Rattle.jr_runs.specs.Arithmetic.{Out}
use Rattle.jr_plans.specs.Run.{ended}
use Rattle.jr_table.specs.Keys.{FieldKey}
use Rattle.jr_table.specs.Decls.{MemberKey}
use Rattle.jr_table.specs.Rows.{Row}
use Rattle.jr_table.specs.Prelude.{prelude_rows, thread_key}
use Rattle.jr_table.specs.Entries.{entries_of}
use Rattle.jr_table.specs.Conditions.{AreRows}
use Rattle.jr_table.specs.DeclaredItems.{DeclaredItem, declarations_of}
use Rattle.jr_table.specs.declared.rules.Rule.{Rule}
use Rattle.jr_table.proofs.LookupLaws.{keys_found}
use Rattle.jr_histories.specs.Histories.{begins, started, Step, part_of, Runs}
use Rattle.jr_code.specs.RunKeys.{RunKeys}
use Rattle.jr_code.specs.CodedMembers.{HasPrelude}
use Rattle.jr_code.specs.CodedFields.{UnitsFirsts}
use Rattle.jr_code.proofs.TestedRows.{all_first, all_named, all_lower, are_rows}
use Rattle.jr_code_cases.specs.Shown.{first_of, last_of, alone, HasTree, HasCode, Shows, ShowsOnly, ShowsBoth, Refuses}
use Rattle.jr_code_cases.proofs.Reading.{items, marked, reads}
use Rattle.jr_code_cases.proofs.TopTypes.{all_top}
use Rattle.jr_code_cases.proofs.DeclaredRows.{own_rows, all_pass, rows_are}
use Rattle.jr_code_cases.proofs.Broken.{rule_of, classes_wrong, has_error}
use Rattle.jr_code_cases.proofs.ComputedFirsts.{classes_values, values_declared, first, gives_all, are_first}
use Rattle.jr_code_cases.proofs.Memory.{AllMay, of_either, lone_history, two_histories}
use Rattle.jr_code_cases.proofs.OneRun.{one_run}
use Rattle.jr_code_cases.proofs.Clean.{is_clean, clean_is}
use Rattle.jr_code_cases.proofs.Sound.{classes_quiet, is_sound}
use Rattle.jr_code_cases.proofs.ComputedProgram.{methods_declared, ctors_declared, methods_of, ctors_of, program, ClassesCheck, is_code}

module _ (text : List ℕ) (tree : UnitTree Bare) where
  abbrev pub unit : UnitTree Span
  unit = marked text tree

  abbrev pub declarations : List DeclaredItem
  declarations = declarations_of first_of (unit ∷ [])

  abbrev pub own : List Row
  own = own_rows declarations declarations

  abbrev pub rows : List Row
  rows = prelude_rows ++ own

  abbrev pub resolved : core.Program RunKeys
  resolved = program first_of last_of rows unit

  -- what static fields begin with
  abbrev pub begin : FieldKey → First RunKeys
  begin = first first_of rows resolved.rows unit

  abbrev pub text_passes : Bool
  text_passes = are_ascii text && (scalars text && is_some (cut (length text) 0 text))

  abbrev pub rows_pass : Bool
  rows_pass = (all_top declarations && (all_pass declarations declarations && is_clean declarations)) && (all_first rows 0 rows && (all_named rows rows && (all_lower 0 (entries_of rows) && nat_lt (length rows) (2 ^ 32))))

  abbrev pub code_passes : Bool
  code_passes = methods_declared rows (methods_of first_of last_of rows unit) && ctors_declared rows (ctors_of first_of last_of rows unit)

  abbrev pub Checks : Type 0
  Checks = ClassesCheck first_of last_of rows declarations resolved 0 unit.classes

  module _ (passes : rows_pass ≡ true) where
    parts : (all_top declarations && (all_pass declarations declarations && is_clean declarations) ≡ true) × (all_first rows 0 rows && (all_named rows rows && (all_lower 0 (entries_of rows) && nat_lt (length rows) (2 ^ 32))) ≡ true)
    parts = and_parts (all_top declarations && (all_pass declarations declarations && is_clean declarations)) _ passes

    declared_parts : (all_pass declarations declarations ≡ true) × (is_clean declarations ≡ true)
    declared_parts = and_parts (all_pass declarations declarations) (is_clean declarations) (and_parts (all_top declarations) _ parts.0).1

    row_parts : (all_first rows 0 rows ≡ true) × (all_named rows rows && (all_lower 0 (entries_of rows) && nat_lt (length rows) (2 ^ 32)) ≡ true)
    row_parts = and_parts (all_first rows 0 rows) _ parts.1

    named_parts : (all_named rows rows ≡ true) × (all_lower 0 (entries_of rows) && nat_lt (length rows) (2 ^ 32) ≡ true)
    named_parts = and_parts (all_named rows rows) _ row_parts.1

    order_parts : (all_lower 0 (entries_of rows) ≡ true) × (nat_lt (length rows) (2 ^ 32) ≡ true)
    order_parts = and_parts (all_lower 0 (entries_of rows)) _ named_parts.1

    pub top : all_top declarations ≡ true
    top = (and_parts (all_top declarations) (all_pass declarations declarations && is_clean declarations) parts.0).0

    pub are : AreRows rows
    are = are_rows own rows refl row_parts.0 named_parts.0 order_parts.0 (ltb-true (length rows) (2 ^ 32) order_parts.1)

    module _ (texts : text_passes ≡ true) (shape : UnitShaped tree) (spells : unit_toks tree ≡ tokens_of text (items text)) where
      text_parts : (are_ascii text ≡ true) × (scalars text && is_some (cut (length text) 0 text) ≡ true)
      text_parts = and_parts (are_ascii text) (scalars text && is_some (cut (length text) 0 text)) texts

      cut_parts : (scalars text ≡ true) × (is_some (cut (length text) 0 text) ≡ true)
      cut_parts = and_parts (scalars text) (is_some (cut (length text) 0 text)) text_parts.1

      pub has_tree : HasTree text
      has_tree = record { unit = unit; reads = reads text tree text_parts.0 cut_parts.0 cut_parts.1 shape spells; rows = rows; are = are; declared = rows_are declarations top declared_parts.0; clean = clean_is declarations top declared_parts.0 declared_parts.1 }

      pub has_code : ((super_at : MemberKey → ℕ) → classes_quiet first_of rows declarations super_at 0 unit.classes ≡ true) → code_passes ≡ true → Checks → HasPrelude resolved → HasCode text resolved
      unfolding has_tree
      has_code quiet codes checks prelude = record {
        tree = has_tree;
        sound = λ super_at. is_sound first_of rows are (keys_found rows are) super_at unit top (quiet super_at);
        code =
            let m = and_parts (methods_declared rows (methods_of first_of last_of rows unit)) (ctors_declared rows (ctors_of first_of last_of rows unit)) codes in
            is_code first_of last_of rows are (keys_found rows are) unit top checks m.0 m.1 prelude;
      }

      pub refuses : (rule : Rule) → ((super_at : MemberKey → ℕ) → rule_of (classes_wrong first_of rows declarations super_at rule 0 unit.classes) ≡ Some rule) → Refuses text rule
      unfolding has_tree
      refuses rule wrong = record { tree = has_tree; breaks = λ super_at. has_error first_of rows are (keys_found rows are) super_at unit top rule (wrong super_at) }

      -- the run, with what static fields begin with, and each action where memory lets it come
      module _ (quiet : (super_at : MemberKey → ℕ) → classes_quiet first_of rows declarations super_at 0 unit.classes ≡ true) (codes_pass : code_passes ≡ true) (checks : Checks) (prelude : HasPrelude resolved) where
        pub shows : (start : Start RunKeys) (trace : Trace RunKeys) (ending : Ending RunKeys) → values_declared rows (classes_values first_of unit.classes) ≡ true → UnitsFirsts first_of begin (unit ∷ []) → Whole resolved start trace ending
            → AllMay resolved.rows begin (begins start ∷ []) [] (alone trace) → Shows text start trace ending
        unfolding has_tree has_code
        shows start trace ending values firsts whole may = record {
          program = resolved;
          code = has_code quiet codes_pass checks prelude;
          runs = whole;
          first = begin;
          firsts = are_first first_of rows resolved.rows unit values firsts;
          history = lone_history resolved begin (gives_all first_of rows resolved.rows unit) (thread_key (codes "run")) start trace ending whole may;
        }

        -- the same where nothing is asked for
        pub shows_only : (start : Start RunKeys) (trace : Trace RunKeys) (ending : Ending RunKeys) → values_declared rows (classes_values first_of unit.classes) ≡ true → UnitsFirsts first_of begin (unit ∷ []) → (n : ℕ) (out : Out (Flow RunKeys))
            → actions_of (plain_run resolved start [] n).trace ≡ trace → (plain_run resolved start [] n).end ≡ ended out → ending_of out ≡ ending → AllMay resolved.rows begin (begins start ∷ []) [] (alone trace) → ShowsOnly text start trace ending
        unfolding shows
        shows_only start trace ending values firsts n out trace_is end_is ending_is may = record {
          shows = shows start trace ending values firsts (record { answers = []; fuel = n; out = out; trace_is = trace_is; end_is = end_is; ending_is = ending_is }) may;
          only = λ other end w. let one = one_run resolved start n out end_is other end w in (one.0 ∙ trace_is, one.1 ∙ ending_is);
        }

        -- two threads
        pub shows_both : (start other : Start RunKeys) (of : Value RunKeys) (steps : List (Step RunKeys)) (ending : Ending RunKeys) → values_declared rows (classes_values first_of unit.classes) ≡ true → UnitsFirsts first_of begin (unit ∷ [])
            → Whole resolved start (part_of 0 steps) ending → Runs resolved.rows (thread_key (codes "run")) (started of) other → Whole resolved other (part_of 1 steps) gave_nothing → of_either steps ≡ true
            → AllMay resolved.rows begin (begins start ∷ started of ∷ []) [] steps → ShowsBoth text start other of steps ending
        unfolding has_tree has_code
        shows_both start other of steps ending values firsts whole runs others either may = record {
          program = resolved;
          code = has_code quiet codes_pass checks prelude;
          runs = whole;
          others = others;
          first = begin;
          firsts = are_first first_of rows resolved.rows unit values firsts;
          history = two_histories resolved begin (gives_all first_of rows resolved.rows unit) (thread_key (codes "run")) start of steps (part_of 0 steps) (part_of 1 steps) ending gave_nothing other whole runs others refl refl either may;
        }
