-- How `clap` walks over the words of a run.
use Rattle.std.proofs.Common.{◌≡◌, ◌∙◌, ◌==◌, ◌&&◌, ℕ, Bool, cond, true, false, refl, ap, List, [], ◌∷◌, Option, Some, None, codes, option_and_then}
use Rattle.std.specs.Str.{bytes_eq}
use Rattle.std.specs.Option.{option_map_or}
use Rattle.std.proofs.lemmas.Bool.{ne_eqb}
use Rattle.clap.specs.Lexer.{long_of, long_of_rest, short_of, short_of_rest, strip_byte}
use Rattle.clap.specs.Walk.{Held, Row, Rule, Step, Text, Waiting, Walk, after_step, has_row, idle, long_or_other, nothing_held, option, plain_word, positional, reading_by, short_or_plain, subcommand_or_other, trailing, walk_from, walked, with_values, without}
use Rattle.clap.specs.Simple.{Shape, built}
use Rattle.clap.specs.Faults.{bundle_fault, flag_word_fault, other_fault, settle_fault, step_fault, turn_fault}
use Rattle.clap.specs.Kinds.{Kinds, or_else}
use Rattle.clap.specs.declared.builder.value_parser.Reading.{Reading}
use Rattle.clap.specs.declared.error.kind.ErrorKind.TheVariants as kind
use Rattle.clap.specs.declared.parser.matches.ValueSource.TheVariants.{CommandLine}
use Rattle.jr_words.specs.Asked.{run_app}
use Rattle.jr_words.specs.Words.{IsPlain, out_word}

-- ---- the command

abbrev pub shape : Shape
shape = (built run_app).top

abbrev pub rules : List Rule
rules = shape.rules

abbrev pub out_id : Text
out_id = codes "out"

abbrev pub operands_id : Text
operands_id = codes "operands"

-- how texts are read
abbrev pub plainly : Reading
plainly = reading_by (record { id = out_id; long = None; aliases = []; short = None; short_aliases = []; index = None; action = None; range = None; value_names = 0; defaults = []; missing = []; trailing_var_arg = false; parser = None; ignore_case = false; required = false; is_simple = true; is_free = true })

abbrev pub put_out : Text → List Row → List Row
put_out dir rows = with_values out_id plainly CommandLine (dir ∷ []) (without out_id rows)

abbrev pub put_operand : Text → List Row → List Row
put_operand word rows = with_values operands_id plainly CommandLine (word ∷ []) rows

-- ---- where the walk stands between two words

-- nothing was read; a folder was read; an operand was
pub data State : Type 0 where
  fresh : State
  has_dir : List Row → Text → State
  has_operand : List Row → Text → State

abbrev pub walk_of : State → Walk
walk_of fresh = walk_from nothing_held
walk_of (has_dir rows dir) = record {
  held = record { rows = rows; pending = Some (out_id, dir ∷ []); skip = 0 };
  waiting = idle;
  position = 1;
  is_trailing = false;
  stopped = None;
}
walk_of (has_operand rows word) = record {
  held = record { rows = rows; pending = Some (operands_id, word ∷ []); skip = 0 };
  waiting = positional;
  position = 1;
  is_trailing = false;
  stopped = None;
}

-- the option was read, and its folder is next
abbrev pub waiting_with : List Row → Walk
waiting_with rows = record {
  held = record { rows = rows; pending = Some (out_id, []); skip = 0 };
  waiting = option out_id;
  position = 1;
  is_trailing = false;
  stopped = None;
}

-- the rows, once what is pending is used
abbrev pub settled_of : State → List Row
settled_of fresh = []
settled_of (has_dir rows dir) = put_out dir rows
settled_of (has_operand rows word) = put_operand word rows

-- what is wrong with what is pending: the option was there before
abbrev pub fault_of_state : State → Kinds
fault_of_state fresh = []
fault_of_state (has_dir rows dir) = cond (has_row out_id rows) (kind.ArgumentConflict ∷ []) []
fault_of_state (has_operand rows word) = []

conflict : (b : Bool) → or_else (cond (b && true) (kind.ArgumentConflict ∷ []) []) [] ≡ cond b (kind.ArgumentConflict ∷ []) []
conflict true = refl
conflict false = refl

refused_again : (b : Bool) → or_else (or_else (cond (b && true) (kind.ArgumentConflict ∷ []) []) []) [] ≡ cond b (kind.ArgumentConflict ∷ []) []
refused_again true = refl
refused_again false = refl

pub settles : (s : State) → settle_fault rules false (walk_of s).held ≡ fault_of_state s
settles fresh = refl
settles (has_dir rows dir) = conflict (has_row out_id rows)
settles (has_operand rows word) = refl

-- ---- one word

pub no_hyphen : (x : ℕ) (xs : List ℕ) → IsPlain (x ∷ xs) → (x == 45) ≡ false
no_hyphen x xs plain = ne_eqb x 45 plain.no_option

module _ (x : ℕ) (xs : Text) (e : (x == 45) ≡ false) where
  no_dashes : bytes_eq (x ∷ xs) (45 ∷ 45 ∷ []) ≡ false
  no_dashes = ap (λ (b : Bool). b && bytes_eq xs (45 ∷ [])) e

  no_long : long_of (x ∷ xs) ≡ None
  no_long = ap (λ (b : Bool). option_and_then long_of_rest (option_and_then (strip_byte 45) (cond b (Some xs) None))) e

  no_short : short_of (x ∷ xs) ≡ None
  no_short = ap (λ (b : Bool). option_and_then short_of_rest (cond b (Some xs) None)) e

  met : (waiting : Waiting) (h : Held) → subcommand_or_other rules None waiting 1 (x ∷ xs) h ≡ plain_word rules waiting (x ∷ xs) h
  met waiting h = (λ i. cond (no_dashes i) (h, trailing 1) (long_or_other rules waiting (x ∷ xs) (no_long i) h))
      ∙ ap (λ (o : Option Text). short_or_plain rules waiting (x ∷ xs) o h) no_short

  unfaulted : (h : Held) → other_fault shape None (x ∷ xs) h ≡ []
  unfaulted h = (λ i. cond (no_dashes i) [] (flag_word_fault rules false (no_long i) (x ∷ xs) h))
      ∙ ap (λ (o : Option Text). option_map_or (λ (flags : Text). bundle_fault rules false flags h) o []) no_short

  pub plain_from : (s : State) → walked rules [] (walk_of s) (x ∷ xs) ≡ walk_of (has_operand (settled_of s) (x ∷ xs))
  unfolding walked
  plain_from fresh = ap (λ (m : Held × Step). after_step rules (x ∷ xs) (walk_of fresh) m.0 m.1) (met idle nothing_held)
  plain_from (has_dir rows dir) =
      ap (λ (m : Held × Step). after_step rules (x ∷ xs) (walk_of (has_dir rows dir)) m.0 m.1) (met idle (walk_of (has_dir rows dir)).held)
  plain_from (has_operand rows word) =
      ap (λ (m : Held × Step). after_step rules (x ∷ xs) (walk_of (has_operand rows word)) m.0 m.1) (met positional (walk_of (has_operand rows word)).held)

  pub plain_fault : (s : State) → turn_fault shape [] (walk_of s) (x ∷ xs) ≡ fault_of_state s
  plain_fault fresh = λ i. or_else (unfaulted nothing_held i) (step_fault shape 1 (met idle nothing_held i).0 (met idle nothing_held i).1)
  plain_fault (has_dir rows dir) =
      let h = (walk_of (has_dir rows dir)).held in
      (λ i. or_else (unfaulted h i) (step_fault shape 1 (met idle h i).0 (met idle h i).1)) ∙ conflict (has_row out_id rows)
  plain_fault (has_operand rows word) =
      let h = (walk_of (has_operand rows word)).held in
      λ i. or_else (unfaulted h i) (step_fault shape 1 (met positional h i).0 (met positional h i).1)

  pub dir_from : (rows : List Row) → walked rules [] (waiting_with rows) (x ∷ xs) ≡ walk_of (has_dir rows (x ∷ xs))
  unfolding walked
  dir_from rows = ap (λ (m : Held × Step). after_step rules (x ∷ xs) (waiting_with rows) m.0 m.1) (met (option out_id) (waiting_with rows).held)

  pub dir_fault : (rows : List Row) → turn_fault shape [] (waiting_with rows) (x ∷ xs) ≡ []
  dir_fault rows =
      let h = (waiting_with rows).held in
      λ i. or_else (unfaulted h i) (step_fault shape 1 (met (option out_id) h i).0 (met (option out_id) h i).1)

pub out_from : (s : State) → walked rules [] (walk_of s) out_word ≡ waiting_with (settled_of s)
unfolding walked
out_from fresh = refl
out_from (has_dir rows dir) = refl
out_from (has_operand rows word) = refl

pub out_twice : (rows : List Row) → turn_fault shape [] (waiting_with rows) out_word ≡ kind.InvalidValue ∷ []
out_twice rows = refl

pub out_fault : (s : State) → turn_fault shape [] (walk_of s) out_word ≡ fault_of_state s
out_fault fresh = refl
out_fault (has_dir rows dir) = refused_again (has_row out_id rows)
out_fault (has_operand rows word) = refl
