-- Methods over methods, class by class upwards: exact.
use Rattle.std.specs.Prelude.{
  ℕ,
  List,
  [],
  ◌∷◌,
  Option,
  Bool,
  false,
  not,
  ◌&&◌,
  slice_get,
  option_and_then,
}
use Rattle.std.specs.List.{list_any}
use Rattle.jr_table.specs.declared.entries.Entry.{Entry}
use Rattle.jr_table.specs.Rows.{Row}
use Rattle.jr_table.specs.Entries.{entries_of, is_private_word}
use Rattle.jr_table.specs.Chains.{chain_of}
use Rattle.jr_table.specs.Looking.{own_row}
use Rattle.jr_table.specs.Meanings.{test_row}
use Rattle.jr_table.specs.Notes.{has_word}
use Rattle.jr_table.specs.HeadNotes.{clashes}

abbrev pub clashes_with : (own upper : Row) → Bool
clashes_with own upper = not (has_word is_private_word upper) && clashes own upper

-- with the method of this number
abbrev pub clashes_at : List Row → (own : Row) → Option ℕ → Bool
clashes_at rows own o = test_row (clashes_with own) (option_and_then (λ j. slice_get rows j) o)

-- `test c`: what is looked for in class c
module _ (rows : List Row) (test : ℕ → Entry → Bool) (own : Row) where
  -- with what this class declares
  abbrev pub clashes_in : ℕ → Bool
  clashes_in c = clashes_at rows own (own_row (entries_of rows) test c)

  -- with what one of these classes declares but the first
  abbrev pub clashes_behind : List ℕ → Bool
  clashes_behind [] = false
  clashes_behind (c ∷ cs) = list_any clashes_in cs

  -- with what a superclass declares
  unfoldable pub clashes_above : ℕ → Bool
  clashes_above c = clashes_behind (chain_of (entries_of rows) c)
