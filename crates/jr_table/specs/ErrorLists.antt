-- Exact: the errors of a log, by place and rule, each once; by a sort and one walk.
use Rattle.std.specs.Prelude.{
  ℕ,
  ◌+◌,
  ◌-◌,
  ◌*◌,
  List,
  [],
  ◌∷◌,
  ◌++◌,
  Bool,
  ◌&&◌,
  ◌||◌,
  nat_lt,
  ◌==◌,
  if◌then◌else◌,
}
use Rattle.jr_table.specs.Errors.{Error, rule_rank}
use Rattle.jr_table.specs.Notes.{Note, refers, breaks}

-- The error that a note tells, its place counted from `start`. No rule is broken before the first
-- byte of a member; what would stand there is left out.
abbrev pub error_of : (start : ℕ) → Note → List Error
error_of start (refers at d) = []
error_of start (breaks at r) =
    if nat_lt at start then [] else record { at = at - start; rule = r } ∷ []

abbrev pub errors_in : (start : ℕ) → List Note → List Error
errors_in start [] = []
errors_in start (n ∷ ns) = error_of start n ++ errors_in start ns

abbrev pub comes_before : Error → Error → Bool
comes_before e f =
    nat_lt e.at f.at || ((e.at == f.at) && nat_lt (rule_rank e.rule) (rule_rank f.rule))

abbrev pub same_error : Error → Error → Bool
same_error e f = (e.at == f.at) && (rule_rank e.rule == rule_rank f.rule)

-- a number by which errors are in order, since there are fewer than thirty-two rules
abbrev pub order_number : Error → ℕ
order_number e = e.at * 32 + rule_rank e.rule

-- an error put in front of the first that doesn't come before it
abbrev pub insert_error : Error → List Error → List Error
insert_error e [] = e ∷ []
insert_error e (x ∷ xs) = if comes_before x e then x ∷ insert_error e xs else e ∷ x ∷ xs

abbrev pub sort_errors : List Error → List Error
sort_errors [] = []
sort_errors (e ∷ es) = insert_error e (sort_errors es)

-- an error, and of those behind it each that isn't the one before it
abbrev pub drop_repeats : Error → List Error → List Error
drop_repeats e [] = e ∷ []
drop_repeats e (x ∷ xs) = if same_error e x then drop_repeats e xs else e ∷ drop_repeats x xs

abbrev pub each_once : List Error → List Error
each_once [] = []
each_once (e ∷ es) = drop_repeats e es

unfoldable pub errors_of_log : (start : ℕ) → List Note → List Error
errors_of_log start ns = each_once (sort_errors (errors_in start ns))
