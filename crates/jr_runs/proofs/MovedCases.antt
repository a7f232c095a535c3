-- Code that is moved or taken apart, as theorems by computation: what both programs do, in the order of JLS 14 and 15. Where a
-- rule of images asks for something, two programs that break it show why.
use Rattle.std.proofs.Common.{◌≡◌, ℕ, true, false, List, [], ◌∷◌, pos, None, refl}
use Rattle.jr_plans.specs.Run.{End, ended}
use Rattle.jr_runs.specs.Values.{Value, null, truth, text}
use Rattle.jr_runs.specs.Actions.{plain, volatile, shared, Action, load, store, enter, exit, Trace}
use Rattle.jr_runs.specs.Core as core
use Rattle.jr_runs.specs.Core.{add, less, comparison, Exp, literal, read, assign, binary, static_call, local, static_field, Stmt, declare, eval, branch, loop, return, return_nothing, block, sync, empty, written}
use Rattle.jr_runs.specs.Running.{of_method, Ending, gave, gave_nothing}
use Rattle.jr_runs.proofs.Sample.{K, program, code, listed, shown, number, num, var, calc, args_of}

-- ---- static code: field 5 is a static int, and field 6 a static volatile int

abbrev get_static : ℕ → Exp K
get_static f = read None (static_field None f)

abbrev put_static : ℕ → Exp K → Stmt K
put_static f e = eval None (assign None (static_field None f) e)

abbrev set : ℕ → Exp K → Stmt K
set n e = eval None (assign None (local None n) e)

abbrev wrote : ℕ → Action K
wrote n = store plain (shared 5) (number n)

abbrev loaded : ℕ → Action K
loaded n = load volatile (shared 6) (number n)

-- ---- a moved `return;`

-- `void m(boolean b) { if (b) return; f = 1; }` and `void n(boolean b) { m(b); f = 2; }`
abbrev returning : List (Stmt K)
returning = branch None (var 0) (return_nothing None) (empty None) ∷ put_static 5 (num (pos 1)) ∷ []

abbrev calling : List (Stmt K)
calling = eval None (static_call None 1 (args_of (var 0 ∷ []))) ∷ put_static 5 (num (pos 2)) ∷ []

abbrev unmoved : Value K → Trace K × End (Ending K)
unmoved b = shown (program (written (code 1 calling) ∷ written (code 1 returning) ∷ []) []) (of_method 0 null (b ∷ [])) [] 3

-- the body has moved, and m calls it: m goes on to its end where the body returns
abbrev moved : Value K → Trace K × End (Ending K)
moved b = shown (program (written (code 1 calling) ∷ written (code 1 (eval None (static_call None 2 (args_of (var 0 ∷ []))) ∷ [])) ∷ written (code 1 returning) ∷ []) []) (of_method 0 null (b ∷ [])) [] 3

return_has_moved : moved (truth true) ≡ unmoved (truth true)
return_has_moved = refl

return_is_seen_by_none : moved (truth true) ≡ (wrote 2 ∷ [], ended gave_nothing)
return_is_seen_by_none = refl

other_way_has_moved : moved (truth false) ≡ unmoved (truth false)
other_way_has_moved = refl

other_way_writes : moved (truth false) ≡ (wrote 1 ∷ wrote 2 ∷ [], ended gave_nothing)
other_way_writes = refl

-- the last call of all: the method itself gives nothing in both
abbrev at_the_top : List (Stmt K) → Trace K × End (Ending K)
at_the_top b = shown (program (written (code 1 b) ∷ written (code 1 returning) ∷ []) []) (of_method 0 null (truth true ∷ [])) [] 3

returning_and_going_on_are_one : at_the_top (eval None (static_call None 1 (args_of (var 0 ∷ []))) ∷ []) ≡ at_the_top returning
returning_and_going_on_are_one = refl

-- ---- a lock's body with a stale local

abbrev up_to_two : List (Stmt K) → List (Stmt K)
up_to_two b = declare None 0 (num (pos 0)) ∷ loop None (binary None (comparison less) (var 0) (num (pos 2))) (block None [] (listed b)) ∷ return None (var 0) ∷ []

abbrev count_up : Stmt K
count_up = set 0 (calc add (var 0) (num (pos 1)))

abbrev lock : Exp K
lock = literal None (text (120 ∷ []))

-- `static void k() { synchronized ("x") { int y = 1; y = y + f6; f = y; } }`
abbrev locked_body : ℕ → List (Stmt K)
locked_body y = declare None y (num (pos 1)) ∷ set y (calc add (var y) (get_static 6)) ∷ put_static 5 (var y) ∷ []

abbrev locked : ℕ → Stmt K
locked y = sync None None lock (listed (locked_body y))

-- each call of k has a local of its own
abbrev fresh_local : Trace K × End (Ending K)
fresh_local = shown (program (written (code 0 (up_to_two (eval None (static_call None 1 (args_of [])) ∷ count_up ∷ []))) ∷ written (code 0 (locked 0 ∷ [])) ∷ []) []) (of_method 0 null []) (number 3 ∷ number 4 ∷ []) 9

-- inlined, it is the caller's, and has its old value where the second turn begins
abbrev stale_local : Trace K × End (Ending K)
stale_local = shown (program (written (code 0 (up_to_two (locked 1 ∷ count_up ∷ []))) ∷ []) []) (of_method 0 null []) (number 3 ∷ number 4 ∷ []) 9

stale_local_is_declared_anew : stale_local ≡ fresh_local
stale_local_is_declared_anew = refl

stale_local_shows_nowhere : stale_local ≡ (enter (text (120 ∷ [])) ∷ loaded 3 ∷ wrote 4 ∷ exit (text (120 ∷ [])) ∷ enter (text (120 ∷ [])) ∷ loaded 4 ∷ wrote 5 ∷ exit (text (120 ∷ [])) ∷ [], ended (gave (number 2)))
stale_local_shows_nowhere = refl

-- ---- an inlined local in a loop's block

-- `while (i < 2) { int t = i + 1; f = t; i = t; }`, and without t
abbrev with_local_in_block : Trace K × End (Ending K)
with_local_in_block = shown (program (written (code 0 (declare None 0 (num (pos 0)) ∷ loop None (binary None (comparison less) (var 0) (num (pos 2)))
    (block None (1 ∷ []) (listed (declare None 1 (calc add (var 0) (num (pos 1))) ∷ put_static 5 (var 1) ∷ set 0 (var 1) ∷ []))) ∷ return None (var 0) ∷ [])) ∷ []) []) (of_method 0 null []) [] 9

abbrev without_local_in_block : Trace K × End (Ending K)
without_local_in_block = shown (program (written (code 0 (up_to_two (put_static 5 (calc add (var 0) (num (pos 1))) ∷ set 0 (calc add (var 0) (num (pos 1))) ∷ []))) ∷ []) []) (of_method 0 null []) [] 9

local_in_block_is_inlined : without_local_in_block ≡ with_local_in_block
local_in_block_is_inlined = refl

local_in_block_counts : with_local_in_block ≡ (wrote 1 ∷ wrote 2 ∷ [], ended (gave (number 2)))
local_in_block_counts = refl

-- ---- what breaks a rule shows

-- `x = f6; return x;` and `return x;`: a read of a local that doesn't agree
read_of_what_agrees : shown (program (written (code 0 (declare None 0 (num (pos 0)) ∷ set 0 (get_static 6) ∷ return None (var 0) ∷ [])) ∷ []) []) (of_method 0 null []) (number 3 ∷ []) 9 ≡ (loaded 3 ∷ [], ended (gave (number 3)))
read_of_what_agrees = refl

read_of_what_does_not_agree : shown (program (written (code 0 (declare None 0 (num (pos 0)) ∷ eval None (get_static 6) ∷ return None (var 0) ∷ [])) ∷ []) []) (of_method 0 null []) (number 3 ∷ []) 9 ≡ (loaded 3 ∷ [], ended (gave (number 0)))
read_of_what_does_not_agree = refl

-- `while (i < 2) { f = x; x = f6; i = i + 1; }`, and without `x = `: x agrees at the loop's head in the first turn, and not
-- behind its body
head_agrees_behind_the_body : shown (program (written (code 0 (declare None 1 (num (pos 0)) ∷ up_to_two (put_static 5 (var 1) ∷ set 1 (get_static 6) ∷ count_up ∷ []))) ∷ []) []) (of_method 0 null []) (number 3 ∷ number 4 ∷ []) 9
    ≡ (wrote 0 ∷ loaded 3 ∷ wrote 3 ∷ loaded 4 ∷ [], ended (gave (number 2)))
head_agrees_behind_the_body = refl

head_agrees_on_more_than_the_body : shown (program (written (code 0 (declare None 1 (num (pos 0)) ∷ up_to_two (put_static 5 (var 1) ∷ eval None (get_static 6) ∷ count_up ∷ []))) ∷ []) []) (of_method 0 null []) (number 3 ∷ number 4 ∷ []) 9
    ≡ (wrote 0 ∷ loaded 3 ∷ wrote 0 ∷ loaded 4 ∷ [], ended (gave (number 2)))
head_agrees_on_more_than_the_body = refl
