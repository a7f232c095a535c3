-- Small programs to which the laws on held locals apply, and accesses and bounds to which they don't.
use Rattle.std.proofs.Common.{◌≡◌, ◌⊎◌, ℕ, Bool, true, false, List, [], ◌∷◌, Some, None, nat_eq, pos, refl, inl, ⊎_elim, arith}
use Rattle.jr_plans.specs.Finite.{Finite}
use Rattle.jr_runs.specs.Keys.{Keys, keys_of}
use Rattle.jr_runs.specs.Values.{int, null, text, int_type}
use Rattle.jr_runs.specs.Actions.{plain, Event}
use Rattle.jr_runs.specs.Rows.{Rows}
use Rattle.jr_runs.specs.Core as core
use Rattle.jr_runs.specs.Core.{add, less, arithmetic, comparison, Exp, literal, read, assign, binary, static_call, Target, local, static_field, Stmt, declare, eval, loop, return, block, sync, Stmts, written, Program}
use Rattle.jr_runs.specs.Evaluation.{exp}
use Rattle.jr_runs.specs.KeyMaps.{same_keys}
use Rattle.jr_runs.specs.Sets.{NumberSet, everything, with_one}
use Rattle.jr_runs.specs.Standing.{unused, In, IsFree, Standing, whole}
use Rattle.jr_runs.specs.Images.{ExpTo, to_literal, to_held, to_read, to_assign, to_binary, to_static_call, to_local, to_static_field, to_end, BlockTo, to_declare, to_eval, to_loop, to_return, to_block, StmtsTo, to_no_more, to_list, to_spot, SameRows, ProgramTo}
use Rattle.jr_runs.specs.Alike.{AlikeExactly, AlikeReordered}
use Rattle.jr_runs.proofs.Locals.{within_one}
use Rattle.jr_runs_held.specs.Held.{until_all, until_value, before_local, until_more, until_last, last_eval, holding, HoldsLocal}
use Rattle.jr_runs_held.specs.Footprint.{loads, stores, enters, calm_local, calm_static, sure_add, sure_arithmetic, Calm, calm_literal, calm_read, calm_assign, calm_binary, never_text, AllMayPass}
use Rattle.jr_runs_held.specs.Places.{Piece, evaluated, locked, CalmPieces, calm_evaluated, calm_locked, calm_none, calm_more, one_evaluated, assigns, User, through, evaluates, Sequel, follows, leaves, at_once, in_value, ListPlace, in_first, behind_pieces, in_eval, in_sync, to_text_lock, to_evaluated, to_locked, to_no_piece, to_pieces, plain_static, to_assigns, to_through, to_evaluates, to_no_sequel, to_follows, to_leaves}
use Rattle.jr_runs_held.proofs.SilentCode.{silent_is}
use Rattle.jr_runs_held.proofs.HeldLocal.{held_programs_are_alike, held_locals_go}
use Rattle.jr_runs_held.proofs.PastSilent.{SilentPieces, HoldsPastSilent, past_programs_are_alike, past_locals_go}
use Rattle.jr_runs_held.proofs.PastCalm.{HoldsPastCalm}
use Rattle.jr_runs_held.proofs.PastPrograms.{HoldsGo, calm_locals_go}

-- fields are truths: static ints f and g
abbrev J : Keys
J = keys_of ℕ Bool ℕ ℕ ℕ

abbrev rows : Rows J
rows = record {
  same_class = nat_eq;
  is_subclass = nat_eq;
  text_class = 1;
  class_class = 2;
  field_kind = λ f. plain;
  field_type = λ f. int_type;
  dispatch = λ c m. None;
  has_method = λ m. nat_eq m 0;
  owner = λ m. None;
  params = λ m. [];
  result = λ m. Some int_type;
  has_constructor = λ k. false;
  constructor_class = λ k. 4;
  constructor_params = λ k. [];
}

no_truth : {A : Type 0} → false ≡ true → A
no_truth e = absurd (no e)
  where
    no : false ≡ true → ⊥
    no d = cc

nothing_found : {A : Type 0} (k : ℕ) → None ≡ Some k → A
nothing_found k e = absurd (no e)
  where
    no : None ≡ Some k → ⊥
    no d = cc

same_rows : SameRows same_keys rows rows
same_rows = record {
  same_class = λ c d. refl;
  is_subclass = λ c d. refl;
  text_class = refl;
  class_class = refl;
  field_kind = λ f. refl;
  field_type = λ f. refl;
  dispatch = λ c m h. refl;
  found = λ c m k h e. nothing_found k e;
}

abbrev one_method : Stmts J → Program J
one_method b = record { rows = rows; method = λ m. written record { params = 0; body = b }; constructor = λ k. record { params = 0; body = core.Stmts.end } }

abbrev f : Target J
f = static_field None true

abbrev g : Target J
g = static_field None false

abbrev var : ℕ → Exp J
var n = read None (local None n)

abbrev num : ℕ → Exp J
num n = literal None (int (pos n))

-- ---- an inlined local in a loop's block: `int i = 0; while (i < 2) { int t = i + 1; f = t; i = t; } return i;`, and without t

abbrev next_i : Exp J
next_i = binary None (arithmetic add) (var 0) (num 1)

abbrev f_is : Exp J → Stmt J
f_is e = eval None (assign None f e)

abbrev i_is : Exp J → Stmt J
i_is e = eval None (assign None (local None 0) e)

abbrev uses : Exp J → Stmts J
uses e = core.Stmts.more (f_is e) (core.Stmts.more (i_is e) core.Stmts.end)

abbrev few : Stmts J
few = uses next_i

abbrev many : Stmts J
many = core.Stmts.more (declare None 1 next_i) (uses (var 1))

abbrev below_two : Exp J
below_two = binary None (comparison less) (var 0) (num 2)

abbrev turning : List ℕ → Stmts J → Stmts J
turning ns b = core.Stmts.more (declare None 0 (num 0)) (core.Stmts.more (loop None below_two (block None ns b)) (core.Stmts.more (return None (var 0)) core.Stmts.end))

abbrev one_local : Standing J
one_local = whole 1 (λ i. i)

in_0 : In 0 one_local.code.mine
in_0 = inl refl

free_0 : IsFree one_local.code 0
free_0 = record { below = in_0; unknown = λ e. e }

not_1 : (i : ℕ) → In i (0 ∷ []) → i ≡ 1 → ⊥
not_1 i b e = ⊎_elim (λ (z : i ≡ 0). no_truth (differ i z e)) (λ (z : In i []). z) b
  where
    differ : (i : ℕ) → i ≡ 0 → i ≡ 1 → false ≡ true
    differ i z e = cc

next_to : ExpTo same_keys rows one_local.code everything next_i next_i everything
next_to = to_binary everything everything everything None None (arithmetic add) (var 0) (var 0) (num 1) (num 1) (to_read everything everything None None (local None 0) (local None 0) (to_local everything None None 0 in_0) refl) (to_literal everything None None (int (pos 1)))

next_is_calm : Calm true next_i (0 ∷ []) [] []
next_is_calm = calm_binary None (arithmetic add) (var 0) (num 1) (0 ∷ []) [] [] [] [] [] (calm_read None (local None 0) (0 ∷ []) [] (calm_local None 0)) (calm_literal None (int (pos 1))) (sure_arithmetic add (num 1) (sure_add (num 1)))

abbrev knowing : Standing J
knowing = holding one_local (0 ∷ []) next_i 1 []

t_to : ExpTo same_keys rows knowing.code everything next_i (var 1) everything
t_to = to_held everything None None next_i 1 (inl (refl, refl))

spot : HoldsLocal same_keys rows one_local everything few many everything
spot = record {
  e = next_i;
  e' = next_i;
  reads = 0 ∷ [];
  silent = silent_is rows true next_i (0 ∷ []) next_is_calm;
  between = everything;
  e_to = next_to;
  number = 1;
  fresh = not_1;
  fresh_others = λ o. o;
  classes = [];
  fits = λ me l c a. absurd a;
  place = None;
  rest = uses (var 1);
  many_is = refl;
  rest_to = until_more everything everything everything (f_is next_i) (f_is (var 1)) (core.Stmts.more (i_is next_i) core.Stmts.end) (core.Stmts.more (i_is (var 1)) core.Stmts.end)
      (to_eval everything everything None None (assign None f next_i) (assign None f (var 1)) (to_assign everything everything everything everything None None f f next_i (var 1) (to_static_field everything None None true) tt t_to (λ i a. a)))
      (until_last everything everything everything (i_is next_i) (i_is (var 1)) core.Stmts.end core.Stmts.end
      (last_eval everything everything None None (assign None (local None 0) next_i) (assign None (local None 0) (var 1))
      (until_value everything everything everything everything None None (local None 0) (local None 0) next_i (var 1) (before_local everything None None 0 in_0) (λ e. e) (until_all everything everything next_i (var 1) t_to) (within_one everything 0)))
      (to_no_more everything));
}

block_to : BlockTo one_local [] (1 ∷ [])
block_to = record {
  all = λ i b o. absurd o;
  only = λ i b o. ⊎_elim (λ (e : i ≡ 1). absurd (not_1 i b e)) (λ (z : In i []). z) o;
  others = λ j o k. o;
  known = λ i o k. o;
}

turning_to : StmtsTo same_keys rows (HoldsLocal same_keys rows) one_local everything (turning [] few) (turning (1 ∷ []) many) everything
turning_to = to_list everything everything everything (declare None 0 (num 0)) (declare None 0 (num 0)) (core.Stmts.more (loop None below_two (block None [] few)) (core.Stmts.more (return None (var 0)) core.Stmts.end)) (core.Stmts.more (loop None below_two (block None (1 ∷ []) many)) (core.Stmts.more (return None (var 0)) core.Stmts.end))
    (to_declare everything everything everything None None 0 (num 0) (num 0) free_0 (to_literal everything None None (int (pos 0))) (within_one everything 0))
    (to_list everything everything everything (loop None below_two (block None [] few)) (loop None below_two (block None (1 ∷ []) many)) (core.Stmts.more (return None (var 0)) core.Stmts.end) (core.Stmts.more (return None (var 0)) core.Stmts.end)
    (to_loop everything everything everything everything None None below_two below_two (block None [] few) (block None (1 ∷ []) many) (λ i a. a)
    (to_binary everything everything everything None None (comparison less) (var 0) (var 0) (num 2) (num 2) (to_read everything everything None None (local None 0) (local None 0) (to_local everything None None 0 in_0) refl) (to_literal everything None None (int (pos 2))))
    (to_block everything everything everything None None [] (1 ∷ []) few many block_to (λ i a. a) (to_spot everything everything few many spot)) (λ i a. a))
    (to_list everything everything everything (return None (var 0)) (return None (var 0)) core.Stmts.end core.Stmts.end
    (to_return everything everything everything None None (var 0) (var 0) (to_read everything everything None None (local None 0) (local None 0) (to_local everything None None 0 in_0) refl)) (to_no_more everything)))

without_t : ProgramTo same_keys (HoldsLocal same_keys rows) (one_method (turning [] few)) (one_method (turning (1 ∷ []) many))
without_t = record {
  rows = same_rows;
  methods = λ m h. record { size = 1; at = λ i. i; injective = λ i j a b e. e; params = refl; params_below = omega arith; params_stay = λ i h. refl; behind = everything; body = turning_to };
  constructors = λ k h. no_truth h;
}

local_in_a_loop_comes : AlikeExactly same_keys (one_method (turning [] few)) (one_method (turning (1 ∷ []) many))
local_in_a_loop_comes = held_programs_are_alike (one_method (turning [] few)) (one_method (turning (1 ∷ []) many)) without_t

local_in_a_loop_goes : AlikeExactly same_keys (one_method (turning (1 ∷ []) many)) (one_method (turning [] few))
local_in_a_loop_goes = held_locals_go (one_method (turning [] few)) (one_method (turning (1 ∷ []) many)) refl without_t

-- ---- a load moves into a monitor: `int t = f; synchronized ("x") { g = t; }` becomes `synchronized ("x") { g = f; }`

abbrev load_f : Exp J
load_f = read None f

abbrev lock : Exp J
lock = literal None (text (120 ∷ []))

abbrev put_g : Exp J → Stmts J
put_g e = core.Stmts.more (eval None (assign None g e)) core.Stmts.end

abbrev in_monitor : Exp J → Stmts J
in_monitor e = core.Stmts.more (sync None None lock (put_g e)) core.Stmts.end

abbrev with_t : Stmts J
with_t = core.Stmts.more (declare None 0 load_f) (in_monitor (var 0))

abbrev stores_g : User J
stores_g = through (assigns g) evaluates

abbrev then_left : List (Sequel J)
then_left = follows core.Stmts.end ∷ leaves None lock ∷ follows core.Stmts.end ∷ []

place_of : (e : Exp J) → ListPlace false e (in_monitor e) (locked None lock ∷ []) stores_g then_left
place_of e = in_first (sync None None lock (put_g e)) core.Stmts.end (locked None lock ∷ []) stores_g (follows core.Stmts.end ∷ leaves None lock ∷ [])
    (in_sync None None lock (put_g e) [] stores_g (follows core.Stmts.end ∷ []) (never_text None (120 ∷ []))
    (in_first (eval None (assign None g e)) core.Stmts.end [] stores_g [] (in_eval None (assign None g e) stores_g (in_value None g [] (false ∷ []) e evaluates stores_g (calm_static None false) (at_once stores_g)))))

abbrev no_local : Standing J
no_local = whole 0 (λ i. i)

abbrev holds : HoldsPastCalm false same_keys rows 2 no_local everything (in_monitor load_f) with_t everything
holds = record {
  e = load_f;
  e' = load_f;
  number = 0;
  fresh = λ i b e. b;
  fresh_others = λ o. o;
  place = None;
  read_at = None;
  name_at = None;
  rest = in_monitor (var 0);
  many_is = refl;
  pieces = locked None lock ∷ [];
  pieces' = locked None lock ∷ [];
  user = stores_g;
  user' = stores_g;
  sequels = then_left;
  sequels' = then_left;
  here = place_of load_f;
  there = place_of (var 0);
  piece_reads = [];
  piece_writes = [];
  piece_accesses = enters ∷ [];
  piece_reads' = [];
  piece_writes' = [];
  piece_accesses' = enters ∷ [];
  e_reads = [];
  e_writes = [];
  e_accesses = loads true ∷ [];
  e_reads' = [];
  e_writes' = [];
  e_accesses' = loads true ∷ [];
  pieces_calm = calm_more (locked None lock) [] [] [] [] [] (enters ∷ []) [] (calm_locked None lock (never_text None (120 ∷ []))) calm_none;
  pieces_calm' = calm_more (locked None lock) [] [] [] [] [] (enters ∷ []) [] (calm_locked None lock (never_text None (120 ∷ []))) calm_none;
  e_calm = calm_read None f [] (true ∷ []) (calm_static None true);
  e_calm' = calm_read None f [] (true ∷ []) (calm_static None true);
  short = omega arith;
  no_more_pieces = omega arith;
  no_more = omega arith;
  own_pieces = λ i o. o;
  own_e = λ i o. o;
  not_both = λ i o k. o;
  e_writes_to = λ j o. o;
  pieces_before = everything;
  pieces_behind = everything;
  pieces_agree = λ i a. a;
  pieces_to = to_pieces everything everything everything (locked None lock) (locked None lock) [] [] (to_locked everything None None lock lock (to_text_lock None None (120 ∷ []))) (to_no_piece everything);
  e_before = everything;
  e_behind = everything;
  e_agree = λ i a. a;
  e_to = to_read everything everything None None f f (to_static_field everything None None true) tt;
  together = everything;
  by_e = λ i a o. a;
  by_pieces = λ i a d. a;
  used = everything;
  user_to = to_through everything everything everything (assigns g) (assigns g) evaluates evaluates (to_assigns everything everything g g (plain_static None None false) tt (λ i a. a)) (to_evaluates everything);
  sequels_to = to_follows everything everything everything core.Stmts.end core.Stmts.end (leaves None lock ∷ follows core.Stmts.end ∷ []) (leaves None lock ∷ follows core.Stmts.end ∷ []) (to_no_more everything)
      (to_leaves everything everything None None lock lock (follows core.Stmts.end ∷ []) (follows core.Stmts.end ∷ []) (to_text_lock None None (120 ∷ []))
      (to_follows everything everything everything core.Stmts.end core.Stmts.end [] [] (to_no_more everything) (to_no_sequel everything)));
}

no_field : {A : Type 0} (x : Bool) → None ≡ Some x → A
no_field x e = absurd (no e)
  where
    no : None ≡ Some x → ⊥
    no d = cc

-- it moves into the monitor
load_passes : AllMayPass rows (loads true ∷ []) (enters ∷ [])
load_passes = ((record { allowed = refl; apart = λ x a b. no_field x b }, tt), tt)

moved : ProgramTo same_keys (HoldsGo (one_method (in_monitor load_f)) 2) (one_method (in_monitor load_f)) (one_method with_t)
moved = record {
  rows = same_rows;
  methods = λ m h. record {
    size = 0;
    at = λ i. i;
    injective = λ i j a b e. e;
    params = refl;
    params_below = omega arith;
    params_stay = λ i h. refl;
    behind = everything;
    body = to_spot everything everything (in_monitor load_f) with_t (holds, load_passes);
  };
  constructors = λ k h. no_truth h;
}

load_moves_into_a_monitor : AlikeReordered same_keys 2 (one_method with_t) (one_method (in_monitor load_f))
load_moves_into_a_monitor = calm_locals_go 2 (one_method (in_monitor load_f)) (one_method with_t) refl moved

-- ---- a call goes past a local: `int x = 0; x = 1; g = m();` becomes `int x = 0; int t = m(); x = 1; g = t;`

abbrev call_m : Exp J
call_m = static_call None 0 core.Exps.end

abbrev x_is_one : Exp J
x_is_one = assign None (local None 0) (num 1)

abbrev then_g : Exp J → Stmts J
then_g e = core.Stmts.more (eval None x_is_one) (put_g e)

abbrev called_first : Stmts J
called_first = core.Stmts.more (declare None 1 call_m) (then_g (var 1))

abbrev x_piece : List (Piece J)
x_piece = evaluated x_is_one ∷ []

behind_x : (e : Exp J) → ListPlace true e (then_g e) x_piece stores_g (follows core.Stmts.end ∷ [])
behind_x e = behind_pieces (eval None x_is_one) (put_g e) x_piece [] stores_g (follows core.Stmts.end ∷ []) (one_evaluated None x_is_one)
    (in_first (eval None (assign None g e)) core.Stmts.end [] stores_g [] (in_eval None (assign None g e) stores_g (in_value None g [] (false ∷ []) e evaluates stores_g (calm_static None false) (at_once stores_g))))

abbrev nothing : NumberSet
nothing i = false

abbrev only_x : NumberSet
only_x = with_one nothing 0

x_is_calm : CalmPieces true x_piece [] (0 ∷ []) []
x_is_calm = calm_more (evaluated x_is_one) [] [] (0 ∷ []) [] [] [] [] (calm_evaluated x_is_one [] (0 ∷ []) [] (calm_assign None (local None 0) (num 1) (0 ∷ []) [] [] [] [] (calm_local None 0) (calm_literal None (int (pos 1))))) calm_none

x_agrees : (i : ℕ) → In i (0 ∷ []) → only_x i ≡ true
x_agrees i o = ⊎_elim (λ (e : i ≡ 0). rw e refl) (λ (z : In i []). absurd z) o

silent_x : SilentPieces same_keys rows one_local x_piece x_piece [] (0 ∷ [])
silent_x = record {
  reads' = [];
  writes' = 0 ∷ [];
  calm = x_is_calm;
  calm' = x_is_calm;
  writes_to = λ j o. o;
  own_reads = λ i o. absurd o;
  own_writes = λ i o. o;
  unknown = λ i w k. k;
  self = unused;
  names = inl refl;
  before = nothing;
  behind = only_x;
  needs = λ i e. no_truth e;
  gives = x_agrees;
  to = to_pieces nothing only_x only_x (evaluated x_is_one) (evaluated x_is_one) [] []
      (to_evaluated nothing only_x x_is_one x_is_one (to_assign nothing nothing nothing only_x None None (local None 0) (local None 0) (num 1) (num 1) (to_local nothing None None 0 in_0) (λ e. e) (to_literal nothing None None (int (pos 1))) (λ i a. a)))
      (to_no_piece only_x);
}

past_x : HoldsPastSilent same_keys rows one_local everything (then_g call_m) called_first everything
past_x = record {
  e = call_m;
  e' = call_m;
  number = 1;
  fresh = not_1;
  fresh_others = λ o. o;
  place = None;
  read_at = None;
  name_at = None;
  rest = then_g (var 1);
  many_is = refl;
  pieces = x_piece;
  pieces' = x_piece;
  user = stores_g;
  user' = stores_g;
  sequels = follows core.Stmts.end ∷ [];
  sequels' = follows core.Stmts.end ∷ [];
  here = behind_x call_m;
  there = behind_x (var 1);
  unlocked = λ h. h;
  unlocked' = λ h. h;
  reads = [];
  writes = 0 ∷ [];
  silent = silent_x;
  between = everything;
  e_to = to_static_call everything everything None None 0 core.Exps.end core.Exps.end refl (to_end everything);
  agree_before = λ i o. absurd o;
  agree_behind = λ i o. absurd o;
  used = everything;
  user_to = to_through (with_one everything 0) everything everything (assigns g) (assigns g) evaluates evaluates (to_assigns (with_one everything 0) everything g g (plain_static None None false) tt (within_one everything 0)) (to_evaluates everything);
  sequels_to = to_follows everything everything everything core.Stmts.end core.Stmts.end [] [] (to_no_more everything) (to_no_sequel everything);
}

abbrev x_declared : Stmts J → Stmts J
x_declared b = core.Stmts.more (declare None 0 (num 0)) b

x_declared_to : StmtsTo same_keys rows (HoldsPastSilent same_keys rows) one_local everything (x_declared (then_g call_m)) (x_declared called_first) everything
x_declared_to = to_list everything everything everything (declare None 0 (num 0)) (declare None 0 (num 0)) (then_g call_m) called_first
    (to_declare everything everything everything None None 0 (num 0) (num 0) free_0 (to_literal everything None None (int (pos 0))) (within_one everything 0))
    (to_spot everything everything (then_g call_m) called_first past_x)

past_programs : ProgramTo same_keys (HoldsPastSilent same_keys rows) (one_method (x_declared (then_g call_m))) (one_method (x_declared called_first))
past_programs = record {
  rows = same_rows;
  methods = λ m h. record { size = 1; at = λ i. i; injective = λ i j a b e. e; params = refl; params_below = omega arith; params_stay = λ i h. refl; behind = everything; body = x_declared_to };
  constructors = λ k h. no_truth h;
}

call_comes_first : AlikeExactly same_keys (one_method (x_declared (then_g call_m))) (one_method (x_declared called_first))
call_comes_first = past_programs_are_alike (one_method (x_declared (then_g call_m))) (one_method (x_declared called_first)) past_programs

call_goes_to_its_place : AlikeExactly same_keys (one_method (x_declared called_first)) (one_method (x_declared (then_g call_m)))
call_goes_to_its_place = past_locals_go (one_method (x_declared (then_g call_m))) (one_method (x_declared called_first)) refl past_programs

-- ---- what is refused

-- and not out of it: the grid isn't read from the second to the first
load_stays_in_the_monitor : AllMayPass rows (enters ∷ []) (loads true ∷ []) → ⊥
load_stays_in_the_monitor m = no_truth m.0.0.allowed

-- a store and a load of one field, in either order
store_stays : AllMayPass rows (stores true ∷ []) (loads true ∷ []) → ⊥
store_stays m = no_truth (swapped (m.0.0.apart true refl refl).0)
  where
    swapped : true ≡ false → false ≡ true
    swapped e = cc

load_stays : AllMayPass rows (loads true ∷ []) (stores true ∷ []) → ⊥
load_stays m = no_truth (swapped (m.0.0.apart true refl refl).1)
  where
    swapped : true ≡ false → false ≡ true
    swapped e = cc

-- `f + g` makes two accesses: with a bound of one it isn't finite
one_less : (F : Event J → Type 0) → Finite F (exp rows null (binary None (arithmetic add) load_f (read None g)) []) 1 → ⊥
one_less F c = (c.1 (int (pos 0)) refl).1
