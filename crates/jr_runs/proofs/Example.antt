-- Two programs that are alike. Fields are truths, and the new program has the one where the old one has the other:
-- `int m(int a) { int b = a + f; while (b < g) { synchronized (this) { b = m(b); f++; } } return b; }`, with f and g exchanged.
use Rattle.std.proofs.Common.{inl, inr, ◌≡◌, ◌+◌, ℕ, Bool, true, false, not, [], ◌∷◌, Some, None, nat_eq, refl, ap, arith}
use Rattle.jr_runs.specs.Keys.{Keys, keys_of}
use Rattle.jr_runs.specs.Values.{int_type}
use Rattle.jr_runs.specs.Actions.{FieldKind, plain, volatile}
use Rattle.jr_runs.specs.Rows.{Rows}
use Rattle.jr_runs.specs.Core as core
use Rattle.jr_runs.specs.Core.{add, less, arithmetic, comparison, post_increment, Exp, this, read, assign, bump, binary, instance_call, Target, local, field_of, Exps, declare, eval, loop, return, block, sync, Stmts, written, Program}
use Rattle.jr_runs.specs.KeyMaps.{KeyMap, Undoes}
use Rattle.jr_runs.specs.Sets.{everything}
use Rattle.jr_runs.specs.Standing.{In, IsFree, Standing, whole}
use Rattle.jr_runs.specs.Images.{NoSpot, ExpTo, to_this, to_read, to_assign, to_bump, to_binary, to_instance_call, TargetTo, to_local, to_field_of, to_end, to_more, to_declare, to_eval, to_loop, to_return, to_block, to_sync, StmtsTo, to_no_more, to_list, CodeTo, SameRows}
use Rattle.jr_runs.specs.Alike.{AlikeExactly}
use Rattle.jr_runs.proofs.Locals.{within_one}
use Rattle.jr_runs.proofs.Renaming.{renamed_programs_are_alike}

abbrev pub J : Keys
J = keys_of ℕ Bool ℕ ℕ ℕ

abbrev exchanged : KeyMap J
exchanged = record { class = λ c. c; field = not; method = λ m. m; constructor = λ k. k }

twice_not : (b : Bool) → not (not b) ≡ b
twice_not true = refl
twice_not false = refl

undone : Undoes exchanged exchanged
undone = record { class = λ c. refl; field = twice_not; method = λ m. refl; constructor = λ k. refl }

abbrev pub kind_in_old : Bool → FieldKind
kind_in_old true = plain
kind_in_old false = volatile

abbrev pub rows_with : (Bool → FieldKind) → Rows J
rows_with kind = record {
  same_class = nat_eq;
  is_subclass = nat_eq;
  text_class = 1;
  class_class = 2;
  field_kind = kind;
  field_type = λ f. int_type;
  dispatch = λ c m. Some m;
  has_method = λ m. true;
  owner = λ m. Some 4;
  params = λ m. int_type ∷ [];
  result = λ m. Some int_type;
  has_constructor = λ k. false;
  constructor_class = λ k. 4;
  constructor_params = λ k. [];
}

same_rows : SameRows exchanged (rows_with kind_in_old) (rows_with (λ f. kind_in_old (not f)))
same_rows = record {
  same_class = λ c d. refl;
  is_subclass = λ c d. refl;
  text_class = refl;
  class_class = refl;
  field_kind = λ f. ap kind_in_old (twice_not f);
  field_type = λ f. refl;
  dispatch = λ c m h. refl;
  found = λ c m k h e. refl;
}

-- at: the place of a local's name; p: another place
abbrev pub variable : ℕ → ℕ → Exp J
variable at n = read (Some at) (local (Some at) n)

abbrev pub mine : ℕ → Bool → Target J
mine at f = field_of (Some at) (this None) f

-- places begin at p, and f and g are the fields
abbrev pub sum : ℕ → Bool → Exp J
sum p f = binary (Some (p + 1)) (arithmetic add) (variable (p + 2) 0) (read (Some (p + 3)) (mine (p + 3) f))

abbrev pub condition : ℕ → Bool → Exp J
condition p g = binary (Some (p + 5)) (comparison less) (variable (p + 6) 1) (read (Some (p + 7)) (mine (p + 7) g))

abbrev pub called : ℕ → Exp J
called p = instance_call (Some (p + 12)) (this None) 0 (core.Exps.more (variable (p + 13) 1) core.Exps.end)

abbrev pub monitored : ℕ → Bool → Stmts J
monitored p f = core.Stmts.more (eval (Some (p + 11)) (assign (Some (p + 11)) (local (Some (p + 11)) 1) (called p))) (core.Stmts.more (eval (Some (p + 14)) (bump (Some (p + 14)) post_increment (mine (p + 14) f))) core.Stmts.end)

abbrev pub locked : ℕ → Bool → Stmts J
locked p f = core.Stmts.more (sync (Some (p + 9)) (Some (p + 30)) (this (Some (p + 10))) (monitored p f)) core.Stmts.end

abbrev pub looped : ℕ → Bool → Bool → Stmts J
looped p f g = core.Stmts.more (loop (Some (p + 4)) (condition p g) (block (Some (p + 8)) [] (locked p f))) (core.Stmts.more (return (Some (p + 15)) (variable (p + 16) 1)) core.Stmts.end)

abbrev pub body : ℕ → Bool → Bool → Stmts J
body p f g = core.Stmts.more (declare (Some p) 1 (sum p f)) (looped p f g)

abbrev pub program_of : ℕ → Bool → Bool → (Bool → FieldKind) → Program J
program_of p f g kind = record { rows = rows_with kind; method = λ m. written record { params = 1; body = body p f g }; constructor = λ k. record { params = 0; body = core.Stmts.end } }

abbrev pub old : Program J
old = program_of 100 true false kind_in_old

abbrev new : Program J
new = program_of 500 false true (λ f. kind_in_old (not f))

abbrev two_locals : Standing J
two_locals = whole 2 (λ i. i)

abbrev To : Exp J → Exp J → Type 0
To e e' = ExpTo exchanged (rows_with kind_in_old) two_locals.code everything e e' everything

abbrev StmtsImage : Stmts J → Stmts J → Type 0
StmtsImage b b' = StmtsTo exchanged (rows_with kind_in_old) NoSpot two_locals everything b b' everything

-- the parts of the new body for those of the old one; a step is one or more statements
module _ (p q : ℕ) (f g : Bool) where
  to_variable : (k n : ℕ) → In n two_locals.code.mine → To (variable (p + k) n) (variable (q + k) n)
  to_variable k n h = to_read everything everything (Some (p + k)) (Some (q + k)) (local (Some (p + k)) n) (local (Some (q + k)) n) (to_local everything (Some (p + k)) (Some (q + k)) n h) refl

  to_mine : (k : ℕ) (d : Bool) → TargetTo exchanged (rows_with kind_in_old) two_locals.code everything (mine (p + k) d) (mine (q + k) (not d)) everything
  to_mine k d = to_field_of everything everything (Some (p + k)) (Some (q + k)) (this None) (this None) d (to_this everything None (this None) (None, refl))

  to_field : (k : ℕ) (d : Bool) → To (read (Some (p + k)) (mine (p + k) d)) (read (Some (q + k)) (mine (q + k) (not d)))
  to_field k d = to_read everything everything (Some (p + k)) (Some (q + k)) (mine (p + k) d) (mine (q + k) (not d)) (to_mine k d) tt

  in_0 : In 0 two_locals.code.mine
  in_0 = inr (inl refl)

  in_1 : In 1 two_locals.code.mine
  in_1 = inl refl

  free_1 : IsFree two_locals.code 1
  free_1 = record { below = in_1; unknown = λ e. e }

  to_call : To (called p) (called q)
  to_call = to_instance_call everything everything everything (Some (p + 12)) (Some (q + 12)) (this None) (this None) 0 (core.Exps.more (variable (p + 13) 1) core.Exps.end) (core.Exps.more (variable (q + 13) 1) core.Exps.end) refl
      (to_this everything None (this None) (None, refl)) (to_more everything everything everything (variable (p + 13) 1) (variable (q + 13) 1) core.Exps.end core.Exps.end (to_variable 13 1 in_1) (to_end everything))

  to_monitored : StmtsImage (monitored p f) (monitored q (not f))
  to_monitored = to_list everything everything everything (eval (Some (p + 11)) (assign (Some (p + 11)) (local (Some (p + 11)) 1) (called p))) (eval (Some (q + 11)) (assign (Some (q + 11)) (local (Some (q + 11)) 1) (called q)))
      (core.Stmts.more (eval (Some (p + 14)) (bump (Some (p + 14)) post_increment (mine (p + 14) f))) core.Stmts.end) (core.Stmts.more (eval (Some (q + 14)) (bump (Some (q + 14)) post_increment (mine (q + 14) (not f)))) core.Stmts.end)
      (to_eval everything everything (Some (p + 11)) (Some (q + 11)) (assign (Some (p + 11)) (local (Some (p + 11)) 1) (called p)) (assign (Some (q + 11)) (local (Some (q + 11)) 1) (called q))
      (to_assign everything everything everything everything (Some (p + 11)) (Some (q + 11)) (local (Some (p + 11)) 1) (local (Some (q + 11)) 1) (called p) (called q) (to_local everything (Some (p + 11)) (Some (q + 11)) 1 in_1) (λ e. e) to_call (within_one everything 1)))
      (to_list everything everything everything (eval (Some (p + 14)) (bump (Some (p + 14)) post_increment (mine (p + 14) f))) (eval (Some (q + 14)) (bump (Some (q + 14)) post_increment (mine (q + 14) (not f)))) core.Stmts.end core.Stmts.end
      (to_eval everything everything (Some (p + 14)) (Some (q + 14)) (bump (Some (p + 14)) post_increment (mine (p + 14) f)) (bump (Some (q + 14)) post_increment (mine (q + 14) (not f))) (to_bump everything everything everything (Some (p + 14)) (Some (q + 14)) post_increment (mine (p + 14) f) (mine (q + 14) (not f)) (to_mine 14 f) tt tt (λ i a. a)))
      (to_no_more everything))

  to_locked : StmtsImage (locked p f) (locked q (not f))
  to_locked = to_list everything everything everything (sync (Some (p + 9)) (Some (p + 30)) (this (Some (p + 10))) (monitored p f)) (sync (Some (q + 9)) (Some (q + 30)) (this (Some (q + 10))) (monitored q (not f))) core.Stmts.end core.Stmts.end
      (to_sync everything everything everything (Some (p + 9)) (Some (p + 30)) (Some (q + 9)) (Some (q + 30)) (this (Some (p + 10))) (this (Some (q + 10))) (monitored p f) (monitored q (not f)) (to_this everything (Some (p + 10)) (this (Some (q + 10))) (Some (q + 10), refl)) to_monitored)
      (to_no_more everything)

  to_looped : StmtsImage (looped p f g) (looped q (not f) (not g))
  to_looped = to_list everything everything everything (loop (Some (p + 4)) (condition p g) (block (Some (p + 8)) [] (locked p f))) (loop (Some (q + 4)) (condition q (not g)) (block (Some (q + 8)) [] (locked q (not f))))
      (core.Stmts.more (return (Some (p + 15)) (variable (p + 16) 1)) core.Stmts.end) (core.Stmts.more (return (Some (q + 15)) (variable (q + 16) 1)) core.Stmts.end)
      (to_loop everything everything everything everything (Some (p + 4)) (Some (q + 4)) (condition p g) (condition q (not g)) (block (Some (p + 8)) [] (locked p f)) (block (Some (q + 8)) [] (locked q (not f))) (λ i a. a)
      (to_binary everything everything everything (Some (p + 5)) (Some (q + 5)) (comparison less) (variable (p + 6) 1) (variable (q + 6) 1) (read (Some (p + 7)) (mine (p + 7) g)) (read (Some (q + 7)) (mine (q + 7) (not g))) (to_variable 6 1 in_1) (to_field 7 g))
      (to_block everything everything everything (Some (p + 8)) (Some (q + 8)) [] [] (locked p f) (locked q (not f)) (record { all = λ i b g. g; only = λ i b g. g; others = λ j o g. g; known = λ i o g. g }) (λ i a. a) to_locked) (λ i a. a))
      (to_list everything everything everything (return (Some (p + 15)) (variable (p + 16) 1)) (return (Some (q + 15)) (variable (q + 16) 1)) core.Stmts.end core.Stmts.end (to_return everything everything everything (Some (p + 15)) (Some (q + 15)) (variable (p + 16) 1) (variable (q + 16) 1) (to_variable 16 1 in_1)) (to_no_more everything))

  to_body : StmtsImage (body p f g) (body q (not f) (not g))
  to_body = to_list everything everything everything (declare (Some p) 1 (sum p f)) (declare (Some q) 1 (sum q (not f))) (looped p f g) (looped q (not f) (not g))
      (to_declare everything everything everything (Some p) (Some q) 1 (sum p f) (sum q (not f)) free_1
      (to_binary everything everything everything (Some (p + 1)) (Some (q + 1)) (arithmetic add) (variable (p + 2) 0) (variable (q + 2) 0) (read (Some (p + 3)) (mine (p + 3) f)) (read (Some (q + 3)) (mine (q + 3) (not f))) (to_variable 2 0 in_0) (to_field 3 f)) (within_one everything 1))
      to_looped

same_code : (m : ℕ) → CodeTo exchanged (rows_with kind_in_old) NoSpot record { params = 1; body = body 100 true false } record { params = 1; body = body 500 false true }
same_code m = record { size = 2; at = λ i. i; injective = λ i j a b e. e; params = refl; params_below = omega arith; params_stay = λ i h. refl; behind = everything; body = to_body 100 500 true false }

-- they have the same runs
pub programs_are_alike : AlikeExactly exchanged old new
programs_are_alike = renamed_programs_are_alike exchanged exchanged undone undone old new record { rows = same_rows; methods = λ m h. same_code m; constructors = λ k h. absurd (none h) }
  where
    none : false ≡ true → ⊥
    none e = cc
