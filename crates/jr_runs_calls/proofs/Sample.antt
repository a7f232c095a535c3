-- `int m() { int x = 0; x = f; x = 2; return x; }`, of which `x = f;` becomes `q(x);`: x differs until it is written again.
use Rattle.std.proofs.Common.{◌≡◌, ◌⊎◌, ℕ, Bool, true, false, [], ◌∷◌, Some, None, nat_eq, cond, pos, refl, sym, inl, inr, arith}
use Rattle.std.proofs.lemmas.Bool.{eqb-true}
use Rattle.jr_runs.specs.Keys.{Keys, keys_of}
use Rattle.jr_runs.specs.Values.{int, int_type}
use Rattle.jr_runs.specs.Actions.{plain}
use Rattle.jr_runs.specs.Rows.{Rows}
use Rattle.jr_runs.specs.Core as core
use Rattle.jr_runs.specs.Core.{Exp, literal, read, assign, static_call, local, static_field, Stmt, declare, eval, return, Stmts, written, Program}
use Rattle.jr_runs.specs.KeyMaps.{same_keys}
use Rattle.jr_runs.specs.Standing.{In}
use Rattle.jr_runs.specs.Alike.{AlikeExactly}
use Rattle.jr_runs.specs.Sets.{NumberSet, everything, with_one}
use Rattle.jr_runs.specs.Standing.{Standing, whole}
use Rattle.jr_runs.specs.Images.{to_literal, to_read, to_assign, to_local, to_static_field, to_declare, to_eval, to_return, to_no_more, to_list, to_spot, CodeTo}
use Rattle.jr_runs_calls.specs.MadeMethods.{no_receiver, IsAt}
use Rattle.jr_runs_calls.specs.Extracts.{nothing, Extracts}
use Rattle.jr_runs_calls.proofs.Made.{extracted_programs_are_alike}

abbrev J : Keys
J = keys_of ℕ Bool ℕ ℕ ℕ

abbrev rows : Rows J
rows = record {
  same_class = nat_eq;
  is_subclass = nat_eq;
  text_class = 1;
  class_class = 2;
  field_kind = λ f. plain;
  field_type = λ f. int_type;
  dispatch = λ c m. None;
  has_method = λ m. nat_eq m 0;
  owner = λ m. None;
  params = λ m. [];
  result = λ m. Some int_type;
  has_constructor = λ k. false;
  constructor_class = λ k. 4;
  constructor_params = λ k. [];
}

abbrev x_is : Exp J → Stmt J
x_is e = eval None (assign None (local None 0) e)

abbrev piece : Stmts J
piece = core.Stmts.more (x_is (read None (static_field None true))) core.Stmts.end

abbrev rest : Stmts J
rest = core.Stmts.more (x_is (literal None (int (pos 2)))) (core.Stmts.more (return None (read None (local None 0))) core.Stmts.end)

abbrev begun : Stmts J → Stmts J
begun b = core.Stmts.more (declare None 0 (literal None (int (pos 0)))) b

abbrev old_list : Stmts J
old_list = core.Stmts.more (x_is (read None (static_field None true))) rest

abbrev new_list : Stmts J
new_list = core.Stmts.more (eval None (static_call None 1 (core.Exps.more (read None (local None 0)) core.Exps.end))) rest

abbrev P : Program J
P = record { rows = rows; method = λ m. written record { params = 0; body = begun old_list }; constructor = λ k. record { params = 0; body = core.Stmts.end } }

abbrev Q : Program J
Q = record { rows = rows; method = λ m. written (cond (nat_eq m 0) (record { params = 0; body = begun new_list }) (record { params = 1; body = piece })); constructor = λ k. record { params = 0; body = core.Stmts.end } }

abbrev none_agrees : NumberSet
none_agrees i = false

abbrev outer : Standing J
outer = whole 1 (λ i. i)

zero_in : (i : ℕ) → nat_eq 0 i ≡ true → In i (0 ∷ [])
zero_in i e = inl (sym (eqb-true 0 i e))

no_truth : {A : Type 0} → false ≡ true → A
no_truth e = absurd (no e)
  where
    no : false ≡ true → ⊥
    no d = cc

is_handed : (i : ℕ) → nat_eq 0 i ≡ true → In i (0 ∷ []) × (with_one everything 0 i ≡ true)
is_handed i e = let d : i ≡ 0 = sym (eqb-true 0 i e) in rw d (inl refl, refl)

is_at : (o : ℕ) → In o (0 ∷ []) → IsAt (0 ∷ []) o o
is_at o (inl e) = rw e refl
is_at o (inr e) = absurd e

below : In 0 (0 ∷ [])
below = inl refl

-- nothing agrees behind the call, and the local does again when it is written
spot : Extracts P Q outer (with_one everything 0) old_list new_list (λ i. with_one none_agrees 0 i)
spot = record {
  made = record {
    method = 1;
    code = record { params = 1; body = piece };
    is_written = refl;
    receiver = no_receiver;
    is_called = tt;
    mine = 0 ∷ [];
    at = λ i. i;
    injective = λ i j a b e. e;
    known = [];
    stays = λ j e. e;
    outs = 0 ∷ [];
    params = refl;
    are_params = is_at;
    begins = λ i. nat_eq 0 i;
    begins_with = zero_in;
    handed = is_handed;
    call_at = None;
    read_at = None;
  };
  piece = piece;
  new_piece = piece;
  ends = with_one (λ i. nat_eq 0 i) 0;
  piece_to = to_list (λ i. nat_eq 0 i) (with_one (λ i. nat_eq 0 i) 0) (with_one (λ i. nat_eq 0 i) 0) (x_is (read None (static_field None true))) (x_is (read None (static_field None true))) core.Stmts.end core.Stmts.end
      (to_eval (λ i. nat_eq 0 i) (with_one (λ i. nat_eq 0 i) 0) None None (assign None (local None 0) (read None (static_field None true))) (assign None (local None 0) (read None (static_field None true)))
      (to_assign (λ i. nat_eq 0 i) (λ i. nat_eq 0 i) (λ i. nat_eq 0 i) (with_one (λ i. nat_eq 0 i) 0) None None (local None 0) (local None 0) (read None (static_field None true)) (read None (static_field None true)) (to_local (λ i. nat_eq 0 i) None None 0 below) (λ e. e)
      (to_read (λ i. nat_eq 0 i) (λ i. nat_eq 0 i) None None (static_field None true) (static_field None true) (to_static_field (λ i. nat_eq 0 i) None None true) tt) (λ i a. a)))
      (to_no_more (with_one (λ i. nat_eq 0 i) 0));
  given = nothing;
  fits = tt;
  return_at = None;
  body_is = refl;
  no_return = λ e. none e;
  behind = none_agrees;
  still = λ i e. no_truth e;
  rest = rest;
  new_rest = rest;
  rest_to = to_list none_agrees (with_one none_agrees 0) (with_one none_agrees 0) (x_is (literal None (int (pos 2)))) (x_is (literal None (int (pos 2)))) (core.Stmts.more (return None (read None (local None 0))) core.Stmts.end) (core.Stmts.more (return None (read None (local None 0))) core.Stmts.end)
      (to_eval none_agrees (with_one none_agrees 0) None None (assign None (local None 0) (literal None (int (pos 2)))) (assign None (local None 0) (literal None (int (pos 2))))
      (to_assign none_agrees none_agrees none_agrees (with_one none_agrees 0) None None (local None 0) (local None 0) (literal None (int (pos 2))) (literal None (int (pos 2))) (to_local none_agrees None None 0 below) (λ e. e) (to_literal none_agrees None None (int (pos 2))) (λ i a. a)))
      (to_list (with_one none_agrees 0) (with_one none_agrees 0) (with_one none_agrees 0) (return None (read None (local None 0))) (return None (read None (local None 0))) core.Stmts.end core.Stmts.end
      (to_return (with_one none_agrees 0) (with_one none_agrees 0) (with_one none_agrees 0) None None (read None (local None 0)) (read None (local None 0)) (to_read (with_one none_agrees 0) (with_one none_agrees 0) None None (local None 0) (local None 0) (to_local (with_one none_agrees 0) None None 0 below) refl))
      (to_no_more (with_one none_agrees 0)));
  eval_at = None;
  old_is = refl;
  new_is = refl;
}
  where
    none : ⊥ ⊎ ⊥ → ⊥
    none (inl e) = e
    none (inr e) = e

code_to : CodeTo same_keys rows (Extracts P Q) (record { params = 0; body = begun old_list }) (record { params = 0; body = begun new_list })
code_to = record {
  size = 1;
  at = λ i. i;
  injective = λ i j a b e. e;
  params = refl;
  params_below = omega arith;
  params_stay = λ i h. refl;
  behind = with_one none_agrees 0;
  body = to_list everything (with_one everything 0) (with_one none_agrees 0) (declare None 0 (literal None (int (pos 0)))) (declare None 0 (literal None (int (pos 0)))) old_list new_list
      (to_declare everything everything (with_one everything 0) None None 0 (literal None (int (pos 0))) (literal None (int (pos 0))) (record { below = below; unknown = λ e. e }) (to_literal everything None None (int (pos 0))) (λ i a. a))
      (to_spot (with_one everything 0) (with_one none_agrees 0) old_list new_list spot);
}

methods_to : (m : ℕ) → nat_eq m 0 ≡ true → CodeTo same_keys rows (Extracts P Q) (record { params = 0; body = begun old_list }) (cond (nat_eq m 0) (record { params = 0; body = begun new_list }) (record { params = 1; body = piece }))
methods_to m e = rw e code_to

pub sample_is_alike : AlikeExactly same_keys P Q
sample_is_alike = extracted_programs_are_alike P Q record {
  rows = record {
    same_class = λ c d. refl;
    is_subclass = λ c d. refl;
    text_class = refl;
    class_class = refl;
    field_kind = λ f. refl;
    field_type = λ f. refl;
    dispatch = λ c m h. refl;
    found = λ c m k h e. nothing_found k e;
  };
  methods = λ m h. methods_to m h;
  constructors = λ k h. no_truth h;
}
  where
    nothing_found : {A : Type 0} (k : ℕ) → None ≡ Some k → A
    nothing_found {A = A} k e = absurd (no e)
      where
        no : None ≡ Some k → ⊥
        no d = cc
