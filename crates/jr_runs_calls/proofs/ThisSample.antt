-- Calls on `this` that are made. `int m() { f = 1; return 0; }`, of which `f = 1;` becomes `q();` with `private void q() { f = 1; }`.
use Rattle.std.proofs.Common.{true, false, List, [], ◌∷◌, Option, Some, None, IsTrue, pos, refl, inl, arith}
use Rattle.jr_runs.specs.Values.{Ty, int, int_type}
use Rattle.jr_runs.specs.Core as core
use Rattle.jr_runs.specs.Core.{Exp, this, literal, assign, instance_call, eval, return, Stmts, Code, Program, written}
use Rattle.jr_runs.specs.KeyMaps.{same_keys}
use Rattle.jr_runs.specs.Sets.{NumberSet, everything}
use Rattle.jr_runs.specs.Standing.{Standing}
use Rattle.jr_runs.specs.Images.{to_this, to_literal, to_assign, to_field_of, to_eval, to_return, to_no_more, to_list, to_spot, lists_alone}
use Rattle.jr_runs.specs.TypedImages.{member, TypedCodeTo, TypedMethodTo}
use Rattle.jr_runs.specs.Typing.{MethodTyped, WellTyped}
use Rattle.jr_runs.specs.Alike.{AlikeExactly}
use Rattle.jr_runs.proofs.TypedValues.{no}
use Rattle.jr_runs_calls.specs.MadeMethods.{on_this}
use Rattle.jr_runs_calls.specs.Extracts.{nothing, Extracts}
use Rattle.jr_runs_calls.proofs.Made.{extracted_methods_are_alike}
use Rattle.jr_runs_calls.proofs.SampleRows.{own, Name, m, q, J, rows, program, m_alone, both_are, field, one, returned, none_is_some, neither, sound, declared, dispatched, own_above}

abbrev params_of : Name → List (Ty J)
params_of n = []

abbrev result_of : Name → Option (Ty J)
result_of m = Some int_type
result_of q = None

abbrev nought : Exp J
nought = literal None (int (pos 0))

abbrev put : Exp J
put = assign None field one

abbrev call : Exp J
call = instance_call None (this None) q core.Exps.end

abbrev piece : Stmts J
piece = core.Stmts.more (eval None put) core.Stmts.end

abbrev old_list : Stmts J
old_list = core.Stmts.more (eval None put) (returned nought)

abbrev new_list : Stmts J
new_list = core.Stmts.more (eval None call) (returned nought)

abbrev new_code : Name → Code J
new_code m = record { params = 0; body = new_list }
new_code q = record { params = 0; body = piece }

abbrev P : Program J
P = program (rows m_alone params_of result_of) (λ n. record { params = 0; body = old_list })

abbrev Q : Program J
Q = program (rows both_are params_of result_of) new_code

old_typed : (n : Name) → IsTrue (m_alone n) → MethodTyped (rows m_alone params_of result_of) (Some own) [] (result_of n) (written record { params = 0; body = old_list })
old_typed m h = record { count = refl; body = ([], ((int_type, (own, refl, refl), refl, tt), refl), ([], (int_type, refl, refl, refl), tt)); completes = λ U e c. c.1.0 }
old_typed q h = no h

new_typed : (n : Name) → IsTrue (both_are n) → MethodTyped (rows both_are params_of result_of) (Some own) [] (result_of n) (written (new_code n))
new_typed m h = record { count = refl; body = ([], ((own, refl, refl, refl, refl, tt), refl), ([], (int_type, refl, refl, refl), tt)); completes = λ U e c. c.1.0 }
new_typed q h = record { count = refl; body = ([], ((int_type, (own, refl, refl), refl, tt), refl), tt); completes = λ U e c. none_is_some U e }

P_typed : WellTyped P
P_typed = record { rows = sound m_alone params_of result_of; methods = old_typed; constructors = λ k h. no h }

Q_typed : WellTyped Q
Q_typed = record { rows = sound both_are params_of result_of; methods = new_typed; constructors = λ k h. no h }

-- m has no locals, and in it `this` is an object of its class
abbrev outer : Standing J
outer = member (own ∷ []) 0 (λ i. i)

abbrev none_agrees : NumberSet
none_agrees i = false

spot : Extracts P Q outer everything old_list new_list none_agrees
spot = record {
  made = record {
    method = q;
    code = record { params = 0; body = piece };
    is_written = refl;
    receiver = on_this (this None);
    is_called = ((None, refl), (own, inl refl), λ d. refl);
    mine = [];
    at = λ i. i;
    injective = λ i j a b e. e;
    known = [];
    stays = λ j e. e;
    outs = [];
    params = refl;
    are_params = λ o e. absurd e;
    begins = none_agrees;
    begins_with = λ i e. no e;
    handed = λ i e. no e;
    call_at = None;
    read_at = None;
  };
  piece = piece;
  new_piece = piece;
  ends = none_agrees;
  piece_to = to_list none_agrees none_agrees none_agrees (eval None put) (eval None put) core.Stmts.end core.Stmts.end
      (to_eval none_agrees none_agrees None None put put
      (to_assign none_agrees none_agrees none_agrees none_agrees None None field field one one
      (to_field_of none_agrees none_agrees None None (this None) (this None) true (to_this none_agrees None (this None) (None, refl))) tt
      (to_literal none_agrees None None (int (pos 1))) (λ i a. a)))
      (to_no_more none_agrees);
  given = nothing;
  fits = tt;
  return_at = None;
  body_is = refl;
  no_return = neither;
  behind = none_agrees;
  still = λ i e. no e;
  rest = returned nought;
  new_rest = returned nought;
  rest_to = to_list none_agrees none_agrees none_agrees (return None nought) (return None nought) core.Stmts.end core.Stmts.end
      (to_return none_agrees none_agrees none_agrees None None nought nought (to_literal none_agrees None None (int (pos 0))))
      (to_no_more none_agrees);
  eval_at = None;
  old_is = refl;
  new_is = refl;
}

code_to : TypedCodeTo same_keys (rows m_alone params_of result_of) (lists_alone (Extracts P Q)) (Some own) (record { params = 0; body = old_list }) (record { params = 0; body = new_list })
code_to = record {
  size = 0;
  at = λ i. i;
  injective = λ i j a b e. e;
  params = refl;
  params_below = omega arith;
  params_stay = λ i h. refl;
  classes = own ∷ [];
  above = own_above m_alone params_of result_of;
  behind = none_agrees;
  body = to_spot everything none_agrees old_list new_list spot;
}

methods_to : (n : Name) → IsTrue (m_alone n) → TypedMethodTo same_keys (rows m_alone params_of result_of) (lists_alone (Extracts P Q)) (Some own) (written record { params = 0; body = old_list }) (written (new_code n))
methods_to m h = code_to
methods_to q h = no h

declared_to : (n : Name) → IsTrue (m_alone n) → IsTrue (both_are n)
declared_to m h = refl
declared_to q h = no h

this_sample_is_alike : AlikeExactly same_keys P Q
this_sample_is_alike = extracted_methods_are_alike P Q P_typed Q_typed record {
  rows = declared m_alone both_are params_of params_of result_of result_of;
  dispatch = dispatched m_alone both_are params_of params_of result_of result_of;
  signatures = record {
    has_method = declared_to;
    owner = λ n h. (own, refl, refl);
    params = λ n h. refl;
    has_constructor = λ k h. no h;
    constructor_class = λ k h. no h;
    constructor_params = λ k h. no h;
  };
  methods = methods_to;
  constructors = λ k h. no h;
}
