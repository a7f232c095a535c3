-- An expression that becomes a call: `int m() { return 1 + f; }` becomes `return 1 + q();` with `private int q() { return f; }`.
use Rattle.std.proofs.Common.{true, false, List, [], ◌∷◌, Option, Some, None, IsTrue, pos, refl, inl, arith}
use Rattle.jr_runs.specs.Values.{Ty, int, int_type}
use Rattle.jr_runs.specs.Core as core
use Rattle.jr_runs.specs.Core.{add, arithmetic, Exp, this, read, binary, instance_call, return, Code, Program, written}
use Rattle.jr_runs.specs.KeyMaps.{same_keys}
use Rattle.jr_runs.specs.Sets.{NumberSet, everything}
use Rattle.jr_runs.specs.Standing.{Standing}
use Rattle.jr_runs.specs.Images.{to_this, to_literal, to_read, to_binary, to_field_of, to_changed, to_return, StmtsImage, to_no_more, to_list, exps_alone}
use Rattle.jr_runs.specs.TypedImages.{member, TypedCodeTo, TypedMethodTo}
use Rattle.jr_runs.specs.Typing.{MethodTyped, WellTyped}
use Rattle.jr_runs.specs.Alike.{AlikeExactly}
use Rattle.jr_runs.proofs.TypedValues.{no}
use Rattle.jr_runs_calls.specs.MadeMethods.{on_this}
use Rattle.jr_runs_calls.specs.Extracts.{ExtractsExp}
use Rattle.jr_runs_calls.proofs.MadeExps.{extracted_values_are_alike}
use Rattle.jr_runs_calls.proofs.SampleRows.{own, Name, m, q, J, rows, program, m_alone, both_are, field, one, returned, sound, declared, dispatched, own_above}

abbrev params_of : Name → List (Ty J)
params_of n = []

abbrev result_of : Name → Option (Ty J)
result_of n = Some int_type

abbrev load : Exp J
load = read None field

abbrev call : Exp J
call = instance_call None (this None) q core.Exps.end

abbrev sum : Exp J → Exp J
sum e = binary None (arithmetic add) one e

abbrev new_code : Name → Code J
new_code m = record { params = 0; body = returned (sum call) }
new_code q = record { params = 0; body = returned load }

abbrev P : Program J
P = program (rows m_alone params_of result_of) (λ n. record { params = 0; body = returned (sum load) })

abbrev Q : Program J
Q = program (rows both_are params_of result_of) new_code

old_typed : (n : Name) → IsTrue (m_alone n) → MethodTyped (rows m_alone params_of result_of) (Some own) [] (Some int_type) (written record { params = 0; body = returned (sum load) })
old_typed m h = record { count = refl; body = ([], (int_type, refl, (refl, (int_type, (own, refl, refl), refl), refl), refl), tt); completes = λ U e c. c.0 }
old_typed q h = no h

new_typed : (n : Name) → IsTrue (both_are n) → MethodTyped (rows both_are params_of result_of) (Some own) [] (Some int_type) (written (new_code n))
new_typed m h = record { count = refl; body = ([], (int_type, refl, (refl, (own, refl, refl, refl, refl, refl), refl), refl), tt); completes = λ U e c. c.0 }
new_typed q h = record { count = refl; body = ([], (int_type, refl, (int_type, (own, refl, refl), refl), refl), tt); completes = λ U e c. c.0 }

P_typed : WellTyped P
P_typed = record { rows = sound m_alone params_of result_of; methods = old_typed; constructors = λ k h. no h }

Q_typed : WellTyped Q
Q_typed = record { rows = sound both_are params_of result_of; methods = new_typed; constructors = λ k h. no h }

abbrev outer : Standing J
outer = member (own ∷ []) 0 (λ i. i)

abbrev none_agrees : NumberSet
none_agrees i = false

value : ExtractsExp P Q outer everything load call none_agrees
value = record {
  made = record {
    method = q;
    code = record { params = 0; body = returned load };
    is_written = refl;
    receiver = on_this (this None);
    is_called = ((None, refl), (own, inl refl), λ d. refl);
    mine = [];
    at = λ i. i;
    injective = λ i j a b e. e;
    known = [];
    stays = λ j e. e;
    outs = [];
    params = refl;
    are_params = λ o e. absurd e;
    begins = none_agrees;
    begins_with = λ i e. no e;
    handed = λ i e. no e;
    call_at = None;
    read_at = None;
  };
  piece = load;
  ends = none_agrees;
  piece_to = to_read none_agrees none_agrees None None field field (to_field_of none_agrees none_agrees None None (this None) (this None) true (to_this none_agrees None (this None) (None, refl))) tt;
  return_at = None;
  body_is = refl;
  still = λ i e. no e;
  new_is = refl;
}

body_to : StmtsImage same_keys (rows m_alone params_of result_of) (exps_alone (ExtractsExp P Q)) outer everything (returned (sum load)) (returned (sum call)) none_agrees
body_to = to_list everything none_agrees none_agrees (return None (sum load)) (return None (sum call)) core.Stmts.end core.Stmts.end
    (to_return everything none_agrees none_agrees None None (sum load) (sum call)
    (to_binary everything everything none_agrees None None (arithmetic add) one one load call (to_literal everything None None (int (pos 1))) (to_changed everything none_agrees load call value)))
    (to_no_more none_agrees)

code_to : TypedCodeTo same_keys (rows m_alone params_of result_of) (exps_alone (ExtractsExp P Q)) (Some own) (record { params = 0; body = returned (sum load) }) (record { params = 0; body = returned (sum call) })
code_to = record {
  size = 0;
  at = λ i. i;
  injective = λ i j a b e. e;
  params = refl;
  params_below = omega arith;
  params_stay = λ i h. refl;
  classes = own ∷ [];
  above = own_above m_alone params_of result_of;
  behind = none_agrees;
  body = body_to;
}

methods_to : (n : Name) → IsTrue (m_alone n) → TypedMethodTo same_keys (rows m_alone params_of result_of) (exps_alone (ExtractsExp P Q)) (Some own) (written record { params = 0; body = returned (sum load) }) (written (new_code n))
methods_to m h = code_to
methods_to q h = no h

declared_to : (n : Name) → IsTrue (m_alone n) → IsTrue (both_are n)
declared_to m h = refl
declared_to q h = no h

value_sample_is_alike : AlikeExactly same_keys P Q
value_sample_is_alike = extracted_values_are_alike P Q P_typed Q_typed record {
  rows = declared m_alone both_are params_of params_of result_of result_of;
  dispatch = dispatched m_alone both_are params_of params_of result_of result_of;
  signatures = record {
    has_method = declared_to;
    owner = λ n h. (own, refl, refl);
    params = λ n h. refl;
    has_constructor = λ k h. no h;
    constructor_class = λ k h. no h;
    constructor_params = λ k h. no h;
  };
  methods = methods_to;
  constructors = λ k h. no h;
}
