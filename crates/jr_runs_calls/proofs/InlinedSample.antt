-- A call on `this` that goes: `int m() { q(1); return 0; }` becomes `int m() { { int a = 1; f = a; } return 0; }`, with `private void q(int a) { f = a; }`.
use Rattle.std.proofs.Common.{◌≡◌, true, List, [], ◌∷◌, map, Option, Some, None, IsTrue, pos, refl, inl, arith}
use Rattle.jr_runs.specs.Values.{Ty, int, int_type}
use Rattle.jr_runs.specs.Core as core
use Rattle.jr_runs.specs.Core.{Exp, this, literal, read, assign, local, instance_call, declare, eval, block, return, Stmts, Code, Program, written}
use Rattle.jr_runs.specs.KeyMaps.{same_keys, type_image}
use Rattle.jr_runs.specs.Sets.{everything}
use Rattle.jr_runs.specs.Standing.{Standing}
use Rattle.jr_runs.specs.Images.{uncast, to_end, to_more, NoSpot, to_this, to_literal, to_read, to_assign, to_local, to_field_of, to_eval, to_return, StmtsTo, to_no_more, to_list, to_spot, lists_alone}
use Rattle.jr_runs.specs.TypedImages.{member, TypedCodeTo, TypedMethodTo}
use Rattle.jr_runs.specs.Typing.{MethodTyped, WellTyped}
use Rattle.jr_runs.specs.Alike.{AlikeExactly}
use Rattle.jr_runs_calls.specs.MadeMethods.{on_this}
use Rattle.jr_runs_calls.specs.Inlines.{inlined, dropped, Inlines}
use Rattle.jr_runs_calls.proofs.Removed.{inlined_methods_are_alike}
use Rattle.jr_runs.proofs.TypedValues.{no}
use Rattle.jr_runs_calls.proofs.SampleRows.{own, Name, m, q, J, rows, program, both_are, field, one, returned, none_is_some, neither, sound, declared, dispatched, own_above}

abbrev params_of : Name → List (Ty J)
params_of m = []
params_of q = int_type ∷ []

abbrev result_of : Name → Option (Ty J)
result_of m = Some int_type
result_of q = None

abbrev nought : Exp J
nought = literal None (int (pos 0))

abbrev put : Exp J
put = assign None field (read None (local None 0))

abbrev q_body : Stmts J
q_body = core.Stmts.more (eval None put) core.Stmts.end

abbrev old_list : Stmts J
old_list = core.Stmts.more (eval None (instance_call None (this None) q (core.Exps.more one core.Exps.end))) (returned nought)

abbrev new_list : Stmts J
new_list = core.Stmts.more (block None (0 ∷ []) (core.Stmts.more (declare None 0 one) q_body)) (returned nought)

abbrev old_code : Name → Code J
old_code m = record { params = 0; body = old_list }
old_code q = record { params = 1; body = q_body }

abbrev new_code : Name → Code J
new_code m = record { params = 0; body = new_list }
new_code q = record { params = 1; body = q_body }

abbrev P : Program J
P = program (rows both_are params_of result_of) old_code

abbrev Q : Program J
Q = program (rows both_are params_of result_of) new_code

old_typed : (n : Name) → IsTrue (both_are n) → MethodTyped (rows both_are params_of result_of) (Some own) (params_of n) (result_of n) (written (old_code n))
old_typed m h = record { count = refl; body = ([], ((own, refl, refl, refl, (int_type, [], refl, refl, refl), tt), refl), ([], (int_type, refl, refl, refl), tt)); completes = λ U e c. c.1.0 }
old_typed q h = record { count = refl; body = ((0, int_type) ∷ [], ((int_type, (own, refl, refl), (int_type, refl, refl), tt), refl), tt); completes = λ U e c. none_is_some U e }

new_typed : (n : Name) → IsTrue (both_are n) → MethodTyped (rows both_are params_of result_of) (Some own) (params_of n) (result_of n) (written (new_code n))
new_typed m h = record {
  count = refl;
  body = ([], ((refl, tt), ((0, int_type) ∷ [], (int_type, refl, refl, refl), ((0, int_type) ∷ [], ((int_type, (own, refl, refl), (int_type, refl, refl), tt), refl), tt)), refl), ([], (int_type, refl, refl, refl), tt));
  completes = λ U e c. c.1.0;
}
new_typed q h = record { count = refl; body = ((0, int_type) ∷ [], ((int_type, (own, refl, refl), (int_type, refl, refl), tt), refl), tt); completes = λ U e c. none_is_some U e }

P_typed : WellTyped P
P_typed = record { rows = sound both_are params_of result_of; methods = old_typed; constructors = λ k h. no h }

Q_typed : WellTyped Q
Q_typed = record { rows = sound both_are params_of result_of; methods = new_typed; constructors = λ k h. no h }

abbrev outer : Standing J
outer = member (own ∷ []) 0 (λ i. i)

-- q's body in the block, and as it is
inlined_body : StmtsTo same_keys (rows both_are params_of result_of) NoSpot (inlined (on_this (this None)) outer 1 (λ i. i)) everything q_body q_body everything
inlined_body = to_list everything everything everything (eval None put) (eval None put) core.Stmts.end core.Stmts.end
    (to_eval everything everything None None put put
    (to_assign everything everything everything everything None None field field (read None (local None 0)) (read None (local None 0))
    (to_field_of everything everything None None (this None) (this None) true (to_this everything None (this None) (None, refl))) tt
    (to_read everything everything None None (local None 0) (local None 0) (to_local everything None None 0 (inl refl)) refl) (λ i a. a)))
    (to_no_more everything)

own_body : StmtsTo same_keys (rows both_are params_of result_of) (Inlines P) (member [] 1 (λ i. i)) everything q_body q_body everything
own_body = to_list everything everything everything (eval None put) (eval None put) core.Stmts.end core.Stmts.end
    (to_eval everything everything None None put put
    (to_assign everything everything everything everything None None field field (read None (local None 0)) (read None (local None 0))
    (to_field_of everything everything None None (this None) (this None) true (to_this everything None (this None) (None, refl))) tt
    (to_read everything everything None None (local None 0) (local None 0) (to_local everything None None 0 (inl refl)) refl) (λ i a. a)))
    (to_no_more everything)

spot : Inlines P outer everything old_list new_list everything
spot = record {
  method = q;
  has = refl;
  code = record { params = 1; body = q_body };
  is_written = refl;
  receiver = on_this (this None);
  is_found = ((None, uncast), (own, inl refl, λ c b. refl));
  args = core.Exps.more one core.Exps.end;
  new_args = core.Exps.more one core.Exps.end;
  params = refl;
  size = 1;
  fewer = omega arith;
  at = λ i. i;
  injective = λ i j a b e. e;
  fresh = λ i j b e d. absurd e;
  fresh_others = λ i b e. e;
  used = dropped;
  fits = tt;
  body = q_body;
  result = one;
  last_at = None;
  body_is = refl;
  no_return = neither;
  between = everything;
  args_to = to_more everything everything everything one one core.Exps.end core.Exps.end (to_literal everything None None (int (pos 1))) (to_end everything);
  body_behind = everything;
  new_body = q_body;
  body_to = inlined_body;
  new_result = one;
  result_behind = everything;
  result_to = tt;
  behind = everything;
  still = λ i a. a;
  rest = returned nought;
  new_rest = returned nought;
  rest_to = to_list everything everything everything (return None nought) (return None nought) core.Stmts.end core.Stmts.end
      (to_return everything everything everything None None nought nought (to_literal everything None None (int (pos 0))))
      (to_no_more everything);
  eval_at = None;
  call_at = None;
  block_at = None;
  declare_at = None;
  old_is = refl;
  new_is = refl;
}

m_to : TypedCodeTo same_keys (rows both_are params_of result_of) (lists_alone (Inlines P)) (Some own) (record { params = 0; body = old_list }) (record { params = 0; body = new_list })
m_to = record {
  size = 0;
  at = λ i. i;
  injective = λ i j a b e. e;
  params = refl;
  params_below = omega arith;
  params_stay = λ i h. refl;
  classes = own ∷ [];
  above = own_above both_are params_of result_of;
  behind = everything;
  body = to_spot everything everything old_list new_list spot;
}

q_to : TypedCodeTo same_keys (rows both_are params_of result_of) (lists_alone (Inlines P)) (Some own) (record { params = 1; body = q_body }) (record { params = 1; body = q_body })
q_to = record {
  size = 1;
  at = λ i. i;
  injective = λ i j a b e. e;
  params = refl;
  params_below = omega arith;
  params_stay = λ i h. refl;
  classes = [];
  above = λ c none. absurd none;
  behind = everything;
  body = own_body;
}

methods_to : (n : Name) → IsTrue (both_are n) → TypedMethodTo same_keys (rows both_are params_of result_of) (lists_alone (Inlines P)) (Some own) (written (old_code n)) (written (new_code n))
methods_to m h = m_to
methods_to q h = q_to

params_to : (n : Name) → params_of n ≡ map (type_image same_keys) (params_of n)
params_to m = refl
params_to q = refl

inlined_sample_is_alike : AlikeExactly same_keys P Q
inlined_sample_is_alike = inlined_methods_are_alike P Q P_typed Q_typed record {
  rows = declared both_are both_are params_of params_of result_of result_of;
  dispatch = dispatched both_are both_are params_of params_of result_of result_of;
  signatures = record {
    has_method = λ n h. h;
    owner = λ n h. (own, refl, refl);
    params = λ n h. params_to n;
    has_constructor = λ k h. no h;
    constructor_class = λ k h. no h;
    constructor_params = λ k h. no h;
  };
  methods = methods_to;
  constructors = λ k h. no h;
}
