-- `class Base { int f; } class Derived extends Base { int m() { return f; } static int call(Derived d) { return d.m(); } }`,
-- `class Lower extends Derived { int k() { return 3; } } class Sibling extends Base { } class Overrider extends Base { int m() { return 2; } }`
-- and m pulled up to Base: Sibling inherits it then, so dispatch isn't kept in all classes; but it is where m may be called.
use Rattle.std.proofs.Common.{◌≡◌, ℕ, true, ◌≤◌, [], ◌∷◌, map, Option, Some, None, option_map, IsTrue, pos, refl, sym, ap, subst, inl, arith}
use Rattle.jr_plans.specs.Run.{ended}
use Rattle.jr_runs.specs.Values.{Value, int, null, object}
use Rattle.jr_runs.specs.Arithmetic.{value}
use Rattle.jr_runs.specs.Core as core
use Rattle.jr_runs.specs.Core.{Exp, this, read, local, field_of, return, Program}
use Rattle.jr_runs.specs.Evaluation.{returns}
use Rattle.jr_runs.specs.Running.{Start, of_method, plain_run}
use Rattle.jr_runs.specs.KeyMaps.{type_image}
use Rattle.jr_runs.specs.Sets.{everything}
use Rattle.jr_runs.specs.Images.{NoSpot, lists_alone, to_literal, to_this, to_read, to_instance_call, to_local, to_field_of, to_end, to_return, StmtsTo, to_no_more, to_list}
use Rattle.jr_runs.specs.KeptDeclarations.{SameDeclarations, SameDispatch, DispatchKept}
use Rattle.jr_runs.specs.Signatures.{OwnerTo, SameSignatures}
use Rattle.jr_runs.specs.TypedImages.{member, TypedCodeTo, TypedMethodTo}
use Rattle.jr_runs.specs.Alike.{AlikeExactly}
use Rattle.jr_runs.proofs.TypedPrograms.{typed_images_are_alike}
use Rattle.jr_runs.proofs.TypedValues.{no}
use Rattle.jr_runs.proofs.PulledUpRows.{base, derived, lower, sibling, overrider, other, from_base, from_derived, from_lower, from_overrider, caller, Class, Called, J, below, old_dispatch, new_dispatch, old_has, new_has, owner_of, params_of, rows, returned, field_read, number, call_of, methods, program, old, new, pulled, up, undone, none_is_some, some_is_none, same_some, old_well_typed, new_well_typed}

-- ---- the new program is the image of the old one

-- a method's code with one statement, which returns
one_return : (size : ℕ) (e e' : Exp J) → StmtsTo up (rows old_dispatch old_has) (NoSpot {K = J}) (member [] size (λ i. i)) everything (returned e) (returned e') everything → (params : ℕ) → params ≤ size → (C : Option Class)
    → TypedCodeTo up (rows old_dispatch old_has) (lists_alone (NoSpot {K = J})) C (record { params = params; body = returned e }) (record { params = params; body = returned e' })
one_return size e e' t params fewer C = record { size = size; at = λ i. i; injective = λ i j a b d. d; params = refl; params_below = fewer; params_stay = λ i h. refl; classes = []; above = λ c none. absurd none; behind = everything; body = t }

to_field : StmtsTo up (rows old_dispatch old_has) (NoSpot {K = J}) (member [] 0 (λ i. i)) everything (returned field_read) (returned field_read) everything
to_field = to_list everything everything everything (return None field_read) (return None field_read) core.Stmts.end core.Stmts.end
    (to_return everything everything everything None None field_read field_read (to_read everything everything None None (field_of None (this None) true) (field_of None (this None) true) (to_field_of everything everything None None (this None) (this None) true (to_this everything None (this None) (None, refl))) tt))
    (to_no_more everything)

to_number : (n : ℕ) → StmtsTo up (rows old_dispatch old_has) (NoSpot {K = J}) (member [] 0 (λ i. i)) everything (returned (number n)) (returned (number n)) everything
to_number n = to_list everything everything everything (return None (number n)) (return None (number n)) core.Stmts.end core.Stmts.end
    (to_return everything everything everything None None (number n) (number n) (to_literal everything None None (int (pos n)))) (to_no_more everything)

to_call : StmtsTo up (rows old_dispatch old_has) (NoSpot {K = J}) (member [] 1 (λ i. i)) everything (returned (call_of from_derived)) (returned (call_of from_base)) everything
to_call = to_list everything everything everything (return None (call_of from_derived)) (return None (call_of from_base)) core.Stmts.end core.Stmts.end
    (to_return everything everything everything None None (call_of from_derived) (call_of from_base)
    (to_instance_call everything everything everything None None (read None (local None 0)) (read None (local None 0)) from_derived core.Exps.end core.Exps.end refl
    (to_read everything everything None None (local None 0) (local None 0) (to_local everything None None 0 (inl refl)) refl) (to_end everything)))
    (to_no_more everything)

methods_to : (m : Called) → IsTrue (old_has m) → TypedMethodTo up (rows old_dispatch old_has) (lists_alone (NoSpot {K = J})) (owner_of m) (methods from_derived m) (methods from_base (pulled m))
methods_to from_base h = no h
methods_to from_derived h = one_return 0 field_read field_read to_field 0 (omega arith) (Some derived)
methods_to from_lower h = one_return 0 (number 3) (number 3) (to_number 3) 0 (omega arith) (Some lower)
methods_to from_overrider h = one_return 0 (number 2) (number 2) (to_number 2) 0 (omega arith) (Some overrider)
methods_to caller h = one_return 1 (call_of from_derived) (call_of from_base) to_call 1 (omega arith) None

-- m's class has gone up, and all others are as they were
owners_to : (m : Called) → IsTrue (old_has m) → OwnerTo up (rows new_dispatch new_has) (owner_of m) (owner_of (pulled m))
owners_to from_base h = no h
owners_to from_derived h = (base, refl, refl)
owners_to from_lower h = (lower, refl, refl)
owners_to from_overrider h = (overrider, refl, refl)
owners_to caller h = refl

declared_to : (m : Called) → IsTrue (old_has m) → IsTrue (new_has (pulled m))
declared_to from_base h = no h
declared_to from_derived h = refl
declared_to from_lower h = refl
declared_to from_overrider h = refl
declared_to caller h = refl

params_to : (m : Called) → IsTrue (old_has m) → params_of (pulled m) ≡ map (type_image up) (params_of m)
params_to from_base h = no h
params_to from_derived h = refl
params_to from_lower h = refl
params_to from_overrider h = refl
params_to caller h = refl

found_to : (c : Class) (m k : Called) → old_dispatch c m ≡ Some k → new_dispatch c (pulled m) ≡ Some (pulled k)
found_to base from_base k e = none_is_some k e
found_to base from_derived k e = none_is_some k e
found_to base from_lower k e = none_is_some k e
found_to base from_overrider k e = none_is_some k e
found_to base caller k e = none_is_some k e
found_to derived from_base k e = none_is_some k e
found_to derived from_derived k e = ap (λ x. Some (pulled x)) (same_some from_derived k e)
found_to derived from_lower k e = none_is_some k e
found_to derived from_overrider k e = ap (λ x. Some (pulled x)) (same_some from_derived k e)
found_to derived caller k e = none_is_some k e
found_to lower from_base k e = none_is_some k e
found_to lower from_derived k e = ap (λ x. Some (pulled x)) (same_some from_derived k e)
found_to lower from_lower k e = ap (λ x. Some (pulled x)) (same_some from_lower k e)
found_to lower from_overrider k e = ap (λ x. Some (pulled x)) (same_some from_derived k e)
found_to lower caller k e = none_is_some k e
found_to sibling from_base k e = none_is_some k e
found_to sibling from_derived k e = none_is_some k e
found_to sibling from_lower k e = none_is_some k e
found_to sibling from_overrider k e = none_is_some k e
found_to sibling caller k e = none_is_some k e
found_to overrider from_base k e = none_is_some k e
found_to overrider from_derived k e = ap (λ x. Some (pulled x)) (same_some from_overrider k e)
found_to overrider from_lower k e = none_is_some k e
found_to overrider from_overrider k e = ap (λ x. Some (pulled x)) (same_some from_overrider k e)
found_to overrider caller k e = none_is_some k e
found_to other from_base k e = none_is_some k e
found_to other from_derived k e = none_is_some k e
found_to other from_lower k e = none_is_some k e
found_to other from_overrider k e = none_is_some k e
found_to other caller k e = none_is_some k e

-- where nothing was found nothing is, in the method's class and below
nothing_to : (c owner : Class) (m : Called) → IsTrue (old_has m) → old_dispatch c m ≡ None → owner_of m ≡ Some owner → IsTrue (below c owner) → new_dispatch c (pulled m) ≡ None
nothing_to c owner from_base h d o b = no h
nothing_to base owner from_derived h d o b = no (subst (λ x. IsTrue (below base x)) (sym (same_some derived owner o)) b)
nothing_to derived owner from_derived h d o b = some_is_none from_derived d
nothing_to lower owner from_derived h d o b = some_is_none from_derived d
nothing_to sibling owner from_derived h d o b = no (subst (λ x. IsTrue (below sibling x)) (sym (same_some derived owner o)) b)
nothing_to overrider owner from_derived h d o b = some_is_none from_overrider d
nothing_to other owner from_derived h d o b = no (subst (λ x. IsTrue (below other x)) (sym (same_some derived owner o)) b)
nothing_to base owner from_lower h d o b = no (subst (λ x. IsTrue (below base x)) (sym (same_some lower owner o)) b)
nothing_to derived owner from_lower h d o b = no (subst (λ x. IsTrue (below derived x)) (sym (same_some lower owner o)) b)
nothing_to lower owner from_lower h d o b = some_is_none from_lower d
nothing_to sibling owner from_lower h d o b = no (subst (λ x. IsTrue (below sibling x)) (sym (same_some lower owner o)) b)
nothing_to overrider owner from_lower h d o b = no (subst (λ x. IsTrue (below overrider x)) (sym (same_some lower owner o)) b)
nothing_to other owner from_lower h d o b = no (subst (λ x. IsTrue (below other x)) (sym (same_some lower owner o)) b)
nothing_to base owner from_overrider h d o b = no (subst (λ x. IsTrue (below base x)) (sym (same_some overrider owner o)) b)
nothing_to derived owner from_overrider h d o b = some_is_none from_derived d
nothing_to lower owner from_overrider h d o b = some_is_none from_derived d
nothing_to sibling owner from_overrider h d o b = no (subst (λ x. IsTrue (below sibling x)) (sym (same_some overrider owner o)) b)
nothing_to overrider owner from_overrider h d o b = some_is_none from_overrider d
nothing_to other owner from_overrider h d o b = no (subst (λ x. IsTrue (below other x)) (sym (same_some overrider owner o)) b)
nothing_to c owner caller h d o b = none_is_some owner o

kept : DispatchKept up (rows old_dispatch old_has) (rows new_dispatch new_has)
kept = record { some = λ c m k h e. found_to c m k e; none = nothing_to }

same_declarations : SameDeclarations up (rows old_dispatch old_has) (rows new_dispatch new_has)
same_declarations = record { same_class = λ c d. refl; is_subclass = λ c d. refl; text_class = refl; class_class = refl; field_kind = λ f. refl; field_type = λ f. refl }

signatures : SameSignatures up (rows old_dispatch old_has) (rows new_dispatch new_has)
signatures = record { has_method = declared_to; owner = owners_to; params = params_to; has_constructor = λ k h. no h; constructor_class = λ k h. no h; constructor_params = λ k h. no h }

-- they have the same runs
pulled_up_is_alike : AlikeExactly up old new
pulled_up_is_alike = typed_images_are_alike up up undone undone old new old_well_typed new_well_typed record {
  rows = same_declarations;
  dispatch = kept;
  signatures = signatures;
  methods = methods_to;
  constructors = λ k h. no h;
}

-- ---- dispatch in other classes, and below

-- It isn't kept in all classes: Sibling had no m.
not_in_the_sibling : SameDispatch up (rows old_dispatch old_has) (rows new_dispatch new_has) → ⊥
not_in_the_sibling s = some_is_none from_base (s.dispatch sibling from_derived refl)

-- A wrong turn, kept for the method's class alone: an object of Lower runs k for m.
abbrev wrong_dispatch : Class → Called → Option Called
wrong_dispatch lower from_base = Some from_lower
wrong_dispatch c m = new_dispatch c m

abbrev wrong : Program J
wrong = program wrong_dispatch new_has from_base

kept_for_its_class : wrong_dispatch derived from_base ≡ option_map pulled (old_dispatch derived from_derived)
kept_for_its_class = refl

not_kept_below : DispatchKept up (rows old_dispatch old_has) (rows wrong_dispatch new_has) → ⊥
not_kept_below s = apart (same_some from_lower from_base (s.some lower from_derived from_derived refl refl))
  where
    apart : from_lower ≡ from_base → ⊥
    apart e = cc

-- and so the runs differ: `call(new Lower())`
abbrev lower_object : Value J
lower_object = object 7 lower

abbrev start : Start J
start = of_method caller null (lower_object ∷ [])

old_reads_the_field : (plain_run old start (int (pos 1) ∷ []) 9).end ≡ ended (value (returns (Some (int (pos 1)))))
old_reads_the_field = refl

new_reads_the_field : (plain_run new start (int (pos 1) ∷ []) 9).end ≡ ended (value (returns (Some (int (pos 1)))))
new_reads_the_field = refl

wrong_returns_three : (plain_run wrong start (int (pos 1) ∷ []) 9).end ≡ ended (value (returns (Some (int (pos 3)))))
wrong_returns_three = refl
