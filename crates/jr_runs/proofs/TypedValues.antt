-- Values that fit types.
use Rattle.std.proofs.Common.{◌≡◌, ℤ, pos, ◌+ℤ◌, ◌-ℤ◌, ◌*ℤ◌, int_div, int_rem, Bool, true, false, Option, Some, None, IsTrue, refl, sym, true≢false}
use Rattle.jr_runs.specs.Keys.{Keys}
use Rattle.jr_runs.specs.Values.{Value, int, truth, null, text, class_object, object, Ty, int_type, boolean_type, reference}
use Rattle.jr_runs.specs.Rows.{Rows}
use Rattle.jr_runs.specs.Fitting.{fits, is_instance, is_new}
use Rattle.jr_runs.specs.Arithmetic.{unless_zero, is_zero, calculate, number_of, bumped, bump_value}
use Rattle.jr_runs.specs.Core.{Arithmetic, add, subtract, multiply, divide, remainder, Bump, pre_increment, pre_decrement, post_increment, post_decrement}
use Rattle.jr_runs.specs.Evaluation.{cast_value}
use Rattle.jr_runs.specs.Starting.{IsReceiver}
use Rattle.jr_runs.specs.Typing.{is_assignable, Gives, ThisHas, SoundRows}
use Rattle.jr_runs.specs.TypedRuns.{OutHas}
use Rattle.jr_runs.proofs.IntRange.{wrapped_fits}

-- what is claimed of a value
abbrev pub Claim : {K : Keys} → Rows K → Option (Ty K) → Value K → Type 0
Claim R None v = Unit {0}
Claim R (Some T) v = IsTrue (fits R T v)

pub no : {A : Type 0} → false ≡ true → A
no e = absurd (true≢false (sym e))

module _ {K : Keys} (R : Rows K) where
  calc_wraps : (b : Bool) (z : ℤ) → OutHas (λ (v : Value K). IsTrue (fits R int_type v)) (unless_zero b z)
  calc_wraps true z = tt
  calc_wraps false z = wrapped_fits z

  pub calculate_fits : (op : Arithmetic) (a b : ℤ) → OutHas (λ (v : Value K). IsTrue (fits R int_type v)) (calculate op a b)
  calculate_fits add a b = wrapped_fits (a +ℤ b)
  calculate_fits subtract a b = wrapped_fits (a -ℤ b)
  calculate_fits multiply a b = wrapped_fits (a *ℤ b)
  calculate_fits divide a b = calc_wraps (is_zero b) (int_div a b)
  calculate_fits remainder a b = calc_wraps (is_zero b) (int_rem a b)

  pub bumped_fits : (op : Bump) (v : Value K) → IsTrue (fits R int_type (bumped op v))
  bumped_fits pre_increment v = wrapped_fits (number_of v +ℤ pos 1)
  bumped_fits pre_decrement v = wrapped_fits (number_of v -ℤ pos 1)
  bumped_fits post_increment v = wrapped_fits (number_of v +ℤ pos 1)
  bumped_fits post_decrement v = wrapped_fits (number_of v -ℤ pos 1)

  pub bump_value_fits : (op : Bump) (v w : Value K) → IsTrue (fits R int_type v) → IsTrue (fits R int_type w) → IsTrue (fits R int_type (bump_value op v w))
  bump_value_fits pre_increment v w h g = g
  bump_value_fits pre_decrement v w h g = g
  bump_value_fits post_increment v w h g = h
  bump_value_fits post_decrement v w h g = h

  pub cast_fits : (c : K.class) (v : Value K) (b : Bool) → is_instance R c v ≡ b → OutHas (λ (w : Value K). IsTrue (fits R (reference c) w)) (cast_value b v)
  cast_fits c (int z) true e = e
  cast_fits c (truth t) true e = e
  cast_fits c null true e = refl
  cast_fits c (text t) true e = e
  cast_fits c (class_object d) true e = e
  cast_fits c (object n d) true e = e
  cast_fits c (int z) false e = tt
  cast_fits c (truth t) false e = tt
  cast_fits c null false e = refl
  cast_fits c (text t) false e = tt
  cast_fits c (class_object d) false e = tt
  cast_fits c (object n d) false e = tt

  pub instance_fits : (c : K.class) (v : Value K) → IsTrue (is_instance R c v) → IsTrue (fits R (reference c) v)
  instance_fits c (int z) h = h
  instance_fits c (truth t) h = h
  instance_fits c null h = refl
  instance_fits c (text t) h = h
  instance_fits c (class_object d) h = h
  instance_fits c (object n d) h = h

  module _ (sound : SoundRows R) where
    assignable_fits : (T U : Ty K) (v : Value K) → IsTrue (is_assignable R T U) → IsTrue (fits R T v) → IsTrue (fits R U v)
    assignable_fits int_type int_type v s h = h
    assignable_fits int_type boolean_type v s h = no s
    assignable_fits int_type (reference d) v s h = no s
    assignable_fits boolean_type int_type v s h = no s
    assignable_fits boolean_type boolean_type v s h = h
    assignable_fits boolean_type (reference d) v s h = no s
    assignable_fits (reference c) int_type v s h = no s
    assignable_fits (reference c) boolean_type v s h = no s
    assignable_fits (reference c) (reference d) null s h = refl
    assignable_fits (reference c) (reference d) (int z) s h = no h
    assignable_fits (reference c) (reference d) (truth t) s h = no h
    assignable_fits (reference c) (reference d) (text t) s h = sound.chain R.text_class c d h s
    assignable_fits (reference c) (reference d) (class_object e) s h = sound.chain R.class_class c d h s
    assignable_fits (reference c) (reference d) (object n e) s h = sound.chain e c d h s

    pub given : (T U : Option (Ty K)) (v : Value K) → Gives R T U → Claim R T v → Claim R U v
    given T None v s h = tt
    given None (Some U) v s h = absurd s
    given (Some T) (Some U) v s h = assignable_fits T U v s h

    pub this_fits : (C : Option K.class) (me : Value K) (T : Option (Ty K)) → IsReceiver R C me → ThisHas R C T → Claim R T me
    this_fits None me T r h = absurd h
    this_fits (Some c) me T r h = given (Some (reference c)) T me h (instance_fits c me r)

    pub new_is_instance : (c : K.class) (v : Value K) → IsTrue (is_new R c v) → IsTrue (is_instance R c v)
    new_is_instance c (int z) h = no h
    new_is_instance c (truth t) h = no h
    new_is_instance c null h = no h
    new_is_instance c (text t) h = no h
    new_is_instance c (class_object d) h = no h
    new_is_instance c (object n d) h = rw (sound.same d c h) (sound.itself c)
