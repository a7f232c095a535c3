-- Operators, tests of values and of types don't look at keys.
use Rattle.std.proofs.Common.{◌≡◌, ◌&&◌, ℤ, Bool, true, false, Option, Some, None, option_map, nat_eq, refl, ap, ◌∙◌}
use Rattle.jr_runs.specs.Keys.{Keys}
use Rattle.jr_runs.specs.Values.{Value, int, truth, null, text, class_object, object, Ty, int_type, boolean_type, reference, same_value}
use Rattle.jr_runs.specs.Rows.{Rows}
use Rattle.jr_runs.specs.Fitting.{class_of, is_instance, has_class, fits, is_truth, is_new}
use Rattle.jr_runs.specs.Arithmetic.{unless_zero, is_zero, calculate, number_of, truth_of, operate, sign, bumped, bump_value}
use Rattle.jr_runs.specs.Core.{Arithmetic, add, subtract, multiply, divide, remainder, Operator, arithmetic, comparison, equal, different, Sign, plus, minus, complement, Bump, pre_increment, pre_decrement, post_increment, post_decrement}
use Rattle.jr_runs.specs.Evaluation.{cast_value}
use Rattle.jr_runs.specs.KeyMaps.{KeyMap, value_image, type_image}
use Rattle.jr_runs.specs.Images.{SameRows}
use Rattle.jr_runs.specs.KeptDeclarations.{SameDeclarations, SameDispatch}
use Rattle.jr_runs.specs.Pairs.{OutRel, ImageOf}

-- what rows that are the same say of classes and fields, and of dispatch
module _ {K : Keys} (r : KeyMap K) (R R' : Rows K) (rows : SameRows r R R') where
  pub declarations : SameDeclarations r R R'
  declarations = record { same_class = rows.same_class; is_subclass = rows.is_subclass; text_class = rows.text_class; class_class = rows.class_class; field_kind = rows.field_kind; field_type = rows.field_type }

  pub same_dispatch : SameDispatch r R R'
  same_dispatch = record { dispatch = rows.dispatch; found = rows.found }

module _ {K : Keys} (r : KeyMap K) where
  pub same_number : (v : Value K) → number_of (value_image r v) ≡ number_of v
  same_number (int n) = refl
  same_number (truth b) = refl
  same_number null = refl
  same_number (text t) = refl
  same_number (class_object c) = refl
  same_number (object n c) = refl

  same_truth : (v : Value K) → truth_of (value_image r v) ≡ truth_of v
  same_truth (int n) = refl
  same_truth (truth b) = refl
  same_truth null = refl
  same_truth (text t) = refl
  same_truth (class_object c) = refl
  same_truth (object n c) = refl

  pub sign_image : (op : Sign) (v : Value K) → sign op (value_image r v) ≡ value_image r (sign op v)
  sign_image plus v = rw (same_number v) refl
  sign_image minus v = rw (same_number v) refl
  sign_image complement v = rw (same_truth v) refl

  pub bumped_image : (op : Bump) (v : Value K) → bumped op (value_image r v) ≡ value_image r (bumped op v)
  bumped_image pre_increment v = rw (same_number v) refl
  bumped_image pre_decrement v = rw (same_number v) refl
  bumped_image post_increment v = rw (same_number v) refl
  bumped_image post_decrement v = rw (same_number v) refl

  pub bump_value_image : (op : Bump) (v w : Value K) → bump_value op (value_image r v) (value_image r w) ≡ value_image r (bump_value op v w)
  bump_value_image pre_increment v w = refl
  bump_value_image pre_decrement v w = refl
  bump_value_image post_increment v w = refl
  bump_value_image post_decrement v w = refl

  unless_zero_rel : (b : Bool) (z : ℤ) → OutRel (ImageOf r) (unless_zero b z) (unless_zero b z)
  unless_zero_rel true z = refl
  unless_zero_rel false z = refl

  calculate_same : (op : Arithmetic) (a b : ℤ) → OutRel (ImageOf r) (calculate op a b) (calculate op a b)
  calculate_same add a b = refl
  calculate_same subtract a b = refl
  calculate_same multiply a b = refl
  calculate_same divide a b = unless_zero_rel (is_zero b) _
  calculate_same remainder a b = unless_zero_rel (is_zero b) _

  pub calculate_rel : (op : Arithmetic) (v w : Value K) → OutRel (ImageOf r) (calculate op (number_of v) (number_of w)) (calculate op (number_of (value_image r v)) (number_of (value_image r w)))
  calculate_rel op v w = rw (same_number v, same_number w) (calculate_same op (number_of v) (number_of w))

  pub cast_rel : (b : Bool) (v : Value K) → OutRel (ImageOf r) (cast_value b v) (cast_value b (value_image r v))
  cast_rel true v = refl
  cast_rel false null = refl
  cast_rel false (int n) = refl
  cast_rel false (truth b) = refl
  cast_rel false (text t) = refl
  cast_rel false (class_object c) = refl
  cast_rel false (object n c) = refl

  pub is_truth_image : (v : Value K) → is_truth (value_image r v) ≡ is_truth v
  is_truth_image (int n) = refl
  is_truth_image (truth b) = refl
  is_truth_image null = refl
  is_truth_image (text t) = refl
  is_truth_image (class_object c) = refl
  is_truth_image (object n c) = refl

  module _ (R R' : Rows K) (rows : SameDeclarations r R R') where
    same_test : (v w : Value K) → same_value R'.same_class (value_image r v) (value_image r w) ≡ same_value R.same_class v w
    same_test (int n) (int m) = refl
    same_test (int n) (truth b) = refl
    same_test (int n) null = refl
    same_test (int n) (text t) = refl
    same_test (int n) (class_object c) = refl
    same_test (int n) (object m d) = refl
    same_test (truth true) (int m) = refl
    same_test (truth true) (truth b) = refl
    same_test (truth true) null = refl
    same_test (truth true) (text t) = refl
    same_test (truth true) (class_object c) = refl
    same_test (truth true) (object m d) = refl
    same_test (truth false) (int m) = refl
    same_test (truth false) (truth true) = refl
    same_test (truth false) (truth false) = refl
    same_test (truth false) null = refl
    same_test (truth false) (text t) = refl
    same_test (truth false) (class_object c) = refl
    same_test (truth false) (object m d) = refl
    same_test null (int m) = refl
    same_test null (truth b) = refl
    same_test null null = refl
    same_test null (text t) = refl
    same_test null (class_object c) = refl
    same_test null (object m d) = refl
    same_test (text s) (int m) = refl
    same_test (text s) (truth b) = refl
    same_test (text s) null = refl
    same_test (text s) (text t) = refl
    same_test (text s) (class_object c) = refl
    same_test (text s) (object m d) = refl
    same_test (class_object c) (int m) = refl
    same_test (class_object c) (truth b) = refl
    same_test (class_object c) null = refl
    same_test (class_object c) (text t) = refl
    same_test (class_object c) (class_object d) = rows.same_class c d
    same_test (class_object c) (object m d) = refl
    same_test (object n c) (int m) = refl
    same_test (object n c) (truth b) = refl
    same_test (object n c) null = refl
    same_test (object n c) (text t) = refl
    same_test (object n c) (class_object d) = refl
    same_test (object n c) (object m d) = ap (λ b. nat_eq n m && b) (rows.same_class c d)

    pub operate_rel : (op : Operator) (v w : Value K) → OutRel (ImageOf r) (operate R.same_class op v w) (operate R'.same_class op (value_image r v) (value_image r w))
    operate_rel (arithmetic op) v w = calculate_rel op v w
    operate_rel (comparison op) v w = rw (same_number v, same_number w) refl
    operate_rel equal v w = rw (same_test v w) refl
    operate_rel different v w = rw (same_test v w) refl

    pub class_of_image : (v : Value K) → class_of R' (value_image r v) ≡ option_map r.class (class_of R v)
    class_of_image (int n) = refl
    class_of_image (truth b) = refl
    class_of_image null = refl
    class_of_image (text t) = ap Some rows.text_class
    class_of_image (class_object c) = ap Some rows.class_class
    class_of_image (object n c) = refl

    has_class_image : (c : K.class) (o : Option K.class) → has_class R' (r.class c) (option_map r.class o) ≡ has_class R c o
    has_class_image c None = refl
    has_class_image c (Some d) = rows.is_subclass d c

    pub is_instance_image : (c : K.class) (v : Value K) → is_instance R' (r.class c) (value_image r v) ≡ is_instance R c v
    is_instance_image c v = ap (has_class R' (r.class c)) (class_of_image v) ∙ has_class_image c (class_of R v)

    pub is_new_image : (c : K.class) (v : Value K) → is_new R' (r.class c) (value_image r v) ≡ is_new R c v
    is_new_image c (int n) = refl
    is_new_image c (truth b) = refl
    is_new_image c null = refl
    is_new_image c (text t) = refl
    is_new_image c (class_object d) = refl
    is_new_image c (object n d) = rows.same_class d c

    pub fits_image : (T : Ty K) (v : Value K) → fits R' (type_image r T) (value_image r v) ≡ fits R T v
    fits_image int_type (int z) = refl
    fits_image int_type (truth b) = refl
    fits_image int_type null = refl
    fits_image int_type (text t) = refl
    fits_image int_type (class_object c) = refl
    fits_image int_type (object n c) = refl
    fits_image boolean_type (int z) = refl
    fits_image boolean_type (truth b) = refl
    fits_image boolean_type null = refl
    fits_image boolean_type (text t) = refl
    fits_image boolean_type (class_object c) = refl
    fits_image boolean_type (object n c) = refl
    fits_image (reference c) (int z) = refl
    fits_image (reference c) (truth b) = refl
    fits_image (reference c) null = refl
    fits_image (reference c) (text t) = ap (λ d. R'.is_subclass d (r.class c)) rows.text_class ∙ rows.is_subclass R.text_class c
    fits_image (reference c) (class_object d) = ap (λ d. R'.is_subclass d (r.class c)) rows.class_class ∙ rows.is_subclass R.class_class c
    fits_image (reference c) (object n d) = rows.is_subclass d c

    pub field_fits : (f : K.field) (v : Value K) → fits R' (R'.field_type (r.field f)) (value_image r v) ≡ fits R (R.field_type f) v
    field_fits f v = ap (λ T. fits R' T (value_image r v)) (rows.field_type f) ∙ fits_image (R.field_type f) v
