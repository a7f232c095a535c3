-- Which expressions are never null: by the rules, and by cases on them.
use Rattle.std.proofs.Common.{◌≡◌, ◌<◌, ℕ, true, false, [], Option, Some, None, refl, sym, ap, subst, arith}
use Rattle.jr_ast.specs.Tree as tree
use Rattle.jr_cover.specs.Facts.{Variable, is_local, is_static_field, is_instance_field}
use Rattle.jr_cover.specs.NeverNullTrees.{NamesLocal, this, create, string, class_literal, paren, local}
use Rattle.jr_cover_cases.specs.Samples.{K, facts, name, dot, word, class_type}
use Rattle.jr_cover_cases.specs.NeverNullCases.{init, is_assigned, Never, NeverNullCases}

number_of : Option (Variable K) → ℕ
number_of None = 0
number_of (Some (is_local n)) = n
number_of (Some (is_static_field f)) = 0
number_of (Some (is_instance_field f)) = 0

abbrev meaning : ℕ → Option (Variable K)
meaning n = Some (is_local n)

one_number : (m n : ℕ) → meaning m ≡ meaning n → m ≡ n
unfolding number_of
one_number m n e = ap (λ v. number_of v) e

some_is : {T : Type 0} (x y : T) → Some x ≡ Some y → x ≡ y
some_is x y q = cc

first_local : Never (name 1)
first_local = local 1 _ 1 (tree.this 51) refl refl refl (λ m i. absurd i) (this 51)

second_local : Never (name 2)
second_local = local 2 _ 2 (tree.paren 52 (name 1)) refl refl refl (λ m i. let e = one_number 1 m i in omega (arith, e)) (paren 52 (name 1) first_local)

no_init : {B : Type 0} (e : tree.Exp ℕ) → None ≡ Some e → B
no_init e i = absurd (apart e i)
  where
    apart : {T : Type 0} (t : T) → None ≡ Some t → ⊥
    apart t j = cc

no_parameter : Never (name 0) → ⊥
no_parameter (local a w n e v i j k h) = no_init e (subst (λ m. init m ≡ Some e) (sym (one_number 0 n v)) j)

no_assigned : Never (name 3) → ⊥
no_assigned (local a w n e v i j k h) = true_is_not_false (subst (λ m. is_assigned m ≡ false) (sym (one_number 3 n v)) i)
  where
    true_is_not_false : true ≡ false → ⊥
    true_is_not_false e = cc

no_higher : Never (name 4) → ⊥
no_higher (local a w n e v i j k h) =
    let d : 4 ≡ n = one_number 4 n v in
    let f : name 5 ≡ e = some_is (name 5) e (subst (λ m. init m ≡ Some e) (sym d) j) in
    let g : 5 < n = k 5 (subst (λ x. NamesLocal facts x 5) f refl) in
    omega (arith, d, g)

no_copy : Never (name 6) → ⊥
no_copy (local a w n e v i j k h) =
    let d : 6 ≡ n = one_number 6 n v in
    let f : name 0 ≡ e = some_is (name 0) e (subst (λ m. init m ≡ Some e) (sym d) j) in
    no_parameter (subst (λ x. Never x) (sym f) h)

no_field : (e : tree.Exp ℕ) → Never (dot e 24) → ⊥
no_field e h = elim h [ ]

no_null : Never (tree.null 51) → ⊥
no_null h = elim h [ ]

no_call : Never (tree.call 50 tree.no_target (word 80) tree.end) → ⊥
no_call h = elim h [ ]

pub never_null_cases : NeverNullCases
never_null_cases = record {
  of_this = this 51;
  of_new = create 53 class_type tree.end;
  of_string = string 53 [];
  of_class_literal = class_literal 53 class_type;
  in_parentheses = paren 60 (tree.create 53 class_type tree.end) (create 53 class_type tree.end);
  local_with_this = first_local;
  local_in_parentheses = paren 60 (name 1) first_local;
  local_with_a_lower_local = second_local;
  no_parameter = no_parameter;
  no_assigned_local = no_assigned;
  no_local_with_a_higher_local = no_higher;
  no_local_with_a_parameter = no_copy;
  no_field = no_field (tree.this 51);
  no_null = no_null;
  no_call = no_call;
}
