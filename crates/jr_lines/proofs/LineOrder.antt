-- A sort by number, and of neighbours with one number the first, make lines that stand in order.
use Rattle.std.proofs.Common.{◌≡◌, ℕ, zero, suc, ◌+◌, ◌*◌, ◌<◌, ◌≤◌, List, [], ◌∷◌, map, length, Bool, true, false, refl, sym, ap, subst, ◌∙◌, arith, inl, inr}
use Rattle.std.specs.Prelude.{◌⊎◌, ◌↔◌, ◌==◌, slice_get, Some}
use Rattle.std.specs.List.{Contains, Any, dedup, AllByRecursion}
use Rattle.std.specs.List.Sorted.{IsPermutation, IsSorted, IsNonDecreasingBy, IsStrictlySortedBy}
use Rattle.std.specs.Ordering.{nat_cmp, eq_by_cmp, is_lt, on, MatchOrdering}
use Rattle.std.specs.declared.cmp.Ordering.{Ordering}
use Rattle.std.specs.declared.cmp.Ordering.TheVariants.{Less, Equal, Greater}
use Rattle.std.specs.Cmp.{IsTotalOrder, unsigned_tied, ranks}
use Rattle.std.proofs.lemmas.Bool.{ltb-true, ltb-false}
use Rattle.std.proofs.Common.{eqb-true}
use Rattle.std.proofs.lemmas.Cmp.{on_total, nat_cmp_total, eq_by_cmp_equiv}
use Rattle.std.proofs.lemmas.List.Sorted.{Contains-permutation, IsPermutation-sym}
use Rattle.std.proofs.lemmas.List.Kept.{Contains-from_dedup, Any-dedup, IsStrictlySortedBy-dedup}
use Rattle.jr_table.specs.Errors.{rule_rank}
use Rattle.jr_table.specs.declared.rules.Rule.{Rule}
use Rattle.jr_table.specs.declared.rules.Rule.TheVariants as rule
use Rattle.jr_program.proofs.Comparing.{less, equal, greater, not_less}
use Rattle.jr_lines.specs.declared.lines.Line as raw
use Rattle.jr_lines.specs.Lines.{Line, reference, broken, line_at, line_rank, ComesBefore, AreInOrder, Among, AreLines, order_number, AreApart}
use Rattle.jr_lines.specs.LineView.{line_of, lines_of}

-- ---- the number

rule_small : (r : Rule) → rule_rank r < 32
rule_small rule.NoVariable = omega arith
rule_small _ = omega arith

-- no two rules have one rank, and none has that of a reference

rule_list : List Rule
rule_list = rule.Deep ∷ rule.NoVariable ∷ rule.NoType ∷ rule.NoMethod ∷ rule.Ambiguous ∷ rule.Private ∷ rule.StaticContext ∷ rule.StaticThroughValue ∷ rule.InstanceThroughType ∷ rule.TypeMismatch ∷ rule.Operands
    ∷ rule.BadCast ∷ rule.FinalAssigned ∷ rule.Redeclared ∷ rule.Forward ∷ rule.VoidValue ∷ rule.ReturnForm ∷ rule.MissingReturn ∷ rule.Unreachable ∷ rule.ConstantCondition ∷ rule.Override ∷ rule.SuperCtor
    ∷ rule.FinalClass ∷ rule.ObjectMethod ∷ rule.Deep ∷ []

rule_ranked : (r : Rule) → slice_get rule_list (rule_rank r) ≡ Some r
unfolding rule_list
rule_ranked rule.NoVariable = refl
rule_ranked rule.NoType = refl
rule_ranked rule.NoMethod = refl
rule_ranked rule.Ambiguous = refl
rule_ranked rule.Private = refl
rule_ranked rule.StaticContext = refl
rule_ranked rule.StaticThroughValue = refl
rule_ranked rule.InstanceThroughType = refl
rule_ranked rule.TypeMismatch = refl
rule_ranked rule.Operands = refl
rule_ranked rule.BadCast = refl
rule_ranked rule.FinalAssigned = refl
rule_ranked rule.Redeclared = refl
rule_ranked rule.Forward = refl
rule_ranked rule.VoidValue = refl
rule_ranked rule.ReturnForm = refl
rule_ranked rule.MissingReturn = refl
rule_ranked rule.Unreachable = refl
rule_ranked rule.ConstantCondition = refl
rule_ranked rule.Override = refl
rule_ranked rule.SuperCtor = refl
rule_ranked rule.FinalClass = refl
rule_ranked rule.ObjectMethod = refl
rule_ranked rule.Deep = refl

pub one_rule : (q r : Rule) → rule_rank q ≡ rule_rank r → q ≡ r
one_rule q r e = let s : Some q ≡ Some r = sym (rule_ranked q) ∙ ap (slice_get rule_list) e ∙ rule_ranked r in cc

pub rule_some : (r : Rule) → rule_rank r ≡ 0 → ⊥
rule_some rule.NoVariable e = omega (arith, e)
rule_some _ e = omega (arith, e)

rank_small : (l : Line) → line_rank l < 32
rank_small (reference at name decl) = omega arith
rank_small (broken at of) = rule_small of

number_before : (l m : Line) → order_number l < order_number m → ComesBefore l m
number_before l m lt = by (order (line_at l) (line_at m))
  where
    order : (a b : ℕ) → ((a < b) ⊎ (b < a)) ⊎ (a ≡ b)
    order a b = grind arith

    by : (((line_at l < line_at m) ⊎ (line_at m < line_at l)) ⊎ (line_at l ≡ line_at m)) → ComesBefore l m
    by (inl (inl a)) = inl a
    by (inl (inr a)) = let r = rank_small l in let s = rank_small m in absurd (omega (arith, lt, a, r, s))
    by (inr a) = inr (a, omega (arith, lt, a))

number_same : (l m : Line) → order_number l ≡ order_number m → (line_at l ≡ line_at m) × (line_rank l ≡ line_rank m)
number_same l m e =
    let r = rank_small l in
    let s = rank_small m in
    let a : line_at l ≡ line_at m = omega (arith, e, r, s) in
    (a, omega (arith, e, a))

-- ---- lines as they are kept

abbrev pub number : raw.Line → ℕ
number x = order_number (line_of x)

abbrev pub by_number : raw.Line → raw.Line → Ordering
by_number = on number nat_cmp

abbrev pub same : raw.Line → raw.Line → Bool
same = eq_by_cmp by_number

total : IsTotalOrder by_number
total = on_total number nat_cmp_total

same_number : (x y : raw.Line) → same x y ≡ true → number x ≡ number y
same_number x y h = eqb-true (number x) (number y) (sym (unsigned_tied (number x) (number y)) ∙ h)

strictly : (xs : List raw.Line) → IsStrictlySortedBy by_number xs → AreInOrder (lines_of xs)
unfolding IsStrictlySortedBy
strictly [] h = tt
strictly (x ∷ []) h = tt
strictly (x ∷ y ∷ xs) h = (number_before (line_of x) (line_of y) (less (number x) (number y) h.0.0), strictly (y ∷ xs) h.1)

rising : (xs : List raw.Line) → IsNonDecreasingBy number xs → IsSorted by_number xs
rising xs h = λ k d low high. not_less _ _ (h k (k + 1) d (omega arith) (omega (arith, high)))

-- a line is among those that are kept where one of them is seen as it
among : (xs : List raw.Line) (x : raw.Line) → Contains xs x → Among (lines_of xs) (line_of x)
among [] x (k, lt, is) = absurd (omega (arith, lt))
among (y ∷ ys) x (zero, lt, is) = inl (ap line_of is)
among (y ∷ ys) x (suc k, lt, is) = inr (among ys x (k, omega (arith, lt), is))

kept : (xs : List raw.Line) (l : Line) → Among (lines_of xs) l → (x : raw.Line) × Contains xs x × (line_of x ≡ l)
kept [] l h = absurd h
kept (x ∷ xs) l (inl e) = (x, (0, omega arith, refl), e)
kept (x ∷ xs) l (inr h) =
    let more = kept xs l h in
    let lt = more.1.1 in
    (more.0, (suc more.1.0, omega (arith, lt), more.1.2), more.2)

module _ (xs ys zs : List raw.Line) (apart : AreApart (lines_of xs)) (moved : IsPermutation xs ys) (sorted : IsNonDecreasingBy number ys) (once : zs ≡ dedup same ys) where
  forth : (l : Line) → Among (lines_of zs) l → Among (lines_of xs) l
  forth l h =
      let some = kept zs l h in
      let there : Contains ys some.0 = Contains-from_dedup same ys some.0 (subst (λ (v : List raw.Line). Contains v some.0) once some.1) in
      let first : Contains xs some.0 = Contains-permutation ys xs some.0 (IsPermutation-sym xs ys moved) there in
      subst (Among (lines_of xs)) some.2 (among xs some.0 first)

  back : (l : Line) → Among (lines_of xs) l → Among (lines_of zs) l
  back l h =
      let some = kept xs l h in
      let there : Contains ys some.0 = Contains-permutation xs ys some.0 moved some.1 in
      let found : Any (λ y. same some.0 y ≡ true) (dedup same ys) = Any-dedup (eq_by_cmp_equiv total) ys some.0 there in
      let y = found.1 in
      let left : Contains zs y = subst (λ (v : List raw.Line). Contains v y) (sym once) (found.0, found.2, found.3) in
      let one = number_same (line_of some.0) (line_of y) (same_number some.0 y found.4) in
      let is : line_of some.0 ≡ line_of y = apart (line_of some.0) (line_of y) (subst (Among (lines_of xs)) (sym some.2) h) (forth (line_of y) (among zs y left)) one.0 one.1 in
      subst (Among (lines_of zs)) (sym is ∙ some.2) (among zs y left)

  pub are_lines : AreLines (Among (lines_of xs)) (lines_of zs)
  are_lines = record {
    in_order = strictly zs (subst (IsStrictlySortedBy by_number) (sym once) (IsStrictlySortedBy-dedup total (λ x y. refl) ys (rising ys sorted)));
    exact = λ l. (forth l, back l);
  }
