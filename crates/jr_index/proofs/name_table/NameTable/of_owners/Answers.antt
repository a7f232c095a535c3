use Rattle.std.proofs.Common.{rules, ◌≡◌, ℕ, zero, suc, List, [], ◌∷◌, ◌++◌, ◌+◌, Option, None, length, arith, refl, ap, ◌∙◌, length-append}
use Rattle.std.specs.Prelude.{option_and_then}
use Rattle.std.specs.List.{slice_get}
use Rattle.std.specs.HashMap.{get_by_text}
use Rattle.jr_index.proofs.name_table.NameTable.of_owners.Goals as goal

one_more : {T : Type 0} (f : T → Option ℕ) (xs : List T) (x : T) → f x ≡ None → ((c : ℕ) → option_and_then f (slice_get xs c) ≡ None) → (c : ℕ) → option_and_then f (slice_get (xs ++ x ∷ []) c) ≡ None
one_more f [] x h all zero = h
one_more f [] x h all (suc c) = refl
one_more f (y ∷ xs) x h all zero = all 0
one_more f (y ∷ xs) x h all (suc c) = one_more f xs x h (λ k. all (suc k)) c

none_of : {T : Type 0} (f : T → Option ℕ) (xs : List T) → xs ≡ [] → (c : ℕ) → option_and_then f (slice_get xs c) ≡ None
none_of f xs e c = ap (λ ys. option_and_then f (slice_get ys c)) e

pub loop-init : goal.loop-init
loop-init c = (ap length c.in_ok-by_owner.ensures.items, λ k q. none_of (λ m. get_by_text m q) _ c.in_ok-by_owner.ensures.items k)

pub loop-preserved : goal.loop-preserved
loop-preserved c =
    let items = c.in_ok-push.ensures.items in (
      ap length items ∙ length-append c.loop.by_owner.items (c.new.result ∷ []) ∙ ap (λ n. n + 1) c.loop.invariant.0,
      λ k q. ap (λ ys. option_and_then (λ m. get_by_text m q) (slice_get ys k)) items
          ∙ one_more (λ m. get_by_text m q) c.loop.by_owner.items c.new.result (search rules) (λ j. c.loop.invariant.1 j q) k,
    )

pub returns-clause-owners : goal.returns-clause-owners
returns-clause-owners c = let le = c.loop.auto.counter-end in let ge = c.loop-test.false in let is = c.loop.invariant.0 in omega (arith, le, ge, is)

pub returns-clause-none : goal.returns-clause-none
returns-clause-none c = c.loop.invariant.1
