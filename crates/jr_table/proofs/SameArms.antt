-- Two members, or declarations, of one kind are equal exactly where their keys are.
use Rattle.std.proofs.Common.{◌≡◌, sym, ap, ◌∙◌, Bool}
use Rattle.std.specs.Prelude.{◌↔◌, IsTrue, Decides}
use Rattle.jr_table.specs.Keys.{MethodKey, CtorKey}
use Rattle.jr_table.specs.Decls.{method, constructor, LocalKey, method_decl, constructor_decl, local_decl}

-- what a test answers, where it is known which fact it decides
pub told : {P : Type 0} (result test : Bool) → result ≡ test → Decides test P → (IsTrue result ↔ P)
told result test is decides = (λ t. decides.0 (sym is ∙ t), λ p. is ∙ decides.1 p)

-- f tells its arguments apart, a is f of j, and b is f of k
pub arm : {K D : Type 0} {T : Type 0} (f : K → D) → ((x y : K) → f x ≡ f y → x ≡ y) → (a b : D) (j k : K) → a ≡ f j → b ≡ f k → (T ↔ (j ≡ k)) → (T ↔ (a ≡ b))
arm f one a b j k is-a is-b h = (λ t. is-a ∙ ap f (h.0 t) ∙ sym is-b, λ e. h.1 (one j k (sym is-a ∙ e ∙ is-b)))

pub one_method : (x y : MethodKey) → method x ≡ method y → x ≡ y
one_method x y e = cc

pub one_constructor : (x y : CtorKey) → constructor x ≡ constructor y → x ≡ y
one_constructor x y e = cc

pub one_method_decl : (x y : MethodKey) → method_decl x ≡ method_decl y → x ≡ y
one_method_decl x y e = cc

pub one_constructor_decl : (x y : CtorKey) → constructor_decl x ≡ constructor_decl y → x ≡ y
one_constructor_decl x y e = cc

pub one_local_decl : (x y : LocalKey) → local_decl x ≡ local_decl y → x ≡ y
one_local_decl x y e = cc
