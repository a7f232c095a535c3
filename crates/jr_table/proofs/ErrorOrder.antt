-- The order of errors: one comes before another, or is it, or the other comes before it.
use Rattle.std.proofs.Common.{◌≡◌, ℕ, ◌<◌, List, [], ◌∷◌, Some, true, refl, sym, ap, subst, ◌∙◌, arith, inl, inr, eq-eqb, eqb-true}
use Rattle.std.proofs.lemmas.Bool.{ltb-true, lt-ltb}
use Rattle.std.specs.Prelude.{◌⊎◌, ◌↔◌, nat_lt, ◌==◌, slice_get}
use Rattle.jr_table.specs.Errors.{Error, ComesBefore, rule_rank}
use Rattle.jr_table.specs.ErrorLists.{comes_before, same_error}
use Rattle.jr_table.proofs.TypeTests.{and_iff, or_iff}
use Rattle.jr_table.specs.declared.rules.Rule.{Rule}
use Rattle.jr_table.specs.declared.rules.Rule.TheVariants as rule

-- no two rules have one rank

rule_at : List Rule
rule_at = rule.Deep ∷ rule.NoVariable ∷ rule.NoType ∷ rule.NoMethod ∷ rule.Ambiguous ∷ rule.Private ∷ rule.StaticContext ∷ rule.StaticThroughValue ∷ rule.InstanceThroughType ∷ rule.TypeMismatch ∷ rule.Operands
    ∷ rule.BadCast ∷ rule.FinalAssigned ∷ rule.Redeclared ∷ rule.Forward ∷ rule.VoidValue ∷ rule.ReturnForm ∷ rule.MissingReturn ∷ rule.Unreachable ∷ rule.ConstantCondition ∷ rule.Override ∷ rule.SuperCtor
    ∷ rule.FinalClass ∷ rule.ObjectMethod ∷ rule.Deep ∷ []

rule_of : (r : Rule) → slice_get rule_at (rule_rank r) ≡ Some r
unfolding rule_at
rule_of rule.NoVariable = refl
rule_of rule.NoType = refl
rule_of rule.NoMethod = refl
rule_of rule.Ambiguous = refl
rule_of rule.Private = refl
rule_of rule.StaticContext = refl
rule_of rule.StaticThroughValue = refl
rule_of rule.InstanceThroughType = refl
rule_of rule.TypeMismatch = refl
rule_of rule.Operands = refl
rule_of rule.BadCast = refl
rule_of rule.FinalAssigned = refl
rule_of rule.Redeclared = refl
rule_of rule.Forward = refl
rule_of rule.VoidValue = refl
rule_of rule.ReturnForm = refl
rule_of rule.MissingReturn = refl
rule_of rule.Unreachable = refl
rule_of rule.ConstantCondition = refl
rule_of rule.Override = refl
rule_of rule.SuperCtor = refl
rule_of rule.FinalClass = refl
rule_of rule.ObjectMethod = refl
rule_of rule.Deep = refl

one_rank : (q r : Rule) → rule_rank q ≡ rule_rank r → q ≡ r
one_rank q r e = let s : Some q ≡ Some r = sym (rule_of q) ∙ ap (slice_get rule_at) e ∙ rule_of r in cc

pub rank_small : (r : Rule) → rule_rank r < 32
rank_small rule.NoVariable = omega arith
rank_small _ = omega arith

same_parts : (e f : Error) → e.at ≡ f.at → rule_rank e.rule ≡ rule_rank f.rule → e ≡ f
same_parts e f a r = let q = one_rank e.rule f.rule r in λ i. record { at = a i; rule = q i }

-- the tests

less_iff : (a b : ℕ) → (nat_lt a b ≡ true) ↔ (a < b)
less_iff a b = (λ h. ltb-true a b h, λ h. lt-ltb a b h)

equal_iff : (a b : ℕ) → ((a == b) ≡ true) ↔ (a ≡ b)
equal_iff a b = (λ h. eqb-true a b h, λ h. eq-eqb a b h)

pub before_iff : (e f : Error) → (comes_before e f ≡ true) ↔ ComesBefore e f
before_iff e f = or_iff (nat_lt e.at f.at) _ (e.at < f.at) _ (less_iff e.at f.at)
    (and_iff (e.at == f.at) (nat_lt (rule_rank e.rule) (rule_rank f.rule)) (e.at ≡ f.at) (rule_rank e.rule < rule_rank f.rule) (equal_iff e.at f.at) (less_iff (rule_rank e.rule) (rule_rank f.rule)))

pub same_iff : (e f : Error) → (same_error e f ≡ true) ↔ (e ≡ f)
same_iff e f = (λ h. let p = parts.0 h in same_parts e f p.0 p.1, λ i. parts.1 (ap (λ (x : Error). x.at) i, ap (λ (x : Error). rule_rank x.rule) i))
  where
    parts : (same_error e f ≡ true) ↔ ((e.at ≡ f.at) × (rule_rank e.rule ≡ rule_rank f.rule))
    parts = and_iff (e.at == f.at) (rule_rank e.rule == rule_rank f.rule) (e.at ≡ f.at) (rule_rank e.rule ≡ rule_rank f.rule) (equal_iff e.at f.at) (equal_iff (rule_rank e.rule) (rule_rank f.rule))

-- the order

pub before_trans : (e f g : Error) → ComesBefore e f → ComesBefore f g → ComesBefore e g
before_trans e f g (inl a) (inl b) = inl (omega (arith, a, b))
before_trans e f g (inl a) (inr b) = let x = b.0 in inl (omega (arith, a, x))
before_trans e f g (inr a) (inl b) = let x = a.0 in inl (omega (arith, x, b))
before_trans e f g (inr a) (inr b) = let x = a.1 in let y = b.1 in inr (a.0 ∙ b.0, omega (arith, x, y))

pub not_before : (e : Error) → ComesBefore e e → ⊥
not_before e (inl a) = omega (arith, a)
not_before e (inr a) = let x = a.1 in omega (arith, x)

-- one is before another, or is it
abbrev pub IsUpTo : Error → Error → Type 0
IsUpTo e f = (e ≡ f) ⊎ ComesBefore e f

pub up_to_trans : (e f g : Error) → IsUpTo e f → IsUpTo f g → IsUpTo e g
up_to_trans e f g (inl a) h = subst (λ x. IsUpTo x g) (sym a) h
up_to_trans e f g (inr a) (inl b) = inr (subst (ComesBefore e) b a)
up_to_trans e f g (inr a) (inr b) = inr (before_trans e f g a b)

pub before_up_to : (e f g : Error) → ComesBefore e f → IsUpTo f g → ComesBefore e g
before_up_to e f g a (inl b) = subst (ComesBefore e) b a
before_up_to e f g a (inr b) = before_trans e f g a b

-- where one isn't before another, the other is up to it
pub up_to_not : (e f : Error) → (ComesBefore f e → ⊥) → IsUpTo e f
up_to_not e f none = by (order e.at f.at) (order (rule_rank e.rule) (rule_rank f.rule))
  where
    order : (a b : ℕ) → ((a < b) ⊎ (b < a)) ⊎ (a ≡ b)
    order a b = grind arith

    by : (((e.at < f.at) ⊎ (f.at < e.at)) ⊎ (e.at ≡ f.at)) → (((rule_rank e.rule < rule_rank f.rule) ⊎ (rule_rank f.rule < rule_rank e.rule)) ⊎ (rule_rank e.rule ≡ rule_rank f.rule)) → IsUpTo e f
    by (inl (inl a)) r = inr (inl a)
    by (inl (inr a)) r = absurd (none (inl a))
    by (inr a) (inl (inl r)) = inr (inr (a, r))
    by (inr a) (inl (inr r)) = absurd (none (inr (sym a, r)))
    by (inr a) (inr r) = inl (same_parts e f a r)
