-- The first of what is broken, as more is looked at.
use Rattle.std.proofs.Common.{◌≡◌, ℕ, ◌+◌, ◌<◌, ◌≤◌, List, [], ◌∷◌, ◌++◌, length, take, get_or, map, refl, sym, ap, subst, ◌∙◌, arith, inl, inr}
use Rattle.std.specs.Prelude.{◌⊎◌, ◌↔◌, Option, Some, None}
use Rattle.std.proofs.lemmas.Bool.{cases_lt, cases_order}
use Rattle.jr_table.specs.declared.rules.Rule.{Rule}
use Rattle.jr_table.specs.Errors.{Error, rule_rank, Among}
use Rattle.jr_bind.specs.declared.errors.BindError as raw
use Rattle.jr_bind.specs.ErrorView.{error_of}
use Rattle.jr_program.specs.declared.bounds.MemberBound.{MemberBound}
use Rattle.jr_program.specs.Members.{AnyOf, MemberErrs}
use Rattle.jr_program.proofs.Membership.{chain, both, flip, none, regroup, any_push, any_more_at, any_end, any_map}
use Rattle.jr_sources.specs.declared.broken.Broken.{Broken}
use Rattle.jr_sources.specs.BindingErrors.{IsNoLater}
use Rattle.jr_sources.specs.Broken.{SomeErrs, IsOneOf, IsFirstOfAll, IsNearer}

-- ---- the order

abbrev Before : Broken → Broken → Type 0
Before b c = IsNoLater b.file b.at b.rule c.file c.at c.rule

itself : (b : Broken) → Before b b
itself b = inr (refl, inr (refl, omega arith))

pub no_later_then : (f a : ℕ) (r : Rule) (g b : ℕ) (q : Rule) (h d : ℕ) (p : Rule) → IsNoLater f a r g b q → IsNoLater g b q h d p → IsNoLater f a r h d p
no_later_then f a r g b q h d p (inl x) (inl y) = inl (omega (arith, x, y))
no_later_then f a r g b q h d p (inl x) (inr y) = let e = y.0 in inl (omega (arith, x, e))
no_later_then f a r g b q h d p (inr x) (inl y) = let e = x.0 in inl (omega (arith, e, y))
no_later_then f a r g b q h d p (inr x) (inr y) = inr (x.0 ∙ y.0, by x.1 y.1)
  where
    by : ((a < b) ⊎ ((a ≡ b) × (rule_rank r ≤ rule_rank q))) → ((b < d) ⊎ ((b ≡ d) × (rule_rank q ≤ rule_rank p))) → (a < d) ⊎ ((a ≡ d) × (rule_rank r ≤ rule_rank p))
    by (inl u) (inl v) = inl (omega (arith, u, v))
    by (inl u) (inr v) = let e = v.0 in inl (omega (arith, u, e))
    by (inr u) (inl v) = let e = u.0 in inl (omega (arith, e, v))
    by (inr u) (inr v) = let m = u.1 in let n = v.1 in inr (u.0 ∙ v.0, omega (arith, m, n))

-- of two one is no later
the_other : (f a : ℕ) (r : Rule) (g b : ℕ) (q : Rule) → (IsNoLater f a r g b q → ⊥) → IsNoLater g b q f a r
the_other f a r g b q never = by (cases_order f g)
  where
    by_rank : f ≡ g → a ≡ b → (rule_rank r < rule_rank q) ⊎ (rule_rank q ≤ rule_rank r) → IsNoLater g b q f a r
    by_rank e i (inl l) = absurd (never (inr (e, inr (i, omega (arith, l)))))
    by_rank e i (inr l) = inr (sym e, inr (sym i, l))

    by_place : f ≡ g → (a ≡ b) ⊎ ((a < b) ⊎ (b < a)) → IsNoLater g b q f a r
    by_place e (inl i) = by_rank e i (cases_lt (rule_rank r) (rule_rank q))
    by_place e (inr (inl l)) = absurd (never (inr (e, inl l)))
    by_place e (inr (inr l)) = inr (sym e, inl l)

    by : (f ≡ g) ⊎ ((f < g) ⊎ (g < f)) → IsNoLater g b q f a r
    by (inl e) = by_place e (cases_order a b)
    by (inr (inl l)) = absurd (never (inl l))
    by (inr (inr l)) = inl l

-- ---- the nearer one

pub alone : (next : Broken) → IsNearer None next next
alone next = record { one = inl refl; next_no_later = itself next; best_no_later = λ c e. absurd cc }

pub stays : (best next : Broken) → Before best next → IsNearer (Some best) next best
stays best next h = record {
  one = inr refl;
  next_no_later = h;
  best_no_later = λ c e. let is : best ≡ c = cc in subst (Before best) is (itself best);
}

pub gives_way : (best next : Broken) → (Before best next → ⊥) → IsNearer (Some best) next next
gives_way best next h = record {
  one = inl refl;
  next_no_later = itself next;
  best_no_later = λ c e. let is : best ≡ c = cc in subst (Before next) is (the_other best.file best.at best.rule next.file next.at next.rule h);
}

-- ---- with one more

abbrev pub Is : Broken → (file at : ℕ) → Rule → Type 0
Is next f a r = (next.file ≡ f) × (next.at ≡ a) × (next.rule ≡ r)

module _ (Has New : (file at : ℕ) → Rule → Type 0) (next b : Broken) (each : (f a : ℕ) (r : Rule) → New f a r ↔ (Has f a r ⊎ Is next f a r)) where
  its : b ≡ next → New b.file b.at b.rule
  its e = (each b.file b.at b.rule).1 (inr (ap (λ (x : Broken). x.file) (sym e), ap (λ (x : Broken). x.at) (sym e), ap (λ (x : Broken). x.rule) (sym e)))

  before_next : Before b next → (f a : ℕ) (r : Rule) → Is next f a r → IsNoLater b.file b.at b.rule f a r
  before_next h f a r is =
      subst (λ (q : Rule). IsNoLater b.file b.at b.rule f a q) is.2
      (subst (λ (n : ℕ). IsNoLater b.file b.at b.rule f n next.rule) is.1 (subst (λ (n : ℕ). IsNoLater b.file b.at b.rule n next.at next.rule) is.0 h))

  pub with_next : (best : Option Broken) → IsNearer best next b → IsFirstOfAll Has best → IsFirstOfAll New (Some b)
  with_next None near nothing = record { has = has near.one; first = λ f a r h. by f a r ((each f a r).0 h) }
    where
      has : (b ≡ next) ⊎ (None ≡ Some b) → New b.file b.at b.rule
      has (inl e) = its e
      has (inr e) = absurd cc

      by : (f a : ℕ) (r : Rule) → (Has f a r ⊎ Is next f a r) → IsNoLater b.file b.at b.rule f a r
      by f a r (inl h) = absurd (nothing f a r h)
      by f a r (inr is) = before_next near.next_no_later f a r is
  with_next (Some c) near is = record { has = has near.one; first = λ f a r h. by f a r ((each f a r).0 h) }
    where
      has : (b ≡ next) ⊎ (Some c ≡ Some b) → New b.file b.at b.rule
      has (inl e) = its e
      has (inr e) =
          let same : c ≡ b = cc in
          (each b.file b.at b.rule).1 (inl (subst (λ (x : Broken). Has x.file x.at x.rule) same is.has))

      by : (f a : ℕ) (r : Rule) → (Has f a r ⊎ Is next f a r) → IsNoLater b.file b.at b.rule f a r
      by f a r (inl h) = no_later_then b.file b.at b.rule c.file c.at c.rule f a r (near.best_no_later c refl) (is.first f a r h)
      by f a r (inr i) = before_next near.next_no_later f a r i

-- the same property, told otherwise
pub told_as : (Has New : (file at : ℕ) → Rule → Type 0) (best : Option Broken) → ((f a : ℕ) (r : Rule) → Has f a r ↔ New f a r) → IsFirstOfAll Has best → IsFirstOfAll New best
told_as Has New None each h = λ f a r n. h f a r ((each f a r).1 n)
told_as Has New (Some b) each h = record { has = (each b.file b.at b.rule).0 h.has; first = λ f a r n. h.first f a r ((each f a r).1 n) }

-- ---- the errors of a member are those that it has

pub member_errs : (b : MemberBound) (f a : ℕ) (r : Rule) → IsOneOf b.file b.start b.bound.errors f a r ↔ MemberErrs f a r b
member_errs b f a r = (to b.bound.errors, λ h. back b.bound.errors h.0 h.1.0 h.1.1 h.1.2 h.1.3)
  where
    to : (es : List Error) → IsOneOf b.file b.start es f a r → (b.file ≡ f) × ((e : Error) × (a ≡ b.start + e.at) × (r ≡ e.rule) × Among es e)
    to [] h = absurd h
    to (e ∷ es) (inl h) = (h.0, (e, h.1, h.2, inl refl))
    to (e ∷ es) (inr h) = let m = to es h in (m.0, (m.1.0, m.1.1, m.1.2, inr m.1.3))

    back : (es : List Error) → b.file ≡ f → (e : Error) → a ≡ b.start + e.at → r ≡ e.rule → Among es e → IsOneOf b.file b.start es f a r
    back [] p e q s m = absurd m
    back (x ∷ es) p e q s (inl m) = inl (p, q ∙ ap (λ (y : Error). b.start + y.at) (sym m), s ∙ ap (λ (y : Error). y.rule) (sym m))
    back (x ∷ es) p e q s (inr m) = inr (back es p e q s m)

-- those of the members up to here, and of one more
pub one_more : (front : List MemberBound) (b : MemberBound) (f a : ℕ) (r : Rule) → (SomeErrs front f a r ⊎ IsOneOf b.file b.start b.bound.errors f a r) ↔ SomeErrs (front ++ b ∷ []) f a r
one_more front b f a r = chain (both (λ h. h, λ h. h) (member_errs b f a r)) (flip (any_push (MemberErrs f a r) front b))

-- ---- one error after the other

abbrev pub OfError : (number start : ℕ) → (f a : ℕ) → Rule → raw.BindError → Type 0
OfError number start f a r e = (number ≡ f) × (a ≡ start + (error_of e).at) × (r ≡ (error_of e).rule)

-- what is known of the members in front, and of the first errors of one more
abbrev pub UpTo : List MemberBound → MemberBound → List raw.BindError → (i : ℕ) → (f a : ℕ) → Rule → Type 0
UpTo front b es i f a r = SomeErrs front f a r ⊎ AnyOf (OfError b.file b.start f a r) (take i es)

is_next : (b : MemberBound) (e : raw.BindError) (next : Broken) → next.file ≡ b.file → next.at ≡ b.start + (error_of e).at → next.rule ≡ (error_of e).rule → (f a : ℕ) (r : Rule) → OfError b.file b.start f a r e ↔ Is next f a r
is_next b e next p q s f a r = (λ h. (p ∙ h.0, q ∙ sym h.1, s ∙ sym h.2), λ h. (sym p ∙ h.0, sym h.1 ∙ q, sym h.2 ∙ s))

pub more_errors : (front : List MemberBound) (b : MemberBound) (es : List raw.BindError) (i : ℕ) (d : raw.BindError) (next : Broken) → i < length es → next.file ≡ b.file → next.at ≡ b.start + (error_of (get_or es i d)).at → next.rule ≡ (error_of (get_or es i d)).rule
    → (f a : ℕ) (r : Rule) → UpTo front b es (i + 1) f a r ↔ (UpTo front b es i f a r ⊎ Is next f a r)
more_errors front b es i d next lt p q s f a r =
    chain (both (λ h. h, λ h. h) (any_more_at (OfError b.file b.start f a r) es i d lt))
    (chain (flip regroup) (both (λ h. h, λ h. h) (is_next b (get_or es i d) next p q s f a r)))

pub no_errors : (front : List MemberBound) (b : MemberBound) (es : List raw.BindError) (f a : ℕ) (r : Rule) → SomeErrs front f a r ↔ UpTo front b es 0 f a r
no_errors front b es f a r = none (λ h. h)

pub all_errors : (front : List MemberBound) (b : MemberBound) (es : List raw.BindError) (i : ℕ) → length es ≤ i → (f a : ℕ) (r : Rule) → UpTo front b es i f a r ↔ (SomeErrs front f a r ⊎ IsOneOf b.file b.start (map error_of es) f a r)
all_errors front b es i le f a r =
    both (λ h. h, λ h. h)
    (chain (any_end (OfError b.file b.start f a r) es i le) (flip (any_map error_of (λ (e : Error). (b.file ≡ f) × (a ≡ b.start + e.at) × (r ≡ e.rule)) es)))
