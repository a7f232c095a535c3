-- What inline local finds in two programs of the same files is one, and it is refused alike.
use Rattle.std.proofs.Common.{◌≡◌, inl, inr, ℕ, List, refl, sym, ◌∙◌, subst}
use Rattle.std.specs.Prelude.{◌⊎◌}
use Rattle.jr_text.specs.declared.spans.Span.{Span}
use Rattle.jr_table.specs.Decls.{MemberKey, LocalKey}
use Rattle.jr_names.specs.Refusals.{Refusal}
use Rattle.jr_bind.specs.Bounds.{Bound}
use Rattle.jr_bind.specs.Programs.{Program}
use Rattle.jr_cursor.specs.TargetLaws.{OneIsTarget}
use Rattle.jr_local_search.specs.DeclarationLaws.{WaysAreDeclared}
use Rattle.jr_local.specs.Inlining.{Declared, Naming, IsOnly, MayMove, Asked, IsPlain, IsUsedOtherwise, IsBarred, MeetsReturn, IsAssigned, RefusesInline}
use Rattle.jr_local.specs.Crossing.{DoesReadAlone}
use Rattle.jr_local.specs.Inlined.{Found}
use Rattle.jr_one_plans.proofs.Beside.{beside, IsWhole}
use Rattle.jr_local_plans.proofs.Frames.{with_bound, Placed}
use Rattle.jr_local_plans.proofs.BodiesOnce.{Laws}
use Rattle.jr_local_plans.proofs.SameSites.{reads_there}
use Rattle.jr_local_plans.proofs.NamedOnce.{by_byte}
use Rattle.jr_local_plans.proofs.DeclaredOnce.{place_of, bounds_alike, one_place, asked_there, one_key}
use Rattle.jr_local_plans.proofs.NamingsAt.{Spot, Named, OnlyAt, MayMoveAt, Why, LetGo, OneAtByte, one_why, no_why, why_to, go_to}

-- ---- one program

module _ {p : Program Span} {file : ℕ} {k : LocalKey} (x : Declared p file k) where
  abbrev pub spot_of : Spot
  spot_of = record { place = place_of x; key = k }

  abbrev pub named_of : Naming x → Named p.rows spot_of
  named_of n = record { at = n.at; way = n.way; mark = n.names.mark; word = n.names.word; is = n.names.is; bound = n.names.bound }

  abbrev pub naming_of : Named p.rows spot_of → Naming x
  naming_of n = record { at = n.at; way = n.way; names = record { mark = n.mark; word = n.word; is = n.is; bound = n.bound } }

  only_at : (n : Naming x) → IsOnly x n → OnlyAt p.rows spot_of (named_of n)
  only_at n o = (o.0, λ m r. o.1 (naming_of m) r)

  at_only : (n : Named p.rows spot_of) → OnlyAt p.rows spot_of n → IsOnly x (naming_of n)
  at_only n o = (o.0, λ m r. o.1 (named_of m) r)

  pub one_at_byte : Laws → IsWhole p → OneAtByte p.rows spot_of
  one_at_byte laws is n m same = by_byte laws p is file x.body x.has x.declares.way n.way m.way n.mark m.mark n.word m.word n.is m.is same

module _ (p : Program Span) (file at : ℕ) where
  abbrev pub spot : Asked p file at → Spot
  spot x = spot_of x.declared

  may_at : (x : Asked p file at) → MayMove p file at x → MayMoveAt p.rows (spot x) (IsPlain p file at x)
  may_at x (inl plain) = inl plain
  may_at x (inr m) = inr (m.0, (named_of x.declared m.1, only_at x.declared m.1 m.2, m.3, m.4))

  -- the local that is asked for, and why it stays
  abbrev pub Because : Refusal → Type 0
  Because r = (x : Asked p file at) × Why p.rows (spot x) file at (IsPlain p file at x) r

  pub because : (r : Refusal) → IsUsedOtherwise p file at r ⊎ (IsBarred p file at r ⊎ (MeetsReturn p file at r ⊎ IsAssigned p file at r)) → Because r
  because r (inl u) = (u.0, inl (u.1, λ n o. u.2 (naming_of u.0.declared n) (at_only u.0.declared n o), u.3))
  because r (inr (inl u)) = (u.0, inr (inl (u.1, u.4, (named_of u.0.declared u.2, only_at u.0.declared u.2 u.3, u.5), u.6)))
  because r (inr (inr (inl u))) = (u.0, inr (inr (inl (u.1, u.5, (named_of u.0.declared u.2, only_at u.0.declared u.2 u.3, u.4, u.6), u.7))))
  because r (inr (inr (inr u))) =
      (u.0, inr (inr (inr (may_at u.0 u.1, _, (named_of u.0.declared u.2, u.3.0, λ o t. u.3.1 (naming_of u.0.declared o) t, refl), u.4))))

  pub let_go : (f : Found p file at) → LetGo p.rows (spot f.asked) (IsPlain p file at f.asked)
  let_go f = (may_at f.asked f.let_go.may_move, λ n t. f.let_go.never_assigned (naming_of f.asked.declared n) t)

-- ---- two programs

module _ (laws : Laws) (declared : WaysAreDeclared) (targets : OneIsTarget) (p : Program Span) (s : MemberKey → ℕ) (bs : List Bound) (is : IsWhole p) (also : IsWhole (beside p s bs)) (file at : ℕ) where
  abbrev q : Program Span
  q = beside p s bs

  pub there : Asked p file at → Asked q file at
  there x = asked_there laws declared targets p s bs is also file at x

  pub here : Asked q file at → Asked p file at
  here y = asked_there laws declared targets q p.super_at p.bounds also is file at y

  module _ (x : Asked p file at) (y : Asked q file at) where
    pub same_key : x.key ≡ y.key
    same_key = one_key laws declared targets p s bs is also file at x y

    pub same_place : place_of x.declared ≡ place_of y.declared
    same_place = one_place laws declared p s bs is also file x.key y.key same_key x.declared y.declared

    pub same_spot : spot p file at x ≡ spot q file at y
    same_spot = λ i. record { place = same_place i; key = same_key i }

    abbrev PlainAt : Placed → Type 0
    PlainAt c = DoesReadAlone q file (with_bound c.frame y.declared.body.bound) c.value

    pub plain_there : IsPlain p file at x → IsPlain q file at y
    plain_there h = subst PlainAt same_place (reads_there p s bs x.declared.body y.declared.body.bound (bounds_alike laws declared p s bs is also file x.key y.key same_key x.declared y.declared) file x.declared.init h)

module _ (laws : Laws) (declared : WaysAreDeclared) (targets : OneIsTarget) (p : Program Span) (s : MemberKey → ℕ) (bs : List Bound) (is : IsWhole p) (also : IsWhole (beside p s bs)) (file at : ℕ) where
  abbrev r : Program Span
  r = beside p s bs

  module _ (x : Asked p file at) (y : Asked r file at) where
    plain_to : IsPlain p file at x → IsPlain r file at y
    plain_to = plain_there laws declared targets p s bs is also file at x y

    plain_back : IsPlain r file at y → IsPlain p file at x
    plain_back = plain_there laws declared targets r p.super_at p.bounds also is file at y x

    same : spot p file at x ≡ spot r file at y
    same = same_spot laws declared targets p s bs is also file at x y

    -- of the other program, here
    why_back : (t : Refusal) → Why p.rows (spot r file at y) file at (IsPlain r file at y) t → Why p.rows (spot p file at x) file at (IsPlain p file at x) t
    why_back t w = why_to p.rows (spot p file at x) (IsPlain r file at y) (IsPlain p file at x) plain_back plain_to file at t (subst (λ (z : Spot). Why p.rows z file at (IsPlain r file at y) t) (sym same) w)

    go_back : LetGo p.rows (spot r file at y) (IsPlain r file at y) → LetGo p.rows (spot p file at x) (IsPlain p file at x)
    go_back g = go_to p.rows (spot p file at x) (IsPlain r file at y) (IsPlain p file at x) plain_back plain_to (subst (λ (z : Spot). LetGo p.rows z (IsPlain r file at y)) (sym same) g)

    one : (t u : Refusal) → Why p.rows (spot p file at x) file at (IsPlain p file at x) t → Why p.rows (spot r file at y) file at (IsPlain r file at y) u → t ≡ u
    one t u a b = one_why p.rows (spot p file at x) (one_at_byte x.declared laws is) file at (IsPlain p file at x) t u a (why_back u b)

    never : (t : Refusal) → Why p.rows (spot p file at x) file at (IsPlain p file at x) t → LetGo p.rows (spot p file at x) (IsPlain p file at x) → ⊥
    never t a g = no_why p.rows (spot p file at x) (one_at_byte x.declared laws is) file at (IsPlain p file at x) t a g

  because_once : (t u : Refusal) → Because p file at t → Because r file at u → t ≡ u
  because_once t u a b = one a.0 b.0 t u a.1 b.1

  pub own : (t u : Refusal) → RefusesInline p file at t → RefusesInline r file at u → t ≡ u
  own t u (inl a) (inl b) = a.1 ∙ sym b.1
  own t u (inl a) (inr b) = absurd (a.0 (here laws declared targets p s bs is also file at (because r file at u b).0))
  own t u (inr a) (inl b) = absurd (b.0 (there laws declared targets p s bs is also file at (because p file at t a).0))
  own t u (inr a) (inr b) = because_once t u (because p file at t a) (because r file at u b)

  pub found_there : (t : Refusal) → RefusesInline p file at t → Found r file at → ⊥
  found_there t (inl a) f = a.0 (here laws declared targets p s bs is also file at f.asked)
  found_there t (inr a) f = let b = because p file at t a in never b.0 f.asked t b.1 (go_back b.0 f.asked (let_go r file at f))

  pub found_here : (t : Refusal) → RefusesInline r file at t → Found p file at → ⊥
  found_here t (inl a) f = a.0 (there laws declared targets p s bs is also file at f.asked)
  found_here t (inr a) f = let b = because r file at t a in never f.asked b.0 t (why_back f.asked b.0 t b.1) (let_go p file at f)
