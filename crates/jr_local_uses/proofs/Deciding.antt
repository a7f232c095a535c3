-- From what stands against inline local, by the names that are told, to its refusals.
use Rattle.std.proofs.Common.{◌≡◌, ◌≢◌, ◌⊎◌, inl, inr, ℕ, zero, suc, ◌≤◌, Bool, true, false, List, [], ◌∷◌, Option, Some, None, if◌then◌else◌, refl, sym, ap, subst, ◌∙◌, arith}
use Rattle.std.specs.Prelude.{slice_get}
use Rattle.std.proofs.lemmas.Bool.{false≢true}
use Rattle.std.proofs.lemmas.Option.{none-some, same_Some}
use Rattle.jr_text.specs.declared.spans.Span.{Span}
use Rattle.jr_ast.specs.StatementTree as statement
use Rattle.jr_grammar.specs.Layout.{itself}
use Rattle.jr_names.specs.Refusals.{Refusal, assigned as refusal_assigned}
use Rattle.jr_bind.specs.Programs.{Program}
use Rattle.jr_pieces.specs.Uses.{Use, valued, assigned, changed, stated}
use Rattle.jr_pieces.specs.Returns.{returns_in_list}
use Rattle.jr_local_search.specs.Namings as search
use Rattle.jr_local_search.specs.Namings.{Among, is_read, is_target, IsOnlyRead, first_target}
use Rattle.jr_local_search.specs.Places as places
use Rattle.jr_local_search.specs.Places.{InlinePlace, used_otherwise, read_barred, read_behind, assigned_at, let_go, IsInlinePlace}
use Rattle.jr_local.specs.Inlining.{Asked, element, behind_it, Naming, first_byte, IsTarget, IsOnly, IsPlain, IsNotPlain, MayMove, RefusesInline, IsLetGo}
use Rattle.jr_local_asked.specs.Asking.{AskedLocal, HasAsked, asked_by}
use Rattle.jr_local_uses.specs.Heads.{Head}
use Rattle.jr_local_uses.specs.LocalNamings.{IsTold, AreNamings}
use Rattle.jr_local_uses.specs.Inlines.{Inlines, answer, refusal_at, Uses, of_uses, TellsReads, IsPlacedAt, AreUses}
use Rattle.jr_local_uses.proofs.Declaring.{head_there}

-- ---- uses

read_use : (u : Use) → is_read u ≡ true → u ≢ assigned
read_use valued e = λ f. absurd cc
read_use assigned e = absurd (false≢true e)
read_use changed e = λ f. absurd cc
read_use stated e = λ f. absurd cc

use_read : (u : Use) → u ≢ assigned → is_read u ≡ true
use_read valued h = refl
use_read assigned h = absurd (h refl)
use_read changed h = refl
use_read stated h = refl

target_use : (u : Use) → is_target u ≡ true → (u ≡ assigned) ⊎ (u ≡ changed)
target_use valued e = absurd (false≢true e)
target_use assigned e = inl refl
target_use changed e = inr refl
target_use stated e = absurd (false≢true e)

use_target : (u : Use) → (u ≡ assigned) ⊎ (u ≡ changed) → is_target u ≡ true
use_target u (inl e) = ap is_target e
use_target u (inr e) = ap is_target e

-- ---- the first target

record FirstTarget (ys : List search.Naming) (t : search.Naming) : Type 0 where
  number : ℕ
  stands : slice_get ys number ≡ Some t
  targets : is_target t.usage ≡ true
  lowest : (i : ℕ) (y : search.Naming) → slice_get ys i ≡ Some y → is_target y.usage ≡ true → number ≤ i

first_is : (ys : List search.Naming) (t : search.Naming) → first_target ys ≡ Some t → FirstTarget ys t
first_is [] t e = absurd (none-some t e)
first_is (x ∷ xs) t e = by (is_target x.usage) refl e (first_is xs t)
  where
    by : (q : Bool) → is_target x.usage ≡ q → (if q then Some x else first_target xs) ≡ Some t → (first_target xs ≡ Some t → FirstTarget xs t) → FirstTarget (x ∷ xs) t
    by true is e go =
        let same : x ≡ t = same_Some x t e in
        record { number = 0; stands = ap Some same; targets = ap (λ (y : search.Naming). is_target y.usage) (sym same) ∙ is; lowest = λ i y h r. omega arith }
    by false is e go =
        let f = go e in
        record { number = suc f.number; stands = f.stands; targets = f.targets; lowest = behind f }
      where
        behind : (f : FirstTarget xs t) (i : ℕ) (y : search.Naming) → slice_get (x ∷ xs) i ≡ Some y → is_target y.usage ≡ true → suc f.number ≤ i
        behind f zero y h r = absurd (false≢true (sym is ∙ ap (λ (z : search.Naming). is_target z.usage) (same_Some x y h) ∙ r))
        behind f (suc i) y h r = let low = f.lowest i y h r in omega (arith, low)

none_is : (ys : List search.Naming) → first_target ys ≡ None → (i : ℕ) (y : search.Naming) → slice_get ys i ≡ Some y → is_target y.usage ≡ true → ⊥
none_is [] e i y h r = none-some y h
none_is (x ∷ xs) e i y h r = by (is_target x.usage) refl e (none_is xs) i h
  where
    by : (q : Bool) → is_target x.usage ≡ q → (let n : Option search.Naming = None in (if q then Some x else first_target xs) ≡ n) → (first_target xs ≡ None → (i : ℕ) (y : search.Naming) → slice_get xs i ≡ Some y → is_target y.usage ≡ true → ⊥)
        → (i : ℕ) → slice_get (x ∷ xs) i ≡ Some y → ⊥
    by true is e go i h = none-some x (sym e)
    by false is e go zero h = false≢true (sym is ∙ ap (λ (z : search.Naming). is_target z.usage) (same_Some x y h) ∙ r)
    by false is e go (suc i) h = go e i y h r

-- ---- of a local that is asked for

module _ (p : Program Span) (file at : ℕ) (x : Asked p file at) (ys : List search.Naming) (are : AreNamings x.declared ys) (plain : Bool) (tells : TellsReads x.declared plain) where
  is_plain : plain ≡ true → IsPlain p file at x
  is_plain e = subst (TellsReads x.declared) e tells

  not_plain : plain ≡ false → IsNotPlain p file at x
  not_plain e = subst (TellsReads x.declared) e tells

  byte_is : (n : Naming x.declared) (y : search.Naming) → IsTold x.declared n y → first_byte x.declared n ≡ y.span.from
  byte_is n y told = ap (λ (s : Span). s.from) told.span

  -- the one read

  record OnlyOf (y : search.Naming) : Type 0 where
    name : Naming x.declared
    told : IsTold x.declared name y
    only : IsOnly x.declared name

  only_of : (y : search.Naming) → IsOnlyRead ys y → OnlyOf y
  only_of y h =
      let n = are.each y (h.number, h.stands) in
      record {
        name = n.0;
        told = n.1;
        only = (
          λ e. read_use y.usage h.reads (sym n.1.used ∙ e),
          λ o reads.
              let z = are.all o in
              let read = use_read z.0.usage (λ e. reads (z.2.used ∙ e)) in
              byte_is o z.0 z.2 ∙ h.only z.1.0 z.0 z.1.1 read ∙ sym (byte_is n.0 y n.1),
        );
      }

  only_told : (n : Naming x.declared) → IsOnly x.declared n → (y : search.Naming) × IsOnlyRead ys y
  only_told n h =
      let y = are.all n in (
        y.0,
        record {
          number = y.1.0;
          stands = y.1.1;
          reads = use_read y.0.usage (λ e. h.0 (y.2.used ∙ e));
          only = λ i z stands reads.
              let o = are.each z (i, stands) in
              sym (byte_is o.0 z o.1) ∙ h.1 o.0 (λ e. read_use z.usage reads (sym o.1.used ∙ e)) ∙ byte_is n y.0 y.2;
        },
      )

  -- targets

  is_target_there : (n : Naming x.declared) (y : search.Naming) → IsTold x.declared n y → is_target y.usage ≡ true → IsTarget x.declared n
  is_target_there n y told e = by (target_use y.usage e)
    where
      by : (y.usage ≡ assigned) ⊎ (y.usage ≡ changed) → IsTarget x.declared n
      by (inl is) = inl (told.used ∙ is)
      by (inr is) = inr (told.used ∙ is)

  target_told : (n : Naming x.declared) (y : search.Naming) → IsTold x.declared n y → IsTarget x.declared n → is_target y.usage ≡ true
  target_told n y told (inl e) = use_target y.usage (inl (sym told.used ∙ e))
  target_told n y told (inr e) = use_target y.usage (inr (sym told.used ∙ e))

  abbrev first_return : Option Span
  first_return = slice_get (returns_in_list itself (behind_it x.declared).base (element x.declared).rest) 0

  may_move : (q : Bool) → plain ≡ q → places.MayMove q first_return ys → MayMove p file at x
  may_move true e h = inl (is_plain e)
  may_move false e h =
      let o = only_of h.0 h.1.only in
      inr (not_plain e, o.name, o.only, o.told.barred ∙ h.1.straight, λ s r. h.2 s r.0 (subst (λ (n : ℕ). s.to ≤ n) (byte_is o.name h.0 o.told) r.1))

  -- ---- what is answered

  abbrev Decides : Option Refusal → Type 0
  Decides None = IsLetGo p file at x
  Decides (Some r) = RefusesInline p file at r

  decide : (r : InlinePlace) → IsInlinePlace plain first_return ys r → Decides (refusal_at file at x.key r)
  decide used_otherwise h = inr (inl (x, not_plain h.0, λ n only. let o = only_told n only in h.1 o.0 o.1, refl))
  decide (read_barred byte) h =
      let o = only_of h.1 h.2 in
      inr (inr (inl (x, not_plain h.0, o.name, o.only, byte, o.told.barred ∙ h.3, refl)))
  decide (read_behind s) h =
      let o = only_of h.1 h.2.only in
      inr (inr (inr (inl (x, not_plain h.0, o.name, o.only, o.told.barred ∙ h.2.straight, s, (h.3.0, subst (λ (n : ℕ). s.to ≤ n) (sym (byte_is o.name h.1 o.told)) h.3.1), refl))))
  decide (assigned_at byte) h =
      let t = first_is ys h.1 h.2 in
      let n = are.each h.1 (t.number, t.stands) in
      let same = byte_is n.0 h.1 n.1 ∙ h.3 in
      inr (inr (inr (inr (
        x,
        may_move plain refl h.0,
        n.0,
        (
          is_target_there n.0 h.1 n.1 t.targets,
          λ o target.
              let z = are.all o in
              let low = are.rise t.number z.1.0 h.1 z.0 (t.lowest z.1.0 z.0 z.1.1 (target_told o z.0 z.2 target)) t.stands z.1.1 in
              subst (λ (m : ℕ). m ≤ first_byte x.declared o) (sym (byte_is n.0 h.1 n.1)) (subst (λ (m : ℕ). h.1.span.from ≤ m) (sym (byte_is o z.0 z.2)) low),
        ),
        ap (λ (m : ℕ). refusal_assigned x.key (record { file = file; at = m })) (sym same),
      ))))
  decide let_go h = record {
    may_move = may_move plain refl h.0;
    never_assigned = λ n target. let y = are.all n in none_is ys h.1 y.1.0 y.0 y.1.1 (target_told n y.0 y.2 target);
  }

-- ---- of a local and its names

pub inlines_so : (p : Program Span) (file at : ℕ) (x : AskedLocal) → HasAsked p file at x → (u : Uses) → AreUses p x u → Inlines p file at (of_uses file at x u)
inlines_so p file at x has u uses = by (refusal_at file at x.key u.place) (decide p file at (asked_by p file at has) u.namings are uses.is_plain (uses.tells file has.there) u.place placed)
  where
    are : AreNamings (asked_by p file at has).declared u.namings
    are = uses.are file has.there

    rest : (element (asked_by p file at has).declared).rest ≡ has.there.stands.rest
    rest = (has.there.stands.element (asked_by p file at has).declared.body.at (λ i. (asked_by p file at has).declared.body.at.next)).1

    placed : IsInlinePlace uses.is_plain (first_return p file at (asked_by p file at has) u.namings are uses.is_plain (uses.tells file has.there)) u.namings u.place
    placed =
        let there = subst (λ (o : Option Head). IsPlacedAt uses.is_plain u.namings u.place o) (head_there p file x.key x.declared has.there) uses.placed in
        let base = (behind_it (asked_by p file at has).declared).base in
        subst (λ (ss : statement.Stmts Span). IsInlinePlace uses.is_plain (slice_get (returns_in_list itself base ss) 0) u.namings u.place) (sym rest) (there base)

    by : (o : Option Refusal) → Decides p file at (asked_by p file at has) u.namings are uses.is_plain (uses.tells file has.there) o → Inlines p file at (answer x u.namings o)
    by None h = record { has = has; free = h; namings = are }
    by (Some r) h = h
