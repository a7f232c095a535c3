-- The dependences that ways are: they are listed in order, and weigh what their ways do.
use Rattle.std.proofs.Common.{◌≡◌, ◌+◌, ℕ, Bool, true, false, List, [], ◌++◌, refl, sym, ap, subst, ◌∙◌, append_assoc, arith}
use Rattle.std.specs.Prelude.{IsTrue, ◌↔◌, ◌⊎◌, Ok, slice_index}
use Rattle.std.specs.List.{sum_by}
use Rattle.std.proofs.lemmas.Bool.{false≢true}
use Rattle.std.proofs.lemmas.List.{append-nil}
use Rattle.std.proofs.lemmas.List.Sums.{sum_by-append}
use Rattle.jr_sync.specs.declared.sites.DepKind.{DepKind}
use Rattle.jr_sync.specs.declared.sites.DepKind.TheVariants.{Order, Field, Sync, Flow, Anti, Output}
use Rattle.jr_dependences.specs.declared.dependence.Dependence.{Dependence}
use Rattle.jr_dependences.specs.declared.pairs.Kinds.{Kinds}
use Rattle.jr_dependences.specs.Kinds.{has, told_one, told, one_weight, all_weights}
use Rattle.jr_dependences.specs.Listed.{IsBetween, IsBefore, IsOf, IsListed, Adds}
use Rattle.jr_dependences.specs.Weights.{weight, Weighs}
use Rattle.jr_dependences.proofs.Adding.{adds_none, adds_one, adds_then, listed_alone, listed_same}
use Rattle.jr_dependences.proofs.Asking.{only_one, six_kinds}

module _ (H : Dependence → Type 0) (first second : ℕ) where
  one_adds : (kind : DepKind) (holds : Bool) → (IsTrue holds ↔ H (record { kind = kind; first = first; second = second })) → (l : List Dependence) → Adds (IsOf kind first second) H l (l ++ told_one holds kind first second)
  one_adds kind true is l = adds_one H (IsOf kind first second) l (record { kind = kind; first = first; second = second }) (refl, refl, refl) (only_one kind first second) (is.0 refl)
  one_adds kind false is l =
      subst (λ (m : List Dependence). Adds (IsOf kind first second) H l m) (sym (append-nil l))
      (adds_none H (IsOf kind first second) l (λ x q p. false≢true (is.1 (subst H (only_one kind first second x q) p))))

  pub told_listed : (kinds : Kinds) → ((kind : DepKind) → (IsTrue (has kinds kind) ↔ H (record { kind = kind; first = first; second = second }))) → IsListed (IsBetween first second) H (told kinds first second)
  told_listed kinds is =
      let a = told_one kinds.order Order first second in
      let b = a ++ told_one kinds.field Field first second in
      let c = b ++ told_one kinds.sync Sync first second in
      let d = c ++ told_one kinds.flow Flow first second in
      let e = d ++ told_one kinds.anti Anti first second in
      let f = e ++ told_one kinds.output Output first second in
      listed_alone H (IsBetween first second) f
      (six_kinds H first second {E = Unit {0}} [] a b c d e f (one_adds Order kinds.order (is Order) []) (one_adds Field kinds.field (is Field) a) (one_adds Sync kinds.sync (is Sync) b) (one_adds Flow kinds.flow (is Flow) c)
      (one_adds Anti kinds.anti (is Anti) d) (Ok tt) (one_adds Output kinds.output (is Output) e))

-- one behind the other, behind a list
pub six_behind : {X : Type 0} (l a b c d e f : List X) → (((((l ++ a) ++ b) ++ c) ++ d) ++ e) ++ f ≡ l ++ (((((a ++ b) ++ c) ++ d) ++ e) ++ f)
six_behind l a b c d e f =
    let two = append_assoc l a b in
    let three = ap (λ x. x ++ c) two ∙ append_assoc l (a ++ b) c in
    let four = ap (λ x. x ++ d) three ∙ append_assoc l ((a ++ b) ++ c) d in
    let five = ap (λ x. x ++ e) four ∙ append_assoc l (((a ++ b) ++ c) ++ d) e in
    ap (λ x. x ++ f) five ∙ append_assoc l ((((a ++ b) ++ c) ++ d) ++ e) f

-- listed ones are put behind any list
pub adds_listed : (Q H : Dependence → Type 0) (old more : List Dependence) → IsListed Q H more → Adds Q H old (old ++ more)
adds_listed Q H old more h = record { added = more; is = refl; listed = h }

-- ---- weights

module _ (each : ℕ) (seconds : List ℕ) (first second : ℕ) where
  one_sum : (holds : Bool) (kind : DepKind) → sum_by (weight each seconds) (told_one holds kind first second) ≡ one_weight holds kind (each + slice_index seconds second)
  one_sum true kind = omega arith
  one_sum false kind = refl

  pub told_sum : (kinds : Kinds) → sum_by (weight each seconds) (told kinds first second) ≡ all_weights kinds (each + slice_index seconds second)
  told_sum kinds =
      let a = told_one kinds.order Order first second in
      let b = told_one kinds.field Field first second in
      let c = told_one kinds.sync Sync first second in
      let d = told_one kinds.flow Flow first second in
      let e = told_one kinds.anti Anti first second in
      let f = told_one kinds.output Output first second in
      let w = weight each seconds in
      let one = sum_by-append w a b in
      let two = sum_by-append w (a ++ b) c in
      let three = sum_by-append w ((a ++ b) ++ c) d in
      let four = sum_by-append w (((a ++ b) ++ c) ++ d) e in
      let five = sum_by-append w ((((a ++ b) ++ c) ++ d) ++ e) f in
      let of_order = one_sum kinds.order Order in
      let of_field = one_sum kinds.field Field in
      let of_sync = one_sum kinds.sync Sync in
      let of_flow = one_sum kinds.flow Flow in
      let of_anti = one_sum kinds.anti Anti in
      let of_output = one_sum kinds.output Output in
      omega (arith, one, two, three, four, five, of_order, of_field, of_sync, of_flow, of_anti, of_output)

module _ (H : Dependence → Type 0) (each : ℕ) (seconds : List ℕ) where
  pub weighs_none : (Q : Dependence → Type 0) → ((x : Dependence) → Q x → H x → ⊥) → Weighs Q H each seconds 0
  weighs_none Q never = ([], listed_alone H Q [] (adds_none H Q [] never), refl)

  -- more of them, where these come behind
  pub weighs_then : (Q R S : Dependence → Type 0) (old more : ℕ) (list : List Dependence) → Weighs Q H each seconds old → IsListed R H list → more ≡ sum_by (weight each seconds) list
      → ((x y : Dependence) → Q x → R y → IsBefore x y) → ((x : Dependence) → H x → ((Q x ⊎ R x) ↔ S x)) → Weighs S H each seconds (old + more)
  weighs_then Q R S old more list h listed is before same = (
    h.0 ++ list,
    listed_alone H S (h.0 ++ list) (adds_then H Q R S [] h.0 (h.0 ++ list) (adds_listed Q H [] h.0 h.1) (adds_listed R H h.0 list listed) before same),
    sums,
  )
    where
      sums : old + more ≡ sum_by (weight each seconds) (h.0 ++ list)
      sums = let there = h.2 in let both = sum_by-append (weight each seconds) h.0 list in omega (arith, there, is, both)

  -- the same ones, asked for otherwise
  pub weighs_same : (Q R : Dependence → Type 0) (total : ℕ) → ((x : Dependence) → H x → (Q x ↔ R x)) → Weighs Q H each seconds total → Weighs R H each seconds total
  weighs_same Q R total same h = (h.0, listed_same H Q R h.0 same h.1, h.2)

pub both_ways : {P Q R : Type 0} → (P ↔ Q) → (Q ↔ R) → (P ↔ R)
both_ways f s = (λ p. s.0 (f.0 p), λ r. f.1 (s.1 r))
