-- What a machine that reads every tree, and nothing else, says of the trees.
use Rattle.std.proofs.Common.{◌≡◌, ℕ, suc, ◌+◌, ◌<◌, ◌≤◌, List, ◌++◌, length, take, drop, Option, Some, None, refl, sym, ap, subst, ◌∙◌, add-one}
use Rattle.std.specs.Prelude.{option_and_then, IfSome}
use Rattle.std.proofs.lemmas.List.{take-append-drop, length-take-le}
use Rattle.jr_grammar.specs.Tokens.{Token}
use Rattle.jr_pexpr.specs.Runs.{run, longest, stop_of}
use Rattle.jr_grammar.specs.Readings.{OneTree, Begins, IsPrefix, IsLongest, HasNone, IsStop}
use Rattle.jr_pexpr.proofs.Scans.{AtLeast, stop_reached, stop_within, stop_fails, Found, longest_found, longest_most}

pub at_some : {A : Type 0} (o : Option A) (x : A) (P : A → Type 0) → o ≡ Some x → IfSome o P → P x
at_some {A} o x P e h = subst (λ (o : Option A). IfSome o P) e h

-- where two steps that may fail give an answer, both did
pub both_some : {S T : Type 0} (f : S → Option T) (o : Option S) (e : T) → option_and_then f o ≡ Some e → (n : S) × (o ≡ Some n) × (f n ≡ Some e)
both_some f None e h = absurd cc
both_some f (Some n) e h = (n, refl, h)

module _ (S T : Type 0) (step : S → Token → Option S) (whole : S → Option T) (start : S) (spelled : T → List Token) (IsMeant : T → Type 0)
    (reads : (e : T) → IsMeant e → option_and_then whole (run S Token T step whole start (spelled e)) ≡ Some e)
    (sound : (ts : List Token) (n : S) (e : T) → run S Token T step whole start ts ≡ Some n → whole n ≡ Some e → IsMeant e × (spelled e ≡ ts))
    (closes : (ts : List Token) (n : S) → run S Token T step whole start ts ≡ Some n → (e : T) × Begins T spelled IsMeant ts e) where
  pub one_tree_of : OneTree T spelled IsMeant
  one_tree_of a b h k e =
      let both : Some a ≡ Some b = sym (reads a h) ∙ ap (λ (ts : List Token). option_and_then whole (run S Token T step whole start ts)) e ∙ reads b k in
      cc

  -- ---- the longest

  most : (ts : List Token) (m : ℕ) (d : T) → IsPrefix T spelled IsMeant ts m d → AtLeast (longest S Token T step whole start ts) m
  most ts m d p =
      let r = both_some whole (run S Token T step whole start (spelled d)) d (reads d p.meant) in
      let e : run S Token T step whole start (take m ts) ≡ Some r.0 = ap (run S Token T step whole start) (sym p.spells) ∙ r.1 in
      let k = longest_most S Token T step whole start (take m ts) (drop m ts) r.0 d e r.2 in
      let w : m ≤ length ts = p.within in
      let n : length (take m ts) ≡ m = length-take-le m ts w in
      subst (λ (j : ℕ). AtLeast (longest S Token T step whole start ts) j) n (subst (λ (xs : List Token). AtLeast (longest S Token T step whole start xs) (length (take m ts))) (take-append-drop m ts) k)

  pub longest_is : (ts : List Token) (n : ℕ) → longest S Token T step whole start ts ≡ Some n
      → (e : T) × IsLongest T spelled IsMeant ts n e × ((s : S) × (run S Token T step whole start (take n ts) ≡ Some s) × (whole s ≡ Some e))
  longest_is ts n h =
      let f = at_some (longest S Token T step whole start ts) n (Found S Token T step whole start ts) h (longest_found S Token T step whole start ts) in
      let i = sound (take n ts) f.state f.tree f.run_to f.is_whole in (
        f.tree,
        record {
          first = record { meant = i.0; within = f.within; spells = i.1 };
          longest = λ m d p. subst (λ (o : Option ℕ). AtLeast o m) h (most ts m d p);
        },
        (f.state, f.run_to, f.is_whole),
      )

  pub longest_none : (ts : List Token) → longest S Token T step whole start ts ≡ None → HasNone T spelled IsMeant ts
  longest_none ts h m d p = subst (λ (o : Option ℕ). AtLeast o m) h (most ts m d p)

  -- ---- the stop

  stop_before : (ts : List Token) → (e : T) × Begins T spelled IsMeant (take (stop_of S Token T step whole start ts) ts) e
  stop_before ts =
      let r = stop_reached S Token T step whole start ts in closes (take (stop_of S Token T step whole start ts) ts) r.0 r.1

  stop_at : (ts : List Token) → stop_of S Token T step whole start ts < length ts → (e : T) → Begins T spelled IsMeant (take (stop_of S Token T step whole start ts + 1) ts) e → ⊥
  stop_at ts h e b =
      let n = stop_of S Token T step whole start ts in
      let fails = stop_fails S Token T step whole start ts b.rest h in
      let e2 : spelled e ≡ take (suc n) ts ++ b.rest = b.spells ∙ ap (λ (k : ℕ). take k ts ++ b.rest) (add-one n) in
      let no : Some e ≡ None = sym (reads e b.meant) ∙ ap (λ (xs : List Token). option_and_then whole (run S Token T step whole start xs)) e2 ∙ ap (option_and_then whole) fails in
      cc

  pub stop_is : (ts : List Token) → IsStop T spelled IsMeant ts (stop_of S Token T step whole start ts)
  stop_is ts = record { within = stop_within S Token T step whole start ts; before = stop_before ts; at = stop_at ts }
