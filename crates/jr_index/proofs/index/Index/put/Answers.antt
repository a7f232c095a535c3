use Rattle.std.proofs.Common.{◌≡◌, ◌≢◌, ◌<◌, ℕ, zero, suc, List, [], ◌∷◌, Option, Some, Bool, true, false, cond, length, get_or, refl, sym, ap, ◌∙◌, eq-eqb, eqb-true, arith}
use Rattle.std.proofs.Math.ListN.{set}
use Rattle.std.specs.Prelude.{◌==◌, ◌&&◌, option_and_then}
use Rattle.std.specs.List.{slice_get}
use Rattle.std.specs.Str.{bytes_eq}
use Rattle.std.specs.HashMap.{get_by}
use Rattle.std.proofs.lemmas.Map.Text.{hash_map_updates_str}
use Rattle.jr_index.proofs.index.Index.put.Goals as goal

set_here : {T : Type 0} (xs : List T) (i : ℕ) (x y : T) → i < length xs → x ≡ get_or xs i x → (slice_get (set xs i y) i ≡ Some y) × (slice_get xs i ≡ Some x)
set_here [] i x y lt is = absurd (omega arith)
set_here (z ∷ xs) zero x y lt is = (refl, ap Some (sym is))
set_here (z ∷ xs) (suc i) x y lt is = set_here xs i x y (omega arith) is

set_there : {T : Type 0} (xs : List T) (i c : ℕ) (y : T) → c ≢ i → slice_get (set xs i y) c ≡ slice_get xs c
set_there [] i c y n = refl
set_there (z ∷ xs) zero zero y n = absurd (n refl)
set_there (z ∷ xs) zero (suc c) y n = refl
set_there (z ∷ xs) (suc i) zero y n = refl
set_there (z ∷ xs) (suc i) (suc c) y n = set_there xs i c y (λ e. n (ap suc e))

-- what is looked up in a list with one element changed
set_found : {T : Type 0} (f : T → Option ℕ) (xs : List T) (i c : ℕ) (x y : T) (same : Bool) (v : ℕ) → i < length xs → x ≡ get_or xs i x → f y ≡ cond same (Some v) (f x)
    → option_and_then f (slice_get (set xs i y) c) ≡ cond ((c == i) && same) (Some v) (option_and_then f (slice_get xs c))
set_found {T} f xs i c x y same v lt is h = by (c == i) refl
  where
    by : (b : Bool) → (c == i) ≡ b → option_and_then f (slice_get (set xs i y) c) ≡ cond (b && same) (Some v) (option_and_then f (slice_get xs c))
    by true e =
        let p = set_here xs i x y lt is in
        let at : c ≡ i = eqb-true c i e in
        ap (λ n. option_and_then f (slice_get (set xs i y) n)) at ∙ ap (option_and_then f) p.0 ∙ h
        ∙ ap (cond same (Some v)) (sym (ap (λ n. option_and_then f (slice_get xs n)) at ∙ ap (option_and_then f) p.1))
    by false e = ap (option_and_then f) (set_there xs i c y (λ s. let t = eq-eqb c i s in absurd cc))

pub returns-clause-found : goal.returns-clause-found
returns-clause-found c = λ k q.
    let old = c.index_mut-names.result.now in
    let more = hash_map_updates_str c.args.name.now old c.insert.new.self (Some c.args.number) c.in_ok-before.ensures.updates q in
    set_found (λ (m : _). get_by (λ n. bytes_eq q n.now) m) c.args.self.now.by_owner.items c.args.owner k old c.insert.new.self (bytes_eq c.args.name.now q) c.args.number c.requires c.index_mut-names.ensures.value more
