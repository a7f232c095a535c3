use Rattle.std.proofs.Common.{◌≡◌, ◌<◌, ℕ, List, Option, Some, Bool, true, false, cond, length, get_or, refl, sym, ap, ◌∙◌, eq-eqb, eqb-true}
use Rattle.std.proofs.Math.ListN.{set}
use Rattle.std.specs.Prelude.{◌==◌, ◌&&◌, option_and_then, string_bytes}
use Rattle.std.specs.List.{slice_get}
use Rattle.std.specs.Str.{bytes_eq}
use Rattle.std.specs.HashMap.{get_by_text}
use Rattle.std.proofs.lemmas.Map.Text.{hash_map_updates_text}
use Rattle.jr_index.proofs.Setting.{set_here, set_there}
use Rattle.jr_index.proofs.name_table.NameTable.put.Goals as goal

-- what is looked up in a list with one element changed
set_found : {T : Type 0} (f : T → Option ℕ) (xs : List T) (i c : ℕ) (x y : T) (same : Bool) (v : ℕ) → i < length xs → x ≡ get_or xs i x → f y ≡ cond same (Some v) (f x)
    → option_and_then f (slice_get (set xs i y) c) ≡ cond ((i == c) && same) (Some v) (option_and_then f (slice_get xs c))
set_found {T} f xs i c x y same v lt is h = by (i == c) refl
  where
    by : (b : Bool) → (i == c) ≡ b → option_and_then f (slice_get (set xs i y) c) ≡ cond (b && same) (Some v) (option_and_then f (slice_get xs c))
    by true e =
        let p = set_here xs i x y lt is in
        let at : i ≡ c = eqb-true i c e in
        ap (λ n. option_and_then f (slice_get (set xs i y) n)) (sym at) ∙ ap (option_and_then f) p.0 ∙ h
        ∙ ap (cond same (Some v)) (sym (ap (λ n. option_and_then f (slice_get xs n)) (sym at) ∙ ap (option_and_then f) p.1))
    by false e = ap (option_and_then f) (set_there xs i c y (λ s. let t = eq-eqb i c (sym s) in absurd cc))

pub returns-clause-found : goal.returns-clause-found
returns-clause-found c = λ k q.
    let old = c.index_mut-names.result.now in
    let more = hash_map_updates_text (string_bytes c.in_ok-name.name) old c.insert.new.self (Some c.args.number) c.in_ok-before.ensures.updates q ∙ ap (λ z. cond (bytes_eq z q) (Some c.args.number) (get_by_text old q)) c.in_ok-name.ensures.ok in
    set_found (λ (m : _). get_by_text m q) c.args.self.now.by_owner.items c.args.owner k old c.insert.new.self (bytes_eq c.args.name.now q) c.args.number c.requires c.index_mut-names.ensures.value more
