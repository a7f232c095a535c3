-- Cases, each a sentence: places that don't see what they saw.
use Rattle.std.proofs.Common.{◌≡◌, ℕ, zero, suc, ◌<◌, List, [], ◌∷◌, Some, None, Bool, true, false, refl, sym, ap, subst, ◌∙◌, arith}
use Rattle.std.specs.Prelude.{slice_get, Option, if◌then◌else◌}
use Rattle.jr_table.specs.Keys.{Ty, int}
use Rattle.jr_table.specs.Decls.{LocalKey}
use Rattle.jr_table.specs.SameDecls.{same_local, local_decides}
use Rattle.jr_table.specs.Rows.{Row}
use Rattle.jr_table.specs.Scope.{Scope, ScopeLocal, FindsLocal, HasNoLocal}
use Rattle.jr_table.specs.Context.{Context, Local, known, scope_of}
use Rattle.jr_local.specs.Scopes.{closed_up, is_from, one_less, with_made, without}
use Rattle.jr_untouched_parts.specs.Sights.{SeesTheSame}

none_some : (m : LocalKey) → (let none : Option LocalKey = None in none ≡ Some m) → ⊥
none_some m e = cc

-- a place of the local's member, where these are in scope
abbrev place : LocalKey → List Local → Context
place t ls = record { member = t.member; is_static = false; locals = ls; own = None }

module _ (rows : List Row) (t : LocalKey) (name : List ℕ) (type : Ty) where
  abbrev the_local : Local
  the_local = record { name = name; key = t; is_final = false; type = known int; has_init = true }

  -- ---- where a local goes, a place at which it is in scope loses it

  it_is_found : FindsLocal (scope_of (place t (the_local ∷ []))).locals name t
  it_is_found = record { place = 0; local = record { name = name; key = t }; stands = refl; named = refl; is = refl; last = behind }
    where
      behind : (i : ℕ) (l : ScopeLocal) → 0 < i → slice_get (scope_of (place t (the_local ∷ []))).locals i ≡ Some l → l.name ≡ name → ⊥
      behind zero l lt at e = absurd (omega (arith, lt))
      behind (suc i) l lt at e = absurd cc

  it_goes : closed_up t t ≡ None
  it_goes = ap (λ (b : Bool). if b then None else Some (if is_from t.member t.number t then one_less t else t)) ((local_decides t t).1 refl)

  pub a_gone_local_is_missed : SeesTheSame (without rows t type) (place t (the_local ∷ [])) → ⊥
  a_gone_local_is_missed sees = let m = sees.found name t it_is_found in none_some m.0 (sym it_goes ∙ m.1)

  -- ---- where a local is made, a place at which it is in scope finds one more

  made_is_there : (ls : List ScopeLocal) → (record { name = name; key = t } ∷ []) ≡ ls → HasNoLocal ls name → ⊥
  made_is_there ls is none = none 0 (record { name = name; key = t }) (ap (λ (xs : List ScopeLocal). slice_get xs 0) (sym is)) refl

  pub a_made_local_is_more : SeesTheSame (with_made rows t name type) (place t []) → ⊥
  a_made_local_is_more sees = made_is_there sees.locals (ap (λ (s : Scope). s.locals) sees.scope) (sees.none name (λ i l at. absurd cc))
