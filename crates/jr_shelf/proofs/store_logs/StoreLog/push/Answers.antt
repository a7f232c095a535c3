use Rattle.std.proofs.Common.{◌≡◌, ◌∷◌, ◌++◌, List, ℕ, length, ap, ◌∙◌, arith, length-append}
use Rattle.jr_shelf.specs.LogState.{LogState}
use Rattle.jr_shelf.proofs.Pools.{entries-push, lie-push}
use Rattle.jr_shelf.proofs.store_logs.StoreLog.push.Goals as goal

pub invariant_of-self : goal.invariant_of-self
invariant_of-self c =
    let pool = c.self.inside.pool in
    let named = c.append_in_place.new.to in
    let full = c.append_in_place-2.new.to in
    let appended_name : named.items ≡ pool.items ++ c.args.name.now = c.append_in_place.ensures.items ∙ ap (λ (l : List ℕ). pool.items ++ l) c.as_bytes.ensures.value in
    let appended_bytes : full.items ≡ named.items ++ c.args.bytes.now = c.append_in_place-2.ensures.items in (
      omega (arith, pool.ok.0, named.ok.0, full.ok.0, ap length appended_name, ap length appended_bytes, length-append pool.items c.args.name.now, length-append named.items c.args.bytes.now, ap (λ (v : LogState). v.room) c.self.view_is),
      omega arith,
      lie-push pool.items named.items full.items c.args.name.now c.args.bytes.now c.self.inside.entries.items c.push_front_reserved.new.self.items _
          c.self.invariant.2 appended_name appended_bytes c.push_front_reserved.ensures.items (c.len-start.ensures ∙ pool.ok.0) (c.len-middle.ensures ∙ named.ok.0) (c.len-end.ensures ∙ full.ok.0),
    )

pub returns-clause-entries : goal.returns-clause-entries
returns-clause-entries c =
    let pool = c.self.inside.pool in
    let named = c.append_in_place.new.to in
    let full = c.append_in_place-2.new.to in
    let appended_name : named.items ≡ pool.items ++ c.args.name.now = c.append_in_place.ensures.items ∙ ap (λ (l : List ℕ). pool.items ++ l) c.as_bytes.ensures.value in
    let appended_bytes : full.items ≡ named.items ++ c.args.bytes.now = c.append_in_place-2.ensures.items in
    entries-push pool.items named.items full.items c.args.name.now c.args.bytes.now c.self.inside.entries.items c.push_front_reserved.new.self.items _
    c.self.invariant.2 appended_name appended_bytes c.push_front_reserved.ensures.items (c.len-start.ensures ∙ pool.ok.0) (c.len-middle.ensures ∙ named.ok.0) (c.len-end.ensures ∙ full.ok.0)
    ∙ ap (λ (v : LogState). (c.args.name.now, c.args.bytes.now) ∷ v.entries) c.self.view_is
