use Rattle.std.proofs.Common.{◌≡◌, ◌∙◌, ◌+◌, ◌<◌, OnSome, false, is_err, length, map, rules, subst, sym, take, true}
use Rattle.jr_shelf.specs.Counts.{RoseBy}
use Rattle.jr_shelf.specs.Shelf.{StoredInPart, with_file}
use Rattle.jr_files.specs.Views.{store_of}
use Rattle.jr_files.proofs.Counting.{known_before, known_then, rose_one}
use Rattle.jr_files.proofs.StoreLaws.{on_err, on_ok, served_ok, stored_more, stored_part}
use Rattle.jr_files.proofs.stores.store_all.Goals as goal

pub returns-then-is_err-clause-in_part : goal.returns-then-is_err-clause-in_part
returns-then-is_err-clause-in_part g c =
    let below : c.loop-number.number < length c.args.stores.now = search rules in
    let failed : is_err c.store.result ≡ true = sym c.is_err.ensures.value ∙ c.if-is_err.true in
    let item = c.index-stores-number.result in
    let part = on_err c.store.result _ failed c.store.ensures.in_part in
    stored_part (g.S.Shelf.holds c.args.shelf.now) (g.S.Shelf.holds c.loop-number.shelf) (g.S.Shelf.holds c.store.new.self) c.args.stores.now c.loop-number.number item below c.index-stores-number.is c.loop-number.invariant.held
    (subst (λ text. StoredInPart (g.S.Shelf.holds c.loop-number.shelf) (g.S.Shelf.holds c.store.new.self) (store_of item).name text) c.as_bytes.ensures.value
    (subst (λ name. StoredInPart (g.S.Shelf.holds c.loop-number.shelf) (g.S.Shelf.holds c.store.new.self) name c.as_bytes.result.now) c.as_str.ensures.value part))

pub returns-then-is_err-clause-missed : goal.returns-then-is_err-clause-missed
returns-then-is_err-clause-missed g c =
    known_then (g.S.Shelf.holds c.args.shelf.now) (g.S.Shelf.missed c.args.shelf.now) (g.S.Shelf.missed c.loop-number.shelf) (g.S.Shelf.missed c.store.new.self) c.loop-number.invariant.missed
    (known_before (map store_of (take c.loop-number.number c.args.stores.now)) (g.S.Shelf.holds c.args.shelf.now) (g.S.Shelf.missed c.store.new.self ≡ g.S.Shelf.missed c.loop-number.shelf) (subst (λ h. OnSome h (g.S.Shelf.missed c.store.new.self ≡ g.S.Shelf.missed c.loop-number.shelf)) c.loop-number.invariant.held c.store.ensures.missed))

pub loop-number-preserved : goal.loop-number-preserved
loop-number-preserved g c =
    let below : c.loop-number.number < length c.args.stores.now = search rules in
    let done : is_err c.store.result ≡ false = sym c.is_err.ensures.value ∙ c.if-is_err.false in
    let item = c.index-stores-number.result in
    let put = on_ok c.store.result _ done c.store.ensures.ok in
    record {
      held = stored_more (g.S.Shelf.holds c.args.shelf.now) (g.S.Shelf.holds c.loop-number.shelf) (g.S.Shelf.holds c.store.new.self) c.args.stores.now c.loop-number.number item below c.index-stores-number.is c.loop-number.invariant.held
          (subst (λ text. g.S.Shelf.holds c.store.new.self ≡ with_file (g.S.Shelf.holds c.loop-number.shelf) (store_of item).name text) c.as_bytes.ensures.value
          (subst (λ name. g.S.Shelf.holds c.store.new.self ≡ with_file (g.S.Shelf.holds c.loop-number.shelf) name c.as_bytes.result.now) c.as_str.ensures.value put));
      missed = known_then (g.S.Shelf.holds c.args.shelf.now) (g.S.Shelf.missed c.args.shelf.now) (g.S.Shelf.missed c.loop-number.shelf) (g.S.Shelf.missed c.store.new.self) c.loop-number.invariant.missed
          (known_before (map store_of (take c.loop-number.number c.args.stores.now)) (g.S.Shelf.holds c.args.shelf.now) (g.S.Shelf.missed c.store.new.self ≡ g.S.Shelf.missed c.loop-number.shelf) (subst (λ h. OnSome h (g.S.Shelf.missed c.store.new.self ≡ g.S.Shelf.missed c.loop-number.shelf)) c.loop-number.invariant.held c.store.ensures.missed));
      faults = on_ok c.store.result _ done c.store.ensures.faults_stay ∙ c.loop-number.invariant.faults;
      served = subst (RoseBy (c.loop-number.number + 1) (g.S.Shelf.served c.args.shelf.now)) (sym (c.store.ensures.served ∙ served_ok c.store.result done (g.S.Shelf.served c.loop-number.shelf)))
          (rose_one c.loop-number.number _ _ c.loop-number.invariant.served);
    }
