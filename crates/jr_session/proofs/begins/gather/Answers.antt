use Rattle.std.proofs.Common.{◌≡◌, ◌≤◌, ◌++◌, ◌∷◌, [], ℕ, List, length, subst, refl, arith, sym, ◌∙◌, string_bytes}
use Rattle.std.proofs.lemmas.Option.{MatchOption-at_some, MatchOption-at_none}
use Rattle.jr_sources.specs.Sources.{HasName, LacksFile, file_limit}
use Rattle.jr_sources.specs.SourceView.{source_of}
use Rattle.jr_sources.proofs.Entries.{gathered_more, gathered_all, gathered_same, room_for_more, length-sources}
use Rattle.jr_session.proofs.begins.gather.Goals as goal

no_items : {X : Type 0} (xs : List X) → length xs ≡ 0 → xs ≡ []
no_items [] e = refl
no_items (x ∷ xs) e = absurd (omega arith)

pub loop-name-init : goal.loop-name-init
loop-name-init c =
    let all = c.into_iter-name-iterator.ensures.into_iter_gives.0 in
    record { are = c.new-sources.ensures; all = sym all }

pub loop-name-preserved : goal.loop-name-preserved
loop-name-preserved c =
    let added = MatchOption-at_none (LacksFile c.loop-name.sources (string_bytes c.in-Some.name) × (c.add.new.self ≡ c.loop-name.sources ++ source_of (c.in-Some.name, c.in-Some.text) ∷ [])) (λ number. HasName c.loop-name.sources number (string_bytes c.in-Some.name) × (c.add.new.self ≡ c.loop-name.sources)) c.in_default.is c.in_ok-first.ensures.ok in
    gathered_more c.args.files.items c.loop-name.yielded c.loop-name.name-iterator.rest.items c.loop-name.sources c.loop-name.invariant (c.in-Some.name, c.in-Some.text) c.next.new.self.rest.items c.in-Some.ensures.steps.0 c.add.new.self added.1

pub add-requires : goal.add-requires
add-requires c = room_for_more c.args.files.items c.loop-name.yielded c.loop-name.name-iterator.rest.items c.loop-name.sources c.loop-name.invariant (c.in-Some.name, c.in-Some.text) c.next.new.self.rest.items c.in-Some.ensures.steps.0 file_limit c.requires

pub returns-in-Some-2-clause-fault : goal.returns-in-Some-2-clause-fault
returns-in-Some-2-clause-fault c =
    let met = MatchOption-at_some (LacksFile c.loop-name.sources (string_bytes c.in-Some.name) × (c.add.new.self ≡ c.loop-name.sources ++ source_of (c.in-Some.name, c.in-Some.text) ∷ [])) (λ number. HasName c.loop-name.sources number (string_bytes c.in-Some.name) × (c.add.new.self ≡ c.loop-name.sources)) c.in-Some-2.first c.in-Some-2.is c.in_ok-first.ensures.ok in (
      subst (λ (n : ℕ). n ≤ file_limit) (sym (length-sources c.args.files.items)) c.requires,
      gathered_same c.args.files.items c.loop-name.yielded c.loop-name.name-iterator.rest.items c.loop-name.sources c.loop-name.invariant (c.in-Some.name, c.in-Some.text) c.next.new.self.rest.items c.in-Some.ensures.steps.0 c.in-Some-2.first c.count-second.result c.count-second.ensures.valid.differ met.0 c.count-second.ensures.count,
    )

pub returns : goal.returns
returns c =
    let none : c.loop-name.name-iterator.rest.items ≡ [] = no_items c.loop-name.name-iterator.rest.items (sym c.loop-name.name-iterator.rest.ok.0 ∙ c.in-None.ensures.steps.0) in
    record { ok = gathered_all c.args.files.items c.loop-name.yielded c.loop-name.name-iterator.rest.items c.loop-name.sources c.loop-name.invariant none; fault = tt }
