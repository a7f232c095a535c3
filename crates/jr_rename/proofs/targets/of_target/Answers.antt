use Rattle.std.proofs.Common.{◌≡◌, ℕ, List, sym, subst, ◌∙◌, inr}
use Rattle.std.specs.Prelude.{map, IfSome, IfNone}
use Rattle.std.proofs.lemmas.Result.{IfOk-weaker}
use Rattle.jr_table.specs.KeyView.{decl_of}
use Rattle.jr_names.specs.ReplyView.{outcome_of}
use Rattle.jr_images.specs.Families.{AreRenamed}
use Rattle.jr_images.specs.Images.{Renaming}
use Rattle.jr_images.specs.Refusals.{ChangesPrelude}
use Rattle.jr_rename.specs.Afters.{AnswersAfter}
use Rattle.jr_rename.specs.Answers.{Gives, SparesPrelude, AnswersSparing, Answers}
use Rattle.jr_rename.proofs.Answering.{told, spares}
use Rattle.jr_rename.proofs.Telling.{answered}
use Rattle.jr_rename.proofs.targets.of_target.Goals as goal

pub returns-in-Some-clause-outcome : goal.returns-in-Some-clause-outcome
returns-in-Some-clause-outcome g c =
    let p = g.V.View.program c.args.view.now in
    let d = decl_of c.args.target.now in
    let decls = map decl_of c.in_ok-decls.decls.items in
    let gives : Gives p d c.args.new.now (record { decls = decls; name = c.in_ok-name.name }) = record {
      renamed = subst (λ rows. AreRenamed rows d decls) c.table.ensures c.in_ok-decls.ensures;
      name = c.in_ok-name.ensures ∙ c.as_str.ensures;
    } in
    told p d c.args.new.now (record { decls = decls; name = c.in_ok-name.name }) c.in-Some.method gives
    (subst (λ rows. ChangesPrelude rows d c.args.new.now c.in-Some.method) c.table-2.ensures (subst (λ o. IfSome o (λ text. ChangesPrelude c.table-2.result.now d c.args.new.now text)) c.in-Some.is c.in_ok-told.ensures.told))

pub sparing-requires-clause-renamed : goal.sparing-requires-clause-renamed
sparing-requires-clause-renamed g c =
    let p = g.V.View.program c.args.view.now in
    let d = decl_of c.args.target.now in
    subst (AreRenamed p.rows d) (sym c.in_ok-all.ensures) (subst (λ rows. AreRenamed rows d (map decl_of c.in_ok-decls.decls.items)) c.table.ensures c.in_ok-decls.ensures)

pub sparing-requires-clause-spares : goal.sparing-requires-clause-spares
sparing-requires-clause-spares g c =
    let p = g.V.View.program c.args.view.now in
    let d = decl_of c.args.target.now in
    let none = subst (λ o. IfNone o ((text : List ℕ) → ChangesPrelude c.table-2.result.now d c.args.new.now text → ⊥)) c.in-None.is c.in_ok-told.ensures.none in
    let same : c.in_ok-name.name ≡ c.args.new.now = c.in_ok-name.ensures ∙ c.as_str.ensures in
    subst (SparesPrelude p d) (sym same) (spares p d c.args.new.now (subst (λ rows. (text : List ℕ) → ChangesPrelude rows d c.args.new.now text → ⊥) c.table-2.ensures none))

pub returns-clause-outcome : goal.returns-clause-outcome
returns-clause-outcome g c =
    let p = g.V.View.program c.args.view.now in
    let d = decl_of c.args.target.now in
    let of : Renaming = record { decls = c.in_ok-all.all; name = c.in_ok-name.name } in
    let renamed = subst (AreRenamed p.rows d) (sym c.in_ok-all.ensures) (subst (λ rows. AreRenamed rows d (map decl_of c.in_ok-decls.decls.items)) c.table.ensures c.in_ok-decls.ensures) in
    let same : c.in_ok-name.name ≡ c.args.new.now = c.in_ok-name.ensures ∙ c.as_str.ensures in
    let gives : Gives p d c.args.new.now of = record { renamed = renamed; name = same } in
    let none = subst (λ o. IfNone o ((text : List ℕ) → ChangesPrelude c.table-2.result.now d c.args.new.now text → ⊥)) c.in-None.is c.in_ok-told.ensures.none in
    let free = spares p d c.args.new.now (subst (λ rows. (text : List ℕ) → ChangesPrelude rows d c.args.new.now text → ⊥) c.table-2.ensures none) in
    IfOk-weaker c.sparing.result (λ o. AnswersSparing p d c.in_ok-name.name of (outcome_of o)) (λ o. Answers p d c.args.new.now (outcome_of o))
    (λ o h. (of, gives, inr (free, subst (λ n. AnswersSparing p d n of (outcome_of o)) same h))) c.sparing.ensures.outcome

pub returns-clause-after : goal.returns-clause-after
returns-clause-after g c =
    let p = g.V.View.program c.args.view.now in
    let d = decl_of c.args.target.now in
    let of : Renaming = record { decls = c.in_ok-all.all; name = c.in_ok-name.name } in
    let renamed = subst (AreRenamed p.rows d) (sym c.in_ok-all.ensures) (subst (λ rows. AreRenamed rows d (map decl_of c.in_ok-decls.decls.items)) c.table.ensures c.in_ok-decls.ensures) in
    let same : c.in_ok-name.name ≡ c.args.new.now = c.in_ok-name.ensures ∙ c.as_str.ensures in
    let gives : Gives p d c.args.new.now of = record { renamed = renamed; name = same } in
    let none = subst (λ o. IfNone o ((text : List ℕ) → ChangesPrelude c.table-2.result.now d c.args.new.now text → ⊥)) c.in-None.is c.in_ok-told.ensures.none in
    let free = spares p d c.args.new.now (subst (λ rows. (text : List ℕ) → ChangesPrelude rows d c.args.new.now text → ⊥) c.table-2.ensures none) in
    let after = c.sparing.new.after in
    IfOk-weaker c.sparing.result (λ o. AnswersSparing p d c.in_ok-name.name of (outcome_of o)) (λ o. AnswersAfter p d c.args.new.now (outcome_of o) after)
    (λ o h. answered p d c.args.new.now (outcome_of o) (of, gives, inr (free, subst (λ n. AnswersSparing p d n of (outcome_of o)) same h)) after c.sparing.ensures.after) c.sparing.ensures.outcome
