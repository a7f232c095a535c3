use Rattle.std.proofs.Common.{◌≡◌, ℕ, List, Option, Some, None, sym, ap, subst, ◌∙◌}
use Rattle.std.specs.Prelude.{IfSome, IfNone}
use Rattle.jr_table.specs.Entries.{entries_of}
use Rattle.jr_images.specs.ImageView.{renaming_of}
use Rattle.jr_dispatch.specs.Changes.{ChangesAt, IsClassAt, IsFirstChangeAt}
use Rattle.jr_dispatch.proofs.KeyedChanges.{are_alike, no_change, first_of, shows_class, shows_method}
use Rattle.jr_dispatch.proofs.dispatching.dispatch_change.Goals as goal

pub first_change-requires : goal.first_change-requires
first_change-requires c = are_alike (renaming_of c.args.g.now) c.args.old.now c.args.new.now c.keeps_rows.ensures c.keeps_rows-2.ensures c.requires

pub returns-in_default-clause-none : goal.returns-in_default-clause-none
returns-in_default-clause-none c =
    no_change (renaming_of c.args.g.now) c.args.old.now c.args.new.now c.keeps_rows.ensures c.keeps_rows-2.ensures c.requires
    (subst (λ (o : Option (ℕ × ℕ)). IfNone o ((d j : ℕ) → IsClassAt (entries_of c.args.old.now) d → ChangesAt (entries_of c.args.old.now) (entries_of c.args.new.now) d j → ⊥)) c.in_default.is c.in_ok-found.ensures.none)

pub returns-in_default-class_of_row-clause-none : goal.returns-in_default-class_of_row-clause-none
returns-in_default-class_of_row-clause-none c = λ k m x.
    let first = subst (λ (o : Option (ℕ × ℕ)). IfSome o (λ p. IsFirstChangeAt (entries_of c.args.old.now) (entries_of c.args.new.now) p.0 p.1)) c.in-Some.is c.in_ok-found.ensures.some in
    shows_class (renaming_of c.args.g.now) c.args.old.now c.args.new.now c.keeps_rows.ensures c.keeps_rows-2.ensures c.requires c.in-Some.place.0 c.in-Some.place.1 first c.in_default-class_of_row.ensures

pub returns-in_default-method_of_row-clause-none : goal.returns-in_default-method_of_row-clause-none
returns-in_default-method_of_row-clause-none c = λ k m x.
    let first = subst (λ (o : Option (ℕ × ℕ)). IfSome o (λ p. IsFirstChangeAt (entries_of c.args.old.now) (entries_of c.args.new.now) p.0 p.1)) c.in-Some.is c.in_ok-found.ensures.some in
    shows_method (renaming_of c.args.g.now) c.args.old.now c.args.new.now c.keeps_rows.ensures c.keeps_rows-2.ensures c.requires c.in-Some.place.0 c.in-Some.place.1 first c.in_default-method_of_row.ensures

pub returns-clause-first : goal.returns-clause-first
returns-clause-first c =
    let first = subst (λ (o : Option (ℕ × ℕ)). IfSome o (λ p. IsFirstChangeAt (entries_of c.args.old.now) (entries_of c.args.new.now) p.0 p.1)) c.in-Some.is c.in_ok-found.ensures.some in
    first_of (renaming_of c.args.g.now) c.args.old.now c.args.new.now c.keeps_rows.ensures c.keeps_rows-2.ensures c.requires c.in-Some.place.0 c.in-Some.place.1 first _ _
    (sym c.in-Some-class_of_row.ensures ∙ ap Some (sym c.in_ok-of.ensures)) (sym c.in-Some-method_of_row.ensures ∙ ap Some (sym c.in_ok-key.ensures))
