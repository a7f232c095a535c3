use Rattle.std.proofs.Common.{List, ℕ, ap, subst, ◌∙◌}
use Rattle.std.proofs.lemmas.Result.{IfOk-weaker}
use Rattle.jr_table.specs.Decls.{Decl}
use Rattle.jr_local_moves.specs.ReferencePlaces.{places_of}
use Rattle.jr_local_uses.specs.LocalPlaces.{AreInOrder}
use Rattle.jr_local_uses.proofs.places.local_places.Goals as goal

pub returns : goal.returns
returns c =
    let rs = c.args.bound.now.references in
    let are = c.in_ok-places.ensures ∙ ap (λ (d : Decl). places_of c.args.start d rs rs) c.in_ok-wanted.ensures in
    IfOk-weaker c.in_order.result _ _ (λ v h. subst (λ (xs : List ℕ). AreInOrder xs v.items) are h) c.in_order.ensures
