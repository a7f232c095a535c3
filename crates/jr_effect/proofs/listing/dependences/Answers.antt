use Rattle.std.proofs.Common.{◌≡◌, length, map, sym, ap, ◌∙◌, arith}
use Rattle.std.specs.Prelude.{IsTrue}
use Rattle.std.proofs.lemmas.Result.{IfOk-weaker}
use Rattle.jr_table.specs.SameKeys.{same_field, field_decides}
use Rattle.jr_table.specs.SameDecls.{same_local, local_decides}
use Rattle.jr_table.specs.KeyView.{field_key_of, local_key_of}
use Rattle.jr_effect.proofs.Keyed.{depends_keyed}
use Rattle.jr_effect.proofs.RunCovers.{members_covered}
use Rattle.jr_effect.proofs.listing.dependences.Goals as goal

pub bare-requires : goal.bare-requires
bare-requires c = sym c.args.sites.now.nodes ∙ sym (ap length c.deref.ensures.value)

pub dependences_of-requires : goal.dependences_of-requires
dependences_of-requires c =
    let same : length c.deref-2.result.now ≡ length c.in_ok-row.row.items = ap length c.deref-2.ensures.value in
    let few = c.in_ok-row.ensures.few in
    omega (arith, same, few)

pub returns-clause-exact : goal.returns-clause-exact
returns-clause-exact c =
    IfOk-weaker c.dependences_of.result _ _
    (λ list exact d.
    let both = depends_keyed (λ x y. IsTrue (same_field (field_key_of x) (field_key_of y))) (λ x y. IsTrue (same_local (local_key_of x) (local_key_of y)))
    (λ x y. field_decides (field_key_of x) (field_key_of y)) (λ x y. local_decides (local_key_of x) (local_key_of y))
    c.args.sites.now.sites.items (map (λ s. s.now) c.deref-2.result.now)
    (ap (λ l. map (λ s. s.now) l) c.deref-2.ensures.value ∙ c.in_ok-row.ensures.row ∙ ap (λ l. map (λ s. s.site) l) c.deref.ensures.value)
    c.args.sites.now.graph.edges.items d in
    (λ at. both.0 ((exact d).0 at), λ h. (exact d).1 (both.1 h)))
    c.dependences_of.ensures.exact

pub returns-clause-cover : goal.returns-clause-cover
returns-clause-cover c = IfOk-weaker c.dependences_of.result _ _ (λ list exact. members_covered c.args.sites.now list.items exact) (returns-clause-exact c)
