use Rattle.std.proofs.Common.{◌≡◌, length, ap, ◌∙◌}
use Rattle.std.proofs.lemmas.List.{length-map}
use Rattle.std.proofs.lemmas.Result.{on_ok_weaker}
use Rattle.std.specs.Prelude.{decimal, ◌+◌}
use Rattle.jr_sites.specs.declared.sites.PlacedSite.{PlacedSite}
use Rattle.jr_dependence_lines.specs.Tallies.{all_told, place_texts}
use Rattle.jr_dependence_lines.proofs.Counting.{puts_as}
use Rattle.jr_dependence_lines.proofs.member_lines.put_graph.Goals as goal

pub tell_dependences-requires : goal.tell_dependences-requires
tell_dependences-requires c =
    let sites = c.args.of.now.sites.items in
    let places : c.as_slice-places.result.now ≡ place_texts c.args.start sites = c.as_slice-places.ensures.value ∙ c.in_ok-names.ensures ∙ ap (place_texts c.args.start) c.deref.ensures.value in
    ap length places ∙ length-map sites (λ (s : PlacedSite). decimal (c.args.start + s.at))

pub returns : goal.returns
returns c =
    let places : c.as_slice-places.result.now ≡ place_texts c.args.start c.args.of.now.sites.items = c.as_slice-places.ensures.value ∙ c.in_ok-names.ensures ∙ ap (place_texts c.args.start) c.deref.ensures.value in
    on_ok_weaker c.tell_dependences.result
    (λ h. (h.0, h.1, puts_as c.args.tally.now c.tell_dependences.new.tally _ _ (λ i. all_told c.args.head.now (places i) h.0) h.2))
    c.tell_dependences.ensures
