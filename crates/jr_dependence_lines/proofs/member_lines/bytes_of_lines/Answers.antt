use Rattle.std.proofs.Common.{◌≡◌, ◌<◌, ◌+◌, length, map, sym, ap, ◌∙◌, arith}
use Rattle.std.specs.List.{sum_by}
use Rattle.std.proofs.lemmas.List.{length-map}
use Rattle.std.proofs.lemmas.Result.{IfOk-weaker}
use Rattle.jr_sites.specs.declared.sites.PlacedSite.{PlacedSite}
use Rattle.jr_dependences.specs.Weights.{pair_weight}
use Rattle.jr_dependence_lines.proofs.Counting.{lines_len}
use Rattle.jr_dependence_lines.proofs.Listing.{all_keyed}
use Rattle.jr_dependence_lines.proofs.member_lines.bytes_of_lines.Goals as goal

pub weight_of-requires-clause-few : goal.weight_of-requires-clause-few
weight_of-requires-clause-few c = let few = c.in_ok-sites.ensures.few in let same = ap length c.deref-2.ensures.value in omega (arith, few, same)

pub weight_of-requires-clause-lens : goal.weight_of-requires-clause-lens
weight_of-requires-clause-lens c =
    let of = c.args.of.now in
    let places = c.args.texts.now.places.now in
    let sites : length c.deref-2.result.now ≡ length of.sites.items =
    sym (length-map c.deref-2.result.now (λ s. s.now)) ∙ ap length (ap (map (λ s. s.now)) c.deref-2.ensures.value ∙ c.in_ok-sites.ensures.row ∙ ap (map (λ (s : PlacedSite). s.site)) c.deref.ensures.value) ∙ length-map of.sites.items (λ (s : PlacedSite). s.site) in
    ap length (c.as_slice.ensures.value ∙ c.in_ok-lens.ensures) ∙ length-map places length ∙ c.requires ∙ sym sites

pub returns : goal.returns
returns c =
    let of = c.args.of.now in
    let head = c.args.texts.now.head.now in
    let places = c.args.texts.now.places.now in
    let keys = ap (map (λ s. s.now)) c.deref-2.ensures.value ∙ c.in_ok-sites.ensures.row ∙ ap (map (λ (s : PlacedSite). s.site)) c.deref.ensures.value in
    let lens : c.as_slice.result.now ≡ map length places = c.as_slice.ensures.value ∙ c.in_ok-lens.ensures in
    let each : c.in-Some.each ≡ length head + 3 = c.in-Some.ensures in
    IfOk-weaker c.weight_of.result _ _
    (λ n h. (h.list, all_keyed of (map (λ s. s.now) c.deref-2.result.now) keys h.list h.ordered h.exact, h.is ∙ (λ i. sum_by (pair_weight (each i) (lens i)) h.list) ∙ lines_len head places h.list)) c.weight_of.ensures
