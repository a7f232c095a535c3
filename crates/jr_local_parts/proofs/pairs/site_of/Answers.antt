use Rattle.std.proofs.Common.{ℕ, refl, ap}
use Rattle.std.proofs.lemmas.Option.{slice_get_read}
use Rattle.jr_text.specs.declared.spans.Place.{Place}
use Rattle.jr_local_parts.proofs.PairedSites.{found_so}
use Rattle.jr_local_parts.proofs.pairs.site_of.Goals as goal

pub returns : goal.returns
returns c =
    let p = c.args.piece in
    let n = c.args.number in
    record {
      site = found_so p.sites.items n c.swap_remove-site.result (slice_get_read p.sites.items _ n c.swap_remove-site.result refl c.requires.sites c.swap_remove-site.ensures.value);
      at = c.index.result.now;
      stands = slice_get_read p.places.items _ n c.index.result.now refl c.requires.places c.index.ensures;
      place = ap (λ (k : ℕ). let there : Place = record { file = c.args.file; at = k } in there) c.in_ok-at.ensures;
    }
