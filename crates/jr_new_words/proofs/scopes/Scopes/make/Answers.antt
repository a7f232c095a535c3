use Rattle.std.proofs.Common.{length, refl}
use Rattle.jr_scopes.specs.Tracked.{helds_of}
use Rattle.jr_new_words.specs.Mappings.{Mapping, renumbered}
use Rattle.jr_new_words.specs.MappingView.{renumbering_of, made_of}
use Rattle.jr_new_words.specs.Scopes.{mapping_of, member_of, locals_in, context_of}
use Rattle.jr_new_words.proofs.Growing.{made_new, made_deep, made_depths}
use Rattle.jr_new_words.proofs.scopes.Scopes.make.Goals as goal

pub returns-clause-kept : goal.returns-clause-kept
returns-clause-kept c =
    let s = c.args.self.now in
    let r = renumbering_of c.args.numbers.now in
    let kept = c.requires.kept in
    let o : Mapping = record { keys = (mapping_of s).keys; locals = renumbered r; new = (mapping_of s).new } in
    let put = c.in_ok-put_made.ensures in
    record {
      rows = kept.rows;
      images = kept.images;
      class = kept.class;
      no_locals = kept.no_locals;
      image = kept.image;
      image_class = kept.image_class;
      image_static = kept.image_static;
      image_locals = kept.image_locals;
      tracked = kept.tracked;
      renamed_tracked = put.tracked;
      renamed = made_new (mapping_of s) (member_of s) r made_of c.args.numbers.now.made.now (locals_in s) (helds_of s.renamed) _ refl c.requires.makes put.locals kept.renamed;
      deep = made_deep (mapping_of s).locals r (length (locals_in s)) c.requires.makes;
      depths = made_depths (mapping_of s) o (mapping_of s).locals (member_of s) r (locals_in s) s.depths.items c.requires.makes kept.depths;
    }

pub returns-clause-context : goal.returns-clause-context
unfolding context_of
returns-clause-context c = refl
