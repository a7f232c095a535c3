use Rattle.std.proofs.Common.{ℕ, sym, subst}
use Rattle.jr_new_words.specs.MappingView.{renumbering_of}
use Rattle.jr_new_words.specs.Scopes.{Makes}
use Rattle.jr_new_bodies.specs.Known.{mapping_of}
use Rattle.jr_extract_lists.proofs.Places.{depth_is, made_so}
use Rattle.jr_extract_lists.proofs.walks.make.Goals as goal

pub make-requires : goal.make-requires
make-requires c =
    let h = c.args.here.now in
    record {
      kept = c.requires.known;
      makes = subst (λ (n : ℕ). Makes (mapping_of h).locals (renumbering_of c.args.numbers.now) n) (sym (depth_is h.scopes)) c.requires.makes;
    }

pub returns : goal.returns
returns c = made_so c.make.result c.args.here.now _ (renumbering_of c.args.numbers.now) c.make.ensures.kept c.make.ensures.rows c.make.ensures.context c.make.ensures.mapping
