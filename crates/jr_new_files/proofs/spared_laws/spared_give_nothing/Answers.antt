use Rattle.jr_images.specs.Images.{rows_to}
use Rattle.jr_new_files.proofs.MembersStay.{part_gives}
use Rattle.jr_new_files.proofs.spared_laws.spared_give_nothing.Goals as goal

pub returns : goal.returns
returns g c = record {
  nothing = λ tells rows super_at naming names are after alike words k base part keyed spared own avoids sound found.
      let keys = c.lookups_are_exact.ensures.keys rows are in
      part_gives tells rows naming names k
      (record {
        are = are;
        are_after = after;
        keys = keys;
        keys_after = c.lookups_are_exact.ensures.keys (rows_to naming rows) after;
        bound = c.types_are_exact.ensures.bound rows are keys;
        alike = alike;
        words = words;
        spared = spared;
        own = own;
      })
      super_at base part keyed avoids sound found;
}
