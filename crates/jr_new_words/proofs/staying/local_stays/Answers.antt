use Rattle.std.proofs.Common.{sym, ◌∙◌}
use Rattle.jr_table.specs.Decls.{local_decl}
use Rattle.jr_scopes.specs.Helds.{key_of}
use Rattle.jr_new_words.specs.MappingView.{keys_of}
use Rattle.jr_new_words.specs.Scopes.{member_of}
use Rattle.jr_new_words.proofs.Images.{keeps_name}
use Rattle.jr_new_words.proofs.staying.local_stays.Goals as goal

pub returns-else-is_renamed_local : goal.returns-else-is_renamed_local
returns-else-is_renamed_local c = λ t.
    let s = c.args.scopes.now in
    let found = c.finds_local.ensures t in
    record {
      to = found.0;
      kept = found.1;
      keeps = keeps_name (keys_of s.programs.keys) (local_decl (key_of (member_of s) c.args.number)) c.args.name.now (sym c.is_renamed_local.ensures ∙ c.if-is_renamed_local.false);
      image = found.2;
    }
