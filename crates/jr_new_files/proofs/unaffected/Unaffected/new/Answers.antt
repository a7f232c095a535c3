use Rattle.std.proofs.Common.{sym, subst}
use Rattle.std.specs.Prelude.{IfSome}
use Rattle.jr_new_words.specs.Mappings.{HaveImages}
use Rattle.jr_new_words.specs.MappingView.{keys_of}
use Rattle.jr_new_files.specs.Unaffected.{IsUnaffected}
use Rattle.jr_new_files.proofs.unaffected.Unaffected.new.Goals as goal

pub of_rename-requires : goal.of_rename-requires
of_rename-requires c =
    let t = c.args.tables.now in
    subst (λ k. HaveImages (keys_of k) t.before.now t.after.now) c.in-Renamed.is c.requires

pub returns-in-Renamed : goal.returns-in-Renamed
returns-in-Renamed c =
    let t = c.args.tables.now in
    subst (λ k. IfSome c.of_rename.result (IsUnaffected (keys_of k) t.before.now)) (sym c.in-Renamed.is) c.of_rename.ensures
