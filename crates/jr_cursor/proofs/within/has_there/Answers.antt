use Rattle.std.proofs.Common.{◌≡◌, Option, Some, ap, subst}
use Rattle.std.specs.Prelude.{option_map}
use Rattle.std.proofs.lemmas.Result.{IfOk-weaker}
use Rattle.jr_table.specs.Decls.{Decl}
use Rattle.jr_table.specs.KeyView.{decl_of}
use Rattle.jr_members.specs.PartView.{written_of}
use Rattle.jr_cursor.specs.Names.{Finds, own_name, HasWithin}
use Rattle.jr_cursor.proofs.Finding.{finds_more}
use Rattle.jr_cursor.proofs.within.has_there.Goals as goal

pub returns-in-None : goal.returns-in-None
returns-in-None c =
    let rows = c.args.table.now in
    let w = written_of c.args.written.now in
    let b = c.args.bound.now in
    let at = c.args.at in
    let first = subst (λ (x : Option Decl). Finds rows (λ (d : Decl). x ≡ Some d) (option_map decl_of c.foreign_found.result)) c.in_ok-own.ensures c.foreign_found.ensures in
    IfOk-weaker c.has_within.result _ _ (λ o h.
    finds_more rows (λ (d : Decl). own_name at w.key w.part ≡ Some d) (HasWithin at w b) (option_map decl_of c.foreign_found.result) (option_map decl_of o) (ap (option_map decl_of) c.in-None.is) first h) c.has_within.ensures
