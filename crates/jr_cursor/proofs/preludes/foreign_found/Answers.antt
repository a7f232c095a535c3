use Rattle.std.proofs.Common.{◌≡◌, Some, sym, ap, ◌∙◌}
use Rattle.std.specs.Prelude.{option_map}
use Rattle.std.proofs.lemmas.Option.{same_Some}
use Rattle.jr_table.specs.Decls.{Decl}
use Rattle.jr_table.specs.KeyView.{decl_of}
use Rattle.jr_cursor.proofs.Finding.{finds_to}
use Rattle.jr_cursor.proofs.preludes.foreign_found.Goals as goal

pub returns-in-Some : goal.returns-in-Some
returns-in-Some c =
    let is = ap (option_map decl_of) c.in-Some.is in
    finds_to c.args.table.now (λ (d : Decl). decl_of c.in-Some.decl ≡ d) (λ (d : Decl). option_map decl_of c.args.found ≡ Some d) (option_map decl_of c.foreign.result)
    (λ d e. is ∙ ap Some e) (λ d e own. (d, same_Some (decl_of c.in-Some.decl) d (sym is ∙ e), own)) c.foreign.ensures
