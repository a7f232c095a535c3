use Rattle.std.proofs.Common.{◌≡◌}
use Rattle.jr_table.specs.Decls.{class_decl}
use Rattle.jr_table.specs.Found.{one}
use Rattle.jr_table.specs.FoundView.{found_of}
use Rattle.jr_table.specs.TypeView.{class_key_of}
use Rattle.jr_new_words.specs.FrontView.{in_front_of}
use Rattle.jr_new_words.specs.Scopes.{rows_of, mapping_of}
use Rattle.jr_new_words.proofs.Founds.{class_is, no_class}
use Rattle.jr_new_words.proofs.ValuesInFront as values
use Rattle.jr_new_words.proofs.values.found_value.Goals as goal

pub returns-in-None : goal.returns-in-None
returns-in-None c =
    let s = c.args.scopes.now in
    let f = found_of c.args.found.now in
    values.no_value (rows_of s) (mapping_of s) (λ t. f ≡ one (class_decl t)) (λ t e. no_class f c.in-None.ensures t e)

pub returns-in-Some : goal.returns-in-Some
returns-in-Some c =
    let s = c.args.scopes.now in
    let f = found_of c.args.found.now in
    let k = class_key_of c.in-Some.key.now in
    values.found_class (rows_of s) (mapping_of s) f k (class_is f k c.in-Some.ensures) (in_front_of c.class_value.result) c.class_value.ensures
