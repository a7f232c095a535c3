use Rattle.std.proofs.Common.{◌≡◌, Some, sym, subst}
use Rattle.std.specs.Prelude.{IfOk, option_map}
use Rattle.jr_table.specs.declared.decls.Decl as raw
use Rattle.jr_table.specs.KeyView.{decl_of}
use Rattle.jr_new_words.specs.Mappings.{decl_by, decl_to}
use Rattle.jr_new_words.specs.Scopes.{mapping_of}
use Rattle.jr_new_words.proofs.taking.image_of.Goals as goal

pub returns-in-Local : goal.returns-in-Local
returns-in-Local c =
    let m = mapping_of c.args.scopes.now in
    subst (λ (d : raw.Decl). IfOk c.local_image.result (λ o. option_map decl_of o ≡ decl_to m (decl_of d))) (sym c.in-Local.is) c.local_image.ensures

pub returns-in-Class : goal.returns-in-Class
returns-in-Class c =
    let m = mapping_of c.args.scopes.now in
    subst (λ (d : raw.Decl). IfOk c.keyed_image.result (λ o. option_map decl_of o ≡ decl_to m (decl_of d))) (sym c.in-Class.is)
    (subst (λ (d : raw.Decl). IfOk c.keyed_image.result (λ o. option_map decl_of o ≡ Some (decl_by m.keys (decl_of d)))) c.in-Class.is c.keyed_image.ensures)

pub returns-in-Field : goal.returns-in-Field
returns-in-Field c =
    let m = mapping_of c.args.scopes.now in
    subst (λ (d : raw.Decl). IfOk c.keyed_image-in-Field.result (λ o. option_map decl_of o ≡ decl_to m (decl_of d))) (sym c.in-Field.is)
    (subst (λ (d : raw.Decl). IfOk c.keyed_image-in-Field.result (λ o. option_map decl_of o ≡ Some (decl_by m.keys (decl_of d)))) c.in-Field.is c.keyed_image-in-Field.ensures)

pub returns-in-Method : goal.returns-in-Method
returns-in-Method c =
    let m = mapping_of c.args.scopes.now in
    subst (λ (d : raw.Decl). IfOk c.keyed_image-in-Method.result (λ o. option_map decl_of o ≡ decl_to m (decl_of d))) (sym c.in-Method.is)
    (subst (λ (d : raw.Decl). IfOk c.keyed_image-in-Method.result (λ o. option_map decl_of o ≡ Some (decl_by m.keys (decl_of d)))) c.in-Method.is c.keyed_image-in-Method.ensures)

pub returns-in-Ctor : goal.returns-in-Ctor
returns-in-Ctor c =
    let m = mapping_of c.args.scopes.now in
    subst (λ (d : raw.Decl). IfOk c.keyed_image-in-Ctor.result (λ o. option_map decl_of o ≡ decl_to m (decl_of d))) (sym c.in-Ctor.is)
    (subst (λ (d : raw.Decl). IfOk c.keyed_image-in-Ctor.result (λ o. option_map decl_of o ≡ Some (decl_by m.keys (decl_of d)))) c.in-Ctor.is c.keyed_image-in-Ctor.ensures)
