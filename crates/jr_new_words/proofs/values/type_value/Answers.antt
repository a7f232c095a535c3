use Rattle.std.proofs.Common.{◌≡◌, sym, subst}
use Rattle.jr_table.specs.Keys.{int, boolean, void, null, class}
use Rattle.jr_table.specs.TypeView.{class_key_of, ty_of}
use Rattle.jr_table.specs.declared.types.Ty as raw
use Rattle.jr_images.specs.Words.{neither}
use Rattle.jr_new_words.specs.FrontView.{in_front_of}
use Rattle.jr_new_words.specs.Scopes.{rows_of, mapping_of}
use Rattle.jr_new_words.specs.Valued.{IsValue}
use Rattle.jr_new_words.proofs.ValuesInFront as values
use Rattle.jr_new_words.proofs.values.type_value.Goals as goal

pub returns-in-Int : goal.returns-in-Int
returns-in-Int c =
    let s = c.args.scopes.now in
    subst (λ (t : raw.Ty). IsValue (rows_of s) (mapping_of s) (λ k. ty_of t ≡ class k) neither) (sym c.in-Int.is) (values.no_value (rows_of s) (mapping_of s) (λ k. int ≡ class k) (λ k e. cc))

pub returns-in-Boolean : goal.returns-in-Boolean
returns-in-Boolean c =
    let s = c.args.scopes.now in
    subst (λ (t : raw.Ty). IsValue (rows_of s) (mapping_of s) (λ k. ty_of t ≡ class k) neither) (sym c.in-Boolean.is) (values.no_value (rows_of s) (mapping_of s) (λ k. boolean ≡ class k) (λ k e. cc))

pub returns-in-Void : goal.returns-in-Void
returns-in-Void c =
    let s = c.args.scopes.now in
    subst (λ (t : raw.Ty). IsValue (rows_of s) (mapping_of s) (λ k. ty_of t ≡ class k) neither) (sym c.in-Void.is) (values.no_value (rows_of s) (mapping_of s) (λ k. void ≡ class k) (λ k e. cc))

pub returns-in-Null : goal.returns-in-Null
returns-in-Null c =
    let s = c.args.scopes.now in
    subst (λ (t : raw.Ty). IsValue (rows_of s) (mapping_of s) (λ k. ty_of t ≡ class k) neither) (sym c.in-Null.is) (values.no_value (rows_of s) (mapping_of s) (λ k. null ≡ class k) (λ k e. cc))

pub returns-in-Class : goal.returns-in-Class
returns-in-Class c =
    let s = c.args.scopes.now in
    subst (λ (t : raw.Ty). IsValue (rows_of s) (mapping_of s) (λ k. ty_of t ≡ class k) (in_front_of c.class_value.result)) (sym c.in-Class.is)
    (values.type_class (rows_of s) (mapping_of s) (class_key_of c.in-Class.key) (in_front_of c.class_value.result) c.class_value.ensures)
