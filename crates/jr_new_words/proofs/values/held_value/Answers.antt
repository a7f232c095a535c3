use Rattle.std.proofs.Common.{◌≡◌, sym, subst}
use Rattle.std.specs.Result.{IfOk}
use Rattle.jr_table.specs.Keys.{int, boolean, class}
use Rattle.jr_table.specs.TypeView.{ty_of}
use Rattle.jr_table.specs.Context.{IsLocalType, scope_of}
use Rattle.jr_scopes.specs.declared.helds.HeldType as raw
use Rattle.jr_scopes.specs.Helds.{type_of}
use Rattle.jr_images.specs.Words.{neither}
use Rattle.jr_new_words.specs.FrontView.{in_front_of}
use Rattle.jr_new_words.specs.Scopes.{rows_of, mapping_of, context_of}
use Rattle.jr_new_words.specs.Valued.{IsValue}
use Rattle.jr_new_words.proofs.ValuesInFront as values
use Rattle.jr_new_words.proofs.values.held_value.Goals as goal

pub returns-in-Int : goal.returns-in-Int
returns-in-Int c =
    let s = c.args.scopes.now in
    subst (λ (t : raw.HeldType). IsValue (rows_of s) (mapping_of s) (λ k. IsLocalType (rows_of s) (scope_of (context_of s)) (type_of t) (class k)) neither) (sym c.in-Int.is)
    (values.no_value (rows_of s) (mapping_of s) (λ k. class k ≡ int) (λ k e. cc))

pub returns-in-Boolean : goal.returns-in-Boolean
returns-in-Boolean c =
    let s = c.args.scopes.now in
    subst (λ (t : raw.HeldType). IsValue (rows_of s) (mapping_of s) (λ k. IsLocalType (rows_of s) (scope_of (context_of s)) (type_of t) (class k)) neither) (sym c.in-Boolean.is)
    (values.no_value (rows_of s) (mapping_of s) (λ k. class k ≡ boolean) (λ k e. cc))

pub returns-in-Known : goal.returns-in-Known
returns-in-Known c =
    let s = c.args.scopes.now in
    let ty = ty_of c.in-Known.ty.now in
    subst (λ (t : raw.HeldType). IsValue (rows_of s) (mapping_of s) (λ k. IsLocalType (rows_of s) (scope_of (context_of s)) (type_of t) (class k)) (in_front_of c.type_value.result)) (sym c.in-Known.is)
    (values.value_along (rows_of s) (mapping_of s) (λ k. ty ≡ class k) (λ k. class k ≡ ty) (λ k e. sym e) (λ k e. sym e) (in_front_of c.type_value.result) c.type_value.ensures)

pub returns-in-Named : goal.returns-in-Named
returns-in-Named c =
    let s = c.args.scopes.now in
    subst (λ (t : raw.HeldType). IfOk c.named_value.result (λ w. IsValue (rows_of s) (mapping_of s) (λ k. IsLocalType (rows_of s) (scope_of (context_of s)) (type_of t) (class k)) (in_front_of w))) (sym c.in-Named.is) c.named_value.ensures
