use Rattle.std.proofs.Common.{refl, subst, inl, inr}
use Rattle.std.proofs.lemmas.Result.{IfOk-weaker}
use Rattle.jr_table.specs.Decls.{class_decl}
use Rattle.jr_table.specs.Found.{one}
use Rattle.jr_table.specs.TypeView.{class_key_of}
use Rattle.jr_table.specs.FoundView.{found_of}
use Rattle.jr_table.specs.Lookup.{FindsTypeNamed}
use Rattle.jr_lookup.specs.ScopeView.{scope_of}
use Rattle.jr_new_words.proofs.Founds.{class_is, no_class}
use Rattle.jr_new_words.proofs.looking.type_behind.Goals as goal

pub returns-in-None : goal.returns-in-None
returns-in-None c =
    let rows = c.args.table.now in
    let s = scope_of c.args.scope.now in
    let f = found_of c.in_ok-found.found in
    let each = c.lookups_are_exact.ensures.one rows c.keeps_rows.ensures in
    inr ((λ k x. no_class f c.in-None.ensures k (each.type_named s c.args.outer.now f (one (class_decl k)) c.in_ok-found.ensures x)), refl)

pub returns : goal.returns
returns c =
    let rows = c.args.table.now in
    let s = scope_of c.args.scope.now in
    let f = found_of c.in_ok-found.found in
    let k = class_key_of c.in-Some.key.now in
    let outer = subst (FindsTypeNamed rows s c.args.outer.now) (class_is f k c.in-Some.ensures) c.in_ok-found.ensures in
    IfOk-weaker c.member_type.result _ _ (λ x h. inl (k, outer, h)) c.member_type.ensures
