use Rattle.std.proofs.Common.{refl, inl, inr}
use Rattle.std.proofs.lemmas.Result.{IfOk-weaker}
use Rattle.jr_table.specs.TypeView.{class_key_of}
use Rattle.jr_table.specs.FoundView.{found_of}
use Rattle.jr_table.specs.Lookup.{FindsFieldIn}
use Rattle.jr_table.specs.Context.{IsSuperclass}
use Rattle.jr_table.specs.Binding.{FindsIn}
use Rattle.jr_lookup.specs.ScopeView.{scope_of}
use Rattle.jr_new_words.proofs.Parents.{no_superclass, the_superclass}
use Rattle.jr_new_words.proofs.superclasses.super_field_found.Goals as goal

pub returns-in-None : goal.returns-in-None
returns-in-None c = inr (no_superclass c.args.table.now c.keeps_rows.ensures _ c.in-None.ensures, refl)

pub returns-in-Some : goal.returns-in-Some
returns-in-Some c =
    let rows = c.args.table.now in
    let s = scope_of c.args.scope.now in
    let p = class_key_of c.in-Some.parent.now in
    let above = the_superclass rows c.keeps_rows.ensures s.class p c.in-Some.ensures in
    IfOk-weaker c.field_of.result (λ f. FindsFieldIn rows s p c.args.name.now (found_of f)) (λ f. FindsIn (IsSuperclass rows s.class) (λ k x. FindsFieldIn rows s k c.args.name.now x) (found_of f))
    (λ f finds. inl (p, above, finds))
    c.field_of.ensures
