use Rattle.std.proofs.Common.{refl, sym, subst}
use Rattle.std.specs.Result.{IfOk}
use Rattle.std.proofs.lemmas.Result.{IfOk-weaker}
use Rattle.jr_table.specs.Found.{nothing}
use Rattle.jr_table.specs.FoundView.{found_of}
use Rattle.jr_table.specs.TypeView.{class_key_of}
use Rattle.jr_table.specs.Lookup.{FindsFieldIn}
use Rattle.jr_new_words.specs.Mappings.{FindsNext}
use Rattle.jr_new_words.specs.declared.fronts.InFront as raw
use Rattle.jr_new_words.specs.FrontView.{in_front_of}
use Rattle.jr_new_words.specs.Scopes.{rows_of, mapping_of, context_of}
use Rattle.jr_new_words.proofs.Kept.{moved}
use Rattle.jr_new_words.proofs.classes.next_found.Goals as goal

pub returns-in-Class : goal.returns-in-Class
returns-in-Class c =
    let s = c.args.scopes.now in
    subst (λ (v : raw.InFront). IfOk c.left_in.result (λ f. FindsNext (rows_of s) (mapping_of s) (context_of s) (in_front_of v) c.args.name.now (found_of f))) (sym c.in-Class.is) c.left_in.ensures

pub returns-in-Value : goal.returns-in-Value
returns-in-Value c =
    let s = c.args.scopes.now in
    let k = class_key_of c.in-Value.class.now in
    subst (λ (v : raw.InFront). IfOk c.field_of.result (λ f. FindsNext (rows_of s) (mapping_of s) (context_of s) (in_front_of v) c.args.name.now (found_of f))) (sym c.in-Value.is)
    (IfOk-weaker c.field_of.result _ _ (λ f h. moved s c.requires (λ rows x. FindsFieldIn rows x k c.args.name.now (found_of f)) h) c.field_of.ensures)

pub returns-in-Neither : goal.returns-in-Neither
returns-in-Neither c =
    let s = c.args.scopes.now in
    subst (λ (v : raw.InFront). FindsNext (rows_of s) (mapping_of s) (context_of s) (in_front_of v) c.args.name.now nothing) (sym c.in-Neither.is) refl
