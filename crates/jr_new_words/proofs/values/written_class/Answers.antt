use Rattle.std.proofs.Common.{sym, subst}
use Rattle.std.specs.Prelude.{option_map}
use Rattle.std.specs.Result.{IfOk}
use Rattle.std.proofs.lemmas.Result.{IfOk-weaker}
use Rattle.jr_table.specs.Decls.{class_decl}
use Rattle.jr_table.specs.Found.{one}
use Rattle.jr_table.specs.FoundView.{found_of}
use Rattle.jr_table.specs.Lookup.{FindsTypeNamed, FindsTypeOf}
use Rattle.jr_table.specs.Binding.{FindsIn}
use Rattle.jr_new_words.specs.Scopes.{rows_of, context_of}
use Rattle.jr_new_words.specs.Valued.{WritesFound}
use Rattle.jr_new_words.proofs.Kept.{moved_old}
use Rattle.jr_new_words.proofs.values.written_class.Goals as goal

pub returns-in-None : goal.returns-in-None
returns-in-None c =
    let s = c.args.scopes.now in
    let name = c.args.name.now in
    subst (λ o. IfOk c.type_named.result (λ f. WritesFound (rows_of s) (context_of s) (option_map (λ n. n.now) o) name (found_of f))) (sym c.in-None.is)
    (IfOk-weaker c.type_named.result _ _ (λ f h. moved_old s c.requires (λ x. FindsTypeNamed (rows_of s) x name (found_of f)) h) c.type_named.ensures)

pub returns-in-Some : goal.returns-in-Some
returns-in-Some c =
    let s = c.args.scopes.now in
    let name = c.args.name.now in
    let outer = c.in-Some.outer.now in
    subst (λ o. IfOk c.type_behind.result (λ f. WritesFound (rows_of s) (context_of s) (option_map (λ n. n.now) o) name (found_of f))) (sym c.in-Some.is)
    (IfOk-weaker c.type_behind.result _ _ (λ f h. moved_old s c.requires
    (λ x. FindsIn (λ k. FindsTypeNamed (rows_of s) x outer (one (class_decl k))) (λ k g. FindsTypeOf (rows_of s) x k name g) (found_of f)) h) c.type_behind.ensures)
