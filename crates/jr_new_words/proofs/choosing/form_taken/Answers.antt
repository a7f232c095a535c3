use Rattle.std.proofs.Common.{◌≡◌, List, None, subst}
use Rattle.std.specs.Prelude.{IfSome}
use Rattle.std.specs.Result.{IfOk}
use Rattle.std.proofs.lemmas.Result.{IfOk-weaker}
use Rattle.jr_table.specs.Keys.{ClassKey}
use Rattle.jr_table.specs.Rows.{Row}
use Rattle.jr_table.specs.Entries.{class_of}
use Rattle.jr_table.specs.KeyView.{decl_of}
use Rattle.jr_lookup.specs.ScopeView.{scope_of}
use Rattle.jr_spell.specs.ReferenceView.{reference_of}
use Rattle.jr_spell.specs.Taken.{IsTaken, NoneBinds}
use Rattle.jr_new_words.specs.Scopes.{place_to}
use Rattle.jr_new_words.specs.Near.{IsNear}
use Rattle.jr_new_words.proofs.Oks.{some_weaker}
use Rattle.jr_new_words.proofs.NearScopes.{near_taken, near_none}
use Rattle.jr_new_words.proofs.choosing.form_taken.Goals as goal

pub returns-clause-some : goal.returns-clause-some
returns-clause-some c =
    let s = c.args.scopes.now in
    let table = s.programs.after.now in
    let r = reference_of c.args.reference.now in
    let d = decl_of c.args.target.now in
    let near = scope_of c.in_ok-scope.scope in
    let keys = c.lookups_are_exact.ensures.keys table c.keeps_rows.ensures in
    let is_near : IsNear near (place_to s) r.asked (class_of d) =
    subst (λ (k : ClassKey). IsNear near (place_to s) r.asked k) c.declaring_class.ensures c.in_ok-scope.ensures in
    subst (λ (rows : List Row). IfOk c.take_form.result (λ o. IfSome o (IsTaken rows (place_to s) r d))) c.requires.rows
    (IfOk-weaker c.take_form.result _ _ (λ o h. some_weaker o (IsTaken table near r d) (IsTaken table (place_to s) r d) (λ f t. near_taken table keys near (place_to s) r d is_near f t) h) c.take_form.ensures.some)

pub returns-clause-none : goal.returns-clause-none
returns-clause-none c =
    let s = c.args.scopes.now in
    let table = s.programs.after.now in
    let r = reference_of c.args.reference.now in
    let d = decl_of c.args.target.now in
    let near = scope_of c.in_ok-scope.scope in
    let keys = c.lookups_are_exact.ensures.keys table c.keeps_rows.ensures in
    let is_near : IsNear near (place_to s) r.asked (class_of d) =
    subst (λ (k : ClassKey). IsNear near (place_to s) r.asked k) c.declaring_class.ensures c.in_ok-scope.ensures in
    subst (λ (rows : List Row). IfOk c.take_form.result (λ o. o ≡ None → NoneBinds rows (place_to s) r d)) c.requires.rows
    (IfOk-weaker c.take_form.result _ _ (λ o h none. near_none table keys near (place_to s) r d is_near (h none)) c.take_form.ensures.none)
