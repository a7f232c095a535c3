use Rattle.std.proofs.Common.{sym, subst}
use Rattle.std.specs.Result.{IfOk}
use Rattle.jr_table.specs.declared.answers.Answer.{Answer}
use Rattle.jr_table.specs.Found.{Found}
use Rattle.jr_table.specs.Lookup.{shown}
use Rattle.jr_images.specs.Words.{neither}
use Rattle.jr_new_words.specs.Mappings.{StandsSo}
use Rattle.jr_new_words.specs.FrontView.{in_front_of}
use Rattle.jr_new_words.specs.Scopes.{rows_of, mapping_of, context_of, rows_to}
use Rattle.jr_new_words.proofs.Nothings.{shows_one, nothing_no_one, many_no_one, private_no_one, static_no_one}
use Rattle.jr_new_words.proofs.ClassesInFront.{stands_neither}
use Rattle.jr_new_words.proofs.class_words.answer_stands.Goals as goal

pub returns-in-One : goal.returns-in-One
returns-in-One c =
    let s = c.args.scopes.now in
    let P = λ (f : Found). IfOk c.row_stands.result (λ w. StandsSo (rows_of s) (mapping_of s) (context_of s) f (in_front_of w)) in
    subst (λ (a : Answer). P (shown (rows_to s) a)) (sym c.in-One.is) (subst P (sym (shows_one (rows_to s) c.in-One.number)) c.row_stands.ensures)

pub returns-in-Nothing : goal.returns-in-Nothing
returns-in-Nothing c =
    let s = c.args.scopes.now in
    let P = λ (a : Answer). StandsSo (rows_of s) (mapping_of s) (context_of s) (shown (rows_to s) a) neither in
    subst P (sym c.in-Nothing.is) (stands_neither (rows_of s) (mapping_of s) (context_of s) _ (λ d e. nothing_no_one (rows_to s) d e))

pub returns-in-Many : goal.returns-in-Many
returns-in-Many c =
    let s = c.args.scopes.now in
    let P = λ (a : Answer). StandsSo (rows_of s) (mapping_of s) (context_of s) (shown (rows_to s) a) neither in
    subst P (sym c.in-Many.is) (stands_neither (rows_of s) (mapping_of s) (context_of s) _ (λ d e. many_no_one (rows_to s) _ _ d e))

pub returns-in-NotAccessible : goal.returns-in-NotAccessible
returns-in-NotAccessible c =
    let s = c.args.scopes.now in
    let P = λ (a : Answer). StandsSo (rows_of s) (mapping_of s) (context_of s) (shown (rows_to s) a) neither in
    subst P (sym c.in-NotAccessible.is) (stands_neither (rows_of s) (mapping_of s) (context_of s) _ (λ d e. private_no_one (rows_to s) _ d e))

pub returns-in-FromStatic : goal.returns-in-FromStatic
returns-in-FromStatic c =
    let s = c.args.scopes.now in
    let P = λ (a : Answer). StandsSo (rows_of s) (mapping_of s) (context_of s) (shown (rows_to s) a) neither in
    subst P (sym c.in-FromStatic.is) (stands_neither (rows_of s) (mapping_of s) (context_of s) _ (λ d e. static_no_one (rows_to s) _ d e))
