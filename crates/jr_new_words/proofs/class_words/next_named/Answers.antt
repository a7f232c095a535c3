use Rattle.std.proofs.Common.{refl, sym, subst}
use Rattle.std.specs.Result.{IfOk}
use Rattle.jr_table.specs.Found.{Found, nothing}
use Rattle.jr_images.specs.Words.{InFront, neither}
use Rattle.jr_new_words.specs.Mappings.{FindsNext, StandsSo}
use Rattle.jr_new_words.specs.declared.fronts.InFront as raw
use Rattle.jr_new_words.specs.FrontView.{in_front_of}
use Rattle.jr_new_words.specs.Scopes.{rows_of, mapping_of, context_of}
use Rattle.jr_new_words.proofs.ClassesInFront.{stands_neither}
use Rattle.jr_new_words.proofs.class_words.next_named.Goals as goal

pub returns-in-Class : goal.returns-in-Class
returns-in-Class c =
    let s = c.args.scopes.now in
    subst (λ (v : raw.InFront). IfOk c.member_stands.result (λ w. (f : Found) × FindsNext (rows_of s) (mapping_of s) (context_of s) (in_front_of v) c.args.name.now f
    × StandsSo (rows_of s) (mapping_of s) (context_of s) f (in_front_of w))) (sym c.in-Class.is) c.member_stands.ensures

pub returns-in-Value : goal.returns-in-Value
returns-in-Value c =
    let s = c.args.scopes.now in
    subst (λ (v : raw.InFront). IfOk c.field_stands.result (λ w. (f : Found) × FindsNext (rows_of s) (mapping_of s) (context_of s) (in_front_of v) c.args.name.now f
    × StandsSo (rows_of s) (mapping_of s) (context_of s) f (in_front_of w))) (sym c.in-Value.is) c.field_stands.ensures

pub returns-in-Neither : goal.returns-in-Neither
returns-in-Neither c =
    let s = c.args.scopes.now in
    subst (λ (v : raw.InFront). (f : Found) × FindsNext (rows_of s) (mapping_of s) (context_of s) (in_front_of v) c.args.name.now f × StandsSo (rows_of s) (mapping_of s) (context_of s) f neither) (sym c.in-Neither.is)
    (nothing, refl, stands_neither (rows_of s) (mapping_of s) (context_of s) nothing (λ d e. cc))
