use Rattle.std.proofs.Common.{◌≡◌, ◌↔◌, sym, subst}
use Rattle.jr_table.specs.TypeView.{class_key_of}
use Rattle.jr_table.specs.KeyView.{decl_of}
use Rattle.jr_table.specs.Found.{one}
use Rattle.jr_lookup.specs.ScopeView.{scope_of}
use Rattle.std.proofs.lemmas.Result.{IfOk-weaker}
use Rattle.jr_table.specs.declared.answers.Answer.TheVariants as number
use Rattle.jr_table.specs.Lookup.{shown, find_field_in, find_method_of, FindsFieldIn, FindsMethodOf}
use Rattle.jr_spell.specs.Binds.{FindsMember}
use Rattle.jr_spell.proofs.Founds.{found_is, nothing_shown}
use Rattle.jr_spell.proofs.members.member_answer.Goals as goal

pub returns-in-Field : goal.returns-in-Field
returns-in-Field c =
    let rows = c.args.table.now in
    let s = scope_of c.args.scope.now in
    let k = class_key_of c.args.class.now in
    let name = c.in-Field.key.name in
    let exact = c.lookups_are_exact.ensures.keys rows c.keeps_rows.ensures in
    let both = found_is (find_field_in rows s k name) (FindsFieldIn rows s k name) (exact.field_in s k name) _ (sym c.field_answer.ensures) in
    subst (λ t. (shown rows c.field_answer.result ≡ one (decl_of t)) ↔ FindsMember rows s c.args.args.now k (decl_of t)) (sym c.in-Field.is) (both _)

pub returns-in-Method : goal.returns-in-Method
returns-in-Method c =
    let rows = c.args.table.now in
    let s = scope_of c.args.scope.now in
    let k = class_key_of c.args.class.now in
    let name = c.in-Method.key.name in
    let args = c.args.args.now in
    let exact = c.lookups_are_exact.ensures.keys rows c.keeps_rows.ensures in
    IfOk-weaker c.method_answer.result _ _
    (λ a e. subst (λ t. (shown rows a ≡ one (decl_of t)) ↔ FindsMember rows s args k (decl_of t)) (sym c.in-Method.is)
    (found_is (find_method_of rows s k name args) (FindsMethodOf rows s k name args) (exact.method_of s k name args) _ (sym e) _))
    c.method_answer.ensures

pub returns-in-Class : goal.returns-in-Class
returns-in-Class c =
    let rows = c.args.table.now in
    subst (λ t. (shown rows number.Nothing ≡ one (decl_of t)) ↔ FindsMember rows (scope_of c.args.scope.now) c.args.args.now (class_key_of c.args.class.now) (decl_of t)) (sym c.in-Class.is)
    (λ e. absurd (nothing_shown rows _ e), λ x. absurd x)

pub returns-in-Ctor : goal.returns-in-Ctor
returns-in-Ctor c =
    let rows = c.args.table.now in
    subst (λ t. (shown rows number.Nothing ≡ one (decl_of t)) ↔ FindsMember rows (scope_of c.args.scope.now) c.args.args.now (class_key_of c.args.class.now) (decl_of t)) (sym c.in-Ctor.is)
    (λ e. absurd (nothing_shown rows _ e), λ x. absurd x)

pub returns-in-Local : goal.returns-in-Local
returns-in-Local c =
    let rows = c.args.table.now in
    subst (λ t. (shown rows number.Nothing ≡ one (decl_of t)) ↔ FindsMember rows (scope_of c.args.scope.now) c.args.args.now (class_key_of c.args.class.now) (decl_of t)) (sym c.in-Local.is)
    (λ e. absurd (nothing_shown rows _ e), λ x. absurd x)
