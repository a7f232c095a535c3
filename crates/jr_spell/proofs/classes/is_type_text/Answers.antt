use Rattle.std.proofs.Common.{◌≡◌, ◌<◌, ◌↔◌, IsTrue, Some, None, sym, ap, subst, ◌∙◌, arith, length}
use Rattle.std.specs.Prelude.{MatchOption}
use Rattle.std.specs.List.{position_or_len, before_first, after_first}
use Rattle.std.proofs.lemmas.Str.Pattern.{split_once_first}
use Rattle.jr_table.specs.TypeView.{class_key_of}
use Rattle.jr_lookup.specs.ScopeView.{scope_of}
use Rattle.jr_table.specs.Context.{NamesClass}
use Rattle.jr_spell.specs.Binds.{is_dot, last_word}
use Rattle.jr_spell.proofs.Dots.{no_front, whole, front, last}
use Rattle.jr_spell.proofs.classes.is_type_text.Goals as goal

pub returns-in-None : goal.returns-in-None
returns-in-None c =
    let rows = c.args.table.now in
    let s = scope_of c.args.scope.now in
    let k = class_key_of c.args.class.now in
    let text = c.args.text.now in
    let split = split_once_first 46 c.as_str.result.now c.split_once.result c.split_once.ensures.cases (omega arith) in
    let none : position_or_len is_dot c.as_str.result.now ≡ length c.as_str.result.now =
    subst (λ o. MatchOption o (position_or_len is_dot c.as_str.result.now ≡ length c.as_str.result.now) (λ x. (position_or_len is_dot c.as_str.result.now < length c.as_str.result.now)
    × (x.0.now ≡ before_first is_dot c.as_str.result.now) × (x.1.now ≡ after_first is_dot c.as_str.result.now))) c.in-None.is split in
    let plain = subst (λ t. position_or_len is_dot t ≡ length t) c.as_str.ensures none in
    subst (λ o. IsTrue c.is_type.result ↔ NamesClass rows s o (last_word text) k) (sym (no_front text plain))
    (subst (λ n. IsTrue c.is_type.result ↔ NamesClass rows s None n k) (sym (whole text plain)) c.is_type.ensures)

pub returns-in_ok-last-in-Some : goal.returns-in_ok-last-in-Some
returns-in_ok-last-in-Some c =
    let rows = c.args.table.now in
    let s = scope_of c.args.scope.now in
    let k = class_key_of c.args.class.now in
    let text = c.args.text.now in
    let split = split_once_first 46 c.as_str.result.now c.split_once.result c.split_once.ensures.cases (omega arith) in
    let some : (position_or_len is_dot c.as_str.result.now < length c.as_str.result.now)
    × (c.in-Some.front.now ≡ before_first is_dot c.as_str.result.now) × (c.in-Some.last.now ≡ after_first is_dot c.as_str.result.now) =
    subst (λ o. MatchOption o (position_or_len is_dot c.as_str.result.now ≡ length c.as_str.result.now) (λ x. (position_or_len is_dot c.as_str.result.now < length c.as_str.result.now)
    × (x.0.now ≡ before_first is_dot c.as_str.result.now) × (x.1.now ≡ after_first is_dot c.as_str.result.now))) c.in-Some.is split in
    let dotted = subst (λ t. position_or_len is_dot t < length t) c.as_str.ensures some.0 in
    let first = c.in_ok-front-in-Some.ensures ∙ some.1 ∙ ap (before_first is_dot) c.as_str.ensures in
    let second = c.in_ok-last-in-Some.ensures ∙ some.2 ∙ ap (after_first is_dot) c.as_str.ensures in
    subst (λ o. IsTrue c.is_type_in.result ↔ NamesClass rows s o (last_word text) k) (ap Some first ∙ sym (front text dotted))
    (subst (λ n. IsTrue c.is_type_in.result ↔ NamesClass rows s (Some c.in_ok-front-in-Some.front) n k) (second ∙ sym (last text dotted)) c.is_type_in.ensures)
