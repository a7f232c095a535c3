use Rattle.std.proofs.Common.{◌≡◌, [], ◌∷◌, ◌++◌, string_bytes, Contains, true≢false, sym, ap, ◌∙◌, subst, refl, append_assoc}
use Rattle.std.proofs.lemmas.List.{append-nil}
use Rattle.std.specs.List.Sorted.{IsStrictlySortedBy}
use Rattle.std.specs.Map.{keys_of}
use Rattle.std.specs.String.{string_cmp}
use Rattle.serde_json.specs.Data.{object}
use Rattle.serde_json.specs.View.{members_view}
use Rattle.serde_json.proofs.Views.{Entry}
use Rattle.jr_script.specs.StepFaults.{IsFirstSurplus}
use Rattle.jr_script.proofs.StepLaws.{Tells-weaker}
use Rattle.jr_script.proofs.NameLaws.{texts_of}
use Rattle.jr_script.proofs.MemberLaws.{AllAmong, AllAmong-push, HasOnly-members, IsFirstSurplus-at}
use Rattle.jr_script.proofs.members.only_names.Goals as goal

pub loop-name-init : goal.loop-name-init
loop-name-init c = ([], cc (c.into_iter-name-iterator.ensures.into_iter_gives, c.iter-name-items.ensures.rest), tt)

pub returns-then-not-is_among-clause-fault : goal.returns-then-not-is_among-clause-fault
returns-then-not-is_among-clause-fault c =
    let done = c.loop-name.invariant.0 in
    let e : Entry = (c.in-Some.name.now, c.in-Some.«_value».now) in
    let left = c.next.new.self in
    let all : c.args.members.now.entries ≡ done ++ e ∷ left = c.loop-name.invariant.1 ∙ ap (λ es. done ++ es) c.in-Some.ensures.steps in
    let other = λ (h : Contains (texts_of c.args.names.now) (string_bytes e.0)).
    true≢false (sym (c.is_among.ensures.1 (subst (Contains (texts_of c.args.names.now)) (sym c.as_str.ensures.value) h)) ∙ c.if-not-is_among.true) in
    let first = IsFirstSurplus-at (object (members_view c.args.members.now.entries)) (texts_of c.args.names.now) done e left (ap (λ es. object (members_view es)) all)
    (subst (λ es. IsStrictlySortedBy string_cmp (keys_of es)) all c.iter-name-items.ensures.ordered) c.loop-name.invariant.2 other in
    Tells-weaker _ (IsFirstSurplus (object (members_view c.args.members.now.entries)) (texts_of c.args.names.now))
    (λ name is. subst (IsFirstSurplus (object (members_view c.args.members.now.entries)) (texts_of c.args.names.now)) (sym (is ∙ c.as_str-then-not-is_among.ensures.value)) first)
    c.member_fault.result c.member_fault.ensures

pub loop-name-preserved : goal.loop-name-preserved
loop-name-preserved c =
    let done = c.loop-name.invariant.0 in
    let e : Entry = (c.in-Some.name.now, c.in-Some.«_value».now) in
    let left = c.next.new.self in
    let all : c.args.members.now.entries ≡ done ++ e ∷ left = c.loop-name.invariant.1 ∙ ap (λ es. done ++ es) c.in-Some.ensures.steps in (
      done ++ e ∷ [],
      all ∙ sym (append_assoc done (e ∷ []) left),
      AllAmong-push (texts_of c.args.names.now) done e c.loop-name.invariant.2
          (subst (Contains (texts_of c.args.names.now)) c.as_str.ensures.value (c.is_among.ensures.0 c.if-not-is_among.false)),
    )

pub returns-clause-ok : goal.returns-clause-ok
returns-clause-ok c = HasOnly-members (object (members_view c.args.members.now.entries)) (texts_of c.args.names.now) c.args.members.now.entries refl
    (subst (AllAmong (texts_of c.args.names.now)) (sym (c.loop-name.invariant.1 ∙ ap (λ es. c.loop-name.invariant.0 ++ es) c.in-None.ensures.steps.0 ∙ append-nil c.loop-name.invariant.0)) c.loop-name.invariant.2)
