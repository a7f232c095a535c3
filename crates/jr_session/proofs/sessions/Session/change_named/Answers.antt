use Rattle.std.proofs.Common.{◌≡◌, ℕ, List, sym, ap, subst, ◌∙◌}
use Rattle.std.specs.Prelude.{Some, None, option_map}
use Rattle.std.proofs.lemmas.Result.{IfOk-weaker}
use Rattle.jr_names.specs.ReplyView.{reply_of}
use Rattle.jr_names.specs.Replies.{refactored}
use Rattle.jr_names.specs.SiteView.{pair_of}
use Rattle.jr_session.specs.declared.refactorings.Changed.TheVariants as changed
use Rattle.jr_session.specs.Changes.{put_back}
use Rattle.jr_session.specs.Refactoring.{IsChangedBy, IsTriedBy}
use Rattle.jr_session.proofs.Refactored.{reply_wrong, reply_crossed, reply_done, none_left, some_lost}
use Rattle.jr_session.proofs.sessions.Session.change_named.Goals as goal

pub returns-in-Wrong-clause-step : goal.returns-in-Wrong-clause-step
returns-in-Wrong-clause-step g c =
    let by : IsChangedBy c.args.self.now (put_back c.args.self.now.files c.args.made.changes.items) c.is_none-may_stay.result (changed.Wrong c.in-Wrong.fault) c.change_all.new.self = subst (λ r. IsChangedBy c.args.self.now (put_back c.args.self.now.files c.args.made.changes.items) c.is_none-may_stay.result r c.change_all.new.self) c.in-Wrong.is c.in_ok-fault.ensures.step in
    IfOk-weaker c.would_not_compile.result _ _ (λ reply e. reply_wrong c.args.self.now (put_back c.args.self.now.files c.args.made.changes.items) c.args.made.names.items c.args.made.respelled (option_map pair_of c.args.lost.now) c.in-Wrong.fault c.is_none-may_stay.result c.change_all.new.self by (reply_of reply) e) c.would_not_compile.ensures

pub returns-in-Some-clause-step : goal.returns-in-Some-clause-step
returns-in-Some-clause-step g c =
    let by : IsChangedBy c.args.self.now (put_back c.args.self.now.files c.args.made.changes.items) c.is_none-may_stay.result changed.Crossed c.change_all.new.self = subst (λ r. IsChangedBy c.args.self.now (put_back c.args.self.now.files c.args.made.changes.items) c.is_none-may_stay.result r c.change_all.new.self) c.in-Crossed.is c.in_ok-fault.ensures.step in
    let taken : c.args.lost.now ≡ Some c.in-Some.pair = sym c.take.ensures.value ∙ c.in-Some.is in
    reply_crossed c.args.self.now (put_back c.args.self.now.files c.args.made.changes.items) c.args.made.names.items c.args.made.respelled (option_map pair_of c.args.lost.now) c.is_none-may_stay.result c.change_all.new.self by (pair_of c.in-Some.pair) (ap (option_map pair_of) taken) (reply_of c.lost_dependence.result) c.lost_dependence.ensures

pub unreachable-requires : goal.unreachable-requires
unreachable-requires g c =
    let by : IsChangedBy c.args.self.now (put_back c.args.self.now.files c.args.made.changes.items) c.is_none-may_stay.result changed.Crossed c.change_all.new.self = subst (λ r. IsChangedBy c.args.self.now (put_back c.args.self.now.files c.args.made.changes.items) c.is_none-may_stay.result r c.change_all.new.self) c.in-Crossed.is c.in_ok-fault.ensures.step in
    let none : c.args.lost.now ≡ None = sym c.take.ensures.value ∙ c.in-None.is in
    some_lost c.args.lost.now c.is_none-may_stay.result c.is_none-may_stay.ensures by.1 none

pub returns-in-Done-clause-step : goal.returns-in-Done-clause-step
returns-in-Done-clause-step g c =
    let by : IsChangedBy c.args.self.now (put_back c.args.self.now.files c.args.made.changes.items) c.is_none-may_stay.result changed.Done c.change_all.new.self = subst (λ r. IsChangedBy c.args.self.now (put_back c.args.self.now.files c.args.made.changes.items) c.is_none-may_stay.result r c.change_all.new.self) c.in-Done.is c.in_ok-fault.ensures.step in
    let none : option_map pair_of c.args.lost.now ≡ None = ap (option_map pair_of) (none_left c.args.lost.now c.is_none-may_stay.result c.is_none-may_stay.ensures by.1) in
    reply_done c.args.self.now (put_back c.args.self.now.files c.args.made.changes.items) c.args.made.names.items c.args.made.respelled (option_map pair_of c.args.lost.now) c.is_none-may_stay.result c.change_all.new.self by none (refactored c.from_vec.result c.args.made.respelled) (ap (λ (ns : List (List ℕ)). refactored ns c.args.made.respelled) c.from_vec.ensures)
