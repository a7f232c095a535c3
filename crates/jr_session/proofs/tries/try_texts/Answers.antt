use Rattle.std.proofs.Common.{List, sym, subst}
use Rattle.jr_sources.specs.Sources.{Source}
use Rattle.jr_sources.specs.Analysed.{IsKeptAnalysis}
use Rattle.jr_session.specs.declared.changes.Change.{Change}
use Rattle.jr_session.specs.Changes.{put_back}
use Rattle.jr_session.specs.Trying.{IsTried, AreUnchanged}
use Rattle.jr_session.specs.HadBack.{IsLeft}
use Rattle.jr_session.proofs.NewTells.{tells_now}
use Rattle.jr_session.proofs.Staying.{earlier_serves}
use Rattle.jr_session.proofs.HadBack.{kept_again, filled_again}
use Rattle.jr_session.proofs.tries.try_texts.Goals as goal

pub try_by-requires-clause-earlier : goal.try_by-requires-clause-earlier
try_by-requires-clause-earlier g c =
    let stays = c.in_ok-stays.stays.items in
    let same : AreUnchanged c.args.texts.changes.items stays = subst (λ (cs : List Change). AreUnchanged cs stays) c.as_slice.ensures.value c.in_ok-stays.ensures in
    earlier_serves c.args.sources.now c.args.texts.changes.items stays same c.args.analysed.now c.take.result c.requires.analysed c.take.ensures.value c.earlier_of-earlier.result c.earlier_of-earlier.ensures.of

pub try_by-requires-clause-told : goal.try_by-requires-clause-told
try_by-requires-clause-told g c =
    tells_now (put_back c.args.sources.now c.args.texts.changes.items) c.in_ok-stays.stays.items c.args.analysed.now c.take.result c.take.ensures.value c.earlier_of-earlier.result c.earlier_of-earlier.ensures.of c.args.after.now c.requires.told

pub returns-in-Ok-Wrong-clause-analysed : goal.returns-in-Ok-Wrong-clause-analysed
returns-in-Ok-Wrong-clause-analysed g c =
    let tried = subst (IsTried c.args.sources.now c.args.texts.changes.items c.args.texts.may_stay c.try_by.new.sources) c.in-Ok-Wrong.field-0-is c.in-Ok-Wrong.ensures.tried in
    let left = subst (IsLeft c.earlier_of-earlier.result c.try_by.new.earlier) c.in-Ok-Wrong.field-0-is c.in-Ok-Wrong.ensures.left in
    subst (λ (ss : List Source). IsKeptAnalysis ss c.analysis_of.result) (sym tried.0)
    (kept_again c.args.sources.now c.args.analysed.now c.take.result c.requires.analysed c.take.ensures.value c.earlier_of-earlier.result c.try_by.new.earlier (λ e h. (c.earlier_of-earlier.ensures.of e h).0) left c.analysis_of.result c.analysis_of.ensures)

pub returns-in-Ok-Wrong-clause-filled : goal.returns-in-Ok-Wrong-clause-filled
returns-in-Ok-Wrong-clause-filled g c =
    let left = subst (IsLeft c.earlier_of-earlier.result c.try_by.new.earlier) c.in-Ok-Wrong.field-0-is c.in-Ok-Wrong.ensures.left in
    filled_again c.args.sources.now c.args.analysed.now c.take.result c.requires.analysed c.take.ensures.value c.earlier_of-earlier.result c.try_by.new.earlier c.earlier_of-earlier.ensures.given left c.analysis_of.result c.analysis_of.ensures

pub returns-in-Ok-Crossed-clause-analysed : goal.returns-in-Ok-Crossed-clause-analysed
returns-in-Ok-Crossed-clause-analysed g c =
    let tried = subst (IsTried c.args.sources.now c.args.texts.changes.items c.args.texts.may_stay c.try_by.new.sources) c.in-Ok-Crossed.field-0-is c.in-Ok-Crossed.ensures.tried in
    let left = subst (IsLeft c.earlier_of-earlier.result c.try_by.new.earlier) c.in-Ok-Crossed.field-0-is c.in-Ok-Crossed.ensures.left in
    subst (λ (ss : List Source). IsKeptAnalysis ss c.analysis_of-in-Ok-Crossed.result) (sym tried.0)
    (kept_again c.args.sources.now c.args.analysed.now c.take.result c.requires.analysed c.take.ensures.value c.earlier_of-earlier.result c.try_by.new.earlier (λ e h. (c.earlier_of-earlier.ensures.of e h).0) left c.analysis_of-in-Ok-Crossed.result c.analysis_of-in-Ok-Crossed.ensures)

pub returns-in-Ok-Crossed-clause-filled : goal.returns-in-Ok-Crossed-clause-filled
returns-in-Ok-Crossed-clause-filled g c =
    let left = subst (IsLeft c.earlier_of-earlier.result c.try_by.new.earlier) c.in-Ok-Crossed.field-0-is c.in-Ok-Crossed.ensures.left in
    filled_again c.args.sources.now c.args.analysed.now c.take.result c.requires.analysed c.take.ensures.value c.earlier_of-earlier.result c.try_by.new.earlier c.earlier_of-earlier.ensures.given left c.analysis_of-in-Ok-Crossed.result c.analysis_of-in-Ok-Crossed.ensures
