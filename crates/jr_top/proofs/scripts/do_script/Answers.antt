use Rattle.std.proofs.Common.{◌≡◌, ◌∙◌, ap, arith, inl, inr, length, map, subst, sym, All, OnSome}
use Rattle.std.proofs.lemmas.List.{length-map}
use Rattle.jr_names.specs.ReplyView.{reply_of}
use Rattle.jr_script.specs.Reports.{AreRepliesIn}
use Rattle.jr_session.specs.Serving.{IsServed}
use Rattle.jr_words.specs.Asked.{operand_of}
use Rattle.jr_files.specs.Views.{store_of}
use Rattle.jr_top.specs.OutputView.{dir_of, output_of, text_of}
use Rattle.jr_top.specs.Scripts.{AreStores, Follow, HasNoRefusal, HasRefusal, sources_from}
use Rattle.jr_files.proofs.Counting.{known_then}
use Rattle.jr_top.proofs.Settled.{on_done, on_refused, settled}
use Rattle.jr_top.proofs.Beginning.{few_now, names_now, places_now, read_count, steps_served}
use Rattle.jr_top.proofs.Unwritten.{none_done, none_refused, none_write_fault, run_ends, stays}
use Rattle.jr_top.proofs.Writing.{all_written, part_written, run_output}
use Rattle.jr_top.proofs.scripts.do_script.Goals as goal

pub returns-in-Err-clause-ends : goal.returns-in-Err-clause-ends
returns-in-Err-clause-ends g c = run_ends c.in-Err.status (c.in-Err.ensures.err (dir_of c.args.out)).unwritten

pub returns-in-Err-clause-done : goal.returns-in-Err-clause-done
returns-in-Err-clause-done g c = none_done c.in-Err.status _ (c.in-Err.ensures.err (dir_of c.args.out)).unwritten

pub returns-in-Err-clause-refused : goal.returns-in-Err-clause-refused
returns-in-Err-clause-refused g c = none_refused c.in-Err.status _ (c.in-Err.ensures.err (dir_of c.args.out)).unwritten

pub returns-in-Err-clause-write_fault : goal.returns-in-Err-clause-write_fault
returns-in-Err-clause-write_fault g c = none_write_fault c.in-Err.status _ (c.in-Err.ensures.err (dir_of c.args.out)).unwritten

pub returns-in-Err-clause-missed : goal.returns-in-Err-clause-missed
returns-in-Err-clause-missed g c = (c.in-Err.ensures.err (dir_of c.args.out)).missed_stays

pub returns-in-Err-clause-shelf_faults : goal.returns-in-Err-clause-shelf_faults
returns-in-Err-clause-shelf_faults g c = (c.in-Err.ensures.err (dir_of c.args.out)).faults_grow

pub returns-in-Err-clause-shelf_faults_stay : goal.returns-in-Err-clause-shelf_faults_stay
returns-in-Err-clause-shelf_faults_stay g c = stays c.in-Err.status _ (c.in-Err.ensures.err (dir_of c.args.out)).unwritten (c.in-Err.ensures.err (dir_of c.args.out)).faults_stay

pub take_steps-requires : goal.take_steps-requires
take_steps-requires g c = subst (λ xs. All IsServed xs) (sym c.as_slice.ensures.value) (steps_served c.args.files.now c.in-Ok.ensures.ok)

pub output_of-requires-clause-count : goal.output_of-requires-clause-count
output_of-requires-clause-count g c = ap length c.as_slice-read.ensures.value ∙ sym (length-map c.in-Ok.begun.read.items (λ b. b.items)) ∙ read_count c.args.files.now c.in-Ok.ensures.ok

pub output_of-requires-clause-names : goal.output_of-requires-clause-names
output_of-requires-clause-names g c =
    let follow = subst (λ xs. Follow c.in-Ok.begun.session xs (map reply_of c.in-Ok-take_steps.replies.items) c.take_steps.new.session) c.as_slice.ensures.value c.in-Ok-take_steps.ensures in
    names_now c.args.files.now c.in-Ok.ensures.ok _ c.take_steps.new.session follow

pub output_of-requires-clause-places : goal.output_of-requires-clause-places
output_of-requires-clause-places g c =
    let follow = subst (λ xs. Follow c.in-Ok.begun.session xs (map reply_of c.in-Ok-take_steps.replies.items) c.take_steps.new.session) c.as_slice.ensures.value c.in-Ok-take_steps.ensures in
    subst (λ rs. AreRepliesIn (map text_of c.args.files.now) (map reply_of rs)) (sym c.as_slice-replies.ensures.value) (places_now c.args.files.now c.in-Ok.ensures.ok _ c.take_steps.new.session follow)

pub write-requires : goal.write-requires
write-requires g c =
    let stores = subst (λ xs. AreStores (dir_of c.args.out) (sources_from (map operand_of c.args.files.now) (map (λ b. b.items) xs)) c.take_steps.new.session.files (map store_of c.in-Ok-output_of.output.stores.items)) c.as_slice-read.ensures.value c.in-Ok-output_of.ensures.stores in
    let few = few_now c.args.files.now c.in-Ok.ensures.ok (dir_of c.args.out) c.take_steps.new.session.files (map store_of c.in-Ok-output_of.output.stores.items) stores in
    let same = length-map c.in-Ok-output_of.output.stores.items store_of in
    omega (arith, few, same)

pub returns-in-Ok-write-clause-done : goal.returns-in-Ok-write-clause-done
returns-in-Ok-write-clause-done g c =
    let steps = c.in-Ok.begun.steps.items in
    let replies = map reply_of c.as_slice-replies.result.now in
    let output = output_of c.in-Ok-output_of.output in
    let follow_1 = subst (λ xs. Follow c.in-Ok.begun.session xs (map reply_of c.in-Ok-take_steps.replies.items) c.take_steps.new.session) c.as_slice.ensures.value c.in-Ok-take_steps.ensures in
    let follow = subst (λ rs. Follow c.in-Ok.begun.session steps (map reply_of rs) c.take_steps.new.session) (sym c.as_slice-replies.ensures.value) follow_1 in
    let stores = subst (λ xs. AreStores (dir_of c.args.out) (sources_from (map operand_of c.args.files.now) (map (λ b. b.items) xs)) c.take_steps.new.session.files output.stores) c.as_slice-read.ensures.value c.in-Ok-output_of.ensures.stores in
    let is = run_output (g.S.Shelf.holds c.args.shelf.now) (dir_of c.args.out) (operand_of c.args.script.now) c.args.files.now steps c.in-Ok.begun.session c.take_steps.new.session (map (λ b. b.items) c.in-Ok.begun.read.items) replies output
    c.in-Ok.ensures.ok follow stores c.in-Ok-output_of.ensures.report in
    on_done c.status_of.result (HasNoRefusal replies) _ (λ none. all_written (dir_of c.args.out) (operand_of c.args.script.now) c.args.files.now _ output (length c.in-Ok-output_of.output.stores.items) _ _ (g.met.S.Shelf.served_fit c.write.new.shelf)
    c.in-Ok.ensures.served c.in-Ok-write.ensures.served_ok (sym (length-map c.in-Ok-output_of.output.stores.items store_of)) (replies, none, is) c.in-Ok-write.ensures.stored c.in-Ok-write.ensures.took) c.status_of.ensures.done

pub returns-in-Ok-write-clause-refused : goal.returns-in-Ok-write-clause-refused
returns-in-Ok-write-clause-refused g c =
    let steps = c.in-Ok.begun.steps.items in
    let replies = map reply_of c.as_slice-replies.result.now in
    let output = output_of c.in-Ok-output_of.output in
    let follow_1 = subst (λ xs. Follow c.in-Ok.begun.session xs (map reply_of c.in-Ok-take_steps.replies.items) c.take_steps.new.session) c.as_slice.ensures.value c.in-Ok-take_steps.ensures in
    let follow = subst (λ rs. Follow c.in-Ok.begun.session steps (map reply_of rs) c.take_steps.new.session) (sym c.as_slice-replies.ensures.value) follow_1 in
    let stores = subst (λ xs. AreStores (dir_of c.args.out) (sources_from (map operand_of c.args.files.now) (map (λ b. b.items) xs)) c.take_steps.new.session.files output.stores) c.as_slice-read.ensures.value c.in-Ok-output_of.ensures.stores in
    let is = run_output (g.S.Shelf.holds c.args.shelf.now) (dir_of c.args.out) (operand_of c.args.script.now) c.args.files.now steps c.in-Ok.begun.session c.take_steps.new.session (map (λ b. b.items) c.in-Ok.begun.read.items) replies output
    c.in-Ok.ensures.ok follow stores c.in-Ok-output_of.ensures.report in
    on_refused c.status_of.result (HasRefusal replies) _ (λ one. all_written (dir_of c.args.out) (operand_of c.args.script.now) c.args.files.now _ output (length c.in-Ok-output_of.output.stores.items) _ _ (g.met.S.Shelf.served_fit c.write.new.shelf)
    c.in-Ok.ensures.served c.in-Ok-write.ensures.served_ok (sym (length-map c.in-Ok-output_of.output.stores.items store_of)) (replies, one, is) c.in-Ok-write.ensures.stored c.in-Ok-write.ensures.took) c.status_of.ensures.refused

pub returns-clause-write_fault : goal.returns-clause-write_fault
returns-clause-write_fault g c =
    let steps = c.in-Ok.begun.steps.items in
    let replies = map reply_of c.as_slice-replies.result.now in
    let output = output_of c.in-Ok-output_of.output in
    let follow_1 = subst (λ xs. Follow c.in-Ok.begun.session xs (map reply_of c.in-Ok-take_steps.replies.items) c.take_steps.new.session) c.as_slice.ensures.value c.in-Ok-take_steps.ensures in
    let follow = subst (λ rs. Follow c.in-Ok.begun.session steps (map reply_of rs) c.take_steps.new.session) (sym c.as_slice-replies.ensures.value) follow_1 in
    let stores = subst (λ xs. AreStores (dir_of c.args.out) (sources_from (map operand_of c.args.files.now) (map (λ b. b.items) xs)) c.take_steps.new.session.files output.stores) c.as_slice-read.ensures.value c.in-Ok-output_of.ensures.stores in
    let is = run_output (g.S.Shelf.holds c.args.shelf.now) (dir_of c.args.out) (operand_of c.args.script.now) c.args.files.now steps c.in-Ok.begun.session c.take_steps.new.session (map (λ b. b.items) c.in-Ok.begun.read.items) replies output
    c.in-Ok.ensures.ok follow stores c.in-Ok-output_of.ensures.report in
    part_written (dir_of c.args.out) (operand_of c.args.script.now) c.args.files.now _ output c.in-Err-write.fault.stored _ _ _ _ _ (g.met.S.Shelf.served_fit c.write.new.shelf)
    c.in-Ok.ensures.served c.in-Err-write.ensures.served_err (elim (settled replies) [ inl none ↦ inl (replies, none, is) | inr one ↦ inr (replies, one, is) ]) c.in-Err-write.ensures.fault

pub returns-clause-missed : goal.returns-clause-missed
returns-clause-missed g c =
    let served = c.in-Ok.ensures.served in
    known_then (g.S.Shelf.holds c.args.shelf.now) (g.S.Shelf.missed c.args.shelf.now) (g.S.Shelf.missed c.begin.new.shelf) (g.S.Shelf.missed c.write.new.shelf) served.missed_stays
    (subst (λ h. OnSome h (g.S.Shelf.missed c.write.new.shelf ≡ g.S.Shelf.missed c.begin.new.shelf)) served.keeps c.write.ensures.missed)
