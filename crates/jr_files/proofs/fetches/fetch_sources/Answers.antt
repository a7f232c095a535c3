use Rattle.std.proofs.Common.{◌≡◌, ◌∙◌, ◌+◌, ◌<◌, ◌≤◌, Some, ap, arith, length, refl, rules, slice_get, subst, sym}
use Rattle.std.proofs.lemmas.Bool.{ltb-true}
use Rattle.std.proofs.lemmas.Option.{slice_get_read}
use Rattle.std.proofs.lemmas.Result.{err_from_is_err_and}
use Rattle.jr_files.specs.Sources.{IsSource, file_limit, total_limit}
use Rattle.jr_files.proofs.Counting.{served_then}
use Rattle.jr_files.proofs.FetchLaws.{first_unread, one_bad, one_fetched, too_long_bad, too_many, unread_at}
use Rattle.jr_files.proofs.fetches.fetch_sources.Goals as goal

pub returns-in-Some-clause-fault : goal.returns-in-Some-clause-fault
returns-in-Some-clause-fault g c =
    let at : slice_get c.args.files.now file_limit ≡ Some c.in-Some.surplus.now =
    slice_get_read c.args.files.now (length c.args.files.now) file_limit c.in-Some.surplus.now refl (ltb-true _ _ (sym c.in-Some.ensures.lookup.0)) c.in-Some.ensures.lookup.1 in
    rw c.bad_source.ensures (too_many c.args.files.now c.in-Some.surplus.now at)

pub returns-in_err-bytes-clause-fault : goal.returns-in_err-bytes-clause-fault
returns-in_err-bytes-clause-fault g c =
    let below : c.loop-file.file-index < length c.args.files.now = search rules in
    let p = err_from_is_err_and c.from_residual-in_err-bytes.result c.from_residual-in_err-bytes.ensures.1 in
    rw (p.1, p.2) (one_bad _ _ c.loop-file.invariant.served.keeps c.args.files.now c.loop-file.file-index _ c.loop-file.sources.items c.loop-file.all_bytes.items c.loop-file.total below c.loop-file.invariant.so_far _ c.in_err-bytes.ensures.fault)

pub returns-in_err-bytes-clause-unread : goal.returns-in_err-bytes-clause-unread
returns-in_err-bytes-clause-unread g c =
    let below : c.loop-file.file-index < length c.args.files.now = search rules in
    let p = err_from_is_err_and c.from_residual-in_err-bytes.result c.from_residual-in_err-bytes.ensures.1 in
    rw (p.1, p.2) (unread_at _ _ c.loop-file.invariant.served.keeps c.args.files.now c.loop-file.file-index _ below _ _ _ _ _ _ _ c.loop-file.invariant.served.faults_stay c.loop-file.invariant.served.count _ c.in_err-bytes.ensures.unread)

pub returns-in_err-bytes-clause-in_order : goal.returns-in_err-bytes-clause-in_order
returns-in_err-bytes-clause-in_order g c =
    let below : c.loop-file.file-index < length c.args.files.now = search rules in
    let p = err_from_is_err_and c.from_residual-in_err-bytes.result c.from_residual-in_err-bytes.ensures.1 in
    rw (p.1, p.2) (first_unread _ _ c.args.files.now c.loop-file.file-index _ c.loop-file.sources.items c.loop-file.all_bytes.items c.loop-file.total below c.loop-file.invariant.so_far _ _ _ _ _ _ c.in_err-bytes.ensures.unread)

pub returns-then-total-gt-MAX_TOTAL_LEN-clause-fault : goal.returns-then-total-gt-MAX_TOTAL_LEN-clause-fault
returns-then-total-gt-MAX_TOTAL_LEN-clause-fault g c =
    let below : c.loop-file.file-index < length c.args.files.now = search rules in
    let size : c.from.result ≡ length c.in_ok-bytes.text = search rules in
    let beyond : total_limit < c.loop-file.total + c.from.result = search rules in
    rw c.bad_source-then-total-gt-MAX_TOTAL_LEN.ensures
    (too_long_bad _ _ c.loop-file.invariant.served.keeps c.args.files.now c.loop-file.file-index _ c.loop-file.sources.items c.loop-file.all_bytes.items c.loop-file.total c.from.result c.in_ok-bytes.text
    below c.loop-file.invariant.so_far c.in_ok-bytes.ensures.ok size beyond)

pub loop-file-preserved : goal.loop-file-preserved
loop-file-preserved g c =
    let below : c.loop-file.file-index < length c.args.files.now = search rules in
    let size : c.from.result ≡ length c.in_ok-bytes.text = search rules in
    let within : c.loop-file.total + c.from.result ≤ total_limit = search rules in
    record {
      so_far = one_fetched _ _ c.loop-file.invariant.served.keeps c.args.files.now c.loop-file.file-index _ c.loop-file.sources.items _ c.loop-file.all_bytes.items _ c.loop-file.total _ c.in_ok-from_str.field-0 c.in_ok-bytes.text c.in_ok-bytes.bytes
          below c.loop-file.invariant.so_far c.in_ok-from_str.ensures.ok c.in_ok-bytes.ensures.ok c.in_ok-bytes.ensures.bytes
          (ap (λ n. c.loop-file.total + n) size) within c.in_ok-push.ensures.items c.in_ok-push-2.ensures.items;
      served = served_then c.loop-file.file-index 1 _ _ _ _ _ _ _ _ _ _ _ _ (g.met.S.Shelf.served_fit c.fetch_source.new.shelf) c.loop-file.invariant.served c.in_ok-bytes.ensures.served;
    }
