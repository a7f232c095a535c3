use Rattle.std.proofs.Common.{sym, ap, ◌∙◌, map}
use Rattle.jr_table.specs.TypeView.{class_key_of}
use Rattle.jr_table.specs.KeyView.{decl_of}
use Rattle.jr_table.specs.Entries.{entries_of}
use Rattle.jr_table.specs.Found.{one}
use Rattle.jr_lookup.specs.ScopeView.{scope_of}
use Rattle.jr_table.specs.Entries.{kind_of}
use Rattle.jr_table.specs.Calls.{find_ctor}
use Rattle.jr_table.specs.Lookup.{shown, find_ctor_of, FindsCtorOf}
use Rattle.jr_spell.proofs.Founds.{decided}
use Rattle.jr_spell.proofs.members.is_ctor.Goals as goal

pub returns : goal.returns
unfolding find_ctor_of
returns c =
    let rows = c.args.table.now in
    let s = scope_of c.args.scope.now in
    let exact = c.lookups_are_exact.ensures.keys rows c.keeps_rows.ensures in
    let kinds = c.as_slice-2.ensures ∙ c.in_ok-kinds.ensures ∙ ap (map (kind_of rows)) c.as_slice.ensures in
    let is = c.in_ok-answer.ensures ∙ (λ i. find_ctor (entries_of rows) (c.number_or_none-place.ensures i) (c.number_or_none-class.ensures i) (kinds i)) in
    decided (find_ctor_of rows s (class_key_of c.args.class.now) c.args.args.now) (FindsCtorOf rows s (class_key_of c.args.class.now) c.args.args.now) (exact.ctor_of s (class_key_of c.args.class.now) c.args.args.now) _ (ap (shown rows) (sym is)) (one (decl_of c.args.target.now)) c.is_one.result c.is_one.ensures
