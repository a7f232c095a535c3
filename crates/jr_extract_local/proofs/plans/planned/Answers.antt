use Rattle.std.proofs.Common.{◌≡◌, ℕ, ◌<◌, ◌∙◌, List, [], length, map, ap, sym, subst}
use Rattle.std.specs.Prelude.{option_map}
use Rattle.jr_text.specs.Edits.{Entry}
use Rattle.jr_names.specs.Replies.{planned}
use Rattle.jr_names.specs.SiteView.{pair_of}
use Rattle.jr_table.specs.Decls.{Decl}
use Rattle.jr_table.specs.KeyView.{decl_of}
use Rattle.jr_table.specs.declared.decls.Decl as raw
use Rattle.jr_extract_local.specs.Plans.{AnswersFound}
use Rattle.jr_extract_local.proofs.Planning.{in_files, are_in_order, plans, some_place}
use Rattle.jr_extract_local.proofs.plans.planned.Goals as goal

pub edits_in-requires : goal.edits_in-requires
edits_in-requires g c =
    let p = g.V.View.program c.args.view.now in
    let t = c.args.of.now in
    let l = c.requires.list in
    record {
      file = subst (λ (n : ℕ). t.request.file < n) (sym c.file_count.ensures) (in_files p t l.0);
      order = are_in_order p t l.0 c.extracts_are_in_order.ensures c.requires.name c.args.changes.now c.args.respelled l.2;
    }

pub lost_dependence-requires : goal.lost_dependence-requires
lost_dependence-requires g c = some_place (g.V.View.program c.args.view.now) c.args.of.now c.args.at.now c.args.changes.now c.args.respelled c.requires.list

pub returns : goal.returns
returns g c =
    let p = g.V.View.program c.args.view.now in
    let t = c.args.of.now in
    let l = c.requires.list in
    let none = c.from_vec-2.ensures ∙ ap (map (λ (d : raw.Decl × raw.Decl). (decl_of d.0, decl_of d.1))) c.new.ensures.items in
    let lost = c.in_ok-lost.ensures p l.0 (sym c.table.ensures) l.1 in
    let made = plans p t l.0 c.extracts_are_whole.ensures c.args.changes.now c.args.respelled l.2 c.file_count.result c.file_count.ensures c.in_ok-edits.edits.items c.in_ok-edits.ensures c.in_ok-respelled.respelled c.in_ok-respelled.ensures (option_map pair_of c.in_ok-lost.lost) lost in
    subst (λ (es : List (List Entry)). AnswersFound p t (planned es c.from_vec-2.result c.in_ok-respelled.respelled (option_map pair_of c.in_ok-lost.lost))) (sym c.from_vec.ensures)
    (subst (λ (ds : List (Decl × Decl)). AnswersFound p t (planned c.in_ok-edits.edits.items ds c.in_ok-respelled.respelled (option_map pair_of c.in_ok-lost.lost))) (sym none) made)
