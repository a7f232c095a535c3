use Rattle.std.proofs.Common.{◌++◌, refl, ap, ◌∙◌}
use Rattle.std.specs.Prelude.{option_map}
use Rattle.jr_table.specs.declared.rules.Rule.TheVariants as rule
use Rattle.jr_table.specs.Entries.{class_number, kind_of}
use Rattle.jr_table.specs.Found.{Found}
use Rattle.jr_table.specs.Context.{scope_of}
use Rattle.jr_table.specs.Lookup.{find_type_named}
use Rattle.jr_table.specs.Meanings.{class_found, type_of_found, or_type, find_left}
use Rattle.jr_table.specs.Notes.{breaks, when, test_found, is_fixed, is_forward, is_constant_found}
use Rattle.jr_bind_expr.specs.Places.{context_of, member_of}
use Rattle.jr_bind_expr.specs.Logs.{notes_of}
use Rattle.jr_bind_expr.specs.Means.{role_of}
use Rattle.jr_bind_expr.specs.Arms.{named_note}
use Rattle.jr_bind_expr.proofs.Naming.{puts}
use Rattle.jr_bind_expr.proofs.names.simple.Goals as goal

pub returns-clause-says : goal.returns-clause-says
unfolding find_left
returns-clause-says c =
    let rows = c.args.table.now in
    let ctx = context_of c.args.place.now in
    let s = scope_of ctx in
    let name = c.args.name.now in
    let e = c.variable-found.ensures in
    let about = c.about_finding-about.ensures in
    record {
      begins = refl;
      kind = about.kind ∙ ap (λ (x : Found). option_map (kind_of rows) (type_of_found rows ctx x)) e;
      class_is = c.class_of_finding.ensures ∙ ap (λ (x : Found). option_map (class_number rows) (class_found x)) (c.left_finding-left.ensures ∙ ap (λ (x : Found). or_type x (find_type_named rows s name)) e);
      fixed = c.fixed_at.ensures ∙ ap (λ b. when b (breaks c.args.at rule.FinalAssigned)) (about.fixed ∙ ap (test_found (is_fixed rows ctx)) e);
      constant = about.constant ∙ ap (is_constant_found rows ctx) e;
    }

pub returns-clause-notes : goal.returns-clause-notes
unfolding find_left
returns-clause-notes c =
    let rows = c.args.table.now in
    let ctx = context_of c.args.place.now in
    let k = member_of c.args.place.now in
    let s = scope_of ctx in
    let name = c.args.name.now in
    let at = c.args.at in
    let e = c.variable-found.ensures in
    let left = c.left_finding-left.ensures ∙ ap (λ (x : Found). or_type x (find_type_named rows s name)) e in
    let note = c.named_note-note.ensures rows k ∙ (λ i. named_note (role_of c.args.role) at (e i) (left i)) in
    let forward = c.about_finding-about.ensures.forward ∙ ap (test_found (is_forward rows ctx)) e in
    puts rows k c.named_note-note.result _ _ c.args.log.now.items c.push.new.self.items _ c.in_ok-push.ensures.items note
    (c.in_ok-put_when.ensures ∙ ap (λ b. notes_of rows k c.push.new.self.items ++ when b (breaks at rule.Forward)) forward)
