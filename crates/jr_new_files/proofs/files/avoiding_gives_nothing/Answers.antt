use Rattle.std.proofs.Common.{◌≡◌, List, sym, ap, subst, ◌∙◌}
use Rattle.jr_grammar.specs.Layout.{itself}
use Rattle.jr_table.specs.Rows.{Row}
use Rattle.jr_table.specs.Conditions.{AreRows}
use Rattle.jr_bind.specs.Programs.{units_of}
use Rattle.jr_program_laws.specs.FileParts.{begins}
use Rattle.jr_members.specs.PartView.{written_of}
use Rattle.jr_mentions.specs.ApartView.{names_in}
use Rattle.jr_new_words.specs.Mappings.{HaveImages}
use Rattle.jr_new_words.specs.MappingView.{keys_of, mapping_in}
use Rattle.jr_new_files.specs.Unaffected.{local_in, IsUnaffected}
use Rattle.jr_new_files.proofs.Sparing.{spared, contained, is_keyed, nothing_by, put_nothing}
use Rattle.jr_new_files.proofs.Whole.{reads_plainly}
use Rattle.jr_new_files.proofs.files.avoiding_gives_nothing.Goals as goal

pub returns : goal.returns
returns g c =
    let p = g.V.View.program c.args.view.now in
    let t = c.args.tables.now in
    let x = keys_of t.keys in
    let new = t.after.now in
    let w = written_of c.args.of.now in
    let u = c.args.unaffected.now in
    let names = names_in u.names in
    let is = c.keeps_program.ensures in
    let images : HaveImages x p.rows new = subst (λ (rows : List Row). HaveImages x rows new) c.requires.rows c.requires.images in
    let by : IsUnaffected x p.rows u = subst (λ (rows : List Row). IsUnaffected x rows u) c.requires.rows c.requires.unaffected in
    let m = c.written_members_are_sound.ensures p is w (contained _ c.args.number w c.requires.number) in
    let a = c.requires.avoids in
    let words = (c.rows_are_named.ensures.rows begins p.rows (units_of p) (reads_plainly p (mapping_in t) is) is.rows).1 in
    put_nothing p (mapping_in t) w (nothing_by p w new u x images by (λ n are of.
    let after = subst AreRows are c.keeps_rows-2.ensures in
    c.spared_give_nothing.ensures.nothing itself p.rows p.super_at n names is.are_rows after (c.apart_look_alike.ensures.alike names p.rows _ is.are_rows after of.apart) words w.key w.base w.part (is_keyed w.key w.part m.keyed)
    (spared names (local_in u) n.decls n.name w.key of.avoidable a.other) a.clean a.avoids m.sound m.found))
