use Rattle.std.proofs.Common.{◌≡◌, ℕ, ◌<◌, List, Some, length, sym, ap, subst, ◌∙◌}
use Rattle.std.specs.Prelude.{slice_get}
use Rattle.std.proofs.lemmas.Option.{slice_get_within, same_Some}
use Rattle.std.proofs.lemmas.Result.{IfOk-weaker}
use Rattle.jr_table.specs.Rows.{Row}
use Rattle.jr_table.specs.Errors.{part_mark}
use Rattle.jr_members.specs.PartView.{written_of}
use Rattle.jr_bind.specs.Bounds.{Bound, IsBound}
use Rattle.jr_program_laws.specs.FileParts.{begins}
use Rattle.jr_new_bodies.specs.OutputView.{gathered}
use Rattle.jr_new_words.specs.MappingView.{mapping_in}
use Rattle.jr_program.proofs.Standing.{at_contains, bound_at}
use Rattle.jr_new_files.specs.Ready.{PartReady}
use Rattle.jr_new_files.specs.PartEffects.{PartGathers}
use Rattle.jr_new_files.proofs.Giving.{parts_add}
use Rattle.jr_new_files.proofs.Standing.{is_file, ready}
use Rattle.jr_new_files.proofs.parts.part.Goals as goal

pub bound-requires : goal.bound-requires
bound-requires g c =
    let p = g.V.View.program c.args.view.now in
    let is = c.keeps_program.ensures in
    let b = bound_at p.rows p.super_at _ p.bounds is.bound c.args.number (written_of c.args.of.now) c.requires.number in
    slice_get_within p.bounds c.args.number b.0 b.1

pub walk-requires : goal.walk-requires
walk-requires g c =
    let p = g.V.View.program c.args.view.now in
    let is = c.keeps_program.ensures in
    let w = written_of c.args.of.now in
    let has = at_contains _ c.args.number w c.requires.number in
    let b = bound_at p.rows p.super_at _ p.bounds is.bound c.args.number w c.requires.number in
    let bound = subst (λ (x : Bound). IsBound begins p.rows (p.super_at w.key) w.key w.base w.part x) (same_Some b.0 c.bound.result.now (sym b.1 ∙ c.bound.ensures)) b.2 in
    let written = c.members_are_written.ensures in
    let placed = c.parts_are_placed.ensures.parts in
    let one = c.lookups_are_exact.ensures.one in
    let found = c.declared_types_are_found.ensures in
    let rows = c.args.tables.now.before.now in
    let start = (part_mark w.part).from in
    record {
      walked = c.requires.images;
      file = is_file p is written placed one found w has;
      ready = subst (λ (n : ℕ). PartReady p w.file rows c.bound.result.now n w.key w.part) (sym c.first_byte.ensures)
          (subst (λ (rs : List Row). PartReady p w.file rs c.bound.result.now start w.key w.part) (sym c.requires.rows) (ready p is written placed one found w has c.bound.result.now bound));
    }

pub returns : goal.returns
returns g c =
    let p = g.V.View.program c.args.view.now in
    let w = written_of c.args.of.now in
    let m = mapping_in c.args.tables.now in
    let old = gathered c.args.out.now in
    let new = gathered c.walk.new.out in
    IfOk-weaker c.walk.result _ _ (λ _ x. parts_add p m w.key w.base w.part old new (subst (λ (rows : List Row). PartGathers p rows m w.key w.base w.part old new) c.requires.rows (x w.base))) c.walk.ensures
