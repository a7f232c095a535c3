use Rattle.std.proofs.Common.{sym, ap, subst}
use Rattle.std.proofs.lemmas.Result.{IfOk-weaker}
use Rattle.jr_text.specs.declared.spans.Span.{Span}
use Rattle.jr_table.specs.Errors.{Part}
use Rattle.jr_members.specs.PartView.{part_of}
use Rattle.jr_new_bodies.specs.OutputView.{gathered}
use Rattle.jr_new_files.specs.Walking.{key_of, rows_of, mapping_of}
use Rattle.jr_new_files.specs.Ready.{PartReady}
use Rattle.jr_new_files.specs.PartEffects.{PartGathers}
use Rattle.jr_new_files.proofs.parts.walk.Goals as goal

pub head-requires : goal.head-requires
head-requires g c =
    let w = c.args.of.now in
    let p = g.V.View.program c.args.view.now in
    record { walked = c.requires.walked; ready = subst (λ (x : Part Span). PartReady p c.args.file (rows_of w) w.bound.now w.from (key_of w) x) (ap part_of c.in-Head.is) c.requires.ready }

pub member-requires : goal.member-requires
member-requires g c =
    let w = c.args.of.now in
    let p = g.V.View.program c.args.view.now in
    let both = subst (λ (x : Part Span). PartReady p c.args.file (rows_of w) w.bound.now w.from (key_of w) x) (ap part_of c.in-Member.is) c.requires.ready in
    record { walked = c.requires.walked; file = c.requires.file; ready = both.0; stands = both.1 }

pub returns-in-Head : goal.returns-in-Head
returns-in-Head g c =
    let w = c.args.of.now in
    let p = g.V.View.program c.args.view.now in
    IfOk-weaker c.head.result _ _ (λ _ x. λ base. subst (λ (y : Part Span). PartGathers p (rows_of w) (mapping_of w) (key_of w) base y (gathered c.args.out.now) (gathered c.head.new.out)) (sym (ap part_of c.in-Head.is)) (x base)) c.head.ensures

pub returns-in-Member : goal.returns-in-Member
returns-in-Member g c =
    let w = c.args.of.now in
    let p = g.V.View.program c.args.view.now in
    IfOk-weaker c.member.result _ _ (λ _ x. λ base. subst (λ (y : Part Span). PartGathers p (rows_of w) (mapping_of w) (key_of w) base y (gathered c.args.out.now) (gathered c.member.new.out)) (sym (ap part_of c.in-Member.is)) (x base)) c.member.ensures
