use Rattle.std.proofs.Common.{◌≡◌, ◌+◌, ℕ, List, [], map, take, ap, ◌∙◌, add-one, arith}
use Rattle.std.proofs.lemmas.List.{take_all, length-map}
use Rattle.jr_ast.specs.Tree as tree
use Rattle.jr_cover.specs.Spots.{Spot}
use Rattle.jr_never_null.specs.Flags.{flags_behind}
use Rattle.jr_expr_sites.specs.KnownFacts.{known_of}
use Rattle.jr_expr_sites.specs.StepView.{given}
use Rattle.jr_member_graphs.specs.FlagRows.{marked, behind_nones}
use Rattle.jr_member_graphs.specs.NotesView.{begin_of}
use Rattle.jr_member_graphs.specs.OwnFlags.{no_others}
use Rattle.jr_member_graphs.proofs.FlagSteps as steps
use Rattle.jr_member_graphs.proofs.flags.local_flags.Goals as goal

pub next_flag-next-requires : goal.next_flag-next-requires
next_flag-next-requires g c =
    record { fits = steps.fits_at g.A.Mark.span_from g.A.Mark.fits_at begin_of c.args.begins.now c.loop-begin.begin-index c.begin-item.result c.loop-begin-test.true c.begin-item.is c.requires.fits }

pub loop-begin-init : goal.loop-begin-init
loop-begin-init g c es h =
    let G = given g.F.Facts.decls g.F.Facts.types c.args.here.now in
    steps.flags_begin (known_of G no_others).facts (marked c.args.marks.now) c.args.params c.in_ok-flags.flags.items (c.in_ok-flags.ensures.items_if_clones_equal (λ y k. k))

pub loop-begin-preserved : goal.loop-begin-preserved
loop-begin-preserved g c es h =
    let T = g.A.Mark.span_from in
    let G = given g.F.Facts.decls g.F.Facts.types c.args.here.now in
    let F = (known_of G no_others).facts in
    let l = c.loop-begin in
    let i = l.begin-index in
    let one = steps.spotted_at T begin_of c.args.begins.now es i c.begin-item.result c.loop-begin-test.true c.begin-item.is h in
    let count = c.len.ensures ∙ l.flags.ok.0 in
    steps.flags_more F (marked c.args.marks.now) c.args.params (take i es) (take (i + 1) es) one.e l.flags.items c.deref.result.now c.push.new.self.items c.is_marked-is_assigned.result c.next_flag-next.result (ap (λ (n : ℕ). take n es) (add-one i) ∙ one.more) (l.invariant es h) c.deref.ensures.value
    (c.is_marked-is_assigned.ensures ∙ ap (marked c.args.marks.now) count) (c.next_flag-next.ensures one.e one.spotted) c.in_ok-push.ensures.items

pub returns : goal.returns
returns g c es h =
    let G = given g.F.Facts.decls g.F.Facts.types c.args.here.now in
    let F = (known_of G no_others).facts in
    let l = c.loop-begin in
    let past = c.loop-begin-test.false in
    let size = steps.spotted_length g.A.Mark.span_from (map begin_of c.args.begins.now) es h in
    let all : take l.begin-index es ≡ es = take_all l.begin-index es (omega (arith, past, size, length-map c.args.begins.now begin_of)) in
    l.invariant es h ∙ ap (λ (x : List (tree.Exp Spot)). flags_behind F (marked c.args.marks.now) [] (behind_nones c.args.params x)) all
