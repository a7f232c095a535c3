use Rattle.std.proofs.Common.{◌≡◌, ◌<◌, ◌+◌, ℕ, Bool, List, ◌++◌, map, length, ap, sym, subst, ◌∙◌}
use Rattle.std.specs.Prelude.{IfOk}
use Rattle.std.proofs.lemmas.List.{length-map}
use Rattle.jr_ast.specs.View.{stmts_of}
use Rattle.jr_cover.specs.Spots.{spot_stmts}
use Rattle.jr_expr_sites.specs.declared.step.Step as raw_step
use Rattle.jr_expr_sites.specs.KnownFacts.{known_of, meaning_at}
use Rattle.jr_expr_sites.specs.Routes.{begins_by, ends_by}
use Rattle.jr_expr_sites.specs.StepView.{given}
use Rattle.jr_member_graphs.specs.declared.gather.Begin as raw
use Rattle.jr_member_graphs.specs.FlagRows.{is_among, marked, behind_nones, AreSpotted, AllFit}
use Rattle.jr_member_graphs.specs.MemberLocals.{stmts_inits}
use Rattle.jr_member_graphs.specs.Notes.{Begin, Notes, stmts_notes}
use Rattle.jr_member_graphs.specs.NotesView.{begin_of, noted}
use Rattle.jr_member_graphs.specs.OwnFlags.{no_others}
use Rattle.jr_member_graphs.proofs.FlagSteps as steps
use Rattle.jr_member_graphs.proofs.members.body_flags.Goals as goal

pub stmts-requires : goal.stmts-requires
stmts-requires g c = record { fits = c.requires.fits }

pub local_flags-requires : goal.local_flags-requires
local_flags-requires g c =
    let T = g.A.Mark.span_from in
    let F = g.A.Mark.fits_at in
    let G = given g.F.Facts.decls g.F.Facts.types c.args.here.now in
    let body = stmts_of c.args.body.now in
    let at = c.args.here.now.start in
    let is : map begin_of c.stmts.new.begins.items ≡ (stmts_notes T (meaning_at G) at body).begins =
    ap (λ (n : Notes g.row.A.Denot). n.begins) c.in_ok-stmts.ensures ∙ ap (λ (l : List (raw.Begin g.row.A.Denot)). map begin_of l ++ (stmts_notes T (meaning_at G) at body).begins) c.new-begins.ensures.items in
    record {
      fits = subst (λ (l : List (raw.Begin g.row.A.Denot)). AllFit T F (map begin_of l)) (sym c.deref-2.ensures.value)
          (subst (λ (l : List (Begin g.row.A.Denot)). AllFit T F l) (sym is) (steps.stmts_fit T (meaning_at G) F body at c.requires.fits));
    }

pub returns : goal.returns
returns g c path first =
    let T = g.A.Mark.span_from in
    let G = given g.F.Facts.decls g.F.Facts.types c.args.here.now in
    let F = (known_of G no_others).facts in
    let body = stmts_of c.args.body.now in
    let at = c.args.here.now.start in
    let notes = stmts_notes T (meaning_at G) at body in
    let es = stmts_inits (spot_stmts (begins_by T) (ends_by T) body at path first) in
    let is : map begin_of c.stmts.new.begins.items ≡ notes.begins =
    ap (λ (n : Notes g.row.A.Denot). n.begins) c.in_ok-stmts.ensures ∙ ap (λ (l : List (raw.Begin g.row.A.Denot)). map begin_of l ++ notes.begins) c.new-begins.ensures.items in
    let spotted : AreSpotted T notes.begins es = steps.stmts_spotted T (meaning_at G) body at path first in
    let writes : noted G.member c.stmts.new.steps.items ≡ noted G.member c.args.steps.now.items ++ notes.writes = ap (λ (n : Notes g.row.A.Denot). n.writes) c.in_ok-stmts.ensures in
    let all : noted G.member c.deref.result.now ≡ noted G.member c.args.steps.now.items ++ notes.writes = ap (λ (l : List raw_step.Step). noted G.member l) c.deref.ensures.value ∙ writes in
    let size : length c.stmts.new.begins.items ≡ length es = sym (length-map c.stmts.new.begins.items begin_of) ∙ ap length is ∙ steps.spotted_length T notes.begins es spotted in
    let total : c.in_ok-count.count ≡ length (behind_nones c.args.params es) =
    c.in_ok-count.ensures ∙ ap (λ (n : ℕ). c.args.params + n) (c.len.ensures ∙ c.stmts.new.begins.ok.0 ∙ size) ∙ sym (steps.behind_length c.args.params es) in
    let same = steps.flags_same F (marked c.deref-3.result.now) (is_among (noted G.member c.args.steps.now.items ++ notes.writes)) (behind_nones c.args.params es)
    (λ n lt. ap (λ (l : List Bool). marked l n) c.deref-3.ensures.value ∙ c.in_ok-marks.ensures G.member n (subst (λ (k : ℕ). n < k) (sym total) lt) ∙ ap (λ (l : List ℕ). is_among l n) all) in
    let placed = subst (λ (l : List (raw.Begin g.row.A.Denot)). AreSpotted T (map begin_of l) es) (sym c.deref-2.ensures.value) (subst (λ (l : List (Begin g.row.A.Denot)). AreSpotted T l es) (sym is) spotted) in
    subst (λ (l : List Bool). IfOk c.local_flags.result (λ v. v.items ≡ l)) same (c.local_flags.ensures es placed)
