use Rattle.std.proofs.Common.{◌∙◌, ◌+◌, ℕ, List, refl, ap, subst}
use Rattle.jr_bodies.specs.CodeView.{code_of}
use Rattle.jr_new_bodies.specs.Known.{context_of}
use Rattle.jr_local_parts.specs.Descending.{place_of}
use Rattle.jr_local_parts.specs.ElementPlaces.{IsElementPlace}
use Rattle.jr_local_parts.proofs.Goings.{stays, goes_on}
use Rattle.jr_local_parts.proofs.Descents.{begun, starts, goes_down, ends_there, is_place}
use Rattle.jr_local_parts.proofs.elements.go_to_element.Goals as goal

pub step-requires : goal.step-requires
step-requires c = c.loop-wanted.invariant.goes.known

pub loop-wanted-init : goal.loop-wanted-init
loop-wanted-init c =
    let w = c.args.body.now in
    let h = c.args.here.now in
    record {
      goes = stays h c.requires;
      depth = refl;
      leads = starts (begun w c.args.next h) (code_of w.code).front (code_of w.code).list c.as_slice-steps.result.now (record { next = c.args.next; base = w.from; step = w.code.front; depth = 0 });
    }

pub loop-wanted-preserved : goal.loop-wanted-preserved
loop-wanted-preserved c =
    let l = c.loop-wanted in
    let w = c.args.body.now in
    let h = c.args.here.now in
    let new = c.step.new.here in
    let to = c.in_ok-place.ensures in
    let deep = c.in_ok-depth.ensures ∙ ap (λ (n : ℕ). n + 1) l.invariant.depth in
    record {
      goes = goes_on h l.here new (context_of l.here) (context_of new) l.invariant.goes to.goes;
      depth = deep;
      leads = goes_down (begun w c.args.next h) (code_of w.code).front (code_of w.code).list c.as_slice-steps.result.now (place_of (context_of l.here) l.place) (place_of (context_of new) c.in_ok-place.place) l.wanted-index _ c.in_ok-depth.depth l.at c.element_or-at.result
          c.loop-wanted-test.true to.is deep (c.element_or-at.ensures (context_of new)) l.invariant.leads;
    }

pub returns : goal.returns
returns c =
    let l = c.loop-wanted in
    let w = c.args.body.now in
    let h = c.args.here.now in
    let ks = c.as_slice-steps.result.now in
    subst (λ (path : List ℕ). IsElementPlace w path c.args.next h l.here l.at) c.as_slice-steps.ensures.value
    (is_place w c.args.next h l.here ks l.at l.invariant.goes
    (ends_there (begun w c.args.next h) (code_of w.code).front (code_of w.code).list ks (context_of l.here) l.place l.wanted-index l.at c.loop-wanted-test.false l.invariant.leads))
