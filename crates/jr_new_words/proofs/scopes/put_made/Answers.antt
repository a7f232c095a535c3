use Rattle.std.proofs.Common.{◌++◌, map, sym, ap, ◌∙◌, take_all}
use Rattle.std.proofs.lemmas.List.{append-nil}
use Rattle.jr_scopes.specs.Tracked.{locals_of, helds_of}
use Rattle.jr_new_words.specs.MappingView.{made_of}
use Rattle.jr_new_words.specs.Scopes.{made_held}
use Rattle.jr_new_words.proofs.Growing.{one_made}
use Rattle.jr_new_words.proofs.scopes.put_made.Goals as goal

pub loop-one-init : goal.loop-one-init
loop-one-init c = record { locals = sym (append-nil (helds_of c.args.locals.now)); tracked = c.requires }

pub loop-one-preserved : goal.loop-one-preserved
loop-one-preserved c =
    let l = c.loop-one in
    record {
      locals = one_made (λ m. made_held (made_of m)) (helds_of c.args.locals.now) (locals_of l.locals) _ c.held_made.result c.args.made.now l.one-index c.one-item.result c.in_ok-push.ensures.locals c.held_made.ensures c.loop-one-test.true c.one-item.is l.invariant.locals;
      tracked = c.in_ok-push.ensures.tracked;
    }

pub returns-clause-locals : goal.returns-clause-locals
returns-clause-locals c =
    let l = c.loop-one in
    l.invariant.locals ∙ ap (λ zs. helds_of c.args.locals.now ++ map (λ m. made_held (made_of m)) zs) (take_all _ _ c.loop-one-test.false)
