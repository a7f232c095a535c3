use Rattle.std.proofs.Common.{Option, ℕ, subst}
use Rattle.std.specs.Prelude.{IfSome}
use Rattle.jr_lookup.specs.ScopeView.{scope_of}
use Rattle.jr_new_words.specs.Ways.{way_of}
use Rattle.jr_new_words.specs.StayingBy.{FindsBy}
use Rattle.jr_new_words.proofs.staying_by.finds_image.Goals as goal

pub returns-in-Some : goal.returns-in-Some
returns-in-Some c =
    let s = c.args.scopes.now in
    let after = subst (λ (o : Option ℕ). IfSome o (FindsBy s.programs.after.now (scope_of s.after) (way_of c.args.way.now) c.args.name.now c.args.args.now)) c.in-Some.is c.in_ok-found.ensures in
    λ t. let h = c.image_serves.ensures t in record { image = c.in-Some.image; after = after; becomes = h.0; serves = h.1 }
