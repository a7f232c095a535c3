use Rattle.std.proofs.Common.{◌≡◌, ◌++◌, map, take}
use Rattle.jr_scopes.specs.Tracked.{Tracked, helds_of}
use Rattle.jr_new_words.specs.MappingView.{made_of}
use Rattle.jr_new_words.specs.Scopes.{made_held}
use Rattle.jr_new_words.proofs.scopes.put_made.Given as goal

abbrev pub invariant-loop-one : goal.invariant-loop-one
invariant-loop-one l = record {
  locals : helds_of l.locals ≡ helds_of l.fn.locals ++ map (λ m. made_held (made_of m)) (take l.one-index l.made);
  tracked : Tracked l.locals;
}
