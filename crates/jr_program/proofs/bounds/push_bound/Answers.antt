use Rattle.std.proofs.Common.{◌≡◌, length, refl}
use Rattle.std.proofs.lemmas.Option.{slice_get_read}
use Rattle.jr_members.specs.PartView.{written_of}
use Rattle.jr_program.proofs.Binding.{can_bind, has_place, adds_bound}
use Rattle.jr_program.proofs.bounds.push_bound.Goals as goal

pub bind_one-requires : goal.bind_one-requires
bind_one-requires g c = can_bind c.args.table.now c.args.tokens.now (written_of c.args.written.now) c.index-tokens-written.result (slice_get_read c.args.tokens.now (length c.args.tokens.now) c.args.written.now.file c.index-tokens-written.result refl c.requires.file c.index-tokens-written.is) c.requires c.in-Some.super_at c.in-Some.ensures

pub returns-in-None-clause-known : goal.returns-in-None-clause-known
returns-in-None-clause-known g c = absurd (has_place c.args.table.now c.args.tokens.now (written_of c.args.written.now) c.index-tokens-written.result (slice_get_read c.args.tokens.now (length c.args.tokens.now) c.args.written.now.file c.index-tokens-written.result refl c.requires.file c.index-tokens-written.is) c.requires c.in-None.ensures)

pub returns-in_ok-push-in-Some-clause-known : goal.returns-in_ok-push-in-Some-clause-known
returns-in_ok-push-in-Some-clause-known g c = adds_bound c.args.table.now c.args.tokens.now (written_of c.args.written.now) c.index-tokens-written.result (slice_get_read c.args.tokens.now (length c.args.tokens.now) c.args.written.now.file c.index-tokens-written.result refl c.requires.file c.index-tokens-written.is) c.requires c.in-Some.super_at c.in-Some.ensures _ c.in_ok-bound-in-Some.ensures.bound c.in_ok-bound-in-Some.ensures.place _ _ c.in_ok-push-in-Some.ensures.items
