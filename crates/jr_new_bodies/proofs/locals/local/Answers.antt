use Rattle.std.proofs.Common.{[], ◌∷◌, ◌++◌, ap, ◌∙◌}
use Rattle.jr_ast.specs.View.{word_of, type_of, expr_of}
use Rattle.jr_table.specs.Context.{in_own, local_of}
use Rattle.jr_table.specs.Binding.{value}
use Rattle.jr_new_bodies.specs.Spotting.{spots_of}
use Rattle.jr_new_bodies.specs.SpotView.{spotting_of}
use Rattle.jr_new_bodies.specs.OutputView.{gathered}
use Rattle.jr_new_bodies.specs.Known.{context_of}
use Rattle.jr_new_bodies.specs.Effects.{Gathers}
use Rattle.jr_rewrite.specs.Spots.{level}
use Rattle.jr_rewrite.specs.Rewrites.{TransformsPart}
use Rattle.jr_new_words.specs.Spelled.{spelling}
use Rattle.jr_new_bodies.specs.Ready.{ExpReadyIn}
use Rattle.jr_new_bodies.specs.Moves.{without_own}
use Rattle.jr_new_bodies.proofs.Bodying.{moved, moved_back}
use Rattle.jr_new_bodies.proofs.locals.local.Goals as goal

pub operand-requires : goal.operand-requires
operand-requires g c =
    let T = g.A.Mark.span_from in
    let h = c.args.here.now in
    let x = context_of h in
    let inside = in_own x (local_of x c.args.number c.args.is_final (type_of c.args.ty.now) (word_of c.args.name.now)) in
    record {
      known = c.in_ok-declare.ensures.known;
      ready = moved_back (λ rs b f d. ExpReadyIn T g.A.Mark.fits_at rs b f d value (c.args.path.now.steps.items ++ 2 ∷ []) c.args.at (expr_of c.args.init.now)) h c.declare.new.here inside c.in_ok-declare.ensures c.requires.ready;
    }

pub leave_own-requires : goal.leave_own-requires
leave_own-requires g c = record { known = c.in_ok-declare.ensures.known }

pub returns : goal.returns
returns g c =
    let T = g.A.Mark.span_from in
    let h = c.args.here.now in
    let x = context_of h in
    let inside = in_own x (local_of x c.args.number c.args.is_final (type_of c.args.ty.now) (word_of c.args.name.now)) in
    let i = c.declare.new.here in
    record {
      number = c.in_ok-after.ensures;
      goes = let last = c.leave_own.ensures in
          let declared = c.in_ok-declare.ensures in
          record {
            known = last.known;
            context = last.context ∙ ap without_own declared.context;
            rows = last.rows ∙ declared.rows;
            mapping = last.mapping ∙ declared.mapping;
            bound = last.bound ∙ declared.bound;
            from_is = last.from_is ∙ declared.from_is;
            spots = last.spots ∙ declared.spots;
          };
      gives = (
        gathered c.local_head.new.out,
        c.in_ok-local_head.ensures,
        λ s. moved (λ rs k z d. Gathers (TransformsPart T (spelling (λ m b. (T m b).from) rs k s.super_at) (spots_of T s (spotting_of z)) (level 0) d value c.args.at (expr_of c.args.init.now)) (gathered c.local_head.new.out) (gathered c.operand.new.out)) h i inside c.in_ok-declare.ensures (c.in_ok-operand.ensures s),
      );
    }
