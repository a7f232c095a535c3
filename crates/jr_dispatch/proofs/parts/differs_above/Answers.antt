use Rattle.std.proofs.Common.{refl, sym, subst, ◌∙◌}
use Rattle.jr_table.specs.Entries.{entries_of}
use Rattle.jr_table.specs.Wanted.{passes}
use Rattle.jr_table.proofs.Chaining.{shorter}
use Rattle.jr_table.proofs.RowLaws.{acyclic_rows}
use Rattle.jr_dispatch.proofs.Marking.{IsMarkedAt, marked_at, none_above}
use Rattle.jr_dispatch.proofs.Lows.{begins, goes_on, here, nowhere}
use Rattle.jr_dispatch.proofs.parts.differs_above.Goals as goal

pub loop-class-init : goal.loop-class-init
loop-class-init c =
    begins (entries_of c.args.old.now) (entries_of c.args.new.now) (passes c.args.was.now) (passes c.args.now.now) (acyclic_rows c.args.old.now c.keeps_rows.ensures) c.args.class

pub loop-class-smaller : goal.loop-class-smaller
loop-class-smaller c =
    shorter (entries_of c.args.old.now) (acyclic_rows c.args.old.now c.keeps_rows.ensures) c.loop-class.at c.in-Some.parent (sym c.in-Some.ensures)

pub loop-class-preserved : goal.loop-class-preserved
loop-class-preserved c =
    goes_on (entries_of c.args.old.now) (entries_of c.args.new.now) (passes c.args.was.now) (passes c.args.now.now) (acyclic_rows c.args.old.now c.keeps_rows.ensures) c.args.class
    c.loop-class.at c.in-Some.parent c.loop-class.invariant (λ d. let t = c.differs_at.ensures.1 d in let f = c.if-differs_at.false in absurd cc) (sym c.in-Some.ensures)

pub returns-then-differs_at : goal.returns-then-differs_at
returns-then-differs_at c = (
  λ t. here (entries_of c.args.old.now) (entries_of c.args.new.now) (passes c.args.was.now) (passes c.args.now.now) (acyclic_rows c.args.old.now c.keeps_rows.ensures) c.args.class
      c.loop-class.at c.loop-class.invariant (c.differs_at.ensures.0 c.if-differs_at.true),
  λ d. refl,
)

pub returns-in_default : goal.returns-in_default
returns-in_default c = (
  λ t. absurd cc,
  λ d. absurd (nowhere (entries_of c.args.old.now) (entries_of c.args.new.now) (passes c.args.was.now) (passes c.args.now.now) (acyclic_rows c.args.old.now c.keeps_rows.ensures) c.args.class
      c.loop-class.at c.loop-class.invariant (λ x. let t = c.differs_at.ensures.1 x in let f = c.if-differs_at.false in absurd cc) (sym c.in_default.ensures) d),
)

pub returns-then-is_marked : goal.returns-then-is_marked
returns-then-is_marked c =
    let old = entries_of c.args.old.now in
    let new = entries_of c.args.new.now in
    let at = c.loop-class.at in
    let marks = c.args.marks.now in
    let marked = subst (IsMarkedAt marks) c.own.ensures (marked_at marks c.own.result (sym c.is_marked.ensures ∙ c.if-is_marked.true)) in (
      λ t. absurd cc,
      λ d. absurd (none_above old new (passes c.args.was.now) (passes c.args.now.now) c.requires.tests marks c.requires.unparted at
          (λ x. let t = c.differs_at.ensures.1 x in let f = c.if-differs_at.false in absurd cc) marked (c.loop-class.invariant.rest d)),
    )
