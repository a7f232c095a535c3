use Rattle.std.proofs.Common.{◌≡◌, ℕ, Some, sym, ap, subst, ◌∙◌}
use Rattle.std.specs.Prelude.{not, nat_eq}
use Rattle.std.specs.Cmp.Lexicographic.{pointwise, bytes_decides}
use Rattle.jr_table.specs.Entries.{entries_of}
use Rattle.jr_table.specs.Looking.{is_virtual, own_row}
use Rattle.jr_dispatch.proofs.Belows.{no_entry, below_name, below_class, below_own, is_below}
use Rattle.jr_dispatch.proofs.families.is_below.Goals as goal

pub returns-then-not-is_own : goal.returns-then-not-is_own
returns-then-not-is_own c = (
  λ t. absurd cc,
  λ b.
      let over = c.args.over.now in
      let e = c.in-Some.entry.now in
      let rows = c.args.table.now in
      let own = below_own rows c.keeps_rows.ensures over.name over.params c.args.top c.args.number e (sym c.in-Some.ensures) b in
      let t = c.is_own.ensures.1 ((λ i. own_row (entries_of rows) (is_virtual (c.as_str.ensures i) (c.as_slice.ensures i)) e.class) ∙ own) in
      let f = c.if-not-is_own.true in
      absurd cc,
)

pub returns : goal.returns
returns c =
    let over = c.args.over.now in
    let e = c.in-Some.entry.now in
    let rows = c.args.table.now in
    let are = c.keeps_rows.ensures in (
      λ t. is_below rows are over.name over.params c.args.top c.args.number e (sym c.in-Some.ensures)
          (sym (λ i. own_row (entries_of rows) (is_virtual (c.as_str.ensures i) (c.as_slice.ensures i)) e.class) ∙ c.is_own.ensures.0 c.if-not-is_own.false)
          (c.is_subclass_at.ensures.0 t),
      λ b. c.is_subclass_at.ensures.1 (below_class rows are over.name over.params c.args.top c.args.number e (sym c.in-Some.ensures) b),
    )
