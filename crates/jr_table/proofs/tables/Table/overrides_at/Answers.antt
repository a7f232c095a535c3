use Rattle.std.proofs.Common.{◌≡◌, sym, refl, ◌∙◌, ap, Bool, true, false}
use Rattle.std.specs.Prelude.{not, nat_eq}
use Rattle.std.specs.Cmp.Lexicographic.{pointwise, bytes_decides}
use Rattle.jr_table.specs.Looking.{same_kinds}
use Rattle.jr_table.specs.Virtual.{IsOver}
use Rattle.jr_table.proofs.Testing.{kinds_same}
use Rattle.jr_table.proofs.tables.Table.overrides_at.Goals as goal

pub returns-then-not-same_kinds : goal.returns-then-not-same_kinds
returns-then-not-same_kinds c = (
  λ t. absurd cc,
  λ o.
      let t = (kinds_same c.args.over.now.params c.args.under.now.params).1 o.takes in
      let f : same_kinds c.as_slice.result.now c.as_slice-2.result.now ≡ same_kinds c.args.over.now.params c.args.under.now.params = λ i. same_kinds (c.as_slice.ensures i) (c.as_slice-2.ensures i) in
      let g = c.same_kinds.ensures in
      let h = c.if-not-same_kinds.true in
      absurd cc,
)

not_false : (b : Bool) → not b ≡ false → b ≡ true
not_false true h = refl
not_false false h = absurd cc

pub returns : goal.returns
returns c = (
  λ t. record {
    strict = c.if-over-under.false;
    named = (bytes_decides c.args.over.now.name c.args.under.now.name).0 (not_false (pointwise nat_eq c.args.over.now.name c.args.under.now.name) (sym c.ne.ensures ∙ c.if-ne.false));
    takes =
        let f : same_kinds c.as_slice.result.now c.as_slice-2.result.now ≡ same_kinds c.args.over.now.params c.args.under.now.params = λ i. same_kinds (c.as_slice.ensures i) (c.as_slice-2.ensures i) in
        (kinds_same c.args.over.now.params c.args.under.now.params).0 (sym f ∙ sym c.same_kinds.ensures ∙ c.if-not-same_kinds.false);
    below = c.is_subclass_at.ensures.0 t;
  },
  λ o. c.is_subclass_at.ensures.1 o.below,
)
