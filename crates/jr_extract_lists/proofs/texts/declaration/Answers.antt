use Rattle.std.proofs.Common.{ap, ◌∙◌}
use Rattle.std.specs.Prelude.{string_bytes}
use Rattle.jr_rewrite.specs.Rewritten.{change}
use Rattle.jr_local.specs.Extracted.{declaration_text}
use Rattle.jr_extract_lists.proofs.texts.declaration.Goals as goal

pub gap_at-requires : goal.gap_at-requires
gap_at-requires c = c.requires.begins

pub with_changes-requires : goal.with_changes-requires
with_changes-requires c = record { cut = c.requires.fits.cut; fit = c.requires.fits.fit; within = c.requires.fits.within }

pub returns : goal.returns
returns c = record {
  gap = string_bytes c.in_ok-gap.gap;
  is_gap = c.in_ok-gap.ensures;
  is = ap (change (record { from = c.args.at; to = c.args.at }))
      (c.in_ok-text.ensures ∙ (λ i. declaration_text (c.as_str-2.ensures i) (c.as_str.ensures.value i) ((c.as_str-3.ensures.value ∙ c.in_ok-init.ensures) i) (c.as_str-4.ensures.value i)));
}
