use Rattle.std.proofs.Common.{◌≡◌, ◌++◌, ◌∙◌, refl, sym}
use Rattle.std.proofs.lemmas.Option.{same_Some}
use Rattle.jr_table.specs.declared.kinds.DeclKind.TheVariants as kind
use Rattle.jr_table.specs.Prelude.{prelude_rows}
use Rattle.jr_build_rows.specs.ExactRows.{rows_of_declarations}
use Rattle.jr_build_rows.proofs.Apart.{one_each}
use Rattle.jr_build_rows.proofs.NamedRows.{all_named}
use Rattle.jr_build_rows.proofs.OwnRows.{rows_apart}
use Rattle.jr_build_rows.proofs.OneRows.{program_once}
use Rattle.jr_build_rows.proofs.ProgramRows.{program_rows}
use Rattle.jr_build_rows.proofs.RowCycles.{no_cycle}
use Rattle.jr_build_rows.proofs.build_laws.clean_rows_are_sound.Goals as goal

pub returns : goal.returns
returns c = record {
  rows = λ packages declarations h is headed clean. program_rows packages declarations h clean
      (c.hierarchies_are_exact.ensures.means declarations h is) (c.hierarchies_are_exact.ensures.extends declarations h is)
      (c.superclasses_are_sound.ensures.parents packages declarations h is (clean kind.NoSuperclass)) headed;
  meet = λ packages declarations h is headed clean few. record {
    own = rows_of_declarations h declarations;
    prelude = refl;
    one_each = one_each (prelude_rows ++ rows_of_declarations h declarations)
        (rows_apart packages declarations h clean (c.hierarchies_are_exact.ensures.means declarations h is) headed);
    named = all_named declarations h is.tops.classes.keys headed;
    no_cycle = no_cycle declarations h (c.hierarchies_are_exact.ensures.extends declarations h is)
        (c.superclasses_are_sound.ensures.acyclic packages declarations h is (clean kind.Cycle));
    few = few;
  };
  only = λ declarations h is rows others. program_once declarations
      (λ k w t u a b. same_Some t u (sym ((c.hierarchies_are_exact.ensures.means declarations h is k w t).1 a) ∙ (c.hierarchies_are_exact.ensures.means declarations h is k w u).1 b))
      (λ k p q a b. same_Some p q (sym ((c.hierarchies_are_exact.ensures.extends declarations h is k p).1 a) ∙ (c.hierarchies_are_exact.ensures.extends declarations h is k q).1 b)) rows others;
}
