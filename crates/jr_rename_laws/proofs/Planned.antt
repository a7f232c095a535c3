-- What is planned is what the laws of the new program ask for.
use Rattle.std.proofs.Common.{List, ℕ, refl, sym, subst, inl}
use Rattle.jr_names.specs.Refusals.{prelude_method}
use Rattle.jr_bind.specs.Programs.{units_of}
use Rattle.jr_program_laws.specs.FileParts.{begins}
use Rattle.jr_images.specs.Clashes.{IsClear}
use Rattle.jr_plan.proofs.Rename.{rewrite_back, none_loses}
use Rattle.jr_rename_laws.specs.ImageLaws.{PlansBecome}

pub planned : {B : Type 0} → PlansBecome B
planned begins' packages p news text file at new edits renaming respelled is are of_declarations clean whole read = record {
  are = are;
  of_declarations = of_declarations;
  clean = clean;
  whole = whole;
  renamed = is.found.renames.renamed;
  own = is.found.renames.target.own;
  no_prelude = λ t h. is.found.no_prelude (prelude_method t) (t, inl h, refl);
  clear = subst (λ (n : List ℕ). IsClear begins p.rows (units_of p) is.found.target n) (sym is.found.renames.name) is.found.clear;
  files = is.becomes.files;
  rewrite = rewrite_back p is.found.g is.becomes;
  kept = none_loses p is.found.g is.becomes is.kept_all;
  read = read;
}
