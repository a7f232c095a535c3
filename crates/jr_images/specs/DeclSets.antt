-- Which of a set of declarations are no methods, and what is kept of the others.
use Rattle.std.specs.Prelude.{◌≡◌, List, Bool, true, false}
use Rattle.std.specs.List.{list_any}
use Rattle.jr_table.specs.declared.decls.Decl as raw
use Rattle.jr_table.specs.Decls.{Decl, method_decl}
use Rattle.jr_table.specs.KeyView.{decl_of}
use Rattle.jr_images.specs.declared.method_index.MethodIndex.{MethodIndex}
use Rattle.jr_images.specs.MethodIndex.{FindsMethods}

abbrev pub is_no_method : Decl → Bool
is_no_method (method_decl m) = false
is_no_method _ = true

-- all of them are methods, and are found
pub record AreMethods (ds : List raw.Decl) (x : MethodIndex) : Type 0 where
  pub none : list_any (λ (d : raw.Decl). is_no_method (decl_of d)) ds ≡ false
  pub found : FindsMethods ds x
