-- Whatever is renamed, the new rows meet what rows must.
use Rattle.std.proofs.Common.{List}
use Rattle.std.specs.Prelude.{codes}
use Rattle.jr_table.specs.Keys.{CtorKey}
use Rattle.jr_table.specs.Decls.{LocalKey, class_decl, field_decl, method_decl, constructor_decl, local_decl}
use Rattle.jr_table.specs.Rows.{Row}
use Rattle.jr_table.specs.Prelude.{thread_key}
use Rattle.jr_table.specs.DeclaredItems.{declarations_of}
use Rattle.jr_images.specs.Families.{AreRenamed}
use Rattle.jr_images.specs.Images.{Renaming}
use Rattle.jr_rename_laws.specs.ImageLaws.{RenamingsStayFair}
use Rattle.jr_rename_laws.proofs.Still.{IsStill, without_target}
use Rattle.jr_rename_laws.proofs.Apart.{members_apart, unrenamed_apart}
use Rattle.jr_rename_laws.proofs.DeclarationRows.{no_locals}
use Rattle.jr_rename_laws.proofs.FairImages.{KeysApart, fair}
use Rattle.jr_rename_laws.proofs.LocalImages.{still_of}
use Rattle.jr_rename_laws.proofs.FieldImages.{field_still, of_field}
use Rattle.jr_rename_laws.proofs.MethodImages.{method_still, of_method}
use Rattle.jr_rename_laws.proofs.ClassFair.{classes_fair}

-- a constructor has its class's name, so that no key changes
module _ (rows : List Row) (k : CtorKey) (g : Renaming) (are : AreRenamed rows (constructor_decl k) g.decls) where
  ctor_still : IsStill g
  ctor_still = record {
    class = λ j. without_target rows (constructor_decl k) g are (class_decl j) (λ e. absurd cc);
    run = without_target rows (constructor_decl k) g are (method_decl (thread_key (codes "run"))) (λ e. absurd cc);
    start = without_target rows (constructor_decl k) g are (method_decl (thread_key (codes "start"))) (λ e. absurd cc);
  }

  ctor_apart : KeysApart g rows
  ctor_apart = unrenamed_apart g rows (λ f. without_target rows (constructor_decl k) g are (field_decl f) (λ e. absurd cc))
      (λ m. without_target rows (constructor_decl k) g are (method_decl m) (λ e. absurd cc))

local_apart : (rows : List Row) (k : LocalKey) (g : Renaming) → AreRenamed rows (local_decl k) g.decls → KeysApart g rows
local_apart rows k g are = unrenamed_apart g rows (λ f. without_target rows (local_decl k) g are (field_decl f) (λ e. absurd cc))
    (λ m. without_target rows (local_decl k) g are (method_decl m) (λ e. absurd cc))

pub renamings_fair : {A : Type 0} → RenamingsStayFair A
renamings_fair begins rows units (class_decl k) g are of_declarations renamed own never clear whole new_whole = classes_fair begins rows units k g are of_declarations renamed own clear whole new_whole
renamings_fair begins rows units (field_decl k) g are of_declarations renamed own never clear whole new_whole =
    fair g (field_still rows k g renamed) rows (members_apart g rows (of_field rows k g renamed begins units clear)) are (no_locals (declarations_of begins units) rows of_declarations) whole
renamings_fair begins rows units (method_decl k) g are of_declarations renamed own never clear whole new_whole =
    fair g (method_still rows k g renamed are never) rows (members_apart g rows (of_method rows k g renamed begins units clear)) are (no_locals (declarations_of begins units) rows of_declarations) whole
renamings_fair begins rows units (constructor_decl k) g are of_declarations renamed own never clear whole new_whole =
    fair g (ctor_still rows k g renamed) rows (ctor_apart rows k g renamed) are (no_locals (declarations_of begins units) rows of_declarations) whole
renamings_fair begins rows units (local_decl k) g are of_declarations renamed own never clear whole new_whole =
    fair g (still_of rows k g renamed) rows (local_apart rows k g renamed) are (no_locals (declarations_of begins units) rows of_declarations) whole
