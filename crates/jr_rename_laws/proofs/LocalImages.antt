-- The program that the renaming of a local or parameter makes.
use Rattle.std.proofs.Common.{List}
use Rattle.std.specs.Prelude.{codes}
use Rattle.jr_table.specs.Decls.{LocalKey, class_decl, field_decl, method_decl, local_decl}
use Rattle.jr_table.specs.Rows.{Row}
use Rattle.jr_table.specs.Prelude.{thread_key}
use Rattle.jr_images.specs.Families.{AreRenamed}
use Rattle.jr_images.specs.Images.{Renaming}
use Rattle.jr_rename_laws.specs.ImageLaws.{LocalsGiveImages}
use Rattle.jr_rename_laws.proofs.Still.{IsStill, without_target}
use Rattle.jr_rename_laws.proofs.Apart.{unrenamed_apart}
use Rattle.jr_rename_laws.proofs.LocalNames.{local_names}
use Rattle.jr_rename_laws.proofs.StillImages.{still_images}

pub still_of : (rows : List Row) (k : LocalKey) (g : Renaming) → AreRenamed rows (local_decl k) g.decls → IsStill g
still_of rows k g are = record {
  class = λ j. without_target rows (local_decl k) g are (class_decl j) (λ e. absurd cc);
  run = without_target rows (local_decl k) g are (method_decl (thread_key (codes "run"))) (λ e. absurd cc);
  start = without_target rows (local_decl k) g are (method_decl (thread_key (codes "start"))) (λ e. absurd cc);
}

pub local_images : {A B : Type 0} → LocalsGiveImages A B
local_images tells begins' k packages rows super_at units g news b =
    still_images tells begins' (local_decl k) packages rows super_at units g news b (still_of rows k g b.renamed)
    (unrenamed_apart g rows (λ f. without_target rows (local_decl k) g b.renamed (field_decl f) (λ e. absurd cc)) (λ m. without_target rows (local_decl k) g b.renamed (method_decl m) (λ e. absurd cc)))
    (λ ts to. local_names (λ m base. (tells m base).from) units rows k g b.renamed b.clear packages b.clean ts to)
