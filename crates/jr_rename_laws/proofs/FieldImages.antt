-- The program that the renaming of a field makes.
use Rattle.std.proofs.Common.{◌≡◌, ℕ, List, true, sym, ap, ◌∙◌}
use Rattle.std.specs.Prelude.{codes}
use Rattle.jr_ast.specs.MemberTree as syntax
use Rattle.jr_table.specs.Keys.{FieldKey}
use Rattle.jr_table.specs.Decls.{class_decl, field_decl, method_decl, local_decl}
use Rattle.jr_table.specs.Rows.{Row}
use Rattle.jr_table.specs.Prelude.{thread_key}
use Rattle.jr_table.specs.DeclaredItems.{declarations_of}
use Rattle.jr_images.specs.Families.{AreRenamed}
use Rattle.jr_images.specs.Images.{Renaming, is_renamed}
use Rattle.jr_images.specs.Clashes.{IsClear}
use Rattle.jr_rename_laws.specs.ImageLaws.{FieldsGiveImages}
use Rattle.jr_rename_laws.proofs.Still.{IsStill, with_target, without_target}
use Rattle.jr_rename_laws.proofs.MemberNames.{OfMembers, member_names}
use Rattle.jr_rename_laws.proofs.Apart.{members_apart}
use Rattle.jr_rename_laws.proofs.StillImages.{still_images}

module _ (rows : List Row) (k : FieldKey) (g : Renaming) (are : AreRenamed rows (field_decl k) g.decls) where
  pub field_still : IsStill g
  field_still = record {
    class = λ j. without_target rows (field_decl k) g are (class_decl j) (λ e. absurd cc);
    run = without_target rows (field_decl k) g are (method_decl (thread_key (codes "run"))) (λ e. absurd cc);
    start = without_target rows (field_decl k) g are (method_decl (thread_key (codes "start"))) (λ e. absurd cc);
  }

  the_field : (f : FieldKey) → is_renamed g (field_decl f) ≡ true → f ≡ k
  the_field f h = let e : field_decl f ≡ field_decl k = with_target rows (field_decl k) g are (field_decl f) h in let p : f ≡ k = cc in p

  pub of_field : {A : Type 0} (begins : A → ℕ → ℕ) (units : List (syntax.Unit A)) → IsClear begins rows units (field_decl k) g.name → OfMembers g rows
  of_field begins units clear = record {
    local = λ l. without_target rows (field_decl k) g are (local_decl l) (λ e. absurd cc);
    fields = λ f h p q. ap (λ (z : FieldKey). z.name) (the_field f p ∙ sym (the_field h q));
    methods = λ m n p q. absurd (let e = with_target rows (field_decl k) g are (method_decl m) p in cc);
    clear_field = λ f d p row takes. clear.alone d (row, (field_decl f, with_target rows (field_decl k) g are (field_decl f) p, takes));
    clear_method = λ m d p row takes. absurd (let e = with_target rows (field_decl k) g are (method_decl m) p in cc);
  }

pub field_images : {A B : Type 0} → FieldsGiveImages A B
field_images tells begins' k packages rows super_at units g news b =
    still_images tells begins' (field_decl k) packages rows super_at units g news b (field_still rows k g b.renamed) (members_apart g rows (of_field rows k g b.renamed (λ m base. (tells m base).from) units b.clear))
    (λ ts to. member_names g rows (of_field rows k g b.renamed (λ m base. (tells m base).from) units b.clear) packages (declarations_of (λ m base. (tells m base).from) units) b.clean b.of_declarations ts to)
