-- The program of new trees where a constructor is renamed, and so nothing gets another name.
use Rattle.std.proofs.Common.{◌≡◌, Bool, true, false, List, refl}
use Rattle.jr_table.specs.Keys.{CtorKey}
use Rattle.jr_table.specs.Decls.{Decl, class_decl, field_decl, method_decl, constructor_decl, local_decl}
use Rattle.jr_table.specs.Rows.{Row}
use Rattle.jr_table.specs.Prelude.{top_key}
use Rattle.jr_table.specs.Context.{Context}
use Rattle.jr_table.specs.DeclaredItems.{declarations_of}
use Rattle.jr_build_rows.proofs.OneRows.{program_once}
use Rattle.jr_members.proofs.DeclarationRows.{once, not_reserved}
use Rattle.jr_program_laws.proofs.MeansOnce.{means_once, parent_once}
use Rattle.jr_images.specs.Families.{AreRenamed}
use Rattle.jr_images.specs.Images.{Renaming, is_renamed, rows_to}
use Rattle.jr_images.specs.RenameLaws.{ReferencesAreKept}
use Rattle.jr_rename_laws.specs.ImageLaws.{RenamingsStayFair}
use Rattle.jr_program_laws.proofs.Programs.{program_agrees, tops_agree, parents_agree}
use Rattle.jr_rename_laws.specs.ClassLaws.{ConstructorsGiveImages}
use Rattle.jr_rename_laws.proofs.Still.{any_among}
use Rattle.jr_rename_laws.proofs.Renamed.{Keeps}
use Rattle.jr_rename_laws.proofs.Objects.{object_old, object_named, object_of}
use Rattle.jr_rename_laws.proofs.TreesBeside.{units_go}
use Rattle.jr_rename_laws.proofs.ClassDeclarations.{all_declarations}
use Rattle.jr_rename_laws.proofs.NewAgreeing.{Both}
use Rattle.jr_rename_laws.proofs.NewRows.{program_rows}
use Rattle.jr_rename_laws.proofs.MembersBeside.{member_images}
use Rattle.jr_rename_laws.proofs.Whole.{prelude_stay, superclass_of}

not_renamed : (rows : List Row) (k : CtorKey) (g : Renaming) → AreRenamed rows (constructor_decl k) g.decls → (d : Decl) → (d ≡ constructor_decl k → ⊥) → is_renamed g d ≡ false
not_renamed rows k g are d never = by (is_renamed g d) refl
  where
    by : (b : Bool) → is_renamed g d ≡ b → b ≡ false
    by true h = absurd (never ((are d).0 (any_among d g.decls h)))
    by false h = refl

pub ctor_images : {A B : Type 0} → ReferencesAreKept A → RenamingsStayFair A → ConstructorsGiveImages A B
ctor_images kept fair_law tells begins' packages rows others super_at units k g news c =
    let b = c.becomes in
    let ss = declarations_of (λ m base. (tells m base).from) units in
    let ts = declarations_of begins' news in
    let fair = fair_law (λ m base. (tells m base).from) rows units (constructor_decl k) g b.are b.of_declarations b.renamed b.own b.no_prelude b.clear b.whole c.dotless in
    let stays = not_renamed rows k g b.renamed in
    let keeps : Keeps rows g = record {
      local = λ l. stays (local_decl l) (λ e. absurd cc);
      field = λ f. stays (field_decl f) (λ e. absurd cc);
      method = λ m. stays (method_decl m) (λ e. absurd cc);
      prelude = λ name is. stays (class_decl (top_key name)) (λ e. absurd cc);
      object_old = object_old rows b.are packages ss b.clean (program_agrees rows ss b.are b.of_declarations);
      object_named = object_named (rows_to g rows) fair.are;
      object_of = object_of (rows_to g rows) fair.are;
    } in
    let along = kept tells rows g (λ (c : Context). super_at c.member) units b.files b.are fair b.rewrite b.kept in
    let beside = units_go rows g keeps tells begins' (λ (c : Context). super_at c.member) ss units c.headed b.files b.rewrite along news b.read in
    let to = all_declarations rows g keeps tells begins' (λ (c : Context). super_at c.member) ss units news beside in
    let two : Both rows g ss ts = record {
      keeps = keeps;
      agree = program_agrees rows ss b.are b.of_declarations;
      are = fair.are;
      to = to;
      tops = tops_agree rows ss b.are b.of_declarations packages b.clean;
      parents = parents_agree rows ss b.are b.of_declarations packages b.clean;
      once = once ss rows b.are b.of_declarations;
      free = not_reserved ss rows b.are b.of_declarations;
      old_parent = superclass_of ss rows b.of_declarations;
      new_parent = superclass_of ts others c.new_rows;
    } in
    let rows_are = program_rows rows g ss ts two b.of_declarations (prelude_stay rows g b.are fair.are) in
    let clean = c.clean packages refl in (
      record {
        rows_are = rows_are;
        fair = fair;
        clean = c.clean;
        members = member_images rows g ss ts two tells begins' (λ (c : Context). super_at c.member) units refl news beside;
      },
      program_once ts (λ j w t u x y. means_once packages ts clean j w t u x y) (λ j p q x y. parent_once packages ts clean j p q x y) others (rows_to g rows) c.new_rows rows_are,
    )
