-- The program that the renaming of a class makes.
use Rattle.std.proofs.Common.{◌≡◌, ℕ, List, [], ◌∷◌, ◌++◌, length, Some, None, refl, sym, ap, subst, ◌∙◌, inl, inr, arith}
use Rattle.std.specs.Prelude.{slice_get, codes}
use Rattle.jr_ast.specs.declared.operators.ModWord.TheVariants as word
use Rattle.jr_table.specs.Keys.{ClassKey}
use Rattle.jr_table.specs.Decls.{class_decl, field_decl, method_decl, local_decl}
use Rattle.jr_table.specs.Rows.{Row}
use Rattle.jr_table.specs.Prelude.{prelude_rows, class_row, top_key, object_key}
use Rattle.jr_table.specs.Conditions.{AreRows}
use Rattle.jr_table.specs.Context.{Context}
use Rattle.jr_table.specs.DeclaredItems.{DeclaredItem, DeclaredClass, class_item, declarations_of}
use Rattle.jr_table.specs.Resolving.{IsPreludeClass, DeclaresClass, IsParent}
use Rattle.jr_table.specs.ProgramRows.{AreProgramRows}
use Rattle.jr_build_rows.proofs.OneRows.{program_once}
use Rattle.jr_members.proofs.DeclarationRows.{once, not_reserved}
use Rattle.jr_program_laws.proofs.MeansOnce.{means_once, parent_once}
use Rattle.jr_members.proofs.Walking.{map_join}
use Rattle.jr_images.specs.Targets.{IsOfPrelude}
use Rattle.jr_images.specs.Images.{Renaming, row_to, rows_to}
use Rattle.jr_images.specs.RenameLaws.{ReferencesAreKept}
use Rattle.jr_rename_laws.specs.ImageLaws.{ClassesStayFair}
use Rattle.jr_program_laws.proofs.RowsOfDeclarations.{gives}
use Rattle.jr_program_laws.proofs.Programs.{program_agrees, tops_agree, parents_agree}
use Rattle.jr_rename_laws.specs.ClassLaws.{ClassesGiveImages, BuiltRowsAreImages}
use Rattle.jr_rename_laws.proofs.DeclarationRows.{early}
use Rattle.jr_rename_laws.proofs.Renamed.{Keeps, target, not_target}
use Rattle.jr_rename_laws.proofs.Objects.{object_old, object_named, object_of}
use Rattle.jr_rename_laws.proofs.TreesBeside.{units_go}
use Rattle.jr_rename_laws.proofs.ClassDeclarations.{all_declarations}
use Rattle.jr_rename_laws.proofs.NewAgreeing.{Both, class_of_decl}
use Rattle.jr_rename_laws.proofs.NewRows.{program_rows}
use Rattle.jr_rename_laws.proofs.NewNames.{Fresh}
use Rattle.jr_rename_laws.proofs.NewClean.{is_clean}
use Rattle.jr_rename_laws.proofs.MembersBeside.{member_images}

-- lists that go on differently begin alike
front_same : {X : Type 0} (xs ys us vs : List X) → length xs ≡ length ys → xs ++ us ≡ ys ++ vs → xs ≡ ys
front_same [] [] us vs l e = refl
front_same [] (y ∷ ys) us vs l e = absurd (omega (arith, l))
front_same (x ∷ xs) [] us vs l e = absurd (omega (arith, l))
front_same (x ∷ xs) (y ∷ ys) us vs l e =
    let here : x ≡ y = cc in
    let rest = front_same xs ys us vs (omega (arith, l)) cc in
    λ i. here i ∷ rest i

-- the rows of the prelude stay
pub prelude_stay : (rows : List Row) (g : Renaming) → AreRows rows → AreRows (rows_to g rows) → rows_to g prelude_rows ≡ prelude_rows
prelude_stay rows g old new =
    front_same (rows_to g prelude_rows) prelude_rows (rows_to g old.own) new.own refl (sym (map_join (row_to g) prelude_rows old.own) ∙ sym (ap (rows_to g) old.prelude) ∙ new.prelude)

module _ (rows : List Row) (are : AreRows rows) where
  pub of_prelude : (name : List ℕ) → IsPreludeClass name → IsOfPrelude rows (class_decl (top_key name))
  of_prelude name (inl e) =
      (0, early 0 8 refl (omega arith), record { row = class_row [] (codes "Object") None; stands = ap (λ (xs : List Row). slice_get xs 0) are.prelude; declares = ap (λ (n : List ℕ). class_decl (top_key n)) (sym e) })
  of_prelude name (inr (inl e)) =
      (2, early 2 8 refl (omega arith), record { row = class_row (word.Final ∷ []) (codes "String") (Some object_key); stands = ap (λ (xs : List Row). slice_get xs 2) are.prelude; declares = ap (λ (n : List ℕ). class_decl (top_key n)) (sym e) })
  of_prelude name (inr (inr (inl e))) =
      (3, early 3 8 refl (omega arith), record { row = class_row (word.Final ∷ []) (codes "Class") (Some object_key); stands = ap (λ (xs : List Row). slice_get xs 3) are.prelude; declares = ap (λ (n : List ℕ). class_decl (top_key n)) (sym e) })
  of_prelude name (inr (inr (inr e))) =
      (4, early 4 8 refl (omega arith), record { row = class_row [] (codes "Thread") (Some object_key); stands = ap (λ (xs : List Row). slice_get xs 4) are.prelude; declares = ap (λ (n : List ℕ). class_decl (top_key n)) (sym e) })

-- each class has a superclass, where the rows are those of the declarations
pub superclass_of : (declarations : List DeclaredItem) (rows : List Row) → AreProgramRows declarations rows → (k : ClassKey) (c : DeclaredClass) → DeclaresClass declarations k c → (p : ClassKey) × IsParent declarations k p
superclass_of declarations rows program k c at =
    let r = gives declarations rows program at.number at.file (class_item c) at.stands in
    (r.2.superclass, subst (λ (x : ClassKey). IsParent declarations x r.2.superclass) at.is r.2.is_parent)

pub class_images : {A B : Type 0} → ReferencesAreKept A → ClassesStayFair A → ClassesGiveImages A B
class_images kept fair_law tells begins' packages rows super_at units k g news c above =
    let b = c.becomes in
    let ss = declarations_of (λ m base. (tells m base).from) units in
    let ts = declarations_of begins' news in
    let fair = fair_law (λ m base. (tells m base).from) rows units k g b.are b.of_declarations b.renamed b.own b.clear b.whole c.whole in
    let keeps : Keeps rows g = record {
      local = λ l. not_target rows k g b.renamed (local_decl l) (λ e. absurd cc);
      field = λ f. not_target rows k g b.renamed (field_decl f) (λ e. absurd cc);
      method = λ m. not_target rows k g b.renamed (method_decl m) (λ e. absurd cc);
      prelude = λ name is. not_target rows k g b.renamed (class_decl (top_key name)) (λ e. b.own (subst (IsOfPrelude rows) e (of_prelude rows b.are name is)));
      object_old = object_old rows b.are packages ss b.clean (program_agrees rows ss b.are b.of_declarations);
      object_named = object_named (rows_to g rows) fair.are;
      object_of = object_of (rows_to g rows) fair.are;
    } in
    let fresh : Fresh rows g k = record {
      only = λ j h. class_of_decl j k (target rows k g b.renamed (class_decl j) h);
      fresh = λ j row e. b.clear.alone (class_decl j) (inr (row, (e, λ same. b.clear.other (ap (λ (z : ClassKey). z.name) (sym same) ∙ e))));
      runnable = λ e. b.clear.alone (class_decl (top_key (codes "Runnable"))) (inl (refl, e));
      field = λ f row named some none. b.clear.alone (field_decl f) (inr (row, (named, some, none)));
      method = λ m row named some none. b.clear.alone (method_decl m) (inr (row, (named, some, none)));
    } in
    let along = kept tells rows g (λ (c : Context). super_at c.member) units b.files b.are fair b.rewrite b.kept in
    let beside = units_go rows g keeps tells begins' (λ (c : Context). super_at c.member) ss units c.heads b.files b.rewrite along news b.read in
    let to = all_declarations rows g keeps tells begins' (λ (c : Context). super_at c.member) ss units news beside in
    let two : Both rows g ss ts = record {
      keeps = keeps;
      agree = program_agrees rows ss b.are b.of_declarations;
      are = fair.are;
      to = to;
      tops = tops_agree rows ss b.are b.of_declarations packages b.clean;
      parents = parents_agree rows ss b.are b.of_declarations packages b.clean;
      once = once ss rows b.are b.of_declarations;
      free = not_reserved ss rows b.are b.of_declarations;
      old_parent = superclass_of ss rows b.of_declarations;
      new_parent = above;
    } in
    let rows_are = program_rows rows g ss ts two b.of_declarations (prelude_stay rows g b.are fair.are) in
    record {
      rows_are = rows_are;
      fair = fair;
      clean = λ lines names. is_clean rows g ss ts two k fresh packages b.clean b.of_declarations rows_are lines names;
      members = member_images rows g ss ts two tells begins' (λ (c : Context). super_at c.member) units refl news beside;
    }

pub built_rows : {A B : Type 0} → ReferencesAreKept A → ClassesStayFair A → BuiltRowsAreImages A B
built_rows kept fair_law tells begins' packages rows others super_at units k g news c program =
    let images = class_images kept fair_law tells begins' packages rows super_at units k g news c (superclass_of (declarations_of begins' news) others program) in
    let clean = images.clean packages refl in (
      program_once (declarations_of begins' news) (λ j w t u x y. means_once packages (declarations_of begins' news) clean j w t u x y) (λ j p q x y. parent_once packages (declarations_of begins' news) clean j p q x y)
          others (rows_to g rows) program images.rows_are,
      images,
    )
