-- Where a class is renamed, the new rows are fair.
use Rattle.std.proofs.Common.{◌≡◌, ℕ, List, [], ◌∷◌, length, Option, Some, None, Bool, true, false, refl, sym, ap, subst, ◌∙◌, inr, arith}
use Rattle.std.specs.Prelude.{option_map, slice_get, codes}
use Rattle.std.specs.List.{position_or_len}
use Rattle.jr_ast.specs.MemberTree as syntax
use Rattle.jr_ast.specs.declared.operators.ModWord.{ModWord}
use Rattle.jr_ast.specs.declared.operators.ModWord.TheVariants as word
use Rattle.jr_table.specs.Keys.{ClassKey, void}
use Rattle.jr_table.specs.Decls.{class_decl, field_decl, method_decl, constructor_decl}
use Rattle.jr_table.specs.Rows.{Row}
use Rattle.jr_table.specs.Conditions.{AreRows}
use Rattle.jr_table.specs.Prelude.{prelude_rows, class_row, ctor_row, thread_key, thread_row, top_key, object_key}
use Rattle.jr_table.specs.DeclaredItems.{declarations_of}
use Rattle.jr_spell.specs.Binds.{is_dot}
use Rattle.jr_images.specs.Targets.{IsOfPrelude}
use Rattle.jr_images.specs.Families.{AreRenamed}
use Rattle.jr_images.specs.Images.{Renaming, is_renamed, class_to, row_to, rows_to}
use Rattle.jr_images.specs.Clashes.{IsClear}
use Rattle.jr_images.proofs.KeyImages.{keeps_name}
use Rattle.jr_rename_laws.specs.ImageLaws.{ClassesStayFair}
use Rattle.jr_rename_laws.proofs.Still.{with_target, without_target, gets_name}
use Rattle.jr_rename_laws.proofs.DeclarationRows.{no_locals, early}
use Rattle.jr_rename_laws.proofs.FairClasses.{OfClass, class_rows}

module _ (g : Renaming) where
  stays : (name : List ℕ) → is_renamed g (class_decl (top_key name)) ≡ false → class_to g (top_key name) ≡ top_key name
  stays name h = λ i. record { outer = None; name = keeps_name g (class_decl (top_key name)) name h i }

  class_row_same : (words : List ModWord) (name : List ℕ) (parent : Option ClassKey) → is_renamed g (class_decl (top_key name)) ≡ false → option_map (class_to g) parent ≡ parent
      → row_to g (class_row words name parent) ≡ class_row words name parent
  class_row_same words name parent h e = λ i. record { decl = class_decl (stays name h i); modifiers = words; type = None; parent = e i; has_init = false }

  ctor_row_same : (words : List ModWord) (name : List ℕ) → is_renamed g (class_decl (top_key name)) ≡ false → row_to g (ctor_row words (top_key name)) ≡ ctor_row words (top_key name)
  ctor_row_same words name h = λ i. record { decl = constructor_decl (record { class = stays name h i; params = [] }); modifiers = words; type = None; parent = None; has_init = false }

  thread_row_same : (words : List ModWord) (name : List ℕ) → is_renamed g (class_decl (top_key (codes "Thread"))) ≡ false → is_renamed g (method_decl (thread_key name)) ≡ false
      → row_to g (thread_row words name) ≡ thread_row words name
  thread_row_same words name h e = λ i. record {
    decl = method_decl (record { class = stays (codes "Thread") h i; name = keeps_name g (method_decl (thread_key name)) name e i; params = [] });
    modifiers = words;
    type = Some void;
    parent = None;
    has_init = false;
  }

  module _ (object : is_renamed g (class_decl object_key) ≡ false) (string : is_renamed g (class_decl (top_key (codes "String"))) ≡ false) (class : is_renamed g (class_decl (top_key (codes "Class"))) ≡ false)
      (thread : is_renamed g (class_decl (top_key (codes "Thread"))) ≡ false) (run : is_renamed g (method_decl (thread_key (codes "run"))) ≡ false) (start : is_renamed g (method_decl (thread_key (codes "start"))) ≡ false) where
    under_object : option_map (class_to g) (Some object_key) ≡ Some object_key
    under_object = ap (λ (k : ClassKey). Some k) (stays (codes "Object") object)

    prelude_stays : rows_to g prelude_rows ≡ prelude_rows
    prelude_stays = λ i.
        class_row_same [] (codes "Object") None object refl i
        ∷ ctor_row_same [] (codes "Object") object i
        ∷ class_row_same (word.Final ∷ []) (codes "String") (Some object_key) string under_object i
        ∷ class_row_same (word.Final ∷ []) (codes "Class") (Some object_key) class under_object i
        ∷ class_row_same [] (codes "Thread") (Some object_key) thread under_object i
        ∷ ctor_row_same [] (codes "Thread") thread i
        ∷ thread_row_same (word.Public ∷ []) (codes "run") thread run i
        ∷ thread_row_same (word.Public ∷ []) (codes "start") thread start i
        ∷ []

module _ (rows : List Row) (k : ClassKey) (g : Renaming) (are : AreRows rows) (renamed : AreRenamed rows (class_decl k) g.decls) where
  the_class : (j : ClassKey) → is_renamed g (class_decl j) ≡ true → j ≡ k
  the_class j h = let e : class_decl j ≡ class_decl k = with_target rows (class_decl k) g renamed (class_decl j) h in let p : j ≡ k = cc in p

  unrenamed : (own : IsOfPrelude rows (class_decl k) → ⊥) (j : ClassKey) → IsOfPrelude rows (class_decl j) → is_renamed g (class_decl j) ≡ false
  unrenamed own j old = without_target rows (class_decl k) g renamed (class_decl j) (λ e. own (subst (IsOfPrelude rows) e old))

  object_row : IsOfPrelude rows (class_decl object_key)
  object_row = (0, early 0 8 refl (omega arith), record { row = class_row [] (codes "Object") None; stands = ap (λ (xs : List Row). slice_get xs 0) are.prelude; declares = refl })

  string_row : IsOfPrelude rows (class_decl (top_key (codes "String")))
  string_row = (2, early 2 8 refl (omega arith), record { row = class_row (word.Final ∷ []) (codes "String") (Some object_key); stands = ap (λ (xs : List Row). slice_get xs 2) are.prelude; declares = refl })

  class_class_row : IsOfPrelude rows (class_decl (top_key (codes "Class")))
  class_class_row = (3, early 3 8 refl (omega arith), record { row = class_row (word.Final ∷ []) (codes "Class") (Some object_key); stands = ap (λ (xs : List Row). slice_get xs 3) are.prelude; declares = refl })

  thread_class_row : IsOfPrelude rows (class_decl (top_key (codes "Thread")))
  thread_class_row = (4, early 4 8 refl (omega arith), record { row = class_row [] (codes "Thread") (Some object_key); stands = ap (λ (xs : List Row). slice_get xs 4) are.prelude; declares = refl })

  of_class : {A : Type 0} (begins : A → ℕ → ℕ) (units : List (syntax.Unit A)) → IsClear begins rows units (class_decl k) g.name → OfClass g rows
  of_class begins units clear = record {
    key = k;
    only = the_class;
    field = λ f. without_target rows (class_decl k) g renamed (field_decl f) (λ e. absurd cc);
    method = λ m. without_target rows (class_decl k) g renamed (method_decl m) (λ e. absurd cc);
    fresh = λ j row e. clear.alone (class_decl j) (inr (row, (e, λ same. clear.other (ap (λ (z : ClassKey). z.name) (sym same) ∙ e))));
  }

  new_name : (whole : position_or_len is_dot g.name ≡ length g.name) (j : ClassKey) (b : Bool) → is_renamed g (class_decl j) ≡ b → position_or_len is_dot j.name ≡ length j.name
      → position_or_len is_dot (class_to g j).name ≡ length (class_to g j).name
  new_name whole j true h own = subst (λ (n : List ℕ). position_or_len is_dot n ≡ length n) (sym (gets_name g (class_decl j) j.name h)) whole
  new_name whole j false h own = subst (λ (n : List ℕ). position_or_len is_dot n ≡ length n) (sym (keeps_name g (class_decl j) j.name h)) own

pub classes_fair : {A : Type 0} → ClassesStayFair A
classes_fair begins rows units k g are of_declarations renamed own clear whole new_whole =
    let string = unrenamed rows k g are renamed own (top_key (codes "String")) (string_row rows k g are renamed) in
    let class = unrenamed rows k g are renamed own (top_key (codes "Class")) (class_class_row rows k g are renamed) in
    let same = prelude_stays g (unrenamed rows k g are renamed own object_key (object_row rows k g are renamed)) string class
    (unrenamed rows k g are renamed own (top_key (codes "Thread")) (thread_class_row rows k g are renamed))
    (without_target rows (class_decl k) g renamed (method_decl (thread_key (codes "run"))) (λ e. absurd cc))
    (without_target rows (class_decl k) g renamed (method_decl (thread_key (codes "start"))) (λ e. absurd cc)) in
    record {
      are = class_rows g rows (of_class rows k g are renamed begins units clear) are (no_locals (declarations_of begins units) rows of_declarations) same;
      names = λ j i is. new_name rows k g are renamed new_whole j (is_renamed g (class_decl j)) refl (whole j i is);
      string = stays g (codes "String") string;
      class = stays g (codes "Class") class;
    }
