-- Methods by the classes that declare them.
use Rattle.std.specs.Prelude.{ℕ, ◌+◌, List, [], Option, Some, None, map, length}
use Rattle.jr_index.specs.Linked.{first_of, AreLinkedFrom}
use Rattle.jr_table.specs.declared.decls.Decl as raw
use Rattle.jr_table.specs.ClassIndex.{class_owner}
use Rattle.jr_table.specs.Decls.{Decl, method_decl}
use Rattle.jr_table.specs.KeyView.{decl_of}
use Rattle.jr_images.specs.declared.method_index.MethodIndex.{MethodIndex}

abbrev pub outer_at : Option (List ℕ) → Option ℕ × List ℕ
outer_at None = (None, [])
outer_at (Some outer) = (Some 0, outer)

-- where the class around a method's class is found, among those alone
abbrev pub outer_place : Decl → Option ℕ × List ℕ
outer_place (method_decl m) = outer_at m.class.outer
outer_place _ = (None, [])

-- where a method is found: by its class, whose owner is the class around it
abbrev pub method_place : (List ℕ → Option ℕ) → (top : ℕ) → Decl → Option ℕ × List ℕ
method_place find top (method_decl m) = (class_owner find top m.class.outer, m.class.name)
method_place find top _ = (None, [])

-- each method among the declarations is found in its place
pub record FindsMethods (ds : List raw.Decl) (x : MethodIndex) : Type 0 where
  pub outers : AreLinkedFrom (map (λ (d : raw.Decl). outer_place (decl_of d)) ds) 1 0 x.outers
  pub classes : AreLinkedFrom
      (map (λ (d : raw.Decl). method_place (first_of x.outers 0) x.top (decl_of d)) ds)
      (length ds + 1) 0 x.classes
