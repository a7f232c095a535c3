-- References that a refactoring makes: each is spelled in the first way, of the row of its form, in
-- which it is bound to the declaration that is stated (JLS 6.4, 6.5).
use Rattle.std.specs.Prelude.{◌≡◌, ℕ, List, [], None}
use Rattle.jr_ast.specs.Tree as tree
use Rattle.jr_table.specs.Keys.{ClassKey, Ty}
use Rattle.jr_table.specs.Decls.{
  Decl,
  class_decl,
  field_decl,
  method_decl,
  constructor_decl,
  local_decl,
}
use Rattle.jr_table.specs.Rows.{Row}
use Rattle.jr_table.specs.Found.{one}
use Rattle.jr_table.specs.Lookup.{FindsVariable}
use Rattle.jr_table.specs.Context.{Context, scope_of}
use Rattle.jr_table.specs.Binding.{HaveTypes}
use Rattle.jr_spell.specs.declared.references.RefForm.TheVariants as ref
use Rattle.jr_spell.specs.declared.spellings.Form.{Form}
use Rattle.jr_spell.specs.Taken.{IsTaken}
use Rattle.jr_rewrite.specs.Respellings.{front_of}
use Rattle.jr_rewrite.specs.Rewritten.{
  word_to,
  variable_to,
  operand_to,
  target_of,
  qualifier_to,
}
use Rattle.jr_images.specs.Spelling.{spelled, reference}

module _ {A : Type 0} (rows : List Row) (d : Context) (m : A) where
  abbrev pub new_word_of : List ℕ → tree.Word A
  new_word_of name = record { mark = m; text = name }

  -- the expression is made, at a place where this is known, for the declaration: a local or a field
  -- by its simple name, a call without a target with these arguments
  abbrev pub IsMade : (args : tree.Exps A) → Decl → tree.Exp A → Type 0
  IsMade args (local_decl k) y = (name : List ℕ)
      × FindsVariable rows (scope_of d) name (one (local_decl k))
      × (y ≡ tree.name m (new_word_of name))
  IsMade args (field_decl k) y = (f : Form)
      × IsTaken rows (scope_of d) (reference ref.FieldSimple k.name None []) (field_decl k) f
      × (y ≡ variable_to m (front_of (spelled k.name k.name k.class f)) None
      (word_to (spelled k.name k.name k.class f) (new_word_of k.name)))
  IsMade args (method_decl k) y = (ts : List Ty) × HaveTypes rows d args ts × (f : Form)
      × IsTaken rows (scope_of d) (reference ref.MethodSimple k.name None ts) (method_decl k) f
      × (y
      ≡ tree.call m (target_of (operand_to m (front_of (spelled k.name k.name k.class f)) None))
      (word_to (spelled k.name k.name k.class f) (new_word_of k.name)) args)
  IsMade args (class_decl k) y = ⊥
  IsMade args (constructor_decl k) y = ⊥

  -- the type's name is made for the class
  abbrev pub IsMadeType : ClassKey → tree.TypeName A → Type 0
  IsMadeType k u = (f : Form)
      × IsTaken rows (scope_of d) (reference ref.ClassName k.name None []) (class_decl k) f
      × (u ≡ tree.named m (qualifier_to m (front_of (spelled k.name k.name k f)) None)
      (word_to (spelled k.name k.name k f) (new_word_of k.name)))
