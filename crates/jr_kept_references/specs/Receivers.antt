-- What becomes of `this`, of a field by its simple name and of a call without a target where a
-- local of the new place stands for `this` (JLS 6.5.6.1, 15.11.1, 15.12.1): each is a spot, and a
-- member is asked on the local.
use Rattle.std.specs.Prelude.{◌≡◌, ℕ, List, [], Some}
use Rattle.jr_ast.specs.Tree as tree
use Rattle.jr_table.specs.Keys.{ClassKey, FieldKey, MethodKey, Ty, class}
use Rattle.jr_table.specs.Decls.{LocalKey, field_decl, method_decl, local_decl}
use Rattle.jr_table.specs.Rows.{Row}
use Rattle.jr_table.specs.Found.{one}
use Rattle.jr_table.specs.Lookup.{FindsVariable}
use Rattle.jr_table.specs.Context.{Context, scope_of, IsTypeOf}
use Rattle.jr_table.specs.Binding.{HasType, HaveTypes, CallFinds}
use Rattle.jr_spell.specs.declared.references.RefForm.TheVariants as ref
use Rattle.jr_spell.specs.declared.spellings.Form.{Form}
use Rattle.jr_spell.specs.Taken.{IsTaken}
use Rattle.jr_rewrite.specs.Respellings.{front_of}
use Rattle.jr_rewrite.specs.Rewritten.{word_to, variable_on, operand_to, target_of}
use Rattle.jr_images.specs.Regions.{stand_in, Region}
use Rattle.jr_images.specs.Spelling.{spelled, reference, on_type}
use Rattle.jr_kept_references.specs.InRegions.{rows_in, field_in, method_in}

module _ {A : Type 0} (rows : List Row) (R : Region A) (c d : Context) where
  -- the local is found by the name, and has the class that the region tells for `this`
  pub record StandsIn (k : LocalKey) (name : List ℕ) (o : ClassKey) : Type 0 where
    pub is : R.receiver ≡ stand_in k name
    pub finds : FindsVariable (rows_in R) (scope_of d) name (one (local_decl k))
    pub type : IsTypeOf (rows_in R) d (local_decl k) (class o)
    pub told : (m : A) (t : Ty) → HasType rows c (tree.this m) t
        → R.type_now c (tree.this m) t ≡ class o

  module _ (m : A) (name : List ℕ) (o : ClassKey) where
    -- the local's name
    abbrev pub receiver_name : tree.Exp A
    receiver_name = tree.name m (record { mark = m; text = name })

    -- a field, and a call with these arguments, on the local
    abbrev pub FieldOnReceiver : FieldKey → tree.Exp A → Type 0
    FieldOnReceiver q y = (f : Form) × IsTaken (rows_in R) (scope_of d)
        (reference ref.FieldOn q.name (on_type (class o)) []) (field_decl q) f
        × (y ≡ variable_on m
        (operand_to m (front_of (spelled q.name q.name q.class f)) (Some receiver_name))
        (word_to (spelled q.name q.name q.class f) (record { mark = m; text = q.name })))

    abbrev pub CallOnReceiver : MethodKey → List Ty → tree.Exps A → tree.Exp A → Type 0
    CallOnReceiver q ts es y = (f : Form) × IsTaken (rows_in R) (scope_of d)
        (reference ref.MethodOn q.name (on_type (class o)) ts) (method_decl q) f
        × (y ≡ tree.call m (target_of
        (operand_to m (front_of (spelled q.name q.name q.class f)) (Some receiver_name)))
        (word_to (spelled q.name q.name q.class f) (record { mark = m; text = q.name })) es)

    abbrev pub OnReceiver : tree.Exp A → tree.Exp A → Type 0
    OnReceiver (tree.this n) y = y ≡ receiver_name
    OnReceiver (tree.name n w) y = (q : FieldKey)
        × FindsVariable rows (scope_of c) w.text (one (field_decl q))
        × FieldOnReceiver (field_in R q) y
    OnReceiver (tree.call n tree.no_target w args) y = (q : MethodKey) × (ts : List Ty)
        × (es : tree.Exps A) × CallFinds rows c tree.no_target w.text args (one (method_decl q))
        × HaveTypes (rows_in R) d es ts × CallOnReceiver (method_in R q) ts es y
    OnReceiver _ y = ⊥
