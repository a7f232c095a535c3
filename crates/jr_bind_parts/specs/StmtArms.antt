-- What statements note, from what their expressions mean: exact.
use Rattle.std.specs.Prelude.{
  ◌≡◌,
  ℕ,
  ◌+◌,
  List,
  [],
  ◌∷◌,
  ◌++◌,
  Option,
  Some,
  None,
  option_map,
  is_some,
  Bool,
  true,
  not,
  ◌&&◌,
}
use Rattle.jr_ast.specs.Tree as tree
use Rattle.jr_ast.specs.Marks.{exp_mark}
use Rattle.jr_table.specs.declared.entries.Entry.{Entry}
use Rattle.jr_table.specs.declared.entries.Kind.{Kind}
use Rattle.jr_table.specs.declared.entries.Kind.TheVariants.{Int, Boolean, Void, Null, Class}
use Rattle.jr_table.specs.Keys.{Ty, boolean}
use Rattle.jr_table.specs.Rows.{Row}
use Rattle.jr_table.specs.Scope.{last_named}
use Rattle.jr_table.specs.Entries.{kind_of}
use Rattle.jr_table.specs.Context.{Context, scope_of, in_own, with_local, local_of}
use Rattle.jr_table.specs.Binding.{value}
use Rattle.jr_table.specs.Walks.{notes_of}
use Rattle.jr_table.specs.Meanings.{written_type, type_of, type_references}
use Rattle.jr_table.specs.Notes.{
  Note,
  breaks,
  unless,
  when,
  is_ty,
  suits,
  is_constant,
  is_true_literal,
  is_class_type,
  reference_notes,
  returned_type,
  value_return_notes,
}
use Rattle.jr_table.specs.declared.rules.Rule.TheVariants as rule
use Rattle.jr_bind_expr.specs.declared.meanings.Meaning.{Meaning}
use Rattle.jr_bind_parts.specs.declared.completing.Behind.{Behind}
use Rattle.jr_bind_expr.specs.declared.places.Place.{Place}
use Rattle.jr_bind_expr.specs.declared.findings.Note as raw
use Rattle.jr_bind_expr.specs.Places.{member_of, context_of, IsRowedIf}
use Rattle.jr_bind_expr.specs.Logs.{Adds}
use Rattle.jr_bind_expr.specs.Logs as logs
use Rattle.jr_bind_parts.specs.Flow.{Passes}
use Rattle.jr_bind_expr.specs.Numbered as number
use Rattle.jr_bind_expr.specs.Numbered.{is_boolean, class_in}

-- by numbers

abbrev pub condition_notes : Meaning → List Note
condition_notes m = unless (is_boolean m.kind) (breaks m.at rule.TypeMismatch)

abbrev pub loop_notes : (is_endless : Bool) → Meaning → List Note
loop_notes is_endless m = condition_notes m
    ++ when (not is_endless && m.is_constant) (breaks m.at rule.ConstantCondition)

abbrev pub lock_notes : Meaning → List Note
lock_notes m = unless (is_some (class_in m.kind)) (breaks m.at rule.TypeMismatch)

-- the type of a value that is due, if one is
abbrev pub value_kind : Option Kind → Option Kind
value_kind None = None
value_kind (Some Void) = None
value_kind (Some Int) = Some Int
value_kind (Some Boolean) = Some Boolean
value_kind (Some Null) = Some Null
value_kind (Some (Class c)) = Some (Class c)

abbrev pub value_notes : List Entry → (at : ℕ) → (due : Option Kind) → Meaning → List Note
value_notes rows at None m = breaks at rule.ReturnForm ∷ []
value_notes rows at (Some t) m =
    unless (number.suits rows m.kind (Some t)) (breaks m.at rule.TypeMismatch)

abbrev pub init_notes : List Entry → Option Kind → Meaning → List Note
init_notes rows t m = unless (number.suits rows m.kind t) (breaks m.at rule.TypeMismatch)

-- by keys, of a statement that begins at `at`
module _ {A : Type 0} (begins : A → ℕ → ℕ) (rows : List Row) (c : Context) (at : ℕ) where
  abbrev pub checked_notes : tree.Exp A → List Note
  checked_notes e =
      unless (is_ty boolean (type_of rows c e)) (breaks (begins (exp_mark e) at) rule.TypeMismatch)

  abbrev pub looped_notes : tree.Exp A → List Note
  looped_notes e = checked_notes e ++ when (not (is_true_literal e) && is_constant rows c e)
      (breaks (begins (exp_mark e) at) rule.ConstantCondition)

  abbrev pub locked_notes : tree.Exp A → List Note
  locked_notes e = unless (is_class_type (type_of rows c e))
      (breaks (begins (exp_mark e) at) rule.TypeMismatch)

  abbrev pub value_returned_notes : tree.Exp A → List Note
  value_returned_notes e = value_return_notes rows at (begins (exp_mark e) at) (type_of rows c e)
      (returned_type rows c.member)

  abbrev pub returned_notes : Option (tree.Exp A) → List Note
  returned_notes (Some e) = value_returned_notes e
  returned_notes None = when (is_some (returned_type rows c.member)) (breaks at rule.ReturnForm)

  abbrev pub redeclared_notes : tree.Word A → List Note
  redeclared_notes w = when (is_some (last_named w.text (scope_of c).locals))
      (breaks (begins w.mark at) rule.Redeclared)

  -- of a local that has this number
  abbrev pub local_notes : ℕ → Bool → tree.TypeName A → tree.Word A → tree.Exp A → List Note
  local_notes number f t w e = reference_notes (type_references begins rows c at t)
      ++ (redeclared_notes w
      ++ unless (suits rows (type_of rows (in_own c (local_of c number f t w)) e)
      (written_type rows (scope_of c) t)) (breaks (begins (exp_mark e) at) rule.TypeMismatch))

-- the initializer of a local of this type is noted in the log
abbrev pub InitAdds : {A : Type 0} (begins : A → ℕ → ℕ) → List Row → Context → (at : ℕ)
    → Option Kind → tree.Exp A → (old new : List Note) → Type 0
InitAdds begins rows c at kind e old new = (t : Option Ty) → IsRowedIf rows t
    → kind ≡ option_map (kind_of rows) t
    → Adds old (unless (suits rows (type_of rows c e) t)
    (breaks (begins (exp_mark e) at) rule.TypeMismatch) ++ notes_of begins rows c value at e) new

-- behind a local, whose statement begins at `at`
abbrev pub LocalPasses : {A : Type 0} (begins : A → ℕ → ℕ) → List Row → Place → (at number : ℕ)
    → Bool → tree.TypeName A → tree.Word A → tree.Exp A → (old : List raw.Note) → Behind → Place
    → (new : List raw.Note) → Type 0
LocalPasses begins rows p at number f t w e old b q new = Passes rows (member_of p) (number + 1)
    true (with_local (context_of p) (local_of (context_of p) number f t w))
    (logs.notes_of rows (member_of p) old)
    (local_notes begins rows (context_of p) at number f t w e ++ notes_of begins rows
    (in_own (context_of p) (local_of (context_of p) number f t w)) value at e) b q new
