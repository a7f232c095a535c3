-- What an expression notes and means, from what its parts mean: exact. A found declaration is by
-- keys, a class or type by number.
use Rattle.std.specs.Prelude.{◌≡◌, ℕ, List, [], ◌∷◌, ◌++◌, Option, Some, None, option_map, is_some}
use Rattle.std.specs.Prelude.{Bool, true, false, not, ◌&&◌, if◌then◌else◌}
use Rattle.jr_ast.specs.declared.operators.UnOp.{UnOp}
use Rattle.jr_ast.specs.declared.operators.BinOp.{BinOp}
use Rattle.jr_table.specs.declared.answers.Answer.{Answer}
use Rattle.jr_table.specs.declared.entries.Kind.{Kind}
use Rattle.jr_table.specs.declared.entries.Entry.{Entry}
use Rattle.jr_table.specs.Keys.{ClassKey}
use Rattle.jr_table.specs.Decls.{Decl}
use Rattle.jr_table.specs.Rows.{Row}
use Rattle.jr_table.specs.Entries.{class_number, kind_of, entries_of}
use Rattle.jr_table.specs.Chains.{parent_of}
use Rattle.jr_table.specs.Fields.{find_field_of, find_member_type}
use Rattle.jr_table.specs.Calls.{find_call, find_method, find_ctor}
use Rattle.jr_table.specs.Found.{Found, one, nothing, many, not_accessible, from_static}
use Rattle.jr_table.specs.Lookup.{shown, find_variable}
use Rattle.jr_table.specs.Context.{Context, scope_of}
use Rattle.jr_table.specs.Binding.{Role, value, left, statement, variable, type}
use Rattle.jr_table.specs.Binding as sought
use Rattle.jr_table.specs.Meanings.{class_found, type_of_found, or_type, find_left}
use Rattle.jr_table.specs.Notes.{
  Note,
  breaks,
  found_note,
  unless,
  when,
  test_found,
  is_static_decl,
  is_instance_decl,
  is_final_decl,
  is_fixed,
  is_constant_found,
  is_forward,
  is_statement,
  is_object_method,
}
use Rattle.jr_table.specs.declared.rules.Rule.{Rule}
use Rattle.jr_table.specs.declared.rules.Rule.TheVariants as rule
use Rattle.jr_bind_expr.specs.declared.findings.Note as raw
use Rattle.jr_bind_expr.specs.declared.findings.Note.TheVariants.{Breaks}
use Rattle.jr_bind_expr.specs.declared.meanings.Meaning.{Meaning}
use Rattle.jr_bind_expr.specs.Numbered.{
  in_class,
  for_kinds,
  on_class,
  is_void,
  is_int,
  are_int,
  suits,
  comparable,
  takes,
  takes_one,
}
use Rattle.jr_bind_expr.specs.Means.{fixed_notes}

-- one note more, where the rule is broken
abbrev pub PutsWhen : Bool → ℕ → Rule → (old new : List raw.Note) → Type 0
PutsWhen is_broken at r old new = new ≡ old ++ (if is_broken then Breaks at r ∷ [] else [])

abbrev pub is_nothing : Found → Bool
is_nothing nothing = true
is_nothing (one d) = false
is_nothing (many d e) = false
is_nothing (not_accessible d) = false
is_nothing (from_static d) = false

-- the declaration, where one is found
abbrev pub one_decl : Found → Option Decl
one_decl (one d) = Some d
one_decl nothing = None
one_decl (many d e) = None
one_decl (not_accessible d) = None
one_decl (from_static d) = None

abbrev pub is_static_entry : Option Entry → Bool
is_static_entry None = false
is_static_entry (Some e) = e.is_static

abbrev pub is_instance_entry : Option Entry → Bool
is_instance_entry None = false
is_instance_entry (Some e) = not e.is_static

-- what is meant where this is found
pub record Says (rows : List Row) (c : Context) (begin at : ℕ) (f : Found) (class : Option ClassKey)
    (is_fixed is_constant : Bool) (m : Meaning) : Type 0 where
  pub begins : m.at ≡ begin
  pub kind : m.kind ≡ option_map (kind_of rows) (type_of_found rows c f)
  pub class_is : m.class ≡ option_map (class_number rows) class
  pub fixed : fixed_notes m.fixed ≡ when is_fixed (breaks at rule.FinalAssigned)
  pub constant : m.is_constant ≡ is_constant

-- simple names

abbrev pub named_note : Role → ℕ → (var type : Found) → Note
named_note left at v t = found_note at type t
named_note value at v t = found_note at variable v
named_note statement at v t = found_note at variable v

module _ (rows : List Row) (c : Context) where
  abbrev pub name_notes : Role → ℕ → List ℕ → List Note
  name_notes r at name = named_note r at (find_variable rows (scope_of c) name)
      (find_left rows (scope_of c) name)
      ∷ when (test_found (is_forward rows c) (find_variable rows (scope_of c) name))
      (breaks at rule.Forward)

  abbrev pub NameSays : (begin at : ℕ) → List ℕ → Meaning → Type 0
  NameSays begin at name m = Says rows c begin at (find_variable rows (scope_of c) name)
      (class_found (find_left rows (scope_of c) name))
      (test_found (is_fixed rows c) (find_variable rows (scope_of c) name))
      (is_constant_found rows c (find_variable rows (scope_of c) name)) m

-- fields, at a place of class p

abbrev pub field_at : List Row → ℕ → Option ℕ → List ℕ → Found
field_at rows p on name =
    shown rows (in_class on (λ c. find_field_of (entries_of rows) p c name))

-- as a class before a dot
abbrev pub left_at : List Row → ℕ → Option ℕ → Found → List ℕ → Found
left_at rows p None f name = nothing
left_at rows p (Some c) f name =
    or_type f (shown rows (find_member_type (entries_of rows) p c name))

abbrev pub dotted_note : Role → ℕ → Option ℕ → (var type : Found) → Note
dotted_note left at (Some c) v t = found_note at type t
dotted_note left at None v t = found_note at variable v
dotted_note value at class v t = found_note at variable v
dotted_note statement at class v t = found_note at variable v

abbrev pub through_notes : List Row → ℕ → Option ℕ → Found → List Note
through_notes rows at None f =
    when (test_found (is_static_decl rows) f) (breaks at rule.StaticThroughValue)
through_notes rows at (Some c) f =
    when (test_found (is_instance_decl rows) f) (breaks at rule.InstanceThroughType)

abbrev pub field_notes : List Row → Role → ℕ → Option ℕ → (var type : Found) → List Note
field_notes rows r at class v t = dotted_note r at class v t ∷ through_notes rows at class v

abbrev pub FieldSays : List Row → Context → (begin at : ℕ) → (is_this : Bool) → Option ℕ
    → (var type : Found) → Meaning → Type 0
FieldSays rows c begin at is_this class v t m = Says rows c begin at v (class_found t)
    (if is_this then test_found (is_fixed rows c) v else test_found (is_final_decl rows c) v)
    (is_some class && is_constant_found rows c v) m

-- behind `super`
abbrev pub super_notes : List Row → (is_static : Bool) → (at_super at : ℕ) → Found → List Note
super_notes rows is_static at_super at f = found_note at variable f
    ∷ when is_static (breaks at_super rule.StaticContext) ++ through_notes rows at None f

-- calls

abbrev pub called_notes : Role → ℕ → List ℕ → Option Kind → List Note
called_notes r at name t = when (not (is_statement r) && is_void t) (breaks at rule.VoidValue)
    ++ when (is_object_method name) (breaks at rule.ObjectMethod)

abbrev pub call_answer : List Row → ℕ → Bool → Option Meaning → List ℕ → Option (List Kind)
    → Answer
call_answer rows p is_static None name ts =
    for_kinds ts (λ us. find_call (entries_of rows) p is_static name us)
call_answer rows p is_static (Some m) name ts = in_class (on_class m.class m.kind)
    (λ c. for_kinds ts (λ us. find_method (entries_of rows) p c name us))

-- behind `super`, and of a class
abbrev pub super_answer : List Row → ℕ → List ℕ → Option (List Kind) → Answer
super_answer rows p name ts = in_class (parent_of (entries_of rows) p)
    (λ c. for_kinds ts (λ us. find_method (entries_of rows) p c name us))

abbrev pub ctor_answer : List Row → ℕ → Option ℕ → Option (List Kind) → Answer
ctor_answer rows p class ts =
    in_class class (λ c. for_kinds ts (λ us. find_ctor (entries_of rows) p c us))

abbrev pub target_notes : List Row → ℕ → Option Meaning → Found → List Note
target_notes rows at None f = []
target_notes rows at (Some m) f = through_notes rows at m.class f

abbrev pub call_notes : List Row → Role → ℕ → Option Meaning → List ℕ → Option Kind → Found
    → List Note
call_notes rows r at to name t f = found_note at sought.method f
    ∷ target_notes rows at to f ++ called_notes r at name t

abbrev pub super_call_notes : List Row → Role → (is_static : Bool) → (at_super at : ℕ) → List ℕ
    → Option Kind → Found → List Note
super_call_notes rows r is_static at_super at name t f = found_note at sought.method f
    ∷ when is_static (breaks at_super rule.StaticContext)
    ++ (through_notes rows at None f ++ called_notes r at name t)

abbrev pub created : Option Kind → Found → Option Kind
created t f = if is_some (one_decl f) then t else None

-- operators and literals

abbrev pub plain : (begin : ℕ) → Option Kind → Bool → Meaning
plain begin kind is_constant = record {
  at = begin;
  kind = kind;
  class = None;
  fixed = None;
  is_constant = is_constant;
}

module _ (rows : List Entry) where
  abbrev pub unary_notes : UnOp → (begin : ℕ) → Meaning → List Note
  unary_notes o begin m = unless (takes_one o m.kind) (breaks begin rule.Operands)

  abbrev pub bump_notes : (begin : ℕ) → Meaning → List Note
  bump_notes begin m = unless (is_int m.kind) (breaks begin rule.Operands) ++ fixed_notes m.fixed

  abbrev pub binary_notes : BinOp → (begin : ℕ) → (l r : Meaning) → List Note
  binary_notes o begin l r = unless (takes rows o l.kind r.kind) (breaks begin rule.Operands)

  abbrev pub compound_notes : (begin : ℕ) → (l r : Meaning) → List Note
  compound_notes begin l r =
      unless (are_int l.kind r.kind) (breaks begin rule.Operands) ++ fixed_notes l.fixed

  abbrev pub assign_notes : (l r : Meaning) → List Note
  assign_notes l r = unless (suits rows r.kind l.kind) (breaks r.at rule.TypeMismatch)
      ++ fixed_notes l.fixed

  abbrev pub cast_notes : (begin : ℕ) → Option Kind → Meaning → List Note
  cast_notes begin t m = unless (comparable rows t m.kind) (breaks begin rule.BadCast)
