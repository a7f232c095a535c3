-- What the heads of classes note, by parts, and when their places fit: exact.
use Rattle.std.specs.Prelude.{
  ◌≡◌,
  ℕ,
  List,
  [],
  ◌++◌,
  map,
  Option,
  Some,
  None,
  option_map,
  Bool,
  true,
  false,
  not,
  ◌&&◌,
  option_and_then,
  slice_get,
}
use Rattle.jr_ast.specs.Tree as tree
use Rattle.jr_ast.specs.MemberTree as syntax
use Rattle.jr_ast.specs.Marks.{type_mark}
use Rattle.jr_table.specs.declared.answers.Answer.{Answer}
use Rattle.jr_table.specs.Keys.{ClassKey, Ty}
use Rattle.jr_table.specs.Decls.{MemberKey, head, class_decl}
use Rattle.jr_table.specs.Rows.{Row}
use Rattle.jr_table.specs.Entries.{number_of, kind_of}
use Rattle.jr_table.specs.Lookup.{shown}
use Rattle.jr_table.specs.Context.{Context, scope_of, is_final_word}
use Rattle.jr_table.specs.HeadRules.{plain}
use Rattle.jr_table.specs.Meanings.{test_row, superclass_of, ctor_found, own_superclass}
use Rattle.jr_table.specs.Notes.{Note, breaks, when, has_word}
use Rattle.jr_table.specs.HeadNotes.{
  declared_notes,
  parent_references,
  is_final_super,
  lacks_super_ctor,
}
use Rattle.jr_table.specs.declared.rules.Rule.TheVariants as rule
use Rattle.jr_bind_expr.specs.declared.findings.Note as raw
use Rattle.jr_bind_expr.specs.declared.args.Args as raw_args
use Rattle.jr_bind_expr.specs.ArgsView.{kinds_of}
use Rattle.jr_bind_expr.specs.Logs.{notes_of}
use Rattle.jr_bind_parts.specs.DeclaredTypes.{FitsMaybeType}

-- whether the class of this number is final
abbrev pub is_final_at : List Row → Option ℕ → Bool
is_final_at rows o = test_row (has_word is_final_word) (option_and_then (λ j. slice_get rows j) o)

abbrev pub is_ctor_member : {A : Type 0} → syntax.Member A → Bool
is_ctor_member (syntax.constructor m mods w ps args body) = true
is_ctor_member (syntax.field m mods t w init) = false
is_ctor_member (syntax.method m mods t w ps body) = false
is_ctor_member (syntax.inner m of) = false

-- of a class that begins at `at`
module _ {A : Type 0} (begins : A → ℕ → ℕ) (rows : List Row) (k : ClassKey) (at : ℕ) where
  -- on the superclass
  abbrev pub parent_notes : Option (tree.TypeName A) → List Note
  parent_notes None = []
  parent_notes (Some t) = declared_notes (parent_references begins rows k.outer at t)
      ++ when (is_final_super rows (superclass_of rows k))
      (breaks (begins (type_mark t) at) rule.FinalClass)

  -- on the constructor that isn't written
  abbrev pub bare_notes : (writes_ctor : Bool) → tree.Word A → List Note
  bare_notes writes_ctor w = when (not writes_ctor && lacks_super_ctor rows (plain (head k) false))
      (breaks (begins w.mark at) rule.SuperCtor)

-- these notes more, of a class that has this row
abbrev pub PutsOfClass : List Row → (class : ℕ) → (ClassKey → List Note) → (old new : List raw.Note)
    → Type 0
PutsOfClass rows class more old new = (m : MemberKey) (k : ClassKey)
    → number_of rows (class_decl k) ≡ Some class
    → notes_of rows m new ≡ notes_of rows m old ++ more k

module _ {A : Type 0} (begins : A → ℕ → ℕ) (Fits : A → ℕ → Type 0) where
  abbrev pub FitsHead : (base : ℕ) → syntax.Class A → Type 0
  FitsHead base (syntax.class m mods w t ms) = Fits m base × Fits w.mark (begins m base)
      × FitsMaybeType begins Fits (begins m base) t

-- the notes on a superclass's name more, where no class is around
abbrev pub PutsTop : {A : Type 0} (begins : A → ℕ → ℕ) → List Row → (base : ℕ) → tree.TypeName A
    → (old new : List raw.Note) → Type 0
PutsTop begins rows base t old new = (m : MemberKey) → notes_of rows m new
    ≡ notes_of rows m old ++ declared_notes (parent_references begins rows None base t)

-- the superclass's constructor that takes arguments of these types, at a place of the class
abbrev pub IsSuperCtor : List Row → (class : ℕ) → raw_args.Args → Answer → Type 0
IsSuperCtor rows class args a = (c : Context) (ts : Option (List Ty))
    → number_of rows (class_decl (scope_of c).class) ≡ Some class
    → kinds_of args ≡ option_map (map (kind_of rows)) ts
    → shown rows a ≡ ctor_found rows c (own_superclass rows c) ts

-- whether an implicit `super()` lacks its constructor at a place of the class
abbrev pub IsLacking : List Row → (class : ℕ) → Bool → Type 0
IsLacking rows class b = (c : Context)
    → number_of rows (class_decl (scope_of c).class) ≡ Some class → b ≡ lacks_super_ctor rows c
