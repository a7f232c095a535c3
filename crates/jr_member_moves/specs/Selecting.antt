-- The field or method that an identifier declares, the superclass to which it is pulled up, and why
-- that is refused by itself.
use Rattle.std.specs.Prelude.{◌≡◌, ◌⊎◌, ℕ, ◌<◌, ◌≤◌, Bool, true, false, List, Option, Some, None, codes, slice_get}
use Rattle.std.specs.List.{list_any}
use Rattle.jr_text.specs.declared.spans.Span.{Span}
use Rattle.jr_ast.specs.Tree as tree
use Rattle.jr_ast.specs.MemberTree as syntax
use Rattle.jr_table.specs.Keys.{ClassKey}
use Rattle.jr_table.specs.Decls.{Decl, class_decl}
use Rattle.jr_table.specs.Rows.{Row}
use Rattle.jr_table.specs.Entries.{class_of_member, is_static_word}
use Rattle.jr_table.specs.Context.{IsSuperclass}
use Rattle.jr_table.specs.Errors.{member_part}
use Rattle.jr_names.specs.Refusals.{Refusal, bad_target, clash}
use Rattle.jr_members.specs.WrittenMembers.{WrittenMember, written_members}
use Rattle.jr_bind.specs.Programs.{Program, units_of}
use Rattle.jr_images.specs.Targets.{IsOfPrelude}
use Rattle.jr_local.specs.Bodies.{begins}
use Rattle.jr_member_parts.specs.InTheWay.{is_in_the_way, IsFirstInTheWay}

-- the mark, and the declared name, of a field or method
abbrev pub mark_of : syntax.Member Span → Span
mark_of (syntax.field m mods t w init) = m
mark_of (syntax.method m mods t w ps body) = m
mark_of (syntax.constructor m mods w ps args body) = m
mark_of (syntax.inner m c) = m

abbrev pub word_of : syntax.Member Span → Option (tree.Word Span)
word_of (syntax.field m mods t w init) = Some w
word_of (syntax.method m mods t w ps body) = Some w
word_of (syntax.constructor m mods w ps args body) = None
word_of (syntax.inner m c) = None

-- a field or method of the file, in whose declared name the byte stands (JLS 8.3, 8.4)
pub record Declared (p : Program Span) (file at : ℕ) : Type 0 where
  pub number : ℕ
  pub member : WrittenMember Span
  pub written : slice_get (written_members begins p.rows (units_of p)) number ≡ Some member
  pub in_file : member.file ≡ file
  pub declaration : syntax.Member Span
  pub is : member.part ≡ member_part declaration
  pub word : tree.Word Span
  pub named : word_of declaration ≡ Some word
  pub behind : word.mark.from ≤ at
  pub inside : at < word.mark.to
  pub row : Row
  pub has_row : slice_get p.rows member.row ≡ Some row

module _ {p : Program Span} {file at : ℕ} (x : Declared p file at) where
  abbrev pub class_of : ClassKey
  class_of = class_of_member x.member.key

  abbrev pub is_static : Bool
  is_static = list_any is_static_word x.row.modifiers

module _ (p : Program Span) (file at : ℕ) where
  abbrev pub needs : (need : List ℕ) → Refusal
  needs need = bad_target (record { file = file; at = at }) need

  -- the superclass, which isn't the prelude's
  pub record Superclass (x : Declared p file at) : Type 0 where
    pub key : ClassKey
    pub is : IsSuperclass p.rows (class_of x) key
    pub own : IsOfPrelude p.rows (class_decl key) → ⊥

  -- 5: no field or method is declared there; its superclass is the prelude's; an instance field has
  -- an initializer, which would be run elsewhere (JLS 12.5)
  abbrev pub LacksDeclaration : Refusal → Type 0
  LacksDeclaration r = (Declared p file at → ⊥) × (r ≡ needs (codes "Declaration"))

  abbrev pub LacksParent : Refusal → Type 0
  LacksParent r =
      (x : Declared p file at) × (Superclass x → ⊥) × (r ≡ needs (codes "Parent"))

  abbrev pub HasInitializer : Declared p file at → Type 0
  HasInitializer x = (x.row.has_init ≡ true) × (is_static x ≡ false)

  abbrev pub IsInitialized : Refusal → Type 0
  IsInitialized r = (x : Declared p file at) × Superclass x × HasInitializer x
      × (r ≡ needs (codes "NoInitializer"))

  -- 14: the superclass declares it, or a member type of its name
  abbrev pub Clashes : Refusal → Type 0
  Clashes r = (x : Declared p file at) × (to : Superclass x) × (HasInitializer x → ⊥)
      × (d : Decl) × IsFirstInTheWay p.rows to.key x.member.key d × (r ≡ clash d)

  abbrev pub RefusesPullUp : Refusal → Type 0
  RefusesPullUp r = LacksDeclaration r ⊎ (LacksParent r ⊎ (IsInitialized r ⊎ Clashes r))

  -- none of these applies
  pub record IsFree (x : Declared p file at) (to : Superclass x) : Type 0 where
    pub plain : HasInitializer x → ⊥
    pub free : (i : ℕ) (r : Row) → slice_get p.rows i ≡ Some r
        → is_in_the_way to.key x.member.key r ≡ false
