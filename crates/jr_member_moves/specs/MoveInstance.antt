-- Move instance: the body of an instance method goes to a static method of a class that is named, with
-- a first parameter that stands for `this`, and the method calls that one (JLS 8.4.3.2, 15.8.3).
use Rattle.std.specs.Prelude.{◌≡◌, ◌⊎◌, ℕ, ◌<◌, ◌≤◌, true, false, List, Some, codes, slice_get}
use Rattle.jr_text.specs.declared.spans.Span.{Span}
use Rattle.jr_ast.specs.StatementTree as statement
use Rattle.jr_ast.specs.MemberTree as syntax
use Rattle.jr_table.specs.Keys.{ClassKey, MethodKey}
use Rattle.jr_table.specs.Decls.{method, Decl, class_decl, method_decl, local_decl}
use Rattle.jr_table.specs.Errors.{Part, class_part, member_part, InMember}
use Rattle.jr_names.specs.Refusals.{Refusal, clash}
use Rattle.jr_members.specs.WrittenMembers.{WrittenMember, written_members, decl_of_member}
use Rattle.jr_bind.specs.Programs.{Program, units_of}
use Rattle.jr_plan.specs.Transforms.{Refactoring}
use Rattle.jr_local.specs.Bodies.{begins}
use Rattle.jr_member_parts.specs.InTheWay.{OtherClass, is_type_named}
use Rattle.jr_member_parts.specs.Heads.{MethodTree, method_of}
use Rattle.jr_member_moves.specs.Selecting.{Declared, word_of, class_of, is_static, needs}
use Rattle.jr_member_moves.specs.InstanceMoves.{static_key, Carried, carries}

-- the declared name of a part of a program begins there
abbrev pub IsNamedAt : Part Span → (at : ℕ) → Type 0
IsNamedAt (class_part (syntax.class m mods w t ms)) at = w.mark.from ≡ at
IsNamedAt (member_part x) at = (w : _) × (word_of x ≡ Some w) × (w.mark.from ≡ at)

module _ (p : Program Span) (file at : ℕ) (text name : List ℕ) where
  -- an instance method of the file, in whose declared name the byte stands
  pub record InstanceMethod : Type 0 where
    pub declared : Declared p file at
    pub key : MethodKey
    pub is : declared.member.key ≡ method key
    pub instance : is_static declared ≡ false
    pub parts : MethodTree
    pub declares : declared.declaration ≡ method_of parts

  abbrev pub Other : InstanceMethod → Type 0
  Other x = OtherClass p text (class_of x.declared)

  -- ---- 14: what is in the way

  module _ (x : InstanceMethod) (to : ClassKey) where
    -- the class declares the new method, or a member type of its name
    pub record ClassHas (number place : ℕ) (d : Decl) : Type 0 where
      pub index : ℕ
      pub member : WrittenMember Span
      pub written : slice_get (written_members begins p.rows (units_of p)) index ≡ Some member
      pub in_file : member.file ≡ number
      pub declares : decl_of_member member.key ≡ d
      pub named : IsNamedAt member.part place
      pub in_the_way : (d ≡ method_decl (static_key x.key to))
          ⊎ ((k : ClassKey) × (d ≡ class_decl k) × (is_type_named to x.key.name d ≡ true))

    abbrev pub own_local : ℕ → Decl
    own_local n = local_decl (record { member = method x.key; number = n })

    -- a parameter of the method, or a local declared in its body, has the name
    abbrev pub ParamHas : (place : ℕ) → Decl → Type 0
    ParamHas place d = (n : ℕ) × (q : syntax.Param Span) × (slice_get x.parts.params n ≡ Some q)
        × (q.name.text ≡ name) × (q.name.mark.from ≡ place) × (d ≡ own_local n)

    abbrev pub DeclaresName : (place : ℕ) → Decl → (number : ℕ) → statement.Stmt Span → Type 0
    DeclaresName place d n (statement.local m f t w e) =
        (w.text ≡ name) × (w.mark.from ≡ place) × (d ≡ own_local n)
    DeclaresName place d n _ = ⊥

    abbrev pub BodyHas : (place : ℕ) → Decl → Type 0
    BodyHas place d = InMember begins (λ c r b e. ⊥) (λ n c b s. DeclaresName place d n s)
        (λ b ss. ⊥) (method x.key) x.declared.member.base x.declared.declaration

    abbrev pub IsInTheWay : (number place : ℕ) → Decl → Type 0
    IsInTheWay number place d = ClassHas number place d
        ⊎ ((number ≡ file) × (ParamHas place d ⊎ BodyHas place d))

    -- the first by file and place
    pub record IsFirstInTheWay (d : Decl) : Type 0 where
      pub number : ℕ
      pub place : ℕ
      pub is : IsInTheWay number place d
      pub first : (n b : ℕ) (other : Decl) → IsInTheWay n b other
          → (number < n) ⊎ ((number ≡ n) × (place ≤ b))

  -- 5: no instance method is declared there; no other class of the session is named
  abbrev pub LacksMethod : Refusal → Type 0
  LacksMethod r = (InstanceMethod → ⊥) × (r ≡ needs p file at (codes "Method"))

  abbrev pub LacksClass : Refusal → Type 0
  LacksClass r =
      (x : InstanceMethod) × (Other x → ⊥) × (r ≡ needs p file at (codes "OtherClass"))

  abbrev pub Clashes : Refusal → Type 0
  Clashes r = (x : InstanceMethod) × (to : Other x) × (d : Decl) × IsFirstInTheWay x to.key d
      × (r ≡ clash d)

  abbrev pub RefusesMoveInstance : Refusal → Type 0
  RefusesMoveInstance r = LacksMethod r ⊎ (LacksClass r ⊎ Clashes r)

  -- what is found where none of these applies
  pub record Found : Type 0 where
    pub asked : InstanceMethod
    pub other : Other asked
    pub free : (number place : ℕ) (d : Decl) → IsInTheWay asked other.key number place d → ⊥
    pub carried : Carried p file at asked.declared asked.key asked.parts other.key name

  abbrev pub move_instance : Refactoring
  move_instance = record {
    Refuses = RefusesMoveInstance;
    Found = Found;
    transform = λ (f : Found). carries p file at f.asked.declared f.asked.key f.asked.parts
        f.other.key name f.carried;
  }
