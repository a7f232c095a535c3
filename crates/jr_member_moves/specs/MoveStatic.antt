-- Move static: a static method goes to the end of a class that is named, without `private`, and where
-- it is synchronized in the monitor of its old class (JLS 8.4.3.2, 8.4.3.6).
use Rattle.std.specs.Prelude.{◌≡◌, ◌⊎◌, ℕ, true, false, List, Some, codes, slice_get}
use Rattle.jr_text.specs.declared.spans.Span.{Span}
use Rattle.jr_table.specs.Keys.{MethodKey}
use Rattle.jr_table.specs.Decls.{method, Decl}
use Rattle.jr_table.specs.Rows.{Row}
use Rattle.jr_names.specs.Refusals.{Refusal, clash}
use Rattle.jr_bind.specs.Programs.{Program}
use Rattle.jr_plan.specs.Transforms.{Refactoring}
use Rattle.jr_member_parts.specs.InTheWay.{OtherClass, is_in_the_way, IsFirstInTheWay}
use Rattle.jr_member_moves.specs.Selecting.{Declared, class_of, is_static, needs}
use Rattle.jr_member_moves.specs.Moves.{aside, Carried, carries}

module _ (p : Program Span) (file at : ℕ) (text : List ℕ) where
  -- a static method of the file, in whose declared name the byte stands
  pub record StaticMethod : Type 0 where
    pub declared : Declared p file at
    pub key : MethodKey
    pub is : declared.member.key ≡ method key
    pub static : is_static declared ≡ true

  abbrev pub Other : StaticMethod → Type 0
  Other x = OtherClass p text (class_of x.declared)

  -- 5: no static method is declared there; no other class of the session is named
  abbrev pub LacksMethod : Refusal → Type 0
  LacksMethod r = (StaticMethod → ⊥) × (r ≡ needs p file at (codes "Method"))

  abbrev pub LacksClass : Refusal → Type 0
  LacksClass r =
      (x : StaticMethod) × (Other x → ⊥) × (r ≡ needs p file at (codes "OtherClass"))

  -- 14: the class declares it, or a member type of its name
  abbrev pub Clashes : Refusal → Type 0
  Clashes r = (x : StaticMethod) × (to : Other x) × (d : Decl)
      × IsFirstInTheWay p.rows to.key x.declared.member.key d × (r ≡ clash d)

  abbrev pub RefusesMoveStatic : Refusal → Type 0
  RefusesMoveStatic r = LacksMethod r ⊎ (LacksClass r ⊎ Clashes r)

  -- what is found where none of these applies
  pub record Found : Type 0 where
    pub asked : StaticMethod
    pub other : Other asked
    pub free : (i : ℕ) (r : Row) → slice_get p.rows i ≡ Some r
        → is_in_the_way other.key asked.declared.member.key r ≡ false
    pub carried : Carried p file at asked.declared other.key aside

  abbrev pub move_static : Refactoring
  move_static = record {
    Refuses = RefusesMoveStatic;
    Found = Found;
    transform = λ (f : Found). carries p file at f.asked.declared f.other.key aside f.carried;
  }
