-- Pull up: a field or method goes to the end of its class's superclass (JLS 8.2).
use Rattle.std.specs.Prelude.{ℕ}
use Rattle.jr_text.specs.declared.spans.Span.{Span}
use Rattle.jr_table.specs.Keys.{ClassKey}
use Rattle.jr_bind.specs.Programs.{Program}
use Rattle.jr_plan.specs.Transforms.{Refactoring}
use Rattle.jr_member_moves.specs.Selecting.{Declared, Superclass, IsFree, RefusesPullUp}
use Rattle.jr_member_moves.specs.Moves.{upward, Carried, carries}

module _ (p : Program Span) (file at : ℕ) where
  -- what is found where nothing refuses
  pub record Found : Type 0 where
    pub declared : Declared p file at
    pub superclass : Superclass p file at declared
    pub free : IsFree p file at declared superclass
    pub carried : Carried p file at declared superclass.key upward

  abbrev pub key : Found → ClassKey
  key f = f.superclass.key

  abbrev pub pull_up : Refactoring
  pull_up = record {
    Refuses = RefusesPullUp p file at;
    Found = Found;
    transform = λ (f : Found). carries p file at f.declared (key f) upward f.carried;
  }
