-- What extract local finds, and why it is refused by itself.
use Rattle.std.specs.Prelude.{
  ◌≡◌,
  ◌≢◌,
  ◌⊎◌,
  ℕ,
  List,
  ◌++◌,
  Option,
  Some,
  None,
  codes,
}
use Rattle.jr_text.specs.declared.spans.Span.{Span}
use Rattle.jr_ast.specs.Tree as tree
use Rattle.jr_ast.specs.StatementTree as statement
use Rattle.jr_ast.specs.Marks.{exp_mark}
use Rattle.jr_table.specs.Keys.{ClassKey, Ty, void, null}
use Rattle.jr_table.specs.Decls.{LocalKey, local_decl}
use Rattle.jr_table.specs.Scope.{ScopeLocal}
use Rattle.jr_table.specs.Context.{scope_of}
use Rattle.jr_table.specs.Binding.{HasType, IsClassName}
use Rattle.jr_names.specs.Refusals.{Refusal, bad_target, conditional, clash}
use Rattle.jr_bind.specs.Programs.{Program}
use Rattle.jr_pieces.specs.Ways.{ListWay}
use Rattle.jr_pieces.specs.Standings.{Standing, at_list}
use Rattle.jr_pieces.specs.Uses.{valued, list_use}
use Rattle.jr_pieces.specs.Nearest.{Element, nearest}
use Rattle.jr_pieces.specs.Bars.{stmt_barred}
use Rattle.jr_pieces.specs.Declared.{declared_in_list, first_named}
use Rattle.jr_bodies.specs.Bodies.{begins, Body, HasBody}

module _ (p : Program Span) (file from to : ℕ) where
  -- An expression of a body of the file has exactly the span. It is used for its value, so it is no
  -- target, no operand of `++` or `--` and no whole statement; it is no class's name; its type is
  -- neither `void` nor that of null; and it isn't the literal that stands behind a minus alone.
  pub record Selected : Type 0 where
    pub body : Body
    pub has : HasBody p file body
    pub value : tree.Exp Span
    pub way : ListWay value body.list
    pub span : exp_mark value ≡ record { from = from; to = to }
    pub used : list_use way ≡ valued
    pub no_class : (k : ClassKey)
        → IsClassName p.rows (at_list begins body.at way).context value k → ⊥
    pub type : Ty
    pub typed : HasType p.rows (at_list begins body.at way).context value type
    pub no_void : type ≢ void
    pub no_null : type ≢ null
    pub no_greatest : (m : Span) → value ≢ tree.number m 2147483648

module _ {p : Program Span} {file from to : ℕ} (x : Selected p file from to) where
  -- what is known at the expression
  abbrev pub at_value : Standing
  at_value = at_list begins x.body.at x.way

  -- the statement in front of which the declaration comes: the innermost one in a list that holds
  -- the expression
  abbrev pub element : Element x.value
  element = nearest begins x.body.at x.way

  -- that statement with what stands behind it in its list
  abbrev pub held_list : statement.Stmts Span
  held_list = statement.more element.stmt element.rest

  -- the construct of the statement that may leave the expression out, or evaluate it again
  abbrev pub bar : Option ℕ
  bar = stmt_barred begins element.at.base None element.way

  -- The locals whose names are taken there, in the order of their numbers: those in scope, and
  -- those that the statement or one behind it in its list declares, nested lists included.
  abbrev pub taken : List ScopeLocal
  taken = (scope_of element.at.context).locals
      ++ declared_in_list x.body.key element.at.next held_list

module _ (p : Program Span) (file from to : ℕ) (name : List ℕ) where
  -- 5: no such expression is there
  abbrev pub LacksValue : Refusal → Type 0
  LacksValue r = (Selected p file from to → ⊥)
      × (r ≡ bad_target (record { file = file; at = from }) (codes "Value"))

  -- 7: something bars it
  abbrev pub IsBarred : Refusal → Type 0
  IsBarred r = (x : Selected p file from to) × (at : ℕ) × (bar x ≡ Some at)
      × (r ≡ conditional (record { file = file; at = at }))

  -- 14: nothing bars it, and the name is taken, first by this local
  abbrev pub IsTaken : Refusal → Type 0
  IsTaken r = (x : Selected p file from to) × (bar x ≡ None) × (k : LocalKey)
      × (first_named name (taken x) ≡ Some k) × (r ≡ clash (local_decl k))

  abbrev pub RefusesExtract : Refusal → Type 0
  RefusesExtract r = LacksValue r ⊎ (IsBarred r ⊎ IsTaken r)

  -- none of these applies
  pub record IsFree (x : Selected p file from to) : Type 0 where
    pub straight : bar x ≡ None
    pub free : first_named name (taken x) ≡ None
