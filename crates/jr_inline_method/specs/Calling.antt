-- The call that inline method finds: the statement of a list that it makes, in one of four forms, what
-- it is made on, and the method that it means.
use Rattle.std.specs.Prelude.{◌≡◌, ◌⊎◌, ℕ, ◌<◌, ◌≤◌, Bool, List, Option, Some, slice_get}
use Rattle.jr_text.specs.declared.spans.Span.{Span}
use Rattle.jr_ast.specs.Tree as tree
use Rattle.jr_ast.specs.StatementTree as statement
use Rattle.jr_ast.specs.MemberTree as syntax
use Rattle.jr_table.specs.Keys.{ClassKey, MethodKey, class}
use Rattle.jr_table.specs.Decls.{method, LocalKey, local_decl, method_decl}
use Rattle.jr_table.specs.Errors.{member_part}
use Rattle.jr_table.specs.Found.{one}
use Rattle.jr_table.specs.Lookup.{FindsVariable}
use Rattle.jr_table.specs.Binding.{HasType, IsClassName, CallFinds, SuperCallFinds}
use Rattle.jr_table.specs.Context.{Context, scope_of}
use Rattle.jr_members.specs.WrittenMembers.{WrittenMember, written_members}
use Rattle.jr_bind.specs.Programs.{Program, units_of}
use Rattle.jr_pieces.specs.Standings.{Standing, in_initializer}
use Rattle.jr_bodies.specs.Bodies.{begins, Body, HasBody}
use Rattle.jr_member_parts.specs.HeldLists.{ListHolds, held_at}

-- a call, which isn't a creation
pub data Call : Type 0 where
  plain_call : (m : Span) (to : tree.Target Span) (w : tree.Word Span) (args : tree.Exps Span)
      → Call
  by_super : (m : Span) (w : tree.Word Span) (args : tree.Exps Span) → Call

abbrev pub call_tree : Call → tree.Exp Span
call_tree (plain_call m to w args) = tree.call m to w args
call_tree (by_super m w args) = tree.super_call m w args

abbrev pub call_word : Call → tree.Word Span
call_word (plain_call m to w args) = w
call_word (by_super m w args) = w

abbrev pub call_args : Call → tree.Exps Span
call_args (plain_call m to w args) = args
call_args (by_super m w args) = args

-- the statement that it makes: `m(..);`, `T x = m(..);`, `x = m(..);`, `return m(..);`
pub data Form : Type 0 where
  alone : (m : Span) → Form
  initial : (m : Span) (is_final : Bool) (type : tree.TypeName Span) (word : tree.Word Span) → Form
  assigned : (m target name : Span) (word : tree.Word Span) → Form
  returned : (m : Span) → Form

abbrev pub form_statement : Form → Call → statement.Stmt Span
form_statement (alone m) e = statement.eval m (call_tree e)
form_statement (initial m f t w) e = statement.local m f t w (call_tree e)
form_statement (assigned m n v w) e =
    statement.eval m (tree.assign n (tree.name v w) (call_tree e))
form_statement (returned m) e = statement.return m (Some (call_tree e))

-- what is known at the call, in the statement that stands so
abbrev pub at_call : Form → Standing → Standing
at_call (initial m f t w) p = in_initializer begins m f t w p
at_call _ p = p

module _ (p : Program Span) (file at : ℕ) where
  -- the target of the third form is a local or parameter
  abbrev pub AssignsLocal : Form → Context → Type 0
  AssignsLocal (assigned m n v w) c = (k : LocalKey)
      × FindsVariable p.rows (scope_of c) w.text (one (local_decl k))
  AssignsLocal _ c = Unit {0}

  -- A statement of a list in the file is such a call, in whose name the byte stands.
  pub record FoundCall : Type 0 where
    pub body : Body
    pub has : HasBody p file body
    pub call : Call
    pub form : Form
    pub rest : statement.Stmts Span
    pub holds : ListHolds (statement.more (form_statement form call) rest) body.list
    pub target : AssignsLocal form (held_at begins body.at holds).context
    pub behind : (call_word call).mark.from ≤ at
    pub inside : at < (call_word call).mark.to

module _ {p : Program Span} {file at : ℕ} (x : FoundCall p file at) where
  -- what is known at the statement, and at the call
  abbrev pub at_statement : Standing
  at_statement = held_at begins x.body.at x.holds

  abbrev pub known_at : Context
  known_at = (at_call x.form at_statement).context

  abbrev pub MeansBy : Call → MethodKey → Type 0
  MeansBy (plain_call m to w args) q =
      CallFinds p.rows known_at to w.text args (one (method_decl q))
  MeansBy (by_super m w args) q = SuperCallFinds p.rows known_at w.text args (one (method_decl q))

  -- the call means the method
  abbrev pub Means : MethodKey → Type 0
  Means q = MeansBy x.call q

-- ---- what it is made on

pub data Receiver : Type 0 where
  absent : Receiver
  this_object : Receiver
  super_object : Receiver
  through : (k : ClassKey) → Receiver
  local_value : (m : Span) (word : tree.Word Span) (key : LocalKey) (k : ClassKey) → Receiver

module _ {p : Program Span} {file at : ℕ} (x : FoundCall p file at) where
  -- parentheses are no receiver of these kinds
  abbrev pub IsReceiverOf : Call → Receiver → Type 0
  IsReceiverOf (plain_call m tree.no_target w args) r = r ≡ absent
  IsReceiverOf (plain_call m (tree.on (tree.this n)) w args) r = r ≡ this_object
  IsReceiverOf (plain_call m (tree.on e) w args) r =
      ((k : ClassKey) × IsClassName p.rows (known_at x) e k × (r ≡ through k))
      ⊎ ((n : Span) × (v : tree.Word Span) × (key : LocalKey) × (k : ClassKey)
      × (e ≡ tree.name n v)
      × FindsVariable p.rows (scope_of (known_at x)) v.text (one (local_decl key))
      × HasType p.rows (known_at x) e (class k) × (r ≡ local_value n v key k))
  IsReceiverOf (by_super m w args) r = r ≡ super_object

  abbrev pub IsReceiver : Receiver → Type 0
  IsReceiver r = IsReceiverOf x.call r

-- ---- the method's declaration

pub record DeclaredMethod (p : Program Span) (q : MethodKey) : Type 0 where
  pub number : ℕ
  pub member : WrittenMember Span
  pub written : slice_get (written_members begins p.rows (units_of p)) number ≡ Some member
  pub is_key : member.key ≡ method q
  pub mark : Span
  pub modifiers : List (syntax.Modifier Span)
  pub result : Option (tree.TypeName Span)
  pub word : tree.Word Span
  pub params : List (syntax.Param Span)
  pub body : statement.Stmts Span
  pub is : member.part ≡ member_part (syntax.method mark modifiers result word params body)
