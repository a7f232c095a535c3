-- Why inline method is refused by itself (JLS 14.17, 15.12.4).
use Rattle.std.specs.Prelude.{◌≡◌, ◌≢◌, ◌⊎◌, ℕ, ◌+◌, ◌<◌, ◌≤◌, Bool, true, false, List, [], ◌∷◌, ◌++◌, Option, Some, None, codes, slice_get, length}
use Rattle.jr_text.specs.declared.spans.Span.{Span}
use Rattle.jr_text.specs.declared.spans.Place.{Place}
use Rattle.jr_ast.specs.declared.operators.ModWord.{ModWord}
use Rattle.jr_ast.specs.declared.operators.ModWord.TheVariants as modifier
use Rattle.jr_ast.specs.Tree as tree
use Rattle.jr_ast.specs.StatementTree as statement
use Rattle.jr_ast.specs.MemberTree as syntax
use Rattle.jr_grammar.specs.Layout.{itself}
use Rattle.jr_table.specs.Keys.{ClassKey, MethodKey, void}
use Rattle.jr_table.specs.Decls.{MemberKey, method, LocalKey, local_decl, method_decl}
use Rattle.jr_table.specs.Entries.{IsRowOf, class_of_member}
use Rattle.jr_table.specs.Errors.{Binds}
use Rattle.jr_table.specs.Keyed.{IsSubclass, DispatchesTo}
use Rattle.jr_table.specs.Scope.{ScopeLocal}
use Rattle.jr_table.specs.Context.{IsInstanceDecl, LacksWordAt, scope_of}
use Rattle.jr_names.specs.Refusals.{Refusal, bad_target, prelude_method, has_return, many_targets, may_be_null, recursive, clash}
use Rattle.jr_names.specs.DeclTexts.{method_text}
use Rattle.jr_bind.specs.Programs.{Program}
use Rattle.jr_images.specs.Targets.{IsOfPrelude}
use Rattle.jr_pieces.specs.Standings.{Standing}
use Rattle.jr_pieces.specs.Returns.{returns_in_list}
use Rattle.jr_pieces.specs.Declared.{declared_in_list, first_named}
use Rattle.jr_bodies.specs.Bodies.{begins}
use Rattle.jr_local.specs.BodyFacts.{IsNeverNull}
use Rattle.jr_inline_method.specs.Calling.{call_word, Form, alone, initial, FoundCall, at_statement, Means, Receiver, absent, this_object, local_value, IsReceiver, DeclaredMethod}

-- ---- the method's body

-- its last statement, where that returns a value
abbrev pub last_value : statement.Stmts Span → Option Span
last_value statement.end = None
last_value (statement.more (statement.return m (Some e)) statement.end) = Some m
last_value (statement.more s statement.end) = None
last_value (statement.more s (statement.more t ss)) = last_value (statement.more t ss)

-- a `return` of the body that isn't this one, first by place
pub record IsFirstReturn (base : ℕ) (body : statement.Stmts Span) (s : Span) : Type 0 where
  pub index : ℕ
  pub stands : slice_get (returns_in_list itself base body) index ≡ Some s
  pub other : last_value body ≢ Some s
  pub first : (i : ℕ) (o : Span) → i < index
      → slice_get (returns_in_list itself base body) i ≡ Some o → last_value body ≡ Some o

abbrev pub param_names : (from : ℕ) → MemberKey → List (syntax.Param Span) → List ScopeLocal
param_names n k [] = []
param_names n k (q ∷ qs) =
    (record { name = q.name.text; key = record { member = k; number = n } })
    ∷ param_names (n + 1) k qs

-- the parameters and locals of a method, in the order of their numbers
abbrev pub locals_of : MethodKey → List (syntax.Param Span) → statement.Stmts Span
    → List ScopeLocal
locals_of q ps body = param_names 0 (method q) ps
    ++ declared_in_list (method q) (length ps) body

abbrev pub is_private_word : ModWord → Bool
is_private_word modifier.Private = true
is_private_word _ = false

module _ (p : Program Span) (file at : ℕ) where
  abbrev pub there : ℕ → Place
  there byte = record { file = file; at = byte }

  -- 5: no such call is there
  abbrev pub LacksCall : Refusal → Type 0
  LacksCall r = (FoundCall p file at → ⊥) × (r ≡ bad_target (there at) (codes "Call"))

  -- a statement of a call alone drops no value
  abbrev pub IsVoid : MethodKey → Type 0
  IsVoid q = (j : ℕ) × (i : IsRowOf p.rows (method_decl q) j) × (i.row.type ≡ Some void)

  abbrev pub DropsValue : Form → MethodKey → Type 0
  DropsValue (alone m) q = IsVoid q → ⊥
  DropsValue _ q = ⊥

  abbrev pub LacksVoidCall : Refusal → Type 0
  LacksVoidCall r = (x : FoundCall p file at) × (q : MethodKey) × Means x q
      × DropsValue x.form q × (r ≡ bad_target (there at) (codes "VoidCall"))

  -- A call whose receiver and method are known, and that isn't refused so far. Each of the refusals
  -- to come is asked of one for which those above don't hold.
  pub record KnownCall : Type 0 where
    pub call : FoundCall p file at
    pub key : MethodKey
    pub means : Means call key
    pub keeps : DropsValue call.form key → ⊥

  abbrev pub LacksReceiver : Refusal → Type 0
  LacksReceiver r = (x : KnownCall) × ((o : Receiver) → IsReceiver x.call o → ⊥)
      × (r ≡ bad_target (there at) (codes "LocalReceiver"))

  pub record OnReceiver : Type 0 where
    pub known : KnownCall
    pub receiver : Receiver
    pub is : IsReceiver known.call receiver

  -- 6: the method is the prelude's
  abbrev pub IsPreludes : Refusal → Type 0
  IsPreludes r = (x : OnReceiver) × IsOfPrelude p.rows (method_decl x.known.key)
      × (r ≡ prelude_method (method_text x.known.key))

  pub record Written : Type 0 where
    pub on : OnReceiver
    pub declared : DeclaredMethod p on.known.key

  -- 8: the body returns elsewhere than by a last `return e;`
  abbrev pub ReturnsElsewhere : Written → Span → Type 0
  ReturnsElsewhere x s =
      IsFirstReturn (begins x.declared.mark x.declared.member.base) x.declared.body s

  abbrev pub HasReturns : Refusal → Type 0
  HasReturns r = (x : Written) × (s : Span) × ReturnsElsewhere x s
      × (r ≡ has_return (record { file = x.declared.member.file; at = s.from }))

  abbrev pub IsStraight : Written → Type 0
  IsStraight x = (s : Span) → ReturnsElsewhere x s → ⊥

  -- ---- 10: dispatch (JLS 15.12.4.4)

  -- the class by whose objects the call is dispatched
  abbrev pub ReceiverClass : Written → Receiver → ClassKey → Type 0
  ReceiverClass x absent k = k ≡ class_of_member x.on.known.call.body.key
  ReceiverClass x this_object k = k ≡ class_of_member x.on.known.call.body.key
  ReceiverClass x (local_value m w l o) k = k ≡ o
  ReceiverClass x _ k = ⊥

  -- it is dispatched: an instance method that isn't private, and not called by `super`
  abbrev pub IsDispatched : MethodKey → Type 0
  IsDispatched q = IsInstanceDecl p.rows (method_decl q)
      × LacksWordAt p.rows (method_decl q) is_private_word

  pub record IsOtherTarget (x : Written) (o : MethodKey) (row : ℕ) : Type 0 where
    pub dispatched : IsDispatched x.on.known.key
    pub of : ClassKey
    pub class : ReceiverClass x x.on.receiver of
    pub below : ClassKey
    pub is_below : (below ≡ of) ⊎ IsSubclass p.rows below of
    pub target : DispatchesTo p.rows below x.on.known.key o
    pub other : o ≢ x.on.known.key
    pub has_row : IsRowOf p.rows (method_decl o) row

  abbrev pub HasManyTargets : Refusal → Type 0
  HasManyTargets r = (x : Written) × IsStraight x × (o : MethodKey) × (row : ℕ)
      × IsOtherTarget x o row × ((m : MethodKey) (i : ℕ) → IsOtherTarget x m i → row ≤ i)
      × (r ≡ many_targets (there (call_word x.on.known.call.call).mark.from) o)

  abbrev pub HasOneTarget : Written → Type 0
  HasOneTarget x = (o : MethodKey) (row : ℕ) → IsOtherTarget x o row → ⊥

  -- ---- 11: the receiver is a local that may be null

  abbrev pub MayBeNull : Written → Receiver → ℕ → Type 0
  MayBeNull x (local_value m w l k) byte =
      (IsNeverNull p x.on.known.call.body (tree.name m w) → ⊥) × (byte ≡ m.from)
  MayBeNull x _ byte = ⊥

  abbrev pub HasNull : Refusal → Type 0
  HasNull r = (x : Written) × IsStraight x × HasOneTarget x × (byte : ℕ)
      × MayBeNull x x.on.receiver byte × (r ≡ may_be_null (there byte))

  abbrev pub HasObject : Written → Type 0
  HasObject x = (byte : ℕ) → MayBeNull x x.on.receiver byte → ⊥

  -- ---- 12: the method calls itself

  abbrev pub CallsItself : Written → ℕ → Type 0
  CallsItself x byte = Binds begins p.rows (p.super_at x.declared.member.key)
      x.declared.member.key x.declared.member.base x.declared.member.part byte
      (method_decl x.on.known.key)

  abbrev pub IsRecursive : Refusal → Type 0
  IsRecursive r = (x : Written) × IsStraight x × HasOneTarget x × HasObject x × (byte : ℕ)
      × CallsItself x byte × ((b : ℕ) → CallsItself x b → byte ≤ b)
      × (r ≡ recursive (record { file = x.declared.member.file; at = byte }))

  abbrev pub IsNotRecursive : Written → Type 0
  IsNotRecursive x = (byte : ℕ) → CallsItself x byte → ⊥

  -- ---- 14: names

  -- those in scope at the statement, and the one that it declares
  abbrev pub declared_by : Form → Standing → List ScopeLocal
  declared_by (initial m f t w) s = (record {
    name = w.text;
    key = record { member = s.context.member; number = s.next };
  }) ∷ []
  declared_by _ s = []

  abbrev pub callers_locals : Written → List ScopeLocal
  callers_locals x = (scope_of (at_statement x.on.known.call).context).locals
      ++ declared_by x.on.known.call.form (at_statement x.on.known.call)

  abbrev pub methods_locals : Written → List ScopeLocal
  methods_locals x = locals_of x.on.known.key x.declared.params x.declared.body

  -- a local of the caller has the name of one of the method, first by its number
  pub record IsFirstShared (x : Written) (k : LocalKey) : Type 0 where
    pub index : ℕ
    pub local : ScopeLocal
    pub stands : slice_get (callers_locals x) index ≡ Some local
    pub is : local.key ≡ k
    pub shared : (l : LocalKey) × (first_named local.name (methods_locals x) ≡ Some l)
    pub first : (i : ℕ) (o : ScopeLocal) → i < index → slice_get (callers_locals x) i ≡ Some o
        → first_named o.name (methods_locals x) ≡ None

  abbrev pub Clashes : Refusal → Type 0
  Clashes r = (x : Written) × IsStraight x × HasOneTarget x × HasObject x × IsNotRecursive x
      × (k : LocalKey) × IsFirstShared x k × (r ≡ clash (local_decl k))

  -- none of these applies
  pub record IsGranted (x : Written) : Type 0 where
    pub straight : IsStraight x
    pub one : HasOneTarget x
    pub object : HasObject x
    pub once : IsNotRecursive x
    pub free : (k : LocalKey) → IsFirstShared x k → ⊥

  abbrev pub RefusesInlineMethod : Refusal → Type 0
  RefusesInlineMethod r = LacksCall r ⊎ (LacksVoidCall r ⊎ (LacksReceiver r ⊎ (IsPreludes r
      ⊎ (HasReturns r ⊎ (HasManyTargets r ⊎ (HasNull r ⊎ (IsRecursive r ⊎ Clashes r)))))))
