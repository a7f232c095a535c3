-- What inline method makes of a program: a spot in the list of the call's statement, which becomes a
-- block with the parameters as locals and a copy of the method's body (JLS 14.2, 14.19, 15.12.4).
use Rattle.std.specs.Prelude.{◌≡◌, ◌⊎◌, ℕ, ◌+◌, nat_eq, Bool, true, false, List, [], ◌∷◌, ◌++◌, map, length, Option, Some, None, codes}
use Rattle.std.specs.List.{list_any}
use Rattle.jr_text.specs.declared.spans.Span.{Span}
use Rattle.jr_lex.specs.declared.items.TokenKind.TheVariants.{Mark}
use Rattle.jr_lex.specs.declared.items.Symbol.TheVariants.{CloseBrace}
use Rattle.jr_ast.specs.declared.operators.ModWord.{ModWord}
use Rattle.jr_ast.specs.declared.operators.ModWord.TheVariants as modifier
use Rattle.jr_ast.specs.Tree as tree
use Rattle.jr_ast.specs.StatementTree as statement
use Rattle.jr_ast.specs.MemberTree as syntax
use Rattle.jr_ast.specs.Marks.{exp_mark, stmt_mark}
use Rattle.jr_grammar.specs.Layout.{itself}
use Rattle.jr_print.specs.ExpressionText.{printed_type}
use Rattle.jr_layout.specs.Layouts.{IsGap}
use Rattle.jr_table.specs.Keys.{ClassKey, MethodKey, Ty, int, boolean, class}
use Rattle.jr_table.specs.Decls.{MemberKey, method, LocalKey}
use Rattle.jr_table.specs.Entries.{class_of_member}
use Rattle.jr_table.specs.HeadRules.{with_parameters, is_static_member}
use Rattle.jr_table.specs.Scope.{ScopeLocal}
use Rattle.jr_table.specs.Binding.{value}
use Rattle.jr_table.specs.Context.{Context, IsLocalType, local_type, scope_of}
use Rattle.jr_bind.specs.Programs.{Program}
use Rattle.jr_rewrite.specs.Respellings.{Loss, Change}
use Rattle.jr_rewrite.specs.Rewritten.{Rewritten, plain, change, new_word}
use Rattle.jr_rewrite.specs.Spots.{level, Spots, Spotted, nowhere, spotted}
use Rattle.jr_rewrite.specs.Rewrites.{
  Choosing,
  RewritesType,
  RewritesParams,
  TransformsPart,
  TransformsStmts,
  TransformsList,
}
use Rattle.jr_rewrite.specs.Woven.{Fronts, with_changes}
use Rattle.jr_images.specs.Regions.{Region, Receiver, itself as no_receiver, stand_in}
use Rattle.jr_images.specs.Spelling.{choosing}
use Rattle.jr_pieces.specs.Standings.{Standing, behind}
use Rattle.jr_plan.specs.Transforms.{Lost, copied, made, Transform}
use Rattle.jr_bodies.specs.Bodies.{begins}
use Rattle.jr_local.specs.Texts.{HasText, EndsToken}
use Rattle.jr_local.specs.Extracted.{WritesType}
use Rattle.jr_member_parts.specs.HeldLists.{behind_all as behind_list}
use Rattle.jr_member_parts.specs.Receivers.{receivers_in, depth_of}
use Rattle.jr_inline_method.specs.Calling.{FoundCall, call_args, call_tree, Form, initial, assigned, returned, form_statement, at_statement, known_at, Receiver as On, local_value}
use Rattle.jr_inline_method.specs.Refusing.{Written, declared_by, locals_of}
use Rattle.jr_inline_method.specs.Regions.{around, in_argument, in_body}

-- ---- parts of the new text

-- parts with a space between each two, in braces
abbrev pub spaced_parts : List (List ℕ) → List ℕ
spaced_parts [] = []
spaced_parts (t ∷ ts) = codes " " ++ (t ++ spaced_parts ts)

abbrev pub in_braces : List (List ℕ) → List ℕ
in_braces ts = codes "{" ++ (spaced_parts ts ++ codes " }")

-- a text, or nothing where it is empty
abbrev pub if_any : List ℕ → List (List ℕ)
if_any [] = []
if_any (b ∷ bs) = (b ∷ bs) ∷ []

-- the first value of a local of a type, which is assigned before it is read
abbrev pub first_text : Ty → List ℕ
first_text int = codes "0"
first_text boolean = codes "false"
first_text _ = codes "null"

abbrev pub first_tree : Span → Ty → tree.Exp Span
first_tree m int = tree.number m 0
first_tree m boolean = tree.truth m false
first_tree m _ = tree.null m

-- ---- the method's body: its statements, and the value of a last `return`

abbrev pub in_front : statement.Stmts Span → statement.Stmts Span
in_front statement.end = statement.end
in_front (statement.more (statement.return m (Some e)) statement.end) = statement.end
in_front (statement.more s ss) = statement.more s (in_front ss)

pub record LastReturn : Type 0 where
  pub mark : Span
  pub value : tree.Exp Span

abbrev pub last_return : statement.Stmts Span → Option LastReturn
last_return statement.end = None
last_return (statement.more (statement.return m (Some e)) statement.end) =
    Some (record { mark = m; value = e })
last_return (statement.more s ss) = last_return ss

abbrev pub list_span : statement.Stmts Span → Option Span
list_span statement.end = None
list_span (statement.more s ss) = to_last (stmt_mark s).from s ss
  where
    to_last : ℕ → statement.Stmt Span → statement.Stmts Span → Option Span
    to_last from s statement.end = Some (record { from = from; to = (stmt_mark s).to })
    to_last from s (statement.more t ss) = to_last from t ss

abbrev pub bytes_of : List ℕ → Option Span → List Change → List ℕ
bytes_of text None cs = []
bytes_of text (Some s) cs = with_changes text s cs

abbrev pub append : statement.Stmts Span → statement.Stmts Span → statement.Stmts Span
append statement.end b = b
append (statement.more s a) b = statement.more s (append a b)

-- ---- what is inlined

-- the call, of which nothing refuses
module _ (p : Program Span) (file at : ℕ) (x : Written p file at) where
  abbrev pub call : FoundCall p file at
  call = x.on.known.call

  abbrev pub form : Form
  form = call.form

  abbrev pub old : MemberKey
  old = call.body.key

  abbrev pub stands : Standing
  stands = at_statement call

  abbrev pub key : MethodKey
  key = x.on.known.key

  -- the locals that the statement declares, in front of those of the method
  abbrev pub own_count : Form → ℕ
  own_count (initial m f t w) = 1
  own_count _ = 0

  abbrev pub first : ℕ
  first = stands.next + own_count form

  abbrev pub count : ℕ
  count = length (locals_of key x.declared.params x.declared.body)

  -- ---- regions

  abbrev pub of_around : Region Span
  of_around = around p old first count key x.declared.params stands.context

  abbrev pub of_argument : ℕ → Region Span
  of_argument i = in_argument p old first count key x.declared.params stands.context i

  abbrev pub declares : List ScopeLocal
  declares = declared_by p file at form stands

  -- the local that the statement declares has the type that is written
  abbrev pub HasOwnClass : Form → LocalKey → ClassKey → Type 0
  HasOwnClass (initial m f t w) k b = (k ≡ record { member = old; number = stands.next })
      × IsLocalType p.rows (scope_of stands.context) (local_type t) (class b)
  HasOwnClass _ k b = ⊥

  -- `this` in the body: the local on which it is called, or the caller's own
  abbrev pub this_class : On → ClassKey
  this_class (local_value m w k c) = c
  this_class _ = class_of_member old

  abbrev pub stand_in_of : On → Receiver
  stand_in_of (local_value m w k c) = stand_in k w.text
  stand_in_of _ = no_receiver

  abbrev pub of_body : Region Span
  of_body = in_body p old first count key x.declared.params stands.context declares
      (HasOwnClass form) (this_class x.on.receiver) (stand_in_of x.on.receiver)

  abbrev pub choices : Region Span → Choosing Span
  choices R = choosing begins p.rows R (λ (c : Context). p.super_at c.member)

  abbrev pub body_spots : On → Spotted Span
  body_spots (local_value m w k c) = receivers_in p of_body w.text c (depth_of p)
  body_spots _ = nowhere

  -- ---- the arguments, which are kept; each stands in its parameter's initializer

  abbrev pub Arguments : (number : ℕ) → tree.Exps Span → List (Rewritten (tree.Exp Span)) → Type 0
  Arguments i tree.end os = os ≡ []
  Arguments i (tree.more e es) os = (o : Rewritten (tree.Exp Span))
      × (rest : List (Rewritten (tree.Exp Span)))
      × TransformsPart itself (choices (of_argument i)) nowhere (level 0) (known_at call) value
      (begins (exp_mark (call_tree call.call)) stands.base) e o
      × Arguments (i + 1) es rest × (os ≡ o ∷ rest)

  -- a parameter as a local: its written type, copied, its name, its argument
  abbrev pub parameter_text : List ℕ → syntax.Param Span → tree.Exp Span
      → Rewritten (tree.Exp Span) → List ℕ
  parameter_text text q e o = printed_type q.type ++ (codes " " ++ (q.name.text
      ++ (codes " = " ++ (with_changes text (exp_mark e) o.changes ++ codes ";"))))

  abbrev pub parameter_texts : List ℕ → List (syntax.Param Span) → tree.Exps Span
      → List (Rewritten (tree.Exp Span)) → List (List ℕ)
  parameter_texts text (q ∷ qs) (tree.more e es) (o ∷ os) =
      parameter_text text q e o ∷ parameter_texts text qs es os
  parameter_texts text _ _ _ = []

  abbrev pub parameter_trees : Span → List (syntax.Param Span)
      → List (Rewritten (tree.Exp Span)) → statement.Stmts Span
  parameter_trees m (q ∷ qs) (o ∷ os) = statement.more
      (statement.local m false q.type (new_word m q.name.text) o.tree) (parameter_trees m qs os)
  parameter_trees m _ _ = statement.end

  abbrev pub sum_of : List (Rewritten (tree.Exp Span)) → ℕ
  sum_of [] = 0
  sum_of (o ∷ os) = o.respelled + sum_of os

  abbrev pub losses_in : List (Rewritten (tree.Exp Span)) → List Loss
  losses_in [] = []
  losses_in (o ∷ os) = o.losses ++ losses_in os

  -- ---- the body, which is copied

  abbrev pub body_context : Context
  body_context = with_parameters (method key)
      (is_static_member begins x.declared.modifiers) x.declared.params

  abbrev pub body_base : ℕ
  body_base = begins x.declared.mark x.declared.member.base

  abbrev pub at_body : Standing
  at_body = record {
    next = length x.declared.params;
    context = body_context;
    base = body_base;
  }

  abbrev pub at_last : Standing
  at_last = behind_list begins (in_front x.declared.body) at_body

  -- the value of a last `return`, if there is one
  abbrev pub CopiesLast : Option LastReturn → Option (Rewritten (tree.Exp Span)) → Type 0
  CopiesLast None o = o ≡ None
  CopiesLast (Some r) o = (q : Rewritten (tree.Exp Span))
      × TransformsPart itself (choices of_body) (body_spots x.on.receiver) (level 0) at_last.context
      value (begins r.mark body_base) r.value q × (o ≡ Some q)

  -- it is assigned, or stays a `return`
  abbrev pub ending_text : Form → List ℕ → List ℕ
  ending_text (initial m f t w) e = w.text ++ (codes " = " ++ (e ++ codes ";"))
  ending_text (assigned m n v w) e = w.text ++ (codes " = " ++ (e ++ codes ";"))
  ending_text _ e = e

  abbrev pub ending_changes : Form → List ℕ → LastReturn → Rewritten (tree.Exp Span)
      → List Change
  ending_changes (returned m) text r q = q.changes
  ending_changes f text r q =
      change r.mark (ending_text f (with_changes text (exp_mark r.value) q.changes)) ∷ []

  abbrev pub ending_tree : Form → Span → tree.Exp Span → statement.Stmt Span
  ending_tree (initial n f t w) m e =
      statement.eval m (tree.assign m (tree.name m (new_word m w.text)) e)
  ending_tree (assigned n o v w) m e =
      statement.eval m (tree.assign m (tree.name m (new_word m w.text)) e)
  ending_tree _ m e = statement.return m (Some e)

  abbrev pub or_changes : Form → List ℕ → Option LastReturn
      → Option (Rewritten (tree.Exp Span)) → List Change
  or_changes f text (Some r) (Some q) = ending_changes f text r q
  or_changes f text _ _ = []

  abbrev pub or_tree : Form → Option LastReturn → Option (Rewritten (tree.Exp Span))
      → statement.Stmts Span
  or_tree f (Some r) (Some q) =
      statement.more (ending_tree f r.mark q.tree) statement.end
  or_tree f _ _ = statement.end

  abbrev pub count_last : Option (Rewritten (tree.Exp Span)) → ℕ
  count_last None = 0
  count_last (Some q) = q.respelled

  abbrev pub losses_last : Option (Rewritten (tree.Exp Span)) → List Loss
  losses_last None = []
  losses_last (Some q) = q.losses

  -- ---- the monitor of a synchronized method (JLS 8.4.3.6)

  abbrev pub is_synchronized : syntax.Modifier Span → Bool
  is_synchronized w = is_that w.word
    where
      is_that : ModWord → Bool
      is_that modifier.Synchronized = true
      is_that _ = false

  abbrev pub is_locked : Bool
  is_locked = list_any is_synchronized x.declared.modifiers

  abbrev pub is_class_locked : Bool
  is_class_locked = is_static_member begins x.declared.modifiers

  abbrev pub mark : Span
  mark = stmt_mark (form_statement form call.call)

  -- the receiver, `this`, or the method's class, which is a made type
  abbrev pub Locks : On → (is_class : Bool) → Rewritten (tree.Exp Span) → List ℕ → Type 0
  Locks (local_value m w k c) b o text =
      (o ≡ plain (tree.name mark (new_word mark w.text))) × (text ≡ w.text)
  Locks on false o text = (o ≡ plain (tree.this mark)) × (text ≡ codes "this")
  Locks on true o text = (t : Rewritten (tree.TypeName Span))
      × WritesType p.rows of_around stands.context at mark (class key.class) t
      × (o ≡ record {
        tree = tree.class_literal mark t.tree;
        changes = [];
        respelled = t.respelled;
        losses = t.losses;
      })
      × (text ≡ printed_type t.tree ++ codes ".class")

  abbrev pub LocksIf : Bool → Rewritten (tree.Exp Span) → List ℕ → Type 0
  LocksIf false o text = (o ≡ plain (tree.null mark)) × (text ≡ [])
  LocksIf true o text = Locks x.on.receiver is_class_locked o text

  -- what comes of the call's parts
  pub record Parts : Type 0 where
    pub arguments : List (Rewritten (tree.Exp Span))
    pub are_arguments : Arguments 0 (call_args call.call) arguments
    pub params : Rewritten (List (syntax.Param Span))
    pub copies_params : RewritesParams itself (choices of_body) (method key) 0 body_base
        x.declared.params params
    pub front : Rewritten (statement.Stmts Span)
    pub copies_front : TransformsStmts itself (choices of_body) (body_spots x.on.receiver)
        at_body.next at_body.context at_body.base (in_front x.declared.body) front
    pub last : Option (Rewritten (tree.Exp Span))
    pub copies_last : CopiesLast (last_return x.declared.body) last
    pub lock : Rewritten (tree.Exp Span)
    pub lock_text : List ℕ
    pub locks : LocksIf is_locked lock lock_text

  module _ (y : Parts) (text body_text gap : List ℕ) where
    abbrev pub body_changes : List Change
    body_changes = y.front.changes
        ++ or_changes form body_text (last_return x.declared.body) y.last

    abbrev pub copied_text : List ℕ
    copied_text = bytes_of body_text (list_span x.declared.body) body_changes

    abbrev pub copied_tree : statement.Stmts Span
    copied_tree = append y.front.tree (or_tree form (last_return x.declared.body) y.last)

    abbrev pub param_texts : List (List ℕ)
    param_texts = parameter_texts text y.params.tree (call_args call.call) y.arguments

    -- a synchronized method without parameters is its monitor alone
    abbrev pub locked_text : List (List ℕ) → List ℕ → List ℕ
    locked_text [] monitor = monitor
    locked_text (t ∷ ts) monitor = in_braces ((t ∷ ts) ++ (monitor ∷ []))

    abbrev pub text_if : Bool → List ℕ
    text_if false = in_braces (param_texts ++ if_any copied_text)
    text_if true = locked_text param_texts (codes "synchronized (" ++ (y.lock_text
        ++ (codes ") " ++ in_braces (if_any copied_text))))

    abbrev pub locked_tree : statement.Stmts Span → statement.Stmt Span → statement.Stmt Span
    locked_tree statement.end monitor = monitor
    locked_tree (statement.more s ss) monitor = statement.block mark
        (append (statement.more s ss) (statement.more monitor statement.end))

    abbrev pub param_trees : statement.Stmts Span
    param_trees = parameter_trees mark y.params.tree y.arguments

    abbrev pub tree_if : Bool → statement.Stmt Span
    tree_if false = statement.block mark (append param_trees copied_tree)
    tree_if true = locked_tree param_trees (statement.sync mark y.lock.tree copied_tree)

    -- in front of the block a local that the statement declares, with a first value; its written type
    -- is kept
    abbrev pub Declares : Form → Rewritten (statement.Stmts Span) → (front : List ℕ) → Type 0
    Declares (initial m f t w) o front = (u : Rewritten (tree.TypeName Span)) × (ty : Ty)
        × RewritesType itself (choices of_around) stands.context (begins m stands.base) t u
        × IsLocalType p.rows (scope_of stands.context) (local_type t) ty
        × (o ≡ record {
          tree = statement.more (statement.local m false u.tree w (first_tree m ty))
              statement.end;
          changes = [];
          respelled = u.respelled;
          losses = u.losses;
        })
        × (front ≡ printed_type u.tree ++ (codes " " ++ (w.text ++ (codes " = "
        ++ (first_text ty ++ (codes ";" ++ gap))))))
    Declares _ o front = (o ≡ plain statement.end) × (front ≡ [])

    -- ---- the spot

    -- the statements from the call's on
    abbrev pub IsHeld : (n : ℕ) → Context → statement.Stmts Span → Type 0
    IsHeld n c b = (n ≡ stands.next) × (c ≡ stands.context)
        × (b ≡ statement.more (form_statement form call.call) call.rest)

    abbrev pub behind_it : Standing
    behind_it = behind begins (form_statement form call.call) stands

    abbrev pub Inlines : (n : ℕ) → Context → (base : ℕ) → statement.Stmts Span
        → Rewritten (statement.Stmts Span) → Type 0
    Inlines n c base b o = IsHeld n c b
        × (d : Rewritten (statement.Stmts Span)) × (front : List ℕ) × Declares form d front
        × (q : Rewritten (statement.Stmts Span))
        × TransformsList itself (choices of_around) nowhere behind_it.next behind_it.context base
        call.rest q
        × (o ≡ record {
          tree = append d.tree (statement.more (tree_if is_locked) q.tree);
          changes = change mark (front ++ text_if is_locked) ∷ q.changes;
          respelled = d.respelled + (sum_of y.arguments + (y.params.respelled
              + (y.front.respelled + (count_last y.last + (y.lock.respelled + q.respelled)))));
          losses = d.losses ++ (losses_in y.arguments ++ q.losses);
        })

    abbrev pub list_spot : Spots Span
    list_spot = record {
      part = λ k c r base e o. ⊥;
      part_stays = λ k c r base e. Unit {0};
      list = λ n c base b o. Inlines n c base b o;
      list_stays = λ n c base b. IsHeld n c b → ⊥;
      members = λ base of ms o. ⊥;
      members_stay = λ base of ms. Unit {0};
      whole = λ base outer d o. ⊥;
      whole_stays = λ base outer d. Unit {0};
      this_stays = Unit {0};
    }

    abbrev pub spots_if : Bool → Spotted Span
    spots_if true = spotted list_spot
    spots_if false = nowhere

  -- what comes where: the texts of both files, the parts, what stands in front of the block
  pub record Carried : Type 0 where
    pub text : List ℕ
    pub is_text : HasText p file text
    pub body_text : List ℕ
    pub is_body_text : HasText p x.declared.member.file body_text
    pub parts : Parts
    pub gap : List ℕ
    pub is_gap : IsGap text mark.from gap

  module _ (f : Carried) where
    abbrev pub spots_of : ℕ → Spotted Span
    spots_of n = spots_if f.parts f.text f.body_text f.gap (nat_eq n file)

    -- copied references keep their places, in the method's file; the lock's class has the step's
    abbrev pub lost_copies : List Lost
    lost_copies =
        map (λ (l : Loss). record { origin = copied; file = x.declared.member.file; loss = l })
        (f.parts.params.losses ++ (f.parts.front.losses ++ losses_last f.parts.last))

    abbrev pub lost_made : List Lost
    lost_made = map (λ (l : Loss). record { origin = made; file = file; loss = l })
        f.parts.lock.losses

    -- the tokens of a file may stand where they end; a brace ends what stands for the statement
    abbrev pub Fronted : ℕ → Fronts
    Fronted n byte k = EndsToken p n byte k
        ⊎ ((n ≡ file) × (byte ≡ mark.to) × (k ≡ Mark CloseBrace))

    -- never 18: the body is evaluated where it was
    abbrev pub inlines : Transform
    inlines = record {
      region = of_around;
      spots = spots_of;
      fronts = Fronted;
      AlsoLost = λ lost. lost ≡ lost_copies ++ lost_made;
      Crosses = λ kind first second. ⊥;
    }
