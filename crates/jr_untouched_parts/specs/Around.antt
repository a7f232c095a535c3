-- A list of statements of a body that a refactoring makes anew, what it leaves of the program, and
-- what comes of the whole.
use Rattle.std.specs.Prelude.{
  ◌≡◌,
  ◌≢◌,
  ◌⊎◌,
  ℕ,
  ◌+◌,
  ◌<◌,
  ◌≤◌,
  List,
  [],
  ◌++◌,
  length,
  Option,
  Some,
  slice_get,
  sum_by,
}
use Rattle.jr_text.specs.declared.spans.Span.{Span}
use Rattle.jr_text.specs.Edits.{Entry}
use Rattle.jr_ast.specs.Tree as tree
use Rattle.jr_ast.specs.StatementTree as statement
use Rattle.jr_ast.specs.MemberTree as syntax
use Rattle.jr_grammar.specs.Layout.{itself}
use Rattle.jr_table.specs.Keys.{ClassKey}
use Rattle.jr_table.specs.Decls.{LocalKey}
use Rattle.jr_table.specs.Binding.{Role}
use Rattle.jr_table.specs.Context.{Context, Local, locals_in_row}
use Rattle.jr_bind.specs.Programs.{Program}
use Rattle.jr_rewrite.specs.Rewritten.{Rewritten}
use Rattle.jr_rewrite.specs.Edited.{entries_of}
use Rattle.jr_rewrite.specs.Spots.{Asks, Spotted}
use Rattle.jr_rewrite.specs.Rewrites.{TransformsList}
use Rattle.jr_kept_references.specs.StatementsAlong.{ListStays}
use Rattle.jr_kept_references.specs.MembersAlong.{MembersStay, ClassStays}
use Rattle.jr_pieces.specs.Ways.{ListWay}
use Rattle.jr_pieces.specs.Nearest.{Element, nearest}
use Rattle.jr_plan.specs.Transforms.{
  Lost,
  Transform,
  Transformed,
  choosing_of,
  edits_of,
  kept_lost,
  all_lost,
}
use Rattle.jr_plan.specs.Reasons.{KeepsDispatch, pairs_of}
use Rattle.jr_bodies.specs.Bodies.{begins, Body, HasBody}
use Rattle.jr_untouched_parts.specs.Sights.{KeepsKeys, SeesTheSame}
use Rattle.jr_untouched_parts.specs.Staying.{HasEffectOf, IsUntouched, PartStays, ThisStays}

-- ---- the list

module _ {A : Type 0} {f : tree.Exp A} (x : Element f) where
  abbrev pub held : statement.Stmts A
  held = statement.more x.stmt x.rest

  -- the number of its first local, and the one behind its last
  abbrev pub begin : ℕ
  begin = x.at.next

  abbrev pub end : ℕ
  end = x.at.next + locals_in_row held

  -- it declares no local of the number
  abbrev pub IsOutside : ℕ → Type 0
  IsOutside n = (n < begin) ⊎ (end ≤ n)

-- from the nearest statement of an expression on, in a body of the file
pub record Place (p : Program Span) (file : ℕ) : Type 0 where
  pub body : Body
  pub has : HasBody p file body
  pub value : tree.Exp Span
  pub way : ListWay value body.list

module _ {p : Program Span} {file : ℕ} (x : Place p file) where
  abbrev pub element : Element x.value
  element = nearest begins x.body.at x.way

  -- it doesn't declare the local
  abbrev pub Avoids : LocalKey → Type 0
  Avoids k = k.member ≡ x.body.key → IsOutside element k.number

  -- no local in scope is one of those that it declares
  abbrev pub IsAround : Context → Type 0
  IsAround c = (i : ℕ) (l : Local) → slice_get c.locals i ≡ Some l → Avoids l.key

-- ---- what is left

-- no spot has to be used
pub record NoSpot (S : Spotted Span) : Type 0 where
  pub part : (k : Asks) (c : Context) (r : Role) (base : ℕ) (e : tree.Exp Span)
      → PartStays S k c r base e
  pub list : (n : ℕ) (c : Context) (base : ℕ) (xs : statement.Stmts Span)
      → ListStays S n c base xs
  pub members : (base : ℕ) (of : ClassKey) (xs : syntax.Members Span) → MembersStay S base of xs
  pub whole : (base : ℕ) (outer : Option (List ℕ)) (d : syntax.Class Span)
      → ClassStays S base outer d
  pub this : ThisStays S

module _ {p : Program Span} {file : ℕ} (x : Place p file) where
  -- it is the list, where the same is known
  pub record IsThere (n : ℕ) (c : Context) (xs : statement.Stmts Span) : Type 0 where
    pub next : n ≡ (element x).at.next
    pub context : c ≡ (element x).at.context
    pub list : xs ≡ held (element x)

  -- nor has any, but that list
  pub record OneSpot (S : Spotted Span) : Type 0 where
    pub part : (k : Asks) (c : Context) (r : Role) (base : ℕ) (e : tree.Exp Span)
        → PartStays S k c r base e
    pub list : (n : ℕ) (c : Context) (base : ℕ) (xs : statement.Stmts Span)
        → (IsThere n c xs → ⊥) → ListStays S n c base xs
    pub members : (base : ℕ) (of : ClassKey) (xs : syntax.Members Span)
        → MembersStay S base of xs
    pub whole : (base : ℕ) (outer : Option (List ℕ)) (d : syntax.Class Span)
        → ClassStays S base outer d
    pub this : ThisStays S

-- Keys and rows stay, each place at which none of the list's locals is in scope sees what it saw,
-- and no spot is but the list.
pub record LeavesRest {p : Program Span} {file : ℕ} (t : Transform) (x : Place p file) : Type 0
  where
    pub keys : KeepsKeys p.rows t.region
    pub sees : (c : Context) → IsAround x c → SeesTheSame t.region c
    pub spot : OneSpot x (t.spots file)
    pub others : (n : ℕ) → n ≢ file → NoSpot (t.spots n)

-- the list becomes this
abbrev pub ListBecomes : {p : Program Span} {file : ℕ} → Transform → Place p file
    → Rewritten (statement.Stmts Span) → Type 0
ListBecomes {p} {file} t x o = TransformsList itself (choosing_of p t) (t.spots file)
    (element x).at.next (element x).at.context (element x).at.base (held (element x)) o

-- ---- what comes of the whole

-- The program is transformed. Its file has the changes of the list, and what is respelled and lost
-- in it; all other files are as they were. No method is dispatched otherwise, and no declaration
-- that has a row becomes another.
pub record IsWhole (p : Program Span) (t : Transform) (also : List Lost) (file : ℕ)
    (o : Rewritten (statement.Stmts Span)) : Type 0 where
  pub becomes : Transformed p t
  pub also_is : becomes.also_lost ≡ also
  pub own : Rewritten (syntax.Unit Span)
  pub stands : slice_get becomes.files file ≡ Some own
  pub effect : HasEffectOf o own
  pub others : (n : ℕ) (q : Rewritten (syntax.Unit Span)) → n ≢ file
      → slice_get becomes.files n ≡ Some q → IsUntouched q
  pub dispatch : KeepsDispatch p t
  pub renaming : pairs_of p t ≡ []
  -- what a plan tells of it: lists of edits, of which the file's alone has any; how many references
  -- are respelled; and those that are lost
  pub edits : (all : List (List Entry)) → length all ≡ length p.files
      → slice_get all file ≡ Some (entries_of o.changes)
      → ((n : ℕ) (es : List Entry) → n ≢ file → slice_get all n ≡ Some es → es ≡ [])
      → all ≡ edits_of becomes.files
  pub respelled : sum_by (λ (q : Rewritten (syntax.Unit Span)). q.respelled) becomes.files
      ≡ o.respelled
  pub lost : all_lost becomes.files becomes.also_lost ≡ kept_lost file o.losses ++ also
