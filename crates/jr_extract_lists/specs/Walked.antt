-- What the walks of the parts say, in the words of `jr_local`.
use Rattle.std.specs.Prelude.{
  ◌≡◌,
  ℕ,
  suc,
  ◌+◌,
  List,
  [],
  ◌∷◌,
  ◌++◌,
  length,
  map,
  option_to_list,
}
use Rattle.jr_text.specs.declared.spans.Span.{Span}
use Rattle.jr_ast.specs.Tree as tree
use Rattle.jr_ast.specs.StatementTree as statement
use Rattle.jr_ast.specs.Marks.{exp_mark}
use Rattle.jr_ast.specs.View.{stmts_of}
use Rattle.jr_grammar.specs.Layout.{itself}
use Rattle.jr_grammar.specs.Tokens.{word}
use Rattle.jr_moved_texts.specs.Spaces.{spaced}
use Rattle.jr_table.specs.TypeView.{ty_of}
use Rattle.jr_table.specs.Context.{after, locals_in}
use Rattle.jr_bind.specs.Programs.{Program}
use Rattle.jr_bodies.specs.CodeView.{code_of}
use Rattle.jr_rewrite.specs.Respellings.{Change}
use Rattle.jr_rewrite.specs.Rewritten.{Rewritten}
use Rattle.jr_rewrite.specs.Spots.{nowhere, spotted}
use Rattle.jr_rewrite.specs.Rewrites.{TransformsStmt, TransformsList}
use Rattle.jr_rewrite.specs.ChangeView.{changes_of}
use Rattle.jr_rewrite.specs.declared.changes.Change as raw_change
use Rattle.jr_pieces.specs.Nearest.{Element}
use Rattle.jr_pieces.specs.Finding.{stmt_path}
use Rattle.jr_new_words.specs.ChoiceView.{lost_of}
use Rattle.jr_new_words.specs.Mappings.{MadeLocal, Renumbering, renumbered}
use Rattle.jr_new_bodies.specs.declared.here.Here as raw_here
use Rattle.jr_new_bodies.specs.declared.spots.Spots as raw_spots
use Rattle.jr_new_bodies.specs.Known.{rows_of, context_of, mapping_of, IsKnown}
use Rattle.jr_new_bodies.specs.Moves.{Goes}
use Rattle.jr_new_bodies.specs.Effects.{Effect, both, effect_of}
use Rattle.jr_new_bodies.specs.OutputView.{gathered}
use Rattle.jr_new_bodies.specs.Spotting.{PartSpot, text_of, no_spots}
use Rattle.jr_new_bodies.specs.SpotView.{spotting_of}
use Rattle.jr_local.specs.Selecting.{Selected, element}
use Rattle.jr_local.specs.Extracted as extracted
use Rattle.jr_local_walks.specs.Mappings as mappings
use Rattle.jr_local_parts.specs.declared.elements.ElementPlace.{ElementPlace}
use Rattle.jr_local_parts.specs.Begun.{BeginsBody}
use Rattle.jr_extract_lists.specs.declared.targets.Target as raw
use Rattle.jr_extract_lists.specs.declared.walks.StatementPlace as raw_place
use Rattle.jr_extract_lists.specs.declared.walks.ListOutput as raw_list
use Rattle.jr_extract_lists.specs.Targets.{IsTarget, selected_by}

-- ---- numbers

abbrev pub made_by : raw.Target → MadeLocal
made_by t = record { name = t.request.name.now; number = t.number; type = ty_of t.ty.now }

-- the same numbers, where none is made yet
abbrev pub bare : Renumbering → Renumbering
bare r = record { firsts = r.firsts; next = r.next; made = []; depth = 0; gone = r.gone }

-- where the body begins
abbrev pub BeginsFor : Renumbering → raw.Target → raw_here.Here → Type 0
BeginsFor r t h = BeginsBody t.body (bare r) h

-- those that are made come into scope
pub record IsMade (old new : raw_here.Here) (r : Renumbering) : Type 0 where
  pub known : IsKnown new
  pub context : context_of new ≡ context_of old
  pub rows : rows_of new ≡ rows_of old
  pub mapping : mapping_of new ≡ record {
    keys = (mapping_of old).keys;
    locals = renumbered r;
    new = (mapping_of old).new;
  }
  pub bound : new.bound.now ≡ old.bound.now
  pub from_is : new.from ≡ old.from
  pub spots : new.spots ≡ old.spots

abbrev pub with_spots : raw_here.Here → raw_spots.Spots → raw_here.Here
with_spots h spots = record { scopes = h.scopes; bound = h.bound; from = h.from; spots = spots }

-- ---- the statement, by the list

abbrev pub HasStatement : raw.Target → Type 0
HasStatement t = (s : statement.Stmt Span) × (ss : statement.Stmts Span)
    × (stmts_of t.list.now ≡ statement.more s ss)

abbrev pub first_local : raw.Target → ℕ
first_local t = length (code_of t.body.code).params

-- what is gathered in front of the statement
abbrev pub put_in_front : Change → (respelled : ℕ) → (piece : Effect) → Effect
put_in_front put n piece = record {
  changes = put ∷ [];
  respelled = n + piece.respelled;
  losses = piece.losses;
}

-- ---- of what is extracted

module _ {p : Program Span} {t : raw.Target} (x : IsTarget p t) where
  abbrev pub file : ℕ
  file = t.request.file

  abbrev pub name : List ℕ
  name = t.request.name.now

  abbrev pub it : Selected p t.request.file t.request.from t.request.to
  it = selected_by x

  abbrev pub held : Element it.value
  held = element it

  abbrev pub depth : ℕ
  depth = length held.at.context.locals

  -- the numbers in the initializer, and from the declaration on
  abbrev pub in_initializer : Renumbering
  in_initializer = mappings.initializing t.number name (ty_of t.ty.now) depth

  abbrev pub from_there : Renumbering
  from_there = mappings.behind t.number name (ty_of t.ty.now) depth

  -- the statement, and the path to it
  pub record IsElement (at : ElementPlace) : Type 0 where
    pub next : held.at.next ≡ at.next
    pub base : held.at.base ≡ at.base
    pub front : List ℕ
    pub path : t.path.now.steps.items ≡ front ++ at.step ∷ stmt_path held.way
    pub steps : suc (length front) ≡ at.depth

  -- the statement's place
  pub record IsPlaceOf (at : raw_place.StatementPlace) : Type 0 where
    pub element_is : IsElement at.element
    pub scope : depth ≡ at.depth

  -- a place has come to it
  pub record IsPlaced (old new : raw_here.Here) (at : raw_place.StatementPlace) : Type 0 where
    pub goes : Goes old new held.at.context
    pub place : IsPlaceOf at

  -- what becomes of the expression
  abbrev pub IsMoved : Effect → Type 0
  IsMoved e = (q : Rewritten (tree.Exp Span))
      × extracted.Moves p file t.request.from t.request.to name it q × (e ≡ effect_of q)

  -- the spot of the expression alone, at which the name is put
  pub record PutsName (ps : List PartSpot) : Type 0 where
    pub one : PartSpot
    pub is : ps ≡ one ∷ []
    pub at : one.at ≡ exp_mark it.value
    pub text : (least : ℕ) → text_of one least
        ≡ spaced t.items.now (exp_mark it.value) (word name ∷ []) name
    pub count : one.respelled ≡ 0

  -- a place at the statement, with the new local in scope by these numbers
  pub record AtStatement (r : Renumbering) (h : raw_here.Here) : Type 0 where
    pub known : IsKnown h
    pub context : context_of h ≡ held.at.context
    pub rows : rows_of h ≡ p.rows
    pub mapping : mapping_of h ≡ mappings.moved p.rows r
    pub bound : h.bound.now ≡ it.body.bound
    pub from_is : h.from ≡ it.body.at.base
    pub spots : spotting_of h.spots ≡ no_spots

  -- a place behind the statement, where the next local has the number
  pub record AtRest (h : raw_here.Here) (n : ℕ) : Type 0 where
    pub number : n ≡ held.at.next + locals_in held.stmt
    pub known : IsKnown h
    pub context : context_of h ≡ after held.at.next held.at.context held.stmt
    pub rows : rows_of h ≡ p.rows
    pub mapping : mapping_of h ≡ mappings.moved p.rows from_there
    pub bound : h.bound.now ≡ it.body.bound
    pub from_is : h.from ≡ it.body.at.base

  -- the statement becomes this
  abbrev pub GivesFirst : (old new : Effect) → Type 0
  GivesFirst old new = (first : Rewritten (statement.Stmt Span)) × TransformsStmt itself
      (extracted.choices p file t.request.from t.request.to name it
      (extracted.from_there p file t.request.from t.request.to name it))
      (spotted (extracted.name_spot p file t.request.from t.request.to name it t.items.now))
      held.at.next held.at.context held.at.base held.stmt first
      × (new ≡ both old (effect_of first))

  -- those behind it become this
  abbrev pub GivesRest : (old new : Effect) → Type 0
  GivesRest old new = (rest : Rewritten (statement.Stmts Span)) × TransformsList itself
      (extracted.choices p file t.request.from t.request.to name it
      (extracted.from_there p file t.request.from t.request.to name it))
      nowhere (held.at.next + locals_in held.stmt) (after held.at.next held.at.context held.stmt)
      held.at.base held.rest rest
      × (new ≡ both old (effect_of rest))

  pub record PassesFirst (n : ℕ) (here there : raw_here.Here) (old new : Effect) : Type 0 where
    pub behind : AtRest there n
    pub gives : GivesFirst old new

  -- the statement and those behind it become this
  pub record IsListed (old new : Effect) : Type 0 where
    pub first : Rewritten (statement.Stmt Span)
    pub rest : Rewritten (statement.Stmts Span)
    pub first_is : TransformsStmt itself
        (extracted.choices p file t.request.from t.request.to name it
        (extracted.from_there p file t.request.from t.request.to name it))
        (spotted (extracted.name_spot p file t.request.from t.request.to name it t.items.now))
        held.at.next held.at.context held.at.base held.stmt first
    pub rest_is : TransformsList itself
        (extracted.choices p file t.request.from t.request.to name it
        (extracted.from_there p file t.request.from t.request.to name it))
        nowhere (held.at.next + locals_in held.stmt) (after held.at.next held.at.context held.stmt)
        held.at.base held.rest rest
    pub is : new ≡ both old (both (effect_of first) (effect_of rest))

  -- What the list becomes, as `jr_local: Puts` has it, with this type.
  pub record Puts (type : Rewritten (tree.TypeName Span)) (o : Rewritten (statement.Stmts Span))
      : Type 0 where
    pub writes : extracted.Writes p file t.request.from t.request.to name it type
    pub puts : extracted.Puts p file t.request.from t.request.to name it t.text.now t.items.now
        type held.at.next held.at.context held.at.base held.stmt held.rest o

  -- that, where the expression becomes this
  pub record Listed (piece : Effect) (l : raw_list.ListOutput) : Type 0 where
    pub type : Rewritten (tree.TypeName Span)
    pub o : Rewritten (statement.Stmts Span)
    pub becomes : Puts type o
    pub piece_is : effect_of becomes.puts.piece ≡ piece
    pub out : gathered l.out ≡ effect_of o
    pub lost : map lost_of (option_to_list l.lost) ≡ type.losses

  -- nothing is lost, and these are the changes
  pub record IsKeptList (changes : List raw_change.Change) (respelled : ℕ) : Type 0 where
    pub type : Rewritten (tree.TypeName Span)
    pub o : Rewritten (statement.Stmts Span)
    pub becomes : Puts type o
    pub kept_type : type.losses ≡ []
    pub kept : o.losses ≡ []
    pub changes_are : changes_of changes ≡ o.changes
    pub respelled_is : respelled ≡ o.respelled

-- ---- what walks rest on: a program in which this is extracted

module _ (t : raw.Target) where
  abbrev pub Known : ((p : Program Span) → IsTarget p t → Type 0) → Type 0
  Known P = (p : Program Span) × ((x : IsTarget p t) × P p x)

  abbrev pub CanWalk : Type 0
  CanWalk = Known (λ p x. Unit {0})

  abbrev pub HasPlace : raw_place.StatementPlace → Type 0
  HasPlace at = Known (λ p x. IsPlaceOf x at)

  abbrev pub HasPiece : raw_place.StatementPlace → (piece : Effect) → Type 0
  HasPiece at piece = Known (λ p x. IsPlaceOf x at × IsMoved x piece)

  -- from where the body begins to the expression, with these numbers
  abbrev pub WalksPiece : raw_here.Here → Renumbering → Type 0
  WalksPiece h r = Known (λ p x. BeginsFor (in_initializer x) t h × (r ≡ in_initializer x))

  -- and to the list, with what becomes of the expression
  abbrev pub WalksList : raw_here.Here → Renumbering → List PartSpot → (piece : Effect) → Type 0
  WalksList h r ps piece = Known (λ p x. BeginsFor (from_there x) t h × (r ≡ from_there x)
      × PutsName x ps × IsMoved x piece)

  -- the numbers of both, as the calls have them
  abbrev pub FramesPiece : (outer inner : Renumbering) → Type 0
  FramesPiece o r =
      Known (λ p x. (o ≡ bare (in_initializer x)) × (r ≡ in_initializer x))

  abbrev pub FramesList : (outer inner : Renumbering) → List PartSpot → (piece : Effect) → Type 0
  FramesList o r ps piece = Known (λ p x. (o ≡ bare (from_there x)) × (r ≡ from_there x)
      × PutsName x ps × IsMoved x piece)

  -- from the statement on
  abbrev pub WalksStatements : ElementPlace → raw_here.Here → List PartSpot → Type 0
  WalksStatements at h ps =
      Known (λ p x. AtStatement x (from_there x) h × IsElement x at × PutsName x ps)

  -- behind the statement
  abbrev pub WalksRest : ElementPlace → raw_here.Here → (n : ℕ) → Type 0
  WalksRest at h n = Known (λ p x. AtRest x h n × IsElement x at)

-- ---- the same of some target of the program

abbrev pub IsListOf : Program Span → raw.Target → raw_place.StatementPlace → raw_list.ListOutput
    → Type 0
IsListOf p t at l =
    (x : IsTarget p t) × IsPlaceOf x at × ((piece : Effect) × Listed x piece l)

abbrev pub IsOfList : Program Span → raw.Target → raw_place.StatementPlace
    → List raw_change.Change → (respelled : ℕ) → Type 0
IsOfList p t at changes respelled =
    (x : IsTarget p t) × IsPlaceOf x at × IsKeptList x changes respelled
