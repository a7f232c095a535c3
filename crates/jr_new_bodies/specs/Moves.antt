-- How places change on a walk.
use Rattle.std.specs.Prelude.{◌≡◌, ℕ, ◌+◌, Option, None, option_map, Bool, true, take}
use Rattle.jr_text.specs.declared.spans.Span.{Span}
use Rattle.jr_ast.specs.Tree as tree
use Rattle.jr_ast.specs.StatementTree as statement
use Rattle.jr_table.specs.Decls.{MemberKey, LocalKey}
use Rattle.jr_table.specs.Context.{
  Context,
  local_type,
  after,
  locals_in,
  locals_in_row,
}
use Rattle.jr_scopes.specs.Helds.{Held, key_of}
use Rattle.jr_new_bodies.specs.declared.here.Here as raw
use Rattle.jr_new_bodies.specs.Effects.{Effect}
use Rattle.jr_new_bodies.specs.Known.{rows_of, mapping_of, context_of, IsKnown}
use Rattle.jr_table.specs.Binding.{value}
use Rattle.jr_rewrite.specs.Spots.{level}
use Rattle.jr_new_bodies.specs.Walks.{PartGathers}
use Rattle.jr_new_bodies.specs.Bodies.{StmtGathers, StmtsGather}

-- another place of the same member in the same programs, where this is known
pub record Goes (old new : raw.Here) (c : Context) : Type 0 where
  pub known : IsKnown new
  pub context : context_of new ≡ c
  pub rows : rows_of new ≡ rows_of old
  pub mapping : mapping_of new ≡ mapping_of old
  pub bound : new.bound.now ≡ old.bound.now
  pub from_is : new.from ≡ old.from
  pub spots : new.spots ≡ old.spots

abbrev pub without_own : Context → Context
without_own c = record {
  member = c.member;
  is_static = c.is_static;
  locals = c.locals;
  own = None;
}

abbrev pub own_key : MemberKey → Option ℕ → Option LocalKey
own_key k own = option_map (key_of k) own

-- with the first so many locals
abbrev pub cut : ℕ → Option ℕ → Context → Context
cut n own c = record {
  member = c.member;
  is_static = c.is_static;
  locals = take n c.locals;
  own = own_key c.member own;
}

-- ---- a declared local

pub record IsHeld {A : Type 0} (number : ℕ) (is_final : Bool) (t : tree.TypeName A)
    (w : tree.Word A) (h : Held) : Type 0 where
  pub name : h.name ≡ w.text
  pub number_is : h.number ≡ number
  pub final : h.is_final ≡ is_final
  pub type : h.type ≡ local_type t
  pub init : h.has_init ≡ true

-- ---- behind a statement

pub record Passes (old new : raw.Here) (n : ℕ) (behind : ℕ) (c : Context) (Gives : Type 0) : Type 0
  where
    pub number : n ≡ behind
    pub goes : Goes old new c
    pub gives : Gives

module _ {A : Type 0} (tells : A → ℕ → Span) (number : ℕ) (h : raw.Here) (at : ℕ) where
  -- of a list, and no element of one: what it declares is gone
  abbrev pub StmtPasses : statement.Stmt A → (n : ℕ) → raw.Here → (old new : Effect) → Type 0
  StmtPasses x n i old new = Passes h i n (number + locals_in x) (after number (context_of h) x)
      (StmtGathers tells h number at x old new)

  abbrev pub InnerPasses : statement.Stmt A → (n : ℕ) → raw.Here → (old new : Effect) → Type 0
  InnerPasses x n i old new = Passes h i n (number + locals_in x) (context_of h)
      (StmtGathers tells h number at x old new)

  abbrev pub BodyPasses : statement.Stmts A → (n : ℕ) → raw.Here → (old new : Effect) → Type 0
  BodyPasses xs n i old new = Passes h i n (number + locals_in_row xs) (context_of h)
      (StmtsGather tells h number at xs old new)

  -- the parts of a statement that begins at `at`
  abbrev pub SyncPasses : tree.Exp A → statement.Stmts A → (n : ℕ) → raw.Here
      → (old new : Effect) → Type 0
  SyncPasses e body n i old new = Passes h i n (number + locals_in_row body) (context_of h)
      ((one : Effect) × PartGathers tells h (level 0) value at e old one
      × StmtsGather tells h number at body one new)
