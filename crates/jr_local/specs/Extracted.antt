-- What extract local makes of a program: a spot in the list of a statement, in front of which the
-- declaration is put, and a spot in that statement, in which the name takes the expression's place.
use Rattle.std.specs.Prelude.{
  ◌≡◌,
  ◌⊎◌,
  ℕ,
  ◌+◌,
  nat_eq,
  Bool,
  true,
  false,
  List,
  [],
  ◌∷◌,
  ◌++◌,
  map,
  None,
  codes,
}
use Rattle.jr_text.specs.declared.spans.Span.{Span}
use Rattle.jr_lex.specs.declared.items.Item.{Item}
use Rattle.jr_lex.specs.declared.items.TokenKind.TheVariants.{Word}
use Rattle.jr_lex.specs.Lexes.{Lexes}
use Rattle.jr_ast.specs.Tree as tree
use Rattle.jr_ast.specs.StatementTree as statement
use Rattle.jr_ast.specs.Marks.{exp_mark, stmt_mark}
use Rattle.jr_grammar.specs.Layout.{itself}
use Rattle.jr_grammar.specs.Tokens.{word}
use Rattle.jr_print.specs.ExpressionText.{printed_type}
use Rattle.jr_layout.specs.Layouts.{IsGap}
use Rattle.jr_sync.specs.declared.sites.DepKind.{DepKind}
use Rattle.jr_table.specs.Keys.{Ty, int, boolean, void, null, class}
use Rattle.jr_table.specs.Decls.{LocalKey, class_decl}
use Rattle.jr_table.specs.Rows.{Row}
use Rattle.jr_table.specs.Binding.{value}
use Rattle.jr_table.specs.Lookup.{FindsTypeNamed}
use Rattle.jr_table.specs.Context.{Context, local_key, locals_in, after}
use Rattle.jr_names.specs.Sites.{SiteAt}
use Rattle.jr_spell.specs.declared.references.RefForm.TheVariants as ref
use Rattle.jr_bind.specs.Programs.{Program}
use Rattle.jr_cover.specs.Ways.{sites_of}
use Rattle.jr_cover.specs.Sites.{exp_way}
use Rattle.jr_rewrite.specs.Respellings.{Loss, Choice, Change}
use Rattle.jr_rewrite.specs.Rewritten.{Rewritten, plain, change, before, simple_type_out}
use Rattle.jr_rewrite.specs.Spots.{Asks, level, Spots, Spotted, nowhere, spotted}
use Rattle.jr_rewrite.specs.Rewrites.{Choosing, TransformsExp, TransformsStmt, TransformsList}
use Rattle.jr_rewrite.specs.Woven.{Fronts, with_changes}
use Rattle.jr_images.specs.Regions.{Region}
use Rattle.jr_images.specs.Spelling.{choosing, TakenChoice, reference, there}
use Rattle.jr_pieces.specs.Before.{stmt_before}
use Rattle.jr_plan.specs.Transforms.{Lost, made as is_made, Refactoring}
use Rattle.jr_local.specs.Bodies.{begins}
use Rattle.jr_local.specs.Scopes.{around_made, with_made, in_made}
use Rattle.jr_local.specs.Texts.{HasText, EndsToken}
use Rattle.jr_moved_texts.specs.Spaces.{spaced}
use Rattle.jr_local.specs.Crossing.{Crossed}
use Rattle.jr_local.specs.Selecting.{Selected, at_value, element, RefusesExtract, IsFree}

-- ---- how the expression's type is written

-- a class is a made reference, asked by its name (JLS 6.5.5)
abbrev pub WritesClass : List Row → Region Span → (s : Context) → (at : ℕ) → Ty → Choice → Type 0
WritesClass rows R c at (class k) h = TakenChoice begins rows R (there begins rows R c) at k.name
    k.name (class_decl k) (class_decl k) (reference ref.ClassName k.name None [])
    (FindsTypeNamed (R.seen.images.rows) (there begins rows R c) k.name) h
WritesClass rows R c at _ h = ⊥

abbrev pub word_of : Span → List ℕ → tree.Word Span
word_of m name = record { mark = m; text = name }

-- new nodes have the marks of what they stand for
abbrev pub WritesType : List Row → Region Span → Context → (at : ℕ) → Span → Ty
    → Rewritten (tree.TypeName Span) → Type 0
WritesType rows R c at m int o = o ≡ plain (tree.int m)
WritesType rows R c at m boolean o = o ≡ plain (tree.boolean m)
WritesType rows R c at m (class k) o = (h : Choice) × WritesClass rows R c at (class k) h
    × (o ≡ simple_type_out itself h m 0 (word_of m k.name))
WritesType rows R c at m void o = ⊥
WritesType rows R c at m null o = ⊥

-- ---- what is put into a text

module _ (name : List ℕ) where
  -- in the expression's place, whose span this is, in a text with these items
  abbrev pub name_tree : (piece : Span) → tree.Exp Span
  name_tree piece = tree.name piece (word_of piece name)

  abbrev pub put_name : List Item → (piece : Span) → Change
  put_name items piece = change piece (spaced items piece (word name ∷ []) name)

  abbrev pub named : List Item → (piece : Span) → Rewritten (tree.Exp Span)
  named items piece = record {
    tree = name_tree piece;
    changes = put_name items piece ∷ [];
    respelled = 0;
    losses = [];
  }

  -- the declaration, and what comes between it and the statement, whose span this is
  abbrev pub declaration : (at : Span) → tree.TypeName Span → tree.Exp Span → statement.Stmt Span
  declaration at t e = statement.local at false t (word_of at name) e

  abbrev pub declaration_text : (type init gap : List ℕ) → List ℕ
  declaration_text type init gap =
      type ++ codes " " ++ name ++ codes " = " ++ init ++ codes ";" ++ gap

  abbrev pub put_declaration : (at : Span) → tree.TypeName Span → (init gap : List ℕ) → Change
  put_declaration at t init gap =
      change (before at) (declaration_text (printed_type t) init gap)

-- ---- the spots

module _ (p : Program Span) (file from to : ℕ) (name : List ℕ) (x : Selected p file from to) where
  abbrev pub made : LocalKey
  made = local_key (element x).at.context (element x).at.next

  abbrev pub choices : Region Span → Choosing Span
  choices R = choosing begins p.rows R (λ (c : Context). p.super_at c.member)

  abbrev pub around : Region Span
  around = around_made p.rows made name x.type

  abbrev pub from_there : Region Span
  from_there = with_made p.rows made name x.type

  abbrev pub of_piece : Region Span
  of_piece = in_made p.rows made name x.type

  -- the expression becomes this, as the initializer
  abbrev pub Moves : Rewritten (tree.Exp Span) → Type 0
  Moves q = TransformsExp itself (choices of_piece) nowhere (at_value x).context value
      (at_value x).base x.value q

  abbrev pub Writes : Rewritten (tree.TypeName Span) → Type 0
  Writes o = WritesType p.rows from_there (element x).at.context from
      (stmt_mark (element x).stmt) x.type o

  -- it is the expression, of which something is asked as of a value
  abbrev pub IsValue : Asks → Context → tree.Exp Span → Type 0
  IsValue k c e = (least : ℕ) × (k ≡ level least) × (c ≡ (at_value x).context) × (e ≡ x.value)

  abbrev pub name_spot : List Item → Spots Span
  name_spot items = record {
    part = λ k c r base e o. IsValue k c e × (o ≡ named name items (exp_mark x.value));
    part_stays = λ k c r base e. IsValue k c e → ⊥;
    list = λ n c base xs o. ⊥;
    list_stays = λ n c base xs. Unit {0};
    members = λ base of xs o. ⊥;
    members_stay = λ base of xs. Unit {0};
    whole = λ base outer c o. ⊥;
    whole_stays = λ base outer c. Unit {0};
    this_stays = Unit {0};
  }

  -- What comes of the statement and those behind it, in a text with these items, with this type:
  -- the expression with its own changes and the gap; what the statement and the others become; and
  -- the whole.
  pub record Puts (text : List ℕ) (items : List Item) (type : Rewritten (tree.TypeName Span))
      (n : ℕ) (c : Context) (base : ℕ)
      (s : statement.Stmt Span) (ss : statement.Stmts Span)
      (o : Rewritten (statement.Stmts Span)) : Type 0 where
    pub piece : Rewritten (tree.Exp Span)
    pub gap : List ℕ
    pub first : Rewritten (statement.Stmt Span)
    pub rest : Rewritten (statement.Stmts Span)
    pub moves : Moves piece
    pub is_gap : IsGap text (stmt_mark s).from gap
    pub first_is : TransformsStmt itself (choices from_there) (spotted (name_spot items)) n c base
        s first
    pub rest_is : TransformsList itself (choices from_there) nowhere (n + locals_in s)
        (after n c s) base ss rest
    pub tree_is : o.tree
        ≡ statement.more (declaration name (stmt_mark s) type.tree piece.tree)
        (statement.more first.tree rest.tree)
    pub changes_are : o.changes
        ≡ put_declaration name (stmt_mark s) type.tree
        (with_changes text (exp_mark x.value) piece.changes) gap ∷ (first.changes ++ rest.changes)
    pub respelled_is : o.respelled
        ≡ type.respelled + (piece.respelled + (first.respelled + rest.respelled))
    pub losses_are : o.losses ≡ piece.losses ++ (first.losses ++ rest.losses)

  -- it is the list from the statement on
  abbrev pub IsHeld : (n : ℕ) → Context → statement.Stmts Span → Type 0
  IsHeld n c statement.end = ⊥
  IsHeld n c (statement.more s ss) = (n ≡ (element x).at.next) × (c ≡ (element x).at.context)
      × (s ≡ (element x).stmt) × (ss ≡ (element x).rest)

  module _ (text : List ℕ) (items : List Item) (type : Rewritten (tree.TypeName Span)) where
    abbrev pub Extracts : (n : ℕ) → Context → (base : ℕ) → statement.Stmts Span
        → Rewritten (statement.Stmts Span) → Type 0
    Extracts n c base statement.end o = ⊥
    Extracts n c base (statement.more s ss) o =
        IsHeld n c (statement.more s ss) × Puts text items type n c base s ss o

    abbrev pub list_spot : Spots Span
    list_spot = record {
      part = λ k c r base e o. ⊥;
      part_stays = λ k c r base e. Unit {0};
      list = λ n c base xs o. Extracts n c base xs o;
      list_stays = λ n c base xs. IsHeld n c xs → ⊥;
      members = λ base of ys o. ⊥;
      members_stay = λ base of ys. Unit {0};
      whole = λ base outer d o. ⊥;
      whole_stays = λ base outer d. Unit {0};
      this_stays = Unit {0};
    }

    abbrev pub spots_if : Bool → Spotted Span
    spots_if true = spotted list_spot
    spots_if false = nowhere

    abbrev pub spots_of : ℕ → Spotted Span
    spots_of n = spots_if (nat_eq n file)

  -- the tokens of a file may stand where they end, and the name where the expression ended
  abbrev pub Fronted : ℕ → Fronts
  Fronted n at k = EndsToken p n at k
      ⊎ ((n ≡ file) × (at ≡ (exp_mark x.value).to) × (k ≡ Word))

module _ (p : Program Span) (file from to : ℕ) (name : List ℕ) where
  -- what is found where nothing refuses: the expression, the file's text with its items, and the
  -- type as it is written
  pub record Found : Type 0 where
    pub selected : Selected p file from to
    pub free : IsFree p file from to name selected
    pub text : List ℕ
    pub items : List Item
    pub is_text : HasText p file text
    pub lexes : Lexes text items
    pub type : Rewritten (tree.TypeName Span)
    pub writes : Writes p file from to name selected type

  -- the type's class, which is lost where it has no spelling; its place is the step's
  abbrev pub lost_type : Found → List Lost
  lost_type f =
      map (λ (l : Loss). record { origin = is_made; file = file; loss = l }) f.type.losses

  -- 18: of the statement's sites those that are evaluated before the expression may not come behind
  -- its own
  abbrev pub Crosses : Selected p file from to → DepKind → (first second : SiteAt) → Type 0
  Crosses x = Crossed p file x.body (λ X. stmt_before X (element x).way)
      (λ X. sites_of (exp_way X x.value))

  abbrev pub extract_local : Refactoring
  extract_local = record {
    Refuses = RefusesExtract p file from to name;
    Found = Found;
    transform = λ (f : Found). record {
      region = around p file from to name f.selected;
      spots = spots_of p file from to name f.selected f.text f.items f.type;
      fronts = Fronted p file from to name f.selected;
      AlsoLost = λ lost. lost ≡ lost_type f;
      Crosses = Crosses f.selected;
    };
  }
