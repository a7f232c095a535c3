-- What inline local makes of a program: a spot in the list of the declaration, from which this
-- goes, and a spot at each read of the local, where a copy of its initializer comes.
use Rattle.std.specs.Prelude.{
  ◌≡◌,
  ◌⊎◌,
  ℕ,
  ◌+◌,
  ◌<◌,
  nat_eq,
  Bool,
  true,
  false,
  List,
  [],
  ◌∷◌,
  ◌++◌,
  map,
  Some,
  slice_get,
  codes,
  Contains,
}
use Rattle.jr_text.specs.declared.spans.Span.{Span}
use Rattle.jr_lex.specs.declared.items.Item.{Item}
use Rattle.jr_lex.specs.declared.items.TokenKind.{TokenKind}
use Rattle.jr_lex.specs.Lexes.{Lexes}
use Rattle.jr_ast.specs.Tree as tree
use Rattle.jr_ast.specs.StatementTree as statement
use Rattle.jr_ast.specs.Marks.{exp_mark, stmt_mark}
use Rattle.jr_grammar.specs.Layout.{itself}
use Rattle.jr_grammar.specs.Spelling.{toks}
use Rattle.jr_layout.specs.Layouts.{IsRemoval}
use Rattle.jr_sync.specs.declared.sites.DepKind.{DepKind}
use Rattle.jr_cover.specs.Ways.{sites_of}
use Rattle.jr_cover.specs.Sites.{exp_way}
use Rattle.jr_table.specs.Keys.{Ty}
use Rattle.jr_table.specs.Binding.{value, HasType}
use Rattle.jr_table.specs.Context.{Context, locals_in, after}
use Rattle.jr_names.specs.Sites.{SiteAt}
use Rattle.jr_bind.specs.Programs.{Program}
use Rattle.jr_rewrite.specs.Respellings.{Loss}
use Rattle.jr_rewrite.specs.Rewritten.{Rewritten, change}
use Rattle.jr_rewrite.specs.Spots.{Asks, level, Takes, Spots, Spotted, nowhere, spotted}
use Rattle.jr_rewrite.specs.Rewrites.{Choosing, TransformsExp, TransformsList}
use Rattle.jr_rewrite.specs.Woven.{Fronts, with_changes}
use Rattle.jr_images.specs.Regions.{Region}
use Rattle.jr_images.specs.Spelling.{choosing}
use Rattle.jr_pieces.specs.Before.{between}
use Rattle.jr_plan.specs.Transforms.{Lost, copied, Refactoring}
use Rattle.jr_local.specs.Bodies.{begins}
use Rattle.jr_local.specs.Scopes.{without, in_copy}
use Rattle.jr_moved_texts.specs.Spaces.{last_kind, spaced}
use Rattle.jr_local.specs.Texts.{HasText, EndsToken}
use Rattle.jr_local.specs.Crossing.{Crossed}
use Rattle.jr_local.specs.Inlining.{
  Declared,
  element,
  at_init,
  Naming,
  known_at,
  first_byte,
  IsRead,
  bar,
  Asked,
  IsLetGo,
  RefusesInline,
}

-- a read of the local, by its span, and what its initializer becomes there
pub record Copy : Type 0 where
  pub read : Span
  pub of : Rewritten (tree.Exp Span)

-- one behind the other in the text
abbrev pub AreRising : List Copy → Type 0
AreRising [] = Unit {0}
AreRising (x ∷ []) = Unit {0}
AreRising (x ∷ y ∷ xs) = (x.read.from < y.read.from) × AreRising (y ∷ xs)

abbrev pub all_losses : List Copy → List Loss
all_losses [] = []
all_losses (x ∷ xs) = x.of.losses ++ all_losses xs

abbrev pub in_parentheses : Copy → tree.Exp Span
in_parentheses c = tree.paren c.read c.of.tree

-- ---- what is put into a text with these items, where the initializer has this span

module _ (text : List ℕ) (items : List Item) (init : Span) where
  -- the initializer's bytes with the copy's own changes
  abbrev pub copied_text : Copy → List ℕ
  copied_text c = with_changes text init c.of.changes

  -- a read becomes this tree, by this text
  abbrev pub put : Copy → tree.Exp Span → List ℕ → Rewritten (tree.Exp Span)
  put c e bytes = record {
    tree = e;
    changes = change c.read (spaced items c.read (toks e) bytes) ∷ [];
    respelled = c.of.respelled;
    losses = [];
  }

  -- the copy, in parentheses where its form isn't what the node around asks for (JLS 15.8.5)
  abbrev pub Becomes : Asks → Copy → Rewritten (tree.Exp Span) → Type 0
  Becomes k c o = (Takes k c.of.tree × (o ≡ put c c.of.tree (copied_text c)))
      ⊎ ((Takes k c.of.tree → ⊥) × (o ≡ put c (in_parentheses c)
      (codes "(" ++ copied_text c ++ codes ")")))

module _ (p : Program Span) (file at : ℕ) (x : Asked p file at) (type : Ty) where
  abbrev pub t : Declared p file x.key
  t = x.declared

  abbrev pub choices : Region Span → Choosing Span
  choices R = choosing begins p.rows R (λ (c : Context). p.super_at c.member)

  abbrev pub left_out : Region Span
  left_out = without p.rows x.key type

  -- it is the list from the declaration on
  abbrev pub IsHeld : (n : ℕ) → Context → statement.Stmts Span → Type 0
  IsHeld n c statement.end = ⊥
  IsHeld n c (statement.more s ss) = (n ≡ (element t).at.next) × (c ≡ (element t).at.context)
      × (s ≡ (element t).stmt) × (ss ≡ (element t).rest)

  -- ---- copies

  abbrev pub IsCopyAt : Naming t → Copy → Type 0
  IsCopyAt n c = (exp_mark n.at ≡ c.read)
      × TransformsExp itself (choices (in_copy p.rows x.key type (known_at t n))) nowhere
      (at_init t).context value (at_init t).base t.init c.of

  -- one for each read, in text order
  pub record AreCopies (cs : List Copy) : Type 0 where
    pub each : (i : ℕ) (c : Copy) → slice_get cs i ≡ Some c
        → (n : Naming t) × IsRead t n × IsCopyAt n c
    pub all : (n : Naming t) → IsRead t n
        → Contains (map (λ (c : Copy). c.read) cs) (exp_mark n.at)
    pub rise : AreRising cs

  module _ (text : List ℕ) (items : List Item) (cs : List Copy) where
    -- it is a read of the local, of which something is asked as of a value
    abbrev pub IsReadAt : Asks → Context → tree.Exp Span → Naming t → Type 0
    IsReadAt k c e n =
        IsRead t n × (least : ℕ) × (k ≡ level least) × (c ≡ known_at t n) × (e ≡ n.at)

    abbrev pub Reads : Asks → Context → tree.Exp Span → Rewritten (tree.Exp Span) → Type 0
    Reads k c e o = (n : Naming t) × IsReadAt k c e n
        × (copy : Copy) × Contains cs copy × (exp_mark n.at ≡ copy.read)
        × Becomes text items (exp_mark t.init) k copy o

    -- where none is, all stays as it is
    abbrev pub IsNoRead : Asks → Context → tree.Exp Span → Type 0
    IsNoRead k c e = (n : Naming t) → IsReadAt k c e n → ⊥

    abbrev pub read_spot : Spots Span
    read_spot = record {
      part = λ k c r base e o. Reads k c e o;
      part_stays = λ k c r base e. IsNoRead k c e;
      list = λ n c base xs o. ⊥;
      list_stays = λ n c base xs. Unit {0};
      members = λ base of xs o. ⊥;
      members_stay = λ base of xs. Unit {0};
      whole = λ base outer d o. ⊥;
      whole_stays = λ base outer d. Unit {0};
      this_stays = Unit {0};
    }

    -- ---- the declaration

    -- The declaration is gone, with the span, and the statements behind it become this.
    pub record Goes (gone : Span) (n : ℕ) (c : Context) (base : ℕ) (s : statement.Stmt Span)
        (ss : statement.Stmts Span) (o : Rewritten (statement.Stmts Span)) : Type 0 where
      pub rest : Rewritten (statement.Stmts Span)
      pub rest_is : TransformsList itself (choices left_out) (spotted read_spot) (n + locals_in s)
          (after n c s) base ss rest
      pub is : o ≡ record {
        tree = rest.tree;
        changes = change gone [] ∷ rest.changes;
        respelled = rest.respelled;
        losses = rest.losses;
      }

    abbrev pub Inlines : (gone : Span) → (n : ℕ) → Context → (base : ℕ) → statement.Stmts Span
        → Rewritten (statement.Stmts Span) → Type 0
    Inlines gone n c base statement.end o = ⊥
    Inlines gone n c base (statement.more s ss) o =
        IsHeld n c (statement.more s ss) × Goes gone n c base s ss o

    abbrev pub list_spot : (gone : Span) → Spots Span
    list_spot gone = record {
      part = λ k c r base e o. ⊥;
      part_stays = λ k c r base e. Unit {0};
      list = λ n c base xs o. Inlines gone n c base xs o;
      list_stays = λ n c base xs. IsHeld n c xs → ⊥;
      members = λ base of ys o. ⊥;
      members_stay = λ base of ys. Unit {0};
      whole = λ base outer d o. ⊥;
      whole_stays = λ base outer d. Unit {0};
      this_stays = Unit {0};
    }

    abbrev pub spots_if : Bool → (gone : Span) → Spotted Span
    spots_if true gone = spotted (list_spot gone)
    spots_if false gone = nowhere

    abbrev pub spots_of : (gone : Span) → ℕ → Spotted Span
    spots_of gone n = spots_if (nat_eq n file) gone

    -- the tokens of a file may stand where they end; what ends a copy where the read ended; and
    -- behind what goes what stands in front of it
    abbrev pub EndsCopy : ℕ → TokenKind → Type 0
    EndsCopy byte k = (c : Copy) × Contains cs c × (byte ≡ c.read.to)
        × ((last_kind (toks c.of.tree) ≡ Some k)
        ⊎ (last_kind (toks (in_parentheses c)) ≡ Some k))

    abbrev pub Fronted : (gone : Span) → ℕ → Fronts
    Fronted gone n byte k = EndsToken p n byte k ⊎ ((n ≡ file)
        × (EndsCopy byte k ⊎ ((byte ≡ gone.to) × EndsToken p n gone.from k)))

module _ (p : Program Span) (file at : ℕ) where
  -- what is inlined where nothing refuses: the local, its initializer's type, the file's text with
  -- its items, the copies, and the span that goes
  pub record Found : Type 0 where
    pub asked : Asked p file at
    pub let_go : IsLetGo p file at asked
    pub type : Ty
    pub typed : HasType p.rows (at_init asked.declared).context asked.declared.init type
    pub text : List ℕ
    pub items : List Item
    pub is_text : HasText p file text
    pub lexes : Lexes text items
    pub copies : List Copy
    pub are_copies : AreCopies p file at asked type copies
    pub gone : Span
    pub is_gone : IsRemoval text (stmt_mark (element asked.declared).stmt) gone

  -- the references of the copies, at the places of those that they come from
  abbrev pub lost_copies : Found → List Lost
  lost_copies f = map (λ (l : Loss). record { origin = copied; file = file; loss = l })
      (all_losses f.copies)

  -- the initializer's sites may not come behind those between the declaration and the read
  abbrev pub CrossesAt : (x : Asked p file at) → Naming x.declared → DepKind
      → (first second : SiteAt) → Type 0
  CrossesAt x n = Crossed p file x.declared.body (λ X. sites_of (exp_way X x.declared.init))
      (λ X. between X (bar x.declared n) n.way)

  -- 18: of the first read, in text order, at which they may not
  abbrev pub Crosses : Asked p file at → DepKind → (first second : SiteAt) → Type 0
  Crosses x kind a b = (n : Naming x.declared) × IsRead x.declared n × CrossesAt x n kind a b
      × ((o : Naming x.declared) → IsRead x.declared o
      → first_byte x.declared o < first_byte x.declared n
      → (other : DepKind) (c d : SiteAt) → CrossesAt x o other c d → ⊥)

  abbrev pub inline_local : Refactoring
  inline_local = record {
    Refuses = RefusesInline p file at;
    Found = Found;
    transform = λ (f : Found). record {
      region = left_out p file at f.asked f.type;
      spots = spots_of p file at f.asked f.type f.text f.items f.copies f.gone;
      fronts = Fronted p file at f.asked f.type f.text f.items f.copies f.gone;
      AlsoLost = λ lost. lost ≡ lost_copies f;
      Crosses = Crosses f.asked;
    };
  }
