-- What extract method makes of a program: a call in the place of a piece, which is a spot of the
-- member, and the new method behind that member, with the piece as its body.
use Rattle.std.specs.Prelude.{◌≡◌, ◌⊎◌, ℕ, ◌+◌, length, nat_eq, Bool, true, false, List, [], ◌∷◌, ◌++◌, map, Option, Some, None, codes}
use Rattle.jr_text.specs.declared.spans.Span.{Span}
use Rattle.jr_lex.specs.declared.items.Item.{Item}
use Rattle.jr_lex.specs.declared.items.TokenKind.TheVariants.{Mark}
use Rattle.jr_lex.specs.declared.items.Symbol.TheVariants.{Semicolon, CloseParen}
use Rattle.jr_lex.specs.Lexes.{Lexes}
use Rattle.jr_ast.specs.Tree as tree
use Rattle.jr_ast.specs.StatementTree as statement
use Rattle.jr_ast.specs.MemberTree as syntax
use Rattle.jr_ast.specs.Marks.{member_mark}
use Rattle.jr_grammar.specs.Layout.{itself}
use Rattle.jr_grammar.specs.Spelling.{toks}
use Rattle.jr_print.specs.ExpressionText.{printed_type}
use Rattle.jr_layout.specs.Layouts.{IsGap}
use Rattle.jr_table.specs.Keys.{ClassKey, MethodKey, Ty, void}
use Rattle.jr_table.specs.Decls.{MemberKey, method, LocalKey, method_decl}
use Rattle.jr_table.specs.Rows.{Row}
use Rattle.jr_table.specs.DeclaredItems.{DeclaredItem, declarations_of}
use Rattle.jr_table.specs.HeadRules.{plain as no_locals}
use Rattle.jr_table.specs.Errors.{member_part}
use Rattle.jr_table.specs.Binding.{value}
use Rattle.jr_table.specs.Scope.{Scope, ScopeLocal}
use Rattle.jr_table.specs.Context.{Context}
use Rattle.jr_table.specs.Entries.{class_of_member}
use Rattle.jr_table.specs.Lookup.{FindsMethodNamed}
use Rattle.jr_spell.specs.declared.references.RefForm.TheVariants as ref
use Rattle.jr_bind.specs.Programs.{Program, units_of}
use Rattle.jr_rewrite.specs.Respellings.{Loss, Choice, front_of, front_text, Change}
use Rattle.jr_rewrite.specs.Rewritten.{Rewritten, plain, change, new_word, count_of, losses_of, operand_to, target_of}
use Rattle.jr_rewrite.specs.Spots.{Asks, level, Spots, Spotted, nowhere, spotted}
use Rattle.jr_rewrite.specs.Rewrites.{
  Choosing,
  RewritesType,
  TransformsExp,
  TransformsStmts,
  TransformsList,
  TransformsOne,
  TransformsMembers,
}
use Rattle.jr_rewrite.specs.Woven.{Fronts, with_changes}
use Rattle.jr_images.specs.Regions.{Region}
use Rattle.jr_images.specs.Spelling.{TakenChoice, choosing, reference}
use Rattle.jr_pieces.specs.Standings.{Standing}
use Rattle.jr_plan.specs.Transforms.{Lost, copied, made, Transform}
use Rattle.jr_moved_texts.specs.Spaces.{spaced}
use Rattle.jr_bodies.specs.Bodies.{begins}
use Rattle.jr_bodies.specs.Selecting.{at_value}
use Rattle.jr_local.specs.Texts.{HasText, EndsToken}
use Rattle.jr_local.specs.Extracted.{WritesType}
use Rattle.jr_member_parts.specs.Heads.{MethodTree, method_of, head_text, marked_words}
use Rattle.jr_member_parts.specs.MadeCalls.{Made}
use Rattle.jr_member_parts.specs.HeldLists.{behind_all}
use Rattle.jr_extract_method.specs.Selecting.{
  Statements,
  at_first,
  moved,
  rest,
  Piece,
  of_statements,
  of_value,
  body_of,
  has_body,
  standing,
  context_at,
  count_inside,
  Outside,
  number_of,
}
use Rattle.jr_extract_method.specs.Results.{Returned, nothing, outer_local, inner_local, own_value}
use Rattle.jr_extract_method.specs.Regions.{
  method_words,
  method_row,
  put_behind_number,
  number_around,
  position,
  or_number,
  inner_number,
  local_by,
  renumbered,
  in_head,
}

-- the result's type, and the number of the local that stays though the piece declares it
abbrev pub result_type : Returned → Ty
result_type nothing = void
result_type (outer_local o) = o.type
result_type (inner_local i) = i.means
result_type (own_value t) = t

abbrev pub stays_around : Returned → Option ℕ
stays_around (inner_local i) = Some i.number
stays_around _ = None

-- ---- lists of statements

abbrev pub joined_lists : statement.Stmts Span → statement.Stmts Span → statement.Stmts Span
joined_lists statement.end b = b
joined_lists (statement.more s a) b = statement.more s (joined_lists a b)

abbrev pub arguments : Span → List Outside → tree.Exps Span
arguments m [] = tree.end
arguments m (o ∷ os) = tree.more (tree.name m (new_word m o.local.name)) (arguments m os)

abbrev pub more_names : List Outside → List ℕ
more_names [] = []
more_names (o ∷ os) = codes ", " ++ (o.local.name ++ more_names os)

abbrev pub names_text : List Outside → List ℕ
names_text [] = []
names_text (o ∷ os) = o.local.name ++ more_names os

-- The piece, of which nothing refuses; the locals that are declared outside and named in it; what it
-- gives back; and the name.
module _ (p : Program Span) (file from to : ℕ) (name : List ℕ) (x : Piece p file from to)
    (outer : List Outside) (returned : Returned) where
  abbrev pub old : MemberKey
  old = (body_of x).key

  abbrev pub new : MethodKey
  new = record {
    class = class_of_member old;
    name = name;
    params = map (λ (o : Outside). o.type) outer;
  }

  -- a static method where there is no object
  abbrev pub is_static : Bool
  is_static = (context_at x).is_static

  abbrev pub rows : List Row
  rows = put_behind_number (has_body x).member.row
      (method_row new is_static (result_type returned)) p.rows

  abbrev pub span : Span
  span = record { from = from; to = to }

  -- ---- regions

  abbrev pub around_local : LocalKey → Option LocalKey
  around_local = local_by old old
      (number_around (standing x).next (count_inside x) (stays_around returned))

  abbrev pub piece_local : LocalKey → Option LocalKey
  piece_local = local_by old (method new) (λ n. or_number (position (map number_of outer) n)
      (inner_number (length outer) (standing x).next (count_inside x) n))

  abbrev pub around : Region Span
  around = renumbered p.rows rows around_local

  abbrev pub in_piece : Region Span
  in_piece = renumbered p.rows rows piece_local

  abbrev pub head : Region Span
  head = in_head rows (class_of_member old) is_static

  abbrev pub choices : Region Span → Choosing Span
  choices R = choosing begins p.rows R (λ (c : Context). p.super_at c.member)

  -- ---- the call

  -- where it stands: a local that it declares is in scope in its own initializer (JLS 6.3)
  abbrev pub declared_before : Returned → List ScopeLocal
  declared_before (inner_local i) = (record {
    name = i.word.text;
    key = record { member = old; number = (standing x).next };
  }) ∷ []
  declared_before _ = []

  abbrev pub at_call : Scope
  at_call = record {
    class = class_of_member old;
    is_static = is_static;
    locals = (around.seen.scope (context_at x)).locals ++ declared_before returned;
  }

  -- a made reference, asked by its simple name (JLS 15.12.1); its place is the step's
  abbrev pub CallChoice : Choice → Type 0
  CallChoice h = TakenChoice begins p.rows around at_call from name name (method_decl new)
      (method_decl new) (reference ref.MethodSimple name None new.params)
      (FindsMethodNamed rows at_call name new.params) h

  abbrev pub made_call : Choice → Made (tree.Exp Span)
  made_call h = record {
    tree = tree.call span (target_of (operand_to span (front_of h) None)) (new_word span name)
        (arguments span outer);
    text = front_text (front_of h) ++ (name ++ (codes "(" ++ (names_text outer ++ codes ")")));
    respelled = count_of h;
    losses = losses_of h;
  }

  -- ---- the new method's head

  -- a result's type as it is written; none is `void`
  abbrev pub WritesResult : Ty → Made (Option (tree.TypeName Span)) → Type 0
  WritesResult void o = o ≡ record { tree = None; text = []; respelled = 0; losses = [] }
  WritesResult t o = (y : Rewritten (tree.TypeName Span))
      × WritesType p.rows head (no_locals old is_static) from span t y
      × (o ≡ record {
        tree = Some y.tree;
        text = printed_type y.tree;
        respelled = y.respelled;
        losses = y.losses;
      })

  -- each parameter has its local's type, made anew, and no `final`
  abbrev pub WritesParams : List Outside → Rewritten (List (syntax.Param Span)) → Type 0
  WritesParams [] o = o ≡ plain []
  WritesParams (l ∷ ls) o = (t : Rewritten (tree.TypeName Span))
      × (ps : Rewritten (List (syntax.Param Span)))
      × WritesType p.rows head (no_locals old is_static) from span l.type t × WritesParams ls ps
      × (o ≡ record {
        tree = (record {
          mark = span;
          is_final = false;
          type = t.tree;
          name = new_word span l.local.name;
        }) ∷ ps.tree;
        changes = [];
        respelled = t.respelled + ps.respelled;
        losses = t.losses ++ ps.losses;
      })

  -- ---- the piece, which moves

  abbrev pub Moves : Piece p file from to → Rewritten (statement.Stmts Span) → Type 0
  Moves (of_statements y) o = TransformsStmts itself (choices in_piece) nowhere (at_first y).next
      (at_first y).context (at_first y).base (moved y) o
  Moves (of_value y) o = (q : Rewritten (tree.Exp Span))
      × TransformsExp itself (choices in_piece) nowhere (at_value y).context value (at_value y).base
      y.value q
      × (o ≡ record {
        tree = statement.more (statement.return span (Some q.tree)) statement.end;
        changes = q.changes;
        respelled = q.respelled;
        losses = q.losses;
      })

  -- behind it the result is returned
  abbrev pub returning : List ℕ → statement.Stmts Span
  returning local =
      statement.more (statement.return span (Some (tree.name span (new_word span local))))
      statement.end

  abbrev pub new_body : Returned → statement.Stmts Span → statement.Stmts Span
  new_body (outer_local o) b = joined_lists b (returning o.local.name)
  new_body (inner_local i) b = joined_lists b (returning i.word.text)
  new_body _ b = b

  abbrev pub returns_text : List ℕ → List ℕ → List ℕ
  returns_text local text = codes "{ " ++ (text ++ (codes " return " ++ (local ++ codes "; }")))

  -- of the piece's bytes with their own changes
  abbrev pub body_text : Returned → List ℕ → List ℕ
  body_text nothing text = codes "{ " ++ (text ++ codes " }")
  body_text (outer_local o) text = returns_text o.local.name text
  body_text (inner_local i) text = returns_text i.word.text text
  body_text (own_value t) text = codes "{ return " ++ (text ++ codes "; }")

  -- ---- what stands in its place

  -- the written type of a local that the piece declares, which is copied
  abbrev pub CopiesType : Returned → Rewritten (tree.TypeName Span) → Type 0
  CopiesType (inner_local i) o =
      RewritesType itself (choices around) i.context i.base i.type o
  CopiesType _ o = o ≡ plain (tree.int span)

  abbrev pub call_statement : Returned → tree.TypeName Span → tree.Exp Span
      → statement.Stmt Span
  call_statement (outer_local o) t e = statement.eval span
      (tree.assign span (tree.name span (new_word span o.local.name)) e)
  call_statement (inner_local i) t e =
      statement.local span i.is_final t (new_word span i.word.text) e
  call_statement _ t e = statement.eval span e

  abbrev pub final_text : Bool → List ℕ
  final_text true = codes "final "
  final_text false = []

  abbrev pub statement_text : Returned → tree.TypeName Span → List ℕ → List ℕ
  statement_text (outer_local o) t call = o.local.name ++ (codes " = " ++ (call ++ codes ";"))
  statement_text (inner_local i) t call = final_text i.is_final ++ (printed_type t
      ++ (codes " " ++ (i.word.text ++ (codes " = " ++ (call ++ codes ";")))))
  statement_text _ t call = call ++ codes ";"

  -- What comes of the piece: the call, the new method's parts, what moves.
  pub record Parts : Type 0 where
    pub choice : Choice
    pub chosen : CallChoice choice
    pub result : Made (Option (tree.TypeName Span))
    pub writes_result : WritesResult (result_type returned) result
    pub params : Rewritten (List (syntax.Param Span))
    pub writes_params : WritesParams outer params
    pub piece : Rewritten (statement.Stmts Span)
    pub moves : Moves x piece
    pub copy : Rewritten (tree.TypeName Span)
    pub copies : CopiesType returned copy

  module _ (y : Parts) (text : List ℕ) (items : List Item) (gap : List ℕ) where
    abbrev pub call : Made (tree.Exp Span)
    call = made_call y.choice

    abbrev pub new_method : MethodTree
    new_method = record {
      mark = span;
      modifiers = marked_words span (method_words is_static);
      result = y.result.tree;
      word = new_word span name;
      params = y.params.tree;
      body = new_body returned y.piece.tree;
    }

    abbrev pub method_text : List ℕ
    method_text = head_text new_method
        ++ (codes " " ++ body_text returned (with_changes text span y.piece.changes))

    -- ---- spots

    -- the statements from the piece on
    abbrev pub IsHeld : Piece p file from to → (n : ℕ) → Context → statement.Stmts Span → Type 0
    IsHeld (of_statements z) n c b = (n ≡ (at_first z).next) × (c ≡ (at_first z).context)
        × (b ≡ statement.more z.first z.others)
    IsHeld (of_value z) n c b = ⊥

    abbrev pub behind_it : Statements p file from to → Standing
    behind_it z = behind_all begins (moved z) (at_first z)

    abbrev pub Calls : Piece p file from to → (n : ℕ) → Context → (base : ℕ)
        → statement.Stmts Span → Rewritten (statement.Stmts Span) → Type 0
    Calls (of_value z) n c base b o = ⊥
    Calls (of_statements z) n c base b o = IsHeld (of_statements z) n c b
        × (q : Rewritten (statement.Stmts Span))
        × TransformsList itself (choices around) nowhere (behind_it z).next (behind_it z).context
        base (rest z) q
        × (o ≡ record {
          tree = statement.more (call_statement returned y.copy.tree call.tree) q.tree;
          changes = change span (statement_text returned y.copy.tree call.text) ∷ q.changes;
          respelled = call.respelled + (y.copy.respelled + (y.piece.respelled + q.respelled));
          losses = y.piece.losses ++ q.losses;
        })

    -- the expression, as a value
    abbrev pub IsValue : Piece p file from to → Asks → Context → tree.Exp Span → Type 0
    IsValue (of_statements z) k c e = ⊥
    IsValue (of_value z) k c e = (least : ℕ) × (k ≡ level least) × (c ≡ (at_value z).context)
        × (e ≡ z.value)

    abbrev pub called_value : Rewritten (tree.Exp Span)
    called_value = record {
      tree = call.tree;
      changes = change span (spaced items span (toks call.tree) call.text) ∷ [];
      respelled = call.respelled + y.piece.respelled;
      losses = y.piece.losses;
    }

    abbrev pub in_member : Spots Span
    in_member = record {
      part = λ k c r base e o. IsValue x k c e × (o ≡ called_value);
      part_stays = λ k c r base e. IsValue x k c e → ⊥;
      list = λ n c base b o. Calls x n c base b o;
      list_stays = λ n c base b. IsHeld x n c b → ⊥;
      members = λ base of ys o. ⊥;
      members_stay = λ base of ys. Unit {0};
      whole = λ base outer d o. ⊥;
      whole_stays = λ base outer d. Unit {0};
      this_stays = Unit {0};
    }

    -- ---- the member, and the new one behind it

    abbrev pub holder : syntax.Member Span → Type 0
    holder m = (has_body x).member.part ≡ member_part m

    -- the members from the one on that holds the piece
    abbrev pub IsHolder : ClassKey → syntax.Members Span → Type 0
    IsHolder of syntax.end = ⊥
    IsHolder of (syntax.more m ms) = (of ≡ class_of_member old) × holder m

    abbrev pub put_method : (end : ℕ) → Change
    put_method end = change (record { from = end; to = end }) (gap ++ method_text)

    module _ (declarations : List DeclaredItem) where
      abbrev pub Extends : (base : ℕ) → ClassKey → syntax.Members Span
          → Rewritten (syntax.Members Span) → Type 0
      Extends base of syntax.end o = ⊥
      Extends base of (syntax.more m ms) o = IsHolder of (syntax.more m ms)
          × (z : Rewritten (syntax.Member Span)) × (q : Rewritten (syntax.Members Span))
          × TransformsOne itself (choices around) (spotted in_member) declarations base of m z
          × TransformsMembers itself (choices around) nowhere declarations base of ms q
          × (o ≡ record {
            tree = syntax.more z.tree (syntax.more (method_of new_method) q.tree);
            changes = z.changes ++ (put_method (member_mark m).to ∷ q.changes);
            respelled = z.respelled + (y.result.respelled + (y.params.respelled + q.respelled));
            losses = z.losses ++ q.losses;
          })

      abbrev pub spots : Spots Span
      spots = record {
        part = λ k c r base e o. ⊥;
        part_stays = λ k c r base e. Unit {0};
        list = λ n c base b o. ⊥;
        list_stays = λ n c base b. Unit {0};
        members = λ base of ms o. Extends base of ms o;
        members_stay = λ base of ms. IsHolder of ms → ⊥;
        whole = λ base outer d o. ⊥;
        whole_stays = λ base outer d. Unit {0};
        this_stays = Unit {0};
      }

      abbrev pub spots_if : Bool → Spotted Span
      spots_if true = spotted spots
      spots_if false = nowhere

  -- what comes where: the file's text, the parts, and what stands in front of the new method
  pub record Carried : Type 0 where
    pub text : List ℕ
    pub items : List Item
    pub is_text : HasText p file text
    pub lexes : Lexes text items
    pub parts : Parts
    pub gap : List ℕ
    pub holder_at : Span
    pub holds : (m : syntax.Member Span) → (has_body x).member.part ≡ member_part m
        → member_mark m ≡ holder_at
    pub is_gap : IsGap text holder_at.from gap

  module _ (f : Carried) where
    abbrev pub spots_of : ℕ → Spotted Span
    spots_of n = spots_if f.parts f.text f.items f.gap (declarations_of begins (units_of p))
        (nat_eq n file)

    -- copied types keep their places, what is made has the step's
    abbrev pub lost_copies : List Lost
    lost_copies = map (λ (l : Loss). record { origin = copied; file = file; loss = l })
        f.parts.copy.losses

    abbrev pub lost_made : List Lost
    lost_made = map (λ (l : Loss). record { origin = made; file = file; loss = l })
        ((made_call f.parts.choice).losses ++ (f.parts.result.losses ++ f.parts.params.losses))

    -- The tokens of a file may stand where they end; the piece's end is that of a call.
    abbrev pub Fronted : ℕ → Fronts
    Fronted n at k = EndsToken p n at k
        ⊎ ((n ≡ file) × (at ≡ to) × ((k ≡ Mark Semicolon) ⊎ (k ≡ Mark CloseParen)))

    -- never 18: the piece is evaluated where it was
    abbrev pub extracts : Transform
    extracts = record {
      region = around;
      spots = spots_of;
      fronts = Fronted;
      AlsoLost = λ lost. lost ≡ lost_copies ++ lost_made;
      Crosses = λ kind first second. ⊥;
    }
