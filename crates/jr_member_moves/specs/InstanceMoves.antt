-- What a program becomes where a method's body goes to a static method of another class: a spot in
-- the list of members from the method on, which calls that one, and one at the class to which the
-- body comes.
use Rattle.std.specs.Prelude.{◌≡◌, ◌⊎◌, ℕ, ◌+◌, ◌-◌, nat_eq, nat_lt, Bool, true, false, ◌&&◌, ◌||◌, List, [], ◌∷◌, ◌++◌, map, filter, length, Option, None, codes, if◌then◌else◌}
use Rattle.jr_text.specs.declared.spans.Span.{Span}
use Rattle.jr_lex.specs.declared.items.Item.{Item}
use Rattle.jr_lex.specs.declared.items.TokenKind.TheVariants.{Mark}
use Rattle.jr_lex.specs.declared.items.Symbol.TheVariants.{CloseBrace}
use Rattle.jr_lex.specs.Lexes.{Lexes}
use Rattle.jr_ast.specs.declared.operators.ModWord.{ModWord}
use Rattle.jr_ast.specs.declared.operators.ModWord.TheVariants as modifier
use Rattle.jr_ast.specs.Tree as tree
use Rattle.jr_ast.specs.StatementTree as statement
use Rattle.jr_ast.specs.MemberTree as syntax
use Rattle.jr_grammar.specs.Layout.{itself}
use Rattle.jr_layout.specs.Layouts.{IsClassEnd}
use Rattle.jr_table.specs.Keys.{ClassKey, MethodKey, class}
use Rattle.jr_table.specs.Decls.{method, method_decl}
use Rattle.jr_table.specs.Rows.{Row}
use Rattle.jr_table.specs.DeclaredItems.{DeclaredItem, declarations_of, class_key}
use Rattle.jr_table.specs.HeadRules.{plain as no_locals, with_parameters}
use Rattle.jr_table.specs.Context.{Context, scope_of}
use Rattle.jr_bind.specs.Programs.{Program, units_of}
use Rattle.jr_rewrite.specs.Respellings.{Loss, Change}
use Rattle.jr_rewrite.specs.Rewritten.{Rewritten, change, new_word}
use Rattle.jr_rewrite.specs.Spots.{Spotted, nowhere}
use Rattle.jr_rewrite.specs.Rewrites.{
  Choosing,
  declared_by,
  DeclaredOut,
  RewritesResult,
  RewritesParams,
  RewritesHead,
  TransformsList,
  TransformsMembers,
}
use Rattle.jr_rewrite.specs.Woven.{Fronts, with_changes}
use Rattle.jr_images.specs.Regions.{Region}
use Rattle.jr_images.specs.Spelling.{choosing}
use Rattle.jr_plan.specs.Transforms.{Lost, copied, made, Transform}
use Rattle.jr_local.specs.Bodies.{begins}
use Rattle.jr_local.specs.Scopes.{same_images, plain_region}
use Rattle.jr_local.specs.Texts.{HasText, EndsToken}
use Rattle.jr_local.specs.Extracted.{WritesType}
use Rattle.jr_member_parts.specs.ClassRows.{put_behind, is_in_body}
use Rattle.jr_member_parts.specs.Heads.{MethodTree, method_of, head_text, marked_words}
use Rattle.jr_member_parts.specs.MadeCalls.{Made}
use Rattle.jr_member_parts.specs.TwoPlaces.{TwoPlaces, spots_if}
use Rattle.jr_member_moves.specs.Places.{seen_in}
use Rattle.jr_member_moves.specs.Selecting.{Declared, class_of}
use Rattle.jr_member_moves.specs.Texts.{IsFirstBrace, at_byte}
use Rattle.jr_member_moves.specs.Moves.{IsWritten, class_mark, with_last}
use Rattle.jr_member_parts.specs.Receivers.{receivers_in, depth_of}
use Rattle.jr_member_moves.specs.StaticBodies.{in_body}
use Rattle.jr_member_moves.specs.Delegates.{Delegates}

-- ---- the new method

-- its key: the old class is the first parameter's type
abbrev pub static_key : MethodKey → ClassKey → MethodKey
static_key old to = record {
  class = to;
  name = old.name;
  params = class old.class ∷ old.params;
}

-- the word of access, unless it is `private`
abbrev pub is_kept_access : ModWord → Bool
is_kept_access modifier.Public = true
is_kept_access modifier.Protected = true
is_kept_access _ = false

abbrev pub static_words : List ModWord → List ModWord
static_words ws = filter is_kept_access ws ++ (modifier.Static ∷ [])

abbrev pub static_row : MethodKey → Row → Row
static_row new old = record {
  decl = method_decl new;
  modifiers = static_words old.modifiers;
  type = old.type;
  parent = None;
  has_init = false;
}

-- the program, the method that the step finds, its key and parts, the class to which its body goes,
-- and the name of the parameter
module _ (p : Program Span) (file at : ℕ) (x : Declared p file at) (old : MethodKey)
    (parts : MethodTree) (to : ClassKey) (name : List ℕ) where
  abbrev pub new : MethodKey
  new = static_key old to

  abbrev pub rows : List Row
  rows = put_behind (is_in_body to) (static_row new x.row) p.rows

  -- outside of the body all stays; the new method's head is seen from its class, without locals
  abbrev pub around : Region Span
  around = plain_region (seen_in p.rows (same_images rows) (λ (c : Context). (scope_of c).class))

  abbrev pub in_head : Region Span
  in_head = plain_region (record {
    images = same_images rows;
    scope = λ c. record { class = to; is_static = true; locals = [] };
    local_to = λ c k. None;
    HasClass = λ c k b. ⊥;
  })

  abbrev pub there : Region Span
  there = in_body p old new name rows

  abbrev pub choices : Region Span → Choosing Span
  choices R = choosing begins p.rows R (λ (c : Context). p.super_at c.member)

  abbrev pub in_old_head : Context
  in_old_head = no_locals (method old) false

  -- what stands in the old body from its first brace on, in which its parameters are seen
  abbrev pub in_old_body : Context
  in_old_body = with_parameters (method old) false parts.params

  -- What comes of the method, of a text with these items: the types of the new head, which are
  -- copied; the parameter's type, which is made; the body, which moves; and the call in its place.
  pub record Moved (items : List Item) : Type 0 where
    pub brace : ℕ
    pub opens : IsFirstBrace items parts.mark brace
    pub result : Rewritten (Option (tree.TypeName Span))
    pub copies_result : RewritesResult itself (choices in_head) (method old)
        (begins parts.mark x.member.base) parts.result result
    pub params : Rewritten (List (syntax.Param Span))
    pub copies_params : RewritesParams itself (choices in_head) (method old) 0
        (begins parts.mark x.member.base) parts.params params
    pub receiver : Rewritten (tree.TypeName Span)
    pub writes : WritesType p.rows in_head in_old_head at parts.mark (class old.class) receiver
    pub body : Rewritten (statement.Stmts Span)
    pub moves : TransformsList itself (choices there)
        (receivers_in p there name old.class (depth_of p)) (length parts.params) in_old_body
        (begins parts.mark x.member.base) parts.body body
    pub call : Made (statement.Stmts Span)
    pub delegates : Delegates p.rows around new in_old_body at parts.mark parts.result
        parts.params call

  module _ {items : List Item} (m : Moved items) where
    abbrev pub body_span : Span
    body_span = record { from = m.brace; to = parts.mark.to }

    abbrev pub new_params : List (syntax.Param Span)
    new_params = (record {
      mark = parts.mark;
      is_final = false;
      type = m.receiver.tree;
      name = new_word parts.mark name;
    }) ∷ m.params.tree

    abbrev pub new_method : MethodTree
    new_method = record {
      mark = parts.mark;
      modifiers = marked_words parts.mark (static_words x.row.modifiers);
      result = m.result.tree;
      word = new_word parts.mark old.name;
      params = new_params;
      body = m.body.tree;
    }

    -- the head, a space, and the bytes of the body with its own changes
    abbrev pub method_text : (text : List ℕ) → List ℕ
    method_text text = head_text new_method ++ (codes " " ++ with_changes text body_span m.body.changes)

    -- ---- the spots

    -- these are the members from the method on, and the class to which its body comes
    abbrev pub IsHeld : ClassKey → syntax.Members Span → Type 0
    IsHeld of syntax.end = ⊥
    IsHeld of (syntax.more y ys) = (of ≡ class_of x) × (y ≡ x.declaration)

    abbrev pub IsNewClass : Option (List ℕ) → syntax.Class Span → Type 0
    IsNewClass outer (syntax.class k mods w t ms) = class_key begins outer w.text ≡ to

    module _ (declarations : List DeclaredItem) (put : Change) where
      -- the method's head stays, and its body is the call; references of the old body are kept
      abbrev pub Goes : (rest : Spotted Span) → (base : ℕ) → ClassKey → syntax.Members Span
          → Rewritten (syntax.Members Span) → Type 0
      Goes rest base of syntax.end o = ⊥
      Goes rest base of (syntax.more y ys) o = IsHeld of (syntax.more y ys)
          × (t : Rewritten (Option (tree.TypeName Span))) × (v : Rewritten (tree.Word Span))
          × (ps : Rewritten (List (syntax.Param Span))) × (q : Rewritten (syntax.Members Span))
          × RewritesResult itself (choices around) (method old) (begins parts.mark base)
          parts.result t
          × DeclaredOut itself (choices around) (declared_by (method old))
          (begins parts.mark base) parts.word v
          × RewritesParams itself (choices around) (method old) 0 (begins parts.mark base)
          parts.params ps
          × TransformsMembers itself (choices around) rest declarations base of ys q
          × (o ≡ record {
            tree = syntax.more (syntax.method parts.mark parts.modifiers t.tree v.tree ps.tree
                m.call.tree) q.tree;
            changes = t.changes ++ (v.changes ++ (ps.changes
                ++ (change body_span m.call.text ∷ q.changes)));
            respelled = t.respelled + (v.respelled + (ps.respelled
                + (m.call.respelled + (m.body.respelled + q.respelled))));
            losses = t.losses ++ (v.losses ++ (ps.losses ++ (m.body.losses ++ q.losses)));
          })

      -- the new method comes behind the class's others
      abbrev pub Comes : (inside : Spotted Span) → (base : ℕ) → Option (List ℕ)
          → syntax.Class Span → Rewritten (syntax.Class Span) → Type 0
      Comes inside base outer (syntax.class k mods w t ms) o =
          IsNewClass outer (syntax.class k mods w t ms)
          × (h : Rewritten (tree.Word Span × Option (tree.TypeName Span)))
          × (q : Rewritten (syntax.Members Span))
          × RewritesHead itself (choices around) outer base (syntax.class k mods w t ms) h
          × TransformsMembers itself (choices around) inside declarations (begins k base) to ms q
          × (o ≡ record {
            tree = syntax.class k mods h.tree.0 h.tree.1
                (with_last q.tree (method_of new_method));
            changes = h.changes ++ (q.changes ++ put ∷ []);
            respelled = h.respelled + (q.respelled
                + (m.result.respelled + (m.params.respelled + m.receiver.respelled)));
            losses = h.losses ++ q.losses;
          })

      abbrev pub places : TwoPlaces
      places = record {
        beside = nowhere;
        Part = λ c base e o. ⊥;
        PartStays = λ c e. Unit {0};
        IsHeld = IsHeld;
        Goes = Goes;
        IsNewClass = IsNewClass;
        Comes = Comes;
      }

  -- what comes where: the files' texts, what comes of the method, and what is put
  pub record Carried : Type 0 where
    pub text : List ℕ
    pub items : List Item
    pub is_text : HasText p file text
    pub lexes : Lexes text items
    pub written : IsWritten p to
    pub other_text : List ℕ
    pub is_other_text : HasText p written.class.file other_text
    pub moved : Moved items
    pub put : List ℕ
    pub is_put : IsClassEnd other_text ((class_mark written.declaration).to - 1)
        (method_text moved text) put

  module _ (f : Carried) where
    abbrev pub class_end : ℕ
    class_end = (class_mark f.written.declaration).to - 1

    abbrev pub put_change : Change
    put_change = change (at_byte class_end) f.put

    abbrev pub spots_of : ℕ → Spotted Span
    spots_of n = spots_if (places f.moved (declarations_of begins (units_of p)) put_change)
        (nat_eq n file) (nat_eq n f.written.class.file)

    -- the types that are copied keep their places, what is made has the step's
    abbrev pub lost_copies : List Loss → List Lost
    lost_copies ls = map (λ (l : Loss). record { origin = copied; file = file; loss = l }) ls

    abbrev pub lost_made : List Loss → List Lost
    lost_made ls = map (λ (l : Loss). record { origin = made; file = file; loss = l }) ls

    -- whether the call stands in front of the new method
    abbrev pub is_call_first : Bool
    is_call_first = nat_lt file f.written.class.file
        || (nat_eq file f.written.class.file && nat_lt f.moved.brace class_end)

    abbrev pub made_losses : List Loss
    made_losses = if is_call_first then f.moved.call.losses ++ f.moved.receiver.losses
        else f.moved.receiver.losses ++ f.moved.call.losses

    abbrev pub also_lost : List Lost
    also_lost = lost_copies (f.moved.result.losses ++ f.moved.params.losses)
        ++ lost_made made_losses

    -- The tokens of a file may stand where they end; in front of the class's last brace what ends the
    -- new method.
    abbrev pub Fronted : ℕ → Fronts
    Fronted n byte k = EndsToken p n byte k
        ⊎ ((n ≡ f.written.class.file) × (byte ≡ class_end) × (k ≡ Mark CloseBrace))

    -- never 18: nothing that the method does changes places
    abbrev pub carries : Transform
    carries = record {
      region = around;
      spots = spots_of;
      fronts = Fronted;
      AlsoLost = λ lost. lost ≡ also_lost;
      Crosses = λ kind first second. ⊥;
    }
