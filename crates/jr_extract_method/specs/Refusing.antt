-- Why extract method is refused by itself (JLS 6.3, 8.4.2, 14.17).
use Rattle.std.specs.Prelude.{◌≡◌, ◌⊎◌, ℕ, ◌<◌, ◌≤◌, List, map, Some, codes, slice_get}
use Rattle.jr_text.specs.declared.spans.Span.{Span}
use Rattle.jr_text.specs.declared.spans.Place.{Place}
use Rattle.jr_lex.specs.declared.items.Item.{Item}
use Rattle.jr_lex.specs.Lexes.{Lexes}
use Rattle.jr_grammar.specs.Layout.{itself}
use Rattle.jr_table.specs.Keys.{ClassKey, MethodKey}
use Rattle.jr_table.specs.Decls.{method, Decl}
use Rattle.jr_table.specs.Entries.{class_of_member}
use Rattle.jr_table.specs.ExpressionRules.{IsObjectMethod}
use Rattle.jr_names.specs.Refusals.{Refusal, bad_target, too_many_sites, prelude_method, has_return, two_results, assigned, clash}
use Rattle.jr_bind.specs.Programs.{Program}
use Rattle.jr_code.specs.RunKeys.{RunKeys}
use Rattle.jr_cover.specs.Sites.{Site, writes}
use Rattle.jr_cover.specs.Ways.{sites_of}
use Rattle.jr_unused_locals.specs.Agreement.{InPiece}
use Rattle.jr_pieces.specs.Returns.{returns_in_list}
use Rattle.jr_bodies.specs.Selecting.{Selected}
use Rattle.jr_dependence_lines.specs.MemberLines.{HasTooManySites}
use Rattle.jr_local.specs.Texts.{HasText}
use Rattle.jr_member_parts.specs.InTheWay.{IsFirstInTheWay}
use Rattle.jr_extract_method.specs.Selecting.{
  Statements,
  at_first,
  moved,
  Piece,
  of_statements,
  of_value,
  body_of,
  has_body,
  local_of,
  body_way,
  Outside,
  AreOuter,
  Flow,
  IsResultOf,
}

module _ (p : Program Span) (file from to : ℕ) (name : List ℕ) where
  abbrev pub there : ℕ → Place
  there at = record { file = file; at = at }

  -- 5: neither statements nor an expression have the span
  abbrev pub LacksPiece : Refusal → Type 0
  LacksPiece r = (Piece p file from to → ⊥) × (r ≡ bad_target (there from) (codes "Statements"))

  -- 24: the member that holds it has more than 1,000 sites
  abbrev pub HasSites : Piece p file from to → (count : ℕ) → Type 0
  HasSites x count = (text : List ℕ) × (items : List Item) × HasText p file text
      × Lexes text items × HasTooManySites p.rows items (has_body x).member count

  abbrev pub HasManySites : Refusal → Type 0
  HasManySites r = (x : Piece p file from to) × (count : ℕ) × HasSites x count
      × (r ≡ too_many_sites (body_of x).key count)

  abbrev pub HasFewSites : Piece p file from to → Type 0
  HasFewSites x = (count : ℕ) → HasSites x count → ⊥

  -- 6: the name is that of one of Object's methods
  abbrev pub NamesObjectMethod : Refusal → Type 0
  NamesObjectMethod r = (x : Piece p file from to) × HasFewSites x × IsObjectMethod name
      × (r ≡ prelude_method name)

  -- 8: a statement of the piece returns, first this one
  abbrev pub FirstReturn : Statements p file from to → Span → Type 0
  FirstReturn x s =
      slice_get (returns_in_list itself (at_first x).base (moved x)) 0 ≡ Some s

  abbrev pub HasReturns : Refusal → Type 0
  HasReturns r = (x : Statements p file from to) × HasFewSites (of_statements x)
      × (IsObjectMethod name → ⊥) × (s : Span) × FirstReturn x s × (r ≡ has_return (there s.from))

  abbrev pub IsStraight : Statements p file from to → Type 0
  IsStraight x = (s : Span) → FirstReturn x s → ⊥

  -- 9: two locals or more are written in it and used behind, first these
  pub record HasTwo (x : Statements p file from to) (a b : ℕ) : Type 0 where
    pub first : IsResultOf (of_statements x) a
    pub second : IsResultOf (of_statements x) b
    pub in_order : a < b
    pub least : (n : ℕ) → IsResultOf (of_statements x) n → (n ≡ a) ⊎ (b ≤ n)

  abbrev pub HasTwoResults : Refusal → Type 0
  HasTwoResults r = (x : Statements p file from to) × HasFewSites (of_statements x)
      × (IsObjectMethod name → ⊥) × IsStraight x × (a b : ℕ) × HasTwo x a b
      × (r ≡ two_results (local_of (of_statements x) a) (local_of (of_statements x) b))

  -- 13: an expression writes a local that is used behind it, first by place there
  pub record WritesAt (x : Selected p file from to) (number at : ℕ) : Type 0 where
    pub result : IsResultOf (of_value x) number
    pub flow : Flow (of_value x)
    pub index : ℕ
    pub inside : InPiece flow.part.begin flow.part.part index
    pub site : Site RunKeys
    pub stands : slice_get (sites_of (body_way (of_value x) flow.never_null)) index ≡ Some site
    pub writes : site.what ≡ writes number
    pub place : site.at.at ≡ at

  abbrev pub IsAssigned : Refusal → Type 0
  IsAssigned r = (x : Selected p file from to) × HasFewSites (of_value x)
      × (IsObjectMethod name → ⊥) × (n at : ℕ) × WritesAt x n at
      × ((m other : ℕ) → WritesAt x m other → at ≤ other)
      × (r ≡ assigned (local_of (of_value x) n) (there at))

  -- none of these applies
  pub record IsGranted (x : Piece p file from to) : Type 0 where
    pub few : HasFewSites x
    pub named : IsObjectMethod name → ⊥
    pub straight : (y : Statements p file from to) → x ≡ of_statements y → IsStraight y
    pub one : (y : Statements p file from to) → x ≡ of_statements y
        → (a b : ℕ) → HasTwo y a b → ⊥
    pub unwritten : (y : Selected p file from to) → x ≡ of_value y
        → (n at : ℕ) → WritesAt y n at → ⊥

  -- ---- 14

  abbrev pub class_at : Piece p file from to → ClassKey
  class_at x = class_of_member (body_of x).key

  abbrev pub key_with : Piece p file from to → List Outside → MethodKey
  key_with x outer = record {
    class = class_at x;
    name = name;
    params = map (λ (o : Outside). o.type) outer;
  }

  -- the class declares the method, or a member type of its name
  abbrev pub Clashes : Refusal → Type 0
  Clashes r = (x : Piece p file from to) × IsGranted x
      × (outer : List Outside) × AreOuter x outer
      × (d : Decl) × IsFirstInTheWay p.rows (class_at x) (method (key_with x outer)) d
      × (r ≡ clash d)

  abbrev pub RefusesExtractMethod : Refusal → Type 0
  RefusesExtractMethod r = LacksPiece r ⊎ (HasManySites r ⊎ (NamesObjectMethod r
      ⊎ (HasReturns r ⊎ (HasTwoResults r ⊎ (IsAssigned r ⊎ Clashes r)))))
