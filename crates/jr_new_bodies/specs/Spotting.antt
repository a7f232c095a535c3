-- The spots of a walk: expressions by their bytes, and what comes there.
use Rattle.std.specs.Prelude.{
  ◌≡◌,
  ℕ,
  nat_eq,
  nat_le,
  Bool,
  ◌&&◌,
  List,
  [],
  ◌∷◌,
  Option,
  Some,
  None,
  if◌then◌else◌,
}
use Rattle.jr_text.specs.declared.spans.Span.{Span}
use Rattle.jr_ast.specs.Tree as tree
use Rattle.jr_ast.specs.Marks.{exp_mark}
use Rattle.jr_table.specs.Context.{Context}
use Rattle.jr_rewrite.specs.Rewritten.{Rewritten, change}
use Rattle.jr_rewrite.specs.Spots.{
  Asks,
  level,
  a_target,
  a_statement,
  Spotted,
  nowhere,
  spotted,
}

-- by their ends
abbrev pub same_span : Span → Span → Bool
same_span s t = nat_eq s.from t.from && nat_eq s.to t.to

-- what comes in place of an expression, which binds so tightly: this text, and that one where the
-- node around asks for more
pub record PartSpot : Type 0 where
  pub at : Span
  pub binds : ℕ
  pub bare : List ℕ
  pub grouped : List ℕ
  pub respelled : ℕ

pub data Spotting : Type 0 where
  no_spots : Spotting
  at_parts : List PartSpot → Spotting

-- the first of these bytes
abbrev pub find_part : Span → List PartSpot → Option PartSpot
find_part at [] = None
find_part at (p ∷ ps) = if same_span p.at at then Some p else find_part at ps

abbrev pub part_at : Span → Spotting → Option PartSpot
part_at at no_spots = None
part_at at (at_parts ps) = find_part at ps

abbrev pub text_of : PartSpot → (least : ℕ) → List ℕ
text_of p least = if nat_le least p.binds then p.bare else p.grouped

-- what comes of such an expression, with this tree
abbrev pub part_out : {T : Type 0} → PartSpot → (least : ℕ) → T → Rewritten T
part_out p least t = record {
  tree = t;
  changes = change p.at (text_of p least) ∷ [];
  respelled = p.respelled;
  losses = [];
}

-- What a walk doesn't see: where written `super(..)` stand, and which trees come at spots.
pub record Unseen (A : Type 0) : Type 0 where
  pub super_at : Context → ℕ
  pub part : (at : Span) → (least : ℕ) → tree.Exp A

-- where no expression is a spot
abbrev pub PartStays : {A : Type 0} → (tells : A → ℕ → Span) → Spotting → Asks → (base : ℕ)
    → tree.Exp A → Type 0
PartStays tells z (level least) base e = part_at (tells (exp_mark e) base) z ≡ None
PartStays tells z a_target base e = Unit {0}
PartStays tells z a_statement base e = Unit {0}

module _ {A : Type 0} (tells : A → ℕ → Span) (u : Unseen A) where
  -- an expression that is used for its value, or stands in front of a dot, is a spot by its bytes
  abbrev pub PartComes : Spotting → Asks → (base : ℕ) → tree.Exp A → Rewritten (tree.Exp A)
      → Type 0
  PartComes z (level least) base e o = (p : PartSpot)
      × (part_at (tells (exp_mark e) base) z ≡ Some p)
      × (o ≡ part_out p least (u.part p.at least))
  PartComes z a_target base e o = ⊥
  PartComes z a_statement base e o = ⊥

  abbrev pub spots_of : Spotting → Spotted A
  spots_of no_spots = nowhere
  spots_of (at_parts ps) = spotted (record {
    part = λ k c r base e o. PartComes (at_parts ps) k base e o;
    part_stays = λ k c r base e. PartStays tells (at_parts ps) k base e;
    list = λ n c base xs o. ⊥;
    list_stays = λ n c base xs. Unit {0};
    members = λ base of xs o. ⊥;
    members_stay = λ base of xs. Unit {0};
    whole = λ base outer x o. ⊥;
    whole_stays = λ base outer x. Unit {0};
    this_stays = Unit {0};
  })
