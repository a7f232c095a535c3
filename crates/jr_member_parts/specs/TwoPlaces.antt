-- Spots where a member goes from one class to another: what becomes of the members from one on, and
-- of the class in front of whose last brace something is put.
use Rattle.std.specs.Prelude.{ℕ, Bool, true, false, List, Option}
use Rattle.jr_text.specs.declared.spans.Span.{Span}
use Rattle.jr_ast.specs.Tree as tree
use Rattle.jr_ast.specs.MemberTree as syntax
use Rattle.jr_table.specs.Keys.{ClassKey}
use Rattle.jr_table.specs.Context.{Context}
use Rattle.jr_rewrite.specs.Rewritten.{Rewritten}
use Rattle.jr_rewrite.specs.Spots.{Spots, Spotted, spotted}

-- the two places, and what becomes of an expression beside them
pub record TwoPlaces : Type 1 where
  -- spots where neither stands within
  pub beside : Spotted Span
  pub Part : Context → (base : ℕ) → tree.Exp Span → Rewritten (tree.Exp Span) → Type 0
  pub PartStays : Context → tree.Exp Span → Type 0
  -- these are the members from the one on
  pub IsHeld : ClassKey → syntax.Members Span → Type 0
  -- what becomes of them, where the rest has these spots
  pub Goes : (rest : Spotted Span) → (base : ℕ) → ClassKey → syntax.Members Span
      → Rewritten (syntax.Members Span) → Type 0
  -- this is the class
  pub IsNewClass : Option (List ℕ) → syntax.Class Span → Type 0
  -- what becomes of it, where its body has these spots
  pub Comes : (inside : Spotted Span) → (base : ℕ) → Option (List ℕ) → syntax.Class Span
      → Rewritten (syntax.Class Span) → Type 0

-- Each may stand within the other: the class holds the members' class as a member, or the other way
-- round.
module _ (t : TwoPlaces) where
  abbrev pub goes_alone : Spots Span
  goes_alone = record {
    part = λ k c r base e o. t.Part c base e o;
    part_stays = λ k c r base e. t.PartStays c e;
    list = λ n c base xs o. ⊥;
    list_stays = λ n c base xs. Unit {0};
    members = λ base of ys o. t.Goes t.beside base of ys o;
    members_stay = λ base of ys. t.IsHeld of ys → ⊥;
    whole = λ base outer d o. ⊥;
    whole_stays = λ base outer d. Unit {0};
    this_stays = Unit {0};
  }

  abbrev pub comes_alone : Spots Span
  comes_alone = record {
    part = λ k c r base e o. t.Part c base e o;
    part_stays = λ k c r base e. t.PartStays c e;
    list = λ n c base xs o. ⊥;
    list_stays = λ n c base xs. Unit {0};
    members = λ base of ys o. ⊥;
    members_stay = λ base of ys. Unit {0};
    whole = λ base outer d o. t.Comes t.beside base outer d o;
    whole_stays = λ base outer d. t.IsNewClass outer d → ⊥;
    this_stays = Unit {0};
  }

  abbrev pub both_spots : Spots Span
  both_spots = record {
    part = λ k c r base e o. t.Part c base e o;
    part_stays = λ k c r base e. t.PartStays c e;
    list = λ n c base xs o. ⊥;
    list_stays = λ n c base xs. Unit {0};
    members = λ base of ys o. t.Goes (spotted comes_alone) base of ys o;
    members_stay = λ base of ys. t.IsHeld of ys → ⊥;
    whole = λ base outer d o. t.Comes (spotted goes_alone) base outer d o;
    whole_stays = λ base outer d. t.IsNewClass outer d → ⊥;
    this_stays = Unit {0};
  }

  -- of a file that has the members, or the class
  abbrev pub spots_if : (goes comes : Bool) → Spotted Span
  spots_if true true = spotted both_spots
  spots_if true false = spotted goes_alone
  spots_if false true = spotted comes_alone
  spots_if false false = t.beside
