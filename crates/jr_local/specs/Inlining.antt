-- What inline local finds, and why it is refused by itself.
use Rattle.std.specs.Prelude.{
  ◌≡◌,
  ◌≢◌,
  ◌⊎◌,
  ℕ,
  ◌≤◌,
  Option,
  Some,
  None,
  List,
  slice_get,
  codes,
}
use Rattle.jr_text.specs.declared.spans.Span.{Span}
use Rattle.jr_text.specs.declared.spans.Place.{Place}
use Rattle.jr_ast.specs.Tree as tree
use Rattle.jr_ast.specs.Marks.{exp_mark}
use Rattle.jr_grammar.specs.Layout.{itself}
use Rattle.jr_table.specs.Decls.{LocalKey, local_decl}
use Rattle.jr_table.specs.Found.{one}
use Rattle.jr_table.specs.Lookup.{FindsVariable}
use Rattle.jr_table.specs.Context.{Context, scope_of}
use Rattle.jr_names.specs.Refusals.{Refusal, bad_target, conditional, has_return, assigned}
use Rattle.jr_bind.specs.Programs.{Program, units_of}
use Rattle.jr_images.specs.Targets.{HoldsIdentifier, Names}
use Rattle.jr_pieces.specs.Ways.{ListWay}
use Rattle.jr_pieces.specs.Standings.{Standing, behind, at_list}
use Rattle.jr_pieces.specs.Uses as uses
use Rattle.jr_pieces.specs.Uses.{list_use}
use Rattle.jr_pieces.specs.Nearest.{Element, nearest}
use Rattle.jr_pieces.specs.Bars.{list_barred}
use Rattle.jr_pieces.specs.Returns.{returns_in_list}
use Rattle.jr_local.specs.Bodies.{begins, Body, HasBody}
use Rattle.jr_local.specs.BodyFacts.{Declares}
use Rattle.jr_local.specs.Texts.{HasText}
use Rattle.jr_local.specs.Crossing.{DoesReadAlone}

-- A statement of a list in the file declares the local, with this initializer.
pub record Declared (p : Program Span) (file : ℕ) (k : LocalKey) : Type 0 where
  pub body : Body
  pub has : HasBody p file body
  pub member : body.key ≡ k.member
  pub init : tree.Exp Span
  pub declares : Declares p body k.number init

module _ {p : Program Span} {file : ℕ} {k : LocalKey} (x : Declared p file k) where
  -- the declaration, and what stands behind it in its list
  abbrev pub element : Element x.init
  element = nearest begins x.body.at x.declares.way

  -- what is known at the initializer, and behind the declaration
  abbrev pub at_init : Standing
  at_init = at_list begins x.body.at x.declares.way

  abbrev pub behind_it : Standing
  behind_it = behind begins element.stmt element.at

  -- the expression names the local
  pub record IsNamed (e : tree.Exp Span) (way : ListWay e element.rest) : Type 0 where
    pub mark : Span
    pub word : tree.Word Span
    pub is : e ≡ tree.name mark word
    pub bound : FindsVariable p.rows (scope_of (at_list begins behind_it way).context) word.text
        (one (local_decl k))

  -- where the local is named, which is behind its declaration in its list, nested lists included
  pub record Naming : Type 0 where
    pub at : tree.Exp Span
    pub way : ListWay at element.rest
    pub names : IsNamed at way

  abbrev pub known_at : Naming → Context
  known_at n = (at_list begins behind_it n.way).context

  abbrev pub first_byte : Naming → ℕ
  first_byte n = (exp_mark n.at).from

  -- `=` alone doesn't read what it assigns
  abbrev pub IsRead : Naming → Type 0
  IsRead n = list_use n.way ≢ uses.assigned

  abbrev pub IsTarget : Naming → Type 0
  IsTarget n = (list_use n.way ≡ uses.assigned) ⊎ (list_use n.way ≡ uses.changed)

  -- the construct that may leave the place out, or come to it again
  abbrev pub bar : Naming → Option ℕ
  bar n = list_barred begins behind_it.base None n.way

  -- it is the one read; two at one byte are one
  abbrev pub IsOnly : Naming → Type 0
  IsOnly n = IsRead n × ((o : Naming) → IsRead o → first_byte o ≡ first_byte n)

  -- the first `return` statement behind the declaration, at any depth, ends in front of the place
  abbrev pub ReturnsBefore : Naming → Span → Type 0
  ReturnsBefore n s =
      (slice_get (returns_in_list itself behind_it.base element.rest) 0 ≡ Some s)
      × (s.to ≤ first_byte n)

  -- the first target
  abbrev pub IsFirstTarget : Naming → Type 0
  IsFirstTarget n = IsTarget n × ((o : Naming) → IsTarget o → first_byte n ≤ first_byte o)

module _ (p : Program Span) (file at : ℕ) where
  -- the identifier at the byte declares the local or is bound to it
  pub record IsAsked (k : LocalKey) : Type 0 where
    pub text : List ℕ
    pub from : ℕ
    pub is_text : HasText p file text
    pub holds : HoldsIdentifier text at from
    pub names : Names begins p.rows p.super_at (units_of p) file from (local_decl k)

  -- the local, which a statement declares
  pub record Asked : Type 0 where
    pub key : LocalKey
    pub asked : IsAsked key
    pub declared : Declared p file key

  abbrev pub there : ℕ → Place
  there byte = record { file = file; at = byte }

  -- the initializer only reads locals
  abbrev pub IsPlain : Asked → Type 0
  IsPlain x = DoesReadAlone p file x.declared.body x.declared.init

  abbrev pub IsNotPlain : Asked → Type 0
  IsNotPlain x = IsPlain x → ⊥

  -- 5: no local that a statement declares is asked for
  abbrev pub LacksLocal : Refusal → Type 0
  LacksLocal r = (Asked → ⊥) × (r ≡ bad_target (there at) (codes "Local"))

  -- 5: an initializer that isn't plain, of a local that isn't read just once
  abbrev pub IsUsedOtherwise : Refusal → Type 0
  IsUsedOtherwise r = (x : Asked) × IsNotPlain x
      × ((n : Naming x.declared) → IsOnly x.declared n → ⊥)
      × (r ≡ bad_target (there at) (codes "OneUse"))

  -- 7: the one read is barred
  abbrev pub IsBarred : Refusal → Type 0
  IsBarred r = (x : Asked) × IsNotPlain x × (n : Naming x.declared)
      × IsOnly x.declared n × (byte : ℕ) × (bar x.declared n ≡ Some byte)
      × (r ≡ conditional (there byte))

  -- 8: control may not come to the one read
  abbrev pub MeetsReturn : Refusal → Type 0
  MeetsReturn r = (x : Asked) × IsNotPlain x × (n : Naming x.declared)
      × IsOnly x.declared n × (bar x.declared n ≡ None) × (s : Span)
      × ReturnsBefore x.declared n s × (r ≡ has_return (there s.from))

  -- none of these applies
  abbrev pub MayMove : Asked → Type 0
  MayMove x = IsPlain x ⊎ (IsNotPlain x × (n : Naming x.declared)
      × IsOnly x.declared n × (bar x.declared n ≡ None)
      × ((s : Span) → ReturnsBefore x.declared n s → ⊥))

  -- 13: the local is assigned behind its declaration, first there
  abbrev pub IsAssigned : Refusal → Type 0
  IsAssigned r = (x : Asked) × MayMove x × (n : Naming x.declared)
      × IsFirstTarget x.declared n
      × (r ≡ assigned x.key (there (first_byte x.declared n)))

  abbrev pub RefusesInline : Refusal → Type 0
  RefusesInline r = LacksLocal r
      ⊎ (IsUsedOtherwise r ⊎ (IsBarred r ⊎ (MeetsReturn r ⊎ IsAssigned r)))

  -- none of these applies
  pub record IsLetGo (x : Asked) : Type 0 where
    pub may_move : MayMove x
    pub never_assigned : (n : Naming x.declared) → IsTarget x.declared n → ⊥
