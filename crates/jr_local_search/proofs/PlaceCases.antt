-- What stands against extract local where nothing bars the expression; and against inline local at
-- the one read.
use Rattle.std.proofs.Common.{◌≡◌, ℕ, ◌≤◌, Bool, true, false, List, map, Option, Some, None, option_map, refl, ap, sym, subst, ◌∙◌}
use Rattle.jr_text.specs.declared.spans.Span.{Span}
use Rattle.jr_ast.specs.StatementTree as statement
use Rattle.jr_table.specs.Decls.{LocalKey}
use Rattle.jr_table.specs.Context.{local_key}
use Rattle.jr_pieces.specs.Ways.{ListWay}
use Rattle.jr_pieces.specs.Standings.{Standing}
use Rattle.jr_piece_search.specs.SoughtStatements.{Found}
use Rattle.jr_local_search.specs.Scopes.{AtElement, IsAt, IsAtElement}
use Rattle.jr_local_search.specs.Namings.{Naming, IsOnlyRead, first_target}
use Rattle.jr_local_search.specs.Places.{ExtractPlace, barred, taken, open_for, first_taken, IsUnbarred, element, IsBarredBy, taken_there, ExtractsAt, IsExtractPlace}
use Rattle.jr_local_search.specs.Places.{InlinePlace, used_otherwise, read_barred, read_behind, assigned_at, let_go, IsReturnBefore, IsStraight, MayMove, IsInlinePlace}

-- ---- extract

module _ (name : List ℕ) (at : AtElement) (first : ℕ) (b : statement.Stmts Span) (path : List ℕ) (x : Found) where
  pub is_barred : (byte : ℕ) → x.bars.own ≡ Some byte → IsExtractPlace name at first b path x (barred byte)
  is_barred byte is = λ way p leads list own here base. own base ∙ is

  module _ (none : x.bars.own ≡ None) (inner : AtElement) (known : IsAtElement name first b path at inner) where
    not_barred : (way : ListWay x.value b) (p : Standing) → IsBarredBy name x p way x.bars.own → IsBarredBy name x p way None
    not_barred way p own = λ base. own base ∙ none

    held_is : (way : ListWay x.value b) (p : Standing) → x.list ≡ statement.more (element name x p way).stmt (element name x p way).rest → taken_there name x p way ≡ first_taken name (element name x p way).at x.list
    held_is way p list = ap (first_taken name (element name x p way).at) (sym list)

    pub is_unbarred : (r : ExtractPlace) → IsUnbarred name inner x.list r → IsExtractPlace name at first b path x r
    is_unbarred (barred byte) h = absurd h
    is_unbarred (taken n) h = λ way p leads list own here. (not_barred way p own, held_is way p list ∙ h (element name x p way).at (known x.value way p leads here))
    is_unbarred (open_for n) h = λ way p leads list own here.
        let r = h (element name x p way).at (known x.value way p leads here) in
        (not_barred way p own, held_is way p list ∙ r.0, r.1)

pub is_taken : (name : List ℕ) (x : AtElement) (held : statement.Stmts Span) (o : Option ℕ) → ((p : Standing) → IsAt name p x → first_taken name p held ≡ option_map (local_key p.context) o)
    → (n : ℕ) → o ≡ Some n → IsUnbarred name x held (taken n)
is_taken name x held o h n is = λ p at. h p at ∙ ap (option_map (local_key p.context)) is

pub is_open : (name : List ℕ) (x : AtElement) (held : statement.Stmts Span) (o : Option ℕ) → ((p : Standing) → IsAt name p x → first_taken name p held ≡ option_map (local_key p.context) o)
    → o ≡ None → IsUnbarred name x held (open_for x.next)
is_open name x held o h is = λ p at. (h p at ∙ ap (option_map (local_key p.context)) is, at.next)

-- ---- inline

module _ (first : Option Span) where
  pub no_return : (at : ℕ) → first ≡ None → IsReturnBefore first at None
  no_return at is = λ s e le. none s (sym is ∙ e)
    where
      none : (s : Span) → None ≡ Some s → ⊥
      none s e = cc

  pub late_return : (at : ℕ) (t : Span) → first ≡ Some t → (t.to ≤ at → ⊥) → IsReturnBefore first at None
  late_return at t is late = λ s e le. late (subst (λ (u : Span). u.to ≤ at) (sym (same t s (sym is ∙ e))) le)
    where
      same : (t s : Span) → Some t ≡ Some s → t ≡ s
      same t s e = cc

  module _ (xs : List Naming) (x : Naming) (only : IsOnlyRead xs x) where
    pub at_bar : (at : ℕ) → x.bar ≡ Some at → IsInlinePlace false first xs (read_barred at)
    at_bar at is = (refl, x, only, is)

    pub at_return : (s : Span) → x.bar ≡ None → IsReturnBefore first x.span.from (Some s) → IsInlinePlace false first xs (read_behind s)
    at_return s none h = (refl, x, record { only = only; straight = none }, h)

    pub may_move : x.bar ≡ None → IsReturnBefore first x.span.from None → MayMove false first xs
    may_move none h = (x, record { only = only; straight = none }, h)

pub moves : (plain : Bool) (first : Option Span) (xs : List Naming) → plain ≡ true → MayMove plain first xs
moves plain first xs is = subst (λ (q : Bool). MayMove q first xs) (sym is) tt
