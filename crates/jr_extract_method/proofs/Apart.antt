-- At the member that holds the piece, and at the piece, nothing is rewritten node by node.
use Rattle.std.proofs.Common.{ℕ, Bool, true, false, List}
use Rattle.std.specs.Prelude.{nat_eq}
use Rattle.jr_text.specs.declared.spans.Span.{Span}
use Rattle.jr_lex.specs.declared.items.Item.{Item}
use Rattle.jr_ast.specs.StatementTree as statement
use Rattle.jr_ast.specs.MemberTree as syntax
use Rattle.jr_table.specs.Keys.{ClassKey}
use Rattle.jr_table.specs.Context.{Context}
use Rattle.jr_table.specs.DeclaredItems.{DeclaredItem, declarations_of}
use Rattle.jr_bind.specs.Programs.{Program, units_of}
use Rattle.jr_rewrite.specs.Rewritten.{Rewritten}
use Rattle.jr_rewrite.specs.Spots.{AreApart, SpotsAreApart}
use Rattle.jr_bodies.specs.Bodies.{begins}
use Rattle.jr_extract_method.specs.Selecting.{Piece, of_statements, of_value, Outside}
use Rattle.jr_extract_method.specs.Results.{Returned}
use Rattle.jr_extract_method.specs.Extracting.{Parts, IsHeld, Calls, in_member, IsHolder, Extends, spots_if}
use Rattle.jr_extract_method.specs.Laws.{ExtractMethodIsApart}

module _ (p : Program Span) (file from to : ℕ) (name : List ℕ) (x : Piece p file from to) (outer : List Outside) (returned : Returned) (y : Parts p file from to name x outer returned)
    (text : List ℕ) (items : List Item) (gap : List ℕ) where
  held : (z : Piece p file from to) (n : ℕ) (c : Context) (base : ℕ) (b : statement.Stmts Span) (o : Rewritten (statement.Stmts Span))
      → Calls p file from to name x outer returned y text items gap z n c base b o → IsHeld p file from to name x outer returned y text items gap z n c b
  held (of_statements z) n c base b o h = h.0
  held (of_value z) n c base b o h = h

  pub member_apart : AreApart (in_member p file from to name x outer returned y text items gap)
  member_apart = record {
    part = λ k c r base e o spot stays. stays spot.0;
    list = λ n c base b o spot stays. stays (held x n c base b o spot);
    members = λ base of ys o spot stays. spot;
    whole = λ base outer d o spot stays. spot;
  }

  module _ (declarations : List DeclaredItem) where
    holder : (base : ℕ) (of : ClassKey) (ms : syntax.Members Span) (o : Rewritten (syntax.Members Span))
        → Extends p file from to name x outer returned y text items gap declarations base of ms o → IsHolder p file from to name x outer returned y text items gap of ms
    holder base of syntax.end o h = h
    holder base of (syntax.more m ms) o h = h.0

    pub file_apart : (b : Bool) → SpotsAreApart (spots_if p file from to name x outer returned y text items gap declarations b)
    file_apart false = tt
    file_apart true = record {
      part = λ k c r base e o spot stays. spot;
      list = λ n c base b o spot stays. spot;
      members = λ base of ms o spot stays. stays (holder base of ms o spot);
      whole = λ base outer d o spot stays. spot;
    }

pub extract_method_is_apart : ExtractMethodIsApart
extract_method_is_apart p file from to name f = record {
  files = λ n. file_apart p file from to name f.piece f.outer f.returned f.carried.parts f.carried.text f.carried.items f.carried.gap (declarations_of begins (units_of p)) (nat_eq n file);
  member = member_apart p file from to name f.piece f.outer f.returned f.carried.parts f.carried.text f.carried.items f.carried.gap;
}
