-- What a token can be in an expression: Rust's values as pure ones.
use Rattle.jr_pexpr.specs.declared.pieces.Way.{Way}
use Rattle.jr_pexpr.specs.declared.pieces.Way.TheVariants as way
use Rattle.jr_pexpr.specs.declared.pieces.Atom.{Atom}
use Rattle.jr_pexpr.specs.declared.pieces.Atom.TheVariants as atom
use Rattle.jr_pexpr.specs.declared.pieces.Piece.{Piece}
use Rattle.jr_pexpr.specs.declared.pieces.Piece.TheVariants as rust
use Rattle.jr_grammar.specs.Tokens.{keyword, symbol}
use Rattle.jr_pexpr.specs.Pieces as pure

abbrev pub way_view : Way → pure.Way
way_view way.Up = pure.up
way_view way.Down = pure.down

abbrev pub atom_view : Atom → pure.Atom
atom_view (atom.Number n) = pure.a_number n
atom_view (atom.Truth b) = pure.a_truth b
atom_view atom.Null = pure.a_null
atom_view (atom.Text s) = pure.a_string s.now
atom_view atom.This = pure.a_this

abbrev pub piece_view : Piece → pure.Piece
piece_view (rust.Word w) = pure.a_word w.now
piece_view (rust.Atom a) = pure.an_atom (atom_view a)
piece_view rust.Super = pure.a_super
piece_view rust.New = pure.a_new
piece_view rust.Class = pure.a_class
piece_view rust.Open = pure.an_open
piece_view rust.Close = pure.a_close
piece_view rust.Comma = pure.a_comma
piece_view rust.Dot = pure.a_dot
piece_view rust.Bang = pure.a_bang
piece_view (rust.Bump w) = pure.a_bump (way_view w)
piece_view (rust.Operator o) = pure.an_operator o
piece_view rust.Equals = pure.an_equals
piece_view (rust.Compound o) = pure.a_compound o
piece_view (rust.OtherKeyword k) = pure.another (keyword k)
piece_view (rust.OtherSymbol s) = pure.another (symbol s)
