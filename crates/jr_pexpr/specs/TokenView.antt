-- Rust's tokens, and what they can be in an expression, as pure ones.
use Rattle.jr_pexpr.specs.declared.tokens.Token.{Token}
use Rattle.jr_pexpr.specs.declared.tokens.Token.TheVariants as rust
use Rattle.jr_grammar.specs.Tokens as pure

abbrev pub token_view : Token → pure.Token
token_view (rust.Word w) = pure.word w.now
token_view (rust.Keyword k) = pure.keyword k
token_view (rust.Int n) = pure.integer n
token_view (rust.Text s) = pure.text s.now
token_view (rust.Symbol s) = pure.symbol s
