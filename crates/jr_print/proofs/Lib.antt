-- A printed text is a list of parts, each a token or a single space (`TextParts`), with what
-- follows as an argument (`ExpressionParts`, `StatementParts`, `MemberParts`). Three laws of each
-- kind of tree: the parts join to the text (`..Joined`); their tokens are the spelling (`Written`,
-- `Lexed`); no two neighbours run together (`..Apart`, by `Beside`). `jr_lex: pieces_lex` does the
-- rest, once for all.
pub mod Cases
pub mod Measures
pub mod StartLaws
pub mod Puts
pub mod TextParts
pub mod Written
pub mod Lexed
pub mod Beside
pub mod ExpressionParts
pub mod ExpressionJoined
pub mod ExpressionApart
pub mod StatementParts
pub mod StatementJoined
pub mod StatementApart
pub mod MemberParts
pub mod MemberJoined
pub mod MemberApart
pub mod Remarked
