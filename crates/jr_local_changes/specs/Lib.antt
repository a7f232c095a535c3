-- `PieceChanges`: the changes of the expression that extract local moves.
pub mod PieceChanges
