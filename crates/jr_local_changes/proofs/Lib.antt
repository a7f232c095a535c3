-- `RunFits`: changes of a run of tokens. `Pieces`: of the expression.
mod RunFits
mod Pieces
