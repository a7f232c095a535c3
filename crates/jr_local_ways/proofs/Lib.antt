-- `Parts`: what a walk rests on holds of parts of nodes. `Ready`: along ways. `Valued`: of what is
-- used for its value as of a value. `Unbased`: wherever parents begin. `Elements`: the nearest
-- element of an expression. `Ends`, `Alone`: its span.
mod Parts
mod Ready
mod Unbased
mod Valued
mod Elements
mod Ends
mod Alone
