-- Steps over statements (`Bodies`, `Passing`, `TypedPassing`, `StmtArming`, `LocalSteps`), over what is
-- declared (`Declaring`, `TypedDeclaring`, `Heading`, `ParamSteps`, `Parting`, `Statics`), and up the
-- superclasses (`Climbing`, `Above`, `Accesses`).
pub mod StmtArming
pub mod Passing
pub mod Bodies
pub mod Declaring
pub mod LocalSteps
pub mod Heading
pub mod Statics
pub mod ParamSteps
pub mod Parting
pub mod TypedPassing
pub mod TypedDeclaring
pub mod Accesses
pub mod Climbing
pub mod Above
