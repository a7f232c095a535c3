-- `Meaning`: a written type means one type, since classes are declared once. `DeclarationRows`:
-- that they are. `Walking`, `UnitsWalked`: one induction over trees, declared items and rows.
-- `PartLists`, `CtorLaws`, `KeyedSteps`: the code's lists. `Anywhere` has lemmas that quantify over
-- properties of members, as no clause can; crates above cite it.
pub mod Meaning
pub mod DeclarationRows
pub mod Walking
pub mod UnitsWalked
pub mod PartLists
pub mod CtorLaws
pub mod Anywhere
pub mod KeyedSteps
