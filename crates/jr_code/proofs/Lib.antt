-- `OneFound`, `OneCode`, `OneBody`: what is coded has one code. `Exchanging`: an exchange of keys undoes
-- itself. `TestedRows`: rows that pass tests are those of a program. `RunRowsStand`: what runs need of rows
-- is there. `CodedSample`, `CodedFinds`: a small program, and what is found in it. `CodedCases`,
-- `BodyCases`: code of small trees, as theorems.
pub mod OneFound
pub mod OneCode
pub mod OneBody
pub mod Exchanging
pub mod TestedRows
pub mod RunRowsStand
mod CodedSample
mod CodedFinds
mod CodedCases
mod BodyCases
