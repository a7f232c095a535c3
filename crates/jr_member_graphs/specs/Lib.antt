pub mod MemberLocals
pub mod Notes
pub mod NotesView
pub mod Gathering
pub mod FlagRows
pub mod OwnFlags
pub mod GivenFlags
pub mod NeverNullRuns
