pub mod BehindLaws
