-- `MadeCalls`: a call that the new program alone makes is unfolded where it stands. `Made`: the front of a
-- list becomes such a call (`extracted_list` is what a changed list owes). `Removed`: a call becomes a block
-- with the method's body (`inlined_list`). `Sample`: a local that isn't used behind a made call differs until
-- it is written. `ThisSample`, `ValueSample`,
-- `InlinedSample`: calls on `this`.
pub mod MadeCalls
pub mod Made
pub mod MadeExps
mod ArgumentLists
pub mod Removed
mod Sample
mod SampleRows
mod ThisSample
mod ValueSample
mod InlinedSample
