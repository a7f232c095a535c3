-- `Lists`: a list to which a way leads is met by its spot. `Files`: so it is in the file that writes
-- the member. `Plans`: of both steps.
pub mod Lists
pub mod Files
pub mod Plans
