-- `Lasts`: the last local of a name. `Keeping`: what a lookup leaves. `Showing`: what is shown by
-- keys is what the relation says, by `jr_table: lookups_are_exact`.
pub mod Lasts
pub mod Showing
pub mod Keeping
