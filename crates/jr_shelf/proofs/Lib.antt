-- What is put and stored in part (`InPart`), lengths that are known (`KnownLengths`), how a file is
-- found by its name (`Lookups`), room in memory (`Pools`); `Examples`: that the facts of fetches,
-- stores and puts can be met.
mod Examples
mod InPart
mod KnownLengths
mod Lookups
mod Pools
