-- The pure places that those of the calls stand for.
use Rattle.jr_local_search.specs.declared.places.ExtractPlace as raw_extract
use Rattle.jr_local_search.specs.declared.places.ExtractPlace.TheVariants as extract
use Rattle.jr_local_search.specs.declared.places.InlinePlace as raw_inline
use Rattle.jr_local_search.specs.declared.places.InlinePlace.TheVariants as inline
use Rattle.jr_local_search.specs.Places.{
  ExtractPlace,
  barred,
  taken,
  open_for,
  InlinePlace,
  used_otherwise,
  read_barred,
  read_behind,
  assigned_at,
  let_go,
}

abbrev pub extract_of : raw_extract.ExtractPlace → ExtractPlace
extract_of (extract.Barred at) = barred at
extract_of (extract.Taken n) = taken n
extract_of (extract.Free n) = open_for n

abbrev pub inline_of : raw_inline.InlinePlace → InlinePlace
inline_of inline.UsedOtherwise = used_otherwise
inline_of (inline.Barred at) = read_barred at
inline_of (inline.Returns s) = read_behind s
inline_of (inline.Assigned at) = assigned_at at
inline_of inline.Free = let_go
