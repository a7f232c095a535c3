-- What was bound before, by what is bound now.
use Rattle.std.specs.Prelude.{List, [], ◌∷◌, slice_set}
use Rattle.jr_program.specs.declared.bounds.MemberBound.{MemberBound}
use Rattle.jr_cache.specs.declared.former.Replaced.{Replaced}
use Rattle.jr_cache.specs.declared.former.Former.{Former}
use Rattle.jr_cache.specs.declared.former.Former.TheVariants as former

-- each is put where it was, the last that was replaced first
abbrev pub with_replaced : List Replaced → List MemberBound → List MemberBound
with_replaced [] bounds = bounds
with_replaced (r ∷ rs) bounds = slice_set (with_replaced rs bounds) r.number r.bound

abbrev pub bounds_before : Former → List MemberBound → List MemberBound
bounds_before (former.Whole earlier) bounds = earlier.items
bounds_before (former.Parts replaced) bounds = with_replaced replaced.items bounds
