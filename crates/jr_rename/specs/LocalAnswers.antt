-- What a walk over the member of a local tells: exact, and what is answered.
use Rattle.std.specs.Prelude.{ℕ, List, Option, Some, option_map, if◌then◌else◌}
use Rattle.jr_table.specs.Decls.{LocalKey, MemberKey, Decl, local_decl}
use Rattle.jr_table.specs.Errors.{Part, class_part, member_part}
use Rattle.jr_rename.specs.Walks.{Asked, Walk, start, in_member}

abbrev pub asked_local : LocalKey → (new : List ℕ) → Asked
asked_local k new = record { number = k.number; name = new }

-- of the member with this key
abbrev pub part_walk : {A : Type 0} → Asked → MemberKey → Part A → Walk
part_walk a key (class_part c) = start
part_walk a key (member_part x) = in_member a key x

-- the local itself, where it has the name; or else the least that it would meet
abbrev pub told : LocalKey → Walk → Option Decl
told k w = if w.is_named then Some (local_decl k)
    else option_map (λ (n : ℕ). local_decl (record { member = k.member; number = n })) w.least
