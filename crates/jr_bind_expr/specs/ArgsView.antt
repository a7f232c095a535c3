-- The types of arguments, as contracts see them: none where one has no type.
use Rattle.std.specs.Prelude.{List, [], ◌∷◌, ◌++◌, Option, Some, None, if◌then◌else◌}
use Rattle.jr_table.specs.declared.entries.Kind.{Kind}
use Rattle.jr_bind_expr.specs.declared.args.Args as raw

abbrev pub kinds_of : raw.Args → Option (List Kind)
kinds_of a = if a.is_typed then Some a.kinds.items else None

-- one type more behind the others
abbrev pub with_last : Option (List Kind) → Option Kind → Option (List Kind)
with_last (Some ts) (Some t) = Some (ts ++ t ∷ [])
with_last _ _ = None

-- types behind types
abbrev pub joined : Option (List Kind) → Option (List Kind) → Option (List Kind)
joined (Some ts) (Some us) = Some (ts ++ us)
joined _ _ = None
