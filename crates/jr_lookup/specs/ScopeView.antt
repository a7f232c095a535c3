-- The pure scope that a scope stands for.
use Rattle.jr_lookup.specs.declared.scopes.Scope as raw_scope
use Rattle.jr_table.specs.TypeView.{class_key_of}
use Rattle.jr_table.specs.Scope.{Scope}

abbrev pub scope_of : raw_scope.Scope → Scope
scope_of s = record { class = class_key_of s.class; is_static = s.is_static; locals = s.locals }
