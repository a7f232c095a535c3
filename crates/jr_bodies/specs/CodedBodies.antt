-- The body of a member's code.
use Rattle.std.specs.Prelude.{ℕ, Bool}
use Rattle.jr_table.specs.Decls.{MemberKey}
use Rattle.jr_bind.specs.Bounds.{Bound}
use Rattle.jr_bodies.specs.MemberCode.{Code}
use Rattle.jr_bodies.specs.Bodies.{Body, entry}

-- of a member with the key, which begins at the byte, and of which this is bound
abbrev pub body_with : MemberKey → (is_static : Bool) → (base : ℕ) → Code → Bound → Body
body_with k is_static base x b = record {
  key = k;
  at = entry k is_static base x.params;
  list = x.list;
  front = x.front;
  bound = b;
}
