-- What is bound of a member is bound of it in other rows.
use Rattle.std.proofs.Common.{◌≡◌, ℕ, ◌+◌, List}
use Rattle.std.specs.Prelude.{◌↔◌}
use Rattle.jr_ast.specs.MemberTree as syntax
use Rattle.jr_table.specs.Keys.{Ty}
use Rattle.jr_table.specs.Decls.{MemberKey}
use Rattle.jr_table.specs.Rows.{Row}
use Rattle.jr_table.specs.Conditions.{AreRows}
use Rattle.jr_table.specs.Errors.{Part, class_part, member_part, part_mark, Error, AreErrors}
use Rattle.jr_table.specs.TypesAt.{TypeAt}
use Rattle.jr_bind.specs.Bounds.{Bound, IsBound, TypeInPart}
use Rattle.jr_mentions.specs.Apart.{AreApart, IsCleanMember}
use Rattle.jr_mentions.specs.Alike.{LookAlike}
use Rattle.jr_mentions.specs.Avoids.{AvoidsPart}
use Rattle.jr_mentions.specs.Lasting.{ApartLookAlike, PartsLast, TypesLast, PartLasts}
use Rattle.jr_cache.specs.Lasting.{BoundsLast}

chain : {P Q R : Type 0} → (P ↔ Q) → (Q ↔ R) → P ↔ R
chain f g = (λ p. g.0 (f.0 p), λ r. f.1 (g.1 r))

errors_as : (P Q : Error → Type 0) (errors : List Error) → ((e : Error) → P e ↔ Q e) → AreErrors P errors → AreErrors Q errors
errors_as P Q errors f are = record { in_order = are.in_order; exact = λ e. chain (are.exact e) (f e) }

module _ {A : Type 0} (alike : ApartLookAlike) (parts : PartsLast A) (types : TypesLast A) where
  module _ (begins : A → ℕ → ℕ) (names : List (List ℕ)) (rows after : List Row) (are : AreRows rows) (are_after : AreRows after) (look : LookAlike names rows after) where
    types_as : (k : MemberKey) (part : Part A) → AvoidsPart names part → (path : List ℕ) (t : Ty) → TypeInPart begins rows k part path t ↔ TypeInPart begins after k part path t
    types_as k (class_part c) avoids path t = (λ h. h, λ h. h)
    types_as k (member_part x) avoids path t = types begins names rows after are are_after look k x avoids path t

    bound_as : (super_at : ℕ) (k : MemberKey) (base : ℕ) (part : Part A) → AvoidsPart names part → PartLasts begins rows after super_at k base part → (b : Bound)
        → IsBound begins rows super_at k base part b → IsBound begins after super_at k base part b
    bound_as super_at k base part avoids lasts b is =
        let start : ℕ = begins (part_mark part) base in
        record {
          member = is.member;
          declarations = λ at d. chain (is.declarations at d) (lasts.binds (start + at) d);
          errors = errors_as _ _ b.errors (λ e. lasts.breaks (start + e.at) e.rule) is.errors;
          types = λ path t. chain (is.types path t) (types_as k part avoids path t);
        }

  pub bounds_last : BoundsLast A
  bounds_last begins names rows after are are_after apart super_at k base part clean avoids b is =
      let look = alike names rows after are are_after apart in
      bound_as begins names rows after are are_after look super_at k base part avoids (parts begins names rows after are are_after look super_at k base part clean avoids) b is
