-- What a walk over a member is given, where the member has a body: what binding knows of the body.
use Rattle.std.specs.Prelude.{◌≡◌, ◌↔◌, ℕ, Bool, IsTrue, List, Some}
use Rattle.jr_text.specs.declared.spans.Span.{Span}
use Rattle.jr_ast.specs.Tree as tree
use Rattle.jr_ast.specs.MemberTree as syntax
use Rattle.jr_grammar.specs.Layout.{itself}
use Rattle.jr_expr_types.specs.Slots.{find_type}
use Rattle.jr_bind.specs.Bounds.{decl_in}
use Rattle.jr_bind.specs.Programs.{Program}
use Rattle.jr_expr_sites.specs.KnownFacts.{Given, is_never_null}
use Rattle.jr_expr_sites.specs.Routes.{spots}
use Rattle.jr_cfg.specs.MemberRoutes.{known}
use Rattle.jr_local.specs.Bodies.{Body, body_of_member}
use Rattle.jr_local.specs.BodyFacts.{IsNeverNull}

-- the member, whose parent begins at `base`, has the body
abbrev pub IsMemberOf : Body → (base : ℕ) → syntax.Member Span → Type 0
IsMemberOf b base m = body_of_member b.key base m b.bound ≡ Some b

module _ (p : Program Span) (b : Body) (flags : List Bool) (base : ℕ) (m : syntax.Member Span)
  where
    abbrev pub given_of : Given
    given_of = known itself p.rows b.key (decl_in b.bound.references) (find_type b.bound.types)
        flags base m

    -- by the flags a value is taken for never null exactly where it is
    abbrev pub FlagsTell : Type 0
    FlagsTell = (e : tree.Exp Span) (at : ℕ) (path : List ℕ)
        → IsTrue (is_never_null given_of (spots itself path at e)) ↔ IsNeverNull p b e
