-- What is put for a word, in parts, are its changes.
use Rattle.std.proofs.Common.{◌≡◌, ℕ, [], ◌++◌, refl}
use Rattle.std.specs.Prelude.{if◌then◌else◌}
use Rattle.jr_text.specs.declared.spans.Span.{Span}
use Rattle.jr_rewrite.specs.Respellings.{Front, same, alone, by_this, by_super, by_cast_this, by_class, by_outer_class, by_cast, Respelling, becomes}
use Rattle.jr_rewrite.specs.Rewritten.{dotted_changes, super_changes, qualified_changes, drops_operand}
use Rattle.jr_rewrite.specs.Puts.{before_changes, behind_changes, DottedIsParts, super_parts, SuperIsParts, drops_class, class_changes, QualifiedIsParts}

-- ---- the parts of what is put

pub dotted_is_parts : DottedIsParts
dotted_is_parts r e w inside = by_front r.front
  where
    by_front : (f : Front)
        → (let x : Respelling = record { text = r.text; front = f } in dotted_changes (becomes x) e w inside ≡ before_changes f e ++ ((if drops_operand f then [] else inside) ++ behind_changes x e w))
    by_front same = refl
    by_front alone = refl
    by_front by_this = refl
    by_front by_super = refl
    by_front (by_cast_this k) = refl
    by_front (by_class k) = refl
    by_front (by_outer_class o k) = refl
    by_front (by_cast k) = refl

pub super_is_parts : SuperIsParts
super_is_parts r node w = by_front r.front
  where
    by_front : (f : Front) → (let x : Respelling = record { text = r.text; front = f } in super_changes (becomes x) node w ≡ super_parts x node w)
    by_front same = refl
    by_front alone = refl
    by_front by_this = refl
    by_front by_super = refl
    by_front (by_cast_this k) = refl
    by_front (by_class k) = refl
    by_front (by_outer_class o k) = refl
    by_front (by_cast k) = refl

pub qualified_is_parts : {A : Type 0} (tells : A → ℕ → Span) → QualifiedIsParts tells
qualified_is_parts tells r outer w inside = by_front r.front
  where
    by_front : (f : Front)
        → (let x : Respelling = record { text = r.text; front = f } in qualified_changes tells (becomes x) outer w inside ≡ (if drops_class f then [] else inside) ++ class_changes x outer w)
    by_front same = refl
    by_front alone = refl
    by_front by_this = refl
    by_front by_super = refl
    by_front (by_cast_this k) = refl
    by_front (by_class k) = refl
    by_front (by_outer_class o k) = refl
    by_front (by_cast k) = refl
