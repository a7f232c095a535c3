-- What tests of a row's parts tell.
use Rattle.std.proofs.Common.{◌≡◌, Option, Some, None, Bool, refl}
use Rattle.std.specs.Prelude.{◌&&◌, ◌↔◌, IsTrue, IfSome, option_map}
use Rattle.std.specs.Ordering.{on}
use Rattle.std.specs.Option.{option_eq}
use Rattle.std.proofs.lemmas.Bool.Decides.{Decides-and}
use Rattle.jr_table.specs.Rows.{Row}
use Rattle.jr_mentions.specs.RowSteps.{IsSameRest}

pub option_on : {X Y : Type 0} (f : X → Y) (E : Y → Y → Bool) (x y : Option X) → option_eq (on f E) x y ≡ option_eq E (option_map f x) (option_map f y)
option_on f E None None = refl
option_on f E None (Some y) = refl
option_on f E (Some x) None = refl
option_on f E (Some x) (Some y) = refl

pub some_to : {X : Type 0} (P Q : X → Type 0) (o : Option X) → ((x : X) → P x → Q x) → IfSome o P → IfSome o Q
some_to P Q None f h = h
some_to P Q (Some x) f h = f x h

pub both_hold : {P Q : Type 0} (a b : Bool) → (IsTrue a ↔ P) → (IsTrue b ↔ Q) → IsTrue (a && b) → P × Q
both_hold a b f g h = (Decides-and a b f g).0 h

pub rest_holds : (r s : Row) (a b c d : Bool) → (IsTrue a ↔ (r.modifiers ≡ s.modifiers)) → (IsTrue b ↔ (r.type ≡ s.type)) → (IsTrue c ↔ (r.parent ≡ s.parent)) → (IsTrue d ↔ (r.has_init ≡ s.has_init))
    → IsTrue (a && b && c && d) ↔ IsSameRest r s
rest_holds r s a b c d f g h k =
    let all = Decides-and (a && b && c) d (Decides-and (a && b) c (Decides-and a b f g) h) k in (
      λ t. let p = all.0 t in record { modifiers = p.0.0.0; type = p.0.0.1; parent = p.0.1; has_init = p.1 },
      λ e. all.1 (((e.modifiers, e.type), e.parent), e.has_init),
    )
