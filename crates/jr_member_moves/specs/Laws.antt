-- What holds of the keys of a member that goes to another class, and of the spots of each move.
use Rattle.std.specs.Prelude.{◌≡◌, ◌≢◌, ℕ, List}
use Rattle.jr_text.specs.declared.spans.Span.{Span}
use Rattle.jr_table.specs.Keys.{ClassKey, FieldKey, CtorKey}
use Rattle.jr_table.specs.Decls.{MemberKey, field, Decl}
use Rattle.jr_table.specs.Entries.{IsRowOf}
use Rattle.jr_names.specs.Refusals.{Refusal}
use Rattle.jr_members.specs.WrittenMembers.{decl_of_member}
use Rattle.jr_bind.specs.Programs.{Program}
use Rattle.jr_rewrite.specs.Spots.{SpotsAreApart}
use Rattle.jr_images.specs.Regions.{Images, image_of_member}
use Rattle.jr_plan.specs.Transforms.{Transform}
use Rattle.jr_member_parts.specs.InTheWay.{in_class}
use Rattle.jr_member_moves.specs.Places.{field_moved}
use Rattle.jr_member_moves.specs.PullUp.{Found, key, pull_up}
use Rattle.jr_member_moves.specs.MoveStatic as static
use Rattle.jr_member_moves.specs.MoveInstance as instance

-- a field that isn't the member has its key
abbrev pub OthersStay : Type 0
OthersStay = (moved : MemberKey) (to : ClassKey) (k : FieldKey) → field k ≢ moved
    → field_moved moved to k ≡ k

abbrev pub refuses : Program Span → (file at : ℕ) → Refusal → Type 0
refuses p file at = (pull_up p file at).Refuses

-- The member's key is that in the class, each other one stays, and so does each name; and no
-- member of the program has the new key.
pub record IsMove (p : Program Span) (m : Images) (moved : MemberKey) (to : ClassKey)
    : Type 0 where
  pub classes : (k : ClassKey) → m.class_to k ≡ k
  pub constructors : (k : CtorKey) → m.ctor_to k ≡ k
  pub names : (d : Decl) (old : List ℕ) → m.name_to d old ≡ old
  pub goes : image_of_member m moved ≡ in_class to moved
  pub others : (k : MemberKey) → k ≢ moved → image_of_member m k ≡ k
  pub alone : (k : MemberKey) (j : ℕ) → IsRowOf p.rows (decl_of_member k) j
      → image_of_member m k ≡ image_of_member m moved → k ≡ moved

module _ (p : Program Span) (file at : ℕ) (f : Found p file at) where
  abbrev pub pulled_up : Transform
  pulled_up = (pull_up p file at).transform f

  abbrev pub images_of : Images
  images_of = pulled_up.region.seen.images

-- Pull up moves the member to the superclass (JLS 8.2).
abbrev pub PullsUpMove : Type 0
PullsUpMove = (p : Program Span) (file at : ℕ) (f : Found p file at)
    → IsMove p (images_of p file at f) f.declared.member.key (key p file at f)

-- Its spots are used: where one is, nothing is rewritten node by node.
abbrev pub PullUpIsApart : Type 0
PullUpIsApart = (p : Program Span) (file at : ℕ) (f : Found p file at) (n : ℕ)
    → SpotsAreApart ((pulled_up p file at f).spots n)

-- ---- move static

module _ (p : Program Span) (file at : ℕ) (text : List ℕ) (f : static.Found p file at text) where
  abbrev pub moved_over : Transform
  moved_over = (static.move_static p file at text).transform f

-- Move static moves the method to the class (JLS 8.2).
abbrev pub MovesStaticMove : Type 0
MovesStaticMove = (p : Program Span) (file at : ℕ) (text : List ℕ)
    (f : static.Found p file at text)
    → IsMove p (moved_over p file at text f).region.seen.images f.asked.declared.member.key
    f.other.key

-- Its spots are used, calls through a class too.
abbrev pub MoveStaticIsApart : Type 0
MoveStaticIsApart = (p : Program Span) (file at : ℕ) (text : List ℕ)
    (f : static.Found p file at text) (n : ℕ)
    → SpotsAreApart ((moved_over p file at text f).spots n)

-- ---- move instance

module _ (p : Program Span) (file at : ℕ) (text name : List ℕ)
    (f : instance.Found p file at text name) where
  abbrev pub moved_out : Transform
  moved_out = (instance.move_instance p file at text name).transform f

-- Its spots are used.
abbrev pub MoveInstanceIsApart : Type 0
MoveInstanceIsApart = (p : Program Span) (file at : ℕ) (text name : List ℕ)
    (f : instance.Found p file at text name) (n : ℕ)
    → SpotsAreApart ((moved_out p file at text name f).spots n)
