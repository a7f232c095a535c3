-- Keys of what doesn't move stay, and the member that moves gets a key that no other has.
use Rattle.std.proofs.Common.{◌≡◌, ◌≢◌, ◌∙◌, ◌||◌, ℕ, Bool, true, false, List, Some, Decides, refl, sym, ap, if◌then◌else◌}
use Rattle.std.specs.Prelude.{slice_get}
use Rattle.std.proofs.lemmas.Bool.{both_ways}
use Rattle.jr_text.specs.declared.spans.Span.{Span}
use Rattle.jr_table.specs.Keys.{ClassKey, FieldKey, MethodKey}
use Rattle.jr_table.specs.Decls.{MemberKey, head, field, method, constructor}
use Rattle.jr_table.specs.SameDecls.{same_member, member_decides, same_decl, decl_decides}
use Rattle.jr_table.specs.Rows.{Row}
use Rattle.jr_table.specs.Entries.{IsRowOf}
use Rattle.jr_members.specs.WrittenMembers.{decl_of_member}
use Rattle.jr_bind.specs.Programs.{Program}
use Rattle.jr_images.specs.Regions.{Images, image_of_member}
use Rattle.jr_member_parts.specs.InTheWay.{in_class}
use Rattle.jr_member_moves.specs.Places.{field_moved, method_moved, moved_images}
use Rattle.jr_member_parts.specs.InTheWay.{is_in_the_way}
use Rattle.jr_member_moves.specs.PullUp.{key}
use Rattle.jr_member_moves.specs.Laws.{OthersStay, IsMove, PullsUpMove, MovesStaticMove}

-- by a test, one of two
chosen : {T P : Type 0} (b : Bool) → Decides b P → (x y : T) → P → (if b then x else y) ≡ x
chosen true d x y h = refl
chosen false d x y h = absurd (both_ways false refl (d.1 h))

passed : {T P : Type 0} (b : Bool) → Decides b P → (x y : T) → (P → ⊥) → (if b then x else y) ≡ y
passed true d x y h = absurd (h (d.0 refl))
passed false d x y h = refl

pub others_stay : OthersStay
others_stay moved to k other =
    passed (same_member (field k) moved) (member_decides (field k) moved) (record { class = to; name = k.name }) k other

module _ (moved : MemberKey) (to : ClassKey) where
  field_stays : (k : FieldKey) → field k ≢ moved → field (field_moved moved to k) ≡ field k
  field_stays k other = ap (λ x. field x) (others_stay moved to k other)

  method_stays : (k : MethodKey) → method k ≢ moved → method (method_moved moved to k) ≡ method k
  method_stays k other =
      ap (λ x. method x) (passed (same_member (method k) moved) (member_decides (method k) moved) (record { class = to; name = k.name; params = k.params }) k other)

  field_goes : (k : FieldKey) → field k ≡ moved → field (field_moved moved to k) ≡ in_class to (field k)
  field_goes k is = ap (λ x. field x) (chosen (same_member (field k) moved) (member_decides (field k) moved) (record { class = to; name = k.name }) k is)

  method_goes : (k : MethodKey) → method k ≡ moved → method (method_moved moved to k) ≡ in_class to (method k)
  method_goes k is =
      ap (λ x. method x) (chosen (same_member (method k) moved) (member_decides (method k) moved) (record { class = to; name = k.name; params = k.params }) k is)

first_false : (a b : Bool) → (a || b) ≡ false → a ≡ false
first_false true b e = e
first_false false b e = refl

module _ (p : Program Span) (moved : MemberKey) (to : ClassKey) (new : List Row)
    (free : (i : ℕ) (r : Row) → slice_get p.rows i ≡ Some r → is_in_the_way to moved r ≡ false) where
  abbrev m : Images
  m = moved_images moved to new

  goes : (k : MemberKey) → k ≡ moved → image_of_member m k ≡ in_class to k
  goes (head k) is = refl
  goes (field k) is = field_goes moved to k is
  goes (method k) is = method_goes moved to k is
  goes (constructor k) is = refl

  others : (k : MemberKey) → k ≢ moved → image_of_member m k ≡ k
  others (head k) other = refl
  others (field k) other = field_stays moved to k other
  others (method k) other = method_stays moved to k other
  others (constructor k) other = refl

  -- no declared member has the new key
  none_there : (k : MemberKey) (j : ℕ) → IsRowOf p.rows (decl_of_member k) j → k ≢ in_class to moved
  none_there k j r is =
      let declares : r.row.decl ≡ decl_of_member (in_class to moved) = r.declares ∙ ap decl_of_member is in
      both_ways (same_decl r.row.decl (decl_of_member (in_class to moved)))
      (first_false (same_decl r.row.decl (decl_of_member (in_class to moved))) _ (free j r.row r.stands))
      ((decl_decides r.row.decl (decl_of_member (in_class to moved))).1 declares)

  alone : (k : MemberKey) (j : ℕ) → IsRowOf p.rows (decl_of_member k) j → image_of_member m k ≡ image_of_member m moved → k ≡ moved
  alone k j r same = by_test (same_member k moved) (member_decides k moved)
    where
      by_test : (b : Bool) → Decides b (k ≡ moved) → k ≡ moved
      by_test true d = d.0 refl
      by_test false d =
          let other : k ≢ moved = (λ e. both_ways false refl (d.1 e)) in
          absurd (none_there k j r (sym (others k other) ∙ (same ∙ goes moved refl)))

  is_move : IsMove p m moved to
  is_move = record {
    classes = λ k. refl;
    constructors = λ k. refl;
    names = λ d old. refl;
    goes = goes moved refl;
    others = others;
    alone = alone;
  }

pub pulls_up_move : PullsUpMove
pulls_up_move p file at f = is_move p f.declared.member.key (key p file at f) _ f.free.free

pub moves_static_move : MovesStaticMove
moves_static_move p file at text f =
    is_move p f.asked.declared.member.key f.other.key _ f.free
