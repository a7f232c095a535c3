-- What is found stands in the written member of its number, which is no head of a class, as it has a body.
use Rattle.std.proofs.Common.{◌≡◌, ℕ, ◌<◌, List, length, map, Option, Some, refl, sym, ap, subst, ◌∙◌}
use Rattle.std.specs.Prelude.{option_map, slice_get}
use Rattle.std.proofs.lemmas.List.{length-map}
use Rattle.std.proofs.lemmas.Option.{slice_get-map, slice_get_within, same_Some}
use Rattle.jr_text.specs.declared.spans.Span.{Span}
use Rattle.jr_ast.specs.MemberTree as syntax
use Rattle.jr_table.specs.Decls.{MemberKey}
use Rattle.jr_table.specs.Errors.{Part, class_part, member_part}
use Rattle.jr_members.specs.WrittenMembers.{WrittenMember}
use Rattle.jr_bind.specs.Bounds.{Bound}
use Rattle.jr_bind.specs.Programs.{Program}
use Rattle.jr_bodies.specs.Bodies.{Body, body_of}
use Rattle.jr_bodies.proofs.Coded.{no_body}
use Rattle.jr_local_finds.specs.Chosen.{Chosen, members_of}
use Rattle.jr_local_finds.specs.Extracts.{IsFound}
use Rattle.jr_extract_lists.specs.Targets.{IsMemberOf}

is_part : (k : MemberKey) (base : ℕ) (part : Part Span) (bound : Bound) (b : Body) → body_of k base part bound ≡ Some b → (m : syntax.Member Span) × (part ≡ member_part m)
is_part k base (class_part c) bound b e = absurd (no_body b e)
is_part k base (member_part m) bound b e = (m, refl)

-- items: the members as a call has them
module _ (p : Program Span) (file from to : ℕ) (name : List ℕ) (x : Chosen) (number : ℕ) (f : IsFound p file from to name x number) {X : Type 0} (view : X → WrittenMember Span) (items : List X) (are : map view items ≡ members_of p) where
  stands : slice_get (members_of p) x.member ≡ Some f.selected.has.has.member
  stands = ap (slice_get (members_of p)) (sym f.selected.has.number) ∙ f.selected.has.has.written

  pub is_there : x.member < length items
  is_there = subst (λ (n : ℕ). x.member < n) (sym (ap length are) ∙ length-map items view) (slice_get_within (members_of p) x.member f.selected.has.has.member stands)

  pub member_of : (w : X) → slice_get items x.member ≡ Some w → IsMemberOf p (view w) x
  member_of w e =
      let here : slice_get (members_of p) x.member ≡ Some (view w) = ap (λ (l : List (WrittenMember Span)). slice_get l x.member) (sym are) ∙ slice_get-map view items x.member ∙ ap (option_map view) e in
      let same : f.selected.has.has.member ≡ view w = same_Some f.selected.has.has.member (view w) (sym stands ∙ here) in
      let h = f.selected.has.has in
      record {
        stands = here;
        is_member = subst (λ (v : WrittenMember Span). (m : syntax.Member Span) × (v.part ≡ member_part m)) same (is_part h.member.key h.member.base h.member.part _ _ h.is);
      }
