use Rattle.std.proofs.Common.{ℕ, map, option_map}
use Rattle.jr_table.specs.Keys.{ClassKey, Ty}
use Rattle.jr_table.specs.DeclaredItems.{Written}
use Rattle.jr_build_rows.specs.declared.signatures.Signature as raw
use Rattle.jr_build_hierarchy.specs.HierarchyView.{hierarchy_of}
use Rattle.jr_build_places.specs.Places.{place_of, IsEarliest}
use Rattle.jr_build_declared.specs.DeclarationFaults.{Among}
use Rattle.jr_build_rows.specs.Signatures.{TwiceMemberAt, number_under}
use Rattle.jr_build_declared.specs.DeclaredView.{declaration_of}
use Rattle.jr_build_rows.proofs.TwiceMemberLaws.{Knows}
use Rattle.jr_build_rows.proofs.twice_members.twice_member.Given as goal

-- it is the earliest among the declarations so far, whose signatures are in the index
abbrev pub invariant-loop-number : goal.invariant-loop-number
invariant-loop-number l = record {
  first : IsEarliest (Among (map declaration_of l.declarations) (TwiceMemberAt (map declaration_of l.declarations)) l.number)
      (option_map place_of l.first);
  index : (s : raw.Signature) → Knows (map declaration_of l.declarations) (hierarchy_of l.h) l.number s (number_under l.index s);
}
