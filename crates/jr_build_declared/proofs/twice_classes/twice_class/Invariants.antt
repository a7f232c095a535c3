use Rattle.std.proofs.Common.{map, option_map}
use Rattle.jr_build_declared.specs.KeyIndex.{class_key_at, IsIndexOf}
use Rattle.jr_build_places.specs.Places.{place_of, IsEarliest}
use Rattle.jr_build_declared.specs.DeclarationFaults.{Among, TwiceClassAt}
use Rattle.jr_build_declared.specs.DeclaredView.{declaration_of}
use Rattle.jr_build_declared.proofs.twice_classes.twice_class.Given as goal

-- it is the earliest among the declarations so far, whose classes are in the index
abbrev pub invariant-loop-number : goal.invariant-loop-number
invariant-loop-number l = record {
  first : IsEarliest (Among (map declaration_of l.declarations) (TwiceClassAt (map declaration_of l.declarations)) l.number)
      (option_map place_of l.first);
  index : IsIndexOf class_key_at (map declaration_of l.declarations) l.number l.index;
}
