-- A class that is asked as a made type is taken in the scope that the region sees.
use Rattle.std.proofs.Common.{ℕ, List, [], None, subst}
use Rattle.jr_text.specs.declared.spans.Span.{Span}
use Rattle.jr_table.specs.Keys.{ClassKey}
use Rattle.jr_table.specs.Decls.{class_decl}
use Rattle.jr_table.specs.Scope.{Scope}
use Rattle.jr_table.specs.Lookup.{FindsTypeNamed}
use Rattle.jr_spell.specs.declared.references.RefForm.TheVariants as ref
use Rattle.jr_bind.specs.Programs.{Program}
use Rattle.jr_rewrite.specs.Respellings.{Choice}
use Rattle.jr_images.specs.Spelling.{TakenChoice, reference}
use Rattle.jr_local.specs.Bodies.{begins}
use Rattle.jr_local.specs.Selecting.{Selected}
use Rattle.jr_local.specs.Extracted.{from_there}
use Rattle.jr_local_walks.specs.Walked.{number, there}
use Rattle.jr_local_walks.proofs.Rooms.{behind_agrees}
use Rattle.jr_local_premises.specs.TypePremises.{TypesAreWritten}

-- as it is taken in a scope
abbrev TakenAt : (p : Program Span) (file from to : ℕ) (name : List ℕ) (x : Selected p file from to) (at : ℕ) → ClassKey → Choice → Scope → Type 0
TakenAt p file from to name x at k h s = TakenChoice begins p.rows (from_there p file from to name x) s at k.name k.name (class_decl k) (class_decl k) (reference ref.ClassName k.name None []) (FindsTypeNamed p.rows s k.name) h

pub types_are_written : TypesAreWritten
types_are_written p file from to name x depth k at h row order made =
    let there_it = there p file from to name x in
    subst (TakenAt p file from to name x at k h) (behind_agrees (number p file from to name x) name x.type p.rows there_it.member there_it row begins depth order).scope made
