-- Extract and inline local leave rows and first values.
use Rattle.std.proofs.Common.{◌≡◌, ℕ, List, [], Option, Some, Bool, true, false, refl}
use Rattle.std.specs.Prelude.{nat_eq, slice_get}
use Rattle.jr_text.specs.declared.spans.Span.{Span}
use Rattle.jr_ast.specs.Tree as tree
use Rattle.jr_ast.specs.MemberTree as syntax
use Rattle.jr_table.specs.Keys.{ClassKey}
use Rattle.jr_table.specs.Context.{Context}
use Rattle.jr_table.specs.Binding.{Role}
use Rattle.jr_bind.specs.Programs.{Program}
use Rattle.jr_cursor.specs.TargetLaws.{OneIsTarget}
use Rattle.jr_first_values.specs.Laws.{FirstValuesAreOne}
use Rattle.jr_rewrite.specs.Spots.{Asks, Spotted}
use Rattle.jr_kept_references.specs.MembersAlong.{MembersStay, ClassStays}
use Rattle.jr_plan.specs.Transforms.{Transform}
use Rattle.jr_local.specs.Extracted as extracted
use Rattle.jr_local.specs.Inlined as inlined
use Rattle.jr_local_search.specs.DeclarationLaws.{WaysAreDeclared}
use Rattle.jr_local_plans.proofs.BodiesOnce as plans
use Rattle.jr_local_plans.proofs.ExtractMade as extract_made
use Rattle.jr_local_plans.proofs.InlineMade as inline_made
use Rattle.jr_untouched_parts.specs.Staying.{PartStays, ThisStays}
use Rattle.jr_untouched_parts.proofs.LocalSights.{around_sees, without_sees}
use Rattle.jr_kept_rows.specs.Staying.{ExtractsKeepPrograms, InlinesKeepPrograms}
use Rattle.jr_kept_rows.proofs.Heads.{Laws, LeavesHeads}
use Rattle.jr_kept_rows.proofs.SamePrograms.{programs_stay}

nothing_there : {X : Type 0} (i : ℕ) (x : X) → (let none : List X = [] in slice_get none i ≡ Some x) → ⊥
nothing_there i x e = cc

-- a file's spots ask for no expression, no members and no class
record AsksForLists (S : Spotted Span) : Type 0 where
  part : (k : Asks) (c : Context) (r : Role) (base : ℕ) (e : tree.Exp Span) → PartStays S k c r base e
  this : ThisStays S
  members : (base : ℕ) (of : ClassKey) (xs : syntax.Members Span) → MembersStay S base of xs
  whole : (base : ℕ) (outer : Option (List ℕ)) (c : syntax.Class Span) → ClassStays S base outer c

-- ---- extract local

module _ (p : Program Span) (file from to : ℕ) (name : List ℕ) (f : extracted.Found p file from to name) where
  abbrev extracts : Transform
  extracts = (extracted.extract_local p file from to name).transform f

  extract_spots : (b : Bool) → AsksForLists (extracted.spots_if p file from to name f.selected f.text f.items f.type b)
  extract_spots true = record { part = λ k c r base e. tt; this = tt; members = λ base of xs. tt; whole = λ base outer c. tt }
  extract_spots false = record { part = λ k c r base e. tt; this = tt; members = λ base of xs. tt; whole = λ base outer c. tt }

  extract_leaves : LeavesHeads p extracts
  extract_leaves = record {
    keys = refl;
    sees = λ k b. around_sees p.rows (extracted.made p file from to name f.selected) name f.selected.type _;
    part = λ n k c r base e. (extract_spots (nat_eq n file)).part k c r base e;
    this = λ n. (extract_spots (nat_eq n file)).this;
    members = λ n base of xs. (extract_spots (nat_eq n file)).members base of xs;
    whole = λ n base outer c. (extract_spots (nat_eq n file)).whole base outer c;
  }

pub extracts_stay : Laws → plans.Laws → FirstValuesAreOne Span → ExtractsKeepPrograms
extracts_stay laws found one p q file from to name edits renaming respelled is read =
    programs_stay laws one p q (extracts p file from to name is.found) (extract_leaves p file from to name is.found)
    (extract_made.make_alike found p p.super_at p.bounds read.before read.before file from to name is.found is.found) is.becomes read

-- ---- inline local

module _ (p : Program Span) (file at : ℕ) (f : inlined.Found p file at) where
  abbrev inlines : Transform
  inlines = (inlined.inline_local p file at).transform f

  inline_spots : (b : Bool) → AsksForLists (inlined.spots_if p file at f.asked f.type f.text f.items f.copies b f.gone)
  inline_spots true = record { part = λ k c r base e. tt; this = tt; members = λ base of xs. tt; whole = λ base outer c. tt }
  inline_spots false = record { part = λ k c r base e. tt; this = tt; members = λ base of xs. tt; whole = λ base outer c. tt }

  inline_leaves : LeavesHeads p inlines
  inline_leaves = record {
    keys = refl;
    sees = λ k b. without_sees p.rows f.asked.key f.type _ (λ i l e. absurd (nothing_there i l e));
    part = λ n k c r base e. (inline_spots (nat_eq n file)).part k c r base e;
    this = λ n. (inline_spots (nat_eq n file)).this;
    members = λ n base of xs. (inline_spots (nat_eq n file)).members base of xs;
    whole = λ n base outer c. (inline_spots (nat_eq n file)).whole base outer c;
  }

pub inlines_stay : Laws → plans.Laws → WaysAreDeclared → OneIsTarget → FirstValuesAreOne Span → InlinesKeepPrograms
inlines_stay laws found declared targets one p q file at edits renaming respelled is read =
    programs_stay laws one p q (inlines p file at is.found) (inline_leaves p file at is.found)
    (inline_made.make_alike found declared targets p p.super_at p.bounds read.before read.before file at is.found is.found) is.becomes read
