-- What extract local keeps: outside of the list that is made anew each reference of the program is
-- bound to the image of its declaration, and so is each in that list; the name that is put there
-- means the made local.
use Rattle.std.specs.Prelude.{◌≡◌, ℕ, suc, ◌+◌, List, [], Some, false, slice_get}
use Rattle.jr_text.specs.declared.spans.Span.{Span}
use Rattle.jr_ast.specs.Tree as tree
use Rattle.jr_ast.specs.StatementTree as statement
use Rattle.jr_ast.specs.MemberTree as syntax
use Rattle.jr_ast.specs.Marks.{stmt_mark}
use Rattle.jr_grammar.specs.Layout.{itself}
use Rattle.jr_table.specs.Decls.{local_decl}
use Rattle.jr_table.specs.DeclaredItems.{declarations_of}
use Rattle.jr_table.specs.Found.{one}
use Rattle.jr_table.specs.Lookup.{FindsVariable}
use Rattle.jr_table.specs.Context.{
  Context,
  scope_of,
  WritesType,
  local_key,
  local_of,
  with_local,
  in_own,
  after,
  locals_in,
}
use Rattle.jr_table.specs.Binding.{Role, value}
use Rattle.jr_bind.specs.Programs.{Program, IsProgram, units_of}
use Rattle.jr_rewrite.specs.Rewritten.{Rewritten}
use Rattle.jr_rewrite.specs.Spots.{Spotted, nowhere, spotted}
use Rattle.jr_images.specs.Regions.{Region}
use Rattle.jr_plan.specs.Transforms.{Transform, Transformed, all_lost}
use Rattle.jr_bodies.specs.Bodies.{begins}
use Rattle.jr_local.specs.Selecting.{at_value, element}
use Rattle.jr_local.specs.Extracted as extracted
use Rattle.jr_kept_references.specs.InRegions.{member_in}
use Rattle.jr_kept_references.specs.KeptInRegions.{
  IsTypeKeptIn,
  IsKeptIn,
  IsSuperKeptIn,
  IsParentKeptIn,
}
use Rattle.jr_kept_references.specs.AlongSpots.{SpotStands, AlongSpots}
use Rattle.jr_kept_references.specs.StatementsAlong.{ListSpotStands, StmtBeside, ListBeside}
use Rattle.jr_kept_references.specs.MembersAlong.{
  MembersSpotStands,
  ClassSpotStands,
  UnitBeside,
}
use Rattle.jr_local_ways.specs.Elements.{entered}
use Rattle.jr_untouched_parts.specs.Around.{held}

module _ (p : Program Span) (file from to : ℕ) (name : List ℕ)
    (f : extracted.Found p file from to name) where
  abbrev pub around : Region Span
  around = extracted.around p file from to name f.selected

  abbrev pub from_there : Region Span
  from_there = extracted.from_there p file from to name f.selected

  abbrev pub of_piece : Region Span
  of_piece = extracted.of_piece p file from to name f.selected

  -- in a region: the reference of an expression is bound to the image of its declaration, and a
  -- written type means the image of what it meant
  abbrev pub Keeps : Region Span → Context → Context → Role → (base : ℕ) → tree.Exp Span
      → (base2 : ℕ) → tree.Exp Span → Type 0
  Keeps R c d r b e i y = IsKeptIn begins p.rows R c d r b e i y

  abbrev pub Writes : Region Span → Context → Context → (base : ℕ) → tree.TypeName Span
      → (base2 : ℕ) → tree.TypeName Span → Type 0
  Writes R c d b t i u = IsTypeKeptIn R p.rows (scope_of c) (scope_of d) t u

  -- the name stands in the place of the expression
  abbrev pub named : Spotted Span
  named = spotted (extracted.name_spot p file from to name f.selected f.items)

  -- The list from the statement on, where n and z are the numbers of the next locals in the old
  -- program and in the new one, and this is known in each.
  pub record InSpot (n z : ℕ) (c d : Context) (b : ℕ) (xs : statement.Stmts Span) (i : ℕ)
      (ys : statement.Stmts Span) : Type 0 where
    pub next : n ≡ (element f.selected).at.next
    pub context : c ≡ (element f.selected).at.context
    pub list : xs ≡ held (element f.selected)
    pub number : z ≡ n
    pub member : d.member ≡ c.member
    -- what it has become: a declaration, the statement, and those behind it
    pub type : tree.TypeName Span
    pub init : tree.Exp Span
    pub stmt : statement.Stmt Span
    pub rest : statement.Stmts Span
    pub is : ys ≡ statement.more (extracted.declaration name (stmt_mark (element f.selected).stmt)
        type init) (statement.more stmt rest)
    -- the type that is written means that of the expression
    pub written : WritesType p.rows (scope_of d) type f.selected.type
    -- the expression has become the initializer, in which the made local is in scope
    pub moved : (j : ℕ) → AlongSpots begins begins (Keeps of_piece) (Writes of_piece)
        (SpotStands nowhere) (at_value f.selected).context (in_own d (local_of d z false type
        (extracted.word_of (stmt_mark (element f.selected).stmt) name))) value
        (at_value f.selected).base j f.selected.value init
    -- the statement, with the name in the expression's place, and those behind it
    pub first : StmtBeside begins begins (Keeps from_there) (Writes from_there) (SpotStands named)
        (ListSpotStands named) n (suc z) c (with_local d (local_of d z false type
        (extracted.word_of (stmt_mark (element f.selected).stmt) name))) b i
        (element f.selected).stmt stmt
    pub others : ListBeside begins begins (Keeps from_there) (Writes from_there)
        (SpotStands nowhere) (ListSpotStands nowhere) (n + locals_in (element f.selected).stmt)
        (suc z + locals_in stmt) (after n c (element f.selected).stmt) (after (suc z) (with_local d
        (local_of d z false type (extracted.word_of (stmt_mark (element f.selected).stmt) name)))
        stmt) b i (element f.selected).rest rest
    -- the name means the made local where it is put: at the statement, or in its initializer
    pub bound : FindsVariable p.rows (scope_of (entered (suc z) stmt (with_local d (local_of d z
        false type (extracted.word_of (stmt_mark (element f.selected).stmt) name))))) name
        (one (local_decl (local_key d z)))

  abbrev pub transform : Transform
  transform = (extracted.extract_local p file from to name).transform f

  -- a file, side by side with what has become of it
  abbrev pub FileKept : (n : ℕ) → syntax.Unit Span → syntax.Unit Span → Type 0
  FileKept n u v = UnitBeside begins begins (Keeps around) (Writes around)
      (SpotStands (transform.spots n)) InSpot (λ c d args es. IsSuperKeptIn begins p.rows around c
      d args es) (IsParentKeptIn p.rows around) (MembersSpotStands (transform.spots n))
      (ClassSpotStands (transform.spots n)) (member_in around)
      (declarations_of begins (units_of p)) u v

-- Where nothing is lost, in each file each reference is bound, at its place in the new trees, to
-- the image of its declaration.
abbrev pub KeepsReferences : Type 0
KeepsReferences = (p : Program Span) → IsProgram itself (λ m b. Unit {0}) p → (file from to : ℕ)
    (name : List ℕ) (f : extracted.Found p file from to name)
    (becomes : Transformed p (transform p file from to name f))
    → all_lost becomes.files becomes.also_lost ≡ [] → (n : ℕ) (u : syntax.Unit Span)
    (o : Rewritten (syntax.Unit Span)) → slice_get (units_of p) n ≡ Some u
    → slice_get becomes.files n ≡ Some o → FileKept p file from to name f n u o.tree
