-- The lines of the dependences in written members: those of each member, by what it is bound to,
-- and those of several, one behind the other.
use Rattle.std.specs.Prelude.{
  ◌≡◌,
  ◌==◌,
  ◌↔◌,
  ◌<◌,
  ◌≤◌,
  ◌+◌,
  ℕ,
  List,
  [],
  ◌∷◌,
  ◌++◌,
  filter,
  Option,
  Some,
}
use Rattle.jr_text.specs.declared.spans.Span.{Span}
use Rattle.jr_lex.specs.declared.items.Item.{Item}
use Rattle.jr_ast.specs.MemberTree.{Member}
use Rattle.jr_ast.specs.Marks.{member_mark}
use Rattle.jr_table.specs.Keys.{FieldKey, Ty}
use Rattle.jr_table.specs.Decls.{MemberKey, Decl}
use Rattle.jr_table.specs.Rows.{Row}
use Rattle.jr_table.specs.Errors.{Part, class_part, member_part, Binds}
use Rattle.jr_table.specs.TypesAt.{TypeAt}
use Rattle.jr_bind.specs.Bounds.{FitsWhole}
use Rattle.jr_code.specs.RunKeys.{RunKeys}
use Rattle.jr_cover.specs.Sites.{Site}
use Rattle.jr_cover.specs.Ways.{Way, size}
use Rattle.jr_expr_sites.specs.KnownFacts.{Given, Others}
use Rattle.jr_cfg.specs.MemberRoutes.{IsKeyOf, HasKey, NumbersMember}
use Rattle.jr_cfg.specs.MemberRoutes as routes
use Rattle.jr_member_graphs.specs.OwnFlags.{own, TellsNeverNull}
use Rattle.jr_members.specs.WrittenMembers.{WrittenMember}
use Rattle.jr_program_laws.specs.FileParts.{begins}
use Rattle.jr_program.specs.Members.{EachOf, IsMemberPlace}
use Rattle.jr_dependence_lines.specs.Lines.{Line}
use Rattle.jr_dependence_lines.specs.WayLines.{AreWayLines, most_sites}

-- a span is itself, wherever the parent begins
abbrev pub tells : Span → ℕ → Span
tells m base = m

-- ---- of one member

module _ (rows : List Row) (items : List Item) (key : MemberKey) (base : ℕ) (x : Member Span) where
  -- what is known of the member, whose parent begins at `base`: its own binding
  pub record IsKnown (super_at : ℕ) (g : Given) : Type 0 where
    pub is_key : HasKey key x
    -- where its written `super(..)` stands
    pub place : IsMemberPlace items x super_at
    -- what each reference means, by its place from the member's first byte
    pub decls : ℕ → Option Decl
    pub binds : (at : ℕ) (d : Decl) → (decls at ≡ Some d)
        ↔ Binds begins rows super_at key base (member_part x) (begins (member_mark x) base + at) d
    -- the type of each expression, by the path to it
    pub types : List ℕ → Option Ty
    pub has : (path : List ℕ) (t : Ty) → (types path ≡ Some t)
        ↔ TypeAt begins rows key x path t
    pub is : g ≡ own tells rows key decls types base x
    -- a value is taken for never null exactly where the rules say so
    pub tests : TellsNeverNull tells base g x

  -- the property holds of the member's way, whatever else resolved code is given
  abbrev pub OfWay : (super_at : ℕ) → Given → (Way (Site RunKeys) → Type 0) → Type 0
  OfWay super_at g P = (k : FieldKey) (o : Others) → IsKeyOf g.member k x
      → NumbersMember tells base x o → P (routes.member tells super_at base k x g o)

  -- by its own binding, the property holds of what is known of it and of its way
  pub record Has (P : Given → Way (Site RunKeys) → Type 0) : Type 0 where
    pub super_at : ℕ
    pub given : Given
    pub known : IsKnown super_at given
    pub holds : OfWay super_at given (P given)

module _ (rows : List Row) (items : List Item) where
  -- the head of a class has no sites
  abbrev pub PartHasLines : MemberKey → (base : ℕ) → Part Span → List Line → Type 0
  PartHasLines key base (class_part c) lines = lines ≡ []
  PartHasLines key base (member_part x) lines =
      Has rows items key base x (λ g way. AreWayLines g way lines)

  abbrev pub PartHasFewSites : MemberKey → (base : ℕ) → Part Span → Type 0
  PartHasFewSites key base (class_part c) = Unit {0}
  PartHasFewSites key base (member_part x) =
      Has rows items key base x (λ g way. size way ≤ most_sites)

  -- it has so many sites, which are too many
  abbrev pub PartHasTooManySites : MemberKey → (base : ℕ) → Part Span → (count : ℕ) → Type 0
  PartHasTooManySites key base (class_part c) count = ⊥
  PartHasTooManySites key base (member_part x) count =
      Has rows items key base x (λ g way. (most_sites < size way) × (count ≡ size way))

  abbrev pub HasLines : WrittenMember Span → List Line → Type 0
  HasLines w lines = PartHasLines w.key w.base w.part lines

  abbrev pub HasFewSites : WrittenMember Span → Type 0
  HasFewSites w = PartHasFewSites w.key w.base w.part

  abbrev pub HasTooManySites : WrittenMember Span → (count : ℕ) → Type 0
  HasTooManySites w count = PartHasTooManySites w.key w.base w.part count

  -- ---- of several

  -- one behind the other, in their order
  abbrev pub HaveLines : List (WrittenMember Span) → List Line → Type 0
  HaveLines [] lines = lines ≡ []
  HaveLines (w ∷ ws) lines = (front : List Line) × (back : List Line) × HasLines w front
      × HaveLines ws back × (lines ≡ front ++ back)

  -- the first that has too many sites, and how many
  pub record IsFirstLarge (ws : List (WrittenMember Span)) (key : MemberKey) (count : ℕ)
      : Type 0 where
    pub front : List (WrittenMember Span)
    pub large : WrittenMember Span
    pub back : List (WrittenMember Span)
    pub split : ws ≡ front ++ large ∷ back
    pub few : EachOf HasFewSites front
    pub is_key : key ≡ large.key
    pub many : HasTooManySites large count

-- those of the file of the number
abbrev pub in_file : (file : ℕ) → List (WrittenMember Span) → List (WrittenMember Span)
in_file file ws = filter (λ (w : WrittenMember Span). w.file == file) ws

-- ---- for clauses of calls

-- the key of a field's part is one of fields, and the places of its nodes fit
abbrev pub CanShowPart : MemberKey → (base : ℕ) → Part Span → Type 0
CanShowPart key base (class_part c) = Unit {0}
CanShowPart key base (member_part x) =
    HasKey key x × FitsWhole begins (λ m at. Unit {0}) base (member_part x)

abbrev pub CanShow : WrittenMember Span → Type 0
CanShow w = CanShowPart w.key w.base w.part
