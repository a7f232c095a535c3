-- What a program becomes where a member goes to the end of another class: a spot in the list of
-- members from which it goes, one at the class to which it comes, and of a static method that is moved
-- one at each call through a class.
use Rattle.std.specs.Prelude.{◌≡◌, ◌⊎◌, ℕ, ◌+◌, ◌-◌, nat_eq, Bool, true, false, ◌&&◌, List, [], ◌∷◌, ◌++◌, map, Option, Some, slice_get, ◌||◌}
use Rattle.std.specs.List.{list_any}
use Rattle.jr_text.specs.declared.spans.Span.{Span}
use Rattle.jr_lex.specs.declared.items.Item.{Item}
use Rattle.jr_lex.specs.declared.items.TokenKind.TheVariants.{Mark}
use Rattle.jr_lex.specs.declared.items.Symbol.TheVariants.{CloseBrace, Semicolon}
use Rattle.jr_lex.specs.Lexes.{Lexes}
use Rattle.jr_ast.specs.declared.operators.ModWord.{ModWord}
use Rattle.jr_ast.specs.declared.operators.ModWord.TheVariants as modifier
use Rattle.jr_ast.specs.Tree as tree
use Rattle.jr_ast.specs.MemberTree as syntax
use Rattle.jr_grammar.specs.Layout.{itself}
use Rattle.jr_layout.specs.Layouts.{IsRemoval, IsClassEnd}
use Rattle.jr_table.specs.Keys.{ClassKey, class}
use Rattle.jr_table.specs.Decls.{head}
use Rattle.jr_table.specs.DeclaredItems.{DeclaredItem, declarations_of, class_key}
use Rattle.jr_table.specs.HeadRules.{plain as no_locals}
use Rattle.jr_table.specs.Context.{Context}
use Rattle.jr_table.specs.Errors.{class_part}
use Rattle.jr_members.specs.WrittenMembers.{WrittenMember, written_members}
use Rattle.jr_bind.specs.Programs.{Program, units_of}
use Rattle.jr_rewrite.specs.Respellings.{Loss, Change}
use Rattle.jr_rewrite.specs.Rewritten.{Rewritten, plain, change}
use Rattle.jr_rewrite.specs.Spots.{Spotted, nowhere}
use Rattle.jr_rewrite.specs.Rewrites.{
  Choosing,
  RewritesHead,
  TransformsMember,
  TransformsMembers,
}
use Rattle.jr_rewrite.specs.Woven.{Fronts, with_changes}
use Rattle.jr_images.specs.Regions.{Images, Region}
use Rattle.jr_images.specs.Spelling.{choosing}
use Rattle.jr_plan.specs.Transforms.{Lost, made, Transform}
use Rattle.jr_local.specs.Bodies.{begins}
use Rattle.jr_local.specs.Texts.{HasText, EndsToken}
use Rattle.jr_local.specs.Extracted.{WritesType}
use Rattle.jr_member_moves.specs.Places as place
use Rattle.jr_member_moves.specs.Selecting.{
  Declared,
  mark_of,
  class_of,
  is_static,
}
use Rattle.jr_member_moves.specs.Calls.{IsThroughClass, Calls, calls_in}
use Rattle.jr_member_parts.specs.Receivers.{depth_of}
use Rattle.jr_member_parts.specs.TwoPlaces.{TwoPlaces, spots_if}
use Rattle.jr_member_moves.specs.Texts.{
  AreDropped,
  IsWrapped,
  without,
  wrapped,
  modifiers_of,
  at_byte,
}

-- members with one behind the last
abbrev pub with_last : syntax.Members Span → syntax.Member Span → syntax.Members Span
with_last syntax.end x = syntax.more x syntax.end
with_last (syntax.more y ys) x = syntax.more y (with_last ys x)

abbrev pub is_synchronized : ModWord → Bool
is_synchronized modifier.Synchronized = true
is_synchronized _ = false

abbrev pub is_private : ModWord → Bool
is_private modifier.Private = true
is_private _ = false

abbrev pub none : ModWord → Bool
none w = false

-- a member is pulled up to its superclass, or a static method is moved to a class that is named
pub data Journey : Type 0 where
  upward : Journey
  aside : Journey

-- the words that are dropped, of a method that is locked or not
abbrev pub drops_if : Journey → Bool → ModWord → Bool
drops_if upward true w = is_synchronized w
drops_if upward false w = none w
drops_if aside b w = is_private w || is_synchronized w

module _ (p : Program Span) (file at : ℕ) (x : Declared p file at) (to : ClassKey) (j : Journey)
  where
    -- a static synchronized method would have the new class's monitor: it loses the word, and its
    -- body stands in that of the old class
    abbrev pub is_locked : Bool
    is_locked = is_static x && list_any is_synchronized x.row.modifiers

    abbrev pub drops : ModWord → Bool
    drops = drops_if j is_locked

    abbrev pub images : Images
    images = place.moved_images x.member.key to
        (place.rows_with drops x.member.key to x.row p.rows)

    abbrev pub around : Region Span
    around = place.around p.rows images

    abbrev pub within : Region Span
    within = place.within p.rows images to

    abbrev pub choices : Region Span → Choosing Span
    choices R = choosing begins p.rows R (λ (c : Context). p.super_at c.member)

    -- ---- the member

    -- the old class as it is written in the new one, where the body has its monitor
    abbrev pub WritesLock : Rewritten (tree.TypeName Span) → Type 0
    WritesLock o = WritesType p.rows within (no_locals x.member.key true) at
        (mark_of x.declaration) (class (class_of x)) o

    abbrev pub LocksIf : Bool → List Item → (lock : Rewritten (tree.TypeName Span))
        → (inner all : List Change) → Type 0
    LocksIf true items lock inner all =
        WritesLock lock × IsWrapped items (mark_of x.declaration) lock.tree inner all
    LocksIf false items lock inner all =
        (lock ≡ plain (tree.int (mark_of x.declaration))) × (inner ≡ all)

    abbrev pub tree_if : Bool → (lock : tree.TypeName Span) → syntax.Member Span
        → syntax.Member Span
    tree_if true lock y = wrapped lock (without drops y)
    tree_if false lock y = without drops y

    -- ---- calls of the method through a class

    -- where nothing comes or goes: a pull up leaves such calls as they are asked, since the class
    -- inherits the method
    abbrev pub calls_of : Journey → Region Span → Spotted Span
    calls_of upward R = nowhere
    calls_of aside R = calls_in p x.member.key to R (depth_of p)

    abbrev pub Call : Journey → Context → (base : ℕ) → tree.Exp Span → Rewritten (tree.Exp Span)
        → Type 0
    Call upward c base e o = ⊥
    Call aside c base e o = Calls p x.member.key to around (calls_of aside around) c base e o

    abbrev pub IsNoCall : Journey → Context → tree.Exp Span → Type 0
    IsNoCall upward c e = Unit {0}
    IsNoCall aside c e = IsThroughClass p x.member.key to c e → ⊥

    -- What the member becomes, of a text with these items: its references in the new class, the
    -- monitor, and all changes within its bytes.
    pub record Moved (text : List ℕ) (items : List Item) : Type 0 where
      pub piece : Rewritten (syntax.Member Span)
      pub moves : TransformsMember itself (choices within) (calls_of j within) x.member.key
          x.member.base x.declaration piece
      pub lock : Rewritten (tree.TypeName Span)
      pub dropped : List Change
      pub inner : List Change
      pub drop : AreDropped text drops (modifiers_of x.declaration) dropped
      pub locks : LocksIf is_locked items lock piece.changes inner

    module _ {text : List ℕ} {items : List Item} (m : Moved text items) where
      abbrev pub moved_tree : syntax.Member Span
      moved_tree = tree_if is_locked m.lock.tree m.piece.tree

      abbrev pub moved_text : List ℕ
      moved_text = with_changes text (mark_of x.declaration) (m.dropped ++ m.inner)

    -- ---- the spots

    -- these are the members from the one that goes on, and the class to which it comes
    abbrev pub IsHeld : ClassKey → syntax.Members Span → Type 0
    IsHeld of syntax.end = ⊥
    IsHeld of (syntax.more y ys) = (of ≡ class_of x) × (y ≡ x.declaration)

    abbrev pub IsNewClass : Option (List ℕ) → syntax.Class Span → Type 0
    IsNewClass outer (syntax.class k mods w t ms) = class_key begins outer w.text ≡ to

    module _ {text : List ℕ} {items : List Item} (m : Moved text items) (gone : Span)
        (put : Change) where
      module _ (declarations : List DeclaredItem) where
        -- from here on the members of the class: the member goes, with the span
        abbrev pub Goes : (rest : Spotted Span) → (base : ℕ) → ClassKey → syntax.Members Span
            → Rewritten (syntax.Members Span) → Type 0
        Goes rest base of syntax.end o = ⊥
        Goes rest base of (syntax.more y ys) o = IsHeld of (syntax.more y ys)
            × (q : Rewritten (syntax.Members Span))
            × TransformsMembers itself (choices around) rest declarations base of ys q
            × (o ≡ record {
              tree = q.tree;
              changes = change gone [] ∷ q.changes;
              respelled = m.piece.respelled + q.respelled;
              losses = m.piece.losses ++ q.losses;
            })

        -- the class: the member comes behind its others
        abbrev pub Comes : (inside : Spotted Span) → (base : ℕ) → Option (List ℕ)
            → syntax.Class Span → Rewritten (syntax.Class Span) → Type 0
        Comes inside base outer (syntax.class k mods w t ms) o =
            IsNewClass outer (syntax.class k mods w t ms)
            × (p : Rewritten (tree.Word Span × Option (tree.TypeName Span)))
            × (q : Rewritten (syntax.Members Span))
            × RewritesHead itself (choices around) outer base (syntax.class k mods w t ms) p
            × TransformsMembers itself (choices around) inside declarations (begins k base) to ms q
            × (o ≡ record {
              tree = syntax.class k mods p.tree.0 p.tree.1 (with_last q.tree (moved_tree m));
              changes = p.changes ++ (q.changes ++ put ∷ []);
              respelled = p.respelled + (q.respelled + m.lock.respelled);
              losses = p.losses ++ q.losses;
            })

        abbrev pub places : TwoPlaces
        places = record {
          beside = calls_of j around;
          Part = Call j;
          PartStays = IsNoCall j;
          IsHeld = IsHeld;
          Goes = Goes;
          IsNewClass = IsNewClass;
          Comes = Comes;
        }

-- ---- the class to which it goes

-- the class is written in a file, and its last brace stands there
pub record IsWritten (p : Program Span) (k : ClassKey) : Type 0 where
  pub number : ℕ
  pub class : WrittenMember Span
  pub written : slice_get (written_members begins p.rows (units_of p)) number ≡ Some class
  pub is : class.key ≡ head k
  pub declaration : syntax.Class Span
  pub part : class.part ≡ class_part declaration

abbrev pub class_mark : syntax.Class Span → Span
class_mark (syntax.class m mods w t ms) = m

module _ (p : Program Span) (file at : ℕ) (x : Declared p file at) (to : ClassKey) (j : Journey)
  where
    -- what goes and comes: the files' texts, what the member becomes, the span that goes, and what is
    -- put
    pub record Carried : Type 0 where
      pub text : List ℕ
      pub items : List Item
      pub is_text : HasText p file text
      pub lexes : Lexes text items
      pub written : IsWritten p to
      pub other_text : List ℕ
      pub is_other_text : HasText p written.class.file other_text
      pub moved : Moved p file at x to j text items
      pub gone : Span
      pub is_gone : IsRemoval text (mark_of x.declaration) gone
      pub put : List ℕ
      pub is_put : IsClassEnd other_text ((class_mark written.declaration).to - 1)
          (moved_text p file at x to j moved) put

    module _ (f : Carried) where
      abbrev pub put_change : Change
      put_change = change (at_byte ((class_mark f.written.declaration).to - 1)) f.put

      abbrev pub spots_of : ℕ → Spotted Span
      spots_of n = spots_if (places p file at x to j f.moved f.gone put_change
          (declarations_of begins (units_of p))) (nat_eq n file) (nat_eq n f.written.class.file)

      -- the class that the monitor names, where it has no spelling; its place is the step's
      abbrev pub lost_lock : List Lost
      lost_lock = map (λ (l : Loss). record { origin = made; file = file; loss = l })
          f.moved.lock.losses

      -- The tokens of a file may stand where they end; behind a member that goes what stands in front
      -- of it; in front of a class's last brace what ends a field, or a body.
      abbrev pub Fronted : ℕ → Fronts
      Fronted n byte k = EndsToken p n byte k
          ⊎ (((n ≡ file) × (byte ≡ f.gone.to) × EndsToken p n f.gone.from k)
          ⊎ ((n ≡ f.written.class.file) × (byte ≡ (class_mark f.written.declaration).to - 1)
          × ((k ≡ Mark Semicolon) ⊎ (k ≡ Mark CloseBrace))))

      -- never 18: nothing that a member does changes places
      abbrev pub carries : Transform
      carries = record {
        region = around p file at x to j;
        spots = spots_of;
        fronts = Fronted;
        AlsoLost = λ lost. lost ≡ lost_lock;
        Crosses = λ kind first second. ⊥;
      }
