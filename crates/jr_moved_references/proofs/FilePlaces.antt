-- The references of a file that is rewritten by a rename.
use Rattle.std.proofs.Common.{◌≡◌, ℕ, zero, suc, true, false, List, [], ◌∷◌, ◌++◌, Option, Some, None, map, refl, sym, ap, ◌∙◌, subst, inl, inr}
use Rattle.std.specs.Prelude.{◌⊎◌, slice_get}
use Rattle.jr_text.specs.declared.spans.Span.{Span}
use Rattle.jr_text.specs.Splices.{splice, IsUntouched, moved_to}
use Rattle.jr_lex.specs.declared.items.Item.{Item}
use Rattle.jr_lex.specs.declared.items.Keyword.TheVariants.{Package}
use Rattle.jr_lex.specs.declared.items.Symbol.TheVariants.{Semicolon, Dot}
use Rattle.jr_lex.specs.Lexes.{Lexes}
use Rattle.jr_lex.specs.Places.{ItemsPlaced}
use Rattle.jr_ast.specs.Tree as tree
use Rattle.jr_ast.specs.MemberTree as syntax
use Rattle.jr_grammar.specs.Bare.{Bare, bare_word, bare_class, bare_unit}
use Rattle.jr_grammar.specs.Tokens.{keyword, symbol, placed_of}
use Rattle.jr_grammar.specs.Layout.{itself}
use Rattle.jr_grammar.specs.MemberLayout.{more_words_layout, package_layout, classes_layout, unit_layouts}
use Rattle.jr_grammar.specs.Stands.{Tokens, InOrder, Stands, StandInOrder}
use Rattle.jr_grammar.specs.Reads.{ReadsWithSpans}
use Rattle.jr_grammar.proofs.Layouts.{all_spans_from-span}
use Rattle.jr_table.specs.Keys.{ClassKey}
use Rattle.jr_table.specs.Decls.{Decl, MemberKey, head, field, method, constructor}
use Rattle.jr_table.specs.Rows.{Row}
use Rattle.jr_table.specs.Conditions.{AreRows}
use Rattle.jr_table.specs.Found.{one}
use Rattle.jr_table.specs.Context.{Context}
use Rattle.jr_table.specs.HeadRules.{DeclarationRefers}
use Rattle.jr_table.specs.DeclaredItems.{DeclaredItem, declarations_of, class_key}
use Rattle.jr_table.specs.Errors.{Part, class_part, member_part, Binds, InClass, InMembers, InInner, InClasses}
use Rattle.jr_table.specs.Faults.{PackageLine}
use Rattle.jr_table.specs.ProgramRows.{AreProgramRows}
use Rattle.jr_members.proofs.DeclarationRows.{once, not_reserved}
use Rattle.jr_program_laws.specs.FileParts.{begins}
use Rattle.jr_program_laws.proofs.MemberParts.{member_binds}
use Rattle.jr_rewrite.specs.Rewritten.{Rewritten, within}
use Rattle.jr_rewrite.specs.Edited.{entries_of}
use Rattle.jr_rewrite.specs.Suitable.{AreSuitable}
use Rattle.jr_rewrite.specs.Rewrites.{RewritesUnit}
use Rattle.jr_images.specs.Images.{Renaming, decl_to, rows_to}
use Rattle.jr_images.specs.NamedImages.{AreNamedImages}
use Rattle.jr_images.specs.Regions.{images_of, region_of}
use Rattle.jr_images.specs.RenameLaws.{IsFair}
use Rattle.jr_images.specs.Standing.{ContextTo}
use Rattle.jr_images.proofs.Chosen.{lost_none}
use Rattle.jr_images.proofs.SuitableSpelling.{choosing_suits}
use Rattle.jr_images.proofs.World.{World}
use Rattle.jr_rename_laws.specs.Beside.{ClassesBeside, UnitsBeside}
use Rattle.jr_rename_laws.specs.ImageLaws.{IsClassImage, IsMemberImage, AreImages}
use Rattle.jr_moved_references.specs.FileReferences.{RefersInFile}
use Rattle.jr_moved_references.proofs.Carrying.{Carries, Nothing, AreNone, nothing, a_token, alike, both, pass, only, last}
use Rattle.jr_moved_references.proofs.Worded.{same_word}
use Rattle.jr_moved_references.proofs.KeptAt.{spelled}
use Rattle.jr_moved_references.proofs.StatementPlaces.{moved}
use Rattle.jr_moved_references.proofs.MemberPlaces.{Marked, MarkedRefers}
use Rattle.jr_moved_references.proofs.ClassPlaces.{one_key, MarkedPart, classes_move}
use Rattle.jr_moved_references.proofs.MovedTexts.{text_moves}

-- ---- the package, in which nothing is said

abbrev bare_words : {A : Type 0} → List (tree.Word A) → List (tree.Word Bare)
bare_words ws = map bare_word ws

more_words_move : (ws vs : List (tree.Word Span)) → bare_words vs ≡ bare_words ws → Carries true (Stands (more_words_layout ws)) (Stands (more_words_layout vs)) [] Nothing Nothing
more_words_move [] [] e = nothing
more_words_move [] (v ∷ vs) e = absurd cc
more_words_move (w ∷ ws) [] e = absurd cc
more_words_move (w ∷ ws) (v ∷ vs) e =
    let first : bare_word v ≡ bare_word w = cc in
    let rest : bare_words vs ≡ bare_words ws = cc in
    pass (a_token (symbol Dot)) (pass (same_word w v (ap (λ (z : tree.Word Bare). z.text) first) (λ at o. absurd o) (λ at o. o)) (last (more_words_move ws vs rest)))

package_moves : (ws vs : List (tree.Word Span)) → bare_words vs ≡ bare_words ws → Carries true (Stands (package_layout ws)) (Stands (package_layout vs)) [] Nothing Nothing
package_moves [] [] e = nothing
package_moves [] (v ∷ vs) e = absurd cc
package_moves (w ∷ ws) [] e = absurd cc
package_moves (w ∷ ws) (v ∷ vs) e =
    let first : bare_word v ≡ bare_word w = cc in
    let rest : bare_words vs ≡ bare_words ws = cc in
    pass (a_token (keyword Package)) (pass (same_word w v (ap (λ (z : tree.Word Bare). z.text) first) (λ at o. absurd o) (λ at o. o)) (pass (more_words_move ws vs rest) (last (a_token (symbol Semicolon)))))

-- ---- the parts of one member, with other properties

module _ (declarations : List DeclaredItem) (P Q : MemberKey → (base : ℕ) → Part Span → Type 0) (k : MemberKey) (f : (b : ℕ) (p : Part Span) → P k b p → Q k b p) where
  mutual
    unfolding InClass InMembers InInner

    in_class : (base : ℕ) (o : Option (List ℕ)) (c : syntax.Class Span) → InClass begins declarations P base o c k → InClass begins declarations Q base o c k
    in_class base o (syntax.class m mods w t ms) (inl h) = inl (h.0, f base (class_part (syntax.class m mods w t ms)) h.1)
    in_class base o (syntax.class m mods w t ms) (inr h) = inr (in_members (begins m base) (class_key begins o w.text) ms h)

    in_members : (base : ℕ) (of : ClassKey) (ms : syntax.Members Span) → InMembers begins declarations P base of ms k → InMembers begins declarations Q base of ms k
    in_members base of syntax.end h = h
    in_members base of (syntax.more x xs) (inl (inl h)) = inl (inl (h.0, f base (member_part x) h.1))
    in_members base of (syntax.more x xs) (inl (inr h)) = inl (inr (in_inner base of x h))
    in_members base of (syntax.more x xs) (inr h) = inr (in_members base of xs h)

    in_inner : (base : ℕ) (of : ClassKey) (x : syntax.Member Span) → InInner begins declarations P base of x k → InInner begins declarations Q base of x k
    in_inner base of (syntax.inner m c) h = in_class (begins m base) (Some of.name) c h
    in_inner base of (syntax.field m mods t w init) h = h
    in_inner base of (syntax.method m mods t w ps body) h = h
    in_inner base of (syntax.constructor m mods w ps args body) h = h

  in_classes : (base : ℕ) (cs : List (syntax.Class Span)) → InClasses begins declarations P base cs k → InClasses begins declarations Q base cs k
  in_classes base [] h = h
  in_classes base (c ∷ cs) (inl h) = inl (in_class base None c h)
  in_classes base (c ∷ cs) (inr h) = inr (in_classes base cs h)

module _ (rows : List Row) (x : Decl) (at : ℕ) where
  -- a reference but that of a written `super(..)`
  to_marked : (s : ℕ) → (at ≡ s → ⊥) → (k : MemberKey) (b : ℕ) (part : Part Span) → Binds begins rows s k b part at x → MarkedPart rows x at k b part
  to_marked s not k b (class_part c) h = in_head k h
    where
      in_head : (k : MemberKey) → Binds begins rows s k b (class_part c) at x → MarkedPart rows x at k b (class_part c)
      in_head (head k) h = h
      in_head (field k) h = h
      in_head (method k) h = h
      in_head (constructor k) h = h
  to_marked s not k b (member_part y) h = elim ((member_binds rows s k b y at x).0 h) [ inl a ↦ inl (declared y a) | inr a ↦ inr a ]
    where
      declared : (y : syntax.Member Span) → DeclarationRefers begins rows s k b y at (one x) → MarkedRefers rows x k b y at
      declared (syntax.field m mods t w init) a = a
      declared (syntax.method m mods t w ps body) a = a
      declared (syntax.constructor m mods w ps args body) (inl a) = a
      declared (syntax.constructor m mods w ps args body) (inr a) = absurd (not a.0)
      declared (syntax.inner m c) a = a

  from_marked : (s : ℕ) (k : MemberKey) (b : ℕ) (part : Part Span) → MarkedPart rows x at k b part → Binds begins rows s k b part at x
  from_marked s k b (class_part c) h = in_head k h
    where
      in_head : (k : MemberKey) → MarkedPart rows x at k b (class_part c) → Binds begins rows s k b (class_part c) at x
      in_head (head k) h = h
      in_head (field k) h = h
      in_head (method k) h = h
      in_head (constructor k) h = h
  from_marked s k b (member_part y) h = (member_binds rows s k b y at x).1 (elim h [ inl a ↦ inl (declared y a) | inr a ↦ inr a ])
    where
      declared : (y : syntax.Member Span) → MarkedRefers rows x k b y at → DeclarationRefers begins rows s k b y at (one x)
      declared (syntax.field m mods t w init) a = a
      declared (syntax.method m mods t w ps body) a = a
      declared (syntax.constructor m mods w ps args body) a = inl a
      declared (syntax.inner m c) a = a

-- ---- files

module _ (declarations declarations' : List DeclaredItem) (g : Renaming) where
  beside_at : (us vs : List (syntax.Unit Span)) (i : ℕ) (u v : syntax.Unit Span) → UnitsBeside begins begins (IsClassImage itself begins g) (IsMemberImage itself begins g declarations declarations') us vs → slice_get us i ≡ Some u → slice_get vs i ≡ Some v
      → ClassesBeside begins begins (IsClassImage itself begins g) (IsMemberImage itself begins g declarations declarations') u.mark.from v.mark.from u.classes v.classes
  beside_at [] vs i u v h e f = absurd cc
  beside_at (a ∷ us) [] i u v h e f = absurd h
  beside_at (a ∷ us) (b ∷ vs) zero u v h e f =
      let old : a ≡ u = cc in
      let new : b ≡ v = cc in
      subst (λ (z : syntax.Unit Span). ClassesBeside begins begins (IsClassImage itself begins g) (IsMemberImage itself begins g declarations declarations') u.mark.from z.mark.from u.classes z.classes) new
      (subst (λ (z : syntax.Unit Span). ClassesBeside begins begins (IsClassImage itself begins g) (IsMemberImage itself begins g declarations declarations') z.mark.from b.mark.from z.classes b.classes) old h.0)
  beside_at (a ∷ us) (b ∷ vs) (suc i) u v h e f = beside_at us vs i u v h.1 e f

module _ (one_cut : (bytes : List ℕ) (items others : List Item) → Lexes bytes items → Lexes bytes others → items ≡ others) (items_placed : ItemsPlaced) (rows : List Row) (g : Renaming) (super_at : Context → ℕ) (packages : List (Option PackageLine)) (units news : List (syntax.Unit Span)) (are : AreRows rows)
    (program : AreProgramRows (declarations_of begins units) rows) (named : AreNamedImages rows (images_of rows g)) (images : AreImages itself begins packages rows units g news) (worlds : (c d : Context) → ContextTo g rows c d → World Span rows g c d) where
  abbrev old_ones : List DeclaredItem
  old_ones = declarations_of begins units

  abbrev new_ones : List DeclaredItem
  new_ones = declarations_of begins news

  fit : AreSuitable (spelled rows g super_at)
  fit = choosing_suits begins rows (region_of rows g) named super_at

  unit_moves : (x : Decl) (u v : syntax.Unit Span) (o : Rewritten (syntax.Unit Span)) → RewritesUnit itself (spelled rows g super_at) old_ones u o → o.losses ≡ [] → bare_unit v ≡ bare_unit o.tree
      → ClassesBeside begins begins (IsClassImage itself begins g) (IsMemberImage itself begins g old_ones new_ones) u.mark.from v.mark.from u.classes v.classes
      → Carries true (StandInOrder (unit_layouts u)) (StandInOrder (unit_layouts v)) o.changes (λ at. (k : MemberKey) × InClasses begins old_ones (λ k base part. MarkedPart rows x at k base part) u.mark.from u.classes k)
      (λ to. (k : MemberKey) × InClasses begins new_ones (λ k base part. MarkedPart (rows_to g rows) (decl_to g x) to k base part) v.mark.from v.classes k)
  unit_moves x u v o (p, made, is) none eq beside =
      let out : Rewritten (syntax.Unit Span) = within (λ cs. record { mark = u.mark; package_name = u.package_name; classes = cs }) p in
      let same : bare_unit v ≡ bare_unit out.tree = eq ∙ ap (λ (z : Rewritten (syntax.Unit Span)). bare_unit z.tree) is in
      moved rows g super_at fit images.fair worlds x o out is
      (pass (package_moves u.package_name v.package_name (ap (λ (z : syntax.Unit Bare). z.package_name) same))
      (last (classes_move rows g super_at fit images.fair worlds x old_ones new_ones (one_key old_ones (once old_ones rows are program) (not_reserved old_ones rows are program)) u.mark.from v.mark.from u.classes v.classes p made (lost_none o out is none)
      (ap (λ (z : syntax.Unit Bare). z.classes) same) beside)))

  pub files_move : (old_at new_at : MemberKey → ℕ) (i : ℕ) (bytes : List ℕ) (u v : syntax.Unit Span) (o : Rewritten (syntax.Unit Span)) → slice_get units i ≡ Some u → slice_get news i ≡ Some v → ReadsWithSpans itself bytes u
      → RewritesUnit itself (spelled rows g super_at) old_ones u o → o.losses ≡ [] → ReadsWithSpans itself (splice bytes (entries_of o.changes)) v → bare_unit v ≡ bare_unit o.tree → (k : MemberKey) (at : ℕ) (x : Decl) → RefersInFile rows old_at old_ones u k at x
      → (at ≡ old_at k → ⊥) → IsUntouched (entries_of o.changes) at → (j : MemberKey) × RefersInFile (rows_to g rows) new_at new_ones v j (moved_to (entries_of o.changes) at) (decl_to g x)
  files_move old_at new_at i bytes u v o e f h made none n eq k at x refers not untouched =
      let beside = beside_at old_ones new_ones g units news i u v images.members e f in
      let old = in_classes old_ones (λ k base part. Binds begins rows (old_at k) k base part at x) (λ k base part. MarkedPart rows x at k base part) k (λ b part r. to_marked rows x at (old_at k) not k b part r) u.mark.from u.classes refers in
      let found = text_moves one_cut items_placed true (StandInOrder (unit_layouts u)) (StandInOrder (unit_layouts v)) o.changes (λ at. (k : MemberKey) × InClasses begins old_ones (λ k base part. MarkedPart rows x at k base part) u.mark.from u.classes k)
      (λ to. (k : MemberKey) × InClasses begins new_ones (λ k base part. MarkedPart (rows_to g rows) (decl_to g x) to k base part) v.mark.from v.classes k) (unit_moves x u v o made none eq beside) bytes h.items n.items h.lexes n.lexes
      (subst (λ z. StandInOrder z (placed_of bytes h.items)) (all_spans_from-span 0 (unit_layouts u)) h.spans) (subst (λ z. StandInOrder z (placed_of (splice bytes (entries_of o.changes)) n.items)) (all_spans_from-span 0 (unit_layouts v)) n.spans) at (k, old) untouched in (
        found.0,
        in_classes new_ones (λ k base part. MarkedPart (rows_to g rows) (decl_to g x) (moved_to (entries_of o.changes) at) k base part) (λ k base part. Binds begins (rows_to g rows) (new_at k) k base part (moved_to (entries_of o.changes) at) (decl_to g x)) found.0
            (λ b part r. from_marked (rows_to g rows) (decl_to g x) (moved_to (entries_of o.changes) at) (new_at found.0) found.0 b part r) v.mark.from v.classes found.1,
      )
