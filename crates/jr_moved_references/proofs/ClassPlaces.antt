-- The references of classes that are rewritten by a rename, apart from a written `super(..)`: each
-- in the part of a member that has the image of its key.
use Rattle.std.proofs.Common.{◌≡◌, ℕ, suc, Bool, true, false, List, [], ◌∷◌, ◌++◌, Option, Some, None, map, refl, sym, ap, ◌∙◌, subst, inl, inr}
use Rattle.std.specs.Prelude.{◌⊎◌, option_map}
use Rattle.std.proofs.lemmas.List.{append_assoc}
use Rattle.jr_text.specs.declared.spans.Span.{Span}
use Rattle.jr_lex.specs.declared.items.Keyword.TheVariants.{Class as ClassWord, Extends, Package}
use Rattle.jr_lex.specs.declared.items.Symbol.TheVariants.{OpenBrace, CloseBrace, Semicolon, Dot}
use Rattle.jr_ast.specs.Tree as tree
use Rattle.jr_ast.specs.MemberTree as syntax
use Rattle.jr_ast.specs.Remarked.{map_class, map_member, map_members}
use Rattle.jr_grammar.specs.Bare.{Bare, no_mark, bare_word, bare_type, bare_member, bare_class}
use Rattle.jr_grammar.specs.Tokens.{Token, word, keyword, symbol, kinds}
use Rattle.jr_grammar.specs.Spelling.{type_toks}
use Rattle.jr_grammar.specs.Layout.{itself, spans_from}
use Rattle.jr_grammar.specs.ExpressionLayout.{type_layout}
use Rattle.jr_grammar.specs.MemberLayout.{extends_layout, class_layout, member_layout, members_layout, classes_layout}
use Rattle.jr_grammar.specs.Stands.{Tokens, Stands}
use Rattle.jr_grammar.proofs.Layouts.{spans_from-span}
use Rattle.jr_table.specs.Keys.{ClassKey, Ty}
use Rattle.jr_table.specs.Decls.{Decl, MemberKey, head, field, method, constructor, class_decl}
use Rattle.jr_table.specs.Rows.{Row}
use Rattle.jr_table.specs.Entries.{top_class}
use Rattle.jr_table.specs.Prelude.{top_key}
use Rattle.jr_table.specs.Found.{one}
use Rattle.jr_table.specs.Context.{Context}
use Rattle.jr_table.specs.HeadRules.{plain as no_locals, HeadRefers, ParentRefers, TopFinds}
use Rattle.jr_table.specs.DeclaredItems.{DeclaredItem, class_key, param_declaration}
use Rattle.jr_table.specs.Errors.{Part, class_part, member_part, Declares, InClass, InMembers, InInner, InClasses}
use Rattle.jr_members.proofs.Meaning.{OneClass, Unreserved, one_meanings}
use Rattle.jr_program_laws.specs.FileParts.{begins}
use Rattle.jr_rewrite.specs.Respellings.{Choice, stays, front_of, text_of, Change}
use Rattle.jr_rewrite.specs.Rewritten.{Rewritten, plain, within, joined, losses_of, word_to, qualifier_to, simple_type_out}
use Rattle.jr_rewrite.specs.Suitable.{AreSuitable}
use Rattle.jr_rewrite.specs.Spots.{nowhere}
use Rattle.jr_rewrite.specs.Rewrites.{Choosing, TypeOut, RewritesParent, RewritesOne, RewritesMembers, RewritesClass, RewritesClasses, TransformsClass, TransformsMembers, TransformsOne}
use Rattle.jr_rewrite.proofs.ExpressionSteps.{type_steps}
use Rattle.jr_rewrite.proofs.Steps.{Stepped}
use Rattle.jr_rewrite.proofs.Stepping.{stepped_new}
use Rattle.jr_images.specs.Images.{Renaming, name_to, outer_to, class_to, member_to, decl_to, rows_to}
use Rattle.jr_images.specs.RenameLaws.{IsFair}
use Rattle.jr_images.specs.Spelling.{ParentSpells}
use Rattle.jr_images.specs.Standing.{ContextTo}
use Rattle.jr_images.proofs.Chosen.{renamed_text, lost_some, left_none, right_none, lost_none}
use Rattle.jr_images.proofs.Members.{plain_to}
use Rattle.jr_images.proofs.World.{World}
use Rattle.jr_rename_laws.specs.Beside.{ClassBeside, MembersBeside, MemberBeside, ClassesBeside}
use Rattle.jr_rename_laws.specs.ImageLaws.{IsClassImage, IsMemberImage}
use Rattle.jr_moved_tokens.proofs.StepRuns.{never}
use Rattle.jr_moved_references.proofs.Carrying.{Carries, Nothing, AreNone, idle, nothing, a_token, alike, turn, node, both, pass, only, last, loose}
use Rattle.jr_moved_references.proofs.Backs.{type_kinds, simple_back}
use Rattle.jr_moved_references.proofs.Worded.{alone_of, chosen_word, same_word}
use Rattle.jr_moved_references.proofs.KeptAt.{spelled}
use Rattle.jr_moved_references.proofs.MemberBacks.{bare_modifiers, bare_maybe_type, no_type_back, type_back}
use Rattle.jr_moved_references.proofs.StatementPlaces.{type_moves, declared_moves, moved}
use Rattle.jr_moved_references.proofs.MemberPlaces.{Marked, modifiers_move, member_moves}

-- ---- a member has one key

module _ (declarations : List DeclaredItem) (one_class : OneClass declarations) (unreserved : Unreserved declarations) where
  pub one_key : (b : ℕ) (of : ClassKey) (y : syntax.Member Span) (j k : MemberKey) → Declares begins declarations b of y j → Declares begins declarations b of y k → j ≡ k
  one_key b of (syntax.field m mods t w init) j k h i = h ∙ sym i
  one_key b of (syntax.method m mods t w ps body) j k (ts, mean, is) (us, also, was) =
      let same = one_meanings declarations one_class unreserved of (map (param_declaration begins (begins m b)) ps) ts us mean also in
      is ∙ ap (λ (vs : List Ty). method (record { class = of; name = w.text; params = vs })) same ∙ sym was
  one_key b of (syntax.constructor m mods w ps args body) j k (ts, mean, is) (us, also, was) =
      let same = one_meanings declarations one_class unreserved of (map (param_declaration begins (begins m b)) ps) ts us mean also in
      is ∙ ap (λ (vs : List Ty). constructor (record { class = of; params = vs })) same ∙ sym was
  one_key b of (syntax.inner m c) j k h i = absurd h

-- ---- a part of a program, but for a written `super(..)`

abbrev HeadMarked : (rows : List Row) → Decl → MemberKey → (base : ℕ) → syntax.Class Span → ℕ → Type 0
HeadMarked rows x (head k) b c at = HeadRefers begins rows k b c at (one x)
HeadMarked rows x (field k) b c at = ⊥
HeadMarked rows x (method k) b c at = ⊥
HeadMarked rows x (constructor k) b c at = ⊥

abbrev pub MarkedPart : (rows : List Row) → Decl → ℕ → MemberKey → (base : ℕ) → Part Span → Type 0
MarkedPart rows x at k b (class_part c) = HeadMarked rows x k b c at
MarkedPart rows x at k b (member_part y) = Marked rows x k b y at

-- of a class's superclass
abbrev HeadOf : (rows : List Row) → Decl → Option (List ℕ) → (base : ℕ) → Option (tree.TypeName Span) → ℕ → Type 0
HeadOf rows x outer b None at = ⊥
HeadOf rows x outer b (Some t) at = ParentRefers begins rows outer b t at (one x)

module _ (rows : List Row) (g : Renaming) (super_at : Context → ℕ) (fit : AreSuitable (spelled rows g super_at)) (fair : IsFair rows g) (worlds : (c d : Context) → ContextTo g rows c d → World Span rows g c d) (x : Decl) where
  -- ---- a superclass

  one_top : (name : List ℕ) (j k : ClassKey) → TopFinds rows name (one (class_decl j)) → TopFinds rows name (one (class_decl k)) → j ≡ k
  one_top name j k (inl (i, row, is)) (inl (o, other, was)) = cc
  one_top name j k (inl h) (inr (none, was)) = absurd cc
  one_top name j k (inr (none, is)) h = absurd cc

  top_is : (name : List ℕ) → TopFinds rows name (one x) → x ≡ class_decl (top_key name)
  top_is name (inl (i, row, is)) = cc
  top_is name (inr (none, is)) = absurd cc

  top_found : (b : ℕ) (m : Span) (w : tree.Word Span) (h : Choice) → ParentSpells begins rows g None b (tree.named m None w) h → losses_of h ≡ [] → TopFinds rows w.text (one x) → TopFinds (rows_to g rows) (text_of h w.text) (one (decl_to g x))
  top_found b m w h (k, found, inl (leads, is)) none finds =
      let j : x ≡ class_decl (top_key w.text) = top_is w.text finds in
      let same : k ≡ top_key w.text = one_top w.text k (top_key w.text) found (subst (λ (z : Decl). TopFinds rows w.text (one z)) j finds) in
      let image : class_decl (class_to g k) ≡ decl_to g x = ap (λ (z : ClassKey). decl_to g (class_decl z)) same ∙ ap (decl_to g) (sym j) in
      subst (λ (z : Decl). TopFinds (rows_to g rows) (text_of h w.text) (one z)) image
      (subst (λ (name : List ℕ). TopFinds (rows_to g rows) name (one (class_decl (class_to g k)))) (sym (ap (λ (z : Choice). text_of z w.text) is ∙ renamed_text w.text (class_to g k).name)) leads)
  top_found b m w h (k, found, inr (not_leads, (f, finds_now, is))) none finds = absurd (lost_some _ (sym (ap losses_of is) ∙ none))

  abbrev ParentMoves : (outer outer' : Option (List ℕ)) → (b i : ℕ) → (t u : tree.TypeName Span) → List Change → Type 0
  ParentMoves outer outer' b i t u cs = Carries true (Stands (type_layout t)) (Stands (type_layout u)) cs (λ at. ParentRefers begins rows outer b t at (one x)) (λ to. ParentRefers begins (rows_to g rows) outer' i u to (one (decl_to g x)))

  parent_step : (outer : Option (List ℕ)) (b : ℕ) (t u : tree.TypeName Span) (p : Rewritten (tree.TypeName Span)) → TypeOut itself (spelled rows g super_at) ((spelled rows g super_at).parent_qualifier outer b t) ((spelled rows g super_at).parent outer b t) b t p
      → bare_type u ≡ bare_type p.tree → (ps ps' : Tokens) → Stands (type_layout t) ps → Stands (type_layout u) ps' → Stepped never false ps p.changes (kinds ps')
  parent_step outer b t u p made eq ps ps' l n =
      stepped_new ps p.changes (type_toks p.tree) (kinds ps') (sym (type_kinds u p.tree eq ps' n))
      (type_steps itself (spelled rows g super_at) nowhere never fit tt ((spelled rows g super_at).parent_qualifier outer b t) ((spelled rows g super_at).parent outer b t) (fit.parent_qualifier outer b t) (fit.parent outer b t) b t p ps made
      (subst (λ z. Stands z ps) (sym (spans_from-span b (type_layout t))) l))

  top_moves : (b i : ℕ) (m : Span) (w : tree.Word Span) (u : tree.TypeName Span) (h : Choice) → ParentSpells begins rows g None b (tree.named m None w) h → losses_of h ≡ [] → bare_type u ≡ bare_type (simple_type_out itself h m b w).tree
      → ParentMoves None None b i (tree.named m None w) u (simple_type_out itself h m b w).changes
  top_moves b i m w u h chosen none eq =
      loose (chosen_word h w.mark w.text none (λ ps l. alone_of ps l.parts) (parent_step None b (tree.named m None w) u (simple_type_out itself h m b w) (h, chosen, refl) eq) (λ at o. o.0)
      (λ e.
      (let n = simple_back u m (word_to stays w) (eq ∙ ap (λ (z : Choice). bare_type (tree.named m (qualifier_to m (front_of z) None) (word_to z w))) e) in
      subst (λ (z : tree.TypeName Span). Carries false (Stands (type_layout (tree.named m None w))) (Stands (type_layout z)) [] (λ at. ParentRefers begins rows None b (tree.named m None w) at (one x)) (λ to. ParentRefers begins (rows_to g rows) None i z to (one (decl_to g x)))) (sym n.2)
      (node (last (same_word w n.1 n.3 (λ at o. o.0)
      (λ at o. (refl, subst (λ (name : List ℕ). TopFinds (rows_to g rows) name (one (decl_to g x))) (sym (n.3 ∙ sym (ap (λ (z : Choice). text_of z w.text) e))) (top_found b m w h chosen none o.1)))))))))

  parent_moves : (outer outer' : Option (List ℕ)) → outer' ≡ outer_to g outer → (b i : ℕ) (t u : tree.TypeName Span) (p : Rewritten (tree.TypeName Span))
      → TypeOut itself (spelled rows g super_at) ((spelled rows g super_at).parent_qualifier outer b t) ((spelled rows g super_at).parent outer b t) b t p → p.losses ≡ [] → bare_type u ≡ bare_type p.tree → ParentMoves outer outer' b i t u p.changes
  parent_moves (Some o) outer' to b i t u p made none eq =
      let new : List ℕ = name_to g (class_decl (top_key o)) o in
      subst (λ (z : Option (List ℕ)). ParentMoves (Some o) z b i t u p.changes) (sym to)
      (type_moves rows g super_at fit fair worlds x (no_locals (head (top_key o)) false) (no_locals (head (top_key new)) false) (plain_to itself rows g super_at worlds (head (top_key o)) false) b i t u p made none eq)
  parent_moves None outer' to b i (tree.named m None w) u p (h, chosen, is) none eq =
      let out : Rewritten (tree.TypeName Span) = simple_type_out itself h m b w in
      subst (λ (z : Option (List ℕ)). ParentMoves None z b i (tree.named m None w) u p.changes) (sym to)
      (moved rows g super_at fit fair worlds x p out is (top_moves b i m w u h chosen (lost_none p out is none) (eq ∙ ap (λ (z : Rewritten (tree.TypeName Span)). bare_type z.tree) is)))
  parent_moves None outer' to b i (tree.named m (Some o) w) u p (q, h, never_so, chosen, is) none eq = absurd never_so
  parent_moves None outer' to b i (tree.int m) u p made none eq = loose (idle (parent_step None b (tree.int m) u p made eq) (λ at o. o))
  parent_moves None outer' to b i (tree.boolean m) u p made none eq = loose (idle (parent_step None b (tree.boolean m) u p made eq) (λ at o. o))

  extends_moves : (outer outer' : Option (List ℕ)) → outer' ≡ outer_to g outer → (b i : ℕ) (t u : Option (tree.TypeName Span)) (o : Rewritten (Option (tree.TypeName Span))) → RewritesParent itself (spelled rows g super_at) outer b t o → o.losses ≡ []
      → bare_maybe_type u ≡ bare_maybe_type o.tree → Carries true (Stands (extends_layout t)) (Stands (extends_layout u)) o.changes (HeadOf rows x outer b t) (HeadOf (rows_to g rows) (decl_to g x) outer' i u)
  extends_moves outer outer' to b i None u o is none eq =
      let z = no_type_back u (eq ∙ ap (λ (y : Rewritten (Option (tree.TypeName Span))). bare_maybe_type y.tree) is) in
      moved rows g super_at fit fair worlds x o (plain None) is
      (subst (λ (y : Option (tree.TypeName Span)). Carries true (Stands (extends_layout {A = Span} None)) (Stands (extends_layout y)) [] Nothing (HeadOf (rows_to g rows) (decl_to g x) outer' i y)) (sym z) nothing)
  extends_moves outer outer' to b i (Some t) u o (p, made, is) none eq =
      let out : Rewritten (Option (tree.TypeName Span)) = within (λ (y : tree.TypeName Span). Some y) p in
      let z = type_back u (bare_type p.tree) (eq ∙ ap (λ (y : Rewritten (Option (tree.TypeName Span))). bare_maybe_type y.tree) is) in
      moved rows g super_at fit fair worlds x o out is
      (subst (λ (y : Option (tree.TypeName Span)). Carries true (Stands (extends_layout (Some t))) (Stands (extends_layout y)) p.changes (HeadOf rows x outer b (Some t)) (HeadOf (rows_to g rows) (decl_to g x) outer' i y)) (sym z.1)
      (pass (a_token (keyword Extends)) (last (parent_moves outer outer' to b i t z.0 p made (lost_none o out is none) z.2))))

  -- ---- classes

  module _ (declarations declarations' : List DeclaredItem) (same_key : (b : ℕ) (of : ClassKey) (y : syntax.Member Span) (j k : MemberKey) → Declares begins declarations b of y j → Declares begins declarations b of y k → j ≡ k) where
    abbrev IsNamed : (base base' : ℕ) → (outer outer' : Option (List ℕ)) → syntax.Class Span → syntax.Class Span → Type 0
    IsNamed = IsClassImage itself begins g

    abbrev IsImage : (base base' : ℕ) → (of of' : ClassKey) → syntax.Member Span → syntax.Member Span → Type 0
    IsImage = IsMemberImage itself begins g declarations declarations'

    abbrev pub WasClass : (base : ℕ) → Option (List ℕ) → syntax.Class Span → ℕ → Type 0
    WasClass b o c at = (k : MemberKey) × InClass begins declarations (λ k base part. MarkedPart rows x at k base part) b o c k

    abbrev pub IsClass : (base : ℕ) → Option (List ℕ) → syntax.Class Span → ℕ → Type 0
    IsClass b o c at = (k : MemberKey) × InClass begins declarations' (λ k base part. MarkedPart (rows_to g rows) (decl_to g x) at k base part) b o c k

    abbrev WasMembers : (base : ℕ) → ClassKey → syntax.Members Span → ℕ → Type 0
    WasMembers b of xs at = (k : MemberKey) × InMembers begins declarations (λ k base part. MarkedPart rows x at k base part) b of xs k

    abbrev IsMembers : (base : ℕ) → ClassKey → syntax.Members Span → ℕ → Type 0
    IsMembers b of xs at = (k : MemberKey) × InMembers begins declarations' (λ k base part. MarkedPart (rows_to g rows) (decl_to g x) at k base part) b of xs k

    abbrev WasOne : (base : ℕ) → ClassKey → syntax.Member Span → ℕ → Type 0
    WasOne b of y at = (k : MemberKey) × ((Declares begins declarations b of y k × Marked rows x k b y at) ⊎ InInner begins declarations (λ k base part. MarkedPart rows x at k base part) b of y k)

    abbrev IsOne : (base : ℕ) → ClassKey → syntax.Member Span → ℕ → Type 0
    IsOne b of y at = (k : MemberKey) × ((Declares begins declarations' b of y k × Marked (rows_to g rows) (decl_to g x) k b y at) ⊎ InInner begins declarations' (λ k base part. MarkedPart (rows_to g rows) (decl_to g x) at k base part) b of y k)

    head_was : (m : Span) (mods : List (syntax.Modifier Span)) (w : tree.Word Span) (t : Option (tree.TypeName Span)) (ms : syntax.Members Span) (b : ℕ) (o : Option (List ℕ)) (k : MemberKey) (at : ℕ) → k ≡ head (class_key begins o w.text) → HeadMarked rows x k b (syntax.class m mods w t ms) at → HeadOf rows x o m.from t at
    head_was m mods w None ms b o k at is h = subst (λ j. HeadMarked rows x j b (syntax.class m mods w None ms) at) is h
    head_was m mods w (Some t) ms b o k at is h = subst (λ j. HeadMarked rows x j b (syntax.class m mods w (Some t) ms) at) is h

    head_is_so : (l : Span) (words : List (syntax.Modifier Span)) (v : tree.Word Span) (u : Option (tree.TypeName Span)) (ns : syntax.Members Span) (i : ℕ) (p : Option (List ℕ)) (to : ℕ) → HeadOf (rows_to g rows) (decl_to g x) p l.from u to
        → HeadMarked (rows_to g rows) (decl_to g x) (head (class_key begins p v.text)) i (syntax.class l words v u ns) to
    head_is_so l words v None ns i p to h = h
    head_is_so l words v (Some u) ns i p to h = h

    inner_outer : (b i : ℕ) (of of' : ClassKey) (c d : syntax.Class Span) → ClassBeside begins begins IsNamed IsImage b i (Some of.name) (Some of'.name) c d → Some of'.name ≡ outer_to g (Some of.name)
    unfolding ClassBeside
    inner_outer b i of of' (syntax.class m mods w t ms) (syntax.class l words v u ns) h = ap (λ (k : ClassKey). k.outer) h.0

    -- a member that is no class, by its key
    by_key : (b i : ℕ) (of of' : ClassKey) (y z : syntax.Member Span) (o : Rewritten (syntax.Member Span)) (k : MemberKey) → ((j : MemberKey) → (at : ℕ) → InInner begins declarations (λ k base part. MarkedPart rows x at k base part) b of y j → ⊥) → Declares begins declarations b of y k → IsImage b i of of' y z
        → Carries true (Stands (member_layout y)) (Stands (member_layout z)) o.changes (Marked rows x k b y) (Marked (rows_to g rows) (decl_to g x) (member_to g k) i z) → Carries true (Stands (member_layout y)) (Stands (member_layout z)) o.changes (WasOne b of y) (IsOne i of' z)
    by_key b i of of' y z o k no_inner declares image h =
        alike o.changes o.changes refl (λ at was. elim was.1 [ inl own ↦ subst (λ j. Marked rows x j b y at) (same_key b of y was.0 k own.0 declares) own.1 | inr inner ↦ absurd (no_inner was.0 at inner) ]) (λ to is. (member_to g k, inl (image k declares, is))) h

    mutual
      unfolding TransformsClass TransformsMembers TransformsOne ClassBeside MembersBeside MemberBeside InClass InMembers InInner map_class map_member map_members

      pub class_moves : (b i : ℕ) (o p : Option (List ℕ)) (c d : syntax.Class Span) (q : Rewritten (syntax.Class Span)) → p ≡ outer_to g o → RewritesClass itself (spelled rows g super_at) declarations b o c q → q.losses ≡ [] → bare_class d ≡ bare_class q.tree
          → ClassBeside begins begins IsNamed IsImage b i o p c d → Carries true (Stands (class_layout c)) (Stands (class_layout d)) q.changes (WasClass b o c) (IsClass i p d)
      class_moves b i o p (syntax.class m mods w t ms) (syntax.class l words v u ns) q outers (n, z, (word_out, parent_out, declared, parent, head_is), made, is) none eq beside =
          let top : Rewritten (tree.Word Span × Option (tree.TypeName Span)) = joined (λ a c. (a, c)) word_out parent_out in
          let out : Rewritten (syntax.Class Span) = joined (λ (a : tree.Word Span × Option (tree.TypeName Span)) xs. syntax.class m mods a.0 a.1 xs) top z in
          let whole : q ≡ out = is ∙ ap (λ (front : Rewritten (tree.Word Span × Option (tree.TypeName Span))). joined (λ (a : tree.Word Span × Option (tree.TypeName Span)) xs. syntax.class m mods a.0 a.1 xs) front z) head_is in
          let all = lost_none q out whole none in
          let same : bare_class (syntax.class l words v u ns) ≡ bare_class (syntax.class m mods word_out.tree parent_out.tree z.tree) = eq ∙ ap (λ (a : Rewritten (syntax.Class Span)). bare_class a.tree) whole in
          let modifiers : bare_modifiers words ≡ bare_modifiers mods = cc in
          let names : bare_word v ≡ bare_word word_out.tree = cc in
          let parents : bare_maybe_type u ≡ bare_maybe_type parent_out.tree = cc in
          let trees : map_members no_mark ns ≡ map_members no_mark z.tree = cc in
          let of : ClassKey = class_key begins o w.text in
          let of' : ClassKey = class_key begins p v.text in
          moved rows g super_at fit fair worlds x q out whole
          (node (alike (word_out.changes ++ (parent_out.changes ++ z.changes)) out.changes (sym (append_assoc word_out.changes parent_out.changes z.changes))
          (λ at was. elim was.1 [ inl h ↦ inr (inl (head_was m mods w t ms b o was.0 at h.0 h.1)) | inr h ↦ inr (inr (was.0, h)) ])
          (λ to a. elim a [ inl none_so ↦ absurd none_so | inr h ↦ elim h [ inl above ↦ (head of', inl (refl, head_is_so l words v u ns i p to above)) | inr deep ↦ (deep.0, inr deep.1) ] ])
          (pass (modifiers_move mods words modifiers) (pass (a_token (keyword ClassWord)) (both (declared_moves rows g super_at fit fair worlds x (class_decl of) m.from w v word_out declared names)
          (both (extends_moves o p outers m.from l.from t u parent_out parent (right_none word_out.losses parent_out.losses (left_none top.losses z.losses all)) parents)
          (pass (a_token (symbol OpenBrace)) (only (members_moves m.from l.from of of' ms ns z made (right_none top.losses z.losses all) trees beside.1) (last (a_token (symbol CloseBrace)))))))))))

      members_moves : (b i : ℕ) (of of' : ClassKey) (xs ys : syntax.Members Span) (q : Rewritten (syntax.Members Span)) → RewritesMembers itself (spelled rows g super_at) declarations b of xs q → q.losses ≡ [] → map_members no_mark ys ≡ map_members no_mark q.tree
          → MembersBeside begins begins IsNamed IsImage b i of of' xs ys → Carries true (Stands (members_layout xs)) (Stands (members_layout ys)) q.changes (WasMembers b of xs) (IsMembers i of' ys)
      members_moves b i of of' syntax.end syntax.end q is none eq beside = moved rows g super_at fit fair worlds x q (plain syntax.end) is (alike [] [] refl (λ at was. was.1) (λ to gone. absurd gone) nothing)
      members_moves b i of of' syntax.end (syntax.more y ys) q is none eq beside = absurd beside
      members_moves b i of of' (syntax.more y ys) syntax.end q is none eq beside = absurd beside
      members_moves b i of of' (syntax.more y ys) (syntax.more z zs) q (p, r, made, rest, is) none eq beside =
          let out : Rewritten (syntax.Members Span) = joined (λ a as_before. syntax.more a as_before) p r in
          let all = lost_none q out is none in
          let bares : map_members no_mark (syntax.more z zs) ≡ map_members no_mark (syntax.more p.tree r.tree) = eq ∙ ap (λ (l : Rewritten (syntax.Members Span)). map_members no_mark l.tree) is in
          let heads : bare_member z ≡ bare_member p.tree = cc in
          let tails : map_members no_mark zs ≡ map_members no_mark r.tree = cc in
          moved rows g super_at fit fair worlds x q out is
          (alike (p.changes ++ r.changes) (p.changes ++ r.changes) refl (λ at was. elim was.1 [ inl h ↦ inl (was.0, h) | inr h ↦ inr (was.0, h) ]) (λ to a. elim a [ inl h ↦ (h.0, inl h.1) | inr h ↦ (h.0, inr h.1) ])
          (both (one_moves b i of of' y z p made (left_none p.losses r.losses all) heads beside.0) (last (members_moves b i of of' ys zs r rest (right_none p.losses r.losses all) tails beside.1))))

      one_moves : (b i : ℕ) (of of' : ClassKey) (y z : syntax.Member Span) (q : Rewritten (syntax.Member Span)) → RewritesOne itself (spelled rows g super_at) declarations b of y q → q.losses ≡ [] → bare_member z ≡ bare_member q.tree
          → MemberBeside begins begins IsNamed IsImage b i of of' y z → Carries true (Stands (member_layout y)) (Stands (member_layout z)) q.changes (WasOne b of y) (IsOne i of' z)
      one_moves b i of of' (syntax.field m mods t w init) z q (k, declares, made) none eq beside =
          by_key b i of of' (syntax.field m mods t w init) z q k (λ j at gone. gone) declares beside (member_moves rows g super_at fit fair worlds x k b i (syntax.field m mods t w init) z q made none eq)
      one_moves b i of of' (syntax.method m mods t w ps body) z q (k, declares, made) none eq beside =
          by_key b i of of' (syntax.method m mods t w ps body) z q k (λ j at gone. gone) declares beside (member_moves rows g super_at fit fair worlds x k b i (syntax.method m mods t w ps body) z q made none eq)
      one_moves b i of of' (syntax.constructor m mods w ps args body) z q (k, declares, made) none eq beside =
          by_key b i of of' (syntax.constructor m mods w ps args body) z q k (λ j at gone. gone) declares beside (member_moves rows g super_at fit fair worlds x k b i (syntax.constructor m mods w ps args body) z q made none eq)
      one_moves b i of of' (syntax.inner m c) (syntax.inner l d) q (p, made, is) none eq beside =
          let out : Rewritten (syntax.Member Span) = within (λ e. syntax.inner m e) p in
          let bares : bare_member (syntax.inner l d) ≡ bare_member (syntax.inner m p.tree) = eq ∙ ap (λ (a : Rewritten (syntax.Member Span)). bare_member a.tree) is in
          let classes : bare_class d ≡ bare_class p.tree = cc in
          moved rows g super_at fit fair worlds x q out is
          (node (alike p.changes p.changes refl (λ at was. elim was.1 [ inl none_so ↦ absurd none_so.0 | inr h ↦ (was.0, h) ]) (λ to h. (h.0, inr h.1))
          (last (class_moves m.from l.from (Some of.name) (Some of'.name) c d p (inner_outer m.from l.from of of' c d beside) made (lost_none q out is none) classes beside))))
      one_moves b i of of' (syntax.inner m c) (syntax.field l words u v init) q made none eq beside = absurd beside
      one_moves b i of of' (syntax.inner m c) (syntax.method l words u v ps body) q made none eq beside = absurd beside
      one_moves b i of of' (syntax.inner m c) (syntax.constructor l words v ps args body) q made none eq beside = absurd beside

    pub classes_move : (b i : ℕ) (cs ds : List (syntax.Class Span)) (q : Rewritten (List (syntax.Class Span))) → RewritesClasses itself (spelled rows g super_at) declarations b cs q → q.losses ≡ [] → map bare_class ds ≡ map bare_class q.tree
        → ClassesBeside begins begins IsNamed IsImage b i cs ds
        → Carries true (Stands (classes_layout cs)) (Stands (classes_layout ds)) q.changes (λ at. (k : MemberKey) × InClasses begins declarations (λ k base part. MarkedPart rows x at k base part) b cs k) (λ to. (k : MemberKey) × InClasses begins declarations' (λ k base part. MarkedPart (rows_to g rows) (decl_to g x) to k base part) i ds k)
    classes_move b i [] [] q is none eq beside = moved rows g super_at fit fair worlds x q (plain []) is (alike [] [] refl (λ at was. was.1) (λ to gone. absurd gone) nothing)
    classes_move b i [] (d ∷ ds) q is none eq beside = absurd beside
    classes_move b i (c ∷ cs) [] q is none eq beside = absurd beside
    classes_move b i (c ∷ cs) (d ∷ ds) q (p, r, made, rest, is) none eq beside =
        let out : Rewritten (List (syntax.Class Span)) = joined (λ a others. a ∷ others) p r in
        let all = lost_none q out is none in
        let bares : map bare_class (d ∷ ds) ≡ map bare_class (p.tree ∷ r.tree) = eq ∙ ap (λ (l : Rewritten (List (syntax.Class Span))). map bare_class l.tree) is in
        let heads : bare_class d ≡ bare_class p.tree = cc in
        let tails : map bare_class ds ≡ map bare_class r.tree = cc in
        moved rows g super_at fit fair worlds x q out is
        (alike (p.changes ++ r.changes) (p.changes ++ r.changes) refl (λ at was. elim was.1 [ inl h ↦ inl (was.0, h) | inr h ↦ inr (was.0, h) ]) (λ to a. elim a [ inl h ↦ (h.0, inl h.1) | inr h ↦ (h.0, inr h.1) ])
        (both (class_moves b i None None c d p refl made (left_none p.losses r.losses all) heads beside.0) (last (classes_move b i cs ds r rest (right_none p.losses r.losses all) tails beside.1))))
