-- Initializers: the code of those of a rewritten class is kept.
use Rattle.std.proofs.Common.{◌≡◌, ℕ, List, [], ◌∷◌, ◌++◌, Option, Some, None, Bool, true, false, refl, sym, ap, subst, ◌∙◌, inl, inr}
use Rattle.jr_text.specs.declared.spans.Span.{Span}
use Rattle.jr_ast.specs.Tree as tree
use Rattle.jr_ast.specs.StatementTree as statement
use Rattle.jr_ast.specs.MemberTree as syntax
use Rattle.jr_runs.specs.Core as core
use Rattle.jr_runs.specs.Rows as core_rows
use Rattle.jr_runs.specs.KeyMaps.{KeyMap}
use Rattle.jr_table.specs.Keys.{ClassKey, FieldKey}
use Rattle.jr_table.specs.Decls.{MemberKey, field, class_decl, field_decl}
use Rattle.jr_table.specs.Rows.{Row}
use Rattle.jr_table.specs.DeclaredItems.{DeclaredItem}
use Rattle.jr_table.specs.Errors.{Declares, InMembers}
use Rattle.jr_table.specs.Context.{Context}
use Rattle.jr_table.specs.HeadRules.{plain as no_locals, is_static_member}
use Rattle.jr_table.specs.Binding.{value, word_at}
use Rattle.jr_rewrite.specs.Rewritten.{Rewritten, joined, within}
use Rattle.jr_rewrite.specs.Respellings.{Choice, text_of}
use Rattle.jr_rewrite.specs.Spots.{level, Spotted, nowhere, spotted, OrMembers}
use Rattle.jr_rewrite.specs.Rewrites.{Choosing, TransformsMaybe, TransformsMember, TransformsOne, TransformsMembers}
use Rattle.jr_images.specs.Regions.{Region}
use Rattle.jr_images.specs.Spelling.{choosing}
use Rattle.jr_members.specs.WrittenMembers.{decl_of_member}
use Rattle.jr_images.proofs.Chosen.{left_none, right_none, lost_none, renamed_text}
use Rattle.jr_kept_references.proofs.RegionWorlds.{RegionWorld}
use Rattle.jr_kept_references.specs.InRegions.{rows_in, class_in, field_in, name_in, member_in, StandsFor}
use Rattle.jr_kept_references.specs.KeptInRegions.{PartsBecome}
use Rattle.jr_kept_references.specs.RegionPlaces.{Standing, AreStanding, AreBeginning, AreWalked}
use Rattle.jr_kept_references.specs.MembersAlong.{MembersSpotStands, MembersStay}
use Rattle.jr_code.specs.RunKeys.{RunKeys, Place}
use Rattle.jr_code.specs.Coded.{Code, ExpCode}
use Rattle.jr_code.specs.CodedStatements.{StatementCode}
use Rattle.jr_code.specs.CodedMembers.{stored, at_in, InitBy, InitCoded, InitsCoded}
use Rattle.jr_code.specs.RunRows.{HasRow}
use Rattle.jr_image_code.specs.KnownPlaces.{IsPlace}
use Rattle.jr_image_code.specs.CodeRelations.{Relations, AreStmtsRelated}
use Rattle.jr_image_code.specs.CodedSpots.{CastsCoded, GoesByImages, SpotsCoded, StatementsCoded}
use Rattle.jr_image_code.specs.MemberCodes.{AllTo}
use Rattle.jr_image_code.proofs.StmtImages.{HasNoRows, exp_image}

module _ {A : Type 0} (tells : A → ℕ → Span) (last : A → ℕ → ℕ) (rows : List Row) (R : Region A) (super_at : Context → ℕ) (S : Spotted A) (At : Standing A)
    (stands : AreStanding tells rows R (choosing (λ m b. (tells m b).from) rows R super_at) S At) (begin : AreBeginning tells rows R (choosing (λ m b. (tells m b).from) rows R super_at) S At)
    (parts : (c d : Context) → At.Known c d → PartsBecome (λ m b. (tells m b).from) rows R S c d) (worlds : (c d : Context) → StandsFor R rows c d → RegionWorld A rows R c d)
    (keys : KeyMap RunKeys) (D : core_rows.Rows RunKeys) (X : Relations) (by_images : GoesByImages rows R keys D X) (stmts : AreStmtsRelated keys D X) (no_rows : HasNoRows rows)
    (casts : (c d : Context) → IsPlace rows c → At.Known c d → CastsCoded tells rows R X (choosing (λ m b. (tells m b).from) rows R super_at) S c d)
    (spots : (c d : Context) → At.Known c d → SpotsCoded (λ m b. (tells m b).from) rows R X S c d) (size : ℕ)
    (coded : StatementsCoded tells last rows R X (choosing (λ m b. (tells m b).from) rows R super_at) S At size) (own : X.own) (places places' : MemberKey → ℕ)
    (declarations : List DeclaredItem) (walked : AreWalked tells rows R (choosing (λ m b. (tells m b).from) rows R super_at) S declarations At)
    -- a field's image has the new name, in the image of its class
    (fields : (k : FieldKey) → HasRow rows (field_decl k) → record { class = class_in R k.class; name = name_in R (field_decl k) k.name } ≡ field_in R k)
    -- what a spot makes of members of a class
    (inits_coded : (of of' : ClassKey) → of' ≡ class_in R of → (b : ℕ) (xs ys : syntax.Members A) → At.Members b of xs → MembersSpotStands S b of xs ys → (ss ts : List StatementCode)
    → InitsCoded (λ m b. (tells m b).from) last rows places of b xs ss → InitsCoded (λ m b. (tells m b).from) last (rows_in R) places' of' b ys ts → AllTo X ss ts) where
  abbrev begins : A → ℕ → ℕ
  begins m b = (tells m b).from

  abbrev Chosen : Choosing A
  Chosen = choosing (λ m b. (tells m b).from) rows R super_at

  abbrev Inits : List StatementCode → List StatementCode → Type 0
  Inits ss ts = AllTo X ss ts

  abbrev Together : List StatementCode → List StatementCode → List StatementCode → List StatementCode → Type 0
  Together ss ts us vs = Inits ss ts → Inits us vs → Inits (ss ++ us) (ts ++ vs)

  both : (ss ts us vs : List StatementCode) → Together ss ts us vs
  both [] [] us vs a b = b
  both [] (t ∷ ts) us vs a b = absurd a
  both (s ∷ ss) [] us vs a b = absurd a
  both (s ∷ ss) (t ∷ ts) us vs a b = (a.0, both ss ts us vs a.1 b)

  -- ---- initializers

  one_init : (of of' : ClassKey) → of' ≡ class_in R of → HasRow rows (class_decl of) → (b : ℕ) (m : A) (mods : List (syntax.Modifier A)) (t : tree.TypeName A) (w : tree.Word A) (init : Option (tree.Exp A)) → At.Written (field (record { class = of; name = w.text })) b (syntax.field m mods t w init) → (o : Rewritten (syntax.Member A))
      → TransformsMember tells Chosen S (field (record { class = of; name = w.text })) b (syntax.field m mods t w init) o → o.losses ≡ [] → HasRow rows (field_decl (record { class = of; name = w.text }))
      → (ss ts : List StatementCode) → InitCoded begins last rows places of b (syntax.field m mods t w init) ss → InitCoded begins last (rows_in R) places' of' b o.tree ts → Inits ss ts
  one_init of of' to owner b m mods t w None here o (p, v, q, types, (h, declared, word), made, is) none row ss ts old new =
      let tree_is = ap (λ (z : Rewritten (syntax.Member A)). z.tree) is ∙ ap (λ (z : Rewritten (Option (tree.Exp A))). syntax.field m mods p.tree v.tree z.tree) made in
      let n : ts ≡ [] = subst (λ (z : syntax.Member A). InitCoded begins last (rows_in R) places' of' b z ts) tree_is new in
      subst (λ (z : List StatementCode). Inits z ts) (sym old) (subst (λ (z : List StatementCode). Inits [] z) (sym n) tt)
  one_init of of' to owner b m mods t w (Some e) here o (p, v, q, types, (h, declared, word), (y, made, init_is), is) none row ss ts old new = by (is_static_member begins mods) refl
    where
      k : FieldKey
      k = record { class = of; name = w.text }

      all : (p.losses ++ v.losses) ++ q.losses ≡ []
      all = lost_none o (joined (λ (u : tree.TypeName A × tree.Word A) x. syntax.field m mods u.0 u.1 x) (joined (λ u z. (u, z)) p v) q) is none

      text : v.tree.text ≡ name_in R (field_decl k) w.text
      text = ap (λ (z : Rewritten (tree.Word A)). z.tree.text) word ∙ ap (λ (z : Choice). text_of z w.text) declared ∙ renamed_text w.text (name_in R (field_decl k) w.text)

      key : record { class = of'; name = v.tree.text } ≡ field_in R k
      key = (λ i. record { class = to i; name = text i }) ∙ fields k row

      tree_is : o.tree ≡ syntax.field m mods p.tree v.tree (Some y.tree)
      tree_is = ap (λ (z : Rewritten (syntax.Member A)). z.tree) is ∙ ap (λ (z : Rewritten (Option (tree.Exp A))). syntax.field m mods p.tree v.tree z.tree) init_is

      there : InitBy begins last (rows_in R) places' (is_static_member begins mods) of' b m v.tree y.tree ts
      there = subst (λ (z : syntax.Member A). InitCoded begins last (rows_in R) places' of' b z ts) tree_is new

      stored_pair : (a z : Place) (x u : Code) → X.exp x u → Inits (stored begins last rows places a k x ∷ []) (stored begins last rows places z (field_in R k) u ∷ [])
      stored_pair a z x u each =
          subst (λ (f : FieldKey). AllTo X (stored begins last rows places a k x ∷ []) (stored begins last rows places z f u ∷ [])) (by_images.maps.field k row.0 row.1) (
            stmts.of_eval (Some a) (Some z) _ _
                (by_images.exps.of_assign (Some a) (Some z) _ _ x u (by_images.exps.of_field (Some a) (Some z) (core.this None) (core.this None) k (by_images.exps.of_this own None None)) tt each),
            tt,
          )

      -- the new one speaks of the image
      new_by : InitBy begins last (rows_in R) places' false of' b m v.tree y.tree ts → (u : Code) × ExpCode begins (rows_in R) (no_locals (member_in R (field k)) false) (begins m b) y.tree u
          × (ts ≡ stored begins last rows places (at_in begins last rows places (member_in R (field k)) (word_at begins m b v.tree)) (field_in R k) u ∷ [])
      new_by h = subst (λ (f : FieldKey). (u : Code) × ExpCode begins (rows_in R) (no_locals (field f) false) (begins m b) y.tree u
          × (ts ≡ stored begins last rows places (at_in begins last rows places (field f) (word_at begins m b v.tree)) f u ∷ [])) key h

      pair : (s : Bool) → s ≡ false → InitBy begins last rows places s of b m w e ss → InitBy begins last (rows_in R) places' s of' b m v.tree y.tree ts → TransformsMaybe tells Chosen S (no_locals (field k) s) (begins m b) (Some e) q → Inits ss ts
      pair true never old new made = absurd cc
      pair false same (x, code, old) new (y2, made2, is2) =
          let n = new_by new in
          let there2 : Some y.tree ≡ Some y2.tree = sym (ap (λ (z : Rewritten (Option (tree.Exp A))). z.tree) init_is) ∙ ap (λ (z : Rewritten (Option (tree.Exp A))). z.tree) is2 in
          let tree_same : y.tree ≡ y2.tree = cc in
          let lost2 = lost_none q (within (λ (z : tree.Exp A). Some z) y2) is2 (right_none (p.losses ++ v.losses) q.losses all) in
          let c = no_locals (field k) false in
          let d = no_locals (member_in R (field k)) false in
          let stand = begin.heads (field k) b (syntax.field m mods t w (Some e)) false here in
          subst (λ (z : List StatementCode). Inits z ts) (sym old) (subst (λ (z : List StatementCode). Inits (stored begins last rows places (at_in begins last rows places (field k) (word_at begins m b w)) k x ∷ []) z) (sym n.2)
          (stored_pair _ _ x n.0 (exp_image tells last rows R super_at S At stands parts worlds keys D X by_images stmts no_rows casts spots size coded c d stand (λ i l e2. absurd cc) (record { class = owner; locals = λ i l e2. absurd cc }) (level 0) value
          (begins m b) e y2 made2 lost2 _ x n.0 code (subst (λ (z : tree.Exp A). ExpCode begins (rows_in R) d (begins m b) z n.0) tree_same n.1))))

      statics : (s : Bool) → s ≡ true → InitBy begins last rows places s of b m w e ss → InitBy begins last (rows_in R) places' s of' b m v.tree y.tree ts → Inits ss ts
      statics true same old new = subst (λ (z : List StatementCode). Inits z ts) (sym old) (subst (λ (z : List StatementCode). Inits [] z) (sym new) tt)
      statics false never old new = absurd cc

      by : (s : Bool) → is_static_member begins mods ≡ s → Inits ss ts
      by true static = statics (is_static_member begins mods) static old there
      by false static = pair (is_static_member begins mods) static old there (y, made, init_is)

  -- what the members declare has a row
  abbrev pub Written : (base : ℕ) → ClassKey → syntax.Members A → Type 0
  Written b of ms = (k : MemberKey) → InMembers (λ m b. (tells m b).from) declarations (λ k b part. Unit {0}) b of ms k → HasRow rows (decl_of_member k)

  -- ---- the members of a class

  pub inits_walk : (of of' : ClassKey) → of' ≡ class_in R of → HasRow rows (class_decl of) → (b : ℕ) (ms : syntax.Members A) → At.Members b of ms → MembersStay S b of ms → (q : Rewritten (syntax.Members A)) → TransformsMembers tells Chosen S declarations b of ms q → q.losses ≡ []
      → Written b of ms → (ss ts : List StatementCode) → InitsCoded begins last rows places of b ms ss → InitsCoded begins last (rows_in R) places' of' b q.tree ts → Inits ss ts
  unfolding TransformsMembers TransformsOne InitsCoded InMembers
  inits_walk of of' to owner b syntax.end at held q is none written ss ts old new =
      let n : ts ≡ [] = subst (λ (z : Rewritten (syntax.Members A)). InitsCoded begins last (rows_in R) places' of' b z.tree ts) is new in
      subst (λ (z : List StatementCode). Inits z ts) (sym old) (subst (λ (z : List StatementCode). Inits [] z) (sym n) tt)
  inits_walk of of' to owner b (syntax.more x xs) at held q (p, z, single, rest, is) none written ss ts (here, more, first, others, old) new =
      let all = lost_none q (joined (λ y ys. syntax.more y ys) p z) is none in
      let n = subst (λ (u : Rewritten (syntax.Members A)). InitsCoded begins last (rows_in R) places' of' b u.tree ts) is new in
      subst (λ (u : List StatementCode). Inits u ts) (sym old) (subst (λ (u : List StatementCode). Inits (here ++ more) u) (sym n.4)
      (both here n.0 more n.1 (head_of x (λ k declares. walked.declared b of x xs k at held declares) p single (left_none p.losses z.losses all) (λ k declares. written k (inl (inl (declares, tt)))) here n.0 first n.2) (rest_of z rest (right_none p.losses z.losses all) more n.1 others n.3 (λ y there. inits_walk of of' to owner b xs (walked.more b of x xs at held) there z y (right_none p.losses z.losses all) (λ k later. written k (inr later)) more n.1 others n.3))))
    where
      -- node by node, or as a spot has it
      rest_of : (z : Rewritten (syntax.Members A)) → OrMembers S b of xs z (TransformsMembers tells Chosen S declarations b of xs z) → z.losses ≡ []
          → (more there : List StatementCode) → InitsCoded begins last rows places of b xs more → InitsCoded begins last (rows_in R) places' of' b z.tree there
          → (TransformsMembers tells Chosen S declarations b of xs z → MembersStay S b of xs → Inits more there) → Inits more there
      rest_of z made none more there old new by_node = by_spots S made (λ stays. stays) (λ spot. inits_coded of of' to b xs z.tree (walked.more b of x xs at held) spot more there old new)
        where
          by_spots : (s : Spotted A) → OrMembers s b of xs z (TransformsMembers tells Chosen S declarations b of xs z) → (MembersStay s b of xs → MembersStay S b of xs) → (MembersSpotStands s b of xs z.tree → Inits more there) → Inits more there
          by_spots nowhere inner to is = by_node inner (to tt)
          by_spots (spotted s) (inl (stays, inner)) to is = by_node inner (to stays)
          by_spots (spotted s) (inr spot) to is = is (z, spot, none, refl)

      none_of : (here there : List StatementCode) → here ≡ [] → there ≡ [] → Inits here there
      none_of here there a c = subst (λ (u : List StatementCode). Inits u there) (sym a) (subst (λ (u : List StatementCode). Inits [] u) (sym c) tt)

      field_head : (m : A) (mods : List (syntax.Modifier A)) (t : tree.TypeName A) (w : tree.Word A) (init : Option (tree.Exp A)) → At.Written (field (record { class = of; name = w.text })) b (syntax.field m mods t w init) → (p : Rewritten (syntax.Member A)) (k : MemberKey)
          → k ≡ field (record { class = of; name = w.text }) → TransformsMember tells Chosen S k b (syntax.field m mods t w init) p → p.losses ≡ [] → HasRow rows (field_decl (record { class = of; name = w.text })) → (here there : List StatementCode)
          → InitCoded begins last rows places of b (syntax.field m mods t w init) here → InitCoded begins last (rows_in R) places' of' b p.tree there → Inits here there
      field_head m mods t w init mine p k is made none row here there old new = one_init of of' to owner b m mods t w init mine p (subst (λ (j : MemberKey). TransformsMember tells Chosen S j b (syntax.field m mods t w init) p) is made) none row here there old new

      method_tree : (m : A) (mods : List (syntax.Modifier A)) (t : Option (tree.TypeName A)) (w : tree.Word A) (ps : List (syntax.Param A)) (body : statement.Stmts A) (p : Rewritten (syntax.Member A)) (k : MemberKey) (there : List StatementCode)
          → TransformsMember tells Chosen S k b (syntax.method m mods t w ps body) p → InitCoded begins last (rows_in R) places' of' b p.tree there → there ≡ []
      method_tree m mods t w ps body p k there (a, v, q, z, result, declared, params, made, is) new = subst (λ (u : Rewritten (syntax.Member A)). InitCoded begins last (rows_in R) places' of' b u.tree there) is new

      constructor_tree : (m : A) (mods : List (syntax.Modifier A)) (w : tree.Word A) (ps : List (syntax.Param A)) (args : Option (tree.Exps A)) (body : statement.Stmts A) (p : Rewritten (syntax.Member A)) (k : MemberKey) (there : List StatementCode)
          → TransformsMember tells Chosen S k b (syntax.constructor m mods w ps args body) p → InitCoded begins last (rows_in R) places' of' b p.tree there → there ≡ []
      constructor_tree m mods w ps args body p k there (v, q, a, z, declared, params, super_part, made, is) new = subst (λ (u : Rewritten (syntax.Member A)). InitCoded begins last (rows_in R) places' of' b u.tree there) is new

      head_of : (x : syntax.Member A) → ((k : MemberKey) → Declares begins declarations b of x k → At.Written k b x) → (p : Rewritten (syntax.Member A)) → TransformsOne tells Chosen S declarations b of x p → p.losses ≡ [] → ((k : MemberKey) → Declares begins declarations b of x k → HasRow rows (decl_of_member k)) → (here there : List StatementCode)
          → InitCoded begins last rows places of b x here → InitCoded begins last (rows_in R) places' of' b p.tree there → Inits here there
      head_of (syntax.field m mods t w init) mine p (k, declares, made) none rowed here there old new = field_head m mods t w init (mine (field (record { class = of; name = w.text })) refl) p k declares made none (rowed (field (record { class = of; name = w.text })) refl) here there old new
      head_of (syntax.method m mods t w ps body) mine p (k, declares, made) none rowed here there old new = none_of here there old (method_tree m mods t w ps body p k there made new)
      head_of (syntax.constructor m mods w ps args body) mine p (k, declares, made) none rowed here there old new = none_of here there old (constructor_tree m mods w ps args body p k there made new)
      head_of (syntax.inner m c) mine p (o, made, is) none rowed here there old new = none_of here there old (subst (λ (u : Rewritten (syntax.Member A)). InitCoded begins last (rows_in R) places' of' b u.tree there) is new)
