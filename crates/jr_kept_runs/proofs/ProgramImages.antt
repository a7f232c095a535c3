-- Programs: the code of each method and constructor that a rewritten program writes is kept. The new program's own trees are the
-- rewritten ones but for marks.
use Rattle.std.proofs.Common.{◌≡◌, ℕ, List, [], ◌∷◌, Option, Some, None, true, false, refl, sym, ap, subst, ◌∙◌, inl, inr, map, arith}
use Rattle.std.specs.Prelude.{◌⊎◌}
use Rattle.jr_text.specs.declared.spans.Span.{Span}
use Rattle.jr_ast.specs.Tree as tree
use Rattle.jr_ast.specs.StatementTree as statement
use Rattle.jr_ast.specs.MemberTree as syntax
use Rattle.jr_ast.specs.Remarked.{map_class, map_member, map_members}
use Rattle.jr_grammar.specs.Bare.{Bare, no_mark, bare_class, bare_member, bare_unit}
use Rattle.jr_runs.specs.Core as core
use Rattle.jr_runs.specs.MemberTranslation.{in_front}
use Rattle.jr_runs.specs.Rows as core_rows
use Rattle.jr_runs.specs.KeyMaps.{KeyMap}
use Rattle.jr_table.specs.Keys.{ClassKey, MethodKey, CtorKey, Ty}
use Rattle.jr_table.specs.Decls.{MemberKey, head, method, constructor, class_decl}
use Rattle.jr_table.specs.Rows.{Row}
use Rattle.jr_table.specs.Entries.{IsRowOf}
use Rattle.jr_table.specs.DeclaredItems.{DeclaredItem, class_key, writes_ctor}
use Rattle.jr_table.specs.Errors.{Part, Declares, InClass, InMembers, InInner, InClasses, InUnits}
use Rattle.jr_table.specs.Conditions.{AreRows}
use Rattle.jr_table.specs.Context.{Context, scope_of}
use Rattle.jr_table.specs.HeadRules.{plain as no_locals, types_of}
use Rattle.jr_table.specs.Binding.{HasType}
use Rattle.jr_table.specs.BindingLaws.{IsBound}
use Rattle.jr_spell.specs.Rebound.{AreFronts}
use Rattle.jr_members.specs.WrittenMembers.{decl_of_member}
use Rattle.jr_rewrite.specs.Rewritten.{Rewritten, joined, within}
use Rattle.jr_rewrite.specs.Rewrites.{Choosing, RewritesMember, RewritesOne, RewritesMembers, RewritesClass, RewritesClasses, RewritesUnits, TransformsClass, TransformsMembers, TransformsOne}
use Rattle.jr_images.specs.Images.{Renaming, class_to, method_to, ctor_to, member_to, type_to, scope_to, rows_to}
use Rattle.jr_images.specs.Spelling.{spelling}
use Rattle.jr_images.specs.Standing.{ContextTo}
use Rattle.jr_images.specs.RenameLaws.{IsFair}
use Rattle.jr_images.proofs.Places.{scope_image}
use Rattle.jr_rename_laws.specs.ImageLaws.{IsClassImage, IsMemberImage}
use Rattle.jr_rename_laws.specs.Beside.{ClassBeside, MembersBeside, MemberBeside, ClassesBeside, UnitsBeside}
use Rattle.jr_images.proofs.Chosen.{left_none, right_none, lost_none}
use Rattle.jr_images.proofs.World.{World}
use Rattle.jr_images.proofs.Members.{plain_to}
use Rattle.jr_code.specs.RunKeys.{RunKeys}
use Rattle.jr_code.specs.CodedStatements.{StatementCode}
use Rattle.jr_code.specs.CodedMembers.{ImplicitFinds, DefaultCoded, OneCoded, ClassCoded, MembersCoded, InnerCoded, ClassesCoded, UnitsCoded}
use Rattle.jr_code.specs.RunRows.{HasRow}
use Rattle.jr_image_code.specs.KnownPlaces.{IsKnown, IsPlace}
use Rattle.jr_image_code.specs.KeysIn.{MapsAs, AreDeclared}
use Rattle.jr_image_code.proofs.StmtImages.{HasNoRows}
use Rattle.jr_image_code.proofs.MemberImages.{Of}
use Rattle.jr_kept_runs.specs.KeysTo.{keys_to}
use Rattle.jr_kept_runs.specs.CastsAgree.{CastsAgree}
use Rattle.jr_kept_runs.proofs.KeptCode.{ToCode, ToMethod, end_to, no_more_to, list_to}
use Rattle.jr_kept_runs.proofs.SameBodies.{no_stmt_places, AllAgain, recode_method, recode_inits, recode_constructor}
use Rattle.jr_kept_runs.proofs.Elsewhere.{stmt_elsewhere, code_elsewhere, method_elsewhere}
use Rattle.jr_kept_runs.proofs.RenamedCode.{method_image, in_front_image, implicit_row, parent_by, constructor_image, Inits, Rowed as RowedIn, inits_walk}

-- a class writes the method or constructor, or has it as a constructor that isn't written (JLS 8.8.9)
module _ {A : Type 0} (begins : A → ℕ → ℕ) (declarations : List DeclaredItem) where
  unfoldable mutual
    pub OfClass : (base : ℕ) → Option (List ℕ) → syntax.Class A → MemberKey → Type 0
    OfClass b o (syntax.class m mods w t ms) k = ((writes_ctor begins ms ≡ false) × (k ≡ constructor (record { class = class_key begins o w.text; params = [] }))) ⊎ OfMembers (begins m b) (class_key begins o w.text) ms k

    pub OfMembers : (base : ℕ) → ClassKey → syntax.Members A → MemberKey → Type 0
    OfMembers b of syntax.end k = ⊥
    OfMembers b of (syntax.more x xs) k = OfMember b of x k ⊎ OfMembers b of xs k

    pub OfMember : (base : ℕ) → ClassKey → syntax.Member A → MemberKey → Type 0
    OfMember b of (syntax.field m mods t w init) k = ⊥
    OfMember b of (syntax.method m mods t w ps body) k = Declares begins declarations b of (syntax.method m mods t w ps body) k
    OfMember b of (syntax.constructor m mods w ps args body) k = Declares begins declarations b of (syntax.constructor m mods w ps args body) k
    OfMember b of (syntax.inner m c) k = OfClass (begins m b) (Some of.name) c k

  abbrev pub OfClasses : (base : ℕ) → List (syntax.Class A) → MemberKey → Type 0
  OfClasses b [] k = ⊥
  OfClasses b (c ∷ cs) k = OfClass b None c k ⊎ OfClasses b cs k

  abbrev pub OfUnits : List (syntax.Unit A) → MemberKey → Type 0
  OfUnits [] k = ⊥
  OfUnits (u ∷ us) k = OfClasses (begins u.mark 0) u.classes k ⊎ OfUnits us k

-- whether a constructor is written doesn't depend on marks
module _ {A : Type 0} (begins : A → ℕ → ℕ) where
  abbrev nowhere : Bare → ℕ → ℕ
  nowhere m b = 0

  writes_bare : (ms : syntax.Members A) → writes_ctor begins ms ≡ writes_ctor nowhere (map_members no_mark ms)
  unfolding map_members map_member
  writes_bare syntax.end = refl
  writes_bare (syntax.more (syntax.field m mods t w init) xs) = writes_bare xs
  writes_bare (syntax.more (syntax.method m mods t w ps body) xs) = writes_bare xs
  writes_bare (syntax.more (syntax.constructor m mods w ps args body) xs) = refl
  writes_bare (syntax.more (syntax.inner m c) xs) = writes_bare xs

  writes_same : (xs ys : syntax.Members A) → map_members no_mark xs ≡ map_members no_mark ys → writes_ctor begins xs ≡ writes_ctor begins ys
  writes_same xs ys e = writes_bare xs ∙ ap (writes_ctor nowhere) e ∙ sym (writes_bare ys)

-- nothing is lost in any file
abbrev pub AllKept : {T : Type 0} → List (Rewritten T) → Type 0
AllKept [] = Unit {0}
AllKept (o ∷ os) = (o.losses ≡ []) × AllKept os

module _ {A : Type 0} (tells : A → ℕ → Span) (last : A → ℕ → ℕ) (rows : List Row) (g : Renaming) (super_at : Context → ℕ) (worlds : (c d : Context) → ContextTo g rows c d → World A rows g c d)
    (fair : IsFair rows g) (bound_old : (c : Context) → IsBound A rows c) (bound_new : (d : Context) → IsBound A (rows_to g rows) d) (fronts : (d : Context) → AreFronts A (rows_to g rows) d)
    (keys : KeyMap RunKeys) (maps : MapsAs keys (keys_to g) rows) (R : core_rows.Rows RunKeys) (has : AreDeclared rows R) (no_rows : HasNoRows rows)
    (casts : CastsAgree rows (rows_to g rows) (type_to g)) (known : (c : Context) → IsPlace rows c → (e : tree.Exp A) (t : Ty) → HasType rows c e t → IsKnown rows t) (places places' : MemberKey → ℕ)
    (are : AreRows rows) (implicit : (c d : Context) → scope_of d ≡ scope_to g c → (q n : CtorKey) → ImplicitFinds rows c q → ImplicitFinds (rows_to g rows) d n → n ≡ ctor_to g q)
    (declarations declarations' : List DeclaredItem) (one_key : (b : ℕ) (of : ClassKey) (x : syntax.Member A) (j k : MemberKey) → Declares (λ m b. (tells m b).from) declarations b of x j → Declares (λ m b. (tells m b).from) declarations b of x k → j ≡ k)
    (P Q : core.Program RunKeys) (types_known : (k : MemberKey) → HasRow rows (decl_of_member k) → (t : Ty) → Of t (types_of k) → IsKnown rows t) where
  abbrev begins : A → ℕ → ℕ
  begins m b = (tells m b).from

  abbrev Chosen : Choosing A
  Chosen = spelling (λ m b. (tells m b).from) rows g super_at

  -- a class is named as the image of one, and a member declares the image of what one does
  abbrev pub IsNamed : (b i : ℕ) (o p : Option (List ℕ)) → syntax.Class A → syntax.Class A → Type 0
  IsNamed = IsClassImage tells (λ m b. (tells m b).from) g

  abbrev pub IsImage : (b i : ℕ) (of of' : ClassKey) → syntax.Member A → syntax.Member A → Type 0
  IsImage = IsMemberImage tells (λ m b. (tells m b).from) g declarations declarations'

  abbrev Nothing : MemberKey → (base : ℕ) → Part A → Type 0
  Nothing k b part = Unit {0}

  abbrev Kept : List StatementCode → List StatementCode → Type 0
  Kept ss ts = Inits tells last rows g super_at worlds fair bound_old bound_new fronts keys maps R has no_rows casts known places places' are implicit declarations ss ts

  abbrev Rowed : (b : ℕ) → ClassKey → syntax.Members A → Type 0
  Rowed b of ms = RowedIn tells last rows g super_at worlds fair bound_old bound_new fronts keys maps R has no_rows casts known places places' are implicit declarations b of ms

  -- what is kept of a member
  abbrev pub Goal : MemberKey → Type 0
  Goal (method k) = ToMethod keys R (P.method k) (Q.method (method_to g k))
  Goal (constructor k) = ToCode keys R (P.constructor k) (Q.constructor (ctor_to g k))
  Goal _ = Unit {0}

  -- initializers are kept wherever the new ones stand
  inits_elsewhere : (ss ts us : List StatementCode) → AllAgain ts us → Kept ss us → Kept ss ts
  inits_elsewhere [] [] [] e h size = tt
  inits_elsewhere (s ∷ ss) (t ∷ ts) (u ∷ us) e h size =
      let first : no_stmt_places t ≡ no_stmt_places u = cc in
      let rest : map no_stmt_places ts ≡ map no_stmt_places us = cc in
      (stmt_elsewhere keys R size s u t first (h size).0, inits_elsewhere ss ts us rest (λ n. (h n).1) size)
  inits_elsewhere [] (t ∷ ts) [] e h size = absurd cc
  inits_elsewhere [] ts (u ∷ us) e h size = absurd (h size)
  inits_elsewhere (s ∷ ss) ts [] e h size = absurd (h size)
  inits_elsewhere (s ∷ ss) [] (u ∷ us) e h size = absurd cc

  rewrites_ctor : (b : ℕ) (of : ClassKey) (ms : syntax.Members A) (q : Rewritten (syntax.Members A)) → RewritesMembers tells Chosen declarations b of ms q → writes_ctor begins q.tree ≡ writes_ctor begins ms
  unfolding TransformsMembers TransformsOne
  rewrites_ctor b of syntax.end q is = ap (λ (l : Rewritten (syntax.Members A)). writes_ctor begins l.tree) is
  rewrites_ctor b of (syntax.more (syntax.field m mods t w init) xs) q (p, z, (k, declares, (x, v, y, types, declared, made, that)), rest, is) =
      ap (λ (l : Rewritten (syntax.Members A)). writes_ctor begins l.tree) is ∙ ap (λ (l : Rewritten (syntax.Member A)). writes_ctor begins (syntax.more l.tree z.tree)) that ∙ rewrites_ctor b of xs z rest
  rewrites_ctor b of (syntax.more (syntax.method m mods t w ps body) xs) q (p, z, (k, declares, (a, v, x, y, result, declared, params, made, that)), rest, is) =
      ap (λ (l : Rewritten (syntax.Members A)). writes_ctor begins l.tree) is ∙ ap (λ (l : Rewritten (syntax.Member A)). writes_ctor begins (syntax.more l.tree z.tree)) that ∙ rewrites_ctor b of xs z rest
  rewrites_ctor b of (syntax.more (syntax.constructor m mods w ps args body) xs) q (p, z, (k, declares, (v, x, a, y, declared, params, super_part, made, that)), rest, is) =
      ap (λ (l : Rewritten (syntax.Members A)). writes_ctor begins l.tree) is ∙ ap (λ (l : Rewritten (syntax.Member A)). writes_ctor begins (syntax.more l.tree z.tree)) that
  rewrites_ctor b of (syntax.more (syntax.inner m c) xs) q (p, z, (x, made, that), rest, is) =
      ap (λ (l : Rewritten (syntax.Members A)). writes_ctor begins l.tree) is ∙ ap (λ (l : Rewritten (syntax.Member A)). writes_ctor begins (syntax.more l.tree z.tree)) that ∙ rewrites_ctor b of xs z rest

  -- ---- a written method or constructor

  module _ (of of' : ClassKey) (row : HasRow rows (class_decl of)) (b i : ℕ) where
    -- the types of what is declared have rows
    abbrev HasTypes : syntax.Member A → Type 0
    HasTypes x = (k : MemberKey) → Declares begins declarations b of x k → (t : Ty) → Of t (types_of k) → IsKnown rows t

    method_walk : (ss ts : List StatementCode) (m : A) (mods : List (syntax.Modifier A)) (t : Option (tree.TypeName A)) (w : tree.Word A) (ps : List (syntax.Param A)) (body : statement.Stmts A) (p : Rewritten (syntax.Member A)) (y : syntax.Member A)
        → bare_member y ≡ bare_member p.tree → (j : MemberKey) → Declares begins declarations b of (syntax.method m mods t w ps body) j → RewritesMember tells Chosen j b (syntax.method m mods t w ps body) p → p.losses ≡ []
        → HasTypes (syntax.method m mods t w ps body) → IsImage b i of of' (syntax.method m mods t w ps body) y → OneCoded begins last rows places declarations P of b ss (syntax.method m mods t w ps body) → OneCoded begins last (rows_to g rows) places' declarations' Q of' i ts y
        → (k : MemberKey) → Declares begins declarations b of (syntax.method m mods t w ps body) k → Goal k
    method_walk ss ts m mods t w ps body p y e j declares made none types image old new k here =
        let r = k_is k here in
        let mine = subst (λ (z : MemberKey). Declares begins declarations b of (syntax.method m mods t w ps body) z) r.1 here in
        let coded = new.0 (method_to g r.0) (image (method r.0) mine) in
        let again = recode_method begins last (rows_to g rows) places' (method_to g r.0) i b y p.tree e (Q.method (method_to g r.0)) coded in
        let kept = method_image tells last rows g super_at worlds fair bound_old bound_new fronts keys maps R has no_rows casts known places places' are implicit r.0 row.0 (subst (λ (z : ClassKey). IsRowOf rows (class_decl z) row.0) (sym r.2) row.1) (types (method r.0) mine) b m mods t w ps body p
        (subst (λ (z : MemberKey). RewritesMember tells Chosen z b (syntax.method m mods t w ps body) p) (one_key b of (syntax.method m mods t w ps body) j k declares here ∙ r.1) made) none b (P.method r.0) again.0 (old.0 r.0 mine) again.1 in
        subst Goal (sym r.1) (method_elsewhere keys R (P.method r.0) again.0 (Q.method (method_to g r.0)) again.2 kept)
      where
        k_is : (k : MemberKey) → Declares begins declarations b of (syntax.method m mods t w ps body) k → (r : MethodKey) × (k ≡ method r) × (r.class ≡ of)
        k_is k (us, mean, is) = (record { class = of; name = w.text; params = us }, is, refl)

    constructor_walk : (ss ts us : List StatementCode) → AllAgain ts us → Kept ss us → (m : A) (mods : List (syntax.Modifier A)) (w : tree.Word A) (ps : List (syntax.Param A)) (args : Option (tree.Exps A)) (body : statement.Stmts A) (p : Rewritten (syntax.Member A)) (y : syntax.Member A)
        → bare_member y ≡ bare_member p.tree → (j : MemberKey) → Declares begins declarations b of (syntax.constructor m mods w ps args body) j → RewritesMember tells Chosen j b (syntax.constructor m mods w ps args body) p → p.losses ≡ []
        → HasTypes (syntax.constructor m mods w ps args body) → IsImage b i of of' (syntax.constructor m mods w ps args body) y → OneCoded begins last rows places declarations P of b ss (syntax.constructor m mods w ps args body) → OneCoded begins last (rows_to g rows) places' declarations' Q of' i ts y
        → (k : MemberKey) → Declares begins declarations b of (syntax.constructor m mods w ps args body) k → Goal k
    constructor_walk ss ts us same inits m mods w ps args body p y e j declares made none types image old new k here =
        let r = k_is k here in
        let mine = subst (λ (z : MemberKey). Declares begins declarations b of (syntax.constructor m mods w ps args body) z) r.1 here in
        let coded = new.1 (ctor_to g r.0) (image (constructor r.0) mine) in
        let again = recode_constructor begins last (rows_to g rows) places' (ctor_to g r.0) i b ts us same y p.tree e (Q.constructor (ctor_to g r.0)) coded in
        let kept = constructor_image tells last rows g super_at worlds fair bound_old bound_new fronts keys maps R has no_rows casts known places places' are implicit r.0 (row.0, subst (λ (z : ClassKey). IsRowOf rows (class_decl z) row.0) (sym r.2) row.1) (types (constructor r.0) mine) b m mods w ps args body p
        (subst (λ (z : MemberKey). RewritesMember tells Chosen z b (syntax.constructor m mods w ps args body) p) (one_key b of (syntax.constructor m mods w ps args body) j k declares here ∙ r.1) made) none b ss us inits (P.constructor r.0) again.0
        (old.1 r.0 mine) again.1 in
        subst Goal (sym r.1) (code_elsewhere keys R (P.constructor r.0) again.0 (Q.constructor (ctor_to g r.0)) again.2 kept)
      where
        k_is : (k : MemberKey) → Declares begins declarations b of (syntax.constructor m mods w ps args body) k → (r : CtorKey) × (k ≡ constructor r) × (r.class ≡ of)
        k_is k (us, mean, is) = (record { class = of; params = us }, is, refl)

  -- ---- an unwritten constructor

  -- of a class that the program has, and in which none is written
  module _ (of of' : ClassKey) (to : of' ≡ class_to g of) (ss ts us : List StatementCode) (same : AllAgain ts us) (inits : Kept ss us) where
    default_walk : DefaultCoded begins last rows places of ss (P.constructor (record { class = of; params = [] })) → DefaultCoded begins last (rows_to g rows) places' of' ts (Q.constructor (record { class = of'; params = [] }))
        → Goal (constructor (record { class = of; params = [] }))
    default_walk (x, finds, old) (n, found, new) =
        let c = no_locals (head of) true in
        let d = no_locals (member_to g (head of)) true in
        let stand = plain_to tells rows g super_at worlds (head of) true in
        let moved = subst (λ (z : ClassKey). ImplicitFinds (rows_to g rows) (no_locals (head z) true) n) to found in
        let row = implicit_row tells last rows g super_at worlds fair bound_old bound_new fronts keys maps R has no_rows casts known places places' are implicit c x finds in
        let first = parent_by tells last rows g super_at worlds fair bound_old bound_new fronts keys maps R has no_rows casts known places places' are implicit 0 x n row.0 row.1 (implicit c d (scope_image g rows c d stand) x n finds moved) None None core.Exps.end core.Exps.end end_to
        (core.eval None (core.super_constructor None (core.this None) x core.Exps.end)) (core.eval None (core.super_constructor None (core.this None) n core.Exps.end)) refl refl in
        let rest = in_front_image tells last rows g super_at worlds fair bound_old bound_new fronts keys maps R has no_rows casts known places places' are implicit 0 ss ts core.Stmts.end core.Stmts.end (inits_elsewhere ss ts us same inits 0) no_more_to in
        let code : ToCode keys R (P.constructor (record { class = of; params = [] })) (Q.constructor (record { class = of'; params = [] })) =
        subst (λ (z : core.Code RunKeys). ToCode keys R z (Q.constructor (record { class = of'; params = [] }))) (sym old)
        (subst (λ (z : core.Code RunKeys). ToCode keys R (record { params = 0; body = core.Stmts.more (core.eval None (core.super_constructor None (core.this None) x core.Exps.end)) (in_front ss core.Stmts.end) }) z) (sym new)
        (record { size = 0; params = refl; below = omega arith; body = list_to _ _ _ _ first rest })) in
        subst (λ (z : ClassKey). ToCode keys R (P.constructor (record { class = of; params = [] })) (Q.constructor (record { class = z; params = [] }))) to code

  -- ---- classes

  mutual
    unfolding TransformsClass TransformsMembers TransformsOne ClassBeside MembersBeside MemberBeside ClassCoded MembersCoded InnerCoded InClass InMembers InInner OfClass OfMembers OfMember map_class map_member map_members

    pub class_walk : (b i : ℕ) (o p : Option (List ℕ)) (c : syntax.Class A) (q : Rewritten (syntax.Class A)) (d : syntax.Class A) → bare_class d ≡ bare_class q.tree → RewritesClass tells Chosen declarations b o c q → q.losses ≡ []
        → ClassBeside begins begins IsNamed IsImage b i o p c d → ((k : MemberKey) → InClass begins declarations Nothing b o c k → HasRow rows (decl_of_member k))
        → ClassCoded begins last rows places declarations P b o c → ClassCoded begins last (rows_to g rows) places' declarations' Q i p d → (k : MemberKey) → OfClass begins declarations b o c k → Goal k
    class_walk b i o p (syntax.class m mods w t ms) q (syntax.class l words v u ns) e (n, z, head_made, made, is) none beside rowed (ss, inits, default, members) (ts, coded, other, rest) k here =
        let all = lost_none q (joined (λ (x : tree.Word A × Option (tree.TypeName A)) xs. syntax.class m mods x.0 x.1 xs) n z) is none in
        let lost = right_none n.losses z.losses all in
        let same : bare_class (syntax.class l words v u ns) ≡ bare_class (syntax.class m mods n.tree.0 n.tree.1 z.tree) = e ∙ ap (λ (x : Rewritten (syntax.Class A)). bare_class x.tree) is in
        let trees : map_members no_mark ns ≡ map_members no_mark z.tree = cc in
        let again = recode_inits begins last (rows_to g rows) places' (class_key begins p v.text) (begins l i) (begins m b) ns z.tree trees ts coded in
        let owner = rowed (head (class_key begins o w.text)) (inl (refl, tt)) in
        let kept = inits_walk tells last rows g super_at worlds fair bound_old bound_new fronts keys maps R has no_rows casts known places places' are implicit declarations (class_key begins o w.text) (class_key begins p v.text) beside.0 owner (begins m b) ms z made lost
        (λ j later. rowed j (inr later)) ss again.0 inits again.1 in
        elim here [
          | inl (lacks, that) ↦ subst Goal (sym that) (default_walk (class_key begins o w.text) (class_key begins p v.text) beside.0 ss ts again.0 again.2 kept (default lacks)
              (other (writes_same begins ns z.tree trees ∙ rewrites_ctor (begins m b) (class_key begins o w.text) ms z made ∙ lacks)))
          | inr deeper ↦ members_walk (begins m b) (begins l i) (class_key begins o w.text) (class_key begins p v.text) owner ss ts again.0 again.2 kept ms z ns trees made lost beside.1
              (λ j later. rowed j (inr later)) members rest k deeper
        ]

    pub members_walk : (b i : ℕ) (of of' : ClassKey) → HasRow rows (class_decl of) → (ss ts us : List StatementCode) → AllAgain ts us → Kept ss us → (ms : syntax.Members A) (q : Rewritten (syntax.Members A)) (ns : syntax.Members A)
        → map_members no_mark ns ≡ map_members no_mark q.tree → RewritesMembers tells Chosen declarations b of ms q → q.losses ≡ [] → MembersBeside begins begins IsNamed IsImage b i of of' ms ns → Rowed b of ms
        → MembersCoded begins last rows places declarations P b of ss ms → MembersCoded begins last (rows_to g rows) places' declarations' Q i of' ts ns → (k : MemberKey) → OfMembers begins declarations b of ms k → Goal k
    members_walk b i of of' row ss ts us same inits syntax.end q ns e made none beside rowed old new k here = absurd here
    members_walk b i of of' row ss ts us same inits (syntax.more x xs) q syntax.end e made none beside rowed old new k here = absurd beside
    members_walk b i of of' row ss ts us same inits (syntax.more x xs) q (syntax.more y ys) e (p, z, single, rest, is) none beside rowed old new k here =
        let all = lost_none q (joined (λ y ys. syntax.more y ys) p z) is none in
        let bares : map_members no_mark (syntax.more y ys) ≡ map_members no_mark (syntax.more p.tree z.tree) = e ∙ ap (λ (l : Rewritten (syntax.Members A)). map_members no_mark l.tree) is in
        let heads : bare_member y ≡ bare_member p.tree = cc in
        let tails : map_members no_mark ys ≡ map_members no_mark z.tree = cc in
        elim here [
          | inl first ↦ one_walk b i of of' row ss ts us same inits x p y heads single (left_none p.losses z.losses all) beside.0 (λ j h. rowed j (inl h)) old.0 new.0 old.1 new.1 k first
          | inr later ↦ members_walk b i of of' row ss ts us same inits xs z ys tails rest (right_none p.losses z.losses all) beside.1 (λ j h. rowed j (inr h)) old.2 new.2 k later
        ]

    one_walk : (b i : ℕ) (of of' : ClassKey) → HasRow rows (class_decl of) → (ss ts us : List StatementCode) → AllAgain ts us → Kept ss us → (x : syntax.Member A) (p : Rewritten (syntax.Member A)) (y : syntax.Member A) → bare_member y ≡ bare_member p.tree
        → RewritesOne tells Chosen declarations b of x p → p.losses ≡ [] → MemberBeside begins begins IsNamed IsImage b i of of' x y
        → ((j : MemberKey) → ((Declares begins declarations b of x j × Unit {0}) ⊎ InInner begins declarations Nothing b of x j) → HasRow rows (decl_of_member j))
        → InnerCoded begins last rows places declarations P b of x → InnerCoded begins last (rows_to g rows) places' declarations' Q i of' y
        → OneCoded begins last rows places declarations P of b ss x → OneCoded begins last (rows_to g rows) places' declarations' Q of' i ts y
        → (k : MemberKey) → OfMember begins declarations b of x k → Goal k
    one_walk b i of of' row ss ts us same inits (syntax.field m mods t w init) p y e made none beside rowed inner inner' old new k here = absurd here
    one_walk b i of of' row ss ts us same inits (syntax.method m mods t w ps body) p y e (j, declares, made) none beside rowed inner inner' old new k here =
        method_walk of of' row b i ss ts m mods t w ps body p y e j declares made none (λ l h. types_known l (rowed l (inl (h, tt)))) beside old new k here
    one_walk b i of of' row ss ts us same inits (syntax.constructor m mods w ps args body) p y e (j, declares, made) none beside rowed inner inner' old new k here =
        constructor_walk of of' row b i ss ts us same inits m mods w ps args body p y e j declares made none (λ l h. types_known l (rowed l (inl (h, tt)))) beside old new k here
    one_walk b i of of' row ss ts us same inits (syntax.inner m c) p (syntax.inner l d) e (q, made, is) none beside rowed inner inner' old new k here =
        let lost = lost_none p (within (λ d. syntax.inner m d) q) is none in
        let bares : bare_member (syntax.inner l d) ≡ bare_member (syntax.inner m q.tree) = e ∙ ap (λ (z : Rewritten (syntax.Member A)). bare_member z.tree) is in
        let classes : bare_class d ≡ bare_class q.tree = cc in
        class_walk (begins m b) (begins l i) (Some of.name) (Some of'.name) c q d classes made lost beside (λ j h. rowed j (inr h)) inner inner' k here
    one_walk b i of of' row ss ts us same inits (syntax.inner m c) p (syntax.field l words u v init) e made none beside rowed inner inner' old new k here = absurd beside
    one_walk b i of of' row ss ts us same inits (syntax.inner m c) p (syntax.method l words u v ps body) e made none beside rowed inner inner' old new k here = absurd beside
    one_walk b i of of' row ss ts us same inits (syntax.inner m c) p (syntax.constructor l words v ps args body) e made none beside rowed inner inner' old new k here = absurd beside

  -- ---- files

  classes_walk : (b i : ℕ) (cs : List (syntax.Class A)) (q : Rewritten (List (syntax.Class A))) (ds : List (syntax.Class A)) → map bare_class ds ≡ map bare_class q.tree → RewritesClasses tells Chosen declarations b cs q → q.losses ≡ []
      → ClassesBeside begins begins IsNamed IsImage b i cs ds → ((k : MemberKey) → InClasses begins declarations Nothing b cs k → HasRow rows (decl_of_member k))
      → ClassesCoded begins last rows places declarations P b cs → ClassesCoded begins last (rows_to g rows) places' declarations' Q i ds → (k : MemberKey) → OfClasses begins declarations b cs k → Goal k
  classes_walk b i [] q ds e made none beside rowed old new k here = absurd here
  classes_walk b i (c ∷ cs) q [] e made none beside rowed old new k here = absurd beside
  classes_walk b i (c ∷ cs) q (d ∷ ds) e (p, z, single, rest, is) none beside rowed old new k here =
      let all = lost_none q (joined (λ d ds. d ∷ ds) p z) is none in
      let bares : map bare_class (d ∷ ds) ≡ map bare_class (p.tree ∷ z.tree) = e ∙ ap (λ (l : Rewritten (List (syntax.Class A))). map bare_class l.tree) is in
      let heads : bare_class d ≡ bare_class p.tree = cc in
      let tails : map bare_class ds ≡ map bare_class z.tree = cc in
      elim here [
        | inl first ↦ class_walk b i None None c p d heads single (left_none p.losses z.losses all) beside.0 (λ j h. rowed j (inl h)) old.0 new.0 k first
        | inr later ↦ classes_walk b i cs z ds tails rest (right_none p.losses z.losses all) beside.1 (λ j h. rowed j (inr h)) old.1 new.1 k later
      ]

  pub units_walk : (us : List (syntax.Unit A)) (qs : List (Rewritten (syntax.Unit A))) (vs : List (syntax.Unit A)) → map bare_unit vs ≡ map (λ (o : Rewritten (syntax.Unit A)). bare_unit o.tree) qs
      → RewritesUnits tells Chosen declarations us qs → AllKept qs → UnitsBeside begins begins IsNamed IsImage us vs → ((k : MemberKey) → InUnits begins declarations Nothing us k → HasRow rows (decl_of_member k))
      → UnitsCoded begins last rows places declarations P us → UnitsCoded begins last (rows_to g rows) places' declarations' Q vs → (k : MemberKey) → OfUnits begins declarations us k → Goal k
  units_walk [] qs vs e made none beside rowed old new k here = absurd here
  units_walk (u ∷ us) qs [] e made none beside rowed old new k here = absurd beside
  units_walk (u ∷ us) qs (v ∷ vs) e (q, rest, (p, single, is), more, all_is) none beside rowed old new k here =
      let bares : map bare_unit (v ∷ vs) ≡ map (λ (o : Rewritten (syntax.Unit A)). bare_unit o.tree) (q ∷ rest) = e ∙ ap (map (λ (o : Rewritten (syntax.Unit A)). bare_unit o.tree)) all_is in
      let first : bare_unit v ≡ bare_unit q.tree = cc in
      let tails : map bare_unit vs ≡ map (λ (o : Rewritten (syntax.Unit A)). bare_unit o.tree) rest = cc in
      let classes : map bare_class v.classes ≡ map bare_class p.tree = ap (λ (z : syntax.Unit Bare). z.classes) first ∙ ap (λ (o : Rewritten (syntax.Unit A)). map bare_class o.tree.classes) is in
      let kept = subst (λ (os : List (Rewritten (syntax.Unit A))). AllKept os) all_is none in
      elim here [
        | inl mine ↦ classes_walk (begins u.mark 0) (begins v.mark 0) u.classes p v.classes classes single (lost_none q _ is kept.0) beside.0 (λ j h. rowed j (inl h)) old.0 new.0 k mine
        | inr later ↦ units_walk us rest vs tails more kept.1 beside.1 (λ j h. rowed j (inr h)) old.1 new.1 k later
      ]
