-- Each kind of member from its parts, where places and numbers are shown as they are.
use Rattle.std.proofs.Common.{◌≡◌, ℕ, suc, ◌+◌, Bool, true, false, List, [], ◌∷◌, ◌++◌, length, Option, Some, None, refl, sym, ap, subst, ◌∙◌, append_assoc, arith}
use Rattle.std.specs.Prelude.{◌||◌}
use Rattle.jr_text.specs.declared.spans.Span.{Span}
use Rattle.jr_ast.specs.Tree as tree
use Rattle.jr_ast.specs.StatementTree as statement
use Rattle.jr_ast.specs.MemberTree as declared
use Rattle.jr_ast.specs.declared.exprs.Expr.{Expr}
use Rattle.jr_ast.specs.Marks.{member_mark}
use Rattle.jr_ast.specs.View.{exprs_of}
use Rattle.jr_table.specs.Keys.{FieldKey}
use Rattle.jr_code.specs.RunKeys.{RunKeys}
use Rattle.jr_runs.specs.MemberTranslation as locked
use Rattle.jr_cover.specs.MemberTranslation as shared
use Rattle.jr_cover.specs.Members.{field_way}
use Rattle.jr_cover.specs.Sites as sites
use Rattle.jr_cover.specs.Spots.{spot_modifiers, spot_maybe, spot_word, spot_member, spot_class, spot_members, exps_count}
use Rattle.jr_cover.specs.Ways.{Way}
use Rattle.jr_expr_sites.specs.Steps.{steps_of}
use Rattle.jr_expr_sites.specs.Steps as step
use Rattle.jr_expr_sites.specs.StepView.{steps_in}
use Rattle.jr_expr_sites.specs.KnownFacts.{Given, Others, known_of, place}
use Rattle.jr_expr_sites.specs.Routes.{Route, Steps, Walked, begins_by, ends_by, seq, done, nothing}
use Rattle.jr_cfg.specs.StatementRoutes.{NumberedAll, WalkedSo}
use Rattle.jr_cfg.specs.StatementRoutes as list
use Rattle.jr_cfg.specs.MemberRoutes as route
use Rattle.jr_cfg.specs.MemberRoutes.{NumbersMember, call_place}
use Rattle.jr_expr_sites.proofs.Walking.{Seen, row_goes, three}

-- ---- modifiers are the same with other marks

module _ {A : Type 0} (begins ends : A → ℕ → ℕ) where
  static_spots : (mods : List (declared.Modifier A)) (base : ℕ) (p : List ℕ) (i : ℕ) → shared.is_static (spot_modifiers begins ends mods base p i) ≡ shared.is_static mods
  static_spots [] base p i = refl
  static_spots (m ∷ ms) base p i = ap (λ b. shared.is_static_word m.word || b) (static_spots ms base p (suc i))

  locked_spots : (mods : List (declared.Modifier A)) (base : ℕ) (p : List ℕ) (i : ℕ) → locked.is_synchronized (spot_modifiers begins ends mods base p i) ≡ locked.is_synchronized mods
  locked_spots [] base p i = refl
  locked_spots (m ∷ ms) base p i = ap (λ b. locked.is_synchronized_word m.word || b) (locked_spots ms base p (suc i))

-- ---- what is put

monitor_steps : (o w : Seen) (e x : sites.Site RunKeys) → ((o ++ step.opens e ∷ []) ++ w) ++ step.closes x ∷ [] ≡ o ++ (step.opens e ∷ (w ++ step.closes x ∷ []))
monitor_steps o w e x = append_assoc (o ++ step.opens e ∷ []) w (step.closes x ∷ []) ∙ append_assoc o (step.opens e ∷ []) (w ++ step.closes x ∷ [])

module _ {A : Type 0} (tells : A → ℕ → Span) (g : Given) where
  abbrev seen : Steps → Seen
  seen l = steps_in g.member l

  module _ (front at : ℕ) (body : statement.Stmts A) (IsSo : Others → Type 0) where
    abbrev Body : Route
    Body = list.stmts tells [] front at body

    pub locked_goes : (word last : ℕ) (old one two new : Steps) → seen one ≡ seen old ++ step.opens (record { at = place g word; what = sites.enters }) ∷ [] → WalkedSo g IsSo Body one two
        → seen new ≡ seen two ++ step.closes (record { at = place g last; what = sites.exits }) ∷ [] → WalkedSo g IsSo (route.method tells true front at word last body) old new
    locked_goes word last old one two new opened walked closed o is =
        closed ∙ ap (λ (l : Seen). l ++ step.closes (record { at = place g last; what = sites.exits }) ∷ []) (walked o is ∙ ap (λ (l : Seen). l ++ steps_of (Body g o)) opened)
        ∙ monitor_steps (seen old) (steps_of (Body g o)) (record { at = place g word; what = sites.enters }) (record { at = place g last; what = sites.exits })

    -- front is the number behind those of the arguments
    pub constructor_goes : (called first : ℕ) (args : Option (tree.Exps A)) → front ≡ first + route.arguments tells args → (old one two mid three_ new : Steps) → Walked g (route.super_args tells first at args) old one
        → Walked g (done sites.calls called) one two → seen mid ≡ seen two ++ step.row ∷ [] → WalkedSo g IsSo Body mid three_ → seen new ≡ seen three_ ++ step.row ∷ []
        → WalkedSo g IsSo (route.constructor tells first at called args body) old new
    constructor_goes called first args is old one two mid three_ new a b joined walked ended o so =
        let first_row = row_goes g (route.super_args tells first at args) (done sites.calls called) old one two mid a b joined in
        let r = steps_of (seq (route.super_args tells first at args) (done sites.calls called) g o) in
        ended ∙ ap (λ (l : Seen). l ++ step.row ∷ []) (walked o so ∙ ap (λ (l : Seen). l ++ steps_of (Body g o)) (first_row o))
        ∙ three (seen old) r (steps_of (Body g o)) (step.row ∷ [])
        ∙ (λ i. seen old ++ (r ++ (steps_of (list.stmts tells [] (is i) at body g o) ++ step.row ∷ [])))

-- ---- the way of a member, by its parts

module _ {A : Type 0} (tells : A → ℕ → Span) (g : Given) (super_at base : ℕ) (k : FieldKey) where
  abbrev B : A → ℕ → ℕ
  B = begins_by tells

  abbrev E : A → ℕ → ℕ
  E = ends_by tells

  field_is : (m : A) (mods : List (declared.Modifier A)) (t : tree.TypeName A) (w : tree.Word A) (init : Option (tree.Exp A)) (o : Others)
      → route.field tells mods (B m base) (B w.mark (B m base)) k init g o ≡ route.member tells super_at base k (declared.field m mods t w init) g o
  unfolding spot_member spot_class spot_members
  field_is m mods t w None o = refl
  field_is m mods t w (Some e) o =
      by (shared.is_static mods) ∙ ap (λ b. field_way (known_of g o) b k (spot_word B E w (B m base) (suc (length mods) ∷ [])) (spot_maybe B E (Some e) (B m base) (suc (suc (length mods)) ∷ []))) (sym (static_spots B E mods (B m base) [] 0))
    where
      by : (b : Bool) → route.initializer tells b (suc (suc (length mods))) (B m base) (B w.mark (B m base)) k e g o
          ≡ field_way (known_of g o) b k (spot_word B E w (B m base) (suc (length mods) ∷ [])) (spot_maybe B E (Some e) (B m base) (suc (suc (length mods)) ∷ []))
      by true = refl
      by false = refl

  method_is : (m : A) (mods : List (declared.Modifier A)) (t : Option (tree.TypeName A)) (w : tree.Word A) (ps : List (declared.Param A)) (body : statement.Stmts A) (o : Others)
      → route.method tells (locked.is_synchronized mods) (route.method_front tells mods t ps) (B m base) (B w.mark (B m base)) (E m base) body g o
      ≡ route.member tells super_at base k (declared.method m mods t w ps body) g o
  unfolding spot_member spot_class spot_members
  method_is m mods t w ps body o =
      by (locked.is_synchronized mods) ∙ ap (λ b. sites.locked_way b (place g (B w.mark (B m base))) (place g (E m base)) inner) (sym (locked_spots B E mods (B m base) [] 0))
    where
      inner : Way (sites.Site RunKeys)
      inner = list.stmts tells [] (route.method_front tells mods t ps) (B m base) body g o

      by : (b : Bool) → route.method tells b (route.method_front tells mods t ps) (B m base) (B w.mark (B m base)) (E m base) body g o ≡ sites.locked_way b (place g (B w.mark (B m base))) (place g (E m base)) inner
      by true = refl
      by false = refl

  constructor_is : (m : A) (mods : List (declared.Modifier A)) (w : tree.Word A) (ps : List (declared.Param A)) (args : Option (tree.Exps A)) (body : statement.Stmts A) (o : Others)
      → route.constructor tells (route.constructor_front tells mods ps) (B m base) (call_place args super_at (B w.mark (B m base))) args body g o
      ≡ route.member tells super_at base k (declared.constructor m mods w ps args body) g o
  unfolding spot_member spot_class spot_members
  constructor_is m mods w ps args body o = refl

  -- ---- what is put is the member's

  module _ (old new : Steps) (m : A) (at : ℕ) (start : at ≡ B m base) where
    abbrev Gives : declared.Member A → Type 0
    Gives x = WalkedSo g (NumbersMember tells base x) (route.member tells super_at base k x) old new

    pub field_gives : (mods : List (declared.Modifier A)) (t : tree.TypeName A) (w : tree.Word A) (init : Option (tree.Exp A)) → Walked g (route.field tells mods at (B w.mark at) k init) old new → Gives (declared.field m mods t w init)
    field_gives mods t w init h o is =
        h o ∙ (λ i. steps_in g.member old ++ steps_of (route.field tells mods (start i) (B w.mark (start i)) k init g o)) ∙ ap (λ v. steps_in g.member old ++ steps_of v) (field_is m mods t w init o)

    numbered : (body : statement.Stmts A) (front number count : ℕ) → count ≡ number → (o : Others) → NumberedAll tells number [] front (B m base) body o → NumberedAll tells count [] front at body o
    numbered body front number count behind o is =
        subst (λ (q : ℕ). NumberedAll tells q [] front at body o) (sym behind) (subst (λ (q : ℕ). NumberedAll tells number [] front q body o) (sym start) is)

    pub method_gives : (mods : List (declared.Modifier A)) (t : Option (tree.TypeName A)) (w : tree.Word A) (ps : List (declared.Param A)) (body : statement.Stmts A) (last count : ℕ) → last ≡ E m base → count ≡ length ps
        → WalkedSo g (NumberedAll tells count [] (route.method_front tells mods t ps) at body) (route.method tells (locked.is_synchronized mods) (route.method_front tells mods t ps) at (B w.mark at) last body) old new
        → Gives (declared.method m mods t w ps body)
    method_gives mods t w ps body last count ended behind h o is =
        let front = route.method_front tells mods t ps in
        h o (numbered body front (length ps) count behind o is)
        ∙ (λ i. steps_in g.member old ++ steps_of (route.method tells (locked.is_synchronized mods) front (start i) (B w.mark (start i)) (ended i) body g o))
        ∙ ap (λ v. steps_in g.member old ++ steps_of v) (method_is m mods t w ps body o)

    pub constructor_gives : (mods : List (declared.Modifier A)) (w : tree.Word A) (ps : List (declared.Param A)) (args : Option (tree.Exps A)) (body : statement.Stmts A) (count : ℕ) → count ≡ length ps
        → WalkedSo g (NumberedAll tells count [] (route.constructor_front tells mods ps + route.arguments tells args) at body) (route.constructor tells (route.constructor_front tells mods ps) at (call_place args super_at (B w.mark at)) args body) old new
        → Gives (declared.constructor m mods w ps args body)
    constructor_gives mods w ps args body count behind h o is =
        let front = route.constructor_front tells mods ps in
        h o (numbered body (front + route.arguments tells args) (length ps) count behind o is)
        ∙ (λ i. steps_in g.member old ++ steps_of (route.constructor tells front (start i) (call_place args super_at (B w.mark (start i))) args body g o))
        ∙ ap (λ v. steps_in g.member old ++ steps_of v) (constructor_is m mods w ps args body o)

    pub inner_gives : (c : declared.Class A) → Walked g nothing old new → Gives (declared.inner m c)
    unfolding spot_member spot_class spot_members
    inner_gives c h o is = h o

-- ---- numbers of parts

pub behind_two : (n m : ℕ) → n ≡ m → 2 + n ≡ suc (suc m)
behind_two n m e = omega (arith, e)

pub count_exps : {A : Type 0} (begins ends : A → ℕ → ℕ) (xs : List (Expr A)) → length xs ≡ exps_count begins ends (exprs_of xs)
count_exps begins ends [] = refl
count_exps begins ends (x ∷ xs) = ap suc (count_exps begins ends xs)

module _ {A : Type 0} (tells : A → ℕ → Span) (mods : List (declared.Modifier A)) where
  pub method_front_is : (t : Option (tree.TypeName A)) (ps : List (declared.Param A)) (w n k : ℕ) → w ≡ route.words tells t → n ≡ length mods → k ≡ length ps → w + n + k ≡ route.method_front tells mods t ps
  method_front_is t ps w n k a b c = omega (arith, a, b, c)

  pub constructor_front_is : (ps : List (declared.Param A)) (n k : ℕ) → n ≡ length mods → k ≡ length ps → 1 + n + k ≡ route.constructor_front tells mods ps
  constructor_front_is ps n k b c = omega (arith, b, c)

-- the place of a member fits
pub sites_fit : {A : Type 0} (tells : A → ℕ → Span) (F : A → ℕ → Type 0) (base : ℕ) (m : declared.Member A) → route.FitsSites tells F base m → F (member_mark m) base
sites_fit tells F base (declared.field m mods t w init) h = h.0
sites_fit tells F base (declared.method m mods t w ps body) h = h.0
sites_fit tells F base (declared.constructor m mods w ps args body) h = h.0
sites_fit tells F base (declared.inner m c) h = h
