-- What is known at a place of a member that is walked.
use Rattle.std.proofs.Common.{◌≡◌, ℕ, suc, ◌+◌, List, [], ◌∷◌, ◌++◌, map, length, drop, get_or, Option, Some, None, Bool, true, false, refl, sym, ap, subst, ◌∙◌, arith}
use Rattle.std.specs.Prelude.{option_map}
use Rattle.std.proofs.lemmas.List.{append_assoc, append-nil}
use Rattle.jr_text.specs.declared.spans.Span.{Span}
use Rattle.jr_ast.specs.Tree as tree
use Rattle.jr_ast.specs.StatementTree as statement
use Rattle.jr_ast.specs.MemberTree as syntax
use Rattle.jr_ast.specs.declared.exprs.Expr.{Expr}
use Rattle.jr_ast.specs.View.{exprs_of}
use Rattle.jr_table.specs.TypesAt.{count_args}
use Rattle.jr_table.specs.Keys.{Ty}
use Rattle.jr_table.specs.Decls.{MemberKey}
use Rattle.jr_table.specs.Rows.{Row}
use Rattle.jr_table.specs.Context.{Context, Local, parameters}
use Rattle.jr_table.specs.HeadRules.{plain, with_parameters, types_of}
use Rattle.jr_table.specs.Binding.{value}
use Rattle.jr_scopes.specs.Helds.{Held, local_of, key_of}
use Rattle.jr_bind.specs.Bounds.{Bound}
use Rattle.jr_rewrite.specs.Rewrites.{RewritesType, RewritesMaybe, RewritesStmts, RewritesSuper, TransformsMaybe, TransformsList, TransformsSuper}
use Rattle.jr_new_words.specs.Mappings.{Mapping}
use Rattle.jr_new_words.specs.Spelled.{spelling}
use Rattle.jr_new_bodies.specs.Effects.{Effect, Gathers}
use Rattle.jr_new_words.specs.declared.scopes.Scopes as raw_scopes
use Rattle.jr_new_words.specs.Scopes.{context_of, locals_in, member_of, AreBeside}
use Rattle.jr_new_bodies.specs.declared.here.Here as raw_here
use Rattle.jr_new_bodies.specs.Known as here
use Rattle.jr_new_bodies.specs.Spotting.{Spotting, Unseen, spots_of}
use Rattle.jr_new_bodies.specs.Walks as gathers
use Rattle.jr_program_laws.specs.FileParts.{begins}
use Rattle.jr_new_bodies.specs.Ready.{ExpReadyIn, StmtsReadyIn, MaybeReady, StmtsReady}
use Rattle.jr_new_bodies.specs.Bodies.{MaybeGathers, StmtsGather}
use Rattle.jr_new_files.specs.declared.beginnings.Walked as raw
use Rattle.jr_grammar.specs.Layout.{itself}
use Rattle.jr_new_files.specs.Walking.{key_of as key_in, rows_of, mapping_of, CanWalk, Begins, held_param, held_params}
use Rattle.jr_new_files.specs.Ready.{Anywhere, TypeReady, InitReady, BodyReady, SuperReady}
use Rattle.jr_new_files.specs.PartEffects.{TypeGathers, InitGathers, BodyGathers, SuperGathers}
use Rattle.jr_new_files.specs.Supers.{WrittenReady, WrittenGathers}

-- without spots no tree comes at one
abbrev unseen : (Context → ℕ) → Unseen Span
unseen s = record { super_at = s; part = λ at least. tree.null at }

module _ (w : raw.Walked) (h : raw_here.Here) (c : Context) (at_place : Begins w h c) where
  -- what holds of the member holds at the place
  pub there : (P : List Row → Bound → ℕ → Context → Type 0) → P (rows_of w) w.bound.now w.from c → P (here.rows_of h) h.bound.now h.from (here.context_of h)
  there P x =
      subst (λ d. P (here.rows_of h) h.bound.now h.from d) (sym at_place.context) (subst (λ n. P (here.rows_of h) h.bound.now n c) (sym at_place.from_is)
      (subst (λ b. P (here.rows_of h) b w.from c) (sym at_place.bound) (subst (λ r. P r w.bound.now w.from c) (sym at_place.rows) x)))

  -- and back, of the rows and the renaming alone
  pub back : (P : List Row → Mapping → Context → Type 0) → P (here.rows_of h) (here.mapping_of h) (here.context_of h) → P (rows_of w) (mapping_of w) c
  back P x =
      subst (λ r. P r (mapping_of w) c) at_place.rows (subst (λ g. P (here.rows_of h) g c) at_place.mapping (subst (λ d. P (here.rows_of h) (here.mapping_of h) d) at_place.context x))

  pub type_there : (at : ℕ) (t : tree.TypeName Span) → TypeReady (rows_of w) c at t → here.TypeIsBound begins (here.rows_of h) (here.context_of h) at t
  type_there at t ready = there (λ r b n d. here.TypeIsBound begins r d at t) ready.1

  pub type_back : (at : ℕ) (t : tree.TypeName Span) (old new : Effect) → gathers.TypeGathers itself h at t old new → TypeGathers (rows_of w) (mapping_of w) c at t old new
  type_back at t old new x = λ s. back (λ r g d. Gathers (RewritesType itself (spelling begins r g s) d at t) old new) (x s)

  pub init_there : (path : List ℕ) → path ≡ [] → (step at : ℕ) (e : Option (tree.Exp Span)) → InitReady (rows_of w) w.bound.now w.from c step at e → MaybeReady itself Anywhere h path step at e
  init_there path none step at None ready = tt
  init_there path none step at (Some e) ready =
      subst (λ (p : List ℕ). MaybeReady itself Anywhere h p step at (Some e)) (sym none) (there (λ r b n d. ExpReadyIn itself Anywhere r b n d value (step ∷ []) at e) ready)

  pub init_back : (at : ℕ) (e : Option (tree.Exp Span)) (old new : Effect) → MaybeGathers itself h at e old new → InitGathers (rows_of w) (mapping_of w) c at e old new
  init_back at e old new x = λ s.
      back (λ r g d. Gathers (RewritesMaybe itself (spelling begins r g s) d at e) old new)
      (subst (λ (z : Spotting). Gathers (TransformsMaybe itself (gathers.choosing itself h s) (spots_of itself (unseen s) z) (here.context_of h) at e) old new) at_place.spots (x (unseen s)))

  pub body_there : (path : List ℕ) → path ≡ [] → (number first at : ℕ) (xs : statement.Stmts Span) → BodyReady (rows_of w) w.bound.now w.from c number first at xs
      → StmtsReady itself Anywhere h number path first at xs
  body_there path none number first at xs ready =
      subst (λ (p : List ℕ). StmtsReady itself Anywhere h number p first at xs) (sym none) (there (λ r b n d. StmtsReadyIn itself Anywhere r b n number d [] first at xs) ready)

  pub body_back : (number at : ℕ) (xs : statement.Stmts Span) (old new : Effect) → StmtsGather itself h number at xs old new → BodyGathers (rows_of w) (mapping_of w) c number at xs old new
  body_back number at xs old new x = λ s.
      back (λ r g d. Gathers (RewritesStmts itself (spelling begins r g s) number d at xs) old new)
      (subst (λ (z : Spotting). Gathers (TransformsList itself (gathers.choosing itself h s) (spots_of itself (unseen s) z) number (here.context_of h) at xs) old new) at_place.spots (x (unseen s)))

  pub super_there : (path : List ℕ) → path ≡ [] → (first at : ℕ) (args : tree.Exps Span) → SuperReady (rows_of w) w.bound.now w.from c first at args → WrittenReady h path first at args
  super_there path none first at args ready =
      subst (λ (p : List ℕ). WrittenReady h p first at args) (sym none) (there (λ r b n d. SuperReady r b n d first at args) ready)

  pub super_back : (n at : ℕ) (args : tree.Exps Span) (old new : Effect) → WrittenGathers h n at args old new → SuperGathers (rows_of w) (mapping_of w) c n at args old new
  super_back n at args old new x = λ s is.
      back (λ r g d. Gathers (RewritesSuper itself (spelling begins r g s) d at (Some args)) old new)
      (subst (λ (z : Spotting). Gathers (TransformsSuper itself (gathers.choosing itself h s) (spots_of itself (unseen s) z) (here.context_of h) at (Some args)) old new) at_place.spots (x (unseen s) (ap s at_place.context ∙ is)))

-- ---- a place where the member begins

add_one : (n : ℕ) → n + 1 ≡ suc n
add_one n = omega arith

pub held_are : (k : MemberKey) (n : ℕ) (ps : List (syntax.Param Span)) (ts : List Ty) → map (local_of k) (held_params n ps ts) ≡ parameters k n ps ts
held_are k n [] ts = refl
held_are k n (p ∷ ps) [] = refl
held_are k n (p ∷ ps) (t ∷ ts) =
    ap (λ (ls : List Local). local_of k (held_param n p t) ∷ ls) (held_are k (n + 1) ps ts ∙ ap (λ (j : ℕ). parameters k j ps ts) (add_one n))

-- the locals of a place, where nothing else is known
pub context_with : (s t : raw_scopes.Scopes) (k : MemberKey) (is_static : Bool) (ps : List (syntax.Param Span)) → context_of s ≡ plain k is_static → AreBeside s t
    → t.own ≡ s.own → locals_in t ≡ held_params 0 ps (types_of k) → context_of t ≡ with_parameters k is_static ps
unfolding context_of
context_with s t k is_static ps is beside own locals =
    let member = beside.member ∙ ap (λ (c : Context). c.member) is in
    λ i. record {
      member = member i;
      is_static = (beside.is_static ∙ ap (λ (c : Context). c.is_static) is) i;
      locals = (ap (λ (m : MemberKey). map (local_of m) (locals_in t)) member ∙ ap (λ (hs : List Held). map (local_of k) hs) locals ∙ held_are k 0 ps (types_of k)) i;
      own = ((λ j. option_map (key_of (beside.member j)) (own j)) ∙ ap (λ (c : Context). c.own) is) i;
    }

pub no_locals : (s : raw_scopes.Scopes) (k : MemberKey) (is_static : Bool) → context_of s ≡ plain k is_static → locals_in s ≡ []
unfolding context_of
no_locals s k is_static is = by (locals_in s) (ap (λ (c : Context). c.locals) is)
  where
    by : (hs : List Held) → map (local_of (member_of s)) hs ≡ [] → hs ≡ []
    by [] e = refl
    by (h ∷ hs) e = absurd cc

-- ---- parameters come into scope, one by one: what is there, with what is left, is all

module _ (whole : List Held) where
  abbrev pub Goes : List Held → ℕ → List (syntax.Param Span) → List Ty → Type 0
  Goes held number ps ts = (held ++ held_params number ps ts) ≡ whole

  pub goes_on : (held next : List Held) (h : Held) (number after : ℕ) (p : syntax.Param Span) (ps : List (syntax.Param Span)) (t : Ty) (ts : List Ty) → next ≡ held ++ h ∷ [] → h ≡ held_param number p t
      → after ≡ number + 1 → Goes held number (p ∷ ps) (t ∷ ts) → Goes next after ps ts
  goes_on held next h number after p ps t ts pushed is later goes =
      ap (λ (xs : List Held). xs ++ held_params after ps ts) pushed ∙ append_assoc held (h ∷ []) (held_params after ps ts) ∙ (λ i. held ++ (is i ∷ held_params (later i) ps ts)) ∙ goes

  pub goes_typeless : (held : List Held) (number : ℕ) (p : syntax.Param Span) (ps : List (syntax.Param Span)) → Goes held number (p ∷ ps) [] → held ≡ whole
  goes_typeless held number p ps goes = sym (append-nil held) ∙ goes

  pub goes_end : (held : List Held) (number : ℕ) (ps : List (syntax.Param Span)) (ts : List Ty) → ps ≡ [] → Goes held number ps ts → held ≡ whole
  goes_end held number ps ts none goes = sym (ap (λ (qs : List (syntax.Param Span)). held ++ held_params number qs ts) none ∙ append-nil held) ∙ goes

  pub goes_begin : (held : List Held) → held ≡ [] → (held ++ whole) ≡ whole
  goes_begin held none = ap (λ (xs : List Held). xs ++ whole) none

pub stays_beside : (s : raw_scopes.Scopes) → AreBeside s s
stays_beside s = record { rows = refl; mapping = refl; member = refl; is_static = refl }

pub then_beside : (s t u : raw_scopes.Scopes) → AreBeside s t → AreBeside t u → AreBeside s u
then_beside s t u a b = record { rows = b.rows ∙ a.rows; mapping = b.mapping ∙ a.mapping; member = b.member ∙ a.member; is_static = b.is_static ∙ a.is_static }

-- ---- numbers of parts

pub method_sum : (named some typed before has count ms ps mods params n : ℕ) → n ≡ named + some → named ≡ typed + 1 → typed ≡ before + has → before ≡ ms → has ≡ count → some ≡ ps → mods ≡ ms → params ≡ ps → n ≡ mods + count + 1 + params
method_sum named some typed before has count ms ps mods params n e f g h i j k l = omega (arith, e, f, g, h, i, j, k, l)

pub ctor_sum : (named some before ms ps mods params n : ℕ) → n ≡ named + some → named ≡ before + 1 → before ≡ ms → some ≡ ps → mods ≡ ms → params ≡ ps → n ≡ mods + 1 + params
ctor_sum named some before ms ps mods params n e f h j k l = omega (arith, e, f, h, j, k, l)

pub args_count : (rows : List Row) (es : List (Expr Span)) → length es ≡ count_args rows (exprs_of es)
args_count rows [] = refl
args_count rows (e ∷ es) = ap suc (args_count rows es)
