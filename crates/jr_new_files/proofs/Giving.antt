-- What is gathered of the parts of a head or member is what its rewriting gives.
use Rattle.std.proofs.Common.{◌≡◌, ℕ, suc, ◌+◌, ◌<◌, ◌≤◌, List, [], ◌∷◌, length, map, drop, get_or, Option, Some, None, Bool, true, false, refl, sym, ap, subst, ◌∙◌, inl, inr, arith}
use Rattle.std.proofs.lemmas.List.{drop_all, append-nil}
use Rattle.jr_text.specs.declared.spans.Span.{Span}
use Rattle.jr_ast.specs.Tree as tree
use Rattle.jr_ast.specs.StatementTree as statement
use Rattle.jr_ast.specs.MemberTree as syntax
use Rattle.jr_ast.specs.declared.parts.Param.{Param}
use Rattle.jr_ast.specs.View.{param_of}
use Rattle.jr_table.specs.Keys.{ClassKey}
use Rattle.jr_table.specs.Decls.{MemberKey, Decl, class_decl}
use Rattle.jr_table.specs.Rows.{Row}
use Rattle.jr_table.specs.Context.{Context}
use Rattle.jr_table.specs.Errors.{Part, class_part, member_part}
use Rattle.jr_table.specs.HeadRules as rules
use Rattle.jr_bind.specs.Programs.{Program}
use Rattle.jr_bind_expr.proofs.Steps.{left_is}
use Rattle.jr_rewrite.specs.Respellings.{Choice, stays, becomes, loses}
use Rattle.jr_rewrite.specs.Rewritten.{Rewritten, within, joined}
use Rattle.jr_rewrite.specs.Rewrites.{declared_by, DeclaredOut, RewritesType, RewritesParams, RewritesHead, with_losses}
use Rattle.jr_new_words.specs.Mappings.{Mapping}
use Rattle.jr_new_bodies.specs.Effects.{Effect, both, effect_of, Gathers}
use Rattle.jr_new_bodies.specs.OutputView.{lost}
use Rattle.jr_new_bodies.proofs.Joining.{gathers_none, gathers_within, both_assoc, both_none}
use Rattle.jr_new_words.specs.Spelled.{SuperCtorSpells, spelling}
use Rattle.jr_new_files.specs.Files.{PartGives}
use Rattle.jr_program_laws.specs.FileParts.{begins}
use Rattle.jr_new_bodies.specs.declared.here.Here as raw_here
use Rattle.jr_new_bodies.specs.Known as here
use Rattle.jr_new_bodies.specs.Walks as gathers
use Rattle.jr_new_bodies.specs.Walks.{RowGathers}
use Rattle.jr_new_files.specs.Supers.{is_lost, CallGathers, WrittenGathers}
use Rattle.jr_grammar.specs.Layout.{itself}
use Rattle.jr_new_files.specs.PartEffects.{choosing, WordGathers, TypeGathers, ResultGathers, ParamGathers, ParamsGather, ParentGathers, TopParentGathers, TopNameGathers, MaybeParentGathers, HeadGathers, SuperGathers, MaybeSuperGathers, FieldGathers, MethodGathers, CtorGathers, MemberGathers, PartGathers}

-- two effects behind each other
pub chain : (a m c p q : Effect) → m ≡ both a p → c ≡ both m q → c ≡ both a (both p q)
chain a m c p q e f = f ∙ ap (λ x. both x q) e ∙ both_assoc a p q

module _ (rows : List Row) (g : Mapping) where
  pub result_none : (k : MemberKey) (at : ℕ) (e : Effect) → ResultGathers rows g k at None e e
  result_none k at e = λ s. gathers_none None e

  pub result_some : (k : MemberKey) (at : ℕ) (t : tree.TypeName Span) (old new : Effect) → TypeGathers rows g (rules.plain k false) at t old new → ResultGathers rows g k at (Some t) old new
  result_some k at t old new x = λ s. gathers_within (λ (u : tree.TypeName Span). Some u) (RewritesType itself (choosing rows g s) (rules.plain k false) at t) old new (x s)

  -- ---- parameters

  pub params_end : (k : MemberKey) (n at : ℕ) (e : Effect) → ParamsGather rows g k n at [] e e
  params_end k n at e = λ s. gathers_none [] e

  pub params_go : (k : MemberKey) (n at : ℕ) (p : syntax.Param Span) (ps : List (syntax.Param Span)) (old mid new : Effect) → ParamGathers rows g k n p old mid
      → ParamsGather rows g k (suc n) at ps mid new → ParamsGather rows g k n at (p ∷ ps) old new
  params_go k n at p ps old mid new (one, type, word) rest = λ s.
      let t = type s in let v = word s p.mark.from in let q = rest s in (
        joined (λ (x : syntax.Param Span) xs. x ∷ xs) (joined (λ (u : tree.TypeName Span) (w : tree.Word Span). record { mark = p.mark; is_final = p.is_final; type = u; name = w }) t.0 v.0) q.0,
        (t.0, v.0, q.0, t.1, v.1, q.1, refl),
        chain old mid new (both (effect_of t.0) (effect_of v.0)) (effect_of q.0) (chain old one mid (effect_of t.0) (effect_of v.0) t.2 v.2) q.2,
      )

  add_one : (n : ℕ) → n + 1 ≡ suc n
  add_one n = omega arith

  -- one by one, from a number on
  module _ (k : MemberKey) (params : List (Param Span)) where
    abbrev pub Left : (start now : Effect) (n : ℕ) (rest : List (Param Span)) → Type 0
    Left start now n rest = (new : Effect) (at : ℕ) → ParamsGather rows g k n at (map param_of rest) now new → ParamsGather rows g k 0 at (map param_of params) start new

    pub param_goes : (i n : ℕ) (x : Param Span) → i < length params → x ≡ get_or params i x → (start now next : Effect) → Left start now n (drop i params)
        → ParamGathers rows g k n (param_of x) now next → Left start next (n + 1) (drop (i + 1) params)
    param_goes i n x lt is start now next so_far one = λ new at rest.
        so_far new at (subst (λ (z : List (Param Span)). ParamsGather rows g k n at (map param_of z) now new) (sym (left_is params i x lt is))
        (params_go k n at (param_of x) (map param_of (drop (i + 1) params)) now next new one (subst (λ (j : ℕ). ParamsGather rows g k j at (map param_of (drop (i + 1) params)) next new) (add_one n) rest)))

    pub params_done : (i n : ℕ) → length params ≤ i → (start now : Effect) → Left start now n (drop i params) → (at : ℕ) → ParamsGather rows g k 0 at (map param_of params) start now
    params_done i n past start now so_far = λ at. so_far now at (subst (λ (z : List (Param Span)). ParamsGather rows g k n at (map param_of z) now now) (sym (drop_all i params past)) (params_end k n at now))

  -- ---- heads

  pub top_named : (at : ℕ) (m : Span) (w : tree.Word Span) (old new : Effect) → TopNameGathers rows g w.mark w.text old new → TopParentGathers rows g at (tree.named m None w) old new
  top_named at m w old new (c, (k, finds, spells), is) = λ s. (_, (c, (k, finds, spells), refl), is)

  pub parent_none : (outer : Option (List ℕ)) (at : ℕ) (e : Effect) → MaybeParentGathers rows g outer at None e e
  parent_none outer at e = λ s. gathers_none None e

  pub parent_some : (outer : Option (List ℕ)) (at : ℕ) (t : tree.TypeName Span) (old new : Effect) → ParentGathers rows g outer at t old new → MaybeParentGathers rows g outer at (Some t) old new
  parent_some outer at t old new x = λ s. let p = x s in (within (λ (u : tree.TypeName Span). Some u) p.0, (p.0, p.1, refl), p.2)

  pub head_gives : (k : ClassKey) (m : Span) (mods : List (syntax.Modifier Span)) (w : tree.Word Span) (t : Option (tree.TypeName Span)) (ms : syntax.Members Span) (old mid new : Effect) → k.name ≡ w.text
      → WordGathers rows g (class_decl k) w old mid → MaybeParentGathers rows g k.outer m.from t mid new → (base : ℕ) → HeadGathers rows g k base (syntax.class m mods w t ms) old new
  head_gives k m mods w t ms old mid new named word parent base = λ s.
      let v = word s m.from in let p = parent s in (
        joined (λ (u : tree.Word Span) (x : Option (tree.TypeName Span)). (u, x)) v.0 p.0,
        (v.0, p.0, subst (λ (name : List ℕ). DeclaredOut itself (choosing rows g s) (class_decl (record { outer = k.outer; name = name })) m.from w v.0) named v.1, p.1, refl),
        chain old mid new (effect_of v.0) (effect_of p.0) v.2 p.2,
      )

  -- ---- members

  pub super_none : (c : Context) (super_at at : ℕ) (e : Effect) → MaybeSuperGathers rows g c super_at at None e e
  super_none c super_at at e = λ s is. gathers_none None e

  module _ (p : Program Span) (k : MemberKey) (m : Span) (mods : List (syntax.Modifier Span)) where
    abbrev places : Context → ℕ
    places c = p.super_at c.member

    pub field_gives : (t : tree.TypeName Span) (w : tree.Word Span) (init : Option (tree.Exp Span)) (old new : Effect) → FieldGathers rows g k m.from mods t w init old new
        → (base : ℕ) → MemberGathers p rows g k base (syntax.field m mods t w init) old new
    field_gives t w init old new (a, b, type, word, last) base =
        let x = type places in let v = word places m.from in let q = last places in (
          joined (λ (u : tree.TypeName Span × tree.Word Span) z. syntax.field m mods u.0 u.1 z) (joined (λ u z. (u, z)) x.0 v.0) q.0,
          (x.0, v.0, q.0, x.1, v.1, q.1, refl),
          chain old b new (both (effect_of x.0) (effect_of v.0)) (effect_of q.0) (chain old a b (effect_of x.0) (effect_of v.0) x.2 v.2) q.2,
        )

    pub method_gives : (t : Option (tree.TypeName Span)) (w : tree.Word Span) (ps : List (syntax.Param Span)) (body : statement.Stmts Span) (old new : Effect) → MethodGathers rows g k m.from mods t w ps body old new
        → (base : ℕ) → MemberGathers p rows g k base (syntax.method m mods t w ps body) old new
    method_gives t w ps body old new (mid, (a, b, result, word, params), last) base =
        let x = result places in let v = word places m.from in let q = params places in let z = last places in (
          joined (λ (u : Option (tree.TypeName Span) × tree.Word Span) (y : List (syntax.Param Span) × statement.Stmts Span). syntax.method m mods u.0 u.1 y.0 y.1) (joined (λ u y. (u, y)) x.0 v.0) (joined (λ u y. (u, y)) q.0 z.0),
          (x.0, v.0, q.0, z.0, x.1, v.1, q.1, z.1, refl),
          chain old b new (both (effect_of x.0) (effect_of v.0)) (both (effect_of q.0) (effect_of z.0)) (chain old a b (effect_of x.0) (effect_of v.0) x.2 v.2) (chain b mid new (effect_of q.0) (effect_of z.0) q.2 z.2),
        )

    pub ctor_gives : (w : tree.Word Span) (ps : List (syntax.Param Span)) (args : Option (tree.Exps Span)) (body : statement.Stmts Span) (old new : Effect) → CtorGathers rows g k (p.super_at k) m.from w ps args body old new
        → (base : ℕ) → MemberGathers p rows g k base (syntax.constructor m mods w ps args body) old new
    ctor_gives w ps args body old new (c, d, (a, word, params), call, last) base =
        let v = word places m.from in let q = params places in let x = call places refl in let z = last places in (
          joined (λ (u : tree.Word Span × List (syntax.Param Span)) (y : Option (tree.Exps Span) × statement.Stmts Span). syntax.constructor m mods u.0 u.1 y.0 y.1) (joined (λ u y. (u, y)) v.0 q.0) (joined (λ u y. (u, y)) x.0 z.0),
          (v.0, q.0, x.0, z.0, v.1, q.1, x.1, z.1, refl),
          chain old c new (both (effect_of v.0) (effect_of q.0)) (both (effect_of x.0) (effect_of z.0)) (chain old a c (effect_of v.0) (effect_of q.0) v.2 q.2) (chain c d new (effect_of x.0) (effect_of z.0) x.2 z.2),
        )

-- ---- a written `super(..)` at a place

module _ (h : raw_here.Here) (n : ℕ) (args : tree.Exps Span) where
  -- whatever is found by another place, unless it is lost
  pub not_lost : (c : Choice) (e : Effect) → is_lost c ≡ false → SuperCtorSpells begins (here.rows_of h) (here.mapping_of h) 0 (here.context_of h) args c → CallGathers h n args e e
  not_lost (loses l) e kept spells = absurd cc
  not_lost stays e kept (q, ts, finds, have, inl taken) = (stays, (q, ts, finds, have, inl taken), sym (both_none e))
  not_lost stays e kept (q, ts, finds, have, inr (none, (f, found, is))) = absurd cc
  not_lost (becomes r) e kept (q, ts, finds, have, inl taken) = (becomes r, (q, ts, finds, have, inl taken), sym (both_none e))
  not_lost (becomes r) e kept (q, ts, finds, have, inr (none, (f, found, is))) = absurd cc

  pub super_gives : (at : ℕ) (old mid new : Effect) → CallGathers h n args old mid → RowGathers itself h at args mid new → WrittenGathers h n at args old new
  super_gives at old mid new (c, spells, is) row = λ s stands.
      let q = row s in (
        with_losses itself (gathers.choosing itself h s.super_at) c (within (λ (xs : tree.Exps Span). Some xs) q.0),
        (c, q.0, subst (λ (i : ℕ). SuperCtorSpells begins (here.rows_of h) (here.mapping_of h) i (here.context_of h) args c) (sym stands) spells, q.1, refl),
        chain old mid new (lost c) (effect_of q.0) is q.2,
      )

-- ---- a whole part

pub parts_add : (p : Program Span) (g : Mapping) (k : MemberKey) (base : ℕ) (part : Part Span) (old new : Effect) → PartGathers p p.rows g k base part old new
    → (e : Effect) × PartGives itself (spelling begins p.rows g (λ (c : Context). p.super_at c.member)) k base part e × (new ≡ both old e)
parts_add p g k base (class_part c) old new x =
    let o = x (λ (c : Context). p.super_at c.member) in (effect_of o.0, (o.0, o.1, refl), o.2)
parts_add p g k base (member_part m) old new (o, gives, is) = (effect_of o, (o, gives, refl), is)
