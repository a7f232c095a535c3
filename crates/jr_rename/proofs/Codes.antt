-- Parameters and a body: whether the local has the name there, and the least that it meets.
use Rattle.std.proofs.Common.{◌≡◌, ℕ, zero, suc, ◌+◌, ◌<◌, List, [], ◌∷◌, Some, Bool, true, length, refl, sym, ap, subst, ◌∙◌, inl, inr, arith}
use Rattle.std.specs.Prelude.{◌⊎◌, ◌≢◌, slice_get, nat_lt}
use Rattle.std.proofs.lemmas.Bool.{ltb-true, lt-ltb}
use Rattle.std.proofs.lemmas.Option.{slice_get_within}
use Rattle.jr_ast.specs.StatementTree as statement
use Rattle.jr_ast.specs.MemberTree as syntax
use Rattle.jr_table.specs.Decls.{MemberKey, LocalKey}
use Rattle.jr_table.specs.Context.{Context}
use Rattle.jr_table.specs.HeadRules.{types_of, with_parameters}
use Rattle.jr_table.specs.Somewhere.{InStmts}
use Rattle.jr_images.specs.Clashes.{InScope, HasParameter, OfParameters, DeclaresUnder, DeclaresLocal}
use Rattle.jr_rename.specs.Walks.{Asked, Walk, start, in_params, in_code}
use Rattle.jr_rename.specs.LocalAnswers.{asked_local}
use Rattle.jr_rename.proofs.Least.{numbered, LeastOf, least_to}
use Rattle.jr_rename.proofs.Contexts.{MeetsAt}
use Rattle.jr_rename.proofs.WalkLaws.{StmtsMeet, stmts_least}
use Rattle.jr_rename.proofs.NamedLaws.{StmtsName, stmts_named, stmts_names, stmts_stay}
use Rattle.jr_rename.proofs.Params.{ParamNames, ParamMeets, params_next, params_named, params_names, params_least, params_beside, param_at}
use Rattle.jr_rename.proofs.Scoping.{stmts_map, stmts_of, stmts_scoped}
use Rattle.jr_rename.proofs.Leaves.{Leaf, stmts_leaf, at_leaf}

from_zero : (n : ℕ) → n ≡ 0 + n
from_zero n = omega arith

module _ {A : Type 0} (begins : A → ℕ → ℕ) (is_static : Bool) (ps : List (syntax.Param A)) (base : ℕ) (body : statement.Stmts A) where
  -- what is known in front of the body of a member
  abbrev known : MemberKey → Context
  known m = with_parameters m is_static ps

  -- a local of the member is declared with the name
  abbrev pub CodeNames : MemberKey → LocalKey → (name : List ℕ) → Type 0
  CodeNames m k name = ((k.member ≡ m) × HasParameter begins ps k.number name) ⊎ StmtsName begins k name (length ps) (known m) base body

  -- one is declared in the scope of the other
  abbrev pub CodeUnder : MemberKey → (k : LocalKey) → (name : List ℕ) → (j : LocalKey) → (other : List ℕ) → Type 0
  CodeUnder m k name j other = OfParameters begins ps m k name j other
      ⊎ InStmts begins (λ c r b e. ⊥) (λ n c b s. DeclaresUnder begins n c s k name j other) (λ b ss. ⊥) (length ps) (known m) base body

  -- ---- whatever is asked

  -- the member of a local that is declared there
  pub names_of : (m : MemberKey) (k : LocalKey) (name : List ℕ) → CodeNames m k name → k.member ≡ m
  names_of m k name (inl h) = h.0
  names_of m k name (inr h) = sym (stmts_of begins (λ n c b s. DeclaresLocal begins n c s k name) k.member (λ n c b s d. leaf n c s d) (length ps) (known m) base body h)
    where
      leaf : (n : ℕ) (c : Context) (s : statement.Stmt A) → DeclaresLocal begins n c s k name → c.member ≡ k.member
      leaf n c (statement.local x f t w e) d = ap (λ (z : LocalKey). z.member) d.0
      leaf n c (statement.eval x e) d = absurd d
      leaf n c (statement.branch x e y other) d = absurd d
      leaf n c (statement.loop x e y) d = absurd d
      leaf n c (statement.return x e) d = absurd d
      leaf n c (statement.block x y) d = absurd d
      leaf n c (statement.sync x e y) d = absurd d
      leaf n c (statement.empty x) d = absurd d

  -- the one that is declared under the other is declared
  pub under_names : (m : MemberKey) (k : LocalKey) (name : List ℕ) (j : LocalKey) (other : List ℕ) → CodeUnder m k name j other → CodeNames m k name
  under_names m k name j other (inl h) = inl (h.0, h.2)
  under_names m k name j other (inr h) = inr (stmts_map begins (λ n c b s. DeclaresUnder begins n c s k name j other) (λ n c b s. DeclaresLocal begins n c s k name) (λ n c b s d. leaf n c s d) (length ps) (known m) base body h)
    where
      leaf : (n : ℕ) (c : Context) (s : statement.Stmt A) → DeclaresUnder begins n c s k name j other → DeclaresLocal begins n c s k name
      leaf n c (statement.local x f t w e) d = (d.0, d.1)
      leaf n c (statement.eval x e) d = d
      leaf n c (statement.branch x e y other) d = d
      leaf n c (statement.loop x e y) d = d
      leaf n c (statement.return x e) d = d
      leaf n c (statement.block x y) d = d
      leaf n c (statement.sync x e y) d = d
      leaf n c (statement.empty x) d = d

  -- and so is that other
  pub over_names : (m : MemberKey) (j : LocalKey) (new : List ℕ) (k : LocalKey) (old : List ℕ) → CodeUnder m j new k old → CodeNames m k old
  over_names m j new k old (inl h) = inl (h.1, h.3)
  over_names m j new k old (inr h) =
      stmts_scoped begins k (λ (name : List ℕ). CodeNames m k name) j new old (length ps) (known m) base body (λ name d. inr d) scoped h
    where
      scoped : (name : List ℕ) → InScope begins (known m) k name → CodeNames m k name
      scoped name (i, l, at, is, named) =
          let r = param_at m 0 ps (types_of m) i l at in
          let key : numbered m (0 + i) ≡ k = sym r.2 ∙ is in
          let e = ap (λ (z : LocalKey). z.number) key in
          let place : i ≡ k.number = omega (arith, e) in
          inl (sym (ap (λ (z : LocalKey). z.member) key), (r.0, subst (λ (n : ℕ). slice_get ps n ≡ Some r.0) place r.1, sym r.3 ∙ named))

  -- ---- of one local and a name

  module _ (k : LocalKey) (new : List ℕ) where
    abbrev a : Asked
    a = asked_local k new

    abbrev is_param : Bool
    is_param = nat_lt k.number (length ps)

    abbrev types : ℕ
    types = length (types_of k.member)

    abbrev walk : Walk
    walk = in_code a types ps body

    abbrev before : Walk
    before = in_params a is_param types start ps

    next_is : before.next ≡ length ps
    next_is = let e = params_next k new is_param types start ps in omega (arith, e)

    pub code_named : CodeNames k.member k new → walk.is_named ≡ true
    code_named (inl h) = stmts_stay begins k new before body (params_named k new is_param types start ps (k.number, h.1.0, h.1.1, from_zero k.number, h.1.2))
    code_named (inr h) = stmts_named begins k new before (known k.member) base body (subst (λ (n : ℕ). StmtsName begins k new n (known k.member) base body) (sym next_is) h)

    pub code_names : walk.is_named ≡ true → CodeNames k.member k new
    code_names h = by (stmts_names begins k new before (known k.member) base body refl h)
      where
        first : (start.is_named ≡ true) ⊎ ParamNames k new is_param types 0 ps → CodeNames k.member k new
        first (inl e) = absurd cc
        first (inr (x, p, at, is, named)) = let place : x ≡ k.number = omega (arith, is) in inl (refl, (p, subst (λ (n : ℕ). slice_get ps n ≡ Some p) place at, named))

        by : (before.is_named ≡ true) ⊎ StmtsName begins k new before.next (known k.member) base body → CodeNames k.member k new
        by (inl e) = first (params_names k new is_param types start ps e)
        by (inr g) = inr (subst (λ (n : ℕ). StmtsName begins k new n (known k.member) base body) next_is g)

    -- one that the local meets
    abbrev pub CodeMeets : LocalKey → Type 0
    CodeMeets j = (k ≢ j) × ((old : List ℕ) × (CodeUnder k.member k old j new ⊎ CodeUnder k.member j new k old))

    there : (n : ℕ) → nat_lt k.number n ≡ true → k.number < n
    there n e = ltb-true k.number n e

    is_there : (n : ℕ) → k.number < n → nat_lt k.number n ≡ true
    is_there n lt = lt-ltb k.number n lt

    element : (n : ℕ) (qs : List (syntax.Param A)) → n < length qs → (p : syntax.Param A) × (slice_get qs n ≡ Some p)
    element n [] lt = absurd (omega (arith, lt))
    element zero (q ∷ qs) lt = (q, refl)
    element (suc n) (q ∷ qs) lt = element n qs (omega (arith, lt))

    param_meets : (j : LocalKey) → ParamMeets k new is_param types 0 ps j → CodeMeets j
    param_meets j (other, param, of, (x, p, at, is, named)) =
        let q = element k.number ps (there (length ps) param) in
        let place : x ≡ j.number = omega (arith, is) in
        (other, (q.0.name.text, inl (inl (refl, of, (q.0, q.1, refl), (p, subst (λ (n : ℕ). slice_get ps n ≡ Some p) place at, named)))))

    meets_param : (j : LocalKey) (old : List ℕ) → k ≢ j → OfParameters begins ps k.member k old j new → ParamMeets k new is_param types 0 ps j
    meets_param j old other (here, of, (q, at, was), (p, at', named)) = (other, is_there (length ps) (slice_get_within ps k.number q at), of, (j.number, p, at', from_zero j.number, named))

    abbrev Meets : ℕ → LocalKey → Type 0
    Meets n j = StmtsMeet begins k new j n (known k.member) base body

    stmts_meet : (j : LocalKey) → Meets (length ps) j → CodeMeets j
    stmts_meet j h =
        let P : ℕ → Context → ℕ → statement.Stmt A → Type 0 = λ n c b s. MeetsAt begins k new j n c s in
        let l = stmts_leaf begins P (length ps) (known k.member) base body h in
        by l l.has
      where
        by : (l : Leaf begins (λ n c b s. MeetsAt begins k new j n c s) (λ Q. InStmts begins (λ c r b e. ⊥) Q (λ b ss. ⊥) (length ps) (known k.member) base body))
            → MeetsAt begins k new j l.number l.known l.stmt → CodeMeets j
        by l (other, (old, inl d)) =
            (other, (old, inl (inr (at_leaf begins (λ n c b s. MeetsAt begins k new j n c s) (λ n c b s. DeclaresUnder begins n c s k old j new) (length ps) (known k.member) base body l d))))
        by l (other, (old, inr d)) =
            (other, (old, inr (inr (at_leaf begins (λ n c b s. MeetsAt begins k new j n c s) (λ n c b s. DeclaresUnder begins n c s j new k old) (length ps) (known k.member) base body l d))))

    meets_stmts : (j : LocalKey) → CodeMeets j → ParamMeets k new is_param types 0 ps j ⊎ Meets (length ps) j
    meets_stmts j (other, (old, inl (inl h))) = inl (meets_param j old other h)
    meets_stmts j (other, (old, inl (inr h))) =
        inr (stmts_map begins (λ n c b s. DeclaresUnder begins n c s k old j new) (λ n c b s. MeetsAt begins k new j n c s) (λ n c b s d. (other, (old, inl d))) (length ps) (known k.member) base body h)
    meets_stmts j (other, (old, inr (inl h))) = inl (meets_param j old other (h.1, h.0, h.3, h.2))
    meets_stmts j (other, (old, inr (inr h))) =
        inr (stmts_map begins (λ n c b s. DeclaresUnder begins n c s j new k old) (λ n c b s. MeetsAt begins k new j n c s) (λ n c b s d. (other, (old, inr d))) (length ps) (known k.member) base body h)

    pub code_least : LeastOf k.member CodeMeets walk.least
    code_least =
        let first = params_least k new is_param types (λ j. ⊥) start ps (λ j h. h) in
        let P : LocalKey → Type 0 = λ j. ⊥ ⊎ ParamMeets k new is_param types 0 ps j in
        let all = stmts_least begins k new P before (known k.member) base body (params_beside k new is_param is_static ps) first in
        least_to k.member (λ j. P j ⊎ Meets before.next j) CodeMeets walk.least to back all
      where
        to : (j : LocalKey) → (⊥ ⊎ ParamMeets k new is_param types 0 ps j) ⊎ Meets before.next j → CodeMeets j
        to j (inl (inl x)) = absurd x
        to j (inl (inr h)) = param_meets j h
        to j (inr h) = stmts_meet j (subst (λ (n : ℕ). Meets n j) next_is h)

        again : (j : LocalKey) → ParamMeets k new is_param types 0 ps j ⊎ Meets (length ps) j → (⊥ ⊎ ParamMeets k new is_param types 0 ps j) ⊎ Meets before.next j
        again j (inl h) = inl (inr h)
        again j (inr h) = inr (subst (λ (n : ℕ). Meets n j) (sym next_is) h)

        back : (j : LocalKey) → CodeMeets j → (⊥ ⊎ ParamMeets k new is_param types 0 ps j) ⊎ Meets before.next j
        back j h = again j (meets_stmts j h)
