-- Places of one member, at which each local in scope has a property.
use Rattle.std.proofs.Common.{◌≡◌, ℕ, zero, suc, ◌+◌, ◌<◌, ◌≤◌, List, [], ◌∷◌, ◌++◌, Some, Bool, length, refl, sym, subst, arith}
use Rattle.std.specs.Prelude.{slice_get}
use Rattle.jr_ast.specs.Tree as tree
use Rattle.jr_ast.specs.MemberTree as syntax
use Rattle.jr_table.specs.Keys.{Ty}
use Rattle.jr_table.specs.Decls.{MemberKey, LocalKey}
use Rattle.jr_table.specs.Context.{Context, Local, in_own, with_local, local_of, parameters}
use Rattle.jr_table.specs.HeadRules.{plain as no_locals, types_of, with_parameters}

module _ (Good : LocalKey → Type 0) where
  abbrev pub Each : List Local → Type 0
  Each [] = Unit {0}
  Each (l ∷ ls) = Good l.key × Each ls

  each_more : (ls : List Local) (l : Local) → Each ls → Good l.key → Each (ls ++ l ∷ [])
  each_more [] l h g = (g, tt)
  each_more (x ∷ ls) l h g = (h.0, each_more ls l h.1 g)

  pub each_there : (ls : List Local) → Each ls → (i : ℕ) (l : Local) → slice_get ls i ≡ Some l → Good l.key
  each_there [] h i l e = absurd cc
  each_there (x ∷ ls) h zero l e = let same : x ≡ l = cc in subst (λ (y : Local). Good y.key) same h.0
  each_there (x ∷ ls) h (suc i) l e = each_there ls h.1 i l e

  module _ (k : MemberKey) where
    abbrev local : ℕ → LocalKey
    local n = record { member = k; number = n }

    -- a place of the member
    abbrev pub Here : Context → Type 0
    Here c = (c.member ≡ k) × Each c.locals

    good_there : (c : Context) (n : ℕ) → c.member ≡ k → Good (local n) → Good (record { member = c.member; number = n })
    good_there c n e g = subst (λ (m : MemberKey). Good (record { member = m; number = n })) (sym e) g

    pub here_own : {A : Type 0} (c : Context) (n : ℕ) (f : Bool) (t : tree.TypeName A) (w : tree.Word A) → Here c → Good (local n) → Here (in_own c (local_of c n f t w))
    here_own c n f t w h g = (h.0, each_more c.locals (local_of c n f t w) h.1 (good_there c n h.0 g))

    pub here_behind : {A : Type 0} (c : Context) (n : ℕ) (f : Bool) (t : tree.TypeName A) (w : tree.Word A) → Here c → Good (local n) → Here (with_local c (local_of c n f t w))
    here_behind c n f t w h g = (h.0, each_more c.locals (local_of c n f t w) h.1 (good_there c n h.0 g))

    each_parameter : {A : Type 0} (n : ℕ) (ps : List (syntax.Param A)) (ts : List Ty) → ((i : ℕ) → n ≤ i → i < n + length ps → Good (local i)) → Each (parameters k n ps ts)
    each_parameter n [] ts g = tt
    each_parameter n (p ∷ ps) [] g = tt
    each_parameter n (p ∷ ps) (t ∷ ts) g = (g n (omega arith) (omega arith), each_parameter (suc n) ps ts (λ i a b. g i (omega (arith, a)) (omega (arith, b))))

    pub here_plain : (b : Bool) → Here (no_locals k b)
    here_plain b = (refl, tt)

    pub here_parameters : {A : Type 0} (b : Bool) (ps : List (syntax.Param A)) → ((i : ℕ) → i < length ps → Good (local i)) → Here (with_parameters k b ps)
    here_parameters b ps g = (refl, each_parameter 0 ps (types_of k) (λ i a b. g i (omega (arith, b))))
