-- What is known at a place is the same where trees are equal but for their marks.
use Rattle.std.proofs.Common.{◌≡◌, ℕ, suc, ◌+◌, Bool, true, false, List, [], ◌∷◌, Option, Some, None, map, refl, sym, ap, ◌∙◌}
use Rattle.jr_ast.specs.Tree as tree
use Rattle.jr_ast.specs.StatementTree as statement
use Rattle.jr_ast.specs.MemberTree as syntax
use Rattle.jr_ast.specs.Remarked.{map_param, map_stmt, map_else, map_stmts}
use Rattle.jr_grammar.specs.Bare.{Bare, no_mark, bare_word, bare_type, bare_stmt, bare_stmts}
use Rattle.jr_table.specs.Keys.{Ty}
use Rattle.jr_table.specs.Decls.{MemberKey}
use Rattle.jr_table.specs.Context.{Context, Local, known, local_of, local_key, local_type, written, after, locals_in, locals_in_else, locals_in_row, with_local, parameters}
use Rattle.jr_table.specs.HeadRules.{with_parameters, types_of}
use Rattle.jr_rewrite.proofs.BareForms.{bare_else}

local_type_bare : {B D : Type 0} (t : tree.TypeName B) (u : tree.TypeName D) → bare_type t ≡ bare_type u → local_type t ≡ local_type u
local_type_bare (tree.int k) (tree.int l) q = refl
local_type_bare (tree.boolean k) (tree.boolean l) q = refl
local_type_bare (tree.named k None v) (tree.named l None w) q = (let words : bare_word v ≡ bare_word w = cc in ap (λ (s : tree.Word Bare). written None s.text) words)
local_type_bare (tree.named k (Some o) v) (tree.named l (Some p) w) q =
    let words : bare_word v ≡ bare_word w = cc in
    let outers : bare_word o ≡ bare_word p = cc in
    (λ i. let outer : tree.Word Bare = outers i in let word : tree.Word Bare = words i in written (Some outer.text) word.text)
local_type_bare (tree.int k) _ q = absurd cc
local_type_bare (tree.boolean k) _ q = absurd cc
local_type_bare (tree.named k None v) _ q = absurd cc
local_type_bare (tree.named k (Some o) v) _ q = absurd cc

pub local_bare : {B D : Type 0} (c : Context) (n : ℕ) (f : Bool) (t : tree.TypeName B) (u : tree.TypeName D) (v : tree.Word B) (w : tree.Word D) → bare_type t ≡ bare_type u → bare_word v ≡ bare_word w
    → local_of c n f t v ≡ local_of c n f u w
local_bare c n f t u v w q r =
    let words : v.text ≡ w.text = ap (λ (x : tree.Word Bare). x.text) r in
    let types = local_type_bare t u q in
    λ i. record { name = words i; key = local_key c n; is_final = f; type = types i; has_init = true }

pub after_bare : {B D : Type 0} (n : ℕ) (c : Context) (s : statement.Stmt B) (z : statement.Stmt D) → bare_stmt s ≡ bare_stmt z → after n c s ≡ after n c z
unfolding map_stmt map_else map_stmts
after_bare n c (statement.local m f t w e) (statement.local k g u v x) q =
    let finals : f ≡ g = cc in
    let types : bare_type t ≡ bare_type u = cc in
    let words : bare_word w ≡ bare_word v = cc in
    ap (λ h. with_local c (local_of c n h t w)) finals ∙ ap (with_local c) (local_bare c n g t u w v types words)
after_bare n c (statement.eval m e) (statement.eval k x) q = refl
after_bare n c (statement.branch m e s o) (statement.branch k x z p) q = refl
after_bare n c (statement.loop m e s) (statement.loop k x z) q = refl
after_bare n c (statement.return m e) (statement.return k x) q = refl
after_bare n c (statement.block m s) (statement.block k z) q = refl
after_bare n c (statement.sync m e s) (statement.sync k x z) q = refl
after_bare n c (statement.empty m) (statement.empty k) q = refl
after_bare n c (statement.local m f t w e) _ q = absurd cc
after_bare n c (statement.eval m e) _ q = absurd cc
after_bare n c (statement.branch m e s o) _ q = absurd cc
after_bare n c (statement.loop m e s) _ q = absurd cc
after_bare n c (statement.return m e) _ q = absurd cc
after_bare n c (statement.block m s) _ q = absurd cc
after_bare n c (statement.sync m e s) _ q = absurd cc
after_bare n c (statement.empty m) _ q = absurd cc

-- ---- how many locals there are

mutual
  unfolding map_stmt map_else map_stmts locals_in locals_in_else locals_in_row

  locals_map : {A : Type 0} (s : statement.Stmt A) → locals_in (bare_stmt s) ≡ locals_in s
  locals_map (statement.local m f t w e) = refl
  locals_map (statement.eval m e) = refl
  locals_map (statement.branch m e s o) = (λ i. locals_map s i + else_map o i)
  locals_map (statement.loop m e s) = locals_map s
  locals_map (statement.return m e) = refl
  locals_map (statement.block m s) = row_map s
  locals_map (statement.sync m e s) = row_map s
  locals_map (statement.empty m) = refl

  else_map : {A : Type 0} (s : statement.Else A) → locals_in_else (bare_else s) ≡ locals_in_else s
  else_map statement.no_else = refl
  else_map (statement.otherwise s) = locals_map s

  row_map : {A : Type 0} (s : statement.Stmts A) → locals_in_row (bare_stmts s) ≡ locals_in_row s
  row_map statement.end = refl
  row_map (statement.more s ss) = (λ i. locals_map s i + row_map ss i)

pub locals_bare : {A : Type 0} (s z : statement.Stmt A) → bare_stmt s ≡ bare_stmt z → locals_in s ≡ locals_in z
locals_bare s z e = sym (locals_map s) ∙ ap locals_in e ∙ locals_map z

-- ---- parameters

abbrev pub bare_param : {A : Type 0} → syntax.Param A → syntax.Param Bare
bare_param = map_param no_mark

abbrev pub bare_params : {A : Type 0} → List (syntax.Param A) → List (syntax.Param Bare)
bare_params ps = map bare_param ps

parameters_bare : {A : Type 0} (k : MemberKey) (n : ℕ) (ps qs : List (syntax.Param A)) (ts : List Ty) → bare_params ps ≡ bare_params qs → parameters k n ps ts ≡ parameters k n qs ts
parameters_bare k n [] [] ts e = refl
parameters_bare k n [] (q ∷ qs) ts e = absurd cc
parameters_bare k n (p ∷ ps) [] ts e = absurd cc
parameters_bare k n (p ∷ ps) (q ∷ qs) [] e = refl
parameters_bare k n (p ∷ ps) (q ∷ qs) (t ∷ ts) e =
    let first : bare_param p ≡ bare_param q = cc in
    let rest : bare_params ps ≡ bare_params qs = cc in
    let names : p.name.text ≡ q.name.text = ap (λ (z : syntax.Param Bare). z.name.text) first in
    let finals : p.is_final ≡ q.is_final = ap (λ (z : syntax.Param Bare). z.is_final) first in
    (λ i. record { name = names i; key = record { member = k; number = n }; is_final = finals i; type = known t; has_init = false } ∷ parameters_bare k (suc n) ps qs ts rest i)

pub with_parameters_bare : {A : Type 0} (k : MemberKey) (is_static : Bool) (ps qs : List (syntax.Param A)) → bare_params ps ≡ bare_params qs → with_parameters k is_static ps ≡ with_parameters k is_static qs
with_parameters_bare k is_static ps qs e = (let same = parameters_bare k 0 ps qs (types_of k) e in λ i. record { member = k; is_static = is_static; locals = same i; own = None })
