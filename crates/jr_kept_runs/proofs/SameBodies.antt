-- Statements and members that are the same but for marks have code that is the same but for places.
use Rattle.std.proofs.Common.{◌≡◌, ℕ, suc, ◌+◌, List, [], ◌∷◌, ◌++◌, length, Option, Some, None, Bool, true, false, ◌||◌, map, refl, sym, ap, subst, ◌∙◌}
use Rattle.std.specs.Prelude.{option_map}
use Rattle.std.specs.List.{list_any}
use Rattle.jr_ast.specs.declared.operators.ModWord.{ModWord}
use Rattle.jr_ast.specs.Tree as tree
use Rattle.jr_ast.specs.StatementTree as statement
use Rattle.jr_ast.specs.MemberTree as syntax
use Rattle.jr_ast.specs.Remarked.{map_modifier, map_param, map_stmt, map_else, map_stmts, map_member, map_members}
use Rattle.jr_grammar.specs.Bare.{Bare, no_mark, bare, bare_word, bare_type, bare_args, bare_stmt, bare_stmts, bare_member}
use Rattle.jr_runs.specs.Core as core
use Rattle.jr_runs.specs.MemberTranslation.{is_synchronized_word, is_synchronized, locked, monitor, in_front}
use Rattle.jr_runs.specs.Keys.{At}
use Rattle.jr_table.specs.Keys.{ClassKey, FieldKey, MethodKey, CtorKey, Ty}
use Rattle.jr_table.specs.Decls.{MemberKey, field, method, constructor, head, constructor_decl}
use Rattle.jr_table.specs.Rows.{Row}
use Rattle.jr_table.specs.Entries.{is_static_word}
use Rattle.jr_table.specs.Found.{Found, one}
use Rattle.jr_table.specs.Context.{Context, Local, known, local_type, local_of, local_key, with_local, in_own, after, locals_in, locals_in_else, locals_in_row, parameters}
use Rattle.jr_table.specs.Binding.{SuperCtorFinds, word_at}
use Rattle.jr_table.specs.HeadRules.{plain, types_of, with_parameters, is_static_member}
use Rattle.jr_table.specs.DeclaredItems.{words}
use Rattle.jr_rename_laws.proofs.BareBinding.{super_ctor_bare}
use Rattle.jr_code.specs.RunKeys.{RunKeys, Place}
use Rattle.jr_code.specs.Coded.{Code, ExpCode}
use Rattle.jr_code.specs.CodedStatements.{numbers, StatementCode, ListCode, ReturnCode, StmtCode, ElseCode, StmtsCode}
use Rattle.jr_code.specs.CodedMembers.{MemberCode, MethodCoded, stored, InitBy, InitCoded, InitsCoded, ParentCoded, ConstructorCoded}
use Rattle.jr_kept_runs.proofs.SameMarks.{no_places, move, recode, recode_row, text_of}

-- ---- code without places

abbrev mutual
  pub no_stmt_places : StatementCode → StatementCode
  no_stmt_places (core.declare p n e) = core.declare None n (no_places e)
  no_stmt_places (core.eval p e) = core.eval None (no_places e)
  no_stmt_places (core.branch p e a b) = core.branch None (no_places e) (no_stmt_places a) (no_stmt_places b)
  no_stmt_places (core.loop p e a) = core.loop None (no_places e) (no_stmt_places a)
  no_stmt_places (core.return p e) = core.return None (no_places e)
  no_stmt_places (core.return_nothing p) = core.return_nothing None
  no_stmt_places (core.block p ns b) = core.block None ns (no_list_places b)
  no_stmt_places (core.sync p q e b) = core.sync None None (no_places e) (no_list_places b)
  no_stmt_places (core.empty p) = core.empty None

  pub no_list_places : ListCode → ListCode
  no_list_places core.Stmts.end = core.Stmts.end
  no_list_places (core.Stmts.more s ss) = core.Stmts.more (no_stmt_places s) (no_list_places ss)

-- ---- members' code that is the same but for places

abbrev pub AllAgain : List StatementCode → List StatementCode → Type 0
AllAgain ss ts = map no_stmt_places ss ≡ map no_stmt_places ts

pub record IsElsewhere (old new : MemberCode) : Type 0 where
  pub params : old.params ≡ new.params
  pub body : no_list_places old.body ≡ no_list_places new.body

abbrev pub MethodElsewhere : core.Method RunKeys → core.Method RunKeys → Type 0
MethodElsewhere (core.written x) (core.written z) = IsElsewhere x z
MethodElsewhere core.starts core.starts = Unit {0}
MethodElsewhere (core.written x) core.starts = ⊥
MethodElsewhere core.starts (core.written z) = ⊥

elsewhere_by : (c d : MemberCode) (x y : core.Method RunKeys) → x ≡ core.written c → y ≡ core.written d → IsElsewhere c d → MethodElsewhere x y
elsewhere_by c d x y a b h = subst (λ (z : core.Method RunKeys). MethodElsewhere z y) (sym a) (subst (λ (z : core.Method RunKeys). MethodElsewhere (core.written c) z) (sym b) h)

code_by : (c d x y : MemberCode) → x ≡ c → y ≡ d → IsElsewhere c d → IsElsewhere x y
code_by c d x y a b h = subst (λ (z : MemberCode). IsElsewhere z y) (sym a) (subst (λ (z : MemberCode). IsElsewhere c z) (sym b) h)

locked_places : (s : Bool) (p q u v : At RunKeys) (x : Code) (z t : ListCode) → no_list_places z ≡ no_list_places t → no_list_places (locked s p q x z) ≡ no_list_places (locked s u v x t)
locked_places true p q u v x z t e = ap (λ (l : ListCode). core.Stmts.more (core.sync None None (no_places x) l) core.Stmts.end) e
locked_places false p q u v x z t e = e

appended : (ss ts us vs : List StatementCode) → AllAgain ss ts → AllAgain us vs → AllAgain (ss ++ us) (ts ++ vs)
appended [] [] us vs e f = f
appended [] (t ∷ ts) us vs e f = absurd cc
appended (s ∷ ss) [] us vs e f = absurd cc
appended (s ∷ ss) (t ∷ ts) us vs e f =
    let first : no_stmt_places s ≡ no_stmt_places t = cc in
    let rest : map no_stmt_places ss ≡ map no_stmt_places ts = cc in
    let more = appended ss ts us vs rest f in
    λ j. first j ∷ more j

in_front_again : (ss ts : List StatementCode) (x y : ListCode) → AllAgain ss ts → no_list_places x ≡ no_list_places y → no_list_places (in_front ss x) ≡ no_list_places (in_front ts y)
in_front_again [] [] x y e f = f
in_front_again [] (t ∷ ts) x y e f = absurd cc
in_front_again (s ∷ ss) [] x y e f = absurd cc
in_front_again (s ∷ ss) (t ∷ ts) x y e f =
    let first : no_stmt_places s ≡ no_stmt_places t = cc in
    let rest : map no_stmt_places ss ≡ map no_stmt_places ts = cc in
    let more = in_front_again ss ts x y rest f in
    λ j. core.Stmts.more (first j) (more j)

-- ---- what is said of a tree is said of it without its marks

module _ {A : Type 0} where
  type_bare : (t : tree.TypeName A) → local_type t ≡ local_type (bare_type t)
  type_bare (tree.int m) = refl
  type_bare (tree.boolean m) = refl
  type_bare (tree.named m None w) = refl
  type_bare (tree.named m (Some o) w) = refl

  mutual
    unfolding locals_in locals_in_else locals_in_row map_stmt map_else map_stmts

    count_bare : (x : statement.Stmt A) → locals_in x ≡ locals_in (bare_stmt x)
    count_bare (statement.local m f t w e) = refl
    count_bare (statement.eval m e) = refl
    count_bare (statement.branch m e x other) = λ i. count_bare x i + count_else_bare other i
    count_bare (statement.loop m e x) = count_bare x
    count_bare (statement.return m e) = refl
    count_bare (statement.block m body) = count_row_bare body
    count_bare (statement.sync m e body) = count_row_bare body
    count_bare (statement.empty m) = refl

    count_else_bare : (x : statement.Else A) → locals_in_else x ≡ locals_in_else (map_else no_mark x)
    count_else_bare statement.no_else = refl
    count_else_bare (statement.otherwise x) = count_bare x

    count_row_bare : (xs : statement.Stmts A) → locals_in_row xs ≡ locals_in_row (bare_stmts xs)
    count_row_bare statement.end = refl
    count_row_bare (statement.more x xs) = λ i. count_bare x i + count_row_bare xs i

  after_bare : (n : ℕ) (c : Context) (x : statement.Stmt A) → after n c x ≡ after n c (bare_stmt x)
  unfolding map_stmt
  after_bare n c (statement.local m f t w e) = ap (with_local c) (λ i. record { name = w.text; key = local_key c n; is_final = f; type = type_bare t i; has_init = true })
  after_bare n c (statement.eval m e) = refl
  after_bare n c (statement.branch m e x other) = refl
  after_bare n c (statement.loop m e x) = refl
  after_bare n c (statement.return m e) = refl
  after_bare n c (statement.block m body) = refl
  after_bare n c (statement.sync m e body) = refl
  after_bare n c (statement.empty m) = refl

  abbrev bare_modifiers : List (syntax.Modifier A) → List (syntax.Modifier Bare)
  bare_modifiers ms = map (map_modifier no_mark) ms

  abbrev bare_params : List (syntax.Param A) → List (syntax.Param Bare)
  bare_params ps = map (map_param no_mark) ps

  synchronized_bare : (ms : List (syntax.Modifier A)) → is_synchronized ms ≡ is_synchronized (bare_modifiers ms)
  synchronized_bare [] = refl
  synchronized_bare (m ∷ ms) = ap (λ (b : Bool). is_synchronized_word m.word || b) (synchronized_bare ms)

  words_bare : (ms : List (syntax.Modifier A)) → map (λ (m : syntax.Modifier A). m.word) ms ≡ map (λ (m : syntax.Modifier Bare). m.word) (bare_modifiers ms)
  words_bare [] = refl
  words_bare (m ∷ ms) = ap (λ (ws : List ModWord). m.word ∷ ws) (words_bare ms)

  count_params_bare : (ps : List (syntax.Param A)) → length ps ≡ length (bare_params ps)
  count_params_bare [] = refl
  count_params_bare (p ∷ ps) = ap suc (count_params_bare ps)

  parameters_bare : (k : MemberKey) (n : ℕ) (ps : List (syntax.Param A)) (ts : List Ty) → parameters k n ps ts ≡ parameters k n (bare_params ps) ts
  parameters_bare k n [] ts = refl
  parameters_bare k n (p ∷ ps) [] = refl
  parameters_bare k n (p ∷ ps) (t ∷ ts) = ap (λ (ls : List Local). record { name = p.name.text; key = record { member = k; number = n }; is_final = p.is_final; type = known t; has_init = false } ∷ ls) (parameters_bare k (suc n) ps ts)

  -- so two that are the same but for marks say the same
  count_same : (x y : statement.Stmt A) → bare_stmt x ≡ bare_stmt y → locals_in x ≡ locals_in y
  count_same x y e = count_bare x ∙ ap locals_in e ∙ sym (count_bare y)

  count_row_same : (xs ys : statement.Stmts A) → bare_stmts xs ≡ bare_stmts ys → locals_in_row xs ≡ locals_in_row ys
  count_row_same xs ys e = count_row_bare xs ∙ ap locals_in_row e ∙ sym (count_row_bare ys)

  after_same : (n : ℕ) (c : Context) (x y : statement.Stmt A) → bare_stmt x ≡ bare_stmt y → after n c x ≡ after n c y
  after_same n c x y e = after_bare n c x ∙ ap (after n c) e ∙ sym (after_bare n c y)

  local_same : (c : Context) (n : ℕ) (f g : Bool) → f ≡ g → (t u : tree.TypeName A) → bare_type t ≡ bare_type u → (w v : tree.Word A) → w.text ≡ v.text → local_of c n f t w ≡ local_of c n g u v
  local_same c n f g flags t u types w v texts =
      let type : local_type t ≡ local_type u = type_bare t ∙ ap local_type types ∙ sym (type_bare u) in
      λ i. record { name = texts i; key = local_key c n; is_final = flags i; type = type i; has_init = true }

  synchronized_same : (ms ns : List (syntax.Modifier A)) → bare_modifiers ms ≡ bare_modifiers ns → is_synchronized ms ≡ is_synchronized ns
  synchronized_same ms ns e = synchronized_bare ms ∙ ap is_synchronized e ∙ sym (synchronized_bare ns)

  pub static_same : (begins : A → ℕ → ℕ) (ms ns : List (syntax.Modifier A)) → bare_modifiers ms ≡ bare_modifiers ns → is_static_member begins ms ≡ is_static_member begins ns
  static_same begins ms ns e = ap (list_any is_static_word) (words_bare ms ∙ ap (map (λ (m : syntax.Modifier Bare). m.word)) e ∙ sym (words_bare ns))

  params_same : (ps qs : List (syntax.Param A)) → bare_params ps ≡ bare_params qs → length ps ≡ length qs
  params_same ps qs e = count_params_bare ps ∙ ap length e ∙ sym (count_params_bare qs)

  context_same : (k : MemberKey) (static : Bool) (ps qs : List (syntax.Param A)) → bare_params ps ≡ bare_params qs → with_parameters k static ps ≡ with_parameters k static qs
  context_same k static ps qs e =
      let locals : parameters k 0 ps (types_of k) ≡ parameters k 0 qs (types_of k) =
      parameters_bare k 0 ps (types_of k) ∙ ap (λ (rs : List (syntax.Param Bare)). parameters k 0 rs (types_of k)) e ∙ sym (parameters_bare k 0 qs (types_of k)) in
      λ i. record { member = k; is_static = static; locals = locals i; own = None }

-- ---- statements

module _ {A : Type 0} (begins ends : A → ℕ → ℕ) (rows : List Row) where
  abbrev there : MemberKey → ℕ → Place
  there k at = record { member = k; at = at }

  abbrev StmtAgain : (n : ℕ) (c : Context) → ℕ → statement.Stmt A → StatementCode → Type 0
  StmtAgain n c i y s = (t : StatementCode) × StmtCode begins ends rows n c i y t × (no_stmt_places s ≡ no_stmt_places t)

  abbrev ElseAgain : (n : ℕ) (c : Context) → ℕ → statement.Else A → StatementCode → Type 0
  ElseAgain n c i y s = (t : StatementCode) × ElseCode begins ends rows n c i y t × (no_stmt_places s ≡ no_stmt_places t)

  abbrev ListAgain : (n : ℕ) (c : Context) → ℕ → statement.Stmts A → ListCode → Type 0
  ListAgain n c i ys ss = (ts : ListCode) × StmtsCode begins ends rows n c i ys ts × (no_list_places ss ≡ no_list_places ts)

  recode_return : (c : Context) (b i : ℕ) (p q : Place) (x y : Option (tree.Exp A)) → option_map bare x ≡ option_map bare y → (s : StatementCode) → ReturnCode begins ends rows c b p x s
      → (t : StatementCode) × ReturnCode begins ends rows c i q y t × (no_stmt_places s ≡ no_stmt_places t)
  recode_return c b i p q None None e s h = (core.return_nothing (Some q), refl, ap no_stmt_places h)
  recode_return c b i p q (Some x) (Some y) e s (z, code, h) =
      let values : bare x ≡ bare y = cc in
      let n = recode begins rows c b i x y values z code in
      (core.return (Some q) n.0, (n.0, n.1, refl), ap no_stmt_places h ∙ ap (λ (l : Code). core.return None l) n.2)
  recode_return c b i p q None (Some y) e s h = absurd cc
  recode_return c b i p q (Some x) None e s h = absurd cc

  mutual
    unfolding StmtCode ElseCode StmtsCode map_stmt map_else map_stmts

    pub recode_stmt : (n : ℕ) (c : Context) (b i : ℕ) (x y : statement.Stmt A) → bare_stmt x ≡ bare_stmt y → (s : StatementCode) → StmtCode begins ends rows n c b x s → StmtAgain n c i y s
    recode_stmt n c b i (statement.local m f t w o) (statement.local k g u v p) e s (z, code, h) =
        let flags : f ≡ g = cc in
        let types : bare_type t ≡ bare_type u = cc in
        let names : bare_word w ≡ bare_word v = cc in
        let values : bare o ≡ bare p = cc in
        let same : in_own c (local_of c n f t w) ≡ in_own c (local_of c n g u v) = ap (in_own c) (local_same c n f g flags t u types w v (text_of begins rows c w v names)) in
        let l = recode begins rows (in_own c (local_of c n g u v)) (begins m b) (begins k i) o p values z (subst (λ (d : Context). ExpCode begins rows d (begins m b) o z) same code) in
        (core.declare (Some (there c.member (word_at begins k i v))) n l.0, (l.0, l.1, refl), ap no_stmt_places h ∙ ap (λ (j : Code). core.declare None n j) l.2)
    recode_stmt n c b i (statement.eval m o) (statement.eval k p) e s (z, code, h) =
        let values : bare o ≡ bare p = cc in
        let l = recode begins rows c (begins m b) (begins k i) o p values z code in
        (core.eval (Some (there c.member (begins k i))) l.0, (l.0, l.1, refl), ap no_stmt_places h ∙ ap (λ (j : Code). core.eval None j) l.2)
    recode_stmt n c b i (statement.branch m o x w) (statement.branch k p y v) e s (z, u, q, code, first, second, h) =
        let values : bare o ≡ bare p = cc in
        let bodies : bare_stmt x ≡ bare_stmt y = cc in
        let elses : map_else no_mark w ≡ map_else no_mark v = cc in
        let l = recode begins rows c (begins m b) (begins k i) o p values z code in
        let f = recode_stmt n c (begins m b) (begins k i) x y bodies u first in
        let g = recode_else (n + locals_in x) c (begins m b) (begins k i) w v elses q second in
        let count : n + locals_in x ≡ n + locals_in y = ap (λ (j : ℕ). n + j) (count_same x y bodies) in (
          core.branch (Some (there c.member (begins k i))) l.0 f.0 g.0,
          (l.0, f.0, g.0, l.1, f.1, subst (λ (j : ℕ). ElseCode begins ends rows j c (begins k i) v g.0) count g.1, refl),
          ap no_stmt_places h ∙ (λ j. core.branch None (l.2 j) (f.2 j) (g.2 j)),
        )
    recode_stmt n c b i (statement.loop m o x) (statement.loop k p y) e s (z, u, code, first, h) =
        let values : bare o ≡ bare p = cc in
        let bodies : bare_stmt x ≡ bare_stmt y = cc in
        let l = recode begins rows c (begins m b) (begins k i) o p values z code in
        let f = recode_stmt n c (begins m b) (begins k i) x y bodies u first in
        (core.loop (Some (there c.member (begins k i))) l.0 f.0, (l.0, f.0, l.1, f.1, refl), ap no_stmt_places h ∙ (λ j. core.loop None (l.2 j) (f.2 j)))
    recode_stmt n c b i (statement.return m o) (statement.return k p) e s h =
        let values : option_map bare o ≡ option_map bare p = cc in
        recode_return c (begins m b) (begins k i) (there c.member (begins m b)) (there c.member (begins k i)) o p values s h
    recode_stmt n c b i (statement.block m xs) (statement.block k ys) e s (z, list, h) =
        let bodies : bare_stmts xs ≡ bare_stmts ys = cc in
        let l = recode_stmts n c (begins m b) (begins k i) xs ys bodies z list in
        let count = count_row_same xs ys bodies in
        (core.block (Some (there c.member (begins k i))) (numbers n (locals_in_row ys)) l.0, (l.0, l.1, refl), ap no_stmt_places h ∙ (λ j. core.block None (numbers n (count j)) (l.2 j)))
    recode_stmt n c b i (statement.sync m o xs) (statement.sync k p ys) e s (z, u, code, list, h) =
        let values : bare o ≡ bare p = cc in
        let bodies : bare_stmts xs ≡ bare_stmts ys = cc in
        let l = recode begins rows c (begins m b) (begins k i) o p values z code in
        let f = recode_stmts n c (begins m b) (begins k i) xs ys bodies u list in
        (core.sync (Some (there c.member (begins k i))) (Some (there c.member (ends k i))) l.0 f.0, (l.0, f.0, l.1, f.1, refl), ap no_stmt_places h ∙ (λ j. core.sync None None (l.2 j) (f.2 j)))
    recode_stmt n c b i (statement.empty m) (statement.empty k) e s h = (core.empty (Some (there c.member (begins k i))), refl, ap no_stmt_places h)
    recode_stmt n c b i (statement.local m f t w o) _ e s h = absurd cc
    recode_stmt n c b i (statement.eval m o) _ e s h = absurd cc
    recode_stmt n c b i (statement.branch m o x w) _ e s h = absurd cc
    recode_stmt n c b i (statement.loop m o x) _ e s h = absurd cc
    recode_stmt n c b i (statement.return m o) _ e s h = absurd cc
    recode_stmt n c b i (statement.block m xs) _ e s h = absurd cc
    recode_stmt n c b i (statement.sync m o xs) _ e s h = absurd cc
    recode_stmt n c b i (statement.empty m) _ e s h = absurd cc

    pub recode_else : (n : ℕ) (c : Context) (b i : ℕ) (x y : statement.Else A) → map_else no_mark x ≡ map_else no_mark y → (s : StatementCode) → ElseCode begins ends rows n c b x s → ElseAgain n c i y s
    recode_else n c b i statement.no_else statement.no_else e s h = (core.empty None, refl, ap no_stmt_places h)
    recode_else n c b i (statement.otherwise x) (statement.otherwise y) e s h = let bodies : bare_stmt x ≡ bare_stmt y = cc in recode_stmt n c b i x y bodies s h
    recode_else n c b i statement.no_else (statement.otherwise y) e s h = absurd cc
    recode_else n c b i (statement.otherwise x) statement.no_else e s h = absurd cc

    pub recode_stmts : (n : ℕ) (c : Context) (b i : ℕ) (xs ys : statement.Stmts A) → bare_stmts xs ≡ bare_stmts ys → (ss : ListCode) → StmtsCode begins ends rows n c b xs ss → ListAgain n c i ys ss
    recode_stmts n c b i statement.end statement.end e ss h = (core.Stmts.end, refl, ap no_list_places h)
    recode_stmts n c b i (statement.more x xs) (statement.more y ys) e ss (u, us, first, rest, h) =
        let heads : bare_stmt x ≡ bare_stmt y = cc in
        let tails : bare_stmts xs ≡ bare_stmts ys = cc in
        let f = recode_stmt n c b i x y heads u first in
        let count : n + locals_in x ≡ n + locals_in y = ap (λ (j : ℕ). n + j) (count_same x y heads) in
        let moved = subst (λ (d : Context). StmtsCode begins ends rows (n + locals_in y) d b xs us) (after_same n c x y heads)
        (subst (λ (j : ℕ). StmtsCode begins ends rows j (after n c x) b xs us) count rest) in
        let g = recode_stmts (n + locals_in y) (after n c y) b i xs ys tails us moved in
        (core.Stmts.more f.0 g.0, (f.0, g.0, f.1, g.1, refl), ap no_list_places h ∙ (λ j. core.Stmts.more (f.2 j) (g.2 j)))
    recode_stmts n c b i statement.end (statement.more y ys) e ss h = absurd cc
    recode_stmts n c b i (statement.more x xs) statement.end e ss h = absurd cc

  -- ---- members

  module _ (super_at : MemberKey → ℕ) where
    pub recode_method : (key : MethodKey) (b i : ℕ) (x y : syntax.Member A) → bare_member x ≡ bare_member y → (s : core.Method RunKeys) → MethodCoded begins ends rows super_at key b x s
        → (t : core.Method RunKeys) × MethodCoded begins ends rows super_at key i y t × MethodElsewhere s t
    unfolding map_member
    recode_method key b i (syntax.method m mods t w ps body) (syntax.method k words u v qs other) e s (z, code, h) =
        let modifiers : bare_modifiers mods ≡ bare_modifiers words = cc in
        let params : bare_params ps ≡ bare_params qs = cc in
        let bodies : bare_stmts body ≡ bare_stmts other = cc in
        let static = static_same begins mods words modifiers in
        let locks = synchronized_same mods words modifiers in
        let count = params_same ps qs params in
        let moved = subst (λ (n : ℕ). StmtsCode begins ends rows n (with_parameters (method key) (is_static_member begins words) qs) (begins m b) body z) count
        (subst (λ (c : Context). StmtsCode begins ends rows (length ps) c (begins m b) body z)
        (ap (λ (s : Bool). with_parameters (method key) s ps) static ∙ context_same (method key) (is_static_member begins words) ps qs params) code) in
        let l = recode_stmts (length qs) (with_parameters (method key) (is_static_member begins words) qs) (begins m b) (begins k i) body other bodies z moved in
        let p = Some (there (method key) (word_at begins m b w)) in
        let q = Some (there (method key) (ends m b)) in
        let o = Some (there (method key) (word_at begins k i v)) in
        let r = Some (there (method key) (ends k i)) in (
          core.written (record { params = length qs; body = locked (is_synchronized words) o r (monitor key.class (is_static_member begins words)) l.0 }),
          (l.0, l.1, refl),
          elsewhere_by (record { params = length ps; body = locked (is_synchronized mods) p q (monitor key.class (is_static_member begins mods)) z })
              (record { params = length qs; body = locked (is_synchronized words) o r (monitor key.class (is_static_member begins words)) l.0 }) s _ h refl (record {
                params = count;
                body = ap (λ (s : Bool). no_list_places (locked s p q (monitor key.class (is_static_member begins mods)) z)) locks ∙ ap (λ (s : Bool). no_list_places (locked (is_synchronized words) p q (monitor key.class s) z)) static
                    ∙ locked_places (is_synchronized words) p q o r (monitor key.class (is_static_member begins words)) z l.0 l.2;
              }),
        )
    recode_method key b i (syntax.method m mods t w ps body) (syntax.field k words u v init) e s h = absurd cc
    recode_method key b i (syntax.method m mods t w ps body) (syntax.constructor k words v qs args other) e s h = absurd cc
    recode_method key b i (syntax.method m mods t w ps body) (syntax.inner k d) e s h = absurd cc
    recode_method key b i (syntax.field m mods t w init) y e s h = absurd h
    recode_method key b i (syntax.constructor m mods w ps args body) y e s h = absurd h
    recode_method key b i (syntax.inner m c) y e s h = absurd h

    -- ---- initializers

    recode_by : (static : Bool) (of : ClassKey) (b i : ℕ) (m k : A) (w v : tree.Word A) → w.text ≡ v.text → (x y : tree.Exp A) → bare x ≡ bare y → (ss : List StatementCode) → InitBy begins ends rows super_at static of b m w x ss
        → (ts : List StatementCode) × InitBy begins ends rows super_at static of i k v y ts × AllAgain ss ts
    recode_by true of b i m k w v texts x y e ss h = ([], refl, ap (map no_stmt_places) h)
    recode_by false of b i m k w v texts x y e ss (z, code, h) =
        let before : FieldKey = record { class = of; name = w.text } in
        let key : FieldKey = record { class = of; name = v.text } in
        let same : before ≡ key = λ j. record { class = of; name = texts j } in
        let moved = subst (λ (f : FieldKey). ExpCode begins rows (plain (field f) false) (begins m b) x z) same code in
        let l = recode begins rows (plain (field key) false) (begins m b) (begins k i) x y e z moved in (
          stored begins ends rows super_at (there (field key) (word_at begins k i v)) key l.0 ∷ [],
          (l.0, l.1, refl),
          ap (map no_stmt_places) h ∙ (λ j. core.eval None (core.assign None (core.field_of None (core.this None) (same j)) (l.2 j)) ∷ []),
        )

    recode_init : (of : ClassKey) (b i : ℕ) (x y : syntax.Member A) → bare_member x ≡ bare_member y → (ss : List StatementCode) → InitCoded begins ends rows super_at of b x ss
        → (ts : List StatementCode) × InitCoded begins ends rows super_at of i y ts × AllAgain ss ts
    unfolding map_member
    recode_init of b i (syntax.field m mods t w None) (syntax.field k words u v None) e ss h = ([], refl, ap (map no_stmt_places) h)
    recode_init of b i (syntax.field m mods t w (Some x)) (syntax.field k words u v (Some y)) e ss h =
        let modifiers : bare_modifiers mods ≡ bare_modifiers words = cc in
        let names : bare_word w ≡ bare_word v = cc in
        let values : bare x ≡ bare y = cc in
        recode_by (is_static_member begins words) of b i m k w v (text_of begins rows (plain (head of) false) w v names) x y values ss
        (subst (λ (s : Bool). InitBy begins ends rows super_at s of b m w x ss) (static_same begins mods words modifiers) h)
    recode_init of b i (syntax.method m mods t w ps body) (syntax.method k words u v qs other) e ss h = ([], refl, ap (map no_stmt_places) h)
    recode_init of b i (syntax.constructor m mods w ps args body) (syntax.constructor k words v qs others other) e ss h = ([], refl, ap (map no_stmt_places) h)
    recode_init of b i (syntax.inner m c) (syntax.inner k d) e ss h = ([], refl, ap (map no_stmt_places) h)
    recode_init of b i (syntax.field m mods t w None) _ e ss h = absurd cc
    recode_init of b i (syntax.field m mods t w (Some x)) _ e ss h = absurd cc
    recode_init of b i (syntax.method m mods t w ps body) _ e ss h = absurd cc
    recode_init of b i (syntax.constructor m mods w ps args body) _ e ss h = absurd cc
    recode_init of b i (syntax.inner m c) _ e ss h = absurd cc

    pub recode_inits : (of : ClassKey) (b i : ℕ) (xs ys : syntax.Members A) → map_members no_mark xs ≡ map_members no_mark ys → (ss : List StatementCode) → InitsCoded begins ends rows super_at of b xs ss
        → (ts : List StatementCode) × InitsCoded begins ends rows super_at of i ys ts × AllAgain ss ts
    unfolding InitsCoded map_members
    recode_inits of b i syntax.end syntax.end e ss h = ([], refl, ap (map no_stmt_places) h)
    recode_inits of b i (syntax.more x xs) (syntax.more y ys) e ss (u, us, first, rest, h) =
        let heads : bare_member x ≡ bare_member y = cc in
        let tails : map_members no_mark xs ≡ map_members no_mark ys = cc in
        let f = recode_init of b i x y heads u first in
        let g = recode_inits of b i xs ys tails us rest in
        (f.0 ++ g.0, (f.0, g.0, f.1, g.1, refl), ap (map no_stmt_places) h ∙ appended u f.0 us g.0 f.2 g.2)
    recode_inits of b i syntax.end (syntax.more y ys) e ss h = absurd cc
    recode_inits of b i (syntax.more x xs) syntax.end e ss h = absurd cc

    -- ---- constructors

    abbrev bare_maybe : Option (tree.Exps A) → Option (tree.Exps Bare)
    bare_maybe es = option_map bare_args es

    recode_parent : (key : CtorKey) (c : Context) (b i : ℕ) (p q : Place) (x y : Option (tree.Exps A)) → bare_maybe x ≡ bare_maybe y → (s : StatementCode) → ParentCoded begins ends rows super_at key c b p x s
        → (t : StatementCode) × ParentCoded begins ends rows super_at key c i q y t × (no_stmt_places s ≡ no_stmt_places t)
    recode_parent key c b i p q None None e s (n, finds, h) = (core.eval (Some q) (core.super_constructor (Some q) (core.this None) n core.Exps.end), (n, finds, refl), ap no_stmt_places h)
    recode_parent key c b i p q (Some xs) (Some ys) e s (n, es, finds, row, h) =
        let args : bare_args xs ≡ bare_args ys = cc in
        let l = recode_row begins rows c b i xs ys args es row in
        let at = Some (there (constructor key) (super_at (constructor key))) in
        let f : Found = one (constructor_decl n) in (
          core.eval at (core.super_constructor at (core.this None) n l.0),
          (n, l.0, move (λ z. SuperCtorFinds rows c z f) (λ z. SuperCtorFinds rows c z f) bare_args (λ z. super_ctor_bare rows c z f) xs ys args finds, l.1, refl),
          ap no_stmt_places h ∙ ap (λ (j : core.Exps RunKeys). core.eval None (core.super_constructor None (core.this None) n j)) l.2,
        )
    recode_parent key c b i p q None (Some ys) e s h = absurd cc
    recode_parent key c b i p q (Some xs) None e s h = absurd cc

    pub recode_constructor : (key : CtorKey) (b i : ℕ) (ss ts : List StatementCode) → AllAgain ss ts → (x y : syntax.Member A) → bare_member x ≡ bare_member y → (s : MemberCode)
        → ConstructorCoded begins ends rows super_at key b ss x s → (t : MemberCode) × ConstructorCoded begins ends rows super_at key i ts y t × IsElsewhere s t
    unfolding map_member
    recode_constructor key b i ss ts inits (syntax.constructor m mods w ps args body) (syntax.constructor k words v qs others other) e s (u, z, parent, code, h) =
        let params : bare_params ps ≡ bare_params qs = cc in
        let rests : bare_maybe args ≡ bare_maybe others = cc in
        let bodies : bare_stmts body ≡ bare_stmts other = cc in
        let count = params_same ps qs params in
        let above = subst (λ (c : Context). ParentCoded begins ends rows super_at key c (begins m b) (there (constructor key) (word_at begins m b w)) args u) (context_same (constructor key) true ps qs params) parent in
        let p = recode_parent key (with_parameters (constructor key) true qs) (begins m b) (begins k i) (there (constructor key) (word_at begins m b w)) (there (constructor key) (word_at begins k i v)) args others rests u above in
        let moved = subst (λ (n : ℕ). StmtsCode begins ends rows n (with_parameters (constructor key) false qs) (begins m b) body z) count
        (subst (λ (c : Context). StmtsCode begins ends rows (length ps) c (begins m b) body z) (context_same (constructor key) false ps qs params) code) in
        let l = recode_stmts (length qs) (with_parameters (constructor key) false qs) (begins m b) (begins k i) body other bodies z moved in
        let tail = in_front_again ss ts z l.0 inits l.2 in (
          record { params = length qs; body = core.Stmts.more p.0 (in_front ts l.0) },
          (p.0, l.0, p.1, l.1, refl),
          code_by (record { params = length ps; body = core.Stmts.more u (in_front ss z) }) (record { params = length qs; body = core.Stmts.more p.0 (in_front ts l.0) }) s _ h refl
              (record { params = count; body = λ j. core.Stmts.more (p.2 j) (tail j) }),
        )
    recode_constructor key b i ss ts inits (syntax.constructor m mods w ps args body) (syntax.field k words u v init) e s h = absurd cc
    recode_constructor key b i ss ts inits (syntax.constructor m mods w ps args body) (syntax.method k words u v qs other) e s h = absurd cc
    recode_constructor key b i ss ts inits (syntax.constructor m mods w ps args body) (syntax.inner k d) e s h = absurd cc
    recode_constructor key b i ss ts inits (syntax.field m mods t w init) y e s h = absurd h
    recode_constructor key b i ss ts inits (syntax.method m mods t w ps body) y e s h = absurd h
    recode_constructor key b i ss ts inits (syntax.inner m c) y e s h = absurd h
