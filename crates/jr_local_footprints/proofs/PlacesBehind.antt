-- The sites of a body stand behind the member's first byte: each at the first byte of a word or a node,
-- or at the last one of a node.
use Rattle.std.proofs.Common.{◌≡◌, ℕ, zero, suc, ◌-◌, ◌<◌, ◌≤◌, Bool, true, false, not, ◌||◌, List, [], ◌∷◌, ◌++◌, Option, Some, None, refl, sym, ap, subst, ◌∙◌, arith}
use Rattle.jr_text.specs.declared.spans.Span.{Span}
use Rattle.jr_ast.specs.declared.operators.BinOp.{BinOp}
use Rattle.jr_ast.specs.declared.operators.BinOp.TheVariants as op
use Rattle.jr_ast.specs.declared.operators.BumpOp.TheVariants.{PreInc, PreDec, PostInc, PostDec}
use Rattle.jr_ast.specs.Tree as tree
use Rattle.jr_ast.specs.StatementTree as statement
use Rattle.jr_grammar.specs.Stands.{Tokens, first_from, last_to, span_of, InOrder, Stands}
use Rattle.jr_grammar.specs.ExpressionLayout.{word_layout, exp_layout, target_layout, args_layout, more_args_layout}
use Rattle.jr_grammar.specs.StatementLayout.{stmt_layout, else_layout, stmts_layout}
use Rattle.jr_bind.specs.Programs.{Program}
use Rattle.jr_code.specs.RunKeys.{RunKeys, Place}
use Rattle.jr_cover.specs.Facts.{Variable, is_local, is_static_field, is_instance_field}
use Rattle.jr_cover.specs.Ways.{Way, pass, one, row, fork, leave, turns, inside, sites_of}
use Rattle.jr_cover.specs.Sites.{What, Site, Known, at_place, unless, is_class_name, null_check, load_of, store_of, field_load, field_store, field_check, is_nonzero, mark_of, divides, divisor_check, operands}
use Rattle.jr_cover.specs.Sites.{exp_way, receiver_way, exps_way, receiver_check, operand_way, target_check, target_load, target_store, returned_way, stmt_way, else_way, stmts_way}
use Rattle.jr_program_laws.proofs.TokenOrder.{StartsIn, Rising, Filled, starts_first, to_last, rising_front, rising_back, in_front, in_back}
use Rattle.jr_program_laws.proofs.Filling.{word_fills, exp_fills, stmt_fills}
use Rattle.jr_local.specs.Bodies.{Body}
use Rattle.jr_local.specs.BodyFacts.{known}

-- ---- marks

module _ (lo : ℕ) where
  abbrev pub Good : Span → Type 0
  Good m = (lo ≤ m.from) × (lo ≤ m.to - 1)

  abbrev mutual
    pub ExpParts : tree.Exp Span → Type 0
    ExpParts (tree.number m v) = Unit {0}
    ExpParts (tree.truth m v) = Unit {0}
    ExpParts (tree.null m) = Unit {0}
    ExpParts (tree.string m t) = Unit {0}
    ExpParts (tree.name m w) = Good w.mark
    ExpParts (tree.field m e w) = (Good (mark_of e) × ExpParts e) × Good w.mark
    ExpParts (tree.super_field m w) = Good w.mark
    ExpParts (tree.this m) = Unit {0}
    ExpParts (tree.class_literal m t) = Unit {0}
    ExpParts (tree.call m t w es) = TargetGood t × Good w.mark × RowGood es
    ExpParts (tree.super_call m w es) = Good w.mark × RowGood es
    ExpParts (tree.create m t es) = RowGood es
    ExpParts (tree.paren m e) = Good (mark_of e) × ExpParts e
    ExpParts (tree.cast m t e) = Good (mark_of e) × ExpParts e
    ExpParts (tree.unary m o e) = Good (mark_of e) × ExpParts e
    ExpParts (tree.bump m o e) = Good (mark_of e) × ExpParts e
    ExpParts (tree.binary m o x y) = (Good (mark_of x) × ExpParts x) × (Good (mark_of y) × ExpParts y)
    ExpParts (tree.assign m x y) = (Good (mark_of x) × ExpParts x) × (Good (mark_of y) × ExpParts y)
    ExpParts (tree.compound m o x y) = (Good (mark_of x) × ExpParts x) × (Good (mark_of y) × ExpParts y)

    pub TargetGood : tree.Target Span → Type 0
    TargetGood tree.no_target = Unit {0}
    TargetGood (tree.on e) = Good (mark_of e) × ExpParts e

    pub RowGood : tree.Exps Span → Type 0
    RowGood tree.end = Unit {0}
    RowGood (tree.more e es) = (Good (mark_of e) × ExpParts e) × RowGood es

  abbrev pub ExpGood : tree.Exp Span → Type 0
  ExpGood e = Good (mark_of e) × ExpParts e

  abbrev pub MaybeGood : Option (tree.Exp Span) → Type 0
  MaybeGood None = Unit {0}
  MaybeGood (Some e) = ExpGood e

  abbrev mutual
    pub StmtGood : statement.Stmt Span → Type 0
    StmtGood (statement.local m f t w e) = Good w.mark × ExpGood e
    StmtGood (statement.eval m e) = ExpGood e
    StmtGood (statement.branch m c s o) = ExpGood c × StmtGood s × ElseGood o
    StmtGood (statement.loop m c s) = Good m × ExpGood c × StmtGood s
    StmtGood (statement.return m v) = MaybeGood v
    StmtGood (statement.block m b) = StmtsGood b
    StmtGood (statement.sync m e b) = Good m × ExpGood e × StmtsGood b
    StmtGood (statement.empty m) = Unit {0}

    pub ElseGood : statement.Else Span → Type 0
    ElseGood statement.no_else = Unit {0}
    ElseGood (statement.otherwise s) = StmtGood s

    pub StmtsGood : statement.Stmts Span → Type 0
    StmtsGood statement.end = Unit {0}
    StmtsGood (statement.more s ss) = StmtGood s × StmtsGood ss

  -- tokens behind the byte
  record Later (ps : Tokens) : Type 0 where
    rise : Rising ps
    behind : (i : ℕ) → StartsIn ps i → lo < i

  later_front : (xs ys : Tokens) → Later (xs ++ ys) → Later xs
  later_front xs ys l = record { rise = rising_front xs ys l.rise; behind = λ i s. l.behind i (in_front xs ys i s) }

  later_back : (xs ys : Tokens) → Later (xs ++ ys) → Later ys
  later_back xs ys l = record { rise = rising_back xs ys l.rise; behind = λ i s. l.behind i (in_back xs ys i s) }

  module _ {P Q : Tokens → Type 0} {T : Type 0} (ps : Tokens) (h : InOrder P Q ps) (l : Later ps) where
    first : ((qs : Tokens) → P qs → Later qs → T) → T
    first go = go h.front h.first (later_front h.front h.back (subst Later h.whole l))

    rest : ((qs : Tokens) → Q qs → Later qs → T) → T
    rest go = go h.back h.rest (later_back h.front h.back (subst Later h.whole l))

  marked : (m : Span) (ps : Tokens) → m ≡ span_of ps → Filled ps → Later ps → Good m
  marked m ps is filled l =
      let from : lo < first_from ps = l.behind (first_from ps) (starts_first ps filled) in
      let to : first_from ps < last_to ps = to_last ps l.rise (first_from ps) (starts_first ps filled) in
      subst Good (sym is) (omega (arith, from), omega (arith, from, to))

  word_good : (w : tree.Word Span) (ps : Tokens) → Stands (word_layout w) ps → Later ps → Good w.mark
  word_good w ps h l = marked w.mark ps h.mark ((word_fills w).fills ps h) l

  mutual
    exp_good : (e : tree.Exp Span) (ps : Tokens) → Stands (exp_layout e) ps → Later ps → ExpGood e
    exp_good (tree.number m v) ps h l = (marked m ps h.mark ((exp_fills (tree.number m v)).fills ps h) l, tt)
    exp_good (tree.truth m v) ps h l = (marked m ps h.mark ((exp_fills (tree.truth m v)).fills ps h) l, tt)
    exp_good (tree.null m) ps h l = (marked m ps h.mark ((exp_fills (tree.null m)).fills ps h) l, tt)
    exp_good (tree.string m t) ps h l = (marked m ps h.mark ((exp_fills (tree.string m t)).fills ps h) l, tt)
    exp_good (tree.this m) ps h l = (marked m ps h.mark ((exp_fills (tree.this m)).fills ps h) l, tt)
    exp_good (tree.class_literal m t) ps h l = (marked m ps h.mark ((exp_fills (tree.class_literal m t)).fills ps h) l, tt)
    exp_good (tree.name m w) ps h l = (marked m ps h.mark ((exp_fills (tree.name m w)).fills ps h) l, first ps h.parts l (word_good w))
    exp_good (tree.field m e w) ps h l = (
      marked m ps h.mark ((exp_fills (tree.field m e w)).fills ps h) l,
      (first ps h.parts l (exp_good e), rest ps h.parts l (λ qs k a. rest qs k a (λ rs i c. first rs i c (word_good w)))),
    )
    exp_good (tree.super_field m w) ps h l = (
      marked m ps h.mark ((exp_fills (tree.super_field m w)).fills ps h) l,
      rest ps h.parts l (λ qs k a. rest qs k a (λ rs i c. first rs i c (word_good w))),
    )
    exp_good (tree.call m t w es) ps h l = (
      marked m ps h.mark ((exp_fills (tree.call m t w es)).fills ps h) l,
      (
        first ps h.parts l (target_good t),
        rest ps h.parts l (λ qs k a. first qs k a (word_good w)),
        rest ps h.parts l (λ qs k a. rest qs k a (λ rs i c. rest rs i c (λ us j d. first us j d (args_good es)))),
      ),
    )
    exp_good (tree.super_call m w es) ps h l = (
      marked m ps h.mark ((exp_fills (tree.super_call m w es)).fills ps h) l,
      (
        rest ps h.parts l (λ qs k a. rest qs k a (λ rs i c. first rs i c (word_good w))),
        rest ps h.parts l (λ qs k a. rest qs k a (λ rs i c. rest rs i c (λ us j d. rest us j d (λ vs n f. first vs n f (args_good es))))),
      ),
    )
    exp_good (tree.create m t es) ps h l = (
      marked m ps h.mark ((exp_fills (tree.create m t es)).fills ps h) l,
      rest ps h.parts l (λ qs k a. rest qs k a (λ rs i c. rest rs i c (λ us j d. first us j d (args_good es)))),
    )
    exp_good (tree.paren m e) ps h l = (marked m ps h.mark ((exp_fills (tree.paren m e)).fills ps h) l, rest ps h.parts l (λ qs k a. first qs k a (exp_good e)))
    exp_good (tree.cast m t e) ps h l = (
      marked m ps h.mark ((exp_fills (tree.cast m t e)).fills ps h) l,
      rest ps h.parts l (λ qs k a. rest qs k a (λ rs i c. rest rs i c (λ us j d. first us j d (exp_good e)))),
    )
    exp_good (tree.unary m o e) ps h l = (marked m ps h.mark ((exp_fills (tree.unary m o e)).fills ps h) l, rest ps h.parts l (λ qs k a. first qs k a (exp_good e)))
    exp_good (tree.bump m PreInc e) ps h l = (marked m ps h.mark ((exp_fills (tree.bump m PreInc e)).fills ps h) l, rest ps h.parts l (λ qs k a. first qs k a (exp_good e)))
    exp_good (tree.bump m PreDec e) ps h l = (marked m ps h.mark ((exp_fills (tree.bump m PreDec e)).fills ps h) l, rest ps h.parts l (λ qs k a. first qs k a (exp_good e)))
    exp_good (tree.bump m PostInc e) ps h l = (marked m ps h.mark ((exp_fills (tree.bump m PostInc e)).fills ps h) l, first ps h.parts l (exp_good e))
    exp_good (tree.bump m PostDec e) ps h l = (marked m ps h.mark ((exp_fills (tree.bump m PostDec e)).fills ps h) l, first ps h.parts l (exp_good e))
    exp_good (tree.binary m o x y) ps h l = (
      marked m ps h.mark ((exp_fills (tree.binary m o x y)).fills ps h) l,
      (first ps h.parts l (exp_good x), rest ps h.parts l (λ qs k a. rest qs k a (λ rs i c. first rs i c (exp_good y)))),
    )
    exp_good (tree.assign m x y) ps h l = (
      marked m ps h.mark ((exp_fills (tree.assign m x y)).fills ps h) l,
      (first ps h.parts l (exp_good x), rest ps h.parts l (λ qs k a. rest qs k a (λ rs i c. first rs i c (exp_good y)))),
    )
    exp_good (tree.compound m o x y) ps h l = (
      marked m ps h.mark ((exp_fills (tree.compound m o x y)).fills ps h) l,
      (first ps h.parts l (exp_good x), rest ps h.parts l (λ qs k a. rest qs k a (λ rs i c. first rs i c (exp_good y)))),
    )

    target_good : (t : tree.Target Span) (ps : Tokens) → Stands (target_layout t) ps → Later ps → TargetGood t
    target_good tree.no_target ps h l = tt
    target_good (tree.on e) ps h l = first ps h l (exp_good e)

    args_good : (es : tree.Exps Span) (ps : Tokens) → Stands (args_layout es) ps → Later ps → RowGood es
    args_good tree.end ps h l = tt
    args_good (tree.more e es) ps h l = (first ps h l (exp_good e), rest ps h l (λ qs k a. first qs k a (more_good es)))

    more_good : (es : tree.Exps Span) (ps : Tokens) → Stands (more_args_layout es) ps → Later ps → RowGood es
    more_good tree.end ps h l = tt
    more_good (tree.more e es) ps h l = (rest ps h l (λ qs k a. first qs k a (exp_good e)), rest ps h l (λ qs k a. rest qs k a (λ rs i c. first rs i c (more_good es))))

  mutual
    stmt_good : (s : statement.Stmt Span) (ps : Tokens) → Stands (stmt_layout s) ps → Later ps → StmtGood s
    stmt_good (statement.local m f t w e) ps h l = (
      rest ps h.parts l (λ qs k a. rest qs k a (λ rs i c. first rs i c (word_good w))),
      rest ps h.parts l (λ qs k a. rest qs k a (λ rs i c. rest rs i c (λ us j d. rest us j d (λ vs n g. first vs n g (exp_good e))))),
    )
    stmt_good (statement.eval m e) ps h l = first ps h.parts l (exp_good e)
    stmt_good (statement.branch m c s o) ps h l = (
      rest ps h.parts l (λ qs k a. rest qs k a (λ rs i d. first rs i d (exp_good c))),
      rest ps h.parts l (λ qs k a. rest qs k a (λ rs i d. rest rs i d (λ us j f. rest us j f (λ vs n g. first vs n g (stmt_good s))))),
      rest ps h.parts l (λ qs k a. rest qs k a (λ rs i d. rest rs i d (λ us j f. rest us j f (λ vs n g. rest vs n g (λ xs q t. first xs q t (else_good o)))))),
    )
    stmt_good (statement.loop m c s) ps h l = (
      marked m ps h.mark ((stmt_fills (statement.loop m c s)).fills ps h) l,
      rest ps h.parts l (λ qs k a. rest qs k a (λ rs i d. first rs i d (exp_good c))),
      rest ps h.parts l (λ qs k a. rest qs k a (λ rs i d. rest rs i d (λ us j f. rest us j f (λ vs n g. first vs n g (stmt_good s))))),
    )
    stmt_good (statement.return m None) ps h l = tt
    stmt_good (statement.return m (Some e)) ps h l = rest ps h.parts l (λ qs k a. first qs k a (exp_good e))
    stmt_good (statement.block m b) ps h l = rest ps h.parts l (λ qs k a. first qs k a (stmts_good b))
    stmt_good (statement.sync m e b) ps h l = (
      marked m ps h.mark ((stmt_fills (statement.sync m e b)).fills ps h) l,
      rest ps h.parts l (λ qs k a. rest qs k a (λ rs i d. first rs i d (exp_good e))),
      rest ps h.parts l (λ qs k a. rest qs k a (λ rs i d. rest rs i d (λ us j f. rest us j f (λ vs n g. rest vs n g (λ xs q t. first xs q t (stmts_good b)))))),
    )
    stmt_good (statement.empty m) ps h l = tt

    else_good : (o : statement.Else Span) (ps : Tokens) → Stands (else_layout o) ps → Later ps → ElseGood o
    else_good statement.no_else ps h l = tt
    else_good (statement.otherwise s) ps h l = rest ps h l (λ qs k a. first qs k a (stmt_good s))

    stmts_good : (b : statement.Stmts Span) (ps : Tokens) → Stands (stmts_layout b) ps → Later ps → StmtsGood b
    stmts_good statement.end ps h l = tt
    stmts_good (statement.more s ss) ps h l = (first ps h l (stmt_good s), rest ps h l (λ qs k a. first qs k a (stmts_good ss)))

  pub list_good : (b : statement.Stmts Span) (ps : Tokens) → Stands (stmts_layout b) ps → Rising ps → ((i : ℕ) → StartsIn ps i → lo < i) → StmtsGood b
  list_good b ps h rise behind = stmts_good b ps h (record { rise = rise; behind = behind })

  -- ---- sites

  abbrev pub AllBehind : List (Site RunKeys) → Type 0
  AllBehind [] = Unit {0}
  AllBehind (s ∷ ss) = (lo ≤ s.at.at) × AllBehind ss

  pub both_behind : (xs ys : List (Site RunKeys)) → AllBehind xs → AllBehind ys → AllBehind (xs ++ ys)
  both_behind [] ys a b = b
  both_behind (x ∷ xs) ys a b = (a.0, both_behind xs ys a.1 b)

  abbrev Behind : Way (Site RunKeys) → Type 0
  Behind pass = Unit {0}
  Behind (one s) = lo ≤ s.at.at
  Behind (row a b) = Behind a × Behind b
  Behind (fork a b) = Behind a × Behind b
  Behind leave = Unit {0}
  Behind (turns s c b) = (lo ≤ s.at.at) × Behind c × Behind b
  Behind (inside e b x) = (lo ≤ e.at.at) × Behind b × (lo ≤ x.at.at)

  sites_behind : (w : Way (Site RunKeys)) → Behind w → AllBehind (sites_of w)
  sites_behind pass h = tt
  sites_behind (one s) h = (h, tt)
  sites_behind (row a b) h = both_behind (sites_of a) (sites_of b) (sites_behind a h.0) (sites_behind b h.1)
  sites_behind (fork a b) h = both_behind (sites_of a) (sites_of b) (sites_behind a h.0) (sites_behind b h.1)
  sites_behind leave h = tt
  sites_behind (turns s c b) h = (h.0, both_behind (sites_of c) (sites_of b) (sites_behind c h.1) (sites_behind b h.2))
  sites_behind (inside e b x) h = (h.0, both_behind (sites_of b) (x ∷ []) (sites_behind b h.1) (h.2, tt))

  unless_behind : (c : Bool) (w : Way (Site RunKeys)) → Behind w → Behind (unless c w)
  unless_behind true w h = tt
  unless_behind false w h = h

  load_of_behind : (q : Place) (v : Option (Variable RunKeys)) → lo ≤ q.at → Behind (load_of q v)
  load_of_behind q None h = tt
  load_of_behind q (Some (is_local n)) h = h
  load_of_behind q (Some (is_static_field f)) h = h
  load_of_behind q (Some (is_instance_field f)) h = h

  store_of_behind : (q : Place) (v : Option (Variable RunKeys)) → lo ≤ q.at → Behind (store_of q v)
  store_of_behind q None h = tt
  store_of_behind q (Some (is_local n)) h = h
  store_of_behind q (Some (is_static_field f)) h = h
  store_of_behind q (Some (is_instance_field f)) h = h

  field_load_behind : (q : Place) (v : Option (Variable RunKeys)) → lo ≤ q.at → Behind (field_load q v)
  field_load_behind q None h = tt
  field_load_behind q (Some (is_local n)) h = tt
  field_load_behind q (Some (is_static_field f)) h = h
  field_load_behind q (Some (is_instance_field f)) h = h

  field_store_behind : (q : Place) (v : Option (Variable RunKeys)) → lo ≤ q.at → Behind (field_store q v)
  field_store_behind q None h = tt
  field_store_behind q (Some (is_local n)) h = tt
  field_store_behind q (Some (is_static_field f)) h = h
  field_store_behind q (Some (is_instance_field f)) h = h

  field_check_behind : (w : Way (Site RunKeys)) (v : Option (Variable RunKeys)) → Behind w → Behind (field_check w v)
  field_check_behind w None h = tt
  field_check_behind w (Some (is_local n)) h = tt
  field_check_behind w (Some (is_static_field f)) h = h
  field_check_behind w (Some (is_instance_field f)) h = h

  operands_behind : (o : BinOp) (l r c : Way (Site RunKeys)) → Behind l → Behind r → Behind c → Behind (operands o l r c)
  operands_behind op.Or l r c a b d = (a, (b, tt))
  operands_behind op.And l r c a b d = (a, (b, tt))
  operands_behind op.Eq l r c a b d = (a, (b, d))
  operands_behind op.Ne l r c a b d = (a, (b, d))
  operands_behind op.Lt l r c a b d = (a, (b, d))
  operands_behind op.Gt l r c a b d = (a, (b, d))
  operands_behind op.Le l r c a b d = (a, (b, d))
  operands_behind op.Ge l r c a b d = (a, (b, d))
  operands_behind op.Add l r c a b d = (a, (b, d))
  operands_behind op.Sub l r c a b d = (a, (b, d))
  operands_behind op.Mul l r c a b d = (a, (b, d))
  operands_behind op.Div l r c a b d = (a, (b, d))
  operands_behind op.Rem l r c a b d = (a, (b, d))

module _ (p : Program Span) (b : Body) (test : tree.Exp Span → Bool) (lo : ℕ) where
  abbrev X : Known RunKeys Span
  X = known p b test

  abbrev All : Way (Site RunKeys) → Type 0
  All = Behind lo

  null_check_behind : (e : tree.Exp Span) (w : Span) → lo ≤ w.from → All (null_check X e (X.facts.first w))
  null_check_behind e w h = unless_behind lo (is_class_name X e || X.never_null e) (at_place (X.facts.first w) What.checks) h

  divisor_behind : (o : BinOp) (e : tree.Exp Span) → ExpGood lo e → All (divisor_check X o e)
  divisor_behind o e h = unless_behind lo (not (divides o) || is_nonzero e) (at_place (X.facts.first (mark_of e)) What.checks) h.0.0

  -- targets
  check_behind : (t : tree.Exp Span) → ExpParts lo t → All (target_check X t)
  check_behind (tree.field m e w) h = field_check_behind lo (null_check X e (X.facts.first w.mark)) (X.facts.variable w.mark) (null_check_behind e w.mark h.1.0)
  check_behind (tree.number m v) h = tt
  check_behind (tree.truth m v) h = tt
  check_behind (tree.null m) h = tt
  check_behind (tree.string m t) h = tt
  check_behind (tree.name m w) h = tt
  check_behind (tree.super_field m w) h = tt
  check_behind (tree.this m) h = tt
  check_behind (tree.class_literal m t) h = tt
  check_behind (tree.call m t w es) h = tt
  check_behind (tree.super_call m w es) h = tt
  check_behind (tree.create m t es) h = tt
  check_behind (tree.paren m e) h = tt
  check_behind (tree.cast m t e) h = tt
  check_behind (tree.unary m o e) h = tt
  check_behind (tree.bump m o e) h = tt
  check_behind (tree.binary m o x y) h = tt
  check_behind (tree.assign m x y) h = tt
  check_behind (tree.compound m o x y) h = tt

  load_behind : (t : tree.Exp Span) → ExpParts lo t → All (target_load X t)
  load_behind (tree.name m w) h = load_of_behind lo (X.facts.first w.mark) (X.facts.variable w.mark) h.0
  load_behind (tree.field m e w) h = (field_check_behind lo (null_check X e (X.facts.first w.mark)) (X.facts.variable w.mark) (null_check_behind e w.mark h.1.0), field_load_behind lo (X.facts.first w.mark) (X.facts.variable w.mark) h.1.0)
  load_behind (tree.super_field m w) h = field_load_behind lo (X.facts.first w.mark) (X.facts.variable w.mark) h.0
  load_behind (tree.number m v) h = tt
  load_behind (tree.truth m v) h = tt
  load_behind (tree.null m) h = tt
  load_behind (tree.string m t) h = tt
  load_behind (tree.this m) h = tt
  load_behind (tree.class_literal m t) h = tt
  load_behind (tree.call m t w es) h = tt
  load_behind (tree.super_call m w es) h = tt
  load_behind (tree.create m t es) h = tt
  load_behind (tree.paren m e) h = tt
  load_behind (tree.cast m t e) h = tt
  load_behind (tree.unary m o e) h = tt
  load_behind (tree.bump m o e) h = tt
  load_behind (tree.binary m o x y) h = tt
  load_behind (tree.assign m x y) h = tt
  load_behind (tree.compound m o x y) h = tt

  store_behind : (t : tree.Exp Span) → ExpParts lo t → All (target_store X t)
  store_behind (tree.name m w) h = store_of_behind lo (X.facts.first w.mark) (X.facts.variable w.mark) h.0
  store_behind (tree.field m e w) h = field_store_behind lo (X.facts.first w.mark) (X.facts.variable w.mark) h.1.0
  store_behind (tree.super_field m w) h = field_store_behind lo (X.facts.first w.mark) (X.facts.variable w.mark) h.0
  store_behind (tree.number m v) h = tt
  store_behind (tree.truth m v) h = tt
  store_behind (tree.null m) h = tt
  store_behind (tree.string m t) h = tt
  store_behind (tree.this m) h = tt
  store_behind (tree.class_literal m t) h = tt
  store_behind (tree.call m t w es) h = tt
  store_behind (tree.super_call m w es) h = tt
  store_behind (tree.create m t es) h = tt
  store_behind (tree.paren m e) h = tt
  store_behind (tree.cast m t e) h = tt
  store_behind (tree.unary m o e) h = tt
  store_behind (tree.bump m o e) h = tt
  store_behind (tree.binary m o x y) h = tt
  store_behind (tree.assign m x y) h = tt
  store_behind (tree.compound m o x y) h = tt

  mutual
    exp_behind : (e : tree.Exp Span) → ExpGood lo e → All (exp_way X e)
    exp_behind (tree.number m v) h = tt
    exp_behind (tree.truth m v) h = tt
    exp_behind (tree.null m) h = tt
    exp_behind (tree.string m t) h = tt
    exp_behind (tree.name m w) h = load_of_behind lo (X.facts.first w.mark) (X.facts.variable w.mark) h.1.0
    exp_behind (tree.field m e w) h = (
      unless_behind lo (is_class_name X e) (exp_way X e) (exp_behind e h.1.0),
      (field_check_behind lo (null_check X e (X.facts.first w.mark)) (X.facts.variable w.mark) (null_check_behind e w.mark h.1.1.0), field_load_behind lo (X.facts.first w.mark) (X.facts.variable w.mark) h.1.1.0),
    )
    exp_behind (tree.super_field m w) h = field_load_behind lo (X.facts.first w.mark) (X.facts.variable w.mark) h.1.0
    exp_behind (tree.this m) h = tt
    exp_behind (tree.class_literal m t) h = tt
    exp_behind (tree.call m t w es) h = (receiver_behind t h.1.0, (row_behind es h.1.2, (called_behind t w.mark h.1.1.0, h.1.1.0)))
    exp_behind (tree.super_call m w es) h = (row_behind es h.1.1, h.1.0.0)
    exp_behind (tree.create m t es) h = (h.0.0, (row_behind es h.1, h.0.0))
    exp_behind (tree.paren m e) h = exp_behind e h.1
    exp_behind (tree.cast m t e) h = (exp_behind e h.1, unless_behind lo (not (X.facts.is_checked m)) (at_place (X.facts.first m) What.checks) h.0.0)
    exp_behind (tree.unary m o e) h = exp_behind e h.1
    exp_behind (tree.bump m o e) h = (operand_behind e h.1.1, (load_behind e h.1.1, store_behind e h.1.1))
    exp_behind (tree.binary m o x y) h = operands_behind lo o (exp_way X x) (exp_way X y) (divisor_check X o y) (exp_behind x h.1.0) (exp_behind y h.1.1) (divisor_behind o y h.1.1)
    exp_behind (tree.assign m x y) h = (operand_behind x h.1.0.1, (exp_behind y h.1.1, (check_behind x h.1.0.1, store_behind x h.1.0.1)))
    exp_behind (tree.compound m o x y) h = (operand_behind x h.1.0.1, (load_behind x h.1.0.1, (exp_behind y h.1.1, (divisor_behind o y h.1.1, store_behind x h.1.0.1))))

    receiver_behind : (t : tree.Target Span) → TargetGood lo t → All (receiver_way X t)
    receiver_behind tree.no_target h = tt
    receiver_behind (tree.on e) h = unless_behind lo (is_class_name X e) (exp_way X e) (exp_behind e h)

    row_behind : (es : tree.Exps Span) → RowGood lo es → All (exps_way X es)
    row_behind tree.end h = tt
    row_behind (tree.more e es) h = (exp_behind e h.0, row_behind es h.1)

    called_behind : (t : tree.Target Span) (w : Span) → lo ≤ w.from → All (receiver_check X t (X.facts.first w))
    called_behind tree.no_target w h = tt
    called_behind (tree.on e) w h = null_check_behind e w h

    operand_behind : (t : tree.Exp Span) → ExpParts lo t → All (operand_way X t)
    operand_behind (tree.field m e w) h = unless_behind lo (is_class_name X e) (exp_way X e) (exp_behind e h.0)
    operand_behind (tree.number m v) h = tt
    operand_behind (tree.truth m v) h = tt
    operand_behind (tree.null m) h = tt
    operand_behind (tree.string m t) h = tt
    operand_behind (tree.name m w) h = tt
    operand_behind (tree.super_field m w) h = tt
    operand_behind (tree.this m) h = tt
    operand_behind (tree.class_literal m t) h = tt
    operand_behind (tree.call m t w es) h = tt
    operand_behind (tree.super_call m w es) h = tt
    operand_behind (tree.create m t es) h = tt
    operand_behind (tree.paren m e) h = tt
    operand_behind (tree.cast m t e) h = tt
    operand_behind (tree.unary m o e) h = tt
    operand_behind (tree.bump m o e) h = tt
    operand_behind (tree.binary m o x y) h = tt
    operand_behind (tree.assign m x y) h = tt
    operand_behind (tree.compound m o x y) h = tt

  maybe_behind : (v : Option (tree.Exp Span)) → MaybeGood lo v → All (returned_way X v)
  maybe_behind None h = tt
  maybe_behind (Some e) h = (exp_behind e h, tt)

  mutual
    stmt_behind : (s : statement.Stmt Span) → StmtGood lo s → All (stmt_way X s)
    stmt_behind (statement.local m f t w e) h = (exp_behind e h.1, h.0.0)
    stmt_behind (statement.eval m e) h = exp_behind e h
    stmt_behind (statement.branch m c s o) h = (exp_behind c h.0, (stmt_behind s h.1, else_behind o h.2))
    stmt_behind (statement.loop m c s) h = (h.0.0, exp_behind c h.1, stmt_behind s h.2)
    stmt_behind (statement.return m v) h = maybe_behind v h
    stmt_behind (statement.block m b) h = stmts_behind b h
    stmt_behind (statement.sync m e b) h = (exp_behind e h.1, (unless_behind lo (X.never_null e) (at_place (X.facts.first m) What.checks) h.0.0, (h.0.0, stmts_behind b h.2, h.0.1)))
    stmt_behind (statement.empty m) h = tt

    else_behind : (o : statement.Else Span) → ElseGood lo o → All (else_way X o)
    else_behind statement.no_else h = tt
    else_behind (statement.otherwise s) h = stmt_behind s h

    stmts_behind : (b : statement.Stmts Span) → StmtsGood lo b → All (stmts_way X b)
    stmts_behind statement.end h = tt
    stmts_behind (statement.more s ss) h = (stmt_behind s h.0, stmts_behind ss h.1)

  pub exp_sites_behind : (e : tree.Exp Span) → ExpGood lo e → AllBehind lo (sites_of (exp_way X e))
  exp_sites_behind e h = sites_behind lo (exp_way X e) (exp_behind e h)

  pub stmts_sites_behind : (b : statement.Stmts Span) → StmtsGood lo b → AllBehind lo (sites_of (stmts_way X b))
  stmts_sites_behind b h = sites_behind lo (stmts_way X b) (stmts_behind b h)
