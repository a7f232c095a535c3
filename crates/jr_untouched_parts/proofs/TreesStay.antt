-- Expressions and statements in which each word may stay are rewritten to themselves, without an effect.
use Rattle.std.proofs.Common.{◌≡◌, ℕ, ◌+◌, ◌<◌, ◌≤◌, Some, None, refl, inl, inr, arith}
use Rattle.std.specs.Prelude.{Option, suc}
use Rattle.jr_text.specs.declared.spans.Span.{Span}
use Rattle.jr_ast.specs.Tree as tree
use Rattle.jr_ast.specs.StatementTree as statement
use Rattle.jr_grammar.specs.Shape.{unsigned_level, sign_level, rank_of}
use Rattle.jr_table.specs.Binding.{Role, value, left}
use Rattle.jr_table.specs.Binding as role
use Rattle.jr_table.specs.Context.{Context, local_of, in_own, after, locals_in, locals_in_else, locals_in_row}
use Rattle.jr_table.specs.Somewhere.{Somewhere, InTarget, InRow, InStmt, InElse, InStmts}
use Rattle.jr_rewrite.specs.Respellings.{Choice, stays, front_of}
use Rattle.jr_rewrite.specs.Rewritten.{Rewritten, plain, simple_call_out, dotted_call_out}
use Rattle.jr_rewrite.specs.Spots.{Asks, level, a_target, a_statement, operand_asks, Spotted, nowhere, spotted, OrThis, OrPart, OrList}
use Rattle.jr_rewrite.specs.Rewrites.{Choosing, TypeOut, RewritesType, TransformsExp, TransformsTarget, TransformsRow, TransformsPart, TransformsMaybe, TransformsStmt, TransformsElse, TransformsStmts, TransformsList}
use Rattle.jr_kept_references.specs.StatementsAlong.{ListStays}
use Rattle.jr_untouched_parts.specs.Staying.{TypeMayStay, WrittenMayStay, PartStays, ThisStays, Beside, GoesDown, MayStay}

-- ---- node by node

pub or_this : {A : Type 0} (S : Spotted A) (N : Type 0) → ThisStays S → N → OrThis S N
or_this nowhere N h n = n
or_this (spotted s) N h n = (h, n)

pub or_part : {A : Type 0} (S : Spotted A) (k : Asks) (c : Context) (r : Role) (base : ℕ) (e : tree.Exp A) (o : Rewritten (tree.Exp A)) (N : Type 0) → PartStays S k c r base e → N → OrPart S k c r base e o N
or_part nowhere k c r base e o N h n = n
or_part (spotted s) k c r base e o N h n = inl (h, n)

pub or_list : {A : Type 0} (S : Spotted A) (n : ℕ) (c : Context) (base : ℕ) (xs : statement.Stmts A) (o : Rewritten (statement.Stmts A)) (N : Type 0) → ListStays S n c base xs → N → OrList S n c base xs o N
or_list nowhere n c base xs o N h x = x
or_list (spotted s) n c base xs o N h x = inl (h, x)

-- a written type
pub type_stays : {A : Type 0} (tells : A → ℕ → Span) (C : Choosing A) (Qualifier Name : Choice → Type 0) (base : ℕ) (t : tree.TypeName A) → TypeMayStay Qualifier Name t → TypeOut tells C Qualifier Name base t (plain t)
type_stays tells C Q N base (tree.int m) h = refl
type_stays tells C Q N base (tree.boolean m) h = refl
type_stays tells C Q N base (tree.named m None w) h = (stays, h, refl)
type_stays tells C Q N base (tree.named m (Some v) w) h = (stays, stays, h.0, h.1, refl)

module _ {A I : Type 0} (tells : A → ℕ → Span) (C : Choosing A) (S : Spotted A) (OnExp : I → Context → Role → (base : ℕ) → tree.Exp A → Type 0) (OnStmt : I → (number : ℕ) → Context → (base : ℕ) → statement.Stmt A → Type 0)
    (OnList : I → (base : ℕ) → statement.Stmts A → Type 0) (K : Beside A) (down : GoesDown K) (may : MayStay (λ m base. (tells m base).from) C S OnExp OnStmt K) where
  abbrev begins : A → ℕ → ℕ
  begins m base = (tells m base).from

  -- ---- expressions

  module _ (c : Context) (here : K.Here c) where
    -- nothing is broken in it
    abbrev pub SoundExp : Role → (base : ℕ) → tree.Exp A → Type 0
    SoundExp r base e = (i : I) → Somewhere begins (λ o b x. OnExp i c o b x) r base e → ⊥

    abbrev pub SoundRow : (at : ℕ) → tree.Exps A → Type 0
    SoundRow at es = (i : I) → InRow begins (λ o b x. OnExp i c o b x) at es → ⊥

    written : (base : ℕ) (t : tree.TypeName A) → WrittenMayStay begins C c base t → RewritesType tells C c base t (plain t)
    written base t h = type_stays tells C (C.qualifier c base t) (C.type c base t) base t h

    part : (k : Asks) (r : Role) (base : ℕ) (e : tree.Exp A) → TransformsExp tells C S c r base e (plain e) → TransformsPart tells C S k c r base e (plain e)
    part k r base e x = or_part S k c r base e (plain e) (TransformsExp tells C S c r base e (plain e)) (may.part k c r base e here) x

    mutual
      unfolding TransformsExp TransformsTarget TransformsRow Somewhere InTarget InRow

      pub exp_stays : (r : Role) (base : ℕ) (e : tree.Exp A) → SoundExp r base e → TransformsExp tells C S c r base e (plain e)
      exp_stays r base (tree.number m n) sound = refl
      exp_stays r base (tree.truth m b) sound = refl
      exp_stays r base (tree.null m) sound = refl
      exp_stays r base (tree.string m s) sound = refl
      exp_stays r base (tree.this m) sound = or_this S _ may.this refl
      exp_stays r base (tree.name m w) sound = (stays, may.own_words c r base (tree.name m w) here (λ i z. sound i z), refl)
      exp_stays r base (tree.field m e w) sound = (
        stays,
        plain e,
        may.own_words c r base (tree.field m e w) here (λ i z. sound i (inl z)),
        part (operand_asks (front_of stays)) left (begins m base) e (exp_stays left (begins m base) e (λ i z. sound i (inr z))),
        refl,
      )
      exp_stays r base (tree.super_field m w) sound = (stays, may.own_words c r base (tree.super_field m w) here (λ i z. sound i z), refl)
      exp_stays r base (tree.class_literal m t) sound = (plain t, written (begins m base) t (may.own_words c r base (tree.class_literal m t) here (λ i z. sound i z)), refl)
      exp_stays r base (tree.call m tree.no_target w args) sound = (
        stays,
        simple_call_out tells stays m base w,
        plain args,
        may.own_words c r base (tree.call m tree.no_target w args) here (λ i z. sound i (inl z)),
        refl,
        row_stays (begins m base) args (λ i z. sound i (inr (inr z))),
        refl,
      )
      exp_stays r base (tree.call m (tree.on e) w args) sound = (
        stays,
        dotted_call_out tells stays m base e (plain e) w,
        plain args,
        may.own_words c r base (tree.call m (tree.on e) w args) here (λ i z. sound i (inl z)),
        (plain e, part (operand_asks (front_of stays)) left (begins m base) e (exp_stays left (begins m base) e (λ i z. sound i (inr (inl z)))), refl),
        row_stays (begins m base) args (λ i z. sound i (inr (inr z))),
        refl,
      )
      exp_stays r base (tree.super_call m w args) sound =
          (stays, plain args, may.own_words c r base (tree.super_call m w args) here (λ i z. sound i (inl z)), row_stays (begins m base) args (λ i z. sound i (inr z)), refl)
      exp_stays r base (tree.create m t args) sound =
          let own = may.own_words c r base (tree.create m t args) here (λ i z. sound i (inl z)) in
          (stays, plain t, plain args, own.0, written (begins m base) t own.1, row_stays (begins m base) args (λ i z. sound i (inr z)), refl)
      exp_stays r base (tree.paren m e) sound = (plain e, part (level 0) value (begins m base) e (exp_stays value (begins m base) e (λ i z. sound i (inr z))), refl)
      exp_stays r base (tree.cast m t e) sound = (
        plain t,
        plain e,
        written (begins m base) t (may.own_words c r base (tree.cast m t e) here (λ i z. sound i (inl z))),
        part (level unsigned_level) value (begins m base) e (exp_stays value (begins m base) e (λ i z. sound i (inr z))),
        refl,
      )
      exp_stays r base (tree.unary m op e) sound = (plain e, part (level sign_level) value (begins m base) e (exp_stays value (begins m base) e (λ i z. sound i (inr z))), refl)
      exp_stays r base (tree.bump m op e) sound = (plain e, part a_target value (begins m base) e (exp_stays value (begins m base) e (λ i z. sound i (inr z))), refl)
      exp_stays r base (tree.binary m op x y) sound = (
        plain x,
        plain y,
        part (level (rank_of op)) value (begins m base) x (exp_stays value (begins m base) x (λ i z. sound i (inr (inl z)))),
        part (level (suc (rank_of op))) value (begins m base) y (exp_stays value (begins m base) y (λ i z. sound i (inr (inr z)))),
        refl,
      )
      exp_stays r base (tree.assign m x y) sound = (
        plain x,
        plain y,
        part a_target value (begins m base) x (exp_stays value (begins m base) x (λ i z. sound i (inr (inl z)))),
        part (level 0) value (begins m base) y (exp_stays value (begins m base) y (λ i z. sound i (inr (inr z)))),
        refl,
      )
      exp_stays r base (tree.compound m op x y) sound = (
        plain x,
        plain y,
        part a_target value (begins m base) x (exp_stays value (begins m base) x (λ i z. sound i (inr (inl z)))),
        part (level 0) value (begins m base) y (exp_stays value (begins m base) y (λ i z. sound i (inr (inr z)))),
        refl,
      )

      pub row_stays : (at : ℕ) (es : tree.Exps A) → SoundRow at es → TransformsRow tells C S c at es (plain es)
      row_stays at tree.end sound = refl
      row_stays at (tree.more e es) sound =
          (plain e, plain es, part (level 0) value at e (exp_stays value at e (λ i z. sound i (inl z))), row_stays at es (λ i z. sound i (inr z)), refl)

    pub part_stays : (k : Asks) (r : Role) (base : ℕ) (e : tree.Exp A) → SoundExp r base e → TransformsPart tells C S k c r base e (plain e)
    part_stays k r base e sound = part k r base e (exp_stays r base e sound)

    -- nothing is broken in it, if there is one
    abbrev pub SoundMaybe : (at : ℕ) → Option (tree.Exp A) → Type 0
    SoundMaybe at None = Unit {0}
    SoundMaybe at (Some e) = SoundExp value at e

    pub maybe_stays : (at : ℕ) (e : Option (tree.Exp A)) → SoundMaybe at e → TransformsMaybe tells C S c at e (plain e)
    maybe_stays at None sound = refl
    maybe_stays at (Some e) sound = (plain e, part_stays (level 0) value at e sound, refl)

  -- ---- statements

  abbrev pub SoundStmt : (number : ℕ) → Context → (base : ℕ) → statement.Stmt A → Type 0
  SoundStmt n c base s = (i : I) → InStmt begins (λ d o b x. OnExp i d o b x) (λ j d b x. OnStmt i j d b x) (λ b xs. OnList i b xs) n c base s → ⊥

  abbrev pub SoundStmts : (number : ℕ) → Context → (base : ℕ) → statement.Stmts A → Type 0
  SoundStmts n c base xs = (i : I) → InStmts begins (λ d o b x. OnExp i d o b x) (λ j d b x. OnStmt i j d b x) (λ b ys. OnList i b ys) n c base xs → ⊥

  -- locals of the numbers from the one on, in front of the other, may be declared
  abbrev pub Between : ℕ → ℕ → Type 0
  Between from to = (i : ℕ) → from ≤ i → i < to → K.Declares i

  pub here_after : (n : ℕ) (c : Context) (x : statement.Stmt A) → K.Here c → Between n (n + locals_in x) → K.Here (after n c x)
  unfolding locals_in locals_in_else locals_in_row
  here_after n c (statement.local m f t w e) here free = down.to_behind c n f t w here (free n (omega arith) (omega arith))
  here_after n c (statement.eval m e) here free = here
  here_after n c (statement.branch m e x o) here free = here
  here_after n c (statement.loop m e x) here free = here
  here_after n c (statement.return m e) here free = here
  here_after n c (statement.block m b) here free = here
  here_after n c (statement.sync m e b) here free = here
  here_after n c (statement.empty m) here free = here

  in_list : (n : ℕ) (c : Context) (base : ℕ) (xs : statement.Stmts A) → K.Here c → K.Lists xs → TransformsStmts tells C S n c base xs (plain xs) → TransformsList tells C S n c base xs (plain xs)
  in_list n c base xs here held x = or_list S n c base xs (plain xs) (TransformsStmts tells C S n c base xs (plain xs)) (may.list n c base xs here held) x

  mutual
    unfolding TransformsStmt TransformsElse TransformsStmts InStmt InElse InStmts locals_in locals_in_else locals_in_row

    pub stmt_stays : (n : ℕ) (c : Context) (base : ℕ) (s : statement.Stmt A) → K.Here c → K.Single s → Between n (n + locals_in s) → SoundStmt n c base s → TransformsStmt tells C S n c base s (plain s)
    stmt_stays n c base (statement.local m f t w e) here held free sound =
        let own = free n (omega arith) (omega arith) in (
          plain t,
          plain w,
          plain e,
          written c here (begins m base) t (may.written n c base m f t w e here (λ i z. sound i (inl z))),
          (stays, may.declared c n w here own, refl),
          part_stays (in_own c (local_of c n f t w)) (down.to_own c n f t w here own) (level 0) value (begins m base) e (λ i z. sound i (inr z)),
          refl,
        )
    stmt_stays n c base (statement.eval m e) here held free sound = (plain e, part_stays c here a_statement role.statement (begins m base) e (λ i z. sound i (inr z)), refl)
    stmt_stays n c base (statement.branch m e x statement.no_else) here held free sound = (
      plain e,
      plain x,
      plain statement.no_else,
      part_stays c here (level 0) value (begins m base) e (λ i z. sound i (inr (inl z))),
      stmt_stays n c (begins m base) x here (down.to_then m e x statement.no_else held) (λ i a b. free i a (omega (arith, b))) (λ i z. sound i (inr (inr (inl z)))),
      refl,
      refl,
    )
    stmt_stays n c base (statement.branch m e x (statement.otherwise y)) here held free sound = (
      plain e,
      plain x,
      plain (statement.otherwise y),
      part_stays c here (level 0) value (begins m base) e (λ i z. sound i (inr (inl z))),
      stmt_stays n c (begins m base) x here (down.to_then m e x (statement.otherwise y) held) (λ i a b. free i a (omega (arith, b))) (λ i z. sound i (inr (inr (inl z)))),
      (plain y, stmt_stays (n + locals_in x) c (begins m base) y here (down.to_other m e x y held) (λ i a b. free i (omega (arith, a)) (omega (arith, b))) (λ i z. sound i (inr (inr (inr z)))), refl),
      refl,
    )
    stmt_stays n c base (statement.loop m e x) here held free sound = (
      plain e,
      plain x,
      part_stays c here (level 0) value (begins m base) e (λ i z. sound i (inr (inl z))),
      stmt_stays n c (begins m base) x here (down.to_body m e x held) free (λ i z. sound i (inr (inr z))),
      refl,
    )
    stmt_stays n c base (statement.return m None) here held free sound = (plain None, refl, refl)
    stmt_stays n c base (statement.return m (Some e)) here held free sound = (plain (Some e), (plain e, part_stays c here (level 0) value (begins m base) e (λ i z. sound i (inr z)), refl), refl)
    stmt_stays n c base (statement.block m b) here held free sound =
        let inner = down.to_block m b held in
        (plain b, in_list n c (begins m base) b here inner (stmts_stay n c (begins m base) b here inner free (λ i z. sound i (inr (inr z)))), refl)
    stmt_stays n c base (statement.sync m e b) here held free sound =
        let inner = down.to_lock m e b held in (
          plain e,
          plain b,
          part_stays c here (level 0) value (begins m base) e (λ i z. sound i (inr (inl z))),
          in_list n c (begins m base) b here inner (stmts_stay n c (begins m base) b here inner free (λ i z. sound i (inr (inr (inr z))))),
          refl,
        )
    stmt_stays n c base (statement.empty m) here held free sound = refl

    pub stmts_stay : (n : ℕ) (c : Context) (base : ℕ) (xs : statement.Stmts A) → K.Here c → K.Lists xs → Between n (n + locals_in_row xs) → SoundStmts n c base xs → TransformsStmts tells C S n c base xs (plain xs)
    stmts_stay n c base statement.end here held free sound = refl
    stmts_stay n c base (statement.more x xs) here held free sound =
        let behind = here_after n c x here (λ i a b. free i a (omega (arith, b))) in
        let inner = down.to_rest x xs held in (
          plain x,
          plain xs,
          stmt_stays n c base x here (down.to_first x xs held) (λ i a b. free i a (omega (arith, b))) (λ i z. sound i (inl z)),
          in_list (n + locals_in x) (after n c x) base xs behind inner (stmts_stay (n + locals_in x) (after n c x) base xs behind inner (λ i a b. free i (omega (arith, a)) (omega (arith, b))) (λ i z. sound i (inr z))),
          refl,
        )

  pub list_stays : (n : ℕ) (c : Context) (base : ℕ) (xs : statement.Stmts A) → K.Here c → K.Lists xs → Between n (n + locals_in_row xs) → SoundStmts n c base xs → TransformsList tells C S n c base xs (plain xs)
  list_stays n c base xs here held free sound = in_list n c base xs here held (stmts_stay n c base xs here held free sound)
