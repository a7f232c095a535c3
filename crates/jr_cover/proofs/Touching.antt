-- Which locals code reads and writes, and whether it calls and loops, by the sites of its tree.
use Rattle.std.proofs.Common.{◌≡◌, ℕ, suc, ◌+◌, Bool, true, false, List, [], ◌∷◌, ◌++◌, Option, Some, None, refl, sym, subst, append-nil}
use Rattle.jr_ast.specs.declared.operators.BinOp.{BinOp}
use Rattle.jr_ast.specs.declared.operators.BinOp.TheVariants.{Or, And, Eq, Ne, Lt, Gt, Le, Ge, Add, Sub, Mul, Div, Rem}
use Rattle.jr_ast.specs.Tree as tree
use Rattle.jr_ast.specs.StatementTree as statement
use Rattle.jr_runs.specs.Keys.{Keys}
use Rattle.jr_cover.specs.Facts.{Variable, is_local, is_static_field, is_instance_field, Called, is_static_method, is_instance_method, Created}
use Rattle.jr_runs.specs.Core as core
use Rattle.jr_runs.specs.Core.{Arithmetic, Bump, Exp, Target, Exps, Stmt, Stmts}
use Rattle.jr_runs.specs.Translation.{arithmetic_of, operation, bump_of}
use Rattle.jr_cover.specs.Translation.{named_target, field_target, read_of, assign_of, compound_of, bump_at, call_at, super_call_at, create_at, class_literal_at, cast_at, mark_of_type, exp_code, receiver_code, target_code, exps_code}
use Rattle.jr_cover.specs.StatementTranslation.{declared, declared_else, all_declared, stmt_code, else_code, stmts_code}
use Rattle.jr_cover.specs.Ways.{Way, pass, one, row, fork, leave, turns, inside, size, sites_of}
use Rattle.jr_cover.specs.Sites.{What, reads, writes, loads, stores, enters, exits, creates, checks, calls, loops, Site, Known, unless, is_class_name, load_of, store_of, operands, divisor_check, exp_way, receiver_way, exps_way, operand_way, target_load, target_store, stmt_way, else_way, stmts_way}
use Rattle.jr_cover.specs.Covering.{site_at}
use Rattle.jr_cover.proofs.Parts.{Stands}
use Rattle.jr_cover.proofs.Cover.{stands_in}
use Rattle.jr_cover.proofs.StraightWays.{class_code}

-- whatever the local is
abbrev pub Any : ℕ → Type 0
Any n = Unit {0}

abbrev pub NotOf : (N : ℕ → Bool) → ℕ → Type 0
NotOf N n = N n ≡ false

abbrev pub AllWritten : (ℕ → Type 0) → List ℕ → Type 0
AllWritten Wr [] = Unit {0}
AllWritten Wr (n ∷ ns) = Wr n × AllWritten Wr ns

both_written : (Wr : ℕ → Type 0) (ns ms : List ℕ) → AllWritten Wr ns → AllWritten Wr ms → AllWritten Wr (ns ++ ms)
both_written Wr [] ms a b = b
both_written Wr (n ∷ ns) ms a b = (a.0, both_written Wr ns ms a.1 b)

-- Rd, Wr: what is claimed of the locals that are read and written; Cl, Lp: where something is
-- called or made, and where a loop stands
module _ {K : Keys} (Rd Wr : ℕ → Type 0) (Cl Lp : Type 0) where
  abbrev pub ReadBy : Target K → Type 0
  ReadBy (core.local p n) = Rd n
  ReadBy (core.static_field p f) = Unit {0}
  ReadBy (core.field_of p e f) = Unit {0}

  abbrev pub WrittenBy : Target K → Type 0
  WrittenBy (core.local p n) = Wr n
  WrittenBy (core.static_field p f) = Unit {0}
  WrittenBy (core.field_of p e f) = Unit {0}

  abbrev mutual
    pub Touches : Exp K → Type 0
    Touches (core.literal p v) = Unit {0}
    Touches (core.this p) = Unit {0}
    Touches (core.read p t) = ReadBy t × TargetTouches t
    Touches (core.assign p t e) = WrittenBy t × TargetTouches t × Touches e
    Touches (core.compound p o t e) = ReadBy t × WrittenBy t × TargetTouches t × Touches e
    Touches (core.bump p o t) = ReadBy t × WrittenBy t × TargetTouches t
    Touches (core.signed p o e) = Touches e
    Touches (core.binary p o a b) = Touches a × Touches b
    Touches (core.both p a b) = Touches a × Touches b
    Touches (core.either p a b) = Touches a × Touches b
    Touches (core.cast p c e) = Touches e
    Touches (core.static_call p m es) = Cl × AllTouch es
    Touches (core.instance_call p e m es) = Cl × Touches e × AllTouch es
    Touches (core.super_call p e m es) = Cl × Touches e × AllTouch es
    Touches (core.create p c k es) = Cl × AllTouch es
    Touches (core.super_constructor p e k es) = Cl × Touches e × AllTouch es

    pub TargetTouches : Target K → Type 0
    TargetTouches (core.local p n) = Unit {0}
    TargetTouches (core.static_field p f) = Unit {0}
    TargetTouches (core.field_of p e f) = Touches e

    pub AllTouch : Exps K → Type 0
    AllTouch core.Exps.end = Unit {0}
    AllTouch (core.Exps.more e es) = Touches e × AllTouch es

  abbrev mutual
    pub StmtTouches : Stmt K → Type 0
    StmtTouches (core.declare p n e) = Touches e × Wr n
    StmtTouches (core.eval p e) = Touches e
    StmtTouches (core.branch p c a b) = Touches c × StmtTouches a × StmtTouches b
    StmtTouches (core.loop p c b) = Lp × Touches c × StmtTouches b
    StmtTouches (core.return p e) = Touches e
    StmtTouches (core.return_nothing p) = Unit {0}
    StmtTouches (core.block p ns b) = AllWritten Wr ns × StmtsTouch b
    StmtTouches (core.sync p q e b) = Touches e × StmtsTouch b
    StmtTouches (core.empty p) = Unit {0}

    pub StmtsTouch : Stmts K → Type 0
    StmtsTouch core.Stmts.end = Unit {0}
    StmtsTouch (core.Stmts.more s b) = StmtTouches s × StmtsTouch b

  -- ---- the same of sites

  abbrev pub Sees : What K → Type 0
  Sees (reads n) = Rd n
  Sees (writes n) = Wr n
  Sees (loads f) = Unit {0}
  Sees (stores f) = Unit {0}
  Sees enters = Unit {0}
  Sees exits = Unit {0}
  Sees creates = Unit {0}
  Sees checks = Unit {0}
  Sees calls = Cl
  Sees loops = Lp

  abbrev pub SeesAll : Way (Site K) → Type 0
  SeesAll pass = Unit {0}
  SeesAll (one s) = Sees s.what
  SeesAll (row a b) = SeesAll a × SeesAll b
  SeesAll (fork a b) = SeesAll a × SeesAll b
  SeesAll leave = Unit {0}
  SeesAll (turns s c b) = Sees s.what × SeesAll c × SeesAll b
  SeesAll (inside e b x) = SeesAll b

  abbrev pub ListSees : List (Site K) → Type 0
  ListSees all = (i : ℕ) (s : Site K) → site_at all i ≡ Some s → Sees s.what

  sees_by : (all : List (Site K)) → ListSees all → (w : Way (Site K)) (n : ℕ) → Stands (λ i s. site_at all i ≡ Some s) n w → SeesAll w
  sees_by all h pass n d = tt
  sees_by all h (one s) n d = h n s d
  sees_by all h (row a b) n d = (sees_by all h a n d.0, sees_by all h b (n + size a) d.1)
  sees_by all h (fork a b) n d = (sees_by all h a n d.0, sees_by all h b (n + size a) d.1)
  sees_by all h leave n d = tt
  sees_by all h (turns s c b) n d = (h n s d.0, sees_by all h c (suc n) d.1, sees_by all h b (suc n + size c) d.2)
  sees_by all h (inside e b x) n d = sees_by all h b (suc n) d.1

  pub whole_sees : (w : Way (Site K)) → ListSees (sites_of w) → SeesAll w
  whole_sees w h = sees_by (sites_of w) h w 0 (stands_in (sites_of w) w [] [] 0 refl (sym (append-nil (sites_of w))))

  -- ---- from the sites of a tree to its code

  abbrev MayHold : Option (Target K) → Type 0
  MayHold None = Unit {0}
  MayHold (Some t) = TargetTouches t

  abbrev MayBeRead : Option (Target K) → Type 0
  MayBeRead None = Unit {0}
  MayBeRead (Some t) = ReadBy t

  abbrev MayBeWritten : Option (Target K) → Type 0
  MayBeWritten None = Unit {0}
  MayBeWritten (Some t) = WrittenBy t

  named_holds : (p : K.place) (v : Option (Variable K)) → MayHold (named_target p v)
  named_holds p None = tt
  named_holds p (Some (is_local n)) = tt
  named_holds p (Some (is_static_field f)) = tt
  named_holds p (Some (is_instance_field f)) = tt

  field_holds : (p : K.place) (e : Exp K) (v : Option (Variable K)) → Touches e → MayHold (field_target p e v)
  field_holds p e None c = tt
  field_holds p e (Some (is_local n)) c = tt
  field_holds p e (Some (is_static_field f)) c = tt
  field_holds p e (Some (is_instance_field f)) c = c

  named_read : (p q : K.place) (v : Option (Variable K)) → SeesAll (load_of q v) → MayBeRead (named_target p v)
  named_read p q None h = tt
  named_read p q (Some (is_local n)) h = h
  named_read p q (Some (is_static_field f)) h = tt
  named_read p q (Some (is_instance_field f)) h = tt

  field_read : (p : K.place) (e : Exp K) (v : Option (Variable K)) → MayBeRead (field_target p e v)
  field_read p e None = tt
  field_read p e (Some (is_local n)) = tt
  field_read p e (Some (is_static_field f)) = tt
  field_read p e (Some (is_instance_field f)) = tt

  named_written : (p q : K.place) (v : Option (Variable K)) → SeesAll (store_of q v) → MayBeWritten (named_target p v)
  named_written p q None h = tt
  named_written p q (Some (is_local n)) h = h
  named_written p q (Some (is_static_field f)) h = tt
  named_written p q (Some (is_instance_field f)) h = tt

  field_written : (p : K.place) (e : Exp K) (v : Option (Variable K)) → MayBeWritten (field_target p e v)
  field_written p e None = tt
  field_written p e (Some (is_local n)) = tt
  field_written p e (Some (is_static_field f)) = tt
  field_written p e (Some (is_instance_field f)) = tt

  read_touches : (p : K.place) (t : Option (Target K)) → MayBeRead t → MayHold t → Touches (read_of p t)
  read_touches p None r h = tt
  read_touches p (Some t) r h = (r, h)

  assign_touches : (p : K.place) (t : Option (Target K)) (e : Exp K) → MayBeWritten t → MayHold t → Touches e → Touches (assign_of p t e)
  assign_touches p None e f h c = tt
  assign_touches p (Some t) e f h c = (f, h, c)

  compound_touches : (p : K.place) (o : Option Arithmetic) (t : Option (Target K)) (e : Exp K) → MayBeRead t → MayBeWritten t → MayHold t → Touches e → Touches (compound_of p o t e)
  compound_touches p None t e r f h c = tt
  compound_touches p (Some o) None e r f h c = tt
  compound_touches p (Some o) (Some t) e r f h c = (r, f, h, c)

  bump_touches : (p : K.place) (o : Bump) (t : Option (Target K)) → MayBeRead t → MayBeWritten t → MayHold t → Touches (bump_at p o t)
  bump_touches p o None r f h = tt
  bump_touches p o (Some t) r f h = (r, f, h)

  call_touches : (p : K.place) (e : Exp K) (m : Option (Called K)) (es : Exps K) → Cl → Touches e → AllTouch es → Touches (call_at p e m es)
  call_touches p e None es k c d = tt
  call_touches p e (Some (is_static_method m)) es k c d = (k, d)
  call_touches p e (Some (is_instance_method m)) es k c d = (k, c, d)

  super_call_touches : (p : K.place) (m : Option (Called K)) (es : Exps K) → Cl → AllTouch es → Touches (super_call_at p m es)
  super_call_touches p None es k d = tt
  super_call_touches p (Some (is_static_method m)) es k d = (k, d)
  super_call_touches p (Some (is_instance_method m)) es k d = (k, tt, d)

  create_touches : (p : K.place) (c : Option (Created K)) (es : Exps K) → Cl → AllTouch es → Touches (create_at p c es)
  create_touches p None es k d = tt
  create_touches p (Some c) es k d = (k, d)

  cast_touches : (p : K.place) (b : Bool) (c : Option K.class) (e : Exp K) → Touches e → Touches (cast_at p b c e)
  cast_touches p false c e h = h
  cast_touches p true None e h = tt
  cast_touches p true (Some c) e h = h

  operation_touches : (p : K.place) (op : BinOp) (a b : Exp K) → Touches a → Touches b → Touches (operation p op a b)
  operation_touches p Or a b c d = (c, d)
  operation_touches p And a b c d = (c, d)
  operation_touches p Eq a b c d = (c, d)
  operation_touches p Ne a b c d = (c, d)
  operation_touches p Lt a b c d = (c, d)
  operation_touches p Gt a b c d = (c, d)
  operation_touches p Le a b c d = (c, d)
  operation_touches p Ge a b c d = (c, d)
  operation_touches p Add a b c d = (c, d)
  operation_touches p Sub a b c d = (c, d)
  operation_touches p Mul a b c d = (c, d)
  operation_touches p Div a b c d = (c, d)
  operation_touches p Rem a b c d = (c, d)

  both_seen : (op : BinOp) (a b c : Way (Site K)) → SeesAll (operands op a b c) → SeesAll a × SeesAll b
  both_seen Or a b c h = (h.0, h.1.0)
  both_seen And a b c h = (h.0, h.1.0)
  both_seen Eq a b c h = (h.0, h.1.0)
  both_seen Ne a b c h = (h.0, h.1.0)
  both_seen Lt a b c h = (h.0, h.1.0)
  both_seen Gt a b c h = (h.0, h.1.0)
  both_seen Le a b c h = (h.0, h.1.0)
  both_seen Ge a b c h = (h.0, h.1.0)
  both_seen Add a b c h = (h.0, h.1.0)
  both_seen Sub a b c h = (h.0, h.1.0)
  both_seen Mul a b c h = (h.0, h.1.0)
  both_seen Div a b c h = (h.0, h.1.0)
  both_seen Rem a b c h = (h.0, h.1.0)

  module _ {A : Type 0} (X : Known K A) where
    class_touches : (p : K.place) (c : Option K.class) → Touches (class_literal_at {K = K} p c)
    class_touches p None = tt
    class_touches p (Some c) = tt

    -- what stands in front of a dot: a class is no code
    in_front : (b : Bool) (e : tree.Exp A) → is_class_name X e ≡ b → (SeesAll (exp_way X e) → Touches (exp_code X.facts e)) → SeesAll (unless b (exp_way X e)) → Touches (exp_code X.facts e)
    in_front true e i g h = let d = class_code X e i in subst (λ c. Touches c) (sym d.1) tt
    in_front false e i g h = g h

    mutual
      pub exp_touches : (e : tree.Exp A) → SeesAll (exp_way X e) → Touches (exp_code X.facts e)
      exp_touches (tree.number a n) h = tt
      exp_touches (tree.truth a b) h = tt
      exp_touches (tree.null a) h = tt
      exp_touches (tree.string a s) h = tt
      exp_touches (tree.name a w) h = read_touches (X.facts.first a) (named_target (X.facts.first w.mark) (X.facts.variable w.mark)) (named_read (X.facts.first w.mark) (X.facts.first w.mark) (X.facts.variable w.mark) h)
          (named_holds (X.facts.first w.mark) (X.facts.variable w.mark))
      exp_touches (tree.field a e w) h = read_touches (X.facts.first a) (field_target (X.facts.first w.mark) (exp_code X.facts e) (X.facts.variable w.mark)) (field_read (X.facts.first w.mark) (exp_code X.facts e) (X.facts.variable w.mark))
          (field_holds (X.facts.first w.mark) (exp_code X.facts e) (X.facts.variable w.mark) (in_front (is_class_name X e) e refl (λ g. exp_touches e g) h.0))
      exp_touches (tree.super_field a w) h = read_touches (X.facts.first a) (field_target (X.facts.first w.mark) (core.this None) (X.facts.variable w.mark)) (field_read (X.facts.first w.mark) (core.this None) (X.facts.variable w.mark))
          (field_holds (X.facts.first w.mark) (core.this None) (X.facts.variable w.mark) tt)
      exp_touches (tree.this a) h = tt
      exp_touches (tree.class_literal a t) h = class_touches (X.facts.first a) (X.facts.class (mark_of_type t))
      exp_touches (tree.call a t w es) h = call_touches (X.facts.first w.mark) (receiver_code X.facts t) (X.facts.called w.mark) (exps_code X.facts es) h.1.1.1 (receiver_touches t h.0) (exps_touch es h.1.0)
      exp_touches (tree.super_call a w es) h = super_call_touches (X.facts.first w.mark) (X.facts.called w.mark) (exps_code X.facts es) h.1 (exps_touch es h.0)
      exp_touches (tree.create a t es) h = create_touches (X.facts.first a) (X.facts.created a) (exps_code X.facts es) h.1.1 (exps_touch es h.1.0)
      exp_touches (tree.paren a e) h = exp_touches e h
      exp_touches (tree.cast a t e) h = cast_touches (X.facts.first a) (X.facts.is_checked a) (X.facts.class (mark_of_type t)) (exp_code X.facts e) (exp_touches e h.0)
      exp_touches (tree.unary a op e) h = exp_touches e h
      exp_touches (tree.bump a op t) h = bump_touches (X.facts.first a) (bump_of op) (target_code X.facts t) (target_read t h.1.0) (target_written t h.1.1) (target_touches t h.0)
      exp_touches (tree.binary a op l r) h = let d = both_seen op (exp_way X l) (exp_way X r) (divisor_check X op r) h in
          operation_touches (X.facts.first a) op (exp_code X.facts l) (exp_code X.facts r) (exp_touches l d.0) (exp_touches r d.1)
      exp_touches (tree.assign a t e) h = assign_touches (X.facts.first a) (target_code X.facts t) (exp_code X.facts e) (target_written t h.1.1.1) (target_touches t h.0) (exp_touches e h.1.0)
      exp_touches (tree.compound a op t e) h = compound_touches (X.facts.first a) (arithmetic_of op) (target_code X.facts t) (exp_code X.facts e) (target_read t h.1.0) (target_written t h.1.1.1.1) (target_touches t h.0) (exp_touches e h.1.1.0)

      receiver_touches : (t : tree.Target A) → SeesAll (receiver_way X t) → Touches (receiver_code X.facts t)
      receiver_touches tree.no_target h = tt
      receiver_touches (tree.on e) h = in_front (is_class_name X e) e refl (λ g. exp_touches e g) h

      pub exps_touch : (es : tree.Exps A) → SeesAll (exps_way X es) → AllTouch (exps_code X.facts es)
      exps_touch tree.end h = tt
      exps_touch (tree.more e es) h = (exp_touches e h.0, exps_touch es h.1)

      target_touches : (t : tree.Exp A) → SeesAll (operand_way X t) → MayHold (target_code X.facts t)
      target_touches (tree.name a w) h = named_holds (X.facts.first w.mark) (X.facts.variable w.mark)
      target_touches (tree.field a e w) h = field_holds (X.facts.first w.mark) (exp_code X.facts e) (X.facts.variable w.mark) (in_front (is_class_name X e) e refl (λ g. exp_touches e g) h)
      target_touches (tree.super_field a w) h = field_holds (X.facts.first w.mark) (core.this None) (X.facts.variable w.mark) tt
      target_touches (tree.number a n) h = tt
      target_touches (tree.truth a b) h = tt
      target_touches (tree.null a) h = tt
      target_touches (tree.string a s) h = tt
      target_touches (tree.this a) h = tt
      target_touches (tree.class_literal a t) h = tt
      target_touches (tree.call a t w es) h = tt
      target_touches (tree.super_call a w es) h = tt
      target_touches (tree.create a t es) h = tt
      target_touches (tree.paren a e) h = tt
      target_touches (tree.cast a t e) h = tt
      target_touches (tree.unary a op e) h = tt
      target_touches (tree.bump a op t) h = tt
      target_touches (tree.binary a op l r) h = tt
      target_touches (tree.assign a t e) h = tt
      target_touches (tree.compound a op t e) h = tt

      target_read : (t : tree.Exp A) → SeesAll (target_load X t) → MayBeRead (target_code X.facts t)
      target_read (tree.name a w) h = named_read (X.facts.first w.mark) (X.facts.first w.mark) (X.facts.variable w.mark) h
      target_read (tree.field a e w) h = field_read (X.facts.first w.mark) (exp_code X.facts e) (X.facts.variable w.mark)
      target_read (tree.super_field a w) h = field_read (X.facts.first w.mark) (core.this None) (X.facts.variable w.mark)
      target_read (tree.number a n) h = tt
      target_read (tree.truth a b) h = tt
      target_read (tree.null a) h = tt
      target_read (tree.string a s) h = tt
      target_read (tree.this a) h = tt
      target_read (tree.class_literal a t) h = tt
      target_read (tree.call a t w es) h = tt
      target_read (tree.super_call a w es) h = tt
      target_read (tree.create a t es) h = tt
      target_read (tree.paren a e) h = tt
      target_read (tree.cast a t e) h = tt
      target_read (tree.unary a op e) h = tt
      target_read (tree.bump a op t) h = tt
      target_read (tree.binary a op l r) h = tt
      target_read (tree.assign a t e) h = tt
      target_read (tree.compound a op t e) h = tt

      target_written : (t : tree.Exp A) → SeesAll (target_store X t) → MayBeWritten (target_code X.facts t)
      target_written (tree.name a w) h = named_written (X.facts.first w.mark) (X.facts.first w.mark) (X.facts.variable w.mark) h
      target_written (tree.field a e w) h = field_written (X.facts.first w.mark) (exp_code X.facts e) (X.facts.variable w.mark)
      target_written (tree.super_field a w) h = field_written (X.facts.first w.mark) (core.this None) (X.facts.variable w.mark)
      target_written (tree.number a n) h = tt
      target_written (tree.truth a b) h = tt
      target_written (tree.null a) h = tt
      target_written (tree.string a s) h = tt
      target_written (tree.this a) h = tt
      target_written (tree.class_literal a t) h = tt
      target_written (tree.call a t w es) h = tt
      target_written (tree.super_call a w es) h = tt
      target_written (tree.create a t es) h = tt
      target_written (tree.paren a e) h = tt
      target_written (tree.cast a t e) h = tt
      target_written (tree.unary a op e) h = tt
      target_written (tree.bump a op t) h = tt
      target_written (tree.binary a op l r) h = tt
      target_written (tree.assign a t e) h = tt
      target_written (tree.compound a op t e) h = tt

    -- ---- statements

    mutual
      declared_written : (s : statement.Stmt A) → SeesAll (stmt_way X s) → AllWritten Wr (declared X.facts s)
      declared_written (statement.local a is_final t w e) h = (h.1, tt)
      declared_written (statement.eval a e) h = tt
      declared_written (statement.branch a c s o) h = both_written Wr (declared X.facts s) (declared_else X.facts o) (declared_written s h.1.0) (else_written o h.1.1)
      declared_written (statement.loop a c s) h = declared_written s h.2
      declared_written (statement.return a v) h = tt
      declared_written (statement.block a b) h = all_written b h
      declared_written (statement.sync a e b) h = all_written b h.1.1
      declared_written (statement.empty a) h = tt

      else_written : (o : statement.Else A) → SeesAll (else_way X o) → AllWritten Wr (declared_else X.facts o)
      else_written statement.no_else h = tt
      else_written (statement.otherwise s) h = declared_written s h

      all_written : (b : statement.Stmts A) → SeesAll (stmts_way X b) → AllWritten Wr (all_declared X.facts b)
      all_written statement.end h = tt
      all_written (statement.more s b) h = both_written Wr (declared X.facts s) (all_declared X.facts b) (declared_written s h.0) (all_written b h.1)

    mutual
      stmt_touches : (s : statement.Stmt A) → SeesAll (stmt_way X s) → StmtTouches (stmt_code X.facts s)
      stmt_touches (statement.local a is_final t w e) h = (exp_touches e h.0, h.1)
      stmt_touches (statement.eval a e) h = exp_touches e h
      stmt_touches (statement.branch a c s o) h = (exp_touches c h.0, stmt_touches s h.1.0, else_touches o h.1.1)
      stmt_touches (statement.loop a c s) h = (h.0, exp_touches c h.1, stmt_touches s h.2)
      stmt_touches (statement.return a None) h = tt
      stmt_touches (statement.return a (Some e)) h = exp_touches e h.0
      stmt_touches (statement.block a b) h = (all_written b h, stmts_touch b h)
      stmt_touches (statement.sync a e b) h = (exp_touches e h.0, stmts_touch b h.1.1)
      stmt_touches (statement.empty a) h = tt

      else_touches : (o : statement.Else A) → SeesAll (else_way X o) → StmtTouches (else_code X.facts o)
      else_touches statement.no_else h = tt
      else_touches (statement.otherwise s) h = stmt_touches s h

      pub stmts_touch : (b : statement.Stmts A) → SeesAll (stmts_way X b) → StmtsTouch (stmts_code X.facts b)
      stmts_touch statement.end h = tt
      stmts_touch (statement.more s b) h = (stmt_touches s h.0, stmts_touch b h.1)

    -- ---- from the lists of sites

    pub exp_by_sites : (e : tree.Exp A) → ListSees (sites_of (exp_way X e)) → Touches (exp_code X.facts e)
    exp_by_sites e h = exp_touches e (whole_sees (exp_way X e) h)

    pub exps_by_sites : (es : tree.Exps A) → ListSees (sites_of (exps_way X es)) → AllTouch (exps_code X.facts es)
    exps_by_sites es h = exps_touch es (whole_sees (exps_way X es) h)

    pub stmts_by_sites : (b : statement.Stmts A) → ListSees (sites_of (stmts_way X b)) → StmtsTouch (stmts_code X.facts b)
    stmts_by_sites b h = stmts_touch b (whole_sees (stmts_way X b) h)
