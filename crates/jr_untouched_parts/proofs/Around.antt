-- Around the list in which the nearest statement of an expression stands all stays: what comes of the
-- whole has the effect of what becomes of that list.
use Rattle.std.proofs.Common.{◌≡◌, ℕ, ◌+◌, ◌<◌, ◌≤◌, Bool, false, Option, Some, None, refl, sym, subst, inl, inr, arith}
use Rattle.jr_text.specs.declared.spans.Span.{Span}
use Rattle.jr_ast.specs.Tree as tree
use Rattle.jr_ast.specs.StatementTree as statement
use Rattle.jr_table.specs.Binding.{Role, value}
use Rattle.jr_table.specs.Context.{Context, local_of, in_own, with_local, after, locals_in, locals_in_else, locals_in_row}
use Rattle.jr_table.specs.Somewhere.{Somewhere, InStmt, InElse, InStmts}
use Rattle.jr_rewrite.specs.Rewritten.{Rewritten, plain, within, joined}
use Rattle.jr_rewrite.specs.Spots.{level, Spotted}
use Rattle.jr_rewrite.specs.Rewrites.{Choosing, TransformsPart, TransformsStmt, TransformsElse, TransformsStmts, TransformsList}
use Rattle.jr_pieces.specs.Ways.{StmtWay, in_init, in_eval, in_condition, in_then, in_else, in_turning, in_body, in_returned, in_block, in_lock, in_locked, ListWay, first, later}
use Rattle.jr_pieces.specs.Standings.{Standing, inside, behind, in_other}
use Rattle.jr_pieces.specs.Nearest.{Element, or_element, element_within, nearest}
use Rattle.jr_kept_references.specs.StatementsAlong.{ListStays}
use Rattle.jr_untouched_parts.specs.Staying.{HasEffectOf, Beside, GoesDown, MayStay}
use Rattle.jr_untouched_parts.specs.Around.{held, begin, end, IsOutside}
use Rattle.jr_untouched_parts.proofs.Effects.{behind_untouched, before_untouched}
use Rattle.jr_untouched_parts.proofs.TreesStay.{or_list, part_stays, stmt_stays, list_stays, here_after, SoundStmt, SoundStmts}
use Rattle.jr_untouched_parts.proofs.OneWay.{OneStmt, OneList, one_first, one_later, none_behind, none_in_front, one_then, none_else, one_else, none_then, one_body, one_block, one_locked, meets, not_later, not_further_in}
use Rattle.jr_untouched_parts.proofs.Numbers.{among_stmt, among_list}

some_there : {X : Type 0} (x y : X) → Some x ≡ Some y → x ≡ y
some_there x y e = cc

none_there : {X : Type 0} (x : X) → (let none : Option X = None in none ≡ Some x) → ⊥
none_there x e = cc

-- beside the way no statement has one to the expression, and no local has a number of the list's
abbrev pub beside : {A : Type 0} {f : tree.Exp A} → (Context → Type 0) → Element f → Beside A
beside {A} {f} Here x = record {
  Here = λ c. Here c;
  Declares = λ n. IsOutside x n;
  Single = λ s. StmtWay f s → ⊥;
  Lists = λ b. ListWay f b → ⊥;
}

-- places at which no local of the list is in scope
pub record GoesOn {A : Type 0} {f : tree.Exp A} (Here : Context → Type 0) (x : Element f) : Type 0 where
  pub to_own : (c : Context) (n : ℕ) (is_final : Bool) (t : tree.TypeName A) (w : tree.Word A) → Here c → IsOutside x n → Here (in_own c (local_of c n is_final t w))
  pub to_behind : (c : Context) (n : ℕ) (is_final : Bool) (t : tree.TypeName A) (w : tree.Word A) → Here c → IsOutside x n → Here (with_local c (local_of c n is_final t w))

pub goes_down : {A : Type 0} {f : tree.Exp A} (Here : Context → Type 0) (x : Element f) → GoesOn Here x → GoesDown (beside Here x)
goes_down Here x on = record {
  to_own = λ c n f t w h d. on.to_own c n f t w h d;
  to_behind = λ c n f t w h d. on.to_behind c n f t w h d;
  to_then = λ m e x o h d. h (in_then m e x o d);
  to_other = λ m e x y h d. h (in_else m e x y d);
  to_body = λ m e x h d. h (in_body m e x d);
  to_block = λ m b h d. h (in_block m b d);
  to_lock = λ m e b h d. h (in_locked m e b d);
  to_first = λ x xs h d. h (first x xs d);
  to_rest = λ x xs h d. h (later x xs d);
}

module _ {A I : Type 0} (tells : A → ℕ → Span) (C : Choosing A) (S : Spotted A) (OnExp : I → Context → Role → (base : ℕ) → tree.Exp A → Type 0) (OnStmt : I → (number : ℕ) → Context → (base : ℕ) → statement.Stmt A → Type 0)
    (OnList : I → (base : ℕ) → statement.Stmts A → Type 0) {f : tree.Exp A} (Here : Context → Type 0) (x : Element f) (on : GoesOn Here x) (may : MayStay (λ m base. (tells m base).from) C S OnExp OnStmt (beside Here x))
    (lists : (n : ℕ) (c : Context) (base : ℕ) (xs : statement.Stmts A) → Here c → (xs ≡ held x → ⊥) → ListStays S n c base xs) (straight : meets x.way ≡ false) (q : Rewritten (statement.Stmts A))
    (spot : TransformsList tells C S x.at.next x.at.context x.at.base (held x) q) where
  abbrev begins : A → ℕ → ℕ
  begins m base = (tells m base).from

  abbrev K : Beside A
  K = beside Here x

  pub down : GoesDown K
  down = goes_down Here x on

  abbrev Sound : Standing → statement.Stmt A → Type 0
  Sound p s = SoundStmt tells C S OnExp OnStmt OnList K down may p.next p.context p.base s

  abbrev SoundList : Standing → statement.Stmts A → Type 0
  SoundList p b = SoundStmts tells C S OnExp OnStmt OnList K down may p.next p.context p.base b

  -- what comes has the effect of what becomes of the list
  abbrev pub StmtGoes : Standing → statement.Stmt A → Type 0
  StmtGoes p s = (o : Rewritten (statement.Stmt A)) × TransformsStmt tells C S p.next p.context p.base s o × HasEffectOf q o

  abbrev pub ListGoes : Standing → statement.Stmts A → Type 0
  ListGoes p b = (o : Rewritten (statement.Stmts A)) × TransformsList tells C S p.next p.context p.base b o × HasEffectOf q o

  in_front : (from to : ℕ) → to ≤ begin x → (i : ℕ) → from ≤ i → i < to → IsOutside x i
  in_front from to le i a b = inl (omega (arith, le, b))

  further_back : (from to : ℕ) → end x ≤ from → (i : ℕ) → from ≤ i → i < to → IsOutside x i
  further_back from to le i a b = inr (omega (arith, le, a))

  -- a list on the way is rewritten node by node
  on_the_way : (p : Standing) (xs : statement.Stmts A) (o : Rewritten (statement.Stmts A)) → Here p.context → (xs ≡ held x → ⊥) → TransformsStmts tells C S p.next p.context p.base xs o → TransformsList tells C S p.next p.context p.base xs o
  on_the_way p xs o here other t = or_list S p.next p.context p.base xs o (TransformsStmts tells C S p.next p.context p.base xs o) (lists p.next p.context p.base xs here other) t

  condition : (p : Standing) (m : A) (e : tree.Exp A) → Here p.context → ((i : I) → Somewhere begins (λ o b y. OnExp i p.context o b y) value (begins m p.base) e → ⊥)
      → TransformsPart tells C S (level 0) p.context value (begins m p.base) e (plain e)
  condition p m e here = part_stays tells C S OnExp OnStmt OnList K down may p.context here (level 0) value (begins m p.base) e

  -- a statement with a list within declares nothing itself
  here_behind_it : {s : statement.Stmt A} (p : Standing) (d : StmtWay f s) → Here p.context → element_within begins p d ≡ Some x → Here (after p.next p.context s)
  here_behind_it p (in_init m is_final t w e d) here is = absurd (none_there x is)
  here_behind_it p (in_eval m e d) here is = here
  here_behind_it p (in_condition m c s o d) here is = here
  here_behind_it p (in_then m c s o d) here is = here
  here_behind_it p (in_else m c s o d) here is = here
  here_behind_it p (in_turning m c s d) here is = here
  here_behind_it p (in_body m c s d) here is = here
  here_behind_it p (in_returned m e d) here is = here
  here_behind_it p (in_block m b d) here is = here
  here_behind_it p (in_lock m e b d) here is = here
  here_behind_it p (in_locked m e b d) here is = here

  at_first : (p : Standing) (s : statement.Stmt A) (ss : statement.Stmts A) (d : StmtWay f s) → Here p.context → OneList (first s ss d) → SoundList p (statement.more s ss)
      → (element_within begins p d ≡ Some x → StmtGoes p s) → (o : Option (Element f)) → element_within begins p d ≡ o → or_element o (record { at = p; stmt = s; rest = ss; way = d }) ≡ x → ListGoes p (statement.more s ss)
  unfolding TransformsStmts InStmts
  at_first p s ss d here one sound go None is there =
      (q, subst (λ (y : Element f). TransformsList tells C S y.at.next y.at.context y.at.base (statement.more y.stmt y.rest) q) (sym there) spot, refl)
  at_first p s ss d here one sound go (Some y) is there =
      let within_is : element_within begins p d ≡ Some x = subst (λ (z : Element f). element_within begins p d ≡ Some z) there is in
      let r = go within_is in
      let among = among_stmt begins p d x within_is in
      let o = joined (λ u v. statement.more u v) r.0 (plain ss) in
      let next = p.next + locals_in s in
      let here_behind = here_behind_it p d here within_is in
      let rest = list_stays tells C S OnExp OnStmt OnList K down may next (after p.next p.context s) p.base ss here_behind (none_behind d one) (further_back next (next + locals_in_row ss) among.1) (λ i z. sound i (inr z)) in (
        o,
        on_the_way p (statement.more s ss) o here (not_further_in begins x straight s ss p d x within_is one) (r.0, plain ss, r.1, rest, refl),
        before_untouched (λ u v. statement.more u v) r.0 (plain ss) q r.2 refl,
      )

  mutual
    unfolding TransformsStmt TransformsElse TransformsStmts InStmt InElse InStmts locals_in locals_in_else locals_in_row

    pub within_stmt : {s : statement.Stmt A} (p : Standing) (d : StmtWay f s) → Here p.context → OneStmt d → Sound p s → element_within begins p d ≡ Some x → StmtGoes p s
    within_stmt p (in_init m is_final t w e d) here one sound is = absurd (none_there x is)
    within_stmt p (in_eval m e d) here one sound is = absurd (none_there x is)
    within_stmt p (in_condition m c s o d) here one sound is = absurd (none_there x is)
    within_stmt p (in_then m c s statement.no_else d) here one sound is =
        let r = within_stmt (inside begins m p) d here (one_then m c s statement.no_else d one) (λ i z. sound i (inr (inr (inl z)))) is in
        let pair : tree.Exp A → statement.Stmt A → tree.Exp A × statement.Stmt A = (λ u v. (u, v)) in
        let two = joined pair (plain c) r.0 in
        let other : Rewritten (statement.Else A) = plain statement.no_else in (
          joined (λ (u : tree.Exp A × statement.Stmt A) v. statement.branch m u.0 u.1 v) two other,
          (plain c, r.0, other, condition p m c here (λ i z. sound i (inr (inl z))), r.1, refl, refl),
          before_untouched (λ (u : tree.Exp A × statement.Stmt A) v. statement.branch m u.0 u.1 v) two other q (behind_untouched pair (plain c) r.0 q refl r.2) refl,
        )
    within_stmt p (in_then m c s (statement.otherwise y) d) here one sound is =
        let r = within_stmt (inside begins m p) d here (one_then m c s (statement.otherwise y) d one) (λ i z. sound i (inr (inr (inl z)))) is in
        let pair : tree.Exp A → statement.Stmt A → tree.Exp A × statement.Stmt A = (λ u v. (u, v)) in
        let two = joined pair (plain c) r.0 in
        let other : Rewritten (statement.Else A) = plain (statement.otherwise y) in
        let next = p.next + locals_in s in
        let among = among_stmt begins (inside begins m p) d x is in
        let stays = stmt_stays tells C S OnExp OnStmt OnList K down may next p.context (begins m p.base) y here (none_else m c s y d one) (further_back next (next + locals_in y) among.1) (λ i z. sound i (inr (inr (inr z)))) in (
          joined (λ (u : tree.Exp A × statement.Stmt A) v. statement.branch m u.0 u.1 v) two other,
          (plain c, r.0, other, condition p m c here (λ i z. sound i (inr (inl z))), r.1, (plain y, stays, refl), refl),
          before_untouched (λ (u : tree.Exp A × statement.Stmt A) v. statement.branch m u.0 u.1 v) two other q (behind_untouched pair (plain c) r.0 q refl r.2) refl,
        )
    within_stmt p (in_else m c s y d) here one sound is =
        let r = within_stmt (in_other begins m s p) d here (one_else m c s y d one) (λ i z. sound i (inr (inr (inr z)))) is in
        let z = within (λ t. statement.otherwise t) r.0 in
        let two : tree.Exp A × statement.Stmt A = (c, s) in
        let among = among_stmt begins (in_other begins m s p) d x is in
        let stays = stmt_stays tells C S OnExp OnStmt OnList K down may p.next p.context (begins m p.base) s here (none_then m c s y d one) (in_front p.next (p.next + locals_in s) among.0) (λ i h. sound i (inr (inr (inl h)))) in (
          joined (λ (u : tree.Exp A × statement.Stmt A) v. statement.branch m u.0 u.1 v) (plain two) z,
          (plain c, plain s, z, condition p m c here (λ i h. sound i (inr (inl h))), stays, (r.0, r.1, refl), refl),
          behind_untouched (λ (u : tree.Exp A × statement.Stmt A) v. statement.branch m u.0 u.1 v) (plain two) z q refl r.2,
        )
    within_stmt p (in_turning m c s d) here one sound is = absurd (none_there x is)
    within_stmt p (in_body m c s d) here one sound is =
        let r = within_stmt (inside begins m p) d here (one_body m c s d one) (λ i z. sound i (inr (inr z))) is in (
          joined (λ u v. statement.loop m u v) (plain c) r.0,
          (plain c, r.0, condition p m c here (λ i z. sound i (inr (inl z))), r.1, refl),
          behind_untouched (λ u v. statement.loop m u v) (plain c) r.0 q refl r.2,
        )
    within_stmt p (in_returned m e d) here one sound is = absurd (none_there x is)
    within_stmt p (in_block m b d) here one sound is =
        let r = around (inside begins m p) d here (one_block m b d one) (λ i z. sound i (inr (inr z))) (some_there (nearest begins (inside begins m p) d) x is) in
        (within (λ t. statement.block m t) r.0, (r.0, r.1, refl), r.2)
    within_stmt p (in_lock m e b d) here one sound is = absurd (none_there x is)
    within_stmt p (in_locked m e b d) here one sound is =
        let r = around (inside begins m p) d here (one_locked m e b d one) (λ i z. sound i (inr (inr (inr z)))) (some_there (nearest begins (inside begins m p) d) x is) in (
          joined (λ u v. statement.sync m u v) (plain e) r.0,
          (plain e, r.0, condition p m e here (λ i z. sound i (inr (inl z))), r.1, refl),
          behind_untouched (λ u v. statement.sync m u v) (plain e) r.0 q refl r.2,
        )

    pub around : {b : statement.Stmts A} (p : Standing) (way : ListWay f b) → Here p.context → OneList way → SoundList p b → nearest begins p way ≡ x → ListGoes p b
    around p (first s ss d) here one sound there =
        at_first p s ss d here one sound (λ is. within_stmt p d here (one_first d one) (λ i z. sound i (inl z)) is) (element_within begins p d) refl there
    around p (later s ss d) here one sound there =
        let among = subst (λ (y : Element f). ((p.next + locals_in s) ≤ begin y) × (end y ≤ (p.next + locals_in s) + locals_in_row ss)) there (among_list begins (behind begins s p) d) in
        let free = in_front p.next (p.next + locals_in s) among.0 in
        let here_behind = here_after tells C S OnExp OnStmt OnList K down may p.next p.context s here free in
        let r = around (behind begins s p) d here_behind (one_later d one) (λ i z. sound i (inr z)) there in
        let stays = stmt_stays tells C S OnExp OnStmt OnList K down may p.next p.context p.base s here (none_in_front d one) free (λ i z. sound i (inl z)) in
        let o = joined (λ u v. statement.more u v) (plain s) r.0 in
        (o, on_the_way p (statement.more s ss) o here (not_later begins x straight s ss d one) (plain s, r.0, stays, r.1, refl), behind_untouched (λ u v. statement.more u v) (plain s) r.0 q refl r.2)
