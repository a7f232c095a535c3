-- Programs of which the second writes to unused locals behind pieces run as the first: by the sets of
-- the law on unused locals, the list that writes more matches the list that doesn't.
use Rattle.std.proofs.Common.{◌≡◌, ℕ, Bool, true, false, not, IsTrue, nat_eq, List, refl, sym, ap, ◌∙◌, subst, ⊎_elim}
use Rattle.std.proofs.lemmas.Bool.{eqb-true, eq-eqb}
use Rattle.jr_plans.specs.Follow.{Sides, AnsweredBoth}
use Rattle.jr_ast.specs.StatementTree as statement
use Rattle.jr_runs.specs.Keys.{Keys}
use Rattle.jr_runs.specs.Values.{Value}
use Rattle.jr_runs.specs.Actions.{Event}
use Rattle.jr_runs.specs.Rows.{Rows}
use Rattle.jr_runs.specs.Arithmetic.{Out}
use Rattle.jr_runs.specs.Core.{Stmts, Code, Method, written, starts, Program}
use Rattle.jr_runs.specs.Evaluation.{Flow, Call, with_local, stmts}
use Rattle.jr_runs.specs.KeyMaps.{Undoes, same_keys}
use Rattle.jr_cover.specs.StatementTranslation.{stmt_code, stmts_code}
use Rattle.jr_runs.specs.Sets.{NumberSet, everything}
use Rattle.jr_runs.specs.Standing.{In, Standing, Stands, Frame, Holding, Shifted, whole}
use Rattle.jr_runs.specs.Images.{NoSpot, StmtsTo, CodeTo, MethodTo, ProgramTo}
use Rattle.jr_runs.specs.Pairs.{FlowRel, Returns, SomeReturns, Pair, Post}
use Rattle.jr_runs.specs.Alike.{AlikeExactly}
use Rattle.jr_runs.proofs.Locals.{not_written, shifted_less}
use Rattle.jr_runs.proofs.Numbers.{in_upto}
use Rattle.jr_runs.proofs.Matching.{Setting, Matches}
use Rattle.jr_runs.proofs.Renaming.{Mapped, mapped_joins, mapped_images}
use Rattle.jr_runs.proofs.ImageStmts.{TurnsAnswered, stmt_match, listed_match}
use Rattle.jr_runs.proofs.Kept.{kept_stmts, kept_turns, kept_match}
use Rattle.jr_runs.proofs.ImagePrograms.{Changes, setting, turns_in, programs_match}
use Rattle.jr_runs.proofs.Halves.{alike, starts_match}
use Rattle.jr_cover.specs.Sites.{Known}
use Rattle.jr_unused_locals.specs.Pieces.{nothing, joined}
use Rattle.jr_unused_locals.specs.CodeAgreement.{StmtsAgree}
use Rattle.jr_unused_locals.specs.Unused.{HoldsNothing, OneSpot, IsUsed, HasSets}
use Rattle.jr_unused_locals.specs.LaterWrites.{WritesBehind, writes_here, writes_later, LaterWrite, AlsoWrites, also_here, also_later, WritesUnused, MethodMayWrite, UnusedLocalsPlayNoPart}
use Rattle.jr_unused_locals.proofs.BySets.{stmt_by, stmts_by, other_spots}
use Rattle.jr_unused_locals.proofs.UnusedSets.{unused_locals_have_sets}

not_so : (d : Bool) → not d ≡ true → d ≡ false
not_so true e = sym e
not_so false e = refl

-- ---- from a piece with sets to a list that writes behind it

module _ {K : Keys} {A : Type 0} (X : Known K A) (R : Rows K) (s : Standing K) (none : HoldsNothing s.code) (x : ℕ) (rest : statement.Stmts A) (D : NumberSet) (free : D x ≡ true) (list_end : NumberSet) (rest_agrees : StmtsAgree (stmts_code X.facts rest) (λ i. not (D i)) list_end) where
  writes_so : {piece : statement.Stmts A} {new_list : Stmts K} → AlsoWrites X R s x rest piece new_list → (before ends : NumberSet) → StmtsAgree (stmts_code X.facts piece) before ends → ((i : ℕ) → D i ≡ false → IsTrue (ends i))
      → WritesBehind R s x before (stmts_code X.facts (joined piece rest)) new_list list_end
  writes_so (also_here p q u w v rest' y) before ends g others =
      writes_here before (λ i. not (D i)) list_end p q u w v (stmts_code X.facts rest) rest' (λ i e. subst (λ (Z : NumberSet). Z i ≡ true) (sym g) (others i (not_so (D i) e))) (ap not free)
      (stmts_by same_keys R (NoSpot {K = K}) s none (stmts_code X.facts rest) rest' y.2 (λ i. not (D i)) list_end rest_agrees)
  writes_so (also_later a a' b b' y h) before ends g others =
      writes_later before g.0 list_end (stmt_code X.facts a) a' (stmts_code X.facts (joined b rest)) b' (stmt_by same_keys R (NoSpot {K = K}) s none (stmt_code X.facts a) a' y.2 before g.0 g.1) (writes_so h g.0 ends g.2 others)

-- ---- the code of one method

module _ {K : Keys} {A : Type 0} (X : Known K A) (R : Rows K) (old new : Code K) (h : WritesUnused X R old new) where
  abbrev S : Standing K
  S = whole h.locals h.at

  nothing_held : HoldsNothing S.code
  nothing_held = record { no_locals = λ e k d. d; no_casts = λ c e k d. d }

  -- the one local that may differ
  abbrev D : NumberSet
  D = λ i. nat_eq h.written_local i

  stays_unused : (i : ℕ) → nat_eq h.written_local i ≡ true → IsUsed X same_keys R S h.piece h.rest h.new_list nothing h.holds i → ⊥
  stays_unused i e = subst (λ k. IsUsed X same_keys R S h.piece h.rest h.new_list nothing h.holds k → ⊥) (eqb-true h.written_local i e) h.unused

  found : HasSets X same_keys R S h.piece h.rest h.new_list h.body new.body D
  found = unused_locals_have_sets X same_keys R S nothing_held h.piece h.rest h.body h.new_list new.body h.holds nothing h.binds h.no_return h.has_sites D stays_unused

  abbrev old_list : Stmts K
  old_list = stmts_code X.facts (joined h.piece h.rest)

  list_writes : WritesBehind R S h.written_local found.before old_list h.new_list found.list_end
  list_writes = writes_so X R S nothing_held h.written_local h.rest D (eq-eqb h.written_local h.written_local refl) found.list_end found.rest_agrees h.writes found.before found.ends found.piece_agrees found.others_end

  allowed : (B : NumberSet) (b b' : Stmts K) (C : NumberSet) → OneSpot found.before old_list h.new_list found.list_end S B b b' C → LaterWrite R S B b b' C
  allowed B b b' C e = (
    h.written_local,
    in_upto h.locals h.written_local h.is_local,
    subst (λ (Z : NumberSet). WritesBehind R S h.written_local Z b b' C) (sym e.0)
        (subst (λ (z : Stmts K). WritesBehind R S h.written_local found.before z b' C) (sym e.1)
        (subst (λ (z : Stmts K). WritesBehind R S h.written_local found.before old_list z C) (sym e.2)
        (subst (λ (Z : NumberSet). WritesBehind R S h.written_local found.before old_list h.new_list Z) (sym e.3) list_writes))),
  )

  code_writes : CodeTo same_keys R (LaterWrite R) old new
  code_writes = record {
    size = h.locals;
    at = h.at;
    injective = h.injective;
    params = h.same_params;
    params_below = h.params_below;
    params_stay = h.params_stay;
    behind = found.end;
    body = subst (λ (z : Stmts K). StmtsTo same_keys R (LaterWrite R) S everything z new.body found.end) (sym h.old_is)
        (other_spots same_keys R (OneSpot found.before old_list h.new_list found.list_end) (LaterWrite R) S allowed (stmts_code X.facts h.body) new.body found.image);
  }

module _ {K : Keys} (R : Rows K) where
  code_kept : (c d : Code K) → CodeTo same_keys R (NoSpot {K = K}) c d → CodeTo same_keys R (LaterWrite R) c d
  code_kept c d h = record {
    size = h.size;
    at = h.at;
    injective = h.injective;
    params = h.params;
    params_below = h.params_below;
    params_stay = h.params_stay;
    behind = h.behind;
    body = kept_stmts same_keys R (LaterWrite R) (whole h.size h.at) c.body d.body h.body;
  }

  method_writes : {A : Type 0} (X : Known K A) (m d : Method K) → MethodMayWrite X R m d → MethodTo same_keys R (LaterWrite R) m d
  method_writes X (written c) (written d) h = ⊎_elim (λ k. code_kept c d k) (λ k. code_writes X R c d k) h
  method_writes X starts starts h = tt
  method_writes X (written c) starts h = absurd h
  method_writes X starts (written d) h = absurd h

-- ---- runs

module _ {K : Keys} (P Q : Program K) (c : Changes same_keys same_keys (LaterWrite P.rows) 0 (Mapped same_keys) P Q) (Z : Sides (Event K) (Call K) (Out (Flow K)) (Call K) (Out (Flow K)))
    (answered : AnsweredBoth 0 (Mapped same_keys) (Pair same_keys P.rows (LaterWrite P.rows)) (Post same_keys P.rows (LaterWrite P.rows)) Z)
    (s : Standing K) (stands : Stands s) (frame : Frame K) (me me' : Value K) (im : Holding P.rows same_keys s.code frame me me') (x : ℕ) (own : In x s.code.mine) where
  abbrev g : Setting K
  g = setting same_keys same_keys (LaterWrite P.rows) 0 (Mapped same_keys) P Q c Z answered

  turns : TurnsAnswered g (LaterWrite P.rows)
  turns = turns_in same_keys same_keys (LaterWrite P.rows) 0 (Mapped same_keys) P Q c Z answered

  -- a write to the new local leaves the others as they are
  after_write : (B : NumberSet) → B x ≡ false → (l l' : List (Value K)) (v : Value K) → Shifted same_keys s frame B l l' → Shifted same_keys s frame B l (with_local l' (s.code.at x) v)
  after_write B free l l' v h = record {
    moved = λ i b a. not_written l' (s.code.at x) (s.code.at i) v (λ e. other i a (stands.injective i x b own e)) ∙ h.moved i b a;
    others = λ j o. not_written l' (s.code.at x) j v (λ e. stands.apart x own (subst (λ k. In k s.others) e o)) ∙ h.others j o;
    known = h.known;
  }
    where
      other : (i : ℕ) → B i ≡ true → i ≡ x → ⊥
      other i a e = no (sym a ∙ ap (λ k. B k) e ∙ free)
        where
          no : true ≡ false → ⊥
          no d = cc

  list_matches : {B : NumberSet} {b b' : Stmts K} {C : NumberSet} → WritesBehind P.rows s x B b b' C → (l l' : List (Value K)) → Shifted same_keys s frame B l l'
      → Matches g (λ y y'. FlowRel same_keys (Shifted same_keys s frame C) (SomeReturns b) y y') (stmts P.rows me b l) (stmts Q.rows me' b' l')
  list_matches (writes_here ends behind C p q u w v rest rest' less free d) l l' h =
      kept_match g (LaterWrite P.rows) turns s stands frame me me' im behind rest rest' C d l (with_local l' (s.code.at x) v) (after_write behind free l l' v (shifted_less same_keys s frame ends behind less l l' h))
  list_matches (writes_later B M C a a' b b' d k) l l' h =
      listed_match g s stands frame me me' im B M C a a' b b' (Returns a) (SomeReturns b)
      (λ m m' i. stmt_match g (NoSpot {K = K}) (kept_turns g (LaterWrite P.rows) turns) (λ t f fr n n' j A1 y y' B1 none. absurd none) s stands frame me me' im B M a a' d m m' i)
      (λ m m' i. list_matches k m m' i) l l' h

same_undoes : {K : Keys} → Undoes (same_keys {K = K}) same_keys
same_undoes = record { class = λ k. refl; field = λ k. refl; method = λ k. refl; constructor = λ k. refl }

runs_alike : {K : Keys} (P Q : Program K) → ProgramTo same_keys (LaterWrite P.rows) P Q → AlikeExactly same_keys P Q
runs_alike {K = K} P Q to =
    let c : Changes same_keys same_keys (LaterWrite P.rows) 0 (Mapped same_keys) P Q = record { there = same_undoes; joins = mapped_joins same_keys; images = mapped_images same_keys; programs = to } in
    alike same_keys same_keys same_undoes 0 (Mapped same_keys) (λ u t. u ≡ t) (λ t u e. e) P Q to.rows.field_kind
    (starts_match same_keys (LaterWrite P.rows) 0 (Mapped same_keys) P Q (programs_match same_keys same_keys (LaterWrite P.rows) 0 (Mapped same_keys) P Q c
    (λ Z tables answered s stands frame me me' im A b b' B d l l' h. list_matches P Q c Z answered s stands frame me me' im d.0 d.1 d.2 l l' h)))

pub unused_locals_play_no_part : {C F M N L A : Type 0} → UnusedLocalsPlayNoPart C F M N L A
unused_locals_play_no_part X P Q rows methods constructors = runs_alike P Q record {
  rows = rows;
  methods = λ m h. method_writes P.rows X (P.method m) (Q.method m) (methods m h);
  constructors = λ k h. code_kept P.rows (P.constructor k) (Q.constructor k) (constructors k h);
}
