-- Where a refactoring leaves all but one list, what becomes of that list becomes of the program.
use Rattle.std.proofs.Common.{◌≡◌, ◌⊎◌, ℕ, zero, suc, ◌+◌, ◌<◌, List, [], ◌∷◌, ◌++◌, Option, Some, None, Bool, true, false, length, refl, sym, ap, subst, ◌∙◌, inl, inr, arith}
use Rattle.std.specs.Prelude.{slice_get, nat_eq}
use Rattle.std.proofs.lemmas.List.{length-map}
use Rattle.std.proofs.lemmas.Bool.{eq-eqb, eqb-true, both_ways}
use Rattle.jr_text.specs.declared.spans.Span.{Span}
use Rattle.jr_ast.specs.Tree as tree
use Rattle.jr_ast.specs.StatementTree as statement
use Rattle.jr_ast.specs.MemberTree as syntax
use Rattle.jr_grammar.specs.Layout.{itself}
use Rattle.jr_table.specs.Prelude.{top_key}
use Rattle.jr_table.specs.Decls.{MemberKey, head, local_decl}
use Rattle.jr_table.specs.DeclaredItems.{declarations_of}
use Rattle.jr_table.specs.LookupLaws.{KeysFound}
use Rattle.jr_table.specs.BindingLaws.{AreBound}
use Rattle.jr_table.specs.Context.{Context, local_key}
use Rattle.jr_table.specs.Binding.{Role}
use Rattle.jr_table.specs.Somewhere.{InStmts}
use Rattle.jr_table.specs.HeadRules.{plain as no_locals, is_static_member}
use Rattle.jr_table.specs.Errors.{Part, class_part, member_part, Breaks, Error}
use Rattle.jr_members.specs.WrittenMembers.{WrittenMember, written_members}
use Rattle.jr_members.specs.WrittenLaws.{MembersAreWritten}
use Rattle.jr_bind.specs.Bounds.{Bound}
use Rattle.jr_bind.specs.Programs.{File, Program, IsProgram, units_of}
use Rattle.jr_program_laws.specs.FoundTypes.{DeclaresFound}
use Rattle.jr_rewrite.specs.Rewritten.{Rewritten}
use Rattle.jr_rewrite.specs.Edited.{entries_of}
use Rattle.jr_rewrite.specs.Spots.{Asks, Spotted}
use Rattle.jr_rewrite.specs.Rewrites.{Choosing, TransformsList}
use Rattle.jr_images.specs.TextLaws.{RowsAreNamed}
use Rattle.jr_kept_references.specs.StatementsAlong.{ListStays}
use Rattle.jr_new_bodies.specs.Effects.{Effect, no_effect, effect_of}
use Rattle.jr_new_files.specs.PartLaws.{WrittenAreSound, HasHeadKey, IsSoundMember}
use Rattle.jr_new_files.proofs.Ordered.{members_in_order}
use Rattle.jr_told_ways.specs.Told.{OneWayHasASpan}
use Rattle.jr_local_search.proofs.Paths.{list_ends}
use Rattle.jr_plan.specs.Transforms.{Lost, Transform, kept_lost}
use Rattle.jr_bodies.specs.Bodies.{begins, Body, body_of}
use Rattle.jr_bodies.specs.BodyLaws.{BodiesAreNested}
use Rattle.jr_local_texts.proofs.KeptNames.{rows_undotted}
use Rattle.jr_local_texts.proofs.StandingBodies.{contains_at}
use Rattle.jr_untouched_parts.specs.Sights.{SeesTheSame}
use Rattle.jr_untouched_parts.specs.Staying.{HasEffectOf, PartStays, ThisStays, Beside, GoesDown, MayStay}
use Rattle.jr_untouched_parts.specs.Around.{Place, element, held, IsOutside, Avoids, LeavesRest, ListBecomes, IsWhole}
use Rattle.jr_untouched_parts.proofs.SoundWords.{Keeps, BrokenExp, BrokenStmt, BrokenList, itself_stays, local_type_stays, declared_stays}
use Rattle.jr_untouched_parts.proofs.MembersStay.{C, at_super, PartGoes, SoundMember, method_with, ctor_with, member_stays, class_stays, by_key}
use Rattle.jr_untouched_parts.proofs.OneWay.{OneList, meets, nearest_straight, not_beside}
use Rattle.jr_untouched_parts.proofs.Numbers.{among_list, nearest_member}
use Rattle.jr_untouched_parts.proofs.Around.{beside, GoesOn, goes_down, around}
use Rattle.jr_untouched_parts.proofs.Places.{each_there, Here, here_own, here_behind, here_plain, here_parameters}
use Rattle.jr_untouched_parts.proofs.WrittenOnce.{written_once}
use Rattle.jr_untouched_parts.proofs.FilesStay.{NoWholeSpot, IsLeft, IsOne, AllLeft, OneGoes, files_go}
use Rattle.jr_untouched_parts.proofs.SameKeys.{dispatch_stays, no_pairs}
use Rattle.jr_untouched_parts.proofs.OneFile.{respelled_there, lost_there, edits_there, as_many}

-- what the law stands on
pub record Laws : Type 0 where
  pub written : MembersAreWritten Span
  pub sound : WrittenAreSound
  pub keys : KeysFound
  pub bound : AreBound Span
  pub named : RowsAreNamed Span
  pub nested : BodiesAreNested
  pub ways : OneWayHasASpan Span

same_body : (a b : Body) → (let o : Option Body = Some a in o ≡ Some b) → a ≡ b
same_body a b e = cc

no_body : (b : Body) → (let none : Option Body = None in none ≡ Some b) → ⊥
no_body b e = cc

same_or_not : (m n : ℕ) → (m ≡ n) ⊎ (m ≡ n → ⊥)
same_or_not m n = by (nat_eq m n) refl
  where
    by : (b : Bool) → nat_eq m n ≡ b → (m ≡ n) ⊎ (m ≡ n → ⊥)
    by true e = inl (eqb-true m n e)
    by false e = inr (λ h. both_ways (nat_eq m n) e (eq-eqb m n h))

same_written : (v w : WrittenMember Span) → Some v ≡ Some w → v ≡ w
same_written v w e = cc

module _ (laws : Laws) (p : Program Span) (program : IsProgram itself (λ m b. Unit {0}) p) (t : Transform) (file : ℕ) (x : Place p file) (leaves : LeavesRest t x) where
  keeps : Keeps Span p.rows t.region
  keeps = record {
    are = program.are_rows;
    found = laws.keys p.rows program.are_rows;
    bound = λ c. laws.bound p.rows program.are_rows (laws.keys p.rows program.are_rows) c;
    dots = rows_undotted laws.named p program;
    keys = leaves.keys;
  }

  abbrev choices : Choosing Span
  choices = C p.rows p.super_at t.region keeps

  abbrev body : Body
  body = x.body

  -- ---- places

  -- of a member, where no local of the list is in scope
  abbrev There : MemberKey → Context → Type 0
  There k c = Here (Avoids x) k c

  sees_there : (k : MemberKey) (c : Context) → There k c → SeesTheSame t.region c
  sees_there k c h = leaves.sees c (λ i l e. each_there (Avoids x) c.locals h.1 i l e)

  top_sees : (o : List ℕ) → SeesTheSame t.region (no_locals (head (top_key o)) false)
  top_sees o = sees_there (head (top_key o)) (no_locals (head (top_key o)) false) (here_plain (Avoids x) (head (top_key o)) false)

  -- ---- members that are others

  module _ (w : WrittenMember Span) (has : IsSoundMember p w) where
    sound_member : (y : syntax.Member Span) → w.part ≡ member_part y → SoundMember p.rows p.super_at t.region keeps w.key w.base y
    sound_member y is = by_key p.rows p.super_at t.region keeps w.key w.base y (λ at r h. has.sound at r (subst (λ (q : Part Span). Breaks begins p.rows (p.super_at w.key) w.key w.base q at r) (sym is) h))

    module _ (S : Spotted Span) (parts : (k : Asks) (c : Context) (r : Role) (base : ℕ) (e : tree.Exp Span) → PartStays S k c r base e) (this : ThisStays S) (apart : w.key ≡ body.key → ⊥)
        (lists : (n : ℕ) (c : Context) (base : ℕ) (xs : statement.Stmts Span) → c.member ≡ w.key → ListStays S n c base xs) where
      abbrev away : Beside Span
      away = record { Here = λ c. There w.key c; Declares = λ n. Unit {0}; Single = λ s. Unit {0}; Lists = λ b. Unit {0} }

      good : (n : ℕ) → Avoids x (record { member = w.key; number = n })
      good n e = absurd (apart e)

      away_down : GoesDown away
      away_down = record {
        to_own = λ c n f u v h d. here_own (Avoids x) w.key c n f u v h (good n);
        to_behind = λ c n f u v h d. here_behind (Avoids x) w.key c n f u v h (good n);
        to_then = λ m e s o h. tt;
        to_other = λ m e s y h. tt;
        to_body = λ m e s h. tt;
        to_block = λ m b h. tt;
        to_lock = λ m e b h. tt;
        to_first = λ s ss h. tt;
        to_rest = λ s ss h. tt;
      }

      away_stays : MayStay begins choices S (BrokenExp begins p.rows (at_super p.rows p.super_at t.region keeps)) (BrokenStmt begins p.rows (at_super p.rows p.super_at t.region keeps)) away
      away_stays = record {
        own_words = λ c r base e h sound. itself_stays begins p.rows (at_super p.rows p.super_at t.region keeps) t.region keeps c (sees_there w.key c h) r base e sound;
        written = λ n c base m f u v e h sound. local_type_stays begins p.rows (at_super p.rows p.super_at t.region keeps) t.region keeps c (sees_there w.key c h) n base m f u v e sound;
        declared = λ c n v h d. declared_stays begins p.rows (at_super p.rows p.super_at t.region keeps) t.region keeps (local_decl (local_key c n)) v;
        part = λ k c r base e h. parts k c r base e;
        list = λ n c base xs h l. lists n c base xs h.0;
        this = this;
      }

      other_stays : PartGoes choices S w.key w.base w.part no_effect
      other_stays = by w.part refl
        where
          by : (q : Part Span) → w.part ≡ q → PartGoes choices S w.key w.base q no_effect
          by (class_part c) is =
              class_stays p.rows p.super_at t.region keeps top_sees S w.key w.base c (subst (λ (q : Part Span). HasHeadKey w.key q) is has.keyed)
              (λ at r h. has.sound at r (subst (λ (q : Part Span). Breaks begins p.rows (p.super_at w.key) w.key w.base q at r) (sym is) h)) (subst (λ (q : Part Span). DeclaresFound p.rows w.key q) is has.found)
          by (member_part y) is =
              member_stays p.rows p.super_at t.region keeps S w.key away away_down away_stays (sees_there w.key) (λ b. here_plain (Avoids x) w.key b) (λ n. tt) (λ b. tt)
              (λ b ps. here_parameters (Avoids x) w.key b ps (λ i h. good i)) w.base y (sound_member y is) (subst (λ (q : Part Span). DeclaresFound p.rows w.key q) is has.found)

  -- ---- the body's member

  abbrev S : Spotted Span
  S = t.spots file

  straight : meets (element x).way ≡ false
  straight = nearest_straight begins body.at x.way

  -- one way leads to the expression
  one_way : OneList x.way
  one_way e =
      let n = laws.nested p program file body x.has in
      laws.ways itself (record { from = 0; to = n.to }) 1 body.list n.nested x.value x.value e x.way (list_ends x.value body.list e 0 ∙ sym (list_ends x.value body.list x.way 0))

  module _ (w : WrittenMember Span) (has : IsSoundMember p w) (bound : Bound) (is_body : body_of w.key w.base w.part bound ≡ Some body) (o : Rewritten (statement.Stmts Span)) (becomes : ListBecomes t x o) where
    abbrev sup : Context → ℕ
    sup = at_super p.rows p.super_at t.region keeps

    abbrev Own : Context → Type 0
    Own c = There w.key c

    good_own : (n : ℕ) → IsOutside (element x) n → Avoids x (record { member = w.key; number = n })
    good_own n h e = h

    goes_on : GoesOn Own (element x)
    goes_on = record {
      to_own = λ c n f u v h d. here_own (Avoids x) w.key c n f u v h (good_own n d);
      to_behind = λ c n f u v h d. here_behind (Avoids x) w.key c n f u v h (good_own n d);
    }

    other_list : (n : ℕ) (c : Context) (base : ℕ) (xs : statement.Stmts Span) → (xs ≡ held (element x) → ⊥) → ListStays S n c base xs
    other_list n c base xs apart = leaves.spot.list n c base xs (λ h. apart h.list)

    own_stays : MayStay begins choices S (BrokenExp begins p.rows sup) (BrokenStmt begins p.rows sup) (beside Own (element x))
    own_stays = record {
      own_words = λ c r base e h sound. itself_stays begins p.rows sup t.region keeps c (sees_there w.key c h) r base e sound;
      written = λ n c base m f u v e h sound. local_type_stays begins p.rows sup t.region keeps c (sees_there w.key c h) n base m f u v e sound;
      declared = λ c n v h d. declared_stays begins p.rows sup t.region keeps (local_decl (local_key c n)) v;
      part = λ k c r base e h. leaves.spot.part k c r base e;
      list = λ n c base xs h none. other_list n c base xs (not_beside begins (element x) straight xs none);
      this = leaves.spot.this;
    }

    -- what is asked of the body's list, and what comes of it
    abbrev BodySound : Body → Type 0
    BodySound b = (i : Error) → InStmts begins (λ d r base y. BrokenExp begins p.rows sup i d r base y) (λ n d base y. BrokenStmt begins p.rows sup i n d base y) (λ base ys. BrokenList begins p.rows sup i base ys) b.at.next b.at.context b.at.base b.list → ⊥

    abbrev BodyGoes : Body → Type 0
    BodyGoes b = (z : Rewritten (statement.Stmts Span)) × TransformsList itself choices S b.at.next b.at.context b.at.base b.list z × HasEffectOf o z

    abbrev BodyHere : Body → Type 0
    BodyHere b = Own b.at.context

    body_goes : BodyHere body → BodySound body → BodyGoes body
    body_goes here sound = around itself choices S (BrokenExp begins p.rows sup) (BrokenStmt begins p.rows sup) (BrokenList begins p.rows sup) Own (element x) goes_on own_stays (λ n c base xs h apart. other_list n c base xs apart) straight o becomes body.at x.way here one_way sound refl

    -- parameters have numbers below those of the list
    first_numbers : (n : ℕ) → n ≡ body.at.next → (i : ℕ) → i < n → Avoids x (record { member = w.key; number = i })
    first_numbers n is i lt = good_own i (inl (omega (arith, lt, is, (among_list begins body.at x.way).0)))

    with_effect : (q : Part Span) (e : Effect) → e ≡ effect_of o → PartGoes choices S w.key w.base q e → PartGoes choices S w.key w.base q (effect_of o)
    with_effect q e is h = subst (λ (f : Effect). PartGoes choices S w.key w.base q f) is h

    own_goes : PartGoes choices S w.key w.base w.part (effect_of o)
    own_goes = by w.part refl
      where
        at_key : (b : Bool) → There w.key (no_locals w.key b)
        at_key b = here_plain (Avoids x) w.key b

        by : (q : Part Span) → w.part ≡ q → PartGoes choices S w.key w.base q (effect_of o)
        by (class_part c) is = absurd (no_body body (subst (λ (q : Part Span). body_of w.key w.base q bound ≡ Some body) is is_body))
        by (member_part (syntax.field m mods u v init)) is = absurd (no_body body (subst (λ (q : Part Span). body_of w.key w.base q bound ≡ Some body) is is_body))
        by (member_part (syntax.inner m c)) is = tt
        by (member_part (syntax.method m mods u v ps list)) is =
            let same = same_body _ body (subst (λ (q : Part Span). body_of w.key w.base q bound ≡ Some body) is is_body) in
            let sound = sound_member w has (syntax.method m mods u v ps list) is in
            let found = subst (λ (q : Part Span). DeclaresFound p.rows w.key q) is has.found in
            let inside = here_parameters (Avoids x) w.key (is_static_member begins mods) ps (first_numbers (length ps) (ap (λ (b : Body). b.at.next) same)) in
            let goes = subst (λ (b : Body). BodyGoes b) (sym same) (body_goes (subst (λ (b : Body). BodyHere b) same inside) (subst (λ (b : Body). BodySound b) same (λ i z. sound i.at i.rule (inr (inr z))))) in
            with_effect (member_part (syntax.method m mods u v ps list)) (effect_of goes.0) goes.2
            (method_with p.rows p.super_at t.region keeps S w.key (beside Own (element x)) (goes_down Own (element x) goes_on) own_stays (sees_there w.key) at_key w.base m mods u v ps list sound found goes.0 goes.1)
        by (member_part (syntax.constructor m mods v ps args list)) is =
            let same = same_body _ body (subst (λ (q : Part Span). body_of w.key w.base q bound ≡ Some body) is is_body) in
            let sound = sound_member w has (syntax.constructor m mods v ps args list) is in
            let found = subst (λ (q : Part Span). DeclaresFound p.rows w.key q) is has.found in
            let numbers = first_numbers (length ps) (ap (λ (b : Body). b.at.next) same) in
            let inside = here_parameters (Avoids x) w.key false ps numbers in
            let goes = subst (λ (b : Body). BodyGoes b) (sym same) (body_goes (subst (λ (b : Body). BodyHere b) same inside) (subst (λ (b : Body). BodySound b) same (λ i z. sound i.at i.rule (inr (inr (inr z)))))) in
            with_effect (member_part (syntax.constructor m mods v ps args list)) (effect_of goes.0) goes.2
            (ctor_with p.rows p.super_at t.region keeps S w.key (beside Own (element x)) (goes_down Own (element x) goes_on) own_stays (sees_there w.key) at_key w.base m mods v ps args list (here_parameters (Avoids x) w.key true ps numbers) sound found goes.0 goes.1)

  -- ---- all members

  abbrev ws : List (WrittenMember Span)
  ws = written_members begins p.rows (units_of p)

  abbrev the : WrittenMember Span
  the = x.has.member

  body_key : the.key ≡ body.key
  body_key = by the.part x.has.is
    where
      by : (q : Part Span) → body_of the.key the.base q body.bound ≡ Some body → the.key ≡ body.key
      by (class_part c) e = absurd (no_body body e)
      by (member_part (syntax.field m mods u v init)) e = absurd (no_body body e)
      by (member_part (syntax.inner m c)) e = absurd (no_body body e)
      by (member_part (syntax.method m mods u v ps list)) e = ap (λ (b : Body). b.key) (same_body _ body e)
      by (member_part (syntax.constructor m mods v ps args list)) e = ap (λ (b : Body). b.key) (same_body _ body e)

  in_body : body.at.context.member ≡ body.key
  in_body = by the.part x.has.is
    where
      by : (q : Part Span) → body_of the.key the.base q body.bound ≡ Some body → body.at.context.member ≡ body.key
      by (class_part c) e = absurd (no_body body e)
      by (member_part (syntax.field m mods u v init)) e = absurd (no_body body e)
      by (member_part (syntax.inner m c)) e = absurd (no_body body e)
      by (member_part (syntax.method m mods u v ps list)) e = subst (λ (b : Body). b.at.context.member ≡ b.key) (same_body _ body e) refl
      by (member_part (syntax.constructor m mods v ps args list)) e = subst (λ (b : Body). b.at.context.member ≡ b.key) (same_body _ body e) refl

  -- another member has another key
  other_key : (i : ℕ) (w : WrittenMember Span) → slice_get ws i ≡ Some w → (i ≡ x.has.number → ⊥) → w.key ≡ body.key → ⊥
  other_key i w at apart e =
      let are = laws.written begins (units_of p) p.rows program.are_rows program.rows in
      let same = are.one w the (contains_at ws i w at) (contains_at ws x.has.number the x.has.written) (e ∙ sym body_key) in
      apart (written_once begins p.rows (units_of p) i x.has.number w the at x.has.written (ap (λ (v : WrittenMember Span). v.row) same))

  sound_at : (i : ℕ) (w : WrittenMember Span) → slice_get ws i ≡ Some w → IsSoundMember p w
  sound_at i w at = laws.sound p program w (contains_at ws i w at)

  module _ (o : Rewritten (statement.Stmts Span)) (becomes : ListBecomes t x o) where
    the_goes : IsOne choices t.spots file (effect_of o) the
    the_goes = (x.has.in_file, own_goes the (sound_at x.has.number the x.has.written) body.bound x.has.is o becomes)

    file_decides : (w : WrittenMember Span) → (w.file ≡ file) ⊎ (w.file ≡ file → ⊥)
    file_decides w = same_or_not w.file file

    others_left : (i : ℕ) (w : WrittenMember Span) → (i ≡ x.has.number → ⊥) → slice_get ws i ≡ Some w → IsLeft choices t.spots file (effect_of o) w
    others_left i w apart at = by (file_decides w)
      where
        key : w.key ≡ body.key → ⊥
        key = other_key i w at apart

        by : (w.file ≡ file) ⊎ (w.file ≡ file → ⊥) → IsLeft choices t.spots file (effect_of o) w
        by (inl e) = subst (λ (n : ℕ). PartGoes choices (t.spots n) w.key w.base w.part no_effect) (sym e)
            (other_stays w (sound_at i w at) S (λ k c r base e. leaves.spot.part k c r base e) leaves.spot.this key
            (λ n c base xs m. leaves.spot.list n c base xs (λ h. key (sym m ∙ ap (λ (d : Context). d.member) h.context ∙ nearest_member begins body.at x.way body.key in_body))))
        by (inr n) = let no = leaves.others w.file n in other_stays w (sound_at i w at) (t.spots w.file) (λ k c r base e. no.part k c r base e) no.this key (λ n c base xs m. no.list n c base xs)

    one_of : (vs : List (WrittenMember Span)) (n : ℕ) → slice_get vs n ≡ Some the → ((i : ℕ) (w : WrittenMember Span) → (i ≡ n → ⊥) → slice_get vs i ≡ Some w → IsLeft choices t.spots file (effect_of o) w) → OneGoes choices t.spots file (effect_of o) vs
    one_of [] n e others = absurd cc
    one_of (v ∷ vs) zero e others = inl (subst (λ (u : WrittenMember Span). IsOne choices t.spots file (effect_of o) u) (sym (same_written v the e)) the_goes, all vs (λ i w at. others (suc i) w (λ h. absurd cc) at))
      where
        all : (us : List (WrittenMember Span)) → ((i : ℕ) (w : WrittenMember Span) → slice_get us i ≡ Some w → IsLeft choices t.spots file (effect_of o) w) → AllLeft choices t.spots file (effect_of o) us
        all [] each = tt
        all (u ∷ us) each = (each 0 u refl, all us (λ i w at. each (suc i) w at))
    one_of (v ∷ vs) (suc n) e others = inr (others 0 v (λ h. absurd cc) refl, one_of vs n e (λ i w apart at. others (suc i) w (λ h. apart (less i n h)) at))
      where
        less : (i n : ℕ) → suc i ≡ suc n → i ≡ n
        less i n h = cc

    no_whole : (n : ℕ) → NoWholeSpot (t.spots n)
    no_whole n = by (same_or_not n file)
      where
        by : (n ≡ file) ⊎ (n ≡ file → ⊥) → NoWholeSpot (t.spots n)
        by (inl e) = subst (λ (m : ℕ). NoWholeSpot (t.spots m)) (sym e) (record { members = leaves.spot.members; whole = leaves.spot.whole })
        by (inr other) = let no = leaves.others n other in record { members = no.members; whole = no.whole }

    -- what the refactoring loses besides
    pub list_is_whole : (also : List Lost) → t.AlsoLost also → IsWhole p t also file o
    list_is_whole also lost =
        let ordered = members_in_order begins (units_of p) p.rows program.rows in
        let go = files_go choices t.spots file (effect_of o) no_whole (declarations_of begins (units_of p)) 0 (units_of p) ws t.spots (λ i. ap t.spots (plus i)) ordered (one_of ws x.has.number x.has.written others_left) in
        let here : go.number ≡ file = plus go.number ∙ go.is_file in
        record {
          becomes = record { files = go.files; rewritten = go.are; also_lost = also; also = lost };
          also_is = refl;
          own = go.own;
          stands = ap (slice_get go.files) (sym here) ∙ go.stands;
          effect = go.effect;
          others = λ n q apart at. go.others n q (λ e. apart (e ∙ here)) at;
          dispatch = dispatch_stays p t program.are_rows leaves.keys;
          renaming = no_pairs p t leaves.keys;
          edits = λ all many its none. edits_there all go.files go.number go.own (many ∙ sym (length-map p.files (λ (f : File Span). f.unit)) ∙ sym (as_many choices (declarations_of begins (units_of p)) (units_of p) t.spots go.files go.are))
              (ap (slice_get all) here ∙ its ∙ ap (λ (e : Effect). Some (entries_of e.changes)) (sym go.effect)) (λ i es apart at. none i es (λ e. apart (e ∙ sym here)) at) go.stands go.others;
          respelled = respelled_there go.files go.number go.own go.stands go.others ∙ ap (λ (e : Effect). e.respelled) go.effect;
          lost = ap (λ (ls : List Lost). ls ++ also) (lost_there go.files go.number go.own go.stands go.others ∙ (λ i. kept_lost (here i) (go.effect i).losses));
        }
      where
        plus : (n : ℕ) → n ≡ 0 + n
        plus n = omega arith
