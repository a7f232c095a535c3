-- Where extract local loses nothing, each file stands side by side with what has become of it: the walk goes
-- from the files to the list of the statement, by the members that they write.
use Rattle.std.proofs.Common.{◌≡◌, ◌⊎◌, ℕ, zero, suc, ◌+◌, ◌≤◌, List, [], ◌∷◌, map, Option, Some, None, Bool, true, false, length, refl, sym, ap, subst, ◌∙◌, inl, inr, arith}
use Rattle.std.specs.Prelude.{slice_get, nat_eq}
use Rattle.std.proofs.lemmas.Bool.{eq-eqb}
use Rattle.jr_text.specs.declared.spans.Span.{Span}
use Rattle.jr_ast.specs.Tree as tree
use Rattle.jr_ast.specs.StatementTree as statement
use Rattle.jr_ast.specs.MemberTree as syntax
use Rattle.jr_grammar.specs.Layout.{itself}
use Rattle.jr_table.specs.Decls.{MemberKey}
use Rattle.jr_table.specs.SameDecls.{same_member, member_decides}
use Rattle.jr_table.specs.DeclaredItems.{DeclaredItem, declarations_of}
use Rattle.jr_table.specs.Context.{Context, after, locals_in, locals_in_row}
use Rattle.jr_table.specs.HeadRules.{with_parameters, is_static_member}
use Rattle.jr_table.specs.Errors.{Part, class_part, member_part}
use Rattle.jr_members.specs.WrittenMembers.{WrittenMember, written_members}
use Rattle.jr_members.specs.WrittenLaws.{IsWritten}
use Rattle.jr_bind.specs.Bounds.{Bound}
use Rattle.jr_bind.specs.Programs.{Program, IsProgram, units_of}
use Rattle.jr_rewrite.specs.Respellings.{Loss}
use Rattle.jr_rewrite.specs.Rewritten.{Rewritten}
use Rattle.jr_rewrite.specs.Spots.{Spotted, nowhere, spotted, OrList}
use Rattle.jr_rewrite.specs.Rewrites.{Choosing, TransformsUnit}
use Rattle.jr_images.specs.Regions.{Region}
use Rattle.jr_images.proofs.Chosen.{left_none, right_none}
use Rattle.jr_plan.specs.Transforms.{Lost, TransformsFiles, choosing_of, kept_lost, kept_from, made as is_made}
use Rattle.jr_pieces.specs.Ways.{ListWay, first}
use Rattle.jr_pieces.specs.Nearest.{Element, nearest}
use Rattle.jr_bodies.specs.Bodies.{begins, Body, body_of}
use Rattle.jr_local.specs.Selecting.{Selected, element}
use Rattle.jr_local.specs.Scopes.{kept_locals}
use Rattle.jr_local.specs.Extracted as extracted
use Rattle.jr_local_search.proofs.Paths.{list_ends}
use Rattle.jr_local_texts.proofs.KeptNames.{rows_undotted}
use Rattle.jr_local_texts.proofs.StandingBodies.{contains_at}
use Rattle.jr_local_ways.specs.Elements.{ElementsHoldIt}
use Rattle.jr_local_premises.specs.SelectedPremises.{SelectedAreReady}
use Rattle.jr_kept_references.specs.InRegions.{member_in, StandsFor}
use Rattle.jr_kept_references.specs.KeptInRegions.{IsSuperKeptIn, IsParentKeptIn, PartsBecome}
use Rattle.jr_kept_references.specs.AlongSpots.{SpotStands}
use Rattle.jr_kept_references.specs.MembersAlong.{MembersSpotStands, ClassSpotStands, UnitBeside}
use Rattle.jr_kept_references.specs.RegionPlaces.{Standing}
use Rattle.jr_kept_references.specs.StatementsAlong.{ListSpotStands, ListStays}
use Rattle.jr_kept_references.proofs.RegionWorlds.{RegionWorld}
use Rattle.jr_untouched_parts.specs.Around.{held}
use Rattle.jr_untouched_parts.proofs.OneWay.{OneList, meets, nearest_straight}
use Rattle.jr_untouched_parts.proofs.Numbers.{Among, among_list, nearest_member}
use Rattle.jr_extracted_references.specs.References.{Keeps, Writes, InSpot, KeepsReferences, transform}
use Rattle.jr_extracted_references.proofs.Worlds.{Laws, world_of}
use Rattle.jr_extracted_references.proofs.Rooms.{to as room_to}
use Rattle.jr_extracted_references.proofs.Counts.{anywhere, same_locals, same_row}
use Rattle.jr_extracted_references.proofs.Around.{Below, Kept, AtList, ListIs, Starts, At, are_standing, are_beginning, are_walked, all_walked}
use Rattle.jr_extracted_references.proofs.SpotMembers.{unit_along}
use Rattle.jr_extracted_references.proofs.Spot.{spot_kept}

-- what is known where the list begins
record ListPlace : Type 0 where
  next : ℕ
  number : ℕ
  context : Context
  stmt : statement.Stmt Span
  rest : statement.Stmts Span
  now : statement.Stmts Span

abbrev begins_there : {v : tree.Exp Span} → Element v → statement.Stmts Span → ListPlace
begins_there e now = record { next = e.at.next; number = e.at.next; context = e.at.context; stmt = e.stmt; rest = e.rest; now = now }

-- ---- members

same_body : (a b : Body) → (let o : Option Body = Some a in o ≡ Some b) → a ≡ b
same_body a b e = cc

no_body : {D : Type 0} (b : Body) → (let none : Option Body = None in none ≡ Some b) → D
no_body b e = absurd (apart b e)
  where
    apart : (b : Body) → (let none : Option Body = None in none ≡ Some b) → ⊥
    apart b e = cc

key_of_body : (k : MemberKey) (base : ℕ) (bound : Bound) (b : Body) (q : Part Span) → body_of k base q bound ≡ Some b → (k ≡ b.key) × (b.at.context.member ≡ b.key)
key_of_body k base bound b (class_part c) e = no_body b e
key_of_body k base bound b (member_part (syntax.field m mods u v init)) e = no_body b e
key_of_body k base bound b (member_part (syntax.inner m c)) e = no_body b e
key_of_body k base bound b (member_part (syntax.method m mods u v ps list)) e = subst (λ (y : Body). (k ≡ y.key) × (y.at.context.member ≡ y.key)) (same_body _ b e) (refl, refl)
key_of_body k base bound b (member_part (syntax.constructor m mods v ps args list)) e = subst (λ (y : Body). (k ≡ y.key) × (y.at.context.member ≡ y.key)) (same_body _ b e) (refl, refl)

same_or_not : (j k : MemberKey) → (j ≡ k) ⊎ (j ≡ k → ⊥)
same_or_not j k = by (same_member j k) refl
  where
    apart : true ≡ false → ⊥
    apart e = cc

    by : (b : Bool) → same_member j k ≡ b → (j ≡ k) ⊎ (j ≡ k → ⊥)
    by true e = inl ((member_decides j k).0 e)
    by false e = inr (λ h. apart (sym ((member_decides j k).1 h) ∙ e))

true_is : (b : Bool) → b ≡ true → b ≡ false → ⊥
true_is b e f = apart (sym e ∙ f)
  where
    apart : true ≡ false → ⊥
    apart q = cc

module _ (laws : Laws) (ready : SelectedAreReady) (elements : ElementsHoldIt Span) (p : Program Span) (program : IsProgram itself (λ m b. Unit {0}) p) (file from to : ℕ) (name : List ℕ) (f : extracted.Found p file from to name) where
  abbrev x : Selected p file from to
  x = f.selected

  abbrev e : Element x.value
  e = element x

  abbrev k : MemberKey
  k = e.at.context.member

  abbrev R : Region Span
  R = extracted.around p file from to name x

  abbrev super_at : Context → ℕ
  super_at = λ (c : Context). p.super_at c.member

  abbrev spots : Bool → Spotted Span
  spots b = extracted.spots_if p file from to name x f.text f.items f.type b

  body_facts : (x.has.member.key ≡ x.body.key) × (x.body.at.context.member ≡ x.body.key)
  body_facts = key_of_body x.has.member.key x.has.member.base x.body.bound x.body x.has.member.part x.has.is

  body_key : k ≡ x.body.key
  body_key = nearest_member begins x.body.at x.way x.body.key body_facts.1

  straight : meets e.way ≡ false
  straight = nearest_straight begins x.body.at x.way

  one_way : OneList x.way
  one_way d =
      let n = laws.nested p program file x.body x.has in
      laws.ways itself (record { from = 0; to = n.to }) 1 x.body.list n.nested x.value x.value d x.way (list_ends x.value x.body.list d 0 ∙ sym (list_ends x.value x.body.list x.way 0))

  worlds : (c d : Context) → StandsFor R p.rows c d → RegionWorld Span p.rows R c d
  worlds c d stand =
      let image = room_to p.rows k e.at.next name x.type in
      let sound = laws.sound p.rows program.are_rows (rows_undotted laws.named p program) (extracted.made p file from to name x) name x.type in
      world_of p.rows image (kept_locals image) (λ q b. ⊥) laws program.are_rows sound.around c d stand

  -- ---- the spot

  node : (b : Bool) (n : ℕ) (c : Context) (base : ℕ) (xs : statement.Stmts Span) (o : Rewritten (statement.Stmts Span)) (N : Type 0) → (c.member ≡ k → xs ≡ held e → ⊥) → OrList (spots b) n c base xs o N → N
  node false n c base xs o N apart h = h
  node true n c base xs o N apart (inl (stays, h)) = h
  node true n c base statement.end o N apart (inr h) = absurd h
  node true n c base (statement.more s ss) o N apart (inr (is, puts)) = absurd (apart (ap (λ (d : Context). d.member) is.1) (λ i. statement.more (is.2 i) (is.3 i)))

  named_node : (n : ℕ) (c : Context) (b : ℕ) (xs : statement.Stmts Span) (o : Rewritten (statement.Stmts Span)) (N : Type 0) → OrList (spotted (extracted.name_spot p file from to name x f.items)) n c b xs o N → N
  named_node n c b xs o N (inl (stays, h)) = h
  named_node n c b xs o N (inr h) = absurd h

  put : (b : Bool) → b ≡ true → (base : ℕ) (o : Rewritten (statement.Stmts Span)) (N : Type 0) → OrList (spots b) e.at.next e.at.context base (held e) o N → locals_in_row o.tree ≡ suc (locals_in_row (held e))
  unfolding locals_in locals_in_row
  put false is base o N h = absurd (true_is false is refl)
  put true is base o N (inl (stays, h)) = absurd (stays (refl, refl, refl, refl))
  put true is base o N (inr (held_is, puts)) =
      let first_same = same_locals (extracted.choices p file from to name x (extracted.from_there p file from to name x)) (spotted (extracted.name_spot p file from to name x f.items)) k anywhere (λ n c b xs o N of h. named_node n c b xs o N) e.at.next e.at.context base e.stmt puts.first refl tt puts.first_is in
      let rest_same = same_row (extracted.choices p file from to name x (extracted.from_there p file from to name x)) nowhere (after e.at.next e.at.context e.stmt).member anywhere (λ n c b xs o N of h made. made) (e.at.next + locals_in e.stmt) (after e.at.next e.at.context e.stmt) base e.rest puts.rest refl tt puts.rest_is in
      let all : locals_in_row o.tree ≡ 1 + (locals_in puts.first.tree + locals_in_row puts.rest.tree) = ap (λ (ys : statement.Stmts Span). locals_in_row ys) puts.tree_is in
      omega (arith, all, first_same, rest_same)

  holds : (b : Bool) → b ≡ true → (base : ℕ) → ListStays (spots b) e.at.next e.at.context base (held e) → ⊥
  holds false is base stays = true_is false is refl
  holds true is base stays = stays (refl, refl, refl, refl)

  parts : (b : Bool) (c d : Context) → PartsBecome begins p.rows R (spots b) c d
  parts false c d = refl
  parts true c d = ((λ stays. refl), λ q r base y o h none. absurd h)

  -- ---- a file

  module _ (n : ℕ) (b : Bool) (is_file : nat_eq n file ≡ b) where
    abbrev here : Type 0
    here = b ≡ true

    abbrev Good : MemberKey → ℕ → Part Span → Type 0
    Good j base q = IsWritten begins (units_of p) n j base q

    abbrev Is : (m : ℕ) → Context → statement.Stmts Span → Type 0
    Is m c xs = ListIs p.rows super_at k name x.type (spots b) e straight here (node b) (put b) (holds b) worlds m m c xs

    -- another member's
    away : (j : MemberKey) → (j ≡ k → ⊥) → (m : ℕ) (c : Context) (xs : statement.Stmts Span) → c.member ≡ j → Is m c xs
    away j other m c xs of = inl (record { apart = λ same w. other (sym of ∙ same); counted = inl (refl, λ same. absurd (other (sym of ∙ same))) })

    -- the body's own
    own : (is_here : here) (y : Body) → y ≡ x.body → y.at.context.member ≡ k → (y.at.next ≤ e.at.next) × Is y.at.next y.at.context y.list
    own is_here y same of =
        let found = subst (λ (z : Body). (w : ListWay x.value z.list) × OneList w × (nearest begins z.at w ≡ e)) (sym same) (x.way, one_way, refl) in
        let among = subst (λ (z : Element x.value). Among y.at.next (locals_in_row y.list) z) found.2 (among_list begins y.at found.0) in (
          among.0,
          inr (record { is_here = is_here; of = of; number = refl; base = y.at.base; way = found.0; one = found.1; nearest_is = found.2 }),
        )

    -- a member of the key is the one that has the body
    own_member : (j : MemberKey) (base : ℕ) (y : syntax.Member Span) → j ≡ k → Good j base (member_part y) → here × (body_of j base (member_part y) x.body.bound ≡ Some x.body)
    own_member j base y same written =
        let are = laws.written begins (units_of p) p.rows program.are_rows program.rows in
        let found = are.all n j base (member_part y) written in
        let one = are.one found.0 x.has.member found.1 (contains_at (written_members begins p.rows (units_of p)) x.has.number x.has.member x.has.written) (found.3 ∙ same ∙ body_key ∙ sym body_facts.0) in
        let in_file : n ≡ file = sym found.2 ∙ ap (λ (w : WrittenMember Span). w.file) one ∙ x.has.in_file in (
          sym is_file ∙ eq-eqb n file in_file,
          (λ i. body_of ((sym found.3 ∙ ap (λ (w : WrittenMember Span). w.key) one) i) ((sym found.4 ∙ ap (λ (w : WrittenMember Span). w.base) one) i) ((sym found.5 ∙ ap (λ (w : WrittenMember Span). w.part) one) i) x.body.bound) ∙ x.has.is,
        )

    bodies : (j : MemberKey) (base : ℕ) (y : syntax.Member Span) → Good j base (member_part y) → Starts p.rows super_at k name x.type (spots b) e straight here (node b) (put b) (holds b) worlds j y
    bodies j base (syntax.field m mods t w init) good = tt
    bodies j base (syntax.inner m c) good = tt
    bodies j base (syntax.method m mods t w ps body) good = by (same_or_not j k)
      where
        by : (j ≡ k) ⊎ (j ≡ k → ⊥) → Starts p.rows super_at k name x.type (spots b) e straight here (node b) (put b) (holds b) worlds j (syntax.method m mods t w ps body)
        by (inr other) = ((λ same. absurd (other same)), away j other (length ps) (with_parameters j (is_static_member begins mods) ps) body refl)
        by (inl same) =
            let member = own_member j base (syntax.method m mods t w ps body) same good in
            let at = own member.0 _ (same_body _ x.body member.1) same in
            ((λ of. at.0), at.1)
    bodies j base (syntax.constructor m mods w ps args body) good = by (same_or_not j k)
      where
        by : (j ≡ k) ⊎ (j ≡ k → ⊥) → Starts p.rows super_at k name x.type (spots b) e straight here (node b) (put b) (holds b) worlds j (syntax.constructor m mods w ps args body)
        by (inr other) = ((λ same. absurd (other same)), away j other (length ps) (with_parameters j false ps) body refl)
        by (inl same) =
            let member = own_member j base (syntax.constructor m mods w ps args body) same good in
            let at = own member.0 _ (same_body _ x.body member.1) same in
            ((λ of. at.0), at.1)

    abbrev places : Standing Span
    places = At p.rows super_at k name x.type (spots b) e straight here (node b) (put b) (holds b) worlds (declarations_of begins (units_of p)) Good bodies

  met : (b : Bool) → f.type.losses ≡ [] → (m z : ℕ) (c d : Context) (base i : ℕ) (xs : statement.Stmts Span) (y : statement.Stmts Span) → AtList p.rows super_at k name x.type (spots b) e straight (b ≡ true) (node b) (put b) (holds b) worlds m z c d xs → ListSpotStands (spots b) m z c d base xs i y
      → InSpot p file from to name f m z c d base xs i y
  met false whole m z c d base i xs y at h = absurd h
  met true whole m z c d base i statement.end y at (o, made, lossless, is) = absurd made
  met true whole m z c d base i (statement.more s ss) y at (o, (held_is, puts), lossless, is) = by at.is
    where
      leads : ListWay x.value (statement.more s ss)
      leads = subst (λ (ys : statement.Stmts Span). ListWay x.value ys) (λ t. statement.more (sym held_is.2 t) (sym held_is.3 t)) (first e.stmt e.rest e.way)

      by : ListIs p.rows super_at k name x.type (spots true) e straight (true ≡ true) (node true) (put true) (holds true) worlds m z c (statement.more s ss) → InSpot p file from to name f m z c d base (statement.more s ss) i y
      by (inl far) = absurd (far.apart (ap (λ (q : Context). q.member) held_is.1) leads)
      by (inr on) =
          let path : begins_there e o.tree ≡ record { next = m; number = z; context = c; stmt = s; rest = ss; now = y } = λ t. record { next = sym held_is.0 t; number = sym (on.number ∙ held_is.0) t; context = sym held_is.1 t; stmt = sym held_is.2 t; rest = sym held_is.3 t; now = sym is t } in
          let there = subst (λ (q : ListPlace). extracted.Puts p file from to name x f.text f.items f.type q.next q.context base q.stmt q.rest o) (sym path) puts in
          let stand = subst (λ (q : ListPlace). Kept p.rows super_at k name x.type (spots true) e straight (true ≡ true) (node true) (put true) (holds true) worlds q.context d) (sym path) at.beside in
          let below = subst (λ (q : ListPlace). Below q.next q.context.locals) (sym path) at.below in
          subst (λ (q : ListPlace). InSpot p file from to name f q.next q.number q.context d base (statement.more q.stmt q.rest) i q.now) path
          (spot_kept laws ready elements p program file from to name f d stand below whole base i o there lossless)

  -- a file and what has become of it
  file_kept : (n : ℕ) (b : Bool) (is_file : nat_eq n file ≡ b) (u : syntax.Unit Span) → slice_get (units_of p) n ≡ Some u → (o : Rewritten (syntax.Unit Span)) → TransformsUnit itself (choosing_of p (transform p file from to name f)) (spots b) (declarations_of begins (units_of p)) u o → o.losses ≡ [] → f.type.losses ≡ []
      → UnitBeside begins begins (Keeps p file from to name f R) (Writes p file from to name f R) (SpotStands (spots b)) (InSpot p file from to name f) (λ c d args es. IsSuperKeptIn begins p.rows R c d args es) (IsParentKeptIn p.rows R) (MembersSpotStands (spots b)) (ClassSpotStands (spots b)) (member_in R)
      (declarations_of begins (units_of p)) u o.tree
  file_kept n b is_file u stands o made lossless whole =
      unit_along itself p.rows R super_at (spots b) (places n b is_file)
      (are_standing p.rows super_at k name x.type (spots b) e straight (b ≡ true) (node b) (put b) (holds b) worlds (declarations_of begins (units_of p)) (Good n b is_file) (bodies n b is_file))
      (are_beginning p.rows super_at k name x.type (spots b) e straight (b ≡ true) (node b) (put b) (holds b) worlds (declarations_of begins (units_of p)) (Good n b is_file) (bodies n b is_file))
      (λ c d at. parts b c d) worlds (InSpot p file from to name f) (λ m z c d base i xs q at h. met b whole m z c d base i xs q.tree at h)
      (declarations_of begins (units_of p))
      (are_walked p.rows super_at k name x.type (spots b) e straight (b ≡ true) (node b) (put b) (holds b) worlds (declarations_of begins (units_of p)) (Good n b is_file) (bodies n b is_file))
      u
      (all_walked p.rows super_at k name x.type (spots b) e straight (b ≡ true) (node b) (put b) (holds b) worlds (declarations_of begins (units_of p)) (Good n b is_file) (bodies n b is_file) (begins u.mark 0) u.classes (λ j base q h. record { unit = u; stands = stands; writes = h }))
      o made lossless

-- ---- all files

one_there : {X : Type 0} (y x : X) → Some y ≡ Some x → y ≡ x
one_there y x e = cc

unit_there : (C : Choosing Span) (ds : List DeclaredItem) (spots : ℕ → Spotted Span) (us : List (syntax.Unit Span)) (os : List (Rewritten (syntax.Unit Span))) → TransformsFiles C ds spots us os → (n : ℕ) (u : syntax.Unit Span) (o : Rewritten (syntax.Unit Span)) → slice_get us n ≡ Some u → slice_get os n ≡ Some o
    → TransformsUnit itself C (spots n) ds u o
unit_there C ds spots [] os is n u o at to = absurd cc
unit_there C ds spots (v ∷ us) os (q, rest, unit, more, is) zero u o at to =
    let same : q ≡ o = one_there q o (ap (λ (xs : List (Rewritten (syntax.Unit Span))). slice_get xs 0) (sym is) ∙ to) in
    subst (λ (y : syntax.Unit Span). TransformsUnit itself C (spots 0) ds y o) (one_there v u at) (subst (λ (y : Rewritten (syntax.Unit Span)). TransformsUnit itself C (spots 0) ds v y) same unit)
unit_there C ds spots (v ∷ us) os (q, rest, unit, more, is) (suc n) u o at to = unit_there C ds (λ i. spots (suc i)) us rest more n u o at (ap (λ (xs : List (Rewritten (syntax.Unit Span))). slice_get xs (suc n)) (sym is) ∙ to)

no_loss : (n : ℕ) (ls : List Loss) → kept_lost n ls ≡ [] → ls ≡ []
no_loss n [] e = refl
no_loss n (l ∷ ls) e = absurd cc

lossless_there : (from_file : ℕ) (os : List (Rewritten (syntax.Unit Span))) → kept_from from_file os ≡ [] → (n : ℕ) (o : Rewritten (syntax.Unit Span)) → slice_get os n ≡ Some o → o.losses ≡ []
lossless_there from_file [] none n o at = absurd cc
lossless_there from_file (q ∷ os) none zero o at = ap (λ (y : Rewritten (syntax.Unit Span)). y.losses) (sym (one_there q o at)) ∙ no_loss from_file q.losses (left_none (kept_lost from_file q.losses) (kept_from (suc from_file) os) none)
lossless_there from_file (q ∷ os) none (suc n) o at = lossless_there (suc from_file) os (right_none (kept_lost from_file q.losses) (kept_from (suc from_file) os) none) n o at

no_made_loss : (file : ℕ) (ls : List Loss) → map (λ (l : Loss). (let lost : Lost = record { origin = is_made; file = file; loss = l } in lost)) ls ≡ [] → ls ≡ []
no_made_loss file [] e = refl
no_made_loss file (l ∷ ls) e = absurd cc

pub keeps_references : Laws → SelectedAreReady → ElementsHoldIt Span → KeepsReferences
keeps_references laws ready elements p program file from to name f becomes lossless n u o at there =
    file_kept laws ready elements p program file from to name f n (nat_eq n file) refl u at o
    (unit_there (choosing_of p (transform p file from to name f)) (declarations_of begins (units_of p)) (transform p file from to name f).spots (units_of p) becomes.files becomes.rewritten n u o at there)
    (lossless_there 0 becomes.files (left_none (kept_from 0 becomes.files) becomes.also_lost lossless) n o there)
    (no_made_loss file f.type.losses (sym becomes.also ∙ right_none (kept_from 0 becomes.files) becomes.also_lost lossless))
