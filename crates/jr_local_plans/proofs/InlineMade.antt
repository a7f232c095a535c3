-- What inline local makes of two programs of the same files is one.
use Rattle.std.proofs.Common.{◌≡◌, inl, inr, ℕ, ◌+◌, List, [], ◌∷◌, map, Bool, true, false, sym, ap, ◌∙◌, subst}
use Rattle.std.specs.Prelude.{nat_eq, Contains}
use Rattle.jr_text.specs.declared.spans.Span.{Span}
use Rattle.jr_lex.specs.declared.items.Item.{Item}
use Rattle.jr_ast.specs.Tree as tree
use Rattle.jr_ast.specs.StatementTree as statement
use Rattle.jr_ast.specs.Marks.{exp_mark, stmt_mark}
use Rattle.jr_grammar.specs.Layout.{itself}
use Rattle.jr_layout.specs.Layouts.{IsRemoval}
use Rattle.jr_layout.proofs.Answering.{one_removal}
use Rattle.jr_table.specs.Keys.{Ty}
use Rattle.jr_table.specs.Decls.{MemberKey}
use Rattle.jr_table.specs.Errors.{Part}
use Rattle.jr_table.specs.Binding.{value, HasType}
use Rattle.jr_table.specs.Context.{Context, locals_in, after}
use Rattle.jr_bind.specs.Bounds.{Bound}
use Rattle.jr_bind.specs.Programs.{Program}
use Rattle.jr_bind.specs.SuperPlaces.{writes_super}
use Rattle.jr_cursor.specs.TargetLaws.{OneIsTarget}
use Rattle.jr_local_search.specs.DeclarationLaws.{WaysAreDeclared}
use Rattle.jr_rewrite.specs.Respellings.{Loss}
use Rattle.jr_rewrite.specs.Rewritten.{Rewritten, change}
use Rattle.jr_rewrite.specs.Spots.{Asks, level, nowhere, spotted}
use Rattle.jr_rewrite.specs.Rewrites.{Choosing, TransformsExp}
use Rattle.jr_images.specs.Regions.{Region}
use Rattle.jr_images.specs.Spelling.{choosing}
use Rattle.jr_plan.specs.Transforms.{copied}
use Rattle.jr_pieces.specs.Ways.{ListWay}
use Rattle.jr_told_ways.specs.Told.{In}
use Rattle.jr_pieces.specs.Standings.{at_list}
use Rattle.jr_local.specs.Bodies.{begins}
use Rattle.jr_local.specs.Scopes.{without, in_copy}
use Rattle.jr_local.specs.Inlining.{Naming}
use Rattle.jr_local.specs.Inlined.{Copy, all_losses, Becomes, IsHeld, IsReadAt, Reads, read_spot, Goes, Inlines, list_spot, spots_if, spots_of, Found, inline_local}
use Rattle.jr_one_plans.proofs.Beside.{beside, IsWhole}
use Rattle.jr_one_plans.proofs.WordsOnce.{SeenOnce}
use Rattle.jr_one_plans.proofs.Like.{AreLike, like_itself, like_along}
use Rattle.jr_one_plans.proofs.RegionsAgree.{regions_agree}
use Rattle.jr_one_plans.proofs.OneSpot.{SpotsAgree, SpottedAgree}
use Rattle.jr_one_plans.proofs.OneTree.{Agree, exp_one, list_one}
use Rattle.jr_one_plans.proofs.DoAlike.{MakeAlike}
use Rattle.jr_local_plans.proofs.Frames.{Placed, element_of, at_of}
use Rattle.jr_local_plans.proofs.BodiesOnce.{Laws}
use Rattle.jr_local_plans.proofs.KeptClasses.{without_once, copy_once}
use Rattle.jr_local_plans.proofs.Copies.{Holds, at_holds, contained, of_read, one_of_read, one_list}
use Rattle.jr_local_plans.proofs.NamedOnce.{by_span}
use Rattle.jr_local_plans.proofs.ExtractFound.{type_once}
use Rattle.jr_local_plans.proofs.ExtractMade.{one_text, one_items}
use Rattle.jr_local_plans.proofs.NamingsAt.{Spot, behind_of, Named, known_of, ReadAt, way_of}
use Rattle.jr_local_plans.proofs.InlineFound.{named_of, naming_of, spot, same_spot}

-- ---- a copy is put in one way

-- where it is put, and what of
record Put : Type 0 where
  text : List ℕ
  items : List Item
  init : Span
  copy : Copy

abbrev BecomesBy : Put → Asks → Rewritten (tree.Exp Span) → Type 0
BecomesBy z k o = Becomes z.text z.items z.init k z.copy o

becomes_once : (z : Put) (k : Asks) (o v : Rewritten (tree.Exp Span)) → BecomesBy z k o → BecomesBy z k v → o ≡ v
becomes_once z k o v (inl x) (inl y) = x.1 ∙ sym y.1
becomes_once z k o v (inl x) (inr y) = absurd (y.0 x.0)
becomes_once z k o v (inr x) (inl y) = absurd (x.0 y.0)
becomes_once z k o v (inr x) (inr y) = x.1 ∙ sym y.1

abbrev HeldAt : Placed → (n : ℕ) → Context → statement.Stmts Span → Type 0
HeldAt c n d statement.end = ⊥
HeldAt c n d (statement.more st ss) = (n ≡ (element_of c).at.next) × (d ≡ (element_of c).at.context) × (st ≡ (element_of c).stmt) × (ss ≡ (element_of c).rest)

abbrev gone_from : Span → Rewritten (statement.Stmts Span) → Rewritten (statement.Stmts Span)
gone_from gone rest = record { tree = rest.tree; changes = change gone [] ∷ rest.changes; respelled = rest.respelled; losses = rest.losses }

-- the local, with its initializer's type
record Whole : Type 0 where
  spot : Spot
  type : Ty

-- ---- two programs

module _ (laws : Laws) (declared : WaysAreDeclared) (targets : OneIsTarget) (p : Program Span) (s : MemberKey → ℕ) (bs : List Bound) (is : IsWhole p) (also : IsWhole (beside p s bs)) (file at : ℕ) where
  abbrev q : Program Span
  q = beside p s bs

  abbrev chosen_by : (MemberKey → ℕ) → Region Span → Choosing Span
  chosen_by t R = choosing begins p.rows R (λ (c : Context). t c.member)

  abbrev Fine : MemberKey → Part Span → Type 0
  Fine k part = writes_super part ≡ true → p.super_at k ≡ s k

  agrees : (R Q : Region Span) → AreLike R Q → SeenOnce R.seen → Agree Fine (chosen_by p.super_at R) (chosen_by s Q)
  agrees R Q like seen = regions_agree p.rows is.are_rows (laws.one p.rows is.are_rows) (laws.binding p.rows is.are_rows (laws.keys p.rows is.are_rows)) R seen Q like p.super_at s

  -- a read of this span, which is copied so, by the places t of written `super(..)`
  abbrev CopyOf : (t : MemberKey → ℕ) → Whole → Copy → Type 0
  CopyOf t w c = (n : Named p.rows w.spot) × (exp_mark n.at ≡ c.read) × TransformsExp itself (chosen_by t (in_copy p.rows w.spot.key w.type (known_of p.rows w.spot n))) nowhere (at_of w.spot.place).context value (at_of w.spot.place).base w.spot.place.value c.of

  abbrev ReadOf : Spot → Span → Type 0
  ReadOf z m = (n : Named p.rows z) × ReadAt p.rows z n × (exp_mark n.at ≡ m)

  module _ (f : Found p file at) (g : Found q file at) where
    same : spot p file at f.asked ≡ spot q file at g.asked
    same = same_spot laws declared targets p s bs is also file at f.asked g.asked

    abbrev z : Spot
    z = spot p file at f.asked

    types : f.type ≡ g.type
    types = type_once laws p is (at_of z.place).context z.place.value f.type g.type f.typed (subst (λ (y : Spot). HasType p.rows (at_of y.place).context y.place.value g.type) (sym same) g.typed)

    abbrev whole_here : Whole
    whole_here = record { spot = z; type = f.type }

    abbrev whole_there : Whole
    whole_there = record { spot = spot q file at g.asked; type = g.type }

    wholes : whole_here ≡ whole_there
    wholes = λ i. record { spot = same i; type = types i }

    texts : f.text ≡ g.text
    texts = one_text p s bs file f.text g.text f.is_text g.is_text

    items : f.items ≡ g.items
    items = one_items f.text g.text f.items g.items texts f.lexes g.lexes

    gones : f.gone ≡ g.gone
    gones = one_removal f.text (stmt_mark (element_of z.place).stmt) f.gone g.gone f.is_gone
        (subst (λ (y : Spot). IsRemoval f.text (stmt_mark (element_of y.place).stmt) g.gone) (sym same) (subst (λ (t : List ℕ). IsRemoval t (stmt_mark (element_of (spot q file at g.asked).place).stmt) g.gone) (sym texts) g.is_gone))

    -- ---- copies

    -- of one read
    same_copy : (c d : Copy) → CopyOf p.super_at whole_here c → CopyOf s whole_here d → c.read ≡ d.read → c ≡ d
    same_copy c d x y read =
        let n = x.0 in
        let m = y.0 in
        let way : way_of p.rows z n ≡ way_of p.rows z m = by_span laws p is file f.asked.declared.body f.asked.declared.has f.asked.declared.declares.way n.way m.way (x.1 ∙ read ∙ sym y.1) in
        let known : known_of p.rows z n ≡ known_of p.rows z m = ap (λ (i : In (λ (h : tree.Exp Span). ListWay h (element_of z.place).rest)). (at_list begins (behind_of z.place) i.way).context) way in
        let R = in_copy p.rows z.key f.type (known_of p.rows z n) in
        let moved = subst (λ (e : Context). TransformsExp itself (chosen_by s (in_copy p.rows z.key f.type e)) nowhere (at_of z.place).context value (at_of z.place).base z.place.value d.of) (sym known) y.2 in
        let of : c.of ≡ d.of = exp_one itself Fine (chosen_by p.super_at R) (chosen_by s R) nowhere nowhere (agrees R R (like_itself R) (copy_once p.rows is.are_rows (laws.one p.rows is.are_rows) z.key f.type (known_of p.rows z n))) tt
        (at_of z.place).context value (at_of z.place).base z.place.value c.of d.of x.2 moved in
        λ i. record { read = read i; of = of i }

    copy_here : (c : Copy) → Holds f.copies c → CopyOf p.super_at whole_here c
    copy_here c h = let i = at_holds f.copies c h in let x = f.are_copies.each i.0 c i.1 in (named_of f.asked.declared x.0, x.2.0, x.2.1)

    read_here : (c : Copy) → Holds f.copies c → ReadOf z c.read
    read_here c h = let i = at_holds f.copies c h in let x = f.are_copies.each i.0 c i.1 in (named_of f.asked.declared x.0, x.1, x.2.0)

    copy_there : (c : Copy) → Holds g.copies c → CopyOf s whole_here c
    copy_there c h =
        let i = at_holds g.copies c h in
        let x = g.are_copies.each i.0 c i.1 in
        subst (λ (w : Whole). CopyOf s w c) (sym wholes) (named_of g.asked.declared x.0, x.2.0, x.2.1)

    read_there : (c : Copy) → Holds g.copies c → ReadOf z c.read
    read_there c h =
        let i = at_holds g.copies c h in
        let x = g.are_copies.each i.0 c i.1 in
        subst (λ (y : Spot). ReadOf y c.read) (sym same) (named_of g.asked.declared x.0, x.1, x.2.0)

    held_there : (c : Copy) → Holds f.copies c → Holds g.copies c
    held_there c h =
        let r = subst (λ (y : Spot). ReadOf y c.read) same (read_here c h) in
        let d = of_read g.copies c.read (subst (λ (m : Span). Contains (map (λ (e : Copy). e.read) g.copies) m) r.2 (g.are_copies.all (naming_of g.asked.declared r.0) r.1)) in
        subst (λ (e : Copy). Holds g.copies e) (sym (same_copy c d.0 (copy_here c h) (copy_there d.0 d.1) (sym d.2))) d.1

    held_here : (d : Copy) → Holds g.copies d → Holds f.copies d
    held_here d h =
        let r = read_there d h in
        let c = of_read f.copies d.read (subst (λ (m : Span). Contains (map (λ (e : Copy). e.read) f.copies) m) r.2 (f.are_copies.all (naming_of f.asked.declared r.0) r.1)) in
        subst (λ (e : Copy). Holds f.copies e) (same_copy c.0 d (copy_here c.0 c.1) (copy_there d h) c.2) c.1

    copies : f.copies ≡ g.copies
    copies = one_list f.copies g.copies f.are_copies.rise g.are_copies.rise held_there held_here

    -- ---- reads

    abbrev ReadsHere : Asks → Context → tree.Exp Span → Rewritten (tree.Exp Span) → Type 0
    ReadsHere k c e o = Reads p file at f.asked f.type f.text f.items f.copies k c e o

    abbrev ReadsThere : Asks → Context → tree.Exp Span → Rewritten (tree.Exp Span) → Type 0
    ReadsThere k c e o = Reads q file at g.asked g.type g.text g.items g.copies k c e o

    abbrev ReadAsked : Spot → Asks → Context → tree.Exp Span → Type 0
    ReadAsked y k c e = (n : Named p.rows y) × ReadAt p.rows y n × (least : ℕ) × (k ≡ level least) × (c ≡ known_of p.rows y n) × (e ≡ n.at)

    parts : (k : Asks) (c : Context) (e : tree.Exp Span) (o v : Rewritten (tree.Exp Span)) → ReadsHere k c e o → ReadsThere k c e v → o ≡ v
    parts k c e o v x y =
        let read : x.2.read ≡ y.2.read = sym x.4 ∙ ap exp_mark (sym x.1.4 ∙ y.1.4) ∙ y.4 in
        let copy : x.2 ≡ y.2 = one_of_read g.copies g.are_copies.rise x.2 y.2 (subst (λ (cs : List Copy). Holds cs x.2) copies (contained f.copies x.2 x.3)) (contained g.copies y.2 y.3) read in
        let one : Put = record { text = f.text; items = f.items; init = exp_mark z.place.value; copy = x.2 } in
        let put : one ≡ record { text = g.text; items = g.items; init = exp_mark (spot q file at g.asked).place.value; copy = y.2 } = λ i. record { text = texts i; items = items i; init = exp_mark (same i).place.value; copy = copy i } in
        becomes_once one k o v x.5 (subst (λ (u : Put). BecomesBy u k v) (sym put) y.5)

    part_here : (k : Asks) (c : Context) (e : tree.Exp Span) (o : Rewritten (tree.Exp Span)) → ReadsHere k c e o → ((m : Naming g.asked.declared) → IsReadAt q file at g.asked g.type g.text g.items g.copies k c e m → ⊥) → ⊥
    part_here k c e o x stays =
        let r = subst (λ (y : Spot). ReadAsked y k c e) same (named_of f.asked.declared x.0, x.1.0, x.1.1, x.1.2, x.1.3, x.1.4) in
        stays (naming_of g.asked.declared r.0) (r.1, r.2, r.3, r.4, r.5)

    part_there : (k : Asks) (c : Context) (e : tree.Exp Span) (o : Rewritten (tree.Exp Span)) → ReadsThere k c e o → ((m : Naming f.asked.declared) → IsReadAt p file at f.asked f.type f.text f.items f.copies k c e m → ⊥) → ⊥
    part_there k c e o x stays =
        let r = subst (λ (y : Spot). ReadAsked y k c e) (sym same) (named_of g.asked.declared x.0, x.1.0, x.1.1, x.1.2, x.1.3, x.1.4) in
        stays (naming_of f.asked.declared r.0) (r.1, r.2, r.3, r.4, r.5)

    reads_agree : SpotsAgree (read_spot p file at f.asked f.type f.text f.items f.copies) (read_spot q file at g.asked g.type g.text g.items g.copies)
    reads_agree = record {
      part = λ k d r base e o v x y. parts k d e o v x y;
      part_here = λ k d r base e o x stays. part_here k d e o x stays;
      part_there = λ k d r base e o x stays. part_there k d e o x stays;
      list = λ n d base xs o v x y. absurd x;
      list_here = λ n d base xs o x stays. x;
      list_there = λ n d base xs o x stays. x;
      members = λ base of xs o v x y. absurd x;
      members_here = λ base of xs o x stays. x;
      members_there = λ base of xs o x stays. x;
      whole = λ base outer d o v x y. absurd x;
      whole_here = λ base outer d o x stays. x;
      whole_there = λ base outer d o x stays. x;
    }

    -- ---- the list from the declaration on

    abbrev left_at : Whole → Region Span
    left_at w = without p.rows w.spot.key w.type

    left_like : AreLike (left_at whole_here) (left_at whole_there)
    left_like = like_along left_at wholes

    left_seen : SeenOnce (left_at whole_here).seen
    left_seen = without_once p.rows is.are_rows (laws.one p.rows is.are_rows) z.key f.type

    goes : (n : ℕ) (c : Context) (base : ℕ) (st : statement.Stmt Span) (ss : statement.Stmts Span) (o v : Rewritten (statement.Stmts Span)) → Goes p file at f.asked f.type f.text f.items f.copies f.gone n c base st ss o
        → Goes q file at g.asked g.type g.text g.items g.copies g.gone n c base st ss v → o ≡ v
    goes n c base st ss o v x y =
        let rest : x.rest ≡ y.rest = list_one itself Fine (chosen_by p.super_at (left_at whole_here)) (chosen_by s (left_at whole_there)) (spotted (read_spot p file at f.asked f.type f.text f.items f.copies)) (spotted (read_spot q file at g.asked g.type g.text g.items g.copies))
        (agrees (left_at whole_here) (left_at whole_there) left_like left_seen) reads_agree (n + locals_in st) (after n c st) base ss x.rest y.rest x.rest_is y.rest_is in
        x.is ∙ (λ i. gone_from (gones i) (rest i)) ∙ sym y.is

    lists : (n : ℕ) (c : Context) (base : ℕ) (xs : statement.Stmts Span) (o v : Rewritten (statement.Stmts Span)) → Inlines p file at f.asked f.type f.text f.items f.copies f.gone n c base xs o → Inlines q file at g.asked g.type g.text g.items g.copies g.gone n c base xs v → o ≡ v
    lists n c base statement.end o v x y = absurd x
    lists n c base (statement.more st ss) o v x y = goes n c base st ss o v x.1 y.1

    list_here : (n : ℕ) (c : Context) (base : ℕ) (xs : statement.Stmts Span) (o : Rewritten (statement.Stmts Span)) → Inlines p file at f.asked f.type f.text f.items f.copies f.gone n c base xs o → (IsHeld q file at g.asked g.type n c xs → ⊥) → ⊥
    list_here n c base statement.end o x stays = x
    list_here n c base (statement.more st ss) o x stays = stays (subst (λ (y : Spot). HeldAt y.place n c (statement.more st ss)) same x.0)

    list_there : (n : ℕ) (c : Context) (base : ℕ) (xs : statement.Stmts Span) (o : Rewritten (statement.Stmts Span)) → Inlines q file at g.asked g.type g.text g.items g.copies g.gone n c base xs o → (IsHeld p file at f.asked f.type n c xs → ⊥) → ⊥
    list_there n c base statement.end o x stays = x
    list_there n c base (statement.more st ss) o x stays = stays (subst (λ (y : Spot). HeldAt y.place n c (statement.more st ss)) (sym same) x.0)

    spots_agree : SpotsAgree (list_spot p file at f.asked f.type f.text f.items f.copies f.gone) (list_spot q file at g.asked g.type g.text g.items g.copies g.gone)
    spots_agree = record {
      part = λ k d r base e o v x y. absurd x;
      part_here = λ k d r base e o x stays. x;
      part_there = λ k d r base e o x stays. x;
      list = lists;
      list_here = list_here;
      list_there = list_there;
      members = λ base of xs o v x y. absurd x;
      members_here = λ base of xs o x stays. x;
      members_there = λ base of xs o x stays. x;
      whole = λ base outer d o v x y. absurd x;
      whole_here = λ base outer d o x stays. x;
      whole_there = λ base outer d o x stays. x;
    }

    all_agree : (n : ℕ) → SpottedAgree (spots_of p file at f.asked f.type f.text f.items f.copies f.gone n) (spots_of q file at g.asked g.type g.text g.items g.copies g.gone n)
    all_agree n = by (nat_eq n file)
      where
        by : (b : Bool) → SpottedAgree (spots_if p file at f.asked f.type f.text f.items f.copies b f.gone) (spots_if q file at g.asked g.type g.text g.items g.copies b g.gone)
        by true = spots_agree
        by false = tt

    pub make_alike : MakeAlike ((inline_local p file at).transform f) ((inline_local q file at).transform g)
    make_alike = record {
      regions = left_like;
      seen = left_seen;
      spots = all_agree;
      lost = λ a b x y. x ∙ ap (λ (cs : List Copy). map (λ (l : Loss). record { origin = copied; file = file; loss = l }) (all_losses cs)) copies ∙ sym y;
    }
