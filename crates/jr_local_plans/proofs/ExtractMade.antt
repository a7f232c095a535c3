-- What extract local makes of two programs of the same files is one.
use Rattle.std.proofs.Common.{◌≡◌, ℕ, ◌+◌, List, [], ◌∷◌, ◌++◌, Bool, true, false, None, map, sym, ap, ◌∙◌, subst}
use Rattle.std.specs.Prelude.{nat_eq}
use Rattle.std.proofs.lemmas.Option.{same_Some}
use Rattle.jr_text.specs.declared.spans.Span.{Span}
use Rattle.jr_lex.specs.declared.items.Item.{Item}
use Rattle.jr_lex.specs.Lexes.{Lexes}
use Rattle.jr_lex.proofs.CutLaws.{one_lexing}
use Rattle.jr_ast.specs.Tree as tree
use Rattle.jr_ast.specs.StatementTree as statement
use Rattle.jr_ast.specs.Marks.{exp_mark, stmt_mark}
use Rattle.jr_grammar.specs.Layout.{itself}
use Rattle.jr_layout.specs.Layouts.{IsGap}
use Rattle.jr_layout.proofs.Answering.{one_gap}
use Rattle.jr_table.specs.Keys.{Ty, int, boolean, void, null, class}
use Rattle.jr_table.specs.Decls.{MemberKey, LocalKey, class_decl}
use Rattle.jr_table.specs.Rows.{Row}
use Rattle.jr_table.specs.Lookup.{FindsTypeNamed}
use Rattle.jr_table.specs.Errors.{Part}
use Rattle.jr_table.specs.Binding.{value}
use Rattle.jr_table.specs.Context.{Context, local_key, locals_in, after}
use Rattle.jr_spell.specs.declared.references.RefForm.TheVariants as ref
use Rattle.jr_bind.specs.Bounds.{Bound}
use Rattle.jr_bind.specs.Programs.{Program}
use Rattle.jr_bind.specs.SuperPlaces.{writes_super}
use Rattle.jr_rewrite.specs.Respellings.{Choice, Loss}
use Rattle.jr_rewrite.specs.Rewritten.{Rewritten, simple_type_out}
use Rattle.jr_rewrite.specs.Spots.{Asks, level, Spots, nowhere, spotted}
use Rattle.jr_rewrite.specs.Rewrites.{Choosing, TransformsExp, TransformsStmt, TransformsList}
use Rattle.jr_rewrite.specs.Woven.{with_changes}
use Rattle.jr_images.specs.Regions.{Region}
use Rattle.jr_images.specs.Spelling.{choosing, reference}
use Rattle.jr_plan.specs.Transforms.{made as is_made}
use Rattle.jr_local.specs.Bodies.{begins}
use Rattle.jr_local.specs.Scopes.{around_made, with_made, in_made}
use Rattle.jr_local.specs.Texts.{HasText}
use Rattle.jr_local.specs.Extracted.{WritesType, word_of, declaration, put_declaration, named, Puts, IsHeld, Extracts, list_spot, spots_if, spots_of, Found, extract_local}
use Rattle.jr_one_plans.proofs.Beside.{beside, IsWhole}
use Rattle.jr_one_plans.proofs.WordsOnce.{SeenOnce}
use Rattle.jr_one_plans.proofs.TakenOnce.{choice_once}
use Rattle.jr_one_plans.proofs.Like.{like_itself, like_along}
use Rattle.jr_one_plans.proofs.RegionsAgree.{regions_agree}
use Rattle.jr_one_plans.proofs.OneSpot.{SpotsAgree, SpottedAgree}
use Rattle.jr_one_plans.proofs.OneTree.{Agree, exp_one, stmt_one, list_one}
use Rattle.jr_one_plans.proofs.DoAlike.{MakeAlike}
use Rattle.jr_local_plans.proofs.Frames.{Placed, element_of, at_of}
use Rattle.jr_local_plans.proofs.BodiesOnce.{Laws}
use Rattle.jr_local_plans.proofs.KeptClasses.{around_once, with_once, in_once}
use Rattle.jr_local_plans.proofs.ExtractFound.{Where, where_of, one_where}

-- ---- texts

pub one_text : (p : Program Span) (s : MemberKey → ℕ) (bs : List Bound) (file : ℕ) (a b : List ℕ) → HasText p file a → HasText (beside p s bs) file b → a ≡ b
one_text p s bs file a b x y = sym x.2 ∙ ap (λ f. f.text) (same_Some x.0 y.0 (sym x.1 ∙ y.1)) ∙ y.2

pub one_items : (a b : List ℕ) (xs ys : List Item) → a ≡ b → Lexes a xs → Lexes b ys → xs ≡ ys
one_items a b xs ys same x y = one_lexing b xs ys (subst (λ (t : List ℕ). Lexes t xs) same x) y

-- ---- the type as it is written

written_once : (rows : List Row) (R : Region Span) → SeenOnce R.seen → (c : Context) (at : ℕ) (m : Span) (t : Ty) (o v : Rewritten (tree.TypeName Span)) → WritesType rows R c at m t o → WritesType rows R c at m t v → o ≡ v
written_once rows R seen c at m int o v x y = x ∙ sym y
written_once rows R seen c at m boolean o v x y = x ∙ sym y
written_once rows R seen c at m void o v x y = absurd x
written_once rows R seen c at m null o v x y = absurd x
written_once rows R seen c at m (class k) o v x y =
    let same = choice_once rows R (R.seen.scope c) at k.name k.name (class_decl k) (class_decl k) (reference ref.ClassName k.name None []) (FindsTypeNamed R.seen.images.rows (R.seen.scope c) k.name) (seen.each.type_named (R.seen.scope c) k.name) x.0 y.0 x.1 y.1 in
    x.2 ∙ ap (λ (h : Choice). simple_type_out itself h m 0 (word_of m k.name)) same ∙ sym y.2

-- ---- by where the expression is, and its type

abbrev made_at : Placed → LocalKey
made_at c = local_key (element_of c).at.context (element_of c).at.next

-- the expression becomes the name
abbrev pub IsValueAt : Placed → Asks → Context → tree.Exp Span → Type 0
IsValueAt c k d e = (least : ℕ) × (k ≡ level least) × (d ≡ (at_of c).context) × (e ≡ c.value)

abbrev name_by : List ℕ → List Item → Placed → Spots Span
name_by name items c = record {
  part = λ k d r base e o. IsValueAt c k d e × (o ≡ named name items (exp_mark c.value));
  part_stays = λ k d r base e. IsValueAt c k d e → ⊥;
  list = λ n d base xs o. ⊥;
  list_stays = λ n d base xs. Unit {0};
  members = λ base of xs o. ⊥;
  members_stay = λ base of xs. Unit {0};
  whole = λ base outer d o. ⊥;
  whole_stays = λ base outer d. Unit {0};
  this_stays = Unit {0};
}

name_agrees : (name : List ℕ) (items : List Item) (c : Placed) → SpotsAgree (name_by name items c) (name_by name items c)
name_agrees name items c = record {
  part = λ k d r base e o v x y. x.1 ∙ sym y.1;
  part_here = λ k d r base e o x stays. stays x.0;
  part_there = λ k d r base e o x stays. stays x.0;
  list = λ n d base xs o v x y. absurd x;
  list_here = λ n d base xs o x stays. x;
  list_there = λ n d base xs o x stays. x;
  members = λ base of xs o v x y. absurd x;
  members_here = λ base of xs o x stays. x;
  members_there = λ base of xs o x stays. x;
  whole = λ base outer d o v x y. absurd x;
  whole_here = λ base outer d o x stays. x;
  whole_there = λ base outer d o x stays. x;
}

abbrev HeldAt : Placed → (n : ℕ) → Context → statement.Stmts Span → Type 0
HeldAt c n d statement.end = ⊥
HeldAt c n d (statement.more st ss) = (n ≡ (element_of c).at.next) × (d ≡ (element_of c).at.context) × (st ≡ (element_of c).stmt) × (ss ≡ (element_of c).rest)

-- what comes of the list
record Parts : Type 0 where
  text : List ℕ
  mark : Span
  type : Rewritten (tree.TypeName Span)
  piece : Rewritten (tree.Exp Span)
  gap : List ℕ
  first : Rewritten (statement.Stmt Span)
  rest : Rewritten (statement.Stmts Span)

abbrev whole_of : List ℕ → (at : Span) → Parts → Rewritten (statement.Stmts Span)
whole_of name at z = record {
  tree = statement.more (declaration name at z.type.tree z.piece.tree) (statement.more z.first.tree z.rest.tree);
  changes = put_declaration name at z.type.tree (with_changes z.text z.mark z.piece.changes) z.gap ∷ (z.first.changes ++ z.rest.changes);
  respelled = z.type.respelled + (z.piece.respelled + (z.first.respelled + z.rest.respelled));
  losses = z.piece.losses ++ (z.first.losses ++ z.rest.losses);
}

module _ (laws : Laws) (p : Program Span) (s : MemberKey → ℕ) (bs : List Bound) (is : IsWhole p) (also : IsWhole (beside p s bs)) (file from to : ℕ) (name : List ℕ) where
  abbrev q : Program Span
  q = beside p s bs

  abbrev around_at : Where → Region Span
  around_at w = around_made p.rows (made_at w.place) name w.type

  abbrev with_at : Where → Region Span
  with_at w = with_made p.rows (made_at w.place) name w.type

  abbrev piece_at : Where → Region Span
  piece_at w = in_made p.rows (made_at w.place) name w.type

  abbrev chosen_by : (MemberKey → ℕ) → Region Span → Choosing Span
  chosen_by t R = choosing begins p.rows R (λ (c : Context). t c.member)

  abbrev Fine : MemberKey → Part Span → Type 0
  Fine k part = writes_super part ≡ true → p.super_at k ≡ s k

  agrees : (R : Region Span) → SeenOnce R.seen → Agree Fine (chosen_by p.super_at R) (chosen_by s R)
  agrees R seen = regions_agree p.rows is.are_rows (laws.one p.rows is.are_rows) (laws.binding p.rows is.are_rows (laws.keys p.rows is.are_rows)) R seen R (like_itself R) p.super_at s

  module _ (f : Found p file from to name) (g : Found q file from to name) where
    same : where_of f.selected ≡ where_of g.selected
    same = one_where laws p s bs is also file from to f.selected g.selected

    abbrev w : Where
    w = where_of f.selected

    abbrev k : LocalKey
    k = made_at w.place

    pub around_seen : SeenOnce (around_at w).seen
    around_seen = around_once p.rows is.are_rows (laws.one p.rows is.are_rows) k name w.type

    with_seen : SeenOnce (with_at w).seen
    with_seen = with_once p.rows is.are_rows (laws.one p.rows is.are_rows) k name w.type

    piece_seen : SeenOnce (piece_at w).seen
    piece_seen = in_once p.rows is.are_rows (laws.one p.rows is.are_rows) k name w.type

    texts : f.text ≡ g.text
    texts = one_text p s bs file f.text g.text f.is_text g.is_text

    items : f.items ≡ g.items
    items = one_items f.text g.text f.items g.items texts f.lexes g.lexes

    types : f.type ≡ g.type
    types = written_once p.rows (with_at w) with_seen (element_of w.place).at.context from (stmt_mark (element_of w.place).stmt) w.type f.type g.type f.writes
        (subst (λ (z : Where). WritesType p.rows (with_at z) (element_of z.place).at.context from (stmt_mark (element_of z.place).stmt) z.type g.type) (sym same) g.writes)

    -- ---- parts of what comes of the list

    module _ (n : ℕ) (c : Context) (base : ℕ) (st : statement.Stmt Span) (ss : statement.Stmts Span) (o v : Rewritten (statement.Stmts Span))
        (x : Puts p file from to name f.selected f.text f.items f.type n c base st ss o) (y : Puts q file from to name g.selected g.text g.items g.type n c base st ss v) where
      one_piece : x.piece ≡ y.piece
      one_piece = exp_one itself Fine (chosen_by p.super_at (piece_at w)) (chosen_by s (piece_at w)) nowhere nowhere (agrees (piece_at w) piece_seen) tt (at_of w.place).context value (at_of w.place).base w.place.value x.piece y.piece x.moves
          (subst (λ (z : Where). TransformsExp itself (chosen_by s (piece_at z)) nowhere (at_of z.place).context value (at_of z.place).base z.place.value y.piece) (sym same) y.moves)

      gaps : x.gap ≡ y.gap
      gaps = one_gap g.text (stmt_mark st).from x.gap y.gap (subst (λ (t : List ℕ). IsGap t (stmt_mark st).from x.gap) texts x.is_gap) y.is_gap

      one_first : x.first ≡ y.first
      one_first = stmt_one itself Fine (chosen_by p.super_at (with_at w)) (chosen_by s (with_at w)) (spotted (name_by name f.items w.place)) (spotted (name_by name f.items w.place)) (agrees (with_at w) with_seen) (name_agrees name f.items w.place) n c base st x.first y.first x.first_is
          (subst (λ (z : Where). TransformsStmt itself (chosen_by s (with_at z)) (spotted (name_by name f.items z.place)) n c base st y.first) (sym same)
          (subst (λ (js : List Item). TransformsStmt itself (chosen_by s (with_at (where_of g.selected))) (spotted (name_by name js (where_of g.selected).place)) n c base st y.first) (sym items) y.first_is))

      one_rest : x.rest ≡ y.rest
      one_rest = list_one itself Fine (chosen_by p.super_at (with_at w)) (chosen_by s (with_at w)) nowhere nowhere (agrees (with_at w) with_seen) tt (n + locals_in st) (after n c st) base ss x.rest y.rest x.rest_is
          (subst (λ (z : Where). TransformsList itself (chosen_by s (with_at z)) nowhere (n + locals_in st) (after n c st) base ss y.rest) (sym same) y.rest_is)

      abbrev here : Parts
      here = record { text = f.text; mark = exp_mark w.place.value; type = f.type; piece = x.piece; gap = x.gap; first = x.first; rest = x.rest }

      abbrev there : Parts
      there = record { text = g.text; mark = exp_mark g.selected.value; type = g.type; piece = y.piece; gap = y.gap; first = y.first; rest = y.rest }

      one_list : o ≡ v
      one_list =
          let a : o ≡ whole_of name (stmt_mark st) here = λ i. record { tree = x.tree_is i; changes = x.changes_are i; respelled = x.respelled_is i; losses = x.losses_are i } in
          let b : v ≡ whole_of name (stmt_mark st) there = λ i. record { tree = y.tree_is i; changes = y.changes_are i; respelled = y.respelled_is i; losses = y.losses_are i } in
          let e : here ≡ there = λ i. record { text = texts i; mark = exp_mark (same i).place.value; type = types i; piece = one_piece i; gap = gaps i; first = one_first i; rest = one_rest i } in
          a ∙ ap (whole_of name (stmt_mark st)) e ∙ sym b

    -- ---- spots

    lists : (n : ℕ) (c : Context) (base : ℕ) (xs : statement.Stmts Span) (o v : Rewritten (statement.Stmts Span)) → Extracts p file from to name f.selected f.text f.items f.type n c base xs o → Extracts q file from to name g.selected g.text g.items g.type n c base xs v → o ≡ v
    lists n c base statement.end o v x y = absurd x
    lists n c base (statement.more st ss) o v x y = one_list n c base st ss o v x.1 y.1

    list_here : (n : ℕ) (c : Context) (base : ℕ) (xs : statement.Stmts Span) (o : Rewritten (statement.Stmts Span)) → Extracts p file from to name f.selected f.text f.items f.type n c base xs o → (IsHeld q file from to name g.selected n c xs → ⊥) → ⊥
    list_here n c base statement.end o x stays = x
    list_here n c base (statement.more st ss) o x stays = stays (subst (λ (z : Where). HeldAt z.place n c (statement.more st ss)) same x.0)

    list_there : (n : ℕ) (c : Context) (base : ℕ) (xs : statement.Stmts Span) (o : Rewritten (statement.Stmts Span)) → Extracts q file from to name g.selected g.text g.items g.type n c base xs o → (IsHeld p file from to name f.selected n c xs → ⊥) → ⊥
    list_there n c base statement.end o x stays = x
    list_there n c base (statement.more st ss) o x stays = stays (subst (λ (z : Where). HeldAt z.place n c (statement.more st ss)) (sym same) x.0)

    spots_agree : SpotsAgree (list_spot p file from to name f.selected f.text f.items f.type) (list_spot q file from to name g.selected g.text g.items g.type)
    spots_agree = record {
      part = λ k d r base e o v x y. absurd x;
      part_here = λ k d r base e o x stays. x;
      part_there = λ k d r base e o x stays. x;
      list = lists;
      list_here = list_here;
      list_there = list_there;
      members = λ base of xs o v x y. absurd x;
      members_here = λ base of xs o x stays. x;
      members_there = λ base of xs o x stays. x;
      whole = λ base outer d o v x y. absurd x;
      whole_here = λ base outer d o x stays. x;
      whole_there = λ base outer d o x stays. x;
    }

    all_agree : (n : ℕ) → SpottedAgree (spots_of p file from to name f.selected f.text f.items f.type n) (spots_of q file from to name g.selected g.text g.items g.type n)
    all_agree n = by (nat_eq n file)
      where
        by : (b : Bool) → SpottedAgree (spots_if p file from to name f.selected f.text f.items f.type b) (spots_if q file from to name g.selected g.text g.items g.type b)
        by true = spots_agree
        by false = tt

    pub make_alike : MakeAlike ((extract_local p file from to name).transform f) ((extract_local q file from to name).transform g)
    make_alike = record {
      regions = like_along around_at same;
      seen = around_seen;
      spots = all_agree;
      lost = λ a b x y. x ∙ ap (λ (t : Rewritten (tree.TypeName Span)). map (λ (l : Loss). record { origin = is_made; file = file; loss = l }) t.losses) types ∙ sym y;
    }
