-- Where the parts of a member stand among its tokens: expressions to which ways lead, and lists, in
-- front of and behind which a brace or the end of a statement stands.
use Rattle.std.proofs.Common.{◌≡◌, ◌⊎◌, inl, inr, [], ◌∷◌, ◌++◌, Option, Some, None, refl, sym, ap, ◌∙◌, subst}
use Rattle.std.proofs.lemmas.List.{append_assoc, append-nil}
use Rattle.jr_text.specs.declared.spans.Span.{Span}
use Rattle.jr_lex.specs.declared.items.Symbol.TheVariants.{OpenBrace, CloseBrace, Semicolon}
use Rattle.jr_ast.specs.declared.operators.BumpOp.TheVariants.{PreInc, PreDec, PostInc, PostDec}
use Rattle.jr_ast.specs.Tree as tree
use Rattle.jr_ast.specs.StatementTree as statement
use Rattle.jr_grammar.specs.Tokens.{Token, symbol}
use Rattle.jr_grammar.specs.Stands.{Tokens, IsAlone, InOrder, Stands}
use Rattle.jr_grammar.specs.ExpressionLayout.{exp_layout, args_layout, more_args_layout}
use Rattle.jr_grammar.specs.StatementLayout.{stmt_layout, stmts_layout}
use Rattle.jr_pieces.specs.Ways.{ExpWay, here, in_front, in_target, in_argument, in_super_argument, in_created, in_paren, in_cast, in_unary, in_bump, in_left, in_right, in_assigned, in_value, in_changed, in_change, ExpsWay, first_argument, later_argument, StmtWay, in_init, in_eval, in_condition, in_then, in_else, in_turning, in_body, in_returned, in_block, in_lock, in_locked, ListWay}
use Rattle.jr_pieces.specs.Ways as ways
use Rattle.jr_pieces.specs.Standings.{Standing, inside, behind, in_other}
use Rattle.jr_pieces.specs.Nearest.{Element, or_element, element_within, nearest}
use Rattle.jr_local.specs.Bodies.{begins}

-- ---- among tokens

-- some of the tokens, one behind the other
pub record Among (Part : Tokens → Type 0) (ps : Tokens) : Type 0 where
  pub front : Tokens
  pub part : Tokens
  pub back : Tokens
  pub whole : ps ≡ front ++ (part ++ back)
  pub stands : Part part

pub grouped_back : (a b c d : Tokens) → (a ++ (b ++ c)) ++ d ≡ a ++ (b ++ (c ++ d))
grouped_back a b c d = simp append_assoc

pub grouped_front : (a b c d : Tokens) → a ++ (b ++ (c ++ d)) ≡ (a ++ b) ++ (c ++ d)
grouped_front a b c d = simp append_assoc

abbrev all_of_it : {Part : Tokens → Type 0} (ps : Tokens) → Part ps → Among Part ps
all_of_it ps h = record { front = []; part = ps; back = []; whole = sym (append-nil ps); stands = h }

abbrev pub among_first : {Part P Q : Tokens → Type 0} (ps : Tokens) → InOrder P Q ps → ((qs : Tokens) → P qs → Among Part qs) → Among Part ps
among_first ps h go =
    let a = go h.front h.first in
    record {
      front = a.front;
      part = a.part;
      back = a.back ++ h.back;
      whole = h.whole ∙ ap (λ x. x ++ h.back) a.whole ∙ grouped_back a.front a.part a.back h.back;
      stands = a.stands;
    }

abbrev pub among_rest : {Part P Q : Tokens → Type 0} (ps : Tokens) → InOrder P Q ps → ((qs : Tokens) → Q qs → Among Part qs) → Among Part ps
among_rest ps h go =
    let a = go h.back h.rest in
    record {
      front = h.front ++ a.front;
      part = a.part;
      back = a.back;
      whole = h.whole ∙ ap (λ x. h.front ++ x) a.whole ∙ grouped_front h.front a.front a.part a.back;
      stands = a.stands;
    }

pub among_both : {Part Whole : Tokens → Type 0} (ps : Tokens) → Among Whole ps → ((qs : Tokens) → Whole qs → Among Part qs) → Among Part ps
among_both ps a go =
    let b = go a.part a.stands in
    record {
      front = a.front ++ b.front;
      part = b.part;
      back = b.back ++ a.back;
      whole = a.whole ∙ ap (λ x. a.front ++ (x ++ a.back)) b.whole ∙ ap (λ x. a.front ++ x) (grouped_back b.front b.part b.back a.back) ∙ grouped_front a.front b.front b.part (b.back ++ a.back);
      stands = b.stands;
    }

-- ---- expressions

module _ (f : tree.Exp Span) where
  abbrev Of : Tokens → Type 0
  Of ps = Among (Stands (exp_layout f)) ps

  mutual
    pub exp_among : (e : tree.Exp Span) (way : ExpWay f e) (ps : Tokens) → Stands (exp_layout e) ps → Of ps
    exp_among e here ps h = all_of_it ps h
    exp_among _ (in_front m e w d) ps h = among_first ps h.parts (exp_among e d)
    exp_among _ (in_target m e w es d) ps h = among_first ps h.parts (λ qs k. among_first qs k (exp_among e d))
    exp_among _ (in_argument m t w es d) ps h = among_rest ps h.parts (λ qs k. among_rest qs k (λ rs l. among_rest rs l (λ us i. among_first us i (args_among es d))))
    exp_among _ (in_super_argument m w es d) ps h = among_rest ps h.parts (λ qs k. among_rest qs k (λ rs l. among_rest rs l (λ us i. among_rest us i (λ vs j. among_first vs j (args_among es d)))))
    exp_among _ (in_created m t es d) ps h = among_rest ps h.parts (λ qs k. among_rest qs k (λ rs l. among_rest rs l (λ us i. among_first us i (args_among es d))))
    exp_among _ (in_paren m e d) ps h = among_rest ps h.parts (λ qs k. among_first qs k (exp_among e d))
    exp_among _ (in_cast m t e d) ps h = among_rest ps h.parts (λ qs k. among_rest qs k (λ rs l. among_rest rs l (λ us i. among_first us i (exp_among e d))))
    exp_among _ (in_unary m o e d) ps h = among_rest ps h.parts (λ qs k. among_first qs k (exp_among e d))
    exp_among _ (in_bump m PreInc e d) ps h = among_rest ps h.parts (λ qs k. among_first qs k (exp_among e d))
    exp_among _ (in_bump m PreDec e d) ps h = among_rest ps h.parts (λ qs k. among_first qs k (exp_among e d))
    exp_among _ (in_bump m PostInc e d) ps h = among_first ps h.parts (exp_among e d)
    exp_among _ (in_bump m PostDec e d) ps h = among_first ps h.parts (exp_among e d)
    exp_among _ (in_left m o l r d) ps h = among_first ps h.parts (exp_among l d)
    exp_among _ (in_right m o l r d) ps h = among_rest ps h.parts (λ qs k. among_rest qs k (λ rs i. among_first rs i (exp_among r d)))
    exp_among _ (in_assigned m t e d) ps h = among_first ps h.parts (exp_among t d)
    exp_among _ (in_value m t e d) ps h = among_rest ps h.parts (λ qs k. among_rest qs k (λ rs i. among_first rs i (exp_among e d)))
    exp_among _ (in_changed m o t e d) ps h = among_first ps h.parts (exp_among t d)
    exp_among _ (in_change m o t e d) ps h = among_rest ps h.parts (λ qs k. among_rest qs k (λ rs i. among_first rs i (exp_among e d)))

    args_among : (es : tree.Exps Span) (way : ExpsWay f es) (ps : Tokens) → Stands (args_layout es) ps → Of ps
    args_among _ (first_argument e es d) ps h = among_first ps h (exp_among e d)
    args_among _ (later_argument e es d) ps h = among_rest ps h (λ qs k. among_first qs k (more_among es d))

    more_among : (es : tree.Exps Span) (way : ExpsWay f es) (ps : Tokens) → Stands (more_args_layout es) ps → Of ps
    more_among _ (first_argument e es d) ps h = among_rest ps h (λ qs k. among_first qs k (exp_among e d))
    more_among _ (later_argument e es d) ps h = among_rest ps h (λ qs k. among_rest qs k (λ rs l. among_first rs l (more_among es d)))

  -- ---- statements

  mutual
    pub stmt_among : (s : statement.Stmt Span) (way : StmtWay f s) (ps : Tokens) → Stands (stmt_layout s) ps → Of ps
    stmt_among _ (in_init m is_final t w e d) ps h = among_rest ps h.parts (λ qs k. among_rest qs k (λ rs l. among_rest rs l (λ us i. among_rest us i (λ vs j. among_first vs j (exp_among e d)))))
    stmt_among _ (in_eval m e d) ps h = among_first ps h.parts (exp_among e d)
    stmt_among _ (in_condition m c s o d) ps h = among_rest ps h.parts (λ qs k. among_rest qs k (λ rs l. among_first rs l (exp_among c d)))
    stmt_among _ (in_then m c s o d) ps h = among_rest ps h.parts (λ qs k. among_rest qs k (λ rs l. among_rest rs l (λ us i. among_rest us i (λ vs j. among_first vs j (stmt_among s d)))))
    stmt_among _ (in_else m c s o d) ps h =
        among_rest ps h.parts (λ qs k. among_rest qs k (λ rs l. among_rest rs l (λ us i. among_rest us i (λ vs j. among_rest vs j (λ xs a. among_first xs a (λ ys b. among_rest ys b (λ zs g. among_first zs g (stmt_among o d))))))))
    stmt_among _ (in_turning m c s d) ps h = among_rest ps h.parts (λ qs k. among_rest qs k (λ rs l. among_first rs l (exp_among c d)))
    stmt_among _ (in_body m c s d) ps h = among_rest ps h.parts (λ qs k. among_rest qs k (λ rs l. among_rest rs l (λ us i. among_rest us i (λ vs j. among_first vs j (stmt_among s d)))))
    stmt_among _ (in_returned m e d) ps h = among_rest ps h.parts (λ qs k. among_first qs k (exp_among e d))
    stmt_among _ (in_block m b d) ps h = among_rest ps h.parts (λ qs k. among_first qs k (list_among b d))
    stmt_among _ (in_lock m e b d) ps h = among_rest ps h.parts (λ qs k. among_rest qs k (λ rs l. among_first rs l (exp_among e d)))
    stmt_among _ (in_locked m e b d) ps h =
        among_rest ps h.parts (λ qs k. among_rest qs k (λ rs l. among_rest rs l (λ us i. among_rest us i (λ vs j. among_rest vs j (λ xs a. among_first xs a (list_among b d))))))

    pub list_among : (b : statement.Stmts Span) (way : ListWay f b) (ps : Tokens) → Stands (stmts_layout b) ps → Of ps
    list_among _ (ways.first s ss d) ps h = among_first ps h (stmt_among s d)
    list_among _ (ways.later s ss d) ps h = among_rest ps h (λ qs k. among_first qs k (list_among ss d))

-- ---- in front of and behind a list

abbrev pub LastIs : (Token → Type 0) → Tokens → Type 0
LastIs P [] = ⊥
LastIs P (p ∷ []) = P p.token
LastIs P (p ∷ q ∷ ps) = LastIs P (q ∷ ps)

abbrev pub FirstIs : (Token → Type 0) → Tokens → Type 0
FirstIs P [] = ⊥
FirstIs P (p ∷ ps) = P p.token

-- what stands in front of a statement of a list, and what behind the list
abbrev pub ListFront : Token → Type 0
ListFront t = (t ≡ symbol OpenBrace) ⊎ (t ≡ symbol CloseBrace) ⊎ (t ≡ symbol Semicolon)

abbrev pub ListBack : Token → Type 0
ListBack t = t ≡ symbol CloseBrace

pub last_behind : (P : Token → Type 0) (xs ys : Tokens) → LastIs P ys → LastIs P (xs ++ ys)
last_behind P [] ys h = h
last_behind P (x ∷ []) [] h = absurd h
last_behind P (x ∷ []) (y ∷ ys) h = h
last_behind P (x ∷ z ∷ xs) ys h = last_behind P (z ∷ xs) ys h

pub first_before : (P : Token → Type 0) (xs ys : Tokens) → FirstIs P xs → FirstIs P (xs ++ ys)
first_before P [] ys h = absurd h
first_before P (x ∷ xs) ys h = h

last_rest : {P Q : Tokens → Type 0} (ps : Tokens) → InOrder P Q ps → ((qs : Tokens) → Q qs → LastIs ListFront qs) → LastIs ListFront ps
last_rest ps h go = subst (LastIs ListFront) (sym h.whole) (last_behind ListFront h.front h.back (go h.back h.rest))

last_alone : (t : Token) → ListFront t → (ps : Tokens) → InOrder (IsAlone t) (λ qs. qs ≡ []) ps → LastIs ListFront ps
last_alone t is ps h =
    let whole : ps ≡ h.first.placed ∷ [] = h.whole ∙ (λ i. h.first.alone i ++ h.rest i) in
    subst (LastIs ListFront) (sym whole) (subst ListFront (sym h.first.is) is)

last_part : {P : Tokens → Type 0} (ps : Tokens) → InOrder P (λ qs. qs ≡ []) ps → ((qs : Tokens) → P qs → LastIs ListFront qs) → LastIs ListFront ps
last_part ps h go = subst (LastIs ListFront) (sym (h.whole ∙ ap (λ x. h.front ++ x) h.rest ∙ append-nil h.front)) (go h.front h.first)

-- a statement ends in a brace or a semicolon
mutual
  pub stmt_last : (s : statement.Stmt Span) (ps : Tokens) → Stands (stmt_layout s) ps → LastIs ListFront ps
  stmt_last (statement.local m f t w e) ps h = last_rest ps h.parts (λ qs k. last_rest qs k (λ rs l. last_rest rs l (λ us i. last_rest us i (λ vs j. last_rest vs j (last_alone (symbol Semicolon) (inr (inr refl)))))))
  stmt_last (statement.eval m e) ps h = last_rest ps h.parts (last_alone (symbol Semicolon) (inr (inr refl)))
  stmt_last (statement.branch m c s statement.no_else) ps h =
      last_rest ps h.parts (λ qs k. last_rest qs k (λ rs l. last_rest rs l (λ us i. last_rest us i (λ vs j. last_part vs (no_else_part vs j) (stmt_last s)))))
    where
      no_else_part : (vs : Tokens) → InOrder (Stands (stmt_layout s)) (InOrder (λ qs. qs ≡ []) (λ qs. qs ≡ [])) vs → InOrder (Stands (stmt_layout s)) (λ qs. qs ≡ []) vs
      no_else_part vs j = record { front = j.front; back = j.back; whole = j.whole; first = j.first; rest = j.rest.whole ∙ (λ i. j.rest.first i ++ j.rest.rest i) }
  stmt_last (statement.branch m c s (statement.otherwise o)) ps h =
      last_rest ps h.parts (λ qs k. last_rest qs k (λ rs l. last_rest rs l (λ us i. last_rest us i (λ vs j. last_rest vs j (λ xs a. last_part xs a (λ ys b. last_rest ys b (λ zs g. last_part zs g (stmt_last o))))))))
  stmt_last (statement.loop m c s) ps h = last_rest ps h.parts (λ qs k. last_rest qs k (λ rs l. last_rest rs l (λ us i. last_rest us i (λ vs j. last_part vs j (stmt_last s)))))
  stmt_last (statement.return m None) ps h = last_rest ps h.parts (last_alone (symbol Semicolon) (inr (inr refl)))
  stmt_last (statement.return m (Some e)) ps h = last_rest ps h.parts (λ qs k. last_rest qs k (last_alone (symbol Semicolon) (inr (inr refl))))
  stmt_last (statement.block m b) ps h = last_rest ps h.parts (λ qs k. last_rest qs k (last_alone (symbol CloseBrace) (inr (inl refl))))
  stmt_last (statement.sync m e b) ps h =
      last_rest ps h.parts (λ qs k. last_rest qs k (λ rs l. last_rest rs l (λ us i. last_rest us i (λ vs j. last_rest vs j (λ xs a. last_rest xs a (last_alone (symbol CloseBrace) (inr (inl refl))))))))
  stmt_last (statement.empty m) ps h = last_alone (symbol Semicolon) (inr (inr refl)) ps h.parts

-- ---- elements of lists

module _ {f : tree.Exp Span} where
  abbrev Held : Element f → Tokens → Type 0
  Held el ps = Stands (stmts_layout (statement.more el.stmt el.rest)) ps

  -- Among the tokens of a list that has the element, or of one around it: what stands there in front of
  -- it, if anything does, and what behind its list.
  pub record ElementAmong (el : Element f) (ps : Tokens) : Type 0 where
    pub among : Among (Held el) ps
    pub front : (among.front ≡ []) ⊎ LastIs ListFront among.front
    pub back : (among.back ≡ []) ⊎ FirstIs ListBack among.back

  -- the same within a statement, where both stand
  pub record ElementWithin (el : Element f) (ps : Tokens) : Type 0 where
    pub among : Among (Held el) ps
    pub front : LastIs ListFront among.front
    pub back : FirstIs ListBack among.back

  within_first : {el : Element f} {P Q : Tokens → Type 0} (ps : Tokens) → InOrder P Q ps → ((qs : Tokens) → P qs → ElementWithin el qs) → ElementWithin el ps
  within_first ps h go =
      let e = go h.front h.first in
      record { among = among_first ps h (λ qs k. (go qs k).among); front = e.front; back = first_before ListBack e.among.back h.back e.back }

  within_rest : {el : Element f} {P Q : Tokens → Type 0} (ps : Tokens) → InOrder P Q ps → ((qs : Tokens) → Q qs → ElementWithin el qs) → ElementWithin el ps
  within_rest ps h go =
      let e = go h.back h.rest in
      record { among = among_rest ps h (λ qs k. (go qs k).among); front = last_behind ListFront h.front e.among.front e.front; back = e.back }

  -- a list between braces
  pub braced : {el : Element f} {L : Tokens → Type 0} (ps : Tokens) → InOrder (IsAlone (symbol OpenBrace)) (InOrder L (InOrder (IsAlone (symbol CloseBrace)) (λ qs. qs ≡ []))) ps
      → ((qs : Tokens) → L qs → ElementAmong el qs) → ElementWithin el ps
  braced {el} ps h go =
      let e = go h.rest.front h.rest.first in
      let open_is : h.front ≡ h.first.placed ∷ [] = h.first.alone in
      record {
        among = among_rest ps h (λ qs k. among_first qs k (λ rs l. (go rs l).among));
        front = front_is e.among.front e.front h.front open_is;
        back = back_is e.among.back e.back h.rest.back h.rest.rest;
      }
    where
      front_is : (xs : Tokens) → (xs ≡ []) ⊎ LastIs ListFront xs → (ys : Tokens) → ys ≡ h.first.placed ∷ [] → LastIs ListFront (ys ++ xs)
      front_is xs (inl none) ys is = subst (LastIs ListFront) (λ i. sym is i ++ sym none i) (subst ListFront (sym h.first.is) (inl refl))
      front_is xs (inr some) ys is = last_behind ListFront ys xs some

      back_is : (xs : Tokens) → (xs ≡ []) ⊎ FirstIs ListBack xs → (ys : Tokens) → InOrder (IsAlone (symbol CloseBrace)) (λ qs. qs ≡ []) ys → FirstIs ListBack (xs ++ ys)
      back_is xs (inr some) ys i = first_before ListBack xs ys some
      back_is xs (inl none) ys i =
          subst (λ x. FirstIs ListBack (x ++ ys)) (sym none) (subst (FirstIs ListBack) (sym (i.whole ∙ ap (λ x. x ++ i.back) i.first.alone)) i.first.is)

  found_element : (x y : Element f) → (let a : Option (Element f) = Some x in a ≡ Some y) → x ≡ y
  found_element x y e = cc

  no_element : (x : Element f) → (let none : Option (Element f) = None in none ≡ Some x) → ⊥
  no_element x e = cc

  mutual
    stmt_element : (p : Standing) (s : statement.Stmt Span) (d : StmtWay f s) (ps : Tokens) → Stands (stmt_layout s) ps → (el : Element f) → element_within begins p d ≡ Some el → ElementWithin el ps
    stmt_element p _ (in_init m is_final t w e d) ps h el is = absurd (no_element el is)
    stmt_element p _ (in_eval m e d) ps h el is = absurd (no_element el is)
    stmt_element p _ (in_condition m c s o d) ps h el is = absurd (no_element el is)
    stmt_element p _ (in_then m c s o d) ps h el is = within_rest ps h.parts (λ qs k. within_rest qs k (λ rs l. within_rest rs l (λ us i. within_rest us i (λ vs j. within_first vs j (λ xs a. stmt_element (inside begins m p) s d xs a el is)))))
    stmt_element p _ (in_else m c s o d) ps h el is =
        within_rest ps h.parts (λ qs k. within_rest qs k (λ rs l. within_rest rs l (λ us i. within_rest us i (λ vs j. within_rest vs j (λ xs a. within_first xs a (λ ys b. within_rest ys b (λ zs g. within_first zs g (λ bs n. stmt_element (in_other begins m s p) o d bs n el is))))))))
    stmt_element p _ (in_turning m c s d) ps h el is = absurd (no_element el is)
    stmt_element p _ (in_body m c s d) ps h el is = within_rest ps h.parts (λ qs k. within_rest qs k (λ rs l. within_rest rs l (λ us i. within_rest us i (λ vs j. within_first vs j (λ xs a. stmt_element (inside begins m p) s d xs a el is)))))
    stmt_element p _ (in_returned m e d) ps h el is = absurd (no_element el is)
    stmt_element p _ (in_block m b d) ps h el is =
        subst (λ x. ElementWithin x ps) (found_element _ el is) (braced ps h.parts (list_element (inside begins m p) b d))
    stmt_element p _ (in_lock m e b d) ps h el is = absurd (no_element el is)
    stmt_element p _ (in_locked m e b d) ps h el is =
        subst (λ x. ElementWithin x ps) (found_element _ el is)
        (within_rest ps h.parts (λ qs k. within_rest qs k (λ rs l. within_rest rs l (λ us i. within_rest us i (λ vs j. braced vs j (list_element (inside begins m p) b d))))))

    pub list_element : (p : Standing) (b : statement.Stmts Span) (d : ListWay f b) (ps : Tokens) → Stands (stmts_layout b) ps → ElementAmong (nearest begins p d) ps
    list_element p _ (ways.first s ss d) ps h = by_element (element_within begins p d) refl (λ el e. within_first ps h (λ qs k. stmt_element p s d qs k el e))
      where
        by_element : (o : Option (Element f)) → element_within begins p d ≡ o → ((el : Element f) → element_within begins p d ≡ Some el → ElementWithin el ps) → ElementAmong (or_element o (record { at = p; stmt = s; rest = ss; way = d })) ps
        by_element None e go = record { among = all_of_it ps h; front = inl refl; back = inl refl }
        by_element (Some el) e go =
            let w = go el e in
            record { among = w.among; front = inr w.front; back = inr w.back }
    list_element p _ (ways.later s ss d) ps h =
        let e = list_element (behind begins s p) ss d h.rest.front h.rest.first in
        record {
          among = among_rest ps h (λ qs k. among_first qs k (λ rs l. (list_element (behind begins s p) ss d rs l).among));
          front = inr (front_is e.among.front e.front);
          back = back_is e.among.back e.back;
        }
      where
        front_is : (xs : Tokens) → (xs ≡ []) ⊎ LastIs ListFront xs → LastIs ListFront (h.front ++ xs)
        front_is xs (inl none) = subst (λ x. LastIs ListFront (h.front ++ x)) (sym none) (subst (LastIs ListFront) (sym (append-nil h.front)) (stmt_last s h.front h.first))
        front_is xs (inr some) = last_behind ListFront h.front xs some

        back_is : (xs : Tokens) → (xs ≡ []) ⊎ FirstIs ListBack xs → (xs ++ h.rest.back ≡ []) ⊎ FirstIs ListBack (xs ++ h.rest.back)
        back_is xs (inl none) = inl (λ i. none i ++ h.rest.rest i)
        back_is xs (inr some) = inr (first_before ListBack xs h.rest.back some)
