-- One lexeme in front of a text: wherever the text begins, and in front of which others (JLS 3.2).
use Rattle.std.proofs.Common.{◌≡◌, ℕ, ◌+◌, ◌==◌, true, false, ◌&&◌, List, [], ◌∷◌, ◌++◌, Ok, refl, sym, ap, ◌∙◌, subst, inl, inr, arith}
use Rattle.std.specs.Prelude.{codes}
use Rattle.std.proofs.lemmas.Bool.{cases_Bool, and_parts, false_from_ne_true, cond-true, cond-false}
use Rattle.std.proofs.lemmas.List.{append_assoc, append_cancel_right, length-append}
use Rattle.jr_lex.specs.declared.items.Item.{Item}
use Rattle.jr_lex.specs.declared.items.ItemKind.{ItemKind}
use Rattle.jr_lex.specs.declared.items.ItemKind.TheVariants.{Token as TokenItem, Blank, Comment}
use Rattle.jr_lex.specs.declared.items.TokenKind.{TokenKind}
use Rattle.jr_lex.specs.declared.items.TokenKind.TheVariants.{Mark}
use Rattle.jr_lex.specs.declared.items.Symbol.{Symbol}
use Rattle.jr_lex.specs.declared.faults.LexFault.{LexFault}
use Rattle.jr_lex.specs.declared.faults.LexFault.TheVariants as fault
use Rattle.jr_lex.specs.Characters.{is_blank, all_pass, first_passes, byte_len}
use Rattle.jr_lex.specs.Scan.{scan, Scanned, slash_at, marked}
use Rattle.jr_lex.specs.Lexemes.{IsLexeme, IsLexemeAt}
use Rattle.jr_lex.specs.Faults.{IsFaultAt}
use Rattle.jr_lex.specs.Lexes.{IsItemAt}
use Rattle.jr_lex.specs.Replacing.{item_of}
use Rattle.jr_lex.specs.Beside.{EndsBefore}
use Rattle.jr_lex.specs.Near.{IsCut, Near, EndsLine}
use Rattle.jr_lex.specs.Seams.{Meets}
use Rattle.jr_lex.proofs.ScanMeaning.{TakesItem, scan-item, item-scan, no_empty}
use Rattle.jr_lex.proofs.ScanLaws.{kind_same}
use Rattle.jr_lex.proofs.FirstLaws.{scan-slash}
use Rattle.jr_lex.proofs.EndLaws.{lexeme_ends}
use Rattle.jr_lex.proofs.BesideLaws.{lets_end}
use Rattle.jr_lex.proofs.Near.{scan_there, line_local, block_local, slash_symbol, line_too_short, block_too_short}

-- ---- at whatever place

-- what is wrong at a place is wrong at any
pub fault_anywhere : (at other : ℕ) (text : List ℕ) (f : LexFault) → IsFaultAt at text f → (g : LexFault) × IsFaultAt other text g
fault_anywhere at other text (fault.BadByte place) h = (fault.BadByte other, (refl, h.1))
fault_anywhere at other text (fault.OpenComment place) h = (fault.OpenComment other, (refl, h.1))
fault_anywhere at other text (fault.OpenString place) h = (fault.OpenString other, (refl, h.1))
fault_anywhere at other text (fault.Escape place) h = (fault.Escape (other + byte_len h.0), (h.0, refl, h.2))
fault_anywhere at other text (fault.BadNumber place) h = (fault.BadNumber other, (refl, h.1))
fault_anywhere at other text fault.Memory h = absurd h

pub cut_item : (kind : ItemKind) (front rest : List ℕ) (at : ℕ) → IsCut kind front rest → IsItemAt at (front ++ rest) (item_of kind at (at + byte_len front)) front rest
cut_item kind front rest at h = record { taken = h.taken; sound = h.sound at; place = refl }

-- an item at one place is one at any
pub item_cut : (at : ℕ) (i : Item) (front rest : List ℕ) → IsItemAt at (front ++ rest) i front rest → IsCut i.kind front rest
item_cut at i front rest h = record {
  taken = h.taken;
  sound = λ n wrong there. (let here = fault_anywhere n at (front ++ rest) wrong there in h.sound here.0 here.1);
}

-- and stands in front of each text in front of which its lexeme is cut
pub item_again : (at : ℕ) (i : Item) (front rest other : List ℕ) → IsItemAt at (front ++ rest) i front rest → IsCut i.kind front other → IsItemAt at (front ++ other) i front other
item_again at i front rest other h c = record { taken = c.taken; sound = c.sound at; place = h.place }

pub lexeme_cut : (kind : ItemKind) (front rest : List ℕ) → IsLexeme kind front → EndsBefore kind rest → IsCut kind front rest
lexeme_cut kind front rest h ends = record { taken = (lexeme_ends 0 kind front rest h ends).taken; sound = λ at. (lexeme_ends at kind front rest h ends).sound }

-- what is scanned in front of one text and of another
again : (kind : ItemKind) (c : ℕ) (tail rest other : List ℕ)
    → ((at : ℕ) → scan at c (tail ++ rest) ≡ Ok (kind, rest) → scan at c (tail ++ other) ≡ Ok (kind, other)) → IsCut kind (c ∷ tail) rest → IsCut kind (c ∷ tail) other
again kind c tail rest other goes h =
    let first = there 0 in
    let fronts : first.front ≡ c ∷ tail = append_cancel_right first.front (c ∷ tail) other (sym first.item.taken.parts) in
    record {
      taken = subst (λ f. IsLexemeAt (c ∷ (tail ++ other)) kind f other) fronts first.item.taken;
      sound = λ at. (there at).item.sound;
    }
  where
    there : (at : ℕ) → TakesItem at (c ∷ (tail ++ other)) kind other
    there at = scan-item at c (tail ++ other) kind other (goes at (item-scan at c (tail ++ rest) (item_of kind at (at + byte_len (c ∷ tail))) (c ∷ tail) rest (cut_item kind (c ∷ tail) rest at h)))

-- behind the same character
pub cut_near : (kind : ItemKind) (front rest other : List ℕ) → Near rest other → EndsLine kind rest other → IsCut kind front rest → IsCut kind front other
cut_near kind [] rest other near line h = absurd (no_empty kind h.taken.lexeme)
cut_near kind (c ∷ tail) rest other near line h = again kind c tail rest other (λ at. scan_there at c kind tail rest other near line) h

-- ---- a comment

comment_token : (s : Symbol) (rest other : List ℕ) → (let a : Scanned = marked (s, rest) in a ≡ Ok (Comment, other)) → ⊥
comment_token s rest other e = (let same : TokenItem (Mark s) ≡ Comment = kind_same _ _ _ _ e in cc)

comment_slash : (at : ℕ) (tail rest other : List ℕ) → EndsLine Comment rest other → slash_at at (tail ++ rest) ≡ Ok (Comment, rest) → slash_at at (tail ++ other) ≡ Ok (Comment, other)
comment_slash at [] [] other line e = absurd (comment_token _ _ _ e)
comment_slash at [] (c ∷ cs) other line e =
    elim (cases_Bool (c == 47)) [
      | inl slash ↦ absurd (line_too_short at c cs Comment (sym (cond-true (c == 47) _ _ slash) ∙ e))
      | inr no_slash ↦ elim (cases_Bool (c == 42)) [
        | inl star ↦ absurd (block_too_short at c cs Comment _ refl (sym (cond-true (c == 42) _ _ star) ∙ (sym (cond-false (c == 47) _ _ no_slash) ∙ e)))
        | inr no_star ↦ absurd (comment_token _ _ _ (sym (slash_symbol at c cs no_slash no_star) ∙ e))
      ]
    ]
comment_slash at (c ∷ tail) rest other line e =
    elim (cases_Bool (c == 47)) [
      | inl slash ↦ cond-true (c == 47) _ _ slash ∙ line_local at Comment tail rest other line (sym (cond-true (c == 47) _ _ slash) ∙ e)
      | inr no_slash ↦ elim (cases_Bool (c == 42)) [
        | inl star ↦ cond-false (c == 47) _ _ no_slash ∙ (cond-true (c == 42) _ _ star
            ∙ block_local at Comment tail rest other (sym (cond-true (c == 42) _ _ star) ∙ (sym (cond-false (c == 47) _ _ no_slash) ∙ e)))
        | inr no_star ↦ absurd (comment_token _ _ _ (sym (slash_symbol at c (tail ++ rest) no_slash no_star) ∙ e))
      ]
    ]

-- a comment begins with `/`
pub comment_begins : (c : ℕ) (tail : List ℕ) → IsLexeme Comment (c ∷ tail) → c ≡ 47
comment_begins c tail h = elim h [ inl x ↦ line x.body x.opens | inr x ↦ block x.body x.opens ]
  where
    line : (body : List ℕ) → c ∷ tail ≡ codes "//" ++ body → c ≡ 47
    line body e = cc

    block : (body : List ℕ) → c ∷ tail ≡ codes "/*" ++ body ++ codes "*/" → c ≡ 47
    block body e = cc

-- it is one in front of anything, if where a line ended it ends
pub comment_cut : (front rest other : List ℕ) → EndsLine Comment rest other → IsCut Comment front rest → IsCut Comment front other
comment_cut [] rest other line h = absurd (no_empty Comment h.taken.lexeme)
comment_cut (c ∷ tail) rest other line h =
    let first : c ≡ 47 = comment_begins c tail h.taken.lexeme in
    again Comment c tail rest other (λ at e. subst (λ x. scan at x (tail ++ other) ≡ Ok (Comment, other)) (sym first)
    (scan-slash at _ ∙ comment_slash at tail rest other line (sym (scan-slash at _) ∙ (ap (λ x. scan at x (tail ++ rest)) (sym first) ∙ e)))) h

-- ---- a blank

-- what follows a blank is none
pub blank_ends : (front rest : List ℕ) → IsCut Blank front rest → first_passes is_blank rest ≡ false
blank_ends front [] h = refl
blank_ends front (c ∷ cs) h = false_from_ne_true (is_blank c) (λ blank.
    let longer : List ℕ = front ++ c ∷ [] in
    let lexeme : IsLexeme Blank longer = ((λ e. some front e), all_more front (h.taken.lexeme).1 blank) in
    let parts : front ++ c ∷ cs ≡ longer ++ cs = sym (append_assoc front (c ∷ []) cs) in
    omega (arith, h.taken.longest Blank longer cs parts lexeme, length-append front (c ∷ [])))
  where
    some : (xs : List ℕ) → xs ++ c ∷ [] ≡ [] → ⊥
    some [] e = cc
    some (x ∷ xs) e = cc

    all_more : (xs : List ℕ) → all_pass is_blank xs ≡ true → is_blank c ≡ true → all_pass is_blank (xs ++ c ∷ []) ≡ true
    all_more [] h e = ap (λ b. b && true) e
    all_more (x ∷ xs) h e = (let p = and_parts (is_blank x) (all_pass is_blank xs) h in (λ i. p.0 i && all_more xs p.1 e i))

-- a token begins with no blank, and so does a comment
pub token_no_blank : (k : TokenKind) (front rest : List ℕ) → IsLexeme (TokenItem k) front → first_passes is_blank (front ++ rest) ≡ false
token_no_blank k front rest h = lets_end Blank (TokenItem k) front rest refl h

pub comment_no_blank : (front rest : List ℕ) → IsLexeme Comment front → first_passes is_blank (front ++ rest) ≡ false
comment_no_blank [] rest h = absurd (no_empty Comment h)
comment_no_blank (c ∷ cs) rest h = ap is_blank (comment_begins c cs h)

-- ---- any lexeme

-- it is cut in front of what may meet it, if that begins with no blank
pub meets_cut : (kind : ItemKind) (front old other : List ℕ) → first_passes is_blank other ≡ false → Meets kind old other → IsCut kind front old → IsCut kind front other
meets_cut (TokenItem k) front old other apart meets h = lexeme_cut (TokenItem k) front other h.taken.lexeme meets
meets_cut Blank front old other apart meets h = lexeme_cut Blank front other h.taken.lexeme apart
meets_cut Comment front old other apart meets h = comment_cut front old other meets h
