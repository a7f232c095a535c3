-- The tokens of members and classes in front of others.
use Rattle.std.proofs.Common.{◌≡◌, ℕ, Bool, List, [], ◌∷◌, ◌++◌, Some, refl, ap, append_assoc}
use Rattle.jr_lex.specs.declared.items.Keyword.TheVariants.{Class as ClassWord, Super}
use Rattle.jr_lex.specs.declared.items.Symbol.TheVariants.{OpenParen, CloseParen, OpenBrace, CloseBrace, Semicolon}
use Rattle.jr_ast.specs.Tree.{Exps}
use Rattle.jr_ast.specs.MemberTree.{Modifier, Class, class, Member, field, method, constructor, inner, Members, end, more}
use Rattle.jr_grammar.specs.Tokens.{Token, word, keyword, symbol}
use Rattle.jr_grammar.specs.Spelling.{type_toks, args_toks}
use Rattle.jr_grammar.specs.StatementSpelling.{stmts_toks}
use Rattle.jr_grammar.specs.MemberSpelling.{modifier_keyword, modifiers_toks, params_toks, init_toks, result_toks, super_toks, extends_toks, class_toks, member_toks, members_toks}
use Rattle.jr_grammar.specs.MemberShape.{MemberShaped, MembersShaped}
use Rattle.jr_grammar.specs.Bare.{Bare}
use Rattle.jr_punit_laws.specs.ClassMachine.{with_member}
use Rattle.jr_punit_laws.proofs.StatementSpell.{parts}

abbrev mutual
  pub spell_class : Class Bare → List Token → List Token
  spell_class (class m ms w parent all) x = modifiers_toks ms ++ (keyword ClassWord ∷ word w.text ∷ (extends_toks parent ++ (symbol OpenBrace ∷ spell_members all (symbol CloseBrace ∷ x))))

  pub spell_member : Member Bare → List Token → List Token
  spell_member (field m ms t w init) x = modifiers_toks ms ++ (type_toks t ++ (word w.text ∷ (init_toks init ++ (symbol Semicolon ∷ x))))
  spell_member (method m ms t w ps body) x =
      modifiers_toks ms ++ (result_toks t ++ (word w.text ∷ symbol OpenParen ∷ (params_toks ps ++ (symbol CloseParen ∷ symbol OpenBrace ∷ (stmts_toks body ++ (symbol CloseBrace ∷ x))))))
  spell_member (constructor m ms w ps args body) x =
      modifiers_toks ms ++ (word w.text ∷ symbol OpenParen ∷ (params_toks ps ++ (symbol CloseParen ∷ symbol OpenBrace ∷ (super_toks args ++ (stmts_toks body ++ (symbol CloseBrace ∷ x))))))
  spell_member (inner m c) x = spell_class c x

  pub spell_members : Members Bare → List Token → List Token
  spell_members end x = x
  spell_members (more d ds) x = spell_member d (spell_members ds x)

body_is : (ts us x : List Token) → ts ++ (symbol CloseParen ∷ symbol OpenBrace ∷ (us ++ (symbol CloseBrace ∷ x))) ≡ (ts ++ (symbol CloseParen ∷ symbol OpenBrace ∷ (us ++ (symbol CloseBrace ∷ [])))) ++ x
body_is ts us x =
    parts ts (symbol CloseParen ∷ symbol OpenBrace ∷ (us ++ (symbol CloseBrace ∷ []))) x _ _ refl
    (ap (λ (y : List Token). symbol CloseParen ∷ symbol OpenBrace ∷ y) (parts us (symbol CloseBrace ∷ []) x _ _ refl refl))

mutual
  pub spell_class-is : (c : Class Bare) (x : List Token) → spell_class c x ≡ class_toks c ++ x
  spell_class-is (class m ms w parent all) x =
      parts (modifiers_toks ms) (keyword ClassWord ∷ word w.text ∷ (extends_toks parent ++ (symbol OpenBrace ∷ (members_toks all ++ (symbol CloseBrace ∷ []))))) x _ _ refl
      (ap (λ (y : List Token). keyword ClassWord ∷ word w.text ∷ y)
      (parts (extends_toks parent) (symbol OpenBrace ∷ (members_toks all ++ (symbol CloseBrace ∷ []))) x _ _ refl
      (ap (λ (y : List Token). symbol OpenBrace ∷ y) (parts (members_toks all) (symbol CloseBrace ∷ []) x _ _ (spell_members-is all (symbol CloseBrace ∷ x)) refl))))

  pub spell_member-is : (d : Member Bare) (x : List Token) → spell_member d x ≡ member_toks d ++ x
  spell_member-is (field m ms t w init) x =
      parts (modifiers_toks ms) (type_toks t ++ (word w.text ∷ (init_toks init ++ (symbol Semicolon ∷ [])))) x _ _ refl
      (parts (type_toks t) (word w.text ∷ (init_toks init ++ (symbol Semicolon ∷ []))) x _ _ refl (ap (λ (y : List Token). word w.text ∷ y) (parts (init_toks init) (symbol Semicolon ∷ []) x _ _ refl refl)))
  spell_member-is (method m ms t w ps body) x =
      parts (modifiers_toks ms) (result_toks t ++ (word w.text ∷ symbol OpenParen ∷ (params_toks ps ++ (symbol CloseParen ∷ symbol OpenBrace ∷ (stmts_toks body ++ (symbol CloseBrace ∷ [])))))) x _ _ refl
      (parts (result_toks t) (word w.text ∷ symbol OpenParen ∷ (params_toks ps ++ (symbol CloseParen ∷ symbol OpenBrace ∷ (stmts_toks body ++ (symbol CloseBrace ∷ []))))) x _ _ refl
      (ap (λ (y : List Token). word w.text ∷ symbol OpenParen ∷ y) (body_is (params_toks ps) (stmts_toks body) x)))
  spell_member-is (constructor m ms w ps args body) x =
      parts (modifiers_toks ms) (word w.text ∷ symbol OpenParen ∷ (params_toks ps ++ (symbol CloseParen ∷ symbol OpenBrace ∷ (super_toks args ++ (stmts_toks body ++ (symbol CloseBrace ∷ [])))))) x _ _ refl
      (ap (λ (y : List Token). word w.text ∷ symbol OpenParen ∷ y)
      (parts (params_toks ps) (symbol CloseParen ∷ symbol OpenBrace ∷ (super_toks args ++ (stmts_toks body ++ (symbol CloseBrace ∷ [])))) x _ _ refl
      (ap (λ (y : List Token). symbol CloseParen ∷ symbol OpenBrace ∷ y) (parts (super_toks args) (stmts_toks body ++ (symbol CloseBrace ∷ [])) x _ _ refl (parts (stmts_toks body) (symbol CloseBrace ∷ []) x _ _ refl refl)))))
  spell_member-is (inner m c) x = spell_class-is c x

  pub spell_members-is : (ds : Members Bare) (x : List Token) → spell_members ds x ≡ members_toks ds ++ x
  spell_members-is end x = refl
  spell_members-is (more d ds) x = parts (member_toks d) (members_toks ds) x _ _ (spell_member-is d (spell_members ds x)) (spell_members-is ds x)

-- the call of a superclass's constructor
pub super-is : (es : Exps Bare) (x : List Token) → super_toks (Some es) ++ x ≡ keyword Super ∷ symbol OpenParen ∷ (args_toks es ++ (symbol CloseParen ∷ symbol Semicolon ∷ x))
super-is es x = ap (λ (y : List Token). keyword Super ∷ symbol OpenParen ∷ y) (append_assoc (args_toks es) (symbol CloseParen ∷ symbol Semicolon ∷ []) x)

-- ---- one modifier or member more

pub modifiers-one : (ms : List (Modifier Bare)) (m : Modifier Bare) (x : List Token) → modifiers_toks (ms ++ (m ∷ [])) ++ x ≡ modifiers_toks ms ++ (keyword (modifier_keyword m.word) ∷ x)
modifiers-one [] m x = refl
modifiers-one (n ∷ ms) m x = ap (λ (y : List Token). keyword (modifier_keyword n.word) ∷ y) (modifiers-one ms m x)

pub members-with_member : (ds : Members Bare) (d : Member Bare) (x : List Token) → spell_members (with_member ds d) x ≡ spell_members ds (spell_member d x)
members-with_member end d x = refl
members-with_member (more e ds) d x = ap (spell_member e) (members-with_member ds d x)

pub shaped-with_member : (nested : Bool) (name : List ℕ) (ds : Members Bare) (d : Member Bare) → MembersShaped nested name ds → MemberShaped nested name d → MembersShaped nested name (with_member ds d)
shaped-with_member nested name end d h k = (k, tt)
shaped-with_member nested name (more e ds) d h k = (h.0, shaped-with_member nested name ds d h.1 k)

abbrev pub joined_members : Members Bare → Members Bare → Members Bare
joined_members end ds = ds
joined_members (more e es) ds = more e (joined_members es ds)

pub joined-with_member : (es : Members Bare) (d : Member Bare) (ds : Members Bare) → joined_members (with_member es d) ds ≡ joined_members es (more d ds)
joined-with_member end d ds = refl
joined-with_member (more e es) d ds = ap (more e) (joined-with_member es d ds)

pub joined_members-end : (es : Members Bare) → joined_members es end ≡ es
joined_members-end end = refl
joined_members-end (more e es) = ap (more e) (joined_members-end es)
