-- The rows of a program that was read from texts have identifiers for names.
use Rattle.std.proofs.Common.{◌≡◌, ℕ, zero, suc, List, [], ◌∷◌, ◌++◌, Option, Some, None, Bool, true, false, refl, sym, subst}
use Rattle.std.specs.Prelude.{map, slice_get}
use Rattle.jr_lex.specs.Replacing.{IsName}
use Rattle.jr_ast.specs.declared.operators.ModWord.{ModWord}
use Rattle.jr_ast.specs.MemberTree as syntax
use Rattle.jr_grammar.specs.Tokens.{Token}
use Rattle.jr_grammar.specs.Lexical.{AreLexical}
use Rattle.jr_grammar.specs.Spelling.{type_toks}
use Rattle.jr_grammar.specs.MemberSpelling.{modifiers_toks, result_toks, extends_toks, class_toks, member_toks, members_toks, package_toks, classes_toks, unit_toks}
use Rattle.jr_grammar.specs.Reads.{Reads}
use Rattle.jr_table.specs.Keys.{ClassKey}
use Rattle.jr_table.specs.Decls.{class_decl}
use Rattle.jr_table.specs.Rows.{Row}
use Rattle.jr_table.specs.Prelude.{prelude_rows}
use Rattle.jr_table.specs.DeclaredItems.{Written, Item, class_item, field_item, method_item, ctor_item, DeclaredItem, class_key, member_declarations, class_declarations, members_declarations, classes_declarations, declarations_from, declarations_of}
use Rattle.jr_table.specs.ProgramRows.{AreRowsOfDeclarations}
use Rattle.jr_images.specs.TextLaws.{IsOuterName, IsNamedClass, IsNamedDecl, AreNamed, RowsAreNamed}
use Rattle.jr_images.proofs.IdentifierNames.{without_dot, object_name, string_name, class_name, thread_name, run_name, start_name}

-- ---- tokens

lexical_front : (xs ys : List Token) → AreLexical (xs ++ ys) → AreLexical xs
lexical_front [] ys h = tt
lexical_front (x ∷ xs) ys h = (h.0, lexical_front xs ys h.1)

lexical_back : (xs ys : List Token) → AreLexical (xs ++ ys) → AreLexical ys
lexical_back [] ys h = h
lexical_back (x ∷ xs) ys h = lexical_back xs ys h.1

-- ---- declarations

abbrev IsNamedItem : Item → Type 0
IsNamedItem (class_item c) = IsNamedClass c.key
IsNamedItem (field_item f) = IsNamedClass f.of × IsName f.name
IsNamedItem (method_item m) = IsNamedClass m.of × IsName m.name
IsNamedItem (ctor_item c) = IsNamedClass c.of

abbrev AreNamedItems : List Item → Type 0
AreNamedItems [] = Unit {0}
AreNamedItems (x ∷ xs) = IsNamedItem x × AreNamedItems xs

items_join : (xs ys : List Item) → AreNamedItems xs → AreNamedItems ys → AreNamedItems (xs ++ ys)
items_join [] ys h k = k
items_join (x ∷ xs) ys h k = (h.0, items_join xs ys h.1 k)

abbrev AreNamedDeclarations : List DeclaredItem → Type 0
AreNamedDeclarations [] = Unit {0}
AreNamedDeclarations (s ∷ ss) = IsNamedItem s.item × AreNamedDeclarations ss

declarations_join : (xs ys : List DeclaredItem) → AreNamedDeclarations xs → AreNamedDeclarations ys → AreNamedDeclarations (xs ++ ys)
declarations_join [] ys h k = k
declarations_join (x ∷ xs) ys h k = (h.0, declarations_join xs ys h.1 k)

of_file : (file : ℕ) (xs : List Item) → AreNamedItems xs → AreNamedDeclarations (map (λ (i : Item). record { file = file; item = i }) xs)
of_file file [] h = tt
of_file file (x ∷ xs) h = (h.0, of_file file xs h.1)

module _ {A : Type 0} (begins : A → ℕ → ℕ) where
  mutual
    unfolding member_declarations

    in_member : (base : ℕ) (of : ClassKey) → IsNamedClass of → (x : syntax.Member A) → AreLexical (member_toks x) → AreNamedItems (member_declarations begins base of x)
    in_member base of n (syntax.field m mods t w init) h =
        let b = lexical_back (type_toks t) _ (lexical_back (modifiers_toks mods) _ h) in ((n, b.0), tt)
    in_member base of n (syntax.method m mods t w ps body) h =
        let b = lexical_back (result_toks t) _ (lexical_back (modifiers_toks mods) _ h) in ((n, b.0), tt)
    in_member base of n (syntax.constructor m mods w ps args body) h = (n, tt)
    in_member base of n (syntax.inner m c) h = in_class (begins m base) (Some of.name) n.1 c h

    in_class : (base : ℕ) (outer : Option (List ℕ)) → IsOuterName outer → (c : syntax.Class A) → AreLexical (class_toks c) → AreNamedItems (class_declarations begins base outer c)
    in_class base outer n (syntax.class m mods w t ms) h =
        let b = lexical_back (modifiers_toks mods) _ h in
        let body = lexical_back (extends_toks t) _ b.1.1 in
        ((n, b.1.0), in_members (begins m base) (class_key begins outer w.text) (n, b.1.0) ms (lexical_front (members_toks ms) _ body.1))

    in_members : (base : ℕ) (of : ClassKey) → IsNamedClass of → (ms : syntax.Members A) → AreLexical (members_toks ms) → AreNamedItems (members_declarations begins base of ms)
    in_members base of n syntax.end h = tt
    in_members base of n (syntax.more m ms) h =
        items_join (member_declarations begins base of m) (members_declarations begins base of ms) (in_member base of n m (lexical_front (member_toks m) (members_toks ms) h)) (in_members base of n ms (lexical_back (member_toks m) (members_toks ms) h))

  in_classes : (base : ℕ) (cs : List (syntax.Class A)) → AreLexical (classes_toks cs) → AreNamedItems (classes_declarations begins base cs)
  in_classes base [] h = tt
  in_classes base (c ∷ cs) h =
      items_join (class_declarations begins base None c) (classes_declarations begins base cs) (in_class base None tt c (lexical_front (class_toks c) (classes_toks cs) h)) (in_classes base cs (lexical_back (class_toks c) (classes_toks cs) h))

  in_units : (file : ℕ) (us : List (syntax.Unit A)) → ((n : ℕ) (u : syntax.Unit A) → slice_get us n ≡ Some u → AreLexical (unit_toks u)) → AreNamedDeclarations (declarations_from begins file us)
  in_units file [] h = tt
  in_units file (u ∷ us) h =
      declarations_join (map (λ (i : Item). record { file = file; item = i }) (classes_declarations begins (begins u.mark 0) u.classes)) (declarations_from begins (suc file) us)
      (of_file file (classes_declarations begins (begins u.mark 0) u.classes) (in_classes (begins u.mark 0) u.classes (lexical_back (package_toks u.package_name) (classes_toks u.classes) (h 0 u refl))))
      (in_units (suc file) us (λ n v e. h (suc n) v e))

  all_declarations : (us : List (syntax.Unit A)) → ((n : ℕ) (u : syntax.Unit A) → slice_get us n ≡ Some u → AreLexical (unit_toks u)) → AreNamedDeclarations (declarations_of begins us)
  unfolding declarations_of
  all_declarations us h = in_units 0 us h

-- ---- rows

abbrev AreNamedRows : List Row → Type 0
AreNamedRows [] = Unit {0}
AreNamedRows (r ∷ rs) = IsNamedDecl r.decl × AreNamedRows rs

named_at : (rows : List Row) → AreNamedRows rows → (j : ℕ) (r : Row) → slice_get rows j ≡ Some r → IsNamedDecl r.decl
named_at [] h j r e = absurd cc
named_at (x ∷ rows) h zero r e = let same : x ≡ r = cc in subst (λ (z : Row). IsNamedDecl z.decl) same h.0
named_at (x ∷ rows) h (suc j) r e = named_at rows h.1 j r e

prelude_named : AreNamedRows prelude_rows
prelude_named = (
  (tt, object_name),
  ((tt, object_name), ((tt, string_name), ((tt, class_name), ((tt, thread_name), ((tt, thread_name), (((tt, thread_name), run_name), (((tt, thread_name), start_name), tt))))))),
)

rows_join : (xs ys : List Row) → AreNamedRows xs → AreNamedRows ys → AreNamedRows (xs ++ ys)
rows_join [] ys h k = k
rows_join (x ∷ xs) ys h k = (h.0, rows_join xs ys h.1 k)

module _ (all : List DeclaredItem) where
  -- the rows of one class
  of_class : (file at : ℕ) (k : ClassKey) (m : List ModWord) (p : Option Written) (b : Bool) (ss : List DeclaredItem) → IsNamedClass k → ((own : List Row) → AreRowsOfDeclarations all ss own → AreNamedRows own)
      → (own : List Row) → AreRowsOfDeclarations all (record { file = file; item = class_item (record { at = at; key = k; modifiers = m; parent = p; has_ctor = b }) } ∷ ss) own → AreNamedRows own
  of_class file at k m p true ss n rest own (r, more, is, row, others) = subst AreNamedRows (sym is) (subst IsNamedDecl (sym row.decl) n, rest more others)
  of_class file at k m p false ss n rest own (r, more, is, row, others) = subst AreNamedRows (sym is) (subst IsNamedDecl (sym row.decl) n, (n, rest more others))

  of_declaration : (file : ℕ) (x : Item) (ss : List DeclaredItem) → IsNamedItem x → ((own : List Row) → AreRowsOfDeclarations all ss own → AreNamedRows own)
      → (own : List Row) → AreRowsOfDeclarations all (record { file = file; item = x } ∷ ss) own → AreNamedRows own
  of_declaration file (class_item c) ss n rest own are = of_class file c.at c.key c.modifiers c.parent c.has_ctor ss n rest own are
  of_declaration file (field_item f) ss n rest own (r, more, is, row, others) = subst AreNamedRows (sym is) (subst (λ (z : Row). IsNamedDecl z.decl) (sym row.is) n, rest more others)
  of_declaration file (method_item m) ss n rest own (r, more, is, row, others) = subst AreNamedRows (sym is) (subst (λ (z : Row). IsNamedDecl z.decl) (sym row.is) n, rest more others)
  of_declaration file (ctor_item c) ss n rest own (r, more, is, row, others) = subst AreNamedRows (sym is) (subst (λ (z : Row). IsNamedDecl z.decl) (sym row.is) n, rest more others)

  of_declarations : (ss : List DeclaredItem) → AreNamedDeclarations ss → (own : List Row) → AreRowsOfDeclarations all ss own → AreNamedRows own
  of_declarations [] n own are = subst AreNamedRows (sym are) tt
  of_declarations (s ∷ ss) n own are = of_declaration s.file s.item ss n.0 (of_declarations ss n.1) own are

pub rows_named : {A : Type 0} → ((bytes : List ℕ) (u : syntax.Unit A) → Reads bytes u → AreLexical (unit_toks u)) → RowsAreNamed A
rows_named lexical begins rows units read (own, parts, are) =
    let declarations = all_declarations begins units (λ n u e. let r = read n u e in lexical r.0 u r.1) in
    let named : AreNamedRows rows = subst AreNamedRows (sym parts) (rows_join prelude_rows own prelude_named (of_declarations (declarations_of begins units) (declarations_of begins units) declarations own are)) in
    let decls : AreNamed rows = λ d j is. subst IsNamedDecl is.declares (named_at rows named j is.row is.stands) in
    (decls, λ k j is. without_dot k.name (decls (class_decl k) j is).1)
