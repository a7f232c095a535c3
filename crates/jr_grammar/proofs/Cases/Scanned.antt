-- The items of a text of ASCII characters, for cases that begin with a text's bytes.
use Rattle.std.proofs.Common.{◌≡◌, ℕ, zero, suc, ◌+◌, ◌-◌, Bool, true, false, ◌&&◌, List, [], ◌∷◌, ◌++◌, length, Option, Some, None, option_map, refl, sym, ap, subst, ◌∙◌, arith}
use Rattle.std.specs.Prelude.{Ok, Err, nat_lt}
use Rattle.std.specs.Str.{IsUtf8, chars}
use Rattle.std.proofs.lemmas.Bool.{ltb-true}
use Rattle.std.proofs.lemmas.List.{length-append}
use Rattle.std.proofs.lemmas.Str.{encode_ascii, chars_from_encodes}
use Rattle.std.proofs.Math.Utf8.{encodes, scalars}
use Rattle.jr_lex.specs.declared.items.Item.{Item}
use Rattle.jr_lex.specs.Characters.{byte_len}
use Rattle.jr_lex.specs.Lexes.{Cuts, IsEnd, Lexes, span_of}
use Rattle.jr_lex.specs.Scan.{Scanned, scan}
use Rattle.jr_lex.proofs.CutLaws.{one_lexing}
use Rattle.jr_lex.proofs.ScanMeaning.{scan-item}
use Rattle.jr_ast.specs.StatementTree.{Stmt}
use Rattle.jr_ast.specs.MemberTree.{Member, Unit as UnitTree}
use Rattle.jr_grammar.specs.Tokens.{tokens_of}
use Rattle.jr_grammar.specs.Bare.{Bare}
use Rattle.jr_grammar.specs.Units.{IsStatement, IsNoStatement, IsMember, IsNoMember, IsUnit, IsNoUnit}
use Rattle.jr_grammar.specs.Reads.{Reads, ReadsMember, ReadsStatement}

-- ---- ASCII

abbrev pub are_ascii : List ℕ → Bool
are_ascii [] = true
are_ascii (c ∷ cs) = nat_lt c 128 && are_ascii cs

first : (a b : Bool) → a && b ≡ true → a ≡ true
first true b h = refl
first false b h = absurd cc

second : (a b : Bool) → a && b ≡ true → b ≡ true
second true b h = h
second false b h = absurd cc

front_ascii : (cs ds : List ℕ) → are_ascii (cs ++ ds) ≡ true → encodes cs ≡ cs
front_ascii [] ds h = refl
front_ascii (c ∷ cs) ds h =
    λ i. encode_ascii c (ltb-true c 128 (first (nat_lt c 128) (are_ascii (cs ++ ds)) h)) i ++ front_ascii cs ds (second (nat_lt c 128) (are_ascii (cs ++ ds)) h) i

rest_ascii : (cs ds : List ℕ) → are_ascii (cs ++ ds) ≡ true → are_ascii ds ≡ true
rest_ascii [] ds h = h
rest_ascii (c ∷ cs) ds h = rest_ascii cs ds (second (nat_lt c 128) (are_ascii (cs ++ ds)) h)

-- ---- the items

-- where what is left begins, behind a text from the byte `at` on
abbrev next : ℕ → List ℕ → List ℕ → ℕ
next at text rest = at + (length text - length rest)

abbrev cut_on : (ℕ → List ℕ → Option (List Item)) → ℕ → List ℕ → Scanned → Option (List Item)
cut_on again at text (Ok x) = option_map (λ (items : List Item). (record { kind = x.0; span = span_of at (next at text x.1) }) ∷ items) (again (next at text x.1) x.1)
cut_on again at text (Err fault) = None

-- at most so many
abbrev pub cut : ℕ → ℕ → List ℕ → Option (List Item)
cut n at [] = Some []
cut zero at (c ∷ cs) = None
cut (suc n) at (c ∷ cs) = cut_on (λ (a : ℕ) (text : List ℕ). cut n a text) at (c ∷ cs) (scan at c cs)

ends_at : (at : ℕ) (text front rest : List ℕ) → are_ascii text ≡ true → text ≡ front ++ rest → at + byte_len front ≡ next at text rest
ends_at at text front rest h e =
    let bytes : byte_len front ≡ length front = ap length (front_ascii front rest (ap are_ascii (sym e) ∙ h)) in
    omega (arith, bytes, ap length e, length-append front rest)

cuts : (n at : ℕ) (text : List ℕ) (items : List Item) → are_ascii text ≡ true → cut n at text ≡ Some items → Cuts IsEnd at text items
cuts n at [] items h e = let q : [] ≡ items = cc in subst (Cuts IsEnd at []) q refl
cuts zero at (c ∷ cs) items h e = absurd cc
cuts (suc n) at (c ∷ cs) items h e = go (scan at c cs) refl e (λ a t is k l. cuts n a t is k l)
  where
    more : (again : Option (List Item)) (i : Item) (items : List Item) → option_map (λ (is : List Item). i ∷ is) again ≡ Some items → (is : List Item) × (again ≡ Some is) × (i ∷ is ≡ items)
    more None i items e = absurd cc
    more (Some is) i items e = (is, refl, cc)

    go : (found : Scanned) → scan at c cs ≡ found → cut_on (λ (a : ℕ) (text : List ℕ). cut n a text) at (c ∷ cs) found ≡ Some items
        → ((a : ℕ) (t : List ℕ) (is : List Item) → are_ascii t ≡ true → cut n a t ≡ Some is → Cuts IsEnd a t is) → Cuts IsEnd at (c ∷ cs) items
    go (Err f) s e again = absurd cc
    go (Ok x) s e again =
        let taken = scan-item at c cs x.0 x.1 s in
        let p = taken.item.taken.parts in
        let to : at + byte_len taken.front ≡ next at (c ∷ cs) x.1 = ends_at at (c ∷ cs) taken.front x.1 h p in
        let m = more (cut n (next at (c ∷ cs) x.1) x.1) (record { kind = x.0; span = span_of at (next at (c ∷ cs) x.1) }) items e in
        let rest = again (next at (c ∷ cs) x.1) x.1 m.0 (rest_ascii taken.front x.1 (ap are_ascii (sym p) ∙ h)) m.1 in
        subst (Cuts IsEnd at (c ∷ cs)) ((λ i. (record { kind = x.0; span = span_of at (to i) }) ∷ m.0) ∙ m.2) (taken.front, x.1, taken.item, subst (λ (a : ℕ). Cuts IsEnd a x.1 m.0) (sym to) rest)

append_none : (cs : List ℕ) → cs ++ [] ≡ cs
append_none [] = refl
append_none (c ∷ cs) = λ i. c ∷ append_none cs i

pub ascii_chars : (bytes : List ℕ) → are_ascii bytes ≡ true → scalars bytes ≡ true → chars bytes ≡ bytes
ascii_chars bytes h s =
    let same : encodes bytes ≡ bytes = front_ascii bytes [] (ap are_ascii (append_none bytes) ∙ h) in
    sym (chars_from_encodes bytes bytes (bytes, (s, same)) same)

pub lexes : (bytes : List ℕ) (items : List Item) → are_ascii bytes ≡ true → scalars bytes ≡ true → cut (length bytes) 0 bytes ≡ Some items → Lexes bytes items
lexes bytes items h s e =
    let same : encodes bytes ≡ bytes = front_ascii bytes [] (ap are_ascii (append_none bytes) ∙ h) in
    let u : IsUtf8 bytes = (bytes, (s, same)) in
    record { is_text = u; cut = subst (λ (text : List ℕ). Cuts IsEnd 0 text items) (chars_from_encodes bytes bytes u same) (cuts (length bytes) 0 bytes items h e) }

-- ---- a text whose tokens are no tree reads as none

pub no_unit : (bytes : List ℕ) (items : List Item) → Lexes bytes items → IsNoUnit (tokens_of bytes items) → (unit : UnitTree Bare) → Reads bytes unit → ⊥
no_unit bytes items h none unit r = none unit (subst (λ (is : List Item). IsUnit (tokens_of bytes is) unit) (one_lexing bytes r.items items r.lexes h) r.is)

pub no_member : (nested : Bool) (name : List ℕ) (bytes : List ℕ) (items : List Item) → Lexes bytes items → IsNoMember nested name (tokens_of bytes items)
    → (member : Member Bare) → ReadsMember nested name bytes member → ⊥
no_member nested name bytes items h none member r = none member (subst (λ (is : List Item). IsMember nested name (tokens_of bytes is) member) (one_lexing bytes r.items items r.lexes h) r.is)

pub no_statement : (bytes : List ℕ) (items : List Item) → Lexes bytes items → IsNoStatement (tokens_of bytes items) → (stmt : Stmt Bare) → ReadsStatement bytes stmt → ⊥
no_statement bytes items h none stmt r = none stmt (subst (λ (is : List Item). IsStatement (tokens_of bytes is) stmt) (one_lexing bytes r.items items r.lexes h) r.is)
