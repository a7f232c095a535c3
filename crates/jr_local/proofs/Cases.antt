-- Small examples, each a sentence of the rules: spaces between neighbours, numbers of locals, scopes.
use Rattle.std.proofs.Common.{◌≡◌, ℕ, [], ◌∷◌, Some, None, codes, refl}
use Rattle.jr_text.specs.declared.spans.Span.{Span}
use Rattle.jr_lex.specs.declared.items.Item.{Item}
use Rattle.jr_lex.specs.declared.items.ItemKind.TheVariants.{Token as TokenItem, Blank}
use Rattle.jr_lex.specs.declared.items.TokenKind.{TokenKind}
use Rattle.jr_lex.specs.declared.items.TokenKind.TheVariants.{Word, Keyword as KeywordKind, Mark}
use Rattle.jr_lex.specs.declared.items.Keyword.TheVariants.{Return}
use Rattle.jr_lex.specs.declared.items.Symbol.TheVariants.{Minus, Plus, Star, Semicolon, OpenParen, CloseParen}
use Rattle.jr_grammar.specs.Tokens.{word, integer, symbol}
use Rattle.jr_table.specs.Keys.{int}
use Rattle.jr_table.specs.Decls.{MemberKey, head, field, LocalKey}
use Rattle.jr_table.specs.Scope.{ScopeLocal}
use Rattle.jr_pieces.specs.Declared.{first_named}
use Rattle.jr_moved_texts.specs.Spaces.{spaced}
use Rattle.jr_local.specs.Scopes.{made_room, closed_up, room, earlier, kept_locals, with_made_local}

abbrev span : ℕ → ℕ → Span
span from to = record { from = from; to = to }

abbrev item : TokenKind → ℕ → ℕ → Item
item k from to = record { kind = TokenItem k; span = span from to }

-- ---- spaces

-- `return(a+b);`, where `(a+b)` becomes t: `return t;`
name_behind_word : spaced (item (KeywordKind Return) 27 33 ∷ item (Mark OpenParen) 33 34 ∷ item Word 34 35 ∷ item (Mark Plus) 35 36 ∷ item Word 36 37 ∷ item (Mark CloseParen) 37 38 ∷ item (Mark Semicolon) 38 39 ∷ []) (span 33 38) (word (codes "t") ∷ []) (codes "t") ≡ codes " t"
name_behind_word = refl

-- `a-t`, where t becomes `-1`: `a- -1`
minus_behind_minus : spaced (item Word 37 38 ∷ item (Mark Minus) 38 39 ∷ item Word 39 40 ∷ item (Mark Semicolon) 40 41 ∷ []) (span 39 40) (symbol Minus ∷ integer 1 ∷ []) (codes "-1") ≡ codes " -1"
minus_behind_minus = refl

-- `a*t`: `a*-1`
minus_behind_star : spaced (item Word 37 38 ∷ item (Mark Star) 38 39 ∷ item Word 39 40 ∷ item (Mark Semicolon) 40 41 ∷ []) (span 39 40) (symbol Minus ∷ integer 1 ∷ []) (codes "-1") ≡ codes "-1"
minus_behind_star = refl

-- `a- t` has a blank already
behind_blank : spaced (item Word 36 37 ∷ item (Mark Minus) 37 38 ∷ (record { kind = Blank; span = span 38 39 }) ∷ item Word 39 40 ∷ item (Mark Semicolon) 40 41 ∷ []) (span 39 40) (symbol Minus ∷ integer 1 ∷ []) (codes "-1") ≡ codes "-1"
behind_blank = refl

-- ---- numbers

abbrev member : MemberKey
member = head (record { outer = None; name = codes "A" })

abbrev other : MemberKey
other = field (record { class = record { outer = None; name = codes "A" }; name = codes "f" })

abbrev local_of : MemberKey → ℕ → LocalKey
local_of k n = record { member = k; number = n }

later_has_one_more : made_room member 2 (local_of member 2) ≡ local_of member 3
later_has_one_more = refl

earlier_stays : made_room member 2 (local_of member 1) ≡ local_of member 1
earlier_stays = refl

of_another_member : made_room member 2 (local_of other 2) ≡ local_of other 2
of_another_member = refl

it_is_gone : closed_up (local_of member 2) (local_of member 2) ≡ None
it_is_gone = refl

behind_it : closed_up (local_of member 2) (local_of member 3) ≡ Some (local_of member 2)
behind_it = refl

before_it : closed_up (local_of member 2) (local_of member 1) ≡ Some (local_of member 1)
before_it = refl

-- ---- names that are taken

abbrev named : ℕ → ScopeLocal
named n = record { name = codes "t"; key = local_of member n }

abbrev otherwise_named : ℕ → ScopeLocal
otherwise_named n = record { name = codes "s"; key = local_of member n }

first_is_told : first_named (codes "t") (otherwise_named 0 ∷ named 1 ∷ named 2 ∷ []) ≡ Some (local_of member 1)
first_is_told = refl

none_is_taken : first_named (codes "t") (otherwise_named 0 ∷ []) ≡ None
none_is_taken = refl

-- ---- scopes

-- what stays in scope where local 1 goes
left_in_scope : kept_locals (closed_up (local_of member 1)) (otherwise_named 0 ∷ named 1 ∷ otherwise_named 2 ∷ []) ≡ otherwise_named 0 ∷ otherwise_named 1 ∷ []
left_in_scope = refl

-- where local 1 comes, named t, it stands in front of those that are declared behind it
put_in_order : with_made_local (room [] (local_of member 1) (codes "t") int) (record { name = codes "t"; key = local_of member 1 }) (otherwise_named 0 ∷ otherwise_named 1 ∷ []) ≡ otherwise_named 0 ∷ named 1 ∷ otherwise_named 2 ∷ []
put_in_order = refl

put_last : with_made_local (room [] (local_of member 1) (codes "t") int) (record { name = codes "t"; key = local_of member 1 }) (otherwise_named 0 ∷ []) ≡ otherwise_named 0 ∷ named 1 ∷ []
put_last = refl

-- the initializer of a declaration that is put in front of `int s = ..;` doesn't see s
not_yet_in_scope : kept_locals (earlier [] (local_of member 1) (codes "t") int) (named 0 ∷ otherwise_named 1 ∷ []) ≡ named 0 ∷ []
not_yet_in_scope = refl
