use Rattle.std.proofs.Common.{ℕ, Option, Some, sym, ap, ◌∙◌}
use Rattle.std.specs.Prelude.{option_map}
use Rattle.jr_table.specs.Decls.{LocalKey, Decl, local_decl}
use Rattle.jr_table.specs.KeyView.{local_key_of}
use Rattle.jr_new_words.specs.Mappings.{numbered_key}
use Rattle.jr_new_words.specs.MappingView.{keys_of, numbers_of}
use Rattle.jr_new_words.proofs.Images.{local_is}
use Rattle.jr_new_words.proofs.taking.local_image.Goals as goal

-- the image of the local of this new number
abbrev numbered : (k : LocalKey) → (ℕ → LocalKey) → Option ℕ → Option Decl
numbered k to o = option_map (λ (l : LocalKey). local_decl l) (option_map to o)

pub returns-in-None : goal.returns-in-None
returns-in-None c =
    let s = c.args.scopes.now in
    let x = keys_of s.programs.keys in
    let y = numbers_of s.numbers in
    let k = local_key_of c.args.key.now in
    ap (numbered k (numbered_key x k)) (sym c.in-None.is ∙ c.in_ok-number.ensures) ∙ sym (ap (option_map (λ (l : LocalKey). local_decl l)) (local_is x y k))

pub returns-in_ok-member-in-Some : goal.returns-in_ok-member-in-Some
returns-in_ok-member-in-Some c =
    let s = c.args.scopes.now in
    let x = keys_of s.programs.keys in
    let y = numbers_of s.numbers in
    let k = local_key_of c.args.key.now in
    (λ i. Some (local_decl (record { member = c.in_ok-member-in-Some.ensures i; number = c.in-Some.number })))
    ∙ ap (numbered k (numbered_key x k)) (sym c.in-Some.is ∙ c.in_ok-number.ensures)
    ∙ sym (ap (option_map (λ (l : LocalKey). local_decl l)) (local_is x y k))
