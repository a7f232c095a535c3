use Rattle.std.proofs.Common.{◌≡◌, ◌<◌, ◌+◌, ◌-◌, ◌++◌, ◌∷◌, [], List, suc, map, length, subst, refl, sym, ap, ◌∙◌, arith}
use Rattle.std.specs.Prelude.{option_map}
use Rattle.std.proofs.lemmas.List.{length-map}
use Rattle.jr_table.specs.TypeView.{ty_of}
use Rattle.jr_expr_types.specs.declared.types.Slot as raw
use Rattle.jr_expr_types.specs.SlotView.{slot_of, shape_of}
use Rattle.jr_expr_types.specs.Slots.{Slot}
use Rattle.jr_expr_types.specs.PartEnds.{skips}
use Rattle.jr_expr_types.proofs.Listed.{still_listed, pushed}
use Rattle.jr_expr_types.proofs.Kept.{typed_kept, typed_put, viewed}
use Rattle.jr_expr_types.proofs.types.Types.close.Goals as goal

pub invariant_of-self-in_err-list_parts : goal.invariant_of-self-in_err-list_parts
invariant_of-self-in_err-list_parts c =
    let v = c.self.inside in (
      still_listed v.slots.items v.slots.items v.ends.items c.list_parts.new.ends.items refl c.self.invariant.0 c.list_parts.ensures.kept,
      typed_kept v.types.items c.number_of.new.types.items v.slots.items v.slots.items c.self.invariant.1 c.number_of.ensures.grows refl,
    )

pub invariant_of-self-in_err-put : goal.invariant_of-self-in_err-put
invariant_of-self-in_err-put c =
    let v = c.self.inside in (
      still_listed v.slots.items c.put.new.slots.items v.ends.items c.list_parts.new.ends.items c.in_err-put.ensures.unless c.self.invariant.0 c.list_parts.ensures.kept,
      typed_kept v.types.items c.number_of.new.types.items v.slots.items c.put.new.slots.items c.self.invariant.1 c.number_of.ensures.grows c.in_err-put.ensures.unless,
    )

pub invariant_of-self-2 : goal.invariant_of-self-2
invariant_of-self-2 c =
    let v = c.self.inside in
    let next = c.list_parts.new.ends.items in
    let of_many = subst (λ (l : List raw.Slot). 16 < c.args.parts → next ≡ v.ends.items ++ skips (map shape_of l) c.args.parts (length l)) c.as_slice.ensures.value c.in_ok-list_parts.ensures.listed in (
      pushed v.slots.items v.slots.items c.put.new.slots.items v.ends.items next _ refl c.in_ok-put.ensures.put c.self.invariant.0 c.list_parts.ensures.kept (c.len-listed.ensures ∙ v.ends.ok.0) of_many,
      typed_put v.types.items c.number_of.new.types.items v.slots.items c.put.new.slots.items _ c.self.invariant.1 c.number_of.ensures.grows c.in_ok-put.ensures.put c.in_ok-number.ensures.within,
    )

pub returns : goal.returns
returns c =
    let v = c.self.inside in
    let shown : length c.args.self.now ≡ length v.slots.items = ap length (sym c.self.view_is) ∙ length-map v.slots.items (slot_of v.types.items) in
    let all : c.len.result ≡ length v.slots.items = c.len.ensures ∙ v.slots.ok.0 in
    let size : c.len.result - c.args.before + 1 ≡ suc (length c.args.self.now - c.args.before) = omega (arith, shown, all) in
    let node : Slot = record { size = suc (length c.args.self.now - c.args.before); count = c.args.parts; type = option_map ty_of c.args.ty } in
    viewed v.types.items c.number_of.new.types.items v.slots.items c.put.new.slots.items _ _ _ c.self.invariant.1 c.number_of.ensures.grows c.in_ok-put.ensures.put size c.in_ok-number.ensures.there
    ∙ ap (λ (l : List Slot). l ++ node ∷ []) c.self.view_is
