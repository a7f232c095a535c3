-- Casts can fail in both programs alike.
use Rattle.std.proofs.Common.{◌≡◌, List, refl, sym, ap, subst, inl, inr}
use Rattle.jr_table.specs.Keys.{ClassKey, Ty, int, boolean, void, null, class}
use Rattle.jr_table.specs.Rows.{Row}
use Rattle.jr_table.specs.Keyed.{IsSubclass, Widens}
use Rattle.jr_images.specs.Images.{Renaming, class_to, type_to, rows_to}
use Rattle.jr_image_code.specs.KnownPlaces.{IsKnown}
use Rattle.jr_kept_runs.specs.CastsAgree.{CastsAgree}
use Rattle.jr_code.specs.Exchanged.{exchanged}
use Rattle.jr_kept_runs.specs.KeysTo.{keys_to}
use Rattle.jr_kept_runs.specs.TablesAgree.{TablesAgree}
use Rattle.jr_kept_runs.proofs.SameTables.{maps, sub_forth, sub_back, among_class, one_class}

module _ (rows : List Row) (g : Renaming) (a : TablesAgree rows g) where
  widens_forth : (t u : Ty) → Widens rows t u → Widens (rows_to g rows) (type_to g t) (type_to g u)
  widens_forth null (class d) h = h
  widens_forth (class c) (class d) h =
      subst (λ (z : ClassKey). IsSubclass (rows_to g rows) z (class_to g d)) ((maps rows g a).class c h.c h.below)
      (subst (λ (z : ClassKey). IsSubclass (rows_to g rows) ((exchanged (keys_to g) rows).class c) z) ((maps rows g a).class d h.d h.over) (sub_forth rows g a c d h))
  widens_forth int u h = absurd h
  widens_forth boolean u h = absurd h
  widens_forth void u h = absurd h
  widens_forth null int h = absurd h
  widens_forth null boolean h = absurd h
  widens_forth null void h = absurd h
  widens_forth null null h = absurd h
  widens_forth (class c) int h = absurd h
  widens_forth (class c) boolean h = absurd h
  widens_forth (class c) void h = absurd h
  widens_forth (class c) null h = absurd h

  widens_back : (t u : Ty) → IsKnown rows t → IsKnown rows u → Widens (rows_to g rows) (type_to g t) (type_to g u) → Widens rows t u
  widens_back null (class d) k l h = h
  widens_back (class c) (class d) k l h =
      let x = k c refl in let y = l d refl in
      sub_back rows g a c d (subst (λ (z : ClassKey). IsSubclass (rows_to g rows) z ((exchanged (keys_to g) rows).class d)) (sym ((maps rows g a).class c x.0 x.1))
      (subst (λ (z : ClassKey). IsSubclass (rows_to g rows) (class_to g c) z) (sym ((maps rows g a).class d y.0 y.1)) h))
  widens_back int u k l h = absurd h
  widens_back boolean u k l h = absurd h
  widens_back void u k l h = absurd h
  widens_back null int k l h = absurd h
  widens_back null boolean k l h = absurd h
  widens_back null void k l h = absurd h
  widens_back null null k l h = absurd h
  widens_back (class c) int k l h = absurd h
  widens_back (class c) boolean k l h = absurd h
  widens_back (class c) void k l h = absurd h
  widens_back (class c) null k l h = absurd h

  same_type : (t u : Ty) → IsKnown rows t → IsKnown rows u → type_to g t ≡ type_to g u → t ≡ u
  same_type int int k l e = refl
  same_type boolean boolean k l e = refl
  same_type void void k l e = refl
  same_type null null k l e = refl
  same_type (class c) (class d) k l e =
      let x = k c refl in let y = l d refl in
      let image : class_to g c ≡ class_to g d = cc in
      ap class (one_class rows g a c d (among_class rows g a c x.0 x.1) (among_class rows g a d y.0 y.1) image)
  same_type int _ k l e = absurd cc
  same_type boolean _ k l e = absurd cc
  same_type void _ k l e = absurd cc
  same_type null _ k l e = absurd cc
  same_type (class c) _ k l e = absurd cc

  pub casts : CastsAgree rows (rows_to g rows) (type_to g)
  casts = record {
    forth = λ t u h. elim h [
      | inl e ↦ inl (ap (type_to g) e)
      | inr w ↦ inr (widens_forth t u w)
    ];
    back = λ t u k l h. elim h [
      | inl e ↦ inl (same_type t u k l e)
      | inr w ↦ inr (widens_back t u k l w)
    ];
  }
