-- What a walk takes for never null is what the flags say.
use Rattle.std.proofs.Common.{◌≡◌, Bool, true, false, List, Some, refl, sym, ap, subst, ◌∙◌}
use Rattle.std.specs.Prelude.{IsTrue}
use Rattle.jr_ast.specs.Tree as tree
use Rattle.jr_table.specs.Keys.{FieldKey}
use Rattle.jr_table.specs.Rows.{Row}
use Rattle.jr_code.specs.RunKeys.{RunKeys}
use Rattle.jr_cover.specs.Spots.{Spot}
use Rattle.jr_never_null.specs.Flags.{local_flag, is_safe}
use Rattle.jr_never_null.proofs.Flagging.{flags_tell}
use Rattle.jr_expr_sites.specs.Meanings.{Meaning, local, field, class, nothing, is_static_field, field_variable, variable_of}
use Rattle.jr_expr_sites.specs.KnownFacts.{Given, Others, known_of, is_never_null, is_kept, meaning_at}
use Rattle.jr_member_graphs.specs.GivenFlags.{FlagsTellTheMember}

by_static : (flags : List Bool) (is_static : Bool) (k : FieldKey) → false ≡ local_flag {K = RunKeys} flags (Some (field_variable is_static k))
by_static flags true k = refl
by_static flags false k = refl

kept_is : (flags : List Bool) (rows : List Row) (m : Meaning) → is_kept flags m ≡ local_flag {K = RunKeys} flags (variable_of rows m)
kept_is flags rows (local n) = refl
kept_is flags rows (field k) = by_static flags (is_static_field rows k) k
kept_is flags rows class = refl
kept_is flags rows nothing = refl

pub never_is_safe : (g : Given) (o : Others) (e : tree.Exp Spot) → is_never_null g e ≡ is_safe (known_of g o).facts g.never_null e
never_is_safe g o (tree.number a n) = refl
never_is_safe g o (tree.truth a b) = refl
never_is_safe g o (tree.null a) = refl
never_is_safe g o (tree.string a s) = refl
never_is_safe g o (tree.name a w) = kept_is g.never_null g.rows (meaning_at g w.mark.first)
never_is_safe g o (tree.field a e w) = refl
never_is_safe g o (tree.super_field a w) = refl
never_is_safe g o (tree.this a) = refl
never_is_safe g o (tree.class_literal a t) = refl
never_is_safe g o (tree.call a t w es) = refl
never_is_safe g o (tree.super_call a w es) = refl
never_is_safe g o (tree.create a t es) = refl
never_is_safe g o (tree.paren a e) = never_is_safe g o e
never_is_safe g o (tree.cast a t e) = refl
never_is_safe g o (tree.unary a op e) = refl
never_is_safe g o (tree.bump a op t) = refl
never_is_safe g o (tree.binary a op l r) = refl
never_is_safe g o (tree.assign a t e) = refl
never_is_safe g o (tree.compound a op t e) = refl

pub flags_tell_the_member : FlagsTellTheMember
flags_tell_the_member g o is_assigned inits are e =
    let F = (known_of g o).facts in
    let same = never_is_safe g o e ∙ ap (λ (flags : List Bool). is_safe F flags e) are in
    let told = flags_tell F is_assigned inits e in
    (λ h. told.0 (subst IsTrue same h), λ n. subst IsTrue (sym same) (told.1 n))
