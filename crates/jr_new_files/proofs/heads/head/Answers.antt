use Rattle.std.proofs.Common.{◌≡◌, List, ℕ, Option, map, sym, ap, subst, ◌∙◌}
use Rattle.std.proofs.lemmas.Result.{IfOk-weaker}
use Rattle.std.specs.Prelude.{option_map}
use Rattle.jr_text.specs.declared.spans.Span.{Span}
use Rattle.jr_ast.specs.MemberTree as syntax
use Rattle.jr_ast.specs.declared.members.Class.{out-Class}
use Rattle.jr_ast.specs.View.{word_of, modifier_of, type_of, members_of}
use Rattle.jr_ast.proofs.Rows.{class_of-out}
use Rattle.jr_table.specs.Keys.{ClassKey}
use Rattle.jr_table.specs.Decls.{MemberKey, Decl}
use Rattle.jr_table.specs.Entries as entries
use Rattle.jr_table.specs.TypeView.{class_key_of}
use Rattle.jr_rewrite.specs.Rewrites.{declared_by}
use Rattle.jr_new_bodies.specs.OutputView.{gathered}
use Rattle.jr_new_files.specs.Walking.{key_of, rows_of, mapping_of}
use Rattle.jr_new_files.specs.Ready.{HeadReady, MaybeParentReady}
use Rattle.jr_new_files.specs.PartEffects.{HeadGathers, WordGathers, MaybeParentGathers}
use Rattle.jr_new_files.proofs.Giving.{head_gives}
use Rattle.jr_new_files.proofs.heads.head.Goals as goal

pub maybe_parent-requires : goal.maybe_parent-requires
maybe_parent-requires c =
    let w = c.args.of.now in
    let out = out-Class _ c.args.class.now in
    let (k, is, named, parent) = subst (λ (x : syntax.Class Span). HeadReady (rows_of w) (key_of w) x) (class_of-out _ c.args.class.now) c.requires.ready in
    let key : class_key_of c.class_of_member-key.result.now ≡ k = c.class_of_member-key.ensures ∙ ap (λ (l : MemberKey). entries.class_of_member l) is in
    record { walked = c.requires.walked; ready = subst (λ (j : ClassKey). MaybeParentReady (rows_of w) j.outer out.mark.from (option_map type_of out.parent)) (sym key) parent }

pub returns : goal.returns
returns c =
    let w = c.args.of.now in
    let out = out-Class _ c.args.class.now in
    let (k, is, named, parent) = subst (λ (x : syntax.Class Span). HeadReady (rows_of w) (key_of w) x) (class_of-out _ c.args.class.now) c.requires.ready in
    let of_head : entries.class_of_member (key_of w) ≡ k = ap (λ (l : MemberKey). entries.class_of_member l) is in
    let old = gathered c.args.out.now in
    let mid = gathered c.member_word.new.out in
    let new = gathered c.maybe_parent.new.out in
    let word : WordGathers (rows_of w) (mapping_of w) (declared_by (key_of w)) (word_of out.name) old mid = c.in_ok-member_word.ensures in
    IfOk-weaker c.maybe_parent.result _ _ (λ _ x. λ base. subst (λ (y : syntax.Class Span). HeadGathers (rows_of w) (mapping_of w) (entries.class_of_member (key_of w)) base y old new) (sym (class_of-out _ c.args.class.now))
    (subst (λ (j : ClassKey). HeadGathers (rows_of w) (mapping_of w) j base (syntax.class out.mark (map modifier_of out.modifiers.items) (word_of out.name) (option_map type_of out.parent) (members_of out.members.items)) old new) (sym of_head)
    (head_gives (rows_of w) (mapping_of w) k out.mark (map modifier_of out.modifiers.items) (word_of out.name) (option_map type_of out.parent) (members_of out.members.items) old mid new named
    (subst (λ (d : Decl). WordGathers (rows_of w) (mapping_of w) d (word_of out.name) old mid) (ap (λ (l : MemberKey). declared_by l) is) word)
    (subst (λ (j : ClassKey). MaybeParentGathers (rows_of w) (mapping_of w) j.outer out.mark.from (option_map type_of out.parent) mid new) (c.class_of_member-key.ensures ∙ of_head) x) base))) c.maybe_parent.ensures
