-- What comes of the written members of a program, put together: of each file, of all of them.
use Rattle.std.specs.Prelude.{◌≡◌, ◌≢◌, ℕ, List, [], ◌∷◌, Option, ◌⊎◌}
use Rattle.jr_text.specs.declared.spans.Span.{Span}
use Rattle.jr_ast.specs.Tree as tree
use Rattle.jr_ast.specs.MemberTree as syntax
use Rattle.jr_table.specs.Decls.{MemberKey}
use Rattle.jr_table.specs.Entries.{class_of_member}
use Rattle.jr_table.specs.Errors.{Part, class_part, member_part}
use Rattle.jr_members.specs.WrittenMembers.{WrittenMember}
use Rattle.jr_rewrite.specs.Rewritten.{Rewritten}
use Rattle.jr_rewrite.specs.Rewrites.{Choosing, RewritesHead, RewritesMember}
use Rattle.jr_new_bodies.specs.Effects.{Effect, no_effect, both, effect_of}

module _ {A : Type 0} (tells : A → ℕ → Span) (C : Choosing A) where
  -- the head of a class, or a member, is rewritten with this effect
  abbrev pub PartGives : MemberKey → (base : ℕ) → Part A → Effect → Type 0
  PartGives k base (class_part c) e = (o : Rewritten (tree.Word A × Option (tree.TypeName A)))
      × RewritesHead tells C (class_of_member k).outer base c o × (e ≡ effect_of o)
  PartGives k base (member_part x) e =
      (o : Rewritten (syntax.Member A)) × RewritesMember tells C k base x o × (e ≡ effect_of o)

  -- a written member, if it is of the file
  abbrev pub OneGives : (file : ℕ) → WrittenMember A → Effect → Type 0
  OneGives file w e = ((w.file ≡ file) × PartGives w.key w.base w.part e)
      ⊎ ((w.file ≢ file) × (e ≡ no_effect))

  -- all those of the file, one behind the other
  abbrev pub AllGive : (file : ℕ) → List (WrittenMember A) → Effect → Type 0
  AllGive file [] e = e ≡ no_effect
  AllGive file (w ∷ ws) e =
      (d : Effect) × (f : Effect) × OneGives file w d × AllGive file ws f × (e ≡ both d f)
