-- What a written member of a program adds to what is gathered.
use Rattle.std.specs.Prelude.{◌≡◌, ℕ}
use Rattle.jr_text.specs.declared.spans.Span.{Span}
use Rattle.jr_grammar.specs.Layout.{itself}
use Rattle.jr_table.specs.Context.{Context}
use Rattle.jr_members.specs.WrittenMembers.{WrittenMember}
use Rattle.jr_bind.specs.Programs.{Program}
use Rattle.jr_program_laws.specs.FileParts.{begins}
use Rattle.jr_new_words.specs.Mappings.{Mapping}
use Rattle.jr_new_words.specs.Spelled.{spelling}
use Rattle.jr_new_bodies.specs.Effects.{Effect, both}
use Rattle.jr_new_files.specs.Files.{PartGives}

-- its part is rewritten, with what is added
abbrev pub PartAdds : Program Span → Mapping → WrittenMember Span → (old new : Effect) → Type 0
PartAdds p m w old new = (e : Effect)
    × PartGives itself (spelling begins p.rows m (λ (c : Context). p.super_at c.member))
    w.key w.base w.part e × (new ≡ both old e)
