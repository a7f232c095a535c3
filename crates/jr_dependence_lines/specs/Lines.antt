-- What is shown of a dependence between two sites of a member.
use Rattle.std.specs.Prelude.{ℕ, List, ◌++◌, map, codes, decimal}
use Rattle.jr_sync.specs.declared.sites.DepKind.{DepKind}
use Rattle.jr_dependences.specs.KindNames.{kind_name}
use Rattle.jr_table.specs.Decls.{MemberKey}
use Rattle.jr_names.specs.DeclTexts.{member_text}

-- the bytes of the file at which the two stand, that first which control meets first
pub record Line : Type 0 where
  pub member : MemberKey
  pub kind : DepKind
  pub first : ℕ
  pub second : ℕ

-- `MEMBER KIND FIRST SECOND`
abbrev pub line_text : Line → List ℕ
line_text l = member_text l.member ++ codes " " ++ kind_name l.kind ++ codes " "
    ++ decimal l.first ++ codes " " ++ decimal l.second

abbrev pub texts_of : List Line → List (List ℕ)
texts_of lines = map line_text lines
