-- Made parts of trees, beside their texts: a class in front of a made call (JLS 15.12).
use Rattle.std.specs.Prelude.{ℕ, List, [], ◌++◌, None}
use Rattle.jr_text.specs.declared.spans.Span.{Span}
use Rattle.jr_ast.specs.Tree as tree
use Rattle.jr_rewrite.specs.Respellings.{Loss, Choice, becomes, front_text}
use Rattle.jr_rewrite.specs.Rewritten.{count_of, losses_of, new_word, operand_to, variable_on}

-- a made part of a tree, as text, with the respelled and the lost of its references
pub record Made (T : Type 0) : Type 0 where
  pub tree : T
  pub text : List ℕ
  pub respelled : ℕ
  pub losses : List Loss

-- ---- the class in front

abbrev pub made_front : Choice → Span → (name : List ℕ) → Made (tree.Exp Span)
made_front (becomes r) m name = record {
  tree = variable_on m (operand_to m r.front None) (new_word m r.text);
  text = front_text r.front ++ r.text;
  respelled = count_of (becomes r);
  losses = [];
}
made_front h m name = record {
  tree = tree.name m (new_word m name);
  text = name;
  respelled = 0;
  losses = losses_of h;
}
