-- What a token can be outside of expressions: Rust's values as pure ones.
use Rattle.jr_pexpr.specs.TokenView.{token_view}
use Rattle.jr_pstmt.specs.declared.cues.Primitive.{Primitive}
use Rattle.jr_pstmt.specs.declared.cues.Primitive.TheVariants as primitive
use Rattle.jr_pstmt.specs.declared.cues.Cue.{Cue}
use Rattle.jr_pstmt.specs.declared.cues.Cue.TheVariants as cue
use Rattle.jr_pstmt.specs.Cues as pure

abbrev pub primitive_view : Primitive → pure.Primitive
primitive_view primitive.Int = pure.an_int
primitive_view primitive.Boolean = pure.a_boolean

abbrev pub cue_view : Cue → pure.Cue
cue_view (cue.Word w) = pure.a_word w.now
cue_view (cue.Primitive p) = pure.a_primitive (primitive_view p)
cue_view (cue.Modifier m) = pure.a_modifier m
cue_view cue.If = pure.an_if
cue_view cue.Else = pure.an_else
cue_view cue.While = pure.a_while
cue_view cue.Return = pure.a_return
cue_view cue.Void = pure.a_void
cue_view cue.Class = pure.a_class
cue_view cue.Extends = pure.an_extends
cue_view cue.Package = pure.a_package
cue_view cue.Super = pure.a_super
cue_view cue.Open = pure.an_open
cue_view cue.Close = pure.a_close
cue_view cue.OpenBrace = pure.an_open_brace
cue_view cue.CloseBrace = pure.a_close_brace
cue_view cue.Semicolon = pure.a_semicolon
cue_view cue.Comma = pure.a_comma
cue_view cue.Dot = pure.a_dot
cue_view cue.Equals = pure.an_equals
cue_view (cue.Other t) = pure.another (token_view t)
