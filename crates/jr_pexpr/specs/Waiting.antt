-- Frames that don't end with what is no target in them.
use Rattle.std.specs.Prelude.{Bool, false, not}
use Rattle.jr_pexpr.specs.declared.frames.Frame.{Frame}
use Rattle.jr_pexpr.specs.FrameView.{frame_view}
use Rattle.jr_pexpr.specs.Stacks.{ends_when}

abbrev pub waits : Frame → Bool
waits f = not (ends_when false (frame_view f))
