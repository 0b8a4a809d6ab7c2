-- The steps of the reader: the counts alone, and the bounds by the counts.
use Rattle.std.specs.Prelude.{Bool, cond, ◌||◌, List, ℕ, ltb}
use Rattle.standard.specs.declared.Sections.{Sections}
use Rattle.standard.specs.Answers.{no_sections}
use Rattle.standard.specs.Job.{no17, sections_of}

unfoldable pub counted_answer : List ℕ → ℕ × Sections
counted_answer b = cond (no17 b) (17, no_sections) (0, sections_of b)

unfoldable pub over_bounds : Sections → Bool
over_bounds s = ltb 8 s.frame.upscaled_width || ltb 128 s.frame.frame_height || ltb 20 s.units || ltb 1024 s.deblocked || ltb 1024 s.cdef
