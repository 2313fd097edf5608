-- What a run of a script is: a trace that follows the script's lines, and that a core has over the new image that the
-- script's first line makes.
use Rattle.std.specs.Prelude.{ℕ, List, [], ◌∷◌}
use Rattle.pm_words.specs.Memory.{present_values}
use Rattle.kern_model.specs.NewImage.{new_image}
use Rattle.tr_types.specs.Fold.{state_after}
use Rattle.tr_types.specs.declared.entry.Entry.{Entry}
use Rattle.tr_core.specs.Traces.{IsTraceOf, world_after}
use Rattle.tr_script.specs.declared.script.Line.{Line}
use Rattle.tr_script.specs.declared.script.Line.TheVariants.{Mkfs}
use Rattle.tr_top.specs.Along.{Place, Follows, start_of, followed}

-- how many pages the image has that a script makes
abbrev pub pages_made : List Line → ℕ
pages_made [] = 0
pages_made (Mkfs pages ∷ lines) = pages
pages_made (line ∷ lines) = 0

-- the words of the image over which a script runs
abbrev pub opening : List Line → List ℕ
opening lines = new_image (pages_made lines)

-- how far a trace has come in its script
abbrev pub place_after : List Line → List Entry → Place
place_after lines trace = state_after followed (start_of lines) trace

-- the words of the image after a trace: the present values, durable or not
abbrev pub last_words : List Line → List Entry → List ℕ
last_words lines trace = present_values (world_after (opening lines) trace).base.machine.bus.words

pub record IsRun (lines : List Line) (trace : List Entry) : Type 0 where
  pub follows : Follows lines trace
  pub of_core : IsTraceOf (opening lines) trace
