-- The machine as it opens over the words of an image.
use Rattle.std.specs.Prelude.{◌≡◌, ℕ, List, [], false}
use Rattle.pm_words.specs.Word.{Word}
use Rattle.pm_words.specs.Memory.{flush_at, fence_by, all_durable}
use Rattle.zo_layout.specs.Layout.{committed_word}
use Rattle.kern_model.specs.Inner.{kernel_thread, made_all, redo_events, committed_count}
use Rattle.kern_model.specs.KernelRules.{IsSoundKernel}
use Rattle.bus_model.specs.Machine.{Bus, bus_over, closed_pkrus}
use Rattle.bus_machine.specs.View.{MachineView}

-- the memory after the kernel has made word 0 of the journal durable
abbrev pub settled_words : List Word → List Word
settled_words words = fence_by kernel_thread (flush_at kernel_thread committed_word words)

-- the memory once the kernel is put over it: what was committed is finished, and that nothing is committed is durable
abbrev pub opened_words : List Word → List Word
opened_words words = settled_words (made_all (redo_events words) words)

-- the machine as it opens over a memory: nothing is started
abbrev pub bus_opened : List Word → Bus
bus_opened words = record { words = opened_words words; processes = []; threads = []; holders = []; pkrus = closed_pkrus }

-- and as its callers see it
abbrev pub machine_opened : List Word → MachineView
machine_opened words = record { bus = bus_opened words; ended = []; down = false; failed = false }

-- over durable words in which nothing is committed, it opens with these very words
abbrev pub OpensAsIs : Type 0
OpensAsIs = (image : List ℕ) → IsSoundKernel (all_durable image) → committed_count (all_durable image) ≡ 0 → bus_opened (all_durable image) ≡ bus_over image
