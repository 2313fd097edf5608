use Rattle.std.proofs.Common.{◌-◌, ◌∙◌, arith}
use Rattle.kern_model.specs.KernelView.{pages_of}
use Rattle.kern_model.specs.Journal.{kernel_word}
use Rattle.kern_view.specs.Reads.{path_there}
use Rattle.kern_view.proofs.ReadLemmas.{paths_more, paths_to_end}
use Rattle.kern_view.proofs.tables.read_paths.Goals as goal

pub loop-id-preserved : goal.loop-id-preserved
loop-id-preserved c =
    let words = c.args.view.now in
    record {
      least = omega arith;
      paths = paths_more (path_there (pages_of words) (kernel_word words)) c.loop-id.id c.push.new.self.items c.loop-id.paths.items c.in_ok-read_coffer.field-0
          c.loop-id.invariant.least c.in_ok-push.ensures.items c.loop-id.invariant.paths c.in_ok-read_coffer.ensures;
    }

pub returns : goal.returns
returns c =
    c.loop-id.invariant.paths ∙ paths_to_end c.args.view.now (c.loop-id.id - 1) (omega arith)
