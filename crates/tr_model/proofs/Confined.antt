-- Words change by stores alone.
use Rattle.tr_model.specs.Worlds.{World, MayCome}
use Rattle.tr_model.specs.OneWindow.{IsConfined}
use Rattle.bus_model.proofs.MachineLemmas.{confined as confined_at}
use Rattle.tr_types.specs.declared.entry.Entry.{Entry}

pub confined : (w : World) (e : Entry) → MayCome w e → IsConfined w e
confined w e may = confined_at w.base.machine e may
