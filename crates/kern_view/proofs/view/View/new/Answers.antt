use Rattle.kern_view.proofs.view.View.new.Goals as goal

pub committed-requires : goal.committed-requires
committed-requires c =
    record { room = c.requires.room; homes = λ k d lt. let home = c.requires.homes k d lt in record { inside = home.inside; outside = home.outside } }
