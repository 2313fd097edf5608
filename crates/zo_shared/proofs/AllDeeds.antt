-- Whoever does a deed that it may do leaves all sound, and others what they rely on.
use Rattle.std.proofs.Common.{ℕ}
use Rattle.zo_shared.specs.Shared.{Shared, IsSound}
use Rattle.zo_shared.specs.Deeds.{Deed, Look, Flush, Fence, Take, GiveBack, Raise, Note, Unchain, AddPage, AddFree, Prepare, Draft, Commit, Draw, Pool, Reply, MayDo, does}
use Rattle.zo_shared.specs.Rely.{SoundLaw, RelyLaw}
use Rattle.zo_shared.proofs.Frames.{Done, done_sound, done_beside, done_rely}
use Rattle.zo_shared.proofs.Looks.{look_done, flush_done, fence_done}
use Rattle.zo_shared.proofs.Leases.{take_done, give_back_done}
use Rattle.zo_shared.proofs.Counters.{raise_done, note_done}
use Rattle.zo_shared.proofs.Entries.{unchain_done, add_free_done, prepare_done}
use Rattle.zo_shared.proofs.Pages.{add_page_done}
use Rattle.zo_shared.proofs.Drafts.{draft_done, pool_done}
use Rattle.zo_shared.proofs.Draws.{draw_done}
use Rattle.zo_shared.proofs.Replies.{reply_done}
use Rattle.zo_shared.proofs.Commits.{commit_done}

done : (g : Shared) (thread now : ℕ) (deed : Deed) → IsSound g → MayDo thread now deed g → Done thread g (does thread now deed g)
done g thread now Look s may = look_done g thread now s may
done g thread now (Flush addr) s may = flush_done g thread now addr s may
done g thread now Fence s may = fence_done g thread now s may
done g thread now (Take names own) s may = take_done g thread now names own s may
done g thread now (GiveBack names own) s may = give_back_done g thread now names own s may
done g thread now (Raise names) s may = raise_done g thread now names s may
done g thread now (Note names addr) s may = note_done g thread now names addr s may
done g thread now (Unchain names entry) s may = unchain_done g thread now names s entry may
done g thread now (AddPage names page) s may = add_page_done g thread now names page s may
done g thread now (AddFree names frees first) s may = add_free_done g thread now names s frees first may
done g thread now (Prepare names entry i word) s may = prepare_done g thread now names s entry i word may
done g thread now (Draft addr word) s may = draft_done g thread now addr word s may
done g thread now (Commit names name node entry made position) s may = commit_done g thread now names name node entry made position s may
done g thread now (Draw pages memory grown) s may = draw_done g thread now pages memory grown s may
done g thread now (Pool pool word) s may = pool_done g thread now pool word s may
done g thread now Reply s may = reply_done g thread now s may

pub sounds : SoundLaw
sounds g thread now deed s may = done_sound thread g (does thread now deed g) s (done g thread now deed s may)

pub relies : RelyLaw
relies = record {
  others = λ g thread now other deed differs s few may. done_rely thread g (does thread now deed g) s (done g thread now deed s may) other differs;
  itself = λ g thread now deed s few may. done_beside thread g (does thread now deed g) s (done g thread now deed s may);
}
