-- what stands once the committed pairs are finished
pub mod MountLemmas
-- what ties the parts of a kernel together
pub mod PartLemmas
-- what a call answers and leaves, by its row
pub mod DoneLemmas
-- the kernel follows what was stored
pub mod FollowLemmas
-- calls that change no word: what their rows say
pub mod MapLemmas
-- what is planned, for the call as it came
pub mod PlanLemmas
