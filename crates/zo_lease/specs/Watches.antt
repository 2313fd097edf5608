-- How a lease is watched: the counter is looked at and then the lease. A lease that holds is a failed try; one that has expired is
-- mended.
use Rattle.std.specs.Prelude.{◌≡◌, ℕ, ◌+◌, ◌*◌, if◌then◌else◌, ◌==◌}
use Rattle.zo_lease.specs.declared.step.Heard.{Heard}
use Rattle.zo_lease.specs.declared.step.Heard.TheVariants as hears
use Rattle.zo_lease.specs.declared.step.LeaseStep.{LeaseStep}
use Rattle.zo_lease.specs.declared.step.End.{End}
use Rattle.zo_lease.specs.declared.step.End.TheVariants as end
use Rattle.zo_lease.specs.declared.mend.Mend.TheVariants as mend
use Rattle.zo_lease.specs.declared.mend.Mending.{Mending}
use Rattle.zo_lease.specs.declared.mend.Mending.TheVariants as mending
use Rattle.zo_lease.specs.declared.watch.Watch.{Watch}
use Rattle.zo_lease.specs.declared.watch.Seen.{Seen}
use Rattle.zo_lease.specs.declared.watch.Stage.{Stage}
use Rattle.zo_lease.specs.declared.watch.Stage.TheVariants as watch
use Rattle.zo_lease.specs.Words.{counter_word, noted_word, is_expired}
use Rattle.zo_lease.specs.Steps.{load, end_step}
use Rattle.zo_lease.specs.Bids.{is_last_try}
use Rattle.zo_lease.specs.Mends.{mend_step, mend_after, mend_made}

-- it begins, after so many failed tries of this call on the lease
pub record IsFirstWatch (addr failed : ℕ) (w : Watch) : Type 0 where
  pub lease : w.lease.addr ≡ addr
  pub tries : w.failed ≡ failed
  pub stage : w.stage ≡ watch.Begin

-- a watch tells the counter, and the lease behind it
abbrev pub seen_end : Seen → End
seen_end seen = end.Won seen.counter seen.found

abbrev pub watch_stage : Watch → Stage → Watch
watch_stage w stage = record { lease = w.lease; failed = w.failed; stage = stage }

-- a try failed: the next one begins, unless it was the last
abbrev pub watch_failed : Watch → ℕ → ℕ → Watch
watch_failed w word now =
    if is_last_try w.failed then watch_stage w (watch.Over (end.Busy w.lease.addr word now))
    else record { lease = w.lease; failed = w.failed + 1; stage = watch.Counter }

abbrev pub watch_look : Watch → Seen → ℕ → Watch
watch_look w seen now =
    if seen.found == 0 then watch_stage w (watch.Over (seen_end seen))
    else (if is_expired seen.found now then watch_stage w (watch.Mending mend.Noted seen) else watch_failed w seen.found now)

abbrev pub watch_mend : Watch → Mending → Seen → Watch
watch_mend w (mending.On mend) seen = watch_stage w (watch.Mending mend seen)
watch_mend w mending.Done seen = watch_stage w (watch.Over (seen_end seen))
watch_mend w mending.Refused seen = watch_stage w (watch.Over (end.Damaged (noted_word w.lease.addr)))

abbrev pub watch_at : Watch → Stage → Heard → ℕ → Watch
watch_at w watch.Begin heard now = watch_stage w watch.Counter
watch_at w watch.Counter (hears.Word counter) now = watch_stage w (watch.Lease counter)
watch_at w watch.Counter heard now = watch_stage w (watch.Over (end.Damaged (counter_word w.lease.addr)))
watch_at w (watch.Lease counter) (hears.Word found) now = watch_look w (record { counter = counter; found = found }) now
watch_at w (watch.Lease counter) heard now = watch_stage w (watch.Over (end.Damaged w.lease.addr))
watch_at w (watch.Mending mend seen) heard now = watch_mend w (mend_after mend heard) seen
watch_at w (watch.Over end) heard now = w

abbrev pub watch_after : Watch → Heard → ℕ → Watch
watch_after w heard now = watch_at w w.stage heard now

abbrev pub watch_gives : ℕ → Stage → LeaseStep
watch_gives lease watch.Begin = load (counter_word lease)
watch_gives lease watch.Counter = load (counter_word lease)
watch_gives lease (watch.Lease counter) = load lease
watch_gives lease (watch.Mending mend seen) = mend_step lease mend
watch_gives lease (watch.Over end) = end_step end

abbrev pub watch_step : Watch → LeaseStep
watch_step w = watch_gives w.lease.addr w.stage

-- how many actions were made at most: 4 for each failed try, and at most 5
abbrev pub watch_made_at : Stage → ℕ
watch_made_at watch.Begin = 0
watch_made_at watch.Counter = 0
watch_made_at (watch.Lease counter) = 1
watch_made_at (watch.Mending mend seen) = 2 + mend_made mend
watch_made_at (watch.Over end) = 5

abbrev pub watch_made : Watch → ℕ
watch_made w = 4 * w.failed + watch_made_at w.stage
