use Rattle.std.proofs.Common.{◌≡◌, ◌≢◌, ◌⊎◌, ◌∙◌, [], List, length, true, subst, sym, ap, arith}
use Rattle.std.proofs.lemmas.List.{take_all}
use Rattle.std.proofs.lemmas.List.Elements.{All-nil}
use Rattle.pm_words.specs.Word.{Word}
use Rattle.zo_layout.specs.Layout.{committed_word}
use Rattle.pm_words.specs.Memory.{HasPages, word_at}
use Rattle.kern_model.specs.Journal.{committed_count}
use Rattle.kern_model.specs.KernelRules.{IsSoundKernel}
use Rattle.kern_model.specs.Inner.{made_all, redo_events, IsCut}
use Rattle.kern_model.specs.declared.inner.Inner.{Inner}
use Rattle.tr_types.specs.declared.kernel_call.Holder.{Holder}
use Rattle.kern_model.specs.KernelTables.{is_id, stands_in}
use Rattle.kern_model.specs.KernelView.{pages_of}
use Rattle.kern_model.specs.Journal.{kernel_word}
use Rattle.kern_model.specs.JournalLaws.{ViewLaw, IsFinished, IsDurable}
use Rattle.kern_model.specs.Commits.{AreDurable, HasSteadyTables}
use Rattle.kern_laws.proofs.CrashSteady.{steady_finished}
use Rattle.kern_pages.specs.Owners.{owners_of}
use Rattle.kern_view.proofs.SoundLemmas.{sound_after}
use Rattle.kern_calls.specs.Calls.{KernelView, IsMounted}

finished_by : (old new : List Word) → ViewLaw → HasPages (length old) → IsSoundKernel old → new ≡ made_all (redo_events old) old → IsFinished old new
finished_by old new law size sound is =
    let readable = sound.pairs.readable in
    subst (IsFinished old) (sym is) (law old size (record {
      room = readable.room;
      homes = λ k d lt. let home = readable.homes k d lt in record { inside = home.inside; outside = home.outside };
    }))

pub nothing_committed : (old new : List Word) → ViewLaw → HasPages (length old) → IsSoundKernel old → new ≡ made_all (redo_events old) old
    → committed_count new ≡ 0
nothing_committed old new law size sound is = let finished = finished_by old new law size sound is in finished.idle

pub durably_so : (old new : List Word) → ViewLaw → HasPages (length old) → IsSoundKernel old → new ≡ made_all (redo_events old) old
    → (committed_count old ≢ 0) ⊎ ((word_at old committed_word).older ≡ []) → IsDurable new committed_word 0
durably_so old new law size sound is either = let finished = finished_by old new law size sound is in finished.durable either

pub still_sound : (old new : List Word) → ViewLaw → HasPages (length old) → IsSoundKernel old → new ≡ made_all (redo_events old) old → IsSoundKernel new
still_sound old new law size sound is =
    let finished = finished_by old new law size sound is in
    sound_after old new
    (record {
      size = size;
      len = finished.len;
      idle = finished.idle;
      view = λ addr home. finished.view addr (record { inside = home.inside; outside = home.outside });
    })
    sound

-- the kernel stands over the finished memory, with nothing started
pub mounted_fresh : (old new : List Word) (kernel : KernelView) → ViewLaw → HasPages (length old) → IsSoundKernel old → new ≡ made_all (redo_events old) old
    → kernel ≡ record { callers = record { processes = []; threads = [] }; holders = []; owners = owners_of new } → IsDurable new committed_word 0 → IsMounted kernel new
mounted_fresh old new kernel law size sound is fresh idle =
    subst (λ (k : KernelView). IsMounted k new) (sym fresh)
    (record {
      working = record {
        size = let finished = finished_by old new law size sound is in subst HasPages (sym finished.len) size;
        sound = still_sound old new law size sound is;
        idle = idle;
        ids = All-nil (λ (h : Holder). is_id h.id ≡ true);
        held = All-nil (λ (h : Holder). stands_in (pages_of new) (kernel_word new) h.id ≡ true);
      };
      told = λ i. owners_of new;
    })

-- all events are a cut
pub whole_cut : (events : List Inner) (old new : List Word) → new ≡ made_all events old → IsCut events old new
whole_cut events old new is = (length events, is ∙ ap (λ (es : List Inner). made_all es old) (sym (take_all (length events) events (omega arith))))

-- finished over durable words, a crash changes nothing of the kernel's pages
pub steady_fresh : (old new : List Word) → HasPages (length old) → IsSoundKernel old → new ≡ made_all (redo_events old) old → AreDurable old → HasSteadyTables new
steady_fresh old new size sound is durable =
    let readable = sound.pairs.readable in
    subst HasSteadyTables (sym is) (steady_finished old size (record {
      room = readable.room;
      homes = λ k d lt. let home = readable.homes k d lt in record { inside = home.inside; outside = home.outside };
    }) durable)
