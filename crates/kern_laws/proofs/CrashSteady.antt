-- A crash changes no word of the kernel's pages: after crashes and a whole `redo`, and after a call.
use Rattle.std.proofs.Common.{◌≡◌, ◌⊎◌, inl, inr, ℕ, ◌/◌, ◌<◌, List, [], ◌∷◌, take, length, sym, ap, subst, ◌∙◌, arith}
use Rattle.std.specs.Prelude.{Contains}
use Rattle.std.proofs.lemmas.List.Elements.{All-contains}
use Rattle.zo_layout.specs.Layout.{kernel_pages}
use Rattle.pm_words.specs.Word.{Word}
use Rattle.pm_words.specs.Memory.{word_at, HasPages}
use Rattle.pm_words.specs.Crash.{MayLeave}
use Rattle.kern_model.specs.KernelView.{pages_of}
use Rattle.kern_model.specs.Journal.{IsHome, IsReadable, committed}
use Rattle.kern_model.specs.Inner.{made_all, redo_events}
use Rattle.kern_model.specs.JournalLaws.{IsUnnamed, IsFinished, MayCome}
use Rattle.kern_model.specs.KernelCalls.{Row, row_events}
use Rattle.kern_model.specs.Commits.{IsOuter, IsCommitted, CommitLaw, present_at, HasSteadyTables, AreDurable}
use Rattle.kern_model.proofs.WordSteps.{length_run}
use Rattle.kern_model.proofs.LaidLemmas.{IsNamed, named_cases}
use Rattle.kern_model.proofs.PhaseLemmas.{one_value}
use Rattle.kern_model.proofs.FinishLemmas.{finished}
use Rattle.kern_commit.specs.Crashes.{Survives, OthersLaw}
use Rattle.kern_laws.specs.Rows.{KeepsTables}
use Rattle.kern_laws.proofs.CrashTables.{named_has}

-- after crashes each word is durable

one_crash : (words after : List Word) → MayLeave words after → AreDurable after
one_crash words after leave addr lt = let len = leave.len in ap (λ (w : Word). w.older) (leave.durable (addr / 8) (omega (arith, len, lt)))

crashes : (cuts : List ℕ) (words left after : List Word) → MayLeave words left → MayCome cuts left after → AreDurable after
crashes [] words left after leave same = subst (λ (ws : List Word). AreDurable ws) (sym same) (one_crash words left leave)
crashes (k ∷ ks) words left after leave (mid, cut, rest) = crashes ks (made_all (take k (redo_events left)) left) mid after cut rest

pub steady_finished : (after : List Word) → HasPages (length after) → IsReadable after → AreDurable after → HasSteadyTables (made_all (redo_events after) after)
steady_finished after size readable durable addr home low value there = by (named_cases (committed after) addr)
  where
    new : List Word
    new = made_all (redo_events after) after

    f : IsFinished after (made_all (redo_events after) after)
    f = finished after size readable

    here : IsHome (length after) addr
    here = subst (λ (n : ℕ). IsHome n addr) f.len home

    by : IsUnnamed (committed after) addr ⊎ IsNamed (committed after) addr → value ≡ present_at (made_all (redo_events after) after) addr
    by (inl none) =
        let kept = f.others addr here none in
        one_value (word_at after addr).older (word_at after addr).present value (durable addr here.inside.inside) (kept.list value there) ∙ sym kept.present
    by (inr named) =
        let older : (word_at new addr).older ≡ [] = named_has (λ a. (word_at new a).older ≡ []) (committed after) addr named (λ k d lt. (f.done k d lt).older) in
        one_value (word_at new addr).older (word_at new addr).present value older there

pub steady_mounted : (words : List Word) (granted : List ℕ) (pairs : List (ℕ × ℕ)) (count : ℕ) (cuts : List ℕ) (before left after : List Word) → HasPages (length words) → MayLeave before left → MayCome cuts left after
    → Survives granted pairs words count left after → HasSteadyTables (made_all (redo_events after) after)
steady_mounted words granted pairs count cuts before left after size leave come survives =
    steady_finished after (subst HasPages (sym survives.whole_or_none.len ∙ length_run (redo_events after) after) size) survives.readable (crashes cuts before left after leave come)

pub steady_after : OthersLaw → CommitLaw → (words : List Word) (row : Row) → KeepsTables words row → HasSteadyTables words → HasSteadyTables (made_all (row_events row) words)
steady_after others commits words row k steady addr home low value there = by (named_cases row.pairs addr)
  where
    new : List Word
    new = made_all (row_events row) words

    c : IsCommitted row.granted row.pairs words (made_all (row_events row) words)
    c = commits words row.granted row.pairs k.may

    here : IsHome (length words) addr
    here = subst (λ (n : ℕ). IsHome n addr) c.len home

    below : addr / 4096 < kernel_pages (pages_of words)
    below = subst (λ (n : ℕ). addr / 4096 < kernel_pages (n / 512)) c.len low

    by : IsUnnamed row.pairs addr ⊎ IsNamed row.pairs addr → value ≡ present_at (made_all (row_events row) words) addr
    by (inl none) =
        let apart : (Contains row.granted (addr / 4096) → ⊥) = λ given. let past = (All-contains (IsOuter words) row.granted (addr / 4096) k.may.pages given).past in let under = below in absurd (omega (arith, past, under)) in
        let kept = others words row.granted row.pairs addr k.may here apart none in
        steady addr here below value (kept.list value there) ∙ sym kept.present
    by (inr named) =
        let older : (word_at new addr).older ≡ [] = named_has (λ a. (word_at new a).older ≡ []) row.pairs addr named (λ i d lt. (c.durable i d lt).older) in
        one_value (word_at new addr).older (word_at new addr).present value older there
