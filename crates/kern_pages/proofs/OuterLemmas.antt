-- Whose the pages behind the kernel's are, where no rule of the kernel's pages fails.
use Rattle.std.proofs.Common.{◌≡◌, ℕ, ◌<◌, ◌≤◌, List, slice_index, arith}
use Rattle.std.specs.Prelude.{nat_le}
use Rattle.std.proofs.lemmas.Bool.{leb-true, and_parts}
use Rattle.pm_words.specs.Word.{Word}
use Rattle.zo_layout.specs.Layout.{kernel_pages}
use Rattle.kern_model.specs.KernelView.{pages_of}
use Rattle.kern_model.specs.Journal.{kernel_word}
use Rattle.kern_model.specs.KernelTables.{owner_in}
use Rattle.kern_model.specs.Kernel.{kernel_owner}
use Rattle.kern_model.specs.KernelRules.{IsSoundKernel}
use Rattle.kern_owner.proofs.SoundLemmas.{OwnerCase, owner_case}
use Rattle.kern_owner.proofs.SoundLemmas.OwnerCase.{Kernels, Nobodys, Coffers}
use Rattle.kern_pages.specs.Owners.{owners_of}
use Rattle.kern_pages.proofs.TellsLemmas.{tells}

outer_case : (pages : ℕ) (at : ℕ → ℕ) (page : ℕ) → OwnerCase pages at page → kernel_pages pages ≤ page → owner_in pages at page ≤ 256
outer_case pages at page (Kernels lt is) le = let no : page < page = omega arith in omega arith
outer_case pages at page (Nobodys ge is) le = omega arith
outer_case pages at page (Coffers ge id stands) le = leb-true (owner_in pages at page) 256 (and_parts (nat_le 1 (owner_in pages at page)) (nat_le (owner_in pages at page) 256) id).1

pub outer : (words : List Word) (kernels : ℕ) → IsSoundKernel words → kernel_pages (pages_of words) ≡ kernels → (page : ℕ) → kernels ≤ page → page < pages_of words → slice_index (owners_of words) page ≤ 256
outer words kernels sound are page le lt =
    let is : slice_index (owners_of words) page ≡ kernel_owner words page = (tells words).each page lt in
    let most : owner_in (pages_of words) (kernel_word words) page ≤ 256 = outer_case (pages_of words) (kernel_word words) page (owner_case (pages_of words) (kernel_word words) page (sound.owners page lt)) (omega arith) in
    omega arith
