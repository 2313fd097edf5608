-- What the row of a call is made from.
use Rattle.std.specs.Prelude.{◌≡◌, ℕ, List}
use Rattle.pm_words.specs.Word.{Word}
use Rattle.kern_model.specs.KernelRules.{IsSoundKernel}
use Rattle.kern_model.specs.KernelCalls.{Callers, cred_of}
use Rattle.tr_types.specs.declared.kernel_call.Holder.{Holder}
use Rattle.tr_types.specs.declared.permission.Cred.{Cred}
use Rattle.kern_pages.specs.Owners.{owners_of}

-- the memory, who holds which coffer, the calling thread with its process's credentials, and the tick
pub record AskedView : Type 0 where
  pub words : List Word
  pub holders : List Holder
  pub cred : Cred
  pub thread : ℕ
  pub tick : ℕ

-- No rule of the kernel's pages fails, and whose each page is is known.
pub record IsKnown (words : List Word) (owners : List ℕ) : Type 0 where
  pub sound : IsSoundKernel words
  pub told : owners ≡ owners_of words

-- the calling thread's process has these credentials
abbrev pub HasCred : Callers → AskedView → Type 0
HasCred callers asked = cred_of callers asked.thread ≡ asked.cred
