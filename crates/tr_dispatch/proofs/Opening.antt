-- The world as it opens over a new image: the root coffer is the only one, and nobody has mapped it.
use Rattle.std.proofs.Common.{◌≡◌, ℕ, ◌+◌, ◌/◌, ◌<◌, ◌≤◌, Bool, cond, refl, sym, ap, subst, ◌∙◌, arith}
use Rattle.std.proofs.lemmas.Bool.{lt-ltb, le-ltb}
use Rattle.std.specs.Prelude.{nat_lt}
use Rattle.pm_words.specs.Word.{Word}
use Rattle.pm_words.specs.Memory.{word_at, all_durable}
use Rattle.pm_words.proofs.WordLemmas.{word_at_all_durable, has_pages}
use Rattle.zo_layout.specs.Layout.{page_at, word_of, committed_word, coffer_table, kernel_pages, root_control}
use Rattle.kern_model.specs.KernelView.{pages_of, owner_of}
use Rattle.kern_model.specs.NewImage.{coffer_word, new_image, owner_in_new}
use Rattle.kern_model.proofs.FreePages.{pages_are, size_new, size_opened, owner_new}
use Rattle.kern_model.proofs.Idle.{idle_word}
use Rattle.kern_model.proofs.NewKernel.{new_committed, new_tables}
use Rattle.tr_model.specs.RootCoffer.{IsRootAlone}
use Rattle.tr_model.specs.Worlds.{world_of}
use Rattle.tr_dispatch.specs.Rooted.{HasKernel, IsRooted}
use Rattle.tr_dispatch.proofs.Kernels.{control_inside}
use Rattle.tr_dispatch.proofs.Members.{contains_none}

-- the kernel's pages are its own, and the page behind them is the root coffer's
kernel_owns : (pages page : ℕ) → page < kernel_pages pages → owner_in_new pages page ≡ 65535
kernel_owns pages page lt = ap (λ (t : Bool). cond t 65535 (cond (nat_lt page (kernel_pages pages + 2)) 1 0)) (lt-ltb page (kernel_pages pages) lt)

root_owns : (pages : ℕ) → owner_in_new pages (root_control pages) ≡ 1
root_owns pages =
    ap (λ (t : Bool). cond t 65535 (cond (nat_lt (kernel_pages pages) (kernel_pages pages + 2)) 1 0)) (le-ltb (kernel_pages pages) (kernel_pages pages) (omega arith))
    ∙ ap (λ (t : Bool). cond t 1 0) (lt-ltb (kernel_pages pages) (kernel_pages pages + 2) (omega arith))

module _ (pages : ℕ) (least : 64 ≤ pages) (most : pages ≤ 16384) where
  count_is : pages_of (all_durable (new_image pages)) ≡ pages
  count_is = pages_are (all_durable (new_image pages)) pages (size_opened pages least most).whole

  opened_alone : IsRootAlone (all_durable (new_image pages))
  opened_alone =
      let count = new_committed pages least most in
      record {
        idle = record {
          present = count;
          older = ap (λ (w : Word). w.older) (word_at_all_durable (new_image pages) (committed_word / 8) (let len = (size_new pages least most).whole in omega (arith, len, least)));
        };
        entries = λ i lt.
            subst (λ (n : ℕ). (word_at (all_durable (new_image pages)) (word_of (page_at (coffer_table n)) i)).present ≡ coffer_word n i) (sym count_is)
            (sym (idle_word (all_durable (new_image pages)) (word_of (page_at (coffer_table pages)) i) count) ∙ (new_tables pages least most).entries i lt);
      }

  pub opened_kernel : HasKernel (all_durable (new_image pages))
  opened_kernel = record {
    alone = opened_alone;
    size = has_pages _ pages (size_opened pages least most);
    owned = λ page lt.
        let low : page < kernel_pages pages = subst (λ (n : ℕ). page < kernel_pages n) count_is lt in
        let inside = control_inside pages least in
        owner_new pages page least most (omega (arith, low, inside)) ∙ kernel_owns pages page low;
    control =
        ap (λ (n : ℕ). owner_of (all_durable (new_image pages)) (root_control n)) count_is
        ∙ owner_new pages (root_control pages) least most (control_inside pages least) ∙ root_owns pages;
  }

  pub opened_rooted : IsRooted (world_of (new_image pages))
  opened_rooted = record {
    kernel = opened_kernel;
    rows = λ row among. absurd (contains_none row among);
    table = refl;
  }
