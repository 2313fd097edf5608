-- How the world opens over a new image: the root coffer is the only one, its root directory is empty, and nobody holds it.
use Rattle.std.proofs.Common.{◌≡◌, ◌≢◌, ◌⊎◌, inl, inr, ℕ, ◌+◌, ◌-◌, ◌*◌, ◌/◌, ◌%◌, ◌<◌, ◌≤◌, Bool, true, false, cond, if◌then◌else◌, ◌==◌, List, [], ◌∷◌, ◌++◌, length, Option, Some, None, Contains, refl, sym, ap, subst, ◌∙◌, arith, eq-eqb, ne_eqb}
use Rattle.std.proofs.lemmas.Bool.{cond-true, cond-false, lt-ltb, le-ltb, cases_lt}
use Rattle.std.proofs.lemmas.List.FromFn.{get_or-map-range_with_len, length-map-range_with_len}
use Rattle.std.specs.List.{IsDistinct}
use Rattle.pm_words.specs.Word.{Word}
use Rattle.pm_words.specs.Memory.{all_durable, word_at, present_values}
use Rattle.pm_words.proofs.WordLemmas.{word_at_all_durable, present_all_durable}
use Rattle.zo_layout.specs.Layout.{page_at, word_of, kernel_pages, owner_word, owner_table, coffer_table, bucket_page, root_control, root_page, bucket_head, bucket_of, first_free_entry, first_entry_page, pool_head, page_kind, control_intent, committed_word}
use Rattle.kern_model.specs.NewImage.{new_image, new_word, word_in_page, owner_in_new, coffer_word}
use Rattle.kern_model.specs.KernelView.{value, pages_of, owner_of}
use Rattle.kern_model.specs.Kernel.{coffer_pages}
use Rattle.kern_model.specs.Rights.{closed_pkru, may_write}
use Rattle.kern_model.specs.declared.limits.TheConstants.{KERNEL, ROOT_COFFER}
use Rattle.kern_model.proofs.FreePages.{pages_are, size_opened, free_in_new, owner_new}
use Rattle.kern_model.proofs.NewKernel.{new_committed, new_is_sound}
use Rattle.bus_machine.specs.Opening.{bus_opened, OpensAsIs}
use Rattle.bus_machine.specs.View.{MachineView}
use Rattle.bus_model.specs.Machine.{Bus, bus_over, pkru_of}
use Rattle.bus_model.proofs.MachineLemmas.{closed_first, registers_first}
use Rattle.kern_model.specs.KernelRules.{IsFirstFault}
use Rattle.kern_view.proofs.FaultLemmas.{none_in_sound}
use Rattle.tr_types.specs.Paths.{same_text}
use Rattle.zo_hash_dir.proofs.Members.{contains_none}
use Rattle.zo_model.specs.Tree.{Member, Node, Directory, FileOf, node_at, new_tree, same_names}
use Rattle.zo_model.specs.Directory.{IsBucket, Shows, HasFree}
use Rattle.zo_model.specs.CofferWords.{CofferAt, Use, Nothing, Control, Object, IsEntryPage, IsMember, IsDir, Denotes, Rests, IsInLimits, wanted}
use Rattle.tr_model.specs.OneWindow.{IsWindowed, IsOpen}
use Rattle.tr_model.specs.RootCoffer.{IsRootAlone}
use Rattle.tr_model.specs.Worlds.{World, world_of, IsDenoted}
use Rattle.tr_dispatch.specs.Rooted.{HasKernel, IsRooted, IsAtRest, root_at}
use Rattle.tr_dispatch.specs.Sessions.{IsBare}
use Rattle.tr_dispatch.proofs.Kernels.{owned_page}
use Rattle.tr_dispatch.proofs.Opening.{opened_kernel, opened_rooted}
use Rattle.tr_dispatch.proofs.Register.{shut, shut_stores}
use Rattle.tr_dispatch.proofs.Roots.{denoted_of}
use Rattle.tr_core.specs.declared.calls.Waiting.{Waiting}
use Rattle.tr_core.specs.Standing.{Stands, StandsAs}
use Rattle.tr_core.specs.Traces.{IsTraceOf}
use Rattle.tr_core.proofs.Growing.{row_is}
use Rattle.tr_core.proofs.Turns.{some_none}

-- Words past the kernel's pages.

fifth : (a b c d e : Bool) (v w x y z last : ℕ) → a ≡ false → b ≡ false → c ≡ false → d ≡ false → e ≡ false → cond a v (cond b w (cond c x (cond d y (cond e z last)))) ≡ last
fifth a b c d e v w x y z last ea eb ec ed ee = cond-false a v _ ea ∙ cond-false b w _ eb ∙ cond-false c x _ ec ∙ cond-false d y _ ed ∙ cond-false e z last ee

zero_in_page : (pages page i : ℕ) → kernel_pages pages ≤ page → word_in_page pages page i ≡ 0
zero_in_page pages page i past =
    fifth _ _ _ _ _ _ _ _ _ _ _
    (ne_eqb page 0 (λ e. omega arith))
    (le-ltb page (owner_table pages) (omega arith))
    (le-ltb page (coffer_table pages) (omega arith))
    (ne_eqb page (coffer_table pages) (λ e. omega arith))
    (ne_eqb page (bucket_page pages) (λ e. omega arith))

-- the word at an address of a new image
value_new : (pages addr : ℕ) → addr / 8 < 512 * pages → value (all_durable (new_image pages)) addr ≡ new_word pages (addr / 8)
value_new pages addr inside =
    let place : 0 + addr / 8 ≡ addr / 8 = omega arith in
    let held : addr / 8 < length (new_image pages) = let size = length-map-range_with_len (new_word pages) 0 (512 * pages) in omega arith in
    ap (λ (w : Word). w.present) (word_at_all_durable (new_image pages) (addr / 8) held)
    ∙ get_or-map-range_with_len (new_word pages) 0 (512 * pages) (addr / 8) (addr / 8) 0 inside place

-- each word past the kernel's pages is 0
zero_new : (pages page addr : ℕ) → kernel_pages pages ≤ page → page < pages → page_at page ≤ addr → addr < page_at (page + 1) → value (all_durable (new_image pages)) addr ≡ 0
zero_new pages page addr past lt low high = value_new pages addr (omega arith) ∙ zero_in_page pages (addr / 8 / 512) (addr / 8 % 512) (omega arith)

-- the first two pages past the kernel's are the root coffer's
owner_root : (pages page : ℕ) → kernel_pages pages ≤ page → page < kernel_pages pages + 2 → owner_in_new pages page ≡ 1
owner_root pages page past lt = cond-false _ 65535 _ (le-ltb page (kernel_pages pages) past) ∙ cond-true _ 1 0 (lt-ltb page (kernel_pages pages + 2) lt)

-- lists of none and of one
none_twice : IsDistinct same_text []
unfolding IsDistinct
none_twice = tt

one_name : IsDistinct same_names ([] ∷ [])
unfolding IsDistinct
one_name = (tt, tt)

module _ (pages : ℕ) (least : 64 ≤ pages) (most : pages ≤ 16384) where
  abbrev words : List Word
  words = all_durable (new_image pages)

  count : pages_of words ≡ pages
  count = pages_are words pages (size_opened pages least most).whole

  fits : kernel_pages pages + 2 ≤ pages
  fits = (free_in_new pages least most).inside

  abbrev kernel : HasKernel words
  kernel = opened_kernel pages least most

  -- a word of the control page or the root page, whose place is said by the number of pages
  zero_in_root : (at : ℕ → ℕ) → page_at (root_control pages) ≤ at pages → at pages < page_at (root_page pages + 1) → value words (at (pages_of words)) ≡ 0
  zero_in_root at low high = ap (λ (n : ℕ). value words (at n)) count ∙ by (cases_lt (at pages) (page_at (root_page pages)))
    where
      by : (at pages < page_at (root_page pages)) ⊎ (page_at (root_page pages) ≤ at pages) → value words (at pages) ≡ 0
      by (inl below) = zero_new pages (root_control pages) (at pages) (omega arith) (omega (arith, fits)) low (omega (arith, below))
      by (inr above) = zero_new pages (root_page pages) (at pages) (omega arith) (omega (arith, fits)) above high

  abbrev w : World
  w = world_of (new_image pages)

  abbrev pub opens_rooted : IsRooted w
  opens_rooted = opened_rooted pages least most

  -- What the pages serve for.
  abbrev use_in : ℕ → Use
  use_in page = if page == root_control (pages_of words) then Control else (if page == root_page (pages_of words) then Object [] else Nothing)

  use_root : use_in (root_page (pages_of words)) ≡ Object []
  use_root =
      cond-false _ Control _ (ne_eqb (root_page (pages_of words)) (root_control (pages_of words)) (λ e. omega (arith, e)))
      ∙ cond-true _ (Object []) Nothing (eq-eqb (root_page (pages_of words)) (root_page (pages_of words)) refl)

  root_among : Contains (coffer_pages words 1) (root_page (pages_of words))
  root_among = owned_page words 1 (root_page (pages_of words)) kernel (omega (arith, count, fits))
      (subst (λ n. owner_of words (root_page n) ≡ 1) (sym count) (owner_new pages (root_page pages) least most (omega (arith, fits)) ∙ owner_root pages (root_page pages) (omega arith) (omega arith)))

  abbrev coffer : CofferAt
  coffer = root_at w

  abbrev place : List (List ℕ) → ℕ
  place names = root_page (pages_of words)

  nothing_wanted : (name : List ℕ) → wanted place coffer new_tree [] name ≡ None
  nothing_wanted name = refl

  empty_bucket : (bucket : ℕ) → bucket < 256 → IsBucket (value words) (IsEntryPage coffer use_in []) (page_at (root_page (pages_of words))) (wanted place coffer new_tree []) bucket
  empty_bucket bucket lt = record {
    entries = [];
    leads = zero_in_root (λ n. bucket_head (page_at (root_page n)) bucket) (omega arith) (omega (arith, lt));
    each = λ entry among. absurd (contains_none entry among);
    once = none_twice;
    names = λ name is. sym (nothing_wanted name);
  }

  root_member : IsMember (value words) coffer new_tree use_in place [] Directory
  root_member = record {
    coffers = root_among;
    object = use_root;
    shown = (zero_in_root (λ n. page_kind (page_at (root_page n))) (omega arith) (omega arith), empty_bucket);
  }

  member_by : (names : List (List ℕ)) (node : Node) → node_at new_tree names ≡ Some node → IsMember (value words) coffer new_tree use_in place names node
  member_by [] node is = let same : Directory ≡ node = cc in subst (IsMember (value words) coffer new_tree use_in place []) same root_member
  member_by (name ∷ names) node is = cc

  inside_by : (names : List (List ℕ)) (name : List ℕ) (node : Node) → node_at new_tree (names ++ name ∷ []) ≡ Some node → IsDir new_tree names
  inside_by [] name node is = cc
  inside_by (first ∷ names) name node is = cc

  limits_by : (names : List (List ℕ)) (name : List ℕ) (target : ℕ) → IsDir new_tree names → wanted place coffer new_tree names name ≡ Some target → IsInLimits (names ++ name ∷ [])
  limits_by [] name target dir is = let none : None ≡ Some target = is in cc
  limits_by (first ∷ names) name target dir is = cc

  denotes : Denotes (value words) coffer new_tree
  denotes = record {
    use_of = use_in;
    page_of = place;
    control = cond-true _ Control _ (eq-eqb (root_control (pages_of words)) (root_control (pages_of words)) refl);
    no_intent = zero_in_root (λ n. control_intent (page_at (root_control n))) (omega arith) (omega arith);
    root = Directory;
    root_stands = refl;
    root_page = refl;
    once = one_name;
    members = member_by;
    inside = inside_by;
    limits = limits_by;
    below = λ names name clash. cc;
  }

  pub opens_denoted : IsDenoted w
  opens_denoted = denoted_of w opens_rooted denotes

  dirs_by : (names : List (List ℕ)) → IsDir new_tree names → names ≡ []
  dirs_by [] dir = refl
  dirs_by (name ∷ names) dir = cc

  free_by : (names : List (List ℕ)) → HasFree (value words) (IsEntryPage coffer use_in names) (page_at (root_page (pages_of words))) []
  free_by names = record {
    leads = zero_in_root (λ n. first_free_entry (page_at (root_page n))) (omega arith) (omega arith);
    each = λ entry among. absurd (contains_none entry among);
  }

  pub opens_at_rest : IsAtRest w
  unfolding denotes
  opens_at_rest = record {
    alone = record { coffers_are = refl; path = refl; below = refl; root = refl; dirs = dirs_by };
    rests = record {
      denotes = denotes;
      frees = λ names. [];
      free = λ names dir. free_by names;
      first = λ names dir. inl (zero_in_root (λ n. first_entry_page (page_at (root_page n))) (omega arith) (omega arith));
      pool = λ pool le. zero_in_root (λ n. pool_head (page_at (root_control n)) pool) (omega (arith, le)) (omega (arith, le));
    };
  }

  closed : (thread : ℕ) → pkru_of w.base.machine.bus thread ≡ closed_pkru
  closed thread = closed_first thread

  pub opens_bare : (thread : ℕ) → IsBare w.base.machine.bus thread
  opens_bare thread = record { unheld = λ row among. absurd (contains_none row among); register = closed thread }

  pub opens_windowed : IsWindowed w
  opens_windowed = record {
    one = λ thread key other one two. absurd (shut w.base.machine.bus thread key (closed thread) one);
    closed = λ thread none. closed thread;
    unmapped = λ thread row none among. absurd (contains_none row among);
    consulted = λ thread key opened. absurd (shut w.base.machine.bus thread key (closed thread) opened);
    reading = λ thread key seat is reads key_is. shut_stores w.base.machine.bus thread key (closed thread) key_is;
  }

-- a core as it opens
pub opens_standing : (pages : ℕ) → 64 ≤ pages → pages ≤ 16384 → (m : MachineView) → m.failed ≡ false → m.bus ≡ bus_over (new_image pages) → m.ended ≡ [] → m.down ≡ false → (calls : ℕ → Option Waiting) → ((t : ℕ) → calls t ≡ None) → Stands (world_of (new_image pages)) m calls
opens_standing pages least most m works bus ended down calls quiet = record {
  works = works;
  bus = bus;
  ended = ended;
  down = down;
  rooted = opened_rooted pages least most;
  denoted = opens_denoted pages least most;
  windowed = opens_windowed pages least most;
  registers = registers_first (new_image pages);
  timeless = record { clock = refl; latest = refl; ended = refl; up = refl };
  users = record { creds = λ process cred among. absurd (contains_none (process, cred) among); housed = λ thread process among. absurd (contains_none (thread, process) among) };
  each = λ t. subst (StandsAs (world_of (new_image pages)) t) (sym (quiet t)) (refl, opens_bare pages least most t);
  alone = λ t u one other is_one is_other. absurd (some_none one (sym is_one ∙ quiet t));
  rests = λ none. opens_at_rest pages least most;
}

-- and its trace, which is empty
pub opens_trace : (image : List ℕ) → IsTraceOf image []
opens_trace image = record { allowed = tt; in_call = tt; marked = tt; right = tt; windows = tt; confined = tt; unlost = λ row among. row_is row among; within = omega arith }

-- no rule of the kernel's pages fails in a new image, over which the machine opens as it is
pub no_fault : (words : List Word) (pages place : ℕ) → words ≡ all_durable (new_image pages) → 64 ≤ pages → pages ≤ 16384 → IsFirstFault words place → ⊥
no_fault words pages place is least most first = none_in_sound (all_durable (new_image pages)) place (new_is_sound pages least most) (subst (λ (ws : List Word). IsFirstFault ws place) is first)

pub opens_bus : (bus : Bus) (words : List Word) (pages : ℕ) → OpensAsIs → words ≡ all_durable (new_image pages) → 64 ≤ pages → pages ≤ 16384 → bus ≡ bus_opened words → bus ≡ bus_over (new_image pages)
opens_bus bus words pages law is least most opened =
    opened ∙ ap (λ (ws : List Word). bus_opened ws) is ∙ law (new_image pages) (new_is_sound pages least most) (new_committed pages least most)

-- the words of an image of durable ones
pub opens_image : (words : List Word) (image : List ℕ) (pages : ℕ) → words ≡ all_durable (new_image pages) → image ≡ present_values words → image ≡ new_image pages
opens_image words image pages is present = present ∙ ap present_values is ∙ present_all_durable (new_image pages)
