-- The kernel's calls, one row for each: what refuses it, in order, and what it does. A row is made from the callers, the
-- memory, who holds which coffer, the calling thread and the tick. No committed pair stands when a call comes.
use Rattle.std.specs.Prelude.{◌≡◌, ◌⊎◌, ℕ, ◌+◌, ◌*◌, ◌/◌, ◌%◌, ◌^◌, ◌<◌, ◌≤◌, List, [], ◌∷◌, ◌++◌, length, map, take, filter, fold, Bool, true, false, not, Option, Some, None, is_some, if◌then◌else◌, ◌==◌, ◌&&◌, ◌||◌, nat_lt, slice_index_or, codes}
use Rattle.std.specs.List.{range_with_len, list_any, flat_map, count_by, find}
use Rattle.zo_layout.specs.Layout.{owner_word, page_at, word_of, page_kind}
use Rattle.pm_words.specs.Word.{Word}
use Rattle.pm_words.specs.Memory.{word_at}
use Rattle.tr_types.specs.Paths.{names_of}
use Rattle.kern_model.specs.KernelView.{pages_of}
use Rattle.tr_types.specs.Paths.{same_text, is_path_text, directory_path}
use Rattle.kern_model.specs.Journal.{kernel_word}
use Rattle.kern_model.specs.Inner.{made_all, journal_events}
use Rattle.kern_model.specs.KernelTables.{Coffer, is_mode}
use Rattle.kern_model.specs.Kernel.{kernel_owner, coffer_pages, spare_pages, coffers}
use Rattle.kern_model.specs.PathMap.{coffer_of_path, coffer_above, children_of, coffer_with, coffer_at_path, is_coffer, free_id, added_pairs, dropped_pairs, perm_pairs, state_pairs}
use Rattle.tr_types.specs.Permission.{refuses, own_right, no_groups}
use Rattle.kern_model.specs.Rights.{process_of, key_for, those_against, is_row_of, with_row, without_row}
use Rattle.tr_types.specs.Permission.{has_bit}
use Rattle.kern_model.specs.declared.inner.Inner.{Inner}
use Rattle.kern_model.specs.declared.inner.Inner.TheVariants.{Store, Flush, Fence}
use Rattle.kern_model.specs.declared.limits.TheConstants.{NOBODY, LONGEST_PATH, LONGEST_LOOK, MOST_NAMES, MOST_GIVEN, NO_THREAD}
use Rattle.tr_types.specs.declared.kernel_call.Kcall.{Kcall}
use Rattle.tr_types.specs.declared.kernel_call.Kcall.TheVariants as call
use Rattle.tr_types.specs.declared.kernel_call.KernAnswer.{KernAnswer}
use Rattle.tr_types.specs.declared.kernel_call.KernAnswer.TheVariants as answer
use Rattle.tr_types.specs.declared.kernel_call.FoundAt.{FoundAt}
use Rattle.tr_types.specs.declared.kernel_call.Holder.{Holder}
use Rattle.tr_types.specs.declared.kernel_call.Mapped.{Mapped}
use Rattle.tr_types.specs.declared.permission.Cred.{Cred}
use Rattle.tr_types.specs.declared.permission.Perm.{Perm}
use Rattle.tr_types.specs.declared.permission.Right.{Right}

-- Who calls.

-- each process that was started, with its credentials; each thread that was, with its process
pub record Callers : Type 0 where
  pub processes : List (ℕ × Cred)
  pub threads : List (ℕ × ℕ)

-- what a thread is that no process has started: no one, with a uid that no user has. (The recovery calls as such a thread.)
abbrev pub no_one : Cred
no_one = record { uid = 4294967296; gid = 4294967296; groups = no_groups }

abbrev pub cred_in : List (ℕ × Cred) → Option ℕ → Cred
cred_in processes None = no_one
cred_in [] (Some process) = no_one
cred_in (p ∷ processes) (Some process) = if p.0 == process then p.1 else cred_in processes (Some process)

abbrev pub cred_of : Callers → ℕ → Cred
cred_of callers thread = cred_in callers.processes (process_of callers.threads thread)

-- the number under which the recovery calls, which is no thread's
abbrev pub recovery_number : ℕ
recovery_number = NO_THREAD

-- Maps that a row needs.

abbrev pub holds_for_writing : ℕ → ℕ → List Holder → Bool
holds_for_writing thread id holders = list_any (λ h. is_row_of thread id h && has_bit h.right.0 1) holders

-- an exclusive map with the right Own
abbrev pub holds_as_owner : ℕ → ℕ → List Holder → Bool
holds_as_owner thread id holders = list_any (λ h. is_row_of thread id h && has_bit h.right.0 2 && h.exclusive) holders

abbrev pub holds_any : ℕ → ℕ → List Holder → Bool
holds_any thread id holders = list_any (is_row_of thread id) holders

-- the caller's own row of the coffer
abbrev pub own_row : ℕ → ℕ → List Holder → Option Holder
own_row thread id holders = find (is_row_of thread id) holders

-- no map of the coffer is left
abbrev pub without_coffer : ℕ → List Holder → List Holder
without_coffer id holders = filter (λ (h : Holder). not (h.id == id)) holders

-- What a row says.

-- The refusals in their order, of which the first one that is due is the answer; the answer where none is; the pages that
-- are given, which come zeroed; the pairs (address, word) that are stored, in the order of the row's text; the holders after.
pub record Row : Type 0 where
  pub refusals : List (Option KernAnswer)
  pub answer : KernAnswer
  pub granted : List ℕ
  pub pairs : List (ℕ × ℕ)
  pub holders : List Holder

-- a refusal that is due where the test holds
abbrev pub refused_where : Bool → KernAnswer → Option KernAnswer
refused_where true refusal = Some refusal
refused_where false refusal = None

abbrev pub first_due : List (Option KernAnswer) → Option KernAnswer
first_due [] = None
first_due (Some refusal ∷ refusals) = Some refusal
first_due (None ∷ refusals) = first_due refusals

-- a row that changes no word
abbrev pub row_of_maps : List (Option KernAnswer) → KernAnswer → List Holder → Row
row_of_maps refusals answer holders = record { refusals = refusals; answer = answer; granted = []; pairs = []; holders = holders }

-- Pages, links and guards.

-- these pages become the owner's
abbrev pub owner_pairs : List Word → ℕ → List ℕ → List (ℕ × ℕ)
owner_pairs words owner pages = map (λ page. (owner_word (pages_of words) page, owner)) pages

-- the coffer owns the page
abbrev pub owns_page : List Word → ℕ → ℕ → Bool
owns_page words id page = nat_lt page (pages_of words) && (kernel_owner words page == id)

-- the address is a word of a page of the coffer
abbrev pub is_word_of : List Word → ℕ → ℕ → Bool
is_word_of words id addr = (addr % 8 == 0) && owns_page words id (addr / 4096)

-- a page is listed more than once
abbrev pub is_listed_twice : List ℕ → ℕ → Bool
is_listed_twice pages page = nat_lt 1 (count_by (λ p. p == page) pages)

-- a listed page isn't the coffer's, is one of those that it keeps, or is listed twice
abbrev pub is_bad_page : List Word → ℕ → List ℕ → List ℕ → ℕ → Bool
is_bad_page words id kept pages page =
    not (owns_page words id page) || list_any (λ p. p == page) kept || is_listed_twice pages page

-- the page of the first address that is no word of the coffer's
abbrev pub bad_address_page : List Word → ℕ → List ℕ → Option ℕ
bad_address_page words id [] = None
bad_address_page words id (addr ∷ addrs) = if is_word_of words id addr then bad_address_page words id addrs else Some (addr / 4096)

abbrev pub not_yours : Option ℕ → Option ℕ → Option KernAnswer
not_yours (Some page) other = Some (answer.NotYours page)
not_yours None (Some page) = Some (answer.NotYours page)
not_yours None None = None

-- the first page that isn't the parent's, of the addresses of the link's and the guard's word; else the first listed page that is bad
abbrev pub pages_refused : List Word → ℕ → List ℕ → ℕ → List ℕ → List ℕ → Option KernAnswer
pages_refused words parent addrs id kept pages = not_yours (bad_address_page words parent addrs) (find (is_bad_page words id kept pages) pages)

-- The guard's word (address, word) is another than given, or it is a lease that has expired: it isn't 0, and its bits 32
-- to 63, a tick, are less than this tick.
abbrev pub guard_fails : ℕ → ℕ → ℕ → Bool
guard_fails now given found = not (found == given) || (not (found == 0) && nat_lt (found / 2 ^ 32) now)

abbrev pub guard_refused : List Word → ℕ → (ℕ × ℕ) → Option KernAnswer
guard_refused words now guard =
    refused_where (guard_fails now guard.1 (word_at words guard.0).present) (answer.GuardFailed guard.0 (word_at words guard.0).present)

-- A link is an address with the word that stands there and the word that comes there.
abbrev pub link_refused : List Word → (ℕ × ℕ × ℕ) → Option KernAnswer
link_refused words (addr, old, new) =
    refused_where (not ((word_at words addr).present == old)) (answer.LinkDiffers addr (word_at words addr).present)

abbrev pub link_addr : (ℕ × ℕ × ℕ) → ℕ
link_addr (addr, old, new) = addr

abbrev pub link_pair : (ℕ × ℕ × ℕ) → ℕ × ℕ
link_pair (addr, old, new) = (addr, new)

-- too few pages are free
abbrev pub pages_short : List Word → ℕ → Option KernAnswer
pages_short words count = refused_where (nat_lt (length (spare_pages words)) count) (answer.NoPages count (length (spare_pages words)))

-- Coffers that a row names.

abbrev pub no_perm : Perm
no_perm = record { uid = 0; gid = 0; mode = 0 }

abbrev pub no_coffer : Coffer
no_coffer = record { id = 0; path = []; perm = no_perm; state = 0; kind = 0; control = 0; root = 0 }

abbrev pub or_none : Option Coffer → Coffer
or_none None = no_coffer
or_none (Some c) = c

-- the coffer with a number; one with the number 0 where none has it
abbrev pub named : List Word → ℕ → Coffer
named words id = or_none (coffer_with (coffers words) id)

abbrev pub is_there_with : List Word → ℕ → Bool
is_there_with words id = is_some (coffer_with (coffers words) id)

-- the coffer that a path lies in
abbrev pub located : List Word → List ℕ → Coffer
located words path = or_none (coffer_of_path (coffers words) path)

-- the number of a new coffer
abbrev pub next_id : List Word → ℕ
next_id words = id_or_none (free_id (pages_of words) (kernel_word words))
  where
    id_or_none : Option ℕ → ℕ
    id_or_none None = 0
    id_or_none (Some id) = id

-- Paths that a row takes: of at most 1,024 bytes and 32 names to look for; of a new coffer not `/`, of at most 440 bytes,
-- and in a directory that lies in the parent.

abbrev pub is_bad_look : List ℕ → Bool
is_bad_look path = not (is_path_text path) || nat_lt LONGEST_LOOK (length path) || nat_lt MOST_NAMES (length (names_of path))

abbrev pub is_bad_new_path : List Word → ℕ → List ℕ → Bool
is_bad_new_path words parent path =
    not (is_path_text path) || same_text path (codes "/") || nat_lt LONGEST_PATH (length path) || not (is_coffer parent (coffer_of_path (coffers words) (directory_path path)))

-- Find: the coffer of a path, and of a second one where it is given, in one event.

abbrev pub found_for : List Word → List ℕ → FoundAt
found_for words path = record {
  id = (located words path).id;
  exact = same_text (located words path).path path;
  path_len = length (located words path).path;
  perm = (located words path).perm;
}

abbrev pub is_bad_second : Option (List ℕ) → Bool
is_bad_second None = false
is_bad_second (Some path) = is_bad_look path

abbrev pub found_second : List Word → Option (List ℕ) → Option FoundAt
found_second words None = None
found_second words (Some path) = Some (found_for words path)

abbrev pub find_row : List Word → List Holder → List ℕ → Option (List ℕ) → Row
find_row words holders path also =
    row_of_maps (refused_where (is_bad_look path || is_bad_second also) answer.BadPath ∷ []) (answer.Found (found_for words path) (found_second words also)) holders

-- Map: the coffer of a path, under the key that the caller's process has for it, or its least free key of 1 to 15.

abbrev pub least_of : List ℕ → ℕ
least_of [] = 0
least_of (t ∷ ts) = fold (λ least u. if nat_lt u least then u else least) t ts

abbrev pub in_use : Coffer → List ℕ → Option KernAnswer
in_use c threads = refused_where (not (length threads == 0)) (answer.InUse (least_of threads) c.id (length c.path))

abbrev pub key_or_none : Option ℕ → ℕ
key_or_none None = 0
key_or_none (Some key) = key

abbrev pub mapped_as : List Word → Coffer → ℕ → Mapped
mapped_as words c key = record {
  id = c.id;
  key = key;
  control = c.control;
  root = c.root;
  pages = length (coffer_pages words c.id);
  path_len = length c.path;
  perm = c.perm;
}

abbrev pub map_row_for : Callers → List Word → List Holder → ℕ → List ℕ → Right → Bool → Coffer → Row
map_row_for callers words holders thread path right exclusive c =
    row_of_maps
    (refused_where (is_bad_look path) answer.BadPath
    ∷ refused_where (refuses c.perm (cred_of callers thread) right) (answer.Denied right c.id (length c.path))
    ∷ refused_where (c.state == 2) (answer.Quarantined c.id (length c.path))
    ∷ in_use c (those_against thread c.id exclusive holders)
    ∷ refused_where (not (is_some (key_for callers.threads holders thread c.id))) (answer.NoKey c.id (length c.path))
    ∷ [])
    (answer.Mapped (mapped_as words c (key_or_none (key_for callers.threads holders thread c.id))))
    (with_row (record { thread = thread; id = c.id; key = key_or_none (key_for callers.threads holders thread c.id); right = right; exclusive = exclusive }) holders)

abbrev pub map_row : Callers → List Word → List Holder → ℕ → List ℕ → Right → Bool → Row
map_row callers words holders thread path right exclusive = map_row_for callers words holders thread path right exclusive (located words path)

-- Unmap: the caller's map of a coffer ends.

abbrev pub unmap_row : List Holder → ℕ → ℕ → Row
unmap_row holders thread id =
    row_of_maps (refused_where (not (holds_any thread id holders)) answer.NotHeld ∷ []) answer.Done (without_row thread id holders)

-- New: a coffer of two pages, with the permission of the caller and this mode, linked in its parent.

abbrev pub new_coffer : List Word → Cred → List ℕ → ℕ → Coffer
new_coffer words cred path mode = record {
  id = next_id words;
  path = path;
  perm = record { uid = cred.uid; gid = cred.gid; mode = mode };
  state = 1;
  kind = 0;
  control = slice_index_or (spare_pages words) 0 0;
  root = slice_index_or (spare_pages words) 1 0;
}

abbrev pub new_row : Callers → List Word → List Holder → ℕ → ℕ → ℕ → List ℕ → ℕ → ℕ → (ℕ × ℕ × ℕ) → (ℕ × ℕ) → Row
new_row callers words holders thread now parent path kind mode link guard = record {
  refusals =
      refused_where (not (holds_for_writing thread parent holders)) answer.NotHeld
      ∷ refused_where (is_bad_new_path words parent path) answer.BadPath
      ∷ pages_refused words parent (link_addr link ∷ guard.0 ∷ []) parent [] []
      ∷ guard_refused words now guard
      ∷ link_refused words link
      ∷ refused_where (is_some (coffer_at_path (coffers words) path)) answer.Taken
      ∷ refused_where (next_id words == 0) answer.TooMany
      ∷ pages_short words 2
      ∷ [];
  answer = answer.Made (next_id words);
  granted = take 2 (spare_pages words);
  pairs =
      owner_pairs words (next_id words) (take 2 (spare_pages words))
      ++ (added_pairs (pages_of words) (kernel_word words) (new_coffer words (cred_of callers thread) path mode)
      ++ ((page_kind (page_at (slice_index_or (spare_pages words) 1 0)), kind) ∷ link_pair link ∷ []));
  holders = holders;
}

-- What a Delete, a Merge and a Mode need first: the coffer, and the right Own on it.

abbrev pub owner_refused : Callers → List Word → ℕ → ℕ → List (Option KernAnswer)
owner_refused callers words thread id =
    refused_where (not (is_there_with words id)) answer.NoCoffer
    ∷ refused_where (refuses (named words id).perm (cred_of callers thread) own_right) (answer.Denied own_right 0 0)
    ∷ []

-- the caller holds the coffer as its owner, for itself alone; the parent is the coffer that it lies directly under; and the caller
-- holds that for writing
abbrev pub holds_both : List Word → List Holder → ℕ → ℕ → ℕ → Bool
holds_both words holders thread id parent =
    holds_as_owner thread id holders && is_coffer parent (coffer_above (coffers words) (named words id).path) && holds_for_writing thread parent holders

abbrev pub has_children : List Word → ℕ → Bool
has_children words id = not (length (children_of (coffers words) id) == 0)

-- Delete: its pages are free, its entry and all maps of it go.

abbrev pub delete_row : Callers → List Word → List Holder → ℕ → ℕ → ℕ → ℕ → (ℕ × ℕ × ℕ) → (ℕ × ℕ) → Row
delete_row callers words holders thread now id parent link guard = record {
  refusals =
      owner_refused callers words thread id
      ++ (refused_where (not (holds_both words holders thread id parent)) answer.NotHeld
      ∷ refused_where (has_children words id) answer.NotEmptyList
      ∷ pages_refused words parent (link_addr link ∷ guard.0 ∷ []) parent [] []
      ∷ guard_refused words now guard
      ∷ link_refused words link
      ∷ []);
  answer = answer.Done;
  granted = [];
  pairs = owner_pairs words NOBODY (coffer_pages words id) ++ (dropped_pairs (pages_of words) (kernel_word words) id ++ link_pair link ∷ []);
  holders = without_coffer id holders;
}

-- Enlarge: the least free pages become the coffer's.

abbrev pub enlarge_row : List Word → List Holder → ℕ → ℕ → ℕ → Row
enlarge_row words holders thread id count = record {
  refusals =
      refused_where (not (holds_for_writing thread id holders)) answer.NotHeld
      ∷ refused_where ((count == 0) || nat_lt MOST_GIVEN count) answer.BadCount
      ∷ pages_short words count
      ∷ [];
  answer = answer.Pages (take count (spare_pages words));
  granted = take count (spare_pages words);
  pairs = owner_pairs words id (take count (spare_pages words));
  holders = holders;
}

-- Shrink: listed pages of the coffer are free.

abbrev pub control_and_root : List Word → ℕ → List ℕ
control_and_root words id = (named words id).control ∷ (named words id).root ∷ []

abbrev pub shrink_row : List Word → List Holder → ℕ → ℕ → ℕ → List ℕ → (ℕ × ℕ) → Row
shrink_row words holders thread now id pages guard = record {
  refusals =
      refused_where (not (holds_for_writing thread id holders)) answer.NotHeld
      ∷ pages_refused words id (guard.0 ∷ []) id (control_and_root words id) pages
      ∷ guard_refused words now guard
      ∷ [];
  answer = answer.Done;
  granted = [];
  pairs = owner_pairs words NOBODY pages;
  holders = holders;
}

-- Split: listed pages of a coffer become a coffer of their own, with the same owner and group and this mode. The first one
-- is its root page, a free page its control page. Where the root page is a directory's, its words 1 to 3 become 0.

abbrev pub first_page : List ℕ → ℕ
first_page pages = slice_index_or pages 0 0

abbrev pub split_coffer : List Word → ℕ → List ℕ → List ℕ → ℕ → Coffer
split_coffer words id path pages mode = record {
  id = next_id words;
  path = path;
  perm = record { uid = (named words id).perm.uid; gid = (named words id).perm.gid; mode = mode };
  state = 1;
  kind = 0;
  control = first_page (spare_pages words);
  root = first_page pages;
}

abbrev pub cleared_words : List Word → ℕ → List (ℕ × ℕ)
cleared_words words page =
    if (word_at words (page_kind (page_at page))).present == 0 then map (λ i. (word_of (page_at page) i, 0)) (1 ∷ 2 ∷ 3 ∷ []) else []

abbrev pub is_same_mode : List Word → ℕ → ℕ → Bool
is_same_mode words id mode = (named words id).perm.mode == mode

abbrev pub split_refused : Callers → List Word → List Holder → ℕ → ℕ → List (Option KernAnswer)
split_refused callers words holders thread id =
    refused_where (not (holds_for_writing thread id holders)) answer.NotHeld
    ∷ refused_where (refuses (named words id).perm (cred_of callers thread) own_right) (answer.Denied own_right 0 0)
    ∷ []

abbrev pub split_row : Callers → List Word → List Holder → ℕ → ℕ → ℕ → List ℕ → List ℕ → ℕ → (ℕ × ℕ × ℕ) → (ℕ × ℕ) → Row
split_row callers words holders thread now id path pages mode link guard =
    if is_same_mode words id mode then row_of_maps (split_refused callers words holders thread id) answer.Same holders
    else record {
      refusals =
          split_refused callers words holders thread id
          ++ (refused_where (is_bad_new_path words id path) answer.BadPath
          ∷ pages_refused words id (link_addr link ∷ guard.0 ∷ []) id (control_and_root words id) pages
          ∷ guard_refused words now guard
          ∷ link_refused words link
          ∷ refused_where (is_some (coffer_at_path (coffers words) path)) answer.Taken
          ∷ refused_where (next_id words == 0) answer.TooMany
          ∷ pages_short words 1
          ∷ []);
      answer = answer.Made (next_id words);
      granted = take 1 (spare_pages words);
      pairs =
          owner_pairs words (next_id words) (pages ++ take 1 (spare_pages words))
          ++ (added_pairs (pages_of words) (kernel_word words) (split_coffer words id path pages mode)
          ++ (cleared_words words (first_page pages) ++ link_pair link ∷ []));
      holders = holders;
    }

-- Merge: a coffer goes into its parent: the listed pages become the parent's, the others are free, its entry and all maps
-- of it go.

abbrev pub unlisted : List ℕ → List ℕ → List ℕ
unlisted listed pages = filter (λ page. not (list_any (λ p. p == page) listed)) pages

abbrev pub merge_row : Callers → List Word → List Holder → ℕ → ℕ → ℕ → ℕ → List ℕ → (ℕ × ℕ × ℕ) → (ℕ × ℕ) → Row
merge_row callers words holders thread now child parent pages link guard = record {
  refusals =
      owner_refused callers words thread child
      ++ (refused_where (not (holds_both words holders thread child parent)) answer.NotHeld
      ∷ refused_where (has_children words child) answer.NotEmptyList
      ∷ pages_refused words parent (link_addr link ∷ guard.0 ∷ []) child ((named words child).control ∷ []) pages
      ∷ guard_refused words now guard
      ∷ link_refused words link
      ∷ []);
  answer = answer.Done;
  granted = [];
  pairs =
      owner_pairs words parent pages ++ (owner_pairs words NOBODY (unlisted pages (coffer_pages words child))
      ++ (dropped_pairs (pages_of words) (kernel_word words) child ++ link_pair link ∷ []));
  holders = without_coffer child holders;
}

-- Mode: the coffer has this mode.

abbrev pub mode_row : Callers → List Word → List Holder → ℕ → ℕ → ℕ → Row
mode_row callers words holders thread id mode = record {
  refusals = owner_refused callers words thread id ++ refused_where (not (holds_as_owner thread id holders)) answer.NotHeld ∷ [];
  answer = answer.Done;
  granted = [];
  pairs = perm_pairs (pages_of words) id (record { uid = (named words id).perm.uid; gid = (named words id).perm.gid; mode = mode });
  holders = holders;
}

-- Recover: the recovery says that the coffer is ready, or that it is quarantined.

abbrev pub recover_row : List Word → List Holder → ℕ → ℕ → Bool → Row
recover_row words holders thread id ready = record {
  refusals =
      refused_where (not (thread == recovery_number)) answer.NotHeld
      ∷ refused_where (not (is_there_with words id)) answer.NoCoffer
      ∷ [];
  answer = answer.Done;
  granted = [];
  pairs = state_pairs (pages_of words) id (if ready then 1 else 2);
  holders = holders;
}

-- the row of each call
abbrev pub row_of : Callers → List Word → List Holder → ℕ → ℕ → Kcall → Row
row_of callers words holders thread now (call.Find path also) = find_row words holders path also
row_of callers words holders thread now (call.Map path right exclusive) = map_row callers words holders thread path right exclusive
row_of callers words holders thread now (call.Unmap id) = unmap_row holders thread id
row_of callers words holders thread now (call.New parent path kind mode link guard) = new_row callers words holders thread now parent path kind mode link guard
row_of callers words holders thread now (call.Delete id parent link guard) = delete_row callers words holders thread now id parent link guard
row_of callers words holders thread now (call.Enlarge id count) = enlarge_row words holders thread id count
row_of callers words holders thread now (call.Shrink id pages guard) = shrink_row words holders thread now id pages guard
row_of callers words holders thread now (call.Split id path pages mode link guard) = split_row callers words holders thread now id path pages mode link guard
row_of callers words holders thread now (call.Merge child parent pages link guard) = merge_row callers words holders thread now child parent pages link guard
row_of callers words holders thread now (call.Mode id mode) = mode_row callers words holders thread id mode
row_of callers words holders thread now (call.Recover id ready) = recover_row words holders thread id ready

-- What a row leaves.

-- pairs in order of address; of two for one word the later store's stands alone
abbrev pub put_pair : List (ℕ × ℕ) → ℕ × ℕ → List (ℕ × ℕ)
put_pair [] p = p ∷ []
put_pair (q ∷ qs) p = if p.0 == q.0 then p ∷ qs else (if nat_lt p.0 q.0 then p ∷ q ∷ qs else q ∷ put_pair qs p)

abbrev pub in_order : List (ℕ × ℕ) → List (ℕ × ℕ)
in_order pairs = fold put_pair [] pairs

-- Pages that are given are zeroed first: each of their words, each of their lines, a fence. (`pages` is in order.)
abbrev pub zeros_of : ℕ → List Inner
zeros_of page = map (λ i. Store (word_of (page_at page) i) 0) (range_with_len 0 512)

abbrev pub lines_of_page : ℕ → List Inner
lines_of_page page = map (λ i. Flush (page_at page + 64 * i)) (range_with_len 0 64)

abbrev pub zero_events : List ℕ → List Inner
zero_events [] = []
zero_events (page ∷ pages) = flat_map zeros_of (page ∷ pages) ++ (flat_map lines_of_page (page ∷ pages) ++ Fence ∷ [])

-- then the pairs are stored by the journal
abbrev pub stored_events : List (ℕ × ℕ) → List Inner
stored_events [] = []
stored_events (p ∷ pairs) = journal_events (in_order (p ∷ pairs))

abbrev pub row_events : Row → List Inner
row_events row = zero_events row.granted ++ stored_events row.pairs

-- the answer: the first refusal that is due, else the row's
abbrev pub answer_by : Option KernAnswer → KernAnswer → KernAnswer
answer_by (Some refusal) answer = refusal
answer_by None answer = answer

abbrev pub row_answer : Row → KernAnswer
row_answer row = answer_by (first_due row.refusals) row.answer

-- a refused call makes no inner event, and changes no holder
abbrev pub unless_refused : {X : Type 0} → Row → X → X → X
unless_refused row refused done = if is_some (first_due row.refusals) then refused else done

abbrev pub answer_of : Callers → List Word → List Holder → ℕ → ℕ → Kcall → KernAnswer
answer_of callers words holders thread now kcall = row_answer (row_of callers words holders thread now kcall)

-- the inner list: the stores, flushes and fences that a call makes, in their order
abbrev pub inner_of : Callers → List Word → List Holder → ℕ → ℕ → Kcall → List Inner
inner_of callers words holders thread now kcall =
    unless_refused (row_of callers words holders thread now kcall) [] (row_events (row_of callers words holders thread now kcall))

abbrev pub words_after : Callers → List Word → List Holder → ℕ → ℕ → Kcall → List Word
words_after callers words holders thread now kcall = made_all (inner_of callers words holders thread now kcall) words

abbrev pub holders_after : Callers → List Word → List Holder → ℕ → ℕ → Kcall → List Holder
holders_after callers words holders thread now kcall =
    unless_refused (row_of callers words holders thread now kcall) holders (row_of callers words holders thread now kcall).holders

-- A call that a script can write: its paths are paths, of any length; its right is one; its mode is one; its kind is that of a directory
-- or a file; it lists pages where it lists any.

abbrev pub IsPathText : List ℕ → Type 0
IsPathText path = is_path_text path ≡ true

abbrev pub IsOneRight : Right → Type 0
IsOneRight right = (right.0 ≡ 1) ⊎ ((right.0 ≡ 2) ⊎ (right.0 ≡ 4))

abbrev pub IsPathOrNone : Option (List ℕ) → Type 0
IsPathOrNone None = Unit {0}
IsPathOrNone (Some path) = IsPathText path

abbrev pub IsCall : Kcall → Type 0
IsCall (call.Find path also) = IsPathText path × IsPathOrNone also
IsCall (call.Map path right exclusive) = IsPathText path × IsOneRight right
IsCall (call.New parent path kind mode link guard) = IsPathText path × (kind ≤ 1) × (is_mode mode ≡ true)
IsCall (call.Shrink id pages guard) = 0 < length pages
IsCall (call.Split id path pages mode link guard) = IsPathText path × (0 < length pages) × (is_mode mode ≡ true)
IsCall (call.Merge child parent pages link guard) = 0 < length pages
IsCall (call.Mode id mode) = is_mode mode ≡ true
IsCall kcall = Unit {0}
