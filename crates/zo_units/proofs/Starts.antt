-- A coffer whose words are durable, and a coffer after a crash.
use Rattle.std.proofs.Common.{◌≡◌, ◌⊎◌, inl, inr, ℕ, ◌*◌, ◌/◌, ◌≤◌, ◌<◌, List, length, slice_index_or, Contains, Some, None, sym, ap, subst, arith}
use Rattle.std.proofs.lemmas.Bool.{cases_lt}
use Rattle.std.proofs.lemmas.Option.{none-some}
use Rattle.pm_words.specs.Crash.{picked, after_crash}
use Rattle.pm_words.specs.Marks.{mark_at}
use Rattle.pm_words.specs.Memory.{word_at}
use Rattle.pm_words.specs.Word.{Word, settled}
use Rattle.pm_words.specs.declared.choice.Choice.{Choice}
use Rattle.zo_laws.proofs.WordMarks.{past_end, length_each_word, each_word_at}
use Rattle.zo_layout.specs.Layout.{page_at, bucket_head, word_of, control_intent, page_kind, file_map}
use Rattle.zo_model.specs.Tree.{Node, Directory, FileOf, node_at}
use Rattle.zo_model.specs.Directory.{IsPlace}
use Rattle.zo_model.specs.CofferWords.{IsEntryPage, wanted}
use Rattle.zo_units.specs.Memory.{Memory, at, IsClean, IsTidy, memory_of}
use Rattle.zo_units.specs.MemoryLaws.{crash_places, crash_image}
use Rattle.zo_units.specs.Units.{IsFirm, IsFirmNode, MayStand, Stands}
use Rattle.zo_units.specs.UnitLaws.{StartLaw, RecoverLaw}
use Rattle.zo_units.proofs.Nodes.{IsTold, told}
use Rattle.zo_units.proofs.Telling.{reached_place}
use Rattle.zo_units.proofs.Survives.{survives}
use Rattle.zo_units.proofs.Lists.{crashes}

firm_node : (m : Memory) (page : ℕ) (node : Node) → IsClean m (page_kind page) → IsClean m (file_map page) → IsFirmNode m page node
firm_node m page Directory kind map_clean = kind
firm_node m page (FileOf bytes) kind map_clean = (kind, map_clean)

pub starts : StartLaw
starts m coffer tree page_of use_of tidy clean denotes = record {
  tidy = tidy;
  denotes = denotes;
  intent = clean (control_intent (page_at coffer.control)) (inr (omega arith));
  members = λ names node may. stands names node (now names node may);
  units = λ names may. record { settled = λ still. firm names (now names Directory may); pending = λ c last. absurd (none-some c last) };
  closed = λ names none c last. absurd (none-some c last);
  fresh = λ names c last. absurd (none-some c last);
  gone = λ names node st. absurd (none-some st.commit st.last);
}
  where
    t : IsTold (at m) coffer tree page_of use_of
    t = told (at m) coffer tree page_of use_of denotes

    now : (names : List (List ℕ)) (node : Node) → MayStand m tree (λ ns. None) names node → node_at tree names ≡ Some node
    now names node (inl is) = is
    now names node (inr st) = absurd (none-some st.commit st.last)

    -- a word of a member's page
    own : (names : List (List ℕ)) (node : Node) → node_at tree names ≡ Some node → (a : ℕ) → a / 4096 ≡ page_of names → IsClean m a
    own names node is a page = clean a (inl (subst (Contains coffer.pages) (sym page) (t.members names node is).coffers))

    stands : (names : List (List ℕ)) (node : Node) → node_at tree names ≡ Some node → Stands m coffer tree page_of use_of names node
    stands names node is = record {
      member = t.members names node is;
      firm = firm_node m (page_at (page_of names)) node (own names node is (page_kind (page_at (page_of names))) (omega arith)) (own names node is (file_map (page_at (page_of names))) (omega arith));
    }

    entry_clean : (names : List (List ℕ)) (entry i : ℕ) → IsPlace (IsEntryPage coffer use_of names) entry → i < 40 → IsClean m (word_of entry i)
    entry_clean names entry i p few =
        let page : word_of entry i / 4096 ≡ p.page = (let is = p.is in let twelve = p.twelve in omega (arith, is, twelve, few)) in
        clean (word_of entry i) (inl (subst (Contains coffer.pages) (sym page) p.entries.coffers))

    firm : (names : List (List ℕ)) → node_at tree names ≡ Some Directory → IsFirm m None (at m) (page_at (page_of names))
    firm names is = record {
      heads = λ b low. inl (own names Directory is (bucket_head (page_at (page_of names)) b) (omega (arith, low)));
      entries = λ entry i reached few.
          inl (entry_clean names entry i
          (reached_place (at m) (IsEntryPage coffer use_of names) (page_at (page_of names)) (wanted page_of coffer tree names) entry (t.members names Directory is).shown.1 reached) few);
    }

-- the words after a crash are durable
module _ (choice : Choice) (words : List Word) (later : ℕ → ℕ) where
  crashed_word : (a : ℕ) → (value : ℕ) × (word_at (after_crash choice words) a ≡ settled value)
  crashed_word a = by (cases_lt (a / 8) (length words))
    where
      by : (a / 8 < length words) ⊎ (length words ≤ a / 8) → (value : ℕ) × (word_at (after_crash choice words) a ≡ settled value)
      by (inl inside) = (
        picked choice (8 * (a / 8)) (word_at words a).older (word_at words a).present,
        each_word_at (λ place w. settled (picked choice (8 * place) w.older w.present)) words (a / 8) (settled 0) inside,
      )
      by (inr past) =
          let len = length_each_word (λ place w. settled (picked choice (8 * place) w.older w.present)) words in
          let past_too : length (after_crash choice words) ≤ a / 8 = omega (arith, len, past) in
          (0, past_end (after_crash choice words) a past_too)

  crashed_clean : (a : ℕ) → IsClean (memory_of (after_crash choice words) later) a
  crashed_clean a = ap (λ (w : Word). w.older) (crashed_word a).1

  crashed_tidy : IsTidy (memory_of (after_crash choice words) later)
  crashed_tidy = record {
    older = λ a. let len : length (word_at (after_crash choice words) a).older ≡ 0 = ap (λ (w : Word). length w.older) (crashed_word a).1 in omega (arith, len);
    marks = λ thread a. let mark : mark_at (word_at (after_crash choice words) a).marks thread ≡ 0 = ap (λ (w : Word). mark_at w.marks thread) (crashed_word a).1 in omega (arith, mark);
    words = λ a b same. ap (λ (k : ℕ). slice_index_or (after_crash choice words) k (settled 0)) same;
    tops = λ a b same. ap later same;
  }

pub recovers : RecoverLaw
recovers choice words tops later coffer tree other page_of use_of lasts drop s d o =
    starts (memory_of (after_crash choice words) later) coffer other page_of use_of (crashed_tidy choice words later) (λ a inside. crashed_clean choice words later a)
    (survives (memory_of words tops) coffer tree other page_of use_of lasts (crash_places choice (memory_of words tops)) (crash_image choice words) drop s (crashes choice words tops s.tidy) d o)
