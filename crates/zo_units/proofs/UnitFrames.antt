-- One unit beside others: it stays a unit where its words are spared, and what they show is wanted as before.
use Rattle.std.proofs.Common.{◌≡◌, ◌⊎◌, inl, inr, ℕ, zero, suc, ◌+◌, ◌-◌, ◌/◌, ◌≤◌, ◌<◌, ◌==◌, if◌then◌else◌, List, [], ◌∷◌, ◌++◌, length, drop, slice_index_or, Contains, Option, Some, None, refl, sym, ap, ap₂, subst, ◌∙◌, arith}
use Rattle.std.proofs.lemmas.Bool.{cases_lt}
use Rattle.pm_words.specs.Word.{Word}
use Rattle.zo_layout.specs.Layout.{page_at, bucket_head, word_of, next_entry, page_kind, file_map}
use Rattle.zo_model.specs.Tree.{Member, Node, Directory, FileOf}
use Rattle.zo_model.specs.Directory.{Shows, IsReached, Leads}
use Rattle.zo_model.specs.CofferWords.{CofferAt, Use, IsEntryPage}
use Rattle.zo_laws.specs.Laws.{KeepsNames}
use Rattle.zo_laws.proofs.Chains.{leads_stay}
use Rattle.zo_laws.proofs.Directories.{shows_stay, reached_before}
use Rattle.zo_laws.proofs.PageLemmas.{shows_want}
use Rattle.zo_units.specs.Memory.{Memory, at, floor, value_at, IsClean, IsTidy}
use Rattle.zo_units.specs.MemoryLaws.{Rises, Spares}
use Rattle.zo_units.specs.Units.{Commitment, IsOpen, IsStill, back, CleanBut, IsFirm, IsFirmNode, wanted_before, IsLink, Head, Next, IsPending, IsUnit}
use Rattle.zo_units.proofs.Places.{length_dropped, dropped_none, empty_is}
use Rattle.zo_units.proofs.Nodes.{still_none, still_durable}

drop_same : (n : ℕ) (xs : List ℕ) → length xs - n ≡ length xs → drop n xs ≡ xs
drop_same zero xs e = refl
drop_same (suc n) [] e = refl
drop_same (suc n) (x ∷ xs) e = absurd (omega (arith, e))

-- an entry stays reached
pub reached_now : (before after : ℕ → ℕ) (dir entry : ℕ) → KeepsNames before after dir → IsReached before dir entry → IsReached after dir entry
reached_now before after dir entry keeps r = record {
  bucket = r.bucket;
  is_bucket = r.is_bucket;
  entries = r.entries;
  leads = subst (λ (w : ℕ). Leads after w r.entries) (sym (keeps.heads r.bucket r.is_bucket)) (leads_stay before after (before (bucket_head dir r.bucket)) r.entries r.leads next);
  among = r.among;
}
  where
    next : (e : ℕ) → Contains r.entries e → after (next_entry e) ≡ before (next_entry e)
    next e h =
        let first : word_of e 0 ≡ next_entry e = omega arith in
        subst (λ (a : ℕ). after a ≡ before a) first (keeps.entries e 0 (record { bucket = r.bucket; is_bucket = r.is_bucket; entries = r.entries; leads = r.leads; among = h }) (omega arith))

module _ (m n : Memory) where
  pub clean_spared : (a : ℕ) → Spares m n a → IsClean m a → IsClean n a
  clean_spared a sp clean = sp.older ∙ ap (λ (xs : List ℕ). drop sp.gone xs) clean ∙ dropped_none sp.gone

  pub but_spared : (but : Option ℕ) (a : ℕ) → Spares m n a → CleanBut m but a → CleanBut n but a
  but_spared but a sp (inl clean) = inl (clean_spared a sp clean)
  but_spared but a sp (inr is) = inr is

  pub firm_node_spared : (page : ℕ) (node : Node) → Spares m n (page_kind page) → ((bytes : List ℕ) → node ≡ FileOf bytes → Spares m n (file_map page)) → IsFirmNode m page node → IsFirmNode n page node
  firm_node_spared page Directory kind map_of firm = clean_spared (page_kind page) kind firm
  firm_node_spared page (FileOf bytes) kind map_of firm = (clean_spared (page_kind page) kind firm.0, clean_spared (file_map page) (map_of bytes refl) firm.1)

  -- where a commit is open still, nothing has gone of its word
  pub value_spared : (c : Commitment) → IsTidy m → Rises m n → Spares m n c.addr → c.place ≡ floor m c.addr + 1 → IsOpen n c → value_at n c.addr (floor n c.addr) ≡ value_at m c.addr (floor m c.addr)
  value_spared c t r sp is opened =
      let up = r.floors c.addr in
      let len = ap (λ (xs : List ℕ). length xs) sp.older ∙ length_dropped sp.gone (m.word c.addr).older in
      let top = sp.top in
      let fits = t.older c.addr in
      let left : length (m.word c.addr).older - sp.gone ≡ length (m.word c.addr).older = omega (arith, up, len, top, fits, is, opened) in
      let older : (n.word c.addr).older ≡ (m.word c.addr).older = sp.older ∙ drop_same sp.gone (m.word c.addr).older left in
      let start : floor n c.addr - floor n c.addr ≡ floor m c.addr - floor m c.addr = omega arith in
      ap₂ (λ (xs : List ℕ) (x : ℕ). slice_index_or (xs ++ x ∷ []) (floor n c.addr - floor n c.addr) 0) older sp.present
      ∙ ap (λ (k : ℕ). slice_index_or ((m.word c.addr).older ++ at m c.addr ∷ []) k 0) start

  pub back_spared : (c : Commitment) → value_at n c.addr (floor n c.addr) ≡ value_at m c.addr (floor m c.addr) → (a : ℕ) → Spares m n a → back n c a ≡ back m c a
  back_spared c value a sp = ap₂ (λ (v x : ℕ). if a / 8 == c.addr / 8 then v else x) value sp.present

  pub firm_spared : (but : Option ℕ) (words new : ℕ → ℕ) (dir : ℕ) → ((b : ℕ) → b < 256 → Spares m n (bucket_head dir b)) → ((entry i : ℕ) → IsReached words dir entry → i < 40 → Spares m n (word_of entry i))
      → ((entry : ℕ) → IsReached new dir entry → IsReached words dir entry) → IsFirm m but words dir → IsFirm n but new dir
  firm_spared but words new dir heads entries reached firm = record {
    heads = λ b low. but_spared but (bucket_head dir b) (heads b low) (firm.heads b low);
    entries = λ entry i now few. let was = reached entry now in but_spared but (word_of entry i) (entries entry i was few) (firm.entries entry i was few);
  }

  -- where an open commit has become durable, all is clean
  pub shut_spared : (c : Commitment) (dir : ℕ) (new : ℕ → ℕ) → IsTidy n → IsClean n c.addr → IsFirm n (Some c.addr) new dir → IsFirm n None new dir
  shut_spared c dir new t clean firm = record { heads = λ b low. shut (bucket_head dir b) (firm.heads b low); entries = λ entry i r few. shut (word_of entry i) (firm.entries entry i r few) }
    where
      shut : (a : ℕ) → CleanBut n (Some c.addr) a → CleanBut n None a
      shut a (inl is) = inl is
      shut a (inr same) = inl (ap (λ (w : Word). w.older) (t.words a c.addr same) ∙ clean)

  pub durable_clean : (c : Commitment) → IsTidy n → n.top c.addr ≡ c.place → 0 < c.place → c.place ≤ floor n c.addr → IsClean n c.addr
  durable_clean c t top some le = let fits = t.older c.addr in empty_is (n.word c.addr).older (omega (arith, fits, top, some, le))

-- One unit, whose directory has its page as before: what its words show may be wanted of a larger tree, in more pages.
module _ (m n : Memory) (coffer grown : CofferAt) (tree larger : List Member) (page_of pages_of : List (List ℕ) → ℕ) (use_of now_of : ℕ → Use) (names : List (List ℕ)) (last : Option Commitment)
    (was_tidy : IsTidy m) (tidy : IsTidy n) (r : Rises m n) (page : page_of names ≡ pages_of names) (want : List ℕ → Option ℕ)
    (shown : Shows (at m) (IsEntryPage coffer use_of names) (page_at (page_of names)) want)
    (grows : (p : ℕ) → IsEntryPage coffer use_of names p → IsEntryPage grown now_of names p)
    (wants : (c : Commitment) → last ≡ Some c → IsOpen m c → (name : List ℕ) → wanted_before c page_of coffer tree names name ≡ wanted_before c pages_of grown larger names name)
    (heads : (b : ℕ) → b < 256 → Spares m n (bucket_head (page_at (page_of names)) b))
    (entries : (entry i : ℕ) → IsReached (at m) (page_at (page_of names)) entry → i < 40 → Spares m n (word_of entry i))
    (befores : (c : Commitment) (entry i : ℕ) → last ≡ Some c → IsOpen m c → IsReached (back m c) (page_at (page_of names)) entry → i < 40 → Spares m n (word_of entry i))
    (u : IsUnit m coffer tree page_of use_of names last) where
  abbrev pub P : ℕ → Type 0
  P = IsEntryPage coffer use_of names

  abbrev pub Q : ℕ → Type 0
  Q = IsEntryPage grown now_of names

  abbrev pub dir : ℕ
  dir = page_at (page_of names)

  pub keeps : KeepsNames (at m) (at n) dir
  keeps = record { heads = λ b low. (heads b low).present; entries = λ entry i reached few. (entries entry i reached few).present }

  reached_was : (entry : ℕ) → IsReached (at n) dir entry → IsReached (at m) dir entry
  reached_was entry now = reached_before P (at m) (at n) dir want shown keeps entry now

  firm_now : (but : Option ℕ) → IsFirm m but (at m) dir → IsFirm n but (at n) dir
  firm_now but firm = firm_spared m n but (at m) (at n) dir heads entries reached_was firm

  link_spared : (addr : ℕ) → IsLink (at m) dir addr → Spares m n addr
  link_spared addr (Head b low e) = subst (Spares m n) (sym e) (heads b low)
  link_spared addr (Next entry reached e) =
      let first : word_of entry 0 ≡ addr = (let zero_is : word_of entry 0 ≡ next_entry entry = omega arith in zero_is ∙ sym e) in
      subst (Spares m n) first (entries entry 0 reached (omega arith))

  link_now : (addr : ℕ) → IsLink (at m) dir addr → IsLink (at n) dir addr
  link_now addr (Head b low e) = Head b low e
  link_now addr (Next entry reached e) = Next entry (reached_now (at m) (at n) dir entry keeps reached) e

  module _ (c : Commitment) (is : last ≡ Some c) (opened : IsOpen n c) where
    was_open : IsOpen m c
    was_open = let up = r.floors c.addr in omega (arith, up, opened)

    p : IsPending m coffer tree page_of use_of names c
    p = u.pending c is was_open

    addr_spared : Spares m n c.addr
    addr_spared = link_spared c.addr p.link

    value_is : value_at n c.addr (floor n c.addr) ≡ value_at m c.addr (floor m c.addr)
    value_is = value_spared m n c was_tidy r addr_spared p.is opened

    keeps_back : KeepsNames (back m c) (back n c) dir
    keeps_back = record {
      heads = λ b low. back_spared m n c value_is (bucket_head dir b) (heads b low);
      entries = λ entry i reached few. back_spared m n c value_is (word_of entry i) (befores c entry i is was_open reached few);
    }

    pending_now : IsPending n grown larger pages_of now_of names c
    pending_now = record {
      top = addr_spared.top ∙ p.top;
      is = (let up = r.floors c.addr in let was = p.is in omega (arith, up, was, opened));
      link = subst (λ (q : ℕ). IsLink (at n) (page_at q) c.addr) page (link_now c.addr p.link);
      here = p.here;
      now = subst (λ (q : ℕ). IsFirm n (Some c.addr) (at n) (page_at q)) page (firm_now (Some c.addr) p.now);
      shows =
          subst (λ (q : ℕ). Shows (back n c) Q (page_at q) (wanted_before c pages_of grown larger names)) page
          (shows_want (back n c) Q dir (wanted_before c page_of coffer tree names) (wanted_before c pages_of grown larger names) (wants c is was_open)
          (shows_stay P Q (back m c) (back n c) dir (wanted_before c page_of coffer tree names) p.shows keeps_back grows));
      was =
          subst (λ (q : ℕ). IsFirm n (Some c.addr) (back n c) (page_at q)) page
          (firm_spared m n (Some c.addr) (back m c) (back n c) dir heads (λ entry i reached few. befores c entry i is was_open reached few)
          (λ entry now. reached_before P (back m c) (back n c) dir (wanted_before c page_of coffer tree names) p.shows keeps_back entry now) p.was);
    }

  settled_now : IsStill n last → IsFirm n None (at n) dir
  settled_now still = by last refl
    where
      by : (l : Option Commitment) → last ≡ l → IsFirm n None (at n) dir
      by None is = firm_now None (u.settled (still_none m last is))
      by (Some c) is = at_floor (cases_lt (floor m c.addr) c.place) (cases_lt (floor n c.addr) c.place)
        where
          at_floor : (floor m c.addr < c.place) ⊎ (c.place ≤ floor m c.addr) → (floor n c.addr < c.place) ⊎ (c.place ≤ floor n c.addr) → IsFirm n None (at n) dir
          at_floor (inr shut) _ = firm_now None (u.settled (still_durable m last c is shut))
          at_floor (inl was) (inl opened) = absurd (still c is opened)
          at_floor (inl was) (inr done) =
              let p = u.pending c is was in
              let place = p.is in
              let sp = link_spared c.addr p.link in
              shut_spared m n c dir (at n) tidy (durable_clean m n c tidy (sp.top ∙ p.top) (omega (arith, place)) done) (firm_now (Some c.addr) p.now)

  pub unit_moved : IsUnit n grown larger pages_of now_of names last
  unit_moved = record { settled = λ still. subst (λ (q : ℕ). IsFirm n None (at n) (page_at q)) page (settled_now still); pending = λ c is opened. pending_now c is opened }
