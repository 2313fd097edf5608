-- The words that tell the tree, with the uses of their pages; and what is aside of them.
use Rattle.std.proofs.Common.{◌≡◌, ◌≢◌, ◌⊎◌, inl, inr, ℕ, ◌/◌, ◌≤◌, ◌<◌, List, Contains, Option, Some, refl, sym, ap, subst, ◌∙◌, arith}
use Rattle.zo_layout.specs.Layout.{page_at, bucket_head, word_of, control_intent, page_kind, file_map}
use Rattle.zo_model.specs.Tree.{Member, Node, Directory, FileOf}
use Rattle.zo_model.specs.Directory.{IsPlace, IsReached, Shows}
use Rattle.zo_model.specs.CofferWords.{CofferAt, Use, Nothing, Control, Object, Entries, IsEntryPage, wanted}
use Rattle.zo_laws.proofs.Chains.{one_chain}
use Rattle.zo_units.specs.Memory.{Memory, at}
use Rattle.zo_units.specs.Units.{Commitment, Lasts, IsOpen, back, wanted_before, MayStand, IsSound}
use Rattle.zo_units.specs.UnitLaws.{AllTold, IsAside, IsFreeEntry, MayStore, Outside, Useless, Side, ControlWord, FreeEntry, Front, AsideLaw}
use Rattle.zo_units.proofs.Nodes.{told}

-- an entry that is reached has a place
pub reached_place : (words : ℕ → ℕ) (P : ℕ → Type 0) (dir : ℕ) (want : List ℕ → Option ℕ) (entry : ℕ) → Shows words P dir want → IsReached words dir entry → IsPlace P entry
reached_place words P dir want entry shows r =
    let b = shows r.bucket r.is_bucket in
    let same = one_chain words (words (bucket_head dir r.bucket)) r.entries b.entries r.leads b.leads in
    (b.each entry (subst (λ (l : List ℕ). Contains l entry) same r.among)).place

pub nothing_control : Nothing ≡ Control → ⊥
nothing_control e = cc

pub nothing_object : (ns : List (List ℕ)) → Nothing ≡ Object ns → ⊥
nothing_object ns e = cc

pub nothing_entries : (ns : List (List ℕ)) → Nothing ≡ Entries ns → ⊥
nothing_entries ns e = cc

pub control_object : (ns : List (List ℕ)) → Control ≡ Object ns → ⊥
control_object ns e = cc

pub control_entries : (ns : List (List ℕ)) → Control ≡ Entries ns → ⊥
control_entries ns e = cc

pub object_entries : (ns os : List (List ℕ)) → Object ns ≡ Entries os → ⊥
object_entries ns os e = cc

pub object_same : (ns os : List (List ℕ)) → Object ns ≡ Object os → ns ≡ os
object_same ns os e = cc

pub entries_same : (ns os : List (List ℕ)) → Entries ns ≡ Entries os → ns ≡ os
entries_same ns os e = cc

module _ (m : Memory) (coffer : CofferAt) (tree : List Member) (page_of : List (List ℕ) → ℕ) (use_of : ℕ → Use) (lasts : Lasts) (s : IsSound m coffer tree page_of use_of lasts) where
  abbrev pub EntryPages : List (List ℕ) → ℕ → Type 0
  EntryPages names = IsEntryPage coffer use_of names

  -- a chain of the unit reaches the entry, as the words are or without the open commit
  abbrev pub IsReachedNow : List (List ℕ) → ℕ → Type 0
  IsReachedNow names entry =
      IsReached (at m) (page_at (page_of names)) entry
      ⊎ ((c : Commitment) × (lasts names ≡ Some c) × IsOpen m c × IsReached (back m c) (page_at (page_of names)) entry)

  -- a word that tells the tree
  pub data Tells (a : ℕ) : Type 0 where
    OfIntent : a ≡ control_intent (page_at coffer.control) → Tells a
    OfKind : (names : List (List ℕ)) (node : Node) → MayStand m tree lasts names node → a ≡ page_kind (page_at (page_of names)) → Tells a
    OfMap : (names : List (List ℕ)) (bytes : List ℕ) → MayStand m tree lasts names (FileOf bytes) → a ≡ file_map (page_at (page_of names)) → Tells a
    OfHead : (names : List (List ℕ)) (bucket : ℕ) → MayStand m tree lasts names Directory → bucket < 256 → a ≡ bucket_head (page_at (page_of names)) bucket → Tells a
    OfEntry : (names : List (List ℕ)) (entry i : ℕ) → MayStand m tree lasts names Directory → IsPlace (EntryPages names) entry → IsReachedNow names entry → i < 40 → a ≡ word_of entry i → Tells a

  -- what holds of each of them
  pub all_told : (Holds : ℕ → Type 0) → ((a : ℕ) → Tells a → Holds a) → AllTold Holds m coffer tree page_of lasts
  all_told Holds holds = record {
    intent = holds (control_intent (page_at coffer.control)) (OfIntent refl);
    kinds = λ names node may. holds (page_kind (page_at (page_of names))) (OfKind names node may refl);
    maps = λ names bytes may. holds (file_map (page_at (page_of names))) (OfMap names bytes may refl);
    heads = λ names bucket may low. holds (bucket_head (page_at (page_of names)) bucket) (OfHead names bucket may low refl);
    entries = λ names entry i may reached few.
        holds (word_of entry i) (OfEntry names entry i may
        (reached_place (at m) (EntryPages names) (page_at (page_of names)) (wanted page_of coffer tree names) entry (s.members names Directory may).member.shown.1 reached) (inl reached) few refl);
    befores = λ names c entry i may last opened reached few.
        holds (word_of entry i) (OfEntry names entry i may
        (reached_place (back m c) (EntryPages names) (page_at (page_of names)) (wanted_before c page_of coffer tree names) entry ((s.units names may).pending c last opened).shows reached) (inr (c, last, opened, reached)) few refl);
  }

  -- what its page serves for
  pub data Serves (a : ℕ) : Type 0 where
    AsControl : a / 4096 ≡ coffer.control → use_of (a / 4096) ≡ Control → Serves a
    AsObject : (names : List (List ℕ)) → Contains coffer.pages (a / 4096) → use_of (a / 4096) ≡ Object names → Serves a
    AsEntries : (names : List (List ℕ)) → Contains coffer.pages (a / 4096) → use_of (a / 4096) ≡ Entries names → Serves a

  object_serves : (a : ℕ) (names : List (List ℕ)) (node : Node) → MayStand m tree lasts names node → a / 4096 ≡ page_of names → Serves a
  object_serves a names node may e =
      let member = (s.members names node may).member in
      AsObject names (subst (Contains coffer.pages) (sym e) member.coffers) (ap use_of e ∙ member.object)

  pub serves : (a : ℕ) → Tells a → Serves a
  serves a (OfIntent e) =
      let page : a / 4096 ≡ coffer.control = omega (arith, e) in
      AsControl page (ap use_of page ∙ (told (at m) coffer tree page_of use_of s.denotes).control)
  serves a (OfKind names node may e) = object_serves a names node may (omega (arith, e))
  serves a (OfMap names bytes may e) = object_serves a names (FileOf bytes) may (omega (arith, e))
  serves a (OfHead names b may low e) = object_serves a names Directory may (omega (arith, e, low))
  serves a (OfEntry names entry i may place reached few e) =
      let page : a / 4096 ≡ place.page = (let is = place.is in let twelve = place.twelve in omega (arith, e, few, is, twelve)) in
      AsEntries names (subst (Contains coffer.pages) (sym page) place.entries.coffers) (ap use_of page ∙ place.entries.entries)

  module _ (addr : ℕ) where
    -- a page of no use, and one that isn't the coffer's
    not_useless : (a : ℕ) → a / 8 ≡ addr / 8 → use_of (addr / 4096) ≡ Nothing → Serves a → ⊥
    not_useless a same is (AsControl page u) = nothing_control (sym is ∙ ap use_of (let page : addr / 4096 ≡ a / 4096 = omega (arith, same) in page) ∙ u)
    not_useless a same is (AsObject names has u) = nothing_object names (sym is ∙ ap use_of (let page : addr / 4096 ≡ a / 4096 = omega (arith, same) in page) ∙ u)
    not_useless a same is (AsEntries names has u) = nothing_entries names (sym is ∙ ap use_of (let page : addr / 4096 ≡ a / 4096 = omega (arith, same) in page) ∙ u)

    outside : (a : ℕ) → a / 8 ≡ addr / 8 → (Contains coffer.pages (addr / 4096) → ⊥) → addr / 4096 ≢ coffer.control → Serves a → ⊥
    outside a same other apart (AsControl page u) = apart (let there : addr / 4096 ≡ a / 4096 = omega (arith, same) in there ∙ page)
    outside a same other apart (AsObject names has u) = other (subst (Contains coffer.pages) (let there : a / 4096 ≡ addr / 4096 = omega (arith, same) in there) has)
    outside a same other apart (AsEntries names has u) = other (subst (Contains coffer.pages) (let there : a / 4096 ≡ addr / 4096 = omega (arith, same) in there) has)

    -- the use of the page of a word at the same place
    use_there : (a : ℕ) (u : Use) → a / 8 ≡ addr / 8 → use_of (addr / 4096) ≡ u → use_of (a / 4096) ≡ u
    use_there a u same is = ap use_of (let page : a / 4096 ≡ addr / 4096 = omega (arith, same) in page) ∙ is

    object_at : (a : ℕ) (names : List (List ℕ)) (node : Node) → MayStand m tree lasts names node → a / 4096 ≡ page_of names → use_of (a / 4096) ≡ Object names
    object_at a names node may e = ap use_of e ∙ (s.members names node may).member.object

    entries_at : (a : ℕ) (names : List (List ℕ)) (entry i : ℕ) → IsPlace (EntryPages names) entry → i < 40 → a ≡ word_of entry i → use_of (a / 4096) ≡ Entries names
    entries_at a names entry i place few e =
        ap use_of (let page : a / 4096 ≡ place.page = (let is = place.is in let twelve = place.twelve in omega (arith, e, few, is, twelve)) in page) ∙ place.entries.entries

    -- a word beside a directory's names
    beside : (a : ℕ) (names : List (List ℕ)) (i : ℕ) → MayStand m tree lasts names Directory → 1 ≤ i → i ≤ 5 → addr / 8 ≡ word_of (page_at (page_of names)) i / 8 → a / 8 ≡ addr / 8 → Tells a → ⊥
    beside a names i dir some few there same (OfIntent e) =
        control_object names (sym (told (at m) coffer tree page_of use_of s.denotes).control
        ∙ ap use_of (let page : coffer.control ≡ page_of names = omega (arith, e, same, there, few) in page) ∙ (s.members names Directory dir).member.object)
    beside a names i dir some few there same (OfKind ns node may e) = omega (arith, e, same, there, some, few)
    beside a names i dir some few there same (OfMap ns bytes may e) =
        let page : page_of ns ≡ page_of names = omega (arith, e, same, there, few) in
        let one : at m (page_kind (page_at (page_of ns))) ≡ 1 = (s.members ns (FileOf bytes) may).member.shown.0 in
        let zero_is : at m (page_kind (page_at (page_of names))) ≡ 0 = (s.members names Directory dir).member.shown.0 in
        let both : 1 ≡ 0 = sym one ∙ ap (λ (p : ℕ). at m (page_kind (page_at p))) page ∙ zero_is in
        omega (arith, both)
    beside a names i dir some few there same (OfHead ns b may low e) = omega (arith, e, same, there, some, few, low)
    beside a names i dir some few there same (OfEntry ns entry j may place reached low e) =
        object_entries names ns (sym (ap use_of (let page : a / 4096 ≡ page_of names = omega (arith, same, there, few) in page) ∙ (s.members names Directory dir).member.object) ∙ entries_at a ns entry j place low e)

    -- a word of a page of entries
    in_entries : (a : ℕ) (names : List (List ℕ)) → use_of (addr / 4096) ≡ Entries names → a / 8 ≡ addr / 8 → ((ns : List (List ℕ)) (entry i : ℕ) → IsPlace (EntryPages ns) entry → IsReachedNow ns entry → i < 40 → a ≡ word_of entry i → ⊥) → Tells a → ⊥
    in_entries a names is same other (OfIntent e) =
        control_entries names (sym (told (at m) coffer tree page_of use_of s.denotes).control ∙ ap use_of (let page : coffer.control ≡ addr / 4096 = omega (arith, e, same) in page) ∙ is)
    in_entries a names is same other (OfKind ns node may e) = object_entries ns names (sym (object_at a ns node may (omega (arith, e))) ∙ use_there a (Entries names) same is)
    in_entries a names is same other (OfMap ns bytes may e) = object_entries ns names (sym (object_at a ns (FileOf bytes) may (omega (arith, e))) ∙ use_there a (Entries names) same is)
    in_entries a names is same other (OfHead ns b may low e) = object_entries ns names (sym (object_at a ns Directory may (omega (arith, e, low))) ∙ use_there a (Entries names) same is)
    in_entries a names is same other (OfEntry ns entry i may place reached few e) = other ns entry i place reached few e

    free_entry : (a : ℕ) (names : List (List ℕ)) (entry i : ℕ) → IsFreeEntry m coffer page_of use_of lasts names entry → i < 40 → addr / 8 ≡ word_of entry i / 8 → a / 8 ≡ addr / 8 → Tells a → ⊥
    free_entry a names entry i free few there same tells = in_entries a names is same other tells
      where
        p : IsPlace (EntryPages names) entry
        p = free.place

        page : addr / 4096 ≡ p.page
        page = let at_place = p.is in let twelve = p.twelve in omega (arith, at_place, twelve, there, few)

        is : use_of (addr / 4096) ≡ Entries names
        is = ap use_of page ∙ p.entries.entries

        unreached : IsReachedNow names entry → ⊥
        unreached (inl now) = free.unreached now
        unreached (inr (c, last, opened, before)) = free.before c last opened before

        other : (ns : List (List ℕ)) (e j : ℕ) → IsPlace (EntryPages ns) e → IsReachedNow ns e → j < 40 → a ≡ word_of e j → ⊥
        other ns e j q reached low at_word =
            let one = p.is in
            let two = q.is in
            let twelve = p.twelve in
            let few_too = q.twelve in
            let one_entry : e ≡ entry = omega (arith, one, two, twelve, few_too, there, same, at_word, few, low) in
            let unit : ns ≡ names = entries_same ns names (sym (entries_at a ns e j q low at_word) ∙ use_there a (Entries names) same is) in
            unreached (subst (λ (x : ℕ). IsReachedNow names x) one_entry (subst (λ (n : List (List ℕ)). IsReachedNow n e) unit reached))

    front : (a : ℕ) (names : List (List ℕ)) → use_of (addr / 4096) ≡ Entries names → addr / 8 < word_of (page_at (addr / 4096)) 32 / 8 → a / 8 ≡ addr / 8 → Tells a → ⊥
    front a names is low same tells = in_entries a names is same other tells
      where
        other : (ns : List (List ℕ)) (e j : ℕ) → IsPlace (EntryPages ns) e → IsReachedNow ns e → j < 40 → a ≡ word_of e j → ⊥
        other ns e j q reached few at_word = let two = q.is in let twelve = q.twelve in omega (arith, two, twelve, same, at_word, low, few)

    control_word : (a : ℕ) → addr / 4096 ≡ coffer.control → addr / 8 ≢ control_intent (page_at coffer.control) / 8 → a / 8 ≡ addr / 8 → Tells a → ⊥
    control_word a page other same (OfIntent e) = other (sym same ∙ ap (λ (x : ℕ). x / 8) e)
    control_word a page other same (OfKind ns node may e) = control_object ns (sym (use_control a page same) ∙ object_at a ns node may (omega (arith, e)))
      where
        use_control : (a : ℕ) → addr / 4096 ≡ coffer.control → a / 8 ≡ addr / 8 → use_of (a / 4096) ≡ Control
        use_control a page same = use_there a Control same (ap use_of page ∙ (told (at m) coffer tree page_of use_of s.denotes).control)
    control_word a page other same (OfMap ns bytes may e) =
        control_object ns (sym (use_there a Control same (ap use_of page ∙ (told (at m) coffer tree page_of use_of s.denotes).control)) ∙ object_at a ns (FileOf bytes) may (omega (arith, e)))
    control_word a page other same (OfHead ns b may low e) =
        control_object ns (sym (use_there a Control same (ap use_of page ∙ (told (at m) coffer tree page_of use_of s.denotes).control)) ∙ object_at a ns Directory may (omega (arith, e, low)))
    control_word a page other same (OfEntry ns entry i may place reached few e) =
        control_entries ns (sym (use_there a Control same (ap use_of page ∙ (told (at m) coffer tree page_of use_of s.denotes).control)) ∙ entries_at a ns entry i place few e)

    apart : MayStore m coffer tree page_of use_of lasts addr → (a : ℕ) → Tells a → a / 8 ≢ addr / 8
    apart (Outside other control) a tells = λ same. outside a same other control (serves a tells)
    apart (Useless is) a tells = λ same. not_useless a same is (serves a tells)
    apart (Side names i dir some few there) a tells = λ same. beside a names i dir some few there same tells
    apart (ControlWord page other) a tells = λ same. control_word a page other same tells
    apart (FreeEntry names entry i free few there) a tells = λ same. free_entry a names entry i free few there same tells
    apart (Front names is low) a tells = λ same. front a names is low same tells

    pub aside_of : MayStore m coffer tree page_of use_of lasts addr → IsAside m coffer tree page_of lasts addr
    aside_of may = all_told (λ a. a / 8 ≢ addr / 8) (apart may)

pub aside : AsideLaw
aside m coffer tree page_of use_of lasts addr s may = aside_of m coffer tree page_of use_of lasts s addr may
