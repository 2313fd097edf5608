-- What a step of a look-up gives.
use Rattle.std.proofs.Common.{◌≡◌, ◌≢◌, ◌⊎◌, ℕ, ◌+◌, ◌*◌, ◌/◌, ◌%◌, ◌^◌, ◌<◌, ◌≤◌, ◌-◌, Bool, true, false, length, get_or, sym, refl, subst, ◌∙◌, inl, inr, arith}
use Rattle.std.proofs.lemmas.Bool.{cases_lt}
use Rattle.zo_layout.specs.Layout.{first_free_entry, name_length, name_word, next_entry, word_of}
use Rattle.zo_model.specs.Directory.{IsPlace, name_at}
use Rattle.tr_types.specs.declared.action.Answer.{Answer}
use Rattle.tr_types.specs.declared.action.Answer.TheVariants.{Word}
use Rattle.zo_hash_dir.specs.Addresses.{IsEntryAddress}
use Rattle.zo_hash_dir.specs.Scene.{Scene, IsPageOf, IsNoneOr, CanMake, IsRead, OfFree}
use Rattle.zo_hash_dir.specs.declared.lookup.Lookup.{Lookup}
use Rattle.zo_hash_dir.specs.declared.lookup.Asked.{Asked}
use Rattle.zo_hash_dir.specs.declared.lookup.Visit.{Visit}
use Rattle.zo_hash_dir.specs.declared.lookup.LookStep.{LookStep}
use Rattle.zo_hash_dir.specs.declared.lookup.LookStep.TheVariants.{Load}
use Rattle.zo_hash_dir.specs.Looking.{Aim, aim_of, asked_word, Walks, KnowsVisit, KnowsAt, Stands, GivesFor, Gives}
use Rattle.zo_hash_dir.proofs.Names.{length-text_at, named_len, named_letters}
use Rattle.zo_hash_dir.proofs.Walking.{entry_read, walks_on, place_allowed}

-- a word is asked for
pub gives_load : (l : Lookup) (a : Aim) (s : Scene) (asked : Asked) (step : LookStep) → aim_of l ≡ a → l.asked ≡ asked → step ≡ Load (asked_word a.dir a.name asked)
    → Stands a s → IsRead s a.dir (asked_word a.dir a.name asked) → KnowsAt asked (Word (s.at (asked_word a.dir a.name asked))) a s → Gives l s step
gives_load l a s asked step aim_is asked_is step_is stands read knows =
    let addr = asked_word a.dir a.name asked in
    let first : GivesFor l (aim_of l) s (Load addr) = (
      subst (λ (b : Aim). IsRead s b.dir addr) (sym aim_is) read,
      record {
        stands = subst (λ (b : Aim). Stands b s) (sym aim_is) stands;
        at = subst (λ (b : Aim). KnowsAt l.asked (Word (s.at addr)) b s) (sym aim_is) (subst (λ (q : Asked). KnowsAt q (Word (s.at addr)) a s) (sym asked_is) knows);
      },
    ) in
    subst (GivesFor l (aim_of l) s) (sym step_is) first

-- a word of the entry at hand is read
pub visit_read : (a : Aim) (s : Scene) (v : Visit) (i : ℕ) → KnowsVisit a s v → i < 40 → IsRead s a.dir (word_of v.entry.at i)
visit_read a s v i k low = entry_read s a.dir a.name a.visits v.before v.entry.at i k.visits low

pub next_read : (a : Aim) (s : Scene) (v : Visit) → KnowsVisit a s v → IsRead s a.dir (next_entry v.entry.at)
next_read a s v k =
    let first : word_of v.entry.at 0 ≡ next_entry v.entry.at = omega arith in
    subst (IsRead s a.dir) first (visit_read a s v 0 k (omega arith))

pub letters_read : (a : Aim) (s : Scene) (v : Visit) (i : ℕ) → KnowsVisit a s v → s.at (name_length v.entry.at) ≡ length a.name → 8 * i < length a.name → IsRead s a.dir (name_word v.entry.at i)
letters_read a s v i k len low =
    let short = k.visits.here.name.short in
    let same = length-text_at s.at (name_word v.entry.at 0) (s.at (name_length v.entry.at)) in
    visit_read a s v (3 + i) k (omega (arith, short, same, len, low))

-- a test that is false says the other
pub not_less : (x y : ℕ) (r : Bool) → (x < y → r ≡ true) → r ≡ false → y ≤ x
not_less x y r holds isnt = by (cases_lt x y)
  where
    by : (x < y) ⊎ (y ≤ x) → y ≤ x
    by (inl low) = absurd (let yes = holds low in cc)
    by (inr high) = high

-- the first free entry is read
pub free_read : (a : Aim) (s : Scene) (free : ℕ) → free ≡ s.at (first_free_entry a.dir) → 0 < free → CanMake s a.dir → IsRead s a.dir (next_entry free)
free_read a s free is some make = by make.free
  where
    by : IsNoneOr (IsPlace (IsPageOf s.pages)) (s.at (first_free_entry a.dir)) → IsRead s a.dir (next_entry free)
    by (inl none) = absurd (omega (arith, is, none, some))
    by (inr place) = OfFree free is (subst (IsPlace (IsPageOf s.pages)) (sym is) place) refl

-- the entry's name is another, by its length or by the letters of one of its words
pub other_length : (a : Aim) (s : Scene) (v : Visit) (len : ℕ) → len ≡ s.at (name_length v.entry.at) → len ≢ length a.name → name_at s.at v.entry.at ≢ a.name
other_length a s v len is ne named = ne (is ∙ named_len s.at a.name v.entry.at named)

pub other_letters : (a : Aim) (s : Scene) (v : Visit) (i word : ℕ) (r : Bool) → word ≡ s.at (name_word v.entry.at i) → 8 * i < length a.name
    → ((8 * i < length a.name) × ((k : ℕ) → k < 8 → 8 * i + k < length a.name → get_or a.name (8 * i + k) 0 ≡ word / 256 ^ k % 256) → r ≡ true)
    → r ≡ false → name_at s.at v.entry.at ≢ a.name
other_letters a s v i word r is low back isnt named =
    let yes = back (low, named_letters s.at a.name v.entry.at i word named is) in
    cc

-- a name that stands in an entry has few words
pub word_few : (a : Aim) (s : Scene) (v : Visit) (i : ℕ) → KnowsVisit a s v → s.at (name_length v.entry.at) ≡ length a.name → 8 * i < length a.name → i < 32
word_few a s v i k len low =
    omega (arith, k.visits.here.name.short, length-text_at s.at (name_word v.entry.at 0) (s.at (name_length v.entry.at)), len, low)

-- a word that is followed leads to an entry that may be visited
pub never_astray : (a : Aim) (s : Scene) (before word : ℕ) → Walks s a.dir a.name a.visits before → word ≡ s.at before → word ≢ 0 → (0 < a.visits) × IsEntryAddress word
never_astray a s before word w is some =
    let come = walks_on s a.dir a.name a.visits before word w is some in
    let rest = a.visits - 1 in
    let more : a.visits ≡ rest + 1 = omega (arith, come.some) in
    (come.some, place_allowed s.pages word (come.visit rest more).here.place)

-- what is known of what was asked for, under another name for it
pub knows_asked : (asked other : Asked) (a : Aim) (s : Scene) (first answer : Answer) → asked ≡ other → first ≡ answer → KnowsAt asked first a s → KnowsAt other answer a s
knows_asked asked other a s first answer is is' k = subst (λ (q : Asked). KnowsAt q answer a s) is (subst (λ (x : Answer). KnowsAt asked x a s) is' k)
