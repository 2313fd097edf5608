-- A thread that has its reply leaves its durable commits behind.
use Rattle.std.proofs.Common.{◌≡◌, ◌≢◌, inl, inr, ℕ, ◌+◌, ◌≤◌, ◌==◌, List, Bool, true, false, Option, Some, None, if◌then◌else◌, refl, sym, ap, ◌∙◌, arith, ne_eqb, le_refl}
use Rattle.std.proofs.lemmas.Option.{none-some}
use Rattle.zo_model.specs.Tree.{Member, Node, Directory}
use Rattle.zo_model.specs.CofferWords.{CofferAt, Use, IsDir}
use Rattle.zo_units.specs.Memory.{Memory}
use Rattle.zo_units.specs.Units.{Commitment, Lasts, IsOpen, IsStill, MayStand, Stood, above, IsSound as IsSoundAt}
use Rattle.zo_units.proofs.Places.{rises_none}
use Rattle.zo_units.proofs.Nodes.{commit_same}
use Rattle.zo_units.proofs.Steps.{same_spares}
use Rattle.zo_shared.specs.Shared.{Shared, IsSound}
use Rattle.zo_shared.specs.Deeds.{Reply, MayDo, does, kept_last}
use Rattle.zo_shared.proofs.Frames.{Stays, Done, spared_by}

-- All stays sound without last commits that are durable.
module _ (m : Memory) (coffer : CofferAt) (tree : List Member) (page_of : List (List ℕ) → ℕ) (use_of : ℕ → Use) (lasts fewer : Lasts) (s : IsSoundAt m coffer tree page_of use_of lasts)
    (had : (names : List (List ℕ)) (c : Commitment) → fewer names ≡ Some c → lasts names ≡ Some c) (has : (names : List (List ℕ)) (c : Commitment) → lasts names ≡ Some c → IsOpen m c → fewer names ≡ Some c) where
  stood : (names : List (List ℕ)) (node : Node) → Stood m tree fewer names node → Stood m tree lasts names node
  stood names node st = record { commit = st.commit; last = had (above names) st.commit st.last; opened = st.opened; was = st.was }

  may_stand : (names : List (List ℕ)) (node : Node) → MayStand m tree fewer names node → MayStand m tree lasts names node
  may_stand names node (inl now) = inl now
  may_stand names node (inr st) = inr (stood names node st)

  still : (names : List (List ℕ)) → IsStill m (lasts names) → IsStill m (fewer names)
  still names is c last opened = is c (had names c last) opened

  pub sound_fewer : IsSoundAt m coffer tree page_of use_of fewer
  sound_fewer = record {
    tidy = s.tidy;
    denotes = s.denotes;
    intent = s.intent;
    members = λ names node may. s.members names node (may_stand names node may);
    units = λ names may.
        let u = s.units names (may_stand names Directory may) in
        record {
          settled = λ is. u.settled (λ c last opened. is c (has names c last opened) opened);
          pending = λ c last opened. u.pending c (had names c last) opened;
        };
    closed = λ names none. still names (s.closed names none);
    fresh = λ names c last opened dir. elim (s.fresh names c (had (above names) c last) opened dir) [
      | inl before ↦ inl before
      | inr bare ↦ inr (record { members = bare.members; coffers = bare.coffers; still = still names bare.still })
    ];
    gone = λ names node st. s.gone names node (stood names node st);
  }

module _ (g : Shared) (thread now : ℕ) (s : IsSound g) (may : MayDo thread now Reply g) where
  abbrev replied : Shared
  replied = does thread now Reply g

  kept_had : (o : Option Commitment) (c : Commitment) → kept_last g.memory thread o ≡ Some c → o ≡ Some c
  kept_had None c e = absurd (none-some c e)
  kept_had (Some d) c e = by (d.thread == thread) e
    where
      by : (b : Bool) → (if b then None else Some d) ≡ Some c → Some d ≡ Some c
      by true e = absurd (none-some c e)
      by false e = e

  kept_other : (o : Option Commitment) (c : Commitment) → c.thread ≢ thread → o ≡ Some c → kept_last g.memory thread o ≡ Some c
  kept_other None c other e = absurd (none-some c e)
  kept_other (Some d) c other e =
      ap (λ (b : Bool). if b then None else Some d) (ne_eqb d.thread thread (λ same. other (ap (λ (x : Commitment). x.thread) (sym (commit_same d c e)) ∙ same))) ∙ e

  had : (names : List (List ℕ)) (c : Commitment) → replied.lasts names ≡ Some c → g.lasts names ≡ Some c
  had names c last = kept_had (g.lasts names) c last

  has : (names : List (List ℕ)) (c : Commitment) → g.lasts names ≡ Some c → IsOpen g.memory c → replied.lasts names ≡ Some c
  has names c last opened = kept_other (g.lasts names) c (λ same. may.may names c last same opened) last

  stays : (names : List (List ℕ)) → IsDir g.tree names → Stays g replied names
  stays names dir = record {
    home = refl;
    more = λ p e. e;
    only = λ p e. e;
    spared = spared_by g s names dir g.memory (λ a inside is. same_spares g.memory a);
    frees = refl;
    bases = refl;
    raises = refl;
    raised = refl;
    members = λ name. refl;
    pages = λ name node is. refl;
    last = λ c last. had names c last;
  }

  pub reply_done : Done thread g replied
  reply_done = record {
    later = record {
      now = le_refl g.now;
      count = (let more : g.count ≤ g.count + 1 = omega arith in more);
      rises = rises_none g.memory;
      dirs = λ names dir. dir;
      coffer = λ p inside. inside;
      lasts = λ names c last opened. inl (had names c last);
    };
    each = λ names dir. inl (stays names dir);
    sound = sound_fewer g.memory g.coffer g.tree g.page_of g.use_of g.lasts replied.lasts s.sound had has;
    made = λ names dir. inl dir;
    drawn = λ p who is. let d = s.drawn p who is in record { inside = d.inside; useless = d.useless; not_control = d.not_control };
    homes = s.homes;
    pools = s.pools;
    others_drawn = λ p other differs is. is;
    others_words = λ a other differs is. same_spares g.memory a;
    others_lasts = λ names c differs last opened. kept_other (g.lasts names) c differs last;
  }
