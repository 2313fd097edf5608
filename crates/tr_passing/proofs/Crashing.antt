-- What may be dropped behind a crash.
use Rattle.std.proofs.Common.{◌≡◌, ℕ, ◌+◌, ◌-◌, ◌%◌, ◌<◌, ◌≤◌, true, ◌++◌, sym, ap, subst, ◌∙◌, inl, inr, ◌⊎◌, arith, Contains, Some, None}
use Rattle.std.specs.Int.{w64, to_le_bytes}
use Rattle.std.proofs.lemmas.Bool.{or_cases}
use Rattle.pm_words.specs.Hash.{fnv64_of}
use Rattle.tr_types.specs.declared.entry.Pick.{Pick}
use Rattle.tr_types.specs.declared.entry.Pick.TheVariants as pick
use Rattle.tr_replay.specs.Worlds.{Base, Commit, dropped, places_of, floor, word_address}
use Rattle.tr_passing.specs.Units.{Units, IsOpen, Allowed, IsAtRisk, units_after}
use Rattle.tr_passing.specs.Laws.{IsTidy, CrashBefore}
use Rattle.tr_passing.proofs.Keeping.{any_dropped}

-- a crash leaves no value before the durable one
floor_left : (choice : Pick) (b : Base) (addr : ℕ) → IsTidy b → floor b addr ≤ places_of choice b addr
floor_left pick.All b addr tidy = omega arith
floor_left pick.None b addr tidy = omega arith
floor_left (pick.Seed seed) b addr tidy = below (floor b addr) (fnv64_of (to_le_bytes w64 seed ++ to_le_bytes w64 (word_address addr)) % (b.tops addr - floor b addr + 1))
  where
    below : (low more : ℕ) → low ≤ low + more
    below low more = omega arith

pub crash_before : CrashBefore
crash_before drops w units choice tidy ordered allowed = record {
  alone = λ i lt judged drop. absurd (gone i lt judged drop);
  with_crash = λ i lt judged drop. by i lt judged (or_cases (drops i) (dropped (places_of choice w.base) w.base.commits i) drop);
}
  where
    gone : (i : ℕ) → i < w.base.count → units.judged i ≡ true → drops i ≡ true → ⊥
    gone i lt judged drop =
        let risk = allowed i (omega (arith, lt)) judged drop in
        none risk.last risk.is
      where
        none : (last : Rattle.tr_passing.specs.Units.Last) → None ≡ Some last → ⊥
        none last e = cc

    by : (i : ℕ) → i < w.base.count → units.judged i ≡ true → (drops i ≡ true) ⊎ (dropped (places_of choice w.base) w.base.commits i ≡ true) → IsAtRisk w units i
    by i lt judged (inl drop) = absurd (gone i lt judged drop)
    by i lt judged (inr drop) = at (any_dropped (places_of choice w.base) i w.base.commits drop)
      where
        at : (c : Commit) × Contains w.base.commits c × (c.position ≡ i) × (places_of choice w.base c.addr < c.place) → IsAtRisk w units i
        at (c, there, is, less) =
            let low = floor_left choice w.base c.addr tidy in
            let unit = ordered.covered c there (ap units.judged is ∙ judged) (omega (arith, low, less)) in
            record {
              birth = unit.birth;
              names = unit.names;
              last = unit.last;
              is = unit.is;
              position_is = ap (λ (x : Commit). x.position) unit.commit_is ∙ is;
              among = subst (Contains w.base.commits) (sym unit.commit_is) there;
              is_open = subst (IsOpen w.base) (sym unit.commit_is) (let o : floor w.base c.addr < c.place = omega (arith, low, less) in o);
            }
