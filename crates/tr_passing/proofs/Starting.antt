-- Before any entry.
use Rattle.std.proofs.Common.{◌≡◌, ℕ, ◌/◌, ◌<◌, ◌≤◌, Bool, true, false, cond, List, [], length, refl, sym, ap, inl, inr, ◌⊎◌, arith, Contains, Some, None}
use Rattle.std.specs.Cmp.Lexicographic.{pointwise_decides, bytes_decides}
use Rattle.std.proofs.lemmas.Bool.{cases_lt, false≢true}
use Rattle.std.proofs.lemmas.List.{get_or-map, get_or_past, length-map}
use Rattle.pm_words.specs.Word.{Word, settled}
use Rattle.pm_words.specs.Memory.{word_at, all_durable}
use Rattle.zo_model.specs.Tree.{Directory, node_at, new_tree, same_names}
use Rattle.tr_model.specs.Worlds.{IsReady}
use Rattle.tr_passing.specs.Laws.{StartLaw}

nothing_there : {X : Type 0} {P : Type 0} (x : X) → Contains {X = X} [] x → P
nothing_there x (k, lt, at) = absurd (omega (arith, lt))

settled_older : (image : List ℕ) (addr : ℕ) → length (word_at (all_durable image) addr).older ≤ 0
settled_older image addr = by (cases_lt (addr / 8) (length image))
  where
    by : (addr / 8 < length image) ⊎ (length image ≤ addr / 8) → length (word_at (all_durable image) addr).older ≤ 0
    by (inl lt) = let is : length (word_at (all_durable image) addr).older ≡ 0 = ap (λ (w : Word). length w.older) (get_or-map settled image (addr / 8) 0 (settled 0) lt) in omega (arith, is)
    by (inr le) =
        let len = length-map image settled in
        let is : length (word_at (all_durable image) addr).older ≡ 0 = ap (λ (w : Word). length w.older) (get_or_past (all_durable image) (addr / 8) (settled 0) (omega (arith, len, le))) in omega (arith, is)

root_only : (names : List (List ℕ)) → node_at new_tree names ≡ Some Directory → names ≡ []
root_only names is = by (same_names [] names) refl is
  where
    by : (b : Bool) → same_names [] names ≡ b → cond b (Some Directory) None ≡ Some Directory → names ≡ []
    by true same e = sym ((pointwise_decides bytes_decides [] names).0 same)
    by false same e = absurd (let isnt : ⊥ = cc in isnt)

pub start : StartLaw
start opening = record {
  tidy = record {
    alone = record { standing = IsReady; is = refl };
    low = settled_older opening;
    alike = λ addr other same. refl;
    placed = λ c there. nothing_there c there;
    before = λ c there. nothing_there c there;
    different = λ c other one two same. nothing_there c one;
    seats = λ thread position seat runs at. absurd (let isnt : ⊥ = cc in isnt);
  };
  ordered = record {
    among = λ b names last is. absurd (let isnt : ⊥ = cc in isnt);
    judged = λ b names last is. absurd (let isnt : ⊥ = cc in isnt);
    passed = λ i is. absurd (false≢true is);
    covered = λ c there j o. nothing_there c there;
    moved = λ ready c there. nothing_there c there;
    unanswered = λ ready c there o. nothing_there c there;
    under = λ c there o. nothing_there c there;
  };
  differs = λ drops allowed. record { nodes = λ b names. refl; counts = λ b names. refl };
  files = λ b names is. root_only names is;
  passed = λ drops allowed. tt;
}
