-- What a call gives while it counts the names of the root directory.
use Rattle.std.proofs.Common.{◌≡◌, ℕ, ◌+◌, List, [], ◌∷◌, length, filter, drop, codes, inl, inr, Some, refl, sym, ap, subst, ◌∙◌, arith}
use Rattle.std.specs.List.{IsDistinct}
use Rattle.zo_layout.specs.Layout.{page_at}
use Rattle.tr_types.specs.declared.action.Action.TheVariants.{Load}
use Rattle.tr_types.specs.declared.action.Answer.{Answer}
use Rattle.tr_types.specs.declared.command.Command.{Command}
use Rattle.tr_types.specs.declared.command.Command.TheVariants.{Create, Stat}
use Rattle.tr_types.specs.declared.command.Kind.TheVariants.{Dir}
use Rattle.tr_types.specs.declared.command.Reply.TheVariants.{Info}
use Rattle.tr_types.specs.declared.entry.Mark.TheVariants.{Plain}
use Rattle.tr_types.specs.declared.kernel_call.Mapped.{Mapped}
use Rattle.zo_model.specs.Alone.{root_cred}
use Rattle.zo_model.specs.Answers.{path_of, answer, told}
use Rattle.zo_model.specs.CofferWords.{IsDir}
use Rattle.zo_model.specs.Commands.{IsCommand, IsPathOfOne}
use Rattle.zo_model.specs.Steps.{Scene, ActGives, OverGives}
use Rattle.zo_model.specs.Tree.{Member, same_names, is_child}
use Rattle.zo_hash_dir.specs.Counting.{ListKnows, ListGives, HasNames}
use Rattle.zo_hash_dir.specs.Scene.{Scene as Seen, IsShown, IsRead}
use Rattle.zo_hash_dir.specs.declared.list.ListRun.{ListRun}
use Rattle.zo_hash_dir.specs.declared.list.ListStep.{ListStep}
use Rattle.zo_hash_dir.specs.declared.list.ListStep.TheVariants as list_step
use Rattle.zo_laws.specs.NameCounts.{is_under}
use Rattle.zo_laws.proofs.NameCounts.{names_counted}
use Rattle.zo_ops.specs.declared.op.Stage.TheVariants as stage
use Rattle.zo_ops.specs.Knows.{Stands, BeginKnows, CountingKnows, StageKnows, IsStat, name_of, seen}
use Rattle.zo_ops.proofs.AnswerLaws.{alone, stat_root}
use Rattle.zo_ops.proofs.StepLaws.{denoted, load_gives, ground_loaded, told_gives}
use Rattle.zo_ops.proofs.SeenLaws.{is_shown, read_word}

-- a command without a name is a look at `/`
nameless : (command : Command) → IsCommand command → length (name_of command) ≡ 0 → IsStat command × (path_of command ≡ codes "/")
nameless (Create path mode) can none = absurd (named path can.0 none)
  where
    named : (path : List ℕ) → IsPathOfOne path → length (drop 1 path) ≡ 0 → ⊥
    named [] one none = absurd one
    named (byte ∷ name) one none = let some = one.1.some in omega (arith, some, none)
nameless (Stat path) (inl root) none = (tt, root)
nameless (Stat path) (inr one) none = absurd (named path one none)
  where
    named : (path : List ℕ) → IsPathOfOne path → length (drop 1 path) ≡ 0 → ⊥
    named [] one none = absurd one
    named (byte ∷ name) one none = let some = one.1.some in omega (arith, some, none)

pub count_begins : (mapped : Mapped) (command : Command) (count : ListRun) (dir : ℕ) (given : Answer) (s : Scene) → BeginKnows mapped command s → dir ≡ page_at mapped.root → count.dir.at ≡ dir → length (name_of command) ≡ 0
    → ((v : Seen) (first : Answer) → IsShown v dir mapped.pages → ListKnows count first v) → CountingKnows mapped command count given s
count_begins mapped command count dir given s (k, unasked) at dir_is none begins =
    let look = nameless command k.call.can_be none in
    record {
      ground = k;
      unasked = unasked;
      stat = look.0;
      root = look.1;
      dir = dir_is ∙ at;
      knows = begins (seen s k.stands) given (subst (λ a. IsShown (seen s k.stands) a mapped.pages) (sym at) (is_shown mapped command s k));
    }

root_answer : (command : Command) (tree : List Member) (names : ℕ) → IsStat command → path_of command ≡ codes "/" → IsDir tree [] → names ≡ length (filter (is_child []) tree)
    → answer (alone tree) root_cred command ≡ Some (told (alone tree) (Info Dir names 0 0 438))
root_answer (Create path mode) tree names stat root dir count = absurd stat
root_answer (Stat path) tree names stat root dir count = stat_root tree path dir root ∙ ap (λ n. Some (told (alone tree) (Info Dir n 0 0 438))) (sym count)

none_below : (below : List (List (List ℕ))) → below ≡ [] → IsDistinct same_names below
unfolding IsDistinct
none_below below is = subst (IsDistinct same_names) (sym is) tt

module _ (mapped : Mapped) (command : Command) (count new : ListRun) (given : Answer) (result : ListStep) (dir : new.dir ≡ count.dir) (promise : (v : Seen) → ListKnows count given v → ListGives new v result) where
  dir_is : (s : Scene) → CountingKnows mapped command count given s → new.dir.at ≡ page_at mapped.root
  dir_is s k = ap (λ d. d.at) dir ∙ k.dir

  pub count_load_gives : (addr : ℕ) → result ≡ list_step.Load addr → (s : Scene) → CountingKnows mapped command count given s → ActGives (StageKnows mapped command (stage.Counting new)) Plain (Load addr) s
  count_load_gives addr is s k =
      let g = subst (ListGives new (seen s k.ground.stands)) is (promise (seen s k.ground.stands) k.knows) in
      load_gives mapped command (stage.Counting new) addr s (read_word mapped command s k.ground addr (subst (λ d. IsRead (seen s k.ground.stands) d addr) (dir_is s k) g.0)) (denoted s k.ground.stands)
      (record { ground = ground_loaded mapped command addr s k.ground; unasked = k.unasked; stat = k.stat; root = k.root; dir = dir_is s k; knows = g.1 })

  pub count_over_gives : (names : ℕ) → result ≡ list_step.Counted names → (s : Scene) → CountingKnows mapped command count given s → OverGives (Info Dir names 0 0 438) s × Stands s
  count_over_gives names is s k =
      let d = k.ground.stands.rests.denotes in
      let page : new.dir.at ≡ page_at (d.page_of []) = dir_is s k ∙ ap page_at (sym (d.root_page ∙ k.ground.coffer.root)) in
      let g : HasNames s.at (page_at (d.page_of [])) names = subst (λ a. HasNames s.at a names) page (subst (ListGives new (seen s k.ground.stands)) is (promise (seen s k.ground.stands) k.knows)) in
      let below = k.ground.stands.alone.below in
      let counted = names_counted s.at s.coffer k.ground.stands.tree d [] names k.ground.stands.alone.root (none_below s.coffer.below below) g in
      let all : names ≡ length (filter (is_child []) k.ground.stands.tree) = counted ∙ ap (λ (b : List (List (List ℕ))). length (filter (is_child []) k.ground.stands.tree) + length (filter (is_under []) b)) below ∙ none_more (length (filter (is_child []) k.ground.stands.tree)) in
      told_gives mapped command s (Info Dir names 0 0 438) k.ground k.unasked (record { other = refl; denied = λ d. d; cause = tt }) (root_answer command k.ground.stands.tree names k.stat k.root k.ground.stands.alone.root all)
    where
      none_more : (n : ℕ) → n + 0 ≡ n
      none_more n = omega arith

  pub count_not_damaged : (addr : ℕ) → result ≡ list_step.Damaged addr → (s : Scene) → CountingKnows mapped command count given s → ⊥
  count_not_damaged addr is s k = subst (ListGives new (seen s k.ground.stands)) is (promise (seen s k.ground.stands) k.knows)
