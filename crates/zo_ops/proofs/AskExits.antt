-- What a call gives with the call for pages: the kernel's answer, whichever it is, leaves the tree.
use Rattle.std.proofs.Common.{◌≡◌, ℕ, ◌+◌, ◌≤◌, ◌==◌, List, [], ◌∷◌, ◌++◌, Bool, true, false, cond, Option, Some, None, refl, sym, ap, subst, ◌∙◌, arith}
use Rattle.std.proofs.lemmas.Bool.{false≢true, cond-false}
use Rattle.tr_types.specs.declared.action.Action.TheVariants.{Kernel}
use Rattle.tr_types.specs.declared.action.Answer.{Answer}
use Rattle.tr_types.specs.declared.action.Answer.TheVariants.{Word as WordIs, Done, Fault, Kern}
use Rattle.tr_types.specs.declared.command.Command.{Command}
use Rattle.tr_types.specs.declared.command.Command.TheVariants.{Create, Stat}
use Rattle.tr_types.specs.declared.command.Reply.TheVariants.{Made, NoSpace}
use Rattle.tr_types.specs.declared.entry.Mark.TheVariants.{Plain, Commit}
use Rattle.tr_types.specs.declared.kernel_call.Kcall.TheVariants.{Enlarge}
use Rattle.tr_types.specs.declared.kernel_call.KernAnswer.TheVariants as kern
use Rattle.tr_types.specs.declared.kernel_call.Mapped.{Mapped}
use Rattle.tr_types.specs.declared.permission.Cred.{Cred}
use Rattle.zo_model.specs.Alone.{root_coffer, root_cred}
use Rattle.zo_model.specs.Answers.{Answered, answer, consulted, Changes}
use Rattle.zo_model.specs.CofferWords.{IsDir}
use Rattle.zo_model.specs.Coffers.{Coffer}
use Rattle.zo_model.specs.Commands.{IsCommand}
use Rattle.zo_model.specs.Legal.{Verdict, Unjudged, Fixed, is_lost, short_of, short_at, refused_at, HasCause, MayReply, MayTell, pages_needed}
use Rattle.zo_model.specs.Seats.{Told, Refused, told_after}
use Rattle.zo_model.specs.Steps.{Scene, AreGiven, Answers, Leaves, Goes, ActGives, OverGives, MayStore}
use Rattle.zo_model.specs.Tree.{Member, node_at}
use Rattle.zo_plan.specs.declared.place.Place.{Place}
use Rattle.zo_ops.specs.declared.op.Stage.TheVariants as stage
use Rattle.zo_ops.specs.Knows.{Stands, IsUnasked, IsCallOf, Lacks, IsShort, StageKnows, PoolKnows, IsCreate, name_of, pages_for}
use Rattle.zo_ops.proofs.AnswerLaws.{alone, new_file, create_makes}
use Rattle.zo_ops.proofs.StepLaws.{at_rest, denies, denoted, consults_alone}
use Rattle.zo_ops.proofs.SeenLaws.{misses_at}
use Rattle.zo_ops.proofs.DrawnLaws.{drawn_denotes}

pub may_store : (command : Command) → IsCreate command → MayStore command
may_store (Create path mode) create = tt
may_store (Stat path) create = absurd create

-- the coffers with the new file
abbrev pub made_in : List Member → Command → Answered
made_in tree command = record { reply = Made; coffers = alone (tree ++ new_file (name_of command) ∷ []) }

makes_answer : (command : Command) (tree : List Member) → IsCreate command → IsCommand command → IsDir tree [] → node_at tree (name_of command ∷ []) ≡ None → answer (alone tree) root_cred command ≡ Some (made_in tree command)
makes_answer (Create path mode) tree create can root none = ap (λ m. answer (alone tree) root_cred (Create path m)) can.1 ∙ create_makes tree root path can.0 none
makes_answer (Stat path) tree create can root none = absurd create

-- the command makes its file here
pub changes_in : (tree : List Member) (command : Command) (s : Scene) → s.coffers ≡ alone tree → IsCallOf command s → IsCreate command → IsDir tree [] → node_at tree (name_of command ∷ []) ≡ None
    → Changes s.coffers s.seat.cred s.seat.command (made_in tree command)
changes_in tree command s coffers call create root none = (
  ap (λ (cs : List Coffer). answer cs s.seat.cred s.seat.command) coffers
      ∙ ap (λ (c : Cred). answer (alone tree) c s.seat.command) call.cred
      ∙ ap (λ (c : Command). answer (alone tree) root_cred c) call.command_is
      ∙ makes_answer command tree create call.can_be root none,
  refl,
)

pub lacks_none : (place : Place) (mapped : Mapped) (command : Command) (s : Scene) (k : Lacks mapped command place s) → node_at k.ground.stands.tree (name_of command ∷ []) ≡ None
lacks_none place mapped command s k = misses_at mapped command s k.ground (name_of command) k.missing.end.wanted

lacks_changes : (place : Place) (mapped : Mapped) (command : Command) (s : Scene) (k : Lacks mapped command place s) → Changes s.coffers s.seat.cred s.seat.command (made_in k.ground.stands.tree command)
lacks_changes place mapped command s k =
    changes_in k.ground.stands.tree command s k.ground.stands.alone.coffers_are k.ground.call k.create k.ground.stands.alone.root (lacks_none place mapped command s k)

-- a file takes one page or two
few_for : (b : Bool) → cond b 1 0 + 1 ≤ 2
few_for true = omega arith
few_for false = omega arith

some_for : (b : Bool) → 1 ≤ cond b 1 0 + 1
some_for true = omega arith
some_for false = omega arith

needed : (command : Command) → IsCreate command → pages_needed command ≡ 2
needed (Create path mode) create = refl
needed (Stat path) create = absurd create

few_needed : (place : Place) (mapped : Mapped) (command : Command) (s : Scene) → Lacks mapped command place s → pages_for place ≤ pages_needed s.seat.command
few_needed place mapped command s k = subst (λ n. pages_for place ≤ n) (sym (ap pages_needed k.ground.call.command_is ∙ needed command k.create)) (few_for (place.free == 0))

plain_only : Plain ≡ Commit → ⊥
plain_only e = cc

module _ (place : Place) (count : ℕ) (mapped : Mapped) (command : Command) (s : Scene) (k : Lacks mapped command place s) (unasked : IsUnasked s) (drained : s.seat.drained ≡ true) (count_is : count ≡ pages_for place) where
  call_after : (given : Answer) (after : Scene) → Leaves Plain (Kernel (Enlarge s.id count)) given s after → IsCallOf command after
  call_after given after leaves = record {
    command_is = ap (λ seat. seat.command) leaves.seat ∙ k.ground.call.command_is;
    can_be = k.ground.call.can_be;
    cred = ap (λ seat. seat.cred) leaves.seat ∙ k.ground.call.cred;
  }

  drew_goes : (pages : List ℕ) (after : Scene) → AreGiven s.coffer count pages → Leaves Plain (Kernel (Enlarge s.id count)) (Kern (kern.Pages pages)) s after
      → Goes (StageKnows mapped command (stage.Drawing place)) Plain (Kernel (Enlarge s.id count)) (Kern (kern.Pages pages)) s after
  drew_goes pages after given leaves = record {
    legal = λ e. absurd (false≢true e);
    done = λ e. absurd (plain_only e);
    denoted = (
      root_coffer k.ground.stands.tree,
      k.ground.stands.tree,
      consults_alone k.ground.stands.tree after (leaves.coffers ∙ k.ground.stands.alone.coffers_are) (leaves.words.path ∙ k.ground.stands.alone.path) (leaves.words.below ∙ k.ground.stands.alone.below),
      drawn_denotes pages s after leaves.words k.ground.coffer.control_among k.ground.stands.tree k.ground.stands.rests.denotes,
    );
    knows = record {
      base = s;
      lacks = k;
      given = subst (λ n. AreGiven s.coffer n pages) count_is given;
      drawn = leaves.words;
      call = call_after (Kern (kern.Pages pages)) after leaves;
      coffers = leaves.coffers;
      uncommitted = ap (λ seat. seat.committed) leaves.seat ∙ k.ground.uncommitted;
      told = ap (λ seat. seat.told) leaves.seat ∙ ap (λ t. told_after (Kernel (Enlarge s.id count)) s.seat.drained (Kern (kern.Pages pages)) t) unasked.0;
    };
  }

  -- the scene after a refusal
  abbrev short : ℕ → ℕ → Scene
  short asked free = record {
    at = s.at;
    id = s.id;
    coffer = s.coffer;
    coffers = s.coffers;
    seat = record {
      cred = s.seat.cred;
      command = s.seat.command;
      found = s.seat.found;
      committed = s.seat.committed;
      held = s.seat.held;
      drawn = s.seat.drawn;
      told = Refused asked free s.seat.drained;
      tried = s.seat.tried;
      drained = s.seat.drained;
    };
    verdict = refused_at (Kern (kern.NoPages asked free)) s.coffers s.seat s.verdict;
  }

  is_short : (asked free : ℕ) (after : Scene) → Leaves Plain (Kernel (Enlarge s.id count)) (Kern (kern.NoPages asked free)) s after → after ≡ short asked free
  is_short asked free after leaves = λ i. record { at = leaves.words.0 i; id = leaves.id i; coffer = leaves.words.1 i; coffers = leaves.coffers i; seat = leaves.seat i; verdict = leaves.verdict i }

  short_stands : (asked free : ℕ) → Stands (short asked free)
  short_stands asked free = record { tree = k.ground.stands.tree; alone = k.ground.stands.alone; rests = k.ground.stands.rests }

  -- The change would have come about.
  short_verdict : (asked free : ℕ) → refused_at (Kern (kern.NoPages asked free)) s.coffers s.seat s.verdict ≡ Fixed (NoSpace asked free)
  short_verdict asked free =
      cond-false s.seat.committed s.verdict (short_at s.coffers s.seat asked free s.verdict) k.ground.uncommitted
      ∙ cond-false (is_lost (consulted s.coffers s.seat.command)) Unjudged (short_of (answer s.coffers s.seat.cred s.seat.command) asked free s.verdict)
      (ap is_lost (consults_alone k.ground.stands.tree s k.ground.stands.alone.coffers_are k.ground.stands.alone.path k.ground.stands.alone.below).consulted_is)
      ∙ ap (λ (a : Option Answered). short_of a asked free s.verdict) (lacks_changes place mapped command s k).0

  short_knows : (asked free : ℕ) → asked ≡ count → IsShort mapped command place asked free (short asked free)
  short_knows asked free asks = record {
    lacks = record {
      ground = record {
        stands = record { tree = k.ground.stands.tree; alone = k.ground.stands.alone; rests = k.ground.stands.rests };
        call = record { command_is = k.ground.call.command_is; can_be = k.ground.call.can_be; cred = k.ground.call.cred };
        coffer = record { id = k.ground.coffer.id; control = k.ground.coffer.control; root = k.ground.coffer.root; few = k.ground.coffer.few; control_among = k.ground.coffer.control_among; each = k.ground.coffer.each };
        uncommitted = k.ground.uncommitted;
      };
      create = k.create;
      missing = k.missing;
    };
    asked_is = asks ∙ count_is;
    told = ap (λ (d : Bool). Refused asked free d) drained;
    verdict = short_verdict asked free;
  }

  short_goes : (asked free : ℕ) (after : Scene) → asked ≡ count → Leaves Plain (Kernel (Enlarge s.id count)) (Kern (kern.NoPages asked free)) s after
      → Goes (StageKnows mapped command (stage.Drawing place)) Plain (Kernel (Enlarge s.id count)) (Kern (kern.NoPages asked free)) s after
  short_goes asked free after asks leaves =
      subst (λ t. Goes (StageKnows mapped command (stage.Drawing place)) Plain (Kernel (Enlarge s.id count)) (Kern (kern.NoPages asked free)) s t) (sym (is_short asked free after leaves)) (record {
        legal = λ e. absurd (false≢true e);
        done = λ e. absurd (plain_only e);
        denoted = denoted (short asked free) (short_stands asked free);
        knows = short_knows asked free asks;
      })

  asked_goes : (given : Answer) (after : Scene) → Answers s (Kernel (Enlarge s.id count)) given → Leaves Plain (Kernel (Enlarge s.id count)) given s after → Goes (StageKnows mapped command (stage.Drawing place)) Plain (Kernel (Enlarge s.id count)) given s after
  asked_goes (WordIs x) after a leaves = absurd a
  asked_goes Done after a leaves = absurd a
  asked_goes (Fault f) after a leaves = absurd a
  asked_goes (Kern (kern.Pages pages)) after a leaves = drew_goes pages after a leaves
  asked_goes (Kern (kern.NoPages asked free)) after a leaves = short_goes asked free after a.0 leaves
  asked_goes (Kern kern.Done) after a leaves = absurd a
  asked_goes (Kern kern.Same) after a leaves = absurd a
  asked_goes (Kern (kern.Found first second)) after a leaves = absurd a
  asked_goes (Kern (kern.Mapped mapped')) after a leaves = absurd a
  asked_goes (Kern (kern.Made id)) after a leaves = absurd a
  asked_goes (Kern kern.NotHeld) after a leaves = absurd a
  asked_goes (Kern kern.BadPath) after a leaves = absurd a
  asked_goes (Kern (kern.Denied right id len)) after a leaves = absurd a
  asked_goes (Kern (kern.Quarantined id len)) after a leaves = absurd a
  asked_goes (Kern (kern.InUse thread id len)) after a leaves = absurd a
  asked_goes (Kern (kern.NoKey id len)) after a leaves = absurd a
  asked_goes (Kern (kern.NotYours page)) after a leaves = absurd a
  asked_goes (Kern (kern.GuardFailed addr word)) after a leaves = absurd a
  asked_goes (Kern (kern.LinkDiffers addr word)) after a leaves = absurd a
  asked_goes (Kern kern.Taken) after a leaves = absurd a
  asked_goes (Kern kern.TooMany) after a leaves = absurd a
  asked_goes (Kern kern.NoCoffer) after a leaves = absurd a
  asked_goes (Kern kern.NotEmptyList) after a leaves = absurd a
  asked_goes (Kern kern.BadCount) after a leaves = absurd a
  asked_goes (Kern kern.NoMemory) after a leaves = absurd a

  asks : ActGives (StageKnows mapped command (stage.Drawing place)) Plain (Kernel (Enlarge s.id count)) s
  asks = record {
    reachable = (
      subst MayStore (sym k.ground.call.command_is) (may_store command k.create),
      refl,
      subst (λ n. 1 ≤ n) (sym count_is) (some_for (place.free == 0)),
      subst (λ n. n ≤ 1024) (sym count_is) (let few = few_for (place.free == 0) in omega (arith, few)),
      record {
        drained = drained;
        once = unasked.0;
        few = subst (λ n. n ≤ pages_needed s.seat.command) (sym count_is) (few_needed place mapped command s k);
        answered = made_in k.ground.stands.tree command;
        changes = lacks_changes place mapped command s k;
      },
    );
    marked = tt;
    goes = asked_goes;
  }

pub ask_gives : (place : Place) (id count : ℕ) (mapped : Mapped) (command : Command) (s : Scene) → id ≡ mapped.id → count ≡ pages_for place → PoolKnows place mapped command s
    → ActGives (StageKnows mapped command (stage.Drawing place)) Plain (Kernel (Enlarge id count)) s
ask_gives place id count mapped command s id_is count_is (k, unasked, drained) =
    subst (λ n. ActGives (StageKnows mapped command (stage.Drawing place)) Plain (Kernel (Enlarge n count)) s) (k.ground.coffer.id ∙ sym id_is) (asks place count mapped command s k unasked drained count_is)

-- no page was given
pub short_gives : (place : Place) (asked free : ℕ) (mapped : Mapped) (command : Command) (s : Scene) → StageKnows mapped command (stage.Drawing place) (Kern (kern.NoPages asked free)) s → OverGives (NoSpace asked free) s × Stands s
short_gives place asked free mapped command s k = (record { legal = legal; rests = at_rest s k.lacks.ground.stands }, k.lacks.ground.stands)
  where
    legal : MayReply s.coffers s.seat s.verdict (NoSpace asked free)
    legal = record {
      denied = λ right path e. absurd (false≢true (ap denies (sym (lacks_changes place mapped command s k.lacks).0 ∙ e)));
      cause = subst (λ (t : Told). HasCause s.seat t (NoSpace asked free)) (sym k.told) (record {
        reply_is = refl;
        drained_is = refl;
        few = subst (λ n. n ≤ pages_needed s.seat.command) (sym k.asked_is) (few_needed place mapped command s k.lacks);
      });
      settled = subst (λ (v : Verdict). MayTell s.coffers s.seat v s.seat.told (NoSpace asked free)) (sym k.verdict) refl;
    }
